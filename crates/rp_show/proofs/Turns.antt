-- What each part of a shown value prints.
use Rattle.std.proofs.Common.{◌≡◌, ℕ, zero, suc, ◌-◌, Bool, true, false, ◌==◌, ◌||◌, List, [], ◌∷◌, ◌++◌, map, reverse, append-nil, Option, Some, None, Err, refl, sym, ap, ◌∙◌, subst, arith}
use Rattle.std.specs.Prelude.{codes}
use Rattle.std.specs.Option.{option_map_or}
use Rattle.std.proofs.lemmas.List.{reverse-append}
use Rattle.std.proofs.lemmas.List.Folds.{list_any-append}
use Rattle.std.proofs.Math.Bool.{or-false}
use Rattle.rp_base.specs.declared.value.Oid.{Oid}
use Rattle.rp_base.specs.declared.value.OpEnd.{OpEnd}
use Rattle.rp_base.specs.declared.value.OpEnd.TheVariants as end
use Rattle.rp_base.specs.declared.value.Rock.{Rock}
use Rattle.rp_base.specs.declared.value.Rock.TheVariants as rock
use Rattle.rp_base.specs.declared.value.Value.{Value}
use Rattle.rp_base.specs.declared.value.Value.TheVariants as value
use Rattle.rp_store.specs.Heap.{Owned, content_at}
use Rattle.rp_store.specs.Object as object
use Rattle.rp_store.specs.Object.{Content}
use Rattle.rp_ops.specs.Depth.{deepest}
use Rattle.rp_ops.specs.Outcome.{Meets, Outcome, Raises, State, ends, gives, raised, stepped}
use Rattle.rp_ops.specs.Refused.{raised_by}
use Rattle.rp_ops.specs.declared.refusal.Refusal.TheVariants as refusal
use Rattle.rp_show.specs.Show.{Showing, content_shown, element, enclosed, entry, followed, further, is_among, object_shown, printed, separated, show, shown}
use Rattle.rp_show.specs.Shown.{shown_inside}
use Rattle.rp_show.specs.ShowView.{Item, Room, added, closing, element_item, entry_item, gap, inner, is_container, item, item_of, items, key_text, moment, named_text, object_within, opening, rest, rock_shown, turn}
use Rattle.rp_show.proofs.Lines.{added-nil, on_ok, passes, stepped-none, stepped-taken}

-- ---- values

pub shown-rock : (names : List (List ℕ)) (left : ℕ) (outer : List Oid) (r : Rock) (s : State) → shown names left outer (value.Rock r) s ≡ printed (shown_inside r) s
shown-rock names zero outer r s = refl
shown-rock names (suc d) outer r s = refl

pub shown-ref : (names : List (List ℕ)) (left : ℕ) (outer : List Oid) (at : Oid) (s : State) → shown names left outer (value.Ref at) s ≡ object_shown names (inner names left) outer at s
shown-ref names zero outer at s = refl
shown-ref names (suc d) outer at s = refl

pub shown-prox : (names : List (List ℕ)) (left : ℕ) (outer : List Oid) (at : Oid) (s : State) → shown names left outer (value.Prox at) s ≡ object_shown names (inner names left) outer at s
shown-prox names zero outer at s = refl
shown-prox names (suc d) outer at s = refl

pub show-rock : (names : List (List ℕ)) (r : Rock) (s : State) → show names (value.Rock r) s ≡ rock_shown r s
show-rock names rock.Nil s = refl
show-rock names (rock.Truth b) s = refl
show-rock names (rock.Int n) s = refl
show-rock names (rock.Text x) s = refl
show-rock names (rock.Exc k x) s = refl
show-rock names (rock.Kind k) s = refl
show-rock names (rock.Native f) s = refl

pub show-ref : (names : List (List ℕ)) (at : Oid) (s : State) → show names (value.Ref at) s ≡ object_shown names (inner names deepest) [] at s
show-ref names at s = shown-ref names deepest [] at s

pub show-prox : (names : List (List ℕ)) (at : Oid) (s : State) → show names (value.Prox at) s ≡ object_shown names (inner names deepest) [] at s
show-prox names at s = shown-prox names deepest [] at s

-- ---- objects

or-swap : (a b : Bool) → (a || b) ≡ (b || a)
or-swap true true = refl
or-swap true false = refl
or-swap false true = refl
or-swap false false = refl

pub among-reverse : (xs : List Oid) (at : Oid) → is_among (reverse xs) at ≡ is_among xs at
among-reverse [] at = refl
among-reverse (x ∷ xs) at =
    ap (λ (l : List Oid). is_among l at) (reverse-append (x ∷ []) xs)
    ∙ list_any-append (λ (o : Oid). o.0 == at.0) (reverse xs) (x ∷ [])
    ∙ ap (λ (b : Bool). is_among (reverse xs) at || b) (or-false (x.0 == at.0))
    ∙ or-swap (is_among (reverse xs) at) (x.0 == at.0)
    ∙ ap (λ (b : Bool). (x.0 == at.0) || b) (among-reverse xs at)

-- what stands at the place, and nothing there
pub object-some : (names : List (List ℕ)) (left : ℕ) (outer : List Oid) (at : Oid) (c : Content) (s : State) → content_at s.store.heap at ≡ Some c
    → object_shown names (inner names left) outer at s ≡ object_within names left outer at c s
object-some names left outer at c s e = ap (λ (o : Option Content). option_map_or (λ c. object_within names left outer at c s) o (gives [] s)) e

pub object-none : (names : List (List ℕ)) (left : ℕ) (outer : List Oid) (at : Oid) (l : List ℕ) (s : State) → None ≡ content_at s.store.heap at
    → added l (object_shown names (inner names left) outer at s) ≡ gives l s
object-none names left outer at l s e =
    ap (λ (o : Option Content). added l (option_map_or (λ c. object_within names left outer at c s) o (gives [] s))) (sym e) ∙ ap (λ (x : List ℕ). gives x s) (append-nil l)

-- an object that is no container
pub content-named : (names : List (List ℕ)) (within : Option Showing) (c : Content) (s : State) → is_container c ≡ false
    → content_shown names within c s ≡ printed (named_text names s.store.heap c) s
content-named names within (object.list xs) s h = absurd (cc)
content-named names within (object.tuple xs) s h = absurd (cc)
content-named names within (object.dict es) s h = absurd (cc)
content-named names within (object.instance of fields) s h = refl
content-named names within (object.class name declared methods) s h = refl
content-named names within (object.function name unit block scope_of defaults) s h = refl
content-named names within (object.method receiver called) s h = refl
content-named names within (object.scope block parent slots) s h = refl

-- ---- containers

-- an element is shown as an item with no key
element-item : (show : Showing) (v : Value) → element show v ≡ item show (element_item v)
element-item show v = λ i s. stepped s (λ t. sym (added-nil (show v t)) i)

further-map : {A B : Type 0} (f : A → B) (one : A → State → Outcome (List ℕ)) (next : B → State → Outcome (List ℕ)) (same : (x : A) → one x ≡ next (f x)) (xs : List A)
    → further one xs ≡ further next (map f xs)
further-map f one next same [] = refl
further-map f one next same (x ∷ xs) = λ i s. followed (followed (printed (codes ", ") s) (same x i)) (further-map f one next same xs i)

separated-map : {A B : Type 0} (f : A → B) (one : A → State → Outcome (List ℕ)) (next : B → State → Outcome (List ℕ)) (same : (x : A) → one x ≡ next (f x)) (xs : List A)
    → separated one xs ≡ separated next (map f xs)
separated-map f one next same [] = refl
separated-map f one next same (x ∷ xs) = λ i s. followed (same x i s) (further-map f one next same xs i)

container-content : (names : List (List ℕ)) (show : Showing) (c : Content) → is_container c ≡ true
    → content_shown names (Some show) c ≡ enclosed (opening c) (closing c) (separated (item show) (items c))
container-content names show (object.list xs) h = ap (enclosed (codes "[") (codes "]")) (separated-map element_item (element show) (item show) (element-item show) xs)
container-content names show (object.tuple xs) h = ap (enclosed (codes "(") (closing (object.tuple xs))) (separated-map element_item (element show) (item show) (element-item show) xs)
container-content names show (object.dict es) h = ap (enclosed (codes "{") (codes "}")) (separated-map entry_item (entry show) (item show) (λ e. refl) es)
container-content names show (object.instance of fields) h = absurd (cc)
container-content names show (object.class name declared methods) h = absurd (cc)
container-content names show (object.function name unit block within defaults) h = absurd (cc)
container-content names show (object.method receiver called) h = absurd (cc)
container-content names show (object.scope block parent slots) h = absurd (cc)

-- the parts of a container, where a depth is left for its elements
pub container-parts : (names : List (List ℕ)) (left : ℕ) (new old : List Oid) (at : Oid) (c : Content) → is_container c ≡ true → (left ≡ 0 → ⊥) → new ≡ old ++ at ∷ []
    → content_shown names (inner names left (at ∷ reverse old)) c ≡ enclosed (opening c) (closing c) (separated (item_of names (left - 1) (reverse new)) (items c))
container-parts names zero new old at c h some e = absurd (some refl)
container-parts names (suc d) new old at c h some e =
    let one_less : suc d - 1 ≡ d = omega arith in
    container-content names (shown names d (at ∷ reverse old)) c h
    ∙ ap (λ (xs : List Oid). enclosed (opening c) (closing c) (separated (item_of names d xs) (items c))) (sym (ap reverse e ∙ reverse-append old (at ∷ [])))
    ∙ ap (λ (n : ℕ). enclosed (opening c) (closing c) (separated (item_of names n (reverse new)) (items c))) (sym one_less)

deep-content : (names : List (List ℕ)) (c : Content) (s : State) → is_container c ≡ true → content_shown names None c s ≡ ends (raised (raised_by refusal.Depth)) s
deep-content names (object.list xs) s h = refl
deep-content names (object.tuple xs) s h = refl
deep-content names (object.dict es) s h = refl
deep-content names (object.instance of fields) s h = absurd (cc)
deep-content names (object.class name declared methods) s h = absurd (cc)
deep-content names (object.function name unit block within defaults) s h = absurd (cc)
deep-content names (object.method receiver called) s h = absurd (cc)
deep-content names (object.scope block parent slots) s h = absurd (cc)

-- no depth is left for the elements: the end that was made for it
raises_depth : (e : OpEnd) (l : List ℕ) (s : State) (o : Outcome (List ℕ)) → o ≡ ends (raised (raised_by refusal.Depth)) s → Raises e (raised_by refusal.Depth)
    → Meets {A = List ℕ} (Err e) s (added l o)
raises_depth (end.Raised r) l s o h is = ap (added l) h ∙ ap (λ x. ends (raised x) s) (sym is)
raises_depth end.StopSteps l s o h is = absurd is
raises_depth end.StopCells l s o h is = absurd is
raises_depth end.Memory l s o h is = tt

pub container-deep : (e : OpEnd) (names : List (List ℕ)) (left : ℕ) (outer : List Oid) (c : Content) (l : List ℕ) (s : State) → is_container c ≡ true → left ≡ 0
    → Raises e (raised_by refusal.Depth) → Meets {A = List ℕ} (Err e) s (added l (content_shown names (inner names left outer) c s))
container-deep e names left outer c l s container none is =
    raises_depth e l s (content_shown names (inner names left outer) c s) (ap (λ (n : ℕ). content_shown names (inner names n outer) c s) none ∙ deep-content names c s container) is

-- ---- items

-- an item whose separator, step and key are done
turn-gap : (one : Item → State → Outcome (List ℕ)) (first : Bool) (x : Item) (s : State) → turn one first x s ≡ followed (printed (gap first) s) (one x)
turn-gap one true x s = sym (added-nil (one x s))
turn-gap one false x s = refl

module _ (heap : List Owned) (show : Showing) (first : Bool) (n : ℕ) (x : Item) (l k : List ℕ) (a b : Room) where
  -- no cell for its separator
  pub turn-gap_stops : (e : OpEnd) → Meets {A = List ℕ} (Err e) (moment heap b n) (added l (printed (gap first) (moment heap a n)))
      → Meets {A = List ℕ} (Err e) (moment heap b n) (added l (turn (item show) first x (moment heap a n)))
  turn-gap_stops e h =
      subst (λ (o : Outcome (List ℕ)). Meets {A = List ℕ} (Err e) (moment heap b n) (added l o)) (sym (turn-gap (item show) first x (moment heap a n)))
      (passes e l (moment heap b n) (printed (gap first) (moment heap a n)) (item show x) h)

  -- its separator is printed
  turn-step : added l (printed (gap first) (moment heap a n)) ≡ gives k (moment heap b n) → added l (turn (item show) first x (moment heap a n)) ≡ added k (item show x (moment heap b n))
  turn-step done = ap (added l) (turn-gap (item show) first x (moment heap a n)) ∙ on_ok l k (moment heap b n) (printed (gap first) (moment heap a n)) (item show x) done

  -- no step
  pub turn-step_stops : (e : OpEnd) → added l (printed (gap first) (moment heap a n)) ≡ gives k (moment heap b n) → e ≡ end.StopSteps → n ≡ 0
      → Meets {A = List ℕ} (Err e) (moment heap b n) (added l (turn (item show) first x (moment heap a n)))
  turn-step_stops e done is none =
      subst (λ (f : OpEnd). Meets {A = List ℕ} (Err f) (moment heap b n) (added l (turn (item show) first x (moment heap a n)))) (sym is)
      (turn-step done ∙ ap (added k) (stepped-none (moment heap b n) (λ s. followed (printed (key_text x.key) s) (show x.value)) none))

  -- its step is taken
  turn-key : (m : ℕ) → added l (printed (gap first) (moment heap a n)) ≡ gives k (moment heap b n) → n ≡ suc m
      → added l (turn (item show) first x (moment heap a n)) ≡ added k (followed (printed (key_text x.key) (moment heap b m)) (show x.value))
  turn-key m done taken = turn-step done ∙ ap (added k) (stepped-taken (moment heap b n) m (λ s. followed (printed (key_text x.key) s) (show x.value)) taken)

  -- no cell for its key
  pub turn-key_stops : (e : OpEnd) (m : ℕ) (c : Room) → added l (printed (gap first) (moment heap a n)) ≡ gives k (moment heap b n) → n ≡ suc m
      → Meets {A = List ℕ} (Err e) (moment heap c m) (added k (printed (key_text x.key) (moment heap b m))) → Meets {A = List ℕ} (Err e) (moment heap c m) (added l (turn (item show) first x (moment heap a n)))
  turn-key_stops e m c done taken h =
      subst (λ (o : Outcome (List ℕ)). Meets {A = List ℕ} (Err e) (moment heap c m) o) (sym (turn-key m done taken))
      (passes e k (moment heap c m) (printed (key_text x.key) (moment heap b m)) (show x.value) h)

  -- its key is printed
  pub turn-on : (m : ℕ) (j : List ℕ) (c : Room) → added l (printed (gap first) (moment heap a n)) ≡ gives k (moment heap b n) → n ≡ suc m
      → added k (printed (key_text x.key) (moment heap b m)) ≡ gives j (moment heap c m) → added l (turn (item show) first x (moment heap a n)) ≡ added j (show x.value (moment heap c m))
  turn-on m j c done taken key = turn-key m done taken ∙ on_ok k j (moment heap c m) (printed (key_text x.key) (moment heap b m)) (show x.value) key

-- an item, and those behind it
rest-turn : (one : Item → State → Outcome (List ℕ)) (first : Bool) (x : Item) (xs : List Item) (s : State) → rest one first (x ∷ xs) s ≡ followed (turn one first x s) (rest one false xs)
rest-turn one true x xs s = refl
rest-turn one false x xs s = refl

-- the first item of what is left is printed, and those behind it are left
pub rest-on : (one : Item → State → Outcome (List ℕ)) (first : Bool) (x : Item) (left xs : List Item) (l k : List ℕ) (s t : State) → left ≡ x ∷ xs
    → added l (turn one first x s) ≡ gives k t → added l (rest one first left s) ≡ added k (rest one false xs t)
rest-on one first x left xs l k s t e h =
    ap (λ (ys : List Item). added l (rest one first ys s)) e ∙ ap (added l) (rest-turn one first x xs s) ∙ on_ok l k t (turn one first x s) (rest one false xs) h

pub rest-stops : (e : OpEnd) (one : Item → State → Outcome (List ℕ)) (first : Bool) (x : Item) (left xs : List Item) (l : List ℕ) (s t : State) → left ≡ x ∷ xs
    → Meets {A = List ℕ} (Err e) t (added l (turn one first x s)) → Meets {A = List ℕ} (Err e) t (added l (rest one first left s))
rest-stops e one first x left xs l s t is h =
    subst (λ (o : Outcome (List ℕ)). Meets {A = List ℕ} (Err e) t (added l o))
    (sym (ap (λ (ys : List Item). rest one first ys s) is ∙ rest-turn one first x xs s))
    (passes e l t (turn one first x s) (rest one false xs) h)

rest-nil : (one : Item → State → Outcome (List ℕ)) (first : Bool) (s : State) → rest one first [] s ≡ gives [] s
rest-nil one true s = refl
rest-nil one false s = refl

-- all items are printed
pub rest-end : (one : Item → State → Outcome (List ℕ)) (first : Bool) (left : List Item) (l : List ℕ) (s : State) → left ≡ [] → added l (rest one first left s) ≡ gives l s
rest-end one first left l s e =
    ap (λ (ys : List Item). added l (rest one first ys s)) e ∙ ap (added l) (rest-nil one first s) ∙ ap (λ (x : List ℕ). gives x s) (append-nil l)
