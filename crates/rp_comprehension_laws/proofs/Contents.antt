-- What the result of a comprehension holds.
use Rattle.std.proofs.Common.{◌≡◌, refl, sym, ap, subst, ◌∙◌, ℕ, Bool, true, false, List, [], ◌∷◌, ◌++◌, append_assoc}
use Rattle.std.proofs.Common.{append-nil, Some, Result, Ok, Err, if◌then◌else◌}
use Rattle.std.specs.Prelude.{nat_lt, ◌+◌}
use Rattle.std.specs.List.{list_any}
use Rattle.std.specs.Option.{option_map, option_map_or}
use Rattle.rp_base.specs.declared.value.Oid.{Oid}
use Rattle.rp_base.specs.declared.value.Raised.{Raised}
use Rattle.rp_base.specs.declared.value.Rock.{Rock}
use Rattle.rp_base.specs.declared.value.Rock.TheVariants as rock
use Rattle.rp_base.specs.declared.value.Value.{Value}
use Rattle.rp_base.specs.declared.value.Value.TheVariants as value
use Rattle.rp_items.specs.Items.{content_set, no_items, set_item, entry_put}
use Rattle.rp_ops.specs.Keys.{key_named}
use Rattle.rp_ops.specs.Outcome as plain
use Rattle.rp_ops.specs.Walk.{Cursor}
use Rattle.rp_ops.specs.Outcome.{ends, gives}
use Rattle.rp_store.specs.Cost.{cell_if_new}
use Rattle.rp_store.specs.Heap.{content_at, entry_of}
use Rattle.rp_store.specs.Object as object
use Rattle.rp_store.specs.Object.{Content, Entry}
use Rattle.rp_store.specs.Writers.{pushed, with_rock}
use Rattle.rp_store.proofs.CallerLemmas.{content_at-changed_at}
use Rattle.rp_meaning.specs.Expressions.{Clause, dict_with, nil}
use Rattle.rp_meaning.specs.Frame.{Frame, Meaning}
use Rattle.rp_meaning.specs.State.{State, done, heap_of, next, plainly, plainly_done, with_change}
use Rattle.rp_meaning.specs.Statements.{Store}
use Rattle.rp_more_laws.specs.Sets.{distinct_behind, equals}
use Rattle.rp_more_laws.proofs.Going.{Holds, bind, found_held, held_at, lifted_held, step_heap, step_held, then_held}
use Rattle.rp_more_laws.proofs.Keys.{AreKeys}
use Rattle.rp_more_laws.proofs.Filled.{AreKeyed, IsFilled, OnOk, filled, rocks_of}
use Rattle.rp_comprehension_laws.specs.Comprehensions.{put_key, put_last}
use Rattle.rp_comprehension_laws.specs.Elements.{Gives, GivesFrom, Keeps, KeepsFrom, at_end, element, left_out}
use Rattle.rp_comprehension_laws.specs.Elements.{selected, within}
use Rattle.rp_comprehension_laws.proofs.Targets.{Binds, IsNext}

-- ---- along a run

-- Of an object that holds an X: what it holds once values were added.
module _ (X : Type 0) (content : X → Content) (Added : X → List Value → X → Type 0) (at : Oid) where
  pub record IsHeld (x : X) (vs : List Value) (u : State) : Type 0 where
    pub after : X
    pub there : content_at (heap_of u) at ≡ Some (content after)
    pub added : Added x vs after

  module _ (m : Meaning) (put : Store) (frame : Frame) (none : (x : X) → Added x [] x)
      (both : (x y z : X) (vs ws : List Value) → Added x vs y → Added y ws z → Added x (vs ++ ws) z)
      (one : (x : X) (v : Value) (s u : State) → content_at (heap_of s) at ≡ Some (content x) → put v frame s ≡ done u
      → IsHeld x (v ∷ []) u) where
    mutual
      pub follows : {cs : List Clause} {s u : State} {vs : List Value} (g : Gives m put frame cs s vs u) → Keeps at g
          → (x : X)
          → content_at (heap_of s) at ≡ Some (content x) → IsHeld x vs u
      follows (element {t = t} {u = u} {v = v} e p) h x is = one x v t u (h ∙ is) p
      follows (within e g) h x is = follows_from g h.1 x (h.0 ∙ is)

      pub follows_from : {c : Clause} {cs : List Clause} {w : Cursor} {s u : State} {vs : List Value}
          (g : GivesFrom m put frame c cs w s vs u) → KeepsFrom at g → (x : X)
          → content_at (heap_of s) at ≡ Some (content x) → IsHeld x vs u
      follows_from (at_end e) h x is = record { after = x; there = h ∙ is; added = none x }
      follows_from (left_out e f g) h x is = follows_from g h.1 x (h.0 ∙ is)
      follows_from (selected {vs = vs} {vs' = ws} e f g k) h x is =
          let this = follows g h.1 x (h.0 ∙ is) in
          let rest = follows_from k h.2 this.after this.there in
          record {
            after = rest.after;
            there = rest.there;
            added = both x this.after rest.after vs ws this.added rest.added;
          }

-- ---- a list

charged_held : (cells : ℕ) (s : State)
    → Holds (plainly (λ p. plain.charged cells p (gives (tt {0}))) s) (λ _ u. heap_of u ≡ heap_of s)
charged_held cells s =
    lifted_held (plain.charged cells s.plain (gives (tt {0}))) s (λ _ u. heap_of u ≡ heap_of s)
    (by (nat_lt s.plain.store.limit (s.plain.store.used + cells))) where
      by : (b : Bool)
          → Holds (if b then ends plain.no_cell s.plain
          else gives (tt {0}) (plain.with_used s.plain (s.plain.store.used + cells)))
          (λ _ p. p.store.heap ≡ heap_of s)
      by true = tt
      by false = refl

pub put_last_binds : (at : Oid) → Binds (put_last at)
put_last_binds at v frame s =
    bind (plainly (λ p. plain.charged 1 p (gives (tt {0}))) s) (λ _ s. done (with_change at (pushed v) s)) IsNext
    (λ a s e. refl)

abbrev pub Listed : List Value → List Value → List Value → Type 0
Listed xs vs ys = ys ≡ xs ++ vs

abbrev pub IsListed : Oid → List Value → List Value → State → Type 0
IsListed at xs vs u = IsHeld (List Value) object.list Listed at xs vs u

last_held : (at : Oid) (v : Value) (frame : Frame) (xs : List Value) (s : State)
    → content_at (heap_of s) at ≡ Some (object.list xs)
    → Holds (put_last at v frame s) (λ _ u. IsListed at xs (v ∷ []) u)
last_held at v frame xs s is =
    then_held (plainly (λ p. plain.charged 1 p (gives (tt {0}))) s) (λ _ s. done (with_change at (pushed v) s))
    (λ _ u. heap_of u ≡ heap_of s) (λ _ u. IsListed at xs (v ∷ []) u) (charged_held 1 s) (λ _ u _ same. record {
      after = xs ++ v ∷ [];
      there = content_at-changed_at (heap_of u) at (pushed v)
          ∙ ap (option_map (pushed v)) (ap (λ heap. content_at heap at) same ∙ is);
      added = refl;
    })

pub last_one : (at : Oid) (frame : Frame) (xs : List Value) (v : Value) (s u : State)
    → content_at (heap_of s) at ≡ Some (object.list xs) → put_last at v frame s ≡ done u → IsListed at xs (v ∷ []) u
last_one at frame xs v s u is e =
    held_at (put_last at v frame s) (λ _ u. IsListed at xs (v ∷ []) u) next u (last_held at v frame xs s is) e

pub lists_two : (xs ys zs vs ws : List Value) → Listed xs vs ys → Listed ys ws zs → Listed xs (vs ++ ws) zs
lists_two xs ys zs vs ws e f = f ∙ ap (λ l. l ++ ws) e ∙ append_assoc xs vs ws

pub list_follows : (m : Meaning) (at : Oid) (frame : Frame) {c : Clause} {cs : List Clause} {w : Cursor} {s u : State}
    {vs : List Value}
    (g : GivesFrom m (put_last at) frame c cs w s vs u) → KeepsFrom at g
    → content_at (heap_of s) at ≡ Some (object.list []) → content_at (heap_of u) at ≡ Some (object.list vs)
list_follows m at frame g leaves is =
    let h = follows_from (List Value) object.list Listed at m (put_last at) frame (λ xs. sym (append-nil xs)) lists_two
    (last_one at frame) g leaves [] is in
    h.there ∙ ap (λ xs. Some (object.list xs)) h.added

-- ---- a set

-- what a dict made of one more key holds
abbrev after : Content → Result Rock Raised → Result Content Raised
after c (Ok r) = Ok (with_rock r nil c)
after c (Err e) = Err e

named : (v : Value) (r : Rock) (c : Content) → key_named v ≡ Ok r → dict_with c ((v, nil) ∷ []) ≡ Ok (with_rock r nil c)
named (value.Ref at) r c e = absurd cc
named (value.Prox at) r c e = absurd cc
named (value.Rock (rock.Exc k t)) r c e = absurd cc
named (value.Rock (rock.Kind k)) r c e = absurd cc
named (value.Rock (rock.Native f)) r c e = absurd cc
named (value.Rock rock.Nil) r c e = ap (after c) e
named (value.Rock (rock.Truth true)) r c e = ap (after c) e
named (value.Rock (rock.Truth false)) r c e = ap (after c) e
named (value.Rock (rock.Int n)) r c e = ap (after c) e
named (value.Rock (rock.Text t)) r c e = ap (after c) e

one_filled : (es : List Entry) (v : Value) (r : Rock) → AreKeyed es → key_named v ≡ Ok r
    → IsFilled es (v ∷ []) (with_rock r nil (object.dict es))
one_filled es v r h e =
    subst (λ c. OnOk c (IsFilled es (v ∷ []))) (named v r (object.dict es) e) (filled es (v ∷ []) h)

pub put_key_binds : (at : Oid) → Binds (put_key at)
put_key_binds at v frame s =
    step_held s (plainly_done (set_item (value.Ref at) v nil)) IsNext (λ u e.
    bind (plainly (set_item (value.Ref at) v nil) u) (λ _ s. done s) IsNext (λ a s e. refl))

abbrev pub Entries : Type 0
Entries = (es : List Entry) × AreKeyed es

abbrev pub dict_of : Entries → Content
dict_of es = object.dict es.0

abbrev pub Keyed : Entries → List Value → Entries → Type 0
Keyed es vs fs = (rocks_of fs.0 ≡ rocks_of es.0 ++ distinct_behind (rocks_of es.0) vs) × AreKeys vs

abbrev pub IsKeyed : Oid → Entries → List Value → State → Type 0
IsKeyed at es vs u = IsHeld Entries dict_of Keyed at es vs u

key_put : (at : Oid) (v : Value) (es : Entries) (r : Rock) (s u : State) → key_named v ≡ Ok r
    → content_at (heap_of s) at ≡ Some (dict_of es)
    → content_at (heap_of u) at ≡ option_map (with_rock r nil) (content_at (heap_of s) at) → IsKeyed at es (v ∷ []) u
key_put at v es r s u ok is changed =
    let f = one_filled es.0 v r es.1 ok in
    record {
      after = (f.entries, f.keyed);
      there = changed ∙ ap (option_map (with_rock r nil)) is ∙ ap Some f.is_dict;
      added = (f.rocks, f.keys);
    }

entry_held : (at : Oid) (v : Value) (es : Entries) (r : Rock) (s : State) → key_named v ≡ Ok r
    → content_at (heap_of s) at ≡ Some (dict_of es)
    → Holds (entry_put at r nil s.plain) (λ _ p. IsKeyed at es (v ∷ []) (record s { plain = p }))
entry_held at v es r s ok is = by (nat_lt s.plain.store.limit (s.plain.store.used + cells)) where
  cells : ℕ
  cells = cell_if_new (entry_of (heap_of s) at r)

  left : plain.State
  left = plain.with_change (plain.with_used s.plain (s.plain.store.used + cells)) at (with_rock r nil)

  by : (b : Bool)
      → Holds (if b then ends plain.no_cell s.plain else gives (tt {0}) left)
      (λ _ p. IsKeyed at es (v ∷ []) (record s { plain = p }))
  by true = tt
  by false = key_put at v es r s (record s { plain = left }) ok is
      (content_at-changed_at (heap_of s) at (with_rock r nil))

item_held : (at : Oid) (v : Value) (es : Entries) (s : State) → content_at (heap_of s) at ≡ Some (dict_of es)
    → Holds (set_item (value.Ref at) v nil s.plain) (λ _ p. IsKeyed at es (v ∷ []) (record s { plain = p }))
item_held at v es s is =
    subst
    (λ c. Holds (option_map_or (λ c. content_set at c v nil s.plain) c (no_items s.plain))
    (λ _ p. IsKeyed at es (v ∷ []) (record s { plain = p }))) (sym is)
    (found_held (key_named v) s.plain (λ r p. entry_put at r nil p)
    (λ _ p. IsKeyed at es (v ∷ []) (record s { plain = p })) (λ r ok. entry_held at v es r s ok is))

key_held : (at : Oid) (v : Value) (frame : Frame) (es : Entries) (s : State)
    → content_at (heap_of s) at ≡ Some (dict_of es)
    → Holds (put_key at v frame s) (λ _ u. IsKeyed at es (v ∷ []) u)
key_held at v frame es s is =
    step_held s (plainly_done (set_item (value.Ref at) v nil)) (λ _ u. IsKeyed at es (v ∷ []) u) (λ s1 e1.
    then_held (plainly (set_item (value.Ref at) v nil) s1) (λ _ s. done s) (λ _ u. IsKeyed at es (v ∷ []) u)
    (λ _ u. IsKeyed at es (v ∷ []) u)
    (lifted_held (set_item (value.Ref at) v nil s1.plain) s1 (λ _ u. IsKeyed at es (v ∷ []) u)
    (item_held at v es s1 (ap (λ heap. content_at heap at) (step_heap s s1 e1) ∙ is))) (λ _ u _ h. h))

-- ---- the keys of two runs

behind_both : (before vs ws : List Value)
    → before ++ distinct_behind before (vs ++ ws)
    ≡ (before ++ distinct_behind before vs) ++ distinct_behind (before ++ distinct_behind before vs) ws
behind_both before [] ws = ap (λ l. l ++ distinct_behind l ws) (sym (append-nil before))
behind_both before (v ∷ vs) ws =
    by (list_any (equals v) before) (behind_both before vs ws) (behind_both (before ++ v ∷ []) vs ws) where
      by : (b : Bool)
          → before ++ distinct_behind before (vs ++ ws)
          ≡ (before ++ distinct_behind before vs) ++ distinct_behind (before ++ distinct_behind before vs) ws
          → (before ++ v ∷ []) ++ distinct_behind (before ++ v ∷ []) (vs ++ ws)
          ≡ ((before ++ v ∷ []) ++ distinct_behind (before ++ v ∷ []) vs)
          ++ distinct_behind ((before ++ v ∷ []) ++ distinct_behind (before ++ v ∷ []) vs) ws
          → before
          ++ (if b then distinct_behind before (vs ++ ws) else v ∷ distinct_behind (before ++ v ∷ []) (vs ++ ws))
          ≡ (before ++ (if b then distinct_behind before vs else v ∷ distinct_behind (before ++ v ∷ []) vs))
          ++ distinct_behind
          (before ++ (if b then distinct_behind before vs else v ∷ distinct_behind (before ++ v ∷ []) vs)) ws
      by true same more = same
      by false same more =
          sym (append_assoc before (v ∷ []) (distinct_behind (before ++ v ∷ []) (vs ++ ws))) ∙ more
          ∙ ap (λ l. l ++ distinct_behind l ws) (append_assoc before (v ∷ []) (distinct_behind (before ++ v ∷ []) vs))

keys_both : (vs ws : List Value) → AreKeys vs → AreKeys ws → AreKeys (vs ++ ws)
keys_both [] ws h k = k
keys_both (v ∷ vs) ws h k = (h.0, keys_both vs ws h.1 k)

pub key_one : (at : Oid) (frame : Frame) (es : Entries) (v : Value) (s u : State)
    → content_at (heap_of s) at ≡ Some (dict_of es) → put_key at v frame s ≡ done u → IsKeyed at es (v ∷ []) u
key_one at frame es v s u is e =
    held_at (put_key at v frame s) (λ _ u. IsKeyed at es (v ∷ []) u) next u (key_held at v frame es s is) e

pub keys_two : (es fs gs : Entries) (vs ws : List Value) → Keyed es vs fs → Keyed fs ws gs → Keyed es (vs ++ ws) gs
keys_two es fs gs vs ws e f = (
  f.0 ∙ ap (λ l. l ++ distinct_behind l ws) e.0 ∙ sym (behind_both (rocks_of es.0) vs ws),
  keys_both vs ws e.1 f.1,
)

pub set_follows : (m : Meaning) (at : Oid) (frame : Frame) {c : Clause} {cs : List Clause} {w : Cursor} {s u : State}
    {vs : List Value}
    (g : GivesFrom m (put_key at) frame c cs w s vs u) → KeepsFrom at g
    → content_at (heap_of s) at ≡ Some (object.dict []) → IsKeyed at ([], tt) vs u
set_follows m at frame g leaves is =
    follows_from Entries dict_of Keyed at m (put_key at) frame (λ es. (sym (append-nil (rocks_of es.0)), tt)) keys_two
    (key_one at frame) g leaves ([], tt) is
