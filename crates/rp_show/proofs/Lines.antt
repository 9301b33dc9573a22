-- What is written in parts, and how far the cells reach.
use Rattle.std.proofs.Common.{◌≡◌, ℕ, suc, ◌+◌, ◌≤◌, ◌<◌, Bool, true, false, nat_lt, List, [], ◌∷◌, ◌++◌, length, drop, get_or, append_assoc, append-nil, length-append, encode_utf8_all, Result, Ok, Err, IsErrAnd, if◌then◌else◌, refl, sym, ap, ◌∙◌, subst, arith}
use Rattle.std.specs.Prelude.{encode_utf8}
use Rattle.std.proofs.lemmas.Bool.{le-ltb, lt-ltb}
use Rattle.std.proofs.lemmas.Str.{encodes-append}
use Rattle.rp_base.specs.declared.value.OpEnd.{OpEnd}
use Rattle.rp_base.specs.declared.value.OpEnd.TheVariants as end
use Rattle.rp_store.specs.Heap.{Owned}
use Rattle.rp_store.specs.Store.{Cells, IsOver}
use Rattle.rp_ops.specs.Outcome.{End, Meets, State, Outcome, ends, gives, no_cell, no_step, on_answer, on_value, state_of, stepped, with_used}
use Rattle.rp_show.specs.Show.{enclosed, followed, printed}
use Rattle.rp_show.specs.ShowView.{Writes, added, moment}
use Rattle.rp_show.specs.Prints.{Prints}
use Rattle.rp_show.specs.declared.printer.Printer.{Printer}
use Rattle.rp_ops.proofs.CallerLemmas.{meets-passes, used}
use Rattle.rp_base.proofs.CallerLemmas.{drop_here}

pub added-nil : (o : Outcome (List ℕ)) → added [] o ≡ o
added-nil o = by o.answer o.state
  where
    by : (r : Result (List ℕ) End) (s : State) → on_answer r s (λ t s. gives t s) ≡ record { answer = r; state = s }
    by (Ok t) s = refl
    by (Err e) s = refl

pub alone : (l : List ℕ) (o : Outcome (List ℕ)) → l ≡ [] → added l o ≡ o
alone l o e = ap (λ (x : List ℕ). added x o) e ∙ added-nil o

pub added-added : (l t : List ℕ) (o : Outcome (List ℕ)) → added l (added t o) ≡ added (l ++ t) o
added-added l t o = by o.answer o.state
  where
    by : (r : Result (List ℕ) End) (s : State) → added l (on_answer r s (λ u s. gives (t ++ u) s)) ≡ on_answer r s (λ u s. gives ((l ++ t) ++ u) s)
    by (Ok u) s = ap (λ (x : List ℕ). gives x s) (sym (append_assoc l t u))
    by (Err e) s = refl

pub added-followed : (l : List ℕ) (o : Outcome (List ℕ)) (next : State → Outcome (List ℕ)) → added l (followed o next) ≡ followed (added l o) next
added-followed l o next = by o.answer o.state
  where
    by : (r : Result (List ℕ) End) (s : State)
        → added l (on_answer r s (λ t s. added t (next s))) ≡ followed (on_answer r s (λ t s. gives (l ++ t) s)) next
    by (Ok t) s = added-added l t (next s)
    by (Err e) s = refl

-- ---- goes on where the first part is written

pub on_ok : (l m : List ℕ) (s : State) (o : Outcome (List ℕ)) (next : State → Outcome (List ℕ)) → added l o ≡ gives m s → added l (followed o next) ≡ added m (next s)
on_ok l m s o next h = added-followed l o next ∙ ap (λ (x : Outcome (List ℕ)). followed x next) h

-- ---- every other end passes through

pub passes_on : (e : OpEnd) (s : State) (o : Outcome (List ℕ)) (go : List ℕ → State → Outcome (List ℕ)) → Meets {A = List ℕ} (Err e) s o → Meets {A = List ℕ} (Err e) s (on_value o go)
passes_on e s o go h = meets-passes {A = List ℕ} {B = List ℕ} e s o go h

pub passes : (e : OpEnd) (l : List ℕ) (s : State) (o : Outcome (List ℕ)) (next : State → Outcome (List ℕ)) → Meets {A = List ℕ} (Err e) s (added l o) → Meets {A = List ℕ} (Err e) s (added l (followed o next))
passes e l s o next h = subst (λ (x : Outcome (List ℕ)). Meets {A = List ℕ} (Err e) s x) (sym (added-followed l o next)) (passes_on e s (added l o) (λ t s. added t (next s)) h)

-- the end of a call is handed on
pub stops : (r : Result (Unit {0}) OpEnd) (e : OpEnd) (m : List ℕ) (s : State) (o : Outcome (List ℕ)) → IsErrAnd r (λ f. f ≡ e) → Meets {A = List ℕ} (Err e) s o → Writes r m s o
stops (Ok u) e m s o h k = absurd h
stops (Err f) e m s o h k = subst (λ (g : OpEnd). Meets {A = List ℕ} (Err g) s o) (sym h) k

-- ---- the cells of characters

pub printed-append : (a b : List ℕ) (s : State) → printed (a ++ b) s ≡ followed (printed a s) (printed b)
printed-append [] b s = sym (added-nil (printed b s))
printed-append (c ∷ cs) b s = by (nat_lt s.store.limit (s.store.used + length (encode_utf8_all (c ∷ [])))) (printed-append cs b next)
  where
    next : State
    next = with_used s (s.store.used + length (encode_utf8_all (c ∷ [])))

    by : (over : Bool) → printed (cs ++ b) next ≡ followed (printed cs next) (printed b)
        → (if over then ends no_cell s else added (c ∷ []) (printed (cs ++ b) next)) ≡ followed (if over then ends no_cell s else added (c ∷ []) (printed cs next)) (printed b)
    by true e = refl
    by false e = ap (added (c ∷ [])) e ∙ added-followed (c ∷ []) (printed cs next) (printed b)

-- a text printed in two parts
pub goes_on : (l m a b : List ℕ) (t s : State) → added l (printed a s) ≡ gives m t → added l (printed (a ++ b) s) ≡ added m (printed b t)
goes_on l m a b t s h = ap (added l) (printed-append a b s) ∙ on_ok l m t (printed a s) (printed b) h

pub passes_both : (e : OpEnd) (l a b : List ℕ) (t s : State) → Meets {A = List ℕ} (Err e) t (added l (printed a s)) → Meets {A = List ℕ} (Err e) t (added l (printed (a ++ b) s))
passes_both e l a b t s h =
    subst (λ (o : Outcome (List ℕ)). Meets {A = List ℕ} (Err e) t (added l o)) (sym (printed-append a b s)) (passes e l t (printed a s) (printed b) h)

-- a text printed in three parts
pub three-on : (l k m a w b : List ℕ) (s t u : State) → added l (printed a s) ≡ gives k t → added k (printed w t) ≡ gives m u → added l (printed (a ++ w ++ b) s) ≡ added m (printed b u)
three-on l k m a w b s t u h g = goes_on l m (a ++ w) b u s (goes_on l k a w t s h ∙ g)

pub three-first : (e : OpEnd) (l a w b : List ℕ) (t s : State) → Meets {A = List ℕ} (Err e) t (added l (printed a s)) → Meets {A = List ℕ} (Err e) t (added l (printed (a ++ w ++ b) s))
three-first e l a w b t s h = passes_both e l (a ++ w) b t s (passes_both e l a w t s h)

pub three-second : (e : OpEnd) (l k a w b : List ℕ) (s t u : State) → added l (printed a s) ≡ gives k t → Meets {A = List ℕ} (Err e) u (added k (printed w t))
    → Meets {A = List ℕ} (Err e) u (added l (printed (a ++ w ++ b) s))
three-second e l k a w b s t u h g =
    passes_both e l (a ++ w) b u s (subst (λ (o : Outcome (List ℕ)). Meets {A = List ℕ} (Err e) u o) (sym (goes_on l k a w t s h)) g)

-- what is enclosed, in three parts
pub enclosed-on : (l k m a b : List ℕ) (p : State → Outcome (List ℕ)) (s t u : State) → added l (printed a s) ≡ gives k t → added k (p t) ≡ gives m u
    → added l (enclosed a b p s) ≡ added m (printed b u)
enclosed-on l k m a b p s t u h g = on_ok l m u (followed (printed a s) p) (printed b) (on_ok l k t (printed a s) p h ∙ g)

pub enclosed-first : (e : OpEnd) (l a b : List ℕ) (p : State → Outcome (List ℕ)) (t s : State) → Meets {A = List ℕ} (Err e) t (added l (printed a s))
    → Meets {A = List ℕ} (Err e) t (added l (enclosed a b p s))
enclosed-first e l a b p t s h = passes e l t (followed (printed a s) p) (printed b) (passes e l t (printed a s) p h)

pub enclosed-second : (e : OpEnd) (l k a b : List ℕ) (p : State → Outcome (List ℕ)) (s t u : State) → added l (printed a s) ≡ gives k t → Meets {A = List ℕ} (Err e) u (added k (p t))
    → Meets {A = List ℕ} (Err e) u (added l (enclosed a b p s))
enclosed-second e l k a b p s t u h g =
    passes e l u (followed (printed a s) p) (printed b) (subst (λ (o : Outcome (List ℕ)). Meets {A = List ℕ} (Err e) u o) (sym (on_ok l k t (printed a s) p h)) g)

-- the end of a call whose value is a text
pub text_stops : (r : Result (List ℕ) OpEnd) (e : OpEnd) (s : State) (o : Outcome (List ℕ)) → IsErrAnd r (λ f. f ≡ e) → Meets {A = List ℕ} (Err e) s o → Meets r s o
text_stops (Ok t) e s o h k = absurd h
text_stops (Err f) e s o h k = subst (λ (g : OpEnd). Meets {A = List ℕ} (Err g) s o) (sym h) k

-- one character, where its bytes fit and where they do not
pub printed-one : (c : ℕ) (cs : List ℕ) (s : State) → s.store.used + length (encode_utf8_all (c ∷ [])) ≤ s.store.limit
    → printed (c ∷ cs) s ≡ added (c ∷ []) (printed cs (with_used s (s.store.used + length (encode_utf8_all (c ∷ [])))))
printed-one c cs s h = rw (le-ltb s.store.limit (s.store.used + length (encode_utf8_all (c ∷ []))) h) refl

pub printed-over : (c : ℕ) (cs : List ℕ) (s : State) → IsOver s.store (length (encode_utf8_all (c ∷ []))) → printed (c ∷ cs) s ≡ ends no_cell s
printed-over c cs s h = rw (lt-ltb s.store.limit (s.store.used + length (encode_utf8_all (c ∷ []))) h) refl

pub length-cons : (c : ℕ) (cs : List ℕ) → length (encode_utf8_all (c ∷ cs)) ≡ length (encode_utf8_all (c ∷ [])) + length (encode_utf8_all cs)
length-cons c cs = ap length (encodes-append (c ∷ []) cs) ∙ length-append (encode_utf8_all (c ∷ [])) (encode_utf8_all cs)

-- all characters, where the bytes of all fit
pub printed-within : (t : List ℕ) (s : State) (used : ℕ) → s.store.used + length (encode_utf8_all t) ≡ used → used ≤ s.store.limit → printed t s ≡ gives t (with_used s used)
printed-within [] s used e h = let same : s.store.used ≡ used = omega (arith, e) in ap (λ (n : ℕ). gives [] (with_used s n)) same
printed-within (c ∷ cs) s used e h =
    let one = length (encode_utf8_all (c ∷ [])) in
    let sum = length-cons c cs in
    printed-one c cs s (omega (arith, sum, e, h))
    ∙ ap (added (c ∷ [])) (printed-within cs (with_used s (s.store.used + one)) used (omega (arith, sum, e)) h)

-- the bytes of a character
bytes_of_one : (c : ℕ) → length (encode_utf8 c) ≡ length (encode_utf8_all (c ∷ []))
bytes_of_one c = ap length (sym (append-nil (encode_utf8 c)))

-- a text whose bytes are charged at once
pub printed-fits : (t : List ℕ) (old new : Cells) (steps cells : ℕ) → cells ≡ length (encode_utf8_all t) → old.used + cells ≤ old.limit → new ≡ used old cells
    → printed t (state_of old steps) ≡ gives t (state_of new steps)
printed-fits t old new steps cells e h same =
    printed-within t (state_of old steps) (old.used + cells) (ap (λ (n : ℕ). old.used + n) (sym e)) h ∙ ap (λ (x : Cells). gives t (state_of x steps)) (sym same)

-- the character at a place is charged
pub printed-turn : (cs : List ℕ) (n c cells steps : ℕ) (old new : Cells) → n < length cs → c ≡ get_or cs n c → cells ≡ length (encode_utf8 c) → old.used + cells ≤ old.limit
    → new ≡ used old cells → printed (drop n cs) (state_of old steps) ≡ added (c ∷ []) (printed (drop (n + 1) cs) (state_of new steps))
printed-turn cs n c cells steps old new lt e size h same =
    let bytes : cells ≡ length (encode_utf8_all (c ∷ [])) = size ∙ bytes_of_one c in
    ap (λ (l : List ℕ). printed l (state_of old steps)) (drop_here cs n c lt e)
    ∙ printed-one c (drop (n + 1) cs) (state_of old steps) (subst (λ (k : ℕ). old.used + k ≤ old.limit) bytes h)
    ∙ ap (λ (k : ℕ). added (c ∷ []) (printed (drop (n + 1) cs) (state_of (used old k) steps))) (sym bytes)
    ∙ ap (λ (x : Cells). added (c ∷ []) (printed (drop (n + 1) cs) (state_of x steps))) (sym same)

pub printed-turn-over : (cs : List ℕ) (n c cells steps : ℕ) (old new : Cells) → n < length cs → c ≡ get_or cs n c → cells ≡ length (encode_utf8 c) → IsOver old cells
    → new ≡ old → printed (drop n cs) (state_of old steps) ≡ ends no_cell (state_of new steps)
printed-turn-over cs n c cells steps old new lt e size h same =
    ap (λ (l : List ℕ). printed l (state_of old steps)) (drop_here cs n c lt e)
    ∙ printed-over c (drop (n + 1) cs) (state_of old steps) (subst (λ (k : ℕ). IsOver old k) (size ∙ bytes_of_one c) h)
    ∙ ap (λ (x : Cells). ends no_cell (state_of x steps)) (sym same)

-- no cell is left
pub no_cell_meets : (f : OpEnd) (s : State) (o : Outcome (List ℕ)) → f ≡ end.StopCells → o ≡ ends no_cell s → Meets {A = List ℕ} (Err f) s o
no_cell_meets f s o e h = subst (λ (g : OpEnd). Meets {A = List ℕ} (Err g) s o) (sym e) h

-- what is charged is written behind the line
pub Writes-added : (r : Result (Unit {0}) OpEnd) (t l m : List ℕ) (s : State) (o : Outcome (List ℕ)) → m ≡ l ++ t → Writes r t s o → Writes r m s (added l o)
Writes-added (Ok u) t l m s o e h = ap (added l) h ∙ ap (λ (x : List ℕ). gives x s) (sym e)
Writes-added (Err f) t l m s o e h = passes_on f s o (λ t s. gives (l ++ t) s) h

pub length-encodes : (xs ys : List ℕ) → length (encode_utf8_all (xs ++ ys)) ≡ length (encode_utf8_all xs) + length (encode_utf8_all ys)
length-encodes xs ys = ap length (encodes-append xs ys) ∙ length-append (encode_utf8_all xs) (encode_utf8_all ys)

-- ---- steps

pub stepped-taken : {A : Type 0} (s : State) (n : ℕ) (go : State → Outcome A) → s.steps ≡ suc n → stepped s go ≡ go (record s { steps = n })
stepped-taken s n go e = rw e refl

pub stepped-none : {A : Type 0} (s : State) (go : State → Outcome A) → s.steps ≡ 0 → stepped s go ≡ ends no_step s
stepped-none s go e = rw e refl

-- the same, written otherwise
pub Prints-as : (r : Result (Unit {0}) OpEnd) (new old : Printer) (heap : List Owned) (n m : ℕ) (f g : State → Outcome (List ℕ))
    → g (moment heap old.purse m) ≡ f (moment heap old.purse m) → Prints r new old heap n m f → Prints r new old heap n m g
Prints-as r new old heap n m f g e h = subst (λ (o : Outcome (List ℕ)). Writes r new.line (moment heap new.purse n) (added old.line o)) (sym e) h

pub gap-none : (l : List ℕ) (s : State) → added l (printed [] s) ≡ gives l s
gap-none l s = ap (λ (x : List ℕ). gives x s) (append-nil l)
