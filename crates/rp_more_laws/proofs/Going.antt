-- What holds where something gives a value, by what holds of its parts.
use Rattle.std.proofs.Common.{◌≡◌, refl, sym, ap, subst, ◌∙◌, ℕ, zero, suc, Bool, true, false, List, [], ◌∷◌, ◌++◌}
use Rattle.std.proofs.Common.{length, slice_get, Option, Some, None, Result, Ok, Err, if◌then◌else◌}
use Rattle.std.specs.Prelude.{nat_lt, ◌+◌}
use Rattle.std.specs.Option.{option_map}
use Rattle.rp_base.specs.Names.{word_of}
use Rattle.rp_base.specs.declared.value.Name.{Name}
use Rattle.rp_base.specs.declared.value.Oid.{Oid}
use Rattle.rp_base.specs.declared.value.Raised.{Raised}
use Rattle.rp_base.specs.declared.value.Side.{Side}
use Rattle.rp_base.specs.declared.value.Value.TheVariants as value
use Rattle.rp_checker.specs.RowOf.{reading}
use Rattle.rp_ops.specs.Outcome as plain
use Rattle.rp_ops.specs.Outcome.{End, Ending, gives, ends, on_answer, on_value, on_found}
use Rattle.rp_proxy.specs.Decide.{Decision, Monitor}
use Rattle.rp_store.specs.Cost.{cost}
use Rattle.rp_store.specs.Heap.{Owned, content_at}
use Rattle.rp_store.specs.Object.{Content}
use Rattle.rp_store.specs.Store.{made}
use Rattle.rp_store.proofs.CallerLemmas.{content_at-last}
use Rattle.rp_meaning.specs.State.{State, Outcome, choose, heap_of, lifted, makes, monitor_of, plainly, stepped}
use Rattle.rp_meaning.specs.State.{with_monitor}
use Rattle.rp_meaning.specs.Frame.{Frame, asked_for, asked_if, decided, on_decision}
use Rattle.rp_more_laws.specs.Deciding.{DecidesProxiesAlone}

-- of a value, and the state that is left; nothing where there is no value

abbrev pub HoldsOf : {S A : Type 0} → Result A End → S → (A → S → Type 0) → Type 0
HoldsOf (Ok a) s P = P a s
HoldsOf (Err e) s P = Unit {0}

abbrev pub Holds : {S A : Type 0} → Ending S A → (A → S → Type 0) → Type 0
Holds o P = HoldsOf o.answer o.state P

-- where it gives that value
pub held_at : {S A : Type 0} (o : Ending S A) (P : A → S → Type 0) (a : A) (s : S) → Holds o P → o ≡ gives a s → P a s
held_at {S} {A} o P a s h e = subst (λ (o : Ending S A). Holds o P) e h

-- something is done, and then more
pub then_held : {S A B : Type 0} (o : Ending S A) (go : A → S → Ending S B) (Q : A → S → Type 0) (P : B → S → Type 0)
    → Holds o Q
    → ((a : A) (s : S) → o ≡ gives a s → Q a s → Holds (go a s) P) → Holds (on_value o go) P
then_held {S} {A} {B} o go Q P h more = by o.answer refl h where
  by : (r : Result A End) → o.answer ≡ r → HoldsOf r o.state Q → Holds (on_answer r o.state go) P
  by (Ok a) e h = more a o.state (λ i. record { answer = e i; state = o.state }) h
  by (Err x) e h = tt

abbrev Anything : {S A : Type 0} → A → S → Type 0
Anything a s = Unit {0}

always : {S A : Type 0} (o : Ending S A) → Holds o Anything
always {S} {A} o = by o.answer where
  by : (r : Result A End) → HoldsOf r o.state Anything
  by (Ok a) = tt
  by (Err x) = tt

pub bind : {S A B : Type 0} (o : Ending S A) (go : A → S → Ending S B) (P : B → S → Type 0)
    → ((a : A) (s : S) → o ≡ gives a s → Holds (go a s) P)
    → Holds (on_value o go) P
bind o go P more = then_held o go Anything P (always o) (λ a s e _. more a s e)

pub weaker : {S A : Type 0} (o : Ending S A) (Q P : A → S → Type 0) → ((a : A) (s : S) → Q a s → P a s) → Holds o Q
    → Holds o P
weaker {S} {A} o Q P more h = by o.answer h where
  by : (r : Result A End) → HoldsOf r o.state Q → HoldsOf r o.state P
  by (Ok a) h = more a o.state h
  by (Err e) h = tt

-- what is known by going on
pub goes : {S A B : Type 0} {o : Ending S A} {a : A} {s : S} {r : Ending S B} (go : A → S → Ending S B) → o ≡ gives a s
    → go a s ≡ r → on_value o go ≡ r
goes {S} {A} go first rest = ap (λ (o : Ending S A). on_value o go) first ∙ rest

pub found_held : {S A B : Type 0} (r : Result A Raised) (s : S) (go : A → S → Ending S B) (P : B → S → Type 0)
    → ((a : A) → r ≡ Ok a → Holds (go a s) P)
    → Holds (on_found r s go) P
found_held {S} {A} (Ok a) s go P more = more a refl
found_held (Err e) s go P more = tt

pub choose_held : {A : Type 0} (b : Bool) (this other : State → Outcome A) (s : State) (P : A → State → Type 0)
    → Holds (this s) P → Holds (other s) P → Holds (choose b this other s) P
choose_held true this other s P h k = h
choose_held false this other s P h k = k

-- steps

abbrev pub step : State → Outcome (Unit {0})
step s = plainly (λ p. plain.stepped p (gives (tt {0}))) s

pub step_then : {A B : Type 0} (s : State) (go : State → Outcome A) (more : A → State → Outcome B)
    (P : B → State → Type 0)
    → ((u : State) → step s ≡ gives (tt {0}) u → Holds (on_value (go u) more) P)
    → Holds (on_value (stepped s go) more) P
step_then s go more P h = by (step s).answer refl where
  by : (r : Result (Unit {0}) End) → (step s).answer ≡ r
      → Holds (on_value (on_answer r (step s).state (λ _ s. go s)) more) P
  by (Ok a) e = h (step s).state (λ i. record { answer = e i; state = (step s).state })
  by (Err x) e = tt

pub step_held : {A : Type 0} (s : State) (go : State → Outcome A) (P : A → State → Type 0)
    → ((u : State) → step s ≡ gives (tt {0}) u → Holds (go u) P) → Holds (stepped s go) P
step_held s go P h = bind (step s) (λ _ s. go s) P (λ a u e. h u e)

step_by : (n : ℕ) (s : State) → ((step (record s { plain = record s.plain { steps = n } })).state.names ≡ s.names)
    × (heap_of (step (record s { plain = record s.plain { steps = n } })).state ≡ heap_of s)
step_by zero s = (refl, refl)
step_by (suc n) s = (refl, refl)

pub step_names : (s u : State) → step s ≡ gives (tt {0}) u → u.names ≡ s.names
step_names s u e = sym (ap (λ (o : Outcome (Unit {0})). o.state.names) e) ∙ (step_by s.plain.steps s).0

pub step_heap : (s u : State) → step s ≡ gives (tt {0}) u → heap_of u ≡ heap_of s
step_heap s u e = sym (ap (λ (o : Outcome (Unit {0})). heap_of o.state) e) ∙ (step_by s.plain.steps s).1

-- plain operations

pub lifted_held : {A : Type 0} (o : plain.Outcome A) (s : State) (P : A → State → Type 0)
    → Holds o (λ a p. P a (record s { plain = p })) → Holds (lifted o s) P
lifted_held {A} o s P h = by o.answer h where
  by : (r : Result A End) → HoldsOf r o.state (λ a p. P a (record s { plain = p }))
      → HoldsOf r (record s { plain = o.state }) P
  by (Ok a) h = h
  by (Err e) h = tt

-- what an object that was made leaves: it stands last, and those before it stay
pub record IsMade (side : Side) (content : Content) (s : State) (at : Oid) (u : State) : Type 0 where
  pub there : content_at (heap_of u) at ≡ Some content
  pub stay : (other : Oid) (c : Content) → content_at (heap_of s) other ≡ Some c → content_at (heap_of u) other ≡ Some c
  pub heap : heap_of u ≡ heap_of s ++ record { owner = side; content = content } ∷ []
  pub place : at.0 ≡ length (heap_of s)
  pub names : u.names ≡ s.names

get_before : (heap : List Owned) (o : Owned) (i : ℕ) (c : Content)
    → option_map (λ (o : Owned). o.content) (slice_get heap i) ≡ Some c
    → option_map (λ (o : Owned). o.content) (slice_get (heap ++ o ∷ []) i) ≡ Some c
get_before [] o i c h = absurd (cc)
get_before (p ∷ ps) o zero c h = h
get_before (p ∷ ps) o (suc i) c h = get_before ps o i c h

abbrev place_behind : State → Oid
place_behind s = record { 0 = length (heap_of s) }

abbrev makes_if : Bool → Side → Content → State → plain.Outcome Oid
makes_if b side content s =
    if b then ends plain.no_cell s.plain else gives (place_behind s)
    (record s.plain { store = made s.plain.store side content })

make_by : (b : Bool) (side : Side) (content : Content) (s : State)
    → Holds (makes_if b side content s) (λ at p. IsMade side content s at (record s { plain = p }))
make_by true side content s = tt
make_by false side content s = record {
  there = content_at-last (heap_of s) (record { owner = side; content = content }) (place_behind s) refl;
  stay = λ other c h. get_before (heap_of s) (record { owner = side; content = content }) other.0 c h;
  heap = refl;
  place = refl;
  names = refl;
}

pub plain_makes_held : (side : Side) (content : Content) (s : State)
    → Holds (plain.makes side content s.plain) (λ at p. IsMade side content s at (record s { plain = p }))
plain_makes_held side content s = make_by (nat_lt s.plain.store.limit (s.plain.store.used + cost content)) side content
    s

pub makes_held : (side : Side) (content : Content) (s : State) → Holds (makes side content s) (IsMade side content s)
makes_held side content s = lifted_held (plain.makes side content s.plain) s (IsMade side content s)
    (plain_makes_held side content s)

-- decisions

pub asked_own : {A : Type 0} (frame : Frame) (free : DecidesProxiesAlone frame.run) (n : Name) (at : Oid) (s : State)
    (go : State → Outcome A)
    → asked_for frame n (value.Ref at) s go ≡ go s
asked_own frame free n at s go = ap (λ (d : Decision × Monitor). decided d s go)
    (free.own at (reading (word_of s.names n)) (monitor_of s))

pub asked_if_own : {A : Type 0} (frame : Frame) (free : DecidesProxiesAlone frame.run) (n : Option Name) (at : Oid)
    (s : State) (go : State → Outcome A)
    → asked_if frame n (value.Ref at) s go ≡ go s
asked_if_own frame free None at s go = refl
asked_if_own frame free (Some n) at s go = asked_own frame free n at s go

-- what is done behind a decision is done in the state that it leaves
pub decided_held : {A : Type 0} (d : Decision × Monitor) (s : State) (go : State → Outcome A) (P : A → State → Type 0)
    → ((u : State) → ((B : Type 0) (more : State → Outcome B) → decided d s more ≡ more u) → Holds (go u) P)
    → Holds (decided d s go) P
decided_held {A} d s go P h = by d.0 refl where
  by : (r : Decision) → d.0 ≡ r → Holds (on_decision r (with_monitor d.1 s) go) P
  by (Ok nothing) e =
      h (with_monitor d.1 s) (λ B more. ap (λ (r : Decision). on_decision r (with_monitor d.1 s) more) e)
  by (Err x) e = tt
