-- How going on leaves an object to which nothing refers.
use Rattle.std.proofs.Common.{◌≡◌, refl, sym, subst, ℕ, zero, suc, ◌+◌, ◌<◌, length, Bool, true, false, List, [], ◌∷◌}
use Rattle.std.proofs.Common.{Option, Some, None, Result, Ok, Err, cond, arith, slice_get}
use Rattle.std.specs.Prelude.{option_map, position}
use Rattle.std.specs.List.{position_from}
use Rattle.std.specs.Option.{option_map_or}
use Rattle.rp_base.specs.Names.{word_of}
use Rattle.rp_base.specs.declared.value.Name.{Name}
use Rattle.rp_base.specs.declared.value.Oid.{Oid}
use Rattle.rp_base.specs.declared.value.Raised.{Raised}
use Rattle.rp_base.specs.declared.value.Value.{Value}
use Rattle.rp_base.specs.declared.value.Value.TheVariants as value
use Rattle.rp_checker.specs.RowOf.{Operation, reading, setting}
use Rattle.rp_ops.specs.Outcome as plain
use Rattle.rp_ops.specs.Outcome.{End, gives, on_answer, on_value, on_found}
use Rattle.rp_proxy.specs.Decide.{Decision, Monitor}
use Rattle.rp_store.specs.Heap.{Owned, content_at, method_of, parent_at, slot_at as slot_value}
use Rattle.rp_store.specs.Key.{same_name}
use Rattle.rp_store.specs.Object as object
use Rattle.rp_store.specs.Object.{Content}
use Rattle.rp_store.specs.Parts.{parent, slots}
use Rattle.rp_store.specs.Writers.{with_slot}
use Rattle.rp_meaning.specs.Frame.{Frame, asked, asked_for, asked_to_set, asked_if, asked_each, got, on_decision}
use Rattle.rp_meaning.specs.Frame.{layouts_of, place_of, slot_of, takes, through}
use Rattle.rp_meaning.specs.Scopes.{Layouts, Place, Slot, global, globals_of, held, local, outer, outwards, slot_at}
use Rattle.rp_meaning.specs.Scopes.{slot_in, with_slot_set}
use Rattle.rp_meaning.specs.Special.{Special, on_special, special}
use Rattle.rp_meaning.specs.State.{State, Outcome, Flow, next, broke, continued, returned, choose, on_flow, on_next}
use Rattle.rp_meaning.specs.State.{stepped, charged, lifted, monitor_of, with_monitor, heap_of, with_change}
use Rattle.rp_meaning.specs.Walks.{More, on_turn, on_more, turns}
use Rattle.rp_fixed_laws.specs.Fixed.{Placed}
use Rattle.rp_apart_laws.specs.Apart.{Avoids, ContentAvoids, Each, Fit, FlowAvoids, HeapAvoids, IsApart, IsLeft, IsOther}
use Rattle.rp_apart_laws.specs.Apart.{Nothing, OnSome, OnValue, Stays}
use Rattle.rp_apart_laws.proofs.Lists.{each_get}
use Rattle.rp_apart_laws.proofs.Operations.{lent_avoids, taken_avoids}
use Rattle.rp_apart_laws.proofs.Plainly as plainly
use Rattle.rp_apart_laws.proofs.Plainly.{KeepsApart, Leaves, left_changed, read_avoids, read_on, slot_apart}

-- something is done in a state, as far as the object shows
abbrev pub Does : {A : Type 0} → Placed → (A → Type 0) → (State → Outcome A) → Type 0
Does k P does = (s : State) → IsApart k s → Stays k P (does s)

abbrev pub FitIn : Placed → Frame → Type 0
FitIn k f = Fit k f.calls f.run f.scope

-- the same in any frame whose scope is another object
abbrev pub StaysAt : {A : Type 0} → Placed → (A → Type 0) → (Frame → State → Outcome A) → Type 0
StaysAt k P does = (f : Frame) → FitIn k f → Does k P (does f)

-- of what is given nothing is said
abbrev pub Anything : {A : Type 0} → Placed → A → Type 0
Anything k = Nothing

-- what is found, where it is
abbrev pub OnFound : {A : Type 0} → (A → Type 0) → Result A Raised → Type 0
OnFound P (Ok x) = P x
OnFound P (Err e) = Unit {0}

pub same : {A : Type 0} {k : Placed} {P : A → Type 0} {o : Outcome A} → IsApart k o.state → OnValue P o.answer
    → Stays k P o
same h p = record { there = h; gives = p }

pub bind : {A B : Type 0} {k : Placed} {P : A → Type 0} {Q : B → Type 0} {o : Outcome A} {go : A → State → Outcome B}
    → Stays k P o → ((a : A) → P a → Does k Q (go a)) → Stays k Q (on_value o go)
bind {A} {B} {k} {P} {Q} {o} {go} h more = by o.answer h.gives where
  by : (answer : Result A End) → OnValue P answer → Stays k Q (on_answer answer o.state go)
  by (Ok a) p = more a p o.state h.there
  by (Err e) p = same h.there tt

-- a plain operation
pub op : {A : Type 0} {k : Placed} {P : A → Type 0} {o : plain.Outcome A} (s : State) → IsApart k s → Leaves k P o
    → Stays k P (lifted o s)
op s h l = record { there = record { heap = l.there; declared = h.declared }; gives = l.gives }

pub found : {A B : Type 0} {k : Placed} {Q : B → Type 0} (r : Result A Raised) (s : State) {go : A → State → Outcome B}
    → IsApart k s → ((a : A) → r ≡ Ok a → Does k Q (go a)) → Stays k Q (on_found r s go)
found {A} {B} {k} {Q} r s {go} h more = by r refl where
  by : (x : Result A Raised) → r ≡ x → Stays k Q (on_found x s go)
  by (Ok a) e = more a e s h
  by (Err x) e = same h tt

pub chosen : {A : Type 0} {k : Placed} {P : A → Type 0} (b : Bool) (this other : State → Outcome A) {s : State}
    → Stays k P (this s) → Stays k P (other s) → Stays k P (choose b this other s)
chosen {A} {k} {P} b this other {s} h i = by b where
  by : (b : Bool) → Stays k P (choose b this other s)
  by true = h
  by false = i

pub step : {A : Type 0} {k : Placed} {P : A → Type 0} (s : State) {go : State → Outcome A} → IsApart k s → Does k P go
    → Stays k P (stepped s go)
step {k = k} s h more = bind (op s h
    (plainly.step {k = k} {P = Nothing} {go = gives (tt {0})} s.plain h.heap (λ s h. plainly.kept h tt)))
    (λ _ p s h. more s h)

pub charge : {A : Type 0} {k : Placed} {P : A → Type 0} (cells : ℕ) (s : State) {go : State → Outcome A}
    → IsApart k s → Does k P go → Stays k P (charged cells s go)
charge {k = k} cells s h more = bind (op s h
    (plainly.charge {k = k} {P = Nothing} {go = gives (tt {0})} cells s.plain h.heap (λ s h. plainly.kept h tt)))
    (λ _ p s h. more s h)

-- flows

pub flow : {k : Placed} (f : Flow) (s : State) {go : State → Outcome Flow} → FlowAvoids k.at f → IsApart k s
    → Does k (FlowAvoids k.at) go → Stays k (FlowAvoids k.at) (on_flow f s go)
flow {k} f s {go} p h more = by f p where
  by : (f : Flow) → FlowAvoids k.at f → Stays k (FlowAvoids k.at) (on_flow f s go)
  by next p = more s h
  by broke p = same h tt
  by continued p = same h tt
  by (returned v) p = same h p

pub andthen : {k : Placed} {o : Outcome Flow} {go : State → Outcome Flow} → Stays k (FlowAvoids k.at) o
    → Does k (FlowAvoids k.at) go → Stays k (FlowAvoids k.at) (on_next o go)
andthen h more = bind h (λ f p s h. flow f s p h more)

pub turn : {k : Placed} {o : Outcome Flow} {go : State → Outcome Flow} → Stays k (FlowAvoids k.at) o
    → Does k (FlowAvoids k.at) go → Stays k (FlowAvoids k.at) (on_turn o go)
turn {k} {o} {go} h more = by o.answer h.gives where
  by : (answer : Result Flow End) → OnValue (FlowAvoids k.at) answer
      → Stays k (FlowAvoids k.at) (on_turn (record { answer = answer; state = o.state }) go)
  by (Ok next) p = more o.state h.there
  by (Ok continued) p = more o.state h.there
  by (Ok broke) p = same h.there tt
  by (Ok (returned v)) p = same h.there p
  by (Err e) p = same h.there tt

-- a value, where there is one more turn
abbrev pub MoreAvoids : {W : Type 0} → Placed → Option (Value × W) → Type 0
MoreAvoids {W} k = OnSome (λ (e : Value × W). Avoids k.at e.0)

pub more_keeps : {W : Type 0} {k : Placed} (e : Option (Value × W)) (s : State) {go : Value → W → State → Outcome Flow}
    → MoreAvoids k e → IsApart k s → ((v : Value) (w : W) → Avoids k.at v → Does k (FlowAvoids k.at) (go v w))
    → Stays k (FlowAvoids k.at) (on_more e s go)
more_keeps None s p h more = same h tt
more_keeps (Some e) s p h more = more e.0 e.1 p s h

pub turns_keep : {W : Type 0} {k : Placed} {more : More W} {body : Value → State → Outcome Flow} (n : ℕ)
    → ((w : W) → Does k (MoreAvoids k) (more w))
    → ((v : Value) → Avoids k.at v → Does k (FlowAvoids k.at) (body v)) → (w : W)
    → Does k (FlowAvoids k.at) (turns n more body w)
turns_keep zero m b w s h = same h tt
turns_keep (suc n) m b w s h = bind (m w s h)
    (λ e p s h. more_keeps e s p h (λ v w q s h. turn (b v q s h) (λ s h. turns_keep n m b w s h)))

-- decisions

pub decision : {A : Type 0} {k : Placed} {P : A → Type 0} (d : Decision) (s : State) {go : State → Outcome A}
    → IsApart k s → Does k P go → Stays k P (on_decision d s go)
decision {A} {k} {P} d s {go} h more = by d where
  by : (d : Decision) → Stays k P (on_decision d s go)
  by (Ok nothing) = more s h
  by (Err e) = same h tt

pub ask : {A : Type 0} {k : Placed} {P : A → Type 0} (frame : Frame) → FitIn k frame → (op : Operation) (v : Value)
    (s : State) {go : State → Outcome A} → IsApart k s → Does k P go → Stays k P (asked frame op v s go)
ask {A} {k} {P} frame c op v s h more =
    let d : Decision × Monitor = frame.run.decide v op (monitor_of s) in
    decision d.0 (with_monitor d.1 s) (record {
      heap = subst (λ (heap : List Owned). IsLeft k heap) (sym (c.quiet.decides v op (monitor_of s))) h.heap;
      declared = h.declared;
    }) more

pub ask_for : {A : Type 0} {k : Placed} {P : A → Type 0} (frame : Frame) → FitIn k frame → (n : Name) (v : Value)
    (s : State) {go : State → Outcome A} → IsApart k s → Does k P go → Stays k P (asked_for frame n v s go)
ask_for frame c n v s h more = ask frame c (reading (word_of s.names n)) v s h more

pub ask_to_set : {A : Type 0} {k : Placed} {P : A → Type 0} (frame : Frame) → FitIn k frame → (n : Name) (v : Value)
    (s : State) {go : State → Outcome A} → IsApart k s → Does k P go → Stays k P (asked_to_set frame n v s go)
ask_to_set frame c n v s h more = ask frame c (setting (word_of s.names n)) v s h more

ask_if : {A : Type 0} {k : Placed} {P : A → Type 0} (frame : Frame) → FitIn k frame → (n : Option Name) (v : Value)
    (s : State) {go : State → Outcome A} → IsApart k s → Does k P go → Stays k P (asked_if frame n v s go)
ask_if frame c None v s h more = more s h
ask_if frame c (Some n) v s h more = ask_for frame c n v s h more

pub ask_each : {A : Type 0} {k : Placed} {P : A → Type 0} (frame : Frame) → FitIn k frame → (needs : ℕ → Option Name)
    (i : ℕ) (vs : List Value) (s : State) {go : State → Outcome A} → IsApart k s → Does k P go
    → Stays k P (asked_each frame needs i vs s go)
ask_each frame c needs i [] s h more = more s h
ask_each frame c needs i (v ∷ vs) s h more =
    ask_if frame c (needs i) v s h (λ s h. ask_each frame c needs (suc i) vs s h more)

-- values that code gets

pub takes_value : {k : Placed} (v : Value) (f : Frame) → Avoids k.at v → Does k (Avoids k.at) (takes v f)
takes_value {k} v f p s h = same h (taken_avoids k.at (heap_of s) f.side v p)

through_avoids : (a : Oid) (from v : Value) → Avoids a v → Avoids a (through from v)
through_avoids a (value.Prox at) v p = lent_avoids a v p
through_avoids a (value.Rock r) v p = p
through_avoids a (value.Ref at) v p = p

pub gets_value : {k : Placed} (from v : Value) (f : Frame) → Avoids k.at v → Does k (Avoids k.at) (got from v f)
gets_value {k} from v f p s h = takes_value (through from v) f (through_avoids k.at from v p) s h

-- special methods

abbrev pub SpecialAvoids : Placed → Special → Type 0
SpecialAvoids k m = Avoids k.at m.of

pub special_avoids : (k : Placed) (heap : List Owned) (v : Value) (n : Name) → Avoids k.at v
    → OnSome (SpecialAvoids k) (special heap v n)
special_avoids k heap v n p = by v p where
  of : (at : Oid) → IsOther k.at at → (function : Option Oid)
      → OnSome (SpecialAvoids k) (option_map (λ (f : Oid). record { function = f; of = value.Ref at }) function)
  of at p None = tt
  of at p (Some f) = p

  by : (v : Value) → Avoids k.at v → OnSome (SpecialAvoids k) (special heap v n)
  by (value.Rock r) p = tt
  by (value.Ref at) p = of at p (method_of heap at n)
  by (value.Prox at) p = of at p (method_of heap at n)

pub on_method : {A : Type 0} {k : Placed} {P : A → Type 0} (m : Option Special) (call : Special → State → Outcome A)
    (otherwise : State → Outcome A) (s : State) → OnSome (SpecialAvoids k) m
    → ((m : Special) → SpecialAvoids k m → Stays k P (call m s)) → Stays k P (otherwise s)
    → Stays k P (on_special m call otherwise s)
on_method {A} {k} {P} m call otherwise s p h i = by m p where
  by : (m : Option Special) → OnSome (SpecialAvoids k) m → Stays k P (on_special m call otherwise s)
  by (Some m) p = h m p
  by None p = i

-- states

pub there_behind : (k : Placed) (at : Oid) (change : Content → Content) → IsOther k.at at → KeepsApart k.at change
    → (s : State) → IsApart k s → IsApart k (with_change at change s)
there_behind k at change other keeps s h =
    record { heap = left_changed k (heap_of s) at change other keeps h.heap; declared = h.declared }

-- scopes

parent_other : (a : Oid) (heap : List Owned) (at : Oid) → HeapAvoids a heap → OnSome (IsOther a) (parent_at heap at)
parent_other a heap at h =
    read_on (ContentAvoids a) (OnSome (IsOther a)) parent None (content_at heap at) (read_avoids a heap at h) of tt
  where
    of : (c : Content) → ContentAvoids a c → OnSome (IsOther a) (parent c)
    of (object.scope block around vs) p = p.0
    of c p = tt

outwards_other : (a : Oid) (n : ℕ) (heap : List Owned) (at : Oid) → HeapAvoids a heap → IsOther a at
    → IsOther a (outwards n heap at)
outwards_other a zero heap at h p = p
outwards_other a (suc n) heap at h p =
    read_on (IsOther a) (IsOther a) (outwards n heap) at (parent_at heap at) (parent_other a heap at h)
    (λ around q. outwards_other a n heap around h q) p

abbrev pub SlotAvoids : Oid → Slot → Type 0
SlotAvoids a slot = IsOther a slot.scope

slot_at_other : (a : Oid) (layouts : Layouts) (heap : List Owned) (at : Oid) (place : Place) (n : Name)
    → HeapAvoids a heap → IsOther a at → OnSome (SlotAvoids a) (slot_at layouts heap at place n)
slot_at_other a layouts heap at place n h p = of place where
  globals : (i : Option ℕ) → OnSome (SlotAvoids a) (option_map (slot_in (globals_of heap at)) i)
  globals None = tt
  globals (Some i) = outwards_other a (length heap) heap at h p

  of : (place : Place) → OnSome (SlotAvoids a) (slot_at layouts heap at place n)
  of (local i) = p
  of (outer m i) = outwards_other a m heap at h p
  of global = globals (position (same_name n) (layouts.locals 0))

pub slot_other : {k : Placed} (n : Name) (f : Frame) → FitIn k f → (s : State) → IsApart k s
    → OnSome (SlotAvoids k.at) (slot_of f n s)
slot_other {k} n f c s h = slot_at_other k.at (layouts_of f) (heap_of s) f.scope (place_of f n) n h.heap.others c.scope

slot_value_avoids : (a : Oid) (heap : List Owned) (at : Oid) (i : ℕ) → HeapAvoids a heap
    → OnSome (Avoids a) (slot_value heap at i)
slot_value_avoids a heap at i h =
    read_on (ContentAvoids a) (OnSome (Avoids a))
    (λ (c : Content). option_map_or (λ (slot : Option Value). slot) (slice_get (slots c) i) None) None
    (content_at heap at) (read_avoids a heap at h) of tt
  where
    those : (c : Content) → ContentAvoids a c → Each (OnSome (Avoids a)) (slots c)
    those (object.scope block around vs) p = p.1
    those c p = tt

    of : (c : Content) → ContentAvoids a c
        → OnSome (Avoids a) (option_map_or (λ (slot : Option Value). slot) (slice_get (slots c) i) None)
    of c p =
        read_on (OnSome (Avoids a)) (OnSome (Avoids a)) (λ (slot : Option Value). slot) None (slice_get (slots c) i)
        (each_get (OnSome (Avoids a)) (slots c) i (those c p)) (λ slot q. q) tt

pub held_avoids : (a : Oid) (heap : List Owned) (slot : Option Slot) → HeapAvoids a heap
    → OnSome (Avoids a) (held heap slot)
held_avoids a heap None h = tt
held_avoids a heap (Some slot) h = slot_value_avoids a heap slot.scope slot.index h

pub slot_set : {k : Placed} (slot : Option Slot) (v : Option Value) (s : State) → OnSome (SlotAvoids k.at) slot
    → OnSome (Avoids k.at) v → IsApart k s → IsApart k (with_slot_set slot v s)
slot_set None v s p q h = h
slot_set {k} (Some slot) v s p q h =
    there_behind k slot.scope (with_slot slot.index v) p (slot_apart k.at slot.index v q) s h

-- cases by equations, for what is done by a choice that has no name of its own

pub by_option : {X P : Type 0} (x : Option X) → (x ≡ None → P) → ((y : X) → x ≡ Some y → P) → P
by_option None none some = none refl
by_option (Some y) none some = some y refl

pub by_result : {X E P : Type 0} (x : Result X E) → ((y : X) → x ≡ Ok y → P) → ((e : E) → x ≡ Err e → P) → P
by_result (Ok y) ok err = ok y refl
by_result (Err e) ok err = err e refl

-- of a first place in a list, counted from a number on

pub on_more_known : {X : Type 0} (P Q : X → Type 0) (o : Option X) → ((x : X) → P x → Q x) → OnSome P o → OnSome Q o
on_more_known P Q None more p = tt
on_more_known P Q (Some x) more p = more x p

pub position_below : {X : Type 0} (test : X → Bool) (i : ℕ) (xs : List X)
    → OnSome (λ (j : ℕ). j < i + length xs) (position_from test i xs)
position_below test i [] = tt
position_below {X} test i (x ∷ xs) = by (test x) (position_below test (i + 1) xs) where
  by : (b : Bool) → OnSome (λ (j : ℕ). j < (i + 1) + length xs) (position_from test (i + 1) xs)
      → OnSome (λ (j : ℕ). j < i + suc (length xs)) (cond b (Some i) (position_from test (i + 1) xs))
  by true p = omega arith
  by false p =
      on_more_known (λ (j : ℕ). j < (i + 1) + length xs) (λ (j : ℕ). j < i + suc (length xs))
      (position_from test (i + 1) xs) (λ j less. omega arith) p
