-- Lemmas that proofs of callers cite too: what operations that use cells answer by what is left, and that what the heap holds is sound.
use Rattle.std.proofs.Common.{◌≡◌, ℕ, zero, suc, ◌+◌, ◌*◌, ◌≤◌, Bool, true, false, List, [], ◌∷◌, map, length, encode_utf8_all, ℤ, Option, Some, None, slice_get, Result, Ok, Err, OnOk, IfOk, IfErr, IsErrAnd, refl, sym, ap, ◌∙◌, subst}
use Rattle.std.proofs.lemmas.Bool.{le-ltb, lt-ltb}
use Rattle.rp_base.specs.declared.value.Oid.{Oid}
use Rattle.rp_base.specs.declared.value.OpEnd.{OpEnd}
use Rattle.rp_base.specs.declared.value.OpEnd.TheVariants as end
use Rattle.rp_base.specs.declared.value.Rock.TheVariants as rock
use Rattle.rp_base.specs.declared.value.Side.{Side}
use Rattle.rp_base.specs.declared.value.Value.{Value}
use Rattle.rp_base.specs.declared.value.Value.TheVariants as value
use Rattle.std.proofs.lemmas.List.{length-map}
use Rattle.std.proofs.lemmas.List.Elements.{All-append, All-head, All-map, All-nil, All-tail, All-weaker}
use Rattle.std.specs.List.{All, repeat}
use Rattle.std.specs.Option.{IfSome, option_map, option_map_or}
use Rattle.rp_ops.proofs.Bytes.{length-repeat}
use Rattle.rp_store.specs.Cost.{cost}
use Rattle.rp_store.specs.Heap.{IsHeld, Names, Owned, content_at}
use Rattle.rp_store.specs.Kept.{AreSound, Holds, IsKept, IsSound}
use Rattle.rp_store.specs.Object.{Content, list, tuple}
use Rattle.rp_store.specs.Shape.{KeepsShape}
use Rattle.rp_store.specs.Store.{Cells, IsOver, added, made}
use Rattle.rp_ops.specs.Binary.{new_object, new_text, repeated, times}
use Rattle.rp_ops.specs.View.{elements_of, handed, held_by, sequence_of}
use Rattle.rp_ops.specs.Walk.{Cursor, IsWalkHeld, characters_from, elements_from, keys_from}
use Rattle.rp_ops.specs.declared.operand.Elements.{Elements}
use Rattle.rp_ops.specs.declared.sequences.Sequence.{Sequence}
use Rattle.rp_ops.specs.declared.sequences.Sequence.TheVariants as sequence
use Rattle.rp_ops.specs.Outcome.{Meets, Raises, State, Outcome, charged, ends, gives, no_cell, on_value, raised, state_of, with_used}
use Rattle.rp_base.specs.declared.value.Raised.{Raised}
use Rattle.rp_store.proofs.CallerLemmas.{KeepsShape-of, ShapeStays-grown, named_held}
use Rattle.rp_ops.specs.Growth.{Gains}

-- ends

-- another end than a value passes through
pub meets-passes : {A B : Type 0} (e : OpEnd) (s : State) (o : Outcome A) (go : A → State → Outcome B) → Meets {A = A} (Err e) s o → Meets {A = B} (Err e) s (on_value o go)
meets-passes (end.Raised r) s o go h = ap (λ o. on_value o go) h
meets-passes end.StopSteps s o go h = ap (λ o. on_value o go) h
meets-passes end.StopCells s o go h = ap (λ o. on_value o go) h
meets-passes end.Memory s o go h = tt

pub passes-on : {A B : Type 0} (r : Result B OpEnd) (f : OpEnd) (s : State) (o : Outcome A) (go : A → State → Outcome B)
    → IsErrAnd r (λ e. e ≡ f) → Meets {A = A} (Err f) s o → Meets r s (on_value o go)
passes-on (Ok b) f s o go is h = absurd is
passes-on {A} {B} (Err e) f s o go is h = subst (λ (e : OpEnd). Meets {A = B} (Err e) s (on_value o go)) (sym is) (meets-passes {A = A} {B = B} f s o go h)

-- an exception is raised where the store is as before, or there was no memory for its text
pub Meets-raised : {A : Type 0} (e : OpEnd) (r : Raised) (old new : Cells) (steps : ℕ) (o : Outcome A) → Raises e r → new ≡ old → o ≡ ends (raised r) (state_of old steps)
    → Meets (Err e) (state_of new steps) o
Meets-raised (end.Raised x) r old new steps o h same is =
    is ∙ ap (λ (s : Cells). ends (raised r) (state_of s steps)) (sym same) ∙ ap (λ (r : Raised). ends (raised r) (state_of new steps)) (sym h)
Meets-raised end.StopSteps r old new steps o h same is = absurd h
Meets-raised end.StopCells r old new steps o h same is = absurd h
Meets-raised end.Memory r old new steps o h same is = tt

-- cells

pub charged-within : {A : Type 0} (cells : ℕ) (s : State) (go : State → Outcome A) → s.store.used + cells ≤ s.store.limit
    → charged cells s go ≡ go (with_used s (s.store.used + cells))
charged-within cells s go h = rw (le-ltb s.store.limit (s.store.used + cells) h) refl

pub charged-over : {A : Type 0} (cells : ℕ) (s : State) (go : State → Outcome A) → IsOver s.store cells → charged cells s go ≡ ends no_cell s
charged-over cells s go h = rw (lt-ltb s.store.limit (s.store.used + cells) h) refl

abbrev pub used : Cells → ℕ → Cells
used store cells = record store { used = store.used + cells }

-- the cells of a new text are used, and it is given
pub text-within : (t made : List ℕ) (old new : Cells) (cells steps : ℕ) → made ≡ t → cells ≡ length (encode_utf8_all t) → old.used + cells ≤ old.limit → new ≡ used old cells
    → new_text t (state_of old steps) ≡ gives (value.Rock (rock.Text made)) (state_of new steps)
text-within t made old new cells steps is e h same =
    charged-within (length (encode_utf8_all t)) (state_of old steps) (gives (value.Rock (rock.Text t))) (subst (λ (n : ℕ). old.used + n ≤ old.limit) e h)
    ∙ ap (λ (n : ℕ). gives (value.Rock (rock.Text t)) (state_of (used old n) steps)) (sym e)
    ∙ ap (λ (s : Cells). gives (value.Rock (rock.Text t)) (state_of s steps)) (sym same)
    ∙ ap (λ (u : List ℕ). gives (value.Rock (rock.Text u)) (state_of new steps)) (sym is)

text-over : (t : List ℕ) (old new : Cells) (cells steps : ℕ) → cells ≡ length (encode_utf8_all t) → IsOver old cells → new ≡ old
    → new_text t (state_of old steps) ≡ ends no_cell (state_of new steps)
text-over t old new cells steps e h same =
    charged-over (length (encode_utf8_all t)) (state_of old steps) (gives (value.Rock (rock.Text t))) (subst (λ (n : ℕ). IsOver old n) e h)
    ∙ ap (λ (s : Cells). ends no_cell (state_of s steps)) (sym same)

-- no cell is left for the text
pub text-stopped : (t : List ℕ) (old new : Cells) (result : Result Value OpEnd) (f : OpEnd) (cells steps : ℕ) → cells ≡ length (encode_utf8_all t)
    → IsErrAnd result (λ e. e ≡ f) → f ≡ end.StopCells → IsOver old cells → new ≡ old → Meets result (state_of new steps) (new_text t (state_of old steps))
text-stopped t old new (Ok v) f cells steps e ends stop h same = absurd ends
text-stopped t old new (Err g) f cells steps e ends stop h same =
    subst (λ (g : OpEnd). Meets {A = Value} (Err g) (state_of new steps) (new_text t (state_of old steps))) (sym (ends ∙ stop)) (text-over t old new cells steps e h same)

object-within : (side : Side) (c : Content) (s : State) → s.store.used + cost c ≤ s.store.limit
    → new_object side c s ≡ gives (value.Ref (record { 0 = length s.store.heap })) (record s { store = made s.store side c })
object-within side c s h = rw (le-ltb s.store.limit (s.store.used + cost c) h) refl

object-over : (side : Side) (c : Content) (s : State) → IsOver s.store (cost c) → new_object side c s ≡ ends no_cell s
object-over side c s h = rw (lt-ltb s.store.limit (s.store.used + cost c) h) refl

-- the cells of a new object are used, and then it is added
pub added-within : (side : Side) (c : Content) (old between new : Cells) (v : Value) (cells steps : ℕ) → cells ≡ cost c → old.used + cells ≤ old.limit
    → between ≡ used old cells → new ≡ added between side c → v ≡ value.Ref (record { 0 = length between.heap })
    → new_object side c (state_of old steps) ≡ gives v (state_of new steps)
added-within side c old between new v cells steps e h first second place =
    object-within side c (state_of old steps) (subst (λ (n : ℕ). old.used + n ≤ old.limit) e h)
    ∙ ap (λ (n : ℕ). gives (value.Ref (record { 0 = length old.heap })) (state_of (added (used old n) side c) steps)) (sym e)
    ∙ ap (λ (s : Cells). gives (value.Ref (record { 0 = length s.heap })) (state_of (added s side c) steps)) (sym first)
    ∙ ap (λ (s : Cells). gives (value.Ref (record { 0 = length between.heap })) (state_of s steps)) (sym second)
    ∙ ap (λ (w : Value). gives w (state_of new steps)) (sym place)

pub added-over : (side : Side) (c : Content) (old new : Cells) (cells steps : ℕ) → cells ≡ cost c → IsOver old cells → new ≡ old
    → new_object side c (state_of old steps) ≡ ends no_cell (state_of new steps)
added-over side c old new cells steps e h same =
    object-over side c (state_of old steps) (subst (λ (n : ℕ). IsOver old n) e h)
    ∙ ap (λ (s : Cells). ends no_cell (state_of s steps)) (sym same)

pub cost-sequence : (kind : Sequence) (xs : List Value) → cost (sequence_of kind xs) ≡ 1 + length xs
cost-sequence sequence.List xs = refl
cost-sequence sequence.Tuple xs = refl

-- what adding the object answers, once its cells are used
pub added-meets : (side : Side) (c : Content) (old between new : Cells) (result : Result Value OpEnd) (cells steps : ℕ)
    → cells ≡ cost c → old.used + cells ≤ old.limit → between ≡ used old cells
    → OnOk result (new ≡ added between side c) → IfOk result (λ v. v ≡ value.Ref (record { 0 = length between.heap })) → IfErr result (λ e. e ≡ end.Memory)
    → Meets result (state_of new steps) (new_object side c (state_of old steps))
added-meets side c old between new (Ok v) cells steps e h first second place memory = added-within side c old between new v cells steps e h first second place
added-meets side c old between new (Err f) cells steps e h first second place memory =
    subst (λ (g : OpEnd). Meets {A = Value} (Err g) (state_of new steps) (new_object side c (state_of old steps))) (sym memory) tt

-- no cell is left for the object
pub stopped-meets : (side : Side) (c : Content) (old new : Cells) (result : Result Value OpEnd) (f : OpEnd) (cells steps : ℕ) → cells ≡ cost c
    → IsErrAnd result (λ e. e ≡ f) → f ≡ end.StopCells → IsOver old cells → new ≡ old
    → Meets result (state_of new steps) (new_object side c (state_of old steps))
stopped-meets side c old new (Ok v) f cells steps e ends stop h same = absurd ends
stopped-meets side c old new (Err g) f cells steps e ends stop h same =
    subst (λ (g : OpEnd). Meets {A = Value} (Err g) (state_of new steps) (new_object side c (state_of old steps))) (sym (ends ∙ stop)) (added-over side c old new cells steps e h same)

-- the number of elements, as they are handed out
pub length-elements : (heap : List Owned) (x : Elements) (items : List Value) → items ≡ option_map_or held_by (content_at heap x.at) [] → length (elements_of heap x) ≡ length items
length-elements heap x items e = length-map (option_map_or held_by (content_at heap x.at) []) (handed x.lent) ∙ ap length (sym e)

-- the cells of so many copies
pub repeat-cells : (n : ℤ) (copies size : ℕ) (kind : Sequence) (xs : List Value) → copies ≡ times n → length xs ≡ size → 1 + copies * size ≡ cost (sequence_of kind (repeated n xs))
repeat-cells n copies size kind xs e l =
    sym (cost-sequence kind (repeated n xs) ∙ ap (λ k. 1 + k) (length-repeat (times n) xs ∙ ap (λ k. k * length xs) (sym e) ∙ ap (λ k. copies * k) l))

-- what the heap holds

-- what gained objects kept its shape
pub KeepsShape-Gains : (P : Owned → Type 0) (old new : List Owned) → Gains P old new → KeepsShape old new
KeepsShape-Gains P old new gains = KeepsShape-of old new (ShapeStays-grown old new gains.0 gains.1.0)

-- what names an object is held
pub IsHeld-Names : (P : Content → Type 0) (heap : List Owned) (at : Oid) → Names heap P at → IsHeld heap at
IsHeld-Names P heap at h = named_held P heap at.0 h

-- the elements of what the heap holds are sound

found : (P : Owned → Type 0) (heap : List Owned) (i : ℕ) → All P heap → IfSome (slice_get heap i) P
found P [] i h = tt
found P (o ∷ os) zero h = All-head P o os h
found P (o ∷ os) (suc i) h = found P os i (All-tail P o os h)

module _ (heap : List Owned) where
  content_sound : (owner : Side) (c : Content) → Holds heap owner c → AreSound heap (held_by c)
  content_sound owner (list elements) h = h
  content_sound owner (tuple elements) h = h
  content_sound owner _ h = All-nil (IsSound heap)

  slot_sound : (slot : Option Owned) → IfSome slot (λ o. Holds heap o.owner o.content) → AreSound heap (option_map_or held_by (option_map (λ o. o.content) slot) [])
  slot_sound None h = All-nil (IsSound heap)
  slot_sound (Some o) h = content_sound o.owner o.content h

  pub handed_sound : (lent : Bool) (v : Value) → IsSound heap v → IsSound heap (handed lent v)
  handed_sound true (value.Rock rock) h = h
  handed_sound true (value.Ref at) h = h
  handed_sound true (value.Prox at) h = h
  handed_sound false v h = h

  pub AreSound-elements : (at : Oid) (lent : Bool) → IsKept heap → AreSound heap (map (handed lent) (option_map_or held_by (content_at heap at) []))
  AreSound-elements at lent kept =
      let xs : List Value = option_map_or held_by (content_at heap at) [] in
      let sound : AreSound heap xs = slot_sound (slice_get heap at.0) (found (λ o. Holds heap o.owner o.content) heap at.0 kept.each) in
      All-map (IsSound heap) (handed lent) xs (All-weaker (IsSound heap) (λ v. IsSound heap (handed lent v)) (handed_sound lent) xs sound)

  pub AreSound-repeat : (n : ℕ) (xs : List Value) → AreSound heap xs → AreSound heap (repeat n xs)
  AreSound-repeat zero xs h = All-nil (IsSound heap)
  AreSound-repeat (suc n) xs h = All-append (IsSound heap) xs (repeat n xs) h (AreSound-repeat n xs h)

-- what is walked stays in a heap that goes on
pub IsWalkHeld-kept : (old new : List Owned) (c : Cursor) → KeepsShape old new → IsWalkHeld old c → IsWalkHeld new c
IsWalkHeld-kept old new (elements_from lent at i) shape h = shape.held at h
IsWalkHeld-kept old new (keys_from at i size) shape h = (shape.held at h.0, shape.dict at h.1)
IsWalkHeld-kept old new (characters_from cs) shape h = tt
