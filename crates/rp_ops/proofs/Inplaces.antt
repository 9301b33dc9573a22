-- Augmented assignment, by what the first operand names.
use Rattle.std.proofs.Common.{◌≡◌, ℕ, zero, suc, ◌+◌, ◌*◌, ◌-◌, ◌≤◌, ℤ, false, List, [], ◌∷◌, append-nil, length, Option, Some, None, Result, Ok, Err, IsErrAnd, IsSomeAnd, refl, sym, ap, subst, ◌∙◌, arith}
use Rattle.std.proofs.lemmas.List.{map-id}
use Rattle.std.specs.List.{repeat}
use Rattle.std.specs.Option.{option_map_or}
use Rattle.rp_base.specs.declared.operator.BinOp.{BinOp}
use Rattle.rp_base.specs.declared.operator.BinOp.TheVariants as op
use Rattle.rp_base.specs.declared.value.Oid.{Oid}
use Rattle.rp_base.specs.declared.value.OpEnd.{OpEnd}
use Rattle.rp_base.specs.declared.value.OpEnd.TheVariants as end
use Rattle.rp_base.specs.declared.value.Side.{Side}
use Rattle.rp_base.specs.declared.value.Value.{Value}
use Rattle.rp_base.specs.declared.value.Value.TheVariants as value
use Rattle.rp_store.specs.Heap.{Names, Owned, changed_from, content_at}
use Rattle.rp_store.specs.Object.{Content, list}
use Rattle.rp_store.specs.Parts.{IsList}
use Rattle.rp_store.specs.Store.{Cells, IsOver, written}
use Rattle.rp_store.specs.Writers.{with_elements}
use Rattle.rp_ops.specs.Binary.{binary, repeated, times}
use Rattle.rp_ops.specs.Inplace.{content_inplace, extends, inplace, list_inplace, repeats_list}
use Rattle.rp_ops.specs.Operand.{number_of, operand}
use Rattle.rp_ops.specs.Outcome.{Meets, State, ends, gives, no_cell, state_of, with_change}
use Rattle.rp_ops.specs.View.{elements_of, held_by, list_place, place_if_list}
use Rattle.rp_ops.proofs.CallerLemmas.{KeepsShape-Gains, charged-over, charged-within, used}

-- elements that are not lent are as they are
pub elements_of-own : (heap : List Owned) (at : Oid) → elements_of heap (record { at = at; lent = false }) ≡ option_map_or held_by (content_at heap at) []
elements_of-own heap at = map-id (option_map_or held_by (content_at heap at) [])

-- the place of a list is that which the value names

place_same : (i at : Oid) (c : Option Content) → option_map_or (place_if_list i) c None ≡ Some at → i ≡ at
place_same i at None e = absurd (cc)
place_same i at (Some (list xs)) e = ap (λ o. option_map_or (λ k. k) o i) e
place_same i at (Some _) e = absurd (cc)

place_list : (i at : Oid) (c : Option Content) → option_map_or (place_if_list i) c None ≡ Some at → IsSomeAnd c IsList
place_list i at None e = absurd (cc)
place_list i at (Some (list xs)) e = tt
place_list i at (Some _) e = absurd (cc)

pub list-named : (heap : List Owned) (a : Value) (at : Oid) → list_place heap a ≡ Some at → Names heap IsList at
list-named heap (value.Rock r) at e = absurd (cc)
list-named heap (value.Ref i) at e = subst (λ (k : Oid). Names heap IsList k) (place_same i at (content_at heap i) e) (place_list i at (content_at heap i) e)
list-named heap (value.Prox i) at e = subst (λ (k : Oid). Names heap IsList k) (place_same i at (content_at heap i) e) (place_list i at (content_at heap i) e)

module _ (side : Side) (a b : Value) (s : State) where
  add_place : (i at : Oid) (c : Option Content) → option_map_or (place_if_list i) c None ≡ Some at
      → option_map_or (λ c. content_inplace side op.Add a i c b s) c (binary side op.Add a b s) ≡ extends a i b s
  add_place i at None e = absurd (cc)
  add_place i at (Some (list xs)) e = refl
  add_place i at (Some _) e = absurd (cc)

  mul_place : (i at : Oid) (c : Option Content) → option_map_or (place_if_list i) c None ≡ Some at
      → option_map_or (λ c. content_inplace side op.Mul a i c b s) c (binary side op.Mul a b s)
      ≡ repeats_list a i (option_map_or held_by c []) (number_of (operand s.store.heap b)) s
  mul_place i at None e = absurd (cc)
  mul_place i at (Some (list xs)) e = refl
  mul_place i at (Some _) e = absurd (cc)

  other_place : (o : BinOp) (i : Oid) (c : Option Content) → option_map_or (place_if_list i) c None ≡ None
      → option_map_or (λ c. content_inplace side o a i c b s) c (binary side o a b s) ≡ binary side o a b s
  other_place o i None e = refl
  other_place o i (Some (list xs)) e = absurd (cc)
  other_place o i (Some _) e = refl

  other_op : (o : BinOp) → ¬ (o ≡ op.Add) → ¬ (o ≡ op.Mul) → (i : Oid) (c : Option Content)
      → option_map_or (λ c. content_inplace side o a i c b s) c (binary side o a b s) ≡ binary side o a b s
  other_op o h k i None = refl
  other_op o h k i (Some (list xs)) = by o h k where
    by : (o : BinOp) → ¬ (o ≡ op.Add) → ¬ (o ≡ op.Mul) → list_inplace side o a i xs b s ≡ binary side o a b s
    by op.Add h k = absurd (h refl)
    by op.Mul h k = absurd (k refl)
    by _ h k = refl
  other_op o h k i (Some _) = refl

pub inplace-add : (side : Side) (a b : Value) (s : State) (at : Oid) → list_place s.store.heap a ≡ Some at → inplace side op.Add a b s ≡ extends a at b s
inplace-add side (value.Rock r) b s at e = absurd (cc)
inplace-add side (value.Ref i) b s at e =
    let c = content_at s.store.heap i in
    add_place side (value.Ref i) b s i at c e ∙ ap (λ k. extends (value.Ref i) k b s) (place_same i at c e)
inplace-add side (value.Prox i) b s at e =
    let c = content_at s.store.heap i in
    add_place side (value.Prox i) b s i at c e ∙ ap (λ k. extends (value.Prox i) k b s) (place_same i at c e)

pub inplace-mul : (side : Side) (a b : Value) (s : State) (at : Oid) → list_place s.store.heap a ≡ Some at
    → inplace side op.Mul a b s ≡ repeats_list a at (option_map_or held_by (content_at s.store.heap at) []) (number_of (operand s.store.heap b)) s
inplace-mul side (value.Rock r) b s at e = absurd (cc)
inplace-mul side (value.Ref i) b s at e =
    let c = content_at s.store.heap i in
    mul_place side (value.Ref i) b s i at c e
    ∙ ap (λ k. repeats_list (value.Ref i) k (option_map_or held_by (content_at s.store.heap k) []) (number_of (operand s.store.heap b)) s) (place_same i at c e)
inplace-mul side (value.Prox i) b s at e =
    let c = content_at s.store.heap i in
    mul_place side (value.Prox i) b s i at c e
    ∙ ap (λ k. repeats_list (value.Prox i) k (option_map_or held_by (content_at s.store.heap k) []) (number_of (operand s.store.heap b)) s) (place_same i at c e)

-- what is no list is done as the binary operator
pub inplace-none : (side : Side) (o : BinOp) (a b : Value) (s : State) → list_place s.store.heap a ≡ None → inplace side o a b s ≡ binary side o a b s
inplace-none side o (value.Rock r) b s e = refl
inplace-none side o (value.Ref i) b s e = other_place side (value.Ref i) b s o i (content_at s.store.heap i) e
inplace-none side o (value.Prox i) b s e = other_place side (value.Prox i) b s o i (content_at s.store.heap i) e

-- and so is another operator than `+=` and `*=`
pub inplace-other : (side : Side) (o : BinOp) (a b : Value) (s : State) → ¬ (o ≡ op.Add) → ¬ (o ≡ op.Mul) → inplace side o a b s ≡ binary side o a b s
inplace-other side o (value.Rock r) b s h k = refl
inplace-other side o (value.Ref i) b s h k = other_op side (value.Ref i) b s o h k i (content_at s.store.heap i)
inplace-other side o (value.Prox i) b s h k = other_op side (value.Prox i) b s o h k i (content_at s.store.heap i)

-- the cells of the copies are used, and the elements set
pub repeats-within : (a : Value) (at : Oid) (xs values : List Value) (n : ℤ) (old between new : Cells) (cells steps : ℕ)
    → cells ≡ (times n - 1) * length xs → old.used + cells ≤ old.limit → between ≡ used old cells → values ≡ repeated n xs
    → new ≡ written between at (with_elements values) → repeats_list a at xs (Some n) (state_of old steps) ≡ gives a (state_of new steps)
repeats-within a at xs values n old between new cells steps e h first items second =
    charged-within ((times n - 1) * length xs) (state_of old steps) (λ s. gives a (with_change s at (with_elements (repeated n xs)))) (subst (λ (k : ℕ). old.used + k ≤ old.limit) e h)
    ∙ ap (λ k. gives a (state_of (written (used old k) at (with_elements (repeated n xs))) steps)) (sym e)
    ∙ ap (λ (t : Cells). gives a (state_of (written t at (with_elements (repeated n xs))) steps)) (sym first)
    ∙ ap (λ vs. gives a (state_of (written between at (with_elements vs)) steps)) (sym items)
    ∙ ap (λ (t : Cells). gives a (state_of t steps)) (sym second)

-- a list that is repeated once holds what it held
once : (n : ℤ) (xs : List Value) → times n ≡ 1 → xs ≡ repeated n xs
once n xs one = sym (ap (λ k. repeat k xs) one ∙ append-nil xs)

kept_content : (c : Content) → with_elements (held_by c) c ≡ c
kept_content (list xs) = refl
kept_content _ = refl

kept_from : (heap : List Owned) (k : ℕ) → changed_from heap k (with_elements (option_map_or held_by (content_at heap (record { 0 = k })) [])) ≡ heap
kept_from [] k = refl
kept_from (o ∷ os) zero = ap (λ c. record { owner = o.owner; content = c } ∷ os) (kept_content o.content)
kept_from (o ∷ os) (suc k) = ap (λ t. o ∷ t) (kept_from os k)

kept_at : (old : Cells) (at : Oid) (cells : ℕ) → used old cells ≡ written (used old cells) at (with_elements (option_map_or held_by (content_at old.heap at) []))
kept_at old at cells = ap (λ heap. record (used old cells) { heap = heap }) (sym (kept_from old.heap at.0))

-- the cells of no copy are used, and the list stays
pub repeats-once : (a : Value) (at : Oid) (n : ℤ) (old new : Cells) (cells steps : ℕ)
    → cells ≡ (times n - 1) * length (option_map_or held_by (content_at old.heap at) []) → old.used + cells ≤ old.limit → new ≡ used old cells → times n ≡ 1
    → repeats_list a at (option_map_or held_by (content_at old.heap at) []) (Some n) (state_of old steps) ≡ gives a (state_of new steps)
repeats-once a at n old new cells steps e h first one =
    let xs : List Value = option_map_or held_by (content_at old.heap at) [] in
    repeats-within a at xs xs n old new new cells steps e h first (once n xs one)
    (subst (λ (t : Cells). t ≡ written t at (with_elements xs)) (sym first) (kept_at old at cells))

-- no cell is left for the copies
pub repeats-stopped : (a : Value) (at : Oid) (xs : List Value) (n : ℤ) (old new : Cells) (result : Result Value OpEnd) (f : OpEnd) (cells steps : ℕ)
    → cells ≡ (times n - 1) * length xs → IsErrAnd result (λ e. e ≡ f) → f ≡ end.StopCells → IsOver old cells → new ≡ old
    → Meets result (state_of new steps) (repeats_list a at xs (Some n) (state_of old steps))
repeats-stopped a at xs n old new (Ok v) f cells steps e stops stop h same = absurd stops
repeats-stopped a at xs n old new (Err g) f cells steps e stops stop h same =
    subst (λ (g : OpEnd). Meets {A = Value} (Err g) (state_of new steps) (repeats_list a at xs (Some n) (state_of old steps))) (sym (stops ∙ stop))
    (charged-over ((times n - 1) * length xs) (state_of old steps) (λ s. gives a (with_change s at (with_elements (repeated n xs)))) (subst (λ (k : ℕ). IsOver old k) e h) ∙ ap (λ (t : Cells). ends no_cell (state_of t steps)) (sym same))

-- the cells of the copies but the first
pub more-cells : (n : ℤ) (copies more size : ℕ) (xs : List Value) → more ≡ copies - 1 → copies ≡ times n → length xs ≡ size → 0 + more * size ≡ (times n - 1) * length xs
more-cells n copies more size xs e f l = zero_plus (more * size) ∙ ap (λ k. k * size) (e ∙ ap (λ k. k - 1) f) ∙ ap (λ k. (times n - 1) * k) (sym l) where
  zero_plus : (k : ℕ) → 0 + k ≡ k
  zero_plus k = omega arith

pub ruleset gains = (KeepsShape-Gains)
