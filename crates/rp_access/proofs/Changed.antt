-- Changes of items and augmented assignment behind their decisions, from what is known of each part.
use Rattle.std.proofs.Common.{◌≡◌, Option, None, sym, ap, ◌∙◌}
use Rattle.rp_base.specs.declared.operator.BinOp.{BinOp}
use Rattle.rp_base.specs.declared.value.Name.{Name}
use Rattle.rp_base.specs.declared.value.OpEnd.{OpEnd}
use Rattle.rp_base.specs.declared.value.Side.{Side}
use Rattle.rp_base.specs.declared.value.Value.{Value}
use Rattle.rp_meaning.specs.Operators.{augmented_name, in_place_name}
use Rattle.rp_meaning.specs.Special.{Special, on_special, special}
use Rattle.rp_meaning.specs.State.{State, Outcome, heap_of, plainly}
use Rattle.rp_ops.specs.Inplace.{inplace}
use Rattle.rp_ops.specs.Outcome.{gives, on_value}
use Rattle.rp_proxy.specs.Taken.{taken}
use Rattle.rp_access.specs.Changes.{augmented, changed_by}
use Rattle.rp_access.specs.Comes.{IsEnd}
use Rattle.rp_access.specs.Parts.{asking}
use Rattle.rp_access.proofs.Going.{IsEnd-same, IsEnd-then, gives-then}

-- once a change of an item is decided, which is for no special method

pub changed_plainly : (call : Special → State → Outcome (Unit {0})) (o : Value) (name : Name) (operation : State → Outcome (Unit {0})) (s t : State)
    → asking name o s ≡ gives (tt {0}) t → special (heap_of t) o name ≡ None → changed_by call name o operation s ≡ operation t
changed_plainly call o name operation s t is none =
    gives-then (tt {0}) t (asking name o s) (λ _ s. on_special (special (heap_of s) o name) call operation s) is
    ∙ ap (λ (m : Option Special). on_special m call operation t) none

-- once both decisions of an augmented assignment are made

module _ (side : Side) (op : BinOp) (a b : Value) (s t r : State) (x y : Name) (left : x ≡ in_place_name op) (right : y ≡ augmented_name (heap_of t) op a)
    (first : asking x a s ≡ gives (tt {0}) t) (second : asking y b t ≡ gives (tt {0}) r) where
  abbrev final : Value → State → Outcome Value
  final v s = gives (taken (heap_of s) side v) s

  abbrev behind : State → Outcome Value
  behind s = on_value (plainly (inplace side op a b) s) final

  settled : augmented side op a b s ≡ behind r
  settled =
      gives-then (tt {0}) t _ (λ _ s. on_value (asking (augmented_name (heap_of s) op a) b s) (λ _ s. behind s)) (ap (λ n. asking n a s) (sym left) ∙ first)
      ∙ gives-then (tt {0}) r _ (λ _ s. behind s) (ap (λ n. asking n b t) (sym right) ∙ second)

  pub augmented_gives : (v : Value) (u : State) → plainly (inplace side op a b) r ≡ gives v u → augmented side op a b s ≡ gives (taken (heap_of u) side v) u
  augmented_gives v u is = settled ∙ gives-then v u _ final is

  pub augmented_ends : (u : State) (e : OpEnd) → IsEnd e u (plainly (inplace side op a b) r) → IsEnd e u (augmented side op a b s)
  augmented_ends u e is = IsEnd-same e u _ _ settled (IsEnd-then e u _ final is)
