-- Operators behind their decisions, from what is known of each part.
use Rattle.std.proofs.Common.{◌≡◌, sym, ap, ◌∙◌}
use Rattle.rp_base.specs.declared.operator.BinOp.{BinOp}
use Rattle.rp_base.specs.declared.value.Name.{Name}
use Rattle.rp_base.specs.declared.value.OpEnd.{OpEnd}
use Rattle.rp_base.specs.declared.value.Side.{Side}
use Rattle.rp_base.specs.declared.value.Value.{Value}
use Rattle.rp_meaning.specs.Operators.{left_name, right_name}
use Rattle.rp_meaning.specs.State.{State, Outcome, heap_of, plainly}
use Rattle.rp_ops.specs.Binary as binary
use Rattle.rp_ops.specs.Outcome.{gives, on_value}
use Rattle.rp_proxy.specs.Taken.{taken}
use Rattle.rp_access.specs.Comes.{IsEnd}
use Rattle.rp_access.specs.Parts.{asking, operated}
use Rattle.rp_access.proofs.Going.{IsEnd-same, IsEnd-then}

module _ (side : Side) (op : BinOp) (a b : Value) where
  last : Value → State → Outcome Value
  last v s = gives (taken (heap_of s) side v) s

  decided : (s t r : State) (x y : Name) → x ≡ left_name op → y ≡ right_name op → asking x a s ≡ gives (tt {0}) t → asking y b t ≡ gives (tt {0}) r
      → operated side op a b s ≡ on_value (plainly (binary.binary side op a b) r) last
  unfolding last
  decided s t r x y left right first second =
      ap (λ o. on_value o (λ _ s. on_value (asking (right_name op) b s) (λ _ s. on_value (plainly (binary.binary side op a b) s) last))) (ap (λ n. asking n a s) (sym left) ∙ first)
      ∙ ap (λ o. on_value o (λ _ s. on_value (plainly (binary.binary side op a b) s) last)) (ap (λ n. asking n b t) (sym right) ∙ second)

  pub operated_ends : (s t r u : State) (x y : Name) (e : OpEnd) → x ≡ left_name op → y ≡ right_name op → asking x a s ≡ gives (tt {0}) t → asking y b t ≡ gives (tt {0}) r
      → IsEnd e u (plainly (binary.binary side op a b) r) → IsEnd e u (operated side op a b s)
  operated_ends s t r u x y e left right first second is =
      IsEnd-same e u (operated side op a b s) _ (decided s t r x y left right first second) (IsEnd-then e u _ last is)
