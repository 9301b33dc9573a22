-- Operators behind their decisions, from what is known of each part.
use Rattle.std.proofs.Common.{◌≡◌, List, ◌∙◌}
use Rattle.rp_base.specs.declared.operator.BinOp.{BinOp}
use Rattle.rp_base.specs.declared.operator.UnOp.{UnOp}
use Rattle.rp_base.specs.declared.value.OpEnd.{OpEnd}
use Rattle.rp_base.specs.declared.value.Value.{Value}
use Rattle.rp_frame.specs.declared.activation.Activation.{Activation}
use Rattle.rp_meaning.specs.Expressions as forms
use Rattle.rp_meaning.specs.Frame.{Meaning, Run}
use Rattle.rp_meaning.specs.Operators.{operate_unary, unary_name}
use Rattle.rp_meaning.specs.State.{State, heap_of}
use Rattle.rp_ops.specs.Binary as binary
use Rattle.rp_ops.specs.Outcome.{gives, on_found}
use Rattle.rp_proxy.specs.declared.world.World.{World}
use Rattle.rp_access.specs.Comes.{IsEnd}
use Rattle.rp_access.specs.Parts.{operated, unary_asked}
use Rattle.rp_engine.specs.Law.{frame_in}
use Rattle.rp_engine.specs.Moment.{frame_of, run_of}
use Rattle.rp_access.specs.Moment.{state_of}
use Rattle.rp_engine.specs.Rest.{with_operands}
use Rattle.rp_engine.specs.declared.machine.Machine.{Machine}
use Rattle.rp_engine.specs.declared.units.Units.{Units}
use Rattle.rp_access.proofs.Going.{IsEnd-same, IsEnd-then, gives-then}
use Rattle.rp_engine.proofs.Going.{asked_then, operate_is}

module _ (m : Machine) (w u : World) (os : List (BinOp × Meaning)) where
  -- the operators behind an operator that gave a value, or that has none
  pub operands_gives : (op : BinOp) (a b v : Value) → operated m.frame.side op a b (state_of w) ≡ gives v (state_of u) → (base : Run)
      → with_operands op a b os (frame_in base m) (state_of w) ≡ forms.operands os v (frame_in base m) (state_of u)
  operands_gives op a b v is base = gives-then v (state_of u) _ (λ v s. forms.operands os v (frame_in base m) s) (operate_is base m.units.now m.frame op a b (state_of w) ∙ is)

  pub operands_ends : (op : BinOp) (a b : Value) (e : OpEnd) → IsEnd e (state_of u) (operated m.frame.side op a b (state_of w)) → (base : Run)
      → IsEnd e (state_of u) (with_operands op a b os (frame_in base m) (state_of w))
  operands_ends op a b e is base =
      IsEnd-then e (state_of u) _ (λ v s. forms.operands os v (frame_in base m) s) (IsEnd-same e (state_of u) _ _ (operate_is base m.units.now m.frame op a b (state_of w)) is)

-- a unary operator behind its decision
pub unary_is : (base : Run) (units : Units) (at : Activation) (op : UnOp) (a : Value) (s : State)
    → operate_unary op a (frame_of (run_of base units) at) s ≡ unary_asked op a s
unary_is base units at op a s = asked_then base units at (unary_name op) a s (λ s. on_found (binary.int_value (binary.unary (heap_of s) op a)) s gives)
