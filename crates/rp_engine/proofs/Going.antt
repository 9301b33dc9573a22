-- What the code of a machine asks, as what is decided; and the end that is kept.
use Rattle.std.proofs.Common.{◌≡◌, ◌≢◌, Some, refl, sym, ◌∙◌}
use Rattle.rp_base.specs.declared.operator.BinOp.{BinOp}
use Rattle.rp_base.specs.declared.value.Name.{Name}
use Rattle.rp_base.specs.declared.value.OpEnd.{OpEnd}
use Rattle.rp_base.specs.declared.value.OpEnd.TheVariants as end
use Rattle.rp_base.specs.declared.value.Value.{Value}
use Rattle.rp_base.specs.declared.word.TheConstants.{BOOL}
use Rattle.rp_frame.specs.declared.activation.Activation.{Activation}
use Rattle.rp_meaning.specs.Frame.{Run, Frame, asked_for}
use Rattle.rp_meaning.specs.Operators.{operate, left_name, right_name}
use Rattle.rp_meaning.specs.State.{State, Outcome, choose, heap_of, plainly}
use Rattle.rp_meaning.specs.Walks.{on_truth}
use Rattle.rp_meaning.proofs.Laws.{then_then}
use Rattle.rp_ops.specs.Binary as binary
use Rattle.rp_ops.specs.Operand.{truth_of}
use Rattle.rp_ops.specs.Outcome.{gives, ends, on_value}
use Rattle.rp_proxy.specs.Taken.{taken}
use Rattle.rp_access.proofs.Going as decided
use Rattle.rp_access.proofs.Going.{on_same}
use Rattle.rp_access.specs.Comes.{IsEnd}
use Rattle.rp_access.specs.Parts.{asking, operated, truth_asked}
use Rattle.rp_engine.specs.Ends.{end_of}
use Rattle.rp_engine.specs.Moment.{frame_of, run_of}
use Rattle.rp_engine.specs.declared.units.Units.{Units}

-- the end that is kept
pub kept_end : {A : Type 0} (e : OpEnd) (s : State) (o : Outcome A) → e ≢ end.Memory → IsEnd e s o → o ≡ ends (end_of (Some e)) s
kept_end (end.Raised r) s o other is = is
kept_end end.StopSteps s o other is = is
kept_end end.StopCells s o other is = is
kept_end end.Memory s o other is = absurd (other refl)

module _ (base : Run) (units : Units) (a : Activation) where
  abbrev frame : Frame
  frame = frame_of (run_of base units) a

  pub asked_then : {A : Type 0} (name : Name) (v : Value) (s : State) (go : State → Outcome A) → asked_for frame name v s go ≡ on_value (asking name v s) (λ _ s. go s)
  asked_then name v s go = decided.asked_then frame name v s go

  pub truth_then : {A : Type 0} (v : Value) (s : State) (this other : State → Outcome A) → on_truth v frame s this other ≡ on_value (truth_asked v s) (λ b s. choose b this other s)
  truth_then v s this other =
      asked_then BOOL v s (λ s. choose (truth_of (heap_of s) v) this other s)
      ∙ sym (then_then (asking BOOL v s) (λ _ s. gives (truth_of (heap_of s) v) s) (λ b s. choose b this other s))

  pub operate_is : (op : BinOp) (x y : Value) (s : State) → operate op x y frame s ≡ operated a.side op x y s
  operate_is op x y s =
      asked_then (left_name op) x s (λ s. asked_for frame (right_name op) y s last)
      ∙ on_same (asking (left_name op) x s) _ _ (λ u t. asked_then (right_name op) y t last) where
        last : State → Outcome Value
        last s = on_value (plainly (binary.binary a.side op x y) s) (λ v s. gives (taken (heap_of s) a.side v) s)
