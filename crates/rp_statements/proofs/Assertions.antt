-- The exception of a failed assertion.
use Rattle.std.proofs.Common.{◌≡◌, sym, ◌∙◌}
use Rattle.rp_base.specs.declared.kind.Kind.TheVariants.{AssertionError}
use Rattle.rp_base.specs.declared.value.Value.{Value}
use Rattle.rp_base.specs.declared.word.TheConstants.{STR}
use Rattle.rp_frame.specs.declared.activation.Activation.{Activation}
use Rattle.rp_meaning.specs.Frame.{Run}
use Rattle.rp_meaning.specs.State.{State, plainly}
use Rattle.rp_meaning.proofs.Laws.{then_then}
use Rattle.rp_ops.specs.Outcome.{on_value, raises}
use Rattle.rp_show.specs.Show.{show}
use Rattle.rp_engine.specs.Moment.{frame_of, run_of}
use Rattle.rp_access.specs.Parts.{asking, shown}
use Rattle.rp_engine.specs.Rest.{failed_with}
use Rattle.rp_engine.specs.declared.units.Units.{Units}
use Rattle.rp_engine.proofs.Going.{asked_then}

pub failed_shown : (base : Run) (units : Units) (a : Activation) (v : Value) (s : State)
    → failed_with v (frame_of (run_of base units) a) s ≡ on_value (shown v s) (λ t s. raises AssertionError t s)
failed_shown base units a v s =
    asked_then base units a STR v s (λ s. on_value (plainly (show s.names v) s) (λ t s. raises AssertionError t s))
    ∙ sym (then_then (asking STR v s) (λ _ s. plainly (show s.names v) s) (λ t s. raises AssertionError t s))
