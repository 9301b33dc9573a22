-- How a part was left that came to its end, and how the code tells that.
use Rattle.std.specs.Prelude.{Bool, Result, Ok, Err, true, false}
use Rattle.rp_base.specs.declared.value.OpEnd.{OpEnd}
use Rattle.rp_engine.specs.Rest.{Held, did, gave}
use Rattle.rp_frame.specs.declared.control.Control.{Control}
use Rattle.rp_frame.specs.declared.control.Control.TheVariants as control
use Rattle.rp_meaning.specs.State as meant
use Rattle.rp_meaning.specs.State.{Flow, Outcome}
use Rattle.rp_ops.specs.Outcome.{gives, on_value}
use Rattle.rp_step.specs.declared.unwinding.Left.{Left}
use Rattle.rp_step.specs.declared.unwinding.Left.TheVariants as left

abbrev pub flow_of : Left → Flow
flow_of left.Next = meant.next
flow_of left.Broke = meant.broke
flow_of left.Continued = meant.continued
flow_of (left.Returned v) = meant.returned v

abbrev pub flows : Result Left OpEnd → Result Flow OpEnd
flows (Ok left) = Ok (flow_of left)
flows (Err e) = Err e

-- a statement or a block as it says, an expression by `return` with its value
abbrev pub left_by : Held → Outcome Flow
left_by (gave f vs o) = on_value o (λ v s. gives (meant.returned v) s)
left_by (did f vs o) = o

-- a machine stands at the end of a part
abbrev pub at_end : Control → Bool
at_end control.Value = true
at_end control.NoValue = true
at_end control.Next = true
at_end control.Broke = true
at_end control.Continued = true
at_end control.CutOff = true
at_end control.Returned = true
at_end _ = false

-- it stands at another end than a value or a statement that was done
abbrev pub ends_otherwise : Control → Bool
ends_otherwise control.NoValue = true
ends_otherwise control.Broke = true
ends_otherwise control.Continued = true
ends_otherwise control.CutOff = true
ends_otherwise control.Returned = true
ends_otherwise _ = false

-- it asks for a call, or for the turns of a comprehension
abbrev pub is_asking : Control → Bool
is_asking (control.Call n m) = true
is_asking (control.Special name n) = true
is_asking (control.Comprehension block first behind made spot) = true
is_asking _ = false
