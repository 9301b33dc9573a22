-- The end that stands in a machine, as one of the meaning.
use Rattle.std.specs.Prelude.{Option, Some}
use Rattle.rp_base.specs.declared.value.OpEnd.{OpEnd}
use Rattle.rp_base.specs.declared.value.OpEnd.TheVariants as end
use Rattle.rp_ops.specs.Outcome.{End, raised, no_step, no_cell}

abbrev pub end_of : Option OpEnd → End
end_of (Some (end.Raised r)) = raised r
end_of (Some end.StopSteps) = no_step
end_of _ = no_cell
