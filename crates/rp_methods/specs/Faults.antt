-- The exceptions that methods raise (Python Standard Library, Built-in exceptions), each by its cause. The texts are rules of our own. Here the
-- exception is there at once; the code has a kind and a literal, and makes the text when it raises.
use Rattle.std.specs.Prelude.{codes}
use Rattle.rp_base.specs.declared.kind.Kind.TheVariants.{TypeError, ValueError}
use Rattle.rp_base.specs.declared.value.Raised.{Raised}
use Rattle.rp_ops.specs.Outcome.{State, Outcome, ends, raised}
use Rattle.rp_methods.specs.declared.fault.Fault.{Fault}
use Rattle.rp_methods.specs.declared.fault.Fault.TheVariants as fault

-- the exception that is raised
abbrev pub raised_by : Fault → Raised
raised_by fault.Call = record { kind = TypeError; text = codes "call" }
raised_by fault.Arguments = record { kind = TypeError; text = codes "arguments" }
raised_by fault.Argument = record { kind = TypeError; text = codes "argument" }
raised_by fault.Absent = record { kind = ValueError; text = codes "value" }
raised_by fault.Empty = record { kind = ValueError; text = codes "empty" }

abbrev pub faults : {A : Type 0} → Fault → State → Outcome A
faults f s = ends (raised (raised_by f)) s

abbrev pub no_method : {A : Type 0} → State → Outcome A
no_method s = faults fault.Call s

abbrev pub wrong_arguments : {A : Type 0} → State → Outcome A
wrong_arguments s = faults fault.Arguments s

abbrev pub wrong_argument : {A : Type 0} → State → Outcome A
wrong_argument s = faults fault.Argument s
