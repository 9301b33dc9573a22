-- The exceptions that calls of built-in functions raise (Python Standard Library, Built-in Functions, Built-in Exceptions), each by its cause. The
-- texts are rules of our own.
use Rattle.std.specs.Prelude.{codes}
use Rattle.rp_base.specs.declared.kind.Kind.TheVariants.{TypeError, ValueError}
use Rattle.rp_base.specs.declared.value.Raised.{Raised}
use Rattle.rp_ops.specs.Outcome.{State, Outcome, ends, raised}
use Rattle.rp_native.specs.declared.fault.Fault.{Fault}
use Rattle.rp_native.specs.declared.fault.Fault.TheVariants as fault

-- the exception that is raised
abbrev pub raised_by : Fault → Raised
raised_by fault.Call = record { kind = TypeError; text = codes "call" }
raised_by fault.Count = record { kind = TypeError; text = codes "arguments" }
raised_by fault.Argument = record { kind = TypeError; text = codes "argument" }
raised_by fault.Length = record { kind = TypeError; text = codes "len" }
raised_by fault.Digits = record { kind = ValueError; text = codes "int" }
raised_by fault.Empty = record { kind = ValueError; text = codes "empty" }
raised_by fault.Step = record { kind = ValueError; text = codes "range" }

abbrev pub fails : {A : Type 0} → Fault → State → Outcome A
fails fault s = ends (raised (raised_by fault)) s
