use Rattle.std.proofs.Common.{refl}
use Rattle.std.specs.Str.{chars}
use Rattle.rp_methods.proofs.fault.Fault.text.Goals as goal

pub returns-in-Call : goal.returns-in-Call
unfolding chars
returns-in-Call c = rw c.in-Call.is refl

pub returns-in-Arguments : goal.returns-in-Arguments
unfolding chars
returns-in-Arguments c = rw c.in-Arguments.is refl

pub returns-in-Argument : goal.returns-in-Argument
unfolding chars
returns-in-Argument c = rw c.in-Argument.is refl

pub returns-in-Absent : goal.returns-in-Absent
unfolding chars
returns-in-Absent c = rw c.in-Absent.is refl

pub returns-in-Empty : goal.returns-in-Empty
unfolding chars
returns-in-Empty c = rw c.in-Empty.is refl
