use Rattle.std.specs.Str.{chars}
use Rattle.std.proofs.Common.{refl}
use Rattle.rp_native.proofs.fault.Fault.text.Goals as goal

pub returns-in-Call : goal.returns-in-Call
unfolding chars
returns-in-Call c = rw c.in-Call.is refl

pub returns-in-Count : goal.returns-in-Count
unfolding chars
returns-in-Count c = rw c.in-Count.is refl

pub returns-in-Argument : goal.returns-in-Argument
unfolding chars
returns-in-Argument c = rw c.in-Argument.is refl

pub returns-in-Length : goal.returns-in-Length
unfolding chars
returns-in-Length c = rw c.in-Length.is refl

pub returns-in-Digits : goal.returns-in-Digits
unfolding chars
returns-in-Digits c = rw c.in-Digits.is refl

pub returns-in-Empty : goal.returns-in-Empty
unfolding chars
returns-in-Empty c = rw c.in-Empty.is refl

pub returns-in-Step : goal.returns-in-Step
unfolding chars
returns-in-Step c = rw c.in-Step.is refl
