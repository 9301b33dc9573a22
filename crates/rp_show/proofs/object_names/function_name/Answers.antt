use Rattle.std.proofs.Common.{refl}
use Rattle.std.specs.Str.{chars}
use Rattle.rp_show.proofs.object_names.function_name.Goals as goal

pub returns-in-None : goal.returns-in-None
unfolding chars
returns-in-None c = rw c.in-None.is refl
