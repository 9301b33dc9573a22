use Rattle.std.specs.Str.{chars}
use Rattle.rp_decl.proofs.row.is_public.Goals as goal

pub returns : goal.returns
unfolding chars
returns c = c.is.ensures.value
