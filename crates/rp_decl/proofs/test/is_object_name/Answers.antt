use Rattle.std.proofs.Common.{rules}
use Rattle.std.proofs.lemmas.Str.{encodes-chars}
use Rattle.rp_decl.proofs.test.is_object_name.Goals as goal

pub returns-then-is_name : goal.returns-then-is_name
returns-then-is_name c = rw (encodes-chars c.args.name.now c.utf8.name) (search rules)
