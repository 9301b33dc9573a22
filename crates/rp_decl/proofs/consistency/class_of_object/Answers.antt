use Rattle.std.proofs.Common.{rules}
use Rattle.std.proofs.lemmas.Str.{chars-nil}
use Rattle.toml.specs.declared.value.Value.{the_lemmas}
use Rattle.rp_decl.proofs.consistency.class_of_object.Goals as goal

pub returns-in_default : goal.returns-in_default
returns-in_default c = rw chars-nil (search (rules, the_lemmas))
