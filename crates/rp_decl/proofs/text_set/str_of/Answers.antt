use Rattle.toml.specs.View.{view}
use Rattle.rp_decl.proofs.Documents.{text_of-none}
use Rattle.rp_decl.proofs.text_set.str_of.Goals as goal

pub returns-in-None : goal.returns-in-None
returns-in-None c = text_of-none (view c.args.value.now) c.in-None.ensures
