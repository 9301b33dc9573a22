use Rattle.std.proofs.Common.{◌∙◌}
use Rattle.rp_decl.proofs.Words.{is_id-chars}
use Rattle.rp_decl.proofs.word.is_id.Goals as goal

pub returns : goal.returns
returns c = c.is_id_by_bytes.ensures ∙ is_id-chars c.args.word.now c.utf8.word
