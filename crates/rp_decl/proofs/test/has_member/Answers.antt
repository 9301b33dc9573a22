use Rattle.std.proofs.Common.{◌∙◌, ap, is_some, sym}
use Rattle.rp_base.proofs.CallerLemmas.{is_some-option_map}
use Rattle.rp_decl.proofs.test.has_member.Goals as goal

pub returns : goal.returns
returns c = c.is_some.ensures ∙ (sym (is_some-option_map _ _) ∙ ap is_some c.member.ensures)
