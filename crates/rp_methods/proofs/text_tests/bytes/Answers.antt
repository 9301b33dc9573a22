use Rattle.std.proofs.Common.{encode_utf8_all, ap, sym, ◌∙◌}
use Rattle.std.proofs.lemmas.Str.{encodes-chars}
use Rattle.rp_methods.proofs.text_tests.bytes.Goals as goal

pub returns : goal.returns
returns c = sym (encodes-chars c.as_str.result.now c.as_str.utf8) ∙ ap encode_utf8_all c.as_str.ensures
