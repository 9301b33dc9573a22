use Rattle.std.proofs.Common.{encode_utf8_all, ap, ◌∙◌}
use Rattle.rp_methods.proofs.Turns.{letters-none, letters-some}
use Rattle.rp_methods.proofs.text_tests.bytes_of.Goals as goal

pub returns-in-Some : goal.returns-in-Some
returns-in-Some c = c.bytes.ensures ∙ ap encode_utf8_all (letters-some c.args.value.now c.in-Some.text.now c.in-Some.ensures)

pub returns-in-None : goal.returns-in-None
returns-in-None c = ap encode_utf8_all (letters-none c.args.value.now c.in-None.ensures)
