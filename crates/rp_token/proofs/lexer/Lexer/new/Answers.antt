use Rattle.std.proofs.Common.{sym, arith, chars, map}
use Rattle.std.proofs.lemmas.Grind.{merely}
use Rattle.std.proofs.lemmas.Str.{length-le-encodes}
use Rattle.rp_token.specs.declared.lexer.Stage.TheVariants as stage
use Rattle.rp_token.specs.View.{item_view}
use Rattle.rp_token.proofs.Texts.{bytes-chars}
use Rattle.rp_token.proofs.lexer.Lexer.new.Goals as goal

pub invariant_of-result : goal.invariant_of-result
invariant_of-result c =
    let rest = c.without_mark-rest.result.now in
    let bytes = bytes-chars rest c.without_mark-rest.utf8 in
    let letters = length-le-encodes (chars rest) in
    let most = c.without_mark-rest.type_inv.1 in
    record { is_text = merely c.without_mark-rest.utf8; counted = omega arith }

pub returns : goal.returns
returns c = λ names k. record {
  size = sym (bytes-chars c.args.text.now c.utf8.text) k;
  items = map (item_view names) (c.new.ensures.items k);
  left = c.without_mark-rest.ensures k;
  columns = c.new-2.ensures k;
  brackets = c.new-3.ensures k;
  line = 1;
  stage = stage.Fresh;
}
