use Rattle.std.proofs.Common.{◌≡◌, encode_utf8_all, sym, ap, ◌∙◌}
use Rattle.std.proofs.lemmas.Str.{encodes-chars}
use Rattle.rp_decl.proofs.text_set.compare.Goals as goal

pub returns : goal.returns
returns c =
    let bytes : encode_utf8_all c.args.text.now ≡ c.as_str.result.now = ap encode_utf8_all (sym c.as_str.ensures) ∙ encodes-chars c.as_str.result.now c.as_str.utf8 in
    rw (bytes, encodes-chars c.args.other.now c.utf8.other) c.cmp.ensures
