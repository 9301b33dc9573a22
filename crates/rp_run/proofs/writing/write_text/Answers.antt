use Rattle.std.proofs.Common.{◌≡◌, encode_utf8_all, ap, sym, ◌∙◌}
use Rattle.std.proofs.lemmas.Str.{encodes-chars}
use Rattle.rp_run.proofs.writing.write_text.Goals as goal

pub returns-clause-whole : goal.returns-clause-whole
returns-clause-whole g c =
    let bytes : encode_utf8_all c.args.text.now ≡ c.as_bytes.result.now =
    ap encode_utf8_all (sym c.as_str.ensures)
    ∙ (encodes-chars c.as_str.result.now c.as_str.utf8 ∙ sym c.as_bytes.ensures.value) in
    rw bytes c.write_bytes.ensures.whole

pub returns-clause-front : goal.returns-clause-front
returns-clause-front g c =
    let bytes : encode_utf8_all c.args.text.now ≡ c.as_bytes.result.now =
    ap encode_utf8_all (sym c.as_str.ensures)
    ∙ (encodes-chars c.as_str.result.now c.as_str.utf8 ∙ sym c.as_bytes.ensures.value) in
    rw bytes c.write_bytes.ensures.front
