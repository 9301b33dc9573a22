use Rattle.std.proofs.Common.{◌≡◌, ◌+◌, ◌*◌, ◌^◌, ◌∙◌, sym, ap, subst, length, min, encode_utf8_all, arith, ℕ}
use Rattle.std.specs.Str.{IsAscii}
use Rattle.std.proofs.lemmas.Str.{encodes-chars}
use Rattle.rp_store.proofs.text_size.bytes_of.Goals as goal

pub returns-in-Some-clause-other : goal.returns-in-Some-clause-other
returns-in-Some-clause-other c = (λ not_ascii small. absurd (not_ascii (subst IsAscii c.in-Some.ensures.same c.in-Some.ensures.ascii)))

pub returns-in-None-clause-other : goal.returns-in-None-clause-other
returns-in-None-clause-other c = (λ not_ascii small.
    let bytes : length c.as_str.result.now ≡ length (encode_utf8_all c.args.text.now) = ap length (sym (encodes-chars c.as_str.result.now c.as_str.utf8) ∙ ap encode_utf8_all c.as_str.ensures) in
    omega (arith, small, bytes, c.len.ensures, c.saturating_mul-places.ensures, c.saturating_add.ensures))
