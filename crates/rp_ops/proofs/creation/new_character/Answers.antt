use Rattle.std.proofs.Common.{◌≡◌, ◌∷◌, ◌∙◌, [], ap, append-nil, encode_utf8, encode_utf8_all, length, sym}
use Rattle.rp_ops.proofs.CallerLemmas.{text-stopped, text-within}
use Rattle.rp_ops.proofs.creation.new_character.Goals as goal

pub returns-in_err-charge-clause-plain : goal.returns-in_err-charge-clause-plain
returns-in_err-charge-clause-plain c =
    let letter = c.args.letter in
    let cells : c.len_utf8.result ≡ length (encode_utf8_all (letter ∷ [])) = c.len_utf8.ensures.len ∙ sym (ap length (append-nil (encode_utf8 letter))) in
    (λ steps. text-stopped (letter ∷ []) c.args.store.now c.charge.new.store c.from_residual.result c.in_err-charge.field-0.0 _ steps cells
    c.from_residual.ensures.1 c.in_err-charge.ensures.stopped c.in_err-charge.ensures.over c.in_err-charge.ensures.same)

pub returns-clause-plain : goal.returns-clause-plain
returns-clause-plain c =
    let letter = c.args.letter in
    let cells : c.len_utf8.result ≡ length (encode_utf8_all (letter ∷ [])) = c.len_utf8.ensures.len ∙ sym (ap length (append-nil (encode_utf8 letter))) in
    (λ steps. text-within (letter ∷ []) c.in_ok-text.text c.args.store.now c.charge.new.store _ steps c.in_ok-text.ensures cells
    c.in_ok-charge.ensures.within c.in_ok-charge.ensures.charged)
