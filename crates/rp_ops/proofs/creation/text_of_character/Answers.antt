use Rattle.std.proofs.Common.{◌≡◌, ◌∷◌, ◌++◌, ◌∙◌, List, [], ℕ, IfOk, ap, append-nil, chars, encode_utf8, subst, sym}
use Rattle.std.proofs.lemmas.Str.{IsUtf8-encode, chars_from_encodes}
use Rattle.rp_ops.proofs.creation.text_of_character.Goals as goal

pub returns : goal.returns
returns c =
    let letter = c.args.letter in
    let bytes = c.in_ok-push.ensures.bytes ∙ ap (λ bs. bs ++ encode_utf8 letter) c.in_ok-text.ensures.bytes in
    subst (λ (cs : List ℕ). IfOk c.from_string.result (λ t. t ≡ cs))
    (ap chars bytes ∙ sym (chars_from_encodes (letter ∷ []) (encode_utf8 letter) (IsUtf8-encode letter c.ranges.letter.0) (append-nil (encode_utf8 letter)))) c.from_string.ensures
