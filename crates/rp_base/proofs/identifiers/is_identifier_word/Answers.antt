use Rattle.std.proofs.Common.{◌≡◌, ◌&&◌, true, false, nat_le, length, chars, rules, refl}
use Rattle.unicode_normalization.specs.Forms.{Nfkc, is_in_form}
use Rattle.rp_base.specs.Identifier.{is_identifier, is_identifier_word, longest_name}
use Rattle.rp_base.proofs.Spelling.{is_identifier_word-chars, is_identifier_word-decides, is_in_form-decided}
use Rattle.rp_base.proofs.identifiers.is_identifier_word.Goals as goal

pub returns-then-not-is_short_identifier : goal.returns-then-not-is_short_identifier
returns-then-not-is_short_identifier c =
    let word = chars c.args.word.now in
    let short : (is_identifier word && nat_le (length c.args.word.now) longest_name) ≡ false = search rules in
    let value : false ≡ is_identifier_word word = rw (is_identifier_word-chars c.args.word.now c.utf8.word, short) refl in
    record { value = value; identifier = is_identifier_word-decides false word value }

pub returns : goal.returns
returns c =
    let word = chars c.args.word.now in
    let short : (is_identifier word && nat_le (length c.args.word.now) longest_name) ≡ true = search rules in
    let form : c.in_ok-is_nfkc.field-0 ≡ is_in_form Nfkc word = is_in_form-decided _ word c.in_ok-is_nfkc.ensures.answer in
    let value : c.in_ok-is_nfkc.field-0 ≡ is_identifier_word word = rw (is_identifier_word-chars c.args.word.now c.utf8.word, short) form in
    record { value = value; identifier = is_identifier_word-decides _ word value }
