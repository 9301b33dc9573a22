use Rattle.std.proofs.Common.{rules, ◌≡◌, sym, refl, ℕ, List, true, false, nat_le, string_bytes, length, encode_utf8_all, chars}
use Rattle.std.specs.declared.string.String.{String}
use Rattle.std.specs.declared.alloc.Global.{Global}
use Rattle.std.proofs.lemmas.Bool.{le-leb}
use Rattle.std.proofs.lemmas.Str.{chars_from_encodes, IsUtf8-string_bytes}
use Rattle.unicode_normalization.specs.Forms.{Nfkc, nfkc}
use Rattle.unicode_normalization.proofs.FormsLemmas.{normalize_idem}
use Rattle.rp_base.specs.Identifier.{IsIdentifier, is_identifier}
use Rattle.rp_base.proofs.identifiers.identifier.Goals as goal
use Rattle.rp_base.proofs.identifiers.identifier.Goals.{else-is_identifier-via-then-is_identifier+else-len-le-LONGEST_NAME, else-is_identifier-via-else-is_identifier}

-- a text that spells these characters has them
chars-spelled : (t : String Global) (cs : List ℕ) → string_bytes t ≡ encode_utf8_all cs → chars (string_bytes t) ≡ cs
chars-spelled t cs e = sym (chars_from_encodes cs (string_bytes t) (IsUtf8-string_bytes t) (sym e))

-- a form that is short enough is an identifier in its form
IsIdentifier-form : (word : List ℕ) → is_identifier (nfkc word) ≡ true → nat_le (length (encode_utf8_all (nfkc word))) 255 ≡ true → IsIdentifier (nfkc word)
IsIdentifier-form word second short = rw (normalize_idem Nfkc word, second, short) refl

pub returns-then-len-le-LONGEST_NAME : goal.returns-then-len-le-LONGEST_NAME
returns-then-len-le-LONGEST_NAME c =
    let word = chars c.args.word.now in
    let spelled : string_bytes c.in_ok-form.form ≡ encode_utf8_all (nfkc word) = c.in_ok-form.ensures in
    let letters = chars-spelled c.in_ok-form.form (nfkc word) spelled in
    let first : is_identifier word ≡ true = search rules in
    let second : is_identifier (nfkc word) ≡ true = rw (← letters, ← c.as_str.ensures.value) (search rules) in
    let short : nat_le (length (encode_utf8_all (nfkc word))) 255 ≡ true = le-leb _ _ (rw (← spelled) (search rules)) in
    let made : c.in_ok-new.field-0 ≡ nfkc word = rw (c.in_ok-new.ensures, c.as_str-then-len-le-LONGEST_NAME.ensures.value) letters in
    record {
      form = rw (made, first, second, short) refl;
      identifier = rw made (IsIdentifier-form word second short);
    }

pub returns-clause-form : goal.returns-clause-form
returns-clause-form c =
    let word = chars c.args.word.now in
    let spelled : string_bytes c.in_ok-form.form ≡ encode_utf8_all (nfkc word) = c.in_ok-form.ensures in
    let letters = chars-spelled c.in_ok-form.form (nfkc word) spelled in
    let first : is_identifier word ≡ true = search rules in
    elim c.else-is_identifier.branch [
      | else-is_identifier-via-then-is_identifier+else-len-le-LONGEST_NAME w ↦
          let second : is_identifier (nfkc word) ≡ true = rw (← letters, ← c.as_str.ensures.value) (search rules) in
          let long : nat_le (length (encode_utf8_all (nfkc word))) 255 ≡ false = rw (← spelled) (search rules) in
          rw (first, second, long) refl
      | else-is_identifier-via-else-is_identifier w ↦
          let second : is_identifier (nfkc word) ≡ false = rw (← letters, ← c.as_str.ensures.value) (search rules) in
          rw (first, second) refl
    ]
