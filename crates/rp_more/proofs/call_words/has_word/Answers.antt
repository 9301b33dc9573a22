use Rattle.std.proofs.Common.{◌≡◌, ◌∙◌, sym, ap, ℕ, List, Some, chars, encode_utf8_all, arith, rules}
use Rattle.std.proofs.lemmas.Option.{slice_get_within}
use Rattle.std.proofs.lemmas.Str.{encodes-chars}
use Rattle.std.specs.Cmp.Lexicographic.{bytes_decides}
use Rattle.std.specs.Str.{IsUtf8}
use Rattle.rp_more.proofs.call_words.has_word.Goals as goal

same_bytes : (bs cs : List ℕ) → IsUtf8 bs → IsUtf8 cs → Some (chars bs) ≡ Some (chars cs) → bs ≡ cs
same_bytes bs cs one other e =
    let same : chars bs ≡ chars cs = cc in
    sym (encodes-chars bs one) ∙ ap encode_utf8_all same ∙ encodes-chars cs other

pub returns-then-name-len : goal.returns-then-name-len
returns-then-name-len c =
    let t = c.text.result.now in
    let w = c.args.word.now in (
      λ is. c.text.ensures.word ∙ ap (λ bs. Some (chars bs)) ((bytes_decides t w).0 (sym c.eq.ensures ∙ is)),
      λ at. c.eq.ensures ∙ (bytes_decides t w).1 (same_bytes t w c.text.utf8 c.utf8.word (sym c.text.ensures.word ∙ at)),
    )

pub returns-else-name-len : goal.returns-else-name-len
returns-else-name-len c = (
  λ is. absurd (search (rules, is)),
  λ at. let within = slice_get_within c.args.names.now c.args.name.0 (chars c.args.word.now) at in absurd (omega (arith, within, c.len.ensures, c.if-name-len.false)),
)
