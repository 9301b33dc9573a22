use Rattle.std.proofs.Common.{◌≡◌, ℕ, ◌<◌, ◌^◌, List, ◌++◌, chars, codes, string_bytes, arith, refl, ap, ◌∙◌, append_assoc}
use Rattle.std.specs.Fmt.{decimal}
use Rattle.std.specs.Str.{IsAscii}
use Rattle.std.proofs.lemmas.Fmt.{IsAscii-decimal}
use Rattle.std.proofs.lemmas.Str.{IsAscii-append, IsUtf8-from_ascii, chars-IsAscii, chars-append}
use Rattle.rp_base.proofs.CallerLemmas.{IsAscii-tested}
use Rattle.rp_policy.proofs.offence.text_at.Goals as goal

regrouped : (a b c d e f : List ℕ) → (a ++ b ++ c ++ d) ++ (e ++ f) ≡ a ++ b ++ c ++ (d ++ e ++ f)
regrouped a b c d e f = simp append_assoc

pub returns : goal.returns
returns c =
    let number = c.args.line.0 in
    let before = c.args.before.now in
    let word = c.args.word.now in
    let behind = c.args.behind.now in
    let small : number < 2 ^ 64 = omega arith in
    let front = codes "line " ++ decimal number ++ codes ": " ++ before in
    let ascii : IsAscii front =
    IsAscii-append (codes "line " ++ decimal number ++ codes ": ") before
    (IsAscii-append (codes "line " ++ decimal number) (codes ": ")
    (IsAscii-append (codes "line ") (decimal number) (IsAscii-tested (codes "line ") refl) (IsAscii-decimal number small))
    (IsAscii-tested (codes ": ") refl))
    (IsAscii-tested before c.requires.before) in
    let bytes : string_bytes c.in_ok-format.field-0 ≡ front ++ (word ++ behind) = simp append_assoc c.in_ok-format.ensures.ok in
    let tail : chars (word ++ behind) ≡ chars word ++ behind =
    chars-append word behind c.utf8.word ∙ ap (λ x. chars word ++ x) (chars-IsAscii behind (IsAscii-tested behind c.requires.behind)) in
    ap chars bytes
    ∙ (chars-append front (word ++ behind) (IsUtf8-from_ascii front ascii)
    ∙ ((λ i. chars-IsAscii front ascii i ++ tail i)
    ∙ regrouped (codes "line ") (decimal number) (codes ": ") before (chars word) behind))
