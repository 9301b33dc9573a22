use Rattle.std.proofs.Common.{◌≡◌, ◌&&◌, true, false, not, nat_eq, chars, codes, refl, sym, ap, ◌∙◌}
use Rattle.std.specs.List.{starts_with}
use Rattle.std.proofs.lemmas.Str.Pattern.{starts_text}
use Rattle.rp_base.specs.Same.{same_text}
use Rattle.rp_base.proofs.CallerLemmas.{IsAscii-tested}
use Rattle.rp_policy.proofs.Spelled.{same_text-chars, starts_with-chars}
use Rattle.rp_policy.proofs.forbidden_words.is_private.Goals as goal

pub returns-then-starts_with : goal.returns-then-starts_with
returns-then-starts_with c =
    let word = c.args.word.now in
    let ascii = IsAscii-tested (codes "_") refl in
    let begins : starts_with nat_eq (chars word) (codes "_") ≡ true =
    sym (starts_text _ (codes "_") word c.starts_with.ensures.cases ∙ starts_with-chars word (codes "_") c.utf8.word ascii) ∙ c.if-starts_with.true in
    c.ne.ensures
    ∙ (ap not (same_text-chars word (codes "_") c.utf8.word ascii)
    ∙ sym (ap (λ b. b && not (same_text (chars word) (codes "_"))) begins))

pub returns-else-starts_with : goal.returns-else-starts_with
returns-else-starts_with c =
    let word = c.args.word.now in
    let begins : starts_with nat_eq (chars word) (codes "_") ≡ false =
    sym (starts_text _ (codes "_") word c.starts_with.ensures.cases ∙ starts_with-chars word (codes "_") c.utf8.word (IsAscii-tested (codes "_") refl)) ∙ c.if-starts_with.false in
    c.if-starts_with.false ∙ sym (ap (λ b. b && not (same_text (chars word) (codes "_"))) begins)
