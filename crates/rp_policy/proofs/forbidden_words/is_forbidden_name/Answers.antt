use Rattle.std.proofs.Common.{◌||◌, nat_eq, chars, codes, refl, sym, ap, ◌∙◌}
use Rattle.std.specs.List.{ends_with}
use Rattle.std.proofs.lemmas.Str.Pattern.{ends_text}
use Rattle.rp_policy.specs.Forbidden.{is_forbidden_name}
use Rattle.rp_base.proofs.CallerLemmas.{IsAscii-tested}
use Rattle.rp_policy.proofs.Spelled.{ends_with-chars}
use Rattle.rp_policy.proofs.forbidden_words.is_forbidden_name.Goals as goal

pub returns-then-is_private : goal.returns-then-is_private
unfolding is_forbidden_name
returns-then-is_private c =
    c.if-is_private.true ∙ sym (ap (λ b. b || ends_with nat_eq (chars c.args.word.now) (codes "__roles__")) (sym c.is_private.ensures ∙ c.if-is_private.true))

pub returns-else-is_private : goal.returns-else-is_private
unfolding is_forbidden_name
returns-else-is_private c =
    ends_text _ (codes "__roles__") c.args.word.now c.ends_with.ensures.cases
    ∙ (ends_with-chars c.args.word.now (codes "__roles__") c.utf8.word (IsAscii-tested (codes "__roles__") refl)
    ∙ sym (ap (λ b. b || ends_with nat_eq (chars c.args.word.now) (codes "__roles__")) (sym c.is_private.ensures ∙ c.if-is_private.false)))
