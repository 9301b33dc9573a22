use Rattle.std.proofs.Common.{◌||◌, chars, refl, sym, ap, ◌∙◌}
use Rattle.rp_policy.specs.Forbidden.{inspection_attributes, is_among, is_forbidden_attribute}
use Rattle.rp_policy.proofs.Spelled.{is_among-chars}
use Rattle.rp_policy.proofs.forbidden_words.is_forbidden_attribute.Goals as goal

pub returns-then-is_forbidden_name : goal.returns-then-is_forbidden_name
unfolding is_forbidden_attribute
returns-then-is_forbidden_name c =
    c.if-is_forbidden_name.true ∙ sym (ap (λ b. b || is_among inspection_attributes (chars c.args.word.now)) (sym c.is_forbidden_name.ensures ∙ c.if-is_forbidden_name.true))

pub returns-else-is_forbidden_name : goal.returns-else-is_forbidden_name
unfolding is_forbidden_attribute
returns-else-is_forbidden_name c =
    c.contains.ensures.value
    ∙ (is_among-chars inspection_attributes c.args.word.now refl c.utf8.word
    ∙ sym (ap (λ b. b || is_among inspection_attributes (chars c.args.word.now)) (sym c.is_forbidden_name.ensures ∙ c.if-is_forbidden_name.false)))
