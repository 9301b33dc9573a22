use Rattle.std.proofs.Common.{List, ℕ, arith, ap, subst, sym, ◌∙◌}
use Rattle.std.specs.Str.{drop_trailing_whitespace, skip_leading_whitespace}
use Rattle.rp_base.specs.declared.value.Value.{Value}
use Rattle.rp_ops.specs.Binary.{new_text}
use Rattle.rp_ops.specs.Outcome.{Meets, state_of}
use Rattle.rp_methods.specs.Texts.{strip}
use Rattle.rp_methods.proofs.Sound.{none-of}
use Rattle.rp_methods.proofs.text_makers.strip.Goals as goal

pub returns-clause-plain : goal.returns-clause-plain
returns-clause-plain c =
    let none = none-of c.args.args.now (omega (c.in-empty.len_below, arith)) in
    let text = c.stripped.ensures ∙ ap (λ (l : List ℕ). drop_trailing_whitespace (skip_leading_whitespace l)) c.as_str.ensures in
    (λ steps. subst (λ (xs : List Value). Meets c.new_text.result (state_of c.new_text.new.store steps) (strip c.args.text.now xs (state_of c.args.store.now steps))) (sym none)
    (subst (λ (l : List ℕ). Meets c.new_text.result (state_of c.new_text.new.store steps) (new_text l (state_of c.args.store.now steps))) text (c.new_text.ensures.plain steps)))
