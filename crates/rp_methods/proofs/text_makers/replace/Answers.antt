use Rattle.std.proofs.Common.{List, arith, subst, sym}
use Rattle.rp_base.specs.declared.value.Value.{Value}
use Rattle.rp_ops.specs.Outcome.{Meets, state_of}
use Rattle.rp_methods.specs.Texts.{replace}
use Rattle.rp_methods.proofs.Sound.{two-of}
use Rattle.rp_methods.proofs.text_makers.replace.Goals as goal

pub returns-clause-plain : goal.returns-clause-plain
returns-clause-plain c =
    let both = two-of c.args.args.now c.from-item.result c.to-item.result (omega (c.in-len2.len_at_least, c.in-len2.len_below, arith)) c.from-item.is c.to-item.is in
    (λ steps. subst (λ (xs : List Value). Meets c.replace_values.result (state_of c.replace_values.new.store steps) (replace c.args.text.now xs (state_of c.args.store.now steps))) (sym both)
    (c.replace_values.ensures.plain steps))
