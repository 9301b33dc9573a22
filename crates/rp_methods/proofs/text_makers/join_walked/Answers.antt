use Rattle.std.proofs.Common.{List, subst, sym}
use Rattle.rp_base.specs.declared.value.Value.{Value}
use Rattle.rp_ops.specs.Outcome.{Meets, Outcome, on_value, state_of}
use Rattle.rp_ops.specs.Walk.{elements}
use Rattle.rp_methods.specs.Texts.{joined_all}
use Rattle.rp_ops.proofs.CallerLemmas.{passes-on}
use Rattle.rp_methods.proofs.text_makers.join_walked.Goals as goal

pub returns-in_err-values-clause-plain : goal.returns-in_err-values-clause-plain
returns-in_err-values-clause-plain c =
    passes-on c.from_residual.result c.in_err-values.field-0.0 (state_of c.elements.new.store c.elements.new.meter.left)
    (elements c.args.w.now (state_of c.args.store.now c.args.meter.now.left)) (λ vs s. joined_all c.args.text.now vs s) c.from_residual.ensures.1 c.in_err-values.ensures.plain

pub returns-clause-plain : goal.returns-clause-plain
returns-clause-plain c =
    let left = c.elements.new.meter.left in
    let end = state_of c.join_all.new.store left in
    subst (λ (o : Outcome (List Value)). Meets c.join_all.result end (on_value o (λ vs s. joined_all c.args.text.now vs s))) (sym c.in_ok-values.ensures.plain)
    (subst (λ (xs : List Value). Meets c.join_all.result end (joined_all c.args.text.now xs (state_of c.elements.new.store left))) c.as_slice.ensures.value
    (c.join_all.ensures.plain left))
