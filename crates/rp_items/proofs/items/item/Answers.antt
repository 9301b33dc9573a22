use Rattle.std.proofs.Common.{◌∙◌, ap, sym, subst}
use Rattle.rp_base.specs.declared.value.Value.{Value}
use Rattle.rp_ops.specs.Outcome.{Meets, gives, state_of}
use Rattle.rp_items.specs.Items.{item, lent_out}
use Rattle.rp_items.proofs.Found.{lent-ends}
use Rattle.rp_items.proofs.items.item.Goals as goal

pub returns-in-Ref-clause-plain : goal.returns-in-Ref-clause-plain
returns-in-Ref-clause-plain c =
    (λ steps. subst (λ (a : Value). Meets c.object_item.result (state_of c.object_item.new.store steps) (item a c.args.i.now (state_of c.args.store.now steps)))
    (sym c.in-Ref.is) (c.object_item.ensures.plain steps))

pub returns-in_ok-value-in-Prox-clause-plain : goal.returns-in_ok-value-in-Prox-clause-plain
returns-in_ok-value-in-Prox-clause-plain c =
    (λ steps. ap (λ (a : Value). item a c.args.i.now (state_of c.args.store.now steps)) c.in-Prox.is ∙ ap lent_out (c.in_ok-value-in-Prox.ensures.plain steps)
    ∙ ap (λ (v : Value). gives v (state_of c.object_item-in-Prox.new.store steps)) (sym c.lent.ensures))

pub returns-in_err-value-in-Prox-clause-plain : goal.returns-in_err-value-in-Prox-clause-plain
returns-in_err-value-in-Prox-clause-plain c =
    (λ steps. let t = state_of c.object_item-in-Prox.new.store steps in
    subst (λ (a : Value). Meets c.from_residual.result t (item a c.args.i.now (state_of c.args.store.now steps))) (sym c.in-Prox.is)
    (lent-ends c.from_residual.result c.in_err-value-in-Prox.field-0.0 t _ c.from_residual.ensures.1 (c.in_err-value-in-Prox.ensures.plain steps)))
