use Rattle.std.proofs.Common.{sym, subst}
use Rattle.rp_base.specs.declared.value.Value.{Value}
use Rattle.rp_ops.specs.Outcome.{Meets, state_of}
use Rattle.rp_items.specs.Items.{set_item}
use Rattle.rp_items.proofs.item_writers.set_item.Goals as goal

pub returns-in-Ref-clause-plain : goal.returns-in-Ref-clause-plain
returns-in-Ref-clause-plain c =
    (λ steps. subst (λ (a : Value). Meets c.set_in_object.result (state_of c.set_in_object.new.store steps) (set_item a c.args.i.now c.args.v (state_of c.args.store.now steps)))
    (sym c.in-Ref.is) (c.set_in_object.ensures.plain steps))

pub returns-in-Prox-clause-plain : goal.returns-in-Prox-clause-plain
returns-in-Prox-clause-plain c =
    (λ steps. subst (λ (a : Value). Meets c.set_in_object-in-Prox.result (state_of c.set_in_object-in-Prox.new.store steps) (set_item a c.args.i.now c.args.v (state_of c.args.store.now steps)))
    (sym c.in-Prox.is) (c.set_in_object-in-Prox.ensures.plain steps))
