use Rattle.std.proofs.Common.{sym, subst}
use Rattle.rp_base.specs.declared.value.Value.{Value}
use Rattle.rp_ops.specs.Outcome.{Meets, Outcome, state_of}
use Rattle.rp_base.specs.Names.{word_of}
use Rattle.rp_attributes.proofs.Places.{attribute_at-method}
use Rattle.rp_attributes.proofs.attributes.attribute_at.Goals as goal

pub returns-clause-plain : goal.returns-clause-plain
returns-clause-plain c =
    (λ steps. let s = state_of c.args.store.now steps in
    subst (λ (o : Outcome Value). Meets c.bind.result (state_of c.bind.new.store steps) o)
    (sym (attribute_at-method c.args.at c.args.name (word_of c.args.names.now c.args.name) s c.method_of-callee.result c.owner-owner.result
    (sym c.in_default.ensures.value) (c.method_of-callee.ensures.method steps) c.owner-owner.ensures)) (c.bind.ensures.plain steps))
