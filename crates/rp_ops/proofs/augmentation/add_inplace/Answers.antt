use Rattle.std.proofs.Common.{◌∙◌, subst, sym}
use Rattle.rp_base.specs.declared.operator.BinOp.TheVariants as op
use Rattle.rp_base.specs.declared.value.Value.{Value}
use Rattle.rp_ops.specs.Growth.{IsSequenceOf}
use Rattle.rp_ops.specs.Outcome.{Meets, Outcome, state_of}
use Rattle.rp_ops.proofs.Inplaces.{inplace-add, inplace-none, list-named}
use Rattle.rp_ops.proofs.CallerLemmas.{KeepsShape-Gains}
use Rattle.rp_ops.proofs.augmentation.add_inplace.Goals as goal

pub extend-requires-clause-list : goal.extend-requires-clause-list
extend-requires-clause-list c = list-named c.args.store.now.heap c.args.a.now c.in-Some.at (sym c.list_place.ensures ∙ c.in-Some.is)

pub returns-in-Some-clause-plain : goal.returns-in-Some-clause-plain
returns-in-Some-clause-plain c =
    subst (λ (o : Outcome Value). Meets c.extend.result (state_of c.extend.new.store c.extend.new.meter.left) o)
    (sym (inplace-add c.args.side c.args.a.now c.args.b.now (state_of c.args.store.now c.args.meter.now.left) c.in-Some.at (sym c.list_place.ensures ∙ c.in-Some.is)))
    c.extend.ensures.plain

pub returns-in-None-clause-plain : goal.returns-in-None-clause-plain
returns-in-None-clause-plain c =
    subst (λ (o : Outcome Value). Meets c.binary.result (state_of c.binary.new.store c.binary.new.meter.left) o)
    (sym (inplace-none c.args.side op.Add c.args.a.now c.args.b.now (state_of c.args.store.now c.args.meter.now.left) (sym c.list_place.ensures ∙ c.in-None.is)))
    c.binary.ensures.plain

pub returns-in-None-clause-shape : goal.returns-in-None-clause-shape
returns-in-None-clause-shape c = KeepsShape-Gains (IsSequenceOf c.args.side) c.args.store.now.heap c.binary.new.store.heap c.binary.ensures.grown
