use Rattle.std.proofs.Common.{◌≡◌, [], ◌∙◌, ap, subst, sym}
use Rattle.std.specs.Option.{option_map_or}
use Rattle.rp_base.specs.declared.operator.BinOp.TheVariants as op
use Rattle.rp_base.specs.declared.value.Value.{Value}
use Rattle.rp_store.specs.Heap.{content_at}
use Rattle.rp_ops.specs.Growth.{IsSequenceOf}
use Rattle.rp_ops.specs.Inplace.{repeats_list}
use Rattle.rp_ops.specs.Operand.{number_of, operand}
use Rattle.rp_ops.specs.Outcome.{Meets, Outcome, state_of}
use Rattle.rp_ops.specs.View.{held_by}
use Rattle.rp_ops.proofs.Inplaces.{inplace-mul, inplace-none, list-named}
use Rattle.rp_ops.proofs.CallerLemmas.{KeepsShape-Gains}
use Rattle.rp_ops.proofs.augmentation.multiply_inplace.Goals as goal

pub repeat_in_place-requires-clause-list : goal.repeat_in_place-requires-clause-list
repeat_in_place-requires-clause-list c = list-named c.args.store.now.heap c.args.a.now c.in-Some.at (sym c.list_place.ensures ∙ c.in-Some.is)

pub returns-in-Some-clause-plain : goal.returns-in-Some-clause-plain
returns-in-Some-clause-plain c =
    let heap = c.args.store.now.heap in
    let s = state_of c.args.store.now c.args.meter.now.left in
    let xs = option_map_or held_by (content_at heap c.in-Some.at) [] in
    let n : c.number.result ≡ number_of (operand heap c.args.b.now) = c.number.ensures heap ∙ ap number_of c.operand_of.ensures.seen in
    subst (λ (o : Outcome Value). Meets c.repeat_in_place.result (state_of c.repeat_in_place.new.store c.args.meter.now.left) o)
    (ap (λ m. repeats_list c.args.a.now c.in-Some.at xs m s) n
    ∙ sym (inplace-mul c.args.side c.args.a.now c.args.b.now s c.in-Some.at (sym c.list_place.ensures ∙ c.in-Some.is)))
    (c.repeat_in_place.ensures.plain c.args.meter.now.left)

pub returns-in-None-clause-plain : goal.returns-in-None-clause-plain
returns-in-None-clause-plain c =
    subst (λ (o : Outcome Value). Meets c.binary.result (state_of c.binary.new.store c.binary.new.meter.left) o)
    (sym (inplace-none c.args.side op.Mul c.args.a.now c.args.b.now (state_of c.args.store.now c.args.meter.now.left) (sym c.list_place.ensures ∙ c.in-None.is)))
    c.binary.ensures.plain

pub returns-in-None-clause-shape : goal.returns-in-None-clause-shape
returns-in-None-clause-shape c = KeepsShape-Gains (IsSequenceOf c.args.side) c.args.store.now.heap c.binary.new.store.heap c.binary.ensures.grown
