use Rattle.std.proofs.Common.{subst, sym}
use Rattle.rp_base.specs.declared.value.Value.{Value}
use Rattle.rp_ops.specs.Growth.{IsSequenceOf}
use Rattle.rp_ops.specs.Outcome.{Meets, Outcome, state_of}
use Rattle.rp_ops.proofs.Inplaces.{inplace-other}
use Rattle.rp_ops.proofs.CallerLemmas.{KeepsShape-Gains}
use Rattle.rp_ops.proofs.augmentation.inplace.Goals as goal

pub returns-in_default-clause-plain : goal.returns-in_default-clause-plain
returns-in_default-clause-plain c =
    subst (λ (o : Outcome Value). Meets c.binary.result (state_of c.binary.new.store c.binary.new.meter.left) o)
    (sym (inplace-other c.args.side c.args.op c.args.a.now c.args.b.now (state_of c.args.store.now c.args.meter.now.left) c.in_default.not-Add c.in_default.not-Mul))
    c.binary.ensures.plain

pub returns-in_default-clause-shape : goal.returns-in_default-clause-shape
returns-in_default-clause-shape c = KeepsShape-Gains (IsSequenceOf c.args.side) c.args.store.now.heap c.binary.new.store.heap c.binary.ensures.grown
