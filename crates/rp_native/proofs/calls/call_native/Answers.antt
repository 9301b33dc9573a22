use Rattle.rp_native.specs.Objects.{IsContainerOf}
use Rattle.rp_ops.proofs.CallerLemmas.{KeepsShape-Gains}
use Rattle.rp_native.proofs.calls.call_native.Goals as goal

pub returns-then-is_empty-clause-shape : goal.returns-then-is_empty-clause-shape
returns-then-is_empty-clause-shape c =
    KeepsShape-Gains (IsContainerOf c.args.side) c.args.store.now.heap c.one_given.new.store.heap c.one_given.ensures.grown

pub returns-clause-shape : goal.returns-clause-shape
returns-clause-shape c = KeepsShape-Gains (IsContainerOf c.args.side) c.args.store.now.heap c.more_given.new.store.heap c.more_given.ensures.grown

pub returns-in_default-clause-shape : goal.returns-in_default-clause-shape
returns-in_default-clause-shape c = KeepsShape-Gains (IsContainerOf c.args.side) c.args.store.now.heap c.none_given.new.store.heap c.none_given.ensures.grown
