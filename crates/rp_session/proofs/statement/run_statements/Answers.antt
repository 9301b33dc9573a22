use Rattle.std.proofs.Common.{List, sym, subst}
use Rattle.std.specs.List.{All}
use Rattle.std.proofs.lemmas.List.Elements.{All-nil}
use Rattle.rp_base.specs.declared.value.Value.{Value}
use Rattle.rp_store.specs.Kept.{AreFit}
use Rattle.rp_step.specs.Running.{IsWaiting}
use Rattle.rp_step.specs.declared.callers.Caller.{Caller}
use Rattle.rp_session.proofs.statement.run_statements.Goals as goal

pub run_block-requires-clause-ready : goal.run_block-requires-clause-ready
run_block-requires-clause-ready c = record {
  machine = record {
    faithful = c.requires.faithful;
    scope = c.requires.scope;
    fit = subst (λ (values : List Value). AreFit c.args.world.now.store.heap c.args.side values) (sym c.new-2.ensures) (All-nil _);
    indexed = c.requires.indexed;
  };
  callers = subst (λ (callers : List Caller). All (IsWaiting c.args.world.now) callers) (sym c.new-3.ensures.items) (All-nil _);
}
