use Rattle.std.proofs.Common.{Some, ap}
use Rattle.rp_store.specs.Object as object
use Rattle.rp_enter.proofs.Entered.{filled_fit, made_comes, made_faithful}
use Rattle.rp_enter.proofs.entering.new_scope.Goals as goal

pub make_scope-requires-clause-holds : goal.make_scope-requires-clause-holds
make_scope-requires-clause-holds c =
    (c.requires.within, filled_fit c.args.world.now.store.heap c.args.side c.args.slots.items c.in_ok-slots.slots.items c.args.locals c.in_ok-slots.ensures c.requires.slots)

pub returns-clause-law : goal.returns-clause-law
returns-clause-law c =
    let w = c.args.world.now in
    made_comes w c.make_scope.new.store c.make_scope.result c.args.side _ _
    (ap (λ slots. object.scope (Some c.args.block) (Some c.args.within) slots) c.in_ok-slots.ensures) (c.make_scope.ensures.plain w.running.meter.left)

pub returns-clause-faithful : goal.returns-clause-faithful
returns-clause-faithful c =
    made_faithful c.args.world.now c.make_scope.new.store c.make_scope.result c.args.side
    (object.scope (Some c.args.block) (Some c.args.within) c.in_ok-slots.slots.items) tt c.make_scope.ensures.made c.make_scope.ensures.same c.requires.faithful
