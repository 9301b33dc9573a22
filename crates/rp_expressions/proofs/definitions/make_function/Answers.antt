use Rattle.std.proofs.Common.{sym, subst}
use Rattle.rp_store.specs.Kept.{AreFit}
use Rattle.rp_expressions.proofs.Definings.{defines_taken}
use Rattle.rp_engine.proofs.Worlds.{IsReady-goes}
use Rattle.rp_engine.specs.declared.machine.Machine.{Machine}
use Rattle.rp_expressions.proofs.definitions.make_function.Goals as goal

pub new_function-requires-clause-fit : goal.new_function-requires-clause-fit
new_function-requires-clause-fit c =
    subst (λ (z : Machine). AreFit c.args.world.now.store.heap z.frame.side c.in_ok-defaults.defaults.items) (sym c.in_ok-defaults.ensures.left)
    (c.in_ok-defaults.ensures.fit c.args.world.now c.requires.ready)

pub new_function-requires-clause-scope : goal.new_function-requires-clause-scope
new_function-requires-clause-scope c = (c.all_at_hand.ensures.ready c.args.world.now c.requires.ready).scope

pub returns-clause-law : goal.returns-clause-law
returns-clause-law c =
    defines_taken c.args.machine.now c.all_at_hand.new.self c.give.new.self c.args.world.now c.new_function.new.world c.give.result c.args.name c.args.block c.args.count c.in_ok-defaults.defaults.items
    c.new_function.result c.in_ok-defaults.ensures.left c.in_ok-defaults.ensures.values c.new_function.ensures.law c.give.ensures.law

pub returns-clause-ready : goal.returns-clause-ready
returns-clause-ready c =
    c.give.ensures.ready c.new_function.new.world
    (IsReady-goes _ _ _ c.args.world.now c.new_function.new.world (c.all_at_hand.ensures.ready c.args.world.now c.requires.ready) c.new_function.ensures.shape c.new_function.ensures.faithful)
    c.new_function.ensures.fit
