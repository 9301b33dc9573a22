use Rattle.std.proofs.Common.{sym, subst}
use Rattle.rp_store.specs.Kept.{AreFit}
use Rattle.rp_engine.proofs.Gatherings.{gathers_taken}
use Rattle.rp_engine.proofs.Worlds.{IsReady-goes}
use Rattle.rp_engine.specs.declared.machine.Machine.{Machine}
use Rattle.rp_expressions.proofs.displays.make_display.Goals as goal

pub new_display-requires-clause-fit : goal.new_display-requires-clause-fit
new_display-requires-clause-fit c =
    subst (λ (z : Machine). AreFit c.args.world.now.store.heap z.frame.side c.in_ok-elements.elements.items) (sym c.in_ok-elements.ensures.left)
    (c.in_ok-elements.ensures.fit c.args.world.now c.requires.ready)

pub returns-clause-law : goal.returns-clause-law
returns-clause-law c =
    gathers_taken c.args.machine.now c.all_at_hand.new.self c.give.new.self c.args.world.now c.new_display.new.world c.give.result c.args.kind c.args.count c.in_ok-elements.elements.items
    c.new_display.result c.in_ok-elements.ensures.left c.in_ok-elements.ensures.values c.new_display.ensures.law c.give.ensures.law

pub returns-clause-ready : goal.returns-clause-ready
returns-clause-ready c =
    c.give.ensures.ready c.new_display.new.world
    (IsReady-goes _ _ _ c.args.world.now c.new_display.new.world (c.all_at_hand.ensures.ready c.args.world.now c.requires.ready) c.new_display.ensures.shape c.new_display.ensures.faithful)
    c.new_display.ensures.fit
