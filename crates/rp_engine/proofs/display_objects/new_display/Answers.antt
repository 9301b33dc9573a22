use Rattle.std.proofs.Common.{◌≡◌, Err, rules}
use Rattle.rp_store.specs.Object.{content_of}
use Rattle.rp_engine.proofs.Gatherings.{display_made, display_refused}
use Rattle.rp_engine.proofs.Namings.{display_faithful, display_holds, display_value, new_fit}
use Rattle.rp_engine.proofs.display_objects.new_display.Goals as goal

pub returns-in_err-object-clause-law : goal.returns-in_err-object-clause-law
returns-in_err-object-clause-law c =
    let e : c.from_residual.result ≡ Err c.in_err-object.field-0.0 = search rules in
    rw e (display_refused c.args.world.now c.in_err-object.field-0.0 c.args.side c.args.kind c.args.elements.items c.in_err-object.ensures)

pub new_object-requires-clause-holds : goal.new_object-requires-clause-holds
new_object-requires-clause-holds c =
    display_holds c.args.world.now.store.heap c.args.side c.args.elements.items (content_of c.in_ok-object.object) c.requires.fit c.args.kind c.in_ok-object.ensures

pub new_object-requires-clause-value : goal.new_object-requires-clause-value
new_object-requires-clause-value c =
    display_value c.args.world.now.store.heap c.args.side c.args.elements.items (content_of c.in_ok-object.object) c.requires.fit c.args.kind c.in_ok-object.ensures

pub returns-clause-law : goal.returns-clause-law
returns-clause-law c =
    let w = c.args.world.now in
    display_made w c.new_object.new.store c.new_object.result c.args.side c.args.kind c.args.elements.items (content_of c.in_ok-object.object) c.in_ok-object.ensures
    (c.new_object.ensures.plain w.running.meter.left)

pub returns-clause-faithful : goal.returns-clause-faithful
returns-clause-faithful c =
    display_faithful c.args.world.now c.new_object.new.store c.new_object.result c.args.side c.args.kind c.args.elements.items (content_of c.in_ok-object.object) c.requires.fit c.in_ok-object.ensures
    c.new_object.ensures.made c.new_object.ensures.same c.requires.faithful

pub returns-clause-fit : goal.returns-clause-fit
returns-clause-fit c =
    new_fit c.new_object.result c.args.side _ c.args.world.now.store c.new_object.new.store (c.new_object.ensures.plain 0) c.new_object.ensures.made c.new_object.ensures.sound
