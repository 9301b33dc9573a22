use Rattle.std.proofs.Common.{None, sym}
use Rattle.std.specs.List.{All}
use Rattle.std.specs.Option.{IfSome}
use Rattle.rp_world.proofs.Slots.{exposing-holds}
use Rattle.rp_world.proofs.exposing.place_exposing.Goals as goal

pub add-requires : goal.add-requires
add-requires c = exposing-holds c.args.store.now.heap c.args.expose.now _ c.in_ok-empty_slots.ensures
