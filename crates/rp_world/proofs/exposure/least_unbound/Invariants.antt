use Rattle.std.proofs.Common.{◌≡◌, drop, map, option_map}
use Rattle.std.specs.Option.{IfSome}
use Rattle.rp_decl.specs.Order.{least, lesser_of}
use Rattle.rp_decl.specs.Places.{IsHeld}
use Rattle.rp_decl.specs.View.{name_text}
use Rattle.rp_meaning.specs.Load.{unbound}
use Rattle.rp_scope.specs.Scopes.{locals_of}
use Rattle.rp_world.specs.PlacingSteps.{global_value}
use Rattle.rp_world.proofs.exposure.least_unbound.Given as goal

abbrev pub invariant-loop-name : goal.invariant-loop-name
invariant-loop-name l =
    let value = global_value (locals_of l.layouts 0) l.globals l.store.heap in
    record {
      found : lesser_of (option_map (name_text l.names) l.least) (least (unbound (map (name_text l.names) (drop l.name-index l.name-items)) (map value (drop l.name-index l.name-items))))
          ≡ least (unbound (map (name_text l.names) l.decl.expose) (map value l.decl.expose));
      held : IfSome l.least (IsHeld l.names);
    }
