use Rattle.rp_scope.specs.Scopes.{locals_of}
use Rattle.rp_world.specs.PlacingSteps.{global_value}
use Rattle.rp_world.proofs.Slots.{IsFilledTo}
use Rattle.rp_world.proofs.exposure.bind_exposed.Given as goal

abbrev pub invariant-loop-index : goal.invariant-loop-index
invariant-loop-index l = IsFilledTo (global_value (locals_of l.layouts 0) l.globals l.initial.store.heap) l.decl.expose l.index l.initial.store l.store
