-- A machine stays ready where its world goes on.
use Rattle.std.proofs.Common.{◌≡◌, ◌≤◌, List, ap, sym, subst, arith}
use Rattle.rp_base.specs.declared.value.Value.{Value}
use Rattle.rp_frame.specs.declared.activation.Activation.{Activation}
use Rattle.rp_proxy.specs.Faithful.{IsFaithful}
use Rattle.rp_proxy.specs.declared.world.World.{World}
use Rattle.rp_store.specs.Kept.{AreFit, IsScopeOf}
use Rattle.rp_store.proofs.CallerLemmas.{KeepsShape-same}
use Rattle.rp_store.specs.Shape.{KeepsShape}
use Rattle.rp_store.specs.Store.{Cells}
use Rattle.rp_engine.specs.Ready.{IsReady}
use Rattle.rp_engine.specs.declared.units.Units.{Units}

-- a machine stays ready where its world goes on
pub IsReady-goes : (units : Units) (a : Activation) (vs : List Value) (w v : World) → IsReady units a vs w → KeepsShape w.store.heap v.store.heap → IsFaithful v → IsReady units a vs v
IsReady-goes units a vs w v h shape faithful = record {
  faithful = faithful;
  scope = shape.scope a.side a.scope h.scope;
  fit = shape.all_fit a.side vs h.fit;
  indexed = h.indexed;
}

-- one whose world has the same store
pub IsReady-stored : (units : Units) (a : Activation) (vs : List Value) (w v : World) → IsReady units a vs w → v.store ≡ w.store → IsFaithful v → IsReady units a vs v
IsReady-stored units a vs w v h same faithful = record {
  faithful = faithful;
  scope = subst (λ (s : Cells). IsScopeOf s.heap a.side a.scope) (sym same) h.scope;
  fit = subst (λ (s : Cells). AreFit s.heap a.side vs) (sym same) h.fit;
  indexed = h.indexed;
}

-- objects stand where they stood in the same store
pub shape_stored : (old new : Cells) → new ≡ old → KeepsShape old.heap new.heap
shape_stored old new same = KeepsShape-same old.heap new.heap (ap (λ (s : Cells). s.heap) same)

-- the same world has as many steps left
pub left_same : (w v : World) → v ≡ w → v.running.meter.left ≤ w.running.meter.left
left_same w v same = subst (λ (u : World). u.running.meter.left ≤ w.running.meter.left) (sym same) (omega arith)
