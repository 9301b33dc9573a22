-- When a machine may run in a world: its programs have their functions at hand, its scope is one of its side, and the values at hand are such as code of
-- this side may hold.
use Rattle.std.specs.Prelude.{List}
use Rattle.rp_base.specs.declared.value.Value.{Value}
use Rattle.rp_frame.specs.declared.activation.Activation.{Activation}
use Rattle.rp_proxy.specs.Faithful.{IsFaithful}
use Rattle.rp_proxy.specs.declared.world.World.{World}
use Rattle.rp_store.specs.Kept.{AreFit, IsScopeOf}
use Rattle.rp_engine.specs.Codes.{AreIndexed}
use Rattle.rp_engine.specs.declared.units.Units.{Units}

pub record IsReady (units : Units) (a : Activation) (values : List Value) (w : World) : Type 0 where
  pub faithful : IsFaithful w
  pub scope : IsScopeOf w.store.heap a.side a.scope
  pub fit : AreFit w.store.heap a.side values
  pub indexed : AreIndexed units
