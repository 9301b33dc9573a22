-- How a statement goes on with values that were at hand, once they are taken off.
use Rattle.std.proofs.Common.{◌≡◌, Result, subst}
use Rattle.std.specs.Prelude.{OnOk}
use Rattle.rp_base.specs.declared.value.Value.{Value}
use Rattle.rp_frame.specs.Top.{below, top}
use Rattle.rp_meaning.specs.Frame.{Doing}
use Rattle.rp_proxy.specs.declared.world.World.{World}
use Rattle.rp_engine.specs.Law.{Executes}
use Rattle.rp_engine.specs.declared.halt.Halt.{Halt}
use Rattle.rp_engine.specs.declared.machine.Machine.{Machine}

module _ (n : Machine) (w v : World) (r : Result (Unit {0}) Halt) where
  pub one_taken : (m h : Machine) (x : Value) (doing : Value → Doing) → h ≡ record m { values = below m.values } → x ≡ top m.values
      → OnOk r (Executes (doing x) h w n v) → OnOk r (Executes (doing (top m.values)) (record m { values = below m.values }) w n v)
  one_taken m h x doing first x_is law =
      subst (λ (x : Value). OnOk r (Executes (doing x) (record m { values = below m.values }) w n v)) x_is
      (subst (λ (z : Machine). OnOk r (Executes (doing x) z w n v)) first law)

  -- the second was below the first
  pub two_taken : (m h k : Machine) (x y : Value) (doing : Value → Value → Doing) → h ≡ record m { values = below m.values } → k ≡ record h { values = below h.values }
      → x ≡ top m.values → y ≡ top h.values
      → OnOk r (Executes (doing x y) k w n v) → OnOk r (Executes (doing (top m.values) (top (below m.values))) (record m { values = below (below m.values) }) w n v)
  two_taken m h k x y doing first second x_is y_is law =
      subst (λ (x : Value). OnOk r (Executes (doing x (top (below m.values))) (record m { values = below (below m.values) }) w n v)) x_is
      (subst (λ (z : Machine). OnOk r (Executes (doing x (top z.values)) (record z { values = below z.values }) w n v)) first
      (one_taken h k y (doing x) second y_is law))

  pub three_taken : (m h k l : Machine) (x y z : Value) (doing : Value → Value → Value → Doing) → h ≡ record m { values = below m.values }
      → k ≡ record h { values = below h.values } → l ≡ record k { values = below k.values } → x ≡ top m.values → y ≡ top h.values → z ≡ top k.values
      → OnOk r (Executes (doing x y z) l w n v)
      → OnOk r (Executes (doing (top m.values) (top (below m.values)) (top (below (below m.values)))) (record m { values = below (below (below m.values)) }) w n v)
  three_taken m h k l x y z doing first second third x_is y_is z_is law =
      subst (λ (x : Value). OnOk r (Executes (doing x (top (below m.values)) (top (below (below m.values)))) (record m { values = below (below (below m.values)) }) w n v)) x_is
      (subst (λ (z : Machine). OnOk r (Executes (doing x (top z.values) (top (below z.values))) (record z { values = below (below z.values) }) w n v)) first
      (two_taken h k l y z (doing x) second third y_is z_is law))
