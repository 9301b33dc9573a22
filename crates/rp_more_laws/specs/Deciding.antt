-- Runs in which only what passes a proxy is decided (zope.security, proxies): so it is with the monitor and without.
use Rattle.std.specs.Prelude.{◌≡◌}
use Rattle.rp_base.specs.declared.value.Oid.{Oid}
use Rattle.rp_base.specs.declared.value.Rock.{Rock}
use Rattle.rp_base.specs.declared.value.Value.TheVariants as value
use Rattle.rp_checker.specs.RowOf.{Operation}
use Rattle.rp_proxy.specs.Decide.{Monitor, go}
use Rattle.rp_meaning.specs.Frame.{Run}
use Rattle.rp_meaning.specs.Unmonitored.{monitored, unmonitored}

pub record DecidesProxiesAlone (run : Run) : Type 0 where
  pub rocks : (r : Rock) (op : Operation) (m : Monitor) → run.decide (value.Rock r) op m ≡ (go, m)
  pub own : (at : Oid) (op : Operation) (m : Monitor) → run.decide (value.Ref at) op m ≡ (go, m)

abbrev pub BothMonitorsDecideProxiesAlone : Type 0
BothMonitorsDecideProxiesAlone =
    (run : Run) → DecidesProxiesAlone (monitored run) × DecidesProxiesAlone (unmonitored run)
