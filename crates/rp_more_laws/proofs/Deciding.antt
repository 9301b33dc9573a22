-- What the monitor decides.
use Rattle.std.proofs.Common.{refl}
use Rattle.rp_more_laws.specs.Deciding.{BothMonitorsDecideProxiesAlone}

pub monitors : BothMonitorsDecideProxiesAlone
monitors run =
    (record { rocks = λ r op m. refl; own = λ at op m. refl }, record { rocks = λ r op m. refl; own = λ at op m. refl })
