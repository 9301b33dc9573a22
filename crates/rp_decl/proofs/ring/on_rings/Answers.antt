use Rattle.std.proofs.Common.{◌∙◌, ℕ, Bool, false, List, Option, ap, get_or, is_some, map}
use Rattle.rp_decl.proofs.RingLinks.{has-link-at}
use Rattle.rp_decl.proofs.ring.on_rings.Goals as goal

pub returns : goal.returns
returns c = λ place inside.
    ap (λ (marks : List Bool). get_or marks place false)
    (c.in_ok-rings.ensures ∙ ap (map (λ (link : Option ℕ). is_some link)) c.as_slice.ensures.value)
    ∙ has-link-at c.in_ok-links.links.items place ∙ c.in_ok-links.ensures place
