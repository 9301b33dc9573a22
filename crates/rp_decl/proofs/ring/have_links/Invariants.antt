use Rattle.std.proofs.Common.{◌≡◌, ◌++◌, ℕ, Option, drop, is_some, map}
use Rattle.rp_decl.proofs.ring.have_links.Given as goal

abbrev pub invariant-loop-link : goal.invariant-loop-link
invariant-loop-link l =
    l.marks.items ++ map (λ (link : Option ℕ). is_some link) (drop l.link-index l.links)
    ≡ map (λ (link : Option ℕ). is_some link) l.links
