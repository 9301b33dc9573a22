use Rattle.std.proofs.Common.{◌≡◌, take}
use Rattle.rp_decl.proofs.ring.copied.Given as goal

abbrev pub invariant-loop-like : goal.invariant-loop-like
invariant-loop-like l = l.links.items ≡ take l.like-index l.likes
