use Rattle.std.proofs.Common.{◌<◌, ℕ, ap, length, subst, sym}
use Rattle.rp_decl.proofs.RingLinks.{left-start, rings-left}
use Rattle.rp_decl.proofs.ring.keep_rings.Goals as goal

pub returns : goal.returns
returns c =
    let likes = c.args.likes.now in
    let same = c.requires.same in
    rings-left likes c.take_all.new.links c.take_all.new.waits
    (c.take_all.ensures.left likes (left-start likes c.args.links.now c.count_all.new.waits same c.count_all.ensures))
    (λ place inside. c.take_all.ensures.settled place (subst (λ (n : ℕ). place < n) (sym (ap length same)) inside))
