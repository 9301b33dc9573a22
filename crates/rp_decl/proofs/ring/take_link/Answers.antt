use Rattle.std.proofs.Common.{◌∙◌, sym}
use Rattle.rp_decl.proofs.RingLinks.{free-inside}
use Rattle.rp_decl.proofs.ring.take_link.Goals as goal

pub cut-requires : goal.cut-requires
cut-requires c =
    free-inside c.args.waits.now c.args.links.now c.args.place c.in-Some.to
    (sym c.in-Some.is ∙ c.free_link.ensures)
