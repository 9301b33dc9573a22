use Rattle.std.proofs.Common.{◌≡◌, chars, Some, sym, ◌∙◌}
use Rattle.rp_decl.specs.Order.{place_of}
use Rattle.rp_decl.proofs.Places.{place_of-found}
use Rattle.rp_decl.proofs.Unknown.{is_among-place_of}
use Rattle.rp_decl.proofs.reading.place_of.Goals as goal

pub unwrap-requires : goal.unwrap-requires
unwrap-requires c = rw c.find.ensures (rw is_among-place_of at c.requires)

pub returns : goal.returns
returns c =
    let at : place_of c.args.known.now (chars c.args.text.now) ≡ Some c.unwrap.result = sym c.find.ensures ∙ c.unwrap.ensures in
    let (within, found) = place_of-found c.args.known.now (chars c.args.text.now) c.unwrap.result at in
    (found, within)
