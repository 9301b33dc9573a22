use Rattle.std.proofs.Common.{arith, get_or}
use Rattle.rp_codes.proofs.Adding.{adds_then}
use Rattle.rp_codes.proofs.Lists.{over, turn, places_are, places_one}
use Rattle.rp_meaning.specs.Blocks as blocks
use Rattle.rp_tree.specs.ExpressionViews as views
use Rattle.rp_codes.proofs.stmt_codes.add_places.Goals as goal

pub places-preserved : goal.places-preserved
places-preserved c = turn places_one c.args.places.now c.places.place-index c.place-item.result c.args.codes.now c.places.codes _ (omega arith) c.place-item.is c.places.invariant c.add_place.ensures

pub returns : goal.returns
returns c = over places_one c.args.places.now c.places.place-index c.args.codes.now c.places.codes _ (places_are c.args.places.now) (omega arith) c.places.invariant
