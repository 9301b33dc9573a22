use Rattle.std.proofs.Common.{arith}
use Rattle.rp_engine.proofs.Equations.{delete_name}
use Rattle.rp_targets.proofs.PlaceEquations.{delete_attr, delete_item}
use Rattle.rp_engine.proofs.Weights as weights
use Rattle.rp_targets.proofs.places.delete.Goals as goal

pub returns-in-Name-clause-law : goal.returns-in-Name-clause-law
returns-in-Name-clause-law c = rw (c.in-Name.is, delete_name c.in-Name.name) c.delete_name.ensures.law

pub returns-in-Attr-clause-law : goal.returns-in-Attr-clause-law
returns-in-Attr-clause-law c = rw (c.in-Attr.is, delete_attr) c.delete_attribute.ensures.law

pub returns-in-Item-clause-law : goal.returns-in-Item-clause-law
returns-in-Item-clause-law c = rw (c.in-Item.is, delete_item) c.delete_item.ensures.law

pub returns-in-Name-clause-less : goal.returns-in-Name-clause-less
returns-in-Name-clause-less c = rw c.in-Name.is (grind (arith, weights.place_name c.in-Name.name))

pub returns-in-Attr-clause-less : goal.returns-in-Attr-clause-less
returns-in-Attr-clause-less c = rw c.in-Attr.is (grind (arith, weights.place_attr))

pub returns-in-Item-clause-less : goal.returns-in-Item-clause-less
returns-in-Item-clause-less c = rw c.in-Item.is (grind (arith, weights.place_item))
