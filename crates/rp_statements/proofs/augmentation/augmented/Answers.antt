use Rattle.rp_targets.proofs.PlaceEquations.{augment_attr, augment_item, augment_name}
use Rattle.rp_statements.proofs.augmentation.augmented.Goals as goal

pub returns-in-Name-clause-law : goal.returns-in-Name-clause-law
returns-in-Name-clause-law c = rw (c.in-Name.is, augment_name) c.augment_name.ensures.law

pub returns-in-Attr-clause-law : goal.returns-in-Attr-clause-law
returns-in-Attr-clause-law c = rw (c.in-Attr.is, augment_attr) c.augment_attribute.ensures.law

pub returns-in-Item-clause-law : goal.returns-in-Item-clause-law
returns-in-Item-clause-law c = rw (c.in-Item.is, augment_item) c.augment_item.ensures.law
