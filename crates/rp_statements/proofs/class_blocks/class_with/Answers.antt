use Rattle.rp_statements.proofs.ClassParts.{renewed_fit}
use Rattle.rp_store.specs.Heap.{Names}
use Rattle.rp_store.specs.Parts.{IsClass}
use Rattle.std.proofs.Common.{◌≡◌}
use Rattle.rp_statements.proofs.class_blocks.class_with.Goals as goal

pub renew_class-requires-clause-held : goal.renew_class-requires-clause-held
renew_class-requires-clause-held c = rw c.in-Some.is at c.requires.held

pub renew_class-requires-clause-class : goal.renew_class-requires-clause-class
renew_class-requires-clause-class c = rw c.in-Some.is at c.requires.declared

pub returns-in-Some-clause-law : goal.returns-in-Some-clause-law
returns-in-Some-clause-law c = rw c.in-Some.is c.renew_class.ensures.law

pub returns-in-Some-clause-fit : goal.returns-in-Some-clause-fit
returns-in-Some-clause-fit c =
    let class : Names c.args.world.now.store.heap IsClass c.in-Some.at = rw c.in-Some.is at c.requires.declared in
    let trusted : c.args.side.0 ≡ 0 = rw c.in-Some.is at c.requires.trusted in
    renewed_fit c.renew_class.new.world.store.heap c.args.side c.renew_class.result c.in-Some.at trusted (c.renew_class.ensures.shape.class c.in-Some.at class)
    c.renew_class.ensures.place

pub returns-in-None-clause-law : goal.returns-in-None-clause-law
returns-in-None-clause-law c = rw c.in-None.is c.new_class.ensures.law
