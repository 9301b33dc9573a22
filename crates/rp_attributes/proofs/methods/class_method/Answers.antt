use Rattle.std.proofs.Common.{Some}
use Rattle.rp_store.specs.Object.{content_of}
use Rattle.rp_attributes.proofs.Found.{IsFunction-method}
use Rattle.rp_attributes.proofs.methods.class_method.Goals as goal

pub returns-in-Some-clause-callee : goal.returns-in-Some-clause-callee
returns-in-Some-clause-callee c =
    IsFunction-method c.args.store.now.heap (content_of c.object.result.now) c.args.name (Some c.in-Some.at.now) c.object.ensures.holds c.in-Some.ensures
