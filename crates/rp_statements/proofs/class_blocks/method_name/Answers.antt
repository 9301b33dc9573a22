use Rattle.std.proofs.Common.{ap}
use Rattle.rp_engine.specs.ClassSteps.{name_of}
use Rattle.rp_statements.proofs.class_blocks.method_name.Goals as goal

pub returns-in-Method : goal.returns-in-Method
returns-in-Method c = ap name_of c.in-Method.ensures

pub returns-in-Evaluate : goal.returns-in-Evaluate
returns-in-Evaluate c = ap name_of c.in-Evaluate.ensures

pub returns-in-Nothing : goal.returns-in-Nothing
returns-in-Nothing c = ap name_of c.in-Nothing.ensures
