use Rattle.std.proofs.Common.{◌∙◌, ap}
use Rattle.std.specs.Prelude.{option_and_then}
use Rattle.rp_meaning.specs.Classes.{class_there}
use Rattle.rp_access.proofs.DeclaredClasses.{if_any}
use Rattle.rp_access.proofs.declared_classes.declared_class.Goals as goal

pub returns-in-Some-clause-place : goal.returns-in-Some-clause-place
returns-in-Some-clause-place c = λ frame side block.
    c.class_there.ensures.place ∙ ap (option_and_then (class_there c.args.world.now.store.heap)) (c.in-Some.ensures.place frame side block)

pub returns-in-Some-clause-trusted : goal.returns-in-Some-clause-trusted
returns-in-Some-clause-trusted c = if_any c.class_there.result _ c.in-Some.ensures.trusted

pub returns-in-None-clause-place : goal.returns-in-None-clause-place
returns-in-None-clause-place c = λ frame side block.
    ap (option_and_then (class_there c.args.world.now.store.heap)) (c.in-None.ensures.place frame side block)
