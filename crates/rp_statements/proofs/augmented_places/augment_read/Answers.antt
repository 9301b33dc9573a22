use Rattle.std.proofs.Common.{◌∙◌}
use Rattle.rp_meaning.specs.Access as access
use Rattle.rp_meaning.specs.Statements as forms
use Rattle.rp_meaning.specs.Statements.{Store}
use Rattle.rp_expressions.proofs.Asking.{attribute_is}
use Rattle.rp_engine.proofs.Doings.{does_as, does_end}
use Rattle.rp_targets.proofs.Steps.{assign_ends, assign_gives}
use Rattle.rp_engine.proofs.Worlds.{IsReady-goes}
use Rattle.rp_access.proofs.Going.{IsEnd-same}
use Rattle.rp_access.specs.Moment.{state_of}
use Rattle.rp_engine.specs.AugmentSteps.{attribute_augmented}
use Rattle.rp_engine.specs.Does as does
use Rattle.rp_statements.proofs.augmented_places.augment_read.Goals as goal

pub returns-in-Ok-clause-law : goal.returns-in-Ok-clause-law
returns-in-Ok-clause-law c =
    let m = c.args.machine.now in
    let w = c.args.world.now in
    let u = c.get_attribute.new.world in
    let x = access.get_attribute c.args.o c.args.name in
    let store : Store = λ a. forms.assign (does.expr c.args.value.now) (attribute_augmented c.args.o c.args.name c.args.op a) in
    does_as m c.attribute_by.new.machine w c.attribute_by.new.world c.attribute_by.result (forms.assign x store) (store c.in-Ok.a) u
    (assign_gives m w u x store c.in-Ok.a (λ base. attribute_is base m.units.now m.frame c.args.o c.args.name (state_of w) ∙ c.in-Ok.ensures.law)) c.attribute_by.ensures.law

pub attribute_by-requires-clause-ready : goal.attribute_by-requires-clause-ready
attribute_by-requires-clause-ready c = IsReady-goes _ _ _ c.args.world.now c.get_attribute.new.world c.requires.ready c.get_attribute.ensures.shape c.get_attribute.ensures.faithful

pub attribute_by-requires-clause-o : goal.attribute_by-requires-clause-o
attribute_by-requires-clause-o c = c.get_attribute.ensures.shape.fit c.args.machine.now.frame.side c.args.o c.requires.o

pub returns-in-Err-clause-law : goal.returns-in-Err-clause-law
returns-in-Err-clause-law c =
    let m = c.args.machine.now in
    let w = c.args.world.now in
    let u = c.get_attribute.new.world in
    let x = access.get_attribute c.args.o c.args.name in
    let store : Store = λ a. forms.assign (does.expr c.args.value.now) (attribute_augmented c.args.o c.args.name c.args.op a) in
    does_end m c.cut_off.new.self w u c.cut_off.result (forms.assign x store) c.in-Err.end
    (assign_ends m w u x store c.in-Err.end (λ base. IsEnd-same c.in-Err.end (state_of u) _ _ (attribute_is base m.units.now m.frame c.args.o c.args.name (state_of w)) c.in-Err.ensures.law)) c.cut_off.ensures.law

pub returns-in-Err-clause-ready : goal.returns-in-Err-clause-ready
returns-in-Err-clause-ready c =
    c.cut_off.ensures.ready c.get_attribute.new.world (IsReady-goes _ _ _ c.args.world.now c.get_attribute.new.world c.requires.ready c.get_attribute.ensures.shape c.get_attribute.ensures.faithful)
