use Rattle.std.proofs.Common.{[], ◌∷◌, ap, ◌∙◌}
use Rattle.rp_base.specs.declared.word.TheConstants.{GET_ITEM}
use Rattle.rp_ops.specs.Outcome.{on_value}
use Rattle.rp_engine.proofs.Specials.{item_left}
use Rattle.rp_engine.specs.Law.{frame_in}
use Rattle.rp_engine.specs.SpecialSteps.{from_got, special_called}
use Rattle.rp_meaning.specs.Access as access
use Rattle.rp_meaning.specs.Statements as forms
use Rattle.rp_meaning.specs.Statements.{Store}
use Rattle.rp_expressions.proofs.Asking.{calls_item, item_is}
use Rattle.rp_engine.proofs.Doings.{does_as, does_end, does_goes}
use Rattle.rp_targets.proofs.Steps.{assign_ends, assign_gives}
use Rattle.rp_engine.proofs.Worlds.{IsReady-goes}
use Rattle.rp_access.proofs.Going.{IsEnd-same}
use Rattle.rp_access.specs.Moment.{state_of}
use Rattle.rp_engine.specs.AugmentSteps.{item_augmented}
use Rattle.rp_engine.specs.Does as does
use Rattle.rp_statements.proofs.augmented_places.augment_read_item.Goals as goal

pub returns-in-Ok-Some-clause-law : goal.returns-in-Ok-Some-clause-law
returns-in-Ok-Some-clause-law c =
    let m = c.args.machine.now in
    let w = c.args.world.now in
    let u = c.get_item.new.world in
    let x = access.get_item c.args.o c.args.i in
    let store : Store = λ a. forms.assign (does.expr c.args.value.now) (item_augmented c.args.o c.args.i c.args.op a) in
    let found = rw c.in-Ok-Some.field-0-is at c.in-Ok-Some.ensures.law in
    does_as m c.item_by.new.machine w c.item_by.new.world c.item_by.result (forms.assign x store) (store c.in-Ok-Some.a) u
    (assign_gives m w u x store c.in-Ok-Some.a
    (λ base. item_is base m.units.now m.frame c.args.o c.args.i (state_of w) ∙ found (calls_item base m.units.now m.frame c.args.i))) c.item_by.ensures.law

pub item_by-requires-clause-ready : goal.item_by-requires-clause-ready
item_by-requires-clause-ready c = IsReady-goes _ _ _ c.args.world.now c.get_item.new.world c.requires.ready c.get_item.ensures.shape c.get_item.ensures.faithful

pub item_by-requires-clause-o : goal.item_by-requires-clause-o
item_by-requires-clause-o c = c.get_item.ensures.shape.fit c.args.machine.now.frame.side c.args.o c.requires.o

pub item_by-requires-clause-i : goal.item_by-requires-clause-i
item_by-requires-clause-i c = c.get_item.ensures.shape.fit c.args.machine.now.frame.side c.args.i c.requires.i

pub item_by-requires-clause-a : goal.item_by-requires-clause-a
item_by-requires-clause-a c = rw c.in-Ok-Some.field-0-is at c.in-Ok-Some.ensures.fit

pub returns-in-Err-clause-law : goal.returns-in-Err-clause-law
returns-in-Err-clause-law c =
    let m = c.args.machine.now in
    let w = c.args.world.now in
    let u = c.get_item.new.world in
    let x = access.get_item c.args.o c.args.i in
    let store : Store = λ a. forms.assign (does.expr c.args.value.now) (item_augmented c.args.o c.args.i c.args.op a) in
    does_end m c.cut_off.new.self w u c.cut_off.result (forms.assign x store) c.in-Err.end
    (assign_ends m w u x store c.in-Err.end (λ base. IsEnd-same c.in-Err.end (state_of u) _ _ (item_is base m.units.now m.frame c.args.o c.args.i (state_of w))
    (c.in-Err.ensures.law (calls_item base m.units.now m.frame c.args.i)))) c.cut_off.ensures.law

pub returns-in-Err-clause-ready : goal.returns-in-Err-clause-ready
returns-in-Err-clause-ready c =
    c.cut_off.ensures.ready c.get_item.new.world (IsReady-goes _ _ _ c.args.world.now c.get_item.new.world c.requires.ready c.get_item.ensures.shape c.get_item.ensures.faithful)

pub returns-in-Ok-None-clause-law : goal.returns-in-Ok-None-clause-law
returns-in-Ok-None-clause-law c =
    let m = c.args.machine.now in
    let w = c.args.world.now in
    let u = c.get_item.new.world in
    let x = access.get_item c.args.o c.args.i in
    let store : Store = λ a. forms.assign (does.expr c.args.value.now) (item_augmented c.args.o c.args.i c.args.op a) in
    let left = rw c.in-Ok-None.field-0-is at c.in-Ok-None.ensures.special in
    does_goes m c.augment_by_method.new.machine w u c.augment_by_method.result (forms.assign x store)
    (λ frame s. on_value (special_called GET_ITEM c.args.o (c.args.i ∷ []) frame s) (λ a s. from_got c.args.o c.args.i c.args.op (does.expr c.args.value.now) a frame s))
    (λ base. ap (λ o. on_value o (λ a s. store a (frame_in base m) s)) (item_left base m.units.now m.frame c.args.o c.args.i (state_of w) (state_of u) left)) c.augment_by_method.ensures.law

pub returns-in-Ok-None-clause-ready : goal.returns-in-Ok-None-clause-ready
returns-in-Ok-None-clause-ready c =
    let u = c.get_item.new.world in
    let side = c.args.machine.now.frame.side in
    let shape = c.get_item.ensures.shape in
    c.augment_by_method.ensures.ready u (IsReady-goes _ _ _ c.args.world.now u c.requires.ready shape c.get_item.ensures.faithful) (shape.fit side c.args.o c.requires.o) (shape.fit side c.args.i c.requires.i)
