use Rattle.std.proofs.Common.{Ok, ap, sym}
use Rattle.rp_meaning.specs.Access as access
use Rattle.rp_meaning.specs.Statements as forms
use Rattle.rp_meaning.specs.Statements.{Store}
use Rattle.rp_engine.proofs.Doings.{does_as, does_any, does_end}
use Rattle.rp_targets.proofs.Steps.{assign_ends, assign_gives}
use Rattle.rp_engine.specs.Does as does
use Rattle.rp_engine.specs.Law.{frame_in}
use Rattle.rp_access.specs.Moment.{state_of}
use Rattle.rp_targets.proofs.Found.{found_fit}
use Rattle.rp_store.proofs.CallerLemmas.{KeepsShape-trans}
use Rattle.rp_targets.proofs.storing.store_key.Goals as goal

pub returns-in-Ok-Some-clause-law : goal.returns-in-Ok-Some-clause-law
returns-in-Ok-Some-clause-law c =
    let m = c.args.machine.now in
    let w = c.args.world.now in
    let u = c.leaf.new.world in
    let x = does.expr c.args.key.now in
    let store : Store = λ i. access.set_item c.args.o i c.args.value in
    let found = rw c.in-Ok-Some.field-0-is at c.in-Ok-Some.ensures.law in
    does_as m c.set_item.new.machine w c.set_item.new.world c.set_item.result (forms.assign x store) (store c.in-Ok-Some.i) u
    (assign_gives m w u x store c.in-Ok-Some.i found) c.set_item.ensures.law

pub returns-in-Ok-None-clause-law : goal.returns-in-Ok-None-clause-law
returns-in-Ok-None-clause-law c =
    let m = c.args.machine.now in
    let w = c.args.world.now in
    let u = c.leaf.new.world in
    let x = does.expr c.args.key.now in
    let store : Store = λ i. access.set_item c.args.o i c.args.value in
    let same = c.in-Ok-None.ensures.none (ap Ok c.in-Ok-None.field-0-is) in
    does_any m c.wait_for_key.new.machine w u c.wait_for_key.result (forms.assign x store) (forms.assign x store)
    (λ base. ap (λ z. forms.assign x store (frame_in base m) (state_of z)) (sym same)) c.wait_for_key.ensures.law

pub returns-in-Err-clause-law : goal.returns-in-Err-clause-law
returns-in-Err-clause-law c =
    let m = c.args.machine.now in
    let w = c.args.world.now in
    let u = c.leaf.new.world in
    let x = does.expr c.args.key.now in
    let store : Store = λ i. access.set_item c.args.o i c.args.value in
    does_end m c.cut_off.new.self w u c.cut_off.result (forms.assign x store) c.in-Err.end
    (assign_ends m w u x store c.in-Err.end c.in-Err.ensures.law) c.cut_off.ensures.law

pub set_item-requires-clause-ready : goal.set_item-requires-clause-ready
set_item-requires-clause-ready c = c.leaf.ensures.ready

pub set_item-requires-clause-o : goal.set_item-requires-clause-o
set_item-requires-clause-o c = c.leaf.ensures.shape.fit c.args.machine.now.frame.side c.args.o c.requires.o

pub set_item-requires-clause-i : goal.set_item-requires-clause-i
set_item-requires-clause-i c = found_fit c.in-Ok-Some.field-0 c.in-Ok-Some.i c.in-Ok-Some.field-0-is c.leaf.new.world.store.heap c.args.machine.now.frame.side c.in-Ok-Some.ensures.fit

pub set_item-requires-clause-value : goal.set_item-requires-clause-value
set_item-requires-clause-value c = c.leaf.ensures.shape.fit c.args.machine.now.frame.side c.args.value c.requires.value

pub returns-in-Ok-Some-clause-ready : goal.returns-in-Ok-Some-clause-ready
returns-in-Ok-Some-clause-ready c = c.set_item.ensures.ready

pub returns-in-Ok-Some-clause-shape : goal.returns-in-Ok-Some-clause-shape
returns-in-Ok-Some-clause-shape c = KeepsShape-trans _ _ _ c.leaf.ensures.shape c.set_item.ensures.shape

pub returns-in-Err-clause-ready : goal.returns-in-Err-clause-ready
returns-in-Err-clause-ready c = c.cut_off.ensures.ready c.leaf.new.world c.leaf.ensures.ready

pub returns-in-Err-clause-shape : goal.returns-in-Err-clause-shape
returns-in-Err-clause-shape c = c.leaf.ensures.shape
