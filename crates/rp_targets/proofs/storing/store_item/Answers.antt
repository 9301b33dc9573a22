use Rattle.std.proofs.Common.{Ok, ap, sym}
use Rattle.rp_meaning.specs.Access as access
use Rattle.rp_meaning.specs.Statements as forms
use Rattle.rp_meaning.specs.Statements.{Store}
use Rattle.rp_engine.proofs.Doings.{does_as, does_end, does_goes}
use Rattle.rp_targets.proofs.Steps.{assign_ends, assign_gives}
use Rattle.rp_engine.specs.Does as does
use Rattle.rp_engine.specs.Law.{frame_in}
use Rattle.rp_access.specs.Moment.{state_of}
use Rattle.rp_targets.proofs.Found.{found_fit}
use Rattle.rp_store.proofs.CallerLemmas.{KeepsShape-trans}
use Rattle.rp_targets.proofs.storing.store_item.Goals as goal

pub returns-in-Ok-Some-clause-law : goal.returns-in-Ok-Some-clause-law
returns-in-Ok-Some-clause-law c =
    let m = c.args.machine.now in
    let w = c.args.world.now in
    let u = c.leaf.new.world in
    let x = does.expr c.args.object.now in
    let store : Store = λ o. forms.assign (does.expr c.args.key.now) (λ i. access.set_item o i c.args.value) in
    let found = rw c.in-Ok-Some.field-0-is at c.in-Ok-Some.ensures.law in
    does_as m c.store_key.new.machine w c.store_key.new.world c.store_key.result (forms.assign x store) (store c.in-Ok-Some.o) u
    (assign_gives m w u x store c.in-Ok-Some.o found) c.store_key.ensures.law

pub returns-in-Ok-None-clause-law : goal.returns-in-Ok-None-clause-law
returns-in-Ok-None-clause-law c =
    let m = c.args.machine.now in
    let w = c.args.world.now in
    let u = c.leaf.new.world in
    let x = does.expr c.args.object.now in
    let store : Store = λ o. forms.assign (does.expr c.args.key.now) (λ i. access.set_item o i c.args.value) in
    let same = c.in-Ok-None.ensures.none (ap Ok c.in-Ok-None.field-0-is) in
    does_goes m c.wait_with.new.self w u c.wait_with.result (forms.assign x store) (forms.assign x store)
    (λ base. ap (λ z. forms.assign x store (frame_in base m) (state_of z)) (sym same)) c.wait_with.ensures.law

pub returns-in-Err-clause-law : goal.returns-in-Err-clause-law
returns-in-Err-clause-law c =
    let m = c.args.machine.now in
    let w = c.args.world.now in
    let u = c.leaf.new.world in
    let x = does.expr c.args.object.now in
    let store : Store = λ o. forms.assign (does.expr c.args.key.now) (λ i. access.set_item o i c.args.value) in
    does_end m c.cut_off.new.self w u c.cut_off.result (forms.assign x store) c.in-Err.end
    (assign_ends m w u x store c.in-Err.end c.in-Err.ensures.law) c.cut_off.ensures.law

pub store_key-requires-clause-ready : goal.store_key-requires-clause-ready
store_key-requires-clause-ready c = c.leaf.ensures.ready

pub store_key-requires-clause-o : goal.store_key-requires-clause-o
store_key-requires-clause-o c = found_fit c.in-Ok-Some.field-0 c.in-Ok-Some.o c.in-Ok-Some.field-0-is c.leaf.new.world.store.heap c.args.machine.now.frame.side c.in-Ok-Some.ensures.fit

pub store_key-requires-clause-value : goal.store_key-requires-clause-value
store_key-requires-clause-value c = c.leaf.ensures.shape.fit c.args.machine.now.frame.side c.args.value c.requires.value

pub returns-in-Ok-Some-clause-ready : goal.returns-in-Ok-Some-clause-ready
returns-in-Ok-Some-clause-ready c = c.store_key.ensures.ready

pub returns-in-Ok-Some-clause-shape : goal.returns-in-Ok-Some-clause-shape
returns-in-Ok-Some-clause-shape c = KeepsShape-trans _ _ _ c.leaf.ensures.shape c.store_key.ensures.shape

pub returns-in-Ok-None-clause-ready : goal.returns-in-Ok-None-clause-ready
returns-in-Ok-None-clause-ready c = c.wait_with.ensures.ready c.leaf.new.world c.leaf.ensures.ready (c.leaf.ensures.shape.fit c.args.machine.now.frame.side c.args.value c.requires.value)

pub returns-in-Ok-None-clause-shape : goal.returns-in-Ok-None-clause-shape
returns-in-Ok-None-clause-shape c = c.leaf.ensures.shape

pub returns-in-Err-clause-ready : goal.returns-in-Err-clause-ready
returns-in-Err-clause-ready c = c.cut_off.ensures.ready c.leaf.new.world c.leaf.ensures.ready

pub returns-in-Err-clause-shape : goal.returns-in-Err-clause-shape
returns-in-Err-clause-shape c = c.leaf.ensures.shape
