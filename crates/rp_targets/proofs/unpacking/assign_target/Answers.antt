use Rattle.std.proofs.Common.{Ok, ap, sym}
use Rattle.rp_engine.proofs.Doings.{does_as, does_end, does_goes}
use Rattle.rp_targets.proofs.Steps.{assign_ends, assign_gives}
use Rattle.rp_meaning.specs.Statements as forms
use Rattle.rp_engine.specs.Does as does
use Rattle.rp_engine.specs.Law.{frame_in}
use Rattle.rp_access.specs.Moment.{state_of}
use Rattle.rp_targets.proofs.Found.{found_fit}
use Rattle.rp_store.proofs.CallerLemmas.{KeepsShape-trans}
use Rattle.rp_targets.proofs.unpacking.assign_target.Goals as goal

pub returns-in-Ok-Some-clause-law : goal.returns-in-Ok-Some-clause-law
returns-in-Ok-Some-clause-law c =
    let m = c.args.machine.now in
    let w = c.args.world.now in
    let u = c.leaf.new.world in
    let x = does.expr c.args.value.now in
    let store = does.target c.args.target.now in
    let found = rw c.in-Ok-Some.field-0-is at c.in-Ok-Some.ensures.law in
    does_as m c.store_target.new.machine w c.store_target.new.world c.store_target.result (forms.assign x store) (store c.in-Ok-Some.v) u
    (assign_gives m w u x store c.in-Ok-Some.v found) c.store_target.ensures.law

pub returns-in-Ok-None-clause-law : goal.returns-in-Ok-None-clause-law
returns-in-Ok-None-clause-law c =
    let m = c.args.machine.now in
    let w = c.args.world.now in
    let u = c.leaf.new.world in
    let D = forms.assign (does.expr c.args.value.now) (does.target c.args.target.now) in
    let same = c.in-Ok-None.ensures.none (ap Ok c.in-Ok-None.field-0-is) in
    does_goes m c.wait.new.self w u c.wait.result D D (λ base. ap (λ z. D (frame_in base m) (state_of z)) (sym same)) c.wait.ensures.law

pub returns-in-Err-clause-law : goal.returns-in-Err-clause-law
returns-in-Err-clause-law c =
    let m = c.args.machine.now in
    let w = c.args.world.now in
    let u = c.leaf.new.world in
    let x = does.expr c.args.value.now in
    let store = does.target c.args.target.now in
    does_end m c.cut_off.new.self w u c.cut_off.result (forms.assign x store) c.in-Err.end
    (assign_ends m w u x store c.in-Err.end c.in-Err.ensures.law) c.cut_off.ensures.law

pub store_target-requires-clause-ready : goal.store_target-requires-clause-ready
store_target-requires-clause-ready c = c.leaf.ensures.ready

pub store_target-requires-clause-value : goal.store_target-requires-clause-value
store_target-requires-clause-value c = found_fit c.in-Ok-Some.field-0 c.in-Ok-Some.v c.in-Ok-Some.field-0-is c.leaf.new.world.store.heap c.args.machine.now.frame.side c.in-Ok-Some.ensures.fit

pub returns-in-Ok-Some-clause-ready : goal.returns-in-Ok-Some-clause-ready
returns-in-Ok-Some-clause-ready c = c.store_target.ensures.ready

pub returns-in-Ok-Some-clause-shape : goal.returns-in-Ok-Some-clause-shape
returns-in-Ok-Some-clause-shape c = KeepsShape-trans _ _ _ c.leaf.ensures.shape c.store_target.ensures.shape

pub returns-in-Ok-None-clause-ready : goal.returns-in-Ok-None-clause-ready
returns-in-Ok-None-clause-ready c = c.wait.ensures.ready c.leaf.new.world c.leaf.ensures.ready

pub returns-in-Ok-None-clause-shape : goal.returns-in-Ok-None-clause-shape
returns-in-Ok-None-clause-shape c = c.leaf.ensures.shape

pub returns-in-Err-clause-ready : goal.returns-in-Err-clause-ready
returns-in-Err-clause-ready c = c.cut_off.ensures.ready c.leaf.new.world c.leaf.ensures.ready

pub returns-in-Err-clause-shape : goal.returns-in-Err-clause-shape
returns-in-Err-clause-shape c = c.leaf.ensures.shape
