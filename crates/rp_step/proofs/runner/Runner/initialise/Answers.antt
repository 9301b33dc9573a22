use Rattle.rp_access.specs.Moment.{state_of}
use Rattle.rp_engine.proofs.Doings.{always}
use Rattle.rp_step.proofs.Instancing.{init_ended, init_given, made_ends, made_is}
use Rattle.rp_step.proofs.Runs.{waiting_goes}
use Rattle.rp_engine.proofs.Worlds.{IsReady-goes}
use Rattle.rp_step.proofs.RunWeights.{refuse_under, refused_under, later_under}
use Rattle.rp_step.specs.RunLoads.{waits}
use Rattle.rp_step.specs.declared.runner.Runner.{Runner}
use Rattle.rp_engine.specs.Loads.{called}
use Rattle.rp_step.proofs.runner.Runner.initialise.Goals as goal

pub returns-in-Ok-clause-law : goal.returns-in-Ok-clause-law
returns-in-Ok-clause-law c =
    let r = c.args.self.now in
    init_given r c.args.world.now c.new_instance.new.world c.args.hand c.args.owner c.args.class c.args.function c.args.lent c.call_behind.new.self c.call_behind.new.world c.call_behind.result c.in-Ok.at
    (made_is c.new_instance.result (state_of c.new_instance.new.world) _ c.in-Ok.at c.in-Ok.is c.new_instance.ensures.law) c.call_behind.ensures.law

pub call_behind-requires-clause-ready : goal.call_behind-requires-clause-ready
call_behind-requires-clause-ready c =
    let w = c.args.world.now in
    let u = c.new_instance.new.world in
    let r = c.args.self.now in
    record {
      machine = IsReady-goes _ _ _ w u c.requires.ready.machine c.new_instance.ensures.shape c.new_instance.ensures.faithful;
      callers = waiting_goes w u r.callers.items c.new_instance.ensures.shape c.new_instance.ensures.faithful c.requires.ready.callers;
    }

pub call_behind-requires-clause-function : goal.call_behind-requires-clause-function
call_behind-requires-clause-function c = c.new_instance.ensures.shape.function c.args.function c.requires.function

pub returns-in-Err-clause-law : goal.returns-in-Err-clause-law
returns-in-Err-clause-law c =
    let r = c.args.self.now in
    init_ended r c.args.world.now c.new_instance.new.world c.args.hand c.args.owner c.args.class c.args.function c.args.lent c.without_hand.new.machine c.without_hand.result c.in-Err.end
    (made_ends c.new_instance.result (state_of c.new_instance.new.world) _ c.in-Err.end c.in-Err.is c.new_instance.ensures.law) c.without_hand.ensures.law

pub returns-in-Err-clause-ready : goal.returns-in-Err-clause-ready
returns-in-Err-clause-ready c =
    let w = c.args.world.now in
    let u = c.new_instance.new.world in
    let r = c.args.self.now in
    let shape = c.new_instance.ensures.shape in
    let faithful = c.new_instance.ensures.faithful in
    always c.without_hand.result _ (record {
      machine = c.without_hand.ensures.ready u (IsReady-goes _ _ _ w u c.requires.ready.machine shape faithful);
      callers = waiting_goes w u r.callers.items shape faithful c.requires.ready.callers;
    })

pub returns-in-Err-clause-less : goal.returns-in-Err-clause-less
returns-in-Err-clause-less c =
    let r = c.args.self.now in
    let q : Runner = record r { machine = c.without_hand.new.machine } in
    refused_under c.without_hand.result r q c.args.world.now c.new_instance.new.world
    (refuse_under c.without_hand.result r.machine c.without_hand.new.machine (waits r.callers.items) c.without_hand.ensures.less)

pub returns-in-Ok-clause-less : goal.returns-in-Ok-clause-less
returns-in-Ok-clause-less c =
    later_under c.call_behind.result called c.args.self.now c.call_behind.new.self c.args.world.now c.new_instance.new.world c.call_behind.new.world
    c.new_instance.ensures.fewer c.call_behind.ensures.less
