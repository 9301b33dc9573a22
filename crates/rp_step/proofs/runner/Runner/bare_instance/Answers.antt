use Rattle.std.proofs.Common.{◌≢◌, [], arith, codes}
use Rattle.std.specs.Prelude.{None}
use Rattle.std.specs.Str.{chars}
use Rattle.rp_base.specs.declared.kind.Kind.TheVariants.{TypeError}
use Rattle.rp_ops.specs.Outcome.{on_value}
use Rattle.rp_meaning.specs.Calls.{made_instance}
use Rattle.rp_access.specs.Moment.{state_of}
use Rattle.rp_engine.proofs.Doings.{always}
use Rattle.rp_step.proofs.Entries.{refused_ok}
use Rattle.rp_step.proofs.Instancing.{bare_asked_refused, bare_ended, bare_given, made_ends, made_is}
use Rattle.rp_step.proofs.Hands.{no_args, some_args}
use Rattle.rp_step.proofs.Runs.{waiting_goes}
use Rattle.rp_engine.proofs.Worlds.{IsReady-goes}
use Rattle.rp_engine.specs.DefinitionSteps.{got_by}
use Rattle.rp_engine.specs.HandSteps.{held_by, size_of}
use Rattle.rp_engine.specs.Law.{frame_in}
use Rattle.rp_step.proofs.RunWeights.{refuse_under, refused_under}
use Rattle.rp_step.specs.RunLoads.{waits}
use Rattle.rp_step.specs.declared.runner.Runner.{Runner}
use Rattle.rp_step.proofs.runner.Runner.bare_instance.Goals as goal

pub returns-then-plain-gt0-clause-law : goal.returns-then-plain-gt0-clause-law
unfolding chars
returns-then-plain-gt0-clause-law c =
    let r = c.args.self.now in
    let w = c.args.world.now in
    let a = held_by c.args.hand r.machine.values in
    let some : a.plain ≢ [] = some_args a.plain c.count_plain-plain.result c.count_plain-plain.ensures (omega arith) in
    refused_ok r.machine w r.callers.items (size_of c.args.hand) c.refuse.new.self c.refuse.result TypeError (codes "arguments")
    (λ base. on_value (made_instance c.args.owner c.args.class None a (frame_in base r.machine) (state_of w)) (λ x s. got_by c.args.lent x (frame_in base r.machine) s))
    (λ base. bare_asked_refused r w a c.args.owner c.args.class c.args.lent base (λ e. some)) c.refuse.ensures.law

pub returns-then-plain-gt0-clause-ready : goal.returns-then-plain-gt0-clause-ready
returns-then-plain-gt0-clause-ready c = always c.refuse.result _ (c.refuse.ensures.ready c.args.world.now c.requires.ready)

pub returns-then-named-gt0-clause-law : goal.returns-then-named-gt0-clause-law
unfolding chars
returns-then-named-gt0-clause-law c =
    let r = c.args.self.now in
    let w = c.args.world.now in
    let a = held_by c.args.hand r.machine.values in
    let some : a.named ≢ [] = some_args a.named c.in_ok-named.named c.in_ok-named.ensures (omega arith) in
    refused_ok r.machine w r.callers.items (size_of c.args.hand) c.refuse-then-named-gt0.new.self c.refuse-then-named-gt0.result TypeError (codes "arguments")
    (λ base. on_value (made_instance c.args.owner c.args.class None a (frame_in base r.machine) (state_of w)) (λ x s. got_by c.args.lent x (frame_in base r.machine) s))
    (λ base. bare_asked_refused r w a c.args.owner c.args.class c.args.lent base (λ e. absurd (some e))) c.refuse-then-named-gt0.ensures.law

pub returns-then-named-gt0-clause-ready : goal.returns-then-named-gt0-clause-ready
returns-then-named-gt0-clause-ready c = always c.refuse-then-named-gt0.result _ (c.refuse-then-named-gt0.ensures.ready c.args.world.now c.requires.ready)

pub returns-in-Ok-clause-law : goal.returns-in-Ok-clause-law
returns-in-Ok-clause-law c =
    let r = c.args.self.now in
    let none = no_args c.args.hand r.machine.values c.count_plain-plain.result c.in_ok-named.named c.count_plain-plain.ensures c.in_ok-named.ensures (omega arith) (omega arith) in
    bare_given r c.args.world.now c.new_instance.new.world c.args.hand c.args.owner c.args.class c.args.lent none c.give_instance.new.self c.give_instance.result c.in-Ok.at
    (made_is c.new_instance.result (state_of c.new_instance.new.world) _ c.in-Ok.at c.in-Ok.is c.new_instance.ensures.law) c.give_instance.ensures.law

pub give_instance-requires-clause-ready : goal.give_instance-requires-clause-ready
give_instance-requires-clause-ready c =
    let w = c.args.world.now in
    let u = c.new_instance.new.world in
    let r = c.args.self.now in
    record {
      machine = IsReady-goes _ _ _ w u c.requires.ready.machine c.new_instance.ensures.shape c.new_instance.ensures.faithful;
      callers = waiting_goes w u r.callers.items c.new_instance.ensures.shape c.new_instance.ensures.faithful c.requires.ready.callers;
    }

pub returns-in-Err-clause-law : goal.returns-in-Err-clause-law
returns-in-Err-clause-law c =
    let r = c.args.self.now in
    let none = no_args c.args.hand r.machine.values c.count_plain-plain.result c.in_ok-named.named c.count_plain-plain.ensures c.in_ok-named.ensures (omega arith) (omega arith) in
    bare_ended r c.args.world.now c.new_instance.new.world c.args.hand c.args.owner c.args.class c.args.lent none c.without_hand.new.machine c.without_hand.result c.in-Err.end
    (made_ends c.new_instance.result (state_of c.new_instance.new.world) _ c.in-Err.end c.in-Err.is c.new_instance.ensures.law) c.without_hand.ensures.law

pub returns-in-Err-clause-ready : goal.returns-in-Err-clause-ready
returns-in-Err-clause-ready c =
    let w = c.args.world.now in
    let u = c.new_instance.new.world in
    let r = c.args.self.now in
    let shape = c.new_instance.ensures.shape in
    let faithful = c.new_instance.ensures.faithful in
    always c.without_hand.result _ (record {
      machine = c.without_hand.ensures.ready u (IsReady-goes _ _ _ w u c.requires.ready.machine shape faithful);
      callers = waiting_goes w u r.callers.items shape faithful c.requires.ready.callers;
    })

pub returns-in-Err-clause-less : goal.returns-in-Err-clause-less
returns-in-Err-clause-less c =
    let r = c.args.self.now in
    let q : Runner = record r { machine = c.without_hand.new.machine } in
    refused_under c.without_hand.result r q c.args.world.now c.new_instance.new.world
    (refuse_under c.without_hand.result r.machine c.without_hand.new.machine (waits r.callers.items) c.without_hand.ensures.less)

pub returns-in-Ok-clause-less : goal.returns-in-Ok-clause-less
returns-in-Ok-clause-less c =
    refused_under c.give_instance.result c.args.self.now c.give_instance.new.self c.args.world.now c.new_instance.new.world c.give_instance.ensures.less

pub returns-then-plain-gt0-clause-less : goal.returns-then-plain-gt0-clause-less
returns-then-plain-gt0-clause-less c = refused_under c.refuse.result c.args.self.now c.refuse.new.self c.args.world.now c.args.world.now c.refuse.ensures.less

pub returns-then-named-gt0-clause-less : goal.returns-then-named-gt0-clause-less
returns-then-named-gt0-clause-less c = refused_under c.refuse-then-named-gt0.result c.args.self.now c.refuse-then-named-gt0.new.self c.args.world.now c.args.world.now c.refuse-then-named-gt0.ensures.less
