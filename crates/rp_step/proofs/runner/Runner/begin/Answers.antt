use Rattle.std.proofs.Common.{◌≡◌, ◌-◌, Ok, Err, sym, ◌∙◌}
use Rattle.rp_access.specs.Moment.{state_of}
use Rattle.rp_base.specs.declared.value.Oid.{Oid}
use Rattle.rp_store.specs.Kept.{IsScopeOf}
use Rattle.rp_engine.proofs.Doings.{always}
use Rattle.rp_step.proofs.Entries.{comes_end, comes_ok, enters, enters_not, ok_held, one_less}
use Rattle.rp_step.proofs.Runs.{made_goes, waiting_goes}
use Rattle.rp_engine.proofs.Worlds.{IsReady-goes}
use Rattle.rp_step.specs.Callables.{before_all}
use Rattle.rp_engine.specs.HandSteps.{held_by, size_of}
use Rattle.rp_step.proofs.RunWeights.{enters_under, refuse_under, refused_under}
use Rattle.rp_engine.proofs.CodeHeights.{code_low}
use Rattle.rp_engine.specs.Moment.{program_at}
use Rattle.rp_step.specs.RunLoads.{waits}
use Rattle.rp_step.specs.declared.runner.Runner.{Runner}
use Rattle.rp_step.proofs.runner.Runner.begin.Goals as goal

pub returns-in-Ok-clause-law : goal.returns-in-Ok-clause-law
returns-in-Ok-clause-law c =
    let r = c.args.self.now in
    let m = r.machine in
    let e = c.args.callable.entry in
    let v = c.scope_of-entered.new.world in
    let is : c.scope_of-entered.result ≡ Ok c.in-Ok.scope = sym c.in_ok-scope.ensures.same ∙ c.in-Ok.is in
    enters m c.args.world.now r.callers.items e c.args.lent c.args.made (size_of c.args.hand) (before_all c.args.callable.receiver (held_by c.args.hand m.values)) c.requires.function
    (m.frame.calls - 1) (one_less m.frame.calls c.requires.calls) (c.requires.ready.machine.indexed e.side) c.args.code c.requires.code
    c.switch.new.self v c.switch.result c.in-Ok.scope (comes_ok c.scope_of-entered.result (state_of v) _ c.in-Ok.scope is c.scope_of-entered.ensures.law) c.switch.ensures.law

pub returns-in-Err-clause-law : goal.returns-in-Err-clause-law
returns-in-Err-clause-law c =
    let r = c.args.self.now in
    let m = r.machine in
    let e = c.args.callable.entry in
    let v = c.scope_of-entered.new.world in
    let is : c.scope_of-entered.result ≡ Err c.in-Err.end = sym c.in_ok-scope.ensures.same ∙ c.in-Err.is in
    enters_not m c.args.world.now r.callers.items e c.args.lent c.args.made (size_of c.args.hand) (before_all c.args.callable.receiver (held_by c.args.hand m.values)) c.requires.function
    (m.frame.calls - 1) (one_less m.frame.calls c.requires.calls) (c.requires.ready.machine.indexed e.side) c.args.code c.requires.code
    c.without_hand.new.machine v c.without_hand.result c.in-Err.end (comes_end c.scope_of-entered.result (state_of v) _ c.in-Err.end is c.scope_of-entered.ensures.law) c.without_hand.ensures.law

pub returns-in-Ok-clause-ready : goal.returns-in-Ok-clause-ready
returns-in-Ok-clause-ready c =
    let r = c.args.self.now in
    let m = r.machine in
    let e = c.args.callable.entry in
    let w = c.args.world.now in
    let v = c.scope_of-entered.new.world in
    let shape = c.scope_of-entered.ensures.shape in
    let faithful = c.scope_of-entered.ensures.faithful c.in_ok-scope.ensures.known in
    let is : c.scope_of-entered.result ≡ Ok c.in-Ok.scope = sym c.in_ok-scope.ensures.same ∙ c.in-Ok.is in
    c.switch.ensures.ready v
    (record { machine = IsReady-goes _ _ _ w v c.requires.ready.machine shape faithful; callers = waiting_goes w v r.callers.items shape faithful c.requires.ready.callers })
    (ok_held c.scope_of-entered.result (λ (at : Oid). IsScopeOf v.store.heap e.side at) c.in-Ok.scope is c.scope_of-entered.ensures.scope)
    (made_goes w v c.args.made shape c.requires.made)

pub returns-in-Err-clause-ready : goal.returns-in-Err-clause-ready
returns-in-Err-clause-ready c =
    let r = c.args.self.now in
    let w = c.args.world.now in
    let v = c.scope_of-entered.new.world in
    let shape = c.scope_of-entered.ensures.shape in
    let faithful = c.scope_of-entered.ensures.faithful c.in_ok-scope.ensures.known in
    always c.without_hand.result _
    (record { machine = c.without_hand.ensures.ready v (IsReady-goes _ _ _ w v c.requires.ready.machine shape faithful); callers = waiting_goes w v r.callers.items shape faithful c.requires.ready.callers })

pub returns-in-Ok-clause-less : goal.returns-in-Ok-clause-less
returns-in-Ok-clause-less c =
    let r = c.args.self.now in
    let e = c.args.callable.entry in
    enters_under c.switch.result r c.switch.new.self c.args.world.now c.scope_of-entered.new.world c.args.code
    (code_low (program_at r.machine.units.now e.side) e.block c.args.code (c.requires.ready.machine.indexed e.side) c.requires.code) c.switch.ensures.less

pub returns-in-Err-clause-less : goal.returns-in-Err-clause-less
returns-in-Err-clause-less c =
    let r = c.args.self.now in
    let q : Runner = record r { machine = c.without_hand.new.machine } in
    refused_under c.without_hand.result r q c.args.world.now c.scope_of-entered.new.world
    (refuse_under c.without_hand.result r.machine c.without_hand.new.machine (waits r.callers.items) c.without_hand.ensures.less)
