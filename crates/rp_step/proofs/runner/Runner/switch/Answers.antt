use Rattle.std.proofs.Common.{◌≡◌, ◌+◌, suc, drop, ap, ◌∙◌, arith}
use Rattle.rp_engine.proofs.Doings.{always}
use Rattle.rp_step.proofs.Runs.{switch_ready, switches}
use Rattle.rp_step.specs.declared.runner.Runner.{Runner}
use Rattle.rp_engine.specs.HandSteps.{size_of}
use Rattle.rp_engine.specs.declared.machine.Machine.{Machine}
use Rattle.rp_step.specs.declared.callers.Caller.{Caller}
use Rattle.rp_step.proofs.RunWeights.{switch_under}
use Rattle.rp_step.specs.RunLoads.{code_weight}
use Rattle.rp_step.proofs.runner.Runner.switch.Goals as goal

pub returns-clause-law : goal.returns-clause-law
returns-clause-law c =
    let r = c.args.self.now in
    let m = r.machine in
    let q : Runner = record c.keep.new.self { machine = c.go.new.self } in
    let more : c.size.result + 1 ≡ suc (size_of c.args.hand) = omega (arith, c.size.ensures) in
    always c.go.result _ (switches m r.callers.items (suc (size_of c.args.hand)) c.args.lent c.args.made c.args.frame c.args.code c.begin_of.result q
    c.forget.new.self c.keep.new.self.machine c.suspend-caller.result (c.forget.ensures ∙ ap (λ k. record m { values = drop k m.values }) more) c.suspend-caller.ensures.caller
    (c.keep.ensures.machine ∙ c.suspend-caller.ensures.left) c.in_ok-keep.ensures.kept c.begin_of.ensures.means c.go.ensures.law)

pub returns-clause-ready : goal.returns-clause-ready
returns-clause-ready c = λ w h scope sound.
    let r = c.args.self.now in
    let m = r.machine in
    let more : c.size.result + 1 ≡ suc (size_of c.args.hand) = omega (arith, c.size.ensures) in
    let both = switch_ready m c.forget.new.self c.keep.new.self.machine c.keep.new.self.callers.items r.callers.items c.suspend-caller.result (suc (size_of c.args.hand)) c.args.lent c.args.made c.args.frame w
    (c.forget.ensures ∙ ap (λ k. record m { values = drop k m.values }) more) c.suspend-caller.ensures.caller (c.keep.ensures.machine ∙ c.suspend-caller.ensures.left) c.in_ok-keep.ensures.kept
    h.machine h.callers scope sound in
    always c.go.result _ (record { machine = c.go.ensures.ready w both.0; callers = both.1 })

pub returns-clause-less : goal.returns-clause-less
returns-clause-less c =
    let r = c.args.self.now in
    always c.go.result _ (switch_under c.go.new.self c.keep.new.self.machine c.keep.new.self.callers.items r.callers.items r.machine.tasks c.suspend-caller.result c.begin_of.result
    (code_weight c.args.code) (ap (λ (c : Caller). c.tasks) c.suspend-caller.ensures.caller ∙ ap (λ (m : Machine). m.tasks) c.forget.ensures)
    (ap (λ (m : Machine). m.tasks) (c.keep.ensures.machine ∙ c.suspend-caller.ensures.left)) c.in_ok-keep.ensures.kept c.go.ensures.less c.begin_of.ensures.weight)
