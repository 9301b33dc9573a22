use Rattle.std.proofs.Common.{sym, ap, ◌∙◌, ◌≡◌}
use Rattle.rp_access.specs.Moment.{state_of}
use Rattle.rp_engine.specs.Law.{frame_in}
use Rattle.rp_engine.specs.Rest.{begun, rest}
use Rattle.rp_step.specs.Running.{unwound, GoesOn, Makes, MakesSpecial, whole_of}
use Rattle.rp_step.proofs.Asks.{call_asked, turns_asked, turned}
use Rattle.rp_step.proofs.SpecialCalls.{special_made}
use Rattle.rp_engine.proofs.Moves.{on_ok}
use Rattle.rp_engine.specs.declared.calling.Hand.{Hand}
use Rattle.rp_meaning.specs.Frame.{Run}
use Rattle.rp_targets.specs.declared.comprehensions.ComprehensionParts.{ComprehensionParts}
use Rattle.rp_step.proofs.RunWeights.{asked_under}
use Rattle.rp_frame.specs.declared.control.Control.TheVariants as control
use Rattle.rp_step.proofs.runner.Runner.enter.Goals as goal

pub returns-in-Call-clause-law : goal.returns-in-Call-clause-law
returns-in-Call-clause-law c =
    let r = c.args.self.now in
    let m = r.machine in
    let w = c.args.world.now in
    let h : Hand = record { plain = c.in-Call.plain; named = c.in-Call.named } in
    on_ok c.call.result (Makes h r w c.call.new.self c.call.new.world) (GoesOn r w c.call.new.self c.call.new.world)
    (λ law base. call_asked r w c.call.new.world c.call.new.self h law base
    ∙ ap (λ z. unwound base r.callers.items (rest m.tasks (begun (frame_in base m) z m.values m.end (state_of w)))) (sym c.in-Call.is)) c.call.ensures.law

pub returns-in-Call-clause-less : goal.returns-in-Call-clause-less
returns-in-Call-clause-less c =
    asked_under c.call.result c.args.self.now c.call.new.self c.args.world.now c.call.new.world (control.Call c.in-Call.plain c.in-Call.named) c.in-Call.is c.call.ensures.less

pub returns-in-Special-clause-law : goal.returns-in-Special-clause-law
returns-in-Special-clause-law c =
    let r = c.args.self.now in
    let m = r.machine in
    let w = c.args.world.now in
    on_ok c.call_special.result (MakesSpecial c.in-Special.name c.in-Special.count r w c.call_special.new.self c.call_special.new.world)
    (GoesOn r w c.call_special.new.self c.call_special.new.world)
    (λ law base. special_made r w c.call_special.new.world c.call_special.new.self c.call_special.result c.in-Special.count c.in-Special.name law base
    ∙ ap (λ z. unwound base r.callers.items (rest m.tasks (begun (frame_in base m) z m.values m.end (state_of w)))) (sym c.in-Special.is)) c.call_special.ensures.law

pub returns-in-Special-clause-less : goal.returns-in-Special-clause-less
returns-in-Special-clause-less c =
    asked_under c.call_special.result c.args.self.now c.call_special.new.self c.args.world.now c.call_special.new.world
    (control.Special c.in-Special.name c.in-Special.count) c.in-Special.is c.call_special.ensures.less

pub returns-in-Comprehension-clause-law : goal.returns-in-Comprehension-clause-law
returns-in-Comprehension-clause-law c =
    let r = c.args.self.now in
    let m = r.machine in
    let w = c.args.world.now in
    let v = c.comprehend.new.world in
    let i = c.in-Comprehension in
    let e : ComprehensionParts = record { block = i.block; first = i.first; behind = i.behind; made = i.made } in
    on_ok c.comprehend.result ((base : Run) → whole_of base c.comprehend.new.self (state_of v) ≡ turned base r w e i.spot) (GoesOn r w c.comprehend.new.self v)
    (λ law base. turns_asked r w v c.comprehend.new.self e i.spot law base
    ∙ ap (λ z. unwound base r.callers.items (rest m.tasks (begun (frame_in base m) z m.values m.end (state_of w)))) (sym c.in-Comprehension.is)) c.comprehend.ensures.law

pub returns-in-Comprehension-clause-less : goal.returns-in-Comprehension-clause-less
returns-in-Comprehension-clause-less c =
    let i = c.in-Comprehension in
    asked_under c.comprehend.result c.args.self.now c.comprehend.new.self c.args.world.now c.comprehend.new.world
    (control.Comprehension i.block i.first i.behind i.made i.spot) c.in-Comprehension.is c.comprehend.ensures.less
