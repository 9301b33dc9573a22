use Rattle.std.proofs.Common.{◌-◌, ap, sym, codes, ◌∙◌, arith}
use Rattle.std.specs.Str.{chars}
use Rattle.rp_base.specs.declared.kind.Kind.TheVariants.{RecursionError, TypeError}
use Rattle.rp_engine.proofs.Doings.{always}
use Rattle.rp_step.proofs.Entries.{asked, calls_refused, code_refused, one_less, refused_ok}
use Rattle.rp_step.specs.Callables.{before_all}
use Rattle.rp_engine.specs.Codes.{code_at}
use Rattle.rp_engine.specs.HandSteps.{held_by, size_of}
use Rattle.rp_engine.proofs.Moves.{on_ok}
use Rattle.rp_step.specs.Running.{Enters}
use Rattle.rp_step.proofs.RunWeights.{refused_under}
use Rattle.rp_step.proofs.runner.Runner.call_function.Goals as goal

pub returns-then-self-eq0-clause-law : goal.returns-then-self-eq0-clause-law
unfolding chars
returns-then-self-eq0-clause-law c =
    let r = c.args.self.now in
    let m = r.machine in
    let w = c.args.world.now in
    let e = c.args.callable.entry in
    let vs = before_all c.args.callable.receiver (held_by c.args.hand m.values) in
    refused_ok m w r.callers.items (size_of c.args.hand) c.refuse.new.self c.refuse.result RecursionError (codes "calls")
    (asked m w r.callers.items e c.args.lent c.args.made (size_of c.args.hand) vs)
    (λ base. calls_refused m w r.callers.items e c.args.lent c.args.made (size_of c.args.hand) vs c.requires.function base c.if-self-eq0.true) c.refuse.ensures.law

pub returns-then-self-eq0-clause-ready : goal.returns-then-self-eq0-clause-ready
returns-then-self-eq0-clause-ready c = always c.refuse.result _ (c.refuse.ensures.ready c.args.world.now c.requires.ready)

pub returns-in-None-clause-law : goal.returns-in-None-clause-law
unfolding chars
returns-in-None-clause-law c =
    let r = c.args.self.now in
    let m = r.machine in
    let w = c.args.world.now in
    let e = c.args.callable.entry in
    let vs = before_all c.args.callable.receiver (held_by c.args.hand m.values) in
    refused_ok m w r.callers.items (size_of c.args.hand) c.refuse-in-None.new.self c.refuse-in-None.result TypeError (codes "call")
    (asked m w r.callers.items e c.args.lent c.args.made (size_of c.args.hand) vs)
    (λ base. code_refused m w r.callers.items e c.args.lent c.args.made (size_of c.args.hand) vs c.requires.function (m.frame.calls - 1) (one_less m.frame.calls (omega arith))
    (c.requires.ready.machine.indexed e.side) base (ap (λ p. code_at p e.block) (sym c.program.ensures) ∙ sym c.code.ensures ∙ c.in-None.is)) c.refuse-in-None.ensures.law

pub returns-in-None-clause-ready : goal.returns-in-None-clause-ready
returns-in-None-clause-ready c = always c.refuse-in-None.result _ (c.refuse-in-None.ensures.ready c.args.world.now c.requires.ready)

pub begin-requires-clause-code : goal.begin-requires-clause-code
begin-requires-clause-code c = ap (λ p. code_at p c.args.callable.entry.block) (sym c.program.ensures) ∙ sym c.code.ensures ∙ c.in-Some.is

pub begin-requires-clause-calls : goal.begin-requires-clause-calls
begin-requires-clause-calls c = omega arith

pub returns-in-Some-clause-law : goal.returns-in-Some-clause-law
returns-in-Some-clause-law c =
    let m = c.args.self.now.machine in
    let vs = before_all c.args.callable.receiver (held_by c.args.hand m.values) in
    on_ok c.begin.result (Enters c.args.hand c.args.callable.entry.function vs c.args.lent c.args.made c.args.self.now c.args.world.now c.begin.new.self c.begin.new.world)
    (Enters c.args.hand c.args.callable.entry.function vs c.args.lent c.args.made c.args.self.now c.args.world.now c.begin.new.self c.begin.new.world)
    (λ law base. law base) c.begin.ensures.law

pub returns-then-self-eq0-clause-less : goal.returns-then-self-eq0-clause-less
returns-then-self-eq0-clause-less c = refused_under c.refuse.result c.args.self.now c.refuse.new.self c.args.world.now c.args.world.now c.refuse.ensures.less

pub returns-in-None-clause-less : goal.returns-in-None-clause-less
returns-in-None-clause-less c = refused_under c.refuse-in-None.result c.args.self.now c.refuse-in-None.new.self c.args.world.now c.args.world.now c.refuse-in-None.ensures.less
