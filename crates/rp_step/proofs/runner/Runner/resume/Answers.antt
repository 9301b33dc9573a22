use Rattle.std.proofs.Common.{sym, ap, refl}
use Rattle.rp_base.specs.declared.value.Rock.TheVariants as rock
use Rattle.rp_base.specs.declared.value.Value.TheVariants as value
use Rattle.rp_frame.specs.declared.control.Control.TheVariants as control
use Rattle.rp_ops.specs.Outcome.{ends, gives}
use Rattle.rp_access.specs.Moment.{state_of}
use Rattle.rp_engine.proofs.Doings.{always}
use Rattle.rp_step.proofs.Runs.{cut_here, resumed_ok}
use Rattle.rp_engine.specs.Ends.{end_of}
use Rattle.rp_step.specs.Running.{given, whole_of}
use Rattle.rp_step.proofs.RunWeights.{at_any, at_control}
use Rattle.rp_step.proofs.runner.Runner.resume.Goals as goal

pub returns-in-Returned-clause-law : goal.returns-in-Returned-clause-law
returns-in-Returned-clause-law c =
    let r = c.args.self.now in
    let s = state_of c.args.world.now in
    resumed_ok c.give.result (λ base. whole_of base c.give.new.self s) r.callers.items c.args.caller r.machine s control.Returned (gives c.at_hand-value.result s) c.requires.tasks c.in-Returned.is
    (λ base. ap (λ v. given base c.args.caller (gives v s)) (sym c.at_hand-value.ensures.value)) c.give.ensures.law

pub returns-in-Value-clause-law : goal.returns-in-Value-clause-law
returns-in-Value-clause-law c =
    let r = c.args.self.now in
    let s = state_of c.args.world.now in
    resumed_ok c.give-in-Value.result (λ base. whole_of base c.give-in-Value.new.self s) r.callers.items c.args.caller r.machine s control.Value (gives c.at_hand-value-in-Value.result s) c.requires.tasks c.in-Value.is
    (λ base. ap (λ v. given base c.args.caller (gives v s)) (sym c.at_hand-value-in-Value.ensures.value)) c.give-in-Value.ensures.law

pub returns-in-Next-clause-law : goal.returns-in-Next-clause-law
returns-in-Next-clause-law c =
    let r = c.args.self.now in
    let s = state_of c.args.world.now in
    resumed_ok c.give-in-Next.result (λ base. whole_of base c.give-in-Next.new.self s) r.callers.items c.args.caller r.machine s control.Next (gives (value.Rock rock.Nil) s) c.requires.tasks c.in-Next.is
    (λ base. refl) c.give-in-Next.ensures.law

pub returns-in-Broke-clause-law : goal.returns-in-Broke-clause-law
returns-in-Broke-clause-law c =
    let r = c.args.self.now in
    let s = state_of c.args.world.now in
    resumed_ok c.give-in-Broke.result (λ base. whole_of base c.give-in-Broke.new.self s) r.callers.items c.args.caller r.machine s control.Broke (gives (value.Rock rock.Nil) s) c.requires.tasks c.in-Broke.is
    (λ base. refl) c.give-in-Broke.ensures.law

pub returns-in-Continued-clause-law : goal.returns-in-Continued-clause-law
returns-in-Continued-clause-law c =
    let r = c.args.self.now in
    let s = state_of c.args.world.now in
    resumed_ok c.give-in-Continued.result (λ base. whole_of base c.give-in-Continued.new.self s) r.callers.items c.args.caller r.machine s control.Continued (gives (value.Rock rock.Nil) s) c.requires.tasks c.in-Continued.is
    (λ base. refl) c.give-in-Continued.ensures.law

pub give-requires-clause-ready : goal.give-requires-clause-ready
give-requires-clause-ready c = record { machine = c.at_hand-value.ensures.ready c.args.world.now c.requires.ready.machine; callers = c.requires.ready.callers }

pub give-requires-clause-value : goal.give-requires-clause-value
give-requires-clause-value c = (c.at_hand-value.ensures.fit c.args.world.now c.requires.ready.machine).0

pub give-requires-in-Value-clause-ready : goal.give-requires-in-Value-clause-ready
give-requires-in-Value-clause-ready c = record { machine = c.at_hand-value-in-Value.ensures.ready c.args.world.now c.requires.ready.machine; callers = c.requires.ready.callers }

pub give-requires-in-Value-clause-value : goal.give-requires-in-Value-clause-value
give-requires-in-Value-clause-value c = (c.at_hand-value-in-Value.ensures.fit c.args.world.now c.requires.ready.machine).0

pub returns-in-NoValue-clause-law : goal.returns-in-NoValue-clause-law
returns-in-NoValue-clause-law c =
    let r = c.args.self.now in
    let s = state_of c.args.world.now in
    resumed_ok c.cut.result (λ base. whole_of base c.cut.new.self s) r.callers.items c.args.caller r.machine s control.NoValue (ends (end_of r.machine.end) s) c.requires.tasks c.in-NoValue.is
    (λ base. refl) (cut_here c.cut.result c.cut.new.self r c.args.caller s c.cut.ensures.law)

pub returns-in-NoValue-clause-ready : goal.returns-in-NoValue-clause-ready
returns-in-NoValue-clause-ready c = always c.cut.result _ (c.cut.ensures.ready c.args.world.now c.requires.ready c.requires.caller)

pub returns-in-CutOff-clause-law : goal.returns-in-CutOff-clause-law
returns-in-CutOff-clause-law c =
    let r = c.args.self.now in
    let s = state_of c.args.world.now in
    resumed_ok c.cut-in-CutOff.result (λ base. whole_of base c.cut-in-CutOff.new.self s) r.callers.items c.args.caller r.machine s control.CutOff (ends (end_of r.machine.end) s) c.requires.tasks c.in-CutOff.is
    (λ base. refl) (cut_here c.cut-in-CutOff.result c.cut-in-CutOff.new.self r c.args.caller s c.cut-in-CutOff.ensures.law)

pub returns-in-CutOff-clause-ready : goal.returns-in-CutOff-clause-ready
returns-in-CutOff-clause-ready c = always c.cut-in-CutOff.result _ (c.cut-in-CutOff.ensures.ready c.args.world.now c.requires.ready c.requires.caller)

pub returns-in-Returned-clause-less : goal.returns-in-Returned-clause-less
returns-in-Returned-clause-less c = at_control c.give.result _ _ c.args.self.now.machine.control control.Returned c.in-Returned.is c.give.ensures.less

pub returns-in-Value-clause-less : goal.returns-in-Value-clause-less
returns-in-Value-clause-less c = at_control c.give-in-Value.result _ _ c.args.self.now.machine.control control.Value c.in-Value.is c.give-in-Value.ensures.less

pub returns-in-Next-clause-less : goal.returns-in-Next-clause-less
returns-in-Next-clause-less c = at_control c.give-in-Next.result _ _ c.args.self.now.machine.control control.Next c.in-Next.is c.give-in-Next.ensures.less

pub returns-in-Broke-clause-less : goal.returns-in-Broke-clause-less
returns-in-Broke-clause-less c = at_control c.give-in-Broke.result _ _ c.args.self.now.machine.control control.Broke c.in-Broke.is c.give-in-Broke.ensures.less

pub returns-in-Continued-clause-less : goal.returns-in-Continued-clause-less
returns-in-Continued-clause-less c = at_control c.give-in-Continued.result _ _ c.args.self.now.machine.control control.Continued c.in-Continued.is c.give-in-Continued.ensures.less

pub returns-in-NoValue-clause-less : goal.returns-in-NoValue-clause-less
returns-in-NoValue-clause-less c = at_any c.cut.result _ _ c.args.self.now.machine.control c.cut.ensures.less

pub returns-in-CutOff-clause-less : goal.returns-in-CutOff-clause-less
returns-in-CutOff-clause-less c = at_any c.cut-in-CutOff.result _ _ c.args.self.now.machine.control c.cut-in-CutOff.ensures.less
