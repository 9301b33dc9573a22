use Rattle.std.proofs.Common.{None, refl}
use Rattle.rp_meaning.specs.Statements as stmt_forms
use Rattle.rp_engine.proofs.Doings.{does_goes}
use Rattle.rp_engine.specs.Does as does
use Rattle.rp_statements.proofs.returning.give_back.Goals as goal

pub returns-in-None-clause-law : goal.returns-in-None-clause-law
returns-in-None-clause-law c =
    let m = c.args.machine.now in
    let w = c.args.world.now in
    does_goes m c.returns.new.machine w w c.returns.result (stmt_forms.give_back (does.maybe c.args.value.now)) (stmt_forms.give_back None) (λ base. rw (c.in-None.is) refl) c.returns.ensures.law

pub returns-in-Some-clause-law : goal.returns-in-Some-clause-law
returns-in-Some-clause-law c = rw (c.in-Some.is) c.give_value.ensures.law

pub returns-in-None-clause-ready : goal.returns-in-None-clause-ready
returns-in-None-clause-ready c = c.returns.ensures.ready c.args.world.now c.requires.ready (tt, tt)
