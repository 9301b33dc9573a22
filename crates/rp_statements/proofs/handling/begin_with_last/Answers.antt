use Rattle.std.proofs.Common.{refl}
use Rattle.rp_meaning.specs.Exceptions as exception
use Rattle.rp_statements.proofs.Handlings.{pushed_any}
use Rattle.rp_engine.specs.Does as does
use Rattle.rp_engine.specs.Handling as steps
use Rattle.rp_statements.proofs.handling.begin_with_last.Goals as goal

pub returns-clause-law : goal.returns-clause-law
returns-clause-law c =
    let m = c.args.machine.now in
    let body = does.block c.args.body.now in
    let handlers = does.handlers c.args.handlers.now in
    let other = does.block c.args.other.now in
    pushed_any m c.begin_guarded.new.machine c.begin_guarded.result _ c.push.new.self (exception.try body handlers other (does.block c.args.last.now))
    (steps.guarded body handlers other) c.in_ok-push.ensures.pushed (λ base s. refl) c.begin_guarded.ensures.law
