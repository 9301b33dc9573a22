use Rattle.std.proofs.Common.{ap, ◌∙◌, arith}
use Rattle.rp_expressions.proofs.CallEquations.{arg_key, arg_plain, arg_star, arg_stars}
use Rattle.rp_expressions.proofs.Spreads.{behind_waits, key_waits, plain_waits, stars_waits, waits_as}
use Rattle.rp_engine.specs.Does as does
use Rattle.rp_engine.specs.Rest.{after_expr}
use Rattle.rp_engine.proofs.Weights as weights
use Rattle.rp_expressions.proofs.arguments.argument.Goals as goal

pub returns-in-Plain-clause-law : goal.returns-in-Plain-clause-law
returns-in-Plain-clause-law c =
    let m = c.args.machine.now in
    let n = c.wait.new.self in
    let x = does.expr c.in-Plain.x in
    plain_waits m n c.wait.result (does.args c.args.args.now) (does.trailers c.args.rest.now) c.args.hand x (does.arg c.args.arg.now) (ap does.arg c.in-Plain.is ∙ arg_plain c.in-Plain.x)
    (waits_as m n c.wait.result (after_expr c.plain_task.result) _ c.plain_task.ensures.does x c.wait.ensures.law)

pub returns-in-Star-clause-law : goal.returns-in-Star-clause-law
returns-in-Star-clause-law c =
    let m = c.args.machine.now in
    let n = c.wait-in-Star.new.self in
    let x = does.expr c.in-Star.x in
    behind_waits m n c.wait-in-Star.result (does.args c.args.args.now) (does.trailers c.args.rest.now) c.args.hand x (does.arg c.args.arg.now) (ap does.arg c.in-Star.is ∙ arg_star c.in-Star.x)
    (waits_as m n c.wait-in-Star.result (after_expr c.star_task.result) _ c.star_task.ensures.does x c.wait-in-Star.ensures.law)

pub returns-in-Key-clause-law : goal.returns-in-Key-clause-law
returns-in-Key-clause-law c =
    key_waits c.args.machine.now c.wait-in-Key.new.self c.wait-in-Key.result (does.args c.args.args.now) (does.trailers c.args.rest.now) c.args.hand c.in-Key.name (does.expr c.in-Key.x)
    (does.arg c.args.arg.now) (ap does.arg c.in-Key.is ∙ arg_key c.in-Key.name c.in-Key.x) c.wait-in-Key.ensures.law

pub returns-in-Stars-clause-law : goal.returns-in-Stars-clause-law
returns-in-Stars-clause-law c =
    stars_waits c.args.machine.now c.wait-in-Stars.new.self c.wait-in-Stars.result (does.args c.args.args.now) (does.trailers c.args.rest.now) c.args.hand (does.expr c.in-Stars.x)
    (does.arg c.args.arg.now) (ap does.arg c.in-Stars.is ∙ arg_stars c.in-Stars.x) c.wait-in-Stars.ensures.law

pub returns-in-Plain-clause-less : goal.returns-in-Plain-clause-less
returns-in-Plain-clause-less c = rw c.in-Plain.is (grind (arith, weights.arg_plain c.in-Plain.x, c.plain_task.ensures.held))

pub returns-in-Star-clause-less : goal.returns-in-Star-clause-less
returns-in-Star-clause-less c = rw c.in-Star.is (grind (arith, weights.arg_star c.in-Star.x, c.star_task.ensures.held))

pub returns-in-Key-clause-less : goal.returns-in-Key-clause-less
returns-in-Key-clause-less c = rw c.in-Key.is (grind (arith, weights.arg_key c.in-Key.name c.in-Key.x))

pub returns-in-Stars-clause-less : goal.returns-in-Stars-clause-less
returns-in-Stars-clause-less c = rw c.in-Stars.is (grind (arith, weights.arg_stars c.in-Stars.x))
