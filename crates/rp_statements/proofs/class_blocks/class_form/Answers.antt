use Rattle.std.proofs.Common.{refl, sym}
use Rattle.rp_statements.proofs.ClassParts.{begins_expr, begins_method, begins_pass}
use Rattle.rp_tree.specs.declared.expr.Params.{out-Params}
use Rattle.rp_engine.specs.Does as does
use Rattle.rp_statements.proofs.class_blocks.class_form.Goals as goal

pub returns-in_ok-push-in-Method-clause-law : goal.returns-in_ok-push-in-Method-clause-law
returns-in_ok-push-in-Method-clause-law c =
    begins_method c.args.machine.now c.defaults.new.machine c.args.world.now c.defaults.new.world c.defaults.result c.args.count c.args.name c.args.body.now c.args.done (does.part_form c.args.form.now) _
    c.push.new.self c.in-Method.method c.in-Method.block (does.defaults (out-Params c.in-Method.params.now).plain.items)
    (sym c.in-Method.ensures) c.in_ok-push-in-Method.ensures.pushed (λ f vs o. refl) (rw (sym c.deref.ensures.value) c.defaults.ensures.law)

pub returns-in_ok-push-in-Evaluate-clause-law : goal.returns-in_ok-push-in-Evaluate-clause-law
returns-in_ok-push-in-Evaluate-clause-law c =
    let w = c.args.world.now in
    begins_expr c.args.machine.now c.wait.new.self w w c.wait.result c.args.count c.args.name c.args.body.now c.args.done (does.part_form c.args.form.now) _ c.push-in-Evaluate.new.self
    (does.expr c.in-Evaluate.x.now) (sym c.in-Evaluate.ensures) c.in_ok-push-in-Evaluate.ensures.pushed (λ f vs o. refl) c.wait.ensures.law refl

pub returns-in-Nothing-clause-law : goal.returns-in-Nothing-clause-law
returns-in-Nothing-clause-law c =
    let w = c.args.world.now in
    begins_pass c.args.machine.now c.wait-in-Nothing.new.self w w c.wait-in-Nothing.result c.args.count c.args.name c.args.body.now c.args.done (does.part_form c.args.form.now)
    (sym c.in-Nothing.ensures) c.wait-in-Nothing.ensures.law refl
