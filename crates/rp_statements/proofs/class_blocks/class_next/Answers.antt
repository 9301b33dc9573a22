use Rattle.std.proofs.Common.{◌+◌, drop, reverse, take, sym, ap, ◌∙◌, arith, ◌≡◌}
use Rattle.rp_tree.specs.declared.stmt.StmtForm.{StmtForm}
use Rattle.rp_statements.proofs.ClassEquations.{part_out}
use Rattle.rp_statements.proofs.ClassParts.{class_goes, parts_done}
use Rattle.rp_engine.specs.Does as does
use Rattle.rp_statements.proofs.class_blocks.class_next.Goals as goal

pub returns-clause-law : goal.returns-clause-law
returns-clause-law c =
    let xs = c.args.body.now in
    let x = c.args.part.now in
    let next : c.in_ok-done.done ≡ c.args.done + 1 = omega (arith, c.in_ok-done.ensures) in
    class_goes c.args.machine.now c.class_form.new.machine c.args.world.now c.class_form.new.world c.class_form.result c.args.count c.args.name
    (does.part x) (does.part_form c.deref.result.now) (reverse (does.parts (take c.args.done xs))) (reverse (does.parts (take c.in_ok-done.done xs)))
    (does.parts (drop (c.args.done + 1) xs)) (does.parts (drop c.in_ok-done.done xs))
    (part_out x ∙ ap (λ (z : StmtForm). does.part_form z) (sym c.deref.ensures)) (parts_done c.args.done c.in_ok-done.done x xs (drop (c.args.done + 1) xs) c.in_ok-done.ensures c.requires.next)
    (ap (λ k. does.parts (drop k xs)) next) c.class_form.ensures.law
