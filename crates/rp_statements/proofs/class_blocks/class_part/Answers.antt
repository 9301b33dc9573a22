use Rattle.std.proofs.Common.{List, [], drop, take, ap, ◌∙◌}
use Rattle.rp_access.specs.Moment.{state_of}
use Rattle.rp_engine.proofs.Doings.{held_as}
use Rattle.rp_engine.specs.ClassSteps.{class_behind, held_methods}
use Rattle.rp_engine.specs.Does as does
use Rattle.rp_engine.specs.Law.{frame_in}
use Rattle.rp_engine.specs.Rest.{did}
use Rattle.rp_tree.specs.declared.stmt.Stmt.{Stmt}
use Rattle.std.proofs.Common.{reverse}
use Rattle.std.proofs.lemmas.List.{drop_all, take_all}
use Rattle.rp_statements.proofs.class_blocks.class_part.Goals as goal

pub returns-in-None-clause-law : goal.returns-in-None-clause-law
returns-in-None-clause-law c =
    let m = c.args.machine.now in
    let w = c.args.world.now in
    let xs = c.args.body.now in
    let n = c.args.name in
    let vs = m.values in
    held_as m c.make_class.new.machine c.make_class.new.world c.make_class.result
    (λ base. did (frame_in base m) (drop c.args.count vs) (class_behind n (does.parts (drop c.args.done xs)) (held_methods (reverse (does.parts (take c.args.done xs))) vs) (frame_in base m) (state_of w)))
    (λ base. did (frame_in base m) (drop c.args.count vs) (class_behind n [] (held_methods (reverse (does.parts xs)) vs) (frame_in base m) (state_of w)))
    (λ base. ap (λ (ys : List Stmt). did (frame_in base m) (drop c.args.count vs) (class_behind n (does.parts ys) (held_methods (reverse (does.parts (take c.args.done xs))) vs) (frame_in base m) (state_of w)))
    (drop_all c.args.done xs c.in-None.ensures)
    ∙ ap (λ (ys : List Stmt). did (frame_in base m) (drop c.args.count vs) (class_behind n [] (held_methods (reverse (does.parts ys)) vs) (frame_in base m) (state_of w))) (take_all c.args.done xs c.in-None.ensures)) c.make_class.ensures.law
