use Rattle.std.proofs.Common.{◌∷◌, Ok, List, ap, sym, ◌∙◌}
use Rattle.rp_meaning.specs.Frame.{Doing, Meaning}
use Rattle.rp_meaning.specs.Statements as forms
use Rattle.rp_meaning.specs.Statements.{Store}
use Rattle.rp_meaning.specs.Walks.{on_truth}
use Rattle.rp_tree.specs.declared.stmt.Stmt.{Stmt}
use Rattle.rp_tree.specs.declared.stmt.StmtForm.TheViews.{out-Branch}
use Rattle.rp_engine.proofs.Doings.{does_as, does_end, does_goes}
use Rattle.rp_engine.proofs.Equations.{branch_out}
use Rattle.rp_targets.proofs.Steps.{assign_ends, assign_gives}
use Rattle.rp_engine.specs.Does as does
use Rattle.rp_engine.specs.Law.{frame_in}
use Rattle.rp_access.specs.Moment.{state_of}
use Rattle.rp_step.proofs.statements.first_branch.Goals as goal

pub returns-in-Ok-Some-clause-law : goal.returns-in-Ok-Some-clause-law
returns-in-Ok-Some-clause-law c =
    let m = c.args.machine.now in
    let w = c.args.world.now in
    let u = c.leaf.new.world in
    let b = c.args.branch.now in
    let more = does.branches c.args.rest.now in
    let other : Doing = does.block c.args.other.now in
    let x : Meaning = does.expr (out-Branch b).test in
    let body : Doing = does.block c.deref.result.now in
    let store : Store = λ v f s. on_truth v f s (body f) (forms.choose more other f) in
    let found = rw c.in-Ok-Some.field-0-is at c.in-Ok-Some.ensures.law in
    does_as m c.branched.new.machine w c.branched.new.world c.branched.result (forms.choose (does.branch b ∷ more) other) (store c.in-Ok-Some.value) u
    (λ base. ap (λ (d : Meaning × Doing). forms.choose (d ∷ more) other (frame_in base m) (state_of w))
    (branch_out b ∙ ap (λ (xs : List Stmt). (x, does.block xs)) (sym c.deref.ensures.value))
    ∙ assign_gives m w u x store c.in-Ok-Some.value found base) c.branched.ensures.law

pub returns-in-Ok-None-clause-law : goal.returns-in-Ok-None-clause-law
returns-in-Ok-None-clause-law c =
    let m = c.args.machine.now in
    let w = c.args.world.now in
    let u = c.leaf.new.world in
    let b = c.args.branch.now in
    let more = does.branches c.args.rest.now in
    let other : Doing = does.block c.args.other.now in
    let x : Meaning = does.expr (out-Branch b).test in
    let E : Doing = forms.choose ((x, does.block c.deref-in-Ok-None.result.now) ∷ more) other in
    let same = c.in-Ok-None.ensures.none (ap Ok c.in-Ok-None.field-0-is) in
    does_goes m c.wait.new.self w u c.wait.result (forms.choose (does.branch b ∷ more) other) E
    (λ base. ap (λ (d : Meaning × Doing). forms.choose (d ∷ more) other (frame_in base m) (state_of w))
    (branch_out b ∙ ap (λ (xs : List Stmt). (x, does.block xs)) (sym c.deref-in-Ok-None.ensures.value))
    ∙ ap (λ z. E (frame_in base m) (state_of z)) (sym same)) c.wait.ensures.law

pub returns-in-Err-clause-law : goal.returns-in-Err-clause-law
returns-in-Err-clause-law c =
    let m = c.args.machine.now in
    let w = c.args.world.now in
    let u = c.leaf.new.world in
    let b = c.args.branch.now in
    let more = does.branches c.args.rest.now in
    let other : Doing = does.block c.args.other.now in
    let x : Meaning = does.expr (out-Branch b).test in
    let body : Doing = does.block (out-Branch b).body.items in
    let store : Store = λ v f s. on_truth v f s (body f) (forms.choose more other f) in
    does_end m c.cut_off.new.self w u c.cut_off.result (forms.choose (does.branch b ∷ more) other) c.in-Err.end
    (λ base. rw (branch_out b) (assign_ends m w u x store c.in-Err.end c.in-Err.ensures.law base)) c.cut_off.ensures.law
