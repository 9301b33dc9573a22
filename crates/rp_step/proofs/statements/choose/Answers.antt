use Rattle.std.proofs.Common.{◌≡◌, ◌∷◌, ◌-◌, List, length, take, drop, sym, ap, ◌∙◌, arith}
use Rattle.rp_meaning.specs.Frame.{Doing, Meaning, Run}
use Rattle.rp_meaning.specs.State.{State}
use Rattle.rp_meaning.specs.Statements as forms
use Rattle.rp_proxy.specs.declared.world.World.{World}
use Rattle.rp_tree.specs.declared.stmt.Branch.{Branch}
use Rattle.rp_tree.specs.declared.stmt.Stmt.{Stmt}
use Rattle.rp_tree.specs.declared.stmt.StmtForm.TheViews.{out-Branch}
use Rattle.rp_engine.proofs.Doings.{moves_any}
use Rattle.rp_engine.proofs.Equations.{branch_out}
use Rattle.rp_access.proofs.Lists.{first_rest, none_left}
use Rattle.rp_engine.proofs.Moves.{on_ok}
use Rattle.rp_engine.specs.Does as does
use Rattle.rp_engine.specs.Law.{Executes, frame_in, rest_of}
use Rattle.rp_access.specs.Moment.{state_of}
use Rattle.rp_engine.specs.Rest.{did, rest}
use Rattle.rp_engine.proofs.Weights as weights
use Rattle.rp_step.proofs.statements.choose.Goals as goal

pub returns-in-len1-up-clause-law : goal.returns-in-len1-up-clause-law
returns-in-len1-up-clause-law c =
    let m = c.args.machine.now in
    let n = c.wait.new.self in
    let bs = c.args.branches.now in
    let b = c.branch-item.result in
    let more = does.branches (take (length bs - 1) (drop 1 bs)) in
    let other : Doing = does.block c.args.other.now in
    let x : Meaning = does.expr (out-Branch b).test in
    let E : Doing = forms.choose ((x, does.block c.deref.result.now) ∷ more) other in
    on_ok c.wait.result ((base : Run) (s : State) → rest_of base n s ≡ rest m.tasks (did (frame_in base m) m.values (E (frame_in base m) s)))
    ((w : World) → Executes (forms.choose (does.branches bs) other) m w n w)
    (λ law w base. law base (state_of w) ∙ ap (λ (ds : List (Meaning × Doing)). rest m.tasks (did (frame_in base m) m.values (forms.choose ds other (frame_in base m) (state_of w))))
    (ap (λ (xs : List Stmt). (x, does.block xs) ∷ more) c.deref.ensures.value ∙ ap (λ (d : Meaning × Doing). d ∷ more) (sym (branch_out b))
    ∙ ap does.branches (first_rest bs b c.in-len1-up.len_at_least c.branch-item.is))) c.wait.ensures.law

pub returns-in-empty-clause-law : goal.returns-in-empty-clause-law
returns-in-empty-clause-law c =
    let m = c.args.machine.now in
    let bs = c.args.branches.now in
    let other : Doing = does.block c.args.other.now in
    moves_any m c.go.new.self c.go.result (forms.choose (does.branches bs) other)
    (λ base s. c.go.ensures.law base s ∙ ap (λ (bs : List Branch). rest m.tasks (did (frame_in base m) m.values (forms.choose (does.branches bs) other (frame_in base m) s))) (sym (none_left bs (omega arith))))

pub returns-in-len1-up-clause-less : goal.returns-in-len1-up-clause-less
returns-in-len1-up-clause-less c =
    grind (arith, weights.branches_front c.args.branches.now c.branch-item.result c.in-len1-up.len_at_least c.branch-item.is, weights.branch_test c.branch-item.result)
