use Rattle.std.proofs.Common.{◌∷◌, ◌-◌, List, length, take, drop, ap, arith, sym}
use Rattle.rp_meaning.specs.Statements as forms
use Rattle.rp_tree.specs.declared.stmt.Branch.{Branch}
use Rattle.rp_engine.proofs.Doings.{does_as, does_moves}
use Rattle.rp_access.proofs.Lists.{first_rest, none_left}
use Rattle.rp_engine.specs.Does as does
use Rattle.rp_engine.specs.Law.{frame_in}
use Rattle.rp_access.specs.Moment.{state_of}
use Rattle.rp_step.proofs.statements.choice.Goals as goal

pub returns-in-len1-up-clause-law : goal.returns-in-len1-up-clause-law
returns-in-len1-up-clause-law c =
    let m = c.args.machine.now in
    let w = c.args.world.now in
    let bs = c.args.branches.now in
    let b = c.branch-item.result in
    let other = does.block c.args.other.now in
    does_as m c.first_branch.new.machine w c.first_branch.new.world c.first_branch.result (forms.choose (does.branches bs) other)
    (forms.choose (does.branch b ∷ does.branches (take (length bs - 1) (drop 1 bs))) other) w
    (λ base. ap (λ (bs : List Branch). forms.choose (does.branches bs) other (frame_in base m) (state_of w)) (sym (first_rest bs b c.in-len1-up.len_at_least c.branch-item.is)))
    c.first_branch.ensures.law

pub returns-in-empty-clause-law : goal.returns-in-empty-clause-law
returns-in-empty-clause-law c =
    let m = c.args.machine.now in
    let w = c.args.world.now in
    let bs = c.args.branches.now in
    let other = does.block c.args.other.now in
    does_moves m c.go.new.self w w c.go.result (forms.choose (does.branches bs) other) other
    (λ base. ap (λ (bs : List Branch). forms.choose (does.branches bs) other (frame_in base m) (state_of w)) (none_left bs (omega arith))) c.go.ensures.law
