use Rattle.std.proofs.Common.{◌≡◌, ◌∷◌, ◌-◌, List, length, take, drop, sym, ap, ◌∙◌, arith}
use Rattle.rp_meaning.specs.Frame.{Doing, Run}
use Rattle.rp_meaning.specs.State.{Flow, Outcome, State}
use Rattle.rp_tree.specs.declared.stmt.Stmt.{Stmt}
use Rattle.rp_proxy.specs.declared.world.World.{World}
use Rattle.rp_engine.proofs.Doings.{moves_any}
use Rattle.rp_access.proofs.Lists.{first_rest, none_left, only_first}
use Rattle.rp_targets.proofs.Steps.{on_done}
use Rattle.rp_engine.proofs.Moves.{on_ok}
use Rattle.rp_engine.specs.Does as does
use Rattle.rp_engine.specs.Law.{Executes, frame_in, rest_of}
use Rattle.rp_access.specs.Moment.{state_of}
use Rattle.rp_engine.specs.Rest.{did, rest}
use Rattle.rp_step.proofs.run.block.Goals as goal

pub returns-in-len1-up-clause-law : goal.returns-in-len1-up-clause-law
returns-in-len1-up-clause-law c =
    let m = c.args.machine.now in
    let n = c.wait.new.self in
    let xs = c.args.block.now in
    let x = c.x-item-2.result in
    let D : Doing = does.block (x ∷ take (length xs - 1) (drop 1 xs)) in
    on_ok c.wait.result ((base : Run) (s : State) → rest_of base n s ≡ rest m.tasks (did (frame_in base m) m.values (D (frame_in base m) s)))
    ((w : World) → Executes (does.block xs) m w n w)
    (λ law w base. law base (state_of w) ∙ ap (λ ys. rest m.tasks (did (frame_in base m) m.values (does.block ys (frame_in base m) (state_of w))))
    (first_rest xs x (omega arith) c.x-item-2.is)) c.wait.ensures.law

pub returns-in-empty-clause-law : goal.returns-in-empty-clause-law
returns-in-empty-clause-law c =
    let m = c.args.machine.now in
    let xs = c.args.block.now in
    moves_any m c.go.new.self c.go.result (does.block xs)
    (λ base s. c.go.ensures.law base s ∙ ap (λ (xs : List Stmt). rest m.tasks (did (frame_in base m) m.values (does.block xs (frame_in base m) s))) (sym (none_left xs (omega arith))))

pub returns-in-len1-clause-law : goal.returns-in-len1-clause-law
returns-in-len1-clause-law c =
    let m = c.args.machine.now in
    let xs = c.args.block.now in
    let x = c.x-item.result in
    moves_any m c.go-in-len1.new.self c.go-in-len1.result (does.block xs)
    (λ base s. c.go-in-len1.ensures.law base s
    ∙ ap (λ (o : Outcome Flow). rest m.tasks (did (frame_in base m) m.values o)) (sym (on_done (does.stmt x (frame_in base m) s)))
    ∙ ap (λ (xs : List Stmt). rest m.tasks (did (frame_in base m) m.values (does.block xs (frame_in base m) s))) (only_first xs x c.in-len1.len_at_least c.in-len1.len_below c.x-item.is))
