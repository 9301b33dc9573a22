-- How much a run can still do without a step of the session: what its machine can, and the code that waits.
use Rattle.std.specs.Prelude.{ℕ, suc, ◌+◌, ◌<◌, ◌≤◌, List, [], ◌∷◌}
use Rattle.rp_codes.specs.declared.code.Code.{Code}
use Rattle.rp_codes.specs.declared.code.Code.TheVariants as code
use Rattle.rp_engine.specs.Loads.{expr_weight, next, tasks}
use Rattle.rp_proxy.specs.declared.world.World.{World}
use Rattle.rp_step.specs.declared.callers.Caller.{Caller}
use Rattle.rp_step.specs.declared.runner.Runner.{Runner}

-- code that waits weighs 1 more than its tasks
abbrev pub waits : List Caller → ℕ
waits [] = 0
waits (c ∷ cs) = suc (tasks c.tasks) + waits cs

-- all that waits
abbrev pub behind : Runner → ℕ
behind r = tasks r.machine.tasks + waits r.callers.items

abbrev pub run_load : Runner → ℕ
run_load r = next r.machine.control + behind r

-- what begins the code of a function, a block or an expression
abbrev pub code_weight : Code → ℕ
code_weight (code.Def ps body) = 3
code_weight (code.Lambda ps body) = expr_weight body.now

-- A run comes nearer to its end: of the pair of the steps that are left and of the load, the steps first, it has a smaller one.
abbrev pub Falls : Runner → World → Runner → World → Type 0
Falls r w q v = (v.running.meter.left ≤ w.running.meter.left) × (w.running.meter.left ≤ v.running.meter.left → run_load q < run_load r)

-- where no step was taken, less is left than what waited, and this
abbrev pub Lowers : ℕ → Runner → World → Runner → World → Type 0
Lowers b r w q v = w.running.meter.left ≤ v.running.meter.left → run_load q < b + behind r
