-- How much a machine can still do without a step of the session: a weight for what it does next, and one for each task
-- that waits. What takes no step lowers their sum, by at least 1 each time, so that a machine comes to a step or to its
-- end.
use Rattle.std.specs.Prelude.{ℕ, suc, ◌+◌, ◌*◌, ◌<◌, ◌≤◌, List, [], ◌∷◌, Option, Some, None}
use Rattle.rp_frame.specs.declared.control.Control.{Control}
use Rattle.rp_frame.specs.declared.control.Control.TheVariants as control
use Rattle.rp_frame.specs.declared.spot.Adds.{Adds}
use Rattle.rp_frame.specs.declared.spot.Adds.TheVariants as adding
use Rattle.rp_frame.specs.declared.task.ExprTask.{ExprTask}
use Rattle.rp_frame.specs.declared.task.ExprTask.TheVariants as expr
use Rattle.rp_frame.specs.declared.task.FlowTask.{FlowTask}
use Rattle.rp_frame.specs.declared.task.FlowTask.TheVariants as flow
use Rattle.rp_frame.specs.declared.task.StmtTask.{StmtTask}
use Rattle.rp_frame.specs.declared.task.StmtTask.TheVariants as stmt
use Rattle.rp_frame.specs.declared.task.Task.{Task}
use Rattle.rp_frame.specs.declared.task.Task.TheVariants as task
use Rattle.rp_grammar.specs.Program.{highest}
use Rattle.rp_proxy.specs.declared.world.World.{World}
use Rattle.rp_engine.specs.declared.machine.Machine.{Machine}
use Rattle.rp_tree.specs.ExpressionTrees as trees
use Rattle.rp_tree.specs.Heights.{arg_height, expr_height, form_height, place_height}
use Rattle.rp_tree.specs.ExpressionViews.{view_arg, view_expr, view_form, view_place, view_target}
use Rattle.rp_tree.specs.StatementViews.{view_branch}
use Rattle.rp_tree.specs.Expressions.{Named}
use Rattle.rp_tree.specs.declared.expr.Arg.{Arg}
use Rattle.rp_tree.specs.declared.expr.Arg.TheViews.{out-Clause, out-Walk}
use Rattle.rp_tree.specs.declared.expr.Clause.{Clause}
use Rattle.rp_tree.specs.declared.expr.Expr.{Expr}
use Rattle.rp_tree.specs.declared.expr.ExprForm.{ExprForm}
use Rattle.rp_tree.specs.declared.expr.Place.{Place}
use Rattle.rp_tree.specs.declared.expr.Target.{Target}
use Rattle.rp_tree.specs.declared.stmt.Branch.{Branch}
use Rattle.rp_tree.specs.declared.stmt.Except.{Except}
use Rattle.rp_tree.specs.declared.stmt.StmtForm.TheViews.{out-Except}

-- Parts of a tree, by their heights. These names are opaque where the machine is proved, and what is known of them there
-- is that a part that is begun with no step weighs less than the whole. An expression weighs 1 more than what it does;
-- what it does weighs as much as its form.

unfoldable pub inside : Expr → ℕ
inside x = 2 * expr_height (view_expr x)

unfoldable pub form : ExprForm → ℕ
form x = 2 * suc (form_height (view_form x))

-- a call that is asked for: at least what entering it leaves, the block of a `def` or the expression of a `lambda`, of a
-- tree that a script or a module may have
unfoldable pub called : ℕ
called = 5 + 2 * highest

-- a place that is stored to, or deleted: its object and its key, and the special method of an item
unfoldable pub place : Place → ℕ
place p = called + 4 * place_height (view_place p)

unfoldable pub arg : Arg → ℕ
arg x = suc (2 * arg_height (view_arg x))

-- a branch of `if`: its test
unfoldable pub branch : Branch → ℕ
branch b = suc (2 * expr_height (view_branch b).0)

-- a target: its places, and 3 for each group
abbrev mutual
  pub target_in : {A : Type 0} → trees.Target A → ℕ
  target_in (trees.to_place p) = called + 4 * place_height p
  target_in (trees.group ps) = 3 + targets_in ps

  pub targets_in : {A : Type 0} → trees.Targets A → ℕ
  targets_in trees.no_targets = 0
  targets_in (trees.target p ps) = target_in p + targets_in ps

unfoldable pub target : Target → ℕ
target p = target_in (view_target p)

abbrev pub expr_weight : Expr → ℕ
expr_weight x = suc (inside x)

-- what may be missing weighs nothing there
abbrev pub maybe : Option Expr → ℕ
maybe None = 0
maybe (Some x) = inside x

-- operands, of which the first is begun with no step
abbrev pub operands : List Expr → ℕ
operands [] = 2
operands (x ∷ xs) = 2 + inside x

-- parts that are begun one behind another with no step

abbrev pub exprs : List Expr → ℕ
exprs [] = 0
exprs (x ∷ xs) = suc (expr_weight x) + exprs xs

abbrev pub pairs : List (Expr × Expr) → ℕ
pairs [] = 0
pairs (p ∷ ps) = 2 + inside p.0 + inside p.1 + pairs ps

abbrev pub params : List (Named × Option Expr) → ℕ
params [] = 0
params (p ∷ ps) = suc (maybe p.1) + params ps

abbrev pub places : List Place → ℕ
places [] = 0
places (p ∷ ps) = suc (place p) + places ps

abbrev pub targets : List Target → ℕ
targets [] = 0
targets (p ∷ ps) = target p + targets ps

abbrev pub args : List Arg → ℕ
args [] = 0
args (x ∷ xs) = arg x + args xs

abbrev pub branches : List Branch → ℕ
branches [] = 0
branches (b ∷ bs) = branch b + branches bs

-- the clauses of a `try` statement, each with the expression behind `except`
abbrev pub excepts : List Except → ℕ
excepts [] = 0
excepts (h ∷ hs) = 4 + maybe (out-Except h).kind + excepts hs

-- what a comprehension adds, or the walk of its next clause
abbrev pub adds : Adds → ℕ
adds (adding.Element at x) = 2 + inside x.now
adds (adding.Entry at k x) = 2 + inside k.now + inside x.now

abbrev pub nest : List Clause → Adds → ℕ
nest [] a = adds a
nest (c ∷ cs) a = 2 + inside (out-Walk (out-Clause c).walk).of

-- behind the tests of a clause
abbrev pub tested : List Expr → List Clause → Adds → ℕ
tested ts cs a = exprs ts + nest cs a

-- What waits. A task weighs 1 more than this.

abbrev pub expr_task : ExprTask → ℕ
expr_task (expr.Operands os) = 0
expr_task (expr.Operand op os) = 1
expr_task expr.Not = 0
expr_task (expr.Cond a b) = expr_weight a.now + expr_weight b.now
expr_task (expr.Unary op) = 0
expr_task (expr.Power x) = inside x.now
expr_task expr.Exponent = 0
expr_task (expr.Tests ts) = 0
expr_task (expr.Test t ts) = called
expr_task (expr.Joined all es) = 0
expr_task (expr.Trailers ts) = 0
expr_task (expr.Key ts) = called
expr_task (expr.Items d n es) = exprs es.now
expr_task (expr.Argument n as' ts) = called + args as'.now
expr_task (expr.SliceFrom to stride ts) = suc (maybe to.now + maybe stride.now)
expr_task (expr.SliceTo stride ts) = suc (maybe stride.now)
expr_task (expr.SliceStep ts) = 1
expr_task (expr.DictKey n x ps) = suc (inside x.now) + pairs ps.now
expr_task (expr.DictValue n ps) = pairs ps.now
expr_task (expr.Comprehension block first behind made) = 2
expr_task (expr.StarArgument n as' ts) = called + args as'.now
expr_task (expr.NamedArgument n m name as' ts) = called + args as'.now
expr_task (expr.StarsArgument n m as' ts) = called + args as'.now
expr_task (expr.LaterArgument n m as' ts) = called + args as'.now
expr_task (expr.LaterStar n m as' ts) = called + args as'.now
expr_task (expr.Default name block n ps) = params ps.now
expr_task (expr.Contained t ts) = 1
expr_task (expr.Length ts) = 1

abbrev pub stmt_task : StmtTask → ℕ
stmt_task stmt.Evaluate = 0
stmt_task (stmt.Assign ps) = places ps.now
stmt_task (stmt.Branch b bs x) = suc (branches bs.now)
stmt_task (stmt.Test b) = 1
stmt_task (stmt.Assert m) = maybe m.now
stmt_task stmt.Fail = 0
stmt_task (stmt.StoreAttr n) = 0
stmt_task (stmt.StoreItem k) = called + inside k.now
stmt_task stmt.StoreKey = called
stmt_task (stmt.DeleteAttr n) = 0
stmt_task (stmt.DeleteItem k) = called + inside k.now
stmt_task stmt.DeleteKey = called
stmt_task (stmt.AugmentName n op) = 0
stmt_task (stmt.For e) = 0
stmt_task stmt.Raise = 0
stmt_task (stmt.AugmentAttr n op x) = inside x.now
stmt_task (stmt.AugmentedAttr n op) = 0
stmt_task (stmt.AugmentItem k op x) = 2 * called + inside k.now + inside x.now
stmt_task (stmt.AugmentKey op x) = 2 * called + inside x.now
stmt_task (stmt.AugmentGot op x) = called + inside x.now
stmt_task (stmt.AugmentedItem op) = called
stmt_task (stmt.Unpack p) = target p.now
stmt_task (stmt.Handler h hs) = 2 + excepts hs.now
stmt_task (stmt.Where ts cs a) = tested ts.now cs.now a
stmt_task (stmt.AddElement at) = 0
stmt_task (stmt.AddKey at x) = inside x.now
stmt_task (stmt.AddEntry at) = 0
stmt_task stmt.Return = 0
stmt_task (stmt.Define n) = 0
stmt_task (stmt.Method n b done count) = 0

abbrev pub flow_task : FlowTask → ℕ
flow_task (flow.Block xs) = 0
flow_task (flow.While n x b) = 0
flow_task (flow.Store ps) = places ps.now
flow_task (flow.Delete ps) = places ps.now
flow_task (flow.For n p e) = 0
flow_task (flow.StoreEach ps) = targets ps.now
flow_task (flow.Class n b done count) = 0
flow_task (flow.Clause ts cs a) = tested ts.now cs.now a
flow_task (flow.Try hs x) = 4 + excepts hs.now
flow_task (flow.Handled n) = 0
flow_task (flow.Finally b) = 4
flow_task (flow.Leave l) = 0

abbrev pub held : Task → ℕ
held (task.Expr t) = expr_task t
held (task.Stmt t) = stmt_task t
held (task.Flow t) = flow_task t

abbrev pub tasks : List Task → ℕ
tasks [] = 0
tasks (t ∷ ts) = suc (held t) + tasks ts

-- what is done next
abbrev pub next : Control → ℕ
next (control.Expression x) = expr_weight x.now
next (control.Statement x) = 1
next (control.Block xs) = 3
next control.Value = 2
next control.NoValue = 0
next control.Next = 2
next control.Broke = 2
next control.Continued = 2
next control.CutOff = 0
next control.Returned = 2
next (control.Call n m) = called
next (control.Special name n) = called
next (control.Comprehension block first behind made spot) = 4

abbrev pub load : Machine → ℕ
load m = next m.control + tasks m.tasks

-- From a machine another was made, which weighs no more than the tasks that it had, and this.
abbrev pub IsUnder : ℕ → Machine → Machine → Type 0
IsUnder b m n = load n ≤ b + tasks m.tasks

-- the same, where the worlds tell of no step
abbrev pub Lowers : ℕ → Machine → World → Machine → World → Type 0
Lowers b m w n v = w.running.meter.left ≤ v.running.meter.left → load n ≤ b + tasks m.tasks

-- no step was taken, and the machine weighs less, or one was taken
abbrev pub IsLess : Machine → World → Machine → World → Type 0
IsLess m w n v = w.running.meter.left ≤ v.running.meter.left → load n < load m
