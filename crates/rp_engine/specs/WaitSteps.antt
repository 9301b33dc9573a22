-- How many values at hand a task waits with.
use Rattle.std.specs.Prelude.{ℕ, suc, ◌+◌, ◌*◌}
use Rattle.rp_frame.specs.declared.task.ExprTask.{ExprTask}
use Rattle.rp_frame.specs.declared.task.ExprTask.TheVariants as expr
use Rattle.rp_frame.specs.declared.task.StmtTask.{StmtTask}
use Rattle.rp_frame.specs.declared.task.StmtTask.TheVariants as stmt

-- the values at hand that an expression waits with
abbrev pub at_hand : ExprTask → ℕ
at_hand (expr.Operand op os) = 1
at_hand expr.Exponent = 1
at_hand (expr.Test t ts) = 1
at_hand (expr.Key ts) = 1
at_hand (expr.Items d n es) = n
at_hand (expr.Argument n as' ts) = suc n
at_hand (expr.SliceFrom b c ts) = 1
at_hand (expr.SliceTo c ts) = 2
at_hand (expr.SliceStep ts) = 3
at_hand (expr.DictKey n x ps) = n
at_hand (expr.DictValue n ps) = n
at_hand (expr.StarArgument n as' ts) = suc n
at_hand (expr.NamedArgument n k name as' ts) = suc (2 * k + n)
at_hand (expr.StarsArgument n k as' ts) = suc (2 * k + n)
at_hand (expr.LaterArgument n k as' ts) = suc (2 * k + n)
at_hand (expr.LaterStar n k as' ts) = suc (2 * k + n)
at_hand (expr.Default name block n ps) = n
at_hand (expr.Contained t ts) = 1
at_hand _ = 0

-- those that a statement waits with for the value of an expression
abbrev pub stmt_with : StmtTask → ℕ
stmt_with (stmt.StoreAttr n) = 1
stmt_with (stmt.StoreItem k) = 1
stmt_with stmt.StoreKey = 2
stmt_with stmt.DeleteKey = 1
stmt_with (stmt.AugmentName n op) = 1
stmt_with (stmt.AugmentedAttr n op) = 2
stmt_with (stmt.AugmentKey op x) = 1
stmt_with (stmt.AugmentGot op x) = 2
stmt_with (stmt.AugmentedItem op) = 3
stmt_with (stmt.Handler h hs) = 1
stmt_with (stmt.AddEntry at) = 1
stmt_with (stmt.Method n body i k) = k
stmt_with _ = 0
