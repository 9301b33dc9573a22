-- Groups of tasks, for each of which the code has a function.
use Rattle.std.specs.Prelude.{Bool, true, false}
use Rattle.rp_frame.specs.declared.task.ExprTask.{ExprTask}
use Rattle.rp_frame.specs.declared.task.ExprTask.TheVariants as expr
use Rattle.rp_frame.specs.declared.task.StmtTask.{StmtTask}
use Rattle.rp_frame.specs.declared.task.StmtTask.TheVariants as stmt

-- it waits for an argument of a call
abbrev pub of_call : ExprTask → Bool
of_call (expr.Argument n as' ts) = true
of_call (expr.StarArgument n as' ts) = true
of_call (expr.NamedArgument n k name as' ts) = true
of_call (expr.StarsArgument n k as' ts) = true
of_call (expr.LaterArgument n k as' ts) = true
of_call (expr.LaterStar n k as' ts) = true
of_call _ = false

-- it waits for a part of a display, for what a comprehension goes over, for a default of a function, or for an argument of a call
abbrev pub of_parts : ExprTask → Bool
of_parts (expr.Items d n es) = true
of_parts (expr.DictKey n x ps) = true
of_parts (expr.DictValue n ps) = true
of_parts (expr.Comprehension b c cs x) = true
of_parts (expr.Default name block n ps) = true
of_parts t = of_call t

-- it waits for a part of a place that is stored to, deleted or augmented, or for what augments it
abbrev pub of_place : StmtTask → Bool
of_place (stmt.StoreAttr n) = true
of_place (stmt.StoreItem k) = true
of_place stmt.StoreKey = true
of_place (stmt.DeleteAttr n) = true
of_place (stmt.DeleteItem k) = true
of_place stmt.DeleteKey = true
of_place (stmt.AugmentName n op) = true
of_place (stmt.AugmentAttr n op x) = true
of_place (stmt.AugmentedAttr n op) = true
of_place (stmt.AugmentItem k op x) = true
of_place (stmt.AugmentKey op x) = true
of_place (stmt.AugmentGot op x) = true
of_place (stmt.AugmentedItem op) = true
of_place _ = false
