-- What the readers of the program promise.
use Rattle.std.specs.Prelude.{◌≡◌, Option, Some, None, Result, Ok, Err}
use Rattle.rp_tree.specs.Expressions.{Named}
use Rattle.rp_tree.specs.Expressions as tree
use Rattle.rp_tree.specs.ExpressionViews.{maybe_of}
use Rattle.rp_expr.specs.declared.fault.Fault.{Fault}
use Rattle.rp_expr.specs.declared.fault.Fault.TheVariants as fault

-- nothing is read, or memory ran out
abbrev pub Fails : {Y : Type 0} → Fault → Option Y → Type 0
Fails fault.Memory read = Unit {0}
Fails fault.Syntax read = read ≡ None

-- what a function answered, seen by f, is what reading gives, unless memory ran out
abbrev pub Gives : {X Y : Type 0} → (X → Y) → Result X Fault → Option Y → Type 0
Gives f (Ok x) read = read ≡ Some (f x)
Gives f (Err e) read = Fails e read

-- a parameter with its default
abbrev pub plain_item : Named × Option tree.Expr → Named × tree.Maybe
plain_item p = (p.0, maybe_of p.1)
