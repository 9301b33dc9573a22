-- What the program's trees do: what the trees do that they stand for. These names are opaque where the machine is proved, and their equations, one for
-- each level of a tree, are all that is known of them there.
use Rattle.std.specs.Prelude.{List, [], ◌∷◌, Option, Some, None, map, option_map}
use Rattle.rp_base.specs.declared.operator.BinOp.{BinOp}
use Rattle.rp_base.specs.declared.value.Value.{Value}
use Rattle.rp_tree.specs.declared.expr.Arg.{Arg}
use Rattle.rp_tree.specs.declared.expr.Clause.{Clause}
use Rattle.rp_tree.specs.declared.expr.Expr.{Expr}
use Rattle.rp_tree.specs.declared.expr.ExprForm.{ExprForm}
use Rattle.rp_tree.specs.declared.expr.Place.{Place}
use Rattle.rp_tree.specs.declared.expr.Target.{Target}
use Rattle.rp_tree.specs.declared.expr.Trailer.{Trailer}
use Rattle.rp_tree.specs.declared.parts.Test.{Test}
use Rattle.rp_tree.specs.declared.stmt.Branch.{Branch}
use Rattle.rp_tree.specs.declared.stmt.Except.{Except}
use Rattle.rp_tree.specs.declared.stmt.Stmt.{Stmt}
use Rattle.rp_tree.specs.declared.stmt.StmtForm.{StmtForm}
use Rattle.rp_tree.specs.Expressions.{Named}
use Rattle.rp_tree.specs.ExpressionViews.{view_arg, view_clause, view_expr, view_form, view_place, view_target, view_trailer}
use Rattle.rp_tree.specs.StatementViews.{view_branch, view_except, view_stmt, view_stmt_form}
use Rattle.rp_tree.specs.Statements as stmt_tree
use Rattle.rp_meaning.specs.Calls.{Argument}
use Rattle.rp_meaning.specs.Classes.{Part}
use Rattle.rp_meaning.specs.Exceptions.{Handler}
use Rattle.rp_frame.specs.declared.spot.Adds.{Adds}
use Rattle.rp_frame.specs.declared.spot.Adds.TheVariants as added
use Rattle.rp_frame.specs.declared.spot.Inside.{Inside}
use Rattle.rp_frame.specs.declared.spot.Inside.TheVariants as within
use Rattle.rp_meaning.specs.Expressions as forms
use Rattle.rp_meaning.specs.Frame.{Meaning, Doing}
use Rattle.rp_meaning.specs.Meaning as meaning
use Rattle.rp_meaning.specs.Statements as stmt_forms
use Rattle.rp_meaning.specs.Statements.{Store}

unfoldable pub expr : Expr → Meaning
expr x = meaning.eval (view_expr x)

unfoldable pub form : ExprForm → Meaning
form x = meaning.eval_form (view_form x)

unfoldable pub place : Place → Store
place x = meaning.place (view_place x)

unfoldable pub target : Target → Store
target x = meaning.target (view_target x)

unfoldable pub stmt : Stmt → Doing
stmt x = meaning.exec (view_stmt x)

unfoldable pub stmt_form : StmtForm → Doing
stmt_form x = meaning.exec_form (view_stmt_form x)

unfoldable pub delete : Place → Doing
delete x = meaning.delete (view_place x)

unfoldable pub augment : Place → BinOp → Meaning → Doing
augment x op value = meaning.augment (view_place x) op value

-- a branch of `if`: its test and its block
unfoldable pub branch : Branch → Meaning × Doing
branch x = (meaning.eval (view_branch x).0, stmt_forms.block (meaning.stmts (view_branch x).1))

-- one that may be missing
abbrev pub maybe : Option Expr → Option Meaning
maybe x = option_map expr x

-- lists of trees

abbrev pub op : BinOp × Expr → BinOp × Meaning
op p = (p.0, expr p.1)

abbrev pub ops : List (BinOp × Expr) → List (BinOp × Meaning)
ops ps = map op ps

abbrev pub places : List Place → List Store
places ps = map place ps

abbrev pub targets : List Target → List Store
targets ts = map target ts

abbrev pub deletes : List Place → Doing
deletes ps = stmt_forms.block (map delete ps)

abbrev pub branches : List Branch → List (Meaning × Doing)
branches bs = map branch bs

-- a block
abbrev pub block : List Stmt → Doing
block xs = stmt_forms.block (map stmt xs)

-- operands, and the tests of a comparison

abbrev pub exprs : List Expr → List Meaning
exprs xs = map expr xs

-- a key with its value
abbrev pub pair : Expr × Expr → Meaning × Meaning
pair p = (expr p.0, expr p.1)

abbrev pub pairs : List (Expr × Expr) → List (Meaning × Meaning)
pairs ps = map pair ps

abbrev pub test : Test × Expr → Test × Meaning
test p = (p.0, expr p.1)

abbrev pub tests : List (Test × Expr) → List (Test × Meaning)
tests ps = map test ps

-- what trails a primary

unfoldable pub trailer : Trailer → Value → Meaning
trailer x = meaning.trailer (view_trailer x)

abbrev pub trailers : List Trailer → List (Value → Meaning)
trailers ts = map trailer ts

-- the arguments of a call

unfoldable pub arg : Arg → Argument
arg x = meaning.arg (view_arg x)

abbrev pub args : List Arg → List Argument
args xs = map arg xs

-- the handlers of a `try` statement

unfoldable pub handler : Except → Handler
handler x = meaning.handler (view_except x)

abbrev pub handlers : List Except → List Handler
handlers xs = map handler xs

-- the defaults of parameters
abbrev pub defaults : List (Named × Option Expr) → List Meaning
defaults [] = []
defaults ((name, None) ∷ ps) = defaults ps
defaults ((name, Some x) ∷ ps) = expr x ∷ defaults ps

-- the statements of a class block

abbrev pub form_of : stmt_tree.Stmt → stmt_tree.StmtForm
form_of (stmt_tree.a_stmt line x) = x

unfoldable pub part : Stmt → Part
part x = meaning.class_part (form_of (view_stmt x))

unfoldable pub part_form : StmtForm → Part
part_form x = meaning.class_part (view_stmt_form x)

abbrev pub parts : List Stmt → List Part
parts xs = map part xs

-- comprehensions

unfoldable pub clause : Clause → forms.Clause
clause x = meaning.clause (view_clause x)

abbrev pub clauses : List Clause → List forms.Clause
clauses xs = map clause xs

abbrev pub adds : Adds → Doing
adds (added.Element at x) frame s = forms.adds_element (expr x.now) at frame s
adds (added.Entry at k x) frame s = forms.adds_entry (expr k.now) (expr x.now) at frame s

-- what stands inside a loop
abbrev pub inside : Inside → Doing
inside (within.Block xs) frame s = block xs.now frame s
inside (within.Clause ts cs a) frame s = forms.where_all (exprs ts.now) (forms.nest (clauses cs.now) (adds a)) frame s
