-- What `class` statements of the program's trees do, level by level.
use Rattle.std.proofs.Common.{◌≡◌, List, [], ◌∷◌, map, Option, Some, Vec, Global, refl, ap, ◌∙◌}
use Rattle.rp_base.specs.declared.operator.BinOp.{BinOp}
use Rattle.rp_base.specs.declared.value.Line.{Line}
use Rattle.rp_tree.specs.declared.expr.Expr.{Expr}
use Rattle.rp_tree.specs.declared.expr.Params.{Params, out-Params}
use Rattle.rp_tree.specs.declared.expr.Place.{Place}
use Rattle.rp_tree.specs.declared.expr.Target.{Target}
use Rattle.rp_tree.specs.declared.expr.Walk.{Walk}
use Rattle.rp_tree.specs.declared.parts.Block.{Block}
use Rattle.rp_tree.specs.declared.parts.Guard.{Guard}
use Rattle.rp_tree.specs.declared.stmt.Branch.{Branch}
use Rattle.rp_tree.specs.declared.stmt.Except.{Except}
use Rattle.rp_tree.specs.declared.stmt.Stmt.{Stmt}
use Rattle.rp_tree.specs.declared.stmt.StmtForm.TheVariants as stmt_form
use Rattle.rp_tree.specs.declared.stmt.StmtForm.TheViews.{out-Stmt}
use Rattle.rp_tree.specs.Expressions.{Named}
use Rattle.rp_tree.specs.StatementViews.{stmts_of, view_stmt}
use Rattle.rp_tree.specs.Statements as stmt_tree
use Rattle.rp_tree.proofs.StatementEquations as stmt_equations
use Rattle.rp_meaning.specs.Classes as class
use Rattle.rp_meaning.specs.Classes.{method, other}
use Rattle.rp_meaning.specs.Expressions as forms
use Rattle.rp_meaning.specs.Meaning as meaning
use Rattle.rp_meaning.specs.Statements as stmt_forms
use Rattle.rp_engine.specs.Does as does
use Rattle.rp_statements.proofs.DefinitionEquations.{defaults_are}

first_part : (x : stmt_tree.Stmt) (xs : stmt_tree.Stmts) → meaning.class_parts (stmt_tree.stmt x xs) ≡ meaning.class_part (does.form_of x) ∷ meaning.class_parts xs
first_part (stmt_tree.a_stmt line x) xs = refl

parts_are : (xs : List Stmt) → meaning.class_parts (stmts_of (map view_stmt xs)) ≡ does.parts xs
unfolding does.part
parts_are [] = refl
parts_are (x ∷ xs) =
    first_part (view_stmt x) (stmts_of (map view_stmt xs)) ∙ ap (λ ps. meaning.class_part (does.form_of (view_stmt x)) ∷ ps) (parts_are xs)

pub stmt_class : (n : Named) (b : Vec Stmt Global) → does.stmt_form (stmt_form.Class n b) ≡ class.class n.name (does.parts b.items)
unfolding does.stmt_form
stmt_class n b = ap meaning.exec_form (stmt_equations.stmt_class n b) ∙ ap (class.class n.name) (parts_are b.items)

pub part_out : (x : Stmt) → does.part x ≡ does.part_form (out-Stmt x).form.value
unfolding does.part does.part_form
part_out x = ap (λ s. meaning.class_part (does.form_of s)) (stmt_equations.stmt_out x)

pub part_def : (k : Block) (n : Named) (p : Params) (b : Vec Stmt Global)
    → does.part_form (stmt_form.Def k n p b) ≡ method n.name (forms.makes_function (Some n.name) k.0 (does.defaults (out-Params p).plain.items))
unfolding does.part_form
part_def k n p b =
    ap meaning.class_part (stmt_equations.stmt_def k n p b) ∙ ap (λ ms. method n.name (forms.makes_function (Some n.name) k.0 ms)) (defaults_are p)

pub part_expr : (x : Expr) → does.part_form (stmt_form.Expr x) ≡ other (stmt_forms.evaluate (does.expr x))
unfolding does.part_form does.expr
part_expr x = ap meaning.class_part (stmt_equations.stmt_expr x)

pub part_pass : does.part_form stmt_form.Pass ≡ other stmt_forms.nothing
unfolding does.part_form
part_pass = ap meaning.class_part stmt_equations.stmt_pass

-- what each other statement does

pub part_assign : (v : Vec Place Global) (e : Expr) → does.part_form (stmt_form.Assign v e) ≡ other stmt_forms.nothing
unfolding does.part_form
part_assign v e = ap meaning.class_part (stmt_equations.stmt_assign v e)

pub part_unpack : (p : Target) (e : Expr) (g : Option Guard) → does.part_form (stmt_form.Unpack p e g) ≡ other stmt_forms.nothing
unfolding does.part_form
part_unpack p e g = ap meaning.class_part (stmt_equations.stmt_unpack p e g)

pub part_aug : (p : Place) (op : BinOp) (at : Line) (e : Expr) (g : Option Guard) → does.part_form (stmt_form.Aug p op at e g) ≡ other stmt_forms.nothing
unfolding does.part_form
part_aug p op at e g = ap meaning.class_part (stmt_equations.stmt_aug p op at e g)

pub part_del : (v : Vec Place Global) → does.part_form (stmt_form.Del v) ≡ other stmt_forms.nothing
unfolding does.part_form
part_del v = ap meaning.class_part (stmt_equations.stmt_del v)

pub part_break : does.part_form stmt_form.Break ≡ other stmt_forms.nothing
unfolding does.part_form
part_break = ap meaning.class_part (stmt_equations.stmt_break)

pub part_continue : does.part_form stmt_form.Continue ≡ other stmt_forms.nothing
unfolding does.part_form
part_continue = ap meaning.class_part (stmt_equations.stmt_continue)

pub part_return : (e : Option Expr) → does.part_form (stmt_form.Return e) ≡ other stmt_forms.nothing
unfolding does.part_form
part_return e = ap meaning.class_part (stmt_equations.stmt_return e)

pub part_raise : (e : Option Expr) → does.part_form (stmt_form.Raise e) ≡ other stmt_forms.nothing
unfolding does.part_form
part_raise e = ap meaning.class_part (stmt_equations.stmt_raise e)

pub part_assert : (e : Expr) (m : Option Expr) → does.part_form (stmt_form.Assert e m) ≡ other stmt_forms.nothing
unfolding does.part_form
part_assert e m = ap meaning.class_part (stmt_equations.stmt_assert e m)

pub part_global : (v : Vec Named Global) → does.part_form (stmt_form.Global v) ≡ other stmt_forms.nothing
unfolding does.part_form
part_global v = ap meaning.class_part (stmt_equations.stmt_global v)

pub part_if : (v : Vec Branch Global) (m : Option (Vec Stmt Global)) → does.part_form (stmt_form.If v m) ≡ other stmt_forms.nothing
unfolding does.part_form
part_if v m = ap meaning.class_part (stmt_equations.stmt_if v m)

pub part_while : (e : Expr) (v : Vec Stmt Global) → does.part_form (stmt_form.While e v) ≡ other stmt_forms.nothing
unfolding does.part_form
part_while e v = ap meaning.class_part (stmt_equations.stmt_while e v)

pub part_for : (w : Walk) (v : Vec Stmt Global) → does.part_form (stmt_form.For w v) ≡ other stmt_forms.nothing
unfolding does.part_form
part_for w v = ap meaning.class_part (stmt_equations.stmt_for w v)

pub part_try : (b : Vec Stmt Global) (hs : Vec Except Global) (m l : Option (Vec Stmt Global)) → does.part_form (stmt_form.Try b hs m l) ≡ other stmt_forms.nothing
unfolding does.part_form
part_try b hs m l = ap meaning.class_part (stmt_equations.stmt_try b hs m l)

pub part_class : (n : Named) (v : Vec Stmt Global) → does.part_form (stmt_form.Class n v) ≡ other stmt_forms.nothing
unfolding does.part_form
part_class n v = ap meaning.class_part (stmt_equations.stmt_class n v)

pub ruleset act_forms = (
  part_def,
  part_expr,
  part_pass,
  part_assign,
  part_unpack,
  part_aug,
  part_del,
  part_break,
  part_continue,
  part_return,
  part_raise,
  part_assert,
  part_global,
  part_if,
  part_while,
  part_for,
  part_try,
  part_class,
)
