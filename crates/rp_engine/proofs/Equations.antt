-- What the program's trees do, level by level.
use Rattle.std.proofs.Common.{◌≡◌, ℕ, ℤ, List, [], ◌∷◌, map, Option, Some, None, option_map, Vec, Global, refl, ap, ◌∙◌}
use Rattle.rp_base.specs.declared.operator.BinOp.{BinOp}
use Rattle.rp_base.specs.declared.operator.UnOp.{UnOp}
use Rattle.rp_base.specs.declared.value.Name.{Name}
use Rattle.rp_base.specs.declared.value.Rock.TheVariants as rock
use Rattle.rp_base.specs.declared.value.Value.TheVariants as value
use Rattle.rp_tree.specs.declared.parts.Const.{Const}
use Rattle.rp_tree.specs.Expressions.{Named}
use Rattle.rp_tree.specs.declared.expr.Expr.{Expr, out-Expr}
use Rattle.rp_tree.specs.declared.expr.ExprForm.TheVariants as form
use Rattle.rp_tree.specs.declared.expr.Place.{Place}
use Rattle.rp_tree.specs.declared.expr.Place.TheVariants as place
use Rattle.rp_tree.specs.declared.stmt.Branch.{Branch}
use Rattle.rp_tree.specs.declared.stmt.Stmt.{Stmt}
use Rattle.rp_tree.specs.declared.stmt.StmtForm.TheVariants as stmt_form
use Rattle.rp_tree.specs.declared.stmt.StmtForm.TheViews.{out-Stmt, out-Branch}
use Rattle.rp_tree.specs.ExpressionViews.{view_expr, view_place, view_op, ops_of}
use Rattle.rp_tree.specs.StatementViews.{view_branch, view_stmt, stmts_of, branches_of, view_maybe_stmts, block_items}
use Rattle.rp_tree.proofs.ExpressionEquations as equations
use Rattle.rp_tree.proofs.StatementEquations as stmt_equations
use Rattle.rp_meaning.specs.Frame.{bind_name, unbind_name}
use Rattle.rp_meaning.specs.State.{stepped, broke, continued}
use Rattle.rp_meaning.specs.Expressions as forms
use Rattle.rp_meaning.specs.Meaning as meaning
use Rattle.rp_meaning.specs.Statements as stmt_forms
use Rattle.rp_engine.specs.Does as does

ops_are : (ps : List (BinOp × Expr)) → meaning.ops (ops_of (map view_op ps)) ≡ does.ops ps
unfolding does.expr
ops_are [] = refl
ops_are (p ∷ ps) = ap (λ ms. (p.0, meaning.eval (view_expr p.1)) ∷ ms) (ops_are ps)

pub stmts_are : (xs : List Stmt) → meaning.stmts (stmts_of (map view_stmt xs)) ≡ map does.stmt xs
unfolding does.stmt
stmts_are [] = refl
stmts_are (x ∷ xs) = ap (λ ms. meaning.exec (view_stmt x) ∷ ms) (stmts_are xs)

places_are : (ps : List Place) → map meaning.place (map view_place ps) ≡ does.places ps
unfolding does.place
places_are [] = refl
places_are (p ∷ ps) = ap (λ ms. meaning.place (view_place p) ∷ ms) (places_are ps)

branches_are : (bs : List Branch) → meaning.branches (branches_of (map view_branch bs)) ≡ does.branches bs
unfolding does.branch
branches_are [] = refl
branches_are (b ∷ bs) = ap (λ ms. (meaning.eval (view_branch b).0, stmt_forms.block (meaning.stmts (view_branch b).1)) ∷ ms) (branches_are bs)

pub maybe_is : (b : Option (Vec Stmt Global)) → meaning.maybe_block (view_maybe_stmts b) ≡ does.block (block_items b)
maybe_is None = refl
maybe_is (Some b) = ap stmt_forms.block (stmts_are b.items)

pub expr_out : (x : Expr) → does.expr x ≡ does.form (out-Expr x).form.value
unfolding does.expr does.form
expr_out x = ap meaning.eval (equations.expr_out x)

pub form_name : (x : Name) → does.form (form.Name x) ≡ forms.name x
unfolding does.form
form_name x = ap meaning.eval_form (equations.form_name x)

pub form_int : (z : ℤ) → does.form (form.Int z) ≡ forms.constant (value.Rock (rock.Int z))
unfolding does.form
form_int z = ap meaning.eval_form (equations.form_int z)

pub form_text : (x : List ℕ) → does.form (form.Text x) ≡ forms.constant (value.Rock (rock.Text x))
unfolding does.form
form_text x = ap meaning.eval_form (equations.form_text x)

pub form_const : (c : Const) → does.form (form.Const c) ≡ forms.constant (meaning.constant c)
unfolding does.form
form_const c = ap meaning.eval_form (equations.form_const c)

pub form_not : (x : Expr) → does.form (form.Not x) ≡ forms.negated (does.expr x)
unfolding does.form does.expr
form_not x = ap meaning.eval_form (equations.form_not x)

pub form_cond : (x a b : Expr) → does.form (form.Cond x a b) ≡ forms.cond (does.expr x) (does.expr a) (does.expr b)
unfolding does.form does.expr
form_cond x a b = ap meaning.eval_form (equations.form_cond x a b)

pub form_chain : (x : Expr) (ps : Vec (BinOp × Expr) Global) → does.form (form.Chain x ps) ≡ forms.chain (does.expr x) (does.ops ps.items)
unfolding does.form does.expr
form_chain x ps = ap meaning.eval_form (equations.form_chain x ps) ∙ ap (forms.chain (meaning.eval (view_expr x))) (ops_are ps.items)

pub form_unary : (u : UnOp) (x : Expr) → does.form (form.Unary u x) ≡ forms.unary u (does.expr x)
unfolding does.form does.expr
form_unary u x = ap meaning.eval_form (equations.form_unary u x)

pub form_power : (a b : Expr) → does.form (form.Power a b) ≡ forms.power (does.expr a) (does.expr b)
unfolding does.form does.expr
form_power a b = ap meaning.eval_form (equations.form_power a b)

pub place_name : (x : Named) → does.place (place.Name x) ≡ bind_name x.name
unfolding does.place
place_name x = ap meaning.place (equations.place_name x)

pub branch_out : (x : Branch) → does.branch x ≡ (does.expr (out-Branch x).test, does.block (out-Branch x).body.items)
unfolding does.branch does.expr
branch_out x =
    ap (λ b. (meaning.eval b.0, stmt_forms.block (meaning.stmts b.1))) (stmt_equations.branch_out x) ∙ ap (λ ds. (meaning.eval (view_expr (out-Branch x).test), stmt_forms.block ds)) (stmts_are (out-Branch x).body.items)

pub stmt_out : (x : Stmt) → does.stmt x ≡ (λ frame s. stepped s (does.stmt_form (out-Stmt x).form.value frame))
unfolding does.stmt does.stmt_form
stmt_out x = ap meaning.exec (stmt_equations.stmt_out x)

pub stmt_expr : (x : Expr) → does.stmt_form (stmt_form.Expr x) ≡ stmt_forms.evaluate (does.expr x)
unfolding does.stmt_form does.expr
stmt_expr x = ap meaning.exec_form (stmt_equations.stmt_expr x)

pub stmt_assign : (ps : Vec Place Global) (x : Expr) → does.stmt_form (stmt_form.Assign ps x) ≡ stmt_forms.assign (does.expr x) (stmt_forms.store_all (does.places ps.items))
unfolding does.stmt_form does.expr
stmt_assign ps x = ap meaning.exec_form (stmt_equations.stmt_assign ps x) ∙ ap (λ ds. stmt_forms.assign (meaning.eval (view_expr x)) (stmt_forms.store_all ds)) (places_are ps.items)

pub stmt_pass : does.stmt_form stmt_form.Pass ≡ stmt_forms.nothing
unfolding does.stmt_form
stmt_pass = ap meaning.exec_form stmt_equations.stmt_pass

pub stmt_global : (ns : Vec Named Global) → does.stmt_form (stmt_form.Global ns) ≡ stmt_forms.nothing
unfolding does.stmt_form
stmt_global ns = ap meaning.exec_form (stmt_equations.stmt_global ns)

pub stmt_break : does.stmt_form stmt_form.Break ≡ stmt_forms.leave broke
unfolding does.stmt_form
stmt_break = ap meaning.exec_form stmt_equations.stmt_break

pub stmt_continue : does.stmt_form stmt_form.Continue ≡ stmt_forms.leave continued
unfolding does.stmt_form
stmt_continue = ap meaning.exec_form stmt_equations.stmt_continue

pub stmt_if : (bs : Vec Branch Global) (o : Option (Vec Stmt Global)) → does.stmt_form (stmt_form.If bs o) ≡ stmt_forms.choose (does.branches bs.items) (does.block (block_items o))
unfolding does.stmt_form
stmt_if bs o = ap meaning.exec_form (stmt_equations.stmt_if bs o) ∙ ap (λ ms. stmt_forms.choose ms (meaning.maybe_block (view_maybe_stmts o))) (branches_are bs.items)
    ∙ ap (stmt_forms.choose (does.branches bs.items)) (maybe_is o)

pub stmt_while : (x : Expr) (b : Vec Stmt Global) → does.stmt_form (stmt_form.While x b) ≡ stmt_forms.while (does.expr x) (does.block b.items)
unfolding does.stmt_form does.expr
stmt_while x b = ap meaning.exec_form (stmt_equations.stmt_while x b) ∙ ap (λ ds. stmt_forms.while (meaning.eval (view_expr x)) (stmt_forms.block ds)) (stmts_are b.items)

pub maybe_expr : (x : Option Expr) → meaning.option (option_map view_expr x) ≡ does.maybe x
unfolding does.expr
maybe_expr None = refl
maybe_expr (Some x) = refl

deletes_are : (ps : List Place) → map meaning.delete (map view_place ps) ≡ map does.delete ps
unfolding does.delete
deletes_are [] = refl
deletes_are (p ∷ ps) = ap (λ ds. meaning.delete (view_place p) ∷ ds) (deletes_are ps)

pub stmt_assert : (x : Expr) (message : Option Expr) → does.stmt_form (stmt_form.Assert x message) ≡ stmt_forms.assert (does.expr x) (does.maybe message)
unfolding does.stmt_form does.expr
stmt_assert x message = ap meaning.exec_form (stmt_equations.stmt_assert x message) ∙ ap (stmt_forms.assert (meaning.eval (view_expr x))) (maybe_expr message)

pub stmt_raise : (x : Option Expr) → does.stmt_form (stmt_form.Raise x) ≡ stmt_forms.raise (does.maybe x)
unfolding does.stmt_form does.expr
stmt_raise x = ap meaning.exec_form (stmt_equations.stmt_raise x) ∙ ap stmt_forms.raise (maybe_expr x)

pub stmt_del : (ps : Vec Place Global) → does.stmt_form (stmt_form.Del ps) ≡ does.deletes ps.items
unfolding does.stmt_form
stmt_del ps = ap meaning.exec_form (stmt_equations.stmt_del ps) ∙ ap stmt_forms.block (deletes_are ps.items)

pub delete_name : (x : Named) → does.delete (place.Name x) ≡ unbind_name x.name
unfolding does.delete
delete_name x = ap meaning.delete (equations.place_name x)

pub ruleset leaves = (form_name, form_int, form_text, form_const)
