-- What `return` and definitions of functions in the program's trees do, level by level.
use Rattle.std.proofs.Common.{◌≡◌, List, [], ◌∷◌, map, Option, Some, None, Box, Vec, Global, refl, ap, ◌∙◌}
use Rattle.rp_tree.specs.Expressions.{Named}
use Rattle.rp_tree.specs.declared.expr.Expr.{Expr}
use Rattle.rp_tree.specs.declared.expr.ExprForm.TheVariants as form
use Rattle.rp_tree.specs.declared.expr.Params.{Params, out-Params}
use Rattle.rp_tree.specs.declared.parts.Block.{Block}
use Rattle.rp_tree.specs.declared.stmt.Stmt.{Stmt}
use Rattle.rp_tree.specs.declared.stmt.StmtForm.TheVariants as stmt_form
use Rattle.rp_tree.specs.ExpressionViews.{view_expr, view_params, view_plain, plain_of}
use Rattle.rp_tree.proofs.ExpressionEquations as equations
use Rattle.rp_tree.proofs.StatementEquations as stmt_equations
use Rattle.rp_meaning.specs.Expressions as forms
use Rattle.rp_meaning.specs.Meaning as meaning
use Rattle.rp_meaning.specs.Statements as stmt_forms
use Rattle.rp_engine.specs.Does as does
use Rattle.rp_engine.proofs.Equations.{maybe_expr}

plain_are : (ps : List (Named × Option Expr)) → meaning.plain (plain_of (map view_plain ps)) ≡ does.defaults ps
unfolding does.expr
plain_are [] = refl
plain_are ((n, None) ∷ ps) = plain_are ps
plain_are ((n, Some x) ∷ ps) = ap (λ ms. meaning.eval (view_expr x) ∷ ms) (plain_are ps)

pub defaults_are : (ps : Params) → meaning.defaults (view_params ps) ≡ does.defaults (out-Params ps).plain.items
defaults_are ps = ap meaning.defaults (equations.params_out ps) ∙ plain_are (out-Params ps).plain.items

pub stmt_return : (x : Option Expr) → does.stmt_form (stmt_form.Return x) ≡ stmt_forms.give_back (does.maybe x)
unfolding does.stmt_form
stmt_return x = ap meaning.exec_form (stmt_equations.stmt_return x) ∙ ap stmt_forms.give_back (maybe_expr x)

pub stmt_def : (k : Block) (n : Named) (p : Params) (body : Vec Stmt Global) → does.stmt_form (stmt_form.Def k n p body) ≡ stmt_forms.define n.name k.0 (does.defaults (out-Params p).plain.items)
unfolding does.stmt_form
stmt_def k n p body = ap meaning.exec_form (stmt_equations.stmt_def k n p body) ∙ ap (stmt_forms.define n.name k.0) (defaults_are p)

pub form_lambda : (k : Block) (p : Box Params Global) (x : Expr) → does.form (form.Lambda k p x) ≡ forms.lambda k.0 (does.defaults (out-Params p.value).plain.items)
unfolding does.form
form_lambda k p x = ap meaning.eval_form (equations.form_lambda k p x) ∙ ap (forms.lambda k.0) (defaults_are p.value)
