-- What comprehensions of the program's trees do, level by level.
use Rattle.std.proofs.Common.{◌≡◌, List, [], ◌∷◌, map, Vec, Global, refl, ap, ◌∙◌}
use Rattle.rp_tree.specs.declared.expr.Arg.TheViews.{out-Clause, out-Walk}
use Rattle.rp_tree.specs.declared.expr.Clause.{Clause}
use Rattle.rp_tree.specs.declared.expr.Expr.{Expr}
use Rattle.rp_tree.specs.declared.expr.ExprForm.TheVariants as form
use Rattle.rp_tree.specs.declared.parts.Block.{Block}
use Rattle.rp_tree.specs.Expressions as tree
use Rattle.rp_tree.specs.ExpressionViews.{clauses_of, exprs_of, view_clause, view_expr}
use Rattle.rp_tree.proofs.ExpressionEquations as equations
use Rattle.rp_meaning.specs.Expressions as forms
use Rattle.rp_meaning.specs.Meaning as meaning
use Rattle.rp_engine.specs.Does as does
use Rattle.rp_engine.proofs.FormEquations.{exprs_are}

clauses_are : (xs : List Clause) → meaning.clauses (clauses_of (map view_clause xs)) ≡ does.clauses xs
unfolding does.clause
clauses_are [] = refl
clauses_are (x ∷ xs) = ap (λ cs. meaning.clause (view_clause x) ∷ cs) (clauses_are xs)

pub form_list_of : (b : Block) (x : Expr) (cs : Vec Clause Global) → does.form (form.ListOf b x cs) ≡ forms.list_of b.0 (does.clauses cs.items) (does.expr x)
unfolding does.form does.expr
form_list_of b x cs = ap meaning.eval_form (equations.form_list_of b x cs) ∙ ap (λ ms. forms.list_of b.0 ms (meaning.eval (view_expr x))) (clauses_are cs.items)

pub form_dict_of : (b : Block) (k x : Expr) (cs : Vec Clause Global)
    → does.form (form.DictOf b k x cs) ≡ forms.dict_of b.0 (does.clauses cs.items) (does.expr k) (does.expr x)
unfolding does.form does.expr
form_dict_of b k x cs =
    ap meaning.eval_form (equations.form_dict_of b k x cs) ∙ ap (λ ms. forms.dict_of b.0 ms (meaning.eval (view_expr k)) (meaning.eval (view_expr x))) (clauses_are cs.items)

-- the parts of a clause

pub clause_of : (x : Clause) → (does.clause x).of ≡ does.expr (out-Walk (out-Clause x).walk).of
unfolding does.clause does.expr
clause_of x =
    ap (λ c. (meaning.clause c).of) (equations.clause_out x)
    ∙ ap (λ w. (meaning.clause (tree.a_clause w (exprs_of (map view_expr (out-Clause x).tests.items)))).of) (equations.walk_out (out-Clause x).walk)

pub clause_bind : (x : Clause) → (does.clause x).bind ≡ does.target (out-Walk (out-Clause x).walk).target
unfolding does.clause does.target
clause_bind x =
    ap (λ c. (meaning.clause c).bind) (equations.clause_out x)
    ∙ ap (λ w. (meaning.clause (tree.a_clause w (exprs_of (map view_expr (out-Clause x).tests.items)))).bind) (equations.walk_out (out-Clause x).walk)

pub clause_tests : (x : Clause) → (does.clause x).tests ≡ does.exprs (out-Clause x).tests.items
unfolding does.clause
clause_tests x =
    ap (λ c. (meaning.clause c).tests) (equations.clause_out x)
    ∙ ap (λ w. (meaning.clause (tree.a_clause w (exprs_of (map view_expr (out-Clause x).tests.items)))).tests) (equations.walk_out (out-Clause x).walk)
    ∙ exprs_are (out-Clause x).tests.items
