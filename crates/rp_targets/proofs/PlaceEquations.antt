-- What storing to attributes and items, deleting them, and augmented assignment mean, level by level.
use Rattle.std.proofs.Common.{◌≡◌, List, [], ◌∷◌, map, Option, Vec, Global, refl, ap, ◌∙◌}
use Rattle.rp_base.specs.declared.operator.BinOp.{BinOp}
use Rattle.rp_base.specs.declared.value.Line.{Line}
use Rattle.rp_tree.specs.Expressions.{Named}
use Rattle.rp_tree.specs.declared.expr.Expr.{Expr}
use Rattle.rp_tree.specs.declared.expr.Place.{Place}
use Rattle.rp_tree.specs.declared.expr.Place.TheVariants as place
use Rattle.rp_tree.specs.declared.expr.Arg.TheViews.{out-Walk}
use Rattle.rp_tree.specs.declared.expr.Target.{Target}
use Rattle.rp_tree.specs.declared.expr.Target.TheVariants as target
use Rattle.rp_tree.specs.declared.expr.Walk.{Walk}
use Rattle.rp_tree.specs.declared.stmt.Stmt.{Stmt}
use Rattle.rp_tree.specs.declared.parts.Guard.{Guard}
use Rattle.rp_tree.specs.declared.stmt.StmtForm.TheVariants as stmt_form
use Rattle.rp_tree.specs.ExpressionViews.{targets_of, view_expr, view_target}
use Rattle.rp_tree.specs.StatementViews.{stmts_of, view_stmt}
use Rattle.rp_tree.specs.Statements as stmt_tree
use Rattle.rp_tree.proofs.ExpressionEquations as equations
use Rattle.rp_tree.proofs.StatementEquations as stmt_equations
use Rattle.rp_meaning.specs.Frame.{Meaning}
use Rattle.rp_meaning.specs.Meaning as meaning
use Rattle.rp_meaning.specs.Statements as stmt_forms
use Rattle.rp_engine.specs.Does as does
use Rattle.rp_engine.proofs.Equations.{stmts_are}

pub place_attr : (x : Expr) (n : Named) (g : Option Guard) → does.place (place.Attr x n g) ≡ stmt_forms.store_attribute (does.expr x) n.name
unfolding does.place does.expr
place_attr x n g = ap meaning.place (equations.place_attr x n g)

pub place_item : (x i : Expr) (g : Option Guard) → does.place (place.Item x i g) ≡ stmt_forms.store_item (does.expr x) (does.expr i)
unfolding does.place does.expr
place_item x i g = ap meaning.place (equations.place_item x i g)

pub delete_attr : (x : Expr) (n : Named) (g : Option Guard) → does.delete (place.Attr x n g) ≡ stmt_forms.delete_attribute (does.expr x) n.name
unfolding does.delete does.expr
delete_attr x n g = ap meaning.delete (equations.place_attr x n g)

pub delete_item : (x i : Expr) (g : Option Guard) → does.delete (place.Item x i g) ≡ stmt_forms.delete_item (does.expr x) (does.expr i)
unfolding does.delete does.expr
delete_item x i g = ap meaning.delete (equations.place_item x i g)

pub augment_name : (x : Named) (op : BinOp) (value : Meaning) → does.augment (place.Name x) op value ≡ stmt_forms.augment_name x.name op value
unfolding does.augment
augment_name x op value = ap (λ p. meaning.augment p op value) (equations.place_name x)

pub stmt_aug : (p : Place) (op : BinOp) (at : Line) (x : Expr) (g : Option Guard) → does.stmt_form (stmt_form.Aug p op at x g) ≡ does.augment p op (does.expr x)
unfolding does.stmt_form does.augment does.expr
stmt_aug p op at x g = ap meaning.exec_form (stmt_equations.stmt_aug p op at x g)

pub target_place : (p : Place) → does.target (target.Place p) ≡ does.place p
unfolding does.target does.place
target_place p = ap meaning.target (equations.target_place p)

pub stmt_for : (x : Walk) (b : Vec Stmt Global)
    → does.stmt_form (stmt_form.For x b) ≡ stmt_forms.for (does.expr (out-Walk x).of) (does.target (out-Walk x).target) (does.block b.items)
unfolding does.stmt_form does.expr does.target
stmt_for x b =
    ap meaning.exec_form (stmt_equations.stmt_for x b) ∙ ap (λ z. meaning.exec_form (stmt_tree.for z (stmts_of (map view_stmt b.items)))) (equations.walk_out x)
    ∙ ap (λ ds. stmt_forms.for (meaning.eval (view_expr (out-Walk x).of)) (meaning.target (view_target (out-Walk x).target)) (stmt_forms.block ds)) (stmts_are b.items)

pub stmt_unpack : (p : Target) (x : Expr) (g : Option Guard) → does.stmt_form (stmt_form.Unpack p x g) ≡ stmt_forms.assign (does.expr x) (does.target p)
unfolding does.stmt_form does.expr does.target
stmt_unpack p x g = ap meaning.exec_form (stmt_equations.stmt_unpack p x g)

targets_are : (ps : List Target) → meaning.targets (targets_of (map view_target ps)) ≡ does.targets ps
unfolding does.target
targets_are [] = refl
targets_are (p ∷ ps) = ap (λ ds. meaning.target (view_target p) ∷ ds) (targets_are ps)

pub target_group : (ps : Vec Target Global) → does.target (target.Group ps) ≡ stmt_forms.unpack (does.targets ps.items)
unfolding does.target
target_group ps = ap meaning.target (equations.target_group ps) ∙ ap stmt_forms.unpack (targets_are ps.items)

pub augment_attr : (x : Expr) (n : Named) (g : Option Guard) (op : BinOp) (value : Meaning) → does.augment (place.Attr x n g) op value ≡ stmt_forms.augment_attribute (does.expr x) n.name op value
unfolding does.augment does.expr
augment_attr x n g op value = ap (λ p. meaning.augment p op value) (equations.place_attr x n g)

pub augment_item : (x i : Expr) (g : Option Guard) (op : BinOp) (value : Meaning) → does.augment (place.Item x i g) op value ≡ stmt_forms.augment_item (does.expr x) (does.expr i) op value
unfolding does.augment does.expr
augment_item x i g op value = ap (λ p. meaning.augment p op value) (equations.place_item x i g)
