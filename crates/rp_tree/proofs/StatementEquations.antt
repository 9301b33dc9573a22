-- One equation for each level of the program's statements: which value it stands for, from those of its parts.
use Rattle.std.proofs.Common.{◌≡◌, map, Option, option_map, Vec, Global, rules}
use Rattle.rp_base.specs.declared.value.Line.{Line}
use Rattle.rp_base.specs.declared.operator.BinOp.{BinOp}
use Rattle.rp_tree.specs.declared.parts.Block.{Block}
use Rattle.rp_tree.specs.declared.parts.Guard.{Guard}
use Rattle.rp_tree.specs.declared.expr.Expr.{Expr}
use Rattle.rp_tree.specs.declared.expr.Params.{Params}
use Rattle.rp_tree.specs.declared.expr.Place.{Place}
use Rattle.rp_tree.specs.declared.expr.Target.{Target}
use Rattle.rp_tree.specs.declared.expr.Walk.{Walk}
use Rattle.rp_tree.specs.declared.stmt.Branch.{Branch}
use Rattle.rp_tree.specs.declared.stmt.Except.{Except}
use Rattle.rp_tree.specs.declared.stmt.Stmt.{Stmt}
use Rattle.rp_tree.specs.declared.stmt.StmtForm.{StmtForm}
use Rattle.rp_tree.specs.declared.stmt.StmtForm.TheVariants as form
use Rattle.rp_tree.specs.declared.stmt.StmtForm.TheFolds.{the_lemmas}
use Rattle.rp_tree.specs.declared.stmt.StmtForm.TheOpen as open_stmt
use Rattle.rp_tree.specs.declared.stmt.StmtForm.TheViews.{out-Stmt, out-Branch, out-Except, roll-Stmt, roll-Branch, roll-Except}
use Rattle.rp_tree.specs.Statements as stmt_tree
use Rattle.rp_tree.specs.Expressions.{Named}
use Rattle.rp_tree.specs.ExpressionViews.{view_expr, view_place, view_target, view_walk, view_params}
use Rattle.rp_tree.specs.StatementViews.{view_stmt, view_stmt_form, view_except, view_branch, view_stmts, view_maybe_stmts, branches_of, excepts_of}

pub stmt_expr : (e : Expr) → view_stmt_form (form.Expr e) ≡ stmt_tree.evaluate (view_expr e)
stmt_expr e = search (rules, the_lemmas)

pub stmt_assign : (v : Vec Place Global) (e : Expr) → view_stmt_form (form.Assign v e) ≡ stmt_tree.assign (map view_place v.items) (view_expr e)
stmt_assign v e = search (rules, the_lemmas)

pub stmt_unpack : (p : Target) (e : Expr) (g : Option Guard) → view_stmt_form (form.Unpack p e g) ≡ stmt_tree.unpack (view_target p) (view_expr e) g
stmt_unpack p e g = search (rules, the_lemmas)

pub stmt_aug : (p : Place) (op : BinOp) (at : Line) (e : Expr) (g : Option Guard) → view_stmt_form (form.Aug p op at e g) ≡ stmt_tree.aug (view_place p) op at (view_expr e) g
stmt_aug p op at e g = search (rules, the_lemmas)

pub stmt_del : (v : Vec Place Global) → view_stmt_form (form.Del v) ≡ stmt_tree.del (map view_place v.items)
stmt_del v = search (rules, the_lemmas)

pub stmt_pass : view_stmt_form form.Pass ≡ stmt_tree.pass
stmt_pass = search (rules, the_lemmas)

pub stmt_break : view_stmt_form form.Break ≡ stmt_tree.break
stmt_break = search (rules, the_lemmas)

pub stmt_continue : view_stmt_form form.Continue ≡ stmt_tree.continue
stmt_continue = search (rules, the_lemmas)

pub stmt_return : (e : Option Expr) → view_stmt_form (form.Return e) ≡ stmt_tree.give_back (option_map view_expr e)
stmt_return e = search (rules, the_lemmas)

pub stmt_raise : (e : Option Expr) → view_stmt_form (form.Raise e) ≡ stmt_tree.raise (option_map view_expr e)
stmt_raise e = search (rules, the_lemmas)

pub stmt_assert : (e : Expr) (m : Option Expr) → view_stmt_form (form.Assert e m) ≡ stmt_tree.assert (view_expr e) (option_map view_expr m)
stmt_assert e m = search (rules, the_lemmas)

pub stmt_global : (v : Vec Named Global) → view_stmt_form (form.Global v) ≡ stmt_tree.global v.items
stmt_global v = search (rules, the_lemmas)

pub stmt_if : (v : Vec Branch Global) (m : Option (Vec Stmt Global)) → view_stmt_form (form.If v m) ≡ stmt_tree.choose (branches_of (map view_branch v.items)) (view_maybe_stmts m)
stmt_if v m = search (rules, the_lemmas)

pub stmt_while : (e : Expr) (v : Vec Stmt Global) → view_stmt_form (form.While e v) ≡ stmt_tree.while (view_expr e) (view_stmts v.items)
stmt_while e v = search (rules, the_lemmas)

pub stmt_for : (w : Walk) (v : Vec Stmt Global) → view_stmt_form (form.For w v) ≡ stmt_tree.for (view_walk w) (view_stmts v.items)
stmt_for w v = search (rules, the_lemmas)

pub stmt_try : (b : Vec Stmt Global) (hs : Vec Except Global) (m l : Option (Vec Stmt Global)) → view_stmt_form (form.Try b hs m l) ≡ stmt_tree.try (view_stmts b.items) (excepts_of (map view_except hs.items)) (view_maybe_stmts m) (view_maybe_stmts l)
stmt_try b hs m l = search (rules, the_lemmas)

pub stmt_def : (k : Block) (n : Named) (p : Params) (v : Vec Stmt Global) → view_stmt_form (form.Def k n p v) ≡ stmt_tree.define k.0 n (view_params p) (view_stmts v.items)
stmt_def k n p v = search (rules, the_lemmas)

pub stmt_class : (n : Named) (v : Vec Stmt Global) → view_stmt_form (form.Class n v) ≡ stmt_tree.class n (view_stmts v.items)
stmt_class n v = search (rules, the_lemmas)

pub stmt_out : (x : Stmt) → view_stmt x ≡ stmt_tree.a_stmt (out-Stmt x).line (view_stmt_form (out-Stmt x).form.value)
stmt_out x = search (rules, the_lemmas)

pub branch_out : (x : Branch) → view_branch x ≡ (view_expr (out-Branch x).test, view_stmts (out-Branch x).body.items)
branch_out x = search (rules, the_lemmas)

pub except_out : (x : Except) → view_except x ≡ stmt_tree.an_except (option_map view_expr (out-Except x).kind) (out-Except x).name (view_stmts (out-Except x).body.items)
except_out x = search (rules, the_lemmas)

pub stmt_roll : (x : open_stmt.Stmt-F StmtForm Branch Except Stmt) → view_stmt (roll-Stmt x) ≡ stmt_tree.a_stmt x.line (view_stmt_form x.form.value)
stmt_roll x = search (rules, the_lemmas)

pub branch_roll : (x : open_stmt.Branch-F StmtForm Branch Except Stmt) → view_branch (roll-Branch x) ≡ (view_expr x.test, view_stmts x.body.items)
branch_roll x = search (rules, the_lemmas)

pub except_roll : (x : open_stmt.Except-F StmtForm Branch Except Stmt) → view_except (roll-Except x) ≡ stmt_tree.an_except (option_map view_expr x.kind) x.name (view_stmts x.body.items)
except_roll x = search (rules, the_lemmas)

-- the variants of the enum
pub ruleset variants = (
  stmt_expr,
  stmt_assign,
  stmt_unpack,
  stmt_aug,
  stmt_del,
  stmt_pass,
  stmt_break,
  stmt_continue,
  stmt_return,
  stmt_raise,
  stmt_assert,
  stmt_global,
  stmt_if,
  stmt_while,
  stmt_for,
  stmt_try,
  stmt_def,
  stmt_class,
)
