-- A vector whose elements are marked in place, and statements at a block that stands there.
use Rattle.std.proofs.Common.{◌≡◌, List, map, length, Option, Some, Vec, Global, ap, ◌∙◌, arith}
use Rattle.std.proofs.lemmas.List.{with_items_is}
use Rattle.std.specs.Vec.{with_items}
use Rattle.rp_tree.specs.declared.stmt.Branch.{Branch}
use Rattle.rp_tree.specs.declared.stmt.Except.{Except}
use Rattle.rp_tree.specs.declared.stmt.Stmt.{Stmt}
use Rattle.rp_tree.specs.declared.stmt.StmtForm.TheVariants as form
use Rattle.rp_tree.specs.Statements as stmt_tree
use Rattle.rp_tree.specs.StatementViews as stmt_views
use Rattle.rp_tree.proofs.StatementEquations.{stmt_if, stmt_try}

-- what a vector stands for, when its elements have been marked in place
pub filled : {A B : Type 0} (f : List A → B) (g : B → B) (w b : Vec A Global) (old ws : List A) → w ≡ b → old ≡ w.items → length ws ≡ length old → f ws ≡ g (f old) → f (with_items w ws).items ≡ g (f b.items)
filled f g w b old ws same read kept marked =
    let long : length old ≡ length w.items = ap length read in
    let all : length ws ≡ w.len = omega (arith, kept, long, w.ok.0) in
    ap f (with_items_is w ws all) ∙ (marked ∙ ap (λ xs. g (f xs)) (read ∙ ap (λ x. x.items) same))

-- an equation that says 'm' of a block that may be missing does not fit where 'Some' has computed: these do

pub if_some : (b : Vec Branch Global) (w : Vec Stmt Global) → stmt_views.view_stmt_form (form.If b (Some w)) ≡ stmt_tree.choose (stmt_views.branches_of (map stmt_views.view_branch b.items)) (stmt_tree.some (stmt_views.view_stmts w.items))
if_some b w = stmt_if b (Some w)

pub try_some : (b : Vec Stmt Global) (h : Vec Except Global) (d : Option (Vec Stmt Global)) (w : Vec Stmt Global) → stmt_views.view_stmt_form (form.Try b h d (Some w)) ≡ stmt_tree.try (stmt_views.view_stmts b.items) (stmt_views.excepts_of (map stmt_views.view_except h.items)) (stmt_views.view_maybe_stmts d) (stmt_tree.some (stmt_views.view_stmts w.items))
try_some b h d w = stmt_try b h d (Some w)
