-- A statement with blocks that may be missing, whose parts have been numbered one after the other, has been numbered.
use Rattle.std.proofs.Common.{◌≡◌, ℕ, List, ◌++◌, map, length, Option, Some, None, option_map, Vec, Global, ap, sym, ◌∙◌, refl, rules}
use Rattle.std.specs.Vec.{with_items}
use Rattle.rp_tree.specs.declared.stmt.Branch.{Branch, out-roll-Branch}
use Rattle.rp_tree.specs.declared.stmt.Except.{Except, out-roll-Except}
use Rattle.rp_tree.specs.declared.stmt.Stmt.{Stmt}
use Rattle.rp_tree.specs.declared.stmt.StmtForm.{StmtForm}
use Rattle.rp_tree.specs.declared.stmt.StmtForm.TheVariants as form
use Rattle.rp_tree.specs.declared.stmt.StmtForm.TheFolds.{the_lemmas}
use Rattle.rp_tree.specs.declared.stmt.StmtForm.TheOpen as open_stmt
use Rattle.rp_tree.specs.declared.stmt.StmtForm.TheViews.{out-Branch, out-Except, roll-Branch, roll-Except}
use Rattle.rp_tree.specs.declared.parts.Block.{Block}
use Rattle.rp_tree.specs.declared.expr.Params.{Params}
use Rattle.rp_tree.specs.Expressions.{Named}
use Rattle.rp_tree.specs.ExpressionViews as views
use Rattle.rp_tree.specs.Statements as stmt_tree
use Rattle.rp_tree.specs.StatementViews as stmt_views
use Rattle.rp_tree.specs.Maps as maps
use Rattle.rp_tree.specs.Maps.{no_blocks}
use Rattle.rp_tree.proofs.StatementEquations.{stmt_if, stmt_try, stmt_def, stmt_class, branch_out, branch_roll, except_out, except_roll}
use Rattle.rp_scope.specs.Numbers as numbers
use Rattle.rp_scope.specs.NumberSteps.{past, renumbered, branch_numbers}
use Rattle.rp_scope.proofs.Forms.{run_pair, past_pair, kept_as, numbers_as, next_as, filled_kept, filled_numbers}

-- a block that is there, and one that is missing

pub maybe_kept : (n b : Option (Vec Stmt Global)) (w : Vec Stmt Global) (old ws : List Stmt) → n ≡ Some w → n ≡ b → old ≡ w.items → length ws ≡ length old → maps.map_stmts no_blocks (stmt_views.view_stmts ws) ≡ maps.map_stmts no_blocks (stmt_views.view_stmts old) → maps.map_maybe_stmts no_blocks (stmt_views.view_maybe_stmts (Some (with_items w ws))) ≡ maps.map_maybe_stmts no_blocks (stmt_views.view_maybe_stmts b)
maybe_kept n b w old ws is same read long h =
    ap (λ z. stmt_tree.some z) (filled_kept stmt_views.view_stmts (maps.map_stmts no_blocks) w w old ws refl read long h) ∙ ap (λ x. maps.map_maybe_stmts no_blocks (stmt_views.view_maybe_stmts x)) (sym is ∙ same)

pub maybe_numbers : (n b : Option (Vec Stmt Global)) (w : Vec Stmt Global) (first : ℕ) (old ws : List Stmt) → n ≡ Some w → n ≡ b → old ≡ w.items → length ws ≡ length old → numbers.block_numbers (stmt_views.view_stmts ws) ≡ renumbered first (numbers.block_numbers (stmt_views.view_stmts old)) → numbers.maybe_stmts_numbers (stmt_views.view_maybe_stmts (Some (with_items w ws))) ≡ renumbered first (numbers.maybe_stmts_numbers (stmt_views.view_maybe_stmts b))
maybe_numbers n b w first old ws is same read long h =
    filled_numbers stmt_views.view_stmts numbers.block_numbers first w w old ws refl read long h ∙ ap (λ x. renumbered first (numbers.maybe_stmts_numbers (stmt_views.view_maybe_stmts x))) (sym is ∙ same)

pub missing_numbers : (o b : Option (Vec Stmt Global)) (first : ℕ) → o ≡ None → o ≡ b → numbers.maybe_stmts_numbers (stmt_views.view_maybe_stmts o) ≡ renumbered first (numbers.maybe_stmts_numbers (stmt_views.view_maybe_stmts b))
missing_numbers o b first is same =
    ap (λ x. numbers.maybe_stmts_numbers (stmt_views.view_maybe_stmts x)) is ∙ sym (ap (λ x. renumbered first (numbers.maybe_stmts_numbers (stmt_views.view_maybe_stmts x))) (sym same ∙ is))

pub missing_next : (o b : Option (Vec Stmt Global)) (first : ℕ) → o ≡ None → o ≡ b → first ≡ past (numbers.maybe_stmts_numbers (stmt_views.view_maybe_stmts b)) first
missing_next o b first is same = sym (ap (λ x. past (numbers.maybe_stmts_numbers (stmt_views.view_maybe_stmts x)) first) (sym same ∙ is))

pub if_kept : (x : StmtForm) (x0 y0 : Vec Branch Global) (x1 y1 : Option (Vec Stmt Global)) → x ≡ form.If x0 x1 → maps.map_branches no_blocks (stmt_views.branches_of (map stmt_views.view_branch y0.items)) ≡ maps.map_branches no_blocks (stmt_views.branches_of (map stmt_views.view_branch x0.items)) → maps.map_maybe_stmts no_blocks (stmt_views.view_maybe_stmts y1) ≡ maps.map_maybe_stmts no_blocks (stmt_views.view_maybe_stmts x1) → maps.map_stmt_form no_blocks (stmt_views.view_stmt_form (form.If y0 y1)) ≡ maps.map_stmt_form no_blocks (stmt_views.view_stmt_form x)
if_kept x x0 y0 x1 y1 is h0 h1 = kept_as (maps.map_stmt_form no_blocks) (ap stmt_views.view_stmt_form is ∙ stmt_if x0 x1) (stmt_if y0 y1) (λ i. stmt_tree.choose (h0 i) (h1 i))

pub if_numbers : (x : StmtForm) (x0 y0 : Vec Branch Global) (x1 y1 : Option (Vec Stmt Global)) (first m1 : ℕ) → x ≡ form.If x0 x1 → numbers.branches_numbers (stmt_views.branches_of (map stmt_views.view_branch y0.items)) ≡ renumbered first (numbers.branches_numbers (stmt_views.branches_of (map stmt_views.view_branch x0.items))) → m1 ≡ past (numbers.branches_numbers (stmt_views.branches_of (map stmt_views.view_branch x0.items))) first → numbers.maybe_stmts_numbers (stmt_views.view_maybe_stmts y1) ≡ renumbered m1 (numbers.maybe_stmts_numbers (stmt_views.view_maybe_stmts x1)) → numbers.stmt_form_numbers (stmt_views.view_stmt_form (form.If y0 y1)) ≡ renumbered first (numbers.stmt_form_numbers (stmt_views.view_stmt_form x))
if_numbers x x0 y0 x1 y1 first m1 is h0 h1 h2 = numbers_as numbers.stmt_form_numbers first (ap stmt_views.view_stmt_form is ∙ stmt_if x0 x1) (stmt_if y0 y1) (run_pair (numbers.branches_numbers (stmt_views.branches_of (map stmt_views.view_branch x0.items))) (numbers.maybe_stmts_numbers (stmt_views.view_maybe_stmts x1)) (numbers.branches_numbers (stmt_views.branches_of (map stmt_views.view_branch y0.items))) (numbers.maybe_stmts_numbers (stmt_views.view_maybe_stmts y1)) first m1 (h0) (h1) h2)

pub try_kept : (x : StmtForm) (x0 y0 : Vec Stmt Global) (x1 y1 : Vec Except Global) (x2 y2 : Option (Vec Stmt Global)) (x3 y3 : Option (Vec Stmt Global)) → x ≡ form.Try x0 x1 x2 x3 → maps.map_stmts no_blocks (stmt_views.view_stmts y0.items) ≡ maps.map_stmts no_blocks (stmt_views.view_stmts x0.items) → maps.map_excepts no_blocks (stmt_views.excepts_of (map stmt_views.view_except y1.items)) ≡ maps.map_excepts no_blocks (stmt_views.excepts_of (map stmt_views.view_except x1.items)) → maps.map_maybe_stmts no_blocks (stmt_views.view_maybe_stmts y2) ≡ maps.map_maybe_stmts no_blocks (stmt_views.view_maybe_stmts x2) → maps.map_maybe_stmts no_blocks (stmt_views.view_maybe_stmts y3) ≡ maps.map_maybe_stmts no_blocks (stmt_views.view_maybe_stmts x3) → maps.map_stmt_form no_blocks (stmt_views.view_stmt_form (form.Try y0 y1 y2 y3)) ≡ maps.map_stmt_form no_blocks (stmt_views.view_stmt_form x)
try_kept x x0 y0 x1 y1 x2 y2 x3 y3 is h0 h1 h2 h3 = kept_as (maps.map_stmt_form no_blocks) (ap stmt_views.view_stmt_form is ∙ stmt_try x0 x1 x2 x3) (stmt_try y0 y1 y2 y3) (λ i. stmt_tree.try (h0 i) (h1 i) (h2 i) (h3 i))

pub try_numbers : (x : StmtForm) (x0 y0 : Vec Stmt Global) (x1 y1 : Vec Except Global) (x2 y2 : Option (Vec Stmt Global)) (x3 y3 : Option (Vec Stmt Global)) (first m1 m2 m3 : ℕ) → x ≡ form.Try x0 x1 x2 x3 → numbers.block_numbers (stmt_views.view_stmts y0.items) ≡ renumbered first (numbers.block_numbers (stmt_views.view_stmts x0.items)) → m1 ≡ past (numbers.block_numbers (stmt_views.view_stmts x0.items)) first → numbers.excepts_numbers (stmt_views.excepts_of (map stmt_views.view_except y1.items)) ≡ renumbered m1 (numbers.excepts_numbers (stmt_views.excepts_of (map stmt_views.view_except x1.items))) → m2 ≡ past (numbers.excepts_numbers (stmt_views.excepts_of (map stmt_views.view_except x1.items))) m1 → numbers.maybe_stmts_numbers (stmt_views.view_maybe_stmts y2) ≡ renumbered m2 (numbers.maybe_stmts_numbers (stmt_views.view_maybe_stmts x2)) → m3 ≡ past (numbers.maybe_stmts_numbers (stmt_views.view_maybe_stmts x2)) m2 → numbers.maybe_stmts_numbers (stmt_views.view_maybe_stmts y3) ≡ renumbered m3 (numbers.maybe_stmts_numbers (stmt_views.view_maybe_stmts x3)) → numbers.stmt_form_numbers (stmt_views.view_stmt_form (form.Try y0 y1 y2 y3)) ≡ renumbered first (numbers.stmt_form_numbers (stmt_views.view_stmt_form x))
try_numbers x x0 y0 x1 y1 x2 y2 x3 y3 first m1 m2 m3 is h0 h1 h2 h3 h4 h5 h6 = numbers_as numbers.stmt_form_numbers first (ap stmt_views.view_stmt_form is ∙ stmt_try x0 x1 x2 x3) (stmt_try y0 y1 y2 y3) (run_pair (((numbers.block_numbers (stmt_views.view_stmts x0.items)) ++ (numbers.excepts_numbers (stmt_views.excepts_of (map stmt_views.view_except x1.items)))) ++ (numbers.maybe_stmts_numbers (stmt_views.view_maybe_stmts x2))) (numbers.maybe_stmts_numbers (stmt_views.view_maybe_stmts x3)) (((numbers.block_numbers (stmt_views.view_stmts y0.items)) ++ (numbers.excepts_numbers (stmt_views.excepts_of (map stmt_views.view_except y1.items)))) ++ (numbers.maybe_stmts_numbers (stmt_views.view_maybe_stmts y2))) (numbers.maybe_stmts_numbers (stmt_views.view_maybe_stmts y3)) first m3 (run_pair ((numbers.block_numbers (stmt_views.view_stmts x0.items)) ++ (numbers.excepts_numbers (stmt_views.excepts_of (map stmt_views.view_except x1.items)))) (numbers.maybe_stmts_numbers (stmt_views.view_maybe_stmts x2)) ((numbers.block_numbers (stmt_views.view_stmts y0.items)) ++ (numbers.excepts_numbers (stmt_views.excepts_of (map stmt_views.view_except y1.items)))) (numbers.maybe_stmts_numbers (stmt_views.view_maybe_stmts y2)) first m2 (run_pair (numbers.block_numbers (stmt_views.view_stmts x0.items)) (numbers.excepts_numbers (stmt_views.excepts_of (map stmt_views.view_except x1.items))) (numbers.block_numbers (stmt_views.view_stmts y0.items)) (numbers.excepts_numbers (stmt_views.excepts_of (map stmt_views.view_except y1.items))) first m1 (h0) (h1) h2) (past_pair (numbers.block_numbers (stmt_views.view_stmts x0.items)) (numbers.excepts_numbers (stmt_views.excepts_of (map stmt_views.view_except x1.items))) first m1 m2 (h1) h3) h4) (past_pair ((numbers.block_numbers (stmt_views.view_stmts x0.items)) ++ (numbers.excepts_numbers (stmt_views.excepts_of (map stmt_views.view_except x1.items)))) (numbers.maybe_stmts_numbers (stmt_views.view_maybe_stmts x2)) first m2 m3 (past_pair (numbers.block_numbers (stmt_views.view_stmts x0.items)) (numbers.excepts_numbers (stmt_views.excepts_of (map stmt_views.view_except x1.items))) first m1 m2 (h1) h3) h5) h6)

pub branch_runs : (x : Branch) (z : open_stmt.Branch-F StmtForm Branch Except Stmt) (first between : ℕ) → numbers.expr_numbers (views.view_expr z.test) ≡ renumbered first (numbers.expr_numbers (views.view_expr (out-Branch x).test)) → between ≡ past (numbers.expr_numbers (views.view_expr (out-Branch x).test)) first → numbers.block_numbers (stmt_views.view_stmts z.body.items) ≡ renumbered between (numbers.block_numbers (stmt_views.view_stmts (out-Branch x).body.items)) → branch_numbers (stmt_views.view_branch (roll-Branch z)) ≡ renumbered first (branch_numbers (stmt_views.view_branch x))
branch_runs x z first between p q r =
    numbers_as branch_numbers first (branch_out x) (branch_roll z) (run_pair (numbers.expr_numbers (views.view_expr (out-Branch x).test)) (numbers.block_numbers (stmt_views.view_stmts (out-Branch x).body.items)) (numbers.expr_numbers (views.view_expr z.test)) (numbers.block_numbers (stmt_views.view_stmts z.body.items)) first between p q r)

pub branch_next : (x : Branch) (first between next : ℕ) → between ≡ past (numbers.expr_numbers (views.view_expr (out-Branch x).test)) first → next ≡ past (numbers.block_numbers (stmt_views.view_stmts (out-Branch x).body.items)) between → next ≡ past (branch_numbers (stmt_views.view_branch x)) first
branch_next x first between next p q =
    next_as branch_numbers first next (branch_out x) (past_pair (numbers.expr_numbers (views.view_expr (out-Branch x).test)) (numbers.block_numbers (stmt_views.view_stmts (out-Branch x).body.items)) first between next p q)

pub except_runs : (x : Except) (z : open_stmt.Except-F StmtForm Branch Except Stmt) (first between : ℕ) → numbers.option_numbers (option_map views.view_expr z.kind) ≡ renumbered first (numbers.option_numbers (option_map views.view_expr (out-Except x).kind)) → between ≡ past (numbers.option_numbers (option_map views.view_expr (out-Except x).kind)) first → numbers.block_numbers (stmt_views.view_stmts z.body.items) ≡ renumbered between (numbers.block_numbers (stmt_views.view_stmts (out-Except x).body.items)) → numbers.except_numbers (stmt_views.view_except (roll-Except z)) ≡ renumbered first (numbers.except_numbers (stmt_views.view_except x))
except_runs x z first between p q r =
    numbers_as numbers.except_numbers first (except_out x) (except_roll z) (run_pair (numbers.option_numbers (option_map views.view_expr (out-Except x).kind)) (numbers.block_numbers (stmt_views.view_stmts (out-Except x).body.items)) (numbers.option_numbers (option_map views.view_expr z.kind)) (numbers.block_numbers (stmt_views.view_stmts z.body.items)) first between p q r)

pub except_next : (x : Except) (first between next : ℕ) → between ≡ past (numbers.option_numbers (option_map views.view_expr (out-Except x).kind)) first → next ≡ past (numbers.block_numbers (stmt_views.view_stmts (out-Except x).body.items)) between → next ≡ past (numbers.except_numbers (stmt_views.view_except x)) first
except_next x first between next p q =
    next_as numbers.except_numbers first next (except_out x) (past_pair (numbers.option_numbers (option_map views.view_expr (out-Except x).kind)) (numbers.block_numbers (stmt_views.view_stmts (out-Except x).body.items)) first between next p q)

abbrev BranchParts : Type 0
BranchParts = open_stmt.Branch-F StmtForm Branch Except Stmt

abbrev ExceptParts : Type 0
ExceptParts = open_stmt.Except-F StmtForm Branch Except Stmt

branch_changed : (x : Branch) (y made : BranchParts) (first between : ℕ) (old ws : List Stmt) → y ≡ made → made.body ≡ (out-Branch x).body → numbers.expr_numbers (views.view_expr made.test) ≡ renumbered first (numbers.expr_numbers (views.view_expr (out-Branch x).test)) → between ≡ past (numbers.expr_numbers (views.view_expr (out-Branch x).test)) first → old ≡ y.body.items → length ws ≡ length old → numbers.block_numbers (stmt_views.view_stmts ws) ≡ renumbered between (numbers.block_numbers (stmt_views.view_stmts old)) → branch_numbers (stmt_views.view_branch (roll-Branch (record { test = y.test; body = with_items y.body ws }))) ≡ renumbered first (branch_numbers (stmt_views.view_branch x))
branch_changed x y made first between old ws is same test begins read long body =
    branch_runs x (record { test = y.test; body = with_items y.body ws }) first between (ap (λ (u : BranchParts). numbers.expr_numbers (views.view_expr u.test)) is ∙ test) begins (filled_numbers stmt_views.view_stmts numbers.block_numbers between y.body (out-Branch x).body old ws (ap (λ (u : BranchParts). u.body) is ∙ same) read long body)

-- a branch whose test has been numbered and then its body
pub branch_numbered : (x : Branch) (made : BranchParts) (first between : ℕ) (old ws : List Stmt) → made.body ≡ (out-Branch x).body → numbers.expr_numbers (views.view_expr made.test) ≡ renumbered first (numbers.expr_numbers (views.view_expr (out-Branch x).test)) → between ≡ past (numbers.expr_numbers (views.view_expr (out-Branch x).test)) first → old ≡ (out-Branch (roll-Branch made)).body.items → length ws ≡ length old → numbers.block_numbers (stmt_views.view_stmts ws) ≡ renumbered between (numbers.block_numbers (stmt_views.view_stmts old)) → branch_numbers (stmt_views.view_branch (roll-Branch (record { test = (out-Branch (roll-Branch made)).test; body = with_items (out-Branch (roll-Branch made)).body ws }))) ≡ renumbered first (branch_numbers (stmt_views.view_branch x))
branch_numbered x made first between old ws same test begins read long body =
    branch_changed x (out-Branch (roll-Branch made)) made first between old ws (out-roll-Branch made) same test begins read long body

except_changed : (x : Except) (y made : ExceptParts) (first between : ℕ) (old ws : List Stmt) → y ≡ made → made.body ≡ (out-Except x).body → numbers.option_numbers (option_map views.view_expr made.kind) ≡ renumbered first (numbers.option_numbers (option_map views.view_expr (out-Except x).kind)) → between ≡ past (numbers.option_numbers (option_map views.view_expr (out-Except x).kind)) first → old ≡ y.body.items → length ws ≡ length old → numbers.block_numbers (stmt_views.view_stmts ws) ≡ renumbered between (numbers.block_numbers (stmt_views.view_stmts old)) → numbers.except_numbers (stmt_views.view_except (roll-Except (record { kind = y.kind; name = y.name; body = with_items y.body ws }))) ≡ renumbered first (numbers.except_numbers (stmt_views.view_except x))
except_changed x y made first between old ws is same kind begins read long body =
    except_runs x (record { kind = y.kind; name = y.name; body = with_items y.body ws }) first between (ap (λ (u : ExceptParts). numbers.option_numbers (option_map views.view_expr u.kind)) is ∙ kind) begins (filled_numbers stmt_views.view_stmts numbers.block_numbers between y.body (out-Except x).body old ws (ap (λ (u : ExceptParts). u.body) is ∙ same) read long body)

-- a handler whose kind has been numbered and then its body
pub except_numbered : (x : Except) (made : ExceptParts) (first between : ℕ) (old ws : List Stmt) → made.body ≡ (out-Except x).body → numbers.option_numbers (option_map views.view_expr made.kind) ≡ renumbered first (numbers.option_numbers (option_map views.view_expr (out-Except x).kind)) → between ≡ past (numbers.option_numbers (option_map views.view_expr (out-Except x).kind)) first → old ≡ (out-Except (roll-Except made)).body.items → length ws ≡ length old → numbers.block_numbers (stmt_views.view_stmts ws) ≡ renumbered between (numbers.block_numbers (stmt_views.view_stmts old)) → numbers.except_numbers (stmt_views.view_except (roll-Except (record { kind = (out-Except (roll-Except made)).kind; name = (out-Except (roll-Except made)).name; body = with_items (out-Except (roll-Except made)).body ws }))) ≡ renumbered first (numbers.except_numbers (stmt_views.view_except x))
except_numbered x made first between old ws same kind begins read long body =
    except_changed x (out-Except (roll-Except made)) made first between old ws (out-roll-Except made) same kind begins read long body

pub def_kept : (x : StmtForm) (j k : Block) (name given : Named) (p q : Params) (b d : Vec Stmt Global) → x ≡ form.Def j name p b → given ≡ name → maps.map_params no_blocks (views.view_params q) ≡ maps.map_params no_blocks (views.view_params p) → maps.map_stmts no_blocks (stmt_views.view_stmts d.items) ≡ maps.map_stmts no_blocks (stmt_views.view_stmts b.items) → maps.map_stmt_form no_blocks (stmt_views.view_stmt_form (form.Def k given q d)) ≡ maps.map_stmt_form no_blocks (stmt_views.view_stmt_form x)
def_kept x j k name given p q b d is same params body =
    kept_as (maps.map_stmt_form no_blocks) (ap stmt_views.view_stmt_form is ∙ stmt_def j name p b) (stmt_def k given q d) (λ i. stmt_tree.define 0 (maps.map_named no_blocks (same i)) (params i) (body i))

pub class_kept : (x : StmtForm) (name given : Named) (b d : Vec Stmt Global) → x ≡ form.Class name b → given ≡ name → maps.map_stmts no_blocks (stmt_views.view_stmts d.items) ≡ maps.map_stmts no_blocks (stmt_views.view_stmts b.items) → maps.map_stmt_form no_blocks (stmt_views.view_stmt_form (form.Class given d)) ≡ maps.map_stmt_form no_blocks (stmt_views.view_stmt_form x)
class_kept x name given b d is same body =
    kept_as (maps.map_stmt_form no_blocks) (ap stmt_views.view_stmt_form is ∙ stmt_class name b) (stmt_class given d) (λ i. stmt_tree.class (maps.map_named no_blocks (same i)) (body i))

-- a struct that has been made anew has the parts that it was made of

pub out_body : (z : open_stmt.Branch-F StmtForm Branch Except Stmt) → (out-Branch (roll-Branch z)).body.items ≡ z.body.items
out_body z = search (rules, the_lemmas)

pub out_handled : (z : open_stmt.Except-F StmtForm Branch Except Stmt) → (out-Except (roll-Except z)).body.items ≡ z.body.items
out_handled z = search (rules, the_lemmas)
