-- Lists whose elements are numbered in place, one after the other.
use Rattle.std.proofs.Common.{◌≡◌, ℕ, ◌<◌, List, [], ◌∷◌, ◌++◌, map, get_or, Option, Some, None, option_map, refl, ap}
use Rattle.rp_base.specs.declared.operator.BinOp.{BinOp}
use Rattle.rp_tree.specs.declared.parts.Test.{Test}
use Rattle.rp_tree.specs.declared.expr.Expr as program_expr
use Rattle.rp_tree.specs.declared.stmt.Branch as program_branch
use Rattle.rp_tree.specs.Expressions as tree
use Rattle.rp_tree.specs.Expressions.{Named}
use Rattle.rp_tree.specs.Statements as stmt_tree
use Rattle.rp_tree.specs.ExpressionViews as views
use Rattle.rp_tree.specs.StatementViews as stmt_views
use Rattle.rp_tree.specs.Maps as maps
use Rattle.rp_tree.specs.Maps.{no_blocks}
use Rattle.rp_scope.specs.Numbers as numbering
use Rattle.rp_scope.specs.NumberSteps.{renumbered, start, all_numbers, pair_numbers, second_numbers, branch_numbers}

-- of the elements below a place, each is as before but for its numbers, and has those from its start on
abbrev pub IsNumberedTo : {A B C : Type 0} → (A → B) → (B → C) → (B → List ℕ) → ℕ → List A → List A → ℕ → Type 0
IsNumberedTo {A = A} view f nums first before now i =
    (k : ℕ) (d : A) → k < i → (f (view (get_or now k d)) ≡ f (view (get_or before k d))) × (nums (view (get_or now k d)) ≡ renumbered (start (λ x. nums (view x)) first before k) (nums (view (get_or before k d))))

-- the same of elements with two parts

abbrev pub ArePairsNumberedTo : ℕ → List (program_expr.Expr × program_expr.Expr) → List (program_expr.Expr × program_expr.Expr) → ℕ → Type 0
ArePairsNumberedTo first before now i =
    (k : ℕ) (d : program_expr.Expr × program_expr.Expr) → k < i → (maps.map_expr no_blocks (views.view_expr (get_or now k d).0) ≡ maps.map_expr no_blocks (views.view_expr (get_or before k d).0)) × (maps.map_expr no_blocks (views.view_expr (get_or now k d).1) ≡ maps.map_expr no_blocks (views.view_expr (get_or before k d).1)) × (pair_numbers (views.view_pair (get_or now k d)) ≡ renumbered (start (λ x. pair_numbers (views.view_pair x)) first before k) (pair_numbers (views.view_pair (get_or before k d))))

abbrev pub AreSecondsNumberedTo : {A : Type 0} → ℕ → List (A × program_expr.Expr) → List (A × program_expr.Expr) → ℕ → Type 0
AreSecondsNumberedTo {A = A} first before now i =
    (k : ℕ) (d : A × program_expr.Expr) → k < i → ((get_or now k d).0 ≡ (get_or before k d).0) × (maps.map_expr no_blocks (views.view_expr (get_or now k d).1) ≡ maps.map_expr no_blocks (views.view_expr (get_or before k d).1)) × (numbering.expr_numbers (views.view_expr (get_or now k d).1) ≡ renumbered (start (λ x. numbering.expr_numbers (views.view_expr x.1)) first before k) (numbering.expr_numbers (views.view_expr (get_or before k d).1)))

abbrev pub AreDefaultsNumberedTo : ℕ → List (Named × Option program_expr.Expr) → List (Named × Option program_expr.Expr) → ℕ → Type 0
AreDefaultsNumberedTo first before now i =
    (k : ℕ) (d : Named × Option program_expr.Expr) → k < i → ((get_or now k d).0 ≡ (get_or before k d).0) × (maps.map_maybe no_blocks (views.maybe_of (option_map views.view_expr (get_or now k d).1)) ≡ maps.map_maybe no_blocks (views.maybe_of (option_map views.view_expr (get_or before k d).1))) × (numbering.maybe_numbers (views.maybe_of (option_map views.view_expr (get_or now k d).1)) ≡ renumbered (start (λ x. numbering.maybe_numbers (views.maybe_of (option_map views.view_expr x.1))) first before k) (numbering.maybe_numbers (views.maybe_of (option_map views.view_expr (get_or before k d).1))))

abbrev pub AreBranchesNumberedTo : ℕ → List program_branch.Branch → List program_branch.Branch → ℕ → Type 0
AreBranchesNumberedTo first before now i =
    (k : ℕ) (d : program_branch.Branch) → k < i → (maps.map_expr no_blocks (stmt_views.view_branch (get_or now k d)).0 ≡ maps.map_expr no_blocks (stmt_views.view_branch (get_or before k d)).0) × (maps.map_stmts no_blocks (stmt_views.view_branch (get_or now k d)).1 ≡ maps.map_stmts no_blocks (stmt_views.view_branch (get_or before k d)).1) × (branch_numbers (stmt_views.view_branch (get_or now k d)) ≡ renumbered (start (λ x. branch_numbers (stmt_views.view_branch x)) first before k) (branch_numbers (stmt_views.view_branch (get_or before k d))))

-- elements without numbers

abbrev pub shape_pair : tree.Expr × tree.Expr → tree.Expr × tree.Expr
shape_pair p = (maps.map_expr no_blocks p.0, maps.map_expr no_blocks p.1)

abbrev pub shape_test : Test × tree.Expr → Test × tree.Expr
shape_test p = (p.0, maps.map_expr no_blocks p.1)

abbrev pub shape_op : BinOp × tree.Expr → BinOp × tree.Expr
shape_op p = (p.0, maps.map_expr no_blocks p.1)

abbrev pub shape_branch : tree.Expr × stmt_tree.Stmts → tree.Expr × stmt_tree.Stmts
shape_branch p = (maps.map_expr no_blocks p.0, maps.map_stmts no_blocks p.1)

-- a parameter with its default as trees have it
abbrev pub view_default : Named × Option program_expr.Expr → Named × tree.Maybe
view_default p = (p.0, views.maybe_of (option_map views.view_expr p.1))

abbrev pub shape_default : Named × tree.Maybe → Named × tree.Maybe
shape_default p = (maps.map_named no_blocks p.0, maps.map_maybe no_blocks p.1)

abbrev pub default_numbers : Named × tree.Maybe → List ℕ
default_numbers p = numbering.maybe_numbers p.1

abbrev pub defaults_of : List (Named × tree.Maybe) → tree.Plain
defaults_of [] = tree.no_plain
defaults_of (p ∷ ps) = tree.plain p.0 p.1 (defaults_of ps)

pub defaults_of_views : (xs : List (Named × Option program_expr.Expr)) → views.plain_of (map views.view_plain xs) ≡ defaults_of (map view_default xs)
defaults_of_views [] = refl
defaults_of_views (x ∷ xs) = rw (defaults_of_views xs) refl

-- lists of a tree without numbers, and the numbers in them

pub exprs_shape : (xs : List (tree.Expr)) → views.exprs_of (map (maps.map_expr no_blocks) xs) ≡ maps.map_exprs no_blocks (views.exprs_of xs)
exprs_shape [] = refl
exprs_shape (x ∷ xs) = rw (exprs_shape xs) refl

pub exprs_numbers : (xs : List (tree.Expr)) → numbering.exprs_numbers (views.exprs_of xs) ≡ all_numbers numbering.expr_numbers xs
exprs_numbers [] = refl
exprs_numbers (x ∷ xs) = ap (λ zs. numbering.expr_numbers x ++ zs) (exprs_numbers xs)

pub pairs_shape : (xs : List (tree.Expr × tree.Expr)) → views.pairs_of (map shape_pair xs) ≡ maps.map_pairs no_blocks (views.pairs_of xs)
pairs_shape [] = refl
pairs_shape (x ∷ xs) = rw (pairs_shape xs) refl

pub pairs_numbers : (xs : List (tree.Expr × tree.Expr)) → numbering.pairs_numbers (views.pairs_of xs) ≡ all_numbers pair_numbers xs
pairs_numbers [] = refl
pairs_numbers (x ∷ xs) = ap (λ zs. pair_numbers x ++ zs) (pairs_numbers xs)

pub tests_shape : (xs : List (Test × tree.Expr)) → views.tests_of (map shape_test xs) ≡ maps.map_tests no_blocks (views.tests_of xs)
tests_shape [] = refl
tests_shape (x ∷ xs) = rw (tests_shape xs) refl

pub tests_numbers : (xs : List (Test × tree.Expr)) → numbering.tests_numbers (views.tests_of xs) ≡ all_numbers second_numbers xs
tests_numbers [] = refl
tests_numbers (x ∷ xs) = ap (λ zs. second_numbers x ++ zs) (tests_numbers xs)

pub ops_shape : (xs : List (BinOp × tree.Expr)) → views.ops_of (map shape_op xs) ≡ maps.map_ops no_blocks (views.ops_of xs)
ops_shape [] = refl
ops_shape (x ∷ xs) = rw (ops_shape xs) refl

pub ops_numbers : (xs : List (BinOp × tree.Expr)) → numbering.ops_numbers (views.ops_of xs) ≡ all_numbers second_numbers xs
ops_numbers [] = refl
ops_numbers (x ∷ xs) = ap (λ zs. second_numbers x ++ zs) (ops_numbers xs)

pub clauses_shape : (xs : List (tree.Clause)) → views.clauses_of (map (maps.map_clause no_blocks) xs) ≡ maps.map_clauses no_blocks (views.clauses_of xs)
clauses_shape [] = refl
clauses_shape (x ∷ xs) = rw (clauses_shape xs) refl

pub clauses_numbers : (xs : List (tree.Clause)) → numbering.clauses_numbers (views.clauses_of xs) ≡ all_numbers numbering.clause_numbers xs
clauses_numbers [] = refl
clauses_numbers (x ∷ xs) = ap (λ zs. numbering.clause_numbers x ++ zs) (clauses_numbers xs)

pub targets_shape : (xs : List (tree.Target)) → views.targets_of (map (maps.map_target no_blocks) xs) ≡ maps.map_targets no_blocks (views.targets_of xs)
targets_shape [] = refl
targets_shape (x ∷ xs) = rw (targets_shape xs) refl

pub targets_numbers : (xs : List (tree.Target)) → numbering.targets_numbers (views.targets_of xs) ≡ all_numbers numbering.target_numbers xs
targets_numbers [] = refl
targets_numbers (x ∷ xs) = ap (λ zs. numbering.target_numbers x ++ zs) (targets_numbers xs)

pub plain_shape : (xs : List (Named × tree.Maybe)) → defaults_of (map shape_default xs) ≡ maps.map_plain no_blocks (defaults_of xs)
plain_shape [] = refl
plain_shape (x ∷ xs) = rw (plain_shape xs) refl

pub plain_numbers : (xs : List (Named × tree.Maybe)) → numbering.plain_numbers (defaults_of xs) ≡ all_numbers default_numbers xs
plain_numbers [] = refl
plain_numbers (x ∷ xs) = ap (λ zs. default_numbers x ++ zs) (plain_numbers xs)

pub trailers_shape : (xs : List (tree.Trailer)) → views.trailers_of (map (maps.map_trailer no_blocks) xs) ≡ maps.map_trailers no_blocks (views.trailers_of xs)
trailers_shape [] = refl
trailers_shape (x ∷ xs) = rw (trailers_shape xs) refl

pub trailers_numbers : (xs : List (tree.Trailer)) → numbering.trailers_numbers (views.trailers_of xs) ≡ all_numbers numbering.trailer_numbers xs
trailers_numbers [] = refl
trailers_numbers (x ∷ xs) = ap (λ zs. numbering.trailer_numbers x ++ zs) (trailers_numbers xs)

pub args_shape : (xs : List (tree.Arg)) → views.args_of (map (maps.map_arg no_blocks) xs) ≡ maps.map_args no_blocks (views.args_of xs)
args_shape [] = refl
args_shape (x ∷ xs) = rw (args_shape xs) refl

pub args_numbers : (xs : List (tree.Arg)) → numbering.args_numbers (views.args_of xs) ≡ all_numbers numbering.arg_numbers xs
args_numbers [] = refl
args_numbers (x ∷ xs) = ap (λ zs. numbering.arg_numbers x ++ zs) (args_numbers xs)

pub stmts_shape : (xs : List (stmt_tree.Stmt)) → stmt_views.stmts_of (map (maps.map_stmt no_blocks) xs) ≡ maps.map_stmts no_blocks (stmt_views.stmts_of xs)
stmts_shape [] = refl
stmts_shape (x ∷ xs) = rw (stmts_shape xs) refl

pub stmts_numbers : (xs : List (stmt_tree.Stmt)) → numbering.block_numbers (stmt_views.stmts_of xs) ≡ all_numbers numbering.stmt_numbers xs
stmts_numbers [] = refl
stmts_numbers (x ∷ xs) = ap (λ zs. numbering.stmt_numbers x ++ zs) (stmts_numbers xs)

pub branches_shape : (xs : List (tree.Expr × stmt_tree.Stmts)) → stmt_views.branches_of (map shape_branch xs) ≡ maps.map_branches no_blocks (stmt_views.branches_of xs)
branches_shape [] = refl
branches_shape (x ∷ xs) = rw (branches_shape xs) refl

pub branches_numbers : (xs : List (tree.Expr × stmt_tree.Stmts)) → numbering.branches_numbers (stmt_views.branches_of xs) ≡ all_numbers branch_numbers xs
branches_numbers [] = refl
branches_numbers (x ∷ xs) = ap (λ zs. branch_numbers x ++ zs) (branches_numbers xs)

pub excepts_shape : (xs : List (stmt_tree.Except)) → stmt_views.excepts_of (map (maps.map_except no_blocks) xs) ≡ maps.map_excepts no_blocks (stmt_views.excepts_of xs)
excepts_shape [] = refl
excepts_shape (x ∷ xs) = rw (excepts_shape xs) refl

pub excepts_numbers : (xs : List (stmt_tree.Except)) → numbering.excepts_numbers (stmt_views.excepts_of xs) ≡ all_numbers numbering.except_numbers xs
excepts_numbers [] = refl
excepts_numbers (x ∷ xs) = ap (λ zs. numbering.except_numbers x ++ zs) (excepts_numbers xs)

pub places_numbers_of : (xs : List tree.Place) → numbering.places_numbers xs ≡ all_numbers numbering.place_numbers xs
places_numbers_of [] = refl
places_numbers_of (x ∷ xs) = ap (λ zs. numbering.place_numbers x ++ zs) (places_numbers_of xs)

-- names have no numbers

pub names_option_kept : (x : Option Named) → option_map (maps.map_named no_blocks) x ≡ x
names_option_kept None = refl
names_option_kept (Some n) = refl

pub names_kept : (x : List Named) → map (maps.map_named no_blocks) x ≡ x
names_kept [] = refl
names_kept (n ∷ ns) = rw (names_kept ns) refl
