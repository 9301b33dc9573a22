-- Lists whose elements are marked in place, one after the other.
use Rattle.std.proofs.Common.{◌≡◌, ℕ, suc, ◌<◌, List, [], ◌∷◌, map, length, get_or, Option, Some, None, option_map, refl, arith}
use Rattle.rp_base.specs.declared.operator.BinOp.{BinOp}
use Rattle.rp_tree.specs.declared.parts.Test.{Test}
use Rattle.rp_tree.specs.declared.expr.Expr as program_expr
use Rattle.rp_tree.specs.declared.stmt.Branch as program_branch
use Rattle.rp_tree.specs.Expressions as tree
use Rattle.rp_tree.specs.Expressions.{Named}
use Rattle.rp_tree.specs.Statements as stmt_tree
use Rattle.rp_tree.specs.ExpressionViews as views
use Rattle.rp_tree.specs.StatementViews as stmt_views
use Rattle.rp_tree.specs.Maps as maps
use Rattle.rp_tree.specs.Marks.{table}

-- of the elements below a place, what they stand for has been changed by f
abbrev pub IsMarkedTo : {A B : Type 0} → (A → B) → (B → B) → List A → List A → ℕ → Type 0
IsMarkedTo {A = A} view f before now n = (k : ℕ) (d : A) → k < n → view (get_or now k d) ≡ f (view (get_or before k d))

-- the same of elements with two parts

abbrev pub ArePairsMarkedTo : List (program_expr.Expr × program_expr.Expr) → List (program_expr.Expr × program_expr.Expr) → ℕ → Type 0
ArePairsMarkedTo before now n =
    (k : ℕ) (d : program_expr.Expr × program_expr.Expr) → k < n → (views.view_expr (get_or now k d).0 ≡ maps.map_expr table (views.view_expr (get_or before k d).0)) × (views.view_expr (get_or now k d).1 ≡ maps.map_expr table (views.view_expr (get_or before k d).1))

abbrev pub AreSecondsMarkedTo : {A : Type 0} → List (A × program_expr.Expr) → List (A × program_expr.Expr) → ℕ → Type 0
AreSecondsMarkedTo {A = A} before now n =
    (k : ℕ) (d : A × program_expr.Expr) → k < n → ((get_or now k d).0 ≡ (get_or before k d).0) × (views.view_expr (get_or now k d).1 ≡ maps.map_expr table (views.view_expr (get_or before k d).1))

abbrev pub AreDefaultsMarkedTo : List (Named × Option program_expr.Expr) → List (Named × Option program_expr.Expr) → ℕ → Type 0
AreDefaultsMarkedTo before now n =
    (k : ℕ) (d : Named × Option program_expr.Expr) → k < n → ((get_or now k d).0 ≡ (get_or before k d).0) × (option_map views.view_expr (get_or now k d).1 ≡ option_map (maps.map_expr table) (option_map views.view_expr (get_or before k d).1))

abbrev pub AreBranchesMarkedTo : List program_branch.Branch → List program_branch.Branch → ℕ → Type 0
AreBranchesMarkedTo before now n =
    (k : ℕ) (d : program_branch.Branch) → k < n → ((stmt_views.view_branch (get_or now k d)).0 ≡ maps.map_expr table (stmt_views.view_branch (get_or before k d)).0) × ((stmt_views.view_branch (get_or now k d)).1 ≡ maps.map_stmts table (stmt_views.view_branch (get_or before k d)).1)

pub all_marked : {A B : Type 0} (view : A → B) (f : B → B) (before now : List A) → length now ≡ length before → ((k : ℕ) (d : A) → k < length now → view (get_or now k d) ≡ f (view (get_or before k d))) → map view now ≡ map f (map view before)
all_marked view f [] [] same each = refl
all_marked view f (x ∷ xs) [] same each = absurd (omega arith)
all_marked view f [] (y ∷ ys) same each = absurd (omega arith)
all_marked view f (x ∷ xs) (y ∷ ys) same each =
    let first : view y ≡ f (view x) = each 0 y (omega arith) in
    let rest : map view ys ≡ map f (map view xs) = all_marked view f xs ys (omega arith) (λ k d lt. each (suc k) d (omega arith)) in
    rw (first, rest) refl

-- names have no marks

pub names_option_kept : (x : Option Named) → option_map (maps.map_named table) x ≡ x
names_option_kept None = refl
names_option_kept (Some n) = refl

pub names_kept : (x : List Named) → map (maps.map_named table) x ≡ x
names_kept [] = refl
names_kept (n ∷ ns) = rw (names_kept ns) refl

-- a list whose elements are marked is the marked list

abbrev pub mark_pair : tree.Expr × tree.Expr → tree.Expr × tree.Expr
mark_pair p = (maps.map_expr table p.0, maps.map_expr table p.1)

abbrev pub mark_test : Test × tree.Expr → Test × tree.Expr
mark_test p = (p.0, maps.map_expr table p.1)

abbrev pub mark_op : BinOp × tree.Expr → BinOp × tree.Expr
mark_op p = (p.0, maps.map_expr table p.1)

abbrev pub mark_plain : Named × Option tree.Expr → Named × Option tree.Expr
mark_plain p = (p.0, option_map (maps.map_expr table) p.1)

abbrev pub mark_branch : tree.Expr × stmt_tree.Stmts → tree.Expr × stmt_tree.Stmts
mark_branch p = (maps.map_expr table p.0, maps.map_stmts table p.1)

pub maybe_of_map : (x : Option tree.Expr) → views.maybe_of (option_map (maps.map_expr table) x) ≡ maps.map_maybe table (views.maybe_of x)
maybe_of_map None = refl
maybe_of_map (Some e) = refl

pub exprs_of_map : (xs : List tree.Expr) → views.exprs_of (map (maps.map_expr table) xs) ≡ maps.map_exprs table (views.exprs_of xs)
exprs_of_map [] = refl
exprs_of_map (x ∷ xs) = rw (exprs_of_map xs) refl

pub clauses_of_map : (xs : List tree.Clause) → views.clauses_of (map (maps.map_clause table) xs) ≡ maps.map_clauses table (views.clauses_of xs)
clauses_of_map [] = refl
clauses_of_map (x ∷ xs) = rw (clauses_of_map xs) refl

pub targets_of_map : (xs : List tree.Target) → views.targets_of (map (maps.map_target table) xs) ≡ maps.map_targets table (views.targets_of xs)
targets_of_map [] = refl
targets_of_map (x ∷ xs) = rw (targets_of_map xs) refl

pub trailers_of_map : (xs : List tree.Trailer) → views.trailers_of (map (maps.map_trailer table) xs) ≡ maps.map_trailers table (views.trailers_of xs)
trailers_of_map [] = refl
trailers_of_map (x ∷ xs) = rw (trailers_of_map xs) refl

pub args_of_map : (xs : List tree.Arg) → views.args_of (map (maps.map_arg table) xs) ≡ maps.map_args table (views.args_of xs)
args_of_map [] = refl
args_of_map (x ∷ xs) = rw (args_of_map xs) refl

pub pairs_of_map : (xs : List (tree.Expr × tree.Expr)) → views.pairs_of (map mark_pair xs) ≡ maps.map_pairs table (views.pairs_of xs)
pairs_of_map [] = refl
pairs_of_map (x ∷ xs) = rw (pairs_of_map xs) refl

pub tests_of_map : (xs : List (Test × tree.Expr)) → views.tests_of (map mark_test xs) ≡ maps.map_tests table (views.tests_of xs)
tests_of_map [] = refl
tests_of_map (x ∷ xs) = rw (tests_of_map xs) refl

pub ops_of_map : (xs : List (BinOp × tree.Expr)) → views.ops_of (map mark_op xs) ≡ maps.map_ops table (views.ops_of xs)
ops_of_map [] = refl
ops_of_map (x ∷ xs) = rw (ops_of_map xs) refl

pub plain_of_map : (xs : List (Named × Option tree.Expr)) → views.plain_of (map mark_plain xs) ≡ maps.map_plain table (views.plain_of xs)
plain_of_map [] = refl
plain_of_map (x ∷ xs) = rw (maybe_of_map x.1, plain_of_map xs) refl

pub stmts_of_map : (xs : List stmt_tree.Stmt) → stmt_views.stmts_of (map (maps.map_stmt table) xs) ≡ maps.map_stmts table (stmt_views.stmts_of xs)
stmts_of_map [] = refl
stmts_of_map (x ∷ xs) = rw (stmts_of_map xs) refl

pub branches_of_map : (xs : List (tree.Expr × stmt_tree.Stmts)) → stmt_views.branches_of (map mark_branch xs) ≡ maps.map_branches table (stmt_views.branches_of xs)
branches_of_map [] = refl
branches_of_map (x ∷ xs) = rw (branches_of_map xs) refl

pub excepts_of_map : (xs : List stmt_tree.Except) → stmt_views.excepts_of (map (maps.map_except table) xs) ≡ maps.map_excepts table (stmt_views.excepts_of xs)
excepts_of_map [] = refl
excepts_of_map (x ∷ xs) = rw (excepts_of_map xs) refl
