-- What stands in the lists of a tree, from what stands in each element, as a walk comes by them.
use Rattle.std.proofs.Common.{◌≡◌, ◌<◌, ◌≤◌, ◌+◌, ℕ, zero, suc, List, [], ◌∷◌, ◌++◌, map, option_map, length, get_or, take, Option, Some, None, refl, sym, ap, ◌∙◌, subst, arith}
use Rattle.std.proofs.lemmas.List.{append_assoc, take_all}
use Rattle.std.specs.declared.alloc.Global.{Global}
use Rattle.std.specs.declared.vec.Vec.{Vec}
use Rattle.rp_base.specs.declared.operator.BinOp.{BinOp}
use Rattle.rp_meaning.specs.Blocks as blocks
use Rattle.rp_meaning.specs.Blocks.{Codes}
use Rattle.rp_tree.specs.ExpressionViews as views
use Rattle.rp_tree.specs.StatementViews as stmt_views
use Rattle.rp_tree.specs.Expressions.{Named}
use Rattle.rp_tree.specs.declared.expr.Arg.{Arg}
use Rattle.rp_tree.specs.declared.expr.Clause.{Clause}
use Rattle.rp_tree.specs.declared.expr.Expr.{Expr}
use Rattle.rp_tree.specs.declared.expr.Place.{Place}
use Rattle.rp_tree.specs.declared.expr.Target.{Target}
use Rattle.rp_tree.specs.declared.expr.Trailer.{Trailer}
use Rattle.rp_tree.specs.declared.parts.Test.{Test}
use Rattle.rp_tree.specs.declared.stmt.Branch.{Branch}
use Rattle.rp_tree.specs.declared.stmt.Except.{Except}
use Rattle.rp_tree.specs.declared.stmt.Stmt.{Stmt}
use Rattle.rp_codes.specs.CodeSteps.{Adds, branch_codes}
use Rattle.rp_codes.specs.declared.code.Code.{Code}
use Rattle.rp_codes.proofs.Adding.{adds_none, adds_then}

abbrev pub flat : {A : Type 0} → (A → Codes) → List A → Codes
flat f [] = []
flat f (x ∷ xs) = f x ++ flat f xs

flat_suc : {A : Type 0} (f : A → Codes) (xs : List A) (i : ℕ) (d : A) → i < length xs → flat f (take (suc i) xs) ≡ flat f (take i xs) ++ f (get_or xs i d)
flat_suc f [] i d lt = absurd (omega arith)
flat_suc f (x ∷ xs) zero d lt = append_nil_same (f x) where
  append_nil_same : (cs : Codes) → cs ++ [] ≡ [] ++ cs
  append_nil_same [] = refl
  append_nil_same (c ∷ cs) = ap (λ ds. c ∷ ds) (append_nil_same cs)
flat_suc f (x ∷ xs) (suc i) d lt = ap (λ cs. f x ++ cs) (flat_suc f xs i d (omega arith)) ∙ sym (append_assoc (f x) (flat f (take i xs)) (f (get_or xs i d)))

flat_next : {A : Type 0} (f : A → Codes) (xs : List A) (i : ℕ) (d : A) → i < length xs → flat f (take (i + 1) xs) ≡ flat f (take i xs) ++ f (get_or xs i d)
flat_next f xs i d lt = ap (λ k. flat f (take k xs)) (next i) ∙ flat_suc f xs i d lt where
  next : (i : ℕ) → i + 1 ≡ suc i
  next i = omega arith

abbrev Table : Type 0
Table = List (Option Code)

-- a turn of a walk over a list
pub turn : {A : Type 0} (f : A → Codes) (xs : List A) (i : ℕ) (x : A) (old ys zs : Table) → i < length xs → x ≡ get_or xs i x → Adds (flat f (take i xs)) old ys → Adds (f x) ys zs
    → Adds (flat f (take (i + 1) xs)) old zs
turn f xs i x old ys zs lt is before now =
    subst (λ (cs : Codes). Adds cs old zs) (sym (flat_next f xs i x lt ∙ ap (λ y. flat f (take i xs) ++ f y) (sym is))) (adds_then (flat f (take i xs)) (f x) old ys zs before now)

-- all turns are made
pub over : {A : Type 0} (f : A → Codes) (xs : List A) (i : ℕ) (old ys : Table) (cs : Codes) → cs ≡ flat f xs → length xs ≤ i → Adds (flat f (take i xs)) old ys → Adds cs old ys
over f xs i old ys cs is all h = subst (λ (cs : Codes). Adds cs old ys) (ap (flat f) (take_all i xs all) ∙ sym is) h

abbrev pub exprs_one : Expr → Codes
exprs_one x = blocks.of_expr (views.view_expr x)

pub exprs_are : (xs : List (Expr)) → blocks.of_exprs (views.exprs_of (map views.view_expr xs)) ≡ flat exprs_one xs
exprs_are [] = refl
exprs_are (x ∷ xs) = ap (λ cs. exprs_one x ++ cs) (exprs_are xs)

abbrev pub pairs_one : Expr × Expr → Codes
pairs_one x = blocks.of_expr (views.view_expr x.0) ++ blocks.of_expr (views.view_expr x.1)

pub pairs_are : (xs : List (Expr × Expr)) → blocks.of_pairs (views.pairs_of (map views.view_pair xs)) ≡ flat pairs_one xs
pairs_are [] = refl
pairs_are (x ∷ xs) = ap (λ cs. blocks.of_expr (views.view_expr x.0) ++ blocks.of_expr (views.view_expr x.1) ++ cs) (pairs_are xs)

abbrev pub tests_one : Test × Expr → Codes
tests_one x = blocks.of_expr (views.view_expr x.1)

pub tests_are : (xs : List (Test × Expr)) → blocks.of_tests (views.tests_of (map views.view_test xs)) ≡ flat tests_one xs
tests_are [] = refl
tests_are (x ∷ xs) = ap (λ cs. tests_one x ++ cs) (tests_are xs)

abbrev pub operands_one : BinOp × Expr → Codes
operands_one x = blocks.of_expr (views.view_expr x.1)

pub operands_are : (xs : List (BinOp × Expr)) → blocks.of_ops (views.ops_of (map views.view_op xs)) ≡ flat operands_one xs
operands_are [] = refl
operands_are (x ∷ xs) = ap (λ cs. operands_one x ++ cs) (operands_are xs)

abbrev pub clauses_one : Clause → Codes
clauses_one x = blocks.of_clause (views.view_clause x)

pub clauses_are : (xs : List (Clause)) → blocks.of_clauses (views.clauses_of (map views.view_clause xs)) ≡ flat clauses_one xs
clauses_are [] = refl
clauses_are (x ∷ xs) = ap (λ cs. clauses_one x ++ cs) (clauses_are xs)

abbrev pub targets_one : Target → Codes
targets_one x = blocks.of_target (views.view_target x)

pub targets_are : (xs : List (Target)) → blocks.of_targets (views.targets_of (map views.view_target xs)) ≡ flat targets_one xs
targets_are [] = refl
targets_are (x ∷ xs) = ap (λ cs. targets_one x ++ cs) (targets_are xs)

abbrev pub defaults_one : Named × Option Expr → Codes
defaults_one x = blocks.of_maybe (views.maybe_of (option_map views.view_expr x.1))

pub defaults_are : (xs : List (Named × Option Expr)) → blocks.of_plain (views.plain_of (map views.view_plain xs)) ≡ flat defaults_one xs
defaults_are [] = refl
defaults_are (x ∷ xs) = ap (λ cs. defaults_one x ++ cs) (defaults_are xs)

abbrev pub trailers_one : Trailer → Codes
trailers_one x = blocks.of_trailer (views.view_trailer x)

pub trailers_are : (xs : List (Trailer)) → blocks.of_trailers (views.trailers_of (map views.view_trailer xs)) ≡ flat trailers_one xs
trailers_are [] = refl
trailers_are (x ∷ xs) = ap (λ cs. trailers_one x ++ cs) (trailers_are xs)

abbrev pub args_one : Arg → Codes
args_one x = blocks.of_arg (views.view_arg x)

pub args_are : (xs : List (Arg)) → blocks.of_args (views.args_of (map views.view_arg xs)) ≡ flat args_one xs
args_are [] = refl
args_are (x ∷ xs) = ap (λ cs. args_one x ++ cs) (args_are xs)

abbrev pub stmts_one : Stmt → Codes
stmts_one x = blocks.of_stmt (stmt_views.view_stmt x)

pub stmts_are : (xs : List (Stmt)) → blocks.of_stmts (stmt_views.view_stmts xs) ≡ flat stmts_one xs
stmts_are [] = refl
stmts_are (x ∷ xs) = ap (λ cs. stmts_one x ++ cs) (stmts_are xs)

abbrev pub branches_one : Branch → Codes
branches_one x = branch_codes (stmt_views.view_branch x)

pub branches_are : (xs : List (Branch)) → blocks.of_branches (stmt_views.branches_of (map stmt_views.view_branch xs)) ≡ flat branches_one xs
branches_are [] = refl
branches_are (x ∷ xs) = ap (λ cs. blocks.of_expr (stmt_views.view_branch x).0 ++ blocks.of_stmts (stmt_views.view_branch x).1 ++ cs) (branches_are xs)

abbrev pub handlers_one : Except → Codes
handlers_one x = blocks.of_except (stmt_views.view_except x)

pub handlers_are : (xs : List (Except)) → blocks.of_excepts (stmt_views.excepts_of (map stmt_views.view_except xs)) ≡ flat handlers_one xs
handlers_are [] = refl
handlers_are (x ∷ xs) = ap (λ cs. handlers_one x ++ cs) (handlers_are xs)

abbrev pub places_one : Place → Codes
places_one x = blocks.of_place (views.view_place x)

pub places_are : (xs : List (Place)) → blocks.of_places (map views.view_place xs) ≡ flat places_one xs
places_are [] = refl
places_are (x ∷ xs) = ap (λ cs. places_one x ++ cs) (places_are xs)

-- a default that is there, and one that is missing
pub default_some : (p : Named × Option Expr) (x : Expr) (ys zs : Table) → p.1 ≡ Some x → Adds (blocks.of_expr (views.view_expr x)) ys zs → Adds (defaults_one p) ys zs
default_some p x ys zs is h = subst (λ (d : Option Expr). Adds (blocks.of_maybe (views.maybe_of (option_map views.view_expr d))) ys zs) (sym is) h

none_is : (d : Option Expr) → ((x : Expr) → d ≡ Some x → ⊥) → d ≡ None
none_is None h = refl
none_is (Some x) h = absurd (h x refl)

pub default_none : (p : Named × Option Expr) (ys : Table) → ((x : Expr) → p.1 ≡ Some x → ⊥) → Adds (defaults_one p) ys ys
default_none p ys none = subst (λ (d : Option Expr). Adds (blocks.of_maybe (views.maybe_of (option_map views.view_expr d))) ys ys) (sym (none_is p.1 none)) (adds_none ys)

-- the statements of a block that may be missing
pub block_codes : (block : Option (Vec Stmt Global)) (xs : List Stmt) → xs ≡ stmt_views.block_items block
    → blocks.of_maybe_stmts (stmt_views.view_maybe_stmts block) ≡ blocks.of_stmts (stmt_views.view_stmts xs)
block_codes None xs is = ap (λ xs. blocks.of_stmts (stmt_views.view_stmts xs)) (sym is)
block_codes (Some v) xs is = ap (λ xs. blocks.of_stmts (stmt_views.view_stmts xs)) (sym is)
