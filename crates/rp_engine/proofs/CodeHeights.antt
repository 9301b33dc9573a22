-- The functions of a tree stand within it, so the expression of a `lambda` is no higher than the tree.
use Rattle.std.proofs.Common.{◌≡◌, ◌≤◌, ℕ, suc, List, [], ◌∷◌, ◌++◌, Option, Some, None, cond, nat_eq, max, Bool, true, false, sym, subst, ap, ◌∙◌, arith}
use Rattle.std.specs.Prelude.{IfSome, option_map}
use Rattle.rp_codes.specs.Codes.{code_view}
use Rattle.rp_codes.specs.declared.code.Code.{Code as TheCode}
use Rattle.rp_grammar.specs.Program.{highest}
use Rattle.rp_meaning.specs.Blocks.{Code, Codes, code_in, def, lambda, of_arg, of_args, of_branches, of_clause, of_clauses, of_except, of_excepts, of_expr, of_exprs, of_form, of_maybe, of_maybe_stmts, of_ops, of_option, of_pairs, of_params, of_place, of_places, of_plain, of_stmt, of_stmt_form, of_stmts, of_target, of_targets, of_tests, of_trailer, of_trailers, of_walk}
use Rattle.rp_engine.specs.Codes.{IsIndexed, code_at}
use Rattle.rp_engine.specs.declared.units.Program.{Program}
use Rattle.rp_tree.specs.Expressions as tree
use Rattle.rp_tree.specs.ExpressionTrees as trees
use Rattle.rp_tree.specs.Heights.{arg_height, args_height, branches_height, clause_height, clauses_height, except_height, excepts_height, expr_height, exprs_height, form_height, maybe_height, maybe_stmts_height, ops_height, option_height, pairs_height, params_height, place_height, places_height, plain_height, stmt_form_height, stmt_height, stmts_height, target_height, targets_height, tests_height, trailer_height, trailers_height, walk_height}
use Rattle.rp_tree.specs.StatementTrees as stmt_trees
use Rattle.rp_tree.specs.Statements as stmt_tree
use Rattle.rp_tree.specs.StatementViews.{view_tree}

-- the expression of a `lambda` is of at most this height
abbrev pub IsLow : ℕ → Code → Type 0
IsLow k (def ps b) = Unit {0}
IsLow k (lambda ps x) = expr_height x ≤ k

abbrev AreLow : ℕ → Codes → Type 0
AreLow k [] = Unit {0}
AreLow k (c ∷ cs) = IsLow k c.1 × AreLow k cs

-- the functions of a part of this height
record Low (n : ℕ) (cs : Codes) : Type 0 where
  within : (k : ℕ) → n ≤ k → AreLow k cs

all_low : (k : ℕ) (cs ds : Codes) → AreLow k cs → AreLow k ds → AreLow k (cs ++ ds)
all_low k [] ds h g = g
all_low k (c ∷ cs) ds h g = (h.0, all_low k cs ds h.1 g)

none_low : {n : ℕ} → Low n []
none_low = record { within = λ k h. tt }

up_low : {n : ℕ} {cs : Codes} → Low n cs → Low (suc n) cs
up_low p = record { within = λ k h. p.within k (omega arith) }

both_low : {a b : ℕ} {cs ds : Codes} → Low a cs → Low b ds → Low (max a b) (cs ++ ds)
both_low {cs = cs} {ds = ds} p q = record { within = λ k h. all_low k cs ds (p.within k (omega arith)) (q.within k (omega arith)) }

three_low : {a b c : ℕ} {cs ds es : Codes} → Low a cs → Low b ds → Low c es → Low (max a (max b c)) (cs ++ ds ++ es)
three_low {cs = cs} {ds = ds} {es = es} p q r = record {
  within = λ k h. all_low k (cs ++ ds) es (all_low k cs ds (p.within k (omega arith)) (q.within k (omega arith))) (r.within k (omega arith));
}

four_low : {a b c d : ℕ} {cs ds es fs : Codes} → Low a cs → Low b ds → Low c es → Low d fs → Low (max a (max b (max c d))) (cs ++ ds ++ es ++ fs)
four_low {cs = cs} {ds = ds} {es = es} {fs = fs} p q r o = record {
  within = λ k h.
      all_low k (cs ++ ds ++ es) fs
      (all_low k (cs ++ ds) es (all_low k cs ds (p.within k (omega arith)) (q.within k (omega arith))) (r.within k (omega arith))) (o.within k (omega arith));
}

def_low : {a : ℕ} {cs : Codes} (n : ℕ) (ps : tree.Params) (b : stmt_tree.Stmts) → Low a cs → Low a ((n, def ps b) ∷ cs)
def_low n ps b p = record { within = λ k h. (tt, p.within k h) }

lambda_low : {a : ℕ} {cs ds : Codes} (n : ℕ) (ps : tree.Params) (x : tree.Expr) → Low a cs → Low (expr_height x) ds → Low (max a (expr_height x)) ((n, lambda ps x) ∷ (cs ++ ds))
lambda_low {cs = cs} {ds = ds} n ps x p q = record { within = λ k h. (omega arith, all_low k cs ds (p.within k (omega arith)) (q.within k (omega arith))) }

mutual
  expr_low : (x : tree.Expr) → Low (expr_height x) (of_expr x)
  expr_low (trees.node line x) = up_low (form_low x)

  form_low : (x : tree.Form) → Low (form_height x) (of_form x)
  form_low (trees.name n) = none_low
  form_low (trees.int z) = none_low
  form_low (trees.text x) = none_low
  form_low (trees.const c) = none_low
  form_low (trees.tuple es) = exprs_low es
  form_low (trees.list es) = exprs_low es
  form_low (trees.dict ps) = pairs_low ps
  form_low (trees.list_of n x cs) = both_low (expr_low x) (clauses_low cs)
  form_low (trees.dict_of n k x cs) = three_low (expr_low k) (expr_low x) (clauses_low cs)
  form_low (trees.lambda n ps x) = lambda_low n ps x (params_low ps) (expr_low x)
  form_low (trees.cond x a b) = three_low (expr_low x) (expr_low a) (expr_low b)
  form_low (trees.or es) = exprs_low es
  form_low (trees.and es) = exprs_low es
  form_low (trees.not x) = expr_low x
  form_low (trees.compare x ts) = both_low (expr_low x) (tests_low ts)
  form_low (trees.chain x os) = both_low (expr_low x) (ops_low os)
  form_low (trees.unary u x) = expr_low x
  form_low (trees.power a b) = both_low (expr_low a) (expr_low b)
  form_low (trees.primary x ts) = both_low (expr_low x) (trailers_low ts)

  exprs_low : (x : tree.Exprs) → Low (exprs_height x) (of_exprs x)
  exprs_low trees.no_exprs = none_low
  exprs_low (trees.expr x xs) = both_low (expr_low x) (exprs_low xs)

  maybe_low : (x : tree.Maybe) → Low (maybe_height x) (of_maybe x)
  maybe_low trees.none = none_low
  maybe_low (trees.some x) = expr_low x

  pairs_low : (x : tree.Pairs) → Low (pairs_height x) (of_pairs x)
  pairs_low trees.no_pairs = none_low
  pairs_low (trees.pair k x ps) = both_low (both_low (expr_low k) (expr_low x)) (pairs_low ps)

  tests_low : (x : tree.Tests) → Low (tests_height x) (of_tests x)
  tests_low trees.no_tests = none_low
  tests_low (trees.test o x ts) = both_low (expr_low x) (tests_low ts)

  ops_low : (x : tree.Ops) → Low (ops_height x) (of_ops x)
  ops_low trees.no_ops = none_low
  ops_low (trees.op o x os) = both_low (expr_low x) (ops_low os)

  clause_low : (x : tree.Clause) → Low (clause_height x) (of_clause x)
  clause_low (trees.a_clause w es) = both_low (walk_low w) (exprs_low es)

  clauses_low : (x : tree.Clauses) → Low (clauses_height x) (of_clauses x)
  clauses_low trees.no_clauses = none_low
  clauses_low (trees.clause c cs) = both_low (clause_low c) (clauses_low cs)

  walk_low : (x : tree.Walk) → Low (walk_height x) (of_walk x)
  walk_low (trees.a_walk p x g) = both_low (target_low p) (expr_low x)

  target_low : (x : tree.Target) → Low (target_height x) (of_target x)
  target_low (trees.to_place p) = place_low p
  target_low (trees.group ps) = up_low (targets_low ps)

  targets_low : (x : tree.Targets) → Low (targets_height x) (of_targets x)
  targets_low trees.no_targets = none_low
  targets_low (trees.target p ps) = both_low (target_low p) (targets_low ps)

  place_low : (x : tree.Place) → Low (place_height x) (of_place x)
  place_low (trees.to_name n) = none_low
  place_low (trees.to_attr x n g) = up_low (expr_low x)
  place_low (trees.to_item x i g) = up_low (both_low (expr_low x) (expr_low i))

  params_low : (x : tree.Params) → Low (params_height x) (of_params x)
  params_low (trees.params ps l d) = plain_low ps

  plain_low : (x : tree.Plain) → Low (plain_height x) (of_plain x)
  plain_low trees.no_plain = none_low
  plain_low (trees.plain n x ps) = both_low (maybe_low x) (plain_low ps)

  trailer_low : (x : tree.Trailer) → Low (trailer_height x) (of_trailer x)
  trailer_low (trees.attr n g) = none_low
  trailer_low (trees.item x g) = expr_low x
  trailer_low (trees.slice a b c g) = three_low (maybe_low a) (maybe_low b) (maybe_low c)
  trailer_low (trees.call as' g) = args_low as'

  trailers_low : (x : tree.Trailers) → Low (trailers_height x) (of_trailers x)
  trailers_low trees.no_trailers = none_low
  trailers_low (trees.trailer x ts) = both_low (trailer_low x) (trailers_low ts)

  arg_low : (x : tree.Arg) → Low (arg_height x) (of_arg x)
  arg_low (trees.value x) = expr_low x
  arg_low (trees.star x) = expr_low x
  arg_low (trees.key n x) = expr_low x
  arg_low (trees.stars x) = expr_low x

  args_low : (x : tree.Args) → Low (args_height x) (of_args x)
  args_low trees.no_args = none_low
  args_low (trees.arg x xs) = both_low (arg_low x) (args_low xs)

places_low : (xs : List tree.Place) → Low (places_height xs) (of_places xs)
places_low [] = none_low
places_low (x ∷ xs) = both_low (place_low x) (places_low xs)

option_low : (x : Option tree.Expr) → Low (option_height x) (of_option x)
option_low None = none_low
option_low (Some x) = expr_low x

mutual
  stmt_low : (x : stmt_tree.Stmt) → Low (stmt_height x) (of_stmt x)
  stmt_low (stmt_trees.a_stmt line x) = up_low (stmt_form_low x)

  stmt_form_low : (x : stmt_tree.StmtForm) → Low (stmt_form_height x) (of_stmt_form x)
  stmt_form_low (stmt_trees.evaluate x) = expr_low x
  stmt_form_low (stmt_trees.assign ps x) = both_low (places_low ps) (expr_low x)
  stmt_form_low (stmt_trees.unpack p x g) = both_low (target_low p) (expr_low x)
  stmt_form_low (stmt_trees.aug p o at x g) = both_low (place_low p) (expr_low x)
  stmt_form_low (stmt_trees.del ps) = places_low ps
  stmt_form_low stmt_trees.pass = none_low
  stmt_form_low stmt_trees.break = none_low
  stmt_form_low stmt_trees.continue = none_low
  stmt_form_low (stmt_trees.give_back x) = option_low x
  stmt_form_low (stmt_trees.raise x) = option_low x
  stmt_form_low (stmt_trees.assert x m) = both_low (expr_low x) (option_low m)
  stmt_form_low (stmt_trees.global ns) = none_low
  stmt_form_low (stmt_trees.choose bs o) = both_low (branches_low bs) (maybe_stmts_low o)
  stmt_form_low (stmt_trees.while x b) = both_low (expr_low x) (stmts_low b)
  stmt_form_low (stmt_trees.for w b) = both_low (walk_low w) (stmts_low b)
  stmt_form_low (stmt_trees.try b hs o l) = four_low (stmts_low b) (excepts_low hs) (maybe_stmts_low o) (maybe_stmts_low l)
  stmt_form_low (stmt_trees.define n x ps b) = def_low n ps b (both_low (params_low ps) (stmts_low b))
  stmt_form_low (stmt_trees.class n b) = stmts_low b

  stmts_low : (x : stmt_tree.Stmts) → Low (stmts_height x) (of_stmts x)
  stmts_low stmt_trees.no_stmts = none_low
  stmts_low (stmt_trees.stmt x xs) = both_low (stmt_low x) (stmts_low xs)

  maybe_stmts_low : (x : stmt_tree.MaybeStmts) → Low (maybe_stmts_height x) (of_maybe_stmts x)
  maybe_stmts_low stmt_trees.none = none_low
  maybe_stmts_low (stmt_trees.some b) = stmts_low b

  branches_low : (x : stmt_tree.Branches) → Low (branches_height x) (of_branches x)
  branches_low stmt_trees.no_branches = none_low
  branches_low (stmt_trees.branch x b bs) = both_low (both_low (expr_low x) (stmts_low b)) (branches_low bs)

  except_low : (x : stmt_tree.Except) → Low (except_height x) (of_except x)
  except_low (stmt_trees.an_except x n b) = both_low (option_low x) (stmts_low b)

  excepts_low : (x : stmt_tree.Excepts) → Low (excepts_height x) (of_excepts x)
  excepts_low stmt_trees.no_excepts = none_low
  excepts_low (stmt_trees.except x xs) = both_low (except_low x) (excepts_low xs)

-- what stands under a number
first_low : (k : ℕ) (b : Bool) (c : Code) (o : Option Code) → IsLow k c → IfSome o (IsLow k) → IfSome (cond b (Some c) o) (IsLow k)
first_low k true c o h g = h
first_low k false c o h g = g

found_low : (k n : ℕ) (cs : Codes) → AreLow k cs → IfSome (code_in cs n) (IsLow k)
found_low k n [] h = tt
found_low k n (c ∷ cs) h = first_low k (nat_eq n c.0) c.1 (code_in cs n) h.0 (found_low k n cs h.1)

-- a function of a program
pub code_low : (p : Program) (n : ℕ) (c : TheCode) → IsIndexed p → code_at p n ≡ Some c → IsLow highest (code_view c)
code_low p n c indexed is =
    subst (λ (o : Option Code). IfSome o (IsLow highest)) (sym (indexed.code n) ∙ ap (option_map code_view) is)
    (found_low highest n (of_stmts (view_tree p.tree.now)) ((stmts_low (view_tree p.tree.now)).within highest indexed.low))
