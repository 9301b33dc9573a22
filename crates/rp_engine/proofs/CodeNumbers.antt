-- The functions of a tree stand under the numbers of its code blocks, so a table of as many places as there are code blocks has them all.
use Rattle.std.proofs.Common.{◌≡◌, ◌⊎◌, false, inl, inr, ◌<◌, ◌≤◌, ◌+◌, ℕ, zero, suc, List, [], ◌∷◌, ◌++◌, length, cond, nat_eq, Option, Some, None, refl, sym, ap, ◌∙◌, subst, arith}
use Rattle.std.specs.Prelude.{option_map}
use Rattle.std.specs.List.{range_with_len}
use Rattle.std.specs.Map.{lookup}
use Rattle.std.proofs.lemmas.Bool.{cases_lt, ne_eqb}
use Rattle.std.proofs.lemmas.List.{get_or_past}
use Rattle.rp_codes.specs.CodeSteps.{shown}
use Rattle.rp_codes.specs.Codes.{code_view}
use Rattle.rp_meaning.specs.Blocks.{Code, Codes, code_in, of_arg, of_args, of_branches, of_clause, of_clauses, of_except, of_excepts, of_expr, of_exprs, of_form, of_maybe, of_maybe_stmts, of_ops, of_option, of_pairs, of_params, of_place, of_places, of_plain, of_stmt, of_stmt_form, of_stmts, of_target, of_targets, of_tests, of_trailer, of_trailers, of_walk}
use Rattle.rp_scope.specs.Numbers as numbers
use Rattle.rp_scope.specs.Numbers.{HasNumbers, block_count}
use Rattle.rp_engine.specs.Codes.{IsIndexed}
use Rattle.rp_engine.specs.declared.units.Program.{Program}
use Rattle.rp_grammar.specs.Program.{highest}
use Rattle.rp_tree.specs.Heights.{stmts_height}
use Rattle.rp_tree.specs.Expressions as tree
use Rattle.rp_tree.specs.ExpressionTrees as trees
use Rattle.rp_tree.specs.StatementTrees as stmt_trees
use Rattle.rp_tree.specs.Statements as stmt_tree
use Rattle.rp_tree.specs.StatementViews.{view_tree}

-- numbers, and those of functions, below a bound

abbrev Below : ℕ → List ℕ → Type 0
Below k [] = Unit {0}
Below k (n ∷ ns) = (n < k) × Below k ns

abbrev AreBelow : ℕ → Codes → Type 0
AreBelow k [] = Unit {0}
AreBelow k (c ∷ cs) = (c.0 < k) × AreBelow k cs

-- the functions are below each bound that the numbers are below
record Under (ns : List ℕ) (cs : Codes) : Type 0 where
  within : (k : ℕ) → Below k ns → AreBelow k cs

first_below : (k : ℕ) (ns ms : List ℕ) → Below k (ns ++ ms) → Below k ns
first_below k [] ms h = tt
first_below k (n ∷ ns) ms h = (h.0, first_below k ns ms h.1)

then_below : (k : ℕ) (ns ms : List ℕ) → Below k (ns ++ ms) → Below k ms
then_below k [] ms h = h
then_below k (n ∷ ns) ms h = then_below k ns ms h.1

all_below : (k : ℕ) (cs ds : Codes) → AreBelow k cs → AreBelow k ds → AreBelow k (cs ++ ds)
all_below k [] ds h g = g
all_below k (c ∷ cs) ds h g = (h.0, all_below k cs ds h.1 g)

none_under : Under [] []
none_under = record { within = λ k h. tt }

both_under : {ns ms : List ℕ} {cs ds : Codes} → Under ns cs → Under ms ds → Under (ns ++ ms) (cs ++ ds)
both_under {ns = ns} {ms = ms} {cs = cs} {ds = ds} p q =
    record { within = λ k h. all_below k cs ds (p.within k (first_below k ns ms h)) (q.within k (then_below k ns ms h)) }

one_under : {n : ℕ} {ns : List ℕ} {c : Code} {cs : Codes} → Under ns cs → Under (n ∷ ns) ((n, c) ∷ cs)
one_under p = record { within = λ k h. (h.0, p.within k h.1) }

-- a comprehension has a number, and is called by nothing
skip_under : {n : ℕ} {ns : List ℕ} {cs : Codes} → Under ns cs → Under (n ∷ ns) cs
skip_under p = record { within = λ k h. p.within k h.1 }

-- the value where the test is true stands before the test
cond_under : {ns ms ls : List ℕ} {cs ds es : Codes} → Under ns cs → Under ms ds → Under ls es → Under (ms ++ ns ++ ls) (cs ++ ds ++ es)
cond_under {ns = ns} {ms = ms} {ls = ls} {cs = cs} {ds = ds} {es = es} p q r = record {
  within = λ k h.
      let two = first_below k (ms ++ ns) ls h in
      all_below k (cs ++ ds) es (all_below k cs ds (p.within k (then_below k ms ns two)) (q.within k (first_below k ms ns two))) (r.within k (then_below k (ms ++ ns) ls h));
}

mutual
  expr_under : (x : tree.Expr) → Under (numbers.expr_numbers x) (of_expr x)
  expr_under (trees.node line x) = form_under x

  form_under : (x : tree.Form) → Under (numbers.form_numbers x) (of_form x)
  form_under (trees.name n) = none_under
  form_under (trees.int z) = none_under
  form_under (trees.text x) = none_under
  form_under (trees.const c) = none_under
  form_under (trees.tuple es) = exprs_under es
  form_under (trees.list es) = exprs_under es
  form_under (trees.dict ps) = pairs_under ps
  form_under (trees.list_of n x cs) = skip_under (both_under (expr_under x) (clauses_under cs))
  form_under (trees.dict_of n k x cs) = skip_under (both_under (both_under (expr_under k) (expr_under x)) (clauses_under cs))
  form_under (trees.lambda n ps x) = one_under (both_under (params_under ps) (expr_under x))
  form_under (trees.cond x a b) = cond_under (expr_under x) (expr_under a) (expr_under b)
  form_under (trees.or es) = exprs_under es
  form_under (trees.and es) = exprs_under es
  form_under (trees.not x) = expr_under x
  form_under (trees.compare x ts) = both_under (expr_under x) (tests_under ts)
  form_under (trees.chain x os) = both_under (expr_under x) (ops_under os)
  form_under (trees.unary u x) = expr_under x
  form_under (trees.power a b) = both_under (expr_under a) (expr_under b)
  form_under (trees.primary x ts) = both_under (expr_under x) (trailers_under ts)

  exprs_under : (x : tree.Exprs) → Under (numbers.exprs_numbers x) (of_exprs x)
  exprs_under trees.no_exprs = none_under
  exprs_under (trees.expr x xs) = both_under (expr_under x) (exprs_under xs)

  maybe_under : (x : tree.Maybe) → Under (numbers.maybe_numbers x) (of_maybe x)
  maybe_under trees.none = none_under
  maybe_under (trees.some x) = expr_under x

  pairs_under : (x : tree.Pairs) → Under (numbers.pairs_numbers x) (of_pairs x)
  pairs_under trees.no_pairs = none_under
  pairs_under (trees.pair k x ps) = both_under (both_under (expr_under k) (expr_under x)) (pairs_under ps)

  tests_under : (x : tree.Tests) → Under (numbers.tests_numbers x) (of_tests x)
  tests_under trees.no_tests = none_under
  tests_under (trees.test o x ts) = both_under (expr_under x) (tests_under ts)

  ops_under : (x : tree.Ops) → Under (numbers.ops_numbers x) (of_ops x)
  ops_under trees.no_ops = none_under
  ops_under (trees.op o x os) = both_under (expr_under x) (ops_under os)

  clause_under : (x : tree.Clause) → Under (numbers.clause_numbers x) (of_clause x)
  clause_under (trees.a_clause w es) = both_under (walk_under w) (exprs_under es)

  clauses_under : (x : tree.Clauses) → Under (numbers.clauses_numbers x) (of_clauses x)
  clauses_under trees.no_clauses = none_under
  clauses_under (trees.clause c cs) = both_under (clause_under c) (clauses_under cs)

  walk_under : (x : tree.Walk) → Under (numbers.walk_numbers x) (of_walk x)
  walk_under (trees.a_walk p x g) = both_under (target_under p) (expr_under x)

  target_under : (x : tree.Target) → Under (numbers.target_numbers x) (of_target x)
  target_under (trees.to_place p) = place_under p
  target_under (trees.group ps) = targets_under ps

  targets_under : (x : tree.Targets) → Under (numbers.targets_numbers x) (of_targets x)
  targets_under trees.no_targets = none_under
  targets_under (trees.target p ps) = both_under (target_under p) (targets_under ps)

  place_under : (x : tree.Place) → Under (numbers.place_numbers x) (of_place x)
  place_under (trees.to_name n) = none_under
  place_under (trees.to_attr x n g) = expr_under x
  place_under (trees.to_item x i g) = both_under (expr_under x) (expr_under i)

  params_under : (x : tree.Params) → Under (numbers.params_numbers x) (of_params x)
  params_under (trees.params ps l d) = plain_under ps

  plain_under : (x : tree.Plain) → Under (numbers.plain_numbers x) (of_plain x)
  plain_under trees.no_plain = none_under
  plain_under (trees.plain n x ps) = both_under (maybe_under x) (plain_under ps)

  trailer_under : (x : tree.Trailer) → Under (numbers.trailer_numbers x) (of_trailer x)
  trailer_under (trees.attr n g) = none_under
  trailer_under (trees.item x g) = expr_under x
  trailer_under (trees.slice a b c g) = both_under (both_under (maybe_under a) (maybe_under b)) (maybe_under c)
  trailer_under (trees.call as' g) = args_under as'

  trailers_under : (x : tree.Trailers) → Under (numbers.trailers_numbers x) (of_trailers x)
  trailers_under trees.no_trailers = none_under
  trailers_under (trees.trailer x ts) = both_under (trailer_under x) (trailers_under ts)

  arg_under : (x : tree.Arg) → Under (numbers.arg_numbers x) (of_arg x)
  arg_under (trees.value x) = expr_under x
  arg_under (trees.star x) = expr_under x
  arg_under (trees.key n x) = expr_under x
  arg_under (trees.stars x) = expr_under x

  args_under : (x : tree.Args) → Under (numbers.args_numbers x) (of_args x)
  args_under trees.no_args = none_under
  args_under (trees.arg x xs) = both_under (arg_under x) (args_under xs)

places_under : (xs : List tree.Place) → Under (numbers.places_numbers xs) (of_places xs)
places_under [] = none_under
places_under (x ∷ xs) = both_under (place_under x) (places_under xs)

option_under : (x : Option tree.Expr) → Under (numbers.option_numbers x) (of_option x)
option_under None = none_under
option_under (Some x) = expr_under x

mutual
  stmt_under : (x : stmt_tree.Stmt) → Under (numbers.stmt_numbers x) (of_stmt x)
  stmt_under (stmt_trees.a_stmt line x) = stmt_form_under x

  stmt_form_under : (x : stmt_tree.StmtForm) → Under (numbers.stmt_form_numbers x) (of_stmt_form x)
  stmt_form_under (stmt_trees.evaluate x) = expr_under x
  stmt_form_under (stmt_trees.assign ps x) = both_under (places_under ps) (expr_under x)
  stmt_form_under (stmt_trees.unpack p x g) = both_under (target_under p) (expr_under x)
  stmt_form_under (stmt_trees.aug p o at x g) = both_under (place_under p) (expr_under x)
  stmt_form_under (stmt_trees.del ps) = places_under ps
  stmt_form_under stmt_trees.pass = none_under
  stmt_form_under stmt_trees.break = none_under
  stmt_form_under stmt_trees.continue = none_under
  stmt_form_under (stmt_trees.give_back x) = option_under x
  stmt_form_under (stmt_trees.raise x) = option_under x
  stmt_form_under (stmt_trees.assert x m) = both_under (expr_under x) (option_under m)
  stmt_form_under (stmt_trees.global ns) = none_under
  stmt_form_under (stmt_trees.choose bs o) = both_under (branches_under bs) (maybe_stmts_under o)
  stmt_form_under (stmt_trees.while x b) = both_under (expr_under x) (stmts_under b)
  stmt_form_under (stmt_trees.for w b) = both_under (walk_under w) (stmts_under b)
  stmt_form_under (stmt_trees.try b hs o l) = both_under (both_under (both_under (stmts_under b) (excepts_under hs)) (maybe_stmts_under o)) (maybe_stmts_under l)
  stmt_form_under (stmt_trees.define n x ps b) = one_under (both_under (params_under ps) (stmts_under b))
  stmt_form_under (stmt_trees.class n b) = stmts_under b

  stmts_under : (x : stmt_tree.Stmts) → Under (numbers.block_numbers x) (of_stmts x)
  stmts_under stmt_trees.no_stmts = none_under
  stmts_under (stmt_trees.stmt x xs) = both_under (stmt_under x) (stmts_under xs)

  maybe_stmts_under : (x : stmt_tree.MaybeStmts) → Under (numbers.maybe_stmts_numbers x) (of_maybe_stmts x)
  maybe_stmts_under stmt_trees.none = none_under
  maybe_stmts_under (stmt_trees.some b) = stmts_under b

  branches_under : (x : stmt_tree.Branches) → Under (numbers.branches_numbers x) (of_branches x)
  branches_under stmt_trees.no_branches = none_under
  branches_under (stmt_trees.branch x b bs) = both_under (both_under (expr_under x) (stmts_under b)) (branches_under bs)

  except_under : (x : stmt_tree.Except) → Under (numbers.except_numbers x) (of_except x)
  except_under (stmt_trees.an_except x n b) = both_under (option_under x) (stmts_under b)

  excepts_under : (x : stmt_tree.Excepts) → Under (numbers.excepts_numbers x) (of_excepts x)
  excepts_under stmt_trees.no_excepts = none_under
  excepts_under (stmt_trees.except x xs) = both_under (except_under x) (excepts_under xs)

range_below : (a n k : ℕ) → a + n ≤ k → Below k (range_with_len a n)
range_below a zero k h = tt
range_below a (suc n) k h = (omega arith, range_below (a + 1) n k (omega arith))

none_beyond : (k n : ℕ) (cs : Codes) → AreBelow k cs → k ≤ n → code_in cs n ≡ None
none_beyond k n [] h past = refl
none_beyond k n (c ∷ cs) h past =
    let other : nat_eq n c.0 ≡ false = ne_eqb n c.0 (λ same. omega (arith, h.0, past, same)) in
    ap (λ b. cond b (Some c.1) (lookup (nat_eq n) cs)) other ∙ none_beyond k n cs h.1 past

-- no function has a number beyond those of the code blocks
code_beyond : (x : stmt_tree.Stmts) (n : ℕ) → HasNumbers x → suc (block_count x) ≤ n → code_in (of_stmts x) n ≡ None
code_beyond x n has past =
    none_beyond (suc (block_count x)) n (of_stmts x)
    ((stmts_under x).within (suc (block_count x)) (subst (Below (suc (block_count x))) (sym has) (range_below 1 (block_count x) (suc (block_count x)) (omega arith)))) past

-- the table of a program's functions
pub program_indexed : (p : Program) → HasNumbers (view_tree p.tree.now) → length p.layouts ≡ suc (block_count (view_tree p.tree.now)) → length p.codes ≡ length p.layouts
    → ((n : ℕ) → n < length p.layouts → shown p.codes n ≡ code_in (of_stmts (view_tree p.tree.now)) n) → stmts_height (view_tree p.tree.now) ≤ highest → IsIndexed p
program_indexed p has blocks size codes low = record { code = λ n. by n (cases_lt n (length p.layouts)); blocks = size; low = low } where
  by : (n : ℕ) → (n < length p.layouts) ⊎ (length p.layouts ≤ n) → shown p.codes n ≡ code_in (of_stmts (view_tree p.tree.now)) n
  by n (inl within) = codes n within
  by n (inr past) =
      ap (option_map code_view) (get_or_past p.codes n None (omega (arith, size, past)))
      ∙ sym (code_beyond (view_tree p.tree.now) n has (omega (arith, blocks, past)))
