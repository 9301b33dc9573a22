-- Heights of trees. The nodes are the statements, the expressions, the places and the groups of targets. A node without parts
-- has height 1, another 1 more than the greatest height of its parts. All else is no node: its parts belong to the node around it.
use Rattle.std.specs.Prelude.{ℕ, suc, List, [], ◌∷◌, Option, Some, None, max, min, ◌^◌, ◌-◌}
use Rattle.rp_tree.specs.ExpressionTrees as trees
use Rattle.rp_tree.specs.ExpressionTrees.{Expr, Form, Exprs, Maybe, Pairs, Tests, Ops, Clause, Clauses, Walk, Target, Targets, Place, Params, Plain, Trailer, Trailers, Arg, Args}
use Rattle.rp_tree.specs.StatementTrees as stmt_trees
use Rattle.rp_tree.specs.StatementTrees.{Stmt, StmtForm, Stmts, MaybeStmts, Branches, Except, Excepts}

-- at what is a node, its height; at what is none, the greatest height of the nodes in it, 0 where there is none
abbrev mutual
  pub expr_height : {A : Type 0} → Expr A → ℕ
  expr_height (trees.node line f) = suc (form_height f)

  pub form_height : {A : Type 0} → Form A → ℕ
  form_height (trees.name n) = 0
  form_height (trees.int n) = 0
  form_height (trees.text s) = 0
  form_height (trees.const c) = 0
  form_height (trees.tuple es) = exprs_height es
  form_height (trees.list es) = exprs_height es
  form_height (trees.dict ps) = pairs_height ps
  form_height (trees.list_of b e cs) = max (expr_height e) (clauses_height cs)
  form_height (trees.dict_of b k e cs) = max (expr_height k) (max (expr_height e) (clauses_height cs))
  form_height (trees.lambda b p e) = max (params_height p) (expr_height e)
  form_height (trees.cond a b c) = max (expr_height a) (max (expr_height b) (expr_height c))
  form_height (trees.or es) = exprs_height es
  form_height (trees.and es) = exprs_height es
  form_height (trees.not e) = expr_height e
  form_height (trees.compare e os) = max (expr_height e) (tests_height os)
  form_height (trees.chain e os) = max (expr_height e) (ops_height os)
  form_height (trees.unary u e) = expr_height e
  form_height (trees.power a b) = max (expr_height a) (expr_height b)
  form_height (trees.primary e xs) = max (expr_height e) (trailers_height xs)

  pub exprs_height : {A : Type 0} → Exprs A → ℕ
  exprs_height trees.no_exprs = 0
  exprs_height (trees.expr e es) = max (expr_height e) (exprs_height es)

  pub maybe_height : {A : Type 0} → Maybe A → ℕ
  maybe_height trees.none = 0
  maybe_height (trees.some e) = expr_height e

  pub pairs_height : {A : Type 0} → Pairs A → ℕ
  pairs_height trees.no_pairs = 0
  pairs_height (trees.pair k e ps) = max (max (expr_height k) (expr_height e)) (pairs_height ps)

  pub tests_height : {A : Type 0} → Tests A → ℕ
  tests_height trees.no_tests = 0
  tests_height (trees.test o e os) = max (expr_height e) (tests_height os)

  pub ops_height : {A : Type 0} → Ops A → ℕ
  ops_height trees.no_ops = 0
  ops_height (trees.op o e os) = max (expr_height e) (ops_height os)

  pub clause_height : {A : Type 0} → Clause A → ℕ
  clause_height (trees.a_clause w es) = max (walk_height w) (exprs_height es)

  pub clauses_height : {A : Type 0} → Clauses A → ℕ
  clauses_height trees.no_clauses = 0
  clauses_height (trees.clause c cs) = max (clause_height c) (clauses_height cs)

  pub walk_height : {A : Type 0} → Walk A → ℕ
  walk_height (trees.a_walk p e g) = max (target_height p) (expr_height e)

  pub target_height : {A : Type 0} → Target A → ℕ
  target_height (trees.to_place p) = place_height p
  target_height (trees.group ps) = suc (targets_height ps)

  pub targets_height : {A : Type 0} → Targets A → ℕ
  targets_height trees.no_targets = 0
  targets_height (trees.target p ps) = max (target_height p) (targets_height ps)

  pub place_height : {A : Type 0} → Place A → ℕ
  place_height (trees.to_name n) = 1
  place_height (trees.to_attr e n g) = suc (expr_height e)
  place_height (trees.to_item e i g) = suc (max (expr_height e) (expr_height i))

  pub params_height : {A : Type 0} → Params A → ℕ
  params_height (trees.params ps l d) = plain_height ps

  pub plain_height : {A : Type 0} → Plain A → ℕ
  plain_height trees.no_plain = 0
  plain_height (trees.plain n e ps) = max (maybe_height e) (plain_height ps)

  pub trailer_height : {A : Type 0} → Trailer A → ℕ
  trailer_height (trees.attr n g) = 0
  trailer_height (trees.item e g) = expr_height e
  trailer_height (trees.slice a b c g) = max (maybe_height a) (max (maybe_height b) (maybe_height c))
  trailer_height (trees.call xs g) = args_height xs

  pub trailers_height : {A : Type 0} → Trailers A → ℕ
  trailers_height trees.no_trailers = 0
  trailers_height (trees.trailer x xs) = max (trailer_height x) (trailers_height xs)

  pub arg_height : {A : Type 0} → Arg A → ℕ
  arg_height (trees.value e) = expr_height e
  arg_height (trees.star e) = expr_height e
  arg_height (trees.key n e) = expr_height e
  arg_height (trees.stars e) = expr_height e

  pub args_height : {A : Type 0} → Args A → ℕ
  args_height trees.no_args = 0
  args_height (trees.arg x xs) = max (arg_height x) (args_height xs)

abbrev pub option_height : {A : Type 0} → Option (Expr A) → ℕ
option_height None = 0
option_height (Some e) = expr_height e

abbrev pub places_height : {A : Type 0} → List (Place A) → ℕ
places_height [] = 0
places_height (p ∷ ps) = max (place_height p) (places_height ps)

abbrev mutual
  pub stmt_height : {A : Type 0} → Stmt A → ℕ
  stmt_height (stmt_trees.a_stmt line x) = suc (stmt_form_height x)

  pub stmt_form_height : {A : Type 0} → StmtForm A → ℕ
  stmt_form_height (stmt_trees.evaluate e) = expr_height e
  stmt_form_height (stmt_trees.assign ps e) = max (places_height ps) (expr_height e)
  stmt_form_height (stmt_trees.unpack p e g) = max (target_height p) (expr_height e)
  stmt_form_height (stmt_trees.aug p o at e g) = max (place_height p) (expr_height e)
  stmt_form_height (stmt_trees.del ps) = places_height ps
  stmt_form_height stmt_trees.pass = 0
  stmt_form_height stmt_trees.break = 0
  stmt_form_height stmt_trees.continue = 0
  stmt_form_height (stmt_trees.give_back e) = option_height e
  stmt_form_height (stmt_trees.raise e) = option_height e
  stmt_form_height (stmt_trees.assert e m) = max (expr_height e) (option_height m)
  stmt_form_height (stmt_trees.global ns) = 0
  stmt_form_height (stmt_trees.choose bs o) = max (branches_height bs) (maybe_stmts_height o)
  stmt_form_height (stmt_trees.while e b) = max (expr_height e) (stmts_height b)
  stmt_form_height (stmt_trees.for w b) = max (walk_height w) (stmts_height b)
  stmt_form_height (stmt_trees.try b hs o l) = max (stmts_height b) (max (excepts_height hs) (max (maybe_stmts_height o) (maybe_stmts_height l)))
  stmt_form_height (stmt_trees.define k n ps b) = max (params_height ps) (stmts_height b)
  stmt_form_height (stmt_trees.class n b) = stmts_height b

  -- of a whole tree
  pub stmts_height : {A : Type 0} → Stmts A → ℕ
  stmts_height stmt_trees.no_stmts = 0
  stmts_height (stmt_trees.stmt x xs) = max (stmt_height x) (stmts_height xs)

  pub maybe_stmts_height : {A : Type 0} → MaybeStmts A → ℕ
  maybe_stmts_height stmt_trees.none = 0
  maybe_stmts_height (stmt_trees.some b) = stmts_height b

  pub branches_height : {A : Type 0} → Branches A → ℕ
  branches_height stmt_trees.no_branches = 0
  branches_height (stmt_trees.branch e b bs) = max (max (expr_height e) (stmts_height b)) (branches_height bs)

  pub except_height : {A : Type 0} → Except A → ℕ
  except_height (stmt_trees.an_except k n b) = max (option_height k) (stmts_height b)

  pub excepts_height : {A : Type 0} → Excepts A → ℕ
  excepts_height stmt_trees.no_excepts = 0
  excepts_height (stmt_trees.except x xs) = max (except_height x) (excepts_height xs)

-- a height as 32 bits tell it: the greatest number that they have where it is above that
unfoldable pub capped : ℕ → ℕ
capped n = min n (2 ^ 32 - 1)
