-- The code blocks of a tree by their numbers, each with the blocks around it (Python Language Reference, Naming and binding, Resolution of names).
use Rattle.std.specs.Prelude.{ℕ, List, [], ◌∷◌, ◌++◌, Option, Some, None}
use Rattle.rp_tree.specs.ExpressionTrees as trees
use Rattle.rp_tree.specs.ExpressionTrees.{Expr, Form, Exprs, Maybe, Pairs, Tests, Ops, Clause, Clauses, Walk, Target, Targets, Place, Params, Plain, Trailer, Trailers, Arg, Args}
use Rattle.rp_tree.specs.StatementTrees as stmt_trees
use Rattle.rp_tree.specs.StatementTrees.{Stmt, StmtForm, Stmts, MaybeStmts, Branches, Except, Excepts}
use Rattle.rp_scope.specs.Bindings.{Block, function_block, lambda_block, comprehension_block}

-- What is told of code blocks. From the number of a block, its names and what is around it: what is around its parts, and what is told of it.
pub record Telling (A X Y : Type 0) : Type 0 where
  pub inside : ℕ → Block A → X → X
  pub told : ℕ → Block A → X → Y

-- What is told of the code blocks in a part of a tree, in the order of their first tokens, where `around` is around the part. The defaults of a `def`
-- or a `lambda` and the first iterable of a comprehension stand in the block around it.
abbrev mutual
  pub expr_blocks : {A X Y : Type 0} → Telling A X Y → X → Expr A → List Y
  expr_blocks tell around (trees.node line x) = form_blocks tell around x

  pub form_blocks : {A X Y : Type 0} → Telling A X Y → X → Form A → List Y
  form_blocks tell around (trees.name n) = []
  form_blocks tell around (trees.int z) = []
  form_blocks tell around (trees.text x) = []
  form_blocks tell around (trees.const c) = []
  form_blocks tell around (trees.tuple es) = exprs_blocks tell around es
  form_blocks tell around (trees.list es) = exprs_blocks tell around es
  form_blocks tell around (trees.dict ps) = pairs_blocks tell around ps
  form_blocks tell around (trees.list_of n x cs) =
      tell.told n (comprehension_block cs) around ∷ (expr_blocks tell (tell.inside n (comprehension_block cs) around) x ++ clauses_blocks tell around (tell.inside n (comprehension_block cs) around) cs)
  form_blocks tell around (trees.dict_of n k x cs) =
      tell.told n (comprehension_block cs) around ∷ (expr_blocks tell (tell.inside n (comprehension_block cs) around) k ++ expr_blocks tell (tell.inside n (comprehension_block cs) around) x ++ clauses_blocks tell around (tell.inside n (comprehension_block cs) around) cs)
  form_blocks tell around (trees.lambda n ps x) =
      tell.told n (lambda_block ps) around ∷ (params_blocks tell around ps ++ expr_blocks tell (tell.inside n (lambda_block ps) around) x)
  form_blocks tell around (trees.cond x a b) = expr_blocks tell around a ++ expr_blocks tell around x ++ expr_blocks tell around b
  form_blocks tell around (trees.or es) = exprs_blocks tell around es
  form_blocks tell around (trees.and es) = exprs_blocks tell around es
  form_blocks tell around (trees.not x) = expr_blocks tell around x
  form_blocks tell around (trees.compare x ts) = expr_blocks tell around x ++ tests_blocks tell around ts
  form_blocks tell around (trees.chain x os) = expr_blocks tell around x ++ ops_blocks tell around os
  form_blocks tell around (trees.unary u x) = expr_blocks tell around x
  form_blocks tell around (trees.power a b) = expr_blocks tell around a ++ expr_blocks tell around b
  form_blocks tell around (trees.primary x ts) = expr_blocks tell around x ++ trailers_blocks tell around ts

  pub exprs_blocks : {A X Y : Type 0} → Telling A X Y → X → Exprs A → List Y
  exprs_blocks tell around trees.no_exprs = []
  exprs_blocks tell around (trees.expr x xs) = expr_blocks tell around x ++ exprs_blocks tell around xs

  pub maybe_blocks : {A X Y : Type 0} → Telling A X Y → X → Maybe A → List Y
  maybe_blocks tell around trees.none = []
  maybe_blocks tell around (trees.some x) = expr_blocks tell around x

  pub pairs_blocks : {A X Y : Type 0} → Telling A X Y → X → Pairs A → List Y
  pairs_blocks tell around trees.no_pairs = []
  pairs_blocks tell around (trees.pair k x ps) = expr_blocks tell around k ++ expr_blocks tell around x ++ pairs_blocks tell around ps

  pub tests_blocks : {A X Y : Type 0} → Telling A X Y → X → Tests A → List Y
  tests_blocks tell around trees.no_tests = []
  tests_blocks tell around (trees.test o x ts) = expr_blocks tell around x ++ tests_blocks tell around ts

  pub ops_blocks : {A X Y : Type 0} → Telling A X Y → X → Ops A → List Y
  ops_blocks tell around trees.no_ops = []
  ops_blocks tell around (trees.op o x os) = expr_blocks tell around x ++ ops_blocks tell around os

  -- the clauses of a comprehension: the first iterable stands in the first blocks, all else in the others
  pub clauses_blocks : {A X Y : Type 0} → Telling A X Y → X → X → Clauses A → List Y
  clauses_blocks tell around inside trees.no_clauses = []
  clauses_blocks tell around inside (trees.clause c cs) = clause_blocks tell around inside c ++ clauses_blocks tell inside inside cs

  pub clause_blocks : {A X Y : Type 0} → Telling A X Y → X → X → Clause A → List Y
  clause_blocks tell around inside (trees.a_clause w es) = walk_blocks tell around inside w ++ exprs_blocks tell inside es

  -- a walk whose iterable stands in the first blocks, and its target in the others
  pub walk_blocks : {A X Y : Type 0} → Telling A X Y → X → X → Walk A → List Y
  walk_blocks tell around inside (trees.a_walk p x g) = target_blocks tell inside p ++ expr_blocks tell around x

  pub target_blocks : {A X Y : Type 0} → Telling A X Y → X → Target A → List Y
  target_blocks tell around (trees.to_place p) = place_blocks tell around p
  target_blocks tell around (trees.group ps) = targets_blocks tell around ps

  pub targets_blocks : {A X Y : Type 0} → Telling A X Y → X → Targets A → List Y
  targets_blocks tell around trees.no_targets = []
  targets_blocks tell around (trees.target p ps) = target_blocks tell around p ++ targets_blocks tell around ps

  pub place_blocks : {A X Y : Type 0} → Telling A X Y → X → Place A → List Y
  place_blocks tell around (trees.to_name n) = []
  place_blocks tell around (trees.to_attr x n g) = expr_blocks tell around x
  place_blocks tell around (trees.to_item x i g) = expr_blocks tell around x ++ expr_blocks tell around i

  pub params_blocks : {A X Y : Type 0} → Telling A X Y → X → Params A → List Y
  params_blocks tell around (trees.params ps l d) = plain_blocks tell around ps

  pub plain_blocks : {A X Y : Type 0} → Telling A X Y → X → Plain A → List Y
  plain_blocks tell around trees.no_plain = []
  plain_blocks tell around (trees.plain n x ps) = maybe_blocks tell around x ++ plain_blocks tell around ps

  pub trailer_blocks : {A X Y : Type 0} → Telling A X Y → X → Trailer A → List Y
  trailer_blocks tell around (trees.attr n g) = []
  trailer_blocks tell around (trees.item x g) = expr_blocks tell around x
  trailer_blocks tell around (trees.slice a b c g) = maybe_blocks tell around a ++ maybe_blocks tell around b ++ maybe_blocks tell around c
  trailer_blocks tell around (trees.call xs g) = args_blocks tell around xs

  pub trailers_blocks : {A X Y : Type 0} → Telling A X Y → X → Trailers A → List Y
  trailers_blocks tell around trees.no_trailers = []
  trailers_blocks tell around (trees.trailer x xs) = trailer_blocks tell around x ++ trailers_blocks tell around xs

  pub arg_blocks : {A X Y : Type 0} → Telling A X Y → X → Arg A → List Y
  arg_blocks tell around (trees.value x) = expr_blocks tell around x
  arg_blocks tell around (trees.star x) = expr_blocks tell around x
  arg_blocks tell around (trees.key n x) = expr_blocks tell around x
  arg_blocks tell around (trees.stars x) = expr_blocks tell around x

  pub args_blocks : {A X Y : Type 0} → Telling A X Y → X → Args A → List Y
  args_blocks tell around trees.no_args = []
  args_blocks tell around (trees.arg x xs) = arg_blocks tell around x ++ args_blocks tell around xs

abbrev pub option_blocks : {A X Y : Type 0} → Telling A X Y → X → Option (Expr A) → List Y
option_blocks tell around None = []
option_blocks tell around (Some x) = expr_blocks tell around x

abbrev pub places_blocks : {A X Y : Type 0} → Telling A X Y → X → List (Place A) → List Y
places_blocks tell around [] = []
places_blocks tell around (p ∷ ps) = place_blocks tell around p ++ places_blocks tell around ps

abbrev mutual
  pub stmt_blocks : {A X Y : Type 0} → Telling A X Y → X → Stmt A → List Y
  stmt_blocks tell around (stmt_trees.a_stmt line x) = stmt_form_blocks tell around x

  pub stmt_form_blocks : {A X Y : Type 0} → Telling A X Y → X → StmtForm A → List Y
  stmt_form_blocks tell around (stmt_trees.evaluate x) = expr_blocks tell around x
  stmt_form_blocks tell around (stmt_trees.assign ps x) = places_blocks tell around ps ++ expr_blocks tell around x
  stmt_form_blocks tell around (stmt_trees.unpack p x g) = target_blocks tell around p ++ expr_blocks tell around x
  stmt_form_blocks tell around (stmt_trees.aug p o at x g) = place_blocks tell around p ++ expr_blocks tell around x
  stmt_form_blocks tell around (stmt_trees.del ps) = places_blocks tell around ps
  stmt_form_blocks tell around stmt_trees.pass = []
  stmt_form_blocks tell around stmt_trees.break = []
  stmt_form_blocks tell around stmt_trees.continue = []
  stmt_form_blocks tell around (stmt_trees.give_back x) = option_blocks tell around x
  stmt_form_blocks tell around (stmt_trees.raise x) = option_blocks tell around x
  stmt_form_blocks tell around (stmt_trees.assert x m) = expr_blocks tell around x ++ option_blocks tell around m
  stmt_form_blocks tell around (stmt_trees.global ns) = []
  stmt_form_blocks tell around (stmt_trees.choose bs o) = branches_blocks tell around bs ++ maybe_stmts_blocks tell around o
  stmt_form_blocks tell around (stmt_trees.while x b) = expr_blocks tell around x ++ stmts_blocks tell around b
  stmt_form_blocks tell around (stmt_trees.for w b) = walk_blocks tell around around w ++ stmts_blocks tell around b
  stmt_form_blocks tell around (stmt_trees.try b hs o l) = stmts_blocks tell around b ++ excepts_blocks tell around hs ++ maybe_stmts_blocks tell around o ++ maybe_stmts_blocks tell around l
  stmt_form_blocks tell around (stmt_trees.define n name ps b) =
      tell.told n (function_block ps b) around ∷ (params_blocks tell around ps ++ stmts_blocks tell (tell.inside n (function_block ps b) around) b)
  stmt_form_blocks tell around (stmt_trees.class name b) = stmts_blocks tell around b

  pub stmts_blocks : {A X Y : Type 0} → Telling A X Y → X → Stmts A → List Y
  stmts_blocks tell around stmt_trees.no_stmts = []
  stmts_blocks tell around (stmt_trees.stmt x xs) = stmt_blocks tell around x ++ stmts_blocks tell around xs

  pub maybe_stmts_blocks : {A X Y : Type 0} → Telling A X Y → X → MaybeStmts A → List Y
  maybe_stmts_blocks tell around stmt_trees.none = []
  maybe_stmts_blocks tell around (stmt_trees.some b) = stmts_blocks tell around b

  pub branches_blocks : {A X Y : Type 0} → Telling A X Y → X → Branches A → List Y
  branches_blocks tell around stmt_trees.no_branches = []
  branches_blocks tell around (stmt_trees.branch x b bs) = expr_blocks tell around x ++ stmts_blocks tell around b ++ branches_blocks tell around bs

  pub except_blocks : {A X Y : Type 0} → Telling A X Y → X → Except A → List Y
  except_blocks tell around (stmt_trees.an_except x n b) = option_blocks tell around x ++ stmts_blocks tell around b

  pub excepts_blocks : {A X Y : Type 0} → Telling A X Y → X → Excepts A → List Y
  excepts_blocks tell around stmt_trees.no_excepts = []
  excepts_blocks tell around (stmt_trees.except x xs) = except_blocks tell around x ++ excepts_blocks tell around xs

-- a code block and those around it, from the inside out; the program, which is around all, is left out
abbrev pub Nest : Type 0 → Type 0
Nest A = List (Block A)

-- of each block its number and its nest
abbrev pub telling_nests : {A : Type 0} → Telling A (Nest A) (ℕ × Nest A)
telling_nests = record { inside = λ n block around. block ∷ around; told = λ n block around. (n, block ∷ around) }

-- all code blocks of a tree but the program
abbrev pub blocks : {A : Type 0} → Stmts A → List (ℕ × Nest A)
blocks x = stmts_blocks telling_nests [] x
