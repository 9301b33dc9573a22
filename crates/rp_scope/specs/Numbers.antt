-- The numbers of the code blocks of a tree (Python Language Reference, Structure of a program). The program, a `def`, a `lambda` and a comprehension
-- are code blocks; a class is none. The program is block 0, and the others have the numbers 1, 2, 3 and so on in the order of their first tokens.
use Rattle.std.specs.Prelude.{◌≡◌, ℕ, List, [], ◌∷◌, ◌++◌, Option, Some, None, length}
use Rattle.std.specs.List.{range_with_len}
use Rattle.rp_tree.specs.ExpressionTrees as trees
use Rattle.rp_tree.specs.ExpressionTrees.{Expr, Form, Exprs, Maybe, Pairs, Tests, Ops, Clause, Clauses, Walk, Target, Targets, Place, Params, Plain, Trailer, Trailers, Arg, Args}
use Rattle.rp_tree.specs.StatementTrees as stmt_trees
use Rattle.rp_tree.specs.StatementTrees.{Stmt, StmtForm, Stmts, MaybeStmts, Branches, Except, Excepts}
use Rattle.rp_tree.specs.Maps.{without_blocks}

-- the numbers that stand at the code blocks of a part of a tree, in the order of the blocks' first tokens

abbrev mutual
  pub expr_numbers : {A : Type 0} → Expr A → List ℕ
  expr_numbers (trees.node line x) = form_numbers x

  pub form_numbers : {A : Type 0} → Form A → List ℕ
  form_numbers (trees.name n) = []
  form_numbers (trees.int z) = []
  form_numbers (trees.text x) = []
  form_numbers (trees.const c) = []
  form_numbers (trees.tuple es) = exprs_numbers es
  form_numbers (trees.list es) = exprs_numbers es
  form_numbers (trees.dict ps) = pairs_numbers ps
  form_numbers (trees.list_of n x cs) = n ∷ (expr_numbers x ++ clauses_numbers cs)
  form_numbers (trees.dict_of n k x cs) = n ∷ (expr_numbers k ++ expr_numbers x ++ clauses_numbers cs)
  form_numbers (trees.lambda n ps x) = n ∷ (params_numbers ps ++ expr_numbers x)
  -- the value where the test is true stands before the test
  form_numbers (trees.cond x a b) = expr_numbers a ++ expr_numbers x ++ expr_numbers b
  form_numbers (trees.or es) = exprs_numbers es
  form_numbers (trees.and es) = exprs_numbers es
  form_numbers (trees.not x) = expr_numbers x
  form_numbers (trees.compare x ts) = expr_numbers x ++ tests_numbers ts
  form_numbers (trees.chain x os) = expr_numbers x ++ ops_numbers os
  form_numbers (trees.unary u x) = expr_numbers x
  form_numbers (trees.power a b) = expr_numbers a ++ expr_numbers b
  form_numbers (trees.primary x ts) = expr_numbers x ++ trailers_numbers ts

  pub exprs_numbers : {A : Type 0} → Exprs A → List ℕ
  exprs_numbers trees.no_exprs = []
  exprs_numbers (trees.expr x xs) = expr_numbers x ++ exprs_numbers xs

  pub maybe_numbers : {A : Type 0} → Maybe A → List ℕ
  maybe_numbers trees.none = []
  maybe_numbers (trees.some x) = expr_numbers x

  pub pairs_numbers : {A : Type 0} → Pairs A → List ℕ
  pairs_numbers trees.no_pairs = []
  pairs_numbers (trees.pair k x ps) = expr_numbers k ++ expr_numbers x ++ pairs_numbers ps

  pub tests_numbers : {A : Type 0} → Tests A → List ℕ
  tests_numbers trees.no_tests = []
  tests_numbers (trees.test o x ts) = expr_numbers x ++ tests_numbers ts

  pub ops_numbers : {A : Type 0} → Ops A → List ℕ
  ops_numbers trees.no_ops = []
  ops_numbers (trees.op o x os) = expr_numbers x ++ ops_numbers os

  pub clause_numbers : {A : Type 0} → Clause A → List ℕ
  clause_numbers (trees.a_clause w es) = walk_numbers w ++ exprs_numbers es

  pub clauses_numbers : {A : Type 0} → Clauses A → List ℕ
  clauses_numbers trees.no_clauses = []
  clauses_numbers (trees.clause c cs) = clause_numbers c ++ clauses_numbers cs

  pub walk_numbers : {A : Type 0} → Walk A → List ℕ
  walk_numbers (trees.a_walk p x g) = target_numbers p ++ expr_numbers x

  pub target_numbers : {A : Type 0} → Target A → List ℕ
  target_numbers (trees.to_place p) = place_numbers p
  target_numbers (trees.group ps) = targets_numbers ps

  pub targets_numbers : {A : Type 0} → Targets A → List ℕ
  targets_numbers trees.no_targets = []
  targets_numbers (trees.target p ps) = target_numbers p ++ targets_numbers ps

  pub place_numbers : {A : Type 0} → Place A → List ℕ
  place_numbers (trees.to_name n) = []
  place_numbers (trees.to_attr x n g) = expr_numbers x
  place_numbers (trees.to_item x i g) = expr_numbers x ++ expr_numbers i

  pub params_numbers : {A : Type 0} → Params A → List ℕ
  params_numbers (trees.params ps l d) = plain_numbers ps

  pub plain_numbers : {A : Type 0} → Plain A → List ℕ
  plain_numbers trees.no_plain = []
  plain_numbers (trees.plain n x ps) = maybe_numbers x ++ plain_numbers ps

  pub trailer_numbers : {A : Type 0} → Trailer A → List ℕ
  trailer_numbers (trees.attr n g) = []
  trailer_numbers (trees.item x g) = expr_numbers x
  trailer_numbers (trees.slice a b c g) = maybe_numbers a ++ maybe_numbers b ++ maybe_numbers c
  trailer_numbers (trees.call xs g) = args_numbers xs

  pub trailers_numbers : {A : Type 0} → Trailers A → List ℕ
  trailers_numbers trees.no_trailers = []
  trailers_numbers (trees.trailer x xs) = trailer_numbers x ++ trailers_numbers xs

  pub arg_numbers : {A : Type 0} → Arg A → List ℕ
  arg_numbers (trees.value x) = expr_numbers x
  arg_numbers (trees.star x) = expr_numbers x
  arg_numbers (trees.key n x) = expr_numbers x
  arg_numbers (trees.stars x) = expr_numbers x

  pub args_numbers : {A : Type 0} → Args A → List ℕ
  args_numbers trees.no_args = []
  args_numbers (trees.arg x xs) = arg_numbers x ++ args_numbers xs

abbrev pub option_numbers : {A : Type 0} → Option (Expr A) → List ℕ
option_numbers None = []
option_numbers (Some x) = expr_numbers x

abbrev pub places_numbers : {A : Type 0} → List (Place A) → List ℕ
places_numbers [] = []
places_numbers (p ∷ ps) = place_numbers p ++ places_numbers ps

abbrev mutual
  pub stmt_numbers : {A : Type 0} → Stmt A → List ℕ
  stmt_numbers (stmt_trees.a_stmt line x) = stmt_form_numbers x

  pub stmt_form_numbers : {A : Type 0} → StmtForm A → List ℕ
  stmt_form_numbers (stmt_trees.evaluate x) = expr_numbers x
  stmt_form_numbers (stmt_trees.assign ps x) = places_numbers ps ++ expr_numbers x
  stmt_form_numbers (stmt_trees.unpack p x g) = target_numbers p ++ expr_numbers x
  stmt_form_numbers (stmt_trees.aug p o at x g) = place_numbers p ++ expr_numbers x
  stmt_form_numbers (stmt_trees.del ps) = places_numbers ps
  stmt_form_numbers stmt_trees.pass = []
  stmt_form_numbers stmt_trees.break = []
  stmt_form_numbers stmt_trees.continue = []
  stmt_form_numbers (stmt_trees.give_back x) = option_numbers x
  stmt_form_numbers (stmt_trees.raise x) = option_numbers x
  stmt_form_numbers (stmt_trees.assert x m) = expr_numbers x ++ option_numbers m
  stmt_form_numbers (stmt_trees.global ns) = []
  stmt_form_numbers (stmt_trees.choose bs o) = branches_numbers bs ++ maybe_stmts_numbers o
  stmt_form_numbers (stmt_trees.while x b) = expr_numbers x ++ block_numbers b
  stmt_form_numbers (stmt_trees.for w b) = walk_numbers w ++ block_numbers b
  stmt_form_numbers (stmt_trees.try b hs o l) = block_numbers b ++ excepts_numbers hs ++ maybe_stmts_numbers o ++ maybe_stmts_numbers l
  stmt_form_numbers (stmt_trees.define n name ps b) = n ∷ (params_numbers ps ++ block_numbers b)
  stmt_form_numbers (stmt_trees.class name b) = block_numbers b

  -- of a whole tree
  pub block_numbers : {A : Type 0} → Stmts A → List ℕ
  block_numbers stmt_trees.no_stmts = []
  block_numbers (stmt_trees.stmt x xs) = stmt_numbers x ++ block_numbers xs

  pub maybe_stmts_numbers : {A : Type 0} → MaybeStmts A → List ℕ
  maybe_stmts_numbers stmt_trees.none = []
  maybe_stmts_numbers (stmt_trees.some b) = block_numbers b

  pub branches_numbers : {A : Type 0} → Branches A → List ℕ
  branches_numbers stmt_trees.no_branches = []
  branches_numbers (stmt_trees.branch x b bs) = expr_numbers x ++ block_numbers b ++ branches_numbers bs

  pub except_numbers : {A : Type 0} → Except A → List ℕ
  except_numbers (stmt_trees.an_except x n b) = option_numbers x ++ block_numbers b

  pub excepts_numbers : {A : Type 0} → Excepts A → List ℕ
  excepts_numbers stmt_trees.no_excepts = []
  excepts_numbers (stmt_trees.except x xs) = except_numbers x ++ excepts_numbers xs

-- how many code blocks a tree has beside the program
abbrev pub block_count : {A : Type 0} → Stmts A → ℕ
block_count x = length (block_numbers x)

-- the numbers at the code blocks of the tree are 1, 2, 3 and so on
abbrev pub HasNumbers : {A : Type 0} → Stmts A → Type 0
HasNumbers x = block_numbers x ≡ range_with_len 1 (block_count x)

-- the second tree is the first one but for the numbers of code blocks, and these are 1, 2, 3 and so on
pub record IsNumbered {A : Type 0} (source result : Stmts A) : Type 0 where
  pub is_source : without_blocks result ≡ without_blocks source
  pub has_numbers : HasNumbers result
