-- The numbers of what is told of code blocks are those that stand in the tree.
use Rattle.std.proofs.Common.{◌≡◌, ℕ, List, [], ◌∷◌, map, Option, Some, None, refl}
use Rattle.rp_tree.specs.ExpressionTrees as trees
use Rattle.rp_tree.specs.ExpressionTrees.{Expr, Form, Exprs, Maybe, Pairs, Tests, Ops, Clause, Clauses, Walk, Target, Targets, Place, Params, Plain, Trailer, Trailers, Arg, Args}
use Rattle.rp_tree.specs.StatementTrees as stmt_trees
use Rattle.rp_tree.specs.StatementTrees.{Stmt, StmtForm, Stmts, MaybeStmts, Branches, Except, Excepts}
use Rattle.rp_scope.specs.Bindings.{Block, function_block, lambda_block, comprehension_block}
use Rattle.rp_scope.specs.Blocks as code_blocks
use Rattle.rp_scope.specs.Blocks.{Telling}
use Rattle.rp_scope.specs.Numbers as numbering
use Rattle.rp_scope.proofs.Tellings.{joined, begun}

-- the number of what is told of a block is the block's
pub record Numbers {A X Y : Type 0} (w : Telling A X Y) (g : Y → ℕ) : Type 0 where
  pub told : (k : ℕ) (block : Block A) (x : X) → g (w.told k block x) ≡ k

mutual
  pub expr_blocks : {A X Y : Type 0} (w : Telling A X Y) (g : Y → ℕ) → Numbers w g → (x : X) (e : Expr A) → map g (code_blocks.expr_blocks w x e) ≡ numbering.expr_numbers e
  expr_blocks one to agrees here (trees.node line x) = form_blocks one to agrees here x

  pub form_blocks : {A X Y : Type 0} (w : Telling A X Y) (g : Y → ℕ) → Numbers w g → (x : X) (e : Form A) → map g (code_blocks.form_blocks w x e) ≡ numbering.form_numbers e
  form_blocks one to agrees here (trees.name n) = refl
  form_blocks one to agrees here (trees.int z) = refl
  form_blocks one to agrees here (trees.text x) = refl
  form_blocks one to agrees here (trees.const c) = refl
  form_blocks one to agrees here (trees.tuple es) = exprs_blocks one to agrees here es
  form_blocks one to agrees here (trees.list es) = exprs_blocks one to agrees here es
  form_blocks one to agrees here (trees.dict ps) = pairs_blocks one to agrees here ps
  form_blocks one to agrees here (trees.list_of n x cs) = begun to _ _ (agrees.told n (comprehension_block cs) here) (joined to _ _ (expr_blocks one to agrees (one.inside n (comprehension_block cs) here) x) (clauses_blocks one to agrees here (one.inside n (comprehension_block cs) here) cs))
  form_blocks one to agrees here (trees.dict_of n k x cs) = begun to _ _ (agrees.told n (comprehension_block cs) here) (joined to _ _ (joined to _ _ (expr_blocks one to agrees (one.inside n (comprehension_block cs) here) k) (expr_blocks one to agrees (one.inside n (comprehension_block cs) here) x)) (clauses_blocks one to agrees here (one.inside n (comprehension_block cs) here) cs))
  form_blocks one to agrees here (trees.lambda n ps x) = begun to _ _ (agrees.told n (lambda_block ps) here) (joined to _ _ (params_blocks one to agrees here ps) (expr_blocks one to agrees (one.inside n (lambda_block ps) here) x))
  form_blocks one to agrees here (trees.cond x a b) = joined to _ _ (joined to _ _ (expr_blocks one to agrees here a) (expr_blocks one to agrees here x)) (expr_blocks one to agrees here b)
  form_blocks one to agrees here (trees.or es) = exprs_blocks one to agrees here es
  form_blocks one to agrees here (trees.and es) = exprs_blocks one to agrees here es
  form_blocks one to agrees here (trees.not x) = expr_blocks one to agrees here x
  form_blocks one to agrees here (trees.compare x ts) = joined to _ _ (expr_blocks one to agrees here x) (tests_blocks one to agrees here ts)
  form_blocks one to agrees here (trees.chain x os) = joined to _ _ (expr_blocks one to agrees here x) (ops_blocks one to agrees here os)
  form_blocks one to agrees here (trees.unary u x) = expr_blocks one to agrees here x
  form_blocks one to agrees here (trees.power a b) = joined to _ _ (expr_blocks one to agrees here a) (expr_blocks one to agrees here b)
  form_blocks one to agrees here (trees.primary x ts) = joined to _ _ (expr_blocks one to agrees here x) (trailers_blocks one to agrees here ts)

  pub exprs_blocks : {A X Y : Type 0} (w : Telling A X Y) (g : Y → ℕ) → Numbers w g → (x : X) (e : Exprs A) → map g (code_blocks.exprs_blocks w x e) ≡ numbering.exprs_numbers e
  exprs_blocks one to agrees here trees.no_exprs = refl
  exprs_blocks one to agrees here (trees.expr x xs) = joined to _ _ (expr_blocks one to agrees here x) (exprs_blocks one to agrees here xs)

  pub maybe_blocks : {A X Y : Type 0} (w : Telling A X Y) (g : Y → ℕ) → Numbers w g → (x : X) (e : Maybe A) → map g (code_blocks.maybe_blocks w x e) ≡ numbering.maybe_numbers e
  maybe_blocks one to agrees here trees.none = refl
  maybe_blocks one to agrees here (trees.some x) = expr_blocks one to agrees here x

  pub pairs_blocks : {A X Y : Type 0} (w : Telling A X Y) (g : Y → ℕ) → Numbers w g → (x : X) (e : Pairs A) → map g (code_blocks.pairs_blocks w x e) ≡ numbering.pairs_numbers e
  pairs_blocks one to agrees here trees.no_pairs = refl
  pairs_blocks one to agrees here (trees.pair k x ps) = joined to _ _ (joined to _ _ (expr_blocks one to agrees here k) (expr_blocks one to agrees here x)) (pairs_blocks one to agrees here ps)

  pub tests_blocks : {A X Y : Type 0} (w : Telling A X Y) (g : Y → ℕ) → Numbers w g → (x : X) (e : Tests A) → map g (code_blocks.tests_blocks w x e) ≡ numbering.tests_numbers e
  tests_blocks one to agrees here trees.no_tests = refl
  tests_blocks one to agrees here (trees.test o x ts) = joined to _ _ (expr_blocks one to agrees here x) (tests_blocks one to agrees here ts)

  pub ops_blocks : {A X Y : Type 0} (w : Telling A X Y) (g : Y → ℕ) → Numbers w g → (x : X) (e : Ops A) → map g (code_blocks.ops_blocks w x e) ≡ numbering.ops_numbers e
  ops_blocks one to agrees here trees.no_ops = refl
  ops_blocks one to agrees here (trees.op o x os) = joined to _ _ (expr_blocks one to agrees here x) (ops_blocks one to agrees here os)

  pub clauses_blocks : {A X Y : Type 0} (w : Telling A X Y) (g : Y → ℕ) → Numbers w g → (x y : X) (e : Clauses A) → map g (code_blocks.clauses_blocks w x y e) ≡ numbering.clauses_numbers e
  clauses_blocks one to agrees here inner trees.no_clauses = refl
  clauses_blocks one to agrees here inner (trees.clause c cs) = joined to _ _ (clause_blocks one to agrees here inner c) (clauses_blocks one to agrees inner inner cs)

  pub clause_blocks : {A X Y : Type 0} (w : Telling A X Y) (g : Y → ℕ) → Numbers w g → (x y : X) (e : Clause A) → map g (code_blocks.clause_blocks w x y e) ≡ numbering.clause_numbers e
  clause_blocks one to agrees here inner (trees.a_clause w es) = joined to _ _ (walk_blocks one to agrees here inner w) (exprs_blocks one to agrees inner es)

  pub walk_blocks : {A X Y : Type 0} (w : Telling A X Y) (g : Y → ℕ) → Numbers w g → (x y : X) (e : Walk A) → map g (code_blocks.walk_blocks w x y e) ≡ numbering.walk_numbers e
  walk_blocks one to agrees here inner (trees.a_walk p x g) = joined to _ _ (target_blocks one to agrees inner p) (expr_blocks one to agrees here x)

  pub target_blocks : {A X Y : Type 0} (w : Telling A X Y) (g : Y → ℕ) → Numbers w g → (x : X) (e : Target A) → map g (code_blocks.target_blocks w x e) ≡ numbering.target_numbers e
  target_blocks one to agrees here (trees.to_place p) = place_blocks one to agrees here p
  target_blocks one to agrees here (trees.group ps) = targets_blocks one to agrees here ps

  pub targets_blocks : {A X Y : Type 0} (w : Telling A X Y) (g : Y → ℕ) → Numbers w g → (x : X) (e : Targets A) → map g (code_blocks.targets_blocks w x e) ≡ numbering.targets_numbers e
  targets_blocks one to agrees here trees.no_targets = refl
  targets_blocks one to agrees here (trees.target p ps) = joined to _ _ (target_blocks one to agrees here p) (targets_blocks one to agrees here ps)

  pub place_blocks : {A X Y : Type 0} (w : Telling A X Y) (g : Y → ℕ) → Numbers w g → (x : X) (e : Place A) → map g (code_blocks.place_blocks w x e) ≡ numbering.place_numbers e
  place_blocks one to agrees here (trees.to_name n) = refl
  place_blocks one to agrees here (trees.to_attr x n g) = expr_blocks one to agrees here x
  place_blocks one to agrees here (trees.to_item x i g) = joined to _ _ (expr_blocks one to agrees here x) (expr_blocks one to agrees here i)

  pub params_blocks : {A X Y : Type 0} (w : Telling A X Y) (g : Y → ℕ) → Numbers w g → (x : X) (e : Params A) → map g (code_blocks.params_blocks w x e) ≡ numbering.params_numbers e
  params_blocks one to agrees here (trees.params ps l d) = plain_blocks one to agrees here ps

  pub plain_blocks : {A X Y : Type 0} (w : Telling A X Y) (g : Y → ℕ) → Numbers w g → (x : X) (e : Plain A) → map g (code_blocks.plain_blocks w x e) ≡ numbering.plain_numbers e
  plain_blocks one to agrees here trees.no_plain = refl
  plain_blocks one to agrees here (trees.plain n x ps) = joined to _ _ (maybe_blocks one to agrees here x) (plain_blocks one to agrees here ps)

  pub trailer_blocks : {A X Y : Type 0} (w : Telling A X Y) (g : Y → ℕ) → Numbers w g → (x : X) (e : Trailer A) → map g (code_blocks.trailer_blocks w x e) ≡ numbering.trailer_numbers e
  trailer_blocks one to agrees here (trees.attr n g) = refl
  trailer_blocks one to agrees here (trees.item x g) = expr_blocks one to agrees here x
  trailer_blocks one to agrees here (trees.slice a b c g) = joined to _ _ (joined to _ _ (maybe_blocks one to agrees here a) (maybe_blocks one to agrees here b)) (maybe_blocks one to agrees here c)
  trailer_blocks one to agrees here (trees.call xs g) = args_blocks one to agrees here xs

  pub trailers_blocks : {A X Y : Type 0} (w : Telling A X Y) (g : Y → ℕ) → Numbers w g → (x : X) (e : Trailers A) → map g (code_blocks.trailers_blocks w x e) ≡ numbering.trailers_numbers e
  trailers_blocks one to agrees here trees.no_trailers = refl
  trailers_blocks one to agrees here (trees.trailer x xs) = joined to _ _ (trailer_blocks one to agrees here x) (trailers_blocks one to agrees here xs)

  pub arg_blocks : {A X Y : Type 0} (w : Telling A X Y) (g : Y → ℕ) → Numbers w g → (x : X) (e : Arg A) → map g (code_blocks.arg_blocks w x e) ≡ numbering.arg_numbers e
  arg_blocks one to agrees here (trees.value x) = expr_blocks one to agrees here x
  arg_blocks one to agrees here (trees.star x) = expr_blocks one to agrees here x
  arg_blocks one to agrees here (trees.key n x) = expr_blocks one to agrees here x
  arg_blocks one to agrees here (trees.stars x) = expr_blocks one to agrees here x

  pub args_blocks : {A X Y : Type 0} (w : Telling A X Y) (g : Y → ℕ) → Numbers w g → (x : X) (e : Args A) → map g (code_blocks.args_blocks w x e) ≡ numbering.args_numbers e
  args_blocks one to agrees here trees.no_args = refl
  args_blocks one to agrees here (trees.arg x xs) = joined to _ _ (arg_blocks one to agrees here x) (args_blocks one to agrees here xs)

pub option_blocks : {A X Y : Type 0} (w : Telling A X Y) (g : Y → ℕ) → Numbers w g → (x : X) (e : Option (Expr A)) → map g (code_blocks.option_blocks w x e) ≡ numbering.option_numbers e
option_blocks one to agrees here None = refl
option_blocks one to agrees here (Some x) = expr_blocks one to agrees here x

pub places_blocks : {A X Y : Type 0} (w : Telling A X Y) (g : Y → ℕ) → Numbers w g → (x : X) (e : List (Place A)) → map g (code_blocks.places_blocks w x e) ≡ numbering.places_numbers e
places_blocks one to agrees here [] = refl
places_blocks one to agrees here (p ∷ ps) = joined to _ _ (place_blocks one to agrees here p) (places_blocks one to agrees here ps)

mutual
  pub stmt_blocks : {A X Y : Type 0} (w : Telling A X Y) (g : Y → ℕ) → Numbers w g → (x : X) (e : Stmt A) → map g (code_blocks.stmt_blocks w x e) ≡ numbering.stmt_numbers e
  stmt_blocks one to agrees here (stmt_trees.a_stmt line x) = stmt_form_blocks one to agrees here x

  pub stmt_form_blocks : {A X Y : Type 0} (w : Telling A X Y) (g : Y → ℕ) → Numbers w g → (x : X) (e : StmtForm A) → map g (code_blocks.stmt_form_blocks w x e) ≡ numbering.stmt_form_numbers e
  stmt_form_blocks one to agrees here (stmt_trees.evaluate x) = expr_blocks one to agrees here x
  stmt_form_blocks one to agrees here (stmt_trees.assign ps x) = joined to _ _ (places_blocks one to agrees here ps) (expr_blocks one to agrees here x)
  stmt_form_blocks one to agrees here (stmt_trees.unpack p x g) = joined to _ _ (target_blocks one to agrees here p) (expr_blocks one to agrees here x)
  stmt_form_blocks one to agrees here (stmt_trees.aug p o at x g) = joined to _ _ (place_blocks one to agrees here p) (expr_blocks one to agrees here x)
  stmt_form_blocks one to agrees here (stmt_trees.del ps) = places_blocks one to agrees here ps
  stmt_form_blocks one to agrees here stmt_trees.pass = refl
  stmt_form_blocks one to agrees here stmt_trees.break = refl
  stmt_form_blocks one to agrees here stmt_trees.continue = refl
  stmt_form_blocks one to agrees here (stmt_trees.give_back x) = option_blocks one to agrees here x
  stmt_form_blocks one to agrees here (stmt_trees.raise x) = option_blocks one to agrees here x
  stmt_form_blocks one to agrees here (stmt_trees.assert x m) = joined to _ _ (expr_blocks one to agrees here x) (option_blocks one to agrees here m)
  stmt_form_blocks one to agrees here (stmt_trees.global ns) = refl
  stmt_form_blocks one to agrees here (stmt_trees.choose bs o) = joined to _ _ (branches_blocks one to agrees here bs) (maybe_stmts_blocks one to agrees here o)
  stmt_form_blocks one to agrees here (stmt_trees.while x b) = joined to _ _ (expr_blocks one to agrees here x) (stmts_blocks one to agrees here b)
  stmt_form_blocks one to agrees here (stmt_trees.for w b) = joined to _ _ (walk_blocks one to agrees here here w) (stmts_blocks one to agrees here b)
  stmt_form_blocks one to agrees here (stmt_trees.try b hs o l) = joined to _ _ (joined to _ _ (joined to _ _ (stmts_blocks one to agrees here b) (excepts_blocks one to agrees here hs)) (maybe_stmts_blocks one to agrees here o)) (maybe_stmts_blocks one to agrees here l)
  stmt_form_blocks one to agrees here (stmt_trees.define n name ps b) = begun to _ _ (agrees.told n (function_block ps b) here) (joined to _ _ (params_blocks one to agrees here ps) (stmts_blocks one to agrees (one.inside n (function_block ps b) here) b))
  stmt_form_blocks one to agrees here (stmt_trees.class name b) = stmts_blocks one to agrees here b

  pub stmts_blocks : {A X Y : Type 0} (w : Telling A X Y) (g : Y → ℕ) → Numbers w g → (x : X) (e : Stmts A) → map g (code_blocks.stmts_blocks w x e) ≡ numbering.block_numbers e
  stmts_blocks one to agrees here stmt_trees.no_stmts = refl
  stmts_blocks one to agrees here (stmt_trees.stmt x xs) = joined to _ _ (stmt_blocks one to agrees here x) (stmts_blocks one to agrees here xs)

  pub maybe_stmts_blocks : {A X Y : Type 0} (w : Telling A X Y) (g : Y → ℕ) → Numbers w g → (x : X) (e : MaybeStmts A) → map g (code_blocks.maybe_stmts_blocks w x e) ≡ numbering.maybe_stmts_numbers e
  maybe_stmts_blocks one to agrees here stmt_trees.none = refl
  maybe_stmts_blocks one to agrees here (stmt_trees.some b) = stmts_blocks one to agrees here b

  pub branches_blocks : {A X Y : Type 0} (w : Telling A X Y) (g : Y → ℕ) → Numbers w g → (x : X) (e : Branches A) → map g (code_blocks.branches_blocks w x e) ≡ numbering.branches_numbers e
  branches_blocks one to agrees here stmt_trees.no_branches = refl
  branches_blocks one to agrees here (stmt_trees.branch x b bs) = joined to _ _ (joined to _ _ (expr_blocks one to agrees here x) (stmts_blocks one to agrees here b)) (branches_blocks one to agrees here bs)

  pub except_blocks : {A X Y : Type 0} (w : Telling A X Y) (g : Y → ℕ) → Numbers w g → (x : X) (e : Except A) → map g (code_blocks.except_blocks w x e) ≡ numbering.except_numbers e
  except_blocks one to agrees here (stmt_trees.an_except x n b) = joined to _ _ (option_blocks one to agrees here x) (stmts_blocks one to agrees here b)

  pub excepts_blocks : {A X Y : Type 0} (w : Telling A X Y) (g : Y → ℕ) → Numbers w g → (x : X) (e : Excepts A) → map g (code_blocks.excepts_blocks w x e) ≡ numbering.excepts_numbers e
  excepts_blocks one to agrees here stmt_trees.no_excepts = refl
  excepts_blocks one to agrees here (stmt_trees.except x xs) = joined to _ _ (except_blocks one to agrees here x) (excepts_blocks one to agrees here xs)
