-- What is told of code blocks in one way and in another that agrees with it.
use Rattle.std.proofs.Common.{◌≡◌, ℕ, List, [], ◌∷◌, ◌++◌, map, Option, Some, None, refl, ap, ◌∙◌}
use Rattle.std.proofs.lemmas.List.{map-append}
use Rattle.rp_tree.specs.ExpressionTrees as trees
use Rattle.rp_tree.specs.ExpressionTrees.{Expr, Form, Exprs, Maybe, Pairs, Tests, Ops, Clause, Clauses, Walk, Target, Targets, Place, Params, Plain, Trailer, Trailers, Arg, Args}
use Rattle.rp_tree.specs.StatementTrees as stmt_trees
use Rattle.rp_tree.specs.StatementTrees.{Stmt, StmtForm, Stmts, MaybeStmts, Branches, Except, Excepts}
use Rattle.rp_scope.specs.Bindings.{Block, function_block, lambda_block, comprehension_block}
use Rattle.rp_scope.specs.Blocks as code_blocks
use Rattle.rp_scope.specs.Blocks.{Telling}

-- what stands around and what is told in the one way are that of the other way
pub record Agrees {A X X2 Y Y2 : Type 0} (w : Telling A X Y) (v : Telling A X2 Y2) (f : X → X2) (g : Y → Y2) : Type 0 where
  pub inside : (k : ℕ) (block : Block A) (x : X) → f (w.inside k block x) ≡ v.inside k block (f x)
  pub told : (k : ℕ) (block : Block A) (x : X) → g (w.told k block x) ≡ v.told k block (f x)

pub joined : {Y Z : Type 0} (g : Y → Z) (xs ys : List Y) {us vs : List Z} → map g xs ≡ us → map g ys ≡ vs → map g (xs ++ ys) ≡ us ++ vs
joined g xs ys {us = us} p q = map-append g xs ys ∙ (ap (λ zs. zs ++ map g ys) p ∙ ap (λ zs. us ++ zs) q)

pub begun : {Y Z : Type 0} (g : Y → Z) (x : Y) (xs : List Y) {u : Z} {us : List Z} → g x ≡ u → map g xs ≡ us → map g (x ∷ xs) ≡ u ∷ us
begun g x xs {u = u} p q = ap (λ z. z ∷ map g xs) p ∙ ap (λ zs. u ∷ zs) q

mutual
  pub expr_blocks : {A X X2 Y Y2 : Type 0} (w : Telling A X Y) (v : Telling A X2 Y2) (f : X → X2) (g : Y → Y2) → Agrees w v f g → (x : X) (x2 : X2) → f x ≡ x2 → (e : Expr A) → map g (code_blocks.expr_blocks w x e) ≡ code_blocks.expr_blocks v x2 e
  expr_blocks one other on to agrees here here2 same (trees.node line x) = form_blocks one other on to agrees here here2 same x

  pub form_blocks : {A X X2 Y Y2 : Type 0} (w : Telling A X Y) (v : Telling A X2 Y2) (f : X → X2) (g : Y → Y2) → Agrees w v f g → (x : X) (x2 : X2) → f x ≡ x2 → (e : Form A) → map g (code_blocks.form_blocks w x e) ≡ code_blocks.form_blocks v x2 e
  form_blocks one other on to agrees here here2 same (trees.name n) = refl
  form_blocks one other on to agrees here here2 same (trees.int z) = refl
  form_blocks one other on to agrees here here2 same (trees.text x) = refl
  form_blocks one other on to agrees here here2 same (trees.const c) = refl
  form_blocks one other on to agrees here here2 same (trees.tuple es) = exprs_blocks one other on to agrees here here2 same es
  form_blocks one other on to agrees here here2 same (trees.list es) = exprs_blocks one other on to agrees here here2 same es
  form_blocks one other on to agrees here here2 same (trees.dict ps) = pairs_blocks one other on to agrees here here2 same ps
  form_blocks one other on to agrees here here2 same (trees.list_of n x cs) = begun to _ _ (agrees.told n (comprehension_block cs) here ∙ ap (other.told n (comprehension_block cs)) same) (joined to _ _ (expr_blocks one other on to agrees (one.inside n (comprehension_block cs) here) (other.inside n (comprehension_block cs) here2) (agrees.inside n (comprehension_block cs) here ∙ ap (other.inside n (comprehension_block cs)) same) x) (clauses_blocks one other on to agrees here (one.inside n (comprehension_block cs) here) here2 (other.inside n (comprehension_block cs) here2) same (agrees.inside n (comprehension_block cs) here ∙ ap (other.inside n (comprehension_block cs)) same) cs))
  form_blocks one other on to agrees here here2 same (trees.dict_of n k x cs) = begun to _ _ (agrees.told n (comprehension_block cs) here ∙ ap (other.told n (comprehension_block cs)) same) (joined to _ _ (joined to _ _ (expr_blocks one other on to agrees (one.inside n (comprehension_block cs) here) (other.inside n (comprehension_block cs) here2) (agrees.inside n (comprehension_block cs) here ∙ ap (other.inside n (comprehension_block cs)) same) k) (expr_blocks one other on to agrees (one.inside n (comprehension_block cs) here) (other.inside n (comprehension_block cs) here2) (agrees.inside n (comprehension_block cs) here ∙ ap (other.inside n (comprehension_block cs)) same) x)) (clauses_blocks one other on to agrees here (one.inside n (comprehension_block cs) here) here2 (other.inside n (comprehension_block cs) here2) same (agrees.inside n (comprehension_block cs) here ∙ ap (other.inside n (comprehension_block cs)) same) cs))
  form_blocks one other on to agrees here here2 same (trees.lambda n ps x) = begun to _ _ (agrees.told n (lambda_block ps) here ∙ ap (other.told n (lambda_block ps)) same) (joined to _ _ (params_blocks one other on to agrees here here2 same ps) (expr_blocks one other on to agrees (one.inside n (lambda_block ps) here) (other.inside n (lambda_block ps) here2) (agrees.inside n (lambda_block ps) here ∙ ap (other.inside n (lambda_block ps)) same) x))
  form_blocks one other on to agrees here here2 same (trees.cond x a b) = joined to _ _ (joined to _ _ (expr_blocks one other on to agrees here here2 same a) (expr_blocks one other on to agrees here here2 same x)) (expr_blocks one other on to agrees here here2 same b)
  form_blocks one other on to agrees here here2 same (trees.or es) = exprs_blocks one other on to agrees here here2 same es
  form_blocks one other on to agrees here here2 same (trees.and es) = exprs_blocks one other on to agrees here here2 same es
  form_blocks one other on to agrees here here2 same (trees.not x) = expr_blocks one other on to agrees here here2 same x
  form_blocks one other on to agrees here here2 same (trees.compare x ts) = joined to _ _ (expr_blocks one other on to agrees here here2 same x) (tests_blocks one other on to agrees here here2 same ts)
  form_blocks one other on to agrees here here2 same (trees.chain x os) = joined to _ _ (expr_blocks one other on to agrees here here2 same x) (ops_blocks one other on to agrees here here2 same os)
  form_blocks one other on to agrees here here2 same (trees.unary u x) = expr_blocks one other on to agrees here here2 same x
  form_blocks one other on to agrees here here2 same (trees.power a b) = joined to _ _ (expr_blocks one other on to agrees here here2 same a) (expr_blocks one other on to agrees here here2 same b)
  form_blocks one other on to agrees here here2 same (trees.primary x ts) = joined to _ _ (expr_blocks one other on to agrees here here2 same x) (trailers_blocks one other on to agrees here here2 same ts)

  pub exprs_blocks : {A X X2 Y Y2 : Type 0} (w : Telling A X Y) (v : Telling A X2 Y2) (f : X → X2) (g : Y → Y2) → Agrees w v f g → (x : X) (x2 : X2) → f x ≡ x2 → (e : Exprs A) → map g (code_blocks.exprs_blocks w x e) ≡ code_blocks.exprs_blocks v x2 e
  exprs_blocks one other on to agrees here here2 same trees.no_exprs = refl
  exprs_blocks one other on to agrees here here2 same (trees.expr x xs) = joined to _ _ (expr_blocks one other on to agrees here here2 same x) (exprs_blocks one other on to agrees here here2 same xs)

  pub maybe_blocks : {A X X2 Y Y2 : Type 0} (w : Telling A X Y) (v : Telling A X2 Y2) (f : X → X2) (g : Y → Y2) → Agrees w v f g → (x : X) (x2 : X2) → f x ≡ x2 → (e : Maybe A) → map g (code_blocks.maybe_blocks w x e) ≡ code_blocks.maybe_blocks v x2 e
  maybe_blocks one other on to agrees here here2 same trees.none = refl
  maybe_blocks one other on to agrees here here2 same (trees.some x) = expr_blocks one other on to agrees here here2 same x

  pub pairs_blocks : {A X X2 Y Y2 : Type 0} (w : Telling A X Y) (v : Telling A X2 Y2) (f : X → X2) (g : Y → Y2) → Agrees w v f g → (x : X) (x2 : X2) → f x ≡ x2 → (e : Pairs A) → map g (code_blocks.pairs_blocks w x e) ≡ code_blocks.pairs_blocks v x2 e
  pairs_blocks one other on to agrees here here2 same trees.no_pairs = refl
  pairs_blocks one other on to agrees here here2 same (trees.pair k x ps) = joined to _ _ (joined to _ _ (expr_blocks one other on to agrees here here2 same k) (expr_blocks one other on to agrees here here2 same x)) (pairs_blocks one other on to agrees here here2 same ps)

  pub tests_blocks : {A X X2 Y Y2 : Type 0} (w : Telling A X Y) (v : Telling A X2 Y2) (f : X → X2) (g : Y → Y2) → Agrees w v f g → (x : X) (x2 : X2) → f x ≡ x2 → (e : Tests A) → map g (code_blocks.tests_blocks w x e) ≡ code_blocks.tests_blocks v x2 e
  tests_blocks one other on to agrees here here2 same trees.no_tests = refl
  tests_blocks one other on to agrees here here2 same (trees.test o x ts) = joined to _ _ (expr_blocks one other on to agrees here here2 same x) (tests_blocks one other on to agrees here here2 same ts)

  pub ops_blocks : {A X X2 Y Y2 : Type 0} (w : Telling A X Y) (v : Telling A X2 Y2) (f : X → X2) (g : Y → Y2) → Agrees w v f g → (x : X) (x2 : X2) → f x ≡ x2 → (e : Ops A) → map g (code_blocks.ops_blocks w x e) ≡ code_blocks.ops_blocks v x2 e
  ops_blocks one other on to agrees here here2 same trees.no_ops = refl
  ops_blocks one other on to agrees here here2 same (trees.op o x os) = joined to _ _ (expr_blocks one other on to agrees here here2 same x) (ops_blocks one other on to agrees here here2 same os)

  pub clauses_blocks : {A X X2 Y Y2 : Type 0} (w : Telling A X Y) (v : Telling A X2 Y2) (f : X → X2) (g : Y → Y2) → Agrees w v f g → (x y : X) (x2 y2 : X2) → f x ≡ x2 → f y ≡ y2 → (e : Clauses A) → map g (code_blocks.clauses_blocks w x y e) ≡ code_blocks.clauses_blocks v x2 y2 e
  clauses_blocks one other on to agrees here inner here2 inner2 same same_inner trees.no_clauses = refl
  clauses_blocks one other on to agrees here inner here2 inner2 same same_inner (trees.clause c cs) = joined to _ _ (clause_blocks one other on to agrees here inner here2 inner2 same same_inner c) (clauses_blocks one other on to agrees inner inner inner2 inner2 same_inner same_inner cs)

  pub clause_blocks : {A X X2 Y Y2 : Type 0} (w : Telling A X Y) (v : Telling A X2 Y2) (f : X → X2) (g : Y → Y2) → Agrees w v f g → (x y : X) (x2 y2 : X2) → f x ≡ x2 → f y ≡ y2 → (e : Clause A) → map g (code_blocks.clause_blocks w x y e) ≡ code_blocks.clause_blocks v x2 y2 e
  clause_blocks one other on to agrees here inner here2 inner2 same same_inner (trees.a_clause w es) = joined to _ _ (walk_blocks one other on to agrees here inner here2 inner2 same same_inner w) (exprs_blocks one other on to agrees inner inner2 same_inner es)

  pub walk_blocks : {A X X2 Y Y2 : Type 0} (w : Telling A X Y) (v : Telling A X2 Y2) (f : X → X2) (g : Y → Y2) → Agrees w v f g → (x y : X) (x2 y2 : X2) → f x ≡ x2 → f y ≡ y2 → (e : Walk A) → map g (code_blocks.walk_blocks w x y e) ≡ code_blocks.walk_blocks v x2 y2 e
  walk_blocks one other on to agrees here inner here2 inner2 same same_inner (trees.a_walk p x g) = joined to _ _ (target_blocks one other on to agrees inner inner2 same_inner p) (expr_blocks one other on to agrees here here2 same x)

  pub target_blocks : {A X X2 Y Y2 : Type 0} (w : Telling A X Y) (v : Telling A X2 Y2) (f : X → X2) (g : Y → Y2) → Agrees w v f g → (x : X) (x2 : X2) → f x ≡ x2 → (e : Target A) → map g (code_blocks.target_blocks w x e) ≡ code_blocks.target_blocks v x2 e
  target_blocks one other on to agrees here here2 same (trees.to_place p) = place_blocks one other on to agrees here here2 same p
  target_blocks one other on to agrees here here2 same (trees.group ps) = targets_blocks one other on to agrees here here2 same ps

  pub targets_blocks : {A X X2 Y Y2 : Type 0} (w : Telling A X Y) (v : Telling A X2 Y2) (f : X → X2) (g : Y → Y2) → Agrees w v f g → (x : X) (x2 : X2) → f x ≡ x2 → (e : Targets A) → map g (code_blocks.targets_blocks w x e) ≡ code_blocks.targets_blocks v x2 e
  targets_blocks one other on to agrees here here2 same trees.no_targets = refl
  targets_blocks one other on to agrees here here2 same (trees.target p ps) = joined to _ _ (target_blocks one other on to agrees here here2 same p) (targets_blocks one other on to agrees here here2 same ps)

  pub place_blocks : {A X X2 Y Y2 : Type 0} (w : Telling A X Y) (v : Telling A X2 Y2) (f : X → X2) (g : Y → Y2) → Agrees w v f g → (x : X) (x2 : X2) → f x ≡ x2 → (e : Place A) → map g (code_blocks.place_blocks w x e) ≡ code_blocks.place_blocks v x2 e
  place_blocks one other on to agrees here here2 same (trees.to_name n) = refl
  place_blocks one other on to agrees here here2 same (trees.to_attr x n g) = expr_blocks one other on to agrees here here2 same x
  place_blocks one other on to agrees here here2 same (trees.to_item x i g) = joined to _ _ (expr_blocks one other on to agrees here here2 same x) (expr_blocks one other on to agrees here here2 same i)

  pub params_blocks : {A X X2 Y Y2 : Type 0} (w : Telling A X Y) (v : Telling A X2 Y2) (f : X → X2) (g : Y → Y2) → Agrees w v f g → (x : X) (x2 : X2) → f x ≡ x2 → (e : Params A) → map g (code_blocks.params_blocks w x e) ≡ code_blocks.params_blocks v x2 e
  params_blocks one other on to agrees here here2 same (trees.params ps l d) = plain_blocks one other on to agrees here here2 same ps

  pub plain_blocks : {A X X2 Y Y2 : Type 0} (w : Telling A X Y) (v : Telling A X2 Y2) (f : X → X2) (g : Y → Y2) → Agrees w v f g → (x : X) (x2 : X2) → f x ≡ x2 → (e : Plain A) → map g (code_blocks.plain_blocks w x e) ≡ code_blocks.plain_blocks v x2 e
  plain_blocks one other on to agrees here here2 same trees.no_plain = refl
  plain_blocks one other on to agrees here here2 same (trees.plain n x ps) = joined to _ _ (maybe_blocks one other on to agrees here here2 same x) (plain_blocks one other on to agrees here here2 same ps)

  pub trailer_blocks : {A X X2 Y Y2 : Type 0} (w : Telling A X Y) (v : Telling A X2 Y2) (f : X → X2) (g : Y → Y2) → Agrees w v f g → (x : X) (x2 : X2) → f x ≡ x2 → (e : Trailer A) → map g (code_blocks.trailer_blocks w x e) ≡ code_blocks.trailer_blocks v x2 e
  trailer_blocks one other on to agrees here here2 same (trees.attr n g) = refl
  trailer_blocks one other on to agrees here here2 same (trees.item x g) = expr_blocks one other on to agrees here here2 same x
  trailer_blocks one other on to agrees here here2 same (trees.slice a b c g) = joined to _ _ (joined to _ _ (maybe_blocks one other on to agrees here here2 same a) (maybe_blocks one other on to agrees here here2 same b)) (maybe_blocks one other on to agrees here here2 same c)
  trailer_blocks one other on to agrees here here2 same (trees.call xs g) = args_blocks one other on to agrees here here2 same xs

  pub trailers_blocks : {A X X2 Y Y2 : Type 0} (w : Telling A X Y) (v : Telling A X2 Y2) (f : X → X2) (g : Y → Y2) → Agrees w v f g → (x : X) (x2 : X2) → f x ≡ x2 → (e : Trailers A) → map g (code_blocks.trailers_blocks w x e) ≡ code_blocks.trailers_blocks v x2 e
  trailers_blocks one other on to agrees here here2 same trees.no_trailers = refl
  trailers_blocks one other on to agrees here here2 same (trees.trailer x xs) = joined to _ _ (trailer_blocks one other on to agrees here here2 same x) (trailers_blocks one other on to agrees here here2 same xs)

  pub arg_blocks : {A X X2 Y Y2 : Type 0} (w : Telling A X Y) (v : Telling A X2 Y2) (f : X → X2) (g : Y → Y2) → Agrees w v f g → (x : X) (x2 : X2) → f x ≡ x2 → (e : Arg A) → map g (code_blocks.arg_blocks w x e) ≡ code_blocks.arg_blocks v x2 e
  arg_blocks one other on to agrees here here2 same (trees.value x) = expr_blocks one other on to agrees here here2 same x
  arg_blocks one other on to agrees here here2 same (trees.star x) = expr_blocks one other on to agrees here here2 same x
  arg_blocks one other on to agrees here here2 same (trees.key n x) = expr_blocks one other on to agrees here here2 same x
  arg_blocks one other on to agrees here here2 same (trees.stars x) = expr_blocks one other on to agrees here here2 same x

  pub args_blocks : {A X X2 Y Y2 : Type 0} (w : Telling A X Y) (v : Telling A X2 Y2) (f : X → X2) (g : Y → Y2) → Agrees w v f g → (x : X) (x2 : X2) → f x ≡ x2 → (e : Args A) → map g (code_blocks.args_blocks w x e) ≡ code_blocks.args_blocks v x2 e
  args_blocks one other on to agrees here here2 same trees.no_args = refl
  args_blocks one other on to agrees here here2 same (trees.arg x xs) = joined to _ _ (arg_blocks one other on to agrees here here2 same x) (args_blocks one other on to agrees here here2 same xs)

pub option_blocks : {A X X2 Y Y2 : Type 0} (w : Telling A X Y) (v : Telling A X2 Y2) (f : X → X2) (g : Y → Y2) → Agrees w v f g → (x : X) (x2 : X2) → f x ≡ x2 → (e : Option (Expr A)) → map g (code_blocks.option_blocks w x e) ≡ code_blocks.option_blocks v x2 e
option_blocks one other on to agrees here here2 same None = refl
option_blocks one other on to agrees here here2 same (Some x) = expr_blocks one other on to agrees here here2 same x

pub places_blocks : {A X X2 Y Y2 : Type 0} (w : Telling A X Y) (v : Telling A X2 Y2) (f : X → X2) (g : Y → Y2) → Agrees w v f g → (x : X) (x2 : X2) → f x ≡ x2 → (e : List (Place A)) → map g (code_blocks.places_blocks w x e) ≡ code_blocks.places_blocks v x2 e
places_blocks one other on to agrees here here2 same [] = refl
places_blocks one other on to agrees here here2 same (p ∷ ps) = joined to _ _ (place_blocks one other on to agrees here here2 same p) (places_blocks one other on to agrees here here2 same ps)

mutual
  pub stmt_blocks : {A X X2 Y Y2 : Type 0} (w : Telling A X Y) (v : Telling A X2 Y2) (f : X → X2) (g : Y → Y2) → Agrees w v f g → (x : X) (x2 : X2) → f x ≡ x2 → (e : Stmt A) → map g (code_blocks.stmt_blocks w x e) ≡ code_blocks.stmt_blocks v x2 e
  stmt_blocks one other on to agrees here here2 same (stmt_trees.a_stmt line x) = stmt_form_blocks one other on to agrees here here2 same x

  pub stmt_form_blocks : {A X X2 Y Y2 : Type 0} (w : Telling A X Y) (v : Telling A X2 Y2) (f : X → X2) (g : Y → Y2) → Agrees w v f g → (x : X) (x2 : X2) → f x ≡ x2 → (e : StmtForm A) → map g (code_blocks.stmt_form_blocks w x e) ≡ code_blocks.stmt_form_blocks v x2 e
  stmt_form_blocks one other on to agrees here here2 same (stmt_trees.evaluate x) = expr_blocks one other on to agrees here here2 same x
  stmt_form_blocks one other on to agrees here here2 same (stmt_trees.assign ps x) = joined to _ _ (places_blocks one other on to agrees here here2 same ps) (expr_blocks one other on to agrees here here2 same x)
  stmt_form_blocks one other on to agrees here here2 same (stmt_trees.unpack p x g) = joined to _ _ (target_blocks one other on to agrees here here2 same p) (expr_blocks one other on to agrees here here2 same x)
  stmt_form_blocks one other on to agrees here here2 same (stmt_trees.aug p o at x g) = joined to _ _ (place_blocks one other on to agrees here here2 same p) (expr_blocks one other on to agrees here here2 same x)
  stmt_form_blocks one other on to agrees here here2 same (stmt_trees.del ps) = places_blocks one other on to agrees here here2 same ps
  stmt_form_blocks one other on to agrees here here2 same stmt_trees.pass = refl
  stmt_form_blocks one other on to agrees here here2 same stmt_trees.break = refl
  stmt_form_blocks one other on to agrees here here2 same stmt_trees.continue = refl
  stmt_form_blocks one other on to agrees here here2 same (stmt_trees.give_back x) = option_blocks one other on to agrees here here2 same x
  stmt_form_blocks one other on to agrees here here2 same (stmt_trees.raise x) = option_blocks one other on to agrees here here2 same x
  stmt_form_blocks one other on to agrees here here2 same (stmt_trees.assert x m) = joined to _ _ (expr_blocks one other on to agrees here here2 same x) (option_blocks one other on to agrees here here2 same m)
  stmt_form_blocks one other on to agrees here here2 same (stmt_trees.global ns) = refl
  stmt_form_blocks one other on to agrees here here2 same (stmt_trees.choose bs o) = joined to _ _ (branches_blocks one other on to agrees here here2 same bs) (maybe_stmts_blocks one other on to agrees here here2 same o)
  stmt_form_blocks one other on to agrees here here2 same (stmt_trees.while x b) = joined to _ _ (expr_blocks one other on to agrees here here2 same x) (stmts_blocks one other on to agrees here here2 same b)
  stmt_form_blocks one other on to agrees here here2 same (stmt_trees.for w b) = joined to _ _ (walk_blocks one other on to agrees here here here2 here2 same same w) (stmts_blocks one other on to agrees here here2 same b)
  stmt_form_blocks one other on to agrees here here2 same (stmt_trees.try b hs o l) = joined to _ _ (joined to _ _ (joined to _ _ (stmts_blocks one other on to agrees here here2 same b) (excepts_blocks one other on to agrees here here2 same hs)) (maybe_stmts_blocks one other on to agrees here here2 same o)) (maybe_stmts_blocks one other on to agrees here here2 same l)
  stmt_form_blocks one other on to agrees here here2 same (stmt_trees.define n name ps b) = begun to _ _ (agrees.told n (function_block ps b) here ∙ ap (other.told n (function_block ps b)) same) (joined to _ _ (params_blocks one other on to agrees here here2 same ps) (stmts_blocks one other on to agrees (one.inside n (function_block ps b) here) (other.inside n (function_block ps b) here2) (agrees.inside n (function_block ps b) here ∙ ap (other.inside n (function_block ps b)) same) b))
  stmt_form_blocks one other on to agrees here here2 same (stmt_trees.class name b) = stmts_blocks one other on to agrees here here2 same b

  pub stmts_blocks : {A X X2 Y Y2 : Type 0} (w : Telling A X Y) (v : Telling A X2 Y2) (f : X → X2) (g : Y → Y2) → Agrees w v f g → (x : X) (x2 : X2) → f x ≡ x2 → (e : Stmts A) → map g (code_blocks.stmts_blocks w x e) ≡ code_blocks.stmts_blocks v x2 e
  stmts_blocks one other on to agrees here here2 same stmt_trees.no_stmts = refl
  stmts_blocks one other on to agrees here here2 same (stmt_trees.stmt x xs) = joined to _ _ (stmt_blocks one other on to agrees here here2 same x) (stmts_blocks one other on to agrees here here2 same xs)

  pub maybe_stmts_blocks : {A X X2 Y Y2 : Type 0} (w : Telling A X Y) (v : Telling A X2 Y2) (f : X → X2) (g : Y → Y2) → Agrees w v f g → (x : X) (x2 : X2) → f x ≡ x2 → (e : MaybeStmts A) → map g (code_blocks.maybe_stmts_blocks w x e) ≡ code_blocks.maybe_stmts_blocks v x2 e
  maybe_stmts_blocks one other on to agrees here here2 same stmt_trees.none = refl
  maybe_stmts_blocks one other on to agrees here here2 same (stmt_trees.some b) = stmts_blocks one other on to agrees here here2 same b

  pub branches_blocks : {A X X2 Y Y2 : Type 0} (w : Telling A X Y) (v : Telling A X2 Y2) (f : X → X2) (g : Y → Y2) → Agrees w v f g → (x : X) (x2 : X2) → f x ≡ x2 → (e : Branches A) → map g (code_blocks.branches_blocks w x e) ≡ code_blocks.branches_blocks v x2 e
  branches_blocks one other on to agrees here here2 same stmt_trees.no_branches = refl
  branches_blocks one other on to agrees here here2 same (stmt_trees.branch x b bs) = joined to _ _ (joined to _ _ (expr_blocks one other on to agrees here here2 same x) (stmts_blocks one other on to agrees here here2 same b)) (branches_blocks one other on to agrees here here2 same bs)

  pub except_blocks : {A X X2 Y Y2 : Type 0} (w : Telling A X Y) (v : Telling A X2 Y2) (f : X → X2) (g : Y → Y2) → Agrees w v f g → (x : X) (x2 : X2) → f x ≡ x2 → (e : Except A) → map g (code_blocks.except_blocks w x e) ≡ code_blocks.except_blocks v x2 e
  except_blocks one other on to agrees here here2 same (stmt_trees.an_except x n b) = joined to _ _ (option_blocks one other on to agrees here here2 same x) (stmts_blocks one other on to agrees here here2 same b)

  pub excepts_blocks : {A X X2 Y Y2 : Type 0} (w : Telling A X Y) (v : Telling A X2 Y2) (f : X → X2) (g : Y → Y2) → Agrees w v f g → (x : X) (x2 : X2) → f x ≡ x2 → (e : Excepts A) → map g (code_blocks.excepts_blocks w x e) ≡ code_blocks.excepts_blocks v x2 e
  excepts_blocks one other on to agrees here here2 same stmt_trees.no_excepts = refl
  excepts_blocks one other on to agrees here here2 same (stmt_trees.except x xs) = joined to _ _ (except_blocks one other on to agrees here here2 same x) (excepts_blocks one other on to agrees here here2 same xs)
