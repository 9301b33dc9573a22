-- The nests of blocks in a tree: each block around one of them is one of them, and none is deeper than there are blocks.
use Rattle.std.proofs.Common.{◌≡◌, ℕ, suc, ◌+◌, ◌≤◌, List, [], ◌∷◌, ◌++◌, length, length-append, ◌⊎◌, inr, Option, Some, None, arith}
use Rattle.rp_tree.specs.ExpressionTrees as trees
use Rattle.rp_tree.specs.ExpressionTrees.{Expr, Form, Exprs, Maybe, Pairs, Tests, Ops, Clause, Clauses, Walk, Target, Targets, Place, Params, Plain, Trailer, Trailers, Arg, Args}
use Rattle.rp_tree.specs.StatementTrees as stmt_trees
use Rattle.rp_tree.specs.StatementTrees.{Stmt, StmtForm, Stmts, MaybeStmts, Branches, Except, Excepts}
use Rattle.rp_scope.specs.Bindings.{Block, function_block, lambda_block, comprehension_block}
use Rattle.rp_scope.specs.Blocks as code_blocks
use Rattle.rp_scope.specs.Blocks.{Telling}

-- a block and those around it, each with its number
abbrev pub Nested : Type 0 → Type 0
Nested A = List (ℕ × Block A)

abbrev pub nested : {A : Type 0} → Telling A (Nested A) (Nested A)
nested = record { inside = λ n block around. (n, block) ∷ around; told = λ n block around. (n, block) ∷ around }

abbrev pub Each : {A : Type 0} → (A → Type 0) → List A → Type 0
Each P [] = Unit {0}
Each P (x ∷ xs) = P x × Each P xs

abbrev pub Among : {A : Type 0} → List A → A → Type 0
Among [] x = ⊥
Among (y ∷ ys) x = (y ≡ x) ⊎ Among ys x

-- nothing but the program, or one of the nests
abbrev pub Stands : {A : Type 0} → List (Nested A) → Nested A → Type 0
Stands all x = (x ≡ []) ⊎ Among all x

abbrev pub outer : {A : Type 0} → Nested A → Nested A
outer [] = []
outer (p ∷ x) = x

abbrev pub IsClosed : {A : Type 0} → List (Nested A) → ℕ → Nested A → Type 0
IsClosed all m x = Stands all (outer x) × (length x ≤ m)

abbrev pub Keeps : {A : Type 0} → List (Nested A) → ℕ → ℕ → List (Nested A) → Type 0
Keeps all m k xs = k + length xs ≤ m → Each (Among all) xs → Each (IsClosed all m) xs

each_left : {A : Type 0} (P : A → Type 0) (xs ys : List A) → Each P (xs ++ ys) → Each P xs
each_left P [] ys h = tt
each_left P (x ∷ xs) ys h = (h.0, each_left P xs ys h.1)

each_right : {A : Type 0} (P : A → Type 0) (xs ys : List A) → Each P (xs ++ ys) → Each P ys
each_right P [] ys h = h
each_right P (x ∷ xs) ys h = each_right P xs ys h.1

each_joined : {A : Type 0} (P : A → Type 0) (xs ys : List A) → Each P xs → Each P ys → Each P (xs ++ ys)
each_joined P [] ys h l = l
each_joined P (x ∷ xs) ys h l = (h.0, each_joined P xs ys h.1 l)

both : {A : Type 0} (all : List (Nested A)) (m k : ℕ) (xs ys : List (Nested A)) → Keeps all m k xs → Keeps all m k ys → Keeps all m k (xs ++ ys)
both all m k xs ys h l few has =
    each_joined (IsClosed all m) xs ys (h (omega (arith, length-append xs ys)) (each_left (Among all) xs ys has)) (l (omega (arith, length-append xs ys)) (each_right (Among all) xs ys has))

started : {A : Type 0} (all : List (Nested A)) (m k : ℕ) (p : ℕ × Block A) (x : Nested A) (xs : List (Nested A)) → length x ≤ k → Stands all x → (Among all (p ∷ x) → Keeps all m (suc k) xs) → Keeps all m k ((p ∷ x) ∷ xs)
started all m k p x xs fits stands rest few has = ((stands, omega arith), rest has.0 (omega arith) has.1)

later : (n k : ℕ) → n ≤ k → n ≤ suc k
later n k fits = omega arith

deeper : {A : Type 0} (p : ℕ × Block A) (x : Nested A) (k : ℕ) → length x ≤ k → length (p ∷ x) ≤ suc k
deeper p x k fits = omega arith

mutual
  pub expr_blocks : {A : Type 0} (all : List (Nested A)) (most depth : ℕ) (x : Nested A) → length x ≤ depth → Stands all x → (e : Expr A) → Keeps all most depth (code_blocks.expr_blocks nested x e)
  expr_blocks all most depth here fits stands (trees.node line x) = form_blocks all most depth here fits stands x

  pub form_blocks : {A : Type 0} (all : List (Nested A)) (most depth : ℕ) (x : Nested A) → length x ≤ depth → Stands all x → (e : Form A) → Keeps all most depth (code_blocks.form_blocks nested x e)
  form_blocks all most depth here fits stands (trees.name n) = λ few has. tt
  form_blocks all most depth here fits stands (trees.int z) = λ few has. tt
  form_blocks all most depth here fits stands (trees.text x) = λ few has. tt
  form_blocks all most depth here fits stands (trees.const c) = λ few has. tt
  form_blocks all most depth here fits stands (trees.tuple es) = exprs_blocks all most depth here fits stands es
  form_blocks all most depth here fits stands (trees.list es) = exprs_blocks all most depth here fits stands es
  form_blocks all most depth here fits stands (trees.dict ps) = pairs_blocks all most depth here fits stands ps
  form_blocks all most depth here fits stands (trees.list_of n x cs) = started all most depth (n, (comprehension_block cs)) here _ fits stands (λ there. both all most (suc depth) _ _ (expr_blocks all most (suc depth) ((n, (comprehension_block cs)) ∷ here) (deeper (n, (comprehension_block cs)) here depth fits) (inr there) x) (clauses_blocks all most (suc depth) here ((n, (comprehension_block cs)) ∷ here) (later (length here) depth fits) (deeper (n, (comprehension_block cs)) here depth fits) stands (inr there) cs))
  form_blocks all most depth here fits stands (trees.dict_of n k x cs) = started all most depth (n, (comprehension_block cs)) here _ fits stands (λ there. both all most (suc depth) _ _ (both all most (suc depth) _ _ (expr_blocks all most (suc depth) ((n, (comprehension_block cs)) ∷ here) (deeper (n, (comprehension_block cs)) here depth fits) (inr there) k) (expr_blocks all most (suc depth) ((n, (comprehension_block cs)) ∷ here) (deeper (n, (comprehension_block cs)) here depth fits) (inr there) x)) (clauses_blocks all most (suc depth) here ((n, (comprehension_block cs)) ∷ here) (later (length here) depth fits) (deeper (n, (comprehension_block cs)) here depth fits) stands (inr there) cs))
  form_blocks all most depth here fits stands (trees.lambda n ps x) = started all most depth (n, (lambda_block ps)) here _ fits stands (λ there. both all most (suc depth) _ _ (params_blocks all most (suc depth) here (later (length here) depth fits) stands ps) (expr_blocks all most (suc depth) ((n, (lambda_block ps)) ∷ here) (deeper (n, (lambda_block ps)) here depth fits) (inr there) x))
  form_blocks all most depth here fits stands (trees.cond x a b) = both all most depth _ _ (both all most depth _ _ (expr_blocks all most depth here fits stands a) (expr_blocks all most depth here fits stands x)) (expr_blocks all most depth here fits stands b)
  form_blocks all most depth here fits stands (trees.or es) = exprs_blocks all most depth here fits stands es
  form_blocks all most depth here fits stands (trees.and es) = exprs_blocks all most depth here fits stands es
  form_blocks all most depth here fits stands (trees.not x) = expr_blocks all most depth here fits stands x
  form_blocks all most depth here fits stands (trees.compare x ts) = both all most depth _ _ (expr_blocks all most depth here fits stands x) (tests_blocks all most depth here fits stands ts)
  form_blocks all most depth here fits stands (trees.chain x os) = both all most depth _ _ (expr_blocks all most depth here fits stands x) (ops_blocks all most depth here fits stands os)
  form_blocks all most depth here fits stands (trees.unary u x) = expr_blocks all most depth here fits stands x
  form_blocks all most depth here fits stands (trees.power a b) = both all most depth _ _ (expr_blocks all most depth here fits stands a) (expr_blocks all most depth here fits stands b)
  form_blocks all most depth here fits stands (trees.primary x ts) = both all most depth _ _ (expr_blocks all most depth here fits stands x) (trailers_blocks all most depth here fits stands ts)

  pub exprs_blocks : {A : Type 0} (all : List (Nested A)) (most depth : ℕ) (x : Nested A) → length x ≤ depth → Stands all x → (e : Exprs A) → Keeps all most depth (code_blocks.exprs_blocks nested x e)
  exprs_blocks all most depth here fits stands trees.no_exprs = λ few has. tt
  exprs_blocks all most depth here fits stands (trees.expr x xs) = both all most depth _ _ (expr_blocks all most depth here fits stands x) (exprs_blocks all most depth here fits stands xs)

  pub maybe_blocks : {A : Type 0} (all : List (Nested A)) (most depth : ℕ) (x : Nested A) → length x ≤ depth → Stands all x → (e : Maybe A) → Keeps all most depth (code_blocks.maybe_blocks nested x e)
  maybe_blocks all most depth here fits stands trees.none = λ few has. tt
  maybe_blocks all most depth here fits stands (trees.some x) = expr_blocks all most depth here fits stands x

  pub pairs_blocks : {A : Type 0} (all : List (Nested A)) (most depth : ℕ) (x : Nested A) → length x ≤ depth → Stands all x → (e : Pairs A) → Keeps all most depth (code_blocks.pairs_blocks nested x e)
  pairs_blocks all most depth here fits stands trees.no_pairs = λ few has. tt
  pairs_blocks all most depth here fits stands (trees.pair k x ps) = both all most depth _ _ (both all most depth _ _ (expr_blocks all most depth here fits stands k) (expr_blocks all most depth here fits stands x)) (pairs_blocks all most depth here fits stands ps)

  pub tests_blocks : {A : Type 0} (all : List (Nested A)) (most depth : ℕ) (x : Nested A) → length x ≤ depth → Stands all x → (e : Tests A) → Keeps all most depth (code_blocks.tests_blocks nested x e)
  tests_blocks all most depth here fits stands trees.no_tests = λ few has. tt
  tests_blocks all most depth here fits stands (trees.test o x ts) = both all most depth _ _ (expr_blocks all most depth here fits stands x) (tests_blocks all most depth here fits stands ts)

  pub ops_blocks : {A : Type 0} (all : List (Nested A)) (most depth : ℕ) (x : Nested A) → length x ≤ depth → Stands all x → (e : Ops A) → Keeps all most depth (code_blocks.ops_blocks nested x e)
  ops_blocks all most depth here fits stands trees.no_ops = λ few has. tt
  ops_blocks all most depth here fits stands (trees.op o x os) = both all most depth _ _ (expr_blocks all most depth here fits stands x) (ops_blocks all most depth here fits stands os)

  pub clauses_blocks : {A : Type 0} (all : List (Nested A)) (most depth : ℕ) (x y : Nested A) → length x ≤ depth → length y ≤ depth → Stands all x → Stands all y → (e : Clauses A) → Keeps all most depth (code_blocks.clauses_blocks nested x y e)
  clauses_blocks all most depth here inner fits fits_inner stands stands_inner trees.no_clauses = λ few has. tt
  clauses_blocks all most depth here inner fits fits_inner stands stands_inner (trees.clause c cs) = both all most depth _ _ (clause_blocks all most depth here inner fits fits_inner stands stands_inner c) (clauses_blocks all most depth inner inner fits_inner fits_inner stands_inner stands_inner cs)

  pub clause_blocks : {A : Type 0} (all : List (Nested A)) (most depth : ℕ) (x y : Nested A) → length x ≤ depth → length y ≤ depth → Stands all x → Stands all y → (e : Clause A) → Keeps all most depth (code_blocks.clause_blocks nested x y e)
  clause_blocks all most depth here inner fits fits_inner stands stands_inner (trees.a_clause w es) = both all most depth _ _ (walk_blocks all most depth here inner fits fits_inner stands stands_inner w) (exprs_blocks all most depth inner fits_inner stands_inner es)

  pub walk_blocks : {A : Type 0} (all : List (Nested A)) (most depth : ℕ) (x y : Nested A) → length x ≤ depth → length y ≤ depth → Stands all x → Stands all y → (e : Walk A) → Keeps all most depth (code_blocks.walk_blocks nested x y e)
  walk_blocks all most depth here inner fits fits_inner stands stands_inner (trees.a_walk p x g) = both all most depth _ _ (target_blocks all most depth inner fits_inner stands_inner p) (expr_blocks all most depth here fits stands x)

  pub target_blocks : {A : Type 0} (all : List (Nested A)) (most depth : ℕ) (x : Nested A) → length x ≤ depth → Stands all x → (e : Target A) → Keeps all most depth (code_blocks.target_blocks nested x e)
  target_blocks all most depth here fits stands (trees.to_place p) = place_blocks all most depth here fits stands p
  target_blocks all most depth here fits stands (trees.group ps) = targets_blocks all most depth here fits stands ps

  pub targets_blocks : {A : Type 0} (all : List (Nested A)) (most depth : ℕ) (x : Nested A) → length x ≤ depth → Stands all x → (e : Targets A) → Keeps all most depth (code_blocks.targets_blocks nested x e)
  targets_blocks all most depth here fits stands trees.no_targets = λ few has. tt
  targets_blocks all most depth here fits stands (trees.target p ps) = both all most depth _ _ (target_blocks all most depth here fits stands p) (targets_blocks all most depth here fits stands ps)

  pub place_blocks : {A : Type 0} (all : List (Nested A)) (most depth : ℕ) (x : Nested A) → length x ≤ depth → Stands all x → (e : Place A) → Keeps all most depth (code_blocks.place_blocks nested x e)
  place_blocks all most depth here fits stands (trees.to_name n) = λ few has. tt
  place_blocks all most depth here fits stands (trees.to_attr x n g) = expr_blocks all most depth here fits stands x
  place_blocks all most depth here fits stands (trees.to_item x i g) = both all most depth _ _ (expr_blocks all most depth here fits stands x) (expr_blocks all most depth here fits stands i)

  pub params_blocks : {A : Type 0} (all : List (Nested A)) (most depth : ℕ) (x : Nested A) → length x ≤ depth → Stands all x → (e : Params A) → Keeps all most depth (code_blocks.params_blocks nested x e)
  params_blocks all most depth here fits stands (trees.params ps l d) = plain_blocks all most depth here fits stands ps

  pub plain_blocks : {A : Type 0} (all : List (Nested A)) (most depth : ℕ) (x : Nested A) → length x ≤ depth → Stands all x → (e : Plain A) → Keeps all most depth (code_blocks.plain_blocks nested x e)
  plain_blocks all most depth here fits stands trees.no_plain = λ few has. tt
  plain_blocks all most depth here fits stands (trees.plain n x ps) = both all most depth _ _ (maybe_blocks all most depth here fits stands x) (plain_blocks all most depth here fits stands ps)

  pub trailer_blocks : {A : Type 0} (all : List (Nested A)) (most depth : ℕ) (x : Nested A) → length x ≤ depth → Stands all x → (e : Trailer A) → Keeps all most depth (code_blocks.trailer_blocks nested x e)
  trailer_blocks all most depth here fits stands (trees.attr n g) = λ few has. tt
  trailer_blocks all most depth here fits stands (trees.item x g) = expr_blocks all most depth here fits stands x
  trailer_blocks all most depth here fits stands (trees.slice a b c g) = both all most depth _ _ (both all most depth _ _ (maybe_blocks all most depth here fits stands a) (maybe_blocks all most depth here fits stands b)) (maybe_blocks all most depth here fits stands c)
  trailer_blocks all most depth here fits stands (trees.call xs g) = args_blocks all most depth here fits stands xs

  pub trailers_blocks : {A : Type 0} (all : List (Nested A)) (most depth : ℕ) (x : Nested A) → length x ≤ depth → Stands all x → (e : Trailers A) → Keeps all most depth (code_blocks.trailers_blocks nested x e)
  trailers_blocks all most depth here fits stands trees.no_trailers = λ few has. tt
  trailers_blocks all most depth here fits stands (trees.trailer x xs) = both all most depth _ _ (trailer_blocks all most depth here fits stands x) (trailers_blocks all most depth here fits stands xs)

  pub arg_blocks : {A : Type 0} (all : List (Nested A)) (most depth : ℕ) (x : Nested A) → length x ≤ depth → Stands all x → (e : Arg A) → Keeps all most depth (code_blocks.arg_blocks nested x e)
  arg_blocks all most depth here fits stands (trees.value x) = expr_blocks all most depth here fits stands x
  arg_blocks all most depth here fits stands (trees.star x) = expr_blocks all most depth here fits stands x
  arg_blocks all most depth here fits stands (trees.key n x) = expr_blocks all most depth here fits stands x
  arg_blocks all most depth here fits stands (trees.stars x) = expr_blocks all most depth here fits stands x

  pub args_blocks : {A : Type 0} (all : List (Nested A)) (most depth : ℕ) (x : Nested A) → length x ≤ depth → Stands all x → (e : Args A) → Keeps all most depth (code_blocks.args_blocks nested x e)
  args_blocks all most depth here fits stands trees.no_args = λ few has. tt
  args_blocks all most depth here fits stands (trees.arg x xs) = both all most depth _ _ (arg_blocks all most depth here fits stands x) (args_blocks all most depth here fits stands xs)

pub option_blocks : {A : Type 0} (all : List (Nested A)) (most depth : ℕ) (x : Nested A) → length x ≤ depth → Stands all x → (e : Option (Expr A)) → Keeps all most depth (code_blocks.option_blocks nested x e)
option_blocks all most depth here fits stands None = λ few has. tt
option_blocks all most depth here fits stands (Some x) = expr_blocks all most depth here fits stands x

pub places_blocks : {A : Type 0} (all : List (Nested A)) (most depth : ℕ) (x : Nested A) → length x ≤ depth → Stands all x → (e : List (Place A)) → Keeps all most depth (code_blocks.places_blocks nested x e)
places_blocks all most depth here fits stands [] = λ few has. tt
places_blocks all most depth here fits stands (p ∷ ps) = both all most depth _ _ (place_blocks all most depth here fits stands p) (places_blocks all most depth here fits stands ps)

mutual
  pub stmt_blocks : {A : Type 0} (all : List (Nested A)) (most depth : ℕ) (x : Nested A) → length x ≤ depth → Stands all x → (e : Stmt A) → Keeps all most depth (code_blocks.stmt_blocks nested x e)
  stmt_blocks all most depth here fits stands (stmt_trees.a_stmt line x) = stmt_form_blocks all most depth here fits stands x

  pub stmt_form_blocks : {A : Type 0} (all : List (Nested A)) (most depth : ℕ) (x : Nested A) → length x ≤ depth → Stands all x → (e : StmtForm A) → Keeps all most depth (code_blocks.stmt_form_blocks nested x e)
  stmt_form_blocks all most depth here fits stands (stmt_trees.evaluate x) = expr_blocks all most depth here fits stands x
  stmt_form_blocks all most depth here fits stands (stmt_trees.assign ps x) = both all most depth _ _ (places_blocks all most depth here fits stands ps) (expr_blocks all most depth here fits stands x)
  stmt_form_blocks all most depth here fits stands (stmt_trees.unpack p x g) = both all most depth _ _ (target_blocks all most depth here fits stands p) (expr_blocks all most depth here fits stands x)
  stmt_form_blocks all most depth here fits stands (stmt_trees.aug p o at x g) = both all most depth _ _ (place_blocks all most depth here fits stands p) (expr_blocks all most depth here fits stands x)
  stmt_form_blocks all most depth here fits stands (stmt_trees.del ps) = places_blocks all most depth here fits stands ps
  stmt_form_blocks all most depth here fits stands stmt_trees.pass = λ few has. tt
  stmt_form_blocks all most depth here fits stands stmt_trees.break = λ few has. tt
  stmt_form_blocks all most depth here fits stands stmt_trees.continue = λ few has. tt
  stmt_form_blocks all most depth here fits stands (stmt_trees.give_back x) = option_blocks all most depth here fits stands x
  stmt_form_blocks all most depth here fits stands (stmt_trees.raise x) = option_blocks all most depth here fits stands x
  stmt_form_blocks all most depth here fits stands (stmt_trees.assert x m) = both all most depth _ _ (expr_blocks all most depth here fits stands x) (option_blocks all most depth here fits stands m)
  stmt_form_blocks all most depth here fits stands (stmt_trees.global ns) = λ few has. tt
  stmt_form_blocks all most depth here fits stands (stmt_trees.choose bs o) = both all most depth _ _ (branches_blocks all most depth here fits stands bs) (maybe_stmts_blocks all most depth here fits stands o)
  stmt_form_blocks all most depth here fits stands (stmt_trees.while x b) = both all most depth _ _ (expr_blocks all most depth here fits stands x) (stmts_blocks all most depth here fits stands b)
  stmt_form_blocks all most depth here fits stands (stmt_trees.for w b) = both all most depth _ _ (walk_blocks all most depth here here fits fits stands stands w) (stmts_blocks all most depth here fits stands b)
  stmt_form_blocks all most depth here fits stands (stmt_trees.try b hs o l) = both all most depth _ _ (both all most depth _ _ (both all most depth _ _ (stmts_blocks all most depth here fits stands b) (excepts_blocks all most depth here fits stands hs)) (maybe_stmts_blocks all most depth here fits stands o)) (maybe_stmts_blocks all most depth here fits stands l)
  stmt_form_blocks all most depth here fits stands (stmt_trees.define n name ps b) = started all most depth (n, (function_block ps b)) here _ fits stands (λ there. both all most (suc depth) _ _ (params_blocks all most (suc depth) here (later (length here) depth fits) stands ps) (stmts_blocks all most (suc depth) ((n, (function_block ps b)) ∷ here) (deeper (n, (function_block ps b)) here depth fits) (inr there) b))
  stmt_form_blocks all most depth here fits stands (stmt_trees.class name b) = stmts_blocks all most depth here fits stands b

  pub stmts_blocks : {A : Type 0} (all : List (Nested A)) (most depth : ℕ) (x : Nested A) → length x ≤ depth → Stands all x → (e : Stmts A) → Keeps all most depth (code_blocks.stmts_blocks nested x e)
  stmts_blocks all most depth here fits stands stmt_trees.no_stmts = λ few has. tt
  stmts_blocks all most depth here fits stands (stmt_trees.stmt x xs) = both all most depth _ _ (stmt_blocks all most depth here fits stands x) (stmts_blocks all most depth here fits stands xs)

  pub maybe_stmts_blocks : {A : Type 0} (all : List (Nested A)) (most depth : ℕ) (x : Nested A) → length x ≤ depth → Stands all x → (e : MaybeStmts A) → Keeps all most depth (code_blocks.maybe_stmts_blocks nested x e)
  maybe_stmts_blocks all most depth here fits stands stmt_trees.none = λ few has. tt
  maybe_stmts_blocks all most depth here fits stands (stmt_trees.some b) = stmts_blocks all most depth here fits stands b

  pub branches_blocks : {A : Type 0} (all : List (Nested A)) (most depth : ℕ) (x : Nested A) → length x ≤ depth → Stands all x → (e : Branches A) → Keeps all most depth (code_blocks.branches_blocks nested x e)
  branches_blocks all most depth here fits stands stmt_trees.no_branches = λ few has. tt
  branches_blocks all most depth here fits stands (stmt_trees.branch x b bs) = both all most depth _ _ (both all most depth _ _ (expr_blocks all most depth here fits stands x) (stmts_blocks all most depth here fits stands b)) (branches_blocks all most depth here fits stands bs)

  pub except_blocks : {A : Type 0} (all : List (Nested A)) (most depth : ℕ) (x : Nested A) → length x ≤ depth → Stands all x → (e : Except A) → Keeps all most depth (code_blocks.except_blocks nested x e)
  except_blocks all most depth here fits stands (stmt_trees.an_except x n b) = both all most depth _ _ (option_blocks all most depth here fits stands x) (stmts_blocks all most depth here fits stands b)

  pub excepts_blocks : {A : Type 0} (all : List (Nested A)) (most depth : ℕ) (x : Nested A) → length x ≤ depth → Stands all x → (e : Excepts A) → Keeps all most depth (code_blocks.excepts_blocks nested x e)
  excepts_blocks all most depth here fits stands stmt_trees.no_excepts = λ few has. tt
  excepts_blocks all most depth here fits stands (stmt_trees.except x xs) = both all most depth _ _ (except_blocks all most depth here fits stands x) (excepts_blocks all most depth here fits stands xs)
