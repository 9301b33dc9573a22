-- The names that code blocks bind in a changed tree are the changed names, and its code blocks are those of the tree with changed names.
use Rattle.std.proofs.Common.{◌≡◌, ℕ, List, [], ◌∷◌, ◌++◌, map, Option, Some, None, option_map, refl, ap, ◌∙◌}
use Rattle.std.specs.List.{filter_map}
use Rattle.rp_tree.specs.ExpressionTrees as trees
use Rattle.rp_tree.specs.declared.parts.Named.{Named}
use Rattle.rp_tree.specs.ExpressionTrees.{Expr, Form, Exprs, Maybe, Pairs, Tests, Ops, Clause, Clauses, Walk, Target, Targets, Place, Params, Plain, Trailer, Trailers, Arg, Args}
use Rattle.rp_tree.specs.StatementTrees as stmt_trees
use Rattle.rp_tree.specs.StatementTrees.{Stmt, StmtForm, Stmts, MaybeStmts, Branches, Except, Excepts}
use Rattle.rp_tree.specs.Maps as maps
use Rattle.rp_tree.specs.Maps.{Change}
use Rattle.rp_scope.specs.declared.mentions.Mention.{Mention}
use Rattle.rp_scope.specs.declared.mentions.Mention.TheVariants.{Bound, Global, GlobalWithin}
use Rattle.rp_scope.specs.Bindings as bindings
use Rattle.rp_scope.specs.Bindings.{Block, all_bound, bound_name, comprehension_block, function_block, global_name, lambda_block, mentioned_name, within}
use Rattle.rp_scope.specs.Blocks as code_blocks
use Rattle.rp_scope.specs.Blocks.{Telling, Nest, blocks, telling_nests}
use Rattle.rp_scope.proofs.Tellings.{begun, joined}
use Rattle.rp_scope_laws.proofs.Alike.{map_block}

abbrev pub map_mention : {A B : Type 0} → (A → B) → Mention A → Mention B
map_mention f (Bound n) = Bound (f n)
map_mention f (Global n) = Global (f n)
map_mention f (GlobalWithin n) = GlobalWithin (f n)

-- what is told inside of a code block and of it is that of the changed one
pub record Renames {A B X X2 Y Y2 : Type 0} (change : Change A B) (w : Telling A X Y) (v : Telling B X2 Y2) (f : X → X2) (g : Y → Y2) : Type 0 where
  pub inside : (k : ℕ) (block : Block A) (x : X) → f (w.inside k block x) ≡ v.inside (change.block k) (map_block change.name block) (f x)
  pub told : (k : ℕ) (block : Block A) (x : X) → g (w.told k block x) ≡ v.told (change.block k) (map_block change.name block) (f x)

all_bound_named : {A B : Type 0} (f : A → B) (ns : List A) → map (map_mention f) (all_bound ns) ≡ all_bound (map f ns)
all_bound_named f [] = refl
all_bound_named f (n ∷ ns) = ap (λ xs. Bound (f n) ∷ xs) (all_bound_named f ns)

within_named : {A B : Type 0} (f : A → B) (xs : List (Mention A)) → map (map_mention f) (within xs) ≡ within (map (map_mention f) xs)
within_named f [] = refl
within_named f (Bound n ∷ xs) = within_named f xs
within_named f (Global n ∷ xs) = ap (λ ys. GlobalWithin (f n) ∷ ys) (within_named f xs)
within_named f (GlobalWithin n ∷ xs) = ap (λ ys. GlobalWithin (f n) ∷ ys) (within_named f xs)

bound_named : {A B : Type 0} (f : A → B) (xs : List (Mention A)) → map f (filter_map bound_name xs) ≡ filter_map bound_name (map (map_mention f) xs)
bound_named f [] = refl
bound_named f (Bound n ∷ xs) = ap (λ ys. f n ∷ ys) (bound_named f xs)
bound_named f (Global n ∷ xs) = bound_named f xs
bound_named f (GlobalWithin n ∷ xs) = bound_named f xs

global_named : {A B : Type 0} (f : A → B) (xs : List (Mention A)) → map f (filter_map global_name xs) ≡ filter_map global_name (map (map_mention f) xs)
global_named f [] = refl
global_named f (Bound n ∷ xs) = global_named f xs
global_named f (Global n ∷ xs) = ap (λ ys. f n ∷ ys) (global_named f xs)
global_named f (GlobalWithin n ∷ xs) = global_named f xs

mentioned_named : {A B : Type 0} (f : A → B) (xs : List (Mention A)) → map f (map mentioned_name xs) ≡ map mentioned_name (map (map_mention f) xs)
mentioned_named f [] = refl
mentioned_named f (Bound n ∷ xs) = ap (λ ys. f n ∷ ys) (mentioned_named f xs)
mentioned_named f (Global n ∷ xs) = ap (λ ys. f n ∷ ys) (mentioned_named f xs)
mentioned_named f (GlobalWithin n ∷ xs) = ap (λ ys. f n ∷ ys) (mentioned_named f xs)

module _ {A B : Type 0} (change : Change A B) where
  place_named : (e : Place A) → map change.name (bindings.place_names e) ≡ bindings.place_names (maps.map_place change e)
  place_named (trees.to_name n) = refl
  place_named (trees.to_attr x n g) = refl
  place_named (trees.to_item x i g) = refl

  places_named : (e : List (Place A)) → map change.name (bindings.places_names e) ≡ bindings.places_names (map (maps.map_place change) e)
  places_named [] = refl
  places_named (p ∷ ps) = joined change.name _ _ (place_named p) (places_named ps)

  mutual
    target_named : (e : Target A) → map change.name (bindings.target_names e) ≡ bindings.target_names (maps.map_target change e)
    target_named (trees.to_place p) = place_named p
    target_named (trees.group ps) = targets_named ps

    targets_named : (e : Targets A) → map change.name (bindings.targets_names e) ≡ bindings.targets_names (maps.map_targets change e)
    targets_named trees.no_targets = refl
    targets_named (trees.target p ps) = joined change.name _ _ (target_named p) (targets_named ps)

  walk_named : (e : Walk A) → map change.name (bindings.walk_names e) ≡ bindings.walk_names (maps.map_walk change e)
  walk_named (trees.a_walk p x g) = target_named p

  clause_named : (e : Clause A) → map change.name (bindings.clause_names e) ≡ bindings.clause_names (maps.map_clause change e)
  clause_named (trees.a_clause w es) = walk_named w

  clauses_named : (e : Clauses A) → map change.name (bindings.clauses_names e) ≡ bindings.clauses_names (maps.map_clauses change e)
  clauses_named trees.no_clauses = refl
  clauses_named (trees.clause c cs) = joined change.name _ _ (clause_named c) (clauses_named cs)

  option_named : (e : Option (Named A)) → map change.name (bindings.option_names e) ≡ bindings.option_names (option_map (maps.map_named change) e)
  option_named None = refl
  option_named (Some n) = refl

  plain_named : (e : Plain A) → map change.name (bindings.plain_names e) ≡ bindings.plain_names (maps.map_plain change e)
  plain_named trees.no_plain = refl
  plain_named (trees.plain n x ps) = ap (λ ns. change.name n.name ∷ ns) (plain_named ps)

  params_named : (e : Params A) → map change.name (bindings.params_names e) ≡ bindings.params_names (maps.map_params change e)
  params_named (trees.params ps l d) = joined change.name _ _ (joined change.name _ _ (plain_named ps) (option_named l)) (option_named d)

  globals_named : (e : List (Named A)) → map (map_mention change.name) (map (λ n. Global n.name) e) ≡ map (λ n. Global n.name) (map (maps.map_named change) e)
  globals_named [] = refl
  globals_named (n ∷ ns) = ap (λ xs. Global (change.name n.name) ∷ xs) (globals_named ns)

  bound_in : (ns : List A) (ms : List B) → map change.name ns ≡ ms → map (map_mention change.name) (all_bound ns) ≡ all_bound ms
  bound_in ns ms e = all_bound_named change.name ns ∙ ap all_bound e

  defined_in : (n : Named A) (xs : List (Mention A)) (ys : List (Mention B)) → map (map_mention change.name) xs ≡ ys
      → map (map_mention change.name) (Bound n.name ∷ within xs) ≡ Bound (change.name n.name) ∷ within ys
  defined_in n xs ys e = ap (λ zs. Bound (change.name n.name) ∷ zs) (within_named change.name xs ∙ ap within e)

  mutual
    stmt_mentioned : (e : Stmt A) → map (map_mention change.name) (bindings.stmt_mentions e) ≡ bindings.stmt_mentions (maps.map_stmt change e)
    stmt_mentioned (stmt_trees.a_stmt line x) = form_mentioned x

    form_mentioned : (e : StmtForm A) → map (map_mention change.name) (bindings.form_mentions e) ≡ bindings.form_mentions (maps.map_stmt_form change e)
    form_mentioned (stmt_trees.evaluate x) = refl
    form_mentioned (stmt_trees.assign ps x) = bound_in _ _ (places_named ps)
    form_mentioned (stmt_trees.unpack p x g) = bound_in _ _ (target_named p)
    form_mentioned (stmt_trees.aug p o at x g) = bound_in _ _ (place_named p)
    form_mentioned (stmt_trees.del ps) = bound_in _ _ (places_named ps)
    form_mentioned stmt_trees.pass = refl
    form_mentioned stmt_trees.break = refl
    form_mentioned stmt_trees.continue = refl
    form_mentioned (stmt_trees.give_back x) = refl
    form_mentioned (stmt_trees.raise x) = refl
    form_mentioned (stmt_trees.assert x m) = refl
    form_mentioned (stmt_trees.global ns) = globals_named ns
    form_mentioned (stmt_trees.choose bs o) = joined (map_mention change.name) _ _ (branches_mentioned bs) (maybe_mentioned o)
    form_mentioned (stmt_trees.while x b) = stmts_mentioned b
    form_mentioned (stmt_trees.for w b) = joined (map_mention change.name) _ _ (bound_in _ _ (walk_named w)) (stmts_mentioned b)
    form_mentioned (stmt_trees.try b hs o l) = joined (map_mention change.name) _ _ (joined (map_mention change.name) _ _ (joined (map_mention change.name) _ _ (stmts_mentioned b) (excepts_mentioned hs)) (maybe_mentioned o)) (maybe_mentioned l)
    form_mentioned (stmt_trees.define k n ps b) = defined_in n _ _ (stmts_mentioned b)
    form_mentioned (stmt_trees.class n b) = defined_in n _ _ (stmts_mentioned b)

    pub stmts_mentioned : (e : Stmts A) → map (map_mention change.name) (bindings.stmts_mentions e) ≡ bindings.stmts_mentions (maps.map_stmts change e)
    stmts_mentioned stmt_trees.no_stmts = refl
    stmts_mentioned (stmt_trees.stmt x xs) = joined (map_mention change.name) _ _ (stmt_mentioned x) (stmts_mentioned xs)

    maybe_mentioned : (e : MaybeStmts A) → map (map_mention change.name) (bindings.maybe_mentions e) ≡ bindings.maybe_mentions (maps.map_maybe_stmts change e)
    maybe_mentioned stmt_trees.none = refl
    maybe_mentioned (stmt_trees.some b) = stmts_mentioned b

    branches_mentioned : (e : Branches A) → map (map_mention change.name) (bindings.branches_mentions e) ≡ bindings.branches_mentions (maps.map_branches change e)
    branches_mentioned stmt_trees.no_branches = refl
    branches_mentioned (stmt_trees.branch x b bs) = joined (map_mention change.name) _ _ (stmts_mentioned b) (branches_mentioned bs)

    except_mentioned : (e : Except A) → map (map_mention change.name) (bindings.except_mentions e) ≡ bindings.except_mentions (maps.map_except change e)
    except_mentioned (stmt_trees.an_except x n b) = joined (map_mention change.name) _ _ (bound_in _ _ (option_named n)) (stmts_mentioned b)

    excepts_mentioned : (e : Excepts A) → map (map_mention change.name) (bindings.excepts_mentions e) ≡ bindings.excepts_mentions (maps.map_excepts change e)
    excepts_mentioned stmt_trees.no_excepts = refl
    excepts_mentioned (stmt_trees.except x xs) = joined (map_mention change.name) _ _ (except_mentioned x) (excepts_mentioned xs)

  pub program_named : (first : List A) (x : Stmts A) → map change.name (bindings.program_names first x) ≡ bindings.program_names (map change.name first) (maps.map_stmts change x)
  program_named first x =
      joined change.name first (map mentioned_name (bindings.stmts_mentions x)) refl (mentioned_named change.name (bindings.stmts_mentions x) ∙ ap (map mentioned_name) (stmts_mentioned x))

  function_named : (ps : Params A) (x : Stmts A) → map_block change.name (function_block ps x) ≡ function_block (maps.map_params change ps) (maps.map_stmts change x)
  function_named ps x =
      let bound = joined change.name _ _ (params_named ps) (bound_named change.name (bindings.stmts_mentions x) ∙ ap (filter_map bound_name) (stmts_mentioned x)) in
      let listed = global_named change.name (bindings.stmts_mentions x) ∙ ap (filter_map global_name) (stmts_mentioned x) in
      λ i. record { names = bound i; globals = listed i }

  lambda_named : (ps : Params A) → map_block change.name (lambda_block ps) ≡ lambda_block (maps.map_params change ps)
  lambda_named ps = let bound = params_named ps in λ i. record { names = bound i; globals = [] }

  comprehension_named : (cs : Clauses A) → map_block change.name (comprehension_block cs) ≡ comprehension_block (maps.map_clauses change cs)
  comprehension_named cs = let bound = clauses_named cs in λ i. record { names = bound i; globals = [] }

  module _ {X X2 Y Y2 : Type 0} (one : Telling A X Y) (other : Telling B X2 Y2) (on : X → X2) (to : Y → Y2) (renames : Renames change one other on to) where
    told_named : (n : ℕ) (block : Block A) (block2 : Block B) → map_block change.name block ≡ block2 → (here : X) (here2 : X2) → on here ≡ here2
        → to (one.told n block here) ≡ other.told (change.block n) block2 here2
    told_named n block block2 e here here2 same = renames.told n block here ∙ (λ i. other.told (change.block n) (e i) (same i))

    inside_named : (n : ℕ) (block : Block A) (block2 : Block B) → map_block change.name block ≡ block2 → (here : X) (here2 : X2) → on here ≡ here2
        → on (one.inside n block here) ≡ other.inside (change.block n) block2 here2
    inside_named n block block2 e here here2 same = renames.inside n block here ∙ (λ i. other.inside (change.block n) (e i) (same i))

    mutual
      expr_renamed : (x : X) (x2 : X2) → on x ≡ x2 → (e : Expr A) → map to (code_blocks.expr_blocks one x e) ≡ code_blocks.expr_blocks other x2 (maps.map_expr change e)
      expr_renamed here here2 same (trees.node line x) = form_renamed here here2 same x

      form_renamed : (x : X) (x2 : X2) → on x ≡ x2 → (e : Form A) → map to (code_blocks.form_blocks one x e) ≡ code_blocks.form_blocks other x2 (maps.map_form change e)
      form_renamed here here2 same (trees.name n) = refl
      form_renamed here here2 same (trees.int z) = refl
      form_renamed here here2 same (trees.text x) = refl
      form_renamed here here2 same (trees.const c) = refl
      form_renamed here here2 same (trees.tuple es) = exprs_renamed here here2 same es
      form_renamed here here2 same (trees.list es) = exprs_renamed here here2 same es
      form_renamed here here2 same (trees.dict ps) = pairs_renamed here here2 same ps
      form_renamed here here2 same (trees.list_of n x cs) = begun to _ _ (told_named n (comprehension_block cs) (comprehension_block (maps.map_clauses change cs)) (comprehension_named cs) here here2 same) (joined to _ _ (expr_renamed (one.inside n (comprehension_block cs) here) (other.inside (change.block n) (comprehension_block (maps.map_clauses change cs)) here2) (inside_named n (comprehension_block cs) (comprehension_block (maps.map_clauses change cs)) (comprehension_named cs) here here2 same) x) (clauses_renamed here (one.inside n (comprehension_block cs) here) here2 (other.inside (change.block n) (comprehension_block (maps.map_clauses change cs)) here2) same (inside_named n (comprehension_block cs) (comprehension_block (maps.map_clauses change cs)) (comprehension_named cs) here here2 same) cs))
      form_renamed here here2 same (trees.dict_of n k x cs) = begun to _ _ (told_named n (comprehension_block cs) (comprehension_block (maps.map_clauses change cs)) (comprehension_named cs) here here2 same) (joined to _ _ (joined to _ _ (expr_renamed (one.inside n (comprehension_block cs) here) (other.inside (change.block n) (comprehension_block (maps.map_clauses change cs)) here2) (inside_named n (comprehension_block cs) (comprehension_block (maps.map_clauses change cs)) (comprehension_named cs) here here2 same) k) (expr_renamed (one.inside n (comprehension_block cs) here) (other.inside (change.block n) (comprehension_block (maps.map_clauses change cs)) here2) (inside_named n (comprehension_block cs) (comprehension_block (maps.map_clauses change cs)) (comprehension_named cs) here here2 same) x)) (clauses_renamed here (one.inside n (comprehension_block cs) here) here2 (other.inside (change.block n) (comprehension_block (maps.map_clauses change cs)) here2) same (inside_named n (comprehension_block cs) (comprehension_block (maps.map_clauses change cs)) (comprehension_named cs) here here2 same) cs))
      form_renamed here here2 same (trees.lambda n ps x) = begun to _ _ (told_named n (lambda_block ps) (lambda_block (maps.map_params change ps)) (lambda_named ps) here here2 same) (joined to _ _ (params_renamed here here2 same ps) (expr_renamed (one.inside n (lambda_block ps) here) (other.inside (change.block n) (lambda_block (maps.map_params change ps)) here2) (inside_named n (lambda_block ps) (lambda_block (maps.map_params change ps)) (lambda_named ps) here here2 same) x))
      form_renamed here here2 same (trees.cond x a b) = joined to _ _ (joined to _ _ (expr_renamed here here2 same a) (expr_renamed here here2 same x)) (expr_renamed here here2 same b)
      form_renamed here here2 same (trees.or es) = exprs_renamed here here2 same es
      form_renamed here here2 same (trees.and es) = exprs_renamed here here2 same es
      form_renamed here here2 same (trees.not x) = expr_renamed here here2 same x
      form_renamed here here2 same (trees.compare x ts) = joined to _ _ (expr_renamed here here2 same x) (tests_renamed here here2 same ts)
      form_renamed here here2 same (trees.chain x os) = joined to _ _ (expr_renamed here here2 same x) (ops_renamed here here2 same os)
      form_renamed here here2 same (trees.unary u x) = expr_renamed here here2 same x
      form_renamed here here2 same (trees.power a b) = joined to _ _ (expr_renamed here here2 same a) (expr_renamed here here2 same b)
      form_renamed here here2 same (trees.primary x ts) = joined to _ _ (expr_renamed here here2 same x) (trailers_renamed here here2 same ts)

      exprs_renamed : (x : X) (x2 : X2) → on x ≡ x2 → (e : Exprs A) → map to (code_blocks.exprs_blocks one x e) ≡ code_blocks.exprs_blocks other x2 (maps.map_exprs change e)
      exprs_renamed here here2 same trees.no_exprs = refl
      exprs_renamed here here2 same (trees.expr x xs) = joined to _ _ (expr_renamed here here2 same x) (exprs_renamed here here2 same xs)

      maybe_renamed : (x : X) (x2 : X2) → on x ≡ x2 → (e : Maybe A) → map to (code_blocks.maybe_blocks one x e) ≡ code_blocks.maybe_blocks other x2 (maps.map_maybe change e)
      maybe_renamed here here2 same trees.none = refl
      maybe_renamed here here2 same (trees.some x) = expr_renamed here here2 same x

      pairs_renamed : (x : X) (x2 : X2) → on x ≡ x2 → (e : Pairs A) → map to (code_blocks.pairs_blocks one x e) ≡ code_blocks.pairs_blocks other x2 (maps.map_pairs change e)
      pairs_renamed here here2 same trees.no_pairs = refl
      pairs_renamed here here2 same (trees.pair k x ps) = joined to _ _ (joined to _ _ (expr_renamed here here2 same k) (expr_renamed here here2 same x)) (pairs_renamed here here2 same ps)

      tests_renamed : (x : X) (x2 : X2) → on x ≡ x2 → (e : Tests A) → map to (code_blocks.tests_blocks one x e) ≡ code_blocks.tests_blocks other x2 (maps.map_tests change e)
      tests_renamed here here2 same trees.no_tests = refl
      tests_renamed here here2 same (trees.test o x ts) = joined to _ _ (expr_renamed here here2 same x) (tests_renamed here here2 same ts)

      ops_renamed : (x : X) (x2 : X2) → on x ≡ x2 → (e : Ops A) → map to (code_blocks.ops_blocks one x e) ≡ code_blocks.ops_blocks other x2 (maps.map_ops change e)
      ops_renamed here here2 same trees.no_ops = refl
      ops_renamed here here2 same (trees.op o x os) = joined to _ _ (expr_renamed here here2 same x) (ops_renamed here here2 same os)

      clauses_renamed : (x y : X) (x2 y2 : X2) → on x ≡ x2 → on y ≡ y2 → (e : Clauses A) → map to (code_blocks.clauses_blocks one x y e) ≡ code_blocks.clauses_blocks other x2 y2 (maps.map_clauses change e)
      clauses_renamed here inner here2 inner2 same same_inner trees.no_clauses = refl
      clauses_renamed here inner here2 inner2 same same_inner (trees.clause c cs) = joined to _ _ (clause_renamed here inner here2 inner2 same same_inner c) (clauses_renamed inner inner inner2 inner2 same_inner same_inner cs)

      clause_renamed : (x y : X) (x2 y2 : X2) → on x ≡ x2 → on y ≡ y2 → (e : Clause A) → map to (code_blocks.clause_blocks one x y e) ≡ code_blocks.clause_blocks other x2 y2 (maps.map_clause change e)
      clause_renamed here inner here2 inner2 same same_inner (trees.a_clause w es) = joined to _ _ (walk_renamed here inner here2 inner2 same same_inner w) (exprs_renamed inner inner2 same_inner es)

      walk_renamed : (x y : X) (x2 y2 : X2) → on x ≡ x2 → on y ≡ y2 → (e : Walk A) → map to (code_blocks.walk_blocks one x y e) ≡ code_blocks.walk_blocks other x2 y2 (maps.map_walk change e)
      walk_renamed here inner here2 inner2 same same_inner (trees.a_walk p x g) = joined to _ _ (target_renamed inner inner2 same_inner p) (expr_renamed here here2 same x)

      target_renamed : (x : X) (x2 : X2) → on x ≡ x2 → (e : Target A) → map to (code_blocks.target_blocks one x e) ≡ code_blocks.target_blocks other x2 (maps.map_target change e)
      target_renamed here here2 same (trees.to_place p) = place_renamed here here2 same p
      target_renamed here here2 same (trees.group ps) = targets_renamed here here2 same ps

      targets_renamed : (x : X) (x2 : X2) → on x ≡ x2 → (e : Targets A) → map to (code_blocks.targets_blocks one x e) ≡ code_blocks.targets_blocks other x2 (maps.map_targets change e)
      targets_renamed here here2 same trees.no_targets = refl
      targets_renamed here here2 same (trees.target p ps) = joined to _ _ (target_renamed here here2 same p) (targets_renamed here here2 same ps)

      place_renamed : (x : X) (x2 : X2) → on x ≡ x2 → (e : Place A) → map to (code_blocks.place_blocks one x e) ≡ code_blocks.place_blocks other x2 (maps.map_place change e)
      place_renamed here here2 same (trees.to_name n) = refl
      place_renamed here here2 same (trees.to_attr x n g) = expr_renamed here here2 same x
      place_renamed here here2 same (trees.to_item x i g) = joined to _ _ (expr_renamed here here2 same x) (expr_renamed here here2 same i)

      params_renamed : (x : X) (x2 : X2) → on x ≡ x2 → (e : Params A) → map to (code_blocks.params_blocks one x e) ≡ code_blocks.params_blocks other x2 (maps.map_params change e)
      params_renamed here here2 same (trees.params ps l d) = plain_renamed here here2 same ps

      plain_renamed : (x : X) (x2 : X2) → on x ≡ x2 → (e : Plain A) → map to (code_blocks.plain_blocks one x e) ≡ code_blocks.plain_blocks other x2 (maps.map_plain change e)
      plain_renamed here here2 same trees.no_plain = refl
      plain_renamed here here2 same (trees.plain n x ps) = joined to _ _ (maybe_renamed here here2 same x) (plain_renamed here here2 same ps)

      trailer_renamed : (x : X) (x2 : X2) → on x ≡ x2 → (e : Trailer A) → map to (code_blocks.trailer_blocks one x e) ≡ code_blocks.trailer_blocks other x2 (maps.map_trailer change e)
      trailer_renamed here here2 same (trees.attr n g) = refl
      trailer_renamed here here2 same (trees.item x g) = expr_renamed here here2 same x
      trailer_renamed here here2 same (trees.slice a b c g) = joined to _ _ (joined to _ _ (maybe_renamed here here2 same a) (maybe_renamed here here2 same b)) (maybe_renamed here here2 same c)
      trailer_renamed here here2 same (trees.call xs g) = args_renamed here here2 same xs

      trailers_renamed : (x : X) (x2 : X2) → on x ≡ x2 → (e : Trailers A) → map to (code_blocks.trailers_blocks one x e) ≡ code_blocks.trailers_blocks other x2 (maps.map_trailers change e)
      trailers_renamed here here2 same trees.no_trailers = refl
      trailers_renamed here here2 same (trees.trailer x xs) = joined to _ _ (trailer_renamed here here2 same x) (trailers_renamed here here2 same xs)

      arg_renamed : (x : X) (x2 : X2) → on x ≡ x2 → (e : Arg A) → map to (code_blocks.arg_blocks one x e) ≡ code_blocks.arg_blocks other x2 (maps.map_arg change e)
      arg_renamed here here2 same (trees.value x) = expr_renamed here here2 same x
      arg_renamed here here2 same (trees.star x) = expr_renamed here here2 same x
      arg_renamed here here2 same (trees.key n x) = expr_renamed here here2 same x
      arg_renamed here here2 same (trees.stars x) = expr_renamed here here2 same x

      args_renamed : (x : X) (x2 : X2) → on x ≡ x2 → (e : Args A) → map to (code_blocks.args_blocks one x e) ≡ code_blocks.args_blocks other x2 (maps.map_args change e)
      args_renamed here here2 same trees.no_args = refl
      args_renamed here here2 same (trees.arg x xs) = joined to _ _ (arg_renamed here here2 same x) (args_renamed here here2 same xs)

    option_renamed : (x : X) (x2 : X2) → on x ≡ x2 → (e : Option (Expr A)) → map to (code_blocks.option_blocks one x e) ≡ code_blocks.option_blocks other x2 (option_map (maps.map_expr change) e)
    option_renamed here here2 same None = refl
    option_renamed here here2 same (Some x) = expr_renamed here here2 same x

    places_renamed : (x : X) (x2 : X2) → on x ≡ x2 → (e : List (Place A)) → map to (code_blocks.places_blocks one x e) ≡ code_blocks.places_blocks other x2 (map (maps.map_place change) e)
    places_renamed here here2 same [] = refl
    places_renamed here here2 same (p ∷ ps) = joined to _ _ (place_renamed here here2 same p) (places_renamed here here2 same ps)

    mutual
      stmt_renamed : (x : X) (x2 : X2) → on x ≡ x2 → (e : Stmt A) → map to (code_blocks.stmt_blocks one x e) ≡ code_blocks.stmt_blocks other x2 (maps.map_stmt change e)
      stmt_renamed here here2 same (stmt_trees.a_stmt line x) = stmt_form_renamed here here2 same x

      stmt_form_renamed : (x : X) (x2 : X2) → on x ≡ x2 → (e : StmtForm A) → map to (code_blocks.stmt_form_blocks one x e) ≡ code_blocks.stmt_form_blocks other x2 (maps.map_stmt_form change e)
      stmt_form_renamed here here2 same (stmt_trees.evaluate x) = expr_renamed here here2 same x
      stmt_form_renamed here here2 same (stmt_trees.assign ps x) = joined to _ _ (places_renamed here here2 same ps) (expr_renamed here here2 same x)
      stmt_form_renamed here here2 same (stmt_trees.unpack p x g) = joined to _ _ (target_renamed here here2 same p) (expr_renamed here here2 same x)
      stmt_form_renamed here here2 same (stmt_trees.aug p o at x g) = joined to _ _ (place_renamed here here2 same p) (expr_renamed here here2 same x)
      stmt_form_renamed here here2 same (stmt_trees.del ps) = places_renamed here here2 same ps
      stmt_form_renamed here here2 same stmt_trees.pass = refl
      stmt_form_renamed here here2 same stmt_trees.break = refl
      stmt_form_renamed here here2 same stmt_trees.continue = refl
      stmt_form_renamed here here2 same (stmt_trees.give_back x) = option_renamed here here2 same x
      stmt_form_renamed here here2 same (stmt_trees.raise x) = option_renamed here here2 same x
      stmt_form_renamed here here2 same (stmt_trees.assert x m) = joined to _ _ (expr_renamed here here2 same x) (option_renamed here here2 same m)
      stmt_form_renamed here here2 same (stmt_trees.global ns) = refl
      stmt_form_renamed here here2 same (stmt_trees.choose bs o) = joined to _ _ (branches_renamed here here2 same bs) (maybe_stmts_renamed here here2 same o)
      stmt_form_renamed here here2 same (stmt_trees.while x b) = joined to _ _ (expr_renamed here here2 same x) (stmts_renamed here here2 same b)
      stmt_form_renamed here here2 same (stmt_trees.for w b) = joined to _ _ (walk_renamed here here here2 here2 same same w) (stmts_renamed here here2 same b)
      stmt_form_renamed here here2 same (stmt_trees.try b hs o l) = joined to _ _ (joined to _ _ (joined to _ _ (stmts_renamed here here2 same b) (excepts_renamed here here2 same hs)) (maybe_stmts_renamed here here2 same o)) (maybe_stmts_renamed here here2 same l)
      stmt_form_renamed here here2 same (stmt_trees.define n name ps b) = begun to _ _ (told_named n (function_block ps b) (function_block (maps.map_params change ps) (maps.map_stmts change b)) (function_named ps b) here here2 same) (joined to _ _ (params_renamed here here2 same ps) (stmts_renamed (one.inside n (function_block ps b) here) (other.inside (change.block n) (function_block (maps.map_params change ps) (maps.map_stmts change b)) here2) (inside_named n (function_block ps b) (function_block (maps.map_params change ps) (maps.map_stmts change b)) (function_named ps b) here here2 same) b))
      stmt_form_renamed here here2 same (stmt_trees.class name b) = stmts_renamed here here2 same b

      stmts_renamed : (x : X) (x2 : X2) → on x ≡ x2 → (e : Stmts A) → map to (code_blocks.stmts_blocks one x e) ≡ code_blocks.stmts_blocks other x2 (maps.map_stmts change e)
      stmts_renamed here here2 same stmt_trees.no_stmts = refl
      stmts_renamed here here2 same (stmt_trees.stmt x xs) = joined to _ _ (stmt_renamed here here2 same x) (stmts_renamed here here2 same xs)

      maybe_stmts_renamed : (x : X) (x2 : X2) → on x ≡ x2 → (e : MaybeStmts A) → map to (code_blocks.maybe_stmts_blocks one x e) ≡ code_blocks.maybe_stmts_blocks other x2 (maps.map_maybe_stmts change e)
      maybe_stmts_renamed here here2 same stmt_trees.none = refl
      maybe_stmts_renamed here here2 same (stmt_trees.some b) = stmts_renamed here here2 same b

      branches_renamed : (x : X) (x2 : X2) → on x ≡ x2 → (e : Branches A) → map to (code_blocks.branches_blocks one x e) ≡ code_blocks.branches_blocks other x2 (maps.map_branches change e)
      branches_renamed here here2 same stmt_trees.no_branches = refl
      branches_renamed here here2 same (stmt_trees.branch x b bs) = joined to _ _ (joined to _ _ (expr_renamed here here2 same x) (stmts_renamed here here2 same b)) (branches_renamed here here2 same bs)

      except_renamed : (x : X) (x2 : X2) → on x ≡ x2 → (e : Except A) → map to (code_blocks.except_blocks one x e) ≡ code_blocks.except_blocks other x2 (maps.map_except change e)
      except_renamed here here2 same (stmt_trees.an_except x n b) = joined to _ _ (option_renamed here here2 same x) (stmts_renamed here here2 same b)

      excepts_renamed : (x : X) (x2 : X2) → on x ≡ x2 → (e : Excepts A) → map to (code_blocks.excepts_blocks one x e) ≡ code_blocks.excepts_blocks other x2 (maps.map_excepts change e)
      excepts_renamed here here2 same stmt_trees.no_excepts = refl
      excepts_renamed here here2 same (stmt_trees.except x xs) = joined to _ _ (except_renamed here here2 same x) (excepts_renamed here here2 same xs)

-- each nest of a tree whose names are changed is a nest of the tree, with its names changed
pub blocks_named : {A B : Type 0} (f : A → B) (x : Stmts A) → map (λ block. (block.0, map (map_block f) block.1)) (blocks x) ≡ blocks (maps.named f x)
blocks_named f x =
    stmts_renamed (maps.names_by f) telling_nests telling_nests (map (map_block f)) (λ block. (block.0, map (map_block f) block.1)) (record { inside = λ k block y. refl; told = λ k block y. refl }) [] [] refl x
