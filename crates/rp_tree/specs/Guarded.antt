-- Trees in which no attribute, item, slice, iteration, unpacking, call with a star or augmented assignment stands without its
-- guard mark (RestrictedPython, transformer).
-- Other way: Marks says which mark stands at each site of a rewritten tree.
use Rattle.std.specs.Prelude.{Bool, true, false, ◌&&◌, Option, Some, None, IsTrue}
use Rattle.std.specs.Option.{option_map_or}
use Rattle.std.specs.List.{list_all}
use denote.Enum.Bare.{sameb}
use Rattle.rp_tree.specs.contracts.parts.Guard.{the_type}
use Rattle.rp_tree.specs.declared.parts.Guard.{Guard}
use Rattle.rp_tree.specs.declared.parts.Guard.TheVariants.{GetAttr, GetItem, Write, GetIter, Unpack, IterUnpack, Apply, Inplace}
use Rattle.rp_tree.specs.ExpressionTrees as trees
use Rattle.rp_tree.specs.ExpressionTrees.{Expr, Form, Exprs, Maybe, Pairs, Tests, Ops, Clause, Clauses, Walk, Target, Targets, Place, Params, Plain, Trailer, Trailers, Arg, Args}
use Rattle.rp_tree.specs.StatementTrees as stmt_trees
use Rattle.rp_tree.specs.StatementTrees.{Stmt, StmtForm, Stmts, MaybeStmts, Branches, Except, Excepts}

-- the mark is this one
abbrev pub is_mark : Guard → Option Guard → Bool
is_mark g None = false
is_mark g (Some h) = sameb the_type g h

-- a call with these arguments and this mark is none with a star, or has its mark
abbrev pub is_call_guarded : {A : Type 0} → Args A → Option Guard → Bool
is_call_guarded trees.no_args g = true
is_call_guarded (trees.arg (trees.value e) xs) g = is_call_guarded xs g
is_call_guarded (trees.arg (trees.star e) xs) g = is_mark Apply g
is_call_guarded (trees.arg (trees.key n e) xs) g = is_call_guarded xs g
is_call_guarded (trees.arg (trees.stars e) xs) g = is_mark Apply g

-- the mark of going over an iterable whose elements are assigned to this target
abbrev pub is_walk_marked : {A : Type 0} → Target A → Option Guard → Bool
is_walk_marked (trees.to_place p) g = is_mark GetIter g
is_walk_marked (trees.group ps) g = is_mark IterUnpack g

abbrev mutual
  pub is_expr_guarded : {A : Type 0} → Expr A → Bool
  is_expr_guarded (trees.node l f) = is_form_guarded f

  pub is_form_guarded : {A : Type 0} → Form A → Bool
  is_form_guarded (trees.name n) = true
  is_form_guarded (trees.int n) = true
  is_form_guarded (trees.text x) = true
  is_form_guarded (trees.const x) = true
  is_form_guarded (trees.tuple es) = are_exprs_guarded es
  is_form_guarded (trees.list es) = are_exprs_guarded es
  is_form_guarded (trees.dict ps) = are_pairs_guarded ps
  is_form_guarded (trees.list_of b e cs) = is_expr_guarded e && are_clauses_guarded cs
  is_form_guarded (trees.dict_of b k e cs) = is_expr_guarded k && is_expr_guarded e && are_clauses_guarded cs
  is_form_guarded (trees.lambda b p e) = are_params_guarded p && is_expr_guarded e
  is_form_guarded (trees.cond x y z) = is_expr_guarded x && is_expr_guarded y && is_expr_guarded z
  is_form_guarded (trees.or es) = are_exprs_guarded es
  is_form_guarded (trees.and es) = are_exprs_guarded es
  is_form_guarded (trees.not e) = is_expr_guarded e
  is_form_guarded (trees.compare e os) = is_expr_guarded e && are_tests_guarded os
  is_form_guarded (trees.chain e os) = is_expr_guarded e && are_ops_guarded os
  is_form_guarded (trees.unary u e) = is_expr_guarded e
  is_form_guarded (trees.power x y) = is_expr_guarded x && is_expr_guarded y
  is_form_guarded (trees.primary e xs) = is_expr_guarded e && are_trailers_guarded xs

  pub are_exprs_guarded : {A : Type 0} → Exprs A → Bool
  are_exprs_guarded trees.no_exprs = true
  are_exprs_guarded (trees.expr e es) = is_expr_guarded e && are_exprs_guarded es

  pub is_maybe_guarded : {A : Type 0} → Maybe A → Bool
  is_maybe_guarded trees.none = true
  is_maybe_guarded (trees.some e) = is_expr_guarded e

  pub are_pairs_guarded : {A : Type 0} → Pairs A → Bool
  are_pairs_guarded trees.no_pairs = true
  are_pairs_guarded (trees.pair k e ps) = is_expr_guarded k && is_expr_guarded e && are_pairs_guarded ps

  pub are_tests_guarded : {A : Type 0} → Tests A → Bool
  are_tests_guarded trees.no_tests = true
  are_tests_guarded (trees.test o e os) = is_expr_guarded e && are_tests_guarded os

  pub are_ops_guarded : {A : Type 0} → Ops A → Bool
  are_ops_guarded trees.no_ops = true
  are_ops_guarded (trees.op o e os) = is_expr_guarded e && are_ops_guarded os

  pub is_clause_guarded : {A : Type 0} → Clause A → Bool
  is_clause_guarded (trees.a_clause w es) = is_walk_guarded w && are_exprs_guarded es

  pub are_clauses_guarded : {A : Type 0} → Clauses A → Bool
  are_clauses_guarded trees.no_clauses = true
  are_clauses_guarded (trees.clause x xs) = is_clause_guarded x && are_clauses_guarded xs

  pub is_walk_guarded : {A : Type 0} → Walk A → Bool
  is_walk_guarded (trees.a_walk p e g) = is_target_guarded p && is_expr_guarded e && is_walk_marked p g

  pub is_target_guarded : {A : Type 0} → Target A → Bool
  is_target_guarded (trees.to_place p) = is_place_guarded p
  is_target_guarded (trees.group ps) = are_targets_guarded ps

  pub are_targets_guarded : {A : Type 0} → Targets A → Bool
  are_targets_guarded trees.no_targets = true
  are_targets_guarded (trees.target p ps) = is_target_guarded p && are_targets_guarded ps

  pub is_place_guarded : {A : Type 0} → Place A → Bool
  is_place_guarded (trees.to_name n) = true
  is_place_guarded (trees.to_attr e n g) = is_expr_guarded e && is_mark Write g
  is_place_guarded (trees.to_item e i g) = is_expr_guarded e && is_expr_guarded i && is_mark Write g

  pub are_params_guarded : {A : Type 0} → Params A → Bool
  are_params_guarded (trees.params ps l d) = is_plain_guarded ps

  pub is_plain_guarded : {A : Type 0} → Plain A → Bool
  is_plain_guarded trees.no_plain = true
  is_plain_guarded (trees.plain n e ps) = is_maybe_guarded e && is_plain_guarded ps

  pub is_trailer_guarded : {A : Type 0} → Trailer A → Bool
  is_trailer_guarded (trees.attr n g) = is_mark GetAttr g
  is_trailer_guarded (trees.item e g) = is_expr_guarded e && is_mark GetItem g
  is_trailer_guarded (trees.slice x y z g) = is_maybe_guarded x && is_maybe_guarded y && is_maybe_guarded z && is_mark GetItem g
  is_trailer_guarded (trees.call xs g) = are_args_guarded xs && is_call_guarded xs g

  pub are_trailers_guarded : {A : Type 0} → Trailers A → Bool
  are_trailers_guarded trees.no_trailers = true
  are_trailers_guarded (trees.trailer x xs) = is_trailer_guarded x && are_trailers_guarded xs

  pub is_arg_guarded : {A : Type 0} → Arg A → Bool
  is_arg_guarded (trees.value e) = is_expr_guarded e
  is_arg_guarded (trees.star e) = is_expr_guarded e
  is_arg_guarded (trees.key n e) = is_expr_guarded e
  is_arg_guarded (trees.stars e) = is_expr_guarded e

  pub are_args_guarded : {A : Type 0} → Args A → Bool
  are_args_guarded trees.no_args = true
  are_args_guarded (trees.arg x xs) = is_arg_guarded x && are_args_guarded xs

abbrev mutual
  pub is_stmt_guarded : {A : Type 0} → Stmt A → Bool
  is_stmt_guarded (stmt_trees.a_stmt l x) = is_stmt_form_guarded x

  pub is_stmt_form_guarded : {A : Type 0} → StmtForm A → Bool
  is_stmt_form_guarded (stmt_trees.evaluate e) = is_expr_guarded e
  is_stmt_form_guarded (stmt_trees.assign ps e) = list_all is_place_guarded ps && is_expr_guarded e
  is_stmt_form_guarded (stmt_trees.unpack p e g) = is_target_guarded p && is_expr_guarded e && is_mark Unpack g
  is_stmt_form_guarded (stmt_trees.aug p o at e g) = is_place_guarded p && is_expr_guarded e && is_mark Inplace g
  is_stmt_form_guarded (stmt_trees.del ps) = list_all is_place_guarded ps
  is_stmt_form_guarded stmt_trees.pass = true
  is_stmt_form_guarded stmt_trees.break = true
  is_stmt_form_guarded stmt_trees.continue = true
  is_stmt_form_guarded (stmt_trees.give_back e) = option_map_or is_expr_guarded e true
  is_stmt_form_guarded (stmt_trees.raise e) = option_map_or is_expr_guarded e true
  is_stmt_form_guarded (stmt_trees.assert e m) = is_expr_guarded e && option_map_or is_expr_guarded m true
  is_stmt_form_guarded (stmt_trees.global ns) = true
  is_stmt_form_guarded (stmt_trees.choose bs o) = are_branches_guarded bs && are_maybe_stmts_guarded o
  is_stmt_form_guarded (stmt_trees.while e b) = is_expr_guarded e && are_stmts_guarded b
  is_stmt_form_guarded (stmt_trees.for w b) = is_walk_guarded w && are_stmts_guarded b
  is_stmt_form_guarded (stmt_trees.try b hs o l) = are_stmts_guarded b && are_excepts_guarded hs && are_maybe_stmts_guarded o && are_maybe_stmts_guarded l
  is_stmt_form_guarded (stmt_trees.define k n ps b) = are_params_guarded ps && are_stmts_guarded b
  is_stmt_form_guarded (stmt_trees.class n b) = are_stmts_guarded b

  pub are_stmts_guarded : {A : Type 0} → Stmts A → Bool
  are_stmts_guarded stmt_trees.no_stmts = true
  are_stmts_guarded (stmt_trees.stmt x xs) = is_stmt_guarded x && are_stmts_guarded xs

  pub are_maybe_stmts_guarded : {A : Type 0} → MaybeStmts A → Bool
  are_maybe_stmts_guarded stmt_trees.none = true
  are_maybe_stmts_guarded (stmt_trees.some b) = are_stmts_guarded b

  pub are_branches_guarded : {A : Type 0} → Branches A → Bool
  are_branches_guarded stmt_trees.no_branches = true
  are_branches_guarded (stmt_trees.branch e b bs) = is_expr_guarded e && are_stmts_guarded b && are_branches_guarded bs

  pub is_except_guarded : {A : Type 0} → Except A → Bool
  is_except_guarded (stmt_trees.an_except k n b) = option_map_or is_expr_guarded k true && are_stmts_guarded b

  pub are_excepts_guarded : {A : Type 0} → Excepts A → Bool
  are_excepts_guarded stmt_trees.no_excepts = true
  are_excepts_guarded (stmt_trees.except x xs) = is_except_guarded x && are_excepts_guarded xs

-- a tree in which nothing stands without its mark
abbrev pub Guarded : {A : Type 0} → Stmts A → Type 0
Guarded x = IsTrue (are_stmts_guarded x)
