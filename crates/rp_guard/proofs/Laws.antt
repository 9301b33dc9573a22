-- A tree that is rewritten stands guarded, where each augmented assignment in it is one to a name.
use Rattle.std.proofs.Common.{◌≡◌, List, [], ◌∷◌, map, Option, Some, None, option_map, true, refl, subst}
use Rattle.std.specs.Option.{option_map_or}
use Rattle.std.specs.List.{list_all}
use Rattle.rp_tree.specs.ExpressionTrees as trees
use Rattle.rp_tree.specs.ExpressionTrees.{Expr, Form, Exprs, Maybe, Pairs, Tests, Ops, Clause, Clauses, Walk, Target, Targets, Place, Params, Plain, Trailer, Trailers, Arg, Args}
use Rattle.rp_tree.specs.StatementTrees as stmt_trees
use Rattle.rp_tree.specs.StatementTrees.{Stmt, StmtForm, Stmts, MaybeStmts, Branches, Except, Excepts}
use Rattle.rp_tree.specs.declared.parts.Guard.TheVariants.{Inplace}
use Rattle.rp_tree.specs.Maps as maps
use Rattle.rp_tree.specs.Maps.{call_site, walk_site, inplace_site, inplace_name}
use Rattle.rp_tree.specs.Marks.{table, guard_at, guard, Rewrites}
use Rattle.rp_tree.specs.Guarded as guardedness
use Rattle.rp_tree.specs.Guarded.{Guarded}
use Rattle.rp_tree.proofs.MarkLaws.{rewritten}
use Rattle.rp_tree.specs.Augmented as augments
use Rattle.rp_tree.specs.Augmented.{AugmentsNames}

module _ {A : Type 0} where
  call_marked : (x : Args A) → guardedness.is_call_guarded (maps.map_args table x) (guard_at (call_site x)) ≡ true
  call_marked trees.no_args = refl
  call_marked (trees.arg (trees.value e) xs) = call_marked xs
  call_marked (trees.arg (trees.star e) xs) = refl
  call_marked (trees.arg (trees.key n e) xs) = call_marked xs
  call_marked (trees.arg (trees.stars e) xs) = refl

  walk_mark_set : (x : Target A) → guardedness.is_walk_marked (maps.map_target table x) (guard_at (walk_site x)) ≡ true
  walk_mark_set (trees.to_place p) = refl
  walk_mark_set (trees.group ps) = refl

  mutual
    pub expr_marked : (x : Expr A) → guardedness.is_expr_guarded (maps.map_expr table x) ≡ true
    expr_marked (trees.node l f) = rw (form_marked f) refl

    pub form_marked : (x : Form A) → guardedness.is_form_guarded (maps.map_form table x) ≡ true
    form_marked (trees.name n) = refl
    form_marked (trees.int n) = refl
    form_marked (trees.text x) = refl
    form_marked (trees.const x) = refl
    form_marked (trees.tuple es) = rw (exprs_marked es) refl
    form_marked (trees.list es) = rw (exprs_marked es) refl
    form_marked (trees.dict ps) = rw (pairs_marked ps) refl
    form_marked (trees.list_of b e cs) = rw (expr_marked e, clauses_marked cs) refl
    form_marked (trees.dict_of b k e cs) = rw (expr_marked k, expr_marked e, clauses_marked cs) refl
    form_marked (trees.lambda b p e) = rw (params_marked p, expr_marked e) refl
    form_marked (trees.cond x y z) = rw (expr_marked x, expr_marked y, expr_marked z) refl
    form_marked (trees.or es) = rw (exprs_marked es) refl
    form_marked (trees.and es) = rw (exprs_marked es) refl
    form_marked (trees.not e) = rw (expr_marked e) refl
    form_marked (trees.compare e os) = rw (expr_marked e, tests_marked os) refl
    form_marked (trees.chain e os) = rw (expr_marked e, ops_marked os) refl
    form_marked (trees.unary u e) = rw (expr_marked e) refl
    form_marked (trees.power x y) = rw (expr_marked x, expr_marked y) refl
    form_marked (trees.primary e xs) = rw (expr_marked e, trailers_marked xs) refl

    pub exprs_marked : (x : Exprs A) → guardedness.are_exprs_guarded (maps.map_exprs table x) ≡ true
    exprs_marked trees.no_exprs = refl
    exprs_marked (trees.expr e es) = rw (expr_marked e, exprs_marked es) refl

    pub maybe_marked : (x : Maybe A) → guardedness.is_maybe_guarded (maps.map_maybe table x) ≡ true
    maybe_marked trees.none = refl
    maybe_marked (trees.some e) = rw (expr_marked e) refl

    pub pairs_marked : (x : Pairs A) → guardedness.are_pairs_guarded (maps.map_pairs table x) ≡ true
    pairs_marked trees.no_pairs = refl
    pairs_marked (trees.pair k e ps) = rw (expr_marked k, expr_marked e, pairs_marked ps) refl

    pub tests_marked : (x : Tests A) → guardedness.are_tests_guarded (maps.map_tests table x) ≡ true
    tests_marked trees.no_tests = refl
    tests_marked (trees.test o e os) = rw (expr_marked e, tests_marked os) refl

    pub ops_marked : (x : Ops A) → guardedness.are_ops_guarded (maps.map_ops table x) ≡ true
    ops_marked trees.no_ops = refl
    ops_marked (trees.op o e os) = rw (expr_marked e, ops_marked os) refl

    pub clause_marked : (x : Clause A) → guardedness.is_clause_guarded (maps.map_clause table x) ≡ true
    clause_marked (trees.a_clause w es) = rw (walk_marked w, exprs_marked es) refl

    pub clauses_marked : (x : Clauses A) → guardedness.are_clauses_guarded (maps.map_clauses table x) ≡ true
    clauses_marked trees.no_clauses = refl
    clauses_marked (trees.clause x xs) = rw (clause_marked x, clauses_marked xs) refl

    pub walk_marked : (x : Walk A) → guardedness.is_walk_guarded (maps.map_walk table x) ≡ true
    walk_marked (trees.a_walk p e g) = rw (target_marked p, expr_marked e, walk_mark_set p) refl

    pub target_marked : (x : Target A) → guardedness.is_target_guarded (maps.map_target table x) ≡ true
    target_marked (trees.to_place p) = rw (place_marked p) refl
    target_marked (trees.group ps) = rw (targets_marked ps) refl

    pub targets_marked : (x : Targets A) → guardedness.are_targets_guarded (maps.map_targets table x) ≡ true
    targets_marked trees.no_targets = refl
    targets_marked (trees.target p ps) = rw (target_marked p, targets_marked ps) refl

    pub place_marked : (x : Place A) → guardedness.is_place_guarded (maps.map_place table x) ≡ true
    place_marked (trees.to_name n) = refl
    place_marked (trees.to_attr e n g) = rw (expr_marked e) refl
    place_marked (trees.to_item e i g) = rw (expr_marked e, expr_marked i) refl

    pub params_marked : (x : Params A) → guardedness.are_params_guarded (maps.map_params table x) ≡ true
    params_marked (trees.params ps l d) = rw (plain_marked ps) refl

    pub plain_marked : (x : Plain A) → guardedness.is_plain_guarded (maps.map_plain table x) ≡ true
    plain_marked trees.no_plain = refl
    plain_marked (trees.plain n e ps) = rw (maybe_marked e, plain_marked ps) refl

    pub trailer_marked : (x : Trailer A) → guardedness.is_trailer_guarded (maps.map_trailer table x) ≡ true
    trailer_marked (trees.attr n g) = refl
    trailer_marked (trees.item e g) = rw (expr_marked e) refl
    trailer_marked (trees.slice x y z g) = rw (maybe_marked x, maybe_marked y, maybe_marked z) refl
    trailer_marked (trees.call xs g) = rw (args_marked xs, call_marked xs) refl

    pub trailers_marked : (x : Trailers A) → guardedness.are_trailers_guarded (maps.map_trailers table x) ≡ true
    trailers_marked trees.no_trailers = refl
    trailers_marked (trees.trailer x xs) = rw (trailer_marked x, trailers_marked xs) refl

    pub arg_marked : (x : Arg A) → guardedness.is_arg_guarded (maps.map_arg table x) ≡ true
    arg_marked (trees.value e) = rw (expr_marked e) refl
    arg_marked (trees.star e) = rw (expr_marked e) refl
    arg_marked (trees.key n e) = rw (expr_marked e) refl
    arg_marked (trees.stars e) = rw (expr_marked e) refl

    pub args_marked : (x : Args A) → guardedness.are_args_guarded (maps.map_args table x) ≡ true
    args_marked trees.no_args = refl
    args_marked (trees.arg x xs) = rw (arg_marked x, args_marked xs) refl

  option_marked : (x : Option (Expr A)) → option_map_or guardedness.is_expr_guarded (option_map (maps.map_expr table) x) true ≡ true
  option_marked None = refl
  option_marked (Some e) = expr_marked e

  places_marked : (x : List (Place A)) → list_all guardedness.is_place_guarded (map (maps.map_place table) x) ≡ true
  places_marked [] = refl
  places_marked (p ∷ ps) = rw (place_marked p, places_marked ps) refl

  inplace_marked : (x : Place A) → inplace_site x ≡ inplace_name → guardedness.is_mark Inplace (guard_at (inplace_site x)) ≡ true
  inplace_marked x named = rw named refl

  mutual
    pub stmt_marked : (x : Stmt A) → augments.AugmentsName x → guardedness.is_stmt_guarded (maps.map_stmt table x) ≡ true
    stmt_marked (stmt_trees.a_stmt l x) h = rw (stmt_form_marked x h) refl

    pub stmt_form_marked : (x : StmtForm A) → augments.FormAugmentsNames x → guardedness.is_stmt_form_guarded (maps.map_stmt_form table x) ≡ true
    stmt_form_marked (stmt_trees.evaluate e) h = rw (expr_marked e) refl
    stmt_form_marked (stmt_trees.assign ps e) h = rw (places_marked ps, expr_marked e) refl
    stmt_form_marked (stmt_trees.unpack p e g) h = rw (target_marked p, expr_marked e) refl
    stmt_form_marked (stmt_trees.aug p o at e g) h = rw (place_marked p, expr_marked e, inplace_marked p h) refl
    stmt_form_marked (stmt_trees.del ps) h = rw (places_marked ps) refl
    stmt_form_marked stmt_trees.pass h = refl
    stmt_form_marked stmt_trees.break h = refl
    stmt_form_marked stmt_trees.continue h = refl
    stmt_form_marked (stmt_trees.give_back e) h = rw (option_marked e) refl
    stmt_form_marked (stmt_trees.raise e) h = rw (option_marked e) refl
    stmt_form_marked (stmt_trees.assert e x) h = rw (expr_marked e, option_marked x) refl
    stmt_form_marked (stmt_trees.global ns) h = refl
    stmt_form_marked (stmt_trees.choose bs o) h = rw (branches_marked bs h.0, maybe_stmts_marked o h.1) refl
    stmt_form_marked (stmt_trees.while e b) h = rw (expr_marked e, stmts_marked b h) refl
    stmt_form_marked (stmt_trees.for w b) h = rw (walk_marked w, stmts_marked b h) refl
    stmt_form_marked (stmt_trees.try b hs o l) h = rw (stmts_marked b h.0, excepts_marked hs h.1, maybe_stmts_marked o h.2, maybe_stmts_marked l h.3) refl
    stmt_form_marked (stmt_trees.define k n ps b) h = rw (params_marked ps, stmts_marked b h) refl
    stmt_form_marked (stmt_trees.class n b) h = rw (stmts_marked b h) refl

    pub stmts_marked : (x : Stmts A) → AugmentsNames x → guardedness.are_stmts_guarded (maps.map_stmts table x) ≡ true
    stmts_marked stmt_trees.no_stmts h = refl
    stmts_marked (stmt_trees.stmt x xs) h = rw (stmt_marked x h.0, stmts_marked xs h.1) refl

    pub maybe_stmts_marked : (x : MaybeStmts A) → augments.MaybeAugmentsNames x → guardedness.are_maybe_stmts_guarded (maps.map_maybe_stmts table x) ≡ true
    maybe_stmts_marked stmt_trees.none h = refl
    maybe_stmts_marked (stmt_trees.some b) h = rw (stmts_marked b h) refl

    pub branches_marked : (x : Branches A) → augments.BranchesAugmentNames x → guardedness.are_branches_guarded (maps.map_branches table x) ≡ true
    branches_marked stmt_trees.no_branches h = refl
    branches_marked (stmt_trees.branch e b bs) h = rw (expr_marked e, stmts_marked b h.0, branches_marked bs h.1) refl

    pub except_marked : (x : Except A) → augments.ExceptAugmentsNames x → guardedness.is_except_guarded (maps.map_except table x) ≡ true
    except_marked (stmt_trees.an_except k n b) h = rw (option_marked k, stmts_marked b h) refl

    pub excepts_marked : (x : Excepts A) → augments.ExceptsAugmentNames x → guardedness.are_excepts_guarded (maps.map_excepts table x) ≡ true
    excepts_marked stmt_trees.no_excepts h = refl
    excepts_marked (stmt_trees.except x xs) h = rw (except_marked x h.0, excepts_marked xs h.1) refl

  -- setting the marks of the table leaves nothing without its mark
  pub guarded : (source : Stmts A) → AugmentsNames source → Guarded (guard source)
  guarded source names = stmts_marked source names

  -- a tree that is rewritten stands guarded
  pub rewritten_guarded : (source result : Stmts A) → AugmentsNames source → Rewrites source result → Guarded result
  rewritten_guarded source result names rewrites = subst Guarded (rewritten source result rewrites).1 (guarded source names)
