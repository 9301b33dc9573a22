-- Laws of the map over trees: one map after another is one map.
use Rattle.std.proofs.Common.{◌≡◌, List, [], ◌∷◌, map, Option, Some, None, option_map, refl}
use Rattle.rp_tree.specs.ExpressionTrees as trees
use Rattle.rp_tree.specs.ExpressionTrees.{Named, Expr, Form, Exprs, Maybe, Pairs, Tests, Ops, Clause, Clauses, Walk, Target, Targets, Place, Params, Plain, Trailer, Trailers, Arg, Args}
use Rattle.rp_tree.specs.StatementTrees as stmt_trees
use Rattle.rp_tree.specs.StatementTrees.{Stmt, StmtForm, Stmts, MaybeStmts, Branches, Except, Excepts}
use Rattle.rp_tree.specs.Maps as maps
use Rattle.rp_tree.specs.Maps.{Change, after, call_site, walk_site, inplace_site}

-- a map leaves the sites as they are

pub walk_same : {A B : Type 0} (c : Change A B) (x : Target A) → walk_site (maps.map_target c x) ≡ walk_site x
walk_same c (trees.to_place p) = refl
walk_same c (trees.group ps) = refl

pub inplace_same : {A B : Type 0} (c : Change A B) (x : Place A) → inplace_site (maps.map_place c x) ≡ inplace_site x
inplace_same c (trees.to_name n) = refl
inplace_same c (trees.to_attr e n g) = refl
inplace_same c (trees.to_item e i g) = refl

pub call_same : {A B : Type 0} (c : Change A B) (x : Args A) → call_site (maps.map_args c x) ≡ call_site x
call_same c trees.no_args = refl
call_same c (trees.arg (trees.value e) xs) = call_same c xs
call_same c (trees.arg (trees.star e) xs) = refl
call_same c (trees.arg (trees.key n e) xs) = call_same c xs
call_same c (trees.arg (trees.stars e) xs) = refl

module _ {A B C : Type 0} (c : Change A B) (d : Change B C) where
  -- names

  names_option_after : (x : Option (Named A)) → option_map (maps.map_named d) (option_map (maps.map_named c) x) ≡ option_map (maps.map_named (after c d)) x
  names_option_after None = refl
  names_option_after (Some n) = refl

  names_after : (x : List (Named A)) → map (maps.map_named d) (map (maps.map_named c) x) ≡ map (maps.map_named (after c d)) x
  names_after [] = refl
  names_after (n ∷ ns) = rw (names_after ns) refl

  -- expressions

  mutual
    pub expr_after : (x : Expr A) → maps.map_expr d (maps.map_expr c x) ≡ maps.map_expr (after c d) x
    expr_after (trees.node l f) = rw (form_after f) refl

    pub form_after : (x : Form A) → maps.map_form d (maps.map_form c x) ≡ maps.map_form (after c d) x
    form_after (trees.name n) = refl
    form_after (trees.int n) = refl
    form_after (trees.text x) = refl
    form_after (trees.const x) = refl
    form_after (trees.tuple es) = rw (exprs_after es) refl
    form_after (trees.list es) = rw (exprs_after es) refl
    form_after (trees.dict ps) = rw (pairs_after ps) refl
    form_after (trees.list_of b e cs) = rw (expr_after e, clauses_after cs) refl
    form_after (trees.dict_of b k e cs) = rw (expr_after k, expr_after e, clauses_after cs) refl
    form_after (trees.lambda b p e) = rw (params_after p, expr_after e) refl
    form_after (trees.cond x y z) = rw (expr_after x, expr_after y, expr_after z) refl
    form_after (trees.or es) = rw (exprs_after es) refl
    form_after (trees.and es) = rw (exprs_after es) refl
    form_after (trees.not e) = rw (expr_after e) refl
    form_after (trees.compare e os) = rw (expr_after e, tests_after os) refl
    form_after (trees.chain e os) = rw (expr_after e, ops_after os) refl
    form_after (trees.unary u e) = rw (expr_after e) refl
    form_after (trees.power x y) = rw (expr_after x, expr_after y) refl
    form_after (trees.primary e xs) = rw (expr_after e, trailers_after xs) refl

    pub exprs_after : (x : Exprs A) → maps.map_exprs d (maps.map_exprs c x) ≡ maps.map_exprs (after c d) x
    exprs_after trees.no_exprs = refl
    exprs_after (trees.expr e es) = rw (expr_after e, exprs_after es) refl

    pub maybe_after : (x : Maybe A) → maps.map_maybe d (maps.map_maybe c x) ≡ maps.map_maybe (after c d) x
    maybe_after trees.none = refl
    maybe_after (trees.some e) = rw (expr_after e) refl

    pub pairs_after : (x : Pairs A) → maps.map_pairs d (maps.map_pairs c x) ≡ maps.map_pairs (after c d) x
    pairs_after trees.no_pairs = refl
    pairs_after (trees.pair k e ps) = rw (expr_after k, expr_after e, pairs_after ps) refl

    pub tests_after : (x : Tests A) → maps.map_tests d (maps.map_tests c x) ≡ maps.map_tests (after c d) x
    tests_after trees.no_tests = refl
    tests_after (trees.test o e os) = rw (expr_after e, tests_after os) refl

    pub ops_after : (x : Ops A) → maps.map_ops d (maps.map_ops c x) ≡ maps.map_ops (after c d) x
    ops_after trees.no_ops = refl
    ops_after (trees.op o e os) = rw (expr_after e, ops_after os) refl

    pub clause_after : (x : Clause A) → maps.map_clause d (maps.map_clause c x) ≡ maps.map_clause (after c d) x
    clause_after (trees.a_clause w es) = rw (walk_after w, exprs_after es) refl

    pub clauses_after : (x : Clauses A) → maps.map_clauses d (maps.map_clauses c x) ≡ maps.map_clauses (after c d) x
    clauses_after trees.no_clauses = refl
    clauses_after (trees.clause x xs) = rw (clause_after x, clauses_after xs) refl

    pub walk_after : (x : Walk A) → maps.map_walk d (maps.map_walk c x) ≡ maps.map_walk (after c d) x
    walk_after (trees.a_walk p e g) = rw (target_after p, expr_after e, walk_same c p) refl

    pub target_after : (x : Target A) → maps.map_target d (maps.map_target c x) ≡ maps.map_target (after c d) x
    target_after (trees.to_place p) = rw (place_after p) refl
    target_after (trees.group ps) = rw (targets_after ps) refl

    pub targets_after : (x : Targets A) → maps.map_targets d (maps.map_targets c x) ≡ maps.map_targets (after c d) x
    targets_after trees.no_targets = refl
    targets_after (trees.target p ps) = rw (target_after p, targets_after ps) refl

    pub place_after : (x : Place A) → maps.map_place d (maps.map_place c x) ≡ maps.map_place (after c d) x
    place_after (trees.to_name n) = refl
    place_after (trees.to_attr e n g) = rw (expr_after e) refl
    place_after (trees.to_item e i g) = rw (expr_after e, expr_after i) refl

    pub params_after : (x : Params A) → maps.map_params d (maps.map_params c x) ≡ maps.map_params (after c d) x
    params_after (trees.params ps l k) = rw (plain_after ps, names_option_after l, names_option_after k) refl

    pub plain_after : (x : Plain A) → maps.map_plain d (maps.map_plain c x) ≡ maps.map_plain (after c d) x
    plain_after trees.no_plain = refl
    plain_after (trees.plain n e ps) = rw (maybe_after e, plain_after ps) refl

    pub trailer_after : (x : Trailer A) → maps.map_trailer d (maps.map_trailer c x) ≡ maps.map_trailer (after c d) x
    trailer_after (trees.attr n g) = refl
    trailer_after (trees.item e g) = rw (expr_after e) refl
    trailer_after (trees.slice x y z g) = rw (maybe_after x, maybe_after y, maybe_after z) refl
    trailer_after (trees.call xs g) = rw (args_after xs, call_same c xs) refl

    pub trailers_after : (x : Trailers A) → maps.map_trailers d (maps.map_trailers c x) ≡ maps.map_trailers (after c d) x
    trailers_after trees.no_trailers = refl
    trailers_after (trees.trailer x xs) = rw (trailer_after x, trailers_after xs) refl

    pub arg_after : (x : Arg A) → maps.map_arg d (maps.map_arg c x) ≡ maps.map_arg (after c d) x
    arg_after (trees.value e) = rw (expr_after e) refl
    arg_after (trees.star e) = rw (expr_after e) refl
    arg_after (trees.key n e) = rw (expr_after e) refl
    arg_after (trees.stars e) = rw (expr_after e) refl

    pub args_after : (x : Args A) → maps.map_args d (maps.map_args c x) ≡ maps.map_args (after c d) x
    args_after trees.no_args = refl
    args_after (trees.arg x xs) = rw (arg_after x, args_after xs) refl

  -- parts of statements

  option_after : (x : Option (Expr A)) → option_map (maps.map_expr d) (option_map (maps.map_expr c) x) ≡ option_map (maps.map_expr (after c d)) x
  option_after None = refl
  option_after (Some e) = rw (expr_after e) refl

  places_after : (x : List (Place A)) → map (maps.map_place d) (map (maps.map_place c) x) ≡ map (maps.map_place (after c d)) x
  places_after [] = refl
  places_after (p ∷ ps) = rw (place_after p, places_after ps) refl

  -- statements

  mutual
    pub stmt_after : (x : Stmt A) → maps.map_stmt d (maps.map_stmt c x) ≡ maps.map_stmt (after c d) x
    stmt_after (stmt_trees.a_stmt l x) = rw (stmt_form_after x) refl

    pub stmt_form_after : (x : StmtForm A) → maps.map_stmt_form d (maps.map_stmt_form c x) ≡ maps.map_stmt_form (after c d) x
    stmt_form_after (stmt_trees.evaluate e) = rw (expr_after e) refl
    stmt_form_after (stmt_trees.assign ps e) = rw (expr_after e, places_after ps) refl
    stmt_form_after (stmt_trees.unpack p e g) = rw (target_after p, expr_after e) refl
    stmt_form_after (stmt_trees.aug p o at e g) = rw (place_after p, expr_after e, inplace_same c p) refl
    stmt_form_after (stmt_trees.del ps) = rw (places_after ps) refl
    stmt_form_after stmt_trees.pass = refl
    stmt_form_after stmt_trees.break = refl
    stmt_form_after stmt_trees.continue = refl
    stmt_form_after (stmt_trees.give_back e) = rw (option_after e) refl
    stmt_form_after (stmt_trees.raise e) = rw (option_after e) refl
    stmt_form_after (stmt_trees.assert e m) = rw (expr_after e, option_after m) refl
    stmt_form_after (stmt_trees.global ns) = rw (names_after ns) refl
    stmt_form_after (stmt_trees.choose bs o) = rw (branches_after bs, maybe_stmts_after o) refl
    stmt_form_after (stmt_trees.while e b) = rw (expr_after e, stmts_after b) refl
    stmt_form_after (stmt_trees.for w b) = rw (walk_after w, stmts_after b) refl
    stmt_form_after (stmt_trees.try b hs o l) = rw (stmts_after b, excepts_after hs, maybe_stmts_after o, maybe_stmts_after l) refl
    stmt_form_after (stmt_trees.define k n ps b) = rw (params_after ps, stmts_after b) refl
    stmt_form_after (stmt_trees.class n b) = rw (stmts_after b) refl

    pub stmts_after : (x : Stmts A) → maps.map_stmts d (maps.map_stmts c x) ≡ maps.map_stmts (after c d) x
    stmts_after stmt_trees.no_stmts = refl
    stmts_after (stmt_trees.stmt x xs) = rw (stmt_after x, stmts_after xs) refl

    pub maybe_stmts_after : (x : MaybeStmts A) → maps.map_maybe_stmts d (maps.map_maybe_stmts c x) ≡ maps.map_maybe_stmts (after c d) x
    maybe_stmts_after stmt_trees.none = refl
    maybe_stmts_after (stmt_trees.some b) = rw (stmts_after b) refl

    pub branches_after : (x : Branches A) → maps.map_branches d (maps.map_branches c x) ≡ maps.map_branches (after c d) x
    branches_after stmt_trees.no_branches = refl
    branches_after (stmt_trees.branch e b bs) = rw (expr_after e, stmts_after b, branches_after bs) refl

    pub except_after : (x : Except A) → maps.map_except d (maps.map_except c x) ≡ maps.map_except (after c d) x
    except_after (stmt_trees.an_except k n b) = rw (stmts_after b, option_after k, names_option_after n) refl

    pub excepts_after : (x : Excepts A) → maps.map_excepts d (maps.map_excepts c x) ≡ maps.map_excepts (after c d) x
    excepts_after stmt_trees.no_excepts = refl
    excepts_after (stmt_trees.except x xs) = rw (except_after x, excepts_after xs) refl
