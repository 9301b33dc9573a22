-- A tree is as high as it was, whatever becomes of its names, lines, numbers and marks.
use Rattle.std.proofs.Common.{◌≡◌, suc, List, [], ◌∷◌, map, Option, Some, None, option_map, refl, ap}
use Rattle.rp_tree.specs.Heights.{expr_height, form_height, exprs_height, maybe_height, pairs_height, tests_height, ops_height, clause_height, clauses_height, walk_height, target_height, targets_height, place_height, params_height, plain_height, trailer_height, trailers_height, arg_height, args_height, option_height, places_height, stmt_height, stmt_form_height, stmts_height, maybe_stmts_height, branches_height, except_height, excepts_height}
use Rattle.rp_tree.specs.ExpressionTrees as trees
use Rattle.rp_tree.specs.ExpressionTrees.{Expr, Form, Exprs, Maybe, Pairs, Tests, Ops, Clause, Clauses, Walk, Target, Targets, Place, Params, Plain, Trailer, Trailers, Arg, Args}
use Rattle.rp_tree.specs.StatementTrees as stmt_trees
use Rattle.rp_tree.specs.StatementTrees.{Stmt, StmtForm, Stmts, MaybeStmts, Branches, Except, Excepts}
use Rattle.rp_tree.specs.Maps.{Change, map_expr, map_form, map_exprs, map_maybe, map_pairs, map_tests, map_ops, map_clause, map_clauses, map_walk, map_target, map_targets, map_place, map_params, map_plain, map_trailer, map_trailers, map_arg, map_args, map_stmt, map_stmt_form, map_stmts, map_maybe_stmts, map_branches, map_except, map_excepts}

module _ {A B : Type 0} (change : Change A B) where
  mutual
    pub expr_height_mapped : (x : Expr A) → expr_height (map_expr change x) ≡ expr_height x
    expr_height_mapped (trees.node line x) = ap suc (form_height_mapped x)

    pub form_height_mapped : (x : Form A) → form_height (map_form change x) ≡ form_height x
    form_height_mapped (trees.name n) = refl
    form_height_mapped (trees.int n) = refl
    form_height_mapped (trees.text s) = refl
    form_height_mapped (trees.const c) = refl
    form_height_mapped (trees.tuple es) = exprs_height_mapped es
    form_height_mapped (trees.list es) = exprs_height_mapped es
    form_height_mapped (trees.dict ps) = pairs_height_mapped ps
    form_height_mapped (trees.list_of b e cs) = rw (expr_height_mapped e, clauses_height_mapped cs) refl
    form_height_mapped (trees.dict_of b k e cs) = rw (expr_height_mapped k, expr_height_mapped e, clauses_height_mapped cs) refl
    form_height_mapped (trees.lambda b p e) = rw (params_height_mapped p, expr_height_mapped e) refl
    form_height_mapped (trees.cond a b c) = rw (expr_height_mapped a, expr_height_mapped b, expr_height_mapped c) refl
    form_height_mapped (trees.or es) = exprs_height_mapped es
    form_height_mapped (trees.and es) = exprs_height_mapped es
    form_height_mapped (trees.not e) = expr_height_mapped e
    form_height_mapped (trees.compare e os) = rw (expr_height_mapped e, tests_height_mapped os) refl
    form_height_mapped (trees.chain e os) = rw (expr_height_mapped e, ops_height_mapped os) refl
    form_height_mapped (trees.unary u e) = expr_height_mapped e
    form_height_mapped (trees.power a b) = rw (expr_height_mapped a, expr_height_mapped b) refl
    form_height_mapped (trees.primary e xs) = rw (expr_height_mapped e, trailers_height_mapped xs) refl

    pub exprs_height_mapped : (x : Exprs A) → exprs_height (map_exprs change x) ≡ exprs_height x
    exprs_height_mapped trees.no_exprs = refl
    exprs_height_mapped (trees.expr e es) = rw (expr_height_mapped e, exprs_height_mapped es) refl

    pub maybe_height_mapped : (x : Maybe A) → maybe_height (map_maybe change x) ≡ maybe_height x
    maybe_height_mapped trees.none = refl
    maybe_height_mapped (trees.some e) = expr_height_mapped e

    pub pairs_height_mapped : (x : Pairs A) → pairs_height (map_pairs change x) ≡ pairs_height x
    pairs_height_mapped trees.no_pairs = refl
    pairs_height_mapped (trees.pair k e ps) = rw (expr_height_mapped k, expr_height_mapped e, pairs_height_mapped ps) refl

    pub tests_height_mapped : (x : Tests A) → tests_height (map_tests change x) ≡ tests_height x
    tests_height_mapped trees.no_tests = refl
    tests_height_mapped (trees.test o e os) = rw (expr_height_mapped e, tests_height_mapped os) refl

    pub ops_height_mapped : (x : Ops A) → ops_height (map_ops change x) ≡ ops_height x
    ops_height_mapped trees.no_ops = refl
    ops_height_mapped (trees.op o e os) = rw (expr_height_mapped e, ops_height_mapped os) refl

    pub clause_height_mapped : (x : Clause A) → clause_height (map_clause change x) ≡ clause_height x
    clause_height_mapped (trees.a_clause w es) = rw (walk_height_mapped w, exprs_height_mapped es) refl

    pub clauses_height_mapped : (x : Clauses A) → clauses_height (map_clauses change x) ≡ clauses_height x
    clauses_height_mapped trees.no_clauses = refl
    clauses_height_mapped (trees.clause c cs) = rw (clause_height_mapped c, clauses_height_mapped cs) refl

    pub walk_height_mapped : (x : Walk A) → walk_height (map_walk change x) ≡ walk_height x
    walk_height_mapped (trees.a_walk p e g) = rw (target_height_mapped p, expr_height_mapped e) refl

    pub target_height_mapped : (x : Target A) → target_height (map_target change x) ≡ target_height x
    target_height_mapped (trees.to_place p) = place_height_mapped p
    target_height_mapped (trees.group ps) = ap suc (targets_height_mapped ps)

    pub targets_height_mapped : (x : Targets A) → targets_height (map_targets change x) ≡ targets_height x
    targets_height_mapped trees.no_targets = refl
    targets_height_mapped (trees.target p ps) = rw (target_height_mapped p, targets_height_mapped ps) refl

    pub place_height_mapped : (x : Place A) → place_height (map_place change x) ≡ place_height x
    place_height_mapped (trees.to_name n) = refl
    place_height_mapped (trees.to_attr e n g) = ap suc (expr_height_mapped e)
    place_height_mapped (trees.to_item e i g) = rw (expr_height_mapped e, expr_height_mapped i) refl

    pub params_height_mapped : (x : Params A) → params_height (map_params change x) ≡ params_height x
    params_height_mapped (trees.params ps l d) = plain_height_mapped ps

    pub plain_height_mapped : (x : Plain A) → plain_height (map_plain change x) ≡ plain_height x
    plain_height_mapped trees.no_plain = refl
    plain_height_mapped (trees.plain n e ps) = rw (maybe_height_mapped e, plain_height_mapped ps) refl

    pub trailer_height_mapped : (x : Trailer A) → trailer_height (map_trailer change x) ≡ trailer_height x
    trailer_height_mapped (trees.attr n g) = refl
    trailer_height_mapped (trees.item e g) = expr_height_mapped e
    trailer_height_mapped (trees.slice a b c g) = rw (maybe_height_mapped a, maybe_height_mapped b, maybe_height_mapped c) refl
    trailer_height_mapped (trees.call xs g) = args_height_mapped xs

    pub trailers_height_mapped : (x : Trailers A) → trailers_height (map_trailers change x) ≡ trailers_height x
    trailers_height_mapped trees.no_trailers = refl
    trailers_height_mapped (trees.trailer x xs) = rw (trailer_height_mapped x, trailers_height_mapped xs) refl

    pub arg_height_mapped : (x : Arg A) → arg_height (map_arg change x) ≡ arg_height x
    arg_height_mapped (trees.value e) = expr_height_mapped e
    arg_height_mapped (trees.star e) = expr_height_mapped e
    arg_height_mapped (trees.key n e) = expr_height_mapped e
    arg_height_mapped (trees.stars e) = expr_height_mapped e

    pub args_height_mapped : (x : Args A) → args_height (map_args change x) ≡ args_height x
    args_height_mapped trees.no_args = refl
    args_height_mapped (trees.arg x xs) = rw (arg_height_mapped x, args_height_mapped xs) refl

  option_height_mapped : (e : Option (Expr A)) → option_height (option_map (map_expr change) e) ≡ option_height e
  option_height_mapped None = refl
  option_height_mapped (Some e) = expr_height_mapped e

  places_height_mapped : (ps : List (Place A)) → places_height (map (map_place change) ps) ≡ places_height ps
  places_height_mapped [] = refl
  places_height_mapped (p ∷ ps) = rw (place_height_mapped p, places_height_mapped ps) refl

  mutual
    pub stmt_height_mapped : (x : Stmt A) → stmt_height (map_stmt change x) ≡ stmt_height x
    stmt_height_mapped (stmt_trees.a_stmt line x) = ap suc (stmt_form_height_mapped x)

    pub stmt_form_height_mapped : (x : StmtForm A) → stmt_form_height (map_stmt_form change x) ≡ stmt_form_height x
    stmt_form_height_mapped (stmt_trees.evaluate e) = expr_height_mapped e
    stmt_form_height_mapped (stmt_trees.assign ps e) = rw (places_height_mapped ps, expr_height_mapped e) refl
    stmt_form_height_mapped (stmt_trees.unpack p e g) = rw (target_height_mapped p, expr_height_mapped e) refl
    stmt_form_height_mapped (stmt_trees.aug p o at e g) = rw (place_height_mapped p, expr_height_mapped e) refl
    stmt_form_height_mapped (stmt_trees.del ps) = places_height_mapped ps
    stmt_form_height_mapped stmt_trees.pass = refl
    stmt_form_height_mapped stmt_trees.break = refl
    stmt_form_height_mapped stmt_trees.continue = refl
    stmt_form_height_mapped (stmt_trees.give_back e) = option_height_mapped e
    stmt_form_height_mapped (stmt_trees.raise e) = option_height_mapped e
    stmt_form_height_mapped (stmt_trees.assert e m) = rw (expr_height_mapped e, option_height_mapped m) refl
    stmt_form_height_mapped (stmt_trees.global ns) = refl
    stmt_form_height_mapped (stmt_trees.choose bs o) = rw (branches_height_mapped bs, maybe_stmts_height_mapped o) refl
    stmt_form_height_mapped (stmt_trees.while e b) = rw (expr_height_mapped e, stmts_height_mapped b) refl
    stmt_form_height_mapped (stmt_trees.for w b) = rw (walk_height_mapped w, stmts_height_mapped b) refl
    stmt_form_height_mapped (stmt_trees.try b hs o l) = rw (stmts_height_mapped b, excepts_height_mapped hs, maybe_stmts_height_mapped o, maybe_stmts_height_mapped l) refl
    stmt_form_height_mapped (stmt_trees.define k n ps b) = rw (params_height_mapped ps, stmts_height_mapped b) refl
    stmt_form_height_mapped (stmt_trees.class n b) = stmts_height_mapped b

    pub stmts_height_mapped : (x : Stmts A) → stmts_height (map_stmts change x) ≡ stmts_height x
    stmts_height_mapped stmt_trees.no_stmts = refl
    stmts_height_mapped (stmt_trees.stmt x xs) = rw (stmt_height_mapped x, stmts_height_mapped xs) refl

    pub maybe_stmts_height_mapped : (x : MaybeStmts A) → maybe_stmts_height (map_maybe_stmts change x) ≡ maybe_stmts_height x
    maybe_stmts_height_mapped stmt_trees.none = refl
    maybe_stmts_height_mapped (stmt_trees.some b) = stmts_height_mapped b

    pub branches_height_mapped : (x : Branches A) → branches_height (map_branches change x) ≡ branches_height x
    branches_height_mapped stmt_trees.no_branches = refl
    branches_height_mapped (stmt_trees.branch e b bs) = rw (expr_height_mapped e, stmts_height_mapped b, branches_height_mapped bs) refl

    pub except_height_mapped : (x : Except A) → except_height (map_except change x) ≡ except_height x
    except_height_mapped (stmt_trees.an_except k n b) = rw (option_height_mapped k, stmts_height_mapped b) refl

    pub excepts_height_mapped : (x : Excepts A) → excepts_height (map_excepts change x) ≡ excepts_height x
    excepts_height_mapped stmt_trees.no_excepts = refl
    excepts_height_mapped (stmt_trees.except x xs) = rw (except_height_mapped x, excepts_height_mapped xs) refl
