-- The numbers of the code blocks of a changed tree are the changed numbers; so a tree with its guards has the numbers of its source.
use Rattle.std.proofs.Common.{◌≡◌, ℕ, List, [], ◌∷◌, map, Option, Some, None, option_map, refl, sym, ◌∙◌, subst, length}
use Rattle.std.specs.List.{range_with_len}
use Rattle.std.proofs.lemmas.List.{map-id}
use Rattle.rp_tree.specs.ExpressionTrees as trees
use Rattle.rp_tree.specs.ExpressionTrees.{Expr, Form, Exprs, Maybe, Pairs, Tests, Ops, Clause, Clauses, Walk, Target, Targets, Place, Params, Plain, Trailer, Trailers, Arg, Args}
use Rattle.rp_tree.specs.StatementTrees as stmt_trees
use Rattle.rp_tree.specs.StatementTrees.{Stmt, StmtForm, Stmts, MaybeStmts, Branches, Except, Excepts}
use Rattle.rp_tree.specs.Maps as maps
use Rattle.rp_tree.specs.Maps.{Change}
use Rattle.rp_tree.specs.Marks.{guard, table}
use Rattle.rp_scope.specs.Numbers as numbering
use Rattle.rp_scope.specs.Numbers.{HasNumbers}
use Rattle.rp_scope.proofs.Tellings.{joined, begun}

module _ {A B : Type 0} (change : Change A B) where
  mutual
    pub expr_mapped : (e : Expr A) → map change.block (numbering.expr_numbers e) ≡ numbering.expr_numbers (maps.map_expr change e)
    expr_mapped (trees.node line x) = form_mapped x

    pub form_mapped : (e : Form A) → map change.block (numbering.form_numbers e) ≡ numbering.form_numbers (maps.map_form change e)
    form_mapped (trees.name n) = refl
    form_mapped (trees.int z) = refl
    form_mapped (trees.text x) = refl
    form_mapped (trees.const c) = refl
    form_mapped (trees.tuple es) = exprs_mapped es
    form_mapped (trees.list es) = exprs_mapped es
    form_mapped (trees.dict ps) = pairs_mapped ps
    form_mapped (trees.list_of n x cs) = begun change.block _ _ refl (joined change.block _ _ (expr_mapped x) (clauses_mapped cs))
    form_mapped (trees.dict_of n k x cs) = begun change.block _ _ refl (joined change.block _ _ (joined change.block _ _ (expr_mapped k) (expr_mapped x)) (clauses_mapped cs))
    form_mapped (trees.lambda n ps x) = begun change.block _ _ refl (joined change.block _ _ (params_mapped ps) (expr_mapped x))
    form_mapped (trees.cond x a b) = joined change.block _ _ (joined change.block _ _ (expr_mapped a) (expr_mapped x)) (expr_mapped b)
    form_mapped (trees.or es) = exprs_mapped es
    form_mapped (trees.and es) = exprs_mapped es
    form_mapped (trees.not x) = expr_mapped x
    form_mapped (trees.compare x ts) = joined change.block _ _ (expr_mapped x) (tests_mapped ts)
    form_mapped (trees.chain x os) = joined change.block _ _ (expr_mapped x) (ops_mapped os)
    form_mapped (trees.unary u x) = expr_mapped x
    form_mapped (trees.power a b) = joined change.block _ _ (expr_mapped a) (expr_mapped b)
    form_mapped (trees.primary x ts) = joined change.block _ _ (expr_mapped x) (trailers_mapped ts)

    pub exprs_mapped : (e : Exprs A) → map change.block (numbering.exprs_numbers e) ≡ numbering.exprs_numbers (maps.map_exprs change e)
    exprs_mapped trees.no_exprs = refl
    exprs_mapped (trees.expr x xs) = joined change.block _ _ (expr_mapped x) (exprs_mapped xs)

    pub maybe_mapped : (e : Maybe A) → map change.block (numbering.maybe_numbers e) ≡ numbering.maybe_numbers (maps.map_maybe change e)
    maybe_mapped trees.none = refl
    maybe_mapped (trees.some x) = expr_mapped x

    pub pairs_mapped : (e : Pairs A) → map change.block (numbering.pairs_numbers e) ≡ numbering.pairs_numbers (maps.map_pairs change e)
    pairs_mapped trees.no_pairs = refl
    pairs_mapped (trees.pair k x ps) = joined change.block _ _ (joined change.block _ _ (expr_mapped k) (expr_mapped x)) (pairs_mapped ps)

    pub tests_mapped : (e : Tests A) → map change.block (numbering.tests_numbers e) ≡ numbering.tests_numbers (maps.map_tests change e)
    tests_mapped trees.no_tests = refl
    tests_mapped (trees.test o x ts) = joined change.block _ _ (expr_mapped x) (tests_mapped ts)

    pub ops_mapped : (e : Ops A) → map change.block (numbering.ops_numbers e) ≡ numbering.ops_numbers (maps.map_ops change e)
    ops_mapped trees.no_ops = refl
    ops_mapped (trees.op o x os) = joined change.block _ _ (expr_mapped x) (ops_mapped os)

    pub clauses_mapped : (e : Clauses A) → map change.block (numbering.clauses_numbers e) ≡ numbering.clauses_numbers (maps.map_clauses change e)
    clauses_mapped trees.no_clauses = refl
    clauses_mapped (trees.clause c cs) = joined change.block _ _ (clause_mapped c) (clauses_mapped cs)

    pub clause_mapped : (e : Clause A) → map change.block (numbering.clause_numbers e) ≡ numbering.clause_numbers (maps.map_clause change e)
    clause_mapped (trees.a_clause w es) = joined change.block _ _ (walk_mapped w) (exprs_mapped es)

    pub walk_mapped : (e : Walk A) → map change.block (numbering.walk_numbers e) ≡ numbering.walk_numbers (maps.map_walk change e)
    walk_mapped (trees.a_walk p x g) = joined change.block _ _ (target_mapped p) (expr_mapped x)

    pub target_mapped : (e : Target A) → map change.block (numbering.target_numbers e) ≡ numbering.target_numbers (maps.map_target change e)
    target_mapped (trees.to_place p) = place_mapped p
    target_mapped (trees.group ps) = targets_mapped ps

    pub targets_mapped : (e : Targets A) → map change.block (numbering.targets_numbers e) ≡ numbering.targets_numbers (maps.map_targets change e)
    targets_mapped trees.no_targets = refl
    targets_mapped (trees.target p ps) = joined change.block _ _ (target_mapped p) (targets_mapped ps)

    pub place_mapped : (e : Place A) → map change.block (numbering.place_numbers e) ≡ numbering.place_numbers (maps.map_place change e)
    place_mapped (trees.to_name n) = refl
    place_mapped (trees.to_attr x n g) = expr_mapped x
    place_mapped (trees.to_item x i g) = joined change.block _ _ (expr_mapped x) (expr_mapped i)

    pub params_mapped : (e : Params A) → map change.block (numbering.params_numbers e) ≡ numbering.params_numbers (maps.map_params change e)
    params_mapped (trees.params ps l d) = plain_mapped ps

    pub plain_mapped : (e : Plain A) → map change.block (numbering.plain_numbers e) ≡ numbering.plain_numbers (maps.map_plain change e)
    plain_mapped trees.no_plain = refl
    plain_mapped (trees.plain n x ps) = joined change.block _ _ (maybe_mapped x) (plain_mapped ps)

    pub trailer_mapped : (e : Trailer A) → map change.block (numbering.trailer_numbers e) ≡ numbering.trailer_numbers (maps.map_trailer change e)
    trailer_mapped (trees.attr n g) = refl
    trailer_mapped (trees.item x g) = expr_mapped x
    trailer_mapped (trees.slice a b c g) = joined change.block _ _ (joined change.block _ _ (maybe_mapped a) (maybe_mapped b)) (maybe_mapped c)
    trailer_mapped (trees.call xs g) = args_mapped xs

    pub trailers_mapped : (e : Trailers A) → map change.block (numbering.trailers_numbers e) ≡ numbering.trailers_numbers (maps.map_trailers change e)
    trailers_mapped trees.no_trailers = refl
    trailers_mapped (trees.trailer x xs) = joined change.block _ _ (trailer_mapped x) (trailers_mapped xs)

    pub arg_mapped : (e : Arg A) → map change.block (numbering.arg_numbers e) ≡ numbering.arg_numbers (maps.map_arg change e)
    arg_mapped (trees.value x) = expr_mapped x
    arg_mapped (trees.star x) = expr_mapped x
    arg_mapped (trees.key n x) = expr_mapped x
    arg_mapped (trees.stars x) = expr_mapped x

    pub args_mapped : (e : Args A) → map change.block (numbering.args_numbers e) ≡ numbering.args_numbers (maps.map_args change e)
    args_mapped trees.no_args = refl
    args_mapped (trees.arg x xs) = joined change.block _ _ (arg_mapped x) (args_mapped xs)

  pub option_mapped : (e : Option (Expr A)) → map change.block (numbering.option_numbers e) ≡ numbering.option_numbers (option_map (maps.map_expr change) e)
  option_mapped None = refl
  option_mapped (Some x) = expr_mapped x

  pub places_mapped : (e : List (Place A)) → map change.block (numbering.places_numbers e) ≡ numbering.places_numbers (map (maps.map_place change) e)
  places_mapped [] = refl
  places_mapped (p ∷ ps) = joined change.block _ _ (place_mapped p) (places_mapped ps)

  mutual
    pub stmt_mapped : (e : Stmt A) → map change.block (numbering.stmt_numbers e) ≡ numbering.stmt_numbers (maps.map_stmt change e)
    stmt_mapped (stmt_trees.a_stmt line x) = stmt_form_mapped x

    pub stmt_form_mapped : (e : StmtForm A) → map change.block (numbering.stmt_form_numbers e) ≡ numbering.stmt_form_numbers (maps.map_stmt_form change e)
    stmt_form_mapped (stmt_trees.evaluate x) = expr_mapped x
    stmt_form_mapped (stmt_trees.assign ps x) = joined change.block _ _ (places_mapped ps) (expr_mapped x)
    stmt_form_mapped (stmt_trees.unpack p x g) = joined change.block _ _ (target_mapped p) (expr_mapped x)
    stmt_form_mapped (stmt_trees.aug p o at x g) = joined change.block _ _ (place_mapped p) (expr_mapped x)
    stmt_form_mapped (stmt_trees.del ps) = places_mapped ps
    stmt_form_mapped stmt_trees.pass = refl
    stmt_form_mapped stmt_trees.break = refl
    stmt_form_mapped stmt_trees.continue = refl
    stmt_form_mapped (stmt_trees.give_back x) = option_mapped x
    stmt_form_mapped (stmt_trees.raise x) = option_mapped x
    stmt_form_mapped (stmt_trees.assert x m) = joined change.block _ _ (expr_mapped x) (option_mapped m)
    stmt_form_mapped (stmt_trees.global ns) = refl
    stmt_form_mapped (stmt_trees.choose bs o) = joined change.block _ _ (branches_mapped bs) (maybe_stmts_mapped o)
    stmt_form_mapped (stmt_trees.while x b) = joined change.block _ _ (expr_mapped x) (stmts_mapped b)
    stmt_form_mapped (stmt_trees.for w b) = joined change.block _ _ (walk_mapped w) (stmts_mapped b)
    stmt_form_mapped (stmt_trees.try b hs o l) = joined change.block _ _ (joined change.block _ _ (joined change.block _ _ (stmts_mapped b) (excepts_mapped hs)) (maybe_stmts_mapped o)) (maybe_stmts_mapped l)
    stmt_form_mapped (stmt_trees.define n name ps b) = begun change.block _ _ refl (joined change.block _ _ (params_mapped ps) (stmts_mapped b))
    stmt_form_mapped (stmt_trees.class name b) = stmts_mapped b

    pub stmts_mapped : (e : Stmts A) → map change.block (numbering.block_numbers e) ≡ numbering.block_numbers (maps.map_stmts change e)
    stmts_mapped stmt_trees.no_stmts = refl
    stmts_mapped (stmt_trees.stmt x xs) = joined change.block _ _ (stmt_mapped x) (stmts_mapped xs)

    pub maybe_stmts_mapped : (e : MaybeStmts A) → map change.block (numbering.maybe_stmts_numbers e) ≡ numbering.maybe_stmts_numbers (maps.map_maybe_stmts change e)
    maybe_stmts_mapped stmt_trees.none = refl
    maybe_stmts_mapped (stmt_trees.some b) = stmts_mapped b

    pub branches_mapped : (e : Branches A) → map change.block (numbering.branches_numbers e) ≡ numbering.branches_numbers (maps.map_branches change e)
    branches_mapped stmt_trees.no_branches = refl
    branches_mapped (stmt_trees.branch x b bs) = joined change.block _ _ (joined change.block _ _ (expr_mapped x) (stmts_mapped b)) (branches_mapped bs)

    pub except_mapped : (e : Except A) → map change.block (numbering.except_numbers e) ≡ numbering.except_numbers (maps.map_except change e)
    except_mapped (stmt_trees.an_except x n b) = joined change.block _ _ (option_mapped x) (stmts_mapped b)

    pub excepts_mapped : (e : Excepts A) → map change.block (numbering.excepts_numbers e) ≡ numbering.excepts_numbers (maps.map_excepts change e)
    excepts_mapped stmt_trees.no_excepts = refl
    excepts_mapped (stmt_trees.except x xs) = joined change.block _ _ (except_mapped x) (excepts_mapped xs)

pub guarded_numbers : {A : Type 0} (x : Stmts A) → numbering.block_numbers (guard x) ≡ numbering.block_numbers x
guarded_numbers x = sym (stmts_mapped table x) ∙ map-id (numbering.block_numbers x)

-- a tree whose code blocks have their numbers has them with its guards
pub guarded_has_numbers : {A : Type 0} (x : Stmts A) → HasNumbers x → HasNumbers (guard x)
guarded_has_numbers x has = subst (λ (ns : List ℕ). ns ≡ range_with_len 1 (length ns)) (sym (guarded_numbers x)) has
