-- The leaves of a tree without the numbers of its code blocks: they pass a test where those of the tree pass it, but for these numbers.
use Rattle.std.proofs.Common.{◌≡◌, ◌&&◌, true, List, [], ◌∷◌, map, Option, Some, None, option_map, refl, ap}
use Rattle.std.specs.List.{list_all}
use Rattle.std.specs.Option.{option_map_or}
use Rattle.rp_tree.specs.declared.parts.Named.{Named}
use Rattle.rp_tree.specs.ExpressionTrees as trees
use Rattle.rp_tree.specs.ExpressionTrees.{Expr, Form, Exprs, Maybe, Pairs, Tests, Ops, Clause, Clauses, Walk, Target, Targets, Place, Params, Plain, Trailer, Trailers, Arg, Args}
use Rattle.rp_tree.specs.StatementTrees as stmt_trees
use Rattle.rp_tree.specs.StatementTrees.{Stmt, StmtForm, Stmts, MaybeStmts, Branches, Except, Excepts}
use Rattle.rp_tree.specs.Maps as maps
use Rattle.rp_tree.specs.Maps.{no_blocks}
use Rattle.rp_grammar.specs.Leaves.{LeafTest, named_passes, expr_passes, form_passes, exprs_pass, maybe_passes, pairs_pass, tests_pass, ops_pass, clause_passes, clauses_pass, walk_passes, target_passes, targets_pass, place_passes, params_pass, plain_passes, trailer_passes, trailers_pass, arg_passes, args_pass, stmt_passes, stmt_form_passes, stmts_pass, maybe_stmts_pass, branches_pass, except_passes, excepts_pass}

module _ {A : Type 0} (l : LeafTest A) where
  -- the test, where each code block has the number 0
  abbrev pub uncounted : LeafTest A
  uncounted = record { name = l.name; number = l.number; block = λ k. l.block 0; mark = l.mark }

  option_name_counted : (x : Option (Named A)) → option_map_or (named_passes l) (option_map (maps.map_named no_blocks) x) true ≡ option_map_or (named_passes uncounted) x true
  option_name_counted None = refl
  option_name_counted (Some n) = refl

  names_counted : (x : List (Named A)) → list_all (named_passes l) (map (maps.map_named no_blocks) x) ≡ list_all (named_passes uncounted) x
  names_counted [] = refl
  names_counted (n ∷ ns) = ap (λ rest. named_passes l n && rest) (names_counted ns)

  mutual
    expr_counted : (x : Expr A) → expr_passes l (maps.map_expr no_blocks x) ≡ expr_passes uncounted x
    expr_counted (trees.node line f) = form_counted f

    form_counted : (x : Form A) → form_passes l (maps.map_form no_blocks x) ≡ form_passes uncounted x
    form_counted (trees.name n) = refl
    form_counted (trees.int n) = refl
    form_counted (trees.text x) = refl
    form_counted (trees.const x) = refl
    form_counted (trees.tuple es) = exprs_counted es
    form_counted (trees.list es) = exprs_counted es
    form_counted (trees.dict ps) = pairs_counted ps
    form_counted (trees.list_of b e cs) = λ j. l.block 0 && expr_counted e j && clauses_counted cs j
    form_counted (trees.dict_of b k e cs) = λ j. l.block 0 && expr_counted k j && expr_counted e j && clauses_counted cs j
    form_counted (trees.lambda b p e) = λ j. l.block 0 && params_counted p j && expr_counted e j
    form_counted (trees.cond x y z) = λ j. expr_counted x j && expr_counted y j && expr_counted z j
    form_counted (trees.or es) = exprs_counted es
    form_counted (trees.and es) = exprs_counted es
    form_counted (trees.not e) = expr_counted e
    form_counted (trees.compare e os) = λ j. expr_counted e j && tests_counted os j
    form_counted (trees.chain e os) = λ j. expr_counted e j && ops_counted os j
    form_counted (trees.unary u e) = expr_counted e
    form_counted (trees.power x y) = λ j. expr_counted x j && expr_counted y j
    form_counted (trees.primary e xs) = λ j. expr_counted e j && trailers_counted xs j

    exprs_counted : (x : Exprs A) → exprs_pass l (maps.map_exprs no_blocks x) ≡ exprs_pass uncounted x
    exprs_counted trees.no_exprs = refl
    exprs_counted (trees.expr e es) = λ j. expr_counted e j && exprs_counted es j

    maybe_counted : (x : Maybe A) → maybe_passes l (maps.map_maybe no_blocks x) ≡ maybe_passes uncounted x
    maybe_counted trees.none = refl
    maybe_counted (trees.some e) = expr_counted e

    pairs_counted : (x : Pairs A) → pairs_pass l (maps.map_pairs no_blocks x) ≡ pairs_pass uncounted x
    pairs_counted trees.no_pairs = refl
    pairs_counted (trees.pair k e ps) = λ j. expr_counted k j && expr_counted e j && pairs_counted ps j

    tests_counted : (x : Tests A) → tests_pass l (maps.map_tests no_blocks x) ≡ tests_pass uncounted x
    tests_counted trees.no_tests = refl
    tests_counted (trees.test o e os) = λ j. expr_counted e j && tests_counted os j

    ops_counted : (x : Ops A) → ops_pass l (maps.map_ops no_blocks x) ≡ ops_pass uncounted x
    ops_counted trees.no_ops = refl
    ops_counted (trees.op o e os) = λ j. expr_counted e j && ops_counted os j

    clause_counted : (x : Clause A) → clause_passes l (maps.map_clause no_blocks x) ≡ clause_passes uncounted x
    clause_counted (trees.a_clause w es) = λ j. walk_counted w j && exprs_counted es j

    clauses_counted : (x : Clauses A) → clauses_pass l (maps.map_clauses no_blocks x) ≡ clauses_pass uncounted x
    clauses_counted trees.no_clauses = refl
    clauses_counted (trees.clause x xs) = λ j. clause_counted x j && clauses_counted xs j

    walk_counted : (x : Walk A) → walk_passes l (maps.map_walk no_blocks x) ≡ walk_passes uncounted x
    walk_counted (trees.a_walk p e g) = λ j. target_counted p j && expr_counted e j && l.mark g

    target_counted : (x : Target A) → target_passes l (maps.map_target no_blocks x) ≡ target_passes uncounted x
    target_counted (trees.to_place p) = place_counted p
    target_counted (trees.group ps) = targets_counted ps

    targets_counted : (x : Targets A) → targets_pass l (maps.map_targets no_blocks x) ≡ targets_pass uncounted x
    targets_counted trees.no_targets = refl
    targets_counted (trees.target p ps) = λ j. target_counted p j && targets_counted ps j

    place_counted : (x : Place A) → place_passes l (maps.map_place no_blocks x) ≡ place_passes uncounted x
    place_counted (trees.to_name n) = refl
    place_counted (trees.to_attr e n g) = λ j. expr_counted e j && named_passes l n && l.mark g
    place_counted (trees.to_item e i g) = λ j. expr_counted e j && expr_counted i j && l.mark g

    params_counted : (x : Params A) → params_pass l (maps.map_params no_blocks x) ≡ params_pass uncounted x
    params_counted (trees.params ps list dict) = λ j. plain_counted ps j && option_name_counted list j && option_name_counted dict j

    plain_counted : (x : Plain A) → plain_passes l (maps.map_plain no_blocks x) ≡ plain_passes uncounted x
    plain_counted trees.no_plain = refl
    plain_counted (trees.plain n e ps) = λ j. named_passes l n && maybe_counted e j && plain_counted ps j

    trailer_counted : (x : Trailer A) → trailer_passes l (maps.map_trailer no_blocks x) ≡ trailer_passes uncounted x
    trailer_counted (trees.attr n g) = refl
    trailer_counted (trees.item e g) = λ j. expr_counted e j && l.mark g
    trailer_counted (trees.slice x y z g) = λ j. maybe_counted x j && maybe_counted y j && maybe_counted z j && l.mark g
    trailer_counted (trees.call xs g) = λ j. args_counted xs j && l.mark g

    trailers_counted : (x : Trailers A) → trailers_pass l (maps.map_trailers no_blocks x) ≡ trailers_pass uncounted x
    trailers_counted trees.no_trailers = refl
    trailers_counted (trees.trailer x xs) = λ j. trailer_counted x j && trailers_counted xs j

    arg_counted : (x : Arg A) → arg_passes l (maps.map_arg no_blocks x) ≡ arg_passes uncounted x
    arg_counted (trees.value e) = expr_counted e
    arg_counted (trees.star e) = expr_counted e
    arg_counted (trees.key n e) = λ j. l.name n && expr_counted e j
    arg_counted (trees.stars e) = expr_counted e

    args_counted : (x : Args A) → args_pass l (maps.map_args no_blocks x) ≡ args_pass uncounted x
    args_counted trees.no_args = refl
    args_counted (trees.arg x xs) = λ j. arg_counted x j && args_counted xs j

  option_counted : (x : Option (Expr A)) → option_map_or (expr_passes l) (option_map (maps.map_expr no_blocks) x) true ≡ option_map_or (expr_passes uncounted) x true
  option_counted None = refl
  option_counted (Some x) = expr_counted x

  places_counted : (x : List (Place A)) → list_all (place_passes l) (map (maps.map_place no_blocks) x) ≡ list_all (place_passes uncounted) x
  places_counted [] = refl
  places_counted (p ∷ ps) = λ j. place_counted p j && places_counted ps j

  mutual
    stmt_counted : (x : Stmt A) → stmt_passes l (maps.map_stmt no_blocks x) ≡ stmt_passes uncounted x
    stmt_counted (stmt_trees.a_stmt line x) = stmt_form_counted x

    stmt_form_counted : (x : StmtForm A) → stmt_form_passes l (maps.map_stmt_form no_blocks x) ≡ stmt_form_passes uncounted x
    stmt_form_counted (stmt_trees.evaluate e) = expr_counted e
    stmt_form_counted (stmt_trees.assign ps e) = λ j. places_counted ps j && expr_counted e j
    stmt_form_counted (stmt_trees.unpack p e g) = λ j. target_counted p j && expr_counted e j && l.mark g
    stmt_form_counted (stmt_trees.aug p o at e g) = λ j. place_counted p j && expr_counted e j && l.mark g
    stmt_form_counted (stmt_trees.del ps) = places_counted ps
    stmt_form_counted stmt_trees.pass = refl
    stmt_form_counted stmt_trees.break = refl
    stmt_form_counted stmt_trees.continue = refl
    stmt_form_counted (stmt_trees.give_back e) = option_counted e
    stmt_form_counted (stmt_trees.raise e) = option_counted e
    stmt_form_counted (stmt_trees.assert e m) = λ j. expr_counted e j && option_counted m j
    stmt_form_counted (stmt_trees.global ns) = names_counted ns
    stmt_form_counted (stmt_trees.choose bs o) = λ j. branches_counted bs j && maybe_stmts_counted o j
    stmt_form_counted (stmt_trees.while e b) = λ j. expr_counted e j && stmts_counted b j
    stmt_form_counted (stmt_trees.for w b) = λ j. walk_counted w j && stmts_counted b j
    stmt_form_counted (stmt_trees.try b hs o last) = λ j. stmts_counted b j && excepts_counted hs j && maybe_stmts_counted o j && maybe_stmts_counted last j
    stmt_form_counted (stmt_trees.define k n ps b) = λ j. l.block 0 && named_passes l n && params_counted ps j && stmts_counted b j
    stmt_form_counted (stmt_trees.class n b) = λ j. named_passes l n && stmts_counted b j

    pub stmts_counted : (x : Stmts A) → stmts_pass l (maps.map_stmts no_blocks x) ≡ stmts_pass uncounted x
    stmts_counted stmt_trees.no_stmts = refl
    stmts_counted (stmt_trees.stmt x xs) = λ j. stmt_counted x j && stmts_counted xs j

    maybe_stmts_counted : (x : MaybeStmts A) → maybe_stmts_pass l (maps.map_maybe_stmts no_blocks x) ≡ maybe_stmts_pass uncounted x
    maybe_stmts_counted stmt_trees.none = refl
    maybe_stmts_counted (stmt_trees.some b) = stmts_counted b

    branches_counted : (x : Branches A) → branches_pass l (maps.map_branches no_blocks x) ≡ branches_pass uncounted x
    branches_counted stmt_trees.no_branches = refl
    branches_counted (stmt_trees.branch e b bs) = λ j. expr_counted e j && stmts_counted b j && branches_counted bs j

    except_counted : (x : Except A) → except_passes l (maps.map_except no_blocks x) ≡ except_passes uncounted x
    except_counted (stmt_trees.an_except k n b) = λ j. option_counted k j && option_name_counted n j && stmts_counted b j

    excepts_counted : (x : Excepts A) → excepts_pass l (maps.map_excepts no_blocks x) ≡ excepts_pass uncounted x
    excepts_counted stmt_trees.no_excepts = refl
    excepts_counted (stmt_trees.except x xs) = λ j. except_counted x j && excepts_counted xs j
