-- A change that keeps each leaf that passes a test, and the lines, keeps each tree whose leaves pass.
use Rattle.std.proofs.Common.{◌≡◌, ℕ, Bool, true, ◌&&◌, List, [], ◌∷◌, map, Option, Some, None, option_map, refl}
use Rattle.std.specs.List.{list_all}
use Rattle.std.specs.Option.{option_map_or}
use Rattle.std.proofs.lemmas.Bool.{and_parts}
use Rattle.rp_base.specs.declared.value.Line.{Line}
use Rattle.rp_tree.specs.declared.parts.Guard.{Guard}
use Rattle.rp_tree.specs.ExpressionTrees as trees
use Rattle.rp_tree.specs.declared.parts.Named.{Named}
use Rattle.rp_tree.specs.ExpressionTrees.{Expr, Form, Exprs, Maybe, Pairs, Tests, Ops, Clause, Clauses, Walk, Target, Targets, Place, Params, Plain, Trailer, Trailers, Arg, Args}
use Rattle.rp_tree.specs.StatementTrees as stmt_trees
use Rattle.rp_tree.specs.StatementTrees.{Stmt, StmtForm, Stmts, MaybeStmts, Branches, Except, Excepts}
use Rattle.rp_tree.specs.Maps.{Site, Change, attribute_read, item_read, slice_read, call_site, attribute_stored, item_stored, walk_site, unpacking, inplace_site, map_named, map_expr, map_form, map_exprs, map_maybe, map_pairs, map_tests, map_ops, map_clause, map_clauses, map_walk, map_target, map_targets, map_place, map_params, map_plain, map_trailer, map_trailers, map_arg, map_args, map_stmt, map_stmt_form, map_stmts, map_maybe_stmts, map_branches, map_except, map_excepts}
use Rattle.rp_grammar.specs.Leaves.{LeafTest, named_passes, expr_passes, form_passes, exprs_pass, maybe_passes, pairs_pass, tests_pass, ops_pass, clause_passes, clauses_pass, walk_passes, target_passes, targets_pass, place_passes, params_pass, plain_passes, trailer_passes, trailers_pass, arg_passes, args_pass, stmt_passes, stmt_form_passes, stmts_pass, maybe_stmts_pass, branches_pass, except_passes, excepts_pass}

-- what c keeps, it keeps in options and lists
optional_kept : {X : Type 0} (passes : X → Bool) (change : X → X) → ((x : X) → passes x ≡ true → change x ≡ x) → (o : Option X) → option_map_or passes o true ≡ true → option_map change o ≡ o
optional_kept passes change kept None ok = refl
optional_kept passes change kept (Some x) ok = λ j. Some (kept x ok j)

listed_kept : {X : Type 0} (passes : X → Bool) (change : X → X) → ((x : X) → passes x ≡ true → change x ≡ x) → (xs : List X) → list_all passes xs ≡ true → map change xs ≡ xs
listed_kept passes change kept [] ok = refl
listed_kept passes change kept (x ∷ xs) ok = let (here, rest) = and_parts (passes x) (list_all passes xs) ok in λ j. kept x here j ∷ listed_kept passes change kept xs rest j

module _ {A : Type 0} (l : LeafTest A) (c : Change A A) (name : (n : A) → l.name n ≡ true → c.name n ≡ n) (line : (k : Line) → c.line k ≡ k) (block : (b : ℕ) → l.block b ≡ true → c.block b ≡ b)
    (mark : (x : Site) (g : Option Guard) → l.mark g ≡ true → c.mark x g ≡ g) where
  named_kept : (n : Named A) → named_passes l n ≡ true → map_named c n ≡ n
  named_kept n ok = λ j. record { name = name n.name ok j; line = line n.line j }

  maybe_named_kept : (o : Option (Named A)) → option_map_or (named_passes l) o true ≡ true → option_map (map_named c) o ≡ o
  maybe_named_kept = optional_kept (named_passes l) (map_named c) named_kept

  all_nameds_kept : (ns : List (Named A)) → list_all (named_passes l) ns ≡ true → map (map_named c) ns ≡ ns
  all_nameds_kept = listed_kept (named_passes l) (map_named c) named_kept

  mutual
    pub expr_kept : (x : Expr A) → expr_passes l x ≡ true → map_expr c x ≡ x
    expr_kept (trees.node k f) ok = λ j. trees.node (line k j) (form_kept f ok j)

    pub form_kept : (x : Form A) → form_passes l x ≡ true → map_form c x ≡ x
    form_kept (trees.name n) ok = λ j. trees.name (name n ok j)
    form_kept (trees.int n) ok = refl
    form_kept (trees.text x) ok = refl
    form_kept (trees.const x) ok = refl
    form_kept (trees.tuple es) ok = λ j. trees.tuple (exprs_kept es ok j)
    form_kept (trees.list es) ok = λ j. trees.list (exprs_kept es ok j)
    form_kept (trees.dict ps) ok = λ j. trees.dict (pairs_kept ps ok j)
    form_kept (trees.list_of b e cs) ok = let (front, p2) = and_parts (l.block b && expr_passes l e) (clauses_pass l cs) ok in let (p0, p1) = and_parts (l.block b) (expr_passes l e) front in λ j. trees.list_of (block b p0 j) (expr_kept e p1 j) (clauses_kept cs p2 j)
    form_kept (trees.dict_of b k e cs) ok = let (front, p3) = and_parts (l.block b && expr_passes l k && expr_passes l e) (clauses_pass l cs) ok in let (front, p2) = and_parts (l.block b && expr_passes l k) (expr_passes l e) front in let (p0, p1) = and_parts (l.block b) (expr_passes l k) front in λ j. trees.dict_of (block b p0 j) (expr_kept k p1 j) (expr_kept e p2 j) (clauses_kept cs p3 j)
    form_kept (trees.lambda b p e) ok = let (front, p2) = and_parts (l.block b && params_pass l p) (expr_passes l e) ok in let (p0, p1) = and_parts (l.block b) (params_pass l p) front in λ j. trees.lambda (block b p0 j) (params_kept p p1 j) (expr_kept e p2 j)
    form_kept (trees.cond x y z) ok = let (front, p2) = and_parts (expr_passes l x && expr_passes l y) (expr_passes l z) ok in let (p0, p1) = and_parts (expr_passes l x) (expr_passes l y) front in λ j. trees.cond (expr_kept x p0 j) (expr_kept y p1 j) (expr_kept z p2 j)
    form_kept (trees.or es) ok = λ j. trees.or (exprs_kept es ok j)
    form_kept (trees.and es) ok = λ j. trees.and (exprs_kept es ok j)
    form_kept (trees.not e) ok = λ j. trees.not (expr_kept e ok j)
    form_kept (trees.compare e os) ok = let (p0, p1) = and_parts (expr_passes l e) (tests_pass l os) ok in λ j. trees.compare (expr_kept e p0 j) (tests_kept os p1 j)
    form_kept (trees.chain e os) ok = let (p0, p1) = and_parts (expr_passes l e) (ops_pass l os) ok in λ j. trees.chain (expr_kept e p0 j) (ops_kept os p1 j)
    form_kept (trees.unary u e) ok = λ j. trees.unary u (expr_kept e ok j)
    form_kept (trees.power x y) ok = let (p0, p1) = and_parts (expr_passes l x) (expr_passes l y) ok in λ j. trees.power (expr_kept x p0 j) (expr_kept y p1 j)
    form_kept (trees.primary e xs) ok = let (p0, p1) = and_parts (expr_passes l e) (trailers_pass l xs) ok in λ j. trees.primary (expr_kept e p0 j) (trailers_kept xs p1 j)

    pub exprs_kept : (x : Exprs A) → exprs_pass l x ≡ true → map_exprs c x ≡ x
    exprs_kept trees.no_exprs ok = refl
    exprs_kept (trees.expr e es) ok = let (p0, p1) = and_parts (expr_passes l e) (exprs_pass l es) ok in λ j. trees.expr (expr_kept e p0 j) (exprs_kept es p1 j)

    pub maybe_kept : (x : Maybe A) → maybe_passes l x ≡ true → map_maybe c x ≡ x
    maybe_kept trees.none ok = refl
    maybe_kept (trees.some e) ok = λ j. trees.some (expr_kept e ok j)

    pub pairs_kept : (x : Pairs A) → pairs_pass l x ≡ true → map_pairs c x ≡ x
    pairs_kept trees.no_pairs ok = refl
    pairs_kept (trees.pair k e ps) ok = let (front, p2) = and_parts (expr_passes l k && expr_passes l e) (pairs_pass l ps) ok in let (p0, p1) = and_parts (expr_passes l k) (expr_passes l e) front in λ j. trees.pair (expr_kept k p0 j) (expr_kept e p1 j) (pairs_kept ps p2 j)

    pub tests_kept : (x : Tests A) → tests_pass l x ≡ true → map_tests c x ≡ x
    tests_kept trees.no_tests ok = refl
    tests_kept (trees.test o e os) ok = let (p0, p1) = and_parts (expr_passes l e) (tests_pass l os) ok in λ j. trees.test o (expr_kept e p0 j) (tests_kept os p1 j)

    pub ops_kept : (x : Ops A) → ops_pass l x ≡ true → map_ops c x ≡ x
    ops_kept trees.no_ops ok = refl
    ops_kept (trees.op o e os) ok = let (p0, p1) = and_parts (expr_passes l e) (ops_pass l os) ok in λ j. trees.op o (expr_kept e p0 j) (ops_kept os p1 j)

    pub clause_kept : (x : Clause A) → clause_passes l x ≡ true → map_clause c x ≡ x
    clause_kept (trees.a_clause w es) ok = let (p0, p1) = and_parts (walk_passes l w) (exprs_pass l es) ok in λ j. trees.a_clause (walk_kept w p0 j) (exprs_kept es p1 j)

    pub clauses_kept : (x : Clauses A) → clauses_pass l x ≡ true → map_clauses c x ≡ x
    clauses_kept trees.no_clauses ok = refl
    clauses_kept (trees.clause x xs) ok = let (p0, p1) = and_parts (clause_passes l x) (clauses_pass l xs) ok in λ j. trees.clause (clause_kept x p0 j) (clauses_kept xs p1 j)

    pub walk_kept : (x : Walk A) → walk_passes l x ≡ true → map_walk c x ≡ x
    walk_kept (trees.a_walk p e g) ok = let (front, p2) = and_parts (target_passes l p && expr_passes l e) (l.mark g) ok in let (p0, p1) = and_parts (target_passes l p) (expr_passes l e) front in λ j. trees.a_walk (target_kept p p0 j) (expr_kept e p1 j) (mark (walk_site p) g p2 j)

    pub target_kept : (x : Target A) → target_passes l x ≡ true → map_target c x ≡ x
    target_kept (trees.to_place p) ok = λ j. trees.to_place (place_kept p ok j)
    target_kept (trees.group ps) ok = λ j. trees.group (targets_kept ps ok j)

    pub targets_kept : (x : Targets A) → targets_pass l x ≡ true → map_targets c x ≡ x
    targets_kept trees.no_targets ok = refl
    targets_kept (trees.target p ps) ok = let (p0, p1) = and_parts (target_passes l p) (targets_pass l ps) ok in λ j. trees.target (target_kept p p0 j) (targets_kept ps p1 j)

    pub place_kept : (x : Place A) → place_passes l x ≡ true → map_place c x ≡ x
    place_kept (trees.to_name n) ok = λ j. trees.to_name (named_kept n ok j)
    place_kept (trees.to_attr e n g) ok = let (front, p2) = and_parts (expr_passes l e && named_passes l n) (l.mark g) ok in let (p0, p1) = and_parts (expr_passes l e) (named_passes l n) front in λ j. trees.to_attr (expr_kept e p0 j) (named_kept n p1 j) (mark attribute_stored g p2 j)
    place_kept (trees.to_item e i g) ok = let (front, p2) = and_parts (expr_passes l e && expr_passes l i) (l.mark g) ok in let (p0, p1) = and_parts (expr_passes l e) (expr_passes l i) front in λ j. trees.to_item (expr_kept e p0 j) (expr_kept i p1 j) (mark item_stored g p2 j)

    pub params_kept : (x : Params A) → params_pass l x ≡ true → map_params c x ≡ x
    params_kept (trees.params ps list dict) ok = let (front, p2) = and_parts (plain_passes l ps && option_map_or (named_passes l) list true) (option_map_or (named_passes l) dict true) ok in let (p0, p1) = and_parts (plain_passes l ps) (option_map_or (named_passes l) list true) front in λ j. trees.params (plain_kept ps p0 j) (maybe_named_kept list p1 j) (maybe_named_kept dict p2 j)

    pub plain_kept : (x : Plain A) → plain_passes l x ≡ true → map_plain c x ≡ x
    plain_kept trees.no_plain ok = refl
    plain_kept (trees.plain n e ps) ok = let (front, p2) = and_parts (named_passes l n && maybe_passes l e) (plain_passes l ps) ok in let (p0, p1) = and_parts (named_passes l n) (maybe_passes l e) front in λ j. trees.plain (named_kept n p0 j) (maybe_kept e p1 j) (plain_kept ps p2 j)

    pub trailer_kept : (x : Trailer A) → trailer_passes l x ≡ true → map_trailer c x ≡ x
    trailer_kept (trees.attr n g) ok = let (p0, p1) = and_parts (named_passes l n) (l.mark g) ok in λ j. trees.attr (named_kept n p0 j) (mark attribute_read g p1 j)
    trailer_kept (trees.item e g) ok = let (p0, p1) = and_parts (expr_passes l e) (l.mark g) ok in λ j. trees.item (expr_kept e p0 j) (mark item_read g p1 j)
    trailer_kept (trees.slice x y z g) ok = let (front, p3) = and_parts (maybe_passes l x && maybe_passes l y && maybe_passes l z) (l.mark g) ok in let (front, p2) = and_parts (maybe_passes l x && maybe_passes l y) (maybe_passes l z) front in let (p0, p1) = and_parts (maybe_passes l x) (maybe_passes l y) front in λ j. trees.slice (maybe_kept x p0 j) (maybe_kept y p1 j) (maybe_kept z p2 j) (mark slice_read g p3 j)
    trailer_kept (trees.call xs g) ok = let (p0, p1) = and_parts (args_pass l xs) (l.mark g) ok in λ j. trees.call (args_kept xs p0 j) (mark (call_site xs) g p1 j)

    pub trailers_kept : (x : Trailers A) → trailers_pass l x ≡ true → map_trailers c x ≡ x
    trailers_kept trees.no_trailers ok = refl
    trailers_kept (trees.trailer x xs) ok = let (p0, p1) = and_parts (trailer_passes l x) (trailers_pass l xs) ok in λ j. trees.trailer (trailer_kept x p0 j) (trailers_kept xs p1 j)

    pub arg_kept : (x : Arg A) → arg_passes l x ≡ true → map_arg c x ≡ x
    arg_kept (trees.value e) ok = λ j. trees.value (expr_kept e ok j)
    arg_kept (trees.star e) ok = λ j. trees.star (expr_kept e ok j)
    arg_kept (trees.key n e) ok = let (p0, p1) = and_parts (l.name n) (expr_passes l e) ok in λ j. trees.key (name n p0 j) (expr_kept e p1 j)
    arg_kept (trees.stars e) ok = λ j. trees.stars (expr_kept e ok j)

    pub args_kept : (x : Args A) → args_pass l x ≡ true → map_args c x ≡ x
    args_kept trees.no_args ok = refl
    args_kept (trees.arg x xs) ok = let (p0, p1) = and_parts (arg_passes l x) (args_pass l xs) ok in λ j. trees.arg (arg_kept x p0 j) (args_kept xs p1 j)

  maybe_expr_kept : (o : Option (Expr A)) → option_map_or (expr_passes l) o true ≡ true → option_map (map_expr c) o ≡ o
  maybe_expr_kept = optional_kept (expr_passes l) (map_expr c) expr_kept

  all_places_kept : (ps : List (Place A)) → list_all (place_passes l) ps ≡ true → map (map_place c) ps ≡ ps
  all_places_kept = listed_kept (place_passes l) (map_place c) place_kept

  mutual
    pub stmt_kept : (x : Stmt A) → stmt_passes l x ≡ true → map_stmt c x ≡ x
    stmt_kept (stmt_trees.a_stmt k x) ok = λ j. stmt_trees.a_stmt (line k j) (stmt_form_kept x ok j)

    pub stmt_form_kept : (x : StmtForm A) → stmt_form_passes l x ≡ true → map_stmt_form c x ≡ x
    stmt_form_kept (stmt_trees.evaluate e) ok = λ j. stmt_trees.evaluate (expr_kept e ok j)
    stmt_form_kept (stmt_trees.assign ps e) ok = let (p0, p1) = and_parts (list_all (place_passes l) ps) (expr_passes l e) ok in λ j. stmt_trees.assign (all_places_kept ps p0 j) (expr_kept e p1 j)
    stmt_form_kept (stmt_trees.unpack p e g) ok = let (front, p2) = and_parts (target_passes l p && expr_passes l e) (l.mark g) ok in let (p0, p1) = and_parts (target_passes l p) (expr_passes l e) front in λ j. stmt_trees.unpack (target_kept p p0 j) (expr_kept e p1 j) (mark unpacking g p2 j)
    stmt_form_kept (stmt_trees.aug p o at e g) ok = let (front, p2) = and_parts (place_passes l p && expr_passes l e) (l.mark g) ok in let (p0, p1) = and_parts (place_passes l p) (expr_passes l e) front in λ j. stmt_trees.aug (place_kept p p0 j) o (line at j) (expr_kept e p1 j) (mark (inplace_site p) g p2 j)
    stmt_form_kept (stmt_trees.del ps) ok = λ j. stmt_trees.del (all_places_kept ps ok j)
    stmt_form_kept stmt_trees.pass ok = refl
    stmt_form_kept stmt_trees.break ok = refl
    stmt_form_kept stmt_trees.continue ok = refl
    stmt_form_kept (stmt_trees.give_back e) ok = λ j. stmt_trees.give_back (maybe_expr_kept e ok j)
    stmt_form_kept (stmt_trees.raise e) ok = λ j. stmt_trees.raise (maybe_expr_kept e ok j)
    stmt_form_kept (stmt_trees.assert e m) ok = let (p0, p1) = and_parts (expr_passes l e) (option_map_or (expr_passes l) m true) ok in λ j. stmt_trees.assert (expr_kept e p0 j) (maybe_expr_kept m p1 j)
    stmt_form_kept (stmt_trees.global ns) ok = λ j. stmt_trees.global (all_nameds_kept ns ok j)
    stmt_form_kept (stmt_trees.choose bs o) ok = let (p0, p1) = and_parts (branches_pass l bs) (maybe_stmts_pass l o) ok in λ j. stmt_trees.choose (branches_kept bs p0 j) (maybe_stmts_kept o p1 j)
    stmt_form_kept (stmt_trees.while e b) ok = let (p0, p1) = and_parts (expr_passes l e) (stmts_pass l b) ok in λ j. stmt_trees.while (expr_kept e p0 j) (stmts_kept b p1 j)
    stmt_form_kept (stmt_trees.for w b) ok = let (p0, p1) = and_parts (walk_passes l w) (stmts_pass l b) ok in λ j. stmt_trees.for (walk_kept w p0 j) (stmts_kept b p1 j)
    stmt_form_kept (stmt_trees.try b hs o last) ok = let (front, p3) = and_parts (stmts_pass l b && excepts_pass l hs && maybe_stmts_pass l o) (maybe_stmts_pass l last) ok in let (front, p2) = and_parts (stmts_pass l b && excepts_pass l hs) (maybe_stmts_pass l o) front in let (p0, p1) = and_parts (stmts_pass l b) (excepts_pass l hs) front in λ j. stmt_trees.try (stmts_kept b p0 j) (excepts_kept hs p1 j) (maybe_stmts_kept o p2 j) (maybe_stmts_kept last p3 j)
    stmt_form_kept (stmt_trees.define k n ps b) ok = let (front, p3) = and_parts (l.block k && named_passes l n && params_pass l ps) (stmts_pass l b) ok in let (front, p2) = and_parts (l.block k && named_passes l n) (params_pass l ps) front in let (p0, p1) = and_parts (l.block k) (named_passes l n) front in λ j. stmt_trees.define (block k p0 j) (named_kept n p1 j) (params_kept ps p2 j) (stmts_kept b p3 j)
    stmt_form_kept (stmt_trees.class n b) ok = let (p0, p1) = and_parts (named_passes l n) (stmts_pass l b) ok in λ j. stmt_trees.class (named_kept n p0 j) (stmts_kept b p1 j)

    pub stmts_kept : (x : Stmts A) → stmts_pass l x ≡ true → map_stmts c x ≡ x
    stmts_kept stmt_trees.no_stmts ok = refl
    stmts_kept (stmt_trees.stmt x xs) ok = let (p0, p1) = and_parts (stmt_passes l x) (stmts_pass l xs) ok in λ j. stmt_trees.stmt (stmt_kept x p0 j) (stmts_kept xs p1 j)

    pub maybe_stmts_kept : (x : MaybeStmts A) → maybe_stmts_pass l x ≡ true → map_maybe_stmts c x ≡ x
    maybe_stmts_kept stmt_trees.none ok = refl
    maybe_stmts_kept (stmt_trees.some b) ok = λ j. stmt_trees.some (stmts_kept b ok j)

    pub branches_kept : (x : Branches A) → branches_pass l x ≡ true → map_branches c x ≡ x
    branches_kept stmt_trees.no_branches ok = refl
    branches_kept (stmt_trees.branch e b bs) ok = let (front, p2) = and_parts (expr_passes l e && stmts_pass l b) (branches_pass l bs) ok in let (p0, p1) = and_parts (expr_passes l e) (stmts_pass l b) front in λ j. stmt_trees.branch (expr_kept e p0 j) (stmts_kept b p1 j) (branches_kept bs p2 j)

    pub except_kept : (x : Except A) → except_passes l x ≡ true → map_except c x ≡ x
    except_kept (stmt_trees.an_except k n b) ok = let (front, p2) = and_parts (option_map_or (expr_passes l) k true && option_map_or (named_passes l) n true) (stmts_pass l b) ok in let (p0, p1) = and_parts (option_map_or (expr_passes l) k true) (option_map_or (named_passes l) n true) front in λ j. stmt_trees.an_except (maybe_expr_kept k p0 j) (maybe_named_kept n p1 j) (stmts_kept b p2 j)

    pub excepts_kept : (x : Excepts A) → excepts_pass l x ≡ true → map_excepts c x ≡ x
    excepts_kept stmt_trees.no_excepts ok = refl
    excepts_kept (stmt_trees.except x xs) ok = let (p0, p1) = and_parts (except_passes l x) (excepts_pass l xs) ok in λ j. stmt_trees.except (except_kept x p0 j) (excepts_kept xs p1 j)
