-- Where each leaf that passes a test passes another one too, so does each tree.
use Rattle.std.proofs.Common.{◌≡◌, ℕ, ℤ, Bool, true, ◌&&◌, List, [], ◌∷◌, Option, Some, None, refl, ap, ◌∙◌}
use Rattle.std.specs.List.{list_all}
use Rattle.std.specs.Option.{option_map_or}
use Rattle.std.proofs.lemmas.Bool.{and_parts}
use Rattle.rp_tree.specs.declared.parts.Guard.{Guard}
use Rattle.rp_tree.specs.ExpressionTrees as trees
use Rattle.rp_tree.specs.declared.parts.Named.{Named}
use Rattle.rp_tree.specs.ExpressionTrees.{Expr, Form, Exprs, Maybe, Pairs, Tests, Ops, Clause, Clauses, Walk, Target}
use Rattle.rp_tree.specs.ExpressionTrees.{Targets, Place, Params, Plain, Trailer, Trailers, Arg, Args}
use Rattle.rp_tree.specs.StatementTrees as stmt_trees
use Rattle.rp_tree.specs.StatementTrees.{Stmt, StmtForm, Stmts, MaybeStmts, Branches, Except, Excepts}
use Rattle.rp_grammar.specs.Leaves.{LeafTest, named_passes, expr_passes, form_passes, exprs_pass, maybe_passes}
use Rattle.rp_grammar.specs.Leaves.{pairs_pass, tests_pass, ops_pass, clause_passes, clauses_pass, walk_passes}
use Rattle.rp_grammar.specs.Leaves.{target_passes, targets_pass, place_passes, params_pass, plain_passes}
use Rattle.rp_grammar.specs.Leaves.{trailer_passes, trailers_pass, arg_passes, args_pass, stmt_passes, stmt_form_passes}
use Rattle.rp_grammar.specs.Leaves.{stmts_pass, maybe_stmts_pass, branches_pass, except_passes, excepts_pass}

both : (a b : Bool) → a ≡ true → b ≡ true → (a && b) ≡ true
both a b x y = ap (λ (c : Bool). c && b) x ∙ y

optional_more : {X : Type 0} (passes others : X → Bool) → ((x : X) → passes x ≡ true → others x ≡ true) → (o : Option X)
    → option_map_or passes o true ≡ true → option_map_or others o true ≡ true
optional_more passes others more None ok = refl
optional_more passes others more (Some x) ok = more x ok

listed_more : {X : Type 0} (passes others : X → Bool) → ((x : X) → passes x ≡ true → others x ≡ true) → (xs : List X)
    → list_all passes xs ≡ true → list_all others xs ≡ true
listed_more passes others more [] ok = refl
listed_more passes others more (x ∷ xs) ok =
    let (here, rest) = and_parts (passes x) (list_all passes xs) ok in
    both (others x) (list_all others xs) (more x here) (listed_more passes others more xs rest)

module _ {A : Type 0} (l m : LeafTest A) (name : (n : A) → l.name n ≡ true → m.name n ≡ true) (number : (z : ℤ)
    → l.number z ≡ true → m.number z ≡ true)
    (block : (b : ℕ) → l.block b ≡ true → m.block b ≡ true) (mark : (g : Option Guard) → l.mark g ≡ true
    → m.mark g ≡ true) where
  named_more : (n : Named A) → named_passes l n ≡ true → named_passes m n ≡ true
  named_more n ok = name n.name ok

  maybe_named_more : (o : Option (Named A)) → option_map_or (named_passes l) o true ≡ true
      → option_map_or (named_passes m) o true ≡ true
  maybe_named_more = optional_more (named_passes l) (named_passes m) named_more

  all_nameds_more : (ns : List (Named A)) → list_all (named_passes l) ns ≡ true → list_all (named_passes m) ns ≡ true
  all_nameds_more = listed_more (named_passes l) (named_passes m) named_more

  mutual
    expr_more : (x : Expr A) → expr_passes l x ≡ true → expr_passes m x ≡ true
    expr_more (trees.node k f) ok = form_more f ok

    form_more : (x : Form A) → form_passes l x ≡ true → form_passes m x ≡ true
    form_more (trees.name n) ok = name n ok
    form_more (trees.int n) ok = number n ok
    form_more (trees.text x) ok = refl
    form_more (trees.const x) ok = refl
    form_more (trees.tuple es) ok = exprs_more es ok
    form_more (trees.list es) ok = exprs_more es ok
    form_more (trees.dict ps) ok = pairs_more ps ok
    form_more (trees.list_of b e cs) ok = let (front, p2) =
        and_parts (l.block b && expr_passes l e) (clauses_pass l cs) ok in let (p0, p1) =
        and_parts (l.block b) (expr_passes l e) front in
        both (m.block b && expr_passes m e) (clauses_pass m cs)
        (both (m.block b) (expr_passes m e) (block b p0) (expr_more e p1)) (clauses_more cs p2)
    form_more (trees.dict_of b k e cs) ok = let (front, p3) =
        and_parts (l.block b && expr_passes l k && expr_passes l e) (clauses_pass l cs) ok in let (front, p2) =
        and_parts (l.block b && expr_passes l k) (expr_passes l e) front in let (p0, p1) =
        and_parts (l.block b) (expr_passes l k) front in
        both (m.block b && expr_passes m k && expr_passes m e) (clauses_pass m cs)
        (both (m.block b && expr_passes m k) (expr_passes m e)
        (both (m.block b) (expr_passes m k) (block b p0) (expr_more k p1)) (expr_more e p2)) (clauses_more cs p3)
    form_more (trees.lambda b p e) ok = let (front, p2) =
        and_parts (l.block b && params_pass l p) (expr_passes l e) ok in let (p0, p1) =
        and_parts (l.block b) (params_pass l p) front in
        both (m.block b && params_pass m p) (expr_passes m e)
        (both (m.block b) (params_pass m p) (block b p0) (params_more p p1)) (expr_more e p2)
    form_more (trees.cond x y z) ok = let (front, p2) =
        and_parts (expr_passes l x && expr_passes l y) (expr_passes l z) ok in let (p0, p1) =
        and_parts (expr_passes l x) (expr_passes l y) front in
        both (expr_passes m x && expr_passes m y) (expr_passes m z)
        (both (expr_passes m x) (expr_passes m y) (expr_more x p0) (expr_more y p1)) (expr_more z p2)
    form_more (trees.or es) ok = exprs_more es ok
    form_more (trees.and es) ok = exprs_more es ok
    form_more (trees.not e) ok = expr_more e ok
    form_more (trees.compare e os) ok = let (p0, p1) = and_parts (expr_passes l e) (tests_pass l os) ok in
        both (expr_passes m e) (tests_pass m os) (expr_more e p0) (tests_more os p1)
    form_more (trees.chain e os) ok = let (p0, p1) = and_parts (expr_passes l e) (ops_pass l os) ok in
        both (expr_passes m e) (ops_pass m os) (expr_more e p0) (ops_more os p1)
    form_more (trees.unary u e) ok = expr_more e ok
    form_more (trees.power x y) ok = let (p0, p1) = and_parts (expr_passes l x) (expr_passes l y) ok in
        both (expr_passes m x) (expr_passes m y) (expr_more x p0) (expr_more y p1)
    form_more (trees.primary e xs) ok = let (p0, p1) = and_parts (expr_passes l e) (trailers_pass l xs) ok in
        both (expr_passes m e) (trailers_pass m xs) (expr_more e p0) (trailers_more xs p1)

    exprs_more : (x : Exprs A) → exprs_pass l x ≡ true → exprs_pass m x ≡ true
    exprs_more trees.no_exprs ok = refl
    exprs_more (trees.expr e es) ok = let (p0, p1) = and_parts (expr_passes l e) (exprs_pass l es) ok in
        both (expr_passes m e) (exprs_pass m es) (expr_more e p0) (exprs_more es p1)

    maybe_more : (x : Maybe A) → maybe_passes l x ≡ true → maybe_passes m x ≡ true
    maybe_more trees.none ok = refl
    maybe_more (trees.some e) ok = expr_more e ok

    pairs_more : (x : Pairs A) → pairs_pass l x ≡ true → pairs_pass m x ≡ true
    pairs_more trees.no_pairs ok = refl
    pairs_more (trees.pair k e ps) ok = let (front, p2) =
        and_parts (expr_passes l k && expr_passes l e) (pairs_pass l ps) ok in let (p0, p1) =
        and_parts (expr_passes l k) (expr_passes l e) front in
        both (expr_passes m k && expr_passes m e) (pairs_pass m ps)
        (both (expr_passes m k) (expr_passes m e) (expr_more k p0) (expr_more e p1)) (pairs_more ps p2)

    tests_more : (x : Tests A) → tests_pass l x ≡ true → tests_pass m x ≡ true
    tests_more trees.no_tests ok = refl
    tests_more (trees.test o e os) ok = let (p0, p1) = and_parts (expr_passes l e) (tests_pass l os) ok in
        both (expr_passes m e) (tests_pass m os) (expr_more e p0) (tests_more os p1)

    ops_more : (x : Ops A) → ops_pass l x ≡ true → ops_pass m x ≡ true
    ops_more trees.no_ops ok = refl
    ops_more (trees.op o e os) ok = let (p0, p1) = and_parts (expr_passes l e) (ops_pass l os) ok in
        both (expr_passes m e) (ops_pass m os) (expr_more e p0) (ops_more os p1)

    clause_more : (x : Clause A) → clause_passes l x ≡ true → clause_passes m x ≡ true
    clause_more (trees.a_clause w es) ok = let (p0, p1) = and_parts (walk_passes l w) (exprs_pass l es) ok in
        both (walk_passes m w) (exprs_pass m es) (walk_more w p0) (exprs_more es p1)

    clauses_more : (x : Clauses A) → clauses_pass l x ≡ true → clauses_pass m x ≡ true
    clauses_more trees.no_clauses ok = refl
    clauses_more (trees.clause x xs) ok = let (p0, p1) = and_parts (clause_passes l x) (clauses_pass l xs) ok in
        both (clause_passes m x) (clauses_pass m xs) (clause_more x p0) (clauses_more xs p1)

    walk_more : (x : Walk A) → walk_passes l x ≡ true → walk_passes m x ≡ true
    walk_more (trees.a_walk p e g) ok = let (front, p2) =
        and_parts (target_passes l p && expr_passes l e) (l.mark g) ok in let (p0, p1) =
        and_parts (target_passes l p) (expr_passes l e) front in
        both (target_passes m p && expr_passes m e) (m.mark g)
        (both (target_passes m p) (expr_passes m e) (target_more p p0) (expr_more e p1)) (mark g p2)

    target_more : (x : Target A) → target_passes l x ≡ true → target_passes m x ≡ true
    target_more (trees.to_place p) ok = place_more p ok
    target_more (trees.group ps) ok = targets_more ps ok

    targets_more : (x : Targets A) → targets_pass l x ≡ true → targets_pass m x ≡ true
    targets_more trees.no_targets ok = refl
    targets_more (trees.target p ps) ok = let (p0, p1) = and_parts (target_passes l p) (targets_pass l ps) ok in
        both (target_passes m p) (targets_pass m ps) (target_more p p0) (targets_more ps p1)

    place_more : (x : Place A) → place_passes l x ≡ true → place_passes m x ≡ true
    place_more (trees.to_name n) ok = named_more n ok
    place_more (trees.to_attr e n g) ok = let (front, p2) =
        and_parts (expr_passes l e && named_passes l n) (l.mark g) ok in let (p0, p1) =
        and_parts (expr_passes l e) (named_passes l n) front in
        both (expr_passes m e && named_passes m n) (m.mark g)
        (both (expr_passes m e) (named_passes m n) (expr_more e p0) (named_more n p1)) (mark g p2)
    place_more (trees.to_item e i g) ok = let (front, p2) =
        and_parts (expr_passes l e && expr_passes l i) (l.mark g) ok in let (p0, p1) =
        and_parts (expr_passes l e) (expr_passes l i) front in
        both (expr_passes m e && expr_passes m i) (m.mark g)
        (both (expr_passes m e) (expr_passes m i) (expr_more e p0) (expr_more i p1)) (mark g p2)

    params_more : (x : Params A) → params_pass l x ≡ true → params_pass m x ≡ true
    params_more (trees.params ps list dict) ok = let (front, p2) =
        and_parts (plain_passes l ps && option_map_or (named_passes l) list true)
        (option_map_or (named_passes l) dict true) ok in let (p0, p1) =
        and_parts (plain_passes l ps) (option_map_or (named_passes l) list true) front in
        both (plain_passes m ps && option_map_or (named_passes m) list true) (option_map_or (named_passes m) dict true)
        (both (plain_passes m ps) (option_map_or (named_passes m) list true) (plain_more ps p0)
        (maybe_named_more list p1)) (maybe_named_more dict p2)

    plain_more : (x : Plain A) → plain_passes l x ≡ true → plain_passes m x ≡ true
    plain_more trees.no_plain ok = refl
    plain_more (trees.plain n e ps) ok = let (front, p2) =
        and_parts (named_passes l n && maybe_passes l e) (plain_passes l ps) ok in let (p0, p1) =
        and_parts (named_passes l n) (maybe_passes l e) front in
        both (named_passes m n && maybe_passes m e) (plain_passes m ps)
        (both (named_passes m n) (maybe_passes m e) (named_more n p0) (maybe_more e p1)) (plain_more ps p2)

    trailer_more : (x : Trailer A) → trailer_passes l x ≡ true → trailer_passes m x ≡ true
    trailer_more (trees.attr n g) ok = let (p0, p1) = and_parts (named_passes l n) (l.mark g) ok in
        both (named_passes m n) (m.mark g) (named_more n p0) (mark g p1)
    trailer_more (trees.item e g) ok = let (p0, p1) = and_parts (expr_passes l e) (l.mark g) ok in
        both (expr_passes m e) (m.mark g) (expr_more e p0) (mark g p1)
    trailer_more (trees.slice x y z g) ok = let (front, p3) =
        and_parts (maybe_passes l x && maybe_passes l y && maybe_passes l z) (l.mark g) ok in let (front, p2) =
        and_parts (maybe_passes l x && maybe_passes l y) (maybe_passes l z) front in let (p0, p1) =
        and_parts (maybe_passes l x) (maybe_passes l y) front in
        both (maybe_passes m x && maybe_passes m y && maybe_passes m z) (m.mark g)
        (both (maybe_passes m x && maybe_passes m y) (maybe_passes m z)
        (both (maybe_passes m x) (maybe_passes m y) (maybe_more x p0) (maybe_more y p1)) (maybe_more z p2)) (mark g p3)
    trailer_more (trees.call xs g) ok = let (p0, p1) = and_parts (args_pass l xs) (l.mark g) ok in
        both (args_pass m xs) (m.mark g) (args_more xs p0) (mark g p1)

    trailers_more : (x : Trailers A) → trailers_pass l x ≡ true → trailers_pass m x ≡ true
    trailers_more trees.no_trailers ok = refl
    trailers_more (trees.trailer x xs) ok = let (p0, p1) = and_parts (trailer_passes l x) (trailers_pass l xs) ok in
        both (trailer_passes m x) (trailers_pass m xs) (trailer_more x p0) (trailers_more xs p1)

    arg_more : (x : Arg A) → arg_passes l x ≡ true → arg_passes m x ≡ true
    arg_more (trees.value e) ok = expr_more e ok
    arg_more (trees.star e) ok = expr_more e ok
    arg_more (trees.key n e) ok = let (p0, p1) = and_parts (l.name n) (expr_passes l e) ok in
        both (m.name n) (expr_passes m e) (name n p0) (expr_more e p1)
    arg_more (trees.stars e) ok = expr_more e ok

    args_more : (x : Args A) → args_pass l x ≡ true → args_pass m x ≡ true
    args_more trees.no_args ok = refl
    args_more (trees.arg x xs) ok = let (p0, p1) = and_parts (arg_passes l x) (args_pass l xs) ok in
        both (arg_passes m x) (args_pass m xs) (arg_more x p0) (args_more xs p1)

  maybe_expr_more : (o : Option (Expr A)) → option_map_or (expr_passes l) o true ≡ true
      → option_map_or (expr_passes m) o true ≡ true
  maybe_expr_more = optional_more (expr_passes l) (expr_passes m) expr_more

  all_places_more : (ps : List (Place A)) → list_all (place_passes l) ps ≡ true → list_all (place_passes m) ps ≡ true
  all_places_more = listed_more (place_passes l) (place_passes m) place_more

  mutual
    stmt_more : (x : Stmt A) → stmt_passes l x ≡ true → stmt_passes m x ≡ true
    stmt_more (stmt_trees.a_stmt k x) ok = stmt_form_more x ok

    stmt_form_more : (x : StmtForm A) → stmt_form_passes l x ≡ true → stmt_form_passes m x ≡ true
    stmt_form_more (stmt_trees.evaluate e) ok = expr_more e ok
    stmt_form_more (stmt_trees.assign ps e) ok = let (p0, p1) =
        and_parts (list_all (place_passes l) ps) (expr_passes l e) ok in
        both (list_all (place_passes m) ps) (expr_passes m e) (all_places_more ps p0) (expr_more e p1)
    stmt_form_more (stmt_trees.unpack p e g) ok = let (front, p2) =
        and_parts (target_passes l p && expr_passes l e) (l.mark g) ok in let (p0, p1) =
        and_parts (target_passes l p) (expr_passes l e) front in
        both (target_passes m p && expr_passes m e) (m.mark g)
        (both (target_passes m p) (expr_passes m e) (target_more p p0) (expr_more e p1)) (mark g p2)
    stmt_form_more (stmt_trees.aug p o at e g) ok = let (front, p2) =
        and_parts (place_passes l p && expr_passes l e) (l.mark g) ok in let (p0, p1) =
        and_parts (place_passes l p) (expr_passes l e) front in
        both (place_passes m p && expr_passes m e) (m.mark g)
        (both (place_passes m p) (expr_passes m e) (place_more p p0) (expr_more e p1)) (mark g p2)
    stmt_form_more (stmt_trees.del ps) ok = all_places_more ps ok
    stmt_form_more stmt_trees.pass ok = refl
    stmt_form_more stmt_trees.break ok = refl
    stmt_form_more stmt_trees.continue ok = refl
    stmt_form_more (stmt_trees.give_back e) ok = maybe_expr_more e ok
    stmt_form_more (stmt_trees.raise e) ok = maybe_expr_more e ok
    stmt_form_more (stmt_trees.assert e t) ok = let (p0, p1) =
        and_parts (expr_passes l e) (option_map_or (expr_passes l) t true) ok in
        both (expr_passes m e) (option_map_or (expr_passes m) t true) (expr_more e p0) (maybe_expr_more t p1)
    stmt_form_more (stmt_trees.global ns) ok = all_nameds_more ns ok
    stmt_form_more (stmt_trees.choose bs o) ok = let (p0, p1) =
        and_parts (branches_pass l bs) (maybe_stmts_pass l o) ok in
        both (branches_pass m bs) (maybe_stmts_pass m o) (branches_more bs p0) (maybe_stmts_more o p1)
    stmt_form_more (stmt_trees.while e b) ok = let (p0, p1) = and_parts (expr_passes l e) (stmts_pass l b) ok in
        both (expr_passes m e) (stmts_pass m b) (expr_more e p0) (stmts_more b p1)
    stmt_form_more (stmt_trees.for w b) ok = let (p0, p1) = and_parts (walk_passes l w) (stmts_pass l b) ok in
        both (walk_passes m w) (stmts_pass m b) (walk_more w p0) (stmts_more b p1)
    stmt_form_more (stmt_trees.try b hs o last) ok = let (front, p3) =
        and_parts (stmts_pass l b && excepts_pass l hs && maybe_stmts_pass l o) (maybe_stmts_pass l last) ok in
        let (front, p2) = and_parts (stmts_pass l b && excepts_pass l hs) (maybe_stmts_pass l o) front in let (p0, p1) =
        and_parts (stmts_pass l b) (excepts_pass l hs) front in
        both (stmts_pass m b && excepts_pass m hs && maybe_stmts_pass m o) (maybe_stmts_pass m last)
        (both (stmts_pass m b && excepts_pass m hs) (maybe_stmts_pass m o)
        (both (stmts_pass m b) (excepts_pass m hs) (stmts_more b p0) (excepts_more hs p1)) (maybe_stmts_more o p2))
        (maybe_stmts_more last p3)
    stmt_form_more (stmt_trees.define k n ps b) ok = let (front, p3) =
        and_parts (l.block k && named_passes l n && params_pass l ps) (stmts_pass l b) ok in let (front, p2) =
        and_parts (l.block k && named_passes l n) (params_pass l ps) front in let (p0, p1) =
        and_parts (l.block k) (named_passes l n) front in
        both (m.block k && named_passes m n && params_pass m ps) (stmts_pass m b)
        (both (m.block k && named_passes m n) (params_pass m ps)
        (both (m.block k) (named_passes m n) (block k p0) (named_more n p1)) (params_more ps p2)) (stmts_more b p3)
    stmt_form_more (stmt_trees.class n b) ok = let (p0, p1) = and_parts (named_passes l n) (stmts_pass l b) ok in
        both (named_passes m n) (stmts_pass m b) (named_more n p0) (stmts_more b p1)

    pub stmts_more : (x : Stmts A) → stmts_pass l x ≡ true → stmts_pass m x ≡ true
    stmts_more stmt_trees.no_stmts ok = refl
    stmts_more (stmt_trees.stmt x xs) ok = let (p0, p1) = and_parts (stmt_passes l x) (stmts_pass l xs) ok in
        both (stmt_passes m x) (stmts_pass m xs) (stmt_more x p0) (stmts_more xs p1)

    maybe_stmts_more : (x : MaybeStmts A) → maybe_stmts_pass l x ≡ true → maybe_stmts_pass m x ≡ true
    maybe_stmts_more stmt_trees.none ok = refl
    maybe_stmts_more (stmt_trees.some b) ok = stmts_more b ok

    branches_more : (x : Branches A) → branches_pass l x ≡ true → branches_pass m x ≡ true
    branches_more stmt_trees.no_branches ok = refl
    branches_more (stmt_trees.branch e b bs) ok = let (front, p2) =
        and_parts (expr_passes l e && stmts_pass l b) (branches_pass l bs) ok in let (p0, p1) =
        and_parts (expr_passes l e) (stmts_pass l b) front in
        both (expr_passes m e && stmts_pass m b) (branches_pass m bs)
        (both (expr_passes m e) (stmts_pass m b) (expr_more e p0) (stmts_more b p1)) (branches_more bs p2)

    except_more : (x : Except A) → except_passes l x ≡ true → except_passes m x ≡ true
    except_more (stmt_trees.an_except k n b) ok = let (front, p2) =
        and_parts (option_map_or (expr_passes l) k true && option_map_or (named_passes l) n true) (stmts_pass l b) ok in
        let (p0, p1) = and_parts (option_map_or (expr_passes l) k true) (option_map_or (named_passes l) n true) front in
        both (option_map_or (expr_passes m) k true && option_map_or (named_passes m) n true) (stmts_pass m b)
        (both (option_map_or (expr_passes m) k true) (option_map_or (named_passes m) n true) (maybe_expr_more k p0)
        (maybe_named_more n p1)) (stmts_more b p2)

    excepts_more : (x : Excepts A) → excepts_pass l x ≡ true → excepts_pass m x ≡ true
    excepts_more stmt_trees.no_excepts ok = refl
    excepts_more (stmt_trees.except x xs) ok = let (p0, p1) = and_parts (except_passes l x) (excepts_pass l xs) ok in
        both (except_passes m x) (excepts_pass m xs) (except_more x p0) (excepts_more xs p1)
