-- A tree is numbered in some way: any numbers, as many as it has code blocks, can stand in place of its own.
use Rattle.std.proofs.Common.{◌≡◌, ◌∙◌, ◌+◌, ◌≤◌, ◌++◌, ◌∷◌, ℕ, List, [], Option, Some, None, ap, arith, drop}
use Rattle.std.proofs.Common.{length, map, option_map, refl, sym, take}
use Rattle.std.specs.List.{range_with_len}
use Rattle.std.proofs.lemmas.List.FromFn.{length-range_with_len}
use Rattle.std.proofs.lemmas.List.{length-append, length-drop, length-take-le, take-append-drop}
use Rattle.rp_tree.specs.ExpressionTrees as trees
use Rattle.rp_tree.specs.ExpressionTrees.{Expr, Form, Exprs, Maybe, Pairs, Tests, Ops, Clause, Clauses, Walk, Target}
use Rattle.rp_tree.specs.ExpressionTrees.{Targets, Place, Params, Plain, Trailer, Trailers, Arg, Args}
use Rattle.rp_tree.specs.StatementTrees as stmt_trees
use Rattle.rp_tree.specs.StatementTrees.{Stmt, StmtForm, Stmts, MaybeStmts, Branches, Except, Excepts}
use Rattle.rp_tree.specs.Maps as maps
use Rattle.rp_tree.specs.Maps.{no_blocks}
use Rattle.rp_scope.specs.Numbers as numbering
use Rattle.rp_scope.specs.Numbers.{IsNumbered, block_count, block_numbers}

-- a part like another one, but for its numbers, which are these
record Made {X : Type 0} (numbers : X → List ℕ) (bare : X → X) (x : X) (ns : List ℕ) : Type 0 where
  made : X
  has : numbers made ≡ ns
  same : bare made ≡ bare x

-- there is one for any numbers, of which there are as many
record Gives {X : Type 0} (numbers : X → List ℕ) (bare : X → X) (x : X) : Type 0 where
  at : (ns : List ℕ) → length ns ≡ length (numbers x) → Made numbers bare x ns

no_more : (ns ms : List ℕ) → ms ≡ [] → length ns ≡ length ms → ms ≡ ns
no_more [] ms none long = none
no_more (n ∷ ns) ms none long = let few : length ms ≡ 0 = ap length none in absurd (omega (arith, few, long))

none : {X : Type 0} (numbers : X → List ℕ) (bare : X → X) (x : X) → numbers x ≡ [] → Gives numbers bare x
none numbers bare x empty = record {
  at = λ ns long. record { made = x; has = no_more ns (numbers x) empty long; same = refl };
}

abbrev alone : ℕ → List ℕ
alone n = n ∷ []

abbrev dropped : ℕ → ℕ
dropped n = 0

only : (k : ℕ) (ns : List ℕ) → length ns ≡ 1 → Made alone dropped k ns
only k [] long = absurd (omega arith)
only k (n ∷ []) long = record { made = n; has = refl; same = refl }
only k (n ∷ m ∷ ns) long = absurd (omega arith)

number : (k : ℕ) → Gives alone dropped k
number k = record { at = λ ns long. only k ns long }

pair : {X Y : Type 0} {m : X → List ℕ} {n : Y → List ℕ} {b : X → X} {d : Y → Y} {x : X} {y : Y} → Gives m b x
    → Gives n d y
    → Gives (λ (p : X × Y). m p.0 ++ n p.1) (λ (p : X × Y). (b p.0, d p.1)) (x, y)
pair {m = m} {n = n} {x = x} {y = y} f g = record {
  at = λ ns long.
      let few = length (m x) in
      let all : length ns ≡ few + length (n y) = long ∙ length-append (m x) (n y) in
      let enough : few ≤ length ns = omega (arith, all) in
      let left : length (drop few ns) ≡ length (n y) = length-drop few ns ∙ (omega (arith, all)) in
      let front = f.at (take few ns) (length-take-le few ns enough) in
      let back = g.at (drop few ns) left in
      record {
        made = (front.made, back.made);
        has = (λ i. front.has i ++ back.has i) ∙ take-append-drop few ns;
        same = λ i. (front.same i, back.same i);
      };
}

module _ {X Y : Type 0} {m : Y → List ℕ} {b : Y → Y} {y : Y} where
  made_as : (numbers : X → List ℕ) (bare : X → X) → Gives m b y → (c d : Y → X) → ((z : Y) → numbers (c z) ≡ m z)
      → ((z : Y) → bare (c z) ≡ d (b z)) → Gives numbers bare (c y)
  made_as numbers bare f c d counts drops = record {
    at = λ ns long.
        let part = f.at ns (long ∙ ap length (counts y)) in
        record {
          made = c part.made;
          has = counts part.made ∙ part.has;
          same = drops part.made ∙ ap d part.same ∙ sym (drops y);
        };
  }

  made_of : (numbers : X → List ℕ) (bare : X → X) → Gives m b y → (c : Y → X) → ((z : Y) → numbers (c z) ≡ m z)
      → ((z : Y) → bare (c z) ≡ c (b z)) → Gives numbers bare (c y)
  made_of numbers bare f c counts drops = made_as numbers bare f c c counts drops

module _ {A : Type 0} where
  mutual
    expr_made : (x : Expr A) → Gives numbering.expr_numbers (maps.map_expr no_blocks) x
    expr_made (trees.node a b) = made_of numbering.expr_numbers (maps.map_expr no_blocks) (form_made b) (λ z.
        trees.node a z) (λ z. refl) (λ z. refl)

    form_made : (x : Form A) → Gives numbering.form_numbers (maps.map_form no_blocks) x
    form_made (trees.name a) = none numbering.form_numbers (maps.map_form no_blocks) (trees.name a) refl
    form_made (trees.int a) = none numbering.form_numbers (maps.map_form no_blocks) (trees.int a) refl
    form_made (trees.text a) = none numbering.form_numbers (maps.map_form no_blocks) (trees.text a) refl
    form_made (trees.const a) = none numbering.form_numbers (maps.map_form no_blocks) (trees.const a) refl
    form_made (trees.tuple a) = made_of numbering.form_numbers (maps.map_form no_blocks) (exprs_made a) (λ z.
        trees.tuple z) (λ z. refl) (λ z. refl)
    form_made (trees.list a) = made_of numbering.form_numbers (maps.map_form no_blocks) (exprs_made a) (λ z.
        trees.list z) (λ z. refl) (λ z. refl)
    form_made (trees.dict a) = made_of numbering.form_numbers (maps.map_form no_blocks) (pairs_made a) (λ z.
        trees.dict z) (λ z. refl) (λ z. refl)
    form_made (trees.list_of a b c) =
        made_of numbering.form_numbers (maps.map_form no_blocks) (pair (number a) (pair (expr_made b) (clauses_made c)))
        (λ z. trees.list_of z.0 z.1.0 z.1.1) (λ z. refl) (λ z. refl)
    form_made (trees.dict_of a b c d) =
        made_of numbering.form_numbers (maps.map_form no_blocks)
        (pair (number a) (pair (pair (expr_made b) (expr_made c)) (clauses_made d))) (λ z.
        trees.dict_of z.0 z.1.0.0 z.1.0.1 z.1.1) (λ z. refl) (λ z. refl)
    form_made (trees.lambda a b c) =
        made_of numbering.form_numbers (maps.map_form no_blocks) (pair (number a) (pair (params_made b) (expr_made c)))
        (λ z. trees.lambda z.0 z.1.0 z.1.1) (λ z. refl) (λ z. refl)
    form_made (trees.cond a b c) =
        made_of numbering.form_numbers (maps.map_form no_blocks) (pair (pair (expr_made b) (expr_made a)) (expr_made c))
        (λ z. trees.cond z.0.1 z.0.0 z.1) (λ z. refl) (λ z. refl)
    form_made (trees.or a) = made_of numbering.form_numbers (maps.map_form no_blocks) (exprs_made a) (λ z.
        trees.or z) (λ z. refl) (λ z. refl)
    form_made (trees.and a) = made_of numbering.form_numbers (maps.map_form no_blocks) (exprs_made a) (λ z.
        trees.and z) (λ z. refl) (λ z. refl)
    form_made (trees.not a) = made_of numbering.form_numbers (maps.map_form no_blocks) (expr_made a) (λ z.
        trees.not z) (λ z. refl) (λ z. refl)
    form_made (trees.compare a b) =
        made_of numbering.form_numbers (maps.map_form no_blocks) (pair (expr_made a) (tests_made b)) (λ z.
        trees.compare z.0 z.1) (λ z. refl) (λ z. refl)
    form_made (trees.chain a b) =
        made_of numbering.form_numbers (maps.map_form no_blocks) (pair (expr_made a) (ops_made b)) (λ z.
        trees.chain z.0 z.1) (λ z. refl) (λ z. refl)
    form_made (trees.unary a b) = made_of numbering.form_numbers (maps.map_form no_blocks) (expr_made b) (λ z.
        trees.unary a z) (λ z. refl) (λ z. refl)
    form_made (trees.power a b) =
        made_of numbering.form_numbers (maps.map_form no_blocks) (pair (expr_made a) (expr_made b)) (λ z.
        trees.power z.0 z.1) (λ z. refl) (λ z. refl)
    form_made (trees.primary a b) =
        made_of numbering.form_numbers (maps.map_form no_blocks) (pair (expr_made a) (trailers_made b)) (λ z.
        trees.primary z.0 z.1) (λ z. refl) (λ z. refl)

    exprs_made : (x : Exprs A) → Gives numbering.exprs_numbers (maps.map_exprs no_blocks) x
    exprs_made trees.no_exprs = none numbering.exprs_numbers (maps.map_exprs no_blocks) trees.no_exprs refl
    exprs_made (trees.expr a b) =
        made_of numbering.exprs_numbers (maps.map_exprs no_blocks) (pair (expr_made a) (exprs_made b)) (λ z.
        trees.expr z.0 z.1) (λ z. refl) (λ z. refl)

    maybe_made : (x : Maybe A) → Gives numbering.maybe_numbers (maps.map_maybe no_blocks) x
    maybe_made trees.none = none numbering.maybe_numbers (maps.map_maybe no_blocks) trees.none refl
    maybe_made (trees.some a) = made_of numbering.maybe_numbers (maps.map_maybe no_blocks) (expr_made a) (λ z.
        trees.some z) (λ z. refl) (λ z. refl)

    pairs_made : (x : Pairs A) → Gives numbering.pairs_numbers (maps.map_pairs no_blocks) x
    pairs_made trees.no_pairs = none numbering.pairs_numbers (maps.map_pairs no_blocks) trees.no_pairs refl
    pairs_made (trees.pair a b c) =
        made_of numbering.pairs_numbers (maps.map_pairs no_blocks)
        (pair (pair (expr_made a) (expr_made b)) (pairs_made c)) (λ z. trees.pair z.0.0 z.0.1 z.1) (λ z. refl) (λ z.
        refl)

    tests_made : (x : Tests A) → Gives numbering.tests_numbers (maps.map_tests no_blocks) x
    tests_made trees.no_tests = none numbering.tests_numbers (maps.map_tests no_blocks) trees.no_tests refl
    tests_made (trees.test a b c) =
        made_of numbering.tests_numbers (maps.map_tests no_blocks) (pair (expr_made b) (tests_made c)) (λ z.
        trees.test a z.0 z.1) (λ z. refl) (λ z. refl)

    ops_made : (x : Ops A) → Gives numbering.ops_numbers (maps.map_ops no_blocks) x
    ops_made trees.no_ops = none numbering.ops_numbers (maps.map_ops no_blocks) trees.no_ops refl
    ops_made (trees.op a b c) = made_of numbering.ops_numbers (maps.map_ops no_blocks) (pair (expr_made b) (ops_made c))
        (λ z. trees.op a z.0 z.1) (λ z. refl) (λ z. refl)

    clause_made : (x : Clause A) → Gives numbering.clause_numbers (maps.map_clause no_blocks) x
    clause_made (trees.a_clause a b) =
        made_of numbering.clause_numbers (maps.map_clause no_blocks) (pair (walk_made a) (exprs_made b)) (λ z.
        trees.a_clause z.0 z.1) (λ z. refl) (λ z. refl)

    clauses_made : (x : Clauses A) → Gives numbering.clauses_numbers (maps.map_clauses no_blocks) x
    clauses_made trees.no_clauses = none numbering.clauses_numbers (maps.map_clauses no_blocks) trees.no_clauses refl
    clauses_made (trees.clause a b) =
        made_of numbering.clauses_numbers (maps.map_clauses no_blocks) (pair (clause_made a) (clauses_made b)) (λ z.
        trees.clause z.0 z.1) (λ z. refl) (λ z. refl)

    walk_made : (x : Walk A) → Gives numbering.walk_numbers (maps.map_walk no_blocks) x
    walk_made (trees.a_walk a b c) =
        made_of numbering.walk_numbers (maps.map_walk no_blocks) (pair (target_made a) (expr_made b)) (λ z.
        trees.a_walk z.0 z.1 c) (λ z. refl) (λ z. refl)

    target_made : (x : Target A) → Gives numbering.target_numbers (maps.map_target no_blocks) x
    target_made (trees.to_place a) = made_of numbering.target_numbers (maps.map_target no_blocks) (place_made a) (λ z.
        trees.to_place z) (λ z. refl) (λ z. refl)
    target_made (trees.group a) = made_of numbering.target_numbers (maps.map_target no_blocks) (targets_made a) (λ z.
        trees.group z) (λ z. refl) (λ z. refl)

    targets_made : (x : Targets A) → Gives numbering.targets_numbers (maps.map_targets no_blocks) x
    targets_made trees.no_targets = none numbering.targets_numbers (maps.map_targets no_blocks) trees.no_targets refl
    targets_made (trees.target a b) =
        made_of numbering.targets_numbers (maps.map_targets no_blocks) (pair (target_made a) (targets_made b)) (λ z.
        trees.target z.0 z.1) (λ z. refl) (λ z. refl)

    place_made : (x : Place A) → Gives numbering.place_numbers (maps.map_place no_blocks) x
    place_made (trees.to_name a) = none numbering.place_numbers (maps.map_place no_blocks) (trees.to_name a) refl
    place_made (trees.to_attr a b c) = made_of numbering.place_numbers (maps.map_place no_blocks) (expr_made a) (λ z.
        trees.to_attr z b c) (λ z. refl) (λ z. refl)
    place_made (trees.to_item a b c) =
        made_of numbering.place_numbers (maps.map_place no_blocks) (pair (expr_made a) (expr_made b)) (λ z.
        trees.to_item z.0 z.1 c) (λ z. refl) (λ z. refl)

    params_made : (x : Params A) → Gives numbering.params_numbers (maps.map_params no_blocks) x
    params_made (trees.params a b c) = made_as numbering.params_numbers (maps.map_params no_blocks) (plain_made a) (λ z.
        trees.params z b c) (λ z.
        trees.params z (option_map (maps.map_named no_blocks) b) (option_map (maps.map_named no_blocks) c)) (λ z.
        refl) (λ z. refl)

    plain_made : (x : Plain A) → Gives numbering.plain_numbers (maps.map_plain no_blocks) x
    plain_made trees.no_plain = none numbering.plain_numbers (maps.map_plain no_blocks) trees.no_plain refl
    plain_made (trees.plain a b c) =
        made_of numbering.plain_numbers (maps.map_plain no_blocks) (pair (maybe_made b) (plain_made c)) (λ z.
        trees.plain a z.0 z.1) (λ z. refl) (λ z. refl)

    trailer_made : (x : Trailer A) → Gives numbering.trailer_numbers (maps.map_trailer no_blocks) x
    trailer_made (trees.attr a b) = none numbering.trailer_numbers (maps.map_trailer no_blocks) (trees.attr a b) refl
    trailer_made (trees.item a b) = made_of numbering.trailer_numbers (maps.map_trailer no_blocks) (expr_made a) (λ z.
        trees.item z b) (λ z. refl) (λ z. refl)
    trailer_made (trees.slice a b c d) =
        made_of numbering.trailer_numbers (maps.map_trailer no_blocks)
        (pair (pair (maybe_made a) (maybe_made b)) (maybe_made c)) (λ z. trees.slice z.0.0 z.0.1 z.1 d) (λ z.
        refl) (λ z. refl)
    trailer_made (trees.call a b) = made_of numbering.trailer_numbers (maps.map_trailer no_blocks) (args_made a) (λ z.
        trees.call z b) (λ z. refl) (λ z. refl)

    trailers_made : (x : Trailers A) → Gives numbering.trailers_numbers (maps.map_trailers no_blocks) x
    trailers_made trees.no_trailers =
        none numbering.trailers_numbers (maps.map_trailers no_blocks) trees.no_trailers refl
    trailers_made (trees.trailer a b) =
        made_of numbering.trailers_numbers (maps.map_trailers no_blocks) (pair (trailer_made a) (trailers_made b)) (λ z.
        trees.trailer z.0 z.1) (λ z. refl) (λ z. refl)

    arg_made : (x : Arg A) → Gives numbering.arg_numbers (maps.map_arg no_blocks) x
    arg_made (trees.value a) = made_of numbering.arg_numbers (maps.map_arg no_blocks) (expr_made a) (λ z.
        trees.value z) (λ z. refl) (λ z. refl)
    arg_made (trees.star a) = made_of numbering.arg_numbers (maps.map_arg no_blocks) (expr_made a) (λ z.
        trees.star z) (λ z. refl) (λ z. refl)
    arg_made (trees.key a b) = made_of numbering.arg_numbers (maps.map_arg no_blocks) (expr_made b) (λ z.
        trees.key a z) (λ z. refl) (λ z. refl)
    arg_made (trees.stars a) = made_of numbering.arg_numbers (maps.map_arg no_blocks) (expr_made a) (λ z.
        trees.stars z) (λ z. refl) (λ z. refl)

    args_made : (x : Args A) → Gives numbering.args_numbers (maps.map_args no_blocks) x
    args_made trees.no_args = none numbering.args_numbers (maps.map_args no_blocks) trees.no_args refl
    args_made (trees.arg a b) =
        made_of numbering.args_numbers (maps.map_args no_blocks) (pair (arg_made a) (args_made b)) (λ z.
        trees.arg z.0 z.1) (λ z. refl) (λ z. refl)

  option_made : (x : Option (Expr A)) → Gives numbering.option_numbers (option_map (maps.map_expr no_blocks)) x
  option_made None = none numbering.option_numbers (option_map (maps.map_expr no_blocks)) None refl
  option_made (Some x) = made_of numbering.option_numbers (option_map (maps.map_expr no_blocks)) (expr_made x) (λ z.
      Some z) (λ z. refl) (λ z. refl)

  places_made : (x : List (Place A)) → Gives numbering.places_numbers (map (maps.map_place no_blocks)) x
  places_made [] = none numbering.places_numbers (map (maps.map_place no_blocks)) [] refl
  places_made (p ∷ ps) =
      made_of numbering.places_numbers (map (maps.map_place no_blocks)) (pair (place_made p) (places_made ps)) (λ z.
      z.0 ∷ z.1) (λ z. refl) (λ z. refl)

  mutual
    stmt_made : (x : Stmt A) → Gives numbering.stmt_numbers (maps.map_stmt no_blocks) x
    stmt_made (stmt_trees.a_stmt a b) =
        made_of numbering.stmt_numbers (maps.map_stmt no_blocks) (stmt_form_made b) (λ z. stmt_trees.a_stmt a z) (λ z.
        refl) (λ z. refl)

    stmt_form_made : (x : StmtForm A) → Gives numbering.stmt_form_numbers (maps.map_stmt_form no_blocks) x
    stmt_form_made (stmt_trees.evaluate a) =
        made_of numbering.stmt_form_numbers (maps.map_stmt_form no_blocks) (expr_made a) (λ z. stmt_trees.evaluate z)
        (λ z. refl) (λ z. refl)
    stmt_form_made (stmt_trees.assign a b) =
        made_of numbering.stmt_form_numbers (maps.map_stmt_form no_blocks) (pair (places_made a) (expr_made b)) (λ z.
        stmt_trees.assign z.0 z.1) (λ z. refl) (λ z. refl)
    stmt_form_made (stmt_trees.unpack a b c) =
        made_of numbering.stmt_form_numbers (maps.map_stmt_form no_blocks) (pair (target_made a) (expr_made b)) (λ z.
        stmt_trees.unpack z.0 z.1 c) (λ z. refl) (λ z. refl)
    stmt_form_made (stmt_trees.aug a b c d e) =
        made_of numbering.stmt_form_numbers (maps.map_stmt_form no_blocks) (pair (place_made a) (expr_made d)) (λ z.
        stmt_trees.aug z.0 b c z.1 e) (λ z. refl) (λ z. refl)
    stmt_form_made (stmt_trees.del a) =
        made_of numbering.stmt_form_numbers (maps.map_stmt_form no_blocks) (places_made a) (λ z. stmt_trees.del z) (λ z.
        refl) (λ z. refl)
    stmt_form_made stmt_trees.pass =
        none numbering.stmt_form_numbers (maps.map_stmt_form no_blocks) stmt_trees.pass refl
    stmt_form_made stmt_trees.break =
        none numbering.stmt_form_numbers (maps.map_stmt_form no_blocks) stmt_trees.break refl
    stmt_form_made stmt_trees.continue =
        none numbering.stmt_form_numbers (maps.map_stmt_form no_blocks) stmt_trees.continue refl
    stmt_form_made (stmt_trees.give_back a) =
        made_of numbering.stmt_form_numbers (maps.map_stmt_form no_blocks) (option_made a) (λ z. stmt_trees.give_back z)
        (λ z. refl) (λ z. refl)
    stmt_form_made (stmt_trees.raise a) =
        made_of numbering.stmt_form_numbers (maps.map_stmt_form no_blocks) (option_made a) (λ z. stmt_trees.raise z)
        (λ z. refl) (λ z. refl)
    stmt_form_made (stmt_trees.assert a b) =
        made_of numbering.stmt_form_numbers (maps.map_stmt_form no_blocks) (pair (expr_made a) (option_made b)) (λ z.
        stmt_trees.assert z.0 z.1) (λ z. refl) (λ z. refl)
    stmt_form_made (stmt_trees.global a) =
        none numbering.stmt_form_numbers (maps.map_stmt_form no_blocks) (stmt_trees.global a) refl
    stmt_form_made (stmt_trees.choose a b) =
        made_of numbering.stmt_form_numbers (maps.map_stmt_form no_blocks) (pair (branches_made a) (maybe_stmts_made b))
        (λ z. stmt_trees.choose z.0 z.1) (λ z. refl) (λ z. refl)
    stmt_form_made (stmt_trees.while a b) =
        made_of numbering.stmt_form_numbers (maps.map_stmt_form no_blocks) (pair (expr_made a) (stmts_made b)) (λ z.
        stmt_trees.while z.0 z.1) (λ z. refl) (λ z. refl)
    stmt_form_made (stmt_trees.for a b) =
        made_of numbering.stmt_form_numbers (maps.map_stmt_form no_blocks) (pair (walk_made a) (stmts_made b)) (λ z.
        stmt_trees.for z.0 z.1) (λ z. refl) (λ z. refl)
    stmt_form_made (stmt_trees.try a b c d) =
        made_of numbering.stmt_form_numbers (maps.map_stmt_form no_blocks)
        (pair (pair (pair (stmts_made a) (excepts_made b)) (maybe_stmts_made c)) (maybe_stmts_made d)) (λ z.
        stmt_trees.try z.0.0.0 z.0.0.1 z.0.1 z.1) (λ z. refl) (λ z. refl)
    stmt_form_made (stmt_trees.define a b c d) =
        made_of numbering.stmt_form_numbers (maps.map_stmt_form no_blocks)
        (pair (number a) (pair (params_made c) (stmts_made d))) (λ z. stmt_trees.define z.0 b z.1.0 z.1.1) (λ z.
        refl) (λ z. refl)
    stmt_form_made (stmt_trees.class a b) =
        made_of numbering.stmt_form_numbers (maps.map_stmt_form no_blocks) (stmts_made b) (λ z. stmt_trees.class a z)
        (λ z. refl) (λ z. refl)

    stmts_made : (x : Stmts A) → Gives numbering.block_numbers (maps.map_stmts no_blocks) x
    stmts_made stmt_trees.no_stmts = none numbering.block_numbers (maps.map_stmts no_blocks) stmt_trees.no_stmts refl
    stmts_made (stmt_trees.stmt a b) =
        made_of numbering.block_numbers (maps.map_stmts no_blocks) (pair (stmt_made a) (stmts_made b)) (λ z.
        stmt_trees.stmt z.0 z.1) (λ z. refl) (λ z. refl)

    maybe_stmts_made : (x : MaybeStmts A) → Gives numbering.maybe_stmts_numbers (maps.map_maybe_stmts no_blocks) x
    maybe_stmts_made stmt_trees.none =
        none numbering.maybe_stmts_numbers (maps.map_maybe_stmts no_blocks) stmt_trees.none refl
    maybe_stmts_made (stmt_trees.some a) =
        made_of numbering.maybe_stmts_numbers (maps.map_maybe_stmts no_blocks) (stmts_made a) (λ z.
        stmt_trees.some z) (λ z. refl) (λ z. refl)

    branches_made : (x : Branches A) → Gives numbering.branches_numbers (maps.map_branches no_blocks) x
    branches_made stmt_trees.no_branches =
        none numbering.branches_numbers (maps.map_branches no_blocks) stmt_trees.no_branches refl
    branches_made (stmt_trees.branch a b c) =
        made_of numbering.branches_numbers (maps.map_branches no_blocks)
        (pair (pair (expr_made a) (stmts_made b)) (branches_made c)) (λ z. stmt_trees.branch z.0.0 z.0.1 z.1) (λ z.
        refl) (λ z. refl)

    except_made : (x : Except A) → Gives numbering.except_numbers (maps.map_except no_blocks) x
    except_made (stmt_trees.an_except a b c) =
        made_as numbering.except_numbers (maps.map_except no_blocks) (pair (option_made a) (stmts_made c)) (λ z.
        stmt_trees.an_except z.0 b z.1) (λ z. stmt_trees.an_except z.0 (option_map (maps.map_named no_blocks) b) z.1)
        (λ z. refl) (λ z. refl)

    excepts_made : (x : Excepts A) → Gives numbering.excepts_numbers (maps.map_excepts no_blocks) x
    excepts_made stmt_trees.no_excepts =
        none numbering.excepts_numbers (maps.map_excepts no_blocks) stmt_trees.no_excepts refl
    excepts_made (stmt_trees.except a b) =
        made_of numbering.excepts_numbers (maps.map_excepts no_blocks) (pair (except_made a) (excepts_made b)) (λ z.
        stmt_trees.except z.0 z.1) (λ z. refl) (λ z. refl)

  -- so a source is numbered
  pub a_numbering : (source : Stmts A) → (x : Stmts A) × IsNumbered source x
  a_numbering source =
      let many = block_count source in
      let long : length (range_with_len 1 many) ≡ length (block_numbers source) = length-range_with_len 1 many in
      let x = (stmts_made source).at (range_with_len 1 many) long in
      let count : block_count x.made ≡ many = ap length x.has ∙ long in
      (x.made, record { is_source = x.same; has_numbers = x.has ∙ ap (range_with_len 1) (sym count) })
