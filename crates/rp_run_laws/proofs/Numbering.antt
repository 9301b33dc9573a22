-- Two trees that have the same numbers of code blocks, and are the same without them, are the same: a tree without
-- numbers, filled with those of a tree
-- in their order, is that tree.
use Rattle.std.proofs.Common.{◌≡◌, ℕ, List, [], ◌∷◌, ◌++◌, append_assoc, append-nil, map, length, Option, Some, None}
use Rattle.std.proofs.Common.{option_map, refl, sym, ap, ◌∙◌}
use Rattle.std.specs.List.{range_with_len}
use Rattle.std.proofs.lemmas.List.{length-map}
use Rattle.rp_tree.specs.declared.parts.Named.{Named}
use Rattle.rp_tree.specs.ExpressionTrees as trees
use Rattle.rp_tree.specs.ExpressionTrees.{Expr, Form, Exprs, Maybe, Pairs, Tests, Ops, Clause, Clauses, Walk, Target}
use Rattle.rp_tree.specs.ExpressionTrees.{Targets, Place, Params, Plain, Trailer, Trailers, Arg, Args}
use Rattle.rp_tree.specs.StatementTrees as stmt_trees
use Rattle.rp_tree.specs.StatementTrees.{Stmt, StmtForm, Stmts, MaybeStmts, Branches, Except, Excepts}
use Rattle.rp_tree.specs.Maps as maps
use Rattle.rp_tree.specs.Maps.{no_blocks, without_blocks}
use Rattle.rp_scope.specs.Numbers as numbering
use Rattle.rp_scope.specs.Numbers.{HasNumbers, IsNumbered, block_count, block_numbers}
use Rattle.rp_scope.proofs.Mapped.{stmts_mapped}

-- what is made with the first of some numbers, and the numbers that are left
abbrev Filling : Type 0 → Type 0
Filling X = List ℕ → X × List ℕ

given : {X : Type 0} → X → Filling X
given x ns = (x, ns)

mapped : {X Y : Type 0} → (X → Y) → Filling X → Filling Y
mapped c f ns = let p = f ns in (c p.0, p.1)

both : {X Y : Type 0} → Filling (X → Y) → Filling X → Filling Y
both f g ns = let p = f ns in let q = g p.1 in (p.0 q.0, q.1)

counted : {X : Type 0} → Filling (ℕ → X) → Filling X
counted f [] = let p = f [] in (p.0 0, p.1)
counted f (n ∷ ns) = let p = f ns in (p.0 n, p.1)

-- with these numbers it makes x, whatever numbers follow
record Fills {X : Type 0} (f : Filling X) (ns : List ℕ) (x : X) : Type 0 where
  at : (rest : List ℕ) → f (ns ++ rest) ≡ (x, rest)

given_filled : {X : Type 0} {x : X} → Fills (given x) [] x
unfolding given
given_filled = record { at = λ rest. refl }

mapped_filled : {X Y : Type 0} {f : Filling X} {ns : List ℕ} {x : X} (c : X → Y) → Fills f ns x
    → Fills (mapped c f) ns (c x)
unfolding mapped
mapped_filled c p = record { at = λ rest i. (c (p.at rest i).0, (p.at rest i).1) }

both_filled : {X Y : Type 0} {f : Filling (X → Y)} {g : Filling X} {ms ns : List ℕ} {k : X → Y} {x : X} → Fills f ms k
    → Fills g ns x → Fills (both f g) (ms ++ ns) (k x)
unfolding both
both_filled {f = f} {g = g} {ms = ms} {ns = ns} {k = k} p q = record {
  at = λ rest.
      ap (λ all. ((f all).0 (g (f all).1).0, (g (f all).1).1)) (append_assoc ms ns rest)
      ∙ (λ i. ((p.at (ns ++ rest) i).0 (g (p.at (ns ++ rest) i).1).0, (g (p.at (ns ++ rest) i).1).1))
      ∙ (λ i. (k (q.at rest i).0, (q.at rest i).1));
}

counted_filled : {X : Type 0} {f : Filling (ℕ → X)} {n : ℕ} {ns : List ℕ} {k : ℕ → X} → Fills f ns k
    → Fills (counted f) (n ∷ ns) (k n)
unfolding counted
counted_filled {n = n} p = record { at = λ rest i. ((p.at rest i).0 n, (p.at rest i).1) }

filled_as : {X : Type 0} {f : Filling X} {ns : List ℕ} {x y : X} → Fills f ns x → x ≡ y → Fills f ns y
filled_as p e = record { at = λ rest. p.at rest ∙ (λ i. (e i, rest)) }

-- ---- what is filled

abbrev mutual
  fill_expr : {A : Type 0} → Expr A → Filling (Expr A)
  fill_expr (trees.node a b) = mapped (λ b. trees.node a b) (fill_form b)

  fill_form : {A : Type 0} → Form A → Filling (Form A)
  fill_form (trees.name a) = given (trees.name a)
  fill_form (trees.int a) = given (trees.int a)
  fill_form (trees.text a) = given (trees.text a)
  fill_form (trees.const a) = given (trees.const a)
  fill_form (trees.tuple a) = mapped (λ a. trees.tuple a) (fill_exprs a)
  fill_form (trees.list a) = mapped (λ a. trees.list a) (fill_exprs a)
  fill_form (trees.dict a) = mapped (λ a. trees.dict a) (fill_pairs a)
  fill_form (trees.list_of a b c) =
      counted (both (mapped (λ b c a. trees.list_of a b c) (fill_expr b)) (fill_clauses c))
  fill_form (trees.dict_of a b c d) =
      counted (both (both (mapped (λ b c d a. trees.dict_of a b c d) (fill_expr b)) (fill_expr c)) (fill_clauses d))
  fill_form (trees.lambda a b c) = counted (both (mapped (λ b c a. trees.lambda a b c) (fill_params b)) (fill_expr c))
  fill_form (trees.cond a b c) =
      both (both (mapped (λ b a c. trees.cond a b c) (fill_expr b)) (fill_expr a)) (fill_expr c)
  fill_form (trees.or a) = mapped (λ a. trees.or a) (fill_exprs a)
  fill_form (trees.and a) = mapped (λ a. trees.and a) (fill_exprs a)
  fill_form (trees.not a) = mapped (λ a. trees.not a) (fill_expr a)
  fill_form (trees.compare a b) = both (mapped (λ a b. trees.compare a b) (fill_expr a)) (fill_tests b)
  fill_form (trees.chain a b) = both (mapped (λ a b. trees.chain a b) (fill_expr a)) (fill_ops b)
  fill_form (trees.unary a b) = mapped (λ b. trees.unary a b) (fill_expr b)
  fill_form (trees.power a b) = both (mapped (λ a b. trees.power a b) (fill_expr a)) (fill_expr b)
  fill_form (trees.primary a b) = both (mapped (λ a b. trees.primary a b) (fill_expr a)) (fill_trailers b)

  fill_exprs : {A : Type 0} → Exprs A → Filling (Exprs A)
  fill_exprs trees.no_exprs = given trees.no_exprs
  fill_exprs (trees.expr a b) = both (mapped (λ a b. trees.expr a b) (fill_expr a)) (fill_exprs b)

  fill_maybe : {A : Type 0} → Maybe A → Filling (Maybe A)
  fill_maybe trees.none = given trees.none
  fill_maybe (trees.some a) = mapped (λ a. trees.some a) (fill_expr a)

  fill_pairs : {A : Type 0} → Pairs A → Filling (Pairs A)
  fill_pairs trees.no_pairs = given trees.no_pairs
  fill_pairs (trees.pair a b c) =
      both (both (mapped (λ a b c. trees.pair a b c) (fill_expr a)) (fill_expr b)) (fill_pairs c)

  fill_tests : {A : Type 0} → Tests A → Filling (Tests A)
  fill_tests trees.no_tests = given trees.no_tests
  fill_tests (trees.test a b c) = both (mapped (λ b c. trees.test a b c) (fill_expr b)) (fill_tests c)

  fill_ops : {A : Type 0} → Ops A → Filling (Ops A)
  fill_ops trees.no_ops = given trees.no_ops
  fill_ops (trees.op a b c) = both (mapped (λ b c. trees.op a b c) (fill_expr b)) (fill_ops c)

  fill_clause : {A : Type 0} → Clause A → Filling (Clause A)
  fill_clause (trees.a_clause a b) = both (mapped (λ a b. trees.a_clause a b) (fill_walk a)) (fill_exprs b)

  fill_clauses : {A : Type 0} → Clauses A → Filling (Clauses A)
  fill_clauses trees.no_clauses = given trees.no_clauses
  fill_clauses (trees.clause a b) = both (mapped (λ a b. trees.clause a b) (fill_clause a)) (fill_clauses b)

  fill_walk : {A : Type 0} → Walk A → Filling (Walk A)
  fill_walk (trees.a_walk a b c) = both (mapped (λ a b. trees.a_walk a b c) (fill_target a)) (fill_expr b)

  fill_target : {A : Type 0} → Target A → Filling (Target A)
  fill_target (trees.to_place a) = mapped (λ a. trees.to_place a) (fill_place a)
  fill_target (trees.group a) = mapped (λ a. trees.group a) (fill_targets a)

  fill_targets : {A : Type 0} → Targets A → Filling (Targets A)
  fill_targets trees.no_targets = given trees.no_targets
  fill_targets (trees.target a b) = both (mapped (λ a b. trees.target a b) (fill_target a)) (fill_targets b)

  fill_place : {A : Type 0} → Place A → Filling (Place A)
  fill_place (trees.to_name a) = given (trees.to_name a)
  fill_place (trees.to_attr a b c) = mapped (λ a. trees.to_attr a b c) (fill_expr a)
  fill_place (trees.to_item a b c) = both (mapped (λ a b. trees.to_item a b c) (fill_expr a)) (fill_expr b)

  fill_params : {A : Type 0} → Params A → Filling (Params A)
  fill_params (trees.params a b c) = mapped (λ a. trees.params a b c) (fill_plain a)

  fill_plain : {A : Type 0} → Plain A → Filling (Plain A)
  fill_plain trees.no_plain = given trees.no_plain
  fill_plain (trees.plain a b c) = both (mapped (λ b c. trees.plain a b c) (fill_maybe b)) (fill_plain c)

  fill_trailer : {A : Type 0} → Trailer A → Filling (Trailer A)
  fill_trailer (trees.attr a b) = given (trees.attr a b)
  fill_trailer (trees.item a b) = mapped (λ a. trees.item a b) (fill_expr a)
  fill_trailer (trees.slice a b c d) = both (both (mapped (λ a b c. trees.slice a b c d) (fill_maybe a)) (fill_maybe b))
      (fill_maybe c)
  fill_trailer (trees.call a b) = mapped (λ a. trees.call a b) (fill_args a)

  fill_trailers : {A : Type 0} → Trailers A → Filling (Trailers A)
  fill_trailers trees.no_trailers = given trees.no_trailers
  fill_trailers (trees.trailer a b) = both (mapped (λ a b. trees.trailer a b) (fill_trailer a)) (fill_trailers b)

  fill_arg : {A : Type 0} → Arg A → Filling (Arg A)
  fill_arg (trees.value a) = mapped (λ a. trees.value a) (fill_expr a)
  fill_arg (trees.star a) = mapped (λ a. trees.star a) (fill_expr a)
  fill_arg (trees.key a b) = mapped (λ b. trees.key a b) (fill_expr b)
  fill_arg (trees.stars a) = mapped (λ a. trees.stars a) (fill_expr a)

  fill_args : {A : Type 0} → Args A → Filling (Args A)
  fill_args trees.no_args = given trees.no_args
  fill_args (trees.arg a b) = both (mapped (λ a b. trees.arg a b) (fill_arg a)) (fill_args b)

abbrev fill_option : {A : Type 0} → Option (Expr A) → Filling (Option (Expr A))
fill_option None = given None
fill_option (Some x) = mapped (λ x. Some x) (fill_expr x)

abbrev fill_places : {A : Type 0} → List (Place A) → Filling (List (Place A))
fill_places [] = given []
fill_places (p ∷ ps) = both (mapped (λ p ps. p ∷ ps) (fill_place p)) (fill_places ps)

abbrev mutual
  fill_stmt : {A : Type 0} → Stmt A → Filling (Stmt A)
  fill_stmt (stmt_trees.a_stmt a b) = mapped (λ b. stmt_trees.a_stmt a b) (fill_stmt_form b)

  fill_stmt_form : {A : Type 0} → StmtForm A → Filling (StmtForm A)
  fill_stmt_form (stmt_trees.evaluate a) = mapped (λ a. stmt_trees.evaluate a) (fill_expr a)
  fill_stmt_form (stmt_trees.assign a b) = both (mapped (λ a b. stmt_trees.assign a b) (fill_places a)) (fill_expr b)
  fill_stmt_form (stmt_trees.unpack a b c) =
      both (mapped (λ a b. stmt_trees.unpack a b c) (fill_target a)) (fill_expr b)
  fill_stmt_form (stmt_trees.aug a b c d e) =
      both (mapped (λ a d. stmt_trees.aug a b c d e) (fill_place a)) (fill_expr d)
  fill_stmt_form (stmt_trees.del a) = mapped (λ a. stmt_trees.del a) (fill_places a)
  fill_stmt_form stmt_trees.pass = given stmt_trees.pass
  fill_stmt_form stmt_trees.break = given stmt_trees.break
  fill_stmt_form stmt_trees.continue = given stmt_trees.continue
  fill_stmt_form (stmt_trees.give_back a) = mapped (λ a. stmt_trees.give_back a) (fill_option a)
  fill_stmt_form (stmt_trees.raise a) = mapped (λ a. stmt_trees.raise a) (fill_option a)
  fill_stmt_form (stmt_trees.assert a b) = both (mapped (λ a b. stmt_trees.assert a b) (fill_expr a)) (fill_option b)
  fill_stmt_form (stmt_trees.global a) = given (stmt_trees.global a)
  fill_stmt_form (stmt_trees.choose a b) =
      both (mapped (λ a b. stmt_trees.choose a b) (fill_branches a)) (fill_maybe_stmts b)
  fill_stmt_form (stmt_trees.while a b) = both (mapped (λ a b. stmt_trees.while a b) (fill_expr a)) (fill_stmts b)
  fill_stmt_form (stmt_trees.for a b) = both (mapped (λ a b. stmt_trees.for a b) (fill_walk a)) (fill_stmts b)
  fill_stmt_form (stmt_trees.try a b c d) =
      both (both (both (mapped (λ a b c d. stmt_trees.try a b c d) (fill_stmts a)) (fill_excepts b))
      (fill_maybe_stmts c)) (fill_maybe_stmts d)
  fill_stmt_form (stmt_trees.define a b c d) =
      counted (both (mapped (λ c d a. stmt_trees.define a b c d) (fill_params c)) (fill_stmts d))
  fill_stmt_form (stmt_trees.class a b) = mapped (λ b. stmt_trees.class a b) (fill_stmts b)

  fill_stmts : {A : Type 0} → Stmts A → Filling (Stmts A)
  fill_stmts stmt_trees.no_stmts = given stmt_trees.no_stmts
  fill_stmts (stmt_trees.stmt a b) = both (mapped (λ a b. stmt_trees.stmt a b) (fill_stmt a)) (fill_stmts b)

  fill_maybe_stmts : {A : Type 0} → MaybeStmts A → Filling (MaybeStmts A)
  fill_maybe_stmts stmt_trees.none = given stmt_trees.none
  fill_maybe_stmts (stmt_trees.some a) = mapped (λ a. stmt_trees.some a) (fill_stmts a)

  fill_branches : {A : Type 0} → Branches A → Filling (Branches A)
  fill_branches stmt_trees.no_branches = given stmt_trees.no_branches
  fill_branches (stmt_trees.branch a b c) =
      both (both (mapped (λ a b c. stmt_trees.branch a b c) (fill_expr a)) (fill_stmts b)) (fill_branches c)

  fill_except : {A : Type 0} → Except A → Filling (Except A)
  fill_except (stmt_trees.an_except a b c) =
      both (mapped (λ a c. stmt_trees.an_except a b c) (fill_option a)) (fill_stmts c)

  fill_excepts : {A : Type 0} → Excepts A → Filling (Excepts A)
  fill_excepts stmt_trees.no_excepts = given stmt_trees.no_excepts
  fill_excepts (stmt_trees.except a b) = both (mapped (λ a b. stmt_trees.except a b) (fill_except a)) (fill_excepts b)

-- ---- each tree is filled with its numbers

module _ {A : Type 0} where
  name_kept : (x : Option (Named A)) → option_map (maps.map_named no_blocks) x ≡ x
  name_kept None = refl
  name_kept (Some n) = refl

  nameds_kept : (x : List (Named A)) → map (maps.map_named no_blocks) x ≡ x
  nameds_kept [] = refl
  nameds_kept (n ∷ ns) = ap (λ rest. n ∷ rest) (nameds_kept ns)

  mutual
    expr_filled : (x : Expr A) → Fills (fill_expr (maps.map_expr no_blocks x)) (numbering.expr_numbers x) x
    expr_filled (trees.node a b) = mapped_filled (λ b. trees.node a b) (form_filled b)

    form_filled : (x : Form A) → Fills (fill_form (maps.map_form no_blocks x)) (numbering.form_numbers x) x
    form_filled (trees.name a) = given_filled
    form_filled (trees.int a) = given_filled
    form_filled (trees.text a) = given_filled
    form_filled (trees.const a) = given_filled
    form_filled (trees.tuple a) = mapped_filled (λ a. trees.tuple a) (exprs_filled a)
    form_filled (trees.list a) = mapped_filled (λ a. trees.list a) (exprs_filled a)
    form_filled (trees.dict a) = mapped_filled (λ a. trees.dict a) (pairs_filled a)
    form_filled (trees.list_of a b c) =
        counted_filled (both_filled (mapped_filled (λ b c a. trees.list_of a b c) (expr_filled b)) (clauses_filled c))
    form_filled (trees.dict_of a b c d) =
        counted_filled
        (both_filled (both_filled (mapped_filled (λ b c d a. trees.dict_of a b c d) (expr_filled b)) (expr_filled c))
        (clauses_filled d))
    form_filled (trees.lambda a b c) =
        counted_filled (both_filled (mapped_filled (λ b c a. trees.lambda a b c) (params_filled b)) (expr_filled c))
    form_filled (trees.cond a b c) =
        both_filled (both_filled (mapped_filled (λ b a c. trees.cond a b c) (expr_filled b)) (expr_filled a))
        (expr_filled c)
    form_filled (trees.or a) = mapped_filled (λ a. trees.or a) (exprs_filled a)
    form_filled (trees.and a) = mapped_filled (λ a. trees.and a) (exprs_filled a)
    form_filled (trees.not a) = mapped_filled (λ a. trees.not a) (expr_filled a)
    form_filled (trees.compare a b) =
        both_filled (mapped_filled (λ a b. trees.compare a b) (expr_filled a)) (tests_filled b)
    form_filled (trees.chain a b) = both_filled (mapped_filled (λ a b. trees.chain a b) (expr_filled a)) (ops_filled b)
    form_filled (trees.unary a b) = mapped_filled (λ b. trees.unary a b) (expr_filled b)
    form_filled (trees.power a b) = both_filled (mapped_filled (λ a b. trees.power a b) (expr_filled a)) (expr_filled b)
    form_filled (trees.primary a b) =
        both_filled (mapped_filled (λ a b. trees.primary a b) (expr_filled a)) (trailers_filled b)

    exprs_filled : (x : Exprs A) → Fills (fill_exprs (maps.map_exprs no_blocks x)) (numbering.exprs_numbers x) x
    exprs_filled trees.no_exprs = given_filled
    exprs_filled (trees.expr a b) = both_filled (mapped_filled (λ a b. trees.expr a b) (expr_filled a)) (exprs_filled b)

    maybe_filled : (x : Maybe A) → Fills (fill_maybe (maps.map_maybe no_blocks x)) (numbering.maybe_numbers x) x
    maybe_filled trees.none = given_filled
    maybe_filled (trees.some a) = mapped_filled (λ a. trees.some a) (expr_filled a)

    pairs_filled : (x : Pairs A) → Fills (fill_pairs (maps.map_pairs no_blocks x)) (numbering.pairs_numbers x) x
    pairs_filled trees.no_pairs = given_filled
    pairs_filled (trees.pair a b c) =
        both_filled (both_filled (mapped_filled (λ a b c. trees.pair a b c) (expr_filled a)) (expr_filled b))
        (pairs_filled c)

    tests_filled : (x : Tests A) → Fills (fill_tests (maps.map_tests no_blocks x)) (numbering.tests_numbers x) x
    tests_filled trees.no_tests = given_filled
    tests_filled (trees.test a b c) =
        both_filled (mapped_filled (λ b c. trees.test a b c) (expr_filled b)) (tests_filled c)

    ops_filled : (x : Ops A) → Fills (fill_ops (maps.map_ops no_blocks x)) (numbering.ops_numbers x) x
    ops_filled trees.no_ops = given_filled
    ops_filled (trees.op a b c) = both_filled (mapped_filled (λ b c. trees.op a b c) (expr_filled b)) (ops_filled c)

    clause_filled : (x : Clause A) → Fills (fill_clause (maps.map_clause no_blocks x)) (numbering.clause_numbers x) x
    clause_filled (trees.a_clause a b) =
        both_filled (mapped_filled (λ a b. trees.a_clause a b) (walk_filled a)) (exprs_filled b)

    clauses_filled : (x : Clauses A)
        → Fills (fill_clauses (maps.map_clauses no_blocks x)) (numbering.clauses_numbers x) x
    clauses_filled trees.no_clauses = given_filled
    clauses_filled (trees.clause a b) =
        both_filled (mapped_filled (λ a b. trees.clause a b) (clause_filled a)) (clauses_filled b)

    walk_filled : (x : Walk A) → Fills (fill_walk (maps.map_walk no_blocks x)) (numbering.walk_numbers x) x
    walk_filled (trees.a_walk a b c) =
        both_filled (mapped_filled (λ a b. trees.a_walk a b c) (target_filled a)) (expr_filled b)

    target_filled : (x : Target A) → Fills (fill_target (maps.map_target no_blocks x)) (numbering.target_numbers x) x
    target_filled (trees.to_place a) = mapped_filled (λ a. trees.to_place a) (place_filled a)
    target_filled (trees.group a) = mapped_filled (λ a. trees.group a) (targets_filled a)

    targets_filled : (x : Targets A)
        → Fills (fill_targets (maps.map_targets no_blocks x)) (numbering.targets_numbers x) x
    targets_filled trees.no_targets = given_filled
    targets_filled (trees.target a b) =
        both_filled (mapped_filled (λ a b. trees.target a b) (target_filled a)) (targets_filled b)

    place_filled : (x : Place A) → Fills (fill_place (maps.map_place no_blocks x)) (numbering.place_numbers x) x
    place_filled (trees.to_name a) = given_filled
    place_filled (trees.to_attr a b c) = mapped_filled (λ a. trees.to_attr a b c) (expr_filled a)
    place_filled (trees.to_item a b c) =
        both_filled (mapped_filled (λ a b. trees.to_item a b c) (expr_filled a)) (expr_filled b)

    params_filled : (x : Params A) → Fills (fill_params (maps.map_params no_blocks x)) (numbering.params_numbers x) x
    params_filled (trees.params a b c) =
        filled_as
        (mapped_filled (λ a.
        trees.params a (option_map (maps.map_named no_blocks) b) (option_map (maps.map_named no_blocks) c))
        (plain_filled a)) (λ i. trees.params a (name_kept b i) (name_kept c i))

    plain_filled : (x : Plain A) → Fills (fill_plain (maps.map_plain no_blocks x)) (numbering.plain_numbers x) x
    plain_filled trees.no_plain = given_filled
    plain_filled (trees.plain a b c) =
        both_filled (mapped_filled (λ b c. trees.plain a b c) (maybe_filled b)) (plain_filled c)

    trailer_filled : (x : Trailer A)
        → Fills (fill_trailer (maps.map_trailer no_blocks x)) (numbering.trailer_numbers x) x
    trailer_filled (trees.attr a b) = given_filled
    trailer_filled (trees.item a b) = mapped_filled (λ a. trees.item a b) (expr_filled a)
    trailer_filled (trees.slice a b c d) =
        both_filled (both_filled (mapped_filled (λ a b c. trees.slice a b c d) (maybe_filled a)) (maybe_filled b))
        (maybe_filled c)
    trailer_filled (trees.call a b) = mapped_filled (λ a. trees.call a b) (args_filled a)

    trailers_filled : (x : Trailers A)
        → Fills (fill_trailers (maps.map_trailers no_blocks x)) (numbering.trailers_numbers x) x
    trailers_filled trees.no_trailers = given_filled
    trailers_filled (trees.trailer a b) =
        both_filled (mapped_filled (λ a b. trees.trailer a b) (trailer_filled a)) (trailers_filled b)

    arg_filled : (x : Arg A) → Fills (fill_arg (maps.map_arg no_blocks x)) (numbering.arg_numbers x) x
    arg_filled (trees.value a) = mapped_filled (λ a. trees.value a) (expr_filled a)
    arg_filled (trees.star a) = mapped_filled (λ a. trees.star a) (expr_filled a)
    arg_filled (trees.key a b) = mapped_filled (λ b. trees.key a b) (expr_filled b)
    arg_filled (trees.stars a) = mapped_filled (λ a. trees.stars a) (expr_filled a)

    args_filled : (x : Args A) → Fills (fill_args (maps.map_args no_blocks x)) (numbering.args_numbers x) x
    args_filled trees.no_args = given_filled
    args_filled (trees.arg a b) = both_filled (mapped_filled (λ a b. trees.arg a b) (arg_filled a)) (args_filled b)

  option_filled : (x : Option (Expr A))
      → Fills (fill_option (option_map (maps.map_expr no_blocks) x)) (numbering.option_numbers x) x
  option_filled None = given_filled
  option_filled (Some x) = mapped_filled (λ x. Some x) (expr_filled x)

  places_filled : (x : List (Place A))
      → Fills (fill_places (map (maps.map_place no_blocks) x)) (numbering.places_numbers x) x
  places_filled [] = given_filled
  places_filled (p ∷ ps) = both_filled (mapped_filled (λ p ps. p ∷ ps) (place_filled p)) (places_filled ps)

  mutual
    stmt_filled : (x : Stmt A) → Fills (fill_stmt (maps.map_stmt no_blocks x)) (numbering.stmt_numbers x) x
    stmt_filled (stmt_trees.a_stmt a b) = mapped_filled (λ b. stmt_trees.a_stmt a b) (stmt_form_filled b)

    stmt_form_filled : (x : StmtForm A)
        → Fills (fill_stmt_form (maps.map_stmt_form no_blocks x)) (numbering.stmt_form_numbers x) x
    stmt_form_filled (stmt_trees.evaluate a) = mapped_filled (λ a. stmt_trees.evaluate a) (expr_filled a)
    stmt_form_filled (stmt_trees.assign a b) =
        both_filled (mapped_filled (λ a b. stmt_trees.assign a b) (places_filled a)) (expr_filled b)
    stmt_form_filled (stmt_trees.unpack a b c) =
        both_filled (mapped_filled (λ a b. stmt_trees.unpack a b c) (target_filled a)) (expr_filled b)
    stmt_form_filled (stmt_trees.aug a b c d e) =
        both_filled (mapped_filled (λ a d. stmt_trees.aug a b c d e) (place_filled a)) (expr_filled d)
    stmt_form_filled (stmt_trees.del a) = mapped_filled (λ a. stmt_trees.del a) (places_filled a)
    stmt_form_filled stmt_trees.pass = given_filled
    stmt_form_filled stmt_trees.break = given_filled
    stmt_form_filled stmt_trees.continue = given_filled
    stmt_form_filled (stmt_trees.give_back a) = mapped_filled (λ a. stmt_trees.give_back a) (option_filled a)
    stmt_form_filled (stmt_trees.raise a) = mapped_filled (λ a. stmt_trees.raise a) (option_filled a)
    stmt_form_filled (stmt_trees.assert a b) =
        both_filled (mapped_filled (λ a b. stmt_trees.assert a b) (expr_filled a)) (option_filled b)
    stmt_form_filled (stmt_trees.global a) = filled_as (given_filled) (λ i. stmt_trees.global (nameds_kept a i))
    stmt_form_filled (stmt_trees.choose a b) =
        both_filled (mapped_filled (λ a b. stmt_trees.choose a b) (branches_filled a)) (maybe_stmts_filled b)
    stmt_form_filled (stmt_trees.while a b) =
        both_filled (mapped_filled (λ a b. stmt_trees.while a b) (expr_filled a)) (stmts_filled b)
    stmt_form_filled (stmt_trees.for a b) =
        both_filled (mapped_filled (λ a b. stmt_trees.for a b) (walk_filled a)) (stmts_filled b)
    stmt_form_filled (stmt_trees.try a b c d) =
        both_filled
        (both_filled (both_filled (mapped_filled (λ a b c d. stmt_trees.try a b c d) (stmts_filled a))
        (excepts_filled b)) (maybe_stmts_filled c)) (maybe_stmts_filled d)
    stmt_form_filled (stmt_trees.define a b c d) =
        counted_filled (both_filled (mapped_filled (λ c d a. stmt_trees.define a b c d) (params_filled c))
        (stmts_filled d))
    stmt_form_filled (stmt_trees.class a b) = mapped_filled (λ b. stmt_trees.class a b) (stmts_filled b)

    stmts_filled : (x : Stmts A) → Fills (fill_stmts (maps.map_stmts no_blocks x)) (numbering.block_numbers x) x
    stmts_filled stmt_trees.no_stmts = given_filled
    stmts_filled (stmt_trees.stmt a b) =
        both_filled (mapped_filled (λ a b. stmt_trees.stmt a b) (stmt_filled a)) (stmts_filled b)

    maybe_stmts_filled : (x : MaybeStmts A)
        → Fills (fill_maybe_stmts (maps.map_maybe_stmts no_blocks x)) (numbering.maybe_stmts_numbers x) x
    maybe_stmts_filled stmt_trees.none = given_filled
    maybe_stmts_filled (stmt_trees.some a) = mapped_filled (λ a. stmt_trees.some a) (stmts_filled a)

    branches_filled : (x : Branches A)
        → Fills (fill_branches (maps.map_branches no_blocks x)) (numbering.branches_numbers x) x
    branches_filled stmt_trees.no_branches = given_filled
    branches_filled (stmt_trees.branch a b c) =
        both_filled (both_filled (mapped_filled (λ a b c. stmt_trees.branch a b c) (expr_filled a)) (stmts_filled b))
        (branches_filled c)

    except_filled : (x : Except A) → Fills (fill_except (maps.map_except no_blocks x)) (numbering.except_numbers x) x
    except_filled (stmt_trees.an_except a b c) =
        filled_as
        (both_filled (mapped_filled (λ a c. stmt_trees.an_except a (option_map (maps.map_named no_blocks) b) c)
        (option_filled a)) (stmts_filled c)) (λ i. stmt_trees.an_except a (name_kept b i) c)

    excepts_filled : (x : Excepts A)
        → Fills (fill_excepts (maps.map_excepts no_blocks x)) (numbering.excepts_numbers x) x
    excepts_filled stmt_trees.no_excepts = given_filled
    excepts_filled (stmt_trees.except a b) =
        both_filled (mapped_filled (λ a b. stmt_trees.except a b) (except_filled a)) (excepts_filled b)

  -- ---- so two trees are one

  same_filled : (x y : Stmts A) → without_blocks x ≡ without_blocks y → block_numbers x ≡ block_numbers y → x ≡ y
  same_filled x y same numbers =
      let whole : (x, []) ≡ (y, []) =
      sym ((stmts_filled x).at [])
      ∙ (λ i. fill_stmts (same i) (numbers i ++ []))
      ∙ (stmts_filled y).at [] in
      λ i. (whole i).0

  counted_without : (x : Stmts A) → block_count (without_blocks x) ≡ block_count x
  counted_without x = sym (ap length (stmts_mapped no_blocks x)) ∙ length-map (block_numbers x) (λ n. 0)

  -- a source is numbered in one way
  pub one_numbering : (source x y : Stmts A) → IsNumbered source x → IsNumbered source y → x ≡ y
  one_numbering source x y first second =
      let same : without_blocks x ≡ without_blocks y = first.is_source ∙ sym second.is_source in
      let count : block_count x ≡ block_count y = sym (counted_without x) ∙ ap block_count same ∙ counted_without y in
      same_filled x y same (first.has_numbers ∙ ap (range_with_len 1) count ∙ sym second.has_numbers)
