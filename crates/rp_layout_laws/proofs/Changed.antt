-- The functions of a tree in which names, lines, numbers or guards are changed are those of the tree, changed alike.
use Rattle.std.proofs.Common.{◌≡◌, ◌∙◌, refl, ℕ, List, [], ◌∷◌, ◌++◌, map, Option, Some, None, option_map}
use Rattle.std.proofs.lemmas.List.{map-append}
use Rattle.rp_base.specs.declared.value.Name.{Name}
use Rattle.rp_tree.specs.Expressions as tree
use Rattle.rp_tree.specs.Statements as stmt_tree
use Rattle.rp_tree.specs.Maps as maps
use Rattle.rp_tree.specs.Maps.{Change}
use Rattle.rp_meaning.specs.Blocks as blocks
use Rattle.rp_meaning.specs.Blocks.{Code, Codes, def, lambda}

-- what a call of a function runs, in the changed tree
abbrev pub changed_code : Change Name Name → Code → Code
changed_code change (def ps b) = def (maps.map_params change ps) (maps.map_stmts change b)
changed_code change (lambda ps x) = lambda (maps.map_params change ps) (maps.map_expr change x)

-- and with its number
abbrev pub changed_function : Change Name Name → ℕ × Code → ℕ × Code
changed_function change e = (change.block e.0, changed_code change e.1)

module _ (change : Change Name Name) where
  abbrev changed : ℕ × Code → ℕ × Code
  changed = changed_function change

  joined : (xs ys : Codes) {us vs : Codes} → map changed xs ≡ us → map changed ys ≡ vs
      → map changed (xs ++ ys) ≡ us ++ vs
  joined xs ys p q = map-append changed xs ys ∙ (λ j. p j ++ q j)

  begun : (e : ℕ × Code) (cs : Codes) {us : Codes} → map changed cs ≡ us → map changed (e ∷ cs) ≡ changed e ∷ us
  begun e cs p = λ j. changed e ∷ p j

  mutual
    of_expr : (x : tree.Expr) → map changed (blocks.of_expr x) ≡ blocks.of_expr (maps.map_expr change x)
    of_expr (tree.node line x) = of_form x

    of_form : (x : tree.Form) → map changed (blocks.of_form x) ≡ blocks.of_form (maps.map_form change x)
    of_form (tree.name n) = refl
    of_form (tree.int z) = refl
    of_form (tree.text x) = refl
    of_form (tree.const c) = refl
    of_form (tree.tuple es) = of_exprs es
    of_form (tree.list es) = of_exprs es
    of_form (tree.dict ps) = of_pairs ps
    of_form (tree.list_of n x cs) = joined _ _ (of_expr x) (of_clauses cs)
    of_form (tree.dict_of n k x cs) = joined _ _ (joined _ _ (of_expr k) (of_expr x)) (of_clauses cs)
    of_form (tree.lambda n ps x) = begun (n, lambda ps x) _ (joined _ _ (of_params ps) (of_expr x))
    of_form (tree.cond x a b) = joined _ _ (joined _ _ (of_expr x) (of_expr a)) (of_expr b)
    of_form (tree.or es) = of_exprs es
    of_form (tree.and es) = of_exprs es
    of_form (tree.not x) = of_expr x
    of_form (tree.compare x ts) = joined _ _ (of_expr x) (of_tests ts)
    of_form (tree.chain x os) = joined _ _ (of_expr x) (of_ops os)
    of_form (tree.unary u x) = of_expr x
    of_form (tree.power a b) = joined _ _ (of_expr a) (of_expr b)
    of_form (tree.primary x ts) = joined _ _ (of_expr x) (of_trailers ts)

    of_exprs : (x : tree.Exprs) → map changed (blocks.of_exprs x) ≡ blocks.of_exprs (maps.map_exprs change x)
    of_exprs tree.no_exprs = refl
    of_exprs (tree.expr x xs) = joined _ _ (of_expr x) (of_exprs xs)

    of_maybe : (x : tree.Maybe) → map changed (blocks.of_maybe x) ≡ blocks.of_maybe (maps.map_maybe change x)
    of_maybe tree.none = refl
    of_maybe (tree.some x) = of_expr x

    of_pairs : (x : tree.Pairs) → map changed (blocks.of_pairs x) ≡ blocks.of_pairs (maps.map_pairs change x)
    of_pairs tree.no_pairs = refl
    of_pairs (tree.pair k x ps) = joined _ _ (joined _ _ (of_expr k) (of_expr x)) (of_pairs ps)

    of_tests : (x : tree.Tests) → map changed (blocks.of_tests x) ≡ blocks.of_tests (maps.map_tests change x)
    of_tests tree.no_tests = refl
    of_tests (tree.test o x ts) = joined _ _ (of_expr x) (of_tests ts)

    of_ops : (x : tree.Ops) → map changed (blocks.of_ops x) ≡ blocks.of_ops (maps.map_ops change x)
    of_ops tree.no_ops = refl
    of_ops (tree.op o x os) = joined _ _ (of_expr x) (of_ops os)

    of_clause : (x : tree.Clause) → map changed (blocks.of_clause x) ≡ blocks.of_clause (maps.map_clause change x)
    of_clause (tree.a_clause w es) = joined _ _ (of_walk w) (of_exprs es)

    of_clauses : (x : tree.Clauses) → map changed (blocks.of_clauses x) ≡ blocks.of_clauses (maps.map_clauses change x)
    of_clauses tree.no_clauses = refl
    of_clauses (tree.clause c cs) = joined _ _ (of_clause c) (of_clauses cs)

    of_walk : (x : tree.Walk) → map changed (blocks.of_walk x) ≡ blocks.of_walk (maps.map_walk change x)
    of_walk (tree.a_walk p x g) = joined _ _ (of_target p) (of_expr x)

    of_target : (x : tree.Target) → map changed (blocks.of_target x) ≡ blocks.of_target (maps.map_target change x)
    of_target (tree.to_place p) = of_place p
    of_target (tree.group ps) = of_targets ps

    of_targets : (x : tree.Targets) → map changed (blocks.of_targets x) ≡ blocks.of_targets (maps.map_targets change x)
    of_targets tree.no_targets = refl
    of_targets (tree.target p ps) = joined _ _ (of_target p) (of_targets ps)

    of_place : (x : tree.Place) → map changed (blocks.of_place x) ≡ blocks.of_place (maps.map_place change x)
    of_place (tree.to_name n) = refl
    of_place (tree.to_attr x n g) = of_expr x
    of_place (tree.to_item x i g) = joined _ _ (of_expr x) (of_expr i)

    of_params : (x : tree.Params) → map changed (blocks.of_params x) ≡ blocks.of_params (maps.map_params change x)
    of_params (tree.params ps l d) = of_plain ps

    of_plain : (x : tree.Plain) → map changed (blocks.of_plain x) ≡ blocks.of_plain (maps.map_plain change x)
    of_plain tree.no_plain = refl
    of_plain (tree.plain n x ps) = joined _ _ (of_maybe x) (of_plain ps)

    of_trailer : (x : tree.Trailer) → map changed (blocks.of_trailer x) ≡ blocks.of_trailer (maps.map_trailer change x)
    of_trailer (tree.attr n g) = refl
    of_trailer (tree.item x g) = of_expr x
    of_trailer (tree.slice a b c g) = joined _ _ (joined _ _ (of_maybe a) (of_maybe b)) (of_maybe c)
    of_trailer (tree.call as' g) = of_args as'

    of_trailers : (x : tree.Trailers)
        → map changed (blocks.of_trailers x) ≡ blocks.of_trailers (maps.map_trailers change x)
    of_trailers tree.no_trailers = refl
    of_trailers (tree.trailer x ts) = joined _ _ (of_trailer x) (of_trailers ts)

    of_arg : (x : tree.Arg) → map changed (blocks.of_arg x) ≡ blocks.of_arg (maps.map_arg change x)
    of_arg (tree.value x) = of_expr x
    of_arg (tree.star x) = of_expr x
    of_arg (tree.key n x) = of_expr x
    of_arg (tree.stars x) = of_expr x

    of_args : (x : tree.Args) → map changed (blocks.of_args x) ≡ blocks.of_args (maps.map_args change x)
    of_args tree.no_args = refl
    of_args (tree.arg x xs) = joined _ _ (of_arg x) (of_args xs)

  of_places : (x : List tree.Place)
      → map changed (blocks.of_places x) ≡ blocks.of_places (map (maps.map_place change) x)
  of_places [] = refl
  of_places (p ∷ ps) = joined _ _ (of_place p) (of_places ps)

  of_option : (x : Option tree.Expr)
      → map changed (blocks.of_option x) ≡ blocks.of_option (option_map (maps.map_expr change) x)
  of_option None = refl
  of_option (Some x) = of_expr x

  mutual
    of_stmt : (x : stmt_tree.Stmt) → map changed (blocks.of_stmt x) ≡ blocks.of_stmt (maps.map_stmt change x)
    of_stmt (stmt_tree.a_stmt line x) = of_stmt_form x

    of_stmt_form : (x : stmt_tree.StmtForm)
        → map changed (blocks.of_stmt_form x) ≡ blocks.of_stmt_form (maps.map_stmt_form change x)
    of_stmt_form (stmt_tree.evaluate x) = of_expr x
    of_stmt_form (stmt_tree.assign ps x) = joined _ _ (of_places ps) (of_expr x)
    of_stmt_form (stmt_tree.unpack p x g) = joined _ _ (of_target p) (of_expr x)
    of_stmt_form (stmt_tree.aug p o at x g) = joined _ _ (of_place p) (of_expr x)
    of_stmt_form (stmt_tree.del ps) = of_places ps
    of_stmt_form stmt_tree.pass = refl
    of_stmt_form stmt_tree.break = refl
    of_stmt_form stmt_tree.continue = refl
    of_stmt_form (stmt_tree.give_back x) = of_option x
    of_stmt_form (stmt_tree.raise x) = of_option x
    of_stmt_form (stmt_tree.assert x m) = joined _ _ (of_expr x) (of_option m)
    of_stmt_form (stmt_tree.global ns) = refl
    of_stmt_form (stmt_tree.choose bs o) = joined _ _ (of_branches bs) (of_maybe_stmts o)
    of_stmt_form (stmt_tree.while x b) = joined _ _ (of_expr x) (of_stmts b)
    of_stmt_form (stmt_tree.for w b) = joined _ _ (of_walk w) (of_stmts b)
    of_stmt_form (stmt_tree.try b hs o l) =
        joined _ _ (joined _ _ (joined _ _ (of_stmts b) (of_excepts hs)) (of_maybe_stmts o)) (of_maybe_stmts l)
    of_stmt_form (stmt_tree.define n x ps b) = begun (n, def ps b) _ (joined _ _ (of_params ps) (of_stmts b))
    of_stmt_form (stmt_tree.class n b) = of_stmts b

    pub of_stmts : (x : stmt_tree.Stmts) → map changed (blocks.of_stmts x) ≡ blocks.of_stmts (maps.map_stmts change x)
    of_stmts stmt_tree.no_stmts = refl
    of_stmts (stmt_tree.stmt x xs) = joined _ _ (of_stmt x) (of_stmts xs)

    of_maybe_stmts : (x : stmt_tree.MaybeStmts)
        → map changed (blocks.of_maybe_stmts x) ≡ blocks.of_maybe_stmts (maps.map_maybe_stmts change x)
    of_maybe_stmts stmt_tree.none = refl
    of_maybe_stmts (stmt_tree.some b) = of_stmts b

    of_branches : (x : stmt_tree.Branches)
        → map changed (blocks.of_branches x) ≡ blocks.of_branches (maps.map_branches change x)
    of_branches stmt_tree.no_branches = refl
    of_branches (stmt_tree.branch x b bs) = joined _ _ (joined _ _ (of_expr x) (of_stmts b)) (of_branches bs)

    of_except : (x : stmt_tree.Except) → map changed (blocks.of_except x) ≡ blocks.of_except (maps.map_except change x)
    of_except (stmt_tree.an_except x n b) = joined _ _ (of_option x) (of_stmts b)

    of_excepts : (x : stmt_tree.Excepts)
        → map changed (blocks.of_excepts x) ≡ blocks.of_excepts (maps.map_excepts change x)
    of_excepts stmt_tree.no_excepts = refl
    of_excepts (stmt_tree.except x xs) = joined _ _ (of_except x) (of_excepts xs)
