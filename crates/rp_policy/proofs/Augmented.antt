-- A tree without offences has augmented assignments to names alone.
use Rattle.std.proofs.Common.{◌≡◌, ℕ, List, [], ◌∷◌, ◌++◌, Some, refl, sym, ◌∙◌}
use Rattle.std.specs.List.{filter_map}
use Rattle.std.proofs.lemmas.List.Elements.{filter_map-append}
use Rattle.rp_base.specs.declared.value.Line.{Line}
use Rattle.rp_tree.specs.Augmented.{AugmentsName, AugmentsNames, BranchesAugmentNames, ExceptAugmentsNames, ExceptsAugmentNames, FormAugmentsNames, MaybeAugmentsNames}
use Rattle.rp_tree.specs.ExpressionTrees as trees
use Rattle.rp_tree.specs.ExpressionTrees.{Place}
use Rattle.rp_tree.specs.Maps.{inplace_name, inplace_site}
use Rattle.rp_tree.specs.StatementTrees as stmt_trees
use Rattle.rp_tree.specs.StatementTrees.{Branches, Except, Excepts, MaybeStmts, Stmt, StmtForm, Stmts}
use Rattle.rp_policy.specs.Offences.{offence, offences_by}
use Rattle.rp_policy.specs.Spots as tree_spots
use Rattle.rp_policy.specs.declared.spot.Spot.{Spot}
use Rattle.rp_policy.specs.declared.spot.Suite.{Suite}
use Rattle.rp_policy.specs.declared.spot.Suite.TheVariants.{OfClass, Other}
use Rattle.rp_base.proofs.CallerLemmas.{nil-front, nil-rest}

module _ {A : Type 0} (word : A → List ℕ) where
  -- spots of which none is an offence
  abbrev IsClean : List (Spot A) → Type 0
  IsClean xs = filter_map (offence word) xs ≡ []

  front : (xs ys : List (Spot A)) → IsClean (xs ++ ys) → IsClean xs
  front xs ys e = nil-front (filter_map (offence word) xs) (filter_map (offence word) ys) (sym (filter_map-append (offence word) xs ys) ∙ e)

  rest : (xs ys : List (Spot A)) → IsClean (xs ++ ys) → IsClean ys
  rest xs ys e = nil-rest (filter_map (offence word) xs) (filter_map (offence word) ys) (sym (filter_map-append (offence word) xs ys) ∙ e)

  operator_names : (x : Place A) (at : Line) → IsClean (tree_spots.operator_spots x at) → inplace_site x ≡ inplace_name
  unfolding offence
  operator_names (trees.to_name n) at e = refl
  operator_names (trees.to_attr x n g) at e = absurd (cc)
  operator_names (trees.to_item x i g) at e = absurd (cc)

  mutual
    stmt_names : (suite : Suite) (x : Stmt A) → IsClean (tree_spots.stmt_spots suite x) → AugmentsName x
    stmt_names suite (stmt_trees.a_stmt l x) e = form_names suite x e

    form_names : (suite : Suite) (x : StmtForm A) → IsClean (tree_spots.stmt_form_spots suite x) → FormAugmentsNames x
    form_names suite (stmt_trees.evaluate v) e = tt
    form_names suite (stmt_trees.assign ps v) e = tt
    form_names suite (stmt_trees.unpack x v g) e = tt
    form_names suite (stmt_trees.aug x o at v g) e =
        operator_names x at (rest (tree_spots.place_spots x) (tree_spots.operator_spots x at) (front (tree_spots.place_spots x ++ tree_spots.operator_spots x at) (tree_spots.expr_spots v) e))
    form_names suite (stmt_trees.del ps) e = tt
    form_names suite stmt_trees.pass e = tt
    form_names suite stmt_trees.break e = tt
    form_names suite stmt_trees.continue e = tt
    form_names suite (stmt_trees.give_back v) e = tt
    form_names suite (stmt_trees.raise v) e = tt
    form_names suite (stmt_trees.assert v m) e = tt
    form_names suite (stmt_trees.global ns) e = tt
    form_names suite (stmt_trees.choose bs o) e =
        (branches_names bs (front (tree_spots.branches_spots bs) (tree_spots.maybe_stmts_spots o) e), maybe_names o (rest (tree_spots.branches_spots bs) (tree_spots.maybe_stmts_spots o) e))
    form_names suite (stmt_trees.while v b) e = stmts_names Other b (rest (tree_spots.expr_spots v) (tree_spots.stmts_spots Other b) e)
    form_names suite (stmt_trees.for w b) e = stmts_names Other b (rest (tree_spots.walk_spots w) (tree_spots.stmts_spots Other b) e)
    form_names suite (stmt_trees.try b hs o l) e =
        let body = tree_spots.stmts_spots Other b in
        let handlers = tree_spots.excepts_spots hs in
        let other = tree_spots.maybe_stmts_spots o in
        let last = tree_spots.maybe_stmts_spots l in
        let before_last = front (body ++ handlers ++ other) last e in
        let before_other = front (body ++ handlers) other before_last in
        (stmts_names Other b (front body handlers before_other), excepts_names hs (rest body handlers before_other), maybe_names o (rest (body ++ handlers) other before_last), maybe_names l (rest (body ++ handlers ++ other) last e))
    form_names suite (stmt_trees.define k n ps b) e =
        stmts_names Other b (rest (tree_spots.params_spots ps) (tree_spots.stmts_spots Other b) (rest (tree_spots.function_spot suite n ∷ []) (tree_spots.params_spots ps ++ tree_spots.stmts_spots Other b) e))
    form_names suite (stmt_trees.class n b) e = stmts_names OfClass b (rest (tree_spots.option_binds (Some n)) (tree_spots.stmts_spots OfClass b) e)

    stmts_names : (suite : Suite) (x : Stmts A) → IsClean (tree_spots.stmts_spots suite x) → AugmentsNames x
    stmts_names suite stmt_trees.no_stmts e = tt
    stmts_names suite (stmt_trees.stmt x xs) e =
        (stmt_names suite x (front (tree_spots.stmt_spots suite x) (tree_spots.stmts_spots suite xs) e), stmts_names suite xs (rest (tree_spots.stmt_spots suite x) (tree_spots.stmts_spots suite xs) e))

    maybe_names : (x : MaybeStmts A) → IsClean (tree_spots.maybe_stmts_spots x) → MaybeAugmentsNames x
    maybe_names stmt_trees.none e = tt
    maybe_names (stmt_trees.some b) e = stmts_names Other b e

    branches_names : (x : Branches A) → IsClean (tree_spots.branches_spots x) → BranchesAugmentNames x
    branches_names stmt_trees.no_branches e = tt
    branches_names (stmt_trees.branch v b bs) e =
        let test = tree_spots.expr_spots v in
        let body = tree_spots.stmts_spots Other b in
        (stmts_names Other b (rest test body (front (test ++ body) (tree_spots.branches_spots bs) e)), branches_names bs (rest (test ++ body) (tree_spots.branches_spots bs) e))

    except_names : (x : Except A) → IsClean (tree_spots.except_spots x) → ExceptAugmentsNames x
    except_names (stmt_trees.an_except k n b) e = stmts_names Other b (rest (tree_spots.option_spots k ++ tree_spots.option_binds n) (tree_spots.stmts_spots Other b) e)

    excepts_names : (x : Excepts A) → IsClean (tree_spots.excepts_spots x) → ExceptsAugmentNames x
    excepts_names stmt_trees.no_excepts e = tt
    excepts_names (stmt_trees.except x xs) e =
        (except_names x (front (tree_spots.except_spots x) (tree_spots.excepts_spots xs) e), excepts_names xs (rest (tree_spots.except_spots x) (tree_spots.excepts_spots xs) e))

-- a tree without offences has augmented assignments to names alone
pub augments_names : {A : Type 0} (word : A → List ℕ) (x : Stmts A) → offences_by word x ≡ [] → AugmentsNames x
unfolding offences_by
augments_names word x e = stmts_names word Other x e
