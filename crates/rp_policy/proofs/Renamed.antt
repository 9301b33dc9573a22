-- A tree under other names has the same spots and the same offences, under these names. The numbers of code blocks tell nothing.
use Rattle.std.proofs.Common.{◌≡◌, Bool, true, false, List, [], ◌∷◌, ◌++◌, map, Option, Some, None, option_map, if◌then◌else◌, refl, sym, ap, ◌∙◌, ℕ}
use Rattle.std.specs.List.{filter_map, cons_option, flat_map}
use Rattle.std.proofs.lemmas.List.{map-append}
use Rattle.rp_base.specs.declared.value.Line.{Line}
use Rattle.rp_tree.specs.declared.parts.Named.{Named}
use Rattle.rp_tree.specs.ExpressionTrees as trees
use Rattle.rp_tree.specs.ExpressionTrees.{Expr, Form, Exprs, Maybe, Pairs, Tests, Ops, Clause, Clauses, Walk, Target, Targets, Place, Params, Plain, Trailer, Trailers, Arg, Args}
use Rattle.rp_tree.specs.Maps as maps
use Rattle.rp_tree.specs.Maps.{Change, named, without_blocks}
use Rattle.rp_tree.specs.StatementTrees as stmt_trees
use Rattle.rp_tree.specs.StatementTrees.{Stmt, StmtForm, Stmts, MaybeStmts, Branches, Except, Excepts}
use Rattle.rp_policy.specs.Forbidden.{is_forbidden_attribute, is_forbidden_name, is_initializer, is_reserved, is_uncallable}
use Rattle.rp_policy.specs.Offences as policy
use Rattle.rp_policy.specs.Offences.{offence, offence_named, offences, offences_by, or_else, what_named, wrong}
use Rattle.rp_policy.specs.Spots as tree_spots
use Rattle.rp_policy.specs.declared.offence.Offence.{Offence}
use Rattle.rp_policy.specs.declared.offence.What.{What}
use Rattle.rp_policy.specs.declared.offence.What.TheVariants as what
use Rattle.rp_policy.specs.declared.spot.Spot.{Spot}
use Rattle.rp_policy.specs.declared.spot.Spot.TheVariants.{Reads, Binds, Method, Calls, Attribute, Augments}
use Rattle.rp_policy.specs.declared.spot.Suite.{Suite}
use Rattle.rp_policy.specs.declared.spot.Suite.TheVariants.{OfClass, Other}

module _ {A B : Type 0} (f : A → B) (renumber : ℕ → ℕ) where
  abbrev pub change : Change A B
  change = record { name = f; line = λ l. l; block = renumber; mark = λ x g. g }

  -- a name with its line, and a spot, under other names
  abbrev pub other : Named A → Named B
  other n = record { name = f n.name; line = n.line }

  abbrev pub spot_named : Spot A → Spot B
  spot_named (Reads n) = Reads (other n)
  spot_named (Binds n) = Binds (other n)
  spot_named (Method n) = Method (other n)
  spot_named (Calls n) = Calls (other n)
  spot_named (Attribute n) = Attribute (other n)
  spot_named (Augments line) = Augments line

  -- two lists of spots, one behind the other
  two : {xs' ys' : List (Spot B)} (xs ys : List (Spot A)) → xs' ≡ map spot_named xs → ys' ≡ map spot_named ys → xs' ++ ys' ≡ map spot_named (xs ++ ys)
  two xs ys e g = (λ i. e i ++ g i) ∙ sym (map-append spot_named xs ys)

  three : {xs' ys' zs' : List (Spot B)} (xs ys zs : List (Spot A)) → xs' ≡ map spot_named xs → ys' ≡ map spot_named ys → zs' ≡ map spot_named zs
      → (xs' ++ ys') ++ zs' ≡ map spot_named ((xs ++ ys) ++ zs)
  three xs ys zs e g h = two (xs ++ ys) zs (two xs ys e g) h

  binds_named : (n : Option (Named A)) → tree_spots.option_binds (option_map (maps.map_named change) n) ≡ map spot_named (tree_spots.option_binds n)
  binds_named None = refl
  binds_named (Some n) = refl

  all_named : (ns : List (Named A)) → map Binds (map (maps.map_named change) ns) ≡ map spot_named (map Binds ns)
  all_named [] = refl
  all_named (n ∷ ns) = ap (λ xs. Binds (other n) ∷ xs) (all_named ns)

  form_name_named : (l : Line) (x : Form A) → tree_spots.form_name l (maps.map_form change x) ≡ option_map other (tree_spots.form_name l x)
  form_name_named l (trees.name n) = refl
  form_name_named l _ = refl

  is_call_named : (x : Trailer A) → tree_spots.is_call (maps.map_trailer change x) ≡ tree_spots.is_call x
  is_call_named (trees.call xs g) = refl
  is_call_named _ = refl

  if_named : (b : Bool) (n : Option (Named A)) → (if b then option_map other n else None) ≡ option_map other (if b then n else None)
  if_named true n = refl
  if_named false n = refl

  called_named : (e : Expr A) (xs : Trailers A) → tree_spots.called_name (maps.map_expr change e) (maps.map_trailers change xs) ≡ option_map other (tree_spots.called_name e xs)
  called_named (trees.node l x) trees.no_trailers = refl
  called_named (trees.node l x) (trees.trailer y ys) = (λ i. if is_call_named y i then form_name_named l x i else None) ∙ if_named (tree_spots.is_call y) (tree_spots.form_name l x)

  atom_named : (called : Option (Named A)) (alone' : List (Spot B)) (alone : List (Spot A)) → alone' ≡ map spot_named alone
      → tree_spots.atom_spots (option_map other called) alone' ≡ map spot_named (tree_spots.atom_spots called alone)
  atom_named None alone' alone e = e
  atom_named (Some n) alone' alone e = refl

  mutual
    expr_named : (x : Expr A) → tree_spots.expr_spots (maps.map_expr change x) ≡ map spot_named (tree_spots.expr_spots x)
    expr_named (trees.node l x) = form_named l x

    form_named : (l : Line) (x : Form A) → tree_spots.form_spots l (maps.map_form change x) ≡ map spot_named (tree_spots.form_spots l x)
    form_named l (trees.name n) = refl
    form_named l (trees.int n) = refl
    form_named l (trees.text x) = refl
    form_named l (trees.const x) = refl
    form_named l (trees.tuple es) = exprs_named es
    form_named l (trees.list es) = exprs_named es
    form_named l (trees.dict ps) = pairs_named ps
    form_named l (trees.list_of b e cs) = two (tree_spots.expr_spots e) (tree_spots.clauses_spots cs) (expr_named e) (clauses_named cs)
    form_named l (trees.dict_of b k e cs) = three (tree_spots.expr_spots k) (tree_spots.expr_spots e) (tree_spots.clauses_spots cs) (expr_named k) (expr_named e) (clauses_named cs)
    form_named l (trees.lambda b ps e) = two (tree_spots.params_spots ps) (tree_spots.expr_spots e) (params_named ps) (expr_named e)
    form_named l (trees.cond x y z) = three (tree_spots.expr_spots y) (tree_spots.expr_spots x) (tree_spots.expr_spots z) (expr_named y) (expr_named x) (expr_named z)
    form_named l (trees.or es) = exprs_named es
    form_named l (trees.and es) = exprs_named es
    form_named l (trees.not e) = expr_named e
    form_named l (trees.compare e os) = two (tree_spots.expr_spots e) (tree_spots.tests_spots os) (expr_named e) (tests_named os)
    form_named l (trees.chain e os) = two (tree_spots.expr_spots e) (tree_spots.ops_spots os) (expr_named e) (ops_named os)
    form_named l (trees.unary u e) = expr_named e
    form_named l (trees.power x y) = two (tree_spots.expr_spots x) (tree_spots.expr_spots y) (expr_named x) (expr_named y)
    form_named l (trees.primary e xs) =
        two (tree_spots.atom_spots (tree_spots.called_name e xs) (tree_spots.expr_spots e)) (tree_spots.trailers_spots xs)
        (ap (λ n. tree_spots.atom_spots n (tree_spots.expr_spots (maps.map_expr change e))) (called_named e xs) ∙ atom_named (tree_spots.called_name e xs) (tree_spots.expr_spots (maps.map_expr change e)) (tree_spots.expr_spots e) (expr_named e))
        (trailers_named xs)

    exprs_named : (x : Exprs A) → tree_spots.exprs_spots (maps.map_exprs change x) ≡ map spot_named (tree_spots.exprs_spots x)
    exprs_named trees.no_exprs = refl
    exprs_named (trees.expr e es) = two (tree_spots.expr_spots e) (tree_spots.exprs_spots es) (expr_named e) (exprs_named es)

    maybe_named : (x : Maybe A) → tree_spots.maybe_spots (maps.map_maybe change x) ≡ map spot_named (tree_spots.maybe_spots x)
    maybe_named trees.none = refl
    maybe_named (trees.some e) = expr_named e

    pairs_named : (x : Pairs A) → tree_spots.pairs_spots (maps.map_pairs change x) ≡ map spot_named (tree_spots.pairs_spots x)
    pairs_named trees.no_pairs = refl
    pairs_named (trees.pair k e ps) = three (tree_spots.expr_spots k) (tree_spots.expr_spots e) (tree_spots.pairs_spots ps) (expr_named k) (expr_named e) (pairs_named ps)

    tests_named : (x : Tests A) → tree_spots.tests_spots (maps.map_tests change x) ≡ map spot_named (tree_spots.tests_spots x)
    tests_named trees.no_tests = refl
    tests_named (trees.test o e os) = two (tree_spots.expr_spots e) (tree_spots.tests_spots os) (expr_named e) (tests_named os)

    ops_named : (x : Ops A) → tree_spots.ops_spots (maps.map_ops change x) ≡ map spot_named (tree_spots.ops_spots x)
    ops_named trees.no_ops = refl
    ops_named (trees.op o e os) = two (tree_spots.expr_spots e) (tree_spots.ops_spots os) (expr_named e) (ops_named os)

    clause_named : (x : Clause A) → tree_spots.clause_spots (maps.map_clause change x) ≡ map spot_named (tree_spots.clause_spots x)
    clause_named (trees.a_clause w es) = two (tree_spots.walk_spots w) (tree_spots.exprs_spots es) (walk_named w) (exprs_named es)

    clauses_named : (x : Clauses A) → tree_spots.clauses_spots (maps.map_clauses change x) ≡ map spot_named (tree_spots.clauses_spots x)
    clauses_named trees.no_clauses = refl
    clauses_named (trees.clause x xs) = two (tree_spots.clause_spots x) (tree_spots.clauses_spots xs) (clause_named x) (clauses_named xs)

    walk_named : (x : Walk A) → tree_spots.walk_spots (maps.map_walk change x) ≡ map spot_named (tree_spots.walk_spots x)
    walk_named (trees.a_walk x e g) = two (tree_spots.target_spots x) (tree_spots.expr_spots e) (target_named x) (expr_named e)

    target_named : (x : Target A) → tree_spots.target_spots (maps.map_target change x) ≡ map spot_named (tree_spots.target_spots x)
    target_named (trees.to_place x) = place_named x
    target_named (trees.group xs) = targets_named xs

    targets_named : (x : Targets A) → tree_spots.targets_spots (maps.map_targets change x) ≡ map spot_named (tree_spots.targets_spots x)
    targets_named trees.no_targets = refl
    targets_named (trees.target x xs) = two (tree_spots.target_spots x) (tree_spots.targets_spots xs) (target_named x) (targets_named xs)

    place_named : (x : Place A) → tree_spots.place_spots (maps.map_place change x) ≡ map spot_named (tree_spots.place_spots x)
    place_named (trees.to_name n) = refl
    place_named (trees.to_attr e n g) = two (tree_spots.expr_spots e) (Attribute n ∷ []) (expr_named e) refl
    place_named (trees.to_item e i g) = two (tree_spots.expr_spots e) (tree_spots.expr_spots i) (expr_named e) (expr_named i)

    params_named : (x : Params A) → tree_spots.params_spots (maps.map_params change x) ≡ map spot_named (tree_spots.params_spots x)
    params_named (trees.params ps l d) = three (tree_spots.plain_spots ps) (tree_spots.option_binds l) (tree_spots.option_binds d) (plain_named ps) (binds_named l) (binds_named d)

    plain_named : (x : Plain A) → tree_spots.plain_spots (maps.map_plain change x) ≡ map spot_named (tree_spots.plain_spots x)
    plain_named trees.no_plain = refl
    plain_named (trees.plain n e ps) = ap (λ xs. Binds (other n) ∷ xs) (two (tree_spots.maybe_spots e) (tree_spots.plain_spots ps) (maybe_named e) (plain_named ps))

    trailer_named : (x : Trailer A) → tree_spots.trailer_spots (maps.map_trailer change x) ≡ map spot_named (tree_spots.trailer_spots x)
    trailer_named (trees.attr n g) = refl
    trailer_named (trees.item e g) = expr_named e
    trailer_named (trees.slice x y z g) = three (tree_spots.maybe_spots x) (tree_spots.maybe_spots y) (tree_spots.maybe_spots z) (maybe_named x) (maybe_named y) (maybe_named z)
    trailer_named (trees.call xs g) = args_named xs

    trailers_named : (x : Trailers A) → tree_spots.trailers_spots (maps.map_trailers change x) ≡ map spot_named (tree_spots.trailers_spots x)
    trailers_named trees.no_trailers = refl
    trailers_named (trees.trailer x xs) = two (tree_spots.trailer_spots x) (tree_spots.trailers_spots xs) (trailer_named x) (trailers_named xs)

    arg_named : (x : Arg A) → tree_spots.arg_spots (maps.map_arg change x) ≡ map spot_named (tree_spots.arg_spots x)
    arg_named (trees.value e) = expr_named e
    arg_named (trees.star e) = expr_named e
    arg_named (trees.key n e) = expr_named e
    arg_named (trees.stars e) = expr_named e

    args_named : (x : Args A) → tree_spots.args_spots (maps.map_args change x) ≡ map spot_named (tree_spots.args_spots x)
    args_named trees.no_args = refl
    args_named (trees.arg x xs) = two (tree_spots.arg_spots x) (tree_spots.args_spots xs) (arg_named x) (args_named xs)

  option_named : (x : Option (Expr A)) → tree_spots.option_spots (option_map (maps.map_expr change) x) ≡ map spot_named (tree_spots.option_spots x)
  option_named None = refl
  option_named (Some e) = expr_named e

  places_named : (xs : List (Place A)) → flat_map tree_spots.place_spots (map (maps.map_place change) xs) ≡ map spot_named (flat_map tree_spots.place_spots xs)
  places_named [] = refl
  places_named (x ∷ xs) = two (tree_spots.place_spots x) (flat_map tree_spots.place_spots xs) (place_named x) (places_named xs)

  operator_named : (x : Place A) (at : Line) → tree_spots.operator_spots (maps.map_place change x) at ≡ map spot_named (tree_spots.operator_spots x at)
  operator_named (trees.to_name n) at = refl
  operator_named (trees.to_attr e n g) at = refl
  operator_named (trees.to_item e i g) at = refl

  function_named : (suite : Suite) (n : Named A) → tree_spots.function_spot suite (maps.map_named change n) ≡ spot_named (tree_spots.function_spot suite n)
  function_named OfClass n = refl
  function_named Other n = refl

  mutual
    stmt_named : (suite : Suite) (x : Stmt A) → tree_spots.stmt_spots suite (maps.map_stmt change x) ≡ map spot_named (tree_spots.stmt_spots suite x)
    stmt_named suite (stmt_trees.a_stmt l x) = stmt_form_named suite x

    stmt_form_named : (suite : Suite) (x : StmtForm A) → tree_spots.stmt_form_spots suite (maps.map_stmt_form change x) ≡ map spot_named (tree_spots.stmt_form_spots suite x)
    stmt_form_named suite (stmt_trees.evaluate e) = expr_named e
    stmt_form_named suite (stmt_trees.assign xs e) = two (flat_map tree_spots.place_spots xs) (tree_spots.expr_spots e) (places_named xs) (expr_named e)
    stmt_form_named suite (stmt_trees.unpack x e g) = two (tree_spots.target_spots x) (tree_spots.expr_spots e) (target_named x) (expr_named e)
    stmt_form_named suite (stmt_trees.aug x o at e g) = three (tree_spots.place_spots x) (tree_spots.operator_spots x at) (tree_spots.expr_spots e) (place_named x) (operator_named x at) (expr_named e)
    stmt_form_named suite (stmt_trees.del xs) = places_named xs
    stmt_form_named suite stmt_trees.pass = refl
    stmt_form_named suite stmt_trees.break = refl
    stmt_form_named suite stmt_trees.continue = refl
    stmt_form_named suite (stmt_trees.give_back e) = option_named e
    stmt_form_named suite (stmt_trees.raise e) = option_named e
    stmt_form_named suite (stmt_trees.assert e x) = two (tree_spots.expr_spots e) (tree_spots.option_spots x) (expr_named e) (option_named x)
    stmt_form_named suite (stmt_trees.global ns) = all_named ns
    stmt_form_named suite (stmt_trees.choose bs o) = two (tree_spots.branches_spots bs) (tree_spots.maybe_stmts_spots o) (branches_named bs) (maybe_stmts_named o)
    stmt_form_named suite (stmt_trees.while e b) = two (tree_spots.expr_spots e) (tree_spots.stmts_spots Other b) (expr_named e) (stmts_named Other b)
    stmt_form_named suite (stmt_trees.for w b) = two (tree_spots.walk_spots w) (tree_spots.stmts_spots Other b) (walk_named w) (stmts_named Other b)
    stmt_form_named suite (stmt_trees.try b hs o l) =
        two ((tree_spots.stmts_spots Other b ++ tree_spots.excepts_spots hs) ++ tree_spots.maybe_stmts_spots o) (tree_spots.maybe_stmts_spots l)
        (three (tree_spots.stmts_spots Other b) (tree_spots.excepts_spots hs) (tree_spots.maybe_stmts_spots o) (stmts_named Other b) (excepts_named hs) (maybe_stmts_named o))
        (maybe_stmts_named l)
    stmt_form_named suite (stmt_trees.define k n ps b) =
        λ i. function_named suite n i ∷ two (tree_spots.params_spots ps) (tree_spots.stmts_spots Other b) (params_named ps) (stmts_named Other b) i
    stmt_form_named suite (stmt_trees.class n b) = ap (λ xs. Binds (other n) ∷ xs) (stmts_named OfClass b)

    pub stmts_named : (suite : Suite) (x : Stmts A) → tree_spots.stmts_spots suite (maps.map_stmts change x) ≡ map spot_named (tree_spots.stmts_spots suite x)
    stmts_named suite stmt_trees.no_stmts = refl
    stmts_named suite (stmt_trees.stmt x xs) = two (tree_spots.stmt_spots suite x) (tree_spots.stmts_spots suite xs) (stmt_named suite x) (stmts_named suite xs)

    maybe_stmts_named : (x : MaybeStmts A) → tree_spots.maybe_stmts_spots (maps.map_maybe_stmts change x) ≡ map spot_named (tree_spots.maybe_stmts_spots x)
    maybe_stmts_named stmt_trees.none = refl
    maybe_stmts_named (stmt_trees.some b) = stmts_named Other b

    branches_named : (x : Branches A) → tree_spots.branches_spots (maps.map_branches change x) ≡ map spot_named (tree_spots.branches_spots x)
    branches_named stmt_trees.no_branches = refl
    branches_named (stmt_trees.branch e b bs) = three (tree_spots.expr_spots e) (tree_spots.stmts_spots Other b) (tree_spots.branches_spots bs) (expr_named e) (stmts_named Other b) (branches_named bs)

    except_named : (x : Except A) → tree_spots.except_spots (maps.map_except change x) ≡ map spot_named (tree_spots.except_spots x)
    except_named (stmt_trees.an_except k n b) = three (tree_spots.option_spots k) (tree_spots.option_binds n) (tree_spots.stmts_spots Other b) (option_named k) (binds_named n) (stmts_named Other b)

    excepts_named : (x : Excepts A) → tree_spots.excepts_spots (maps.map_excepts change x) ≡ map spot_named (tree_spots.excepts_spots x)
    excepts_named stmt_trees.no_excepts = refl
    excepts_named (stmt_trees.except x xs) = two (tree_spots.except_spots x) (tree_spots.excepts_spots xs) (except_named x) (excepts_named xs)

  module _ (word : B → List ℕ) where
    or_named : (b : Bool) (x : What A) (y' : Option (What B)) (y : Option (What A)) → y' ≡ option_map (what_named f) y
        → or_else b (what_named f x) y' ≡ option_map (what_named f) (or_else b x y)
    or_named true x y' y e = refl
    or_named false x y' y e = e

    unless_named : (b : Bool) (y' : Option (What B)) (y : Option (What A)) → y' ≡ option_map (what_named f) y
        → (if b then None else y') ≡ option_map (what_named f) (if b then None else y)
    unless_named true y' y e = refl
    unless_named false y' y e = e

    reading_named : (w : List ℕ) (n : A) → policy.wrong_reading w (f n) ≡ option_map (what_named f) (policy.wrong_reading w n)
    reading_named w n = or_named (is_forbidden_name w) (what.Name n) None None refl

    binding_named : (w : List ℕ) (n : A) → policy.wrong_binding w (f n) ≡ option_map (what_named f) (policy.wrong_binding w n)
    binding_named w n = or_named (is_forbidden_name w) (what.Name n) _ (or_else (is_reserved w) (what.Reserved n) None) (or_named (is_reserved w) (what.Reserved n) None None refl)

    wrong_named : (x : Spot A) → wrong word (spot_named x) ≡ option_map (what_named f) (wrong (λ n. word (f n)) x)
    wrong_named (Reads n) = reading_named (word (f n.name)) n.name
    wrong_named (Binds n) = binding_named (word (f n.name)) n.name
    wrong_named (Method n) = unless_named (is_initializer (word (f n.name))) _ (policy.wrong_binding (word (f n.name)) n.name) (binding_named (word (f n.name)) n.name)
    wrong_named (Calls n) = or_named (is_uncallable (word (f n.name))) (what.ExecEval n.name) _ (policy.wrong_reading (word (f n.name)) n.name) (reading_named (word (f n.name)) n.name)
    wrong_named (Attribute n) = or_named (is_forbidden_attribute (word (f n.name))) (what.Attr n.name) None None refl
    wrong_named (Augments line) = refl

    line_named : (x : Spot A) → policy.line_of (spot_named x) ≡ policy.line_of x
    line_named (Reads n) = refl
    line_named (Binds n) = refl
    line_named (Method n) = refl
    line_named (Calls n) = refl
    line_named (Attribute n) = refl
    line_named (Augments line) = refl

    made_named : (l : Line) (w : Option (What A)) → option_map (policy.at_line l) (option_map (what_named f) w) ≡ option_map (offence_named f) (option_map (policy.at_line l) w)
    made_named l None = refl
    made_named l (Some w) = refl

    spot_offence_named : (x : Spot A) → offence word (spot_named x) ≡ option_map (offence_named f) (offence (λ n. word (f n)) x)
    unfolding offence
    spot_offence_named x = (λ i. option_map (policy.at_line (line_named x i)) (wrong_named x i)) ∙ made_named (policy.line_of x) (wrong (λ n. word (f n)) x)

    cons_named : (x : Option (Offence A)) (xs : List (Offence A)) → cons_option (option_map (offence_named f) x) (map (offence_named f) xs) ≡ map (offence_named f) (cons_option x xs)
    cons_named None xs = refl
    cons_named (Some x) xs = refl

    found_named : (xs : List (Spot A)) → filter_map (offence word) (map spot_named xs) ≡ map (offence_named f) (filter_map (offence (λ n. word (f n))) xs)
    found_named [] = refl
    found_named (x ∷ xs) =
        (λ i. cons_option (spot_offence_named x i) (found_named xs i)) ∙ cons_named (offence (λ n. word (f n)) x) (filter_map (offence (λ n. word (f n))) xs)

-- the offences of a tree whose names stand for words are those of the tree of these words
pub offences-named : {A : Type 0} (f : A → List ℕ) (x : Stmts A) → offences (named f x) ≡ map (offence_named f) (offences_by f x)
unfolding offences_by
offences-named f x = ap (filter_map (offence (λ word. word))) (stmts_named f (λ k. k) Other x) ∙ found_named f (λ k. k) (λ word. word) (tree_spots.spots x)

same_spot : {A : Type 0} (x : Spot A) → spot_named (λ n. n) (λ k. 0) x ≡ x
same_spot (Reads n) = refl
same_spot (Binds n) = refl
same_spot (Method n) = refl
same_spot (Calls n) = refl
same_spot (Attribute n) = refl
same_spot (Augments line) = refl

same_spots : {A : Type 0} (xs : List (Spot A)) → map (spot_named (λ n. n) (λ k. 0)) xs ≡ xs
same_spots [] = refl
same_spots (x ∷ xs) = λ i. same_spot x i ∷ same_spots xs i

-- a tree has the offences that it has without the numbers of its code blocks
pub offences-unnumbered : {A : Type 0} (word : A → List ℕ) (x : Stmts A) → offences_by word (without_blocks x) ≡ offences_by word x
unfolding offences_by
offences-unnumbered word x = ap (filter_map (offence word)) (stmts_named (λ n. n) (λ k. 0) Other x ∙ same_spots (tree_spots.spots x))
