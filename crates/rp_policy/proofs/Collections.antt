-- What is collected while the code walks over a tree are the offences at its spots.
use Rattle.std.proofs.Common.{◌≡◌, ℕ, List, [], ◌∷◌, ◌++◌, map, Option, Some, None, refl, sym, ap, ◌∙◌, append_assoc}
use Rattle.std.specs.List.{filter_map, flat_map}
use Rattle.std.proofs.lemmas.List.{append-nil}
use Rattle.std.proofs.lemmas.List.Elements.{filter_map-append}
use Rattle.rp_base.specs.declared.value.Line.{Line}
use Rattle.rp_base.specs.declared.value.Name.{Name}
use Rattle.rp_tree.specs.declared.parts.Named.{Named}
use Rattle.rp_tree.specs.ExpressionTrees as trees
use Rattle.rp_tree.specs.ExpressionTrees.{Expr, Form, Exprs, Maybe, Pairs, Tests, Ops, Clause, Clauses, Walk, Target, Targets, Place, Params, Plain, Trailer, Trailers, Arg, Args}
use Rattle.rp_tree.specs.StatementTrees as stmt_trees
use Rattle.rp_tree.specs.StatementTrees.{Stmt, StmtForm, Stmts, MaybeStmts, Branches, Except, Excepts}
use Rattle.rp_tree.specs.StatementViews.{view_stmts}
use Rattle.rp_tree.specs.declared.stmt.Stmt as program_stmt
use Rattle.rp_policy.specs.CollectionSteps as steps
use Rattle.rp_policy.specs.CollectionSteps.{Collection, after, seen}
use Rattle.rp_base.specs.Names.{word_of}
use Rattle.rp_policy.specs.Offences.{offence, offences_by}
use Rattle.rp_policy.specs.Spots as tree_spots
use Rattle.rp_policy.specs.declared.offence.Offence.{Offence}
use Rattle.rp_policy.specs.declared.spot.Spot.{Spot}
use Rattle.rp_policy.specs.declared.spot.Spot.TheVariants.{Binds, Attribute}
use Rattle.rp_policy.specs.declared.spot.Suite.{Suite}
use Rattle.rp_policy.specs.declared.spot.Suite.TheVariants.{OfClass, Other}

after-nil : (c : Collection) → c ≡ after c []
unfolding after
after-nil c = λ i. record c { found = sym (append-nil c.found) i }

after-append : (c : Collection) (xs ys : List (Spot Name)) → after c (xs ++ ys) ≡ after (after c xs) ys
unfolding after
after-append c xs ys =
    let judge = offence (word_of c.words) in
    ap (λ found. record c { found = found })
    (ap (λ more. c.found ++ more) (filter_map-append judge xs ys) ∙ sym (append_assoc c.found (filter_map judge xs) (filter_map judge ys)))

-- one step behind the other
two : (c : Collection) (xs ys : List (Spot Name)) {d e : Collection} → d ≡ after c xs → e ≡ after d ys → e ≡ after c (xs ++ ys)
two c xs ys first second = second ∙ (ap (λ d. after d ys) first ∙ sym (after-append c xs ys))

three : (c : Collection) (xs ys zs : List (Spot Name)) {d e f : Collection} → d ≡ after c xs → e ≡ after d ys → f ≡ after e zs → f ≡ after c (xs ++ ys ++ zs)
three c xs ys zs first second third = two c (xs ++ ys) zs (two c xs ys first second) third

name_after : (n : Option (Named Name)) (c : Collection) → steps.with_name n c ≡ after c (tree_spots.option_binds n)
name_after None c = after-nil c
name_after (Some n) c = refl

names_after : (ns : List (Named Name)) (c : Collection) → steps.with_names ns c ≡ after c (map Binds ns)
names_after [] c = after-nil c
names_after (n ∷ ns) c = two c (Binds n ∷ []) (map Binds ns) refl (names_after ns (seen c (Binds n)))

atom_after : (called : Option (Named Name)) (alone : List (Spot Name)) (c d : Collection) → d ≡ after c alone → steps.with_atom called d c ≡ after c (tree_spots.atom_spots called alone)
atom_after None alone c d e = e
atom_after (Some n) alone c d e = refl

mutual
  expr_after : (x : Expr Name) (c : Collection) → steps.with_expr x c ≡ after c (tree_spots.expr_spots x)
  expr_after (trees.node l x) c = form_after l x c

  form_after : (l : Line) (x : Form Name) (c : Collection) → steps.with_form l x c ≡ after c (tree_spots.form_spots l x)
  form_after l (trees.name n) c = refl
  form_after l (trees.int n) c = after-nil c
  form_after l (trees.text x) c = after-nil c
  form_after l (trees.const x) c = after-nil c
  form_after l (trees.tuple es) c = exprs_after es c
  form_after l (trees.list es) c = exprs_after es c
  form_after l (trees.dict ps) c = pairs_after ps c
  form_after l (trees.list_of b e cs) c = two c (tree_spots.expr_spots e) (tree_spots.clauses_spots cs) (expr_after e _) (clauses_after cs _)
  form_after l (trees.dict_of b k e cs) c = three c (tree_spots.expr_spots k) (tree_spots.expr_spots e) (tree_spots.clauses_spots cs) (expr_after k _) (expr_after e _) (clauses_after cs _)
  form_after l (trees.lambda b ps e) c = two c (tree_spots.params_spots ps) (tree_spots.expr_spots e) (params_after ps _) (expr_after e _)
  form_after l (trees.cond x y z) c = three c (tree_spots.expr_spots y) (tree_spots.expr_spots x) (tree_spots.expr_spots z) (expr_after y _) (expr_after x _) (expr_after z _)
  form_after l (trees.or es) c = exprs_after es c
  form_after l (trees.and es) c = exprs_after es c
  form_after l (trees.not e) c = expr_after e c
  form_after l (trees.compare e os) c = two c (tree_spots.expr_spots e) (tree_spots.tests_spots os) (expr_after e _) (tests_after os _)
  form_after l (trees.chain e os) c = two c (tree_spots.expr_spots e) (tree_spots.ops_spots os) (expr_after e _) (ops_after os _)
  form_after l (trees.unary u e) c = expr_after e c
  form_after l (trees.power x y) c = two c (tree_spots.expr_spots x) (tree_spots.expr_spots y) (expr_after x _) (expr_after y _)
  form_after l (trees.primary e xs) c =
      two c (tree_spots.atom_spots (tree_spots.called_name e xs) (tree_spots.expr_spots e)) (tree_spots.trailers_spots xs) (atom_after (tree_spots.called_name e xs) (tree_spots.expr_spots e) c _ (expr_after e c)) (trailers_after xs _)

  exprs_after : (x : Exprs Name) (c : Collection) → steps.with_exprs x c ≡ after c (tree_spots.exprs_spots x)
  exprs_after trees.no_exprs c = after-nil c
  exprs_after (trees.expr e es) c = two c (tree_spots.expr_spots e) (tree_spots.exprs_spots es) (expr_after e _) (exprs_after es _)

  maybe_after : (x : Maybe Name) (c : Collection) → steps.with_maybe x c ≡ after c (tree_spots.maybe_spots x)
  maybe_after trees.none c = after-nil c
  maybe_after (trees.some e) c = expr_after e c

  pairs_after : (x : Pairs Name) (c : Collection) → steps.with_pairs x c ≡ after c (tree_spots.pairs_spots x)
  pairs_after trees.no_pairs c = after-nil c
  pairs_after (trees.pair k e ps) c = three c (tree_spots.expr_spots k) (tree_spots.expr_spots e) (tree_spots.pairs_spots ps) (expr_after k _) (expr_after e _) (pairs_after ps _)

  tests_after : (x : Tests Name) (c : Collection) → steps.with_tests x c ≡ after c (tree_spots.tests_spots x)
  tests_after trees.no_tests c = after-nil c
  tests_after (trees.test o e os) c = two c (tree_spots.expr_spots e) (tree_spots.tests_spots os) (expr_after e _) (tests_after os _)

  ops_after : (x : Ops Name) (c : Collection) → steps.with_ops x c ≡ after c (tree_spots.ops_spots x)
  ops_after trees.no_ops c = after-nil c
  ops_after (trees.op o e os) c = two c (tree_spots.expr_spots e) (tree_spots.ops_spots os) (expr_after e _) (ops_after os _)

  clause_after : (x : Clause Name) (c : Collection) → steps.with_clause x c ≡ after c (tree_spots.clause_spots x)
  clause_after (trees.a_clause w es) c = two c (tree_spots.walk_spots w) (tree_spots.exprs_spots es) (walk_after w _) (exprs_after es _)

  clauses_after : (x : Clauses Name) (c : Collection) → steps.with_clauses x c ≡ after c (tree_spots.clauses_spots x)
  clauses_after trees.no_clauses c = after-nil c
  clauses_after (trees.clause x xs) c = two c (tree_spots.clause_spots x) (tree_spots.clauses_spots xs) (clause_after x _) (clauses_after xs _)

  walk_after : (x : Walk Name) (c : Collection) → steps.with_walk x c ≡ after c (tree_spots.walk_spots x)
  walk_after (trees.a_walk x e g) c = two c (tree_spots.target_spots x) (tree_spots.expr_spots e) (target_after x _) (expr_after e _)

  target_after : (x : Target Name) (c : Collection) → steps.with_target x c ≡ after c (tree_spots.target_spots x)
  target_after (trees.to_place x) c = place_after x c
  target_after (trees.group xs) c = targets_after xs c

  targets_after : (x : Targets Name) (c : Collection) → steps.with_targets x c ≡ after c (tree_spots.targets_spots x)
  targets_after trees.no_targets c = after-nil c
  targets_after (trees.target x xs) c = two c (tree_spots.target_spots x) (tree_spots.targets_spots xs) (target_after x _) (targets_after xs _)

  place_after : (x : Place Name) (c : Collection) → steps.with_place x c ≡ after c (tree_spots.place_spots x)
  place_after (trees.to_name n) c = refl
  place_after (trees.to_attr e n g) c = two c (tree_spots.expr_spots e) (Attribute n ∷ []) (expr_after e _) refl
  place_after (trees.to_item e i g) c = two c (tree_spots.expr_spots e) (tree_spots.expr_spots i) (expr_after e _) (expr_after i _)

  params_after : (x : Params Name) (c : Collection) → steps.with_params x c ≡ after c (tree_spots.params_spots x)
  params_after (trees.params ps l d) c = three c (tree_spots.plain_spots ps) (tree_spots.option_binds l) (tree_spots.option_binds d) (plain_after ps _) (name_after l _) (name_after d _)

  plain_after : (x : Plain Name) (c : Collection) → steps.with_plain x c ≡ after c (tree_spots.plain_spots x)
  plain_after trees.no_plain c = after-nil c
  plain_after (trees.plain n e ps) c =
      two c (Binds n ∷ []) (tree_spots.maybe_spots e ++ tree_spots.plain_spots ps) refl (two (seen c (Binds n)) (tree_spots.maybe_spots e) (tree_spots.plain_spots ps) (maybe_after e _) (plain_after ps _))

  trailer_after : (x : Trailer Name) (c : Collection) → steps.with_trailer x c ≡ after c (tree_spots.trailer_spots x)
  trailer_after (trees.attr n g) c = refl
  trailer_after (trees.item e g) c = expr_after e c
  trailer_after (trees.slice x y z g) c = three c (tree_spots.maybe_spots x) (tree_spots.maybe_spots y) (tree_spots.maybe_spots z) (maybe_after x _) (maybe_after y _) (maybe_after z _)
  trailer_after (trees.call xs g) c = args_after xs c

  trailers_after : (x : Trailers Name) (c : Collection) → steps.with_trailers x c ≡ after c (tree_spots.trailers_spots x)
  trailers_after trees.no_trailers c = after-nil c
  trailers_after (trees.trailer x xs) c = two c (tree_spots.trailer_spots x) (tree_spots.trailers_spots xs) (trailer_after x _) (trailers_after xs _)

  arg_after : (x : Arg Name) (c : Collection) → steps.with_arg x c ≡ after c (tree_spots.arg_spots x)
  arg_after (trees.value e) c = expr_after e c
  arg_after (trees.star e) c = expr_after e c
  arg_after (trees.key n e) c = expr_after e c
  arg_after (trees.stars e) c = expr_after e c

  args_after : (x : Args Name) (c : Collection) → steps.with_args x c ≡ after c (tree_spots.args_spots x)
  args_after trees.no_args c = after-nil c
  args_after (trees.arg x xs) c = two c (tree_spots.arg_spots x) (tree_spots.args_spots xs) (arg_after x _) (args_after xs _)

option_after : (x : Option (Expr Name)) (c : Collection) → steps.with_option x c ≡ after c (tree_spots.option_spots x)
option_after None c = after-nil c
option_after (Some e) c = expr_after e c

places_after : (xs : List (Place Name)) (c : Collection) → steps.with_places xs c ≡ after c (flat_map tree_spots.place_spots xs)
places_after [] c = after-nil c
places_after (x ∷ xs) c = two c (tree_spots.place_spots x) (flat_map tree_spots.place_spots xs) (place_after x _) (places_after xs _)

operator_after : (x : Place Name) (at : Line) (c : Collection) → steps.with_operator x at c ≡ after c (tree_spots.operator_spots x at)
operator_after (trees.to_name n) at c = after-nil c
operator_after (trees.to_attr e n g) at c = refl
operator_after (trees.to_item e i g) at c = refl

mutual
  stmt_after : (suite : Suite) (x : Stmt Name) (c : Collection) → steps.with_stmt suite x c ≡ after c (tree_spots.stmt_spots suite x)
  stmt_after suite (stmt_trees.a_stmt l x) c = stmt_form_after suite x c

  stmt_form_after : (suite : Suite) (x : StmtForm Name) (c : Collection) → steps.with_stmt_form suite x c ≡ after c (tree_spots.stmt_form_spots suite x)
  stmt_form_after suite (stmt_trees.evaluate e) c = expr_after e c
  stmt_form_after suite (stmt_trees.assign ps e) c = two c (flat_map tree_spots.place_spots ps) (tree_spots.expr_spots e) (places_after ps _) (expr_after e _)
  stmt_form_after suite (stmt_trees.unpack x e g) c = two c (tree_spots.target_spots x) (tree_spots.expr_spots e) (target_after x _) (expr_after e _)
  stmt_form_after suite (stmt_trees.aug x o at e g) c =
      three c (tree_spots.place_spots x) (tree_spots.operator_spots x at) (tree_spots.expr_spots e) (place_after x _) (operator_after x at _) (expr_after e _)
  stmt_form_after suite (stmt_trees.del ps) c = places_after ps c
  stmt_form_after suite stmt_trees.pass c = after-nil c
  stmt_form_after suite stmt_trees.break c = after-nil c
  stmt_form_after suite stmt_trees.continue c = after-nil c
  stmt_form_after suite (stmt_trees.give_back e) c = option_after e c
  stmt_form_after suite (stmt_trees.raise e) c = option_after e c
  stmt_form_after suite (stmt_trees.assert e m) c = two c (tree_spots.expr_spots e) (tree_spots.option_spots m) (expr_after e _) (option_after m _)
  stmt_form_after suite (stmt_trees.global ns) c = names_after ns c
  stmt_form_after suite (stmt_trees.choose bs o) c = two c (tree_spots.branches_spots bs) (tree_spots.maybe_stmts_spots o) (branches_after bs _) (maybe_stmts_after o _)
  stmt_form_after suite (stmt_trees.while e b) c = two c (tree_spots.expr_spots e) (tree_spots.stmts_spots Other b) (expr_after e _) (stmts_after Other b _)
  stmt_form_after suite (stmt_trees.for w b) c = two c (tree_spots.walk_spots w) (tree_spots.stmts_spots Other b) (walk_after w _) (stmts_after Other b _)
  stmt_form_after suite (stmt_trees.try b hs o l) c =
      two c (tree_spots.stmts_spots Other b ++ tree_spots.excepts_spots hs ++ tree_spots.maybe_stmts_spots o) (tree_spots.maybe_stmts_spots l)
      (three c (tree_spots.stmts_spots Other b) (tree_spots.excepts_spots hs) (tree_spots.maybe_stmts_spots o) (stmts_after Other b _) (excepts_after hs _) (maybe_stmts_after o _))
      (maybe_stmts_after l _)
  stmt_form_after suite (stmt_trees.define k n ps b) c =
      two c (tree_spots.function_spot suite n ∷ []) (tree_spots.params_spots ps ++ tree_spots.stmts_spots Other b) refl
      (two (seen c (tree_spots.function_spot suite n)) (tree_spots.params_spots ps) (tree_spots.stmts_spots Other b) (params_after ps _) (stmts_after Other b _))
  stmt_form_after suite (stmt_trees.class n b) c = two c (Binds n ∷ []) (tree_spots.stmts_spots OfClass b) refl (stmts_after OfClass b _)

  stmts_after : (suite : Suite) (x : Stmts Name) (c : Collection) → steps.with_stmts suite x c ≡ after c (tree_spots.stmts_spots suite x)
  stmts_after suite stmt_trees.no_stmts c = after-nil c
  stmts_after suite (stmt_trees.stmt x xs) c = two c (tree_spots.stmt_spots suite x) (tree_spots.stmts_spots suite xs) (stmt_after suite x _) (stmts_after suite xs _)

  maybe_stmts_after : (x : MaybeStmts Name) (c : Collection) → steps.with_maybe_stmts x c ≡ after c (tree_spots.maybe_stmts_spots x)
  maybe_stmts_after stmt_trees.none c = after-nil c
  maybe_stmts_after (stmt_trees.some b) c = stmts_after Other b c

  branches_after : (x : Branches Name) (c : Collection) → steps.with_branches x c ≡ after c (tree_spots.branches_spots x)
  branches_after stmt_trees.no_branches c = after-nil c
  branches_after (stmt_trees.branch e b bs) c = three c (tree_spots.expr_spots e) (tree_spots.stmts_spots Other b) (tree_spots.branches_spots bs) (expr_after e _) (stmts_after Other b _) (branches_after bs _)

  except_after : (x : Except Name) (c : Collection) → steps.with_except x c ≡ after c (tree_spots.except_spots x)
  except_after (stmt_trees.an_except k n b) c = three c (tree_spots.option_spots k) (tree_spots.option_binds n) (tree_spots.stmts_spots Other b) (option_after k _) (name_after n _) (stmts_after Other b _)

  excepts_after : (x : Excepts Name) (c : Collection) → steps.with_excepts x c ≡ after c (tree_spots.excepts_spots x)
  excepts_after stmt_trees.no_excepts c = after-nil c
  excepts_after (stmt_trees.except x xs) c = two c (tree_spots.except_spots x) (tree_spots.excepts_spots xs) (except_after x _) (excepts_after xs _)

-- what is found from nothing in a tree are its offences
found-tree : (words : List (List ℕ)) (tree : Stmts Name) → (steps.with_stmts Other tree (record { words = words; found = [] })).found ≡ offences_by (word_of words) tree
unfolding after offences_by
found-tree words tree = ap (λ (c : Collection). c.found) (stmts_after Other tree (record { words = words; found = [] }))

-- the same of what a collector, begun with nothing, found in a block that is the tree's body
pub found-body : (words : List (List ℕ)) (block body : List program_stmt.Stmt) (start end : Collection) (items : List (Offence Name)) → start ≡ record { words = words; found = [] } → end ≡ steps.with_stmts Other (view_stmts block) start → block ≡ body → items ≡ end.found → items ≡ offences_by (word_of words) (view_stmts body)
found-body words block body start end items begun walked same given =
    given
    ∙ (ap (λ (c : Collection). c.found) (walked ∙ ap (λ c. steps.with_stmts Other (view_stmts block) c) begun)
    ∙ (found-tree words (view_stmts block) ∙ ap (λ xs. offences_by (word_of words) (view_stmts xs)) same))
