-- How a collection of offences grows while the code walks over a tree: it goes from one part to the next.
use Rattle.std.specs.Prelude.{ℕ, List, [], ◌∷◌, ◌++◌, Option, Some, None}
use Rattle.std.specs.List.{filter_map}
use Rattle.rp_base.specs.declared.value.Line.{Line}
use Rattle.rp_base.specs.declared.value.Name.{Name}
use Rattle.rp_tree.specs.declared.parts.Named.{Named}
use Rattle.rp_tree.specs.ExpressionTrees as trees
use Rattle.rp_tree.specs.ExpressionTrees.{Expr, Form, Exprs, Maybe, Pairs, Tests, Ops, Clause, Clauses, Walk}
use Rattle.rp_tree.specs.ExpressionTrees.{Target, Targets, Place, Params, Plain, Trailer, Trailers, Arg, Args}
use Rattle.rp_tree.specs.StatementTrees as stmt_trees
use Rattle.rp_tree.specs.StatementTrees.{Stmt, StmtForm, Stmts, MaybeStmts, Branches, Except, Excepts}
use Rattle.rp_base.specs.Names.{word_of}
use Rattle.rp_policy.specs.Offences.{offence}
use Rattle.rp_policy.specs.Spots as tree_spots
use Rattle.rp_policy.specs.declared.offence.Offence.{Offence}
use Rattle.rp_policy.specs.declared.spot.Spot.{Spot}
use Rattle.rp_policy.specs.declared.spot.Spot.TheVariants.{Reads, Binds, Calls, Attribute, Augments}
use Rattle.rp_policy.specs.declared.spot.Suite.{Suite}
use Rattle.rp_policy.specs.declared.spot.Suite.TheVariants.{OfClass, Other}

-- the words that names stand for, and the offences found so far
pub record Collection : Type 0 where
  pub words : List (List ℕ)
  pub found : List (Offence Name)

-- the collection after these spots
unfoldable pub after : Collection → List (Spot Name) → Collection
after c spots = record c { found = c.found ++ filter_map (offence (word_of c.words)) spots }

-- after one spot, and after names that are bound
abbrev pub seen : Collection → Spot Name → Collection
seen c spot = after c (spot ∷ [])

abbrev pub with_name : Option (Named Name) → Collection → Collection
with_name None c = c
with_name (Some n) c = seen c (Binds n)

abbrev pub with_names : List (Named Name) → Collection → Collection
with_names [] c = c
with_names (n ∷ ns) c = with_names ns (seen c (Binds n))

-- after an atom: after what it is alone, but for a name that is called
abbrev pub with_atom : Option (Named Name) → Collection → Collection → Collection
with_atom None alone c = alone
with_atom (Some n) alone c = seen c (Calls n)

abbrev mutual
  pub with_expr : Expr Name → Collection → Collection
  with_expr (trees.node l f) c = with_form l f c

  pub with_form : Line → Form Name → Collection → Collection
  with_form l (trees.name n) c = seen c (Reads (tree_spots.named_at l n))
  with_form l (trees.int n) c = c
  with_form l (trees.text x) c = c
  with_form l (trees.const x) c = c
  with_form l (trees.tuple es) c = with_exprs es c
  with_form l (trees.list es) c = with_exprs es c
  with_form l (trees.dict ps) c = with_pairs ps c
  with_form l (trees.list_of b e cs) c = with_clauses cs (with_expr e c)
  with_form l (trees.dict_of b k e cs) c = with_clauses cs (with_expr e (with_expr k c))
  with_form l (trees.lambda b ps e) c = with_expr e (with_params ps c)
  with_form l (trees.cond a b d) c = with_expr d (with_expr a (with_expr b c))
  with_form l (trees.or es) c = with_exprs es c
  with_form l (trees.and es) c = with_exprs es c
  with_form l (trees.not e) c = with_expr e c
  with_form l (trees.compare e os) c = with_tests os (with_expr e c)
  with_form l (trees.chain e os) c = with_ops os (with_expr e c)
  with_form l (trees.unary u e) c = with_expr e c
  with_form l (trees.power a b) c = with_expr b (with_expr a c)
  with_form l (trees.primary e xs) c = with_trailers xs (with_atom (tree_spots.called_name e xs) (with_expr e c) c)

  pub with_exprs : Exprs Name → Collection → Collection
  with_exprs trees.no_exprs c = c
  with_exprs (trees.expr e es) c = with_exprs es (with_expr e c)

  pub with_maybe : Maybe Name → Collection → Collection
  with_maybe trees.none c = c
  with_maybe (trees.some e) c = with_expr e c

  pub with_pairs : Pairs Name → Collection → Collection
  with_pairs trees.no_pairs c = c
  with_pairs (trees.pair k e ps) c = with_pairs ps (with_expr e (with_expr k c))

  pub with_tests : Tests Name → Collection → Collection
  with_tests trees.no_tests c = c
  with_tests (trees.test o e os) c = with_tests os (with_expr e c)

  pub with_ops : Ops Name → Collection → Collection
  with_ops trees.no_ops c = c
  with_ops (trees.op o e os) c = with_ops os (with_expr e c)

  pub with_clause : Clause Name → Collection → Collection
  with_clause (trees.a_clause w es) c = with_exprs es (with_walk w c)

  pub with_clauses : Clauses Name → Collection → Collection
  with_clauses trees.no_clauses c = c
  with_clauses (trees.clause x xs) c = with_clauses xs (with_clause x c)

  pub with_walk : Walk Name → Collection → Collection
  with_walk (trees.a_walk x e g) c = with_expr e (with_target x c)

  pub with_target : Target Name → Collection → Collection
  with_target (trees.to_place x) c = with_place x c
  with_target (trees.group xs) c = with_targets xs c

  pub with_targets : Targets Name → Collection → Collection
  with_targets trees.no_targets c = c
  with_targets (trees.target x xs) c = with_targets xs (with_target x c)

  pub with_place : Place Name → Collection → Collection
  with_place (trees.to_name n) c = seen c (Binds n)
  with_place (trees.to_attr e n g) c = seen (with_expr e c) (Attribute n)
  with_place (trees.to_item e i g) c = with_expr i (with_expr e c)

  pub with_params : Params Name → Collection → Collection
  with_params (trees.params ps l d) c = with_name d (with_name l (with_plain ps c))

  pub with_plain : Plain Name → Collection → Collection
  with_plain trees.no_plain c = c
  with_plain (trees.plain n e ps) c = with_plain ps (with_maybe e (seen c (Binds n)))

  pub with_trailer : Trailer Name → Collection → Collection
  with_trailer (trees.attr n g) c = seen c (Attribute n)
  with_trailer (trees.item e g) c = with_expr e c
  with_trailer (trees.slice x y z g) c = with_maybe z (with_maybe y (with_maybe x c))
  with_trailer (trees.call xs g) c = with_args xs c

  pub with_trailers : Trailers Name → Collection → Collection
  with_trailers trees.no_trailers c = c
  with_trailers (trees.trailer x xs) c = with_trailers xs (with_trailer x c)

  pub with_arg : Arg Name → Collection → Collection
  with_arg (trees.value e) c = with_expr e c
  with_arg (trees.star e) c = with_expr e c
  with_arg (trees.key n e) c = with_expr e c
  with_arg (trees.stars e) c = with_expr e c

  pub with_args : Args Name → Collection → Collection
  with_args trees.no_args c = c
  with_args (trees.arg x xs) c = with_args xs (with_arg x c)

abbrev pub with_option : Option (Expr Name) → Collection → Collection
with_option None c = c
with_option (Some e) c = with_expr e c

abbrev pub with_places : List (Place Name) → Collection → Collection
with_places [] c = c
with_places (x ∷ xs) c = with_places xs (with_place x c)

-- after the operator of an augmented assignment to a place
abbrev pub with_operator : Place Name → Line → Collection → Collection
with_operator (trees.to_name n) at c = c
with_operator (trees.to_attr e n g) at c = seen c (Augments at)
with_operator (trees.to_item e i g) at c = seen c (Augments at)

abbrev mutual
  pub with_stmt : Suite → Stmt Name → Collection → Collection
  with_stmt suite (stmt_trees.a_stmt l x) c = with_stmt_form suite x c

  pub with_stmt_form : Suite → StmtForm Name → Collection → Collection
  with_stmt_form suite (stmt_trees.evaluate e) c = with_expr e c
  with_stmt_form suite (stmt_trees.assign ps e) c = with_expr e (with_places ps c)
  with_stmt_form suite (stmt_trees.unpack x e g) c = with_expr e (with_target x c)
  with_stmt_form suite (stmt_trees.aug x o at e g) c = with_expr e (with_operator x at (with_place x c))
  with_stmt_form suite (stmt_trees.del ps) c = with_places ps c
  with_stmt_form suite stmt_trees.pass c = c
  with_stmt_form suite stmt_trees.break c = c
  with_stmt_form suite stmt_trees.continue c = c
  with_stmt_form suite (stmt_trees.give_back e) c = with_option e c
  with_stmt_form suite (stmt_trees.raise e) c = with_option e c
  with_stmt_form suite (stmt_trees.assert e m) c = with_option m (with_expr e c)
  with_stmt_form suite (stmt_trees.global ns) c = with_names ns c
  with_stmt_form suite (stmt_trees.choose bs o) c = with_maybe_stmts o (with_branches bs c)
  with_stmt_form suite (stmt_trees.while e b) c = with_stmts Other b (with_expr e c)
  with_stmt_form suite (stmt_trees.for w b) c = with_stmts Other b (with_walk w c)
  with_stmt_form suite (stmt_trees.try b hs o l) c =
      with_maybe_stmts l (with_maybe_stmts o (with_excepts hs (with_stmts Other b c)))
  with_stmt_form suite (stmt_trees.define k n ps b) c = with_stmts Other b (with_params ps (seen c (tree_spots.function_spot suite n)))
  with_stmt_form suite (stmt_trees.class n b) c = with_stmts OfClass b (seen c (Binds n))

  pub with_stmts : Suite → Stmts Name → Collection → Collection
  with_stmts suite stmt_trees.no_stmts c = c
  with_stmts suite (stmt_trees.stmt x xs) c = with_stmts suite xs (with_stmt suite x c)

  pub with_maybe_stmts : MaybeStmts Name → Collection → Collection
  with_maybe_stmts stmt_trees.none c = c
  with_maybe_stmts (stmt_trees.some b) c = with_stmts Other b c

  pub with_branches : Branches Name → Collection → Collection
  with_branches stmt_trees.no_branches c = c
  with_branches (stmt_trees.branch e b bs) c = with_branches bs (with_stmts Other b (with_expr e c))

  pub with_except : Except Name → Collection → Collection
  with_except (stmt_trees.an_except k n b) c = with_stmts Other b (with_name n (with_option k c))

  pub with_excepts : Excepts Name → Collection → Collection
  with_excepts stmt_trees.no_excepts c = c
  with_excepts (stmt_trees.except x xs) c = with_excepts xs (with_except x c)
