-- What the policy looks at in a tree, in the order of the tokens (RestrictedPython, name and attribute policy; Python
-- Language Reference, Expressions, Simple statements, Compound statements). Names are of any type. Keyword names of
-- calls are not looked at.
use Rattle.std.specs.Prelude.{Bool, true, false, List, [], ◌∷◌, ◌++◌, map, Option, Some, None, if◌then◌else◌}
use Rattle.std.specs.List.{flat_map}
use Rattle.rp_base.specs.declared.value.Line.{Line}
use Rattle.rp_tree.specs.declared.parts.Named.{Named}
use Rattle.rp_tree.specs.ExpressionTrees as trees
use Rattle.rp_tree.specs.ExpressionTrees.{Expr, Form, Exprs, Maybe, Pairs, Tests, Ops, Clause, Clauses, Walk}
use Rattle.rp_tree.specs.ExpressionTrees.{Target, Targets, Place, Params, Plain, Trailer, Trailers, Arg, Args}
use Rattle.rp_tree.specs.StatementTrees as stmt_trees
use Rattle.rp_tree.specs.StatementTrees.{Stmt, StmtForm, Stmts, MaybeStmts, Branches, Except, Excepts}
use Rattle.rp_policy.specs.declared.spot.Spot.{Spot}
use Rattle.rp_policy.specs.declared.spot.Spot.TheVariants.{Reads, Binds, Method, Calls, Attribute, Augments}
use Rattle.rp_policy.specs.declared.spot.Suite.{Suite}
use Rattle.rp_policy.specs.declared.spot.Suite.TheVariants.{OfClass, Other}

-- a name at a line
abbrev pub named_at : {A : Type 0} → Line → A → Named A
named_at l n = record { name = n; line = l }

-- the name that an expression is
abbrev pub form_name : {A : Type 0} → Line → Form A → Option (Named A)
form_name l (trees.name n) = Some (named_at l n)
form_name l _ = None

abbrev pub name_of : {A : Type 0} → Expr A → Option (Named A)
name_of (trees.node l f) = form_name l f

abbrev pub is_call : {A : Type 0} → Trailer A → Bool
is_call (trees.call xs g) = true
is_call _ = false

abbrev pub begins_with_call : {A : Type 0} → Trailers A → Bool
begins_with_call trees.no_trailers = false
begins_with_call (trees.trailer x xs) = is_call x

-- the name that is called directly: the atom of a primary, where a call is the first to trail it
abbrev pub called_name : {A : Type 0} → Expr A → Trailers A → Option (Named A)
called_name e xs = if begins_with_call xs then name_of e else None

-- of an atom: what it is alone, but for a name that is called
abbrev pub atom_spots : {A : Type 0} → Option (Named A) → List (Spot A) → List (Spot A)
atom_spots None alone = alone
atom_spots (Some n) alone = Calls n ∷ []

-- of a name that may be missing
abbrev pub option_binds : {A : Type 0} → Option (Named A) → List (Spot A)
option_binds None = []
option_binds (Some n) = Binds n ∷ []

abbrev mutual
  pub expr_spots : {A : Type 0} → Expr A → List (Spot A)
  expr_spots (trees.node l f) = form_spots l f

  -- of an expression at a line
  pub form_spots : {A : Type 0} → Line → Form A → List (Spot A)
  form_spots l (trees.name n) = Reads (named_at l n) ∷ []
  form_spots l (trees.int n) = []
  form_spots l (trees.text x) = []
  form_spots l (trees.const c) = []
  form_spots l (trees.tuple es) = exprs_spots es
  form_spots l (trees.list es) = exprs_spots es
  form_spots l (trees.dict ps) = pairs_spots ps
  form_spots l (trees.list_of b e cs) = expr_spots e ++ clauses_spots cs
  form_spots l (trees.dict_of b k e cs) = expr_spots k ++ expr_spots e ++ clauses_spots cs
  form_spots l (trees.lambda b ps e) = params_spots ps ++ expr_spots e
  -- the value where it is true stands before the test
  form_spots l (trees.cond a b c) = expr_spots b ++ expr_spots a ++ expr_spots c
  form_spots l (trees.or es) = exprs_spots es
  form_spots l (trees.and es) = exprs_spots es
  form_spots l (trees.not e) = expr_spots e
  form_spots l (trees.compare e os) = expr_spots e ++ tests_spots os
  form_spots l (trees.chain e os) = expr_spots e ++ ops_spots os
  form_spots l (trees.unary u e) = expr_spots e
  form_spots l (trees.power a b) = expr_spots a ++ expr_spots b
  form_spots l (trees.primary e xs) = atom_spots (called_name e xs) (expr_spots e) ++ trailers_spots xs

  pub exprs_spots : {A : Type 0} → Exprs A → List (Spot A)
  exprs_spots trees.no_exprs = []
  exprs_spots (trees.expr e es) = expr_spots e ++ exprs_spots es

  pub maybe_spots : {A : Type 0} → Maybe A → List (Spot A)
  maybe_spots trees.none = []
  maybe_spots (trees.some e) = expr_spots e

  pub pairs_spots : {A : Type 0} → Pairs A → List (Spot A)
  pairs_spots trees.no_pairs = []
  pairs_spots (trees.pair k e ps) = expr_spots k ++ expr_spots e ++ pairs_spots ps

  pub tests_spots : {A : Type 0} → Tests A → List (Spot A)
  tests_spots trees.no_tests = []
  tests_spots (trees.test o e os) = expr_spots e ++ tests_spots os

  pub ops_spots : {A : Type 0} → Ops A → List (Spot A)
  ops_spots trees.no_ops = []
  ops_spots (trees.op o e os) = expr_spots e ++ ops_spots os

  pub clause_spots : {A : Type 0} → Clause A → List (Spot A)
  clause_spots (trees.a_clause w es) = walk_spots w ++ exprs_spots es

  pub clauses_spots : {A : Type 0} → Clauses A → List (Spot A)
  clauses_spots trees.no_clauses = []
  clauses_spots (trees.clause x xs) = clause_spots x ++ clauses_spots xs

  pub walk_spots : {A : Type 0} → Walk A → List (Spot A)
  walk_spots (trees.a_walk p e g) = target_spots p ++ expr_spots e

  pub target_spots : {A : Type 0} → Target A → List (Spot A)
  target_spots (trees.to_place p) = place_spots p
  target_spots (trees.group ps) = targets_spots ps

  pub targets_spots : {A : Type 0} → Targets A → List (Spot A)
  targets_spots trees.no_targets = []
  targets_spots (trees.target p ps) = target_spots p ++ targets_spots ps

  pub place_spots : {A : Type 0} → Place A → List (Spot A)
  place_spots (trees.to_name n) = Binds n ∷ []
  place_spots (trees.to_attr e n g) = expr_spots e ++ Attribute n ∷ []
  place_spots (trees.to_item e i g) = expr_spots e ++ expr_spots i

  pub params_spots : {A : Type 0} → Params A → List (Spot A)
  params_spots (trees.params ps l d) = plain_spots ps ++ option_binds l ++ option_binds d

  pub plain_spots : {A : Type 0} → Plain A → List (Spot A)
  plain_spots trees.no_plain = []
  plain_spots (trees.plain n e ps) = Binds n ∷ (maybe_spots e ++ plain_spots ps)

  pub trailer_spots : {A : Type 0} → Trailer A → List (Spot A)
  trailer_spots (trees.attr n g) = Attribute n ∷ []
  trailer_spots (trees.item e g) = expr_spots e
  trailer_spots (trees.slice a b c g) = maybe_spots a ++ maybe_spots b ++ maybe_spots c
  trailer_spots (trees.call xs g) = args_spots xs

  pub trailers_spots : {A : Type 0} → Trailers A → List (Spot A)
  trailers_spots trees.no_trailers = []
  trailers_spots (trees.trailer x xs) = trailer_spots x ++ trailers_spots xs

  pub arg_spots : {A : Type 0} → Arg A → List (Spot A)
  arg_spots (trees.value e) = expr_spots e
  arg_spots (trees.star e) = expr_spots e
  arg_spots (trees.key n e) = expr_spots e
  arg_spots (trees.stars e) = expr_spots e

  pub args_spots : {A : Type 0} → Args A → List (Spot A)
  args_spots trees.no_args = []
  args_spots (trees.arg x xs) = arg_spots x ++ args_spots xs

abbrev pub option_spots : {A : Type 0} → Option (Expr A) → List (Spot A)
option_spots None = []
option_spots (Some e) = expr_spots e

-- the operator of an augmented assignment to a place
abbrev pub operator_spots : {A : Type 0} → Place A → Line → List (Spot A)
operator_spots (trees.to_name n) at = []
operator_spots (trees.to_attr e n g) at = Augments at ∷ []
operator_spots (trees.to_item e i g) at = Augments at ∷ []

-- the name of a function that is defined directly in such a block
abbrev pub function_spot : {A : Type 0} → Suite → Named A → Spot A
function_spot OfClass n = Method n
function_spot Other n = Binds n

abbrev mutual
  -- of a statement directly in such a block
  pub stmt_spots : {A : Type 0} → Suite → Stmt A → List (Spot A)
  stmt_spots suite (stmt_trees.a_stmt l x) = stmt_form_spots suite x

  pub stmt_form_spots : {A : Type 0} → Suite → StmtForm A → List (Spot A)
  stmt_form_spots suite (stmt_trees.evaluate e) = expr_spots e
  stmt_form_spots suite (stmt_trees.assign ps e) = flat_map place_spots ps ++ expr_spots e
  stmt_form_spots suite (stmt_trees.unpack p e g) = target_spots p ++ expr_spots e
  stmt_form_spots suite (stmt_trees.aug p o at e g) = place_spots p ++ operator_spots p at ++ expr_spots e
  stmt_form_spots suite (stmt_trees.del ps) = flat_map place_spots ps
  stmt_form_spots suite stmt_trees.pass = []
  stmt_form_spots suite stmt_trees.break = []
  stmt_form_spots suite stmt_trees.continue = []
  stmt_form_spots suite (stmt_trees.give_back e) = option_spots e
  stmt_form_spots suite (stmt_trees.raise e) = option_spots e
  stmt_form_spots suite (stmt_trees.assert e m) = expr_spots e ++ option_spots m
  stmt_form_spots suite (stmt_trees.global ns) = map Binds ns
  stmt_form_spots suite (stmt_trees.choose bs o) = branches_spots bs ++ maybe_stmts_spots o
  stmt_form_spots suite (stmt_trees.while e b) = expr_spots e ++ stmts_spots Other b
  stmt_form_spots suite (stmt_trees.for w b) = walk_spots w ++ stmts_spots Other b
  stmt_form_spots suite (stmt_trees.try b hs o l) =
      stmts_spots Other b ++ excepts_spots hs ++ maybe_stmts_spots o ++ maybe_stmts_spots l
  stmt_form_spots suite (stmt_trees.define k n ps b) = function_spot suite n ∷ (params_spots ps ++ stmts_spots Other b)
  stmt_form_spots suite (stmt_trees.class n b) = Binds n ∷ stmts_spots OfClass b

  pub stmts_spots : {A : Type 0} → Suite → Stmts A → List (Spot A)
  stmts_spots suite stmt_trees.no_stmts = []
  stmts_spots suite (stmt_trees.stmt x xs) = stmt_spots suite x ++ stmts_spots suite xs

  pub maybe_stmts_spots : {A : Type 0} → MaybeStmts A → List (Spot A)
  maybe_stmts_spots stmt_trees.none = []
  maybe_stmts_spots (stmt_trees.some b) = stmts_spots Other b

  pub branches_spots : {A : Type 0} → Branches A → List (Spot A)
  branches_spots stmt_trees.no_branches = []
  branches_spots (stmt_trees.branch e b bs) = expr_spots e ++ stmts_spots Other b ++ branches_spots bs

  pub except_spots : {A : Type 0} → Except A → List (Spot A)
  except_spots (stmt_trees.an_except k n b) = option_spots k ++ option_binds n ++ stmts_spots Other b

  pub excepts_spots : {A : Type 0} → Excepts A → List (Spot A)
  excepts_spots stmt_trees.no_excepts = []
  excepts_spots (stmt_trees.except x xs) = except_spots x ++ excepts_spots xs

-- of a whole tree
abbrev pub spots : {A : Type 0} → Stmts A → List (Spot A)
spots = stmts_spots Other
