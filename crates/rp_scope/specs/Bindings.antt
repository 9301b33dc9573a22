-- The names that a code block binds (Python Language Reference, Naming and binding).
use Rattle.std.specs.Prelude.{List, [], ◌∷◌, ◌++◌, map, Bool, not, Option, Some, None}
use Rattle.std.specs.List.{filter, filter_map, list_any}
use Rattle.rp_tree.specs.ExpressionTrees as trees
use Rattle.rp_tree.specs.declared.parts.Named.{Named}
use Rattle.rp_tree.specs.ExpressionTrees.{Target, Targets, Place, Params, Plain, Clause, Clauses, Walk}
use Rattle.rp_scope.specs.declared.mentions.Mention.{Mention}
use Rattle.rp_scope.specs.declared.mentions.Mention.TheVariants.{Bound, Global, GlobalWithin}
use Rattle.rp_tree.specs.StatementTrees as stmt_trees
use Rattle.rp_tree.specs.StatementTrees.{Stmt, StmtForm, Stmts, MaybeStmts, Branches, Except, Excepts}

-- names that are assigned to, deleted or walked with. An attribute and an item bind no name.

abbrev pub place_names : {A : Type 0} → Place A → List A
place_names (trees.to_name n) = n.name ∷ []
place_names (trees.to_attr x n g) = []
place_names (trees.to_item x i g) = []

abbrev pub places_names : {A : Type 0} → List (Place A) → List A
places_names [] = []
places_names (p ∷ ps) = place_names p ++ places_names ps

abbrev mutual
  pub target_names : {A : Type 0} → Target A → List A
  target_names (trees.to_place p) = place_names p
  target_names (trees.group ps) = targets_names ps

  pub targets_names : {A : Type 0} → Targets A → List A
  targets_names trees.no_targets = []
  targets_names (trees.target p ps) = target_names p ++ targets_names ps

abbrev pub walk_names : {A : Type 0} → Walk A → List A
walk_names (trees.a_walk p x g) = target_names p

abbrev pub clause_names : {A : Type 0} → Clause A → List A
clause_names (trees.a_clause w es) = walk_names w

-- the targets of all clauses of a comprehension
abbrev pub clauses_names : {A : Type 0} → Clauses A → List A
clauses_names trees.no_clauses = []
clauses_names (trees.clause c cs) = clause_names c ++ clauses_names cs

abbrev pub option_names : {A : Type 0} → Option (Named A) → List A
option_names None = []
option_names (Some n) = n.name ∷ []

abbrev pub plain_names : {A : Type 0} → Plain A → List A
plain_names trees.no_plain = []
plain_names (trees.plain n x ps) = n.name ∷ plain_names ps

-- the parameters without a star, then `*NAME`, then `**NAME`
abbrev pub params_names : {A : Type 0} → Params A → List A
params_names (trees.params ps l d) = plain_names ps ++ option_names l ++ option_names d

-- what the statements of a function say of names, as the block around it is concerned: only what `global` lists
abbrev pub within : {A : Type 0} → List (Mention A) → List (Mention A)
within [] = []
within (Bound n ∷ xs) = within xs
within (Global n ∷ xs) = GlobalWithin n ∷ within xs
within (GlobalWithin n ∷ xs) = GlobalWithin n ∷ within xs

abbrev pub all_bound : {A : Type 0} → List A → List (Mention A)
all_bound [] = []
all_bound (n ∷ ns) = Bound n ∷ all_bound ns

-- What statements say of names, in the order of tokens. Expressions bind no name of the code block that they stand in. A class binds its own name
-- alone: the functions in it bind none in the block around.
abbrev mutual
  pub stmt_mentions : {A : Type 0} → Stmt A → List (Mention A)
  stmt_mentions (stmt_trees.a_stmt line x) = form_mentions x

  pub form_mentions : {A : Type 0} → StmtForm A → List (Mention A)
  form_mentions (stmt_trees.evaluate x) = []
  form_mentions (stmt_trees.assign ps x) = all_bound (places_names ps)
  form_mentions (stmt_trees.unpack p x g) = all_bound (target_names p)
  form_mentions (stmt_trees.aug p o at x g) = all_bound (place_names p)
  form_mentions (stmt_trees.del ps) = all_bound (places_names ps)
  form_mentions stmt_trees.pass = []
  form_mentions stmt_trees.break = []
  form_mentions stmt_trees.continue = []
  form_mentions (stmt_trees.give_back x) = []
  form_mentions (stmt_trees.raise x) = []
  form_mentions (stmt_trees.assert x m) = []
  form_mentions (stmt_trees.global ns) = map (λ n. Global n.name) ns
  form_mentions (stmt_trees.choose bs o) = branches_mentions bs ++ maybe_mentions o
  form_mentions (stmt_trees.while x b) = stmts_mentions b
  form_mentions (stmt_trees.for w b) = all_bound (walk_names w) ++ stmts_mentions b
  form_mentions (stmt_trees.try b hs o l) = stmts_mentions b ++ excepts_mentions hs ++ maybe_mentions o ++ maybe_mentions l
  form_mentions (stmt_trees.define k n ps b) = Bound n.name ∷ within (stmts_mentions b)
  form_mentions (stmt_trees.class n b) = Bound n.name ∷ within (stmts_mentions b)

  pub stmts_mentions : {A : Type 0} → Stmts A → List (Mention A)
  stmts_mentions stmt_trees.no_stmts = []
  stmts_mentions (stmt_trees.stmt x xs) = stmt_mentions x ++ stmts_mentions xs

  pub maybe_mentions : {A : Type 0} → MaybeStmts A → List (Mention A)
  maybe_mentions stmt_trees.none = []
  maybe_mentions (stmt_trees.some b) = stmts_mentions b

  pub branches_mentions : {A : Type 0} → Branches A → List (Mention A)
  branches_mentions stmt_trees.no_branches = []
  branches_mentions (stmt_trees.branch x b bs) = stmts_mentions b ++ branches_mentions bs

  pub except_mentions : {A : Type 0} → Except A → List (Mention A)
  except_mentions (stmt_trees.an_except x n b) = all_bound (option_names n) ++ stmts_mentions b

  pub excepts_mentions : {A : Type 0} → Excepts A → List (Mention A)
  excepts_mentions stmt_trees.no_excepts = []
  excepts_mentions (stmt_trees.except x xs) = except_mentions x ++ excepts_mentions xs

-- a name that is bound in the block itself; one that its `global` statements list; any that is mentioned

abbrev pub bound_name : {A : Type 0} → Mention A → Option A
bound_name (Bound n) = Some n
bound_name (Global n) = None
bound_name (GlobalWithin n) = None

abbrev pub global_name : {A : Type 0} → Mention A → Option A
global_name (Bound n) = None
global_name (Global n) = Some n
global_name (GlobalWithin n) = None

abbrev pub mentioned_name : {A : Type 0} → Mention A → A
mentioned_name (Bound n) = n
mentioned_name (Global n) = n
mentioned_name (GlobalWithin n) = n

-- a code block by the names that it binds, in the order of tokens, and those that its `global` statements list
pub record Block (A : Type 0) : Type 0 where
  pub names : List A
  pub globals : List A

-- a function binds its parameters, and what its statements bind
abbrev pub function_block : {A : Type 0} → Params A → Stmts A → Block A
function_block ps b = record { names = params_names ps ++ filter_map bound_name (stmts_mentions b); globals = filter_map global_name (stmts_mentions b) }

abbrev pub lambda_block : {A : Type 0} → Params A → Block A
lambda_block ps = record { names = params_names ps; globals = [] }

-- a comprehension binds the targets of its clauses
abbrev pub comprehension_block : {A : Type 0} → Clauses A → Block A
comprehension_block cs = record { names = clauses_names cs; globals = [] }

-- The program binds first some given names, then what its statements bind and what a `global` statement lists anywhere.
abbrev pub program_names : {A : Type 0} → List A → Stmts A → List A
program_names first b = first ++ map mentioned_name (stmts_mentions b)

-- names with each one once, where it stands first; the equality is one of names
abbrev pub once : {A : Type 0} → (A → A → Bool) → List A → List A
once same [] = []
once same (x ∷ xs) = x ∷ filter (λ y. not (same x y)) (once same xs)

-- The local names of a function, a lambda or a comprehension: what it binds, but for its `global` names.
abbrev pub local_names : {A : Type 0} → (A → A → Bool) → Block A → List A
local_names same b = once same (filter (λ x. not (list_any (same x) b.globals)) b.names)
