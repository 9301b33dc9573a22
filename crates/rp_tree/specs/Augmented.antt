-- Trees in which each augmented assignment is one to a name. RestrictedPython refuses it to an attribute or to an item
-- (RestrictedPython, visit_AugAssign).
use Rattle.std.specs.Prelude.{◌≡◌, ⊤}
use Rattle.rp_tree.specs.StatementTrees as stmt_trees
use Rattle.rp_tree.specs.StatementTrees.{Stmt, StmtForm, Stmts, MaybeStmts, Branches, Except, Excepts}
use Rattle.rp_tree.specs.Maps.{inplace_site, inplace_name}

abbrev mutual
  pub AugmentsName : {A : Type 0} → Stmt A → Type 0
  AugmentsName (stmt_trees.a_stmt l x) = FormAugmentsNames x

  pub FormAugmentsNames : {A : Type 0} → StmtForm A → Type 0
  FormAugmentsNames (stmt_trees.aug p o at e g) = inplace_site p ≡ inplace_name
  FormAugmentsNames (stmt_trees.choose bs o) = BranchesAugmentNames bs × MaybeAugmentsNames o
  FormAugmentsNames (stmt_trees.while e b) = AugmentsNames b
  FormAugmentsNames (stmt_trees.for w b) = AugmentsNames b
  FormAugmentsNames (stmt_trees.try b hs o l) = AugmentsNames b × ExceptsAugmentNames hs × MaybeAugmentsNames o × MaybeAugmentsNames l
  FormAugmentsNames (stmt_trees.define k n ps b) = AugmentsNames b
  FormAugmentsNames (stmt_trees.class n b) = AugmentsNames b
  FormAugmentsNames _ = ⊤

  pub AugmentsNames : {A : Type 0} → Stmts A → Type 0
  AugmentsNames stmt_trees.no_stmts = ⊤
  AugmentsNames (stmt_trees.stmt x xs) = AugmentsName x × AugmentsNames xs

  pub MaybeAugmentsNames : {A : Type 0} → MaybeStmts A → Type 0
  MaybeAugmentsNames stmt_trees.none = ⊤
  MaybeAugmentsNames (stmt_trees.some b) = AugmentsNames b

  pub BranchesAugmentNames : {A : Type 0} → Branches A → Type 0
  BranchesAugmentNames stmt_trees.no_branches = ⊤
  BranchesAugmentNames (stmt_trees.branch e b bs) = AugmentsNames b × BranchesAugmentNames bs

  pub ExceptAugmentsNames : {A : Type 0} → Except A → Type 0
  ExceptAugmentsNames (stmt_trees.an_except k n b) = AugmentsNames b

  pub ExceptsAugmentNames : {A : Type 0} → Excepts A → Type 0
  ExceptsAugmentNames stmt_trees.no_excepts = ⊤
  ExceptsAugmentNames (stmt_trees.except x xs) = ExceptAugmentsNames x × ExceptsAugmentNames xs
