-- Statements whose names are places among the names of a text. The value of a whole tree is the list of its statements.
use Rattle.rp_base.specs.declared.value.Name.{Name}
use Rattle.rp_tree.specs.StatementTrees as trees
pub use Rattle.rp_tree.specs.StatementTrees.{a_stmt, evaluate, assign, unpack, aug, del, pass, break, continue, give_back, raise, assert, global, choose, while, for, try, define, class, no_stmts, stmt, none, some, no_branches, branch, an_except, no_excepts, except, IsTry, IsSimple}

abbrev pub Stmt : Type 0
Stmt = trees.Stmt Name

abbrev pub StmtForm : Type 0
StmtForm = trees.StmtForm Name

abbrev pub Stmts : Type 0
Stmts = trees.Stmts Name

abbrev pub MaybeStmts : Type 0
MaybeStmts = trees.MaybeStmts Name

abbrev pub Branches : Type 0
Branches = trees.Branches Name

abbrev pub Except : Type 0
Except = trees.Except Name

abbrev pub Excepts : Type 0
Excepts = trees.Excepts Name
