-- Which value of Statements a statement of the program stands for.
use Rattle.std.specs.Prelude.{List, [], ◌∷◌, map, Option, Some, None, option_map}
use Rattle.std.specs.declared.vec.Vec.{Vec}
use Rattle.std.specs.declared.alloc.Global.{Global}
use Rattle.rp_tree.specs.declared.stmt.Tree.{Tree}
use Rattle.rp_tree.specs.declared.stmt.Branch as program_branch
use Rattle.rp_tree.specs.declared.stmt.Stmt as program_stmt
use Rattle.rp_tree.specs.declared.stmt.StmtForm as program_form
use Rattle.rp_tree.specs.declared.stmt.Except as program_except
use Rattle.rp_tree.specs.declared.stmt.StmtForm.TheOpen as open_stmt
use Rattle.rp_tree.specs.declared.stmt.StmtForm.TheFolds as stmt_folds
use Rattle.rp_tree.specs.Expressions as tree
use Rattle.rp_tree.specs.Statements as stmt_tree
use Rattle.rp_tree.specs.ExpressionViews.{view_expr, view_place, view_target, view_walk, view_params}

-- the lists of Statements, from lists

abbrev pub stmts_of : List stmt_tree.Stmt → stmt_tree.Stmts
stmts_of [] = stmt_tree.no_stmts
stmts_of (x ∷ xs) = stmt_tree.stmt x (stmts_of xs)

abbrev pub maybe_stmts_of : Option (Vec stmt_tree.Stmt Global) → stmt_tree.MaybeStmts
maybe_stmts_of None = stmt_tree.none
maybe_stmts_of (Some v) = stmt_tree.some (stmts_of v.items)

abbrev pub branches_of : List (tree.Expr × stmt_tree.Stmts) → stmt_tree.Branches
branches_of [] = stmt_tree.no_branches
branches_of (b ∷ bs) = stmt_tree.branch b.0 b.1 (branches_of bs)

abbrev pub excepts_of : List stmt_tree.Except → stmt_tree.Excepts
excepts_of [] = stmt_tree.no_excepts
excepts_of (x ∷ xs) = stmt_tree.except x (excepts_of xs)

-- one level of each type of the program, with what each part stands for in its place

abbrev pub form_step : open_stmt.StmtForm-F stmt_tree.StmtForm (tree.Expr × stmt_tree.Stmts) stmt_tree.Except stmt_tree.Stmt → stmt_tree.StmtForm
form_step (open_stmt.Expr e) = stmt_tree.evaluate (view_expr e)
form_step (open_stmt.Assign ps e) = stmt_tree.assign (map view_place ps.items) (view_expr e)
form_step (open_stmt.Unpack p e g) = stmt_tree.unpack (view_target p) (view_expr e) g
form_step (open_stmt.Aug p op at e g) = stmt_tree.aug (view_place p) op at (view_expr e) g
form_step (open_stmt.Del ps) = stmt_tree.del (map view_place ps.items)
form_step open_stmt.Pass = stmt_tree.pass
form_step open_stmt.Break = stmt_tree.break
form_step open_stmt.Continue = stmt_tree.continue
form_step (open_stmt.Return e) = stmt_tree.give_back (option_map view_expr e)
form_step (open_stmt.Raise e) = stmt_tree.raise (option_map view_expr e)
form_step (open_stmt.Assert e m) = stmt_tree.assert (view_expr e) (option_map view_expr m)
form_step (open_stmt.Global ns) = stmt_tree.global ns.items
form_step (open_stmt.If bs x) = stmt_tree.choose (branches_of bs.items) (maybe_stmts_of x)
form_step (open_stmt.While e b) = stmt_tree.while (view_expr e) (stmts_of b.items)
form_step (open_stmt.For w b) = stmt_tree.for (view_walk w) (stmts_of b.items)
form_step (open_stmt.Try b hs x l) = stmt_tree.try (stmts_of b.items) (excepts_of hs.items) (maybe_stmts_of x) (maybe_stmts_of l)
form_step (open_stmt.Def k n p b) = stmt_tree.define k.0 n (view_params p) (stmts_of b.items)
form_step (open_stmt.Class n b) = stmt_tree.class n (stmts_of b.items)

abbrev pub branch_step : open_stmt.Branch-F stmt_tree.StmtForm (tree.Expr × stmt_tree.Stmts) stmt_tree.Except stmt_tree.Stmt → tree.Expr × stmt_tree.Stmts
branch_step b = (view_expr b.test, stmts_of b.body.items)

abbrev pub except_step : open_stmt.Except-F stmt_tree.StmtForm (tree.Expr × stmt_tree.Stmts) stmt_tree.Except stmt_tree.Stmt → stmt_tree.Except
except_step x = stmt_tree.an_except (option_map view_expr x.kind) x.name (stmts_of x.body.items)

abbrev pub stmt_step : open_stmt.Stmt-F stmt_tree.StmtForm (tree.Expr × stmt_tree.Stmts) stmt_tree.Except stmt_tree.Stmt → stmt_tree.Stmt
stmt_step x = stmt_tree.a_stmt x.line x.form.value

-- the values

abbrev pub view_stmt : program_stmt.Stmt → stmt_tree.Stmt
view_stmt = stmt_folds.fold-Stmt stmt_tree.StmtForm (tree.Expr × stmt_tree.Stmts) stmt_tree.Except stmt_tree.Stmt form_step branch_step except_step stmt_step

abbrev pub view_stmt_form : program_form.StmtForm → stmt_tree.StmtForm
view_stmt_form = stmt_folds.fold-StmtForm stmt_tree.StmtForm (tree.Expr × stmt_tree.Stmts) stmt_tree.Except stmt_tree.Stmt form_step branch_step except_step stmt_step

abbrev pub view_except : program_except.Except → stmt_tree.Except
view_except = stmt_folds.fold-Except stmt_tree.StmtForm (tree.Expr × stmt_tree.Stmts) stmt_tree.Except stmt_tree.Stmt form_step branch_step except_step stmt_step

abbrev pub view_branch : program_branch.Branch → tree.Expr × stmt_tree.Stmts
view_branch = stmt_folds.fold-Branch stmt_tree.StmtForm (tree.Expr × stmt_tree.Stmts) stmt_tree.Except stmt_tree.Stmt form_step branch_step except_step stmt_step

-- a block
abbrev pub view_stmts : List program_stmt.Stmt → stmt_tree.Stmts
view_stmts xs = stmts_of (map view_stmt xs)

abbrev pub view_maybe_stmts : Option (Vec program_stmt.Stmt Global) → stmt_tree.MaybeStmts
view_maybe_stmts None = stmt_tree.none
view_maybe_stmts (Some v) = stmt_tree.some (view_stmts v.items)

-- a whole tree: the list of its statements
abbrev pub view_tree : Tree → stmt_tree.Stmts
view_tree t = view_stmts t.body.items

-- the statements of a block that may be missing
abbrev pub block_items : Option (Vec program_stmt.Stmt Global) → List program_stmt.Stmt
block_items None = []
block_items (Some v) = v.items
