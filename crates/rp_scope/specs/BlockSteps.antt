-- What is told of the code blocks in the parts of a tree that are no nodes of their own.
use Rattle.std.specs.Prelude.{List, ◌++◌}
use Rattle.rp_tree.specs.ExpressionTrees.{Expr, Maybe}
use Rattle.rp_tree.specs.StatementTrees.{Stmts}
use Rattle.rp_scope.specs.Blocks.{Telling, maybe_blocks, expr_blocks, stmts_blocks}

abbrev pub slice_blocks : {A X Y : Type 0} → Telling A X Y → X → Maybe A × Maybe A × Maybe A → List Y
slice_blocks tell around p = maybe_blocks tell around p.0 ++ maybe_blocks tell around p.1 ++ maybe_blocks tell around p.2

abbrev pub branch_blocks : {A X Y : Type 0} → Telling A X Y → X → Expr A × Stmts A → List Y
branch_blocks tell around p = expr_blocks tell around p.0 ++ stmts_blocks tell around p.1
