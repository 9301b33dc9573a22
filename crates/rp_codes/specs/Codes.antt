-- A function of a program, as the tree has it.
use Rattle.rp_meaning.specs.Blocks as blocks
use Rattle.rp_codes.specs.declared.code.Code.{Code}
use Rattle.rp_codes.specs.declared.code.Code.TheVariants as code
use Rattle.rp_tree.specs.ExpressionViews.{view_expr, view_params}
use Rattle.rp_tree.specs.StatementViews.{view_stmts}

abbrev pub code_view : Code → blocks.Code
code_view (code.Def ps body) = blocks.def (view_params ps.now) (view_stmts body.now)
code_view (code.Lambda ps body) = blocks.lambda (view_params ps.now) (view_expr body.now)
