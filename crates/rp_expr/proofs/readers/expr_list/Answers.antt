use Rattle.rp_tree.specs.Expressions.{Expr}
use Rattle.rp_tree.specs.ExpressionViews as views
use Rattle.rp_grammar.specs.Kinds.{Tokens}
use Rattle.rp_grammar.specs.Expressions.{IsExprs}
use Rattle.rp_grammar.proofs.ExpressionLaws.{list_spelled, list_read}
use Rattle.rp_expr.proofs.Faults.{answers_sound, answers_read}
use Rattle.rp_expr.proofs.readers.expr_list.Goals as goal

pub returns : goal.returns
returns c = record {
  gives = c.expr_list.ensures;
  spelled = answers_sound (λ x. (views.view_expr x.0, x.1.now)) (λ (x : Expr × Tokens). IsExprs x.0 c.args.tokens.now x.1) _ (list_spelled c.args.depth c.args.tokens.now) c.expr_list.result c.expr_list.ensures;
  read = λ x rest most height p ends low shallow enough.
      answers_read (λ x. (views.view_expr x.0, x.1.now)) _ c.expr_list.result c.expr_list.ensures (x, rest) (list_read most height c.args.depth enough p ends low shallow);
}
