use Rattle.rp_tree.specs.Expressions.{Params}
use Rattle.rp_tree.specs.ExpressionViews as views
use Rattle.rp_grammar.specs.Kinds.{Tokens}
use Rattle.rp_grammar.specs.Expressions.{IsParams, any}
use Rattle.rp_grammar.proofs.ExpressionLaws.{params_spelled, params_read}
use Rattle.rp_expr.proofs.Faults.{answers_sound, answers_read}
use Rattle.rp_expr.proofs.readers.params.Goals as goal

pub returns : goal.returns
returns c = record {
  gives = c.params.ensures;
  spelled = answers_sound (λ x. (views.view_params x.0, x.1.now)) (λ (x : Params × Tokens). IsParams any x.0 c.args.tokens.now x.1) _ (params_spelled c.args.depth c.args.tokens.now) c.params.result c.params.ensures;
  read = λ x rest most height p ends low shallow enough.
      answers_read (λ x. (views.view_params x.0, x.1.now)) _ c.params.result c.params.ensures (x, rest) (params_read most height c.args.depth enough p ends low shallow);
}
