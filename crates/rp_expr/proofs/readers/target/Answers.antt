use Rattle.rp_tree.specs.Expressions.{Target}
use Rattle.rp_tree.specs.ExpressionViews as views
use Rattle.rp_grammar.specs.Kinds.{Tokens}
use Rattle.rp_base.specs.declared.value.Line.{Line}
use Rattle.rp_grammar.specs.Expressions.{IsTarget}
use Rattle.rp_grammar.proofs.ExpressionLaws.{target_spelled, target_read}
use Rattle.rp_expr.proofs.Faults.{answers_sound, answers_read}
use Rattle.rp_expr.proofs.readers.target.Goals as goal

pub returns : goal.returns
returns c = record {
  gives = c.target.ensures;
  spelled = answers_sound (λ x. (views.view_target x.0, x.1.now)) (λ (x : Target × Tokens). (line : Line) × IsTarget x.0 line c.args.tokens.now x.1) _ (target_spelled c.args.depth c.args.tokens.now) c.target.result c.target.ensures;
  read = λ x line rest most height p ends low shallow enough.
      answers_read (λ x. (views.view_target x.0, x.1.now)) _ c.target.result c.target.ensures (x, rest) (target_read most height c.args.depth enough p ends low shallow);
}
