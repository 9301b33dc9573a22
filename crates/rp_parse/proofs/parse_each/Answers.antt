use Rattle.std.proofs.lemmas.Result.{IfErr-weaker, on_ok_weaker}
use Rattle.rp_grammar.proofs.StatementComplete.{one_tree}
use Rattle.rp_parse.proofs.Refused.{refused_only, refused_place}
use Rattle.rp_parse.proofs.Visits.{takes_tree}
use Rattle.rp_parse.proofs.parse_each.Goals as goal

pub returns-clause-spelled : goal.returns-clause-spelled
returns-clause-spelled g c = on_ok_weaker c.program.result (takes_tree g.V.Visitor.takes c.args.visitor.now c.program.new.visitor c.args.tokens.items) c.program.ensures.read

pub returns-clause-only : goal.returns-clause-only
returns-clause-only g c = λ tree spelled.
    IfErr-weaker c.program.result _ _ (λ e told. refused_only e c.args.tokens.items c.requires.shallow told tree spelled) c.program.ensures.refused

pub returns-clause-one : goal.returns-clause-one
returns-clause-one g c = λ a b p q. one_tree p q

pub returns-clause-syntax : goal.returns-clause-syntax
returns-clause-syntax g c =
    IfErr-weaker c.program.result _ _ (λ e told other. refused_place e c.args.tokens.items c.requires.shallow told other) c.program.ensures.refused
