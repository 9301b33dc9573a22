use Rattle.std.proofs.Common.{ap, ◌∙◌}
use Rattle.rp_meaning.specs.Operators.{comparison_name}
use Rattle.rp_access.proofs.Decided.{order_plain}
use Rattle.rp_access.proofs.Going.{Comes-same}
use Rattle.rp_access.specs.Moment.{state_of}
use Rattle.rp_access.proofs.comparing.order.Goals as goal

pub returns-clause-law : goal.returns-clause-law
returns-clause-law c =
    Comes-same c.compare.result (state_of c.compare.new.world) _ _
    (order_plain c.args.op c.args.a.now c.args.b.now (state_of c.args.world.now) (state_of c.ask.new.world) (state_of c.ask-2.new.world) _ _
    c.comparison_name.ensures (c.comparison_name-2.ensures ∙ ap comparison_name c.mirrored.ensures) c.in_ok-ask.ensures.law c.in_ok-ask-2.ensures.law) c.compare.ensures.law
