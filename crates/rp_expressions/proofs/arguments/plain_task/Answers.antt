use Rattle.std.proofs.Common.{refl}
use Rattle.rp_expressions.proofs.Spreads.{first_plain}
use Rattle.rp_engine.specs.Does as does
use Rattle.rp_expressions.proofs.arguments.plain_task.Goals as goal

pub returns-then-hand-eq0-clause-does : goal.returns-then-hand-eq0-clause-does
returns-then-hand-eq0-clause-does c = first_plain (does.args c.args.args.now) (does.trailers c.args.rest.now) c.args.hand.plain c.args.hand.named c.if-hand-eq0.true

pub returns-clause-does : goal.returns-clause-does
returns-clause-does c = λ f vs o. refl
