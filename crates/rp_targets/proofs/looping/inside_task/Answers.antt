use Rattle.std.proofs.Common.{ap, sym}
use Rattle.rp_frame.specs.declared.spot.Inside.{Inside}
use Rattle.rp_meaning.specs.State.{on_next}
use Rattle.rp_engine.specs.Does as does
use Rattle.rp_engine.specs.Rest.{did}
use Rattle.rp_targets.proofs.looping.inside_task.Goals as goal

pub returns-in-Block : goal.returns-in-Block
returns-in-Block c = λ f vs o. ap (λ (inside : Inside). did f vs (on_next o (does.inside inside f))) (sym c.in-Block.is)

pub returns-in-Clause : goal.returns-in-Clause
returns-in-Clause c = λ f vs o. ap (λ (inside : Inside). did f vs (on_next o (does.inside inside f))) (sym c.in-Clause.is)
