use Rattle.rp_engine.proofs.Doings.{always}
use Rattle.rp_engine.specs.Does as does
use Rattle.rp_engine.specs.Law.{Moves}
use Rattle.rp_targets.proofs.looping.go_inside.Goals as goal

pub returns-in-Block-clause-law : goal.returns-in-Block-clause-law
returns-in-Block-clause-law c =
    always c.go.result (Moves (does.inside c.args.inside) c.args.machine.now c.go.new.self) (λ base s. rw c.in-Block.is (c.go.ensures.law base s))

pub returns-in-Clause-clause-law : goal.returns-in-Clause-clause-law
returns-in-Clause-clause-law c = rw c.in-Clause.is c.wait.ensures.law
