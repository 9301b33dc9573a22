use Rattle.rp_access.proofs.Going.{Comes-same, gives-then}
use Rattle.rp_engine.specs.Law.{frame_in}
use Rattle.rp_meaning.specs.Frame.{read_name}
use Rattle.rp_access.specs.Moment.{state_of}
use Rattle.rp_engine.proofs.machine.Machine.name.Goals as goal

pub returns-clause-law : goal.returns-clause-law
returns-clause-law c = λ base.
    Comes-same c.read.result (state_of c.read.new.world) _ _
    (gives-then (tt {0}) (state_of c.take_step.new.world) _ (λ _ s. read_name c.args.name (frame_in base c.args.self.now) s) c.in_ok-take_step.ensures.law) (c.read.ensures.law base)
