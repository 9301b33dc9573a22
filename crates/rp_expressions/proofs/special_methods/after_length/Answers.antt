use Rattle.rp_expressions.proofs.SpecialMoves.{length_ends, length_resumes}
use Rattle.rp_engine.specs.Does as does
use Rattle.rp_expressions.proofs.special_methods.after_length.Goals as goal

pub returns-in-Ok-clause-law : goal.returns-in-Ok-clause-law
returns-in-Ok-clause-law c =
    length_resumes c.args.machine.now c.more_trailers.new.machine c.more_trailers.result (does.trailers c.args.rest.now) c.args.value c.in-Ok.length c.in-Ok.ensures.law c.more_trailers.ensures.law

pub returns-in-Ok-clause-ready : goal.returns-in-Ok-clause-ready
returns-in-Ok-clause-ready c = λ w ready. c.more_trailers.ensures.ready w ready (c.in-Ok.ensures.fit w.store.heap c.args.machine.now.frame.side)

pub returns-clause-law : goal.returns-clause-law
returns-clause-law c =
    length_ends c.args.machine.now c.no_value.new.self c.no_value.result (does.trailers c.args.rest.now) c.args.value c.in-Err.end c.in-Err.ensures.law c.no_value.ensures.law
