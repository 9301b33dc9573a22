use Rattle.rp_access.specs.Moment.{state_of}
use Rattle.rp_access.proofs.Asked.{asked_none, asked_some}
use Rattle.rp_access.proofs.functions.ask_each.Goals as goal

pub returns-in-Some-clause-law : goal.returns-in-Some-clause-law
returns-in-Some-clause-law c =
    asked_some c.args.id c.args.args.now c.in-Some.need c.need_name.result c.ask_all.result (state_of c.args.world.now) (state_of c.ask_all.new.world) c.in-Some.ensures c.need_name.ensures c.ask_all.ensures.law

pub returns-in-None-clause-law : goal.returns-in-None-clause-law
returns-in-None-clause-law c = asked_none c.args.id c.args.args.now (state_of c.args.world.now) c.in-None.ensures
