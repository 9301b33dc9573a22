use Rattle.rp_statements.proofs.ClassParts.{dropped_cut}
use Rattle.rp_engine.proofs.Passing.{ready_forgot}
use Rattle.rp_statements.proofs.class_blocks.cut_class.Goals as goal

pub returns-clause-law : goal.returns-clause-law
returns-clause-law c = dropped_cut c.args.machine.now c.forget.new.self c.cut_off.new.self c.cut_off.result c.args.count c.args.end c.forget.ensures c.cut_off.ensures.law

pub returns-clause-ready : goal.returns-clause-ready
returns-clause-ready c = λ w ready. c.cut_off.ensures.ready w (ready_forgot c.args.machine.now c.forget.new.self c.args.count c.forget.ensures w ready)
