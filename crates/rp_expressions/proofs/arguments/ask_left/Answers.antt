use Rattle.std.proofs.Common.{drop}
use Rattle.rp_frame.specs.Top.{top}
use Rattle.rp_expressions.proofs.Asks.{asks_code, asks_length, code_some, rock_none}
use Rattle.rp_engine.specs.Does as does
use Rattle.rp_expressions.proofs.arguments.ask_left.Goals as goal

pub returns-then-is_rock-clause-law : goal.returns-then-is_rock-clause-law
returns-then-is_rock-clause-law c =
    asks_length c.args.machine.now c.length_by_method.new.machine c.args.count (does.trailers c.args.trailers.now) c.length_by_method.result
    (rock_none (top (drop c.args.count c.args.machine.now.values)) c.under.result.now c.is_rock.result c.under.ensures c.is_rock.ensures c.if-is_rock.true) c.length_by_method.ensures.law

pub returns-clause-law : goal.returns-clause-law
returns-clause-law c =
    asks_code c.args.machine.now c.ask_call.new.machine c.args.count (does.trailers c.args.trailers.now) c.ask_call.result
    (code_some (top (drop c.args.count c.args.machine.now.values)) c.under.result.now c.is_rock.result c.under.ensures c.is_rock.ensures c.if-is_rock.false) c.ask_call.ensures.law
