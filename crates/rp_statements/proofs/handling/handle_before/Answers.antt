use Rattle.std.proofs.Common.{ap, ◌∙◌}
use Rattle.rp_statements.proofs.Handlings.{before_again}
use Rattle.rp_engine.specs.Handling.{thrown_of}
use Rattle.rp_statements.proofs.handling.handle_before.Goals as goal

pub returns : goal.returns
returns c =
    before_again c.args.machine.now c.at_hand.new.self c.change_handling-handled.new.machine c.at_hand.ensures.left c.thrown_of-before.result
    (c.thrown_of-before.ensures ∙ ap thrown_of c.at_hand.ensures.value) c.change_handling-handled.ensures.now
