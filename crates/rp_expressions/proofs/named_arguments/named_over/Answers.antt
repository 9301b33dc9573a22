use Rattle.std.proofs.Common.{◌+◌, ap, ◌∙◌}
use Rattle.rp_expressions.proofs.Spreads.{named_held}
use Rattle.rp_engine.specs.Does as does
use Rattle.rp_expressions.proofs.named_arguments.named_over.Goals as goal

pub arguments-requires : goal.arguments-requires
arguments-requires c = record { ready = c.in_ok-hold_named.ensures.ready c.args.world.now c.requires.ready c.requires.fit }

pub returns-clause-law : goal.returns-clause-law
returns-clause-law c =
    named_held c.args.machine.now c.arguments.new.machine c.args.world.now c.arguments.new.world c.arguments.result (does.args c.args.args.now) (does.trailers c.args.trailers.now)
    c.args.hand c.args.named.items c.in_ok-count.count c.hold_named.new.machine (c.in_ok-count.ensures ∙ ap (λ k. c.args.hand.named + k) (c.len.ensures ∙ c.args.named.ok.0))
    c.in_ok-hold_named.ensures.held c.arguments.ensures.law
