use Rattle.std.proofs.Common.{List, arith}
use Rattle.rp_proxy.specs.declared.world.World.{World}
use Rattle.rp_tree.specs.declared.expr.Arg.{Arg}
use Rattle.rp_engine.proofs.Firsts.{of_first, of_none}
use Rattle.rp_engine.proofs.Moves.{on_ok}
use Rattle.rp_expressions.specs.Arguments.{NamedCalls}
use Rattle.rp_engine.specs.Does as does
use Rattle.std.proofs.Common.{◌∷◌, ◌-◌, drop, length, take}
use Rattle.rp_engine.proofs.Weights as weights
use Rattle.rp_expressions.proofs.arguments.arguments.Goals as goal

pub returns-in-len1-up-clause-law : goal.returns-in-len1-up-clause-law
returns-in-len1-up-clause-law c =
    let m = c.args.machine.now in
    let w = c.args.world.now in
    let n = c.argument.new.machine in
    let r = c.argument.result in
    let ts = does.trailers c.args.rest.now in
    let xs = c.args.args.now in
    let x = c.arg-item.result in
    let all = does.args (x ∷ take (length xs - 1) (drop 1 xs)) in
    of_first r (λ (ys : List Arg). NamedCalls c.args.hand (does.args ys) ts m w n w) xs x c.in-len1-up.len_at_least c.arg-item.is
    (on_ok r ((w : World) → NamedCalls c.args.hand all ts m w n w) (NamedCalls c.args.hand all ts m w n w) (λ law. law w) c.argument.ensures.law)

pub returns-in-empty-clause-law : goal.returns-in-empty-clause-law
returns-in-empty-clause-law c =
    of_none c.call_hand.result
    (λ (ys : List Arg). NamedCalls c.args.hand (does.args ys) (does.trailers c.args.rest.now) c.args.machine.now c.args.world.now c.call_hand.new.machine c.call_hand.new.world)
    c.args.args.now (omega arith) c.call_hand.ensures.law

pub returns-in-len1-up-clause-less : goal.returns-in-len1-up-clause-less
returns-in-len1-up-clause-less c =
    grind (arith, weights.args_front c.args.args.now c.arg-item.result c.in-len1-up.len_at_least c.arg-item.is)
