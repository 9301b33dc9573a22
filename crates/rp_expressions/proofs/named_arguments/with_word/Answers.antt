use Rattle.std.proofs.Common.{◌≡◌, ◌+◌, [], ◌∷◌, arith}
use Rattle.rp_expressions.proofs.Spreads.{named_held}
use Rattle.rp_engine.specs.Does as does
use Rattle.rp_expressions.proofs.named_arguments.with_word.Goals as goal

pub arguments-requires : goal.arguments-requires
arguments-requires c = record { ready = c.in_ok-hold_pair.ensures.ready c.args.world.now c.requires.ready c.requires.value }

pub returns-clause-law : goal.returns-clause-law
returns-clause-law c =
    let m = c.args.machine.now in
    let n = c.arguments.new.machine in
    let w = c.args.world.now in
    let v = c.arguments.new.world in
    let r = c.arguments.result in
    let as' = does.args c.args.args.now in
    let ts = does.trailers c.args.trailers.now in
    let counted : c.in_ok-named.named ≡ c.args.hand.named + 1 = omega (arith, c.in_ok-named.ensures) in
    named_held m n w v r as' ts c.args.hand ((c.args.word, c.args.value) ∷ []) c.in_ok-named.named c.hold_pair.new.machine counted c.in_ok-hold_pair.ensures.held c.arguments.ensures.law
