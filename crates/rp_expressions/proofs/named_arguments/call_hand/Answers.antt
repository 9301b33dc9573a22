use Rattle.std.proofs.Common.{◌≡◌, ◌≤◌, ◌<◌, [], ap, arith, length, reverse, subst, sym, take}
use Rattle.std.specs.Prelude.{OnOk}
use Rattle.std.specs.Str.{chars}
use Rattle.rp_expressions.proofs.Spreads.{named_calls, nothing_called, some_named}
use Rattle.rp_expressions.specs.Arguments.{NamedCalls}
use Rattle.rp_engine.specs.Does as does
use Rattle.rp_engine.specs.declared.calling.Hand.{Hand}
use Rattle.rp_expressions.proofs.named_arguments.call_hand.Goals as goal

pub returns-then-hand-eq0-clause-law : goal.returns-then-hand-eq0-clause-law
returns-then-hand-eq0-clause-law c =
    let m = c.args.machine.now in
    let w = c.args.world.now in
    let n = c.call_at_hand.new.machine in
    let v = c.call_at_hand.new.world in
    let ts = does.trailers c.args.rest.now in
    let none : c.args.hand ≡ record { plain = c.args.hand.plain; named = 0 } = ap (λ k. record { plain = c.args.hand.plain; named = k }) c.if-hand-eq0.true in
    subst (λ (h : Hand). OnOk c.call_at_hand.result (NamedCalls h [] ts m w n v)) (sym none) (named_calls m n w v c.call_at_hand.result [] ts c.args.hand.plain c.call_at_hand.ensures.law)

pub call_named-requires-clause-named : goal.call_named-requires-clause-named
call_named-requires-clause-named c =
    let some : 2 ≤ length (reverse (take 2 c.args.machine.now.values)) = omega (arith, c.if-last-lt2.false, ap length c.last.ensures) in
    some_named c.args.hand c.args.machine.now.values c.if-hand-eq0.false some

pub returns-then-last-lt2-clause-law : goal.returns-then-last-lt2-clause-law
unfolding chars
returns-then-last-lt2-clause-law c =
    let few : length (reverse (take 2 c.args.machine.now.values)) < 2 = omega (arith, c.if-last-lt2.true, ap length c.last.ensures) in
    nothing_called c.args.machine.now c.without_hand.new.machine c.args.world.now c.without_hand.result c.args.hand (does.trailers c.args.rest.now) c.raised-end.result
    c.if-hand-eq0.false few c.raised-end.ensures c.without_hand.ensures.law
