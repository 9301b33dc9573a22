use Rattle.std.proofs.Common.{◌≡◌, Err, ap, map, ◌∙◌, rules}
use Rattle.rp_proxy.specs.Taken.{taken}
use Rattle.rp_access.proofs.Spreadings.{spread_ends, spread_gives}
use Rattle.rp_access.specs.Moment.{state_of}
use Rattle.rp_access.proofs.spreading.spread.Goals as goal

pub returns-in_err-values-clause-law : goal.returns-in_err-values-clause-law
returns-in_err-values-clause-law c =
    let e : c.from_residual-in_err-values.result ≡ Err c.in_err-values.field-0.0 = search rules in
    rw e (spread_ends c.args.side c.args.value.now (state_of c.args.world.now) (state_of c.ask.new.world) c.in_ok-ask.ensures.law (state_of c.elements_of.new.world)
    c.in_err-values.field-0.0 c.in_err-values.ensures.law)

pub returns-clause-law : goal.returns-clause-law
returns-clause-law c =
    spread_gives c.args.side c.args.value.now (state_of c.args.world.now) (state_of c.ask.new.world) c.in_ok-ask.ensures.law (state_of c.elements_of.new.world)
    c.in_ok-values.values.items c.in_ok-all_taken.field-0.items c.in_ok-values.ensures.law
    (c.in_ok-all_taken.ensures.values ∙ ap (map (taken c.elements_of.new.world.store.heap c.args.side)) c.as_slice.ensures.value)
