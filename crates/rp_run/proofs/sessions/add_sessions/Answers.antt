use Rattle.std.proofs.Common.{◌≡◌, ◌<◌, length, refl, sym, subst, arith}
use Rattle.std.specs.Option.{IsSome}
use Rattle.rp_session.specs.declared.session.Session.{Session}
use Rattle.rp_run.proofs.Blocks.{block-end, block-turn}
use Rattle.rp_run.proofs.sessions.add_sessions.Goals as goal

pub loop-place-init : goal.loop-place-init
loop-place-init c = λ all told. refl

pub add_ended-requires : goal.add_ended-requires
add_ended-requires c =
    let inside = c.loop-place-test.true in
    let same = c.requires.as_many in
    let within : c.loop-place.place < length c.args.sessions.now = omega (arith, inside, same) in
    record {
      ended =
          subst (λ (s : Session). IsSome s.end) (sym c.index-sessions-place.is)
          (c.requires.ended c.loop-place.place c.index-sessions-place.result within);
    }

pub loop-place-preserved : goal.loop-place-preserved
loop-place-preserved c = λ all told.
    block-turn c.args.pairs.now c.args.sessions.now all c.loop-place.place c.index-pairs-place.result
    c.index-sessions-place.result _ _ _ c.loop-place-test.true c.requires.as_many
    c.index-pairs-place.is c.index-sessions-place.is told c.in_ok-add_ended.ensures (c.loop-place.invariant all told)

pub returns : goal.returns
returns c = λ all told.
    block-end c.args.pairs.now c.args.sessions.now all c.loop-place.place _ _ c.loop-place-test.false
    (c.loop-place.invariant all told)
