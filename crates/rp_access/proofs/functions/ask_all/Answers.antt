use Rattle.std.proofs.Common.{◌≡◌, Err, arith, rules}
use Rattle.rp_store.proofs.CallerLemmas.{KeepsShape-trans}
use Rattle.rp_access.specs.CallSteps.{all_asked}
use Rattle.rp_access.specs.Moment.{state_of}
use Rattle.rp_access.proofs.Asked.{asked_all, asked_fails, asked_next, sound_item}
use Rattle.rp_access.proofs.functions.ask_all.Goals as goal

pub ask-requires-clause-sound : goal.ask-requires-clause-sound
ask-requires-clause-sound c =
    sound_item c.args.world.now.store.heap c.loop-value.world.store.heap c.args.values.now c.loop-value.value-index c.value-item.result c.value-item.is (omega arith)
    c.loop-value.invariant.shape c.requires.values

pub loop-value-preserved : goal.loop-value-preserved
loop-value-preserved c = record {
  same = asked_next c.args.name c.args.values.now c.loop-value.value-index c.value-item.result c.value-item.is (omega arith)
      (all_asked c.args.name c.args.values.now (state_of c.args.world.now)) (state_of c.loop-value.world) (state_of c.ask.new.world) c.loop-value.invariant.same c.in_ok-ask.ensures.law;
  faithful = c.ask.ensures.faithful;
  shape = KeepsShape-trans c.args.world.now.store.heap c.loop-value.world.store.heap c.ask.new.world.store.heap c.loop-value.invariant.shape c.ask.ensures.shape;
  fewer = omega (arith, c.loop-value.invariant.fewer, c.ask.ensures.fewer);
}

pub returns-in_err-ask-clause-law : goal.returns-in_err-ask-clause-law
returns-in_err-ask-clause-law c =
    let e : c.from_residual.result ≡ Err c.in_err-ask.field-0.0 = search rules in
    rw e (asked_fails c.args.name c.args.values.now c.loop-value.value-index c.value-item.result c.value-item.is (omega arith)
    (all_asked c.args.name c.args.values.now (state_of c.args.world.now)) (state_of c.loop-value.world) (state_of c.ask.new.world) c.in_err-ask.field-0.0 c.loop-value.invariant.same c.in_err-ask.ensures.law)

pub returns-clause-law : goal.returns-clause-law
returns-clause-law c =
    asked_all c.args.name c.args.values.now c.loop-value.value-index (all_asked c.args.name c.args.values.now (state_of c.args.world.now)) (state_of c.loop-value.world) (omega arith) c.loop-value.invariant.same
