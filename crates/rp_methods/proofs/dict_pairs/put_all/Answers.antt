use Rattle.std.proofs.Common.{arith}
use Rattle.rp_store.proofs.CallerLemmas.{KeepsCounters-trans, KeepsShape-trans}
use Rattle.rp_ops.specs.Outcome.{state_of}
use Rattle.rp_methods.specs.Dicts.{put_all}
use Rattle.rp_methods.proofs.Listed.{put-fails, put-next}
use Rattle.rp_methods.proofs.Walked.{sound-item}
use Rattle.rp_methods.proofs.NoClasses.{AddsNoClass-trans}
use Rattle.rp_methods.proofs.dict_pairs.put_all.Goals as goal

pub put-requires-clause-value : goal.put-requires-clause-value
put-requires-clause-value c =
    sound-item c.args.store.now.heap c.loop-rock.store.heap c.args.entries.now c.loop-rock.rock-index c.loop-rock-item.result c.loop-rock-item.is (omega arith)
    c.loop-rock.invariant.shape c.requires.sound

pub returns-in_err-put-clause-plain : goal.returns-in_err-put-clause-plain
returns-in_err-put-clause-plain c =
    (λ steps. put-fails c.from_residual.result c.in_err-put.field-0.0 c.args.at c.args.entries.now c.loop-rock.rock-index c.loop-rock-item.result
    (put_all c.args.at c.args.entries.now (state_of c.args.store.now steps)) (state_of c.loop-rock.store steps) (state_of c.put.new.store steps)
    c.loop-rock-item.is (omega arith) (c.loop-rock.invariant.same steps) c.from_residual.ensures.1 (c.in_err-put.ensures.plain steps))

pub loop-rock-preserved : goal.loop-rock-preserved
loop-rock-preserved c = record {
  same = (λ steps. put-next c.args.at c.args.entries.now c.loop-rock.rock-index c.loop-rock-item.result (put_all c.args.at c.args.entries.now (state_of c.args.store.now steps))
      (state_of c.loop-rock.store steps) (state_of c.put.new.store steps) c.loop-rock-item.is (omega arith) (c.loop-rock.invariant.same steps) (c.in_ok-put.ensures.plain steps));
  shape = KeepsShape-trans c.args.store.now.heap c.loop-rock.store.heap c.put.new.store.heap c.loop-rock.invariant.shape c.put.ensures.shape;
  classes = AddsNoClass-trans c.args.store.now.heap c.loop-rock.store.heap c.put.new.store.heap c.loop-rock.invariant.classes c.put.ensures.classes;
  counters = KeepsCounters-trans c.args.store.now c.loop-rock.store c.put.new.store c.loop-rock.invariant.counters c.put.ensures.counters;
}
