use Rattle.std.proofs.Common.{[], arith}
use Rattle.rp_store.proofs.CallerLemmas.{AreSound-next, KeepsCounters-trans, KeepsShape-trans}
use Rattle.rp_ops.specs.Outcome.{state_of}
use Rattle.rp_methods.specs.Dicts.{tuples_listed}
use Rattle.rp_methods.proofs.Listed.{listed-next}
use Rattle.rp_methods.proofs.Walked.{sound-item}
use Rattle.rp_methods.proofs.NoClasses.{AddsNoClass-trans}
use Rattle.rp_methods.proofs.dict_pairs.make_tuples.Goals as goal

pub make_pair-requires : goal.make_pair-requires
make_pair-requires c =
    sound-item c.args.store.now.heap c.loop-rock.store.heap c.args.entries.now c.loop-rock.rock-index c.loop-rock-item.result c.loop-rock-item.is (omega arith)
    c.loop-rock.invariant.shape c.requires

pub loop-rock-preserved : goal.loop-rock-preserved
loop-rock-preserved c =
    let old = c.loop-rock.store in
    let new = c.make_pair.new.store in
    record {
      same = (λ steps. listed-next c.args.side c.args.entries.now c.loop-rock.made.items c.push.new.self.items c.loop-rock.rock-index c.loop-rock-item.result
          (tuples_listed c.args.side c.args.entries.now [] (state_of c.args.store.now steps)) old new c.in_ok-pair.pair steps c.loop-rock-item.is (omega arith)
          (c.loop-rock.invariant.same steps) c.in_ok-pair.ensures.place c.in_ok-pair.ensures.added c.in_ok-push.ensures.items);
      made = AreSound-next old.heap new.heap c.loop-rock.made.items c.push.new.self.items c.in_ok-pair.pair c.make_pair.ensures.shape c.loop-rock.invariant.made
          c.in_ok-pair.ensures.sound c.in_ok-push.ensures.items;
      shape = KeepsShape-trans c.args.store.now.heap old.heap new.heap c.loop-rock.invariant.shape c.make_pair.ensures.shape;
      classes = AddsNoClass-trans c.args.store.now.heap old.heap new.heap c.loop-rock.invariant.classes c.make_pair.ensures.classes;
      counters = KeepsCounters-trans c.args.store.now old new c.loop-rock.invariant.counters c.make_pair.ensures.counters;
    }
