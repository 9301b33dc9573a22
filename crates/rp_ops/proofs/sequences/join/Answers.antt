use Rattle.std.proofs.Common.{◌++◌}
use Rattle.std.proofs.lemmas.List.Elements.{All-append, All-same}
use Rattle.rp_store.specs.Kept.{IsSound}
use Rattle.rp_ops.specs.View.{elements_of}
use Rattle.rp_ops.proofs.CallerLemmas.{AreSound-elements}
use Rattle.rp_ops.proofs.sequences.join.Goals as goal

pub add-requires : goal.add-requires
add-requires c =
    let heap = c.charge.new.store.heap in
    record {
      sound = All-same (IsSound heap) c.in_ok-elements.elements.items (elements_of heap c.args.x ++ elements_of heap c.args.y) c.in_ok-elements.ensures
          (All-append (IsSound heap) (elements_of heap c.args.x) (elements_of heap c.args.y)
          (AreSound-elements heap c.args.x.at c.args.x.lent c.kept.ensures) (AreSound-elements heap c.args.y.at c.args.y.lent c.kept.ensures));
    }
