use Rattle.std.proofs.Common.{◌≡◌, ◌∷◌, arith}
use Rattle.std.proofs.lemmas.Grind.{common_steps}
use Rattle.toml.proofs.Views.{Entry}
use Rattle.rp_base.proofs.CallerLemmas.{with_words-append}
use Rattle.rp_decl.proofs.Documents.{key_texts-ascend}
use Rattle.rp_decl.proofs.Growth.{GrowsTo-trans, Shows-push}
use Rattle.rp_decl.proofs.reading.each_record.Goals as goal

pub loop-key-preserved : goal.loop-key-preserved
loop-key-preserved g c =
    let same = c.loop-key.invariant in
    let e : Entry = (c.in-Some.key.now, c.in-Some.value.now) in
    let iter : c.loop-key.key-iterator ≡ e ∷ c.next.new.self = grind (arith, common_steps) in
    let known = rw iter at same.left_known in
    let here = rw c.as_str.ensures.value at c.in_ok-record.ensures.record_read in
    record {
      left_known = known.1;
      shown = λ later grown.
          rw c.in_ok-push.ensures.items
          (Shows-push _ _ _ _ _ _ (rw iter at (same.shown later (GrowsTo-trans _ _ _ c.in_ok-record.ensures.grown grown))) (here later grown));
      grown = GrowsTo-trans _ _ _ same.grown c.in_ok-record.ensures.grown;
      interned = rw (c.in_ok-record.ensures.interned, c.as_str.ensures.value, with_words-append) (rw iter at same.interned);
    }

pub returns-clause-ordered : goal.returns-clause-ordered
returns-clause-ordered g c = key_texts-ascend c.args.table.now.entries c.iter-key-items.ensures.ordered
