use Rattle.std.proofs.Common.{◌≡◌, ◌+◌, length, map, take}
use Rattle.rp_run.specs.Refusals.{AreWhole}
use Rattle.rp_run.specs.Steps.{BeginsSome}
use Rattle.rp_words.specs.View.{pair_view}
use Rattle.rp_run.proofs.scripts.read_scripts.Given as goal

abbrev pub invariant-loop-pair : goal.invariant-loop-pair
invariant-loop-pair g l = record {
  sound : g.F.Files.faults l.files ≡ 0;
  same_contents : g.F.Files.contents l.files ≡ g.F.Files.contents l.initial.files;
  counted : g.F.Files.begun l.files ≡ g.F.Files.begun l.initial.files + l.pair-index;
  begun : BeginsSome (map pair_view l.pairs) (g.F.Files.begun l.initial.files) (g.F.Files.last_path l.initial.files)
      (g.F.Files.begun l.files) (g.F.Files.last_path l.files);
  told : AreWhole (g.F.Files.contents l.initial.files) (map pair_view (take l.pair-index l.pairs))
      (map (λ bytes. bytes.items) l.all.items);
  many : length l.all.items ≡ l.pair-index;
}
