use Rattle.std.proofs.Common.{◌≡◌, ◌-◌, ◌+◌, true, IfSome, vec_len}
use Rattle.rp_run.specs.Told.{longest_file}
use Rattle.rp_run.proofs.Taken.{HasTaken}
use Rattle.rp_run.proofs.reading.read_rest.Given as goal

abbrev pub invariant-loop-taken : goal.invariant-loop-taken
invariant-loop-taken g l = record {
  sound : g.F.Files.faults l.files ≡ 0;
  opened : g.F.Files.is_open l.files ≡ true;
  told : IfSome (g.F.Files.rest l.initial.files) (HasTaken l.taken.items (g.F.Files.rest l.files));
  last : g.F.Files.last_path l.files ≡ g.F.Files.last_path l.initial.files;
  counted : g.F.Files.begun l.files ≡ g.F.Files.begun l.initial.files;
  same_contents : g.F.Files.contents l.files ≡ g.F.Files.contents l.initial.files;
}

abbrev pub decreases-loop-taken : goal.decreases-loop-taken
decreases-loop-taken g l = longest_file + 1 - vec_len l.taken
