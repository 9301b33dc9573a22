use Rattle.std.proofs.Common.{◌≡◌, ◌+◌, true}
use Rattle.rp_tests_values.proofs.outside_tests.log_file.Given as goal

-- the file is open, and no call has failed
abbrev pub invariant-reads : goal.invariant-reads
invariant-reads g l =
    (g.F.Files.is_open l.files ≡ true)
    × (g.F.Files.faults l.files ≡ 0)
    × (g.F.Files.begun l.files ≡ g.F.Files.begun l.fn.files + 1)
