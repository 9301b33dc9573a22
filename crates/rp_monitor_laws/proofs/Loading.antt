-- A module's text comes to the same world with the monitor and without it, where nothing is refused.
use Rattle.std.proofs.Common.{ap}
use Rattle.rp_meaning.specs.Load.{loaded_after, locals_of, trusted}
use Rattle.rp_monitor_laws.specs.Unseen.{ModulesAreUnseen}
use Rattle.rp_monitor_laws.proofs.Programs.{block-follows}

pub modules-unseen : ModulesAreUnseen
modules-unseen run limit globals s a =
    let h = block-follows run s.log trusted globals (run.programs trusted).body s in
    ap (loaded_after (locals_of (run.programs trusted)) limit globals) (h.same a)
