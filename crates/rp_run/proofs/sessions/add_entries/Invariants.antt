use Rattle.std.proofs.Common.{◌≡◌, ◌++◌, drop, map}
use Rattle.rp_run.specs.Output.{entry_lines}
use Rattle.rp_trail.specs.View.{trail_view}
use Rattle.rp_words.specs.View.{pair_view}
use Rattle.rp_run.proofs.sessions.add_entries.Given as goal

-- the lines that are left, behind those that are there
abbrev pub invariant-loop-place : goal.invariant-loop-place
invariant-loop-place l =
    l.text ++ entry_lines (map pair_view l.pairs) l.place
    (trail_view l.world.names l.world.decl.permissions (drop l.place l.world.trail))
    ≡ l.initial.text
    ++ entry_lines (map pair_view l.pairs) 0 (trail_view l.world.names l.world.decl.permissions l.world.trail)
