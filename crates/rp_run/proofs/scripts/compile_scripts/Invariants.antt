use Rattle.std.proofs.Common.{map}
use Rattle.rp_run.proofs.Compiling.{Goes}
use Rattle.rp_run.proofs.scripts.compile_scripts.Given as goal

-- what is left of the scripts, behind what came of those before them, is what comes of all
abbrev pub invariant-loop-place : goal.invariant-loop-place
invariant-loop-place l =
    Goes (map (λ bytes. bytes.items) l.scripts) l.initial.names l.place l.names l.all.items l.said
