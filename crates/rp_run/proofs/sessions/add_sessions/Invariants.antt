use Rattle.std.proofs.Common.{◌≡◌, ◌+◌, ◌++◌, List, drop, map}
use Rattle.rp_run.proofs.Blocks.{AreToldSo}
use Rattle.rp_run.specs.Output.{Finished, session_blocks}
use Rattle.rp_words.specs.View.{pair_view}
use Rattle.rp_run.proofs.sessions.add_sessions.Given as goal

-- the blocks that are left, behind those that are there
abbrev pub invariant-loop-place : goal.invariant-loop-place
invariant-loop-place l =
    (all : List Finished) → AreToldSo all l.sessions
    → l.text ++ session_blocks (l.place + 1) (map pair_view (drop l.place l.pairs)) (drop l.place all) ≡ l.initial.text
    ++ session_blocks 1 (map pair_view l.pairs) all
