use Rattle.std.proofs.Common.{◌≡◌, ◌++◌, length}
use Rattle.std.specs.Vec.Iter.{into_iter_items, into_iter_len}
use Rattle.rp_more.specs.SetSteps.{set_tokens}
use Rattle.rp_more.proofs.sets.each_written_out.Given as goal

-- the tokens so far and those to come are those of all tokens
abbrev pub invariant-loop-token : goal.invariant-loop-token
invariant-loop-token l = (l.yielded ++ into_iter_items l.token-iterator ≡ into_iter_items l.initial.token-iterator)
    × (into_iter_len l.token-iterator ≡ length (into_iter_items l.token-iterator))
    × (l.sets.written.items ++ set_tokens l.sets.coming l.sets.opened l.sets.separated l.sets.behind_in (into_iter_items l.token-iterator)
    ≡ l.initial.sets.written.items ++ set_tokens l.initial.sets.coming l.initial.sets.opened l.initial.sets.separated l.initial.sets.behind_in (into_iter_items l.initial.token-iterator))
