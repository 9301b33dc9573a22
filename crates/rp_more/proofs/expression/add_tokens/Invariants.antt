use Rattle.std.proofs.Common.{◌≡◌, ◌++◌, ℕ, List, length, map}
use Rattle.std.specs.Vec.Iter.{into_iter_items, into_iter_len}
use Rattle.rp_more.specs.Expression.{kept}
use Rattle.rp_more.specs.Forms.{placed}
use Rattle.rp_more.specs.LiteralSteps.{items_of, place_item}
use Rattle.rp_more.proofs.expression.add_tokens.Given as goal

-- the tokens so far, and those that are left
abbrev pub invariant-loop-token : goal.invariant-loop-token
invariant-loop-token l = (l.yielded ++ into_iter_items l.token-iterator ≡ into_iter_items l.initial.token-iterator)
    × (into_iter_len l.token-iterator ≡ length (into_iter_items l.token-iterator))
    × ((names : List (List ℕ)) → items_of names l.written.items ++ map (placed (place_item l.place)) (kept (items_of names (into_iter_items l.token-iterator)))
    ≡ items_of names l.initial.written.items ++ map (placed (place_item l.place)) (kept (items_of names (into_iter_items l.initial.token-iterator))))
