use Rattle.std.proofs.Common.{◌≡◌, ◌≤◌, ℕ, List, drop}
use Rattle.rp_more.specs.Expression.{closes_own, kept}
use Rattle.rp_more.specs.LiteralSteps.{items_of}
use Rattle.rp_more.proofs.expression.closes_own.Given as goal

abbrev pub invariant-loop-token : goal.invariant-loop-token
invariant-loop-token l =
    (l.opened ≤ l.token-index)
    × ((names : List (List ℕ)) → closes_own 0 (kept (items_of names l.tokens)) ≡ closes_own l.opened (kept (items_of names (drop l.token-index l.tokens))))
