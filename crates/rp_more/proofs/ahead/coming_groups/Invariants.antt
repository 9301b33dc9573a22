use Rattle.std.proofs.Common.{◌≡◌, ◌≤◌, drop, length}
use Rattle.rp_more.specs.SetSteps.{aheads, groups_ahead}
use Rattle.rp_more.proofs.ahead.coming_groups.Given as goal

abbrev pub invariant-tokens : goal.invariant-tokens
invariant-tokens l =
    record {
      within : l.place ≤ length l.tokens;
      groups : l.walk.groups ≡ groups_ahead (drop l.place l.tokens);
      closing : l.walk.closing ≡ aheads (drop l.place l.tokens);
    }

abbrev pub decreases-tokens : goal.decreases-tokens
decreases-tokens l = l.place
