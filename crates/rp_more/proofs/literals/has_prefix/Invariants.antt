use Rattle.std.proofs.Common.{◌≡◌, ℕ, List, ◌++◌, length}
use Rattle.std.specs.List.{All, list_any}
use Rattle.rp_token.specs.View.{IsHeld}
use Rattle.rp_more.specs.Literals.{is_prefix}
use Rattle.rp_more.specs.LiteralSteps.{items_of}
use Rattle.rp_more.proofs.literals.has_prefix.Given as goal

-- none of the tokens so far is the name
abbrev pub invariant-tokens : goal.invariant-tokens
invariant-tokens l =
    record {
      held : All (IsHeld l.names) l.rest;
      same : (more : List (List ℕ)) → list_any is_prefix (items_of (l.names ++ more) l.tokens) ≡ list_any is_prefix (items_of (l.names ++ more) l.rest);
    }

abbrev pub decreases-tokens : goal.decreases-tokens
decreases-tokens l = length l.rest
