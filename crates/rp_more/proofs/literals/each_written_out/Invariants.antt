use Rattle.std.proofs.Common.{◌≡◌, ℕ, List, [], ◌++◌, false}
use Rattle.std.specs.VecDeque.{deque_len}
use Rattle.std.specs.List.{All}
use Rattle.rp_token.specs.View.{IsHeld}
use Rattle.rp_more.specs.Literals.{literals}
use Rattle.rp_more.specs.LiteralSteps.{items_of, left}
use Rattle.rp_more.specs.NameSteps.{Follow}
use Rattle.rp_base.specs.Names.{GrowsTo}
use Rattle.rp_more.proofs.literals.each_written_out.Given as goal

-- the tokens so far and those to come are those of all tokens, whatever names there are more
abbrev pub invariant-tokens : goal.invariant-tokens
invariant-tokens l =
    record {
      grown : GrowsTo l.fn.names l.names;
      follows : Follow l.fn.names l.names [] l.literals.written.items;
      held : All (IsHeld l.names) l.rest.items;
      same : (more : List (List ℕ)) → literals false false (items_of (l.names ++ more) l.fn.tokens.items) ≡ left (l.names ++ more) l.literals l.rest.items;
    }

abbrev pub decreases-tokens : goal.decreases-tokens
decreases-tokens l = deque_len l.rest
