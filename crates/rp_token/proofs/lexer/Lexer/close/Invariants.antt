use Rattle.std.proofs.Common.{◌≡◌, ℕ, List, chars, length}
use Rattle.rp_token.specs.Lexer.{state}
use Rattle.rp_token.specs.Tokens.{closed_to}
use Rattle.rp_token.proofs.lexer.Lexer.close.Given as goal

-- the columns that are left are closed to the same state
abbrev pub invariant-columns : goal.invariant-columns
invariant-columns l = (names : List (List ℕ)) → closed_to l.column (chars l.rest) l.line l.self.columns (state names l.self) ≡ closed_to l.column (chars l.rest) l.line l.fn.self.columns (state names l.fn.self)

abbrev pub decreases-columns : goal.decreases-columns
decreases-columns l = length l.self.columns
