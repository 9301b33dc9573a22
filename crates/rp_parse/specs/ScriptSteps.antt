-- Reading a script by turns, each of which takes a compound statement or one of the statements of a line: so the tokens of a turn can be
-- given back before the next.
use Rattle.std.specs.Prelude.{◌≡◌, ℕ, not, ◌&&◌, ◌||◌, if◌then◌else◌, Bool, true, false, ◌++◌, Option, Some, None, Ok, Err}
use Rattle.rp_base.specs.declared.value.Line.{Line}
use Rattle.rp_token.specs.declared.token.TokenKind.{TokenKind}
use Rattle.rp_token.specs.declared.token.TokenKind.TheVariants as kind
use Rattle.rp_tree.specs.Statements.{Stmts}
use Rattle.rp_grammar.specs.Kinds.{Tokens, first, line_at}
use Rattle.rp_grammar.specs.Statements.{joined, one, top}
use Rattle.rp_grammar.specs.StatementReading as stmt_reading
use Rattle.rp_grammar.specs.StatementReading.{Found, ◌>>>◌, block_at, ends}
use Rattle.rp_parse.specs.Gives.{ahead, deep}
use Rattle.rp_parse.specs.declared.fault.ParseFault.{ParseFault}
use Rattle.rp_parse.specs.declared.fault.ParseFault.TheVariants as fault

-- a compound statement begins
abbrev pub is_compound : TokenKind → Bool
is_compound kind.Def = true
is_compound kind.If = true
is_compound kind.While = true
is_compound kind.For = true
is_compound kind.Try = true
is_compound kind.Class = true
is_compound k = false

-- a further turn comes: on a line that has begun, and else up to the end of the script
abbrev pub comes : Bool → Tokens → Bool
comes on_line ts = on_line || not (ends (first ts))

-- the statements of a script from here on, of height at most suc h, where a line has begun or not
abbrev pub statements_from : ℕ → Tokens → Found Stmts
statements_from h ts = stmt_reading.statements deep h top false (block_at deep h) ts

abbrev pub from_here : ℕ → Bool → Tokens → Found Stmts
from_here h false ts = statements_from h ts
from_here h true ts = stmt_reading.line deep h top false ts >>> λ xs. ahead (joined xs.0) (statements_from h xs.1)

-- a turn: its statements, and whether another follows on their line
abbrev pub compound_turn : ℕ → Tokens → Found (Stmts × Bool)
compound_turn h ts = stmt_reading.statement_at deep h top false (block_at deep h) ts >>> λ xs. Ok ((xs.0, false), xs.1)

abbrev pub line_turn : ℕ → Tokens → Found (Stmts × Bool)
line_turn h ts = stmt_reading.item_at deep h top false ts >>> λ x. Ok ((one x.0.0, x.0.1), x.1)

abbrev pub turn : ℕ → Bool → Tokens → Found (Stmts × Bool)
turn h on_line ts = if not on_line && is_compound (first ts) then compound_turn h ts else line_turn h ts

-- the same behind statements that were read before
abbrev pub turned : Stmts → Found (Stmts × Bool) → Found (Stmts × Bool)
turned xs found = found >>> λ x. Ok ((joined xs x.0.0, x.0.1), x.1)

-- some turns take the tokens from ts up to us, and so many statements more are read
pub record Passes (before : Stmts) (on_line : Bool) (ts : Tokens) (behind : Stmts) (more : Bool) (us : Tokens) : Type 0 where
  pub same : ahead (joined before) (from_here 199 on_line ts) ≡ ahead (joined behind) (from_here 199 more us)
  pub front : Tokens
  pub parts : ts ≡ front ++ us

-- the line of the last place at which a statement could begin
abbrev pub place_line : Option Tokens → Line
place_line None = record { 0 = 0 }
place_line (Some ts) = line_at ts

abbrev pub line_told : ParseFault → Option Line
line_told fault.Memory = None
line_told (fault.Syntax line) = Some line

-- what was told is why nothing is read, unless memory ran out
abbrev pub IsToldOf : ParseFault → Found Stmts → Type 0
IsToldOf fault.Memory found = Unit {0}
IsToldOf (fault.Syntax line) found = (p : Option Tokens) × (found ≡ Err p) × (line ≡ place_line p)
