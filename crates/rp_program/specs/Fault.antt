-- Why bytes are no program, and how that is told.
use Rattle.std.specs.Prelude.{◌≡◌, ℕ, List, ◌++◌, chars, codes, Ok, Err}
use Rattle.std.specs.Fmt.{decimal}
use Rattle.std.specs.Str.{IsUtf8, IsValidUpTo}
use Rattle.rp_base.specs.declared.value.Line.{Line}
use Rattle.rp_grammar.specs.Kinds.{Tokens, line_at}
use Rattle.rp_grammar.specs.Program.{IsLongestGood}
use Rattle.rp_more.specs.declared.fault.MoreFault.{MoreFault}
use Rattle.rp_more.specs.declared.fault.MoreFault.TheVariants as more
use Rattle.rp_more.specs.Expanded.{expanded}
use Rattle.rp_parse.specs.declared.fault.ParseFault.{ParseFault}
use Rattle.rp_parse.specs.declared.fault.ParseFault.TheVariants as parse
use Rattle.rp_token.specs.declared.fault.TokenFault.{TokenFault}
use Rattle.rp_token.specs.declared.fault.TokenFault.TheVariants as token
use Rattle.rp_token.specs.Form.{Item}
use Rattle.rp_token.specs.Tokens.{tokens_of}
use Rattle.rp_tree.specs.StatementTrees.{Stmts}
use Rattle.rp_program.specs.declared.fault.ProgramFault.{ProgramFault}
use Rattle.rp_program.specs.declared.fault.ProgramFault.TheVariants as fault
use Rattle.rp_program.specs.Program.{HasItems, HasTokens, IsProgram}

-- The text has tokens, and an f-literal on this line is wrong, the first that is.
pub record IsFormatFault (bytes : List ℕ) (line : Line) : Type 0 where
  pub text : IsUtf8 bytes
  pub given : List Item
  pub read : tokens_of (chars bytes) ≡ Ok given
  pub wrong : expanded given ≡ Err (more.Format line)

-- The text has expanded tokens and no tree, and behind the longest front of them that is good a token of this line comes.
pub record IsSyntaxFault (bytes : List ℕ) (line : Line) : Type 0 where
  pub items : List Item
  pub has : HasItems bytes items
  pub words : List (List ℕ)
  pub tokens : Tokens
  pub are : HasTokens items words tokens
  pub none : (tree : Stmts (List ℕ)) → ¬ IsProgram bytes tree
  pub front : Tokens
  pub rest : Tokens
  pub longest : IsLongestGood front rest tokens
  pub at : line ≡ line_at rest

-- The first check that the bytes don't pass: they are UTF-8, and else so many bytes are the longest front that is; their
-- text has tokens, and else a first fault; these can be expanded, and else the line of an f-literal is at fault; what they
-- are expanded to spells a tree, and else a line is at fault. Bytes are never at fault for want of memory.
abbrev pub IsFault : List ℕ → ProgramFault → Type 0
IsFault bytes (fault.NotUtf8 n) = ¬ IsUtf8 bytes × IsValidUpTo bytes n
IsFault bytes (fault.Token token.Memory) = ⊥
IsFault bytes (fault.Token f) = IsUtf8 bytes × (tokens_of (chars bytes) ≡ Err f)
IsFault bytes (fault.Format line) = IsFormatFault bytes line
IsFault bytes (fault.Syntax line) = IsSyntaxFault bytes line
IsFault bytes fault.Memory = ⊥

-- the fault for a fault of the tokens
abbrev pub from_token : TokenFault → ProgramFault
from_token token.Memory = fault.Memory
from_token f = fault.Token f

-- the fault for an f-literal that is wrong
abbrev pub from_more : MoreFault → ProgramFault
from_more (more.Format line) = fault.Format line
from_more more.Memory = fault.Memory

-- the fault for a fault of the grammar
abbrev pub from_parse : ParseFault → ProgramFault
from_parse (parse.Syntax line) = fault.Syntax line
from_parse parse.Memory = fault.Memory

-- what is wrong at a place, which is a unit and a number
abbrev pub at_place : List ℕ → ℕ → List ℕ → List ℕ
at_place unit n wrong = unit ++ codes " " ++ decimal n ++ codes ": " ++ wrong

-- the same, where the place is a line
abbrev pub at_line : Line → List ℕ → List ℕ
at_line line wrong = at_place (codes "line") line.0 wrong

-- what is wrong with the tokens of a text
abbrev pub token_fault_text : TokenFault → List ℕ
token_fault_text (token.Tab line) = at_line line (codes "tab in indentation")
token_fault_text (token.Dedent line) = at_line line (codes "dedent to no open column")
token_fault_text (token.BadChar line) = at_line line (codes "bad character")
token_fault_text (token.Unclosed line) = at_line line (codes "not closed")
token_fault_text (token.BadNumber line) = at_line line (codes "bad number")
token_fault_text (token.BadEscape line) = at_line line (codes "bad escape")
token_fault_text (token.Deep line) = at_line line (codes "brackets too deep")
token_fault_text token.Memory = codes "out of memory"

-- what is wrong with bytes that are no program
abbrev pub fault_text : ProgramFault → List ℕ
fault_text (fault.NotUtf8 n) = at_place (codes "byte") n (codes "not UTF-8")
fault_text (fault.Token f) = token_fault_text f
fault_text (fault.Format line) = at_line line (codes "format")
fault_text (fault.Syntax line) = at_line line (codes "syntax")
fault_text fault.Memory = codes "out of memory"
