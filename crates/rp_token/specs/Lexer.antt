-- What the reader of tokens does, in the words of the definition.
use Rattle.std.specs.Prelude.{◌≡◌, ℕ, List, map, chars, Result, Ok, Err, ⊤}
use Rattle.std.specs.declared.alloc.Global.{Global}
use Rattle.std.specs.declared.vec.Vec.{Vec}
use Rattle.rp_token.specs.declared.fault.TokenFault.{TokenFault}
use Rattle.rp_token.specs.declared.fault.TokenFault.TheVariants as fault
use Rattle.rp_token.specs.declared.token.Token.{Token}
use Rattle.rp_token.specs.declared.lexer.Lexer.{Lexer}
use Rattle.rp_token.specs.Form.{Item}
use Rattle.rp_token.specs.Tokens.{State, Rule}
use Rattle.rp_token.specs.View.{item_view}

-- where reading stands, where these are the names
abbrev pub state : List (List ℕ) → Lexer → State
state names l = record {
  size = l.size;
  items = map (item_view names) l.tokens.items;
  left = chars l.rest.now;
  columns = l.columns;
  brackets = l.brackets;
  line = l.line;
  stage = l.stage;
}

-- the rule leads from one state to the other, or finds the fault; a want of memory is none of its faults
abbrev pub Goes : List (List ℕ) → Rule → Result (Unit {0}) TokenFault → Lexer → Lexer → Type 0
Goes names rule (Ok done) old new = rule (state names old) ≡ Ok (state names new)
Goes names rule (Err fault.Memory) old new = ⊤
Goes names rule (Err f) old new = rule (state names old) ≡ Err f

-- the tokens are those of the definition, or the fault is
abbrev pub Gives : List (List ℕ) → Result (List Item) TokenFault → Result (Vec Token Global) TokenFault → Type 0
Gives names expected (Ok tokens) = expected ≡ Ok (map (item_view names) tokens.items)
Gives names expected (Err fault.Memory) = ⊤
Gives names expected (Err f) = expected ≡ Err f
