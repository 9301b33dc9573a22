-- The tokens of a text (Python Language Reference, lexical analysis).
use Rattle.std.specs.Prelude.{ℕ, zero, suc, ◌+◌, ◌-◌, Bool, true, false, ◌&&◌, ◌||◌, ◌==◌, nat_eq, nat_lt, nat_le, if◌then◌else◌, List, [], ◌∷◌, ◌++◌, length, take_while, drop, find, encode_utf8_all, Option, Some, None, option_map, Result, Ok, Err}
use Rattle.std.specs.Char.{is_ascii_digit}
use Rattle.std.specs.List.{list_any, starts_with}
use Rattle.std.specs.Option.{option_map_or}
use Rattle.unicode_ident.specs.Ident.{is_xid_continue}
use Rattle.rp_base.specs.Identifier.{identifier_of, is_start}
use Rattle.rp_base.specs.Keyword.{is_keyword}
use Rattle.rp_base.specs.declared.value.Line.{Line}
use Rattle.rp_token.specs.declared.fault.TokenFault.{TokenFault}
use Rattle.rp_token.specs.declared.fault.TokenFault.TheVariants as fault
use Rattle.rp_token.specs.declared.lexer.Stage.{Stage}
use Rattle.rp_token.specs.declared.lexer.Stage.TheVariants as stage
use Rattle.rp_token.specs.Characters.{first, is_blank, is_numeral, is_comment, is_line_end, line_end_length, behind_run}
use Rattle.rp_token.specs.Form.{Form, name, number, literal, keyword, mark, newline, indent, dedent, end_of_text, Item, marks}
use Rattle.rp_token.specs.Literal.{Reading, closed, unclosed, bad_escape, literal_behind}
use Rattle.rp_token.specs.Number.{number_of}

-- the most brackets that are open at once
abbrev pub most_brackets : ℕ
most_brackets = 200

-- Where reading stands: the bytes of the text, the tokens so far, what is left, the open columns but 0 and the lines of the open
-- brackets, the innermost first, the line, and how far the logical line has come.
pub record State : Type 0 where
  pub size : ℕ
  pub items : List Item
  pub left : List ℕ
  pub columns : List ℕ
  pub brackets : List ℕ
  pub line : ℕ
  pub stage : Stage

-- a rule goes on from a new state, or finds a fault
abbrev pub Rule : Type 0
Rule = State → Result State TokenFault

abbrev pub at_line : ℕ → Line
at_line n = record { 0 = n }

-- the first rule, and then the second
abbrev pub and_then : {A : Type 0} → Result State TokenFault → (State → Result A TokenFault) → Result A TokenFault
and_then (Ok s) go = go s
and_then (Err f) go = Err f

-- the bytes of a text of so many before what is left of it
abbrev pub place : ℕ → List ℕ → ℕ
place size left = size - length (encode_utf8_all left)

-- a token more, between two rests of the text
abbrev pub with_token : Form → List ℕ → List ℕ → ℕ → State → State
with_token form from to line s =
    record s { items = s.items ++ record { form = form; from = place s.size from; to = place s.size to; line = line } ∷ [] }

-- a token up to a rest of the text
abbrev pub taken : Form → List ℕ → State → State
taken form rest s = record (with_token form s.left rest s.line s) { left = rest }

abbrev pub is_inside : Stage → Bool
is_inside stage.Inside = true
is_inside _ = false

abbrev pub is_fresh : Stage → Bool
is_fresh stage.Fresh = true
is_fresh _ = false

-- what stands at the front of the rest of a line has nothing before a line end
abbrev pub is_empty_line : List ℕ → Bool
is_empty_line [] = true
is_empty_line (c ∷ cs) = is_line_end c || (c == 35)

-- The joining line ends before the next token. The first so many characters are a rest of what was read, and are passed over.
abbrev pub joined_lines : ℕ → List ℕ → ℕ
joined_lines n [] = 0
joined_lines (suc n) (c ∷ cs) = joined_lines n cs
joined_lines zero (c ∷ cs) =
    if is_blank c then joined_lines 0 cs
    else if (c == 92) && nat_lt 0 (line_end_length cs) then suc (joined_lines (line_end_length cs) cs) else 0

-- columns above one are closed, with a token for each at a rest of the text
abbrev pub closed_to : ℕ → List ℕ → ℕ → List ℕ → State → State
closed_to n rest line [] s = record s { columns = [] }
closed_to n rest line (c ∷ cs) s = if nat_lt n c then closed_to n rest line cs (with_token dedent rest rest line s) else record s { columns = c ∷ cs }

-- A column greater than the innermost is opened; a smaller one closes others, and is one of the open ones.
-- The tokens have the line of the next token.
unfoldable pub indented : ℕ → List ℕ → Rule
indented n rest s =
    let line = s.line + joined_lines 0 rest in
    let closed = closed_to n rest line s.columns s in
    if nat_lt (first s.columns) n then Ok (record (with_token indent rest rest line s) { columns = n ∷ s.columns; stage = stage.Inside })
    else if first closed.columns == n then Ok (record closed { stage = stage.Inside })
    else Err (fault.Dedent (at_line s.line))

-- before a logical line its column is read, unless the line has nothing
unfoldable pub begun : Rule
begun s =
    let blanks = take_while is_blank s.left in
    let rest = behind_run is_blank s.left in
    if is_empty_line rest then Ok (record s { stage = stage.Empty })
    else if list_any (λ c. c == 9) blanks then Err (fault.Tab (at_line s.line))
    else indented (length blanks) rest s

-- a line end within brackets is a blank; it ends a logical line, and another begins
unfoldable pub behind_line_end : Rule
behind_line_end s =
    let rest = drop (line_end_length s.left) s.left in
    let next = λ (t : State). record t { left = rest; line = s.line + 1 } in
    if nat_lt 0 (length s.brackets) then Ok (next s)
    else if is_inside s.stage then Ok (record (next (taken newline rest s)) { stage = stage.Fresh })
    else Ok (record (next s) { stage = stage.Fresh })

-- a backslash joins lines directly before a line end
unfoldable pub joined : Rule
joined s =
    let behind = drop 1 s.left in
    if line_end_length behind == 0 then Err (fault.BadChar (at_line s.line))
    else Ok (record s { left = drop (line_end_length behind) behind; line = s.line + 1 })

-- the name that a word gives, whose form is no keyword
abbrev pub name_of : List ℕ → Option Form
name_of word = option_map_or (λ form. if is_keyword form then None else Some (name form)) (identifier_of word) None

abbrev pub word_form : List ℕ → Option Form
word_form word = if is_keyword word then Some (keyword word) else name_of word

-- a token where there is one, else a fault at this line
abbrev pub taken_or : Option Form → (Line → TokenFault) → List ℕ → Rule
taken_or (Some form) fault rest s = Ok (taken form rest s)
taken_or None fault rest s = Err (fault (at_line s.line))

unfoldable pub behind_word : Rule
behind_word s = taken_or (word_form (take_while is_xid_continue s.left)) fault.BadChar (behind_run is_xid_continue s.left) s

unfoldable pub behind_number : Rule
behind_number s = taken_or (option_map number (number_of (take_while is_numeral s.left))) fault.BadNumber (behind_run is_numeral s.left) s

-- the opening quotes at the front, three before one
abbrev pub opening : List ℕ → List ℕ
opening cs =
    let three = first cs ∷ first cs ∷ first cs ∷ [] in if starts_with nat_eq cs three then three else first cs ∷ []

abbrev pub behind_reading : Reading → Rule
behind_reading (closed value rest lines) s = Ok (record (taken (literal value) rest s) { line = s.line + lines })
behind_reading unclosed s = Err (fault.Unclosed (at_line s.line))
behind_reading (bad_escape lines) s = Err (fault.BadEscape (at_line (s.line + lines)))

unfoldable pub behind_literal : Rule
behind_literal s = let quotes = opening s.left in behind_reading (literal_behind quotes 0 (drop (length quotes) s.left)) s

abbrev pub is_opening : ℕ → Bool
is_opening c = (c == 40) || ((c == 91) || (c == 123))

abbrev pub is_closing : ℕ → Bool
is_closing c = (c == 41) || ((c == 93) || (c == 125))

-- a bracket opens, or closes the innermost one
unfoldable pub bracketed : ℕ → Rule
bracketed c s =
    if is_opening c then (if nat_le most_brackets (length s.brackets) then Err (fault.Deep (at_line s.line)) else Ok (record s { brackets = s.line ∷ s.brackets }))
    else if is_closing c then Ok (record s { brackets = drop 1 s.brackets }) else Ok s

abbrev pub behind_found : Option (List ℕ) → Rule
behind_found (Some m) s = and_then (bracketed (first s.left) s) (λ t. Ok (taken (mark m) (drop (length m) s.left) t))
behind_found None s = Err (fault.BadChar (at_line s.line))

unfoldable pub behind_mark : Rule
behind_mark s = behind_found (find (starts_with nat_eq s.left) marks) s

-- what begins at the front: a word, a number, a literal or a mark
unfoldable pub behind_token : Rule
behind_token s =
    let c = first s.left in
    if is_start c then behind_word s else if is_ascii_digit c then behind_number s
    else if (c == 39) || (c == 34) then behind_literal s else behind_mark s

-- within a line: blanks, a comment, a line end, a joining backslash, or a token
unfoldable pub in_line : Rule
in_line s =
    let c = first s.left in
    if is_blank c then Ok (record s { left = behind_run is_blank s.left })
    else if c == 35 then Ok (record s { left = behind_run is_comment s.left })
    else if is_line_end c then behind_line_end s
    else if c == 92 then joined s else behind_token s

unfoldable pub step : Rule
step s = and_then (if is_fresh s.stage then begun s else Ok s) in_line

-- at the end of the text the open line ends and the columns are closed; open brackets are a fault of the innermost one
unfoldable pub ending : State → Result (List Item) TokenFault
ending s =
    let ended = if is_inside s.stage then with_token newline [] [] s.line s else s in
    let last = with_token end_of_text [] [] s.line (closed_to 0 [] s.line s.columns ended) in
    if nat_lt 0 (length s.brackets) then Err (fault.Unclosed (at_line (first s.brackets))) else Ok last.items

-- What is to be read, character by character. The first so many belong to what was read, and are passed over.
abbrev pub tokens_from : ℕ → State → List ℕ → Result (List Item) TokenFault
tokens_from n s [] = ending s
tokens_from (suc n) s (c ∷ cs) = tokens_from n s cs
tokens_from zero s (c ∷ cs) = and_then (step (record s { left = c ∷ cs })) (λ t. tokens_from (length cs - length t.left) t cs)

-- the text behind a byte order mark
abbrev pub without_mark : List ℕ → List ℕ
without_mark text = if first text == 0xFEFF then drop 1 text else text

-- before the first logical line
abbrev pub start : List ℕ → State
start text = record { size = length (encode_utf8_all text); items = []; left = without_mark text; columns = []; brackets = []; line = 1; stage = stage.Fresh }

-- the tokens of a text, or its first fault
abbrev pub tokens_of : List ℕ → Result (List Item) TokenFault
tokens_of text = tokens_from 0 (start text) (without_mark text)
