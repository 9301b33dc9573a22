-- What the rules of the definition are in each of their cases.
use Rattle.std.proofs.Common.{◌≡◌, ◌⊎◌, inl, inr, ◌&&◌, ◌||◌, cond, subst, refl, sym, ap, ◌∙◌, ℕ, zero, suc, ◌<◌, ◌≤◌, ◌+◌, ◌==◌, Bool, true, false, nat_eq, nat_le, nat_lt, find, if◌then◌else◌, List, [], ◌∷◌, ◌++◌, length, drop, take_while, get_or, slice_get, Option, Some, None, option_map, option_and_then, Result, Ok, Err, encode_utf8_all, chars, arith}
use Rattle.std.specs.Prelude.{ℤ, pos}
use Rattle.std.specs.List.{list_any, starts_with}
use Rattle.std.specs.Option.{option_map_or}
use Rattle.std.specs.Result.{IsErrAnd}
use Rattle.std.specs.Str.{IsUtf8, IsAscii}
use Rattle.std.proofs.lemmas.Bool.{leb-true, eqb-true, or_cases}
use Rattle.std.proofs.lemmas.List.{get_or_append_left, length-drop}
use Rattle.std.proofs.lemmas.List.Sums.{take_while-cons}
use Rattle.std.proofs.lemmas.Option.{get_or_from_slice_get, slice_get_within}
use Rattle.std.proofs.lemmas.Str.{encodes-IsAscii, encodes-chars}
use Rattle.rp_base.specs.Identifier.{identifier_of, is_start}
use Rattle.rp_base.specs.Keyword.{is_keyword}
use Rattle.rp_token.specs.declared.fault.TokenFault.{TokenFault}
use Rattle.rp_token.specs.declared.fault.TokenFault.TheVariants as fault
use Rattle.rp_token.specs.declared.lexer.Lexer.{Lexer}
use Rattle.rp_token.specs.Characters.{first, is_blank, is_comment, is_line_end, is_numeral, line_end_length, behind_run}
use Rattle.rp_token.specs.Form.{Form, Item, name, number, keyword, mark, marks, newline, end_of_text}
use Rattle.rp_token.specs.Number.{base_of, based_value, greatest_number, limited, number_of}
use Rattle.rp_token.specs.declared.token.TokenKind.{TokenKind}
use Rattle.unicode_ident.specs.Ident.{is_xid_continue}
use Rattle.std.specs.Char.{is_ascii_digit}
use Rattle.rp_token.specs.Lexer.{Gives, Goes, state}
use Rattle.rp_token.specs.Tokens.{Rule, State, and_then, at_line, begun, behind_found, behind_line_end, behind_literal, behind_mark, behind_number, behind_token, behind_word, bracketed, closed_to, ending, in_line, indented, is_closing, is_empty_line, is_fresh, is_inside, is_opening, joined, joined_lines, most_brackets, step, taken, taken_or, with_token, word_form}
use Rattle.rp_token.specs.View.{IsMark, form_view}

-- a rule that goes on as another does, from there
pub Goes-on : (names : List (List ℕ)) (rule other : Rule) (r : Result (Unit {0}) TokenFault) (old mid new : Lexer) → rule (state names old) ≡ other (state names mid) → Goes names other r mid new → Goes names rule r old new
Goes-on names rule other (Ok done) old mid new same goes = same ∙ goes
Goes-on names rule other (Err fault.Memory) old mid new same goes = tt
Goes-on names rule other (Err (fault.Tab l)) old mid new same goes = same ∙ goes
Goes-on names rule other (Err (fault.Dedent l)) old mid new same goes = same ∙ goes
Goes-on names rule other (Err (fault.BadChar l)) old mid new same goes = same ∙ goes
Goes-on names rule other (Err (fault.Unclosed l)) old mid new same goes = same ∙ goes
Goes-on names rule other (Err (fault.BadNumber l)) old mid new same goes = same ∙ goes
Goes-on names rule other (Err (fault.BadEscape l)) old mid new same goes = same ∙ goes
Goes-on names rule other (Err (fault.Deep l)) old mid new same goes = same ∙ goes

-- a rule that begins with one that finds a fault
pub Goes-fault : (names : List (List ℕ)) (rule other : Rule) (f : TokenFault) (old mid new : Lexer) → ((g : TokenFault) → other (state names old) ≡ Err g → rule (state names old) ≡ Err g)
    → Goes names other (Err f) old mid → Goes names rule (Err f) old new
Goes-fault names rule other fault.Memory old mid new first goes = tt
Goes-fault names rule other (fault.Tab l) old mid new first goes = first (fault.Tab l) goes
Goes-fault names rule other (fault.Dedent l) old mid new first goes = first (fault.Dedent l) goes
Goes-fault names rule other (fault.BadChar l) old mid new first goes = first (fault.BadChar l) goes
Goes-fault names rule other (fault.Unclosed l) old mid new first goes = first (fault.Unclosed l) goes
Goes-fault names rule other (fault.BadNumber l) old mid new first goes = first (fault.BadNumber l) goes
Goes-fault names rule other (fault.BadEscape l) old mid new first goes = first (fault.BadEscape l) goes
Goes-fault names rule other (fault.Deep l) old mid new first goes = first (fault.Deep l) goes

-- a number that was found
pub number_found : (o : Option ℕ) (z : ℤ) → Some z ≡ option_map pos o → (n : ℕ) × (o ≡ Some n) × (z ≡ pos n)
number_found None z e = cc
number_found (Some n) z e = (n, refl, cc)

pub number_none : (o : Option ℕ) → None ≡ option_map pos o → o ≡ None
number_none None e = refl
number_none (Some n) e = cc

-- a word whose form is a keyword, and one whose form is a name
pub word_form-refused : (w form : List ℕ) → is_keyword w ≡ false → identifier_of w ≡ Some form → is_keyword form ≡ true → word_form w ≡ None
word_form-refused w form plain is refused =
    (λ k. if plain k then Some (keyword w) else option_map_or (λ (f : List ℕ). if is_keyword f then None else Some (name f)) (is k) None)
    ∙ (λ k. if refused k then None else Some (name form))

pub word_form-name : (w form : List ℕ) → is_keyword w ≡ false → identifier_of w ≡ Some form → is_keyword form ≡ false → word_form w ≡ Some (name form)
word_form-name w form plain is other =
    (λ k. if plain k then Some (keyword w) else option_map_or (λ (f : List ℕ). if is_keyword f then None else Some (name f)) (is k) None)
    ∙ (λ k. if other k then None else Some (name form))

-- a name that is held stays where it is
pub held_among : (names more : List (List ℕ)) (i : ℕ) (w : List ℕ) → slice_get names i ≡ Some w → get_or (names ++ more) i [] ≡ w
held_among names more i w at = get_or_append_left names more [] i (slice_get_within names i w at) ∙ get_or_from_slice_get names i w [] at

-- the joining line ends are characters
pub joined_lines-le : (n : ℕ) (cs : List ℕ) → joined_lines n cs ≤ length cs
joined_lines-le n [] = omega arith
joined_lines-le (suc n) (c ∷ cs) = let fewer = joined_lines-le n cs in omega arith
joined_lines-le zero (c ∷ cs) =
    by (joined_lines-le 0 cs) (joined_lines-le (line_end_length cs) cs) (is_blank c) ((c == 92) && nat_lt 0 (line_end_length cs))
  where
    by : joined_lines 0 cs ≤ length cs → joined_lines (line_end_length cs) cs ≤ length cs → (b d : Bool)
        → (if b then joined_lines 0 cs else if d then suc (joined_lines (line_end_length cs) cs) else 0) ≤ suc (length cs)
    by fewer less true d = omega arith
    by fewer less false true = omega arith
    by fewer less false false = omega arith

-- a line that has something, with no tab at its front
pub begun-column : (s : State) (rest : List ℕ) (n : ℕ) → rest ≡ behind_run is_blank s.left → n ≡ length (take_while is_blank s.left) → is_empty_line rest ≡ false
    → list_any (λ c. c == 9) (take_while is_blank s.left) ≡ false → begun s ≡ indented n rest s
unfolding begun
begun-column s rest n is column some plain = rw (← is, ← column, some, plain) refl

-- blanks are ASCII
blanks-ascii : (cs : List ℕ) → IsAscii (take_while is_blank cs)
blanks-ascii [] = λ i. omega arith
blanks-ascii (c ∷ cs) = subst IsAscii (sym (take_while-cons is_blank c cs)) (by (blanks-ascii cs) (is_blank c) refl)
  where
    small : ((c == 32) ≡ true) ⊎ ((c == 9) ≡ true) → c < 128
    small (inl e) = let is = eqb-true c 32 e in omega arith
    small (inr e) = let is = eqb-true c 9 e in omega arith

    by : IsAscii (take_while is_blank cs) → (b : Bool) → is_blank c ≡ b → IsAscii (cond b (c ∷ take_while is_blank cs) [])
    by others false e i = omega arith
    by others true e zero = small (or_cases (c == 32) (c == 9) e)
    by others true e (suc i) = others i

-- as many bytes as blanks
pub blanks_length : (bs cs : List ℕ) → IsUtf8 bs → chars bs ≡ take_while is_blank cs → length bs ≡ length (take_while is_blank cs)
blanks_length bs cs text is =
    ap length (sym (encodes-chars bs text) ∙ ap encode_utf8_all is ∙ encodes-IsAscii (take_while is_blank cs) (blanks-ascii cs))

-- a column that is none of the open ones
pub indented-refused : (n : ℕ) (rest : List ℕ) (s closed : State) → (nat_lt (first s.columns) n) ≡ false
    → closed ≡ closed_to n rest (s.line + joined_lines 0 rest) s.columns s → (first closed.columns == n) ≡ false → indented n rest s ≡ Err (fault.Dedent (at_line s.line))
unfolding indented
indented-refused n rest s closed below is other = rw (below, ← is, other) refl

-- the tokens at the end of a text
pub ending-inside : (s ended closed : State) → nat_lt 0 (length s.brackets) ≡ false → is_inside s.stage ≡ true → ended ≡ with_token newline [] [] s.line s
    → closed ≡ closed_to 0 [] s.line s.columns ended → ending s ≡ Ok ((with_token end_of_text [] [] s.line closed).items)
unfolding ending
ending-inside s ended closed none inside is last = rw (none, inside, ← is, ← last) refl

pub ending-outside : (s closed : State) → nat_lt 0 (length s.brackets) ≡ false → is_inside s.stage ≡ false → closed ≡ closed_to 0 [] s.line s.columns s
    → ending s ≡ Ok ((with_token end_of_text [] [] s.line closed).items)
unfolding ending
ending-outside s closed none outside last = rw (none, outside, ← last) refl

-- what begins at the front
pub behind_token-word : (s : State) → is_start (first s.left) ≡ true → behind_token s ≡ behind_word s
unfolding behind_token
behind_token-word s e = rw e refl

pub behind_token-number : (s : State) → is_start (first s.left) ≡ false → is_ascii_digit (first s.left) ≡ true → behind_token s ≡ behind_number s
unfolding behind_token
behind_token-number s e f = (λ k. if e k then behind_word s else if f k then behind_number s else if (first s.left == 39) || (first s.left == 34) then behind_literal s else behind_mark s)

pub behind_token-literal : (s : State) → is_start (first s.left) ≡ false → is_ascii_digit (first s.left) ≡ false → ((first s.left == 39) || (first s.left == 34)) ≡ true → behind_token s ≡ behind_literal s
unfolding behind_token
behind_token-literal s e f g = (λ k. if e k then behind_word s else if f k then behind_number s else if g k then behind_literal s else behind_mark s)

pub behind_token-mark : (s : State) → is_start (first s.left) ≡ false → is_ascii_digit (first s.left) ≡ false → ((first s.left == 39) || (first s.left == 34)) ≡ false → behind_token s ≡ behind_mark s
unfolding behind_token
behind_token-mark s e f g = (λ k. if e k then behind_word s else if f k then behind_number s else if g k then behind_literal s else behind_mark s)

-- what stands within a line
pub in_line-lf : (s : State) → first s.left ≡ 10 → in_line s ≡ behind_line_end s
unfolding in_line
in_line-lf s e = rw e refl

pub in_line-cr : (s : State) → first s.left ≡ 13 → in_line s ≡ behind_line_end s
unfolding in_line
in_line-cr s e = rw e refl

pub in_line-backslash : (s : State) → first s.left ≡ 92 → in_line s ≡ joined s
unfolding in_line
in_line-backslash s e = rw e refl

pub in_line-token : (s : State) → is_blank (first s.left) ≡ false → (first s.left == 35) ≡ false → is_line_end (first s.left) ≡ false → (first s.left == 92) ≡ false → in_line s ≡ behind_token s
unfolding in_line
in_line-token s e f g h =
    (λ k. if e k then Ok (record s { left = behind_run is_blank s.left }) else if f k then Ok (record s { left = behind_run is_comment s.left })
    else if g k then behind_line_end s else if h k then joined s else behind_token s)

-- the first step of a logical line, and the others
pub step-fresh : (s t : State) → is_fresh s.stage ≡ true → begun s ≡ Ok t → step s ≡ in_line t
unfolding step
step-fresh s t fresh is = (λ k. and_then (if fresh k then begun s else Ok s) in_line) ∙ (λ k. and_then (is k) in_line)

pub step-fault : (s : State) → is_fresh s.stage ≡ true → (g : TokenFault) → begun s ≡ Err g → step s ≡ Err g
unfolding step
step-fault s fresh g is = (λ k. and_then (if fresh k then begun s else Ok s) in_line) ∙ (λ k. and_then (is k) in_line)

pub step-within : (s : State) → is_fresh s.stage ≡ false → step s ≡ in_line s
unfolding step
step-within s within = (λ k. and_then (if within k then begun s else Ok s) in_line)

-- a mark that was found, after its bracket
pub behind_mark-taken : (names : List (List ℕ)) (s t : State) (kind : TokenKind) (rest : List ℕ) → IsMark (find (starts_with nat_eq s.left) marks) s.left kind rest
    → bracketed (first s.left) s ≡ Ok t → behind_mark s ≡ Ok (taken (form_view names kind) (chars rest) t)
unfolding behind_mark
behind_mark-taken names s t kind rest is bracket = by (find (starts_with nat_eq s.left) marks) is
  where
    by : (o : Option (List ℕ)) → IsMark o s.left kind rest → behind_found o s ≡ Ok (taken (form_view names kind) (chars rest) t)
    by None m = absurd m
    by (Some m) (form, left, text) =
        (λ k. and_then (bracket k) (λ (t : State). Ok (taken (mark m) (drop (length m) s.left) t))) ∙ (λ k. Ok (taken (sym (form names) k) (sym left k) t))

pub behind_mark-fault : (s : State) (kind : TokenKind) (rest : List ℕ) → IsMark (find (starts_with nat_eq s.left) marks) s.left kind rest
    → (g : TokenFault) → bracketed (first s.left) s ≡ Err g → behind_mark s ≡ Err g
unfolding behind_mark
behind_mark-fault s kind rest is g bracket = by (find (starts_with nat_eq s.left) marks) is
  where
    by : (o : Option (List ℕ)) → IsMark o s.left kind rest → behind_found o s ≡ Err g
    by None m = absurd m
    by (Some m) found = (λ k. and_then (bracket k) (λ (t : State). Ok (taken (mark m) (drop (length m) s.left) t)))

pub IsMark-text : (o : Option (List ℕ)) (cs : List ℕ) (kind : TokenKind) (rest : List ℕ) → IsMark o cs kind rest → length (chars rest) ≤ length cs
IsMark-text None cs kind rest is = absurd is
IsMark-text (Some m) cs kind rest (form, left, text) = let less = ap length left ∙ length-drop (length m) cs in omega arith

-- a bracket takes no characters
pub bracketed-left : (c : ℕ) (s t : State) → bracketed c s ≡ Ok t → t.left ≡ s.left
unfolding bracketed
bracketed-left c s t is = by (is_opening c) (nat_le most_brackets (length s.brackets)) (is_closing c) is
  where
    by : (a b d : Bool) → (if a then (if b then Err (fault.Deep (at_line s.line)) else Ok (record s { brackets = s.line ∷ s.brackets })) else if d then Ok (record s { brackets = drop 1 s.brackets }) else Ok s) ≡ Ok t → t.left ≡ s.left
    by true true d e = cc
    by true false d e = let same : record s { brackets = s.line ∷ s.brackets } ≡ t = cc in sym (ap (λ (u : State). u.left) same)
    by false b true e = let same : record s { brackets = drop 1 s.brackets } ≡ t = cc in sym (ap (λ (u : State). u.left) same)
    by false b false e = let same : s ≡ t = cc in sym (ap (λ (u : State). u.left) same)

-- a number and a word that are taken
pub behind_number-taken : (s : State) (word rest : List ℕ) (o : Option Form) → word ≡ take_while is_numeral s.left → rest ≡ behind_run is_numeral s.left
    → option_map number (number_of word) ≡ o → behind_number s ≡ taken_or o fault.BadNumber rest s
unfolding behind_number
behind_number-taken s word rest o is left form = (λ k. taken_or (option_map number (number_of (sym is k))) fault.BadNumber (sym left k) s) ∙ (λ k. taken_or (form k) fault.BadNumber rest s)

pub behind_word-taken : (s : State) (word rest : List ℕ) (o : Option Form) → word ≡ take_while is_xid_continue s.left → rest ≡ behind_run is_xid_continue s.left
    → word_form word ≡ o → behind_word s ≡ taken_or o fault.BadChar rest s
unfolding behind_word
behind_word-taken s word rest o is left form = (λ k. taken_or (word_form (sym is k)) fault.BadChar (sym left k) s) ∙ (λ k. taken_or (form k) fault.BadChar rest s)

-- what an error that is handed on is
pub err_handed : {A : Type 0} (r : Result A TokenFault) (f : TokenFault) → IsErrAnd r (λ e. e ≡ f) → r ≡ Err f
err_handed (Ok x) f is = absurd is
err_handed (Err e) f is = ap Err is

-- a number is at most the greatest one
pub number_limit : (word : List ℕ) (n : ℕ) → number_of word ≡ Some n → n ≤ greatest_number
number_limit word n is = by (based_value (if first word == 48 then base_of (first (drop 1 word)) else None) word) is
  where
    one : (b : Bool) (m : ℕ) → nat_le m greatest_number ≡ b → (if b then Some m else None) ≡ Some n → n ≤ greatest_number
    one true m e q = let same : m ≡ n = cc in let most = leb-true m greatest_number e in omega arith
    one false m e q = cc

    by : (o : Option ℕ) → option_and_then limited o ≡ Some n → n ≤ greatest_number
    by None q = cc
    by (Some m) q = one (nat_le m greatest_number) m refl q

-- a line end is of characters
pub line_end-some : (cs : List ℕ) → 0 < line_end_length cs → 0 < length cs
line_end-some [] some = absurd (omega arith)
line_end-some (c ∷ cs) some = omega arith

-- a fault that a rule finds is the answer
pub Gives-fault : (names : List (List ℕ)) (rule : Rule) (expected : Result (List Item) TokenFault) (f : TokenFault) (old new : Lexer) → ((g : TokenFault) → rule (state names old) ≡ Err g → expected ≡ Err g)
    → Goes names rule (Err f) old new → (held : List (List ℕ)) → Gives held expected (Err f)
Gives-fault names rule expected fault.Memory old new first goes held = tt
Gives-fault names rule expected (fault.Tab l) old new first goes held = first (fault.Tab l) goes
Gives-fault names rule expected (fault.Dedent l) old new first goes held = first (fault.Dedent l) goes
Gives-fault names rule expected (fault.BadChar l) old new first goes held = first (fault.BadChar l) goes
Gives-fault names rule expected (fault.Unclosed l) old new first goes held = first (fault.Unclosed l) goes
Gives-fault names rule expected (fault.BadNumber l) old new first goes held = first (fault.BadNumber l) goes
Gives-fault names rule expected (fault.BadEscape l) old new first goes held = first (fault.BadEscape l) goes
Gives-fault names rule expected (fault.Deep l) old new first goes held = first (fault.Deep l) goes
