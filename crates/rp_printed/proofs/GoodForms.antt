-- The tokens of a text are good, and so is what they are expanded to: names are identifiers and no keywords, numbers
-- are up to the greatest, and literals are characters.
use Rattle.std.proofs.Common.{◌≡◌, inl, inr, refl, sym, ap, ◌∙◌, subst, cond, ℕ, zero, suc, ◌+◌, ◌-◌, ◌≤◌, ◌==◌, ◌&&◌}
use Rattle.std.proofs.Common.{◌||◌, not, Bool, true, false, nat_eq, nat_lt, nat_le, le-leb, lt-ltb, if◌then◌else◌, List}
use Rattle.std.proofs.Common.{[], ◌∷◌, ◌++◌, length, drop, take, take_while, find, map, chars, codes, Option, Some}
use Rattle.std.proofs.Common.{None, option_map, Result, Ok, Err, pos, negsuc, encode_utf8_all, true≢false, arith}
use Rattle.std.specs.Char.{digit_value, is_ascii_digit, is_digit}
use Rattle.std.specs.Int.Digits.{number_from_digits}
use Rattle.std.specs.List.{All, list_all, list_any, starts_with}
use Rattle.std.specs.Map.{lookup}
use Rattle.std.specs.Option.{option_map_or}
use Rattle.std.proofs.lemmas.Bool.{and_parts, leb-true, or_cases}
use Rattle.std.proofs.lemmas.Str.{scalars-chars}
use Rattle.ucd_table.proofs.Facts.{Stepped-everywhere}
use Rattle.ucd_table.proofs.Stepped.{of_ranges, zip_stepped}
use Rattle.ucd_table.specs.Rows.{Range, in_ranges}
use Rattle.ucd_derived.proofs.BinaryLemmas.{is_xid_continue_stepped}
use Rattle.unicode_ident.proofs.Computing.{unicode_ident}
use Rattle.unicode_ident.specs.Ident.{is_xid_continue}
use Rattle.unicode_normalization.proofs.Computing.{unicode_normalization}
use Rattle.unicode_normalization.proofs.FormsLemmas.{normalize_idem}
use Rattle.unicode_normalization.specs.Forms.{Nfkc, nfkc}
use lib.Utf8.{encode, low_scalar, scalar, scalars}
use Rattle.rp_base.specs.Identifier.{begins_well, is_identifier, is_start, longest_name}
use Rattle.rp_base.specs.Keyword.{is_keyword}
use Rattle.rp_base.specs.declared.value.Line.{Line}
use Rattle.rp_grammar.specs.Kinds.{Tokens}
use Rattle.rp_more.specs.declared.fault.MoreFault.{MoreFault}
use Rattle.rp_program.specs.Program.{HasItems, HasTokens, is_spelled}
use Rattle.rp_program.proofs.Expansions.{Each, EachOf, IsKept, expanded-each}
use Rattle.rp_token.specs.declared.fault.TokenFault.{TokenFault}
use Rattle.rp_token.specs.declared.fault.TokenFault.TheVariants as fault
use Rattle.rp_token.specs.declared.token.Token.{Token}
use Rattle.rp_token.specs.declared.token.TokenKind.{TokenKind}
use Rattle.rp_token.specs.declared.token.TokenKind.TheVariants as kind
use Rattle.rp_token.specs.Characters.{first, is_blank, is_line_end, is_numeral, line_end_length, behind_run}
use Rattle.rp_token.specs.Form.{Form, Item, name, number, literal, keyword, mark, marks, newline, indent, dedent}
use Rattle.rp_token.specs.Form.{end_of_text}
use Rattle.rp_token.specs.Literal.{Escape, Reading, closed, unclosed, bad_escape, escape_of, lettered, line_ends}
use Rattle.rp_token.specs.Literal.{literal_behind, numbered, numbered_escapes, plain_escapes, with_front}
use Rattle.rp_token.specs.Number.{greatest_number, number_of}
use Rattle.rp_token.specs.Tokens.{State, and_then, at_line, begun, behind_found, behind_line_end, behind_literal}
use Rattle.rp_token.specs.Tokens.{behind_mark, behind_number, behind_reading, behind_token, behind_word, bracketed}
use Rattle.rp_token.specs.Tokens.{closed_to, ending, in_line, indented, is_closing, is_empty_line, is_fresh, is_inside}
use Rattle.rp_token.specs.Tokens.{is_opening, joined, joined_lines, most_brackets, name_of, opening, start, step, taken}
use Rattle.rp_token.specs.Tokens.{taken_or, tokens_from, tokens_of, with_token, without_mark, word_form}
use Rattle.rp_token.specs.View.{IsHeld, IsHeldKind, form_view, item_view}
use Rattle.rp_token.proofs.Rules.{number_limit}
use Rattle.rp_printed.proofs.Reading.{AreGood, IsGoodKind, IsGoodWord, scalars-append}
use Rattle.rp_token.proofs.Laws.{scalars-drop}
use Rattle.rp_token.proofs.Steps.{closed_to-left}

-- ---- characters of identifiers are characters

scalar_ranges : List Range
scalar_ranges = (0, 0xD7FF) ∷ (0xE000, 0x10_FFFF) ∷ []

letters_everywhere : (c : ℕ) → (not (is_xid_continue c) || in_ranges scalar_ranges c) ≡ true
unfolding unicode_ident scalar_ranges
letters_everywhere c =
    Stepped-everywhere _ (zip_stepped (λ a b. not a || b) is_xid_continue
    (in_ranges scalar_ranges) is_xid_continue_stepped (of_ranges scalar_ranges refl)) refl c

ranges_scalar : (c : ℕ) → in_ranges scalar_ranges c ≡ true → scalar c ≡ true
unfolding in_ranges scalar_ranges
ranges_scalar c e =
    elim (or_cases (nat_le 0 c && nat_le c 0xD7FF) ((nat_le 0xE000 c && nat_le c 0x10_FFFF) || false) e) [
      | inl low ↦ let most = leb-true c 0xD7FF (and_parts (nat_le 0 c) (nat_le c 0xD7FF) low).1 in
          low_scalar c (omega arith)
      | inr high ↦ elim (or_cases (nat_le 0xE000 c && nat_le c 0x10_FFFF) false high) [
        | inl within ↦
            let parts = and_parts (nat_le 0xE000 c) (nat_le c 0x10_FFFF) within in
            let least = leb-true 0xE000 c parts.0 in
            let most = leb-true c 0x10_FFFF parts.1 in
            by (nat_lt c 55296) least most
        | inr none ↦ absurd (true≢false (sym none))
      ]
    ]
  where
    by : (b : Bool) → 0xE000 ≤ c → c ≤ 0x10_FFFF → cond b true (nat_le 57344 c && nat_lt c 1114112) ≡ true
    by true least most = refl
    by false least most = rw (le-leb 57344 c (omega arith), lt-ltb c 1114112 (omega arith)) refl

letter_scalar : (c : ℕ) → is_xid_continue c ≡ true → scalar c ≡ true
letter_scalar c e = ranges_scalar c (ap (λ b. not b || in_ranges scalar_ranges c) (sym e) ∙ letters_everywhere c)

pub letters_scalars : (cs : List ℕ) → list_all is_xid_continue cs ≡ true → scalars cs ≡ true
letters_scalars [] e = refl
letters_scalars (c ∷ cs) e =
    let parts = and_parts (is_xid_continue c) (list_all is_xid_continue cs) e in
    rw (letter_scalar c parts.0, letters_scalars cs parts.1) refl

-- ---- good forms

abbrev IsGoodForm : Form → Type 0
IsGoodForm (name w) = IsGoodWord w
IsGoodForm (number n) = n ≤ greatest_number
IsGoodForm (literal t) = scalars t ≡ true
IsGoodForm _ = Unit {0}

abbrev AllGood : List Item → Type 0
AllGood items = Each IsGoodForm items

all_good-append : (is js : List Item) → AllGood is → AllGood js → AllGood (is ++ js)
all_good-append [] js a b = b
all_good-append (i ∷ is) js a b = (a.0, all_good-append is js a.1 b)

abbrev Fine : State → Type 0
Fine s = AllGood s.items

abbrev After : Result State TokenFault → Type 0
After (Ok t) = Fine t
After (Err f) = Unit {0}

After-if : (b : Bool) (x y : Result State TokenFault) → After x → After y → After (if b then x else y)
After-if true x y one other = one
After-if false x y one other = other

pushed : (form : Form) (from to : List ℕ) (line : ℕ) (s : State) → IsGoodForm form → Fine s
    → Fine (with_token form from to line s)
pushed form from to line s one fine = all_good-append s.items _ fine (one, tt)

line_end : (s : State) → Fine s → After (behind_line_end s)
unfolding behind_line_end
line_end s fine = After-if (nat_lt 0 (length s.brackets)) _ _ fine
    (After-if (is_inside s.stage) _ _ (pushed newline s.left (drop (line_end_length s.left) s.left) s.line s tt fine)
    fine)

joined_line : (s : State) → Fine s → After (joined s)
unfolding joined
joined_line s fine = After-if (line_end_length (drop 1 s.left) == 0) _ _ tt fine

abbrev AllForms : Option Form → Type 0
AllForms (Some form) = IsGoodForm form
AllForms None = Unit {0}

taken_read : (o : Option Form) (f : Line → TokenFault) (rest : List ℕ) (s : State) → AllForms o → Fine s
    → After (taken_or o f rest s)
taken_read (Some form) f rest s one fine = pushed form s.left rest s.line s one fine
taken_read None f rest s one fine = tt

-- the form of a word, where it is a name
form_good : (form : List ℕ) → is_identifier form ≡ true → nfkc form ≡ form
    → nat_le (length (encode_utf8_all form)) longest_name ≡ true → is_keyword form ≡ false → IsGoodWord form
form_good form is same short plain = record {
  identifier = rw (same, is, short) refl;
  plain = plain;
  letters = letters_scalars form (identifier_letters form is);
}
  where
    identifier_letters : (cs : List ℕ) → is_identifier cs ≡ true → list_all is_xid_continue cs ≡ true
    identifier_letters cs e = (and_parts (begins_well cs) (list_all is_xid_continue cs) e).1

name_good : (word : List ℕ) → AllForms (name_of word)
name_good word =
    by (is_identifier word && is_identifier (nfkc word)) (nat_le (length (encode_utf8_all (nfkc word))) longest_name)
    refl refl
  where
    keyword_or : (k : Bool) → is_keyword (nfkc word) ≡ k → is_identifier (nfkc word) ≡ true
        → nat_le (length (encode_utf8_all (nfkc word))) longest_name ≡ true
        → AllForms (if k then None else Some (name (nfkc word)))
    keyword_or true e is short = tt
    keyword_or false e is short = form_good (nfkc word) is (normalize_idem Nfkc word) short e

    by : (a b : Bool) → (is_identifier word && is_identifier (nfkc word)) ≡ a
        → nat_le (length (encode_utf8_all (nfkc word))) longest_name ≡ b
        → AllForms (option_map_or (λ (form : List ℕ). if is_keyword form then None else Some (name form))
        (if a && b then Some (nfkc word) else None) None)
    by true true e f = keyword_or (is_keyword (nfkc word)) refl
        (and_parts (is_identifier word) (is_identifier (nfkc word)) e).1 f
    by true false e f = tt
    by false b e f = tt

word_good : (word : List ℕ) → AllForms (word_form word)
word_good word = by (is_keyword word)
  where
    by : (b : Bool) → AllForms (if b then Some (keyword word) else name_of word)
    by true = tt
    by false = name_good word

word_read : (s : State) → Fine s → After (behind_word s)
unfolding behind_word
word_read s fine = taken_read (word_form (take_while is_xid_continue s.left)) fault.BadChar
    (behind_run is_xid_continue s.left) s (word_good (take_while is_xid_continue s.left)) fine

number_good : (word : List ℕ) → AllForms (option_map number (number_of word))
number_good word = by (number_of word) refl
  where
    by : (o : Option ℕ) → number_of word ≡ o → AllForms (option_map number o)
    by None e = tt
    by (Some n) e = number_limit word n e

number_read : (s : State) → Fine s → After (behind_number s)
unfolding behind_number
number_read s fine = taken_read _ fault.BadNumber (behind_run is_numeral s.left) s
    (number_good (take_while is_numeral s.left)) fine

-- ---- literals

abbrev GoodReading : Reading → Type 0
GoodReading (closed value rest lines) = scalars value ≡ true
GoodReading unclosed = Unit {0}
GoodReading (bad_escape lines) = Unit {0}

front_good : (front : List ℕ) (lines : ℕ) (r : Reading) → scalars front ≡ true → GoodReading r
    → GoodReading (with_front front lines r)
front_good front lines (closed value rest more) f g = scalars-append front value f g
front_good front lines unclosed f g = tt
front_good front lines (bad_escape more) f g = tt

GoodReading-if : (b : Bool) (x y : Reading) → GoodReading x → GoodReading y → GoodReading (if b then x else y)
GoodReading-if true x y one other = one
GoodReading-if false x y one other = other

abbrev GoodEscape : Option Escape → Type 0
GoodEscape (Some e) = scalars e.stands_for ≡ true
GoodEscape None = Unit {0}

abbrev GoodCharacter : Option ℕ → Type 0
GoodCharacter (Some c) = scalar c ≡ true
GoodCharacter None = Unit {0}

looked_up : (p : ℕ → Bool) (table : List (ℕ × ℕ)) → list_all (λ (e : ℕ × ℕ). scalar e.1) table ≡ true
    → GoodCharacter (lookup p table)
looked_up p [] all = tt
looked_up p (e ∷ es) all =
    let parts = and_parts (scalar e.1) (list_all (λ (e : ℕ × ℕ). scalar e.1) es) all in
    by (p e.0) parts.0 (looked_up p es parts.1)
  where
    by : (b : Bool) → scalar e.1 ≡ true → GoodCharacter (lookup p es) → GoodCharacter (cond b (Some e.1) (lookup p es))
    by true here further = here
    by false here further = further

made_good : (a b : Bool) (c n : ℕ) → scalar c ≡ b → GoodEscape
    (if a && b then Some (record { stands_for = c ∷ []; taken = n + 1 }) else None)
made_good true true c n e = rw e refl
made_good true false c n e = tt
made_good false b c n e = tt

numbered_good : (n : ℕ) (cs : List ℕ) → GoodEscape (numbered n cs)
numbered_good n cs =
    let c = number_from_digits 16 (map digit_value (take n cs)) in
    made_good ((length (take n cs) == n) && list_all (λ d. is_digit d 16) (take n cs)) (scalar c) c n refl

lettered_good : (o count : Option ℕ) (cs : List ℕ) → GoodCharacter o → GoodEscape (lettered o count cs)
lettered_good (Some c) count cs good = rw good refl
lettered_good None (Some n) cs good = numbered_good n cs
lettered_good None None cs good = tt

escape_good : (cs : List ℕ) → GoodEscape (escape_of cs)
escape_good [] = tt
escape_good (c ∷ cs) = by (line_end_length (c ∷ cs) == 0)
  where
    by : (b : Bool) → GoodEscape (if b then lettered (lookup (λ d. d == c) plain_escapes)
        (lookup (λ d. d == c) numbered_escapes) cs
        else Some (record { stands_for = []; taken = line_end_length (c ∷ cs) }))
    by true = lettered_good (lookup (λ d. d == c) plain_escapes) (lookup (λ d. d == c) numbered_escapes) cs
        (looked_up (λ d. d == c) plain_escapes refl)
    by false = refl

literal_good : (quotes : List ℕ) (n : ℕ) (cs : List ℕ) → scalars cs ≡ true → GoodReading (literal_behind quotes n cs)
literal_good quotes n [] e = tt
literal_good quotes (suc n) (c ∷ cs) e = literal_good quotes n cs (and_parts (scalar c) (scalars cs) e).1
literal_good quotes zero (c ∷ cs) e =
    let parts = and_parts (scalar c) (scalars cs) e in
    GoodReading-if (starts_with nat_eq (c ∷ cs) quotes) _ _ refl
    (GoodReading-if (c == 92) _ _ (GoodReading-if (length cs == 0) _ _ tt
    (behind_slash (λ n. literal_good quotes n cs parts.1) (escape_of cs) (escape_good cs)))
    (GoodReading-if (line_end_length (c ∷ cs) == 0) _ _ (front_good (c ∷ []) 0 (literal_behind quotes 0 cs)
    (rw parts.0 refl) (literal_good quotes 0 cs parts.1))
    (GoodReading-if (length quotes == 1) _ _ tt
    (front_good (10 ∷ []) 1 (literal_behind quotes (line_end_length (c ∷ cs) - 1) cs) refl
    (literal_good quotes (line_end_length (c ∷ cs) - 1) cs parts.1)))))
  where
    behind_slash : ((n : ℕ) → GoodReading (literal_behind quotes n cs)) → (o : Option Escape) → GoodEscape o
        → GoodReading (option_map_or (λ (e : Escape). with_front e.stands_for (line_ends cs)
        (literal_behind quotes e.taken cs)) o (bad_escape 0))
    behind_slash all None good = tt
    behind_slash all (Some e) good = front_good e.stands_for (line_ends cs) (literal_behind quotes e.taken cs) good
        (all e.taken)

reading_read : (r : Reading) (s : State) → GoodReading r → Fine s → After (behind_reading r s)
reading_read (closed value rest lines) s good fine = pushed (literal value) s.left rest s.line s good fine
reading_read unclosed s good fine = tt
reading_read (bad_escape lines) s good fine = tt

literal_read : (s : State) → scalars s.left ≡ true → Fine s → After (behind_literal s)
unfolding behind_literal
literal_read s letters fine =
    let quotes = opening s.left in
    reading_read (literal_behind quotes 0 (drop (length quotes) s.left)) s
    (literal_good quotes 0 (drop (length quotes) s.left) (scalars-drop (length quotes) s.left letters)) fine

-- ---- marks, lines and steps

found_read : (m : List ℕ) (s : State) → Fine s → After (behind_found (Some m) s)
unfolding bracketed
found_read m s fine = by (is_opening (first s.left)) (nat_le most_brackets (length s.brackets))
    (is_closing (first s.left))
  where
    by : (opens full closes : Bool)
        → After (and_then (if opens then (if full then Err (fault.Deep (at_line s.line)) else Ok
        (record s { brackets = s.line ∷ s.brackets }))
        else if closes then Ok (record s { brackets = drop 1 s.brackets }) else Ok s)
        (λ t. Ok (taken (mark m) (drop (length m) s.left) t)))
    by true true closes = tt
    by true false closes = pushed (mark m) s.left (drop (length m) s.left) s.line s tt fine
    by false full true = pushed (mark m) s.left (drop (length m) s.left) s.line s tt fine
    by false full false = pushed (mark m) s.left (drop (length m) s.left) s.line s tt fine

mark_read : (s : State) → Fine s → After (behind_mark s)
unfolding behind_mark
mark_read s fine = by (find (starts_with nat_eq s.left) marks)
  where
    by : (o : Option (List ℕ)) → After (behind_found o s)
    by None = tt
    by (Some m) = found_read m s fine

token_read : (s : State) → scalars s.left ≡ true → Fine s → After (behind_token s)
unfolding behind_token
token_read s letters fine =
    After-if (is_start (first s.left)) _ _ (word_read s fine)
    (After-if (is_ascii_digit (first s.left)) _ _ (number_read s fine)
    (After-if ((first s.left == 39) || (first s.left == 34)) _ _ (literal_read s letters fine) (mark_read s fine)))

line_read : (s : State) → scalars s.left ≡ true → Fine s → After (in_line s)
unfolding in_line
line_read s letters fine =
    After-if (is_blank (first s.left)) _ _ fine (After-if (first s.left == 35) _ _ fine
    (After-if (is_line_end (first s.left)) _ _ (line_end s fine)
    (After-if (first s.left == 92) _ _ (joined_line s fine) (token_read s letters fine))))

columns_closed : (n : ℕ) (rest : List ℕ) (line : ℕ) (columns : List ℕ) (s : State) → Fine s
    → Fine (closed_to n rest line columns s)
columns_closed n rest line [] s fine = fine
columns_closed n rest line (c ∷ cs) s fine =
    by (columns_closed n rest line cs (with_token dedent rest rest line s) (pushed dedent rest rest line s tt fine))
    (nat_lt n c)
  where
    by : Fine (closed_to n rest line cs (with_token dedent rest rest line s)) → (b : Bool)
        → Fine (if b then closed_to n rest line cs (with_token dedent rest rest line s) else record s {
          columns = c ∷ cs;
        })
    by further true = further
    by further false = fine

-- before a line the tokens stay good, and what is left stays
abbrev Ready : List ℕ → Result State TokenFault → Type 0
Ready left (Ok t) = Fine t × (t.left ≡ left)
Ready left (Err f) = Unit {0}

Ready-if : (left : List ℕ) (b : Bool) (x y : Result State TokenFault) → Ready left x → Ready left y
    → Ready left (if b then x else y)
Ready-if left true x y one other = one
Ready-if left false x y one other = other

line_begun : (s : State) → Fine s → Ready s.left (begun s)
unfolding begun indented
line_begun s fine =
    let rest = behind_run is_blank s.left in
    let n = length (take_while is_blank s.left) in
    let line = s.line + joined_lines 0 rest in
    Ready-if s.left (is_empty_line rest) _ _ (fine, refl) (Ready-if s.left
    (list_any (λ c. c == 9) (take_while is_blank s.left)) _ _ tt
    (Ready-if s.left (nat_lt (first s.columns) n) _ _ (pushed indent rest rest line s tt fine, refl)
    (Ready-if s.left (first (closed_to n rest line s.columns s).columns == n) _ _
    (columns_closed n rest line s.columns s fine, closed_to-left n rest line s.columns s) tt)))

step_read : (s : State) → scalars s.left ≡ true → Fine s → After (step s)
unfolding step
step_read s letters fine = after (if is_fresh s.stage then begun s else Ok s)
    (Ready-if s.left (is_fresh s.stage) (begun s) (Ok s) (line_begun s fine) (fine, refl))
  where
    after : (r : Result State TokenFault) → Ready s.left r → After (and_then r in_line)
    after (Ok t) (good, same) = line_read t (ap scalars same ∙ letters) good
    after (Err f) ready = tt

abbrev GoodItems : Result (List Item) TokenFault → Type 0
GoodItems (Ok items) = AllGood items
GoodItems (Err f) = Unit {0}

ended : (s : State) → Fine s → GoodItems (ending s)
unfolding ending
ended s fine =
    let inside = if is_inside s.stage then with_token newline [] [] s.line s else s in
    let still : Fine inside = by (is_inside s.stage) in
    unless _ _ (nat_lt 0 (length s.brackets)) (pushed end_of_text [] [] s.line
    (closed_to 0 [] s.line s.columns inside) tt (columns_closed 0 [] s.line s.columns inside still))
  where
    by : (b : Bool) → Fine (if b then with_token newline [] [] s.line s else s)
    by true = pushed newline [] [] s.line s tt fine
    by false = fine

    unless : (items : List Item) (f : TokenFault) (b : Bool) → AllGood items → GoodItems (if b then Err f else Ok items)
    unless items f true all = tt
    unless items f false all = all

from_here : (n : ℕ) (s : State) (cs : List ℕ) → scalars cs ≡ true → Fine s → GoodItems (tokens_from n s cs)
from_here n s [] letters fine = ended s fine
from_here (suc n) s (c ∷ cs) letters fine = from_here n s cs (and_parts (scalar c) (scalars cs) letters).1 fine
from_here zero s (c ∷ cs) letters fine =
    by (λ n t. from_here n t cs (and_parts (scalar c) (scalars cs) letters).1) (step (record s { left = c ∷ cs }))
    (step_read (record s { left = c ∷ cs }) letters fine)
  where
    by : ((n : ℕ) (t : State) → Fine t → GoodItems (tokens_from n t cs)) → (r : Result State TokenFault) → After r
        → GoodItems (and_then r (λ t. tokens_from (length cs - length t.left) t cs))
    by further (Ok t) fine = further (length cs - length t.left) t fine
    by further (Err f) fine = tt

without_mark_scalars : (text : List ℕ) → scalars text ≡ true → scalars (without_mark text) ≡ true
without_mark_scalars text letters = by (first text == 0xFEFF)
  where
    by : (b : Bool) → scalars (if b then drop 1 text else text) ≡ true
    by true = scalars-drop 1 text letters
    by false = letters

of_text : (text : List ℕ) → scalars text ≡ true → GoodItems (tokens_of text)
of_text text letters = from_here 0 (start text) (without_mark text) (without_mark_scalars text letters) tt

-- ---- what a text is expanded to

all_scalars : (t : List ℕ) → scalars t ≡ true → list_all scalar t ≡ true
all_scalars [] e = refl
all_scalars (c ∷ cs) e =
    let parts = and_parts (scalar c) (scalars cs) e in
    rw (parts.0, all_scalars cs parts.1) refl

scalars_all : (t : List ℕ) → list_all scalar t ≡ true → scalars t ≡ true
scalars_all [] e = refl
scalars_all (c ∷ cs) e =
    let parts = and_parts (scalar c) (list_all scalar cs) e in
    rw (parts.0, scalars_all cs parts.1) refl

str_good : IsGoodWord (codes "str")
unfolding encode unicode_ident unicode_normalization
str_good = record { identifier = refl; plain = refl; letters = refl }

join_good : IsGoodWord (codes "join")
unfolding encode unicode_ident unicode_normalization
join_good = record { identifier = refl; plain = refl; letters = refl }

each_of : (r : Result (List Item) TokenFault) → GoodItems r → EachOf IsGoodForm r
each_of (Ok items) all = all
each_of (Err f) all = tt

forms_kept : IsKept scalar IsGoodForm
forms_kept = record {
  letters = λ t good. all_scalars t good;
  literals = λ t letters. scalars_all t letters;
  marks = λ m some. tt;
  none = tt;
  str = str_good;
  join = join_good;
  texts = λ text letters. each_of (tokens_of text) (of_text text (scalars_all text letters));
}

items_good : (bytes : List ℕ) (items : List Item) → HasItems bytes items → AllGood items
items_good bytes items has =
    let EachWritten : Result (List Item) MoreFault → Type 0 = λ r. EachOf IsGoodForm r in
    let given : AllGood has.given = subst GoodItems has.read (of_text (chars bytes) (scalars-chars bytes has.text)) in
    subst EachWritten has.expansion (expanded-each scalar IsGoodForm forms_kept has.given given)

-- ---- as tokens

good_kind : (words : List (List ℕ)) (k : TokenKind) → IsGoodForm (form_view words k) → IsHeldKind words k → is_spelled k
    ≡ true → IsGoodKind words k
good_kind words (kind.Name n) good held spelled = record { held = held; good = good }
good_kind words (kind.Int (pos n)) good held spelled = good
good_kind words (kind.Int (negsuc n)) good held spelled = absurd (true≢false (sym spelled))
good_kind words (kind.Text t) good held spelled = good
good_kind words _ good held spelled = tt

all_good : (words : List (List ℕ)) (ts : Tokens) → AllGood (map (item_view words) ts) → All (IsHeld words) ts
    → list_all (λ (t : Token). is_spelled t.kind) ts ≡ true → AreGood words ts
all_good words [] good held spelled = tt
all_good words (t ∷ ts) good held spelled =
    let parts = and_parts (is_spelled t.kind) (list_all (λ (t : Token). is_spelled t.kind) ts) spelled in (
      good_kind words t.kind good.0 (held 0 t (omega arith)) parts.0,
      all_good words ts good.1
          (λ k d within. held (suc k) d (omega arith)) parts.1,
    )

-- the tokens that a text is expanded to
pub good_tokens : (bytes : List ℕ) (items : List Item) (words : List (List ℕ)) (ts : Tokens) → HasItems bytes items
    → HasTokens items words ts → AreGood words ts
good_tokens bytes items words ts has are =
    all_good words ts (subst AllGood are.are (items_good bytes items has)) are.held are.spelled
