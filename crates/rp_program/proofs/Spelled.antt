-- No token of a text is a mark without characters, nor is one of what the text is expanded to; so none is a number
-- below 0.
use Rattle.std.proofs.Common.{◌≡◌, refl, ◌∙◌, subst, ℕ, zero, suc, ◌+◌, ◌-◌, ◌==◌, ◌||◌, Bool, true, false, nat_eq, nat_lt, nat_le, if◌then◌else◌, List, [], ◌∷◌, length, drop, take_while, find, map, Option, Some, None, option_map, Result, Ok, Err}
use Rattle.std.specs.Prelude.{pos, negsuc}
use Rattle.std.specs.Char.{is_ascii_digit}
use Rattle.std.specs.List.{list_all, list_any, starts_with}
use Rattle.std.specs.Option.{option_map_or}
use Rattle.std.proofs.lemmas.Bool.{and_parts}
use Rattle.std.proofs.lemmas.List.Folds.{list_all-append}
use Rattle.rp_base.specs.Identifier.{identifier_of, is_start}
use Rattle.rp_base.specs.Keyword.{is_keyword}
use Rattle.rp_base.specs.declared.value.Line.{Line}
use Rattle.rp_grammar.specs.Kinds.{Tokens}
use Rattle.rp_token.specs.declared.fault.TokenFault.{TokenFault}
use Rattle.rp_token.specs.declared.fault.TokenFault.TheVariants as fault
use Rattle.rp_token.specs.declared.token.Token.{Token}
use Rattle.rp_token.specs.declared.token.TokenKind.{TokenKind}
use Rattle.rp_token.specs.declared.token.TokenKind.TheVariants as kind
use Rattle.rp_token.specs.Characters.{first, is_blank, is_line_end, is_numeral, line_end_length, behind_run}
use Rattle.rp_token.specs.Form.{Form, Item, name, number, literal, keyword, mark, marks, newline, indent, dedent, end_of_text}
use Rattle.rp_token.specs.Literal.{Reading, closed, unclosed, bad_escape, literal_behind}
use Rattle.rp_token.specs.Number.{number_of}
use Rattle.rp_token.specs.Tokens.{State, and_then, at_line, begun, behind_found, behind_line_end, behind_literal, behind_mark, behind_number, behind_reading, behind_token, behind_word, bracketed, closed_to, ending, in_line, indented, is_closing, is_empty_line, is_fresh, is_inside, is_opening, joined, joined_lines, most_brackets, opening, start, step, taken, taken_or, tokens_from, tokens_of, with_token, without_mark, word_form}
use Rattle.rp_token.specs.View.{form_view, item_view}
use Rattle.rp_token.proofs.Places.{is_some_mark}
use Rattle.rp_token.proofs.Steps.{find-passes}
use Rattle.rp_more.specs.declared.fault.MoreFault.{MoreFault}
use Rattle.rp_more.specs.Expanded.{expanded}
use Rattle.rp_program.specs.Program.{is_spelled}
use Rattle.rp_program.proofs.Expansions.{Each, EachOf, IsKept, expanded-each}

abbrev pub is_form : Form → Bool
is_form (mark m) = nat_lt 0 (length m)
is_form _ = true

abbrev pub are_forms : List Item → Bool
are_forms is = list_all (λ (i : Item). is_form i.form) is

abbrev Fine : State → Type 0
Fine s = are_forms s.items ≡ true

abbrev After : Result State TokenFault → Type 0
After (Ok t) = Fine t
After (Err f) = Unit {0}

After-if : (b : Bool) (x y : Result State TokenFault) → After x → After y → After (if b then x else y)
After-if true x y one other = one
After-if false x y one other = other

pushed : (form : Form) (from to : List ℕ) (line : ℕ) (s : State) → is_form form ≡ true → Fine s → Fine (with_token form from to line s)
pushed form from to line s one fine = list_all-append (λ (i : Item). is_form i.form) s.items _ ∙ rw (fine, one) refl

line_end : (s : State) → Fine s → After (behind_line_end s)
unfolding behind_line_end
line_end s fine = After-if (nat_lt 0 (length s.brackets)) _ _ fine (After-if (is_inside s.stage) _ _ (pushed newline s.left (drop (line_end_length s.left) s.left) s.line s refl fine) fine)

joined_line : (s : State) → Fine s → After (joined s)
unfolding joined
joined_line s fine = After-if (line_end_length (drop 1 s.left) == 0) _ _ tt fine

abbrev AllForms : Option Form → Type 0
AllForms (Some form) = is_form form ≡ true
AllForms None = Unit {0}

one_of : (o : Option Form) (f : Line → TokenFault) (rest : List ℕ) (s : State) → AllForms o → Fine s → After (taken_or o f rest s)
one_of (Some form) f rest s one fine = pushed form s.left rest s.line s one fine
one_of None f rest s one fine = tt

word_forms : (word : List ℕ) → AllForms (word_form word)
word_forms word = by (is_keyword word) (identifier_of word)
  where
    formed : (form : List ℕ) (b : Bool) → AllForms (if b then None else Some (name form))
    formed form true = tt
    formed form false = refl

    by : (b : Bool) (o : Option (List ℕ)) → AllForms (if b then Some (keyword word) else option_map_or (λ form. if is_keyword form then None else Some (name form)) o None)
    by true o = refl
    by false None = tt
    by false (Some form) = formed form (is_keyword form)

number_forms : (o : Option ℕ) → AllForms (option_map number o)
number_forms None = tt
number_forms (Some n) = refl

words_read : (word rest : List ℕ) (s : State) → Fine s → After (taken_or (word_form word) fault.BadChar rest s)
words_read word rest s fine = one_of (word_form word) fault.BadChar rest s (word_forms word) fine

word_read : (s : State) → Fine s → After (behind_word s)
unfolding behind_word
word_read s fine = search words_read

number_read : (s : State) → Fine s → After (behind_number s)
unfolding behind_number
number_read s fine = one_of (option_map number (number_of (take_while is_numeral s.left))) fault.BadNumber _ s (number_forms (number_of (take_while is_numeral s.left))) fine

reading_read : (r : Reading) (s : State) → Fine s → After (behind_reading r s)
reading_read (closed value rest lines) s fine = pushed (literal value) s.left rest s.line s refl fine
reading_read unclosed s fine = tt
reading_read (bad_escape lines) s fine = tt

literal_read : (s : State) → Fine s → After (behind_literal s)
unfolding behind_literal
literal_read s fine = reading_read (literal_behind (opening s.left) 0 (drop (length (opening s.left)) s.left)) s fine

found_read : (m : List ℕ) (s : State) → nat_lt 0 (length m) ≡ true → Fine s → After (and_then (bracketed (first s.left) s) (λ t. Ok (taken (mark m) (drop (length m) s.left) t)))
unfolding bracketed
found_read m s some fine = by (is_opening (first s.left)) (nat_le most_brackets (length s.brackets)) (is_closing (first s.left))
  where
    by : (opens full closes : Bool) → After (and_then (if opens then (if full then Err (fault.Deep (at_line s.line)) else Ok (record s { brackets = s.line ∷ s.brackets }))
        else if closes then Ok (record s { brackets = drop 1 s.brackets }) else Ok s) (λ t. Ok (taken (mark m) (drop (length m) s.left) t)))
    by true true closes = tt
    by true false closes = pushed (mark m) s.left (drop (length m) s.left) s.line s some fine
    by false full true = pushed (mark m) s.left (drop (length m) s.left) s.line s some fine
    by false full false = pushed (mark m) s.left (drop (length m) s.left) s.line s some fine

mark_read : (s : State) → Fine s → After (behind_mark s)
unfolding behind_mark
mark_read s fine = by (find (starts_with nat_eq s.left) marks) refl
  where
    by : (o : Option (List ℕ)) → find (starts_with nat_eq s.left) marks ≡ o → After (behind_found o s)
    by None e = tt
    by (Some m) e = found_read m s (find-passes is_some_mark (starts_with nat_eq s.left) marks m refl e) fine

token_read : (s : State) → Fine s → After (behind_token s)
unfolding behind_token
token_read s fine =
    After-if (is_start (first s.left)) _ _ (word_read s fine) (After-if (is_ascii_digit (first s.left)) _ _ (number_read s fine)
    (After-if ((first s.left == 39) || (first s.left == 34)) _ _ (literal_read s fine) (mark_read s fine)))

line_read : (s : State) → Fine s → After (in_line s)
unfolding in_line
line_read s fine =
    After-if (is_blank (first s.left)) _ _ fine (After-if (first s.left == 35) _ _ fine
    (After-if (is_line_end (first s.left)) _ _ (line_end s fine) (After-if (first s.left == 92) _ _ (joined_line s fine) (token_read s fine))))

columns_closed : (n : ℕ) (rest : List ℕ) (line : ℕ) (columns : List ℕ) (s : State) → Fine s → Fine (closed_to n rest line columns s)
columns_closed n rest line [] s fine = fine
columns_closed n rest line (c ∷ cs) s fine = by (columns_closed n rest line cs (with_token dedent rest rest line s) (pushed dedent rest rest line s refl fine)) (nat_lt n c)
  where
    by : Fine (closed_to n rest line cs (with_token dedent rest rest line s)) → (b : Bool) → Fine (if b then closed_to n rest line cs (with_token dedent rest rest line s) else record s { columns = c ∷ cs })
    by further true = further
    by further false = fine

line_begun : (s : State) → Fine s → After (begun s)
unfolding begun indented
line_begun s fine =
    let rest = behind_run is_blank s.left in
    let n = length (take_while is_blank s.left) in
    let line = s.line + joined_lines 0 rest in
    After-if (is_empty_line rest) _ _ fine (After-if (list_any (λ c. c == 9) (take_while is_blank s.left)) _ _ tt
    (After-if (nat_lt (first s.columns) n) _ _ (pushed indent rest rest line s refl fine)
    (After-if (first (closed_to n rest line s.columns s).columns == n) _ _ (columns_closed n rest line s.columns s fine) tt)))

step_read : (s : State) → Fine s → After (step s)
unfolding step
step_read s fine = after (if is_fresh s.stage then begun s else Ok s) (After-if (is_fresh s.stage) (begun s) (Ok s) (line_begun s fine) fine)
  where
    after : (r : Result State TokenFault) → After r → After (and_then r in_line)
    after (Ok t) fine = line_read t fine
    after (Err f) fine = tt

abbrev pub AreForms : Result (List Item) TokenFault → Type 0
AreForms (Ok items) = are_forms items ≡ true
AreForms (Err f) = Unit {0}

ended : (s : State) → Fine s → AreForms (ending s)
unfolding ending
ended s fine =
    let inside = if is_inside s.stage then with_token newline [] [] s.line s else s in
    let still : Fine inside = by (is_inside s.stage) in
    unless _ _ (nat_lt 0 (length s.brackets)) (pushed end_of_text [] [] s.line (closed_to 0 [] s.line s.columns inside) refl (columns_closed 0 [] s.line s.columns inside still))
  where
    by : (b : Bool) → Fine (if b then with_token newline [] [] s.line s else s)
    by true = pushed newline [] [] s.line s refl fine
    by false = fine

    unless : (items : List Item) (f : TokenFault) (b : Bool) → are_forms items ≡ true → AreForms (if b then Err f else Ok items)
    unless items f true all = tt
    unless items f false all = all

from_here : (n : ℕ) (s : State) (cs : List ℕ) → Fine s → AreForms (tokens_from n s cs)
from_here n s [] fine = ended s fine
from_here (suc n) s (c ∷ cs) fine = from_here n s cs fine
from_here zero s (c ∷ cs) fine = by (λ n t. from_here n t cs) (step (record s { left = c ∷ cs })) (step_read (record s { left = c ∷ cs }) fine)
  where
    by : ((n : ℕ) (t : State) → Fine t → AreForms (tokens_from n t cs)) → (r : Result State TokenFault) → After r → AreForms (and_then r (λ t. tokens_from (length cs - length t.left) t cs))
    by further (Ok t) fine = further (length cs - length t.left) t fine
    by further (Err f) fine = tt

pub of_text : (text : List ℕ) → AreForms (tokens_of text)
of_text text = from_here 0 (start text) (without_mark text) refl

spelled_kind : (names : List (List ℕ)) (k : TokenKind) → is_form (form_view names k) ≡ true → is_spelled k ≡ true
spelled_kind names (kind.Int (pos n)) h = refl
spelled_kind names (kind.Int (negsuc n)) h = h
spelled_kind names _ h = refl

-- no token of the items is a number below 0
pub spelled_tokens : (names : List (List ℕ)) (ts : Tokens) → are_forms (map (item_view names) ts) ≡ true → list_all (λ (t : Token). is_spelled t.kind) ts ≡ true
spelled_tokens names [] h = refl
spelled_tokens names (t ∷ ts) h =
    let parts = and_parts (is_form (form_view names t.kind)) (are_forms (map (item_view names) ts)) h in
    rw (spelled_kind names t.kind parts.0, spelled_tokens names ts parts.1) refl

-- ---- what a text is expanded to

abbrev HasMark : Form → Type 0
HasMark form = is_form form ≡ true

each_form : (items : List Item) → are_forms items ≡ true → Each HasMark items
each_form [] all = tt
each_form (i ∷ is) all = let parts = and_parts (is_form i.form) (are_forms is) all in (parts.0, each_form is parts.1)

all_forms : (items : List Item) → Each HasMark items → are_forms items ≡ true
all_forms [] each = refl
all_forms (i ∷ is) each = rw (each.0, all_forms is each.1) refl

each_of : (r : Result (List Item) TokenFault) → AreForms r → EachOf HasMark r
each_of (Ok items) all = each_form items all
each_of (Err f) all = tt

any_letters : (t : List ℕ) → list_all (λ (c : ℕ). true) t ≡ true
any_letters [] = refl
any_letters (c ∷ cs) = any_letters cs

forms_kept : IsKept (λ (c : ℕ). true) HasMark
forms_kept = record {
  letters = λ t holds. any_letters t;
  literals = λ t passes. refl;
  marks = λ m some. some;
  none = refl;
  str = refl;
  join = refl;
  texts = λ text passes. each_of (tokens_of text) (of_text text);
}

-- no token of what a text is expanded to is a number below 0
pub spelled_expanded : (text : List ℕ) (given : List Item) (names : List (List ℕ)) (ts : Tokens) → tokens_of text ≡ Ok given
    → expanded given ≡ Ok (map (item_view names) ts) → list_all (λ (t : Token). is_spelled t.kind) ts ≡ true
spelled_expanded text given names ts read expansion =
    let EachRead : Result (List Item) TokenFault → Type 0 = λ r. EachOf HasMark r in
    let EachWritten : Result (List Item) MoreFault → Type 0 = λ r. EachOf HasMark r in
    let before : Each HasMark given = subst EachRead read (each_of (tokens_of text) (of_text text)) in
    let each : Each HasMark (map (item_view names) ts) = subst EachWritten expansion (expanded-each (λ (c : ℕ). true) HasMark forms_kept given before) in
    spelled_tokens names ts (all_forms (map (item_view names) ts) each)
