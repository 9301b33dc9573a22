-- The words of the names among the tokens, rule by rule.
use Rattle.std.proofs.Common.{◌≡◌, ◌⊎◌, inl, inr, refl, sym, ap, ◌∙◌, subst, ℕ, ◌+◌, ◌<◌, ◌==◌, ◌||◌, Bool, true, false, nat_eq, nat_le, nat_lt, if◌then◌else◌, List, [], ◌∷◌, ◌++◌, length, drop, take_while, find, append-nil, Option, Some, None, option_map, Result, Ok, Err, arith}
use Rattle.std.specs.Char.{is_ascii_alphabetic, is_ascii_digit}
use Rattle.std.specs.List.{list_any, starts_with}
use Rattle.std.specs.Result.{OnOk}
use Rattle.std.specs.declared.alloc.Global.{Global}
use Rattle.std.specs.declared.vec.Vec.{Vec}
use Rattle.std.proofs.lemmas.Bool.{eqb-true, or_cases}
use Rattle.std.proofs.lemmas.Grind.{flat_map-append}
use Rattle.unicode_ident.specs.Ident.{is_xid_continue}
use Rattle.unicode_ident.proofs.IdentLemmas.{is_xid_start-ascii}
use Rattle.rp_base.specs.Identifier.{is_start}
use Rattle.rp_base.specs.Keyword.{is_keyword}
use Rattle.rp_base.specs.Names.{with_words}
use Rattle.rp_base.specs.declared.value.Line.{Line}
use Rattle.rp_token.specs.declared.fault.TokenFault.{TokenFault}
use Rattle.rp_token.specs.declared.fault.TokenFault.TheVariants as fault
use Rattle.rp_token.specs.declared.token.Token.{Token}
use Rattle.rp_token.specs.Characters.{first, behind_run, is_blank, is_comment, is_line_end, is_numeral, line_end_length}
use Rattle.rp_token.specs.Form.{Form, Item, number, literal, keyword, mark, marks, newline, indent, dedent, end_of_text}
use Rattle.rp_token.specs.Lexer.{Gives}
use Rattle.rp_token.specs.Literal.{Reading, closed, unclosed, bad_escape, literal_behind}
use Rattle.rp_token.specs.NameWords.{name_words, text_words, word_in, words_of}
use Rattle.rp_token.specs.Number.{number_of}
use Rattle.rp_token.specs.Tokens.{State, and_then, at_line, begun, behind_found, behind_line_end, behind_literal, behind_mark, behind_number, behind_reading, behind_token, behind_word, bracketed, closed_to, ending, in_line, indented, is_closing, is_empty_line, is_fresh, is_inside, is_opening, joined, joined_lines, most_brackets, name_of, opening, place, step, taken, taken_or, tokens_of, with_token, word_form}
use Rattle.rp_token.specs.WordSteps.{form_words, front_words}
use Rattle.rp_token.proofs.Steps.{closed_to-left}

-- at the front of a text
pub front_words-word : (cs : List ℕ) → is_start (first cs) ≡ true → front_words cs ≡ form_words (word_form (take_while is_xid_continue cs))
unfolding front_words
front_words-word cs starts = λ k. if starts k then form_words (word_form (take_while is_xid_continue cs)) else []

pub front_words-none : (cs : List ℕ) → is_start (first cs) ≡ false → front_words cs ≡ []
unfolding front_words
front_words-none cs other = λ k. if other k then form_words (word_form (take_while is_xid_continue cs)) else []

-- an ASCII character that is no letter, and not `_`, begins no name
pub is_start-ascii : (c : ℕ) → c < 128 → (c == 95) ≡ false → is_ascii_alphabetic c ≡ false → is_start c ≡ false
is_start-ascii c small other plain = λ k. other k || (is_xid_start-ascii c small ∙ plain) k

-- where no name begins none is added
pub unadded : (names : List (List ℕ)) (cs : List ℕ) (r : Result (Unit {0}) TokenFault) → is_start (first cs) ≡ false → OnOk r (names ≡ with_words names (front_words cs))
unadded names cs (Ok done) other = sym (ap (with_words names) (front_words-none cs other))
unadded names cs (Err f) other = tt

pub unadded-at : (c : ℕ) (names : List (List ℕ)) (cs : List ℕ) (r : Result (Unit {0}) TokenFault) → first cs ≡ c → c < 128 → (c == 95) ≡ false → is_ascii_alphabetic c ≡ false
    → OnOk r (names ≡ with_words names (front_words cs))
unadded-at c names cs r at small other plain = unadded names cs r (ap is_start at ∙ is_start-ascii c small other plain)

-- a keyword is no name
pub word_form-keyword : (word : List ℕ) → is_keyword word ≡ true → form_words (word_form word) ≡ []
word_form-keyword word is = λ k. form_words (if is k then Some (keyword word) else name_of word)

-- the rule adds tokens with these words, where it finds no fault
abbrev pub Adds : State → List (List ℕ) → Result State TokenFault → Type 0
Adds s words (Ok t) = name_words t.items ≡ name_words s.items ++ words
Adds s words (Err f) = Unit {0}

Adds-if : (s : State) (words : List (List ℕ)) (b : Bool) (x y : Result State TokenFault) → (b ≡ true → Adds s words x) → (b ≡ false → Adds s words y) → Adds s words (if b then x else y)
Adds-if s words b x y one other = by b refl
  where
    by : (d : Bool) → b ≡ d → Adds s words (if d then x else y)
    by true e = one e
    by false e = other e

-- no token more
unchanged : (s : State) → name_words s.items ≡ name_words s.items ++ []
unchanged s = sym (append-nil (name_words s.items))

-- a token more
one_more : (s : State) (form : Form) (from to : List ℕ) (line : ℕ) → name_words (with_token form from to line s).items ≡ name_words s.items ++ word_in form
one_more s form from to line =
    let added : Item = record { form = form; from = place s.size from; to = place s.size to; line = line } in
    flat_map-append (λ (t : Item). word_in t.form) s.items (added ∷ []) ∙ ap (λ words. name_words s.items ++ words) (append-nil (word_in form))

line_end-adds : (s : State) → Adds s [] (behind_line_end s)
unfolding behind_line_end
line_end-adds s =
    Adds-if s [] (nat_lt 0 (length s.brackets)) _ _ (λ _. unchanged s)
    (λ _. Adds-if s [] (is_inside s.stage) _ _ (λ _. one_more s newline s.left (drop (line_end_length s.left) s.left) s.line) (λ _. unchanged s))

joined-adds : (s : State) → Adds s [] (joined s)
unfolding joined
joined-adds s = Adds-if s [] (line_end_length (drop 1 s.left) == 0) _ _ (λ _. tt) (λ _. unchanged s)

taken_or-adds : (o : Option Form) (f : Line → TokenFault) (rest : List ℕ) (s : State) → Adds s (form_words o) (taken_or o f rest s)
taken_or-adds (Some form) f rest s = one_more s form s.left rest s.line
taken_or-adds None f rest s = tt

word-adds : (s : State) → is_start (first s.left) ≡ true → Adds s (front_words s.left) (behind_word s)
unfolding behind_word
word-adds s starts =
    let word = take_while is_xid_continue s.left in
    let rest = behind_run is_xid_continue s.left in
    subst (λ words. Adds s words (taken_or (word_form word) fault.BadChar rest s)) (sym (front_words-word s.left starts)) (taken_or-adds (word_form word) fault.BadChar rest s)

number-adds : (s : State) → Adds s [] (behind_number s)
unfolding behind_number
number-adds s = by (number_of (take_while is_numeral s.left))
  where
    by : (o : Option ℕ) → Adds s [] (taken_or (option_map number o) fault.BadNumber (behind_run is_numeral s.left) s)
    by (Some n) = taken_or-adds (Some (number n)) fault.BadNumber (behind_run is_numeral s.left) s
    by None = tt

reading-adds : (r : Reading) (s : State) → Adds s [] (behind_reading r s)
reading-adds (closed value rest lines) s = one_more s (literal value) s.left rest s.line
reading-adds unclosed s = tt
reading-adds (bad_escape lines) s = tt

literal-adds : (s : State) → Adds s [] (behind_literal s)
unfolding behind_literal
literal-adds s = let quotes = opening s.left in reading-adds (literal_behind quotes 0 (drop (length quotes) s.left)) s

found-adds : (m : List ℕ) (s : State) → Adds s [] (and_then (bracketed (first s.left) s) (λ t. Ok (taken (mark m) (drop (length m) s.left) t)))
unfolding bracketed
found-adds m s = by (is_opening (first s.left)) (nat_le most_brackets (length s.brackets)) (is_closing (first s.left))
  where
    by : (opens full closes : Bool) → Adds s [] (and_then (if opens then (if full then Err (fault.Deep (at_line s.line)) else Ok (record s { brackets = s.line ∷ s.brackets }))
        else if closes then Ok (record s { brackets = drop 1 s.brackets }) else Ok s) (λ t. Ok (taken (mark m) (drop (length m) s.left) t)))
    by true true closes = tt
    by true false closes = one_more s (mark m) s.left (drop (length m) s.left) s.line
    by false full true = one_more s (mark m) s.left (drop (length m) s.left) s.line
    by false full false = one_more s (mark m) s.left (drop (length m) s.left) s.line

mark-adds : (s : State) → Adds s [] (behind_mark s)
unfolding behind_mark
mark-adds s = by (find (starts_with nat_eq s.left) marks)
  where
    by : (o : Option (List ℕ)) → Adds s [] (behind_found o s)
    by None = tt
    by (Some m) = found-adds m s

-- where no name begins
Adds-none : (s : State) (r : Result State TokenFault) → is_start (first s.left) ≡ false → Adds s [] r → Adds s (front_words s.left) r
Adds-none s r other adds = subst (λ words. Adds s words r) (sym (front_words-none s.left other)) adds

token-adds : (s : State) → Adds s (front_words s.left) (behind_token s)
unfolding behind_token
token-adds s =
    let c = first s.left in
    Adds-if s (front_words s.left) (is_start c) _ _ (word-adds s)
    (λ other. Adds-none s (if is_ascii_digit c then behind_number s else if (c == 39) || (c == 34) then behind_literal s else behind_mark s) other
    (Adds-if s [] (is_ascii_digit c) _ _ (λ _. number-adds s) (λ _. Adds-if s [] ((c == 39) || (c == 34)) _ _ (λ _. literal-adds s) (λ _. mark-adds s))))

-- what is one of two characters begins no name
neither : (c a b : ℕ) → is_start a ≡ false → is_start b ≡ false → ((c == a) || (c == b)) ≡ true → is_start c ≡ false
neither c a b first second one = by (or_cases (c == a) (c == b) one)
  where
    by : ((c == a) ≡ true) ⊎ ((c == b) ≡ true) → is_start c ≡ false
    by (inl e) = ap is_start (eqb-true c a e) ∙ first
    by (inr e) = ap is_start (eqb-true c b e) ∙ second

pub blank_starts-none : (c : ℕ) → is_blank c ≡ true → is_start c ≡ false
blank_starts-none c blank = neither c 32 9 (is_start-ascii 32 (omega arith) refl refl) (is_start-ascii 9 (omega arith) refl refl) blank

line_end_starts-none : (c : ℕ) → is_line_end c ≡ true → is_start c ≡ false
line_end_starts-none c end = neither c 10 13 (is_start-ascii 10 (omega arith) refl refl) (is_start-ascii 13 (omega arith) refl refl) end

in_line-adds : (s : State) → Adds s (front_words s.left) (in_line s)
unfolding in_line
in_line-adds s =
    let c = first s.left in
    let words = front_words s.left in
    Adds-if s words (is_blank c) _ _ (λ blank. Adds-none s (Ok (record s { left = behind_run is_blank s.left })) (blank_starts-none c blank) (unchanged s))
    (λ _. Adds-if s words (c == 35) _ _
    (λ comment. Adds-none s (Ok (record s { left = behind_run is_comment s.left })) (ap is_start (eqb-true c 35 comment) ∙ is_start-ascii 35 (omega arith) refl refl) (unchanged s))
    (λ _. Adds-if s words (is_line_end c) _ _ (λ end. Adds-none s (behind_line_end s) (line_end_starts-none c end) (line_end-adds s))
    (λ _. Adds-if s words (c == 92) _ _ (λ joins. Adds-none s (joined s) (ap is_start (eqb-true c 92 joins) ∙ is_start-ascii 92 (omega arith) refl refl) (joined-adds s))
    (λ _. token-adds s))))

-- the columns that are closed
closed_to-words : (n : ℕ) (rest : List ℕ) (line : ℕ) (columns : List ℕ) (s : State) → name_words (closed_to n rest line columns s).items ≡ name_words s.items
closed_to-words n rest line [] s = refl
closed_to-words n rest line (c ∷ cs) s = by (closed_to-words n rest line cs (with_token dedent rest rest line s)) (nat_lt n c)
  where
    by : name_words (closed_to n rest line cs (with_token dedent rest rest line s)).items ≡ name_words (with_token dedent rest rest line s).items → (b : Bool)
        → name_words (if b then closed_to n rest line cs (with_token dedent rest rest line s) else record s { columns = c ∷ cs }).items ≡ name_words s.items
    by further true = further ∙ one_more s dedent rest rest line ∙ append-nil (name_words s.items)
    by further false = refl

-- no word more, and as much is left
abbrev pub Begins : State → Result State TokenFault → Type 0
Begins s (Ok t) = (name_words t.items ≡ name_words s.items) × (t.left ≡ s.left)
Begins s (Err f) = Unit {0}

Begins-if : (s : State) (b : Bool) (x y : Result State TokenFault) → Begins s x → Begins s y → Begins s (if b then x else y)
Begins-if s true x y one other = one
Begins-if s false x y one other = other

indented-begins : (n : ℕ) (rest : List ℕ) (s : State) → Begins s (indented n rest s)
unfolding indented
indented-begins n rest s =
    let line = s.line + joined_lines 0 rest in
    let closed = closed_to n rest line s.columns s in
    Begins-if s (nat_lt (first s.columns) n) _ _ (one_more s indent rest rest line ∙ append-nil (name_words s.items), refl)
    (Begins-if s (first closed.columns == n) _ _ (closed_to-words n rest line s.columns s, closed_to-left n rest line s.columns s) tt)

begun-begins : (s : State) → Begins s (begun s)
unfolding begun
begun-begins s =
    let blanks = take_while is_blank s.left in
    let rest = behind_run is_blank s.left in
    Begins-if s (is_empty_line rest) _ _ (refl, refl) (Begins-if s (list_any (λ c. c == 9) blanks) _ _ tt (indented-begins (length blanks) rest s))

-- what is left behind the column
pub begun-left : (s t : State) → begun s ≡ Ok t → t.left ≡ s.left
begun-left s t is = (subst (Begins s) is (begun-begins s)).1

-- from a state with the same words, where as much is left
from_same : (s t : State) (r : Result State TokenFault) → name_words t.items ≡ name_words s.items → t.left ≡ s.left → Adds t (front_words t.left) r → Adds s (front_words s.left) r
from_same s t (Ok u) words left adds = adds ∙ (λ k. words k ++ front_words (left k))
from_same s t (Err f) words left adds = tt

step-adds : (s : State) → Adds s (front_words s.left) (step s)
unfolding step
step-adds s = after (if is_fresh s.stage then begun s else Ok s) (Begins-if s (is_fresh s.stage) (begun s) (Ok s) (begun-begins s) (refl, refl))
  where
    after : (r : Result State TokenFault) → Begins s r → Adds s (front_words s.left) (and_then r in_line)
    after (Ok t) same = from_same s t (in_line t) same.0 same.1 (in_line-adds t)
    after (Err f) same = tt

-- one step
pub step-words : (s t : State) → step s ≡ Ok t → name_words t.items ≡ name_words s.items ++ front_words s.left
step-words s t is = subst (Adds s (front_words s.left)) is (step-adds s)

abbrev Ends : State → Result (List Item) TokenFault → Type 0
Ends s (Ok items) = name_words items ≡ name_words s.items
Ends s (Err f) = Unit {0}

ending-ends : (s : State) → Ends s (ending s)
unfolding ending
ending-ends s = by (nat_lt 0 (length s.brackets)) (is_inside s.stage)
  where
    last : (t : State) → name_words (with_token end_of_text [] [] s.line (closed_to 0 [] s.line s.columns t)).items ≡ name_words t.items
    last t =
        let closed = closed_to 0 [] s.line s.columns t in
        one_more closed end_of_text [] [] s.line ∙ append-nil (name_words closed.items) ∙ closed_to-words 0 [] s.line s.columns t

    by : (b d : Bool) → Ends s (if b then Err (fault.Unclosed (at_line (first s.brackets)))
        else Ok (with_token end_of_text [] [] s.line (closed_to 0 [] s.line s.columns (if d then with_token newline [] [] s.line s else s))).items)
    by true d = tt
    by false true = last (with_token newline [] [] s.line s) ∙ one_more s newline [] [] s.line ∙ append-nil (name_words s.items)
    by false false = last s

-- the words of the tokens at the end are those of the text
pub all_words : (old names : List (List ℕ)) (s : State) (text : List ℕ) (r : Result (Vec Token Global) TokenFault) → Gives names (ending s) r → ending s ≡ tokens_of text
    → names ≡ with_words old (name_words s.items) → OnOk r (names ≡ with_words old (text_words text))
all_words old names s text (Err f) given is words = tt
all_words old names s text (Ok tokens) given is words =
    let same = subst (Ends s) given (ending-ends s) in
    words ∙ ap (with_words old) (sym same ∙ ap words_of (sym given ∙ is))
