-- Each rule of the definition keeps the laws.
use Rattle.std.proofs.Common.{◌≡◌, inr, refl, sym, ap, ◌∙◌, subst, cond, ℕ, ◌+◌, ◌≤◌, ◌==◌, ◌||◌, Bool, true, false, nat_eq, nat_le, nat_lt, if◌then◌else◌, List, [], ◌∷◌, length, take, drop, take_while, find, encode_utf8_all, Option, Some, None, option_map, Result, Ok, Err, arith}
use Rattle.std.specs.Char.{is_ascii_digit}
use Rattle.std.specs.Cmp.Lexicographic.{bytes_decides}
use Rattle.std.specs.List.{list_all, list_any, starts_with}
use Rattle.std.specs.Option.{option_map_or}
use Rattle.std.proofs.lemmas.Bool.{and_parts, leb-false, ltb-true, lt-ltb}
use Rattle.std.proofs.lemmas.List.{length-drop}
use Rattle.rp_base.specs.Identifier.{identifier_of, is_start}
use Rattle.rp_base.specs.Keyword.{is_keyword}
use Rattle.rp_base.specs.declared.value.Line.{Line}
use Rattle.unicode_ident.specs.Ident.{is_xid_continue}
use Rattle.rp_token.specs.declared.fault.TokenFault.{TokenFault}
use Rattle.rp_token.specs.declared.fault.TokenFault.TheVariants as fault
use Rattle.rp_token.specs.Characters.{first, behind_run, is_blank, is_comment, is_line_end, is_numeral, line_end_length}
use Rattle.rp_token.specs.Form.{Form, name, number, literal, keyword, mark, marks, newline, indent, dedent}
use Rattle.rp_token.specs.Literal.{Reading, closed, unclosed, bad_escape}
use Rattle.rp_token.specs.Number.{number_of}
use Rattle.rp_token.specs.Tokens.{State, and_then, at_line, begun, behind_found, behind_line_end, behind_literal, behind_mark, behind_number, behind_reading, behind_token, behind_word, bracketed, closed_to, in_line, indented, is_closing, is_empty_line, is_fresh, is_inside, is_opening, joined, joined_lines, most_brackets, opening, step, taken, taken_or, with_token, word_form}
use Rattle.rp_token.proofs.LawsItems.{Lawful, Lawful-few, Lawful-on, Lawful-push, behind-on, ends_not, ends_not-push, is_dedent_form, is_end_form, is_indent_form, open_behind_form}
use Rattle.rp_token.proofs.Places.{first-take, is_some_mark}
use Rattle.rp_token.proofs.Steps.{IsBehind, ReadingLeaves, behind, closed_to-left, find-passes, literal_behind-leaves}
use Rattle.rp_token.proofs.Texts.{run-over}

abbrev pub are_positive : List ℕ → Bool
are_positive columns = list_all (λ c. nat_lt 0 c) columns

-- The tokens so far are lawful and none is END, where the next lies at a rest of the text or behind it. No open column is 0.
abbrev pub Obeys : List ℕ → List ℕ → State → Type 0
Obeys text rest s =
    (s.size ≡ length (encode_utf8_all text)) × (ends_not s.items ≡ true) × (are_positive s.columns ≡ true) × Lawful text rest s.items (length s.columns) (length s.brackets)

-- the next token lies at what is left, or behind the blanks there
abbrev pub Here : List ℕ → State → Type 0
Here text s = Obeys text s.left s

abbrev pub Ready : List ℕ → State → Type 0
Ready text s = Obeys text (behind_run is_blank s.left) s

-- further on in the text
pub Obeys-on : (text rest further : List ℕ) (s : State) → IsBehind 0 rest further → Obeys text rest s → Obeys text further s
Obeys-on text rest further s less so_far = (so_far.0, so_far.1, so_far.2, Lawful-on text rest further s.items (length s.columns) (length s.brackets) less so_far.3)

pub Ready-from_Here : (text : List ℕ) (s : State) → Here text s → Ready text s
Ready-from_Here text s so_far = Obeys-on text s.left (behind_run is_blank s.left) s (behind 0 (length (take_while is_blank s.left)) s.left (omega arith)) so_far

-- the items with a token more
pub with_token-lawful : (text rest from to : List ℕ) (s : State) (form : Form) (line : ℕ) (columns : List ℕ) → Obeys text rest s → IsBehind 0 rest from → IsBehind 0 from to
    → cond (is_indent_form form) 1 0 + length s.columns ≡ cond (is_dedent_form form) 1 0 + length columns → open_behind_form (length s.brackets) form ≤ most_brackets
    → Lawful text to (with_token form from to line s).items (length columns) (open_behind_form (length s.brackets) form)
with_token-lawful text rest from to s form line columns so_far less longer count few =
    subst (λ n. Lawful text to (with_token form from to line (record s { size = n })).items (length columns) (open_behind_form (length s.brackets) form)) (sym so_far.0)
    (Lawful-push text rest from to s.items (length s.columns) (length s.brackets) (length columns) form line so_far.3 less longer count few)

-- a token more, behind which these columns and brackets are open
Obeys-push : (text rest from to : List ℕ) (s : State) (form : Form) (line : ℕ) (columns brackets : List ℕ) → Obeys text rest s → IsBehind 0 rest from → IsBehind 0 from to → is_end_form form ≡ false → are_positive columns ≡ true
    → cond (is_indent_form form) 1 0 + length s.columns ≡ cond (is_dedent_form form) 1 0 + length columns → open_behind_form (length s.brackets) form ≡ length brackets → length brackets ≤ most_brackets
    → Obeys text to (record (with_token form from to line s) { columns = columns; brackets = brackets })
Obeys-push text rest from to s form line columns brackets so_far less longer other positive count opened few = (
  so_far.0,
  ends_not-push s.items _ so_far.1 other,
  positive,
  subst (Lawful text to (with_token form from to line s).items (length columns)) opened (with_token-lawful text rest from to s form line columns so_far less longer count (subst (λ n. n ≤ most_brackets) (sym opened) few)),
)

-- a form that is no END, no bracket, and begins or ends no block
pub record IsPlain (form : Form) : Type 0 where
  pub other : is_end_form form ≡ false
  pub blocks : (n : ℕ) → cond (is_indent_form form) 1 0 + n ≡ cond (is_dedent_form form) 1 0 + n
  pub brackets : (n : ℕ) → open_behind_form n form ≡ n

abbrev AllPlain : Option Form → Type 0
AllPlain (Some form) = IsPlain form
AllPlain None = Unit {0}

pub plain-newline : IsPlain newline
plain-newline = record { other = refl; blocks = λ n. refl; brackets = λ n. refl }

pub with_token-plain : (text rest from to : List ℕ) (s : State) (form : Form) (line : ℕ) → Obeys text rest s → IsPlain form → IsBehind 0 rest from → IsBehind 0 from to → Obeys text to (with_token form from to line s)
with_token-plain text rest from to s form line so_far plain less longer =
    Obeys-push text rest from to s form line s.columns s.brackets so_far less longer plain.other so_far.2 (plain.blocks (length s.columns)) (plain.brackets (length s.brackets))
    (Lawful-few text rest s.items (length s.columns) (length s.brackets) so_far.3)

taken-plain : (text rest : List ℕ) (form : Form) (s : State) → Here text s → IsPlain form → IsBehind 0 s.left rest → Here text (taken form rest s)
taken-plain text rest form s so_far plain less = with_token-plain text s.left s.left rest s form s.line so_far plain (behind 0 0 s.left (omega arith)) less

-- the rule keeps the laws, where it finds no fault
abbrev pub After : List ℕ → Result State TokenFault → Type 0
After text (Ok t) = Here text t
After text (Err f) = Unit {0}

After-if : (text : List ℕ) (b : Bool) (x y : Result State TokenFault) → (b ≡ true → After text x) → (b ≡ false → After text y) → After text (if b then x else y)
After-if text b x y one other = by b refl
  where
    by : (d : Bool) → b ≡ d → After text (if d then x else y)
    by true e = one e
    by false e = other e

line_end-keeps : (text : List ℕ) (s : State) → Here text s → After text (behind_line_end s)
unfolding behind_line_end
line_end-keeps text s so_far =
    let rest = drop (line_end_length s.left) s.left in
    let less = behind 0 (line_end_length s.left) s.left (omega arith) in
    let on = Obeys-on text s.left rest s less so_far in
    After-if text (nat_lt 0 (length s.brackets)) _ _ (λ _. on)
    (λ _. After-if text (is_inside s.stage) _ _ (λ _. taken-plain text rest newline s so_far plain-newline less) (λ _. on))

joined-keeps : (text : List ℕ) (s : State) → Here text s → After text (joined s)
unfolding joined
joined-keeps text s so_far =
    let next = drop 1 s.left in
    let rest = drop (line_end_length next) next in
    let less = behind-on s.left next rest (behind 0 1 s.left (omega arith)) (behind 0 (line_end_length next) next (omega arith)) in
    After-if text (line_end_length next == 0) _ _ (λ _. tt) (λ _. Obeys-on text s.left rest s less so_far)

taken_or-keeps : (text : List ℕ) (o : Option Form) (f : Line → TokenFault) (rest : List ℕ) (s : State) → Here text s → AllPlain o → IsBehind 0 s.left rest → After text (taken_or o f rest s)
taken_or-keeps text (Some form) f rest s so_far plain less = taken-plain text rest form s so_far plain less
taken_or-keeps text None f rest s so_far plain less = tt

word-plain : (word : List ℕ) → AllPlain (word_form word)
word-plain word = by (is_keyword word) (identifier_of word)
  where
    formed : (form : List ℕ) (b : Bool) → AllPlain (if b then None else Some (name form))
    formed form true = tt
    formed form false = record { other = refl; blocks = λ n. refl; brackets = λ n. refl }

    by : (b : Bool) (o : Option (List ℕ)) → AllPlain (if b then Some (keyword word) else option_map_or (λ form. if is_keyword form then None else Some (name form)) o None)
    by true o = record { other = refl; blocks = λ n. refl; brackets = λ n. refl }
    by false None = tt
    by false (Some form) = formed form (is_keyword form)

number-plain : (o : Option ℕ) → AllPlain (option_map number o)
number-plain None = tt
number-plain (Some n) = record { other = refl; blocks = λ n. refl; brackets = λ n. refl }

word-keeps : (text : List ℕ) (s : State) → Here text s → After text (behind_word s)
unfolding behind_word
word-keeps text s so_far =
    let word = take_while is_xid_continue s.left in
    taken_or-keeps text (word_form word) _ _ s so_far (word-plain word) (behind 0 (length word) s.left (omega arith))

number-keeps : (text : List ℕ) (s : State) → Here text s → After text (behind_number s)
unfolding behind_number
number-keeps text s so_far =
    let word = take_while is_numeral s.left in
    taken_or-keeps text (option_map number (number_of word)) _ _ s so_far (number-plain (number_of word)) (behind 0 (length word) s.left (omega arith))

reading-keeps : (text : List ℕ) (n : ℕ) (r : Reading) (s : State) → Here text s → ReadingLeaves (drop n s.left) r → After text (behind_reading r s)
reading-keeps text n (closed value rest lines) s so_far less =
    taken-plain text rest (literal value) s so_far (record { other = refl; blocks = λ n. refl; brackets = λ n. refl }) (behind-on s.left (drop n s.left) rest (behind 0 n s.left (omega arith)) less)
reading-keeps text n unclosed s so_far less = tt
reading-keeps text n (bad_escape lines) s so_far less = tt

literal-keeps : (text : List ℕ) (s : State) → Here text s → After text (behind_literal s)
unfolding behind_literal
literal-keeps text s so_far =
    let quotes = opening s.left in
    reading-keeps text (length quotes) _ s so_far (literal_behind-leaves quotes 0 (drop (length quotes) s.left))

-- what is found passes the test
find-test : (p : List ℕ → Bool) (xs : List (List ℕ)) (m : List ℕ) → find p xs ≡ Some m → p m ≡ true
find-test p [] m e = cc
find-test p (x ∷ xs) m e = by (find-test p xs m) (p x) refl e
  where
    by : (find p xs ≡ Some m → p m ≡ true) → (b : Bool) → p x ≡ b → cond b (Some x) (find p xs) ≡ Some m → p m ≡ true
    by further true passes e = let same : x ≡ m = cc in ap p (sym same) ∙ passes
    by further false fails e = further e

-- the mark that is found begins as the text does
mark-first : (cs m : List ℕ) → find (starts_with nat_eq cs) marks ≡ Some m → first m ≡ first cs
mark-first cs m e =
    let some = ltb-true 0 (length m) (find-passes is_some_mark (starts_with nat_eq cs) marks m refl e) in
    let front : m ≡ take (length m) cs = (bytes_decides m (take (length m) cs)).0 (find-test (starts_with nat_eq cs) marks m e) in
    ap first front ∙ first-take (length m) cs some

-- a mark, behind which these brackets are open
taken-mark : (text m : List ℕ) (s : State) (brackets : List ℕ) → Here text s → open_behind_form (length s.brackets) (mark m) ≡ length brackets → length brackets ≤ most_brackets
    → Here text (taken (mark m) (drop (length m) s.left) (record s { brackets = brackets }))
taken-mark text m s brackets so_far opened few =
    Obeys-push text s.left s.left (drop (length m) s.left) s (mark m) s.line s.columns brackets so_far (behind 0 0 s.left (omega arith)) (behind 0 (length m) s.left (omega arith)) refl so_far.2 refl opened few

found-keeps : (text m : List ℕ) (s : State) → Here text s → first m ≡ first s.left → After text (and_then (bracketed (first s.left) s) (λ t. Ok (taken (mark m) (drop (length m) s.left) t)))
unfolding bracketed
found-keeps text m s so_far same = by (is_opening (first s.left)) (nat_le most_brackets (length s.brackets)) (is_closing (first s.left)) (ap is_opening same) refl (ap is_closing same)
  where
    n : ℕ
    n = length s.brackets

    by : (opens full closes : Bool) → is_opening (first m) ≡ opens → nat_le most_brackets n ≡ full → is_closing (first m) ≡ closes
        → After text (and_then (if opens then (if full then Err (fault.Deep (at_line s.line)) else Ok (record s { brackets = s.line ∷ s.brackets }))
        else if closes then Ok (record s { brackets = drop 1 s.brackets }) else Ok s) (λ t. Ok (taken (mark m) (drop (length m) s.left) t)))
    by true true closes o f c = tt
    by true false closes o f c =
        let fewer = leb-false most_brackets n f in
        let more : n + 1 ≡ length (s.line ∷ s.brackets) = omega arith in
        taken-mark text m s (s.line ∷ s.brackets) so_far (rw o more) (omega arith)
    by false full true o f c =
        let few = Lawful-few text s.left s.items (length s.columns) n so_far.3 in
        let less = length-drop 1 s.brackets in
        taken-mark text m s (drop 1 s.brackets) so_far (rw (o, c) (sym less)) (omega arith)
    by false full false o f c = taken-mark text m s s.brackets so_far (rw (o, c) refl) (Lawful-few text s.left s.items (length s.columns) n so_far.3)

mark-keeps : (text : List ℕ) (s : State) → Here text s → After text (behind_mark s)
unfolding behind_mark
mark-keeps text s so_far = by (find (starts_with nat_eq s.left) marks) refl
  where
    by : (o : Option (List ℕ)) → find (starts_with nat_eq s.left) marks ≡ o → After text (behind_found o s)
    by None e = tt
    by (Some m) e = found-keeps text m s so_far (mark-first s.left m e)

token-keeps : (text : List ℕ) (s : State) → Here text s → After text (behind_token s)
unfolding behind_token
token-keeps text s so_far =
    After-if text (is_start (first s.left)) _ _ (λ _. word-keeps text s so_far)
    (λ _. After-if text (is_ascii_digit (first s.left)) _ _ (λ _. number-keeps text s so_far)
    (λ _. After-if text ((first s.left == 39) || (first s.left == 34)) _ _ (λ _. literal-keeps text s so_far) (λ _. mark-keeps text s so_far)))

-- where there is no blank, the next token lies at what is left
Here-from_Ready : (text : List ℕ) (s : State) → is_blank (first s.left) ≡ false → Ready text s → Here text s
Here-from_Ready text s plain so_far = subst (λ rest. Obeys text rest s) (ap (λ (run : List ℕ). drop (length run) s.left) (run-over is_blank s.left (inr plain))) so_far

in_line-keeps : (text : List ℕ) (s : State) → Ready text s → After text (in_line s)
unfolding in_line
in_line-keeps text s so_far =
    After-if text (is_blank (first s.left)) _ _ (λ _. so_far)
    (λ plain.
    let here = Here-from_Ready text s plain so_far in
    let comment = take_while is_comment s.left in
    After-if text (first s.left == 35) _ _ (λ _. Obeys-on text s.left (behind_run is_comment s.left) s (behind 0 (length comment) s.left (omega arith)) here)
    (λ _. After-if text (is_line_end (first s.left)) _ _ (λ _. line_end-keeps text s here)
    (λ _. After-if text (first s.left == 92) _ _ (λ _. joined-keeps text s here) (λ _. token-keeps text s here))))

-- a column less, and a token that ends its block
pub closed_to-keeps : (text : List ℕ) (n : ℕ) (rest : List ℕ) (line : ℕ) (columns : List ℕ) (s : State) → Obeys text rest (record s { columns = columns }) → Obeys text rest (closed_to n rest line columns s)
closed_to-keeps text n rest line [] s so_far = so_far
closed_to-keeps text n rest line (c ∷ cs) s so_far =
    let none = behind 0 0 rest (omega arith) in
    let less : 0 + length (c ∷ cs) ≡ 1 + length cs = omega arith in
    let positive = (and_parts (nat_lt 0 c) (are_positive cs) so_far.2).1 in
    let few = Lawful-few text rest s.items (length (c ∷ cs)) (length s.brackets) so_far.3 in
    by (closed_to-keeps text n rest line cs (with_token dedent rest rest line s) (Obeys-push text rest rest rest (record s { columns = c ∷ cs }) dedent line cs s.brackets so_far none none refl positive less refl few)) so_far (nat_lt n c)
  where
    by : Obeys text rest (closed_to n rest line cs (with_token dedent rest rest line s)) → Obeys text rest (record s { columns = c ∷ cs }) → (b : Bool)
        → Obeys text rest (if b then closed_to n rest line cs (with_token dedent rest rest line s) else record s { columns = c ∷ cs })
    by further here true = further
    by further here false = here

-- at the column 0 all are closed
pub closed_to-all : (rest : List ℕ) (line : ℕ) (columns : List ℕ) (s : State) → are_positive columns ≡ true → (closed_to 0 rest line columns s).columns ≡ []
closed_to-all rest line [] s positive = refl
closed_to-all rest line (c ∷ cs) s positive =
    let both = and_parts (nat_lt 0 c) (are_positive cs) positive in
    rw both.0 (closed_to-all rest line cs (with_token dedent rest rest line s) both.1)

-- the laws hold before what is read in a line
abbrev AfterReady : List ℕ → Result State TokenFault → Type 0
AfterReady text (Ok t) = Ready text t
AfterReady text (Err f) = Unit {0}

AfterReady-if : (text : List ℕ) (b : Bool) (x y : Result State TokenFault) → (b ≡ true → AfterReady text x) → (b ≡ false → AfterReady text y) → AfterReady text (if b then x else y)
AfterReady-if text b x y one other = by b refl
  where
    by : (d : Bool) → b ≡ d → AfterReady text (if d then x else y)
    by true e = one e
    by false e = other e

indented-keeps : (text : List ℕ) (n : ℕ) (s : State) → Ready text s → AfterReady text (indented n (behind_run is_blank s.left) s)
unfolding indented
indented-keeps text n s so_far =
    let rest = behind_run is_blank s.left in
    let line = s.line + joined_lines 0 rest in
    let none = behind 0 0 rest (omega arith) in
    let few = Lawful-few text rest s.items (length s.columns) (length s.brackets) so_far.3 in
    AfterReady-if text (nat_lt (first s.columns) n) _ _
    (λ above.
    let most = ltb-true (first s.columns) n above in
    let positive : are_positive (n ∷ s.columns) ≡ true = rw (lt-ltb 0 n (omega arith), so_far.2) refl in
    let count : 1 + length s.columns ≡ 0 + length (n ∷ s.columns) = omega arith in
    Obeys-push text rest rest rest s indent line (n ∷ s.columns) s.brackets so_far none none refl positive count refl few)
    (λ _.
    let left = closed_to-left n rest line s.columns s in
    AfterReady-if text (first (closed_to n rest line s.columns s).columns == n) _ _
    (λ _. subst (λ (cs : List ℕ). Obeys text (behind_run is_blank cs) (closed_to n rest line s.columns s)) (sym left) (closed_to-keeps text n rest line s.columns s so_far)) (λ _. tt))

begun-keeps : (text : List ℕ) (s : State) → Ready text s → AfterReady text (begun s)
unfolding begun
begun-keeps text s so_far =
    AfterReady-if text (is_empty_line (behind_run is_blank s.left)) _ _ (λ _. so_far)
    (λ _. AfterReady-if text (list_any (λ c. c == 9) (take_while is_blank s.left)) _ _ (λ _. tt) (λ _. indented-keeps text (length (take_while is_blank s.left)) s so_far))

-- one step
pub step-keeps : (text : List ℕ) (s : State) → Ready text s → After text (step s)
unfolding step
step-keeps text s so_far = after (if is_fresh s.stage then begun s else Ok s) (AfterReady-if text (is_fresh s.stage) (begun s) (Ok s) (λ _. begun-keeps text s so_far) (λ _. so_far))
  where
    after : (r : Result State TokenFault) → AfterReady text r → After text (and_then r in_line)
    after (Ok t) here = in_line-keeps text t here
    after (Err f) here = tt
