-- Each step takes characters from the front, so the steps read a text to its end.
use Rattle.std.proofs.Common.{◌≡◌, ◌⊎◌, inl, inr, refl, sym, ap, ◌∙◌, subst, cond, ℕ, zero, suc, ◌<◌, ◌≤◌, ◌+◌, ◌-◌, ◌==◌, Bool, true, false, ◌||◌, nat_eq, nat_le, nat_lt, if◌then◌else◌, List, [], ◌∷◌, length, drop, take_while, find, Option, Some, None, Result, Ok, Err, arith}
use Rattle.std.specs.Char.{is_ascii_alphanumeric, is_ascii_digit}
use Rattle.std.proofs.lemmas.Bool.{and_parts, eqb-true, leb-true, ltb-true, or_cases}
use Rattle.std.specs.List.{list_all, list_any, starts_with}
use Rattle.std.specs.Option.{option_map_or}
use Rattle.std.proofs.lemmas.List.{drop-drop, length-drop}
use Rattle.std.proofs.lemmas.List.Sums.{take_while-cons}
use Rattle.std.proofs.Math.Bool.{or-true}
use Rattle.rp_base.specs.Identifier.{is_start}
use Rattle.rp_token.specs.declared.fault.TokenFault.{TokenFault}
use Rattle.rp_token.specs.declared.fault.TokenFault.TheVariants as fault
use Rattle.rp_token.specs.Characters.{first, is_blank, is_comment, is_line_end, is_numeral, line_end_length, behind_run}
use Rattle.rp_token.specs.Form.{Form, dedent, indent, mark, marks}
use Rattle.rp_token.specs.declared.lexer.Stage.TheVariants as stage
use Rattle.rp_token.specs.Literal.{Reading, closed, unclosed, bad_escape, Escape, escape_of, with_front, literal_behind, line_ends}
use Rattle.rp_token.specs.Tokens.{State, and_then, at_line, begun, behind_found, behind_line_end, behind_literal, behind_mark, behind_number, behind_reading, behind_token, behind_word, bracketed, closed_to, in_line, indented, is_empty_line, is_fresh, is_inside, joined, joined_lines, opening, step, taken, taken_or, tokens_from, with_token}
use Rattle.rp_base.specs.declared.value.Line.{Line}
use Rattle.unicode_ident.specs.Ident.{is_xid_continue, is_xid_start}
use Rattle.unicode_ident.proofs.IdentLemmas.{is_xid_continue-ascii, is_xid_start-is_xid_continue}

-- a text without some characters at its front
pub record IsBehind (least : ℕ) (whole rest : List ℕ) : Type 0 where
  pub count : ℕ
  pub some : least ≤ count
  pub is : rest ≡ drop count whole

pub behind : (least n : ℕ) (cs : List ℕ) → least ≤ n → IsBehind least cs (drop n cs)
behind least n cs some = record { count = n; some = some; is = refl }

-- what is left of what is left
pub behind-behind : (least n : ℕ) (cs rest : List ℕ) → least ≤ n → IsBehind 0 (drop n cs) rest → IsBehind least cs rest
behind-behind least n cs rest some further = record { count = n + further.count; some = omega arith; is = further.is ∙ drop-drop further.count n cs }

-- the rule leaves less, where it finds no fault
abbrev pub Leaves : ℕ → List ℕ → Result State TokenFault → Type 0
Leaves least cs (Ok t) = IsBehind least cs t.left
Leaves least cs (Err f) = Unit {0}

-- the rule leaves these characters
abbrev pub Keeps : List ℕ → Result State TokenFault → Type 0
Keeps cs (Ok t) = t.left ≡ cs
Keeps cs (Err f) = Unit {0}

Leaves-if : (cs : List ℕ) (b : Bool) (x y : Result State TokenFault) → (b ≡ true → Leaves 1 cs x) → (b ≡ false → Leaves 1 cs y) → Leaves 1 cs (if b then x else y)
Leaves-if cs b x y one other = by b refl
  where
    by : (d : Bool) → b ≡ d → Leaves 1 cs (if d then x else y)
    by true e = one e
    by false e = other e

Keeps-if : (cs : List ℕ) (b : Bool) (x y : Result State TokenFault) → Keeps cs x → Keeps cs y → Keeps cs (if b then x else y)
Keeps-if cs b x y one other = by b
  where
    by : (d : Bool) → Keeps cs (if d then x else y)
    by true = one
    by false = other

-- a run of one character or more
run-left : (p : ℕ → Bool) (cs : List ℕ) → 0 < length cs → p (first cs) ≡ true → IsBehind 1 cs (behind_run p cs)
run-left p [] some e = absurd (omega arith)
run-left p (c ∷ cs) some e =
    let run : take_while p (c ∷ cs) ≡ c ∷ take_while p cs = take_while-cons p c cs ∙ (λ k. cond (e k) (c ∷ take_while p cs) []) in
    let longer = ap length run in
    behind 1 (length (take_while p (c ∷ cs))) (c ∷ cs) (omega arith)

-- a line end has a character
line_end-length : (cs : List ℕ) → is_line_end (first cs) ≡ true → 1 ≤ line_end_length cs
line_end-length cs e = by (first cs == 10) (first cs == 13) (first (drop 1 cs) == 10) e
  where
    by : (a b d : Bool) → (a || b) ≡ true → 1 ≤ (if a then 1 else if b then (if d then 2 else 1) else 0)
    by true b d e = omega arith
    by false true true e = omega arith
    by false true false e = omega arith
    by false false d e = cc

line_end-leaves : (s : State) → is_line_end (first s.left) ≡ true → Leaves 1 s.left (behind_line_end s)
unfolding behind_line_end
line_end-leaves s e =
    let less = behind 1 (line_end_length s.left) s.left (line_end-length s.left e) in
    Leaves-if s.left (nat_lt 0 (length s.brackets)) _ _ (λ _. less) (λ _. Leaves-if s.left (is_inside s.stage) _ _ (λ _. less) (λ _. less))

joined-leaves : (s : State) → Leaves 1 s.left (joined s)
unfolding joined
joined-leaves s =
    Leaves-if s.left (line_end_length (drop 1 s.left) == 0) _ _ (λ _. tt) (λ _. behind-behind 1 1 s.left _ (omega arith) (behind 0 (line_end_length (drop 1 s.left)) (drop 1 s.left) (omega arith)))

taken_or-leaves : (o : Option Form) (f : Line → TokenFault) (rest : List ℕ) (s : State) → IsBehind 1 s.left rest → Leaves 1 s.left (taken_or o f rest s)
taken_or-leaves (Some form) f rest s less = less
taken_or-leaves None f rest s less = tt

-- a word begins with what may continue it
pub starts-continues : (c : ℕ) → is_start c ≡ true → is_xid_continue c ≡ true
starts-continues c e = by (or_cases (c == 95) (is_xid_start c) e)
  where
    by : ((c == 95) ≡ true) ⊎ (is_xid_start c ≡ true) → is_xid_continue c ≡ true
    by (inl low) = let is = eqb-true c 95 low in is_xid_continue-ascii c (omega arith) ∙ rw low (or-true (is_ascii_alphanumeric c))
    by (inr start) = is_xid_start-is_xid_continue c start

-- a digit is a character of a number
pub digit-numeral : (c : ℕ) → is_ascii_digit c ≡ true → is_numeral c ≡ true
digit-numeral c e =
    let most = leb-true c 57 (and_parts (nat_le 48 c) (nat_le c 57) e).1 in
    let letter : is_xid_continue c ≡ true = is_xid_continue-ascii c (omega arith) ∙ rw e refl in
    rw letter (or-true (c == 46))

word-leaves : (s : State) → 0 < length s.left → is_start (first s.left) ≡ true → Leaves 1 s.left (behind_word s)
unfolding behind_word
word-leaves s some e = taken_or-leaves _ _ _ s (run-left is_xid_continue s.left some (starts-continues (first s.left) e))

number-leaves : (s : State) → 0 < length s.left → is_ascii_digit (first s.left) ≡ true → Leaves 1 s.left (behind_number s)
unfolding behind_number
number-leaves s some e = taken_or-leaves _ _ _ s (run-left is_numeral s.left some (digit-numeral (first s.left) e))

-- what is left behind a literal
abbrev pub ReadingLeaves : List ℕ → Reading → Type 0
ReadingLeaves cs (closed value rest lines) = IsBehind 0 cs rest
ReadingLeaves cs unclosed = Unit {0}
ReadingLeaves cs (bad_escape lines) = Unit {0}

with_front-leaves : (c : ℕ) (cs front : List ℕ) (lines : ℕ) (r : Reading) → ReadingLeaves cs r → ReadingLeaves (c ∷ cs) (with_front front lines r)
with_front-leaves c cs front lines (closed value rest more) less = record { count = suc less.count; some = omega arith; is = less.is }
with_front-leaves c cs front lines unclosed less = tt
with_front-leaves c cs front lines (bad_escape more) less = tt

passed-leaves : (c : ℕ) (cs : List ℕ) (r : Reading) → ReadingLeaves cs r → ReadingLeaves (c ∷ cs) r
passed-leaves c cs (closed value rest more) less = record { count = suc less.count; some = omega arith; is = less.is }
passed-leaves c cs unclosed less = tt
passed-leaves c cs (bad_escape more) less = tt

pub literal_behind-leaves : (quotes : List ℕ) (n : ℕ) (cs : List ℕ) → ReadingLeaves cs (literal_behind quotes n cs)
literal_behind-leaves quotes n [] = tt
literal_behind-leaves quotes (suc n) (c ∷ cs) = passed-leaves c cs _ (literal_behind-leaves quotes n cs)
literal_behind-leaves quotes zero (c ∷ cs) =
    by (λ (n : ℕ). literal_behind-leaves quotes n cs) (starts_with nat_eq (c ∷ cs) quotes) (c == 92) (length cs == 0) (escape_of cs) (line_end_length (c ∷ cs) == 0) (length quotes == 1)
  where
    by : ((n : ℕ) → ReadingLeaves cs (literal_behind quotes n cs)) → (ends backslash last : Bool) (escape : Option Escape) (plain one : Bool) → ReadingLeaves (c ∷ cs)
        (if ends then closed [] (drop (length quotes) (c ∷ cs)) 0
        else if backslash then
        (if last then unclosed
        else option_map_or (λ e. with_front e.stands_for (line_ends cs) (literal_behind quotes e.taken cs)) escape (bad_escape 0))
        else if plain then with_front (c ∷ []) 0 (literal_behind quotes 0 cs)
        else if one then unclosed
        else with_front (10 ∷ []) 1 (literal_behind quotes (line_end_length (c ∷ cs) - 1) cs))
    by further true backslash last escape plain one = behind 0 (length quotes) (c ∷ cs) (omega arith)
    by further false true true escape plain one = tt
    by further false true false None plain one = tt
    by further false true false (Some e) plain one = with_front-leaves c cs e.stands_for (line_ends cs) _ (further e.taken)
    by further false false last escape true one = with_front-leaves c cs (c ∷ []) 0 _ (further 0)
    by further false false last escape false true = tt
    by further false false last escape false false = with_front-leaves c cs (10 ∷ []) 1 _ (further (line_end_length (c ∷ cs) - 1))

opening-length : (cs : List ℕ) → 1 ≤ length (opening cs)
opening-length cs = by (starts_with nat_eq cs (first cs ∷ first cs ∷ first cs ∷ []))
  where
    by : (b : Bool) → 1 ≤ length (if b then first cs ∷ first cs ∷ first cs ∷ [] else first cs ∷ [])
    by true = omega arith
    by false = omega arith

reading-leaves : (n : ℕ) (r : Reading) (s : State) → 1 ≤ n → ReadingLeaves (drop n s.left) r → Leaves 1 s.left (behind_reading r s)
reading-leaves n (closed value rest lines) s some less = behind-behind 1 n s.left rest some less
reading-leaves n unclosed s some less = tt
reading-leaves n (bad_escape lines) s some less = tt

literal-leaves : (s : State) → Leaves 1 s.left (behind_literal s)
unfolding behind_literal
literal-leaves s =
    let n = length (opening s.left) in
    reading-leaves n _ s (opening-length s.left) (literal_behind-leaves (opening s.left) 0 (drop n s.left))

-- what is found passes where all pass
pub find-passes : (q p : List ℕ → Bool) (xs : List (List ℕ)) (m : List ℕ) → list_all q xs ≡ true → find p xs ≡ Some m → q m ≡ true
find-passes q p [] m all e = cc
find-passes q p (x ∷ xs) m all e =
    by (find-passes q p xs m (and_parts (q x) (list_all q xs) all).1) (p x) e
  where
    by : (find p xs ≡ Some m → q m ≡ true) → (b : Bool) → cond b (Some x) (find p xs) ≡ Some m → q m ≡ true
    by further true e = let same : x ≡ m = cc in ap q (sym same) ∙ (and_parts (q x) (list_all q xs) all).0
    by further false e = further e

mark-leaves : (s : State) → Leaves 1 s.left (behind_mark s)
unfolding behind_mark
mark-leaves s = by (find (starts_with nat_eq s.left) marks) refl
  where
    after : (r : Result State TokenFault) (m : List ℕ) → 1 ≤ length m → Leaves 1 s.left (and_then r (λ (t : State). Ok (taken (mark m) (drop (length m) s.left) t)))
    after (Ok t) m some = behind 1 (length m) s.left some
    after (Err f) m some = tt

    by : (o : Option (List ℕ)) → find (starts_with nat_eq s.left) marks ≡ o → Leaves 1 s.left (behind_found o s)
    by None e = tt
    by (Some m) e =
        let some = ltb-true 0 (length m) (find-passes (λ (m : List ℕ). nat_lt 0 (length m)) (starts_with nat_eq s.left) marks m refl e) in
        after (bracketed (first s.left) s) m (omega arith)

token-leaves : (s : State) → 0 < length s.left → Leaves 1 s.left (behind_token s)
unfolding behind_token
token-leaves s some =
    Leaves-if s.left (is_start (first s.left)) _ _ (word-leaves s some)
    (λ _. Leaves-if s.left (is_ascii_digit (first s.left)) _ _ (number-leaves s some)
    (λ _. Leaves-if s.left ((first s.left == 39) || (first s.left == 34)) _ _ (λ _. literal-leaves s) (λ _. mark-leaves s)))

in_line-leaves : (s : State) → 0 < length s.left → Leaves 1 s.left (in_line s)
unfolding in_line
in_line-leaves s some =
    Leaves-if s.left (is_blank (first s.left)) _ _ (run-left is_blank s.left some)
    (λ _. Leaves-if s.left (first s.left == 35) _ _ (λ e. run-left is_comment s.left some (rw (eqb-true (first s.left) 35 e) refl))
    (λ _. Leaves-if s.left (is_line_end (first s.left)) _ _ (line_end-leaves s)
    (λ _. Leaves-if s.left (first s.left == 92) _ _ (λ _. joined-leaves s) (λ _. token-leaves s some))))

-- before a logical line nothing is taken
pub closed_to-left : (n : ℕ) (rest : List ℕ) (line : ℕ) (columns : List ℕ) (s : State) → (closed_to n rest line columns s).left ≡ s.left
closed_to-left n rest line [] s = refl
closed_to-left n rest line (c ∷ cs) s = by (closed_to-left n rest line cs (with_token dedent rest rest line s)) (nat_lt n c)
  where
    by : (closed_to n rest line cs (with_token dedent rest rest line s)).left ≡ s.left → (b : Bool)
        → (if b then closed_to n rest line cs (with_token dedent rest rest line s) else record s { columns = c ∷ cs }).left ≡ s.left
    by further true = further
    by further false = refl

indented-keeps : (n : ℕ) (rest : List ℕ) (s : State) → Keeps s.left (indented n rest s)
unfolding indented
indented-keeps n rest s =
    let line = s.line + joined_lines 0 rest in
    Keeps-if s.left (nat_lt (first s.columns) n) (Ok (record (with_token indent rest rest line s) { columns = n ∷ s.columns; stage = stage.Inside })) _ refl
    (Keeps-if s.left (first (closed_to n rest line s.columns s).columns == n) (Ok (record (closed_to n rest line s.columns s) { stage = stage.Inside })) (Err (fault.Dedent (at_line s.line)))
    (closed_to-left n rest line s.columns s) tt)

begun-keeps : (s : State) → Keeps s.left (begun s)
unfolding begun
begun-keeps s =
    Keeps-if s.left (is_empty_line (behind_run is_blank s.left)) (Ok (record s { stage = stage.Empty })) _ refl
    (Keeps-if s.left (list_any (λ c. c == 9) (take_while is_blank s.left)) (Err (fault.Tab (at_line s.line))) _ tt
    (indented-keeps (length (take_while is_blank s.left)) (behind_run is_blank s.left) s))

step-leaves : (s : State) → 0 < length s.left → Leaves 1 s.left (step s)
unfolding step
step-leaves s some = after (if is_fresh s.stage then begun s else Ok s) (Keeps-if s.left (is_fresh s.stage) (begun s) (Ok s) (begun-keeps s) refl)
  where
    after : (r : Result State TokenFault) → Keeps s.left r → Leaves 1 s.left (and_then r in_line)
    after (Ok t) same = subst (λ (cs : List ℕ). Leaves 1 cs (in_line t)) same (in_line-leaves t (subst (λ (cs : List ℕ). 0 < length cs) (sym same) some))
    after (Err f) same = tt

-- one step
pub step-left : (s t : State) → 0 < length s.left → step s ≡ Ok t → IsBehind 1 s.left t.left
step-left s t some is = subst (Leaves 1 s.left) is (step-leaves s some)

-- how much was passed over
pub drop-difference : (n : ℕ) (cs : List ℕ) → drop (length cs - length (drop n cs)) cs ≡ drop n cs
drop-difference zero cs = let none : length cs - length cs ≡ 0 = omega arith in rw none refl
drop-difference (suc n) [] = refl
drop-difference (suc n) (c ∷ cs) =
    let more : suc (length cs) - length (drop n cs) ≡ suc (length cs - length (drop n cs)) = omega (arith, length-drop n cs) in
    rw more (drop-difference n cs)

tokens_from-passed : (n : ℕ) (s : State) (cs : List ℕ) → tokens_from n s cs ≡ tokens_from 0 s (drop n cs)
tokens_from-passed zero s cs = refl
tokens_from-passed (suc n) s [] = refl
tokens_from-passed (suc n) s (c ∷ cs) = tokens_from-passed n s cs

pub drop-behind : (n c : ℕ) (cs : List ℕ) → 1 ≤ n → drop n (c ∷ cs) ≡ drop (n - 1) cs
drop-behind zero c cs some = absurd (omega arith)
drop-behind (suc n) c cs some = let less : suc n - 1 ≡ n = omega arith in rw less refl

-- after a step the same tokens are to come
pub tokens_from-step : (s t : State) → 0 < length s.left → step s ≡ Ok t → tokens_from 0 s s.left ≡ tokens_from 0 t t.left
tokens_from-step s t some is = by s.left refl some (step-left s t some is)
  where
    by : (cs : List ℕ) → s.left ≡ cs → 0 < length cs → IsBehind 1 cs t.left → tokens_from 0 s cs ≡ tokens_from 0 t t.left
    by [] e some less = absurd (omega arith)
    by (c ∷ cs) e some less =
        let count : (less.count - 1) + 1 ≡ less.count = let most = less.some in omega arith in
        let rest : t.left ≡ drop (less.count - 1) cs = less.is ∙ drop-behind less.count c cs less.some in
        let here : step (record s { left = c ∷ cs }) ≡ Ok t = (λ k. step (record s { left = sym e k })) ∙ is in
        (λ k. and_then (here k) (λ u. tokens_from (length cs - length u.left) u cs))
        ∙ tokens_from-passed (length cs - length t.left) t cs
        ∙ ap (tokens_from 0 t) ((λ k. drop (length cs - length (rest k)) cs) ∙ drop-difference (less.count - 1) cs ∙ sym rest)

pub tokens_from-fault : (s : State) (f : TokenFault) → 0 < length s.left → step s ≡ Err f → tokens_from 0 s s.left ≡ Err f
tokens_from-fault s f some is = by s.left refl some
  where
    by : (cs : List ℕ) → s.left ≡ cs → 0 < length cs → tokens_from 0 s cs ≡ Err f
    by [] e some = absurd (omega arith)
    by (c ∷ cs) e some =
        let here : step (record s { left = c ∷ cs }) ≡ Err f = (λ k. step (record s { left = sym e k })) ∙ is in
        (λ k. and_then (here k) (λ u. tokens_from (length cs - length u.left) u cs))
