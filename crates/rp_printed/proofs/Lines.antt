-- Lines and blocks: what the columns at the fronts of lines are read to.
use Rattle.std.proofs.Common.{◌≡◌, ◌⊎◌, inl, inr, refl, sym, ap, ◌∙◌, ℕ, zero, suc, ◌+◌, ◌-◌, ◌<◌, ◌≤◌, ◌==◌, Bool}
use Rattle.std.proofs.Common.{true, false, not, nat_lt, lt-ltb}
use Rattle.std.proofs.Common.{List, [], ◌∷◌, ◌++◌, length, codes, take_while, Ok, append-nil, true≢false, if◌then◌else◌}
use Rattle.std.proofs.Common.{arith}
use Rattle.std.specs.List.{list_all, list_any}
use Rattle.std.proofs.lemmas.Bool.{and_parts, ltb-true}
use lib.Utf8.{scalars}
use Rattle.rp_print.specs.Texts.{◌⧺◌, indentation}
use Rattle.rp_token.specs.declared.token.TokenKind.TheVariants as kind
use Rattle.rp_token.specs.Characters.{first, behind_run, is_blank, is_line_end}
use Rattle.rp_token.specs.Form.{Item, newline, indent, dedent, end_of_text}
use Rattle.rp_token.specs.Tokens.{State, and_then, begun, behind_line_end, closed_to, ending, in_line, indented}
use Rattle.rp_token.specs.Tokens.{is_empty_line, is_fresh, joined_lines, place, step, tokens_from, with_token}
use Rattle.rp_token.proofs.Rules.{begun-column, in_line-lf, step-fresh, step-within}
use Rattle.rp_token.proofs.Steps.{tokens_from-step}
use Rattle.rp_printed.proofs.Reading.{Found, Nil, Reads, Tok, fresh, inside, nil, not_fresh, read_from, state_at, token}
use Rattle.rp_printed.proofs.Reading.{within_line}
use Rattle.rp_printed.proofs.Lexemes.{EndsNumber, Opens, equal_self, not-true, run_left, run_taken}
use Rattle.rp_printed.proofs.Marks.{blank_run, no_blank}

-- ---- columns

-- the open columns within so many blocks
abbrev pub columns_at : ℕ → List ℕ
columns_at zero = []
columns_at (suc d) = length (indentation (suc d)) ∷ columns_at d

deeper : (d : ℕ) → length (indentation (suc d)) ≡ suc (suc (suc (suc (length (indentation d)))))
unfolding indentation ◌⧺◌
deeper d = refl

no_column : length (indentation 0) ≡ 0
unfolding indentation
no_column = refl

column_first : (d : ℕ) → first (columns_at d) ≡ length (indentation d)
column_first zero = sym no_column
column_first (suc d) = refl

column_order : (m n : ℕ) → m ≤ n → length (indentation m) ≤ length (indentation n)
column_order zero n le = let none = no_column in omega arith
column_order (suc m) zero le = absurd (omega arith)
column_order (suc m) (suc n) le =
    let less = column_order m n (omega arith) in
    let one = deeper m in
    let other = deeper n in
    omega arith

all_blank : (d : ℕ) → list_all is_blank (indentation d) ≡ true
unfolding indentation ◌⧺◌
all_blank zero = refl
all_blank (suc d) = all_blank d

no_tab : (d : ℕ) → list_any (λ c. c == 9) (indentation d) ≡ false
unfolding indentation ◌⧺◌
no_tab zero = refl
no_tab (suc d) = no_tab d

indentation_scalars : (d : ℕ) → scalars (indentation d) ≡ true
unfolding indentation ◌⧺◌
indentation_scalars zero = refl
indentation_scalars (suc d) = indentation_scalars d

not_below : (n : ℕ) → nat_lt n n ≡ false
not_below n = by (nat_lt n n) refl
  where
    by : (b : Bool) → nat_lt n n ≡ b → b ≡ false
    by false e = refl
    by true e = absurd (let less = ltb-true n n e in omega arith)

not_less : (m n : ℕ) → n ≤ m → nat_lt m n ≡ false
not_less m n le = by (nat_lt m n) refl
  where
    by : (b : Bool) → nat_lt m n ≡ b → b ≡ false
    by false e = refl
    by true e = absurd (let less = ltb-true m n e in omega arith)

-- ---- what may stand behind a line

-- a line of something within so many blocks
abbrev pub StartsAt : ℕ → List ℕ → Type 0
StartsAt d cs = (rest : List ℕ) × Opens rest × (cs ≡ indentation d ++ rest)

-- nothing, or a line within so many blocks at the most
abbrev pub Lines : ℕ → List ℕ → Type 0
Lines d cs = (cs ≡ []) ⊎ ((n : ℕ) × (n ≤ d) × StartsAt n cs)

pub starts_lines : (d : ℕ) (cs : List ℕ) → StartsAt d cs → Lines d cs
starts_lines d cs s = inr (d, omega arith, s)

pub lines_deeper : (d : ℕ) (cs : List ℕ) → Lines d cs → Lines (suc d) cs
lines_deeper d cs (inl e) = inl e
lines_deeper d cs (inr (n, low, s)) = inr (n, omega arith, s)

some_line : (cs : List ℕ) → Opens cs → is_empty_line cs ≡ false
some_line [] e = absurd (true≢false (sym e))
some_line (c ∷ cs) e =
    let h7 = and_parts _ (not (c == 65279)) e in
    let h6 = and_parts _ (not (c == 42)) h7.0 in
    let h5 = and_parts _ (not (c == 61)) h6.0 in
    let h4 = and_parts _ (not (c == 92)) h5.0 in
    let h3 = and_parts _ (not (c == 35)) h4.0 in
    let h2 = and_parts _ (not (c == 0)) h3.0 in
    let h1 = and_parts (not (is_blank c)) (not (is_line_end c)) h2.0 in
    rw (not-true _ h1.1, not-true _ h3.1) refl

some_length : (cs : List ℕ) → Opens cs → 0 < length cs
some_length [] e = absurd (true≢false (sym e))
some_length (c ∷ cs) e = omega arith

longer : (a b : List ℕ) → 0 < length b → 0 < length (a ++ b)
longer [] b some = some
longer (c ∷ cs) b some = omega arith

-- ---- the front of a line

begun_is : (s : State) (n : ℕ) (rest : List ℕ) → s.left ≡ indentation n ++ rest → Opens rest → begun s
    ≡ indented (length (indentation n)) rest s
begun_is s n rest is opens =
    let none = no_blank rest opens in
    begun-column s rest (length (indentation n))
    (sym (ap (behind_run is_blank) is ∙ run_left is_blank (indentation n) rest (all_blank n) none))
    (sym (ap (λ (l : List ℕ). length (take_while is_blank l)) is
    ∙ ap length (run_taken is_blank (indentation n) rest (all_blank n) none)))
    (some_line rest opens)
    (ap (λ (l : List ℕ). list_any (λ c. c == 9) (take_while is_blank l)) is
    ∙ ap (list_any (λ c. c == 9)) (run_taken is_blank (indentation n) rest (all_blank n) none) ∙ no_tab n)

same_line : (size d line : ℕ) (items : List Item) (left rest : List ℕ)
    → indented (length (indentation d)) rest (state_at size (fresh (columns_at d) line) items left)
    ≡ Ok (state_at size (inside (columns_at d) line 0) items left)
unfolding indented begun within_line
same_line size zero line items left rest = rw no_column refl
same_line size (suc d) line items left rest =
    rw (not_below (length (indentation (suc d))), equal_self (length (indentation (suc d)))) refl

-- states that the next step takes to the same
same_step : (s t : State) (left : List ℕ) → 0 < length left → s.left ≡ left → t.left ≡ left → step s ≡ step t
    → tokens_from 0 s left ≡ tokens_from 0 t left
same_step s t [] some here there e = absurd (omega arith)
same_step s t (c ∷ cs) some here there e =
    (λ i. and_then (step (record s { left = sym here i })) (λ u. tokens_from (length cs - length u.left) u cs))
    ∙ (λ i. and_then (e i) (λ u. tokens_from (length cs - length u.left) u cs))
    ∙ (λ i. and_then (step (record t { left = there i })) (λ u. tokens_from (length cs - length u.left) u cs))

begun_step : (s t : State) → is_fresh s.stage ≡ true → is_fresh t.stage ≡ true → begun s ≡ begun t → step s ≡ step t
unfolding step
begun_step s t one other e =
    (λ i. and_then (if one i then begun s else Ok s) in_line) ∙ (λ i. and_then (e i) in_line)
    ∙ (λ i. and_then (if sym other i then begun t else Ok t) in_line)

line_begun : (size d line : ℕ) (items : List Item) (rest : List ℕ) → Opens rest
    → read_from size (fresh (columns_at d) line) items (indentation d ++ rest)
    ≡ read_from size (inside (columns_at d) line 0) items (indentation d ++ rest)
line_begun size d line items rest opens =
    let left = indentation d ++ rest in
    let s = state_at size (fresh (columns_at d) line) items left in
    let t = state_at size (inside (columns_at d) line 0) items left in
    same_step s t left (longer (indentation d) rest (some_length rest opens)) refl refl
    (step-fresh s t refl (begun_is s d rest refl opens ∙ same_line size d line items left rest)
    ∙ sym (step-within t not_fresh))

blanks_passed : (size d line : ℕ) (columns : List ℕ) (items : List Item) (rest : List ℕ) → Opens rest
    → read_from size (inside columns line 0) items (indentation d ++ rest)
    ≡ read_from size (inside columns line 0) items rest
unfolding indentation ◌⧺◌
blanks_passed size zero line columns items rest opens = refl
blanks_passed size (suc d) line columns items rest opens =
    let left = codes "    " ++ (indentation d ++ rest) in
    let s = state_at size (inside columns line 0) items left in
    let t = state_at size (inside columns line 0) items rest in
    tokens_from-step s t (omega arith)
    (step-within s not_fresh ∙ blank_run s (codes "   " ++ (indentation d ++ rest)) rest refl
    (run_left is_blank (indentation (suc d)) rest (all_blank (suc d)) (no_blank rest opens)))

-- ---- blocks begin and end

indented_more : (size d line : ℕ) (items : List Item) (left rest : List ℕ)
    → indented (length (indentation (suc d))) rest (state_at size (fresh (columns_at d) line) items left)
    ≡ Ok (state_at size (inside (columns_at (suc d)) line 0)
    (items ++ record {
      form = indent;
      from = place size rest;
      to = place size rest;
      line = line + joined_lines 0 rest;
    } ∷ []) left)
unfolding indented begun within_line
indented_more size d line items left rest =
    let less : nat_lt (first (columns_at d)) (length (indentation (suc d))) ≡ true =
    rw (column_first d, deeper d) (lt-ltb (length (indentation d)) (suc (suc (suc (suc (length (indentation d))))))
    (omega arith)) in
    rw less refl

block_begun : (size d line : ℕ) (items : List Item) (rest : List ℕ) → Opens rest
    → read_from size (fresh (columns_at d) line) items (indentation (suc d) ++ rest)
    ≡ read_from size (fresh (columns_at (suc d)) line)
    (items ++ record {
      form = indent;
      from = place size rest;
      to = place size rest;
      line = line + joined_lines 0 rest;
    } ∷ []) (indentation (suc d) ++ rest)
block_begun size d line items rest opens =
    let left = indentation (suc d) ++ rest in
    let more = items ++ record {
      form = indent;
      from = place size rest;
      to = place size rest;
      line = line + joined_lines 0 rest;
    } ∷ [] in
    let s = state_at size (fresh (columns_at d) line) items left in
    let t = state_at size (inside (columns_at (suc d)) line 0) more left in
    same_step s t left (longer (indentation (suc d)) rest (some_length rest opens)) refl refl
    (step-fresh s t refl (begun_is s (suc d) rest refl opens ∙ indented_more size d line items left rest)
    ∙ sym (step-within t not_fresh))
    ∙ sym (line_begun size (suc d) line more rest opens)

closed_columns : (n : ℕ) (rest : List ℕ) (line : ℕ) (cs : List ℕ) (s : State) (x : List ℕ)
    → closed_to n rest line cs (record s { columns = x }) ≡ closed_to n rest line cs s
closed_columns n rest line [] s x = refl
closed_columns n rest line (c ∷ cs) s x =
    by (nat_lt n c) (closed_columns n rest line cs (with_token dedent rest rest line s) x)
  where
    by : (b : Bool) → closed_to n rest line cs (record (with_token dedent rest rest line s) { columns = x })
        ≡ closed_to n rest line cs (with_token dedent rest rest line s)
        → (if b then closed_to n rest line cs (with_token dedent rest rest line (record s { columns = x })) else record
        s { columns = c ∷ cs })
        ≡ (if b then closed_to n rest line cs (with_token dedent rest rest line s) else record s { columns = c ∷ cs })
    by true further = further
    by false further = refl

abbrev dedent_at : ℕ → ℕ → List ℕ → Item
dedent_at size line rest = record { form = dedent; from = place size rest; to = place size rest; line = line }

closed_one : (size n d line l : ℕ) (items : List Item) (left rest : List ℕ) → n < length (indentation (suc d))
    → closed_to n rest l (columns_at (suc d)) (state_at size (fresh (columns_at (suc d)) line) items left)
    ≡ closed_to n rest l (columns_at d) (state_at size (fresh (columns_at d) line)
    (items ++ dedent_at size l rest ∷ []) left)
closed_one size n d line l items left rest less =
    rw (lt-ltb n (length (indentation (suc d))) less)
    (closed_columns n rest l (columns_at d) (state_at size (fresh (columns_at d) line)
    (items ++ dedent_at size l rest ∷ []) left) (columns_at (suc d)))

indented_less : (size n d line : ℕ) (items : List Item) (left rest : List ℕ) → n ≤ length (indentation d)
    → indented n rest (state_at size (fresh (columns_at (suc d)) line) items left)
    ≡ indented n rest (state_at size (fresh (columns_at d) line)
    (items ++ dedent_at size (line + joined_lines 0 rest) rest ∷ []) left)
unfolding indented
indented_less size n d line items left rest low =
    let more = deeper d in
    let one : nat_lt (length (indentation (suc d))) n ≡ false =
    not_less (length (indentation (suc d))) n (omega arith) in
    let other : nat_lt (first (columns_at d)) n ≡ false = not_less (first (columns_at d)) n
    (let same = column_first d in omega arith) in
    rw (one, other, closed_one size n d line (line + joined_lines 0 rest) items left rest (omega arith)) refl

block_ended : (size n d line : ℕ) (items : List Item) (rest : List ℕ) → n ≤ d → Opens rest
    → read_from size (fresh (columns_at (suc d)) line) items (indentation n ++ rest)
    ≡ read_from size (fresh (columns_at d) line) (items ++ dedent_at size (line + joined_lines 0 rest) rest ∷ [])
    (indentation n ++ rest)
block_ended size n d line items rest low opens =
    let left = indentation n ++ rest in
    let s = state_at size (fresh (columns_at (suc d)) line) items left in
    let t = state_at size (fresh (columns_at d) line) (items ++ dedent_at size (line + joined_lines 0 rest) rest ∷ [])
    left in
    same_step s t left (longer (indentation n) rest (some_length rest opens)) refl refl
    (begun_step s t refl refl (begun_is s n rest refl opens ∙ indented_less size
    (length (indentation n)) d line items left rest (column_order n d low) ∙ sym (begun_is t n rest refl opens)))

last_block_ended : (size d line : ℕ) (items : List Item)
    → read_from size (fresh (columns_at (suc d)) line) items []
    ≡ read_from size (fresh (columns_at d) line) (items ++ dedent_at size line [] ∷ []) []
unfolding ending
last_block_ended size d line items =
    let some = deeper d in
    λ i. Ok ((with_token end_of_text [] [] line (closed_one size 0 d line line items [] [] (omega arith) i)).items)

pub text_ended : (size line : ℕ) (items : List Item)
    → read_from size (fresh [] line) items []
    ≡ Ok (items ++ record { form = end_of_text; from = place size []; to = place size []; line = line } ∷ [])
unfolding ending
text_ended size line items = refl

-- ---- as readings

newline_passed : (size d line : ℕ) (columns : List ℕ) (items : List Item) (behind : List ℕ)
    → behind_line_end (state_at size (inside columns line 0) items (10 ∷ behind))
    ≡ Ok (state_at size (fresh columns (line + 1))
    (items ++ record { form = newline; from = place size (10 ∷ behind); to = place size behind; line = line } ∷ [])
    behind)
unfolding behind_line_end begun indented within_line
newline_passed size d line columns items behind = refl

module _ (words : List (List ℕ)) (size : ℕ) where
  pub line_start : (d line : ℕ) → Reads words size (StartsAt d) Opens Nil (fresh (columns_at d) line)
      (inside (columns_at d) line 0) (indentation d)
  line_start d line = record {
    begins = λ behind g. (behind, g, refl);
    letters = indentation_scalars d;
    reads = λ items behind g. record {
      more = [];
      goes = line_begun size d line items behind g ∙ blanks_passed size d line (columns_at d) items behind g
          ∙ ap (λ l. read_from size (inside (columns_at d) line 0) l behind) (sym (append-nil items));
      good = tt;
      spelled = λ us. nil;
    };
  }

  pub newline_read : {G : List ℕ → Type 0} (d line : ℕ) → Reads words size EndsNumber G (Tok kind.Newline)
      (inside (columns_at d) line 0) (fresh (columns_at d) (line + 1)) (codes "\n")
  newline_read d line = record {
    begins = λ behind g. refl;
    letters = refl;
    reads = λ items behind g.
        let s = state_at size (inside (columns_at d) line 0) items (10 ∷ behind) in
        let t = state_at size (fresh (columns_at d) (line + 1))
        (items ++ record { form = newline; from = place size (10 ∷ behind); to = place size behind; line = line } ∷
        []) behind in
        record {
          more = record {
            kind = kind.Newline;
            from = place size (10 ∷ behind);
            to = place size behind;
            line = record { 0 = line };
          } ∷ [];
          goes = tokens_from-step s t (omega arith) (step-within s not_fresh ∙ in_line-lf s refl
              ∙ newline_passed size d line (columns_at d) items behind);
          good = (tt, tt);
          spelled = λ us. token refl;
        };
  }

  pub indent_read : (d line : ℕ) → Reads words size (StartsAt (suc d)) (StartsAt (suc d)) (Tok kind.Indent)
      (fresh (columns_at d) line) (fresh (columns_at (suc d)) line) []
  indent_read d line = record {
    begins = λ behind g. g;
    letters = refl;
    reads = λ items behind g. record {
      more = record {
        kind = kind.Indent;
        from = place size g.0;
        to = place size g.0;
        line = record { 0 = line + joined_lines 0 g.0 };
      } ∷ [];
      goes = ap (read_from size (fresh (columns_at d) line) items) g.2 ∙ block_begun size d line items g.0 g.1
          ∙ ap (read_from size (fresh (columns_at (suc d)) line)
          (items ++ record {
            form = indent;
            from = place size g.0;
            to = place size g.0;
            line = line + joined_lines 0 g.0;
          } ∷ [])) (sym g.2);
      good = (tt, tt);
      spelled = λ us. token refl;
    };
  }

  pub dedent_read : (d line : ℕ) → Reads words size (Lines d) (Lines d) (Tok kind.Dedent)
      (fresh (columns_at (suc d)) line) (fresh (columns_at d) line) []
  dedent_read d line = record {
    begins = λ behind g. g;
    letters = refl;
    reads = λ items behind g. found items behind g;
  }
    where
      found : (items : List Item) (behind : List ℕ) → Lines d behind
          → Found words size (Tok kind.Dedent) (fresh (columns_at (suc d)) line)
          (fresh (columns_at d) line) [] items behind
      found items behind (inl e) = record {
        more = record { kind = kind.Dedent; from = place size []; to = place size []; line = record { 0 = line } } ∷ [];
        goes = ap (read_from size (fresh (columns_at (suc d)) line) items) e ∙ last_block_ended size d line items
            ∙ ap (read_from size (fresh (columns_at d) line) (items ++ dedent_at size line [] ∷ [])) (sym e);
        good = (tt, tt);
        spelled = λ us. token refl;
      }
      found items behind (inr (n, low, (rest, opens, e))) = record {
        more = record {
          kind = kind.Dedent;
          from = place size rest;
          to = place size rest;
          line = record { 0 = line + joined_lines 0 rest };
        } ∷ [];
        goes = ap (read_from size (fresh (columns_at (suc d)) line) items) e
            ∙ block_ended size n d line items rest low opens
            ∙ ap (read_from size (fresh (columns_at d) line)
            (items ++ dedent_at size (line + joined_lines 0 rest) rest ∷ [])) (sym e);
        good = (tt, tt);
        spelled = λ us. token refl;
      }
