-- A text literal that is printed is read back, escapes and all.
use Rattle.std.proofs.Common.{◌≡◌, inl, inr, refl, sym, ap, ◌∙◌, subst, ℕ, suc, ◌+◌, ◌*◌, ◌/◌, ◌%◌, ◌<◌, ◌==◌, Bool}
use Rattle.std.proofs.Common.{true, false, ◌&&◌, ◌||◌, not, nat_eq, nat_lt, if◌then◌else◌}
use Rattle.std.proofs.Common.{List, [], ◌∷◌, ◌++◌, length, drop, codes, Some, Ok, append_assoc, lt-ltb, arith, add-zero}
use Rattle.std.specs.Char.{digit_char, digit_value}
use Rattle.std.proofs.lemmas.Bool.{and_parts, eqb-true, ltb-true, or_cases, or_parts}
use Rattle.std.proofs.lemmas.Str.{digit_value-digit_char}
use lib.Utf8.{low_scalar, scalar, scalars}
use Rattle.rp_base.specs.Identifier.{is_start}
use Rattle.rp_show.specs.Shown.{apostrophe, escaped, escaped_all, holds, is_control, quote, quoted}
use Rattle.rp_token.specs.declared.token.TokenKind.TheVariants as kind
use Rattle.rp_token.specs.Characters.{first}
use Rattle.rp_token.specs.Form.{literal}
use Rattle.rp_token.specs.Literal.{closed, literal_behind, numbered, with_front}
use Rattle.rp_token.specs.Tokens.{State, behind_literal, behind_reading, in_line, opening, taken}
use Rattle.rp_token.proofs.Rules.{behind_token-literal, in_line-token, step-within}
use Rattle.unicode_ident.proofs.IdentLemmas.{is_xid_start-ascii}
use Rattle.rp_printed.proofs.Reading.{Reads, Tok, one_token, scalars-append, state_at, inside, not_fresh}
use Rattle.rp_printed.proofs.Lexemes.{EndsWord, Opens, not-true, not_empty, opens_operand, turned}

-- the quote, by whether it is the double one
abbrev quote_by : Bool → ℕ
quote_by true = 34
quote_by false = 39

abbrev quotes_by : Bool → List ℕ
quotes_by b = quote_by b ∷ []

-- ---- each character

-- behind the closing quote
closes : (b : Bool) (behind : List ℕ) → literal_behind (quotes_by b) 0 (quote_by b ∷ behind) ≡ closed [] behind 0
closes true behind = refl
closes false behind = refl

backslash_back : (b : Bool) (rest text behind : List ℕ) → literal_behind (quotes_by b) 0 rest ≡ closed text behind 0
    → literal_behind (quotes_by b) 0 (92 ∷ 92 ∷ rest) ≡ closed (92 ∷ text) behind 0
backslash_back true rest text behind e = rw (not_empty (length rest)) (λ i. with_front (92 ∷ []) 0 (e i))
backslash_back false rest text behind e = rw (not_empty (length rest)) (λ i. with_front (92 ∷ []) 0 (e i))

quote_back : (b : Bool) (rest text behind : List ℕ) → literal_behind (quotes_by b) 0 rest ≡ closed text behind 0
    → literal_behind (quotes_by b) 0 (92 ∷ quote_by b ∷ rest) ≡ closed (quote_by b ∷ text) behind 0
quote_back true rest text behind e = rw (not_empty (length rest)) (λ i. with_front (34 ∷ []) 0 (e i))
quote_back false rest text behind e = rw (not_empty (length rest)) (λ i. with_front (39 ∷ []) 0 (e i))

newline_back : (b : Bool) (rest text behind : List ℕ) → literal_behind (quotes_by b) 0 rest ≡ closed text behind 0
    → literal_behind (quotes_by b) 0 (92 ∷ 110 ∷ rest) ≡ closed (10 ∷ text) behind 0
newline_back true rest text behind e = rw (not_empty (length rest)) (λ i. with_front (10 ∷ []) 0 (e i))
newline_back false rest text behind e = rw (not_empty (length rest)) (λ i. with_front (10 ∷ []) 0 (e i))

return_back : (b : Bool) (rest text behind : List ℕ) → literal_behind (quotes_by b) 0 rest ≡ closed text behind 0
    → literal_behind (quotes_by b) 0 (92 ∷ 114 ∷ rest) ≡ closed (13 ∷ text) behind 0
return_back true rest text behind e = rw (not_empty (length rest)) (λ i. with_front (13 ∷ []) 0 (e i))
return_back false rest text behind e = rw (not_empty (length rest)) (λ i. with_front (13 ∷ []) 0 (e i))

tab_back : (b : Bool) (rest text behind : List ℕ) → literal_behind (quotes_by b) 0 rest ≡ closed text behind 0
    → literal_behind (quotes_by b) 0 (92 ∷ 116 ∷ rest) ≡ closed (9 ∷ text) behind 0
tab_back true rest text behind e = rw (not_empty (length rest)) (λ i. with_front (9 ∷ []) 0 (e i))
tab_back false rest text behind e = rw (not_empty (length rest)) (λ i. with_front (9 ∷ []) 0 (e i))

-- two hexadecimal digits
numbered_back : (c : ℕ) (rest : List ℕ) → c < 256 → numbered 2 (digit_char (c / 16) ∷ digit_char (c % 16) ∷ rest)
    ≡ Some (record { stands_for = c ∷ []; taken = 3 })
numbered_back c rest small =
    let high : c / 16 < 16 = omega arith in
    let low : c % 16 < 16 = omega arith in
    let h : digit_value (digit_char (c / 16)) ≡ c / 16 = digit_value-digit_char (c / 16) (omega arith) in
    let l : digit_value (digit_char (c % 16)) ≡ c % 16 = digit_value-digit_char (c % 16) (omega arith) in
    let sum : (0 * 16 + c / 16) * 16 + c % 16 ≡ c = omega arith in
    rw (h, l, sum, lt-ltb (c / 16) 16 high, lt-ltb (c % 16) 16 low, low_scalar c (omega arith)) refl

control_back : (b : Bool) (c : ℕ) (rest text behind : List ℕ) → c < 256 → literal_behind (quotes_by b) 0 rest
    ≡ closed text behind 0
    → literal_behind (quotes_by b) 0 (92 ∷ 120 ∷ digit_char (c / 16) ∷ digit_char (c % 16) ∷ rest)
    ≡ closed (c ∷ text) behind 0
control_back true c rest text behind small e = rw (not_empty (suc (suc (length rest))), numbered_back c rest small)
    (λ i. with_front (c ∷ []) 0 (e i))
control_back false c rest text behind small e = rw (not_empty (suc (suc (length rest))), numbered_back c rest small)
    (λ i. with_front (c ∷ []) 0 (e i))

plain_back : (b : Bool) (c : ℕ) (rest text behind : List ℕ) → (c == 92) ≡ false → (c == quote_by b) ≡ false → (c == 10)
    ≡ false → (c == 13) ≡ false
    → literal_behind (quotes_by b) 0 rest ≡ closed text behind 0 → literal_behind (quotes_by b) 0 (c ∷ rest)
    ≡ closed (c ∷ text) behind 0
plain_back true c rest text behind slash mark line return e =
    rw (slash, turned c _ mark, line, return) (λ i. with_front (c ∷ []) 0 (e i))
plain_back false c rest text behind slash mark line return e =
    rw (slash, turned c _ mark, line, return) (λ i. with_front (c ∷ []) 0 (e i))

control_small : (c : ℕ) → is_control c ≡ true → c < 256
control_small c h =
    elim (or_cases (nat_lt c 32) (c == 127) h) [
      | inl low ↦ let less = ltb-true c 32 low in omega arith
      | inr is ↦ let same = eqb-true c 127 is in omega arith
    ]

-- one character behind another
escaped_back : (b : Bool) (c : ℕ) (rest text behind : List ℕ) → literal_behind (quotes_by b) 0 rest
    ≡ closed text behind 0
    → literal_behind (quotes_by b) 0 (escaped (quote_by b) c ++ rest) ≡ closed (c ∷ text) behind 0
escaped_back b c rest text behind e =
    by (c == 92) (c == quote_by b) (c == 10) (c == 13) (c == 9) (is_control c) refl refl refl refl refl refl
  where
    by : (slash mark line return tabbed control : Bool) → (c == 92) ≡ slash → (c == quote_by b) ≡ mark → (c == 10)
        ≡ line → (c == 13) ≡ return → (c == 9) ≡ tabbed → is_control c ≡ control
        → literal_behind (quotes_by b) 0
        ((if slash || mark then 92 ∷ c ∷ [] else if line then codes "\\n" else if return then codes "\\r" else if
        tabbed then codes "\\t"
        else if control then codes "\\x" ++ digit_char (c / 16) ∷ digit_char (c % 16) ∷ [] else c ∷ []) ++ rest)
        ≡ closed (c ∷ text) behind 0
    by true mark line return tabbed control h1 h2 h3 h4 h5 h6 =
        subst (λ (d : ℕ). literal_behind (quotes_by b) 0 (92 ∷ d ∷ rest) ≡ closed (d ∷ text) behind 0)
        (sym (eqb-true c 92 h1)) (backslash_back b rest text behind e)
    by false true line return tabbed control h1 h2 h3 h4 h5 h6 =
        subst (λ (d : ℕ). literal_behind (quotes_by b) 0 (92 ∷ d ∷ rest) ≡ closed (d ∷ text) behind 0)
        (sym (eqb-true c (quote_by b) h2)) (quote_back b rest text behind e)
    by false false true return tabbed control h1 h2 h3 h4 h5 h6 =
        newline_back b rest text behind e ∙ (λ i. closed (sym (eqb-true c 10 h3) i ∷ text) behind 0)
    by false false false true tabbed control h1 h2 h3 h4 h5 h6 =
        return_back b rest text behind e ∙ (λ i. closed (sym (eqb-true c 13 h4) i ∷ text) behind 0)
    by false false false false true control h1 h2 h3 h4 h5 h6 =
        tab_back b rest text behind e ∙ (λ i. closed (sym (eqb-true c 9 h5) i ∷ text) behind 0)
    by false false false false false true h1 h2 h3 h4 h5 h6 = control_back b c rest text behind (control_small c h6) e
    by false false false false false false h1 h2 h3 h4 h5 h6 = plain_back b c rest text behind h1 h2 h3 h4 e

-- all of them, and the closing quote
pub all_back : (b : Bool) (t behind : List ℕ) → literal_behind (quotes_by b) 0
    (escaped_all (quote_by b) t ++ (quote_by b ∷ behind)) ≡ closed t behind 0
all_back b [] behind = closes b behind
all_back b (c ∷ cs) behind =
    rw (append_assoc (escaped (quote_by b) c) (escaped_all (quote_by b) cs) (quote_by b ∷ behind))
    (escaped_back b c (escaped_all (quote_by b) cs ++ (quote_by b ∷ behind)) cs behind (all_back b cs behind))

-- ---- the opening quote is no front of three

-- the first character of an escaped one is no quote
escaped_first : (b : Bool) (c : ℕ) (rest : List ℕ) → nat_eq (quote_by b) (first (escaped (quote_by b) c ++ rest))
    ≡ false
escaped_first b c rest = by b (c == 92) (c == quote_by b) (c == 10) (c == 13) (c == 9) (is_control c) refl
  where
    by : (b : Bool) (slash mark line return tabbed control : Bool) → (c == quote_by b) ≡ mark
        → nat_eq (quote_by b)
        (first ((if slash || mark then 92 ∷ c ∷ [] else if line then codes "\\n" else if return then codes "\\r"
        else if tabbed then codes "\\t"
        else if control then codes "\\x" ++ digit_char (c / 16) ∷ digit_char (c % 16) ∷ [] else c ∷ []) ++ rest))
        ≡ false
    by true true mark line return tabbed control h = refl
    by true false true line return tabbed control h = refl
    by true false false true return tabbed control h = refl
    by true false false false true tabbed control h = refl
    by true false false false false true control h = refl
    by true false false false false false true h = refl
    by true false false false false false false h = turned c 34 h
    by false true mark line return tabbed control h = refl
    by false false true line return tabbed control h = refl
    by false false false true return tabbed control h = refl
    by false false false false true tabbed control h = refl
    by false false false false false true control h = refl
    by false false false false false false true h = refl
    by false false false false false false false h = turned c 39 h

-- what begins with one quote and another character, or with two and another
first_differs : (b : Bool) (cs : List ℕ) → nat_eq (quote_by b) (first cs) ≡ false → opening (quote_by b ∷ cs)
    ≡ quotes_by b
first_differs true [] e = refl
first_differs false [] e = refl
first_differs true (c ∷ cs) e = rw e refl
first_differs false (c ∷ cs) e = rw e refl

second_differs : (b : Bool) (behind : List ℕ) → nat_eq (quote_by b) (first behind) ≡ false
    → opening (quote_by b ∷ quote_by b ∷ behind) ≡ quotes_by b
second_differs true [] e = refl
second_differs false [] e = refl
second_differs true (c ∷ cs) e = rw e refl
second_differs false (c ∷ cs) e = rw e refl

ends_quote : (b : Bool) (behind : List ℕ) → EndsWord behind → nat_eq (quote_by b) (first behind) ≡ false
ends_quote b behind g =
    let c = first behind in
    let parts = or_parts (c == 39) (c == 34) (not-true _ (and_parts _ (not ((c == 39) || (c == 34))) g).1) in
    by b parts.0 parts.1
  where
    by : (b : Bool) → (first behind == 39) ≡ false → (first behind == 34) ≡ false → nat_eq (quote_by b) (first behind)
        ≡ false
    by true one other = turned (first behind) 34 other
    by false one other = turned (first behind) 39 one

opens_once : (b : Bool) (t behind : List ℕ) → EndsWord behind
    → opening (quote_by b ∷ (escaped_all (quote_by b) t ++ (quote_by b ∷ behind))) ≡ quotes_by b
opens_once b [] behind g = second_differs b behind (ends_quote b behind g)
opens_once b (c ∷ cs) behind g =
    rw (append_assoc (escaped (quote_by b) c) (escaped_all (quote_by b) cs) (quote_by b ∷ behind))
    (first_differs b _ (escaped_first b c (escaped_all (quote_by b) cs ++ (quote_by b ∷ behind))))

-- ---- characters that are written are characters

hex_scalar : (d : ℕ) → d < 16 → scalar (digit_char d) ≡ true
hex_scalar d small = by (nat_lt d 10)
  where
    by : (b : Bool) → scalar (if b then 48 + d else 87 + d) ≡ true
    by true = low_scalar (48 + d) (omega arith)
    by false = low_scalar (87 + d) (omega arith)

escaped_scalars : (b : Bool) (c : ℕ) → scalar c ≡ true → scalars (escaped (quote_by b) c) ≡ true
escaped_scalars b c e = by ((c == 92) || (c == quote_by b)) (c == 10) (c == 13) (c == 9) (is_control c) refl
  where
    by : (own line return tabbed control : Bool) → is_control c ≡ control
        → scalars (if own then 92 ∷ c ∷ [] else if line then codes "\\n" else if return then codes "\\r" else if tabbed
        then codes "\\t"
        else if control then codes "\\x" ++ digit_char (c / 16) ∷ digit_char (c % 16) ∷ [] else c ∷ []) ≡ true
    by true line return tabbed control h = rw e refl
    by false true return tabbed control h = refl
    by false false true tabbed control h = refl
    by false false false true control h = refl
    by false false false false true h =
        let less = control_small c h in
        rw (hex_scalar (c / 16) (omega arith), hex_scalar (c % 16) (omega arith)) refl
    by false false false false false h = rw e refl

all_scalars : (b : Bool) (t : List ℕ) → scalars t ≡ true → scalars (escaped_all (quote_by b) t) ≡ true
all_scalars b [] e = refl
all_scalars b (c ∷ cs) e =
    let parts = and_parts (scalar c) (scalars cs) e in
    scalars-append (escaped (quote_by b) c) (escaped_all (quote_by b) cs) (escaped_scalars b c parts.0)
    (all_scalars b cs parts.1)

-- ---- the literal

quote_start : (b : Bool) → is_start (quote_by b) ≡ false
quote_start true = is_xid_start-ascii 34 (omega arith)
quote_start false = is_xid_start-ascii 39 (omega arith)

in_line-literal : (b : Bool) (s : State) (cs : List ℕ) → s.left ≡ quote_by b ∷ cs → in_line s ≡ behind_literal s
in_line-literal true s cs e =
    in_line-token s (rw e refl) (rw e refl) (rw e refl) (rw e refl)
    ∙ behind_token-literal s (ap (λ l. is_start (first l)) e ∙ quote_start true) (rw e refl) (rw e refl)
in_line-literal false s cs e =
    in_line-token s (rw e refl) (rw e refl) (rw e refl) (rw e refl)
    ∙ behind_token-literal s (ap (λ l. is_start (first l)) e ∙ quote_start false) (rw e refl) (rw e refl)

literal_taken : (s : State) (quotes cs value rest : List ℕ) → opening s.left ≡ quotes → drop (length quotes) s.left ≡ cs
    → literal_behind quotes 0 cs ≡ closed value rest 0
    → behind_literal s ≡ Ok (taken (literal value) rest s)
unfolding behind_literal
literal_taken s quotes cs value rest opens left reading =
    (λ i. behind_reading (literal_behind (opens i) 0 (drop (length (opens i)) s.left)) s)
    ∙ (λ i. behind_reading (literal_behind quotes 0 (left i)) s)
    ∙ (λ i. behind_reading (reading i) s)
    ∙ (λ i. Ok (record (taken (literal value) rest s) { line = add-zero s.line i }))

module _ (words : List (List ℕ)) (size : ℕ) where
  quoted_read : {columns : List ℕ} {line n : ℕ} (b : Bool) (t : List ℕ) → scalars t ≡ true
      → Reads words size Opens EndsWord (Tok (kind.Text t)) (inside columns line n) (inside columns line n)
      (quote_by b ∷ (escaped_all (quote_by b) t ++ quote_by b ∷ []))
  quoted_read {columns = columns} {line = line} {n = n} b t letters =
      one_token words size (kind.Text t) (quote_by b ∷ (escaped_all (quote_by b) t ++ quote_by b ∷ []))
      (λ behind g. begun b (escaped_all (quote_by b) t ++ quote_by b ∷ []) behind) (whole b) (omega arith) letters
      (λ items behind g.
      let q = quote_by b in
      let s = state_at size (inside columns line n) items (q ∷ ((escaped_all q t ++ q ∷ []) ++ behind)) in
      let shape : (escaped_all q t ++ q ∷ []) ++ behind ≡ escaped_all q t ++ (q ∷ behind) =
      append_assoc (escaped_all q t) (q ∷ []) behind in
      step-within s not_fresh ∙ in_line-literal b s ((escaped_all q t ++ q ∷ []) ++ behind) refl
      ∙ literal_taken s (quotes_by b) (escaped_all q t ++ (q ∷ behind)) t behind
      (ap (λ (l : List ℕ). opening (q ∷ l)) shape ∙ opens_once b t behind g) shape (all_back b t behind))
    where
      begun : (b : Bool) (cs behind : List ℕ) → opens_operand (first ((quote_by b ∷ cs) ++ behind)) ≡ true
      begun true cs behind = refl
      begun false cs behind = refl

      quote_scalar : (b : Bool) → scalars (quotes_by b) ≡ true
      quote_scalar true = refl
      quote_scalar false = refl

      whole : (b : Bool) → scalars (quote_by b ∷ (escaped_all (quote_by b) t ++ quote_by b ∷ [])) ≡ true
      whole b = scalars-append (quotes_by b) (escaped_all (quote_by b) t ++ quote_by b ∷ []) (quote_scalar b)
          (scalars-append (escaped_all (quote_by b) t) (quotes_by b) (all_scalars b t letters) (quote_scalar b))

  pub literal_read : {columns : List ℕ} {line n : ℕ} (t : List ℕ) → scalars t ≡ true
      → Reads words size Opens EndsWord (Tok (kind.Text t)) (inside columns line n) (inside columns line n) (quoted t)
  literal_read {columns = columns} {line = line} {n = n} t letters = by (holds apostrophe t && not (holds quote t))
    where
      by : (b : Bool) → Reads words size Opens EndsWord (Tok (kind.Text t)) (inside columns line n)
          (inside columns line n)
          ((if b then quote else apostrophe) ∷ (escaped_all (if b then quote else apostrophe) t ++
          (if b then quote else apostrophe) ∷ []))
      by true = quoted_read true t letters
      by false = quoted_read false t letters
