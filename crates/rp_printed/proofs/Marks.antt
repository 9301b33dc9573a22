-- Marks, brackets and blanks are read back.
use Rattle.std.proofs.Common.{◌≡◌, refl, sym, ap, ◌∙◌, subst, ℕ, suc, ◌<◌, ◌==◌, Bool, true, false, ◌&&◌, ◌||◌, not}
use Rattle.std.proofs.Common.{nat_eq, nat_lt, nat_le}
use Rattle.std.proofs.Common.{List, [], ◌∷◌, ◌++◌, length, drop, find, codes, Some, Ok, append-nil, arith, ltb-true}
use Rattle.std.specs.Char.{is_ascii_alphabetic, is_ascii_digit}
use Rattle.std.specs.List.{starts_with}
use Rattle.std.proofs.lemmas.Bool.{and_parts}
use Rattle.std.proofs.lemmas.Bool.Decides.{nat_tests}
use Rattle.std.proofs.Math.Seq.{drop-append_seam}
use lib.Utf8.{scalars}
use Rattle.rp_token.specs.declared.token.TokenKind.{TokenKind}
use Rattle.rp_token.specs.declared.token.TokenKind.TheVariants as kind
use Rattle.rp_token.specs.Characters.{first, behind_run, is_blank, is_line_end}
use Rattle.rp_token.specs.Form.{mark, marks}
use Rattle.rp_token.specs.Tokens.{State, and_then, behind_found, behind_mark, bracketed, in_line, is_closing}
use Rattle.rp_token.specs.Tokens.{is_opening, most_brackets, taken}
use Rattle.rp_token.specs.View.{form_view}
use Rattle.rp_token.proofs.Rules.{behind_token-mark, in_line-token, step-within}
use Rattle.rp_token.proofs.Steps.{tokens_from-step}
use Rattle.unicode_ident.proofs.IdentLemmas.{is_xid_start-ascii}
use Rattle.rp_printed.proofs.Reading.{IsGoodKind, Nil, Reads, Tok, nil, one_token, read_from, state_at, inside}
use Rattle.rp_printed.proofs.Reading.{not_fresh, opened}
use Rattle.rp_printed.proofs.Lexemes.{Blank, EndsNumber, EndsWord, Opens, first-append, not-true, opened-length}
use Rattle.rp_printed.proofs.Lexemes.{run_left, turned}

abbrev pub begins_mark : ℕ → Bool
begins_mark c =
    nat_lt c 128 && not ((c == 95) || is_ascii_alphabetic c) && not (is_ascii_digit c) && not ((c == 39) || (c == 34))
    && not (is_blank c) && not (c == 35) && not (is_line_end c) && not (c == 92)

in_line-mark : (s : State) → begins_mark (first s.left) ≡ true → in_line s ≡ behind_mark s
in_line-mark s e =
    let c = first s.left in
    let h7 = and_parts _ (not (c == 92)) e in
    let h6 = and_parts _ (not (is_line_end c)) h7.0 in
    let h5 = and_parts _ (not (c == 35)) h6.0 in
    let h4 = and_parts _ (not (is_blank c)) h5.0 in
    let h3 = and_parts _ (not ((c == 39) || (c == 34))) h4.0 in
    let h2 = and_parts _ (not (is_ascii_digit c)) h3.0 in
    let h1 = and_parts (nat_lt c 128) (not ((c == 95) || is_ascii_alphabetic c)) h2.0 in
    in_line-token s (not-true _ h4.1) (not-true _ h5.1) (not-true _ h6.1) (not-true _ h7.1)
    ∙ behind_token-mark s (ap (λ b. (c == 95) || b) (is_xid_start-ascii c (ltb-true c 128 h1.0)) ∙ not-true _ h1.1)
    (not-true _ h2.1) (not-true _ h3.1)

found_mark : (s t : State) (m behind : List ℕ) → find (starts_with nat_eq s.left) marks ≡ Some m → s.left ≡ m ++ behind
    → bracketed (first s.left) s ≡ Ok t
    → behind_mark s ≡ Ok (taken (mark m) behind t)
unfolding behind_mark
found_mark s t m behind found is bracket =
    (λ i. behind_found (found i) s)
    ∙ (λ i. and_then (bracket i) (λ (u : State). Ok (taken (mark m) (drop (length m) s.left) u)))
    ∙ (λ i. Ok (taken (mark m) (drop (length m) (is i)) t))
    ∙ (λ i. Ok (taken (mark m) (drop-append_seam m behind i) t))

plain_bracket : (c : ℕ) (s : State) → is_opening c ≡ false → is_closing c ≡ false → bracketed c s ≡ Ok s
unfolding bracketed
plain_bracket c s none no_close = rw (none, no_close) refl

opening_bracket : (c : ℕ) (s : State) → is_opening c ≡ true → nat_le most_brackets (length s.brackets) ≡ false
    → bracketed c s ≡ Ok (record s { brackets = s.line ∷ s.brackets })
unfolding bracketed
opening_bracket c s one room = rw (one, room) refl

closing_bracket : (c : ℕ) (s : State) → is_opening c ≡ false → is_closing c ≡ true → bracketed c s
    ≡ Ok (record s { brackets = drop 1 s.brackets })
unfolding bracketed
closing_bracket c s none one = rw (none, one) refl

pub no_blank : (cs : List ℕ) → Opens cs → is_blank (first cs) ≡ false
no_blank cs e =
    let c = first cs in
    let h7 = and_parts _ (not (c == 65279)) e in
    let h6 = and_parts _ (not (c == 42)) h7.0 in
    let h5 = and_parts _ (not (c == 61)) h6.0 in
    let h4 = and_parts _ (not (c == 92)) h5.0 in
    let h3 = and_parts _ (not (c == 35)) h4.0 in
    let h2 = and_parts _ (not (c == 0)) h3.0 in
    let h1 = and_parts (not (is_blank c)) (not (is_line_end c)) h2.0 in
    not-true _ h1.0

pub blank_run : (s : State) (more behind : List ℕ) → s.left ≡ 32 ∷ more → behind_run is_blank s.left ≡ behind
    → in_line s ≡ Ok (record s { left = behind })
unfolding in_line
blank_run s more behind is run = rw is (λ i. Ok (record s { left = (ap (behind_run is_blank) (sym is) ∙ run) i }))

pub no_assignment : (cs : List ℕ) → Opens cs → (nat_eq 61 (first cs) ≡ false) × (nat_eq 42 (first cs) ≡ false)
no_assignment cs e =
    let c = first cs in
    let h7 = and_parts _ (not (c == 65279)) e in
    let h6 = and_parts _ (not (c == 42)) h7.0 in
    let h5 = and_parts _ (not (c == 61)) h6.0 in
    (turned c 61 (not-true _ h5.1), turned c 42 (not-true _ h6.1))

abbrev pub Anything : List ℕ → Type 0
Anything cs = Unit {0}

-- no blank
abbrev pub Starts : List ℕ → Type 0
Starts cs = is_blank (first cs) ≡ false

module _ (words : List (List ℕ)) (size : ℕ) where
  pub mark_read : {H G : List ℕ → Type 0} {columns : List ℕ} {line n : ℕ} (k : TokenKind) (m : List ℕ) → 0 < length m
      → begins_mark (first m) ≡ true → is_opening (first m) ≡ false → is_closing (first m) ≡ false → scalars m ≡ true
      → form_view words k ≡ mark m → IsGoodKind words k → ((behind : List ℕ) → G behind → H (m ++ behind))
      → ((behind : List ℕ) → G behind → find (starts_with nat_eq (m ++ behind)) marks ≡ Some m)
      → Reads words size H G (Tok k) (inside columns line n) (inside columns line n) m
  mark_read {columns = columns} {line = line} {n = n} k m some starts none_opens none_closes letters form good begins
      found =
      one_token words size k m begins letters some good (λ items behind g.
      let s = state_at size (inside columns line n) items (m ++ behind) in
      let front = first-append m behind some in
      step-within s not_fresh ∙ in_line-mark s (ap begins_mark front ∙ starts)
      ∙ found_mark s s m behind (found behind g) refl (plain_bracket (first (m ++ behind)) s
      (ap is_opening front ∙ none_opens) (ap is_closing front ∙ none_closes))
      ∙ (λ i. Ok (taken (sym form i) behind s)))

  pub open_read : {H G : List ℕ → Type 0} {columns : List ℕ} {line n : ℕ} (k : TokenKind) (m : List ℕ) → 0 < length m
      → begins_mark (first m) ≡ true → is_opening (first m) ≡ true → scalars m ≡ true → n < most_brackets
      → form_view words k ≡ mark m → IsGoodKind words k → ((behind : List ℕ) → G behind → H (m ++ behind))
      → ((behind : List ℕ) → G behind → find (starts_with nat_eq (m ++ behind)) marks ≡ Some m)
      → Reads words size H G (Tok k) (inside columns line n) (inside columns line (suc n)) m
  open_read {columns = columns} {line = line} {n = n} k m some starts one_opens letters room form good begins found =
      one_token words size k m begins letters some good (λ items behind g.
      let s = state_at size (inside columns line n) items (m ++ behind) in
      let front = first-append m behind some in
      let free : nat_le most_brackets (length (opened line n)) ≡ false =
      rw (opened-length line n) (grind (arith, nat_tests)) in
      step-within s not_fresh ∙ in_line-mark s (ap begins_mark front ∙ starts)
      ∙ found_mark s (state_at size (inside columns line (suc n)) items (m ++ behind)) m behind (found behind g) refl
      (opening_bracket (first (m ++ behind)) s (ap is_opening front ∙ one_opens) free)
      ∙ (λ i. Ok (taken (sym form i) behind (state_at size (inside columns line (suc n)) items (m ++ behind)))))

  pub close_read : {H G : List ℕ → Type 0} {columns : List ℕ} {line n : ℕ} (k : TokenKind) (m : List ℕ) → 0 < length m
      → begins_mark (first m) ≡ true → is_opening (first m) ≡ false → is_closing (first m) ≡ true → scalars m ≡ true
      → form_view words k ≡ mark m → IsGoodKind words k → ((behind : List ℕ) → G behind → H (m ++ behind))
      → ((behind : List ℕ) → G behind → find (starts_with nat_eq (m ++ behind)) marks ≡ Some m)
      → Reads words size H G (Tok k) (inside columns line (suc n)) (inside columns line n) m
  close_read {columns = columns} {line = line} {n = n} k m some starts none_opens none_closes letters form good begins
      found =
      one_token words size k m begins letters some good (λ items behind g.
      let s = state_at size (inside columns line (suc n)) items (m ++ behind) in
      let front = first-append m behind some in
      step-within s not_fresh ∙ in_line-mark s (ap begins_mark front ∙ starts)
      ∙ found_mark s (state_at size (inside columns line n) items (m ++ behind)) m behind (found behind g) refl
      (closing_bracket (first (m ++ behind)) s (ap is_opening front ∙ none_opens)
      (ap is_closing front ∙ none_closes))
      ∙ (λ i. Ok (taken (sym form i) behind (state_at size (inside columns line n) items (m ++ behind)))))

  pub blank_read : {H G : List ℕ → Type 0} {columns : List ℕ} {line n : ℕ} → ((behind : List ℕ) → H (32 ∷ behind))
      → ((behind : List ℕ) → G behind → is_blank (first behind) ≡ false)
      → Reads words size H G Nil (inside columns line n) (inside columns line n) (codes " ")
  blank_read {columns = columns} {line = line} {n = n} begins stops = record {
    begins = λ behind g. begins behind;
    letters = refl;
    reads = λ items behind g.
        let p = inside columns line n in
        let s = state_at size p items (32 ∷ behind) in
        let t = state_at size p items behind in
        record {
          more = [];
          goes = tokens_from-step s t (omega arith) (step-within s not_fresh
              ∙ blank_run s behind behind refl (run_left is_blank (32 ∷ []) behind refl (stops behind g)))
              ∙ ap (λ l. read_from size p l behind) (sym (append-nil items));
          good = tt;
          spelled = λ us. nil;
        };
  }

  -- ---- each of them

  pub left_paren : {columns : List ℕ} {line n : ℕ} {H G : List ℕ → Type 0} → n < most_brackets
      → ((behind : List ℕ) → H (40 ∷ behind)) → Reads words size H G (Tok kind.LeftParen) (inside columns line n)
      (inside columns line (suc n)) (codes "(")
  left_paren room begins = open_read kind.LeftParen (codes "(") (omega arith) refl refl refl room refl tt
      (λ behind g. begins behind) (λ behind g. refl)

  pub left_bracket : {columns : List ℕ} {line n : ℕ} {H G : List ℕ → Type 0} → n < most_brackets
      → ((behind : List ℕ) → H (91 ∷ behind)) → Reads words size H G (Tok kind.LeftBracket) (inside columns line n)
      (inside columns line (suc n)) (codes "[")
  left_bracket room begins = open_read kind.LeftBracket (codes "[") (omega arith) refl refl refl room refl tt
      (λ behind g. begins behind) (λ behind g. refl)

  pub left_brace : {columns : List ℕ} {line n : ℕ} {H G : List ℕ → Type 0} → n < most_brackets
      → ((behind : List ℕ) → H (123 ∷ behind)) → Reads words size H G (Tok kind.LeftBrace) (inside columns line n)
      (inside columns line (suc n)) (codes "{")
  left_brace room begins = open_read kind.LeftBrace (codes "{") (omega arith) refl refl refl room refl tt
      (λ behind g. begins behind) (λ behind g. refl)

  pub right_paren : {columns : List ℕ} {line n : ℕ} {G : List ℕ → Type 0}
      → Reads words size EndsNumber G (Tok kind.RightParen) (inside columns line (suc n)) (inside columns line n)
      (codes ")")
  right_paren = close_read kind.RightParen (codes ")") (omega arith) refl refl refl refl refl tt (λ behind g. refl)
      (λ behind g. refl)

  pub right_bracket : {columns : List ℕ} {line n : ℕ} {G : List ℕ → Type 0}
      → Reads words size EndsNumber G (Tok kind.RightBracket) (inside columns line (suc n)) (inside columns line n)
      (codes "]")
  right_bracket = close_read kind.RightBracket (codes "]") (omega arith) refl refl refl refl refl tt (λ behind g. refl)
      (λ behind g. refl)

  pub right_brace : {columns : List ℕ} {line n : ℕ} {G : List ℕ → Type 0}
      → Reads words size EndsNumber G (Tok kind.RightBrace) (inside columns line (suc n)) (inside columns line n)
      (codes "}")
  right_brace = close_read kind.RightBrace (codes "}") (omega arith) refl refl refl refl refl tt (λ behind g. refl)
      (λ behind g. refl)

  pub comma : {columns : List ℕ} {line n : ℕ} {G : List ℕ → Type 0}
      → Reads words size EndsNumber G (Tok kind.Comma) (inside columns line n) (inside columns line n) (codes ",")
  comma = mark_read kind.Comma (codes ",") (omega arith) refl refl refl refl refl tt (λ behind g. refl)
      (λ behind g. refl)

  pub colon : {columns : List ℕ} {line n : ℕ} {G : List ℕ → Type 0}
      → Reads words size EndsNumber G (Tok kind.Colon) (inside columns line n) (inside columns line n) (codes ":")
  colon = mark_read kind.Colon (codes ":") (omega arith) refl refl refl refl refl tt (λ behind g. refl)
      (λ behind g. refl)

  pub dot : {columns : List ℕ} {line n : ℕ} {G : List ℕ → Type 0}
      → Reads words size EndsWord G (Tok kind.Dot) (inside columns line n) (inside columns line n) (codes ".")
  dot = mark_read kind.Dot (codes ".") (omega arith) refl refl refl refl refl tt (λ behind g. refl) (λ behind g. refl)

  pub equal : {columns : List ℕ} {line n : ℕ} → Reads words size EndsWord Opens (Tok kind.Equal) (inside columns line n)
      (inside columns line n) (codes "=")
  equal = mark_read kind.Equal (codes "=") (omega arith) refl refl refl refl refl tt (λ behind g. refl) found
    where
      found : (behind : List ℕ) → Opens behind → find (starts_with nat_eq (codes "=" ++ behind)) marks
          ≡ Some (codes "=")
      found [] g = refl
      found (c ∷ cs) g = rw ((no_assignment (c ∷ cs) g).0) refl

  pub minus : {columns : List ℕ} {line n : ℕ} → Reads words size Opens Opens (Tok kind.Minus) (inside columns line n)
      (inside columns line n) (codes "-")
  minus = mark_read kind.Minus (codes "-") (omega arith) refl refl refl refl refl tt (λ behind g. refl) found
    where
      found : (behind : List ℕ) → Opens behind → find (starts_with nat_eq (codes "-" ++ behind)) marks
          ≡ Some (codes "-")
      found [] g = refl
      found (c ∷ cs) g = rw ((no_assignment (c ∷ cs) g).0) refl

  pub plus : {columns : List ℕ} {line n : ℕ} → Reads words size Opens Opens (Tok kind.Plus) (inside columns line n)
      (inside columns line n) (codes "+")
  plus = mark_read kind.Plus (codes "+") (omega arith) refl refl refl refl refl tt (λ behind g. refl) found
    where
      found : (behind : List ℕ) → Opens behind → find (starts_with nat_eq (codes "+" ++ behind)) marks
          ≡ Some (codes "+")
      found [] g = refl
      found (c ∷ cs) g = rw ((no_assignment (c ∷ cs) g).0) refl

  pub tilde : {columns : List ℕ} {line n : ℕ} → Reads words size Opens Opens (Tok kind.Tilde) (inside columns line n)
      (inside columns line n) (codes "~")
  tilde = mark_read kind.Tilde (codes "~") (omega arith) refl refl refl refl refl tt (λ behind g. refl)
      (λ behind g. refl)

  -- stars before an argument or a parameter
  pub star : {columns : List ℕ} {line n : ℕ} {H : List ℕ → Type 0} → ((behind : List ℕ) → H (42 ∷ behind))
      → Reads words size H Opens (Tok kind.Star) (inside columns line n) (inside columns line n) (codes "*")
  star begins = mark_read kind.Star (codes "*") (omega arith) refl refl refl refl refl tt
      (λ behind g. begins behind) found
    where
      found : (behind : List ℕ) → Opens behind → find (starts_with nat_eq (codes "*" ++ behind)) marks
          ≡ Some (codes "*")
      found [] g = refl
      found (c ∷ cs) g = rw ((no_assignment (c ∷ cs) g).0, (no_assignment (c ∷ cs) g).1) refl

  pub stars : {columns : List ℕ} {line n : ℕ} {H : List ℕ → Type 0} → ((behind : List ℕ) → H (42 ∷ behind))
      → Reads words size H Opens (Tok kind.DoubleStar) (inside columns line n) (inside columns line n) (codes "**")
  stars begins = mark_read kind.DoubleStar (codes "**") (omega arith) refl refl refl refl refl tt
      (λ behind g. begins (42 ∷ behind)) found
    where
      found : (behind : List ℕ) → Opens behind → find (starts_with nat_eq (codes "**" ++ behind)) marks
          ≡ Some (codes "**")
      found [] g = refl
      found (c ∷ cs) g = rw ((no_assignment (c ∷ cs) g).0) refl

  -- a mark before a blank
  pub mark_before_blank : {columns : List ℕ} {line n : ℕ} {H : List ℕ → Type 0} (k : TokenKind) (m : List ℕ)
      → 0 < length m
      → begins_mark (first m) ≡ true → is_opening (first m) ≡ false → is_closing (first m) ≡ false → scalars m ≡ true
      → form_view words k ≡ mark m → IsGoodKind words k → ((behind : List ℕ) → H (m ++ behind))
      → ((rest : List ℕ) → find (starts_with nat_eq (m ++ (32 ∷ rest))) marks ≡ Some m)
      → Reads words size H Blank (Tok k) (inside columns line n) (inside columns line n) m
  mark_before_blank k m some starts none_opens none_closes letters form good begins found =
      mark_read k m some starts none_opens none_closes letters form good (λ behind g. begins behind)
      (λ behind g. subst (λ (b : List ℕ). find (starts_with nat_eq (m ++ b)) marks ≡ Some m) (sym g.1) (found g.0))
