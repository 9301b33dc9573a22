-- Expressions that are read back: whole, as an operand, and before a trailer.
use Rattle.std.proofs.Common.{◌≡◌, refl, sym, ap, ◌∙◌, ℕ, zero, suc, ◌+◌, ◌<◌, ◌≤◌, Bool, true, false, List, [], ◌∷◌}
use Rattle.std.proofs.Common.{length, codes, Some, None, arith, true≢false, ◌==◌, if◌then◌else◌}
use Rattle.std.specs.List.{list_all}
use Rattle.std.proofs.lemmas.Bool.{and_parts, eqb-true}
use Rattle.rp_base.specs.Identifier.{identifier_of, is_identifier, is_start}
use Rattle.rp_base.specs.Names.{word_of}
use Rattle.rp_base.specs.declared.value.Line.{Line}
use Rattle.rp_base.specs.declared.value.Name.{Name}
use Rattle.rp_grammar.specs.Kinds.{Tokens, first as first_kind, loosest, skip}
use Rattle.rp_grammar.specs.Expressions as grammar
use Rattle.rp_print.specs.Texts.{◌⧺◌, bracketed, further, tuple_end}
use Rattle.rp_print.specs.Expressions.{base_text, expr_text, exprs_texts, form_text, operand_text, stands_alone}
use Rattle.rp_print.specs.Expressions.{stands_before_trailer}
use Rattle.rp_token.specs.declared.token.TokenKind.TheVariants as kind
use Rattle.rp_token.specs.Characters.{first}
use Rattle.rp_token.specs.Tokens.{most_brackets}
use Rattle.rp_token.proofs.Rules.{word_form-name}
use Rattle.rp_tree.specs.Expressions as tree
use Rattle.rp_tree.specs.Expressions.{Expr, Exprs, Form}
use Rattle.rp_tree.specs.Heights.{expr_height, exprs_height, form_height}
use Rattle.rp_tree.specs.Maps.{map_expr, map_exprs, shape}
use Rattle.unicode_ident.specs.Ident.{is_xid_continue}
use Rattle.rp_printed.proofs.Reading.{◌▹◌, IsGoodName, Nil, Reads, Same, Seq, Spot, Tok, both, fitted, mapped, nil}
use Rattle.rp_printed.proofs.Reading.{nothing, reads_as, same, token, inside}
use Rattle.rp_printed.proofs.Lexemes.{EndsNumber, EndsWord, Opens, number_word, word_read}
use Rattle.rp_printed.proofs.Marks.{Anything, Starts, blank_read, colon, comma, left_paren, no_blank, right_paren}

-- ---- what ends a tuple of more than one part

pub end_many : (n : ℕ) → tuple_end (suc (suc n)) ≡ codes ")"
unfolding tuple_end
end_many n = by (suc (suc n) == 1) refl
  where
    by : (c : Bool) → (suc (suc n) == 1) ≡ c → (if c then codes ",)" else codes ")") ≡ codes ")"
    by false h = refl
    by true h = absurd (let one = eqb-true (suc (suc n)) 1 h in omega arith)

-- ---- names

pub identifier_parts : (w : List ℕ) → identifier_of w ≡ Some w → is_identifier w ≡ true
identifier_parts w e = by (is_identifier w) refl e
  where
    by : (b : Bool) → is_identifier w ≡ b → identifier_of w ≡ Some w → b ≡ true
    by true h e = refl
    by false h e =
        let none : identifier_of w ≡ None = rw h refl in
        absurd (let both : None ≡ Some w = sym none ∙ e in cc)

pub begins : (w : List ℕ) → is_identifier w ≡ true → (0 < length w) × (is_start (first w) ≡ true)
    × (list_all is_xid_continue w ≡ true)
begins [] e = absurd (true≢false (sym e))
begins (c ∷ cs) e =
    let parts = and_parts (is_start c) (list_all is_xid_continue (c ∷ cs)) e in
    (omega arith, parts.0, parts.1)

-- ---- one level is another

pub unary_chain : (k : ℕ) {e : Expr} {ts us : Tokens} → grammar.Unary e ts us → grammar.Chain k e ts us
unary_chain zero p = grammar.operand p
unary_chain (suc k) p = grammar.tighter (unary_chain k p)

pub chain_or : {e : Expr} {ts us : Tokens} → grammar.Chain loosest e ts us → grammar.Or e ts us
chain_or p = grammar.or_single (grammar.and_single (grammar.asserted (grammar.single p)))

pub primary_unary : {e : Expr} {ts us : Tokens} → grammar.Primary e ts us → grammar.Unary e ts us
primary_unary p = grammar.unsigned (grammar.base p)

pub primary_or : {e : Expr} {ts us : Tokens} → grammar.Primary e ts us → grammar.Or e ts us
primary_or p = chain_or (unary_chain loosest (primary_unary p))

pub primary_expr : {e : Expr} {ts us : Tokens} → grammar.Primary e ts us → grammar.IsExpr e ts us
primary_expr p = grammar.unconditional (primary_or p)

abbrev pub SameExpr : (Expr → Tokens → Tokens → Type 0) → Expr → Tokens → Tokens → Type 0
SameExpr R e = Same (map_expr shape) R e

pub lifted : {R Q : Expr → Tokens → Tokens → Type 0} {e : Expr} {ts us : Tokens}
    → ((y : Expr) (ts us : Tokens) → R y ts us → Q y ts us)
    → SameExpr R e ts us → SameExpr Q e ts us
lifted f (same {y = y} {ts = ts} {us = us} p s) = same (f y ts us p) s

paren_of : {e : Expr} {ts us : Tokens} → Seq (Seq (Tok kind.LeftParen) (SameExpr grammar.IsExpr e))
    (Tok kind.RightParen) ts us → SameExpr grammar.Atom e ts us
paren_of (both (both (token h) (same p s)) (token i)) = same (grammar.paren h p i) s

-- expressions separated by commas, behind one
pub data Commas : Exprs → Tokens → Tokens → Type 0 where
  no_more : {ts : Tokens} → Commas tree.no_exprs ts ts
  one_more : {e : Expr} {es : Exprs} {ts us vs : Tokens} → first_kind ts ≡ kind.Comma → grammar.IsExpr e (skip ts) us
      → Commas es us vs → Commas (tree.expr e es) ts vs

pub listed_of : {e : Expr} {es : Exprs} {ts us vs : Tokens} → grammar.IsExpr e ts us → Commas es us vs
    → grammar.Listed (tree.expr e es) ts vs
listed_of p no_more = grammar.last p
listed_of p (one_more h q r) = grammar.more p h (listed_of q r)

module _ (words : List (List ℕ)) (size : ℕ) (columns : List ℕ) (line : ℕ) where
  abbrev pub word : Name → List ℕ
  word = word_of words

  abbrev pub at : ℕ → Spot
  at n = inside columns line n

  -- a text that is read where so many brackets are open
  abbrev pub ReadsAt : (List ℕ → Type 0) → (List ℕ → Type 0) → (Tokens → Tokens → Type 0) → ℕ → List ℕ → Type 0
  ReadsAt H G P n text = Reads words size H G P (at n) (at n) text

  pub name_read : {n : ℕ} (x : Name) → IsGoodName words x → ReadsAt Opens EndsWord (Tok (kind.Name x)) n (word x)
  name_read x good =
      let w = word_of words x in
      let is = begins w (identifier_parts w good.good.identifier) in
      word_read words size (kind.Name x) w is.0 is.1 is.2 good.good.letters
      (word_form-name w w good.good.plain good.good.identifier good.good.plain) good

  pub blank : {n : ℕ} {H : List ℕ → Type 0} → ((behind : List ℕ) → H (32 ∷ behind)) → ReadsAt H Opens Nil n (codes " ")
  blank begins = blank_read words size begins no_blank

  pub gap : {n : ℕ} {H : List ℕ → Type 0} → ((behind : List ℕ) → H (32 ∷ behind)) → ReadsAt H Starts Nil n (codes " ")
  gap begins = blank_read words size begins (λ behind g. g)

  pub record IsRead (e : Expr) : Type 0 where
    pub whole : (n : ℕ) → n + expr_height e ≤ most_brackets → ReadsAt Opens EndsNumber (SameExpr grammar.IsExpr e) n
        (expr_text word e)
    pub operand : (n : ℕ) → n + expr_height e ≤ most_brackets
        → ReadsAt Opens EndsNumber (SameExpr grammar.Primary e) n (operand_text word e)
    pub base : (n : ℕ) → n + suc (expr_height e) ≤ most_brackets
        → ReadsAt Opens EndsWord (SameExpr grammar.Atom e) n (base_text word false e)

  -- in parentheses
  in_parens : (e : Expr) (n h : ℕ) (text : List ℕ) → n + suc h ≤ most_brackets
      → ((m : ℕ) → m + h ≤ most_brackets → ReadsAt Opens EndsNumber (SameExpr grammar.IsExpr e) m text)
      → {G : List ℕ → Type 0} → ReadsAt Opens G (SameExpr grammar.Atom e) n (bracketed false text)
  unfolding bracketed
  in_parens e n h text room inner =
      mapped words size (λ ts us. paren_of)
      (◌▹◌ words size (◌▹◌ words size (left_paren words size (omega arith) (λ behind. refl))
      (inner (suc n) (omega arith))) (right_paren words size))

  alone_is : (text : List ℕ) → bracketed true text ≡ text
  unfolding bracketed
  alone_is text = refl

  -- a form that stands in parentheses as an operand
  pub loose : (l : Line) (f : Form) → stands_alone f ≡ false → stands_before_trailer f ≡ false
      → ((n : ℕ) → n + form_height f ≤ most_brackets → ReadsAt Opens EndsNumber (SameExpr grammar.IsExpr (tree.node l f)) n
      (form_text word f))
      → IsRead (tree.node l f)
  loose l f never nor inner = record {
    whole = λ n h. inner n (omega arith);
    operand = λ n h. reads_as words size (ap (λ b. bracketed b (form_text word f)) (sym never))
        (mapped words size (λ ts us. lifted (λ y ts us p. grammar.bare p))
        (in_parens (tree.node l f) n (form_height f) (form_text word f) (omega arith) inner));
    base = λ n h. reads_as words size (ap (λ b. bracketed b (form_text word f)) (sym nor))
        (in_parens (tree.node l f) n (form_height f) (form_text word f) (omega arith) inner);
  }

  -- one that never does
  pub tight : (l : Line) (f : Form) → stands_alone f ≡ true → stands_before_trailer f ≡ true
      → ((n : ℕ) → n + suc (form_height f) ≤ most_brackets → ReadsAt Opens EndsWord (SameExpr grammar.Atom (tree.node l f)) n
      (form_text word f))
      → IsRead (tree.node l f)
  tight l f always too inner = record {
    whole = λ n h. mapped words size (λ ts us. lifted (λ y ts us p. primary_expr (grammar.bare p)))
        (fitted words size (λ cs e. e) number_word (inner n h));
    operand = λ n h. reads_as words size (sym (alone_is (form_text word f))
        ∙ ap (λ b. bracketed b (form_text word f)) (sym always))
        (mapped words size (λ ts us. lifted (λ y ts us p. grammar.bare p))
        (fitted words size (λ cs e. e) number_word (inner n h)));
    base = λ n h. reads_as words size (sym (alone_is (form_text word f))
        ∙ ap (λ b. bracketed b (form_text word f)) (sym too)) (inner n (omega arith));
  }

  -- one that does before a trailer alone
  pub middling : (l : Line) (f : Form) → stands_alone f ≡ true → stands_before_trailer f ≡ false
      → ((n : ℕ) → n + suc (form_height f) ≤ most_brackets → ReadsAt Opens EndsNumber
      (SameExpr grammar.Primary (tree.node l f)) n (form_text word f))
      → IsRead (tree.node l f)
  middling l f always nor inner = record {
    whole = λ n h. mapped words size (λ ts us. lifted (λ y ts us p. primary_expr p)) (inner n h);
    operand = λ n h. reads_as words size (sym (alone_is (form_text word f))
        ∙ ap (λ b. bracketed b (form_text word f)) (sym always)) (inner n h);
    base = λ n h. reads_as words size (ap (λ b. bracketed b (form_text word f)) (sym nor))
        (in_parens (tree.node l f) n (suc (form_height f)) (form_text word f) (omega arith)
        (λ m k. mapped words size (λ ts us. lifted (λ y ts us p. primary_expr p)) (inner m k)));
  }

  -- ---- lists of expressions

  abbrev pub AllRead : Exprs → Type 0
  AllRead tree.no_exprs = Unit {0}
  AllRead (tree.expr e es) = IsRead e × AllRead es

  pub comma_gap : {n : ℕ} → ReadsAt EndsNumber Opens (Tok kind.Comma) n (codes ", ")
  unfolding ◌⧺◌
  comma_gap = mapped words size (λ ts us. only) (◌▹◌ words size (comma words size)
      (blank {H = Anything} (λ behind. tt)))
    where
      only : {ts us : Tokens} → Seq (Tok kind.Comma) Nil ts us → Tok kind.Comma ts us
      only (both p nil) = p

  pub colon_gap : {n : ℕ} → ReadsAt EndsNumber Opens (Tok kind.Colon) n (codes ": ")
  unfolding ◌⧺◌
  colon_gap = mapped words size (λ ts us. only)
      (◌▹◌ words size (colon words size) (blank {H = Anything} (λ behind. tt)))
    where
      only : {ts us : Tokens} → Seq (Tok kind.Colon) Nil ts us → Tok kind.Colon ts us
      only (both p nil) = p

  pub further_read : (es : Exprs) → AllRead es → (n : ℕ) → n + exprs_height es ≤ most_brackets
      → ReadsAt EndsNumber EndsNumber (Same (map_exprs shape) Commas es) n (further (codes ", ") (exprs_texts word es))
  unfolding further
  further_read tree.no_exprs all n h = mapped words size (λ ts us. none) (nothing words size)
    where
      none : {ts us : Tokens} → Nil ts us → Same (map_exprs shape) Commas tree.no_exprs ts us
      none nil = same no_more refl
  further_read (tree.expr e es) all n h =
      mapped words size (λ ts us. some) (◌▹◌ words size (◌▹◌ words size comma_gap (all.0.whole n (omega arith)))
      (further_read es all.1 n (omega arith)))
    where
      some : {ts us : Tokens} → Seq (Seq (Tok kind.Comma) (SameExpr grammar.IsExpr e))
          (Same (map_exprs shape) Commas es) ts us → Same (map_exprs shape) Commas (tree.expr e es) ts us
      some (both (both (token h) (same p s)) (same q r)) = same (one_more h p q) (λ i. tree.expr (s i) (r i))
