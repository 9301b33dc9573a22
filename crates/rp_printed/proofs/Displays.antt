-- Tuples, lists and dicts are read back.
use Rattle.std.proofs.Common.{◌≡◌, refl, sym, ap, ℕ, suc, ◌+◌, ◌≤◌, true, false, List, [], length, codes, pos, arith}
use lib.Utf8.{scalars}
use Rattle.rp_base.specs.declared.value.Line.{Line}
use Rattle.rp_base.specs.declared.value.Name.{Name}
use Rattle.rp_grammar.specs.Kinds.{Tokens, first, skip}
use Rattle.rp_grammar.specs.Expressions as grammar
use Rattle.rp_print.specs.Texts.{◌⧺◌, further, joined, listed, tuple_end, tuple_text}
use Rattle.rp_print.specs.Expressions.{exprs_texts, pairs_texts}
use Rattle.rp_token.specs.declared.token.TokenKind.TheVariants as kind
use Rattle.rp_token.specs.Number.{greatest_number}
use Rattle.rp_token.specs.Tokens.{most_brackets}
use Rattle.rp_tree.specs.declared.parts.Const.{Const}
use Rattle.rp_tree.specs.declared.parts.Const.TheVariants as const
use Rattle.rp_tree.specs.Expressions as tree
use Rattle.rp_tree.specs.Expressions.{Clauses, Expr, Exprs, Pairs}
use Rattle.rp_tree.specs.Heights.{exprs_height, pairs_height}
use Rattle.rp_tree.specs.Maps.{map_clauses, map_exprs, map_pairs, shape}
use Rattle.rp_printed.proofs.Reading.{◌▹◌, IsGoodName, Nil, Reads, Same, Seq, Spot, Tok, both, fitted, mapped, nil}
use Rattle.rp_printed.proofs.Reading.{nothing, reads_as, same, token}
use Rattle.rp_printed.proofs.Lexemes.{EndsNumber, EndsWord, Opens, keyword_read}
use Rattle.rp_printed.proofs.Literals.{literal_read}
use Rattle.rp_printed.proofs.Marks.{Anything, comma, left_brace, left_bracket, left_paren, right_brace}
use Rattle.rp_printed.proofs.Marks.{right_bracket, right_paren}
use Rattle.rp_printed.proofs.Numbers.{number_read}
use Rattle.rp_printed.proofs.Places.{ReadClauses}
use Rattle.rp_printed.proofs.Operands.{AllRead, colon_gap, comma_gap, Commas, end_many, IsRead, ReadsAt, SameExpr}
use Rattle.rp_printed.proofs.Operands.{further_read, listed_of, middling, name_read, no_more, one_more, tight, word}

-- pairs separated by commas, behind one
data MorePairs : Pairs → Tokens → Tokens → Type 0 where
  no_more_pairs : {ts : Tokens} → MorePairs tree.no_pairs ts ts
  one_more_pair : {k e : Expr} {ps : Pairs} {ts us vs ws : Tokens} → first ts ≡ kind.Comma → grammar.IsExpr k (skip ts) us
      → first us ≡ kind.Colon → grammar.IsExpr e (skip us) vs
      → MorePairs ps vs ws → MorePairs (tree.pair k e ps) ts ws

paired_of : {k e : Expr} {ps : Pairs} {ts us vs ws : Tokens} → grammar.IsExpr k ts us → first us ≡ kind.Colon
    → grammar.IsExpr e (skip us) vs → MorePairs ps vs ws → grammar.Paired (tree.pair k e ps) ts ws
paired_of p h q no_more_pairs = grammar.last_pair p h q
paired_of p h q (one_more_pair i r j s more) = grammar.more_pairs p h q i (paired_of r j s more)

module _ (words : List (List ℕ)) (size : ℕ) (columns : List ℕ) (line : ℕ) where
  abbrev R : (List ℕ → Type 0) → (List ℕ → Type 0) → (Tokens → Tokens → Type 0) → ℕ → List ℕ → Type 0
  R = ReadsAt words size columns line

  abbrev Operand : Expr → Type 0
  Operand = IsRead words size columns line

  abbrev w : Name → List ℕ
  w = word words size columns line

  -- ---- leaves

  pub name_atom : (l : Line) (x : Name) → IsGoodName words x → Operand (tree.node l (tree.name x))
  name_atom l x good = tight words size columns line l (tree.name x) refl refl
      (λ n h. mapped words size (λ ts us. of) (name_read words size columns line x good))
    where
      of : {ts us : Tokens} → Tok (kind.Name x) ts us → SameExpr grammar.Atom (tree.node l (tree.name x)) ts us
      of (token h) = same (grammar.name h) refl

  pub int_atom : (l : Line) (m : ℕ) → m ≤ greatest_number → Operand (tree.node l (tree.int (pos m)))
  int_atom l m most = middling words size columns line l (tree.int (pos m)) refl refl
      (λ n h. mapped words size (λ ts us. of) (number_read words size m most))
    where
      of : {ts us : Tokens} → Tok (kind.Int (pos m)) ts us → SameExpr grammar.Primary (tree.node l (tree.int (pos m))) ts us
      of (token h) = same (grammar.bare (grammar.int h)) refl

  pub text_atom : (l : Line) (x : List ℕ) → scalars x ≡ true → Operand (tree.node l (tree.text x))
  text_atom l x letters = tight words size columns line l (tree.text x) refl refl
      (λ n h. mapped words size (λ ts us. of) (literal_read words size x letters))
    where
      of : {ts us : Tokens} → Tok (kind.Text x) ts us → SameExpr grammar.Atom (tree.node l (tree.text x)) ts us
      of (token h) = same (grammar.text (grammar.one_text h)) refl

  pub const_atom : (l : Line) (c : Const) → Operand (tree.node l (tree.const c))
  const_atom l const.Nil = tight words size columns line l (tree.const const.Nil) refl refl
      (λ n h. mapped words size (λ ts us. of) (keyword_read words size kind.None (codes "None")
      (omega arith) refl refl refl refl tt))
    where
      of : {ts us : Tokens} → Tok kind.None ts us → SameExpr grammar.Atom (tree.node l (tree.const const.Nil)) ts us
      of (token h) = same (grammar.nil h) refl
  const_atom l (const.Truth true) = tight words size columns line l (tree.const (const.Truth true)) refl refl
      (λ n h. mapped words size (λ ts us. of) (keyword_read words size kind.True (codes "True")
      (omega arith) refl refl refl refl tt))
    where
      of : {ts us : Tokens} → Tok kind.True ts us → SameExpr grammar.Atom (tree.node l (tree.const (const.Truth true))) ts us
      of (token h) = same (grammar.truth h) refl
  const_atom l (const.Truth false) = tight words size columns line l (tree.const (const.Truth false)) refl refl
      (λ n h. mapped words size (λ ts us. of) (keyword_read words size kind.False (codes "False")
      (omega arith) refl refl refl refl tt))
    where
      of : {ts us : Tokens} → Tok kind.False ts us → SameExpr grammar.Atom (tree.node l (tree.const (const.Truth false))) ts us
      of (token h) = same (grammar.falsity h) refl

  -- ---- tuples

  infixl 50 ◌⊳◌
  abbrev ◌⊳◌ : {H F G : List ℕ → Type 0} {P Q : Tokens → Tokens → Type 0} {p q r : Spot} {a b : List ℕ}
      → Reads words size H F P p q a → Reads words size F G Q q r b → Reads words size H G (Seq P Q) p r (a ⧺ b)
  x ⊳ y = ◌▹◌ words size x y

  pub unit_atom : (l : Line) → Operand (tree.node l (tree.tuple tree.no_exprs))
  unfolding joined tuple_end
  unit_atom l = tight words size columns line l (tree.tuple tree.no_exprs) refl refl
      (λ n h. mapped words size (λ ts us. of) (front n h))
    where
      of : {ts us : Tokens} → Seq (Seq (Tok kind.LeftParen) Nil) (Tok kind.RightParen) ts us
          → SameExpr grammar.Atom (tree.node l (tree.tuple tree.no_exprs)) ts us
      of (both (both (token h) nil) (token i)) = same (grammar.unit h i) refl

      front : (n : ℕ) → n + suc 0 ≤ most_brackets → R Opens EndsWord
          (Seq (Seq (Tok kind.LeftParen) Nil) (Tok kind.RightParen)) n (tuple_text [])
      front n h = left_paren words size (omega arith) (λ behind. refl) ⊳ nothing words size ⊳ right_paren words size

  pub single_atom : (l : Line) (e : Expr) → Operand e → Operand (tree.node l (tree.tuple (tree.expr e tree.no_exprs)))
  unfolding further joined tuple_end ◌⧺◌
  single_atom l e a = tight words size columns line l (tree.tuple (tree.expr e tree.no_exprs)) refl refl
      (λ n h. mapped words size (λ ts us. of) (front n h))
    where
      of : {ts us : Tokens} → Seq (Seq (Tok kind.LeftParen) (Seq (SameExpr grammar.IsExpr e) Nil))
          (Seq (Tok kind.Comma) (Tok kind.RightParen)) ts us
          → SameExpr grammar.Atom (tree.node l (tree.tuple (tree.expr e tree.no_exprs))) ts us
      of (both (both (token h) (both (same p s) nil)) (both (token i) (token j))) =
          same (grammar.tuple h p i grammar.nothing j) (λ k. tree.node (record { 0 = 0 }) (tree.tuple (tree.expr (s k) tree.no_exprs)))

      front : (n : ℕ) → n + suc (exprs_height (tree.expr e tree.no_exprs)) ≤ most_brackets
          → R Opens EndsWord (Seq (Seq (Tok kind.LeftParen) (Seq (SameExpr grammar.IsExpr e) Nil))
          (Seq (Tok kind.Comma) (Tok kind.RightParen))) n (tuple_text (exprs_texts w (tree.expr e tree.no_exprs)))
      front n h = left_paren words size (omega arith) (λ behind. refl)
          ⊳ (a.whole (suc n) (omega arith) ⊳ nothing words size) ⊳ (comma words size ⊳ right_paren words size)

  pub tuple_atom : (l : Line) (e f : Expr) (es : Exprs) → AllRead words size columns line (tree.expr e (tree.expr f es))
      → Operand (tree.node l (tree.tuple (tree.expr e (tree.expr f es))))
  unfolding joined
  tuple_atom l e f es all = tight words size columns line l (tree.tuple (tree.expr e (tree.expr f es))) refl refl
      (λ n h. mapped words size (λ ts us. of) (front n h))
    where
      of : {ts us : Tokens}
          → Seq (Seq (Tok kind.LeftParen) (Seq (SameExpr grammar.IsExpr e) (Same (map_exprs shape) Commas (tree.expr f es))))
          (Tok kind.RightParen) ts us
          → SameExpr grammar.Atom (tree.node l (tree.tuple (tree.expr e (tree.expr f es)))) ts us
      of (both (both (token h) (both (same p s) (same (one_more i q r) u))) (token j)) =
          same (grammar.tuple h p i (listed_of q r) j) (λ k. tree.node (record { 0 = 0 }) (tree.tuple (tree.expr (s k) (u k))))
      of (both (both (token h) (both (same p s) (same no_more u))) (token j)) = absurd (let none = u in cc)

      front : (n : ℕ) → n + suc (exprs_height (tree.expr e (tree.expr f es))) ≤ most_brackets
          → R Opens EndsWord (Seq
          (Seq (Tok kind.LeftParen) (Seq (SameExpr grammar.IsExpr e) (Same (map_exprs shape) Commas (tree.expr f es))))
          (Tok kind.RightParen)) n (tuple_text (exprs_texts w (tree.expr e (tree.expr f es))))
      front n h = reads_as words size
          (ap (λ (x : List ℕ). codes "(" ⧺ listed (exprs_texts w (tree.expr e (tree.expr f es))) ⧺ x)
          (sym (end_many (length (exprs_texts w es)))))
          (left_paren words size (omega arith) (λ behind. refl)
          ⊳ (all.0.whole (suc n) (omega arith) ⊳ further_read words size columns line (tree.expr f es) all.1 (suc n)
          (omega arith)) ⊳ right_paren words size)

  -- ---- lists

  pub listed_read : (es : Exprs) → AllRead words size columns line es → (n : ℕ) → n + exprs_height es ≤ most_brackets
      → R Anything EndsNumber (Same (map_exprs shape) grammar.Listed es) n (listed (exprs_texts w es))
  unfolding joined
  listed_read tree.no_exprs all n h = mapped words size (λ ts us. none)
      (fitted words size (λ cs e. tt) (λ cs e. e) (nothing words size))
    where
      none : {ts us : Tokens} → Nil ts us → Same (map_exprs shape) grammar.Listed tree.no_exprs ts us
      none nil = same grammar.nothing refl
  listed_read (tree.expr e es) all n h =
      mapped words size (λ ts us. some) (fitted words size (λ cs e. tt) (λ cs e. e)
      (all.0.whole n (omega arith) ⊳ further_read words size columns line es all.1 n (omega arith)))
    where
      some : {ts us : Tokens} → Seq (SameExpr grammar.IsExpr e) (Same (map_exprs shape) Commas es) ts us
          → Same (map_exprs shape) grammar.Listed (tree.expr e es) ts us
      some (both (same p s) (same q r)) = same (listed_of p q) (λ i. tree.expr (s i) (r i))

  pub list_atom : (l : Line) (es : Exprs) → AllRead words size columns line es → Operand (tree.node l (tree.list es))
  list_atom l es all = tight words size columns line l (tree.list es) refl refl (λ n h.
      mapped words size (λ ts us. of) (left_bracket words size (omega arith) (λ behind. refl)
      ⊳ listed_read es all (suc n) (omega arith) ⊳ right_bracket words size))
    where
      of : {ts us : Tokens} → Seq (Seq (Tok kind.LeftBracket) (Same (map_exprs shape) grammar.Listed es))
          (Tok kind.RightBracket) ts us → SameExpr grammar.Atom (tree.node l (tree.list es)) ts us
      of (both (both (token h) (same p s)) (token i)) = same (grammar.list h p i)
          (λ k. tree.node (record { 0 = 0 }) (tree.list (s k)))

  -- ---- dicts

  abbrev pub AllPairs : Pairs → Type 0
  AllPairs tree.no_pairs = Unit {0}
  AllPairs (tree.pair k e ps) = Operand k × Operand e × AllPairs ps

  further_pairs : (ps : Pairs) → AllPairs ps → (n : ℕ) → n + pairs_height ps ≤ most_brackets
      → R EndsNumber EndsNumber (Same (map_pairs shape) MorePairs ps) n (further (codes ", ") (pairs_texts w ps))
  unfolding further
  further_pairs tree.no_pairs all n h = mapped words size (λ ts us. none) (nothing words size)
    where
      none : {ts us : Tokens} → Nil ts us → Same (map_pairs shape) MorePairs tree.no_pairs ts us
      none nil = same no_more_pairs refl
  further_pairs (tree.pair k e ps) all n h =
      mapped words size (λ ts us. some) (comma_gap words size columns line
      ⊳ (all.0.whole n (omega arith) ⊳ colon_gap words size columns line ⊳ all.1.whole n (omega arith))
      ⊳ further_pairs ps all.2 n (omega arith))
    where
      some : {ts us : Tokens}
          → Seq (Seq (Tok kind.Comma) (Seq (Seq (SameExpr grammar.IsExpr k) (Tok kind.Colon)) (SameExpr grammar.IsExpr e)))
          (Same (map_pairs shape) MorePairs ps) ts us
          → Same (map_pairs shape) MorePairs (tree.pair k e ps) ts us
      some (both (both (token i) (both (both (same p a) (token j)) (same q b))) (same r c)) =
          same (one_more_pair i p j q r) (λ m. tree.pair (a m) (b m) (c m))

  paired_read : (ps : Pairs) → AllPairs ps → (n : ℕ) → n + pairs_height ps ≤ most_brackets
      → R Anything EndsNumber (Same (map_pairs shape) grammar.Paired ps) n (listed (pairs_texts w ps))
  unfolding joined
  paired_read tree.no_pairs all n h = mapped words size (λ ts us. none)
      (fitted words size (λ cs e. tt) (λ cs e. e) (nothing words size))
    where
      none : {ts us : Tokens} → Nil ts us → Same (map_pairs shape) grammar.Paired tree.no_pairs ts us
      none nil = same grammar.no_pair refl
  paired_read (tree.pair k e ps) all n h =
      mapped words size (λ ts us. some) (fitted words size (λ cs e. tt) (λ cs e. e)
      ((all.0.whole n (omega arith) ⊳ colon_gap words size columns line ⊳ all.1.whole n (omega arith))
      ⊳ further_pairs ps all.2 n (omega arith)))
    where
      some : {ts us : Tokens} → Seq (Seq (Seq (SameExpr grammar.IsExpr k) (Tok kind.Colon)) (SameExpr grammar.IsExpr e))
          (Same (map_pairs shape) MorePairs ps) ts us → Same (map_pairs shape) grammar.Paired (tree.pair k e ps) ts us
      some (both (both (both (same p a) (token j)) (same q b)) (same r c)) =
          same (paired_of p j q r) (λ m. tree.pair (a m) (b m) (c m))

  pub dict_atom : (l : Line) (ps : Pairs) → AllPairs ps → Operand (tree.node l (tree.dict ps))
  dict_atom l ps all = tight words size columns line l (tree.dict ps) refl refl (λ n h.
      mapped words size (λ ts us. of) (left_brace words size (omega arith) (λ behind. refl)
      ⊳ paired_read ps all (suc n) (omega arith) ⊳ right_brace words size))
    where
      of : {ts us : Tokens} → Seq (Seq (Tok kind.LeftBrace) (Same (map_pairs shape) grammar.Paired ps))
          (Tok kind.RightBrace) ts us → SameExpr grammar.Atom (tree.node l (tree.dict ps)) ts us
      of (both (both (token h) (same p s)) (token i)) = same (grammar.dict h p i)
          (λ k. tree.node (record { 0 = 0 }) (tree.dict (s k)))

  -- ---- comprehensions

  pub list_of_atom : (l : Line) (e : Expr) (c : tree.Clause) (cs : Clauses) → Operand e
      → ReadClauses words size columns line (tree.clause c cs) → Operand (tree.node l (tree.list_of 0 e (tree.clause c cs)))
  list_of_atom l e c cs a all = tight words size columns line l (tree.list_of 0 e (tree.clause c cs)) refl refl (λ n h.
      mapped words size (λ ts us. of) (left_bracket words size (omega arith) (λ behind. refl)
      ⊳ a.whole (suc n) (omega arith) ⊳ all (suc n) (omega arith) ⊳ right_bracket words size))
    where
      of : {ts us : Tokens}
          → Seq (Seq (Seq (Tok kind.LeftBracket) (SameExpr grammar.IsExpr e))
          (Same (map_clauses shape) grammar.IsClauses (tree.clause c cs))) (Tok kind.RightBracket) ts us
          → SameExpr grammar.Atom (tree.node l (tree.list_of 0 e (tree.clause c cs))) ts us
      of (both (both (both (token h) (same p s)) (same (grammar.clauses_go q r) u)) (token i)) =
          same (grammar.list_of h p q r i) (λ k. tree.node (record { 0 = 0 }) (tree.list_of 0 (s k) (u k)))
      of (both (both (both (token h) (same p s)) (same grammar.clauses_end u)) (token i)) = absurd (let none = u in cc)

  pub dict_of_atom : (l : Line) (k e : Expr) (c : tree.Clause) (cs : Clauses) → Operand k → Operand e
      → ReadClauses words size columns line (tree.clause c cs) → Operand (tree.node l (tree.dict_of 0 k e (tree.clause c cs)))
  dict_of_atom l k e c cs a b all = tight words size columns line l (tree.dict_of 0 k e (tree.clause c cs)) refl refl (λ n h.
      mapped words size (λ ts us. of) (left_brace words size (omega arith) (λ behind. refl)
      ⊳ a.whole (suc n) (omega arith) ⊳ colon_gap words size columns line ⊳ b.whole (suc n) (omega arith)
      ⊳ all (suc n) (omega arith)
      ⊳ right_brace words size))
    where
      of : {ts us : Tokens}
          → Seq (Seq (Seq (Seq (Seq (Tok kind.LeftBrace) (SameExpr grammar.IsExpr k)) (Tok kind.Colon)) (SameExpr grammar.IsExpr e))
          (Same (map_clauses shape) grammar.IsClauses (tree.clause c cs))) (Tok kind.RightBrace) ts us
          → SameExpr grammar.Atom (tree.node l (tree.dict_of 0 k e (tree.clause c cs))) ts us
      of (both (both (both (both (both (token h) (same o v)) (token j)) (same p s)) (same (grammar.clauses_go q r) u))
          (token i)) = same (grammar.dict_of h o j p q r i) (λ m. tree.node (record { 0 = 0 }) (tree.dict_of 0 (v m) (s m) (u m)))
      of (both (both (both (both (both (token h) (same o v)) (token j)) (same p s)) (same grammar.clauses_end u)) (token i)) =
          absurd (let none = u in cc)
