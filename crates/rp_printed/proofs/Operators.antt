-- Operators with their operands are read back: what stands between operands, and the forms made of them.
use Rattle.std.proofs.Common.{◌≡◌, refl, sym, ap, subst, ◌∙◌, ℕ, zero, suc, ◌+◌, ◌-◌, ◌<◌, ◌≤◌, true, false, List, ◌∷◌}
use Rattle.std.proofs.Common.{◌++◌, length, codes, find, nat_eq, Option, Some, arith}
use Rattle.std.specs.List.{starts_with}
use lib.Utf8.{scalars}
use Rattle.rp_base.specs.declared.operator.BinOp.{BinOp}
use Rattle.rp_base.specs.declared.operator.BinOp.TheVariants as binary
use Rattle.rp_base.specs.declared.operator.UnOp.{UnOp}
use Rattle.rp_base.specs.declared.operator.UnOp.TheVariants as unary
use Rattle.rp_base.specs.declared.operator.CmpOp.{CmpOp}
use Rattle.rp_base.specs.declared.operator.CmpOp.TheVariants as order
use Rattle.rp_base.specs.declared.value.Line.{Line}
use Rattle.rp_grammar.specs.Kinds.{Tokens, binary_of, first, looseness, loosest, order_of, skip, unary_of}
use Rattle.rp_grammar.specs.Expressions as grammar
use Rattle.rp_print.specs.Texts.{◌⧺◌, bracketed, further, joined}
use Rattle.rp_print.specs.Expressions.{form_text, operand_text, operands_texts, ops_text, tests_text}
use Rattle.rp_print.specs.Operators.{binary_text, test_text, unary_text}
use Rattle.rp_token.specs.declared.token.TokenKind.{TokenKind}
use Rattle.rp_token.specs.declared.token.TokenKind.TheVariants as kind
use Rattle.rp_token.specs.Characters.{first as first_of}
use Rattle.rp_token.specs.Form.{mark, marks}
use Rattle.rp_token.specs.Tokens.{is_closing, is_opening, most_brackets}
use Rattle.rp_token.specs.View.{form_view}
use Rattle.rp_tree.specs.declared.parts.Const.TheVariants.{Nil as nothing_const}
use Rattle.rp_tree.specs.declared.parts.Test.{Test}
use Rattle.rp_tree.specs.declared.parts.Test.TheVariants as test
use Rattle.rp_tree.specs.Expressions as tree
use Rattle.rp_tree.specs.Expressions.{Expr, Exprs, Form, Ops, Tests}
use Rattle.rp_tree.specs.Heights.{expr_height, exprs_height, form_height, ops_height, tests_height}
use Rattle.rp_tree.specs.Maps.{map_expr, map_exprs, map_ops, map_tests, shape}
use Rattle.rp_printed.proofs.Reading.{◌▹◌, IsGoodKind, Nil, Same, Seq, Tok, both, fitted, mapped, nil, nothing}
use Rattle.rp_printed.proofs.Reading.{reads_as, same, token}
use Rattle.rp_printed.proofs.Lexemes.{Blank, EndsNumber, EndsWord, Opens, keyword_read, number_word}
use Rattle.rp_printed.proofs.Marks.{Starts, begins_mark, mark_before_blank, minus, plus, tilde}
use Rattle.rp_printed.proofs.Operands.{AllRead, IsRead, ReadsAt, SameExpr, blank, chain_or, gap, loose, primary_expr}
use Rattle.rp_printed.proofs.Operands.{primary_or, primary_unary, unary_chain, word}

-- a mark that stands for this
pub data Marked {A : Type 0} (meaning : TokenKind → Option A) (x : A) : Tokens → Tokens → Type 0 where
  marked : {ts : Tokens} → meaning (first ts) ≡ Some x → Marked meaning x ts (skip ts)

pub marked_by : {A : Type 0} (meaning : TokenKind → Option A) {x : A} {k : TokenKind} {ts us : Tokens} → meaning k
    ≡ Some x → Tok k ts us → Marked meaning x ts us
marked_by meaning e (token h) = marked (ap meaning h ∙ e)

level_and : {e : Expr} {ts us : Tokens} → grammar.Primary e ts us → grammar.Not e ts us
level_and p = grammar.asserted (grammar.single (unary_chain loosest (primary_unary p)))

level_or : {e : Expr} {ts us : Tokens} → grammar.Primary e ts us → grammar.And e ts us
level_or p = grammar.and_single (level_and p)

level_chain : (k : ℕ) {e : Expr} {ts us : Tokens} → grammar.Primary e ts us → grammar.Chain k e ts us
level_chain k p = unary_chain k (primary_unary p)

-- a chain of this looseness as an expression
chain_up : (k : ℕ) → k ≤ loosest → {e : Expr} {ts us : Tokens} → grammar.Chain k e ts us → grammar.IsExpr e ts us
chain_up k low p = grammar.unconditional (chain_or (raised (loosest - k) k loosest (omega arith) p))
  where
    raised : (d k n : ℕ) → d + k ≡ n → {e : Expr} {ts us : Tokens} → grammar.Chain k e ts us → grammar.Chain n e ts us
    raised zero k n is {e = e} {ts = ts} {us = us} p = subst (λ (m : ℕ). grammar.Chain m e ts us) (omega (arith, is)) p
    raised (suc d) k n is p = raised d (suc k) n (omega (arith, is)) (grammar.tighter p)

module _ (words : List (List ℕ)) (size : ℕ) (columns : List ℕ) (line : ℕ) where
  abbrev R : (List ℕ → Type 0) → (List ℕ → Type 0) → (Tokens → Tokens → Type 0) → ℕ → List ℕ → Type 0
  R = ReadsAt words size columns line

  abbrev Operand : Expr → Type 0
  Operand = IsRead words size columns line

  infixl 50 ◌⊳◌
  abbrev ◌⊳◌ : {H F G : List ℕ → Type 0} {P Q : Tokens → Tokens → Type 0} {n : ℕ} {a b : List ℕ} → R H F P n a
      → R F G Q n b → R H G (Seq P Q) n (a ⧺ b)
  x ⊳ y = ◌▹◌ words size x y

  only_middle : {k : TokenKind} {ts us : Tokens} → Seq (Seq Nil (Tok k)) Nil ts us → Tok k ts us
  only_middle (both (both nil p) nil) = p

  only_first : {k : TokenKind} {ts us : Tokens} → Seq (Tok k) Nil ts us → Tok k ts us
  only_first (both p nil) = p

  between : {n : ℕ} {k : TokenKind} {w : List ℕ} → R Opens EndsWord (Tok k) n w
      → R EndsNumber Opens (Tok k) n (codes " " ⧺ w ⧺ codes " ")
  between x = mapped words size (λ ts us. only_middle) (blank words size columns line (λ behind. refl) ⊳ x
      ⊳ blank words size columns line (λ behind. refl))

  pub before_blank : {n : ℕ} {k : TokenKind} {w : List ℕ} → R Opens EndsWord (Tok k) n w
      → R Opens Opens (Tok k) n (w ⧺ codes " ")
  before_blank x = mapped words size (λ ts us. only_first) (x ⊳ blank words size columns line (λ behind. refl))

  module _ {n : ℕ} where
    pub word_if : R Opens EndsWord (Tok kind.If) n (codes "if")
    word_if = keyword_read words size kind.If (codes "if") (omega arith) refl refl refl refl tt

    pub word_else : R Opens EndsWord (Tok kind.Else) n (codes "else")
    word_else = keyword_read words size kind.Else (codes "else") (omega arith) refl refl refl refl tt

    pub word_or : R Opens EndsWord (Tok kind.Or) n (codes "or")
    word_or = keyword_read words size kind.Or (codes "or") (omega arith) refl refl refl refl tt

    pub word_and : R Opens EndsWord (Tok kind.And) n (codes "and")
    word_and = keyword_read words size kind.And (codes "and") (omega arith) refl refl refl refl tt

    pub word_not : R Opens EndsWord (Tok kind.Not) n (codes "not")
    word_not = keyword_read words size kind.Not (codes "not") (omega arith) refl refl refl refl tt

    pub word_in : R Opens EndsWord (Tok kind.In) n (codes "in")
    word_in = keyword_read words size kind.In (codes "in") (omega arith) refl refl refl refl tt

    pub word_is : R Opens EndsWord (Tok kind.Is) n (codes "is")
    word_is = keyword_read words size kind.Is (codes "is") (omega arith) refl refl refl refl tt

    pub word_none : R Opens EndsWord (Tok kind.None) n (codes "None")
    word_none = keyword_read words size kind.None (codes "None") (omega arith) refl refl refl refl tt

    pub if_between : R EndsNumber Opens (Tok kind.If) n (codes " if ")
    unfolding ◌⧺◌
    if_between = between word_if

    else_between : R EndsNumber Opens (Tok kind.Else) n (codes " else ")
    unfolding ◌⧺◌
    else_between = between word_else

    or_between : R EndsNumber Opens (Tok kind.Or) n (codes " or ")
    unfolding ◌⧺◌
    or_between = between word_or

    and_between : R EndsNumber Opens (Tok kind.And) n (codes " and ")
    unfolding ◌⧺◌
    and_between = between word_and

    pub in_between : R EndsNumber Opens (Tok kind.In) n (codes " in ")
    unfolding ◌⧺◌
    in_between = between word_in

    not_before : R Opens Opens (Tok kind.Not) n (codes "not ")
    unfolding ◌⧺◌
    not_before = before_blank word_not

  -- ---- conditions

  cond_of : {x y z : Expr} {l : Line} {ts us : Tokens}
      → Seq (Seq (Seq (Seq (SameExpr grammar.Primary y) (Tok kind.If)) (SameExpr grammar.Primary x)) (Tok kind.Else))
      (SameExpr grammar.Primary z) ts us
      → SameExpr grammar.IsExpr (tree.node l (tree.cond x y z)) ts us
  cond_of (both (both (both (both (same p a) (token h)) (same q b)) (token i)) (same r c)) =
      same (grammar.cond (primary_or p) h (primary_or q) i (primary_expr r))
      (λ j. tree.node (record { 0 = 0 }) (tree.cond (b j) (a j) (c j)))

  pub cond_read : (l : Line) (x y z : Expr) → Operand x → Operand y → Operand z → Operand (tree.node l (tree.cond x y z))
  cond_read l x y z a b c = loose words size columns line l (tree.cond x y z) refl refl (λ n h.
      mapped words size (λ ts us. cond_of) (b.operand n (omega arith) ⊳ if_between ⊳ a.operand n (omega arith)
      ⊳ else_between ⊳ c.operand n (omega arith)))

  not_of : {e : Expr} {l : Line} {ts us : Tokens} → Seq (Tok kind.Not) (SameExpr grammar.Primary e) ts us
      → SameExpr grammar.IsExpr (tree.node l (tree.not e)) ts us
  not_of (both (token h) (same p a)) =
      same (grammar.unconditional (grammar.or_single (grammar.and_single (grammar.negated h (level_and p)))))
      (λ j. tree.node (record { 0 = 0 }) (tree.not (a j)))

  pub not_read : (l : Line) (e : Expr) → Operand e → Operand (tree.node l (tree.not e))
  not_read l e a = loose words size columns line l (tree.not e) refl refl
      (λ n h. mapped words size (λ ts us. not_of) (not_before ⊳ a.operand n (omega arith)))

  -- ---- `and` and `or`

  further_ands : (es : Exprs) → AllRead words size columns line es → (n : ℕ) → n + exprs_height es ≤ most_brackets
      → R EndsNumber EndsNumber (Same (map_exprs shape) grammar.Ands es) n
      (further (codes " and ") (operands_texts (word words size columns line) es))
  unfolding further
  further_ands tree.no_exprs all n h = mapped words size (λ ts us. none) (nothing words size)
    where
      none : {ts us : Tokens} → Nil ts us → Same (map_exprs shape) grammar.Ands tree.no_exprs ts us
      none nil = same grammar.ands_end refl
  further_ands (tree.expr e es) all n h =
      mapped words size (λ ts us. some) (and_between ⊳ all.0.operand n (omega arith)
      ⊳ further_ands es all.1 n (omega arith))
    where
      some : {ts us : Tokens} → Seq (Seq (Tok kind.And) (SameExpr grammar.Primary e)) (Same (map_exprs shape) grammar.Ands es) ts us
          → Same (map_exprs shape) grammar.Ands (tree.expr e es) ts us
      some (both (both (token i) (same p a)) (same q b)) = same (grammar.ands_go i (level_and p) q) (λ j. tree.expr (a j) (b j))

  further_ors : (es : Exprs) → AllRead words size columns line es → (n : ℕ) → n + exprs_height es ≤ most_brackets
      → R EndsNumber EndsNumber (Same (map_exprs shape) grammar.Ors es) n
      (further (codes " or ") (operands_texts (word words size columns line) es))
  unfolding further
  further_ors tree.no_exprs all n h = mapped words size (λ ts us. none) (nothing words size)
    where
      none : {ts us : Tokens} → Nil ts us → Same (map_exprs shape) grammar.Ors tree.no_exprs ts us
      none nil = same grammar.ors_end refl
  further_ors (tree.expr e es) all n h =
      mapped words size (λ ts us. some) (or_between ⊳ all.0.operand n (omega arith)
      ⊳ further_ors es all.1 n (omega arith))
    where
      some : {ts us : Tokens} → Seq (Seq (Tok kind.Or) (SameExpr grammar.Primary e)) (Same (map_exprs shape) grammar.Ors es) ts us
          → Same (map_exprs shape) grammar.Ors (tree.expr e es) ts us
      some (both (both (token i) (same p a)) (same q b)) = same (grammar.ors_go i (level_or p) q) (λ j. tree.expr (a j) (b j))

  and_of : {e f : Expr} {es : Exprs} {l : Line} {ts us : Tokens}
      → Seq (SameExpr grammar.Primary e) (Same (map_exprs shape) grammar.Ands (tree.expr f es)) ts us
      → SameExpr grammar.IsExpr (tree.node l (tree.and (tree.expr e (tree.expr f es)))) ts us
  and_of (both (same p a) (same (grammar.ands_go h q r) b)) =
      same (grammar.unconditional (grammar.or_single (grammar.and_several (level_and p) h q r)))
      (λ j. tree.node (record { 0 = 0 }) (tree.and (tree.expr (a j) (b j))))
  and_of (both (same p a) (same grammar.ands_end b)) = absurd (let none = b in cc)

  pub and_read : (l : Line) (e f : Expr) (es : Exprs) → AllRead words size columns line (tree.expr e (tree.expr f es))
      → Operand (tree.node l (tree.and (tree.expr e (tree.expr f es))))
  unfolding joined
  and_read l e f es all = loose words size columns line l (tree.and (tree.expr e (tree.expr f es))) refl refl (λ n h.
      mapped words size (λ ts us. and_of) (front n h))
    where
      front : (n : ℕ) → n + form_height (tree.and (tree.expr e (tree.expr f es))) ≤ most_brackets
          → R Opens EndsNumber (Seq (SameExpr grammar.Primary e) (Same (map_exprs shape) grammar.Ands (tree.expr f es))) n
          (form_text (word words size columns line) (tree.and (tree.expr e (tree.expr f es))))
      front n h = all.0.operand n (omega arith) ⊳ further_ands (tree.expr f es) all.1 n (omega arith)

  or_of : {e f : Expr} {es : Exprs} {l : Line} {ts us : Tokens}
      → Seq (SameExpr grammar.Primary e) (Same (map_exprs shape) grammar.Ors (tree.expr f es)) ts us
      → SameExpr grammar.IsExpr (tree.node l (tree.or (tree.expr e (tree.expr f es)))) ts us
  or_of (both (same p a) (same (grammar.ors_go h q r) b)) =
      same (grammar.unconditional (grammar.or_several (level_or p) h q r))
      (λ j. tree.node (record { 0 = 0 }) (tree.or (tree.expr (a j) (b j))))
  or_of (both (same p a) (same grammar.ors_end b)) = absurd (let none = b in cc)

  pub or_read : (l : Line) (e f : Expr) (es : Exprs) → AllRead words size columns line (tree.expr e (tree.expr f es))
      → Operand (tree.node l (tree.or (tree.expr e (tree.expr f es))))
  unfolding joined
  or_read l e f es all = loose words size columns line l (tree.or (tree.expr e (tree.expr f es))) refl refl (λ n h.
      mapped words size (λ ts us. or_of) (front n h))
    where
      front : (n : ℕ) → n + form_height (tree.or (tree.expr e (tree.expr f es))) ≤ most_brackets
          → R Opens EndsNumber (Seq (SameExpr grammar.Primary e) (Same (map_exprs shape) grammar.Ors (tree.expr f es))) n
          (form_text (word words size columns line) (tree.or (tree.expr e (tree.expr f es))))
      front n h = all.0.operand n (omega arith) ⊳ further_ors (tree.expr f es) all.1 n (omega arith)

  -- ---- unary operators and powers

  unary_mark : (u : UnOp) {n : ℕ} → R Opens Opens (Marked unary_of u) n (unary_text u)
  unary_mark unary.Neg = mapped words size (λ ts us. marked_by unary_of refl) (minus words size)
  unary_mark unary.Pos = mapped words size (λ ts us. marked_by unary_of refl) (plus words size)
  unary_mark unary.Invert = mapped words size (λ ts us. marked_by unary_of refl) (tilde words size)

  unary_form : {u : UnOp} {e : Expr} {l : Line} {ts us : Tokens} → Seq (Marked unary_of u) (SameExpr grammar.Primary e) ts us
      → SameExpr grammar.IsExpr (tree.node l (tree.unary u e)) ts us
  unary_form {u = u} (both (marked h) (same p a)) =
      same (grammar.unconditional (chain_or (unary_chain loosest (grammar.signed h (primary_unary p)))))
      (λ j. tree.node (record { 0 = 0 }) (tree.unary u (a j)))

  pub unary_read : (l : Line) (u : UnOp) (e : Expr) → Operand e → Operand (tree.node l (tree.unary u e))
  unary_read l u e a = loose words size columns line l (tree.unary u e) refl refl
      (λ n h. mapped words size (λ ts us. unary_form) (unary_mark u ⊳ a.operand n (omega arith)))

  spaced_mark : {n : ℕ} (k : TokenKind) {m : List ℕ} → R Starts Blank (Tok k) n m
      → R EndsNumber Opens (Tok k) n (codes " " ⧺ m ⧺ codes " ")
  spaced_mark k x = mapped words size (λ ts us. only_middle)
      (gap words size columns line (λ behind. refl) ⊳ x ⊳ blank words size columns line (λ behind. (behind, refl)))

  -- a mark that stands between blanks, by its kind
  pub spaced : {n : ℕ} (k : TokenKind) (m : List ℕ) → 0 < length m → begins_mark (first_of m) ≡ true
      → is_opening (first_of m) ≡ false → is_closing (first_of m) ≡ false
      → scalars m ≡ true → form_view words k ≡ mark m → IsGoodKind words k → ((behind : List ℕ) → Starts (m ++ behind))
      → ((rest : List ℕ) → find (starts_with nat_eq (m ++ (32 ∷ rest))) marks ≡ Some m)
      → R EndsNumber Opens (Tok k) n (codes " " ⧺ m ⧺ codes " ")
  spaced k m some starts none_opens none_closes letters form good begins found =
      spaced_mark k (mark_before_blank words size k m some starts none_opens none_closes letters form good begins found)

  pub spaced_stars : {n : ℕ} → R EndsNumber Opens (Tok kind.DoubleStar) n (codes " ** ")
  unfolding ◌⧺◌
  spaced_stars = spaced kind.DoubleStar (codes "**") (omega arith) refl refl refl refl refl tt (λ behind. refl)
      (λ rest. refl)

  power_of : {x y : Expr} {l : Line} {ts us : Tokens} → Seq (Seq (SameExpr grammar.Primary x) (Tok kind.DoubleStar))
      (SameExpr grammar.Primary y) ts us
      → SameExpr grammar.IsExpr (tree.node l (tree.power x y)) ts us
  power_of (both (both (same p a) (token h)) (same q b)) =
      same (grammar.unconditional (chain_or (unary_chain loosest (grammar.unsigned (grammar.raised p h (primary_unary q))))))
      (λ j. tree.node (record { 0 = 0 }) (tree.power (a j) (b j)))

  pub power_read : (l : Line) (x y : Expr) → Operand x → Operand y → Operand (tree.node l (tree.power x y))
  power_read l x y a b = loose words size columns line l (tree.power x y) refl refl (λ n h.
      mapped words size (λ ts us. power_of) (a.operand n (omega arith) ⊳ spaced_stars ⊳ b.operand n (omega arith)))

  -- ---- chains

  binary_mark : (o : BinOp) {n k : ℕ} → looseness o ≡ suc k → R EndsNumber Opens (Marked binary_of o) n
      (codes " " ⧺ binary_text o ⧺ codes " ")
  binary_mark binary.Add low = mapped words size (λ ts us. marked_by binary_of refl)
      (spaced kind.Plus (codes "+") (omega arith) refl refl refl refl refl tt (λ behind. refl) (λ rest. refl))
  binary_mark binary.Sub low = mapped words size (λ ts us. marked_by binary_of refl)
      (spaced kind.Minus (codes "-") (omega arith) refl refl refl refl refl tt (λ behind. refl) (λ rest. refl))
  binary_mark binary.Mul low = mapped words size (λ ts us. marked_by binary_of refl)
      (spaced kind.Star (codes "*") (omega arith) refl refl refl refl refl tt (λ behind. refl) (λ rest. refl))
  binary_mark binary.FloorDiv low = mapped words size (λ ts us. marked_by binary_of refl)
      (spaced kind.DoubleSlash (codes "//") (omega arith) refl refl refl refl refl tt (λ behind. refl) (λ rest. refl))
  binary_mark binary.Mod low = mapped words size (λ ts us. marked_by binary_of refl)
      (spaced kind.Percent (codes "%") (omega arith) refl refl refl refl refl tt (λ behind. refl) (λ rest. refl))
  binary_mark binary.Pow low = absurd (omega arith)
  binary_mark binary.BitAnd low = mapped words size (λ ts us. marked_by binary_of refl)
      (spaced kind.Amper (codes "&") (omega arith) refl refl refl refl refl tt (λ behind. refl) (λ rest. refl))
  binary_mark binary.BitOr low = mapped words size (λ ts us. marked_by binary_of refl)
      (spaced kind.VBar (codes "|") (omega arith) refl refl refl refl refl tt (λ behind. refl) (λ rest. refl))
  binary_mark binary.BitXor low = mapped words size (λ ts us. marked_by binary_of refl)
      (spaced kind.Circumflex (codes "^") (omega arith) refl refl refl refl refl tt (λ behind. refl) (λ rest. refl))
  binary_mark binary.LShift low = mapped words size (λ ts us. marked_by binary_of refl)
      (spaced kind.LeftShift (codes "<<") (omega arith) refl refl refl refl refl tt (λ behind. refl) (λ rest. refl))
  binary_mark binary.RShift low = mapped words size (λ ts us. marked_by binary_of refl)
      (spaced kind.RightShift (codes ">>") (omega arith) refl refl refl refl refl tt (λ behind. refl) (λ rest. refl))

  -- operators of this looseness with operands that are read
  abbrev pub AllOps : ℕ → Ops → Type 0
  AllOps k tree.no_ops = Unit {0}
  AllOps k (tree.op o e os) = (looseness o ≡ suc k) × Operand e × AllOps k os

  further_ops : (k : ℕ) (os : Ops) → AllOps k os → (n : ℕ) → n + ops_height os ≤ most_brackets
      → R EndsNumber EndsNumber (Same (map_ops shape) (grammar.Chained k) os) n (ops_text (word words size columns line) os)
  further_ops k tree.no_ops all n h = mapped words size (λ ts us. none) (nothing words size)
    where
      none : {ts us : Tokens} → Nil ts us → Same (map_ops shape) (grammar.Chained k) tree.no_ops ts us
      none nil = same grammar.chain_ends refl
  further_ops k (tree.op o e os) all n h =
      mapped words size (λ ts us. some) (binary_mark o all.0 ⊳ all.1.operand n (omega arith)
      ⊳ further_ops k os all.2 n (omega arith))
    where
      some : {ts us : Tokens} → Seq (Seq (Marked binary_of o) (SameExpr grammar.Primary e))
          (Same (map_ops shape) (grammar.Chained k) os) ts us → Same (map_ops shape) (grammar.Chained k) (tree.op o e os) ts us
      some (both (both (marked i) (same p a)) (same q b)) = same (grammar.chain_goes i all.0 (level_chain k p) q)
          (λ j. tree.op o (a j) (b j))

  pub chain_read : (l : Line) (k : ℕ) (e : Expr) (o : BinOp) (f : Expr) (os : Ops) → suc k ≤ loosest → Operand e
      → AllOps k (tree.op o f os) → Operand (tree.node l (tree.chain e (tree.op o f os)))
  chain_read l k e o f os low a all = loose words size columns line l (tree.chain e (tree.op o f os)) refl refl (λ n h.
      mapped words size (λ ts us. chain_of) (a.operand n (omega arith)
      ⊳ further_ops k (tree.op o f os) all n (omega arith)))
    where
      chain_of : {ts us : Tokens} → Seq (SameExpr grammar.Primary e) (Same (map_ops shape) (grammar.Chained k) (tree.op o f os)) ts us
          → SameExpr grammar.IsExpr (tree.node l (tree.chain e (tree.op o f os))) ts us
      chain_of (both (same p a) (same (grammar.chain_goes i m q r) b)) =
          same (chain_up (suc k) low (grammar.chained (level_chain k p) i m q r))
          (λ j. tree.node (record { 0 = 0 }) (tree.chain (a j) (b j)))
      chain_of (both (same p a) (same grammar.chain_ends b)) = absurd (let none = b in cc)

  -- ---- comparisons

  abbrev pub ReadTest : Test → Expr → Type 0
  ReadTest x f = (n : ℕ) → n + expr_height f ≤ most_brackets
      → R EndsNumber EndsNumber (Same (map_expr shape) (grammar.Tested x) f) n
      (codes " " ⧺ test_text x ⧺ codes " " ⧺ operand_text (word words size columns line) f)

  order_mark : (o : CmpOp) {n : ℕ} → R EndsNumber Opens (Marked order_of o) n
      (codes " " ⧺ test_text (test.Order o) ⧺ codes " ")
  order_mark order.Lt = mapped words size (λ ts us. marked_by order_of refl)
      (spaced kind.Less (codes "<") (omega arith) refl refl refl refl refl tt (λ behind. refl) (λ rest. refl))
  order_mark order.Le = mapped words size (λ ts us. marked_by order_of refl)
      (spaced kind.LessEqual (codes "<=") (omega arith) refl refl refl refl refl tt (λ behind. refl) (λ rest. refl))
  order_mark order.Gt = mapped words size (λ ts us. marked_by order_of refl)
      (spaced kind.Greater (codes ">") (omega arith) refl refl refl refl refl tt (λ behind. refl) (λ rest. refl))
  order_mark order.Ge = mapped words size (λ ts us. marked_by order_of refl)
      (spaced kind.GreaterEqual (codes ">=") (omega arith) refl refl refl refl refl tt (λ behind. refl) (λ rest. refl))
  order_mark order.Eq = mapped words size (λ ts us. marked_by order_of refl)
      (spaced kind.EqualEqual (codes "==") (omega arith) refl refl refl refl refl tt (λ behind. refl) (λ rest. refl))
  order_mark order.Ne = mapped words size (λ ts us. marked_by order_of refl)
      (spaced kind.NotEqual (codes "!=") (omega arith) refl refl refl refl refl tt (λ behind. refl) (λ rest. refl))

  not_in : {n : ℕ} → R Opens EndsWord (Seq (Tok kind.Not) (Tok kind.In)) n (codes "not in")
  unfolding ◌⧺◌
  not_in = not_before ⊳ word_in

  is_not : {n : ℕ} → R Opens EndsWord (Seq (Tok kind.Is) (Tok kind.Not)) n (codes "is not")
  unfolding ◌⧺◌
  is_not = before_blank word_is ⊳ word_not

  -- within blanks
  within : {P : Tokens → Tokens → Type 0} {n : ℕ} {w : List ℕ} → R Opens EndsWord P n w
      → R EndsNumber Opens P n (codes " " ⧺ w ⧺ codes " ")
  within {P = P} x = mapped words size (λ ts us. middle) (blank words size columns line (λ behind. refl) ⊳ x
      ⊳ blank words size columns line (λ behind. refl))
    where
      middle : {ts us : Tokens} → Seq (Seq Nil P) Nil ts us → P ts us
      middle (both (both nil p) nil) = p

  test_mark : (x : Test) {n : ℕ} {ts us : Tokens} → grammar.IsTest x ts us
      → R EndsNumber Opens (grammar.IsTest x) n (codes " " ⧺ test_text x ⧺ codes " ")
  test_mark (test.Order o) (grammar.order h) = mapped words size (λ ts us. of) (order_mark o)
    where
      of : {ts us : Tokens} → Marked order_of o ts us → grammar.IsTest (test.Order o) ts us
      of (marked h) = grammar.order h
  test_mark test.Within (grammar.within h) = mapped words size (λ ts us. of) (within word_in)
    where
      of : {ts us : Tokens} → Tok kind.In ts us → grammar.IsTest test.Within ts us
      of (token h) = grammar.within h
  test_mark test.NotWithin (grammar.not_within h i) = mapped words size (λ ts us. of) (within not_in)
    where
      of : {ts us : Tokens} → Seq (Tok kind.Not) (Tok kind.In) ts us → grammar.IsTest test.NotWithin ts us
      of (both (token h) (token i)) = grammar.not_within h i
  test_mark test.Is x = elim x [ ]
  test_mark test.IsNot x = elim x [ ]

  pub test_read : {x : Test} {f : Expr} {ts us : Tokens} → grammar.IsTest x ts us → Operand f → ReadTest x f
  test_read {x = x} {f = f} is a n h = mapped words size (λ ts us. of) (test_mark x is ⊳ a.operand n h)
    where
      of : {ts us : Tokens} → Seq (grammar.IsTest x) (SameExpr grammar.Primary f) ts us → Same (map_expr shape) (grammar.Tested x) f ts us
      of (both i (same p e)) = same (grammar.test i (level_chain loosest p)) e

  none_text : (l : Line) → operand_text (word words size columns line) (tree.node l (tree.const nothing_const)) ≡ codes "None"
  unfolding bracketed
  none_text l = refl

  pub is_none_read : (l : Line) → ReadTest test.Is (tree.node l (tree.const nothing_const))
  is_none_read l n h =
      reads_as words size (ap (λ (w : List ℕ). codes " " ⧺ codes "is" ⧺ codes " " ⧺ w) (sym (none_text l)))
      (mapped words size (λ ts us. of) (within word_is ⊳ fitted words size (λ cs e. e) number_word word_none))
    where
      of : {ts us : Tokens} → Seq (Tok kind.Is) (Tok kind.None) ts us
          → Same (map_expr shape) (grammar.Tested test.Is) (tree.node l (tree.const nothing_const)) ts us
      of (both (token h) (token i)) = same (grammar.is_none h i) refl

  pub is_not_none_read : (l : Line) → ReadTest test.IsNot (tree.node l (tree.const nothing_const))
  is_not_none_read l n h =
      reads_as words size (ap (λ (w : List ℕ). codes " " ⧺ codes "is not" ⧺ codes " " ⧺ w) (sym (none_text l)))
      (mapped words size (λ ts us. of) (within is_not ⊳ fitted words size (λ cs e. e) number_word word_none))
    where
      of : {ts us : Tokens} → Seq (Seq (Tok kind.Is) (Tok kind.Not)) (Tok kind.None) ts us
          → Same (map_expr shape) (grammar.Tested test.IsNot) (tree.node l (tree.const nothing_const)) ts us
      of (both (both (token h) (token i)) (token j)) = same (grammar.is_not_none h i j) refl

  abbrev pub AllTests : Tests → Type 0
  AllTests tree.no_tests = Unit {0}
  AllTests (tree.test x f xs) = ReadTest x f × AllTests xs

  further_tests : (xs : Tests) → AllTests xs → (n : ℕ) → n + tests_height xs ≤ most_brackets
      → R EndsNumber EndsNumber (Same (map_tests shape) grammar.Compared xs) n (tests_text (word words size columns line) xs)
  further_tests tree.no_tests all n h = mapped words size (λ ts us. none) (nothing words size)
    where
      none : {ts us : Tokens} → Nil ts us → Same (map_tests shape) grammar.Compared tree.no_tests ts us
      none nil = same grammar.tests_end refl
  further_tests (tree.test x f xs) all n h =
      mapped words size (λ ts us. some) (all.0 n (omega arith) ⊳ further_tests xs all.1 n (omega arith))
    where
      some : {ts us : Tokens} → Seq (Same (map_expr shape) (grammar.Tested x) f) (Same (map_tests shape) grammar.Compared xs) ts us
          → Same (map_tests shape) grammar.Compared (tree.test x f xs) ts us
      some (both (same p a) (same q b)) = same (grammar.tests_go p q) (λ j. tree.test x (a j) (b j))

  pub compare_read : (l : Line) (e f : Expr) (x : Test) (xs : Tests) → Operand e → AllTests (tree.test x f xs)
      → Operand (tree.node l (tree.compare e (tree.test x f xs)))
  compare_read l e f x xs a all = loose words size columns line l (tree.compare e (tree.test x f xs)) refl refl (λ n h.
      mapped words size (λ ts us. compare_of) (a.operand n (omega arith)
      ⊳ further_tests (tree.test x f xs) all n (omega arith)))
    where
      compare_of : {ts us : Tokens} → Seq (SameExpr grammar.Primary e)
          (Same (map_tests shape) grammar.Compared (tree.test x f xs)) ts us
          → SameExpr grammar.IsExpr (tree.node l (tree.compare e (tree.test x f xs))) ts us
      compare_of (both (same p a) (same (grammar.tests_go q r) b)) =
          same (grammar.unconditional (grammar.or_single (grammar.and_single (grammar.asserted (grammar.compared (level_chain loosest p) q r)))))
          (λ j. tree.node (record { 0 = 0 }) (tree.compare (a j) (b j)))
      compare_of (both (same p a) (same grammar.tests_end b)) = absurd (let none = b in cc)
