-- What begins an expression, and what may stand behind one.
use Rattle.std.proofs.Common.{◌≡◌, ℕ, ◌+◌, ◌<◌, true, false, List, Option, Some, None, refl, sym, ap, subst, arith}
use Rattle.rp_base.specs.declared.operator.BinOp.{BinOp}
use Rattle.rp_base.specs.declared.operator.UnOp.{UnOp}
use Rattle.rp_base.specs.declared.operator.CmpOp.{CmpOp}
use Rattle.rp_token.specs.declared.token.TokenKind.{TokenKind}
use Rattle.rp_token.specs.declared.token.TokenKind.TheVariants as kind
use Rattle.rp_tree.specs.Expressions.{Expr}
use Rattle.rp_grammar.specs.Kinds.{Tokens, first, binary_of, looseness, unary_of, order_of}
use Rattle.rp_grammar.specs.Expressions as grammar
use Rattle.rp_grammar.specs.Front as token_tests
use Rattle.rp_grammar.specs.Front.{starts}

-- Which level a token goes on with: what is spelled at level n may stand before a token whose number is above n.
abbrev pub binds : TokenKind → ℕ
binds (kind.Text s) = 0
binds kind.Dot = 1
binds kind.LeftParen = 1
binds kind.LeftBracket = 1
binds kind.DoubleStar = 2
binds kind.Star = 3
binds kind.DoubleSlash = 3
binds kind.Percent = 3
binds kind.Plus = 4
binds kind.Minus = 4
binds kind.LeftShift = 5
binds kind.RightShift = 5
binds kind.Amper = 6
binds kind.Circumflex = 7
binds kind.VBar = 8
binds kind.Less = 9
binds kind.LessEqual = 9
binds kind.Greater = 9
binds kind.GreaterEqual = 9
binds kind.EqualEqual = 9
binds kind.NotEqual = 9
binds kind.In = 9
binds kind.Is = 9
binds kind.Not = 9
binds kind.And = 10
binds kind.Or = 11
binds kind.If = 12
binds (kind.Name n) = 15
binds (kind.Int n) = 15
binds kind.None = 15
binds kind.True = 15
binds kind.False = 15
binds kind.LeftBrace = 15
binds kind.Tilde = 15
binds kind.Lambda = 15
binds kind.For = 16
binds kind.Comma = 20
binds _ = 30

-- what may follow
pub at : (n : ℕ) (k : TokenKind) (ts : Tokens) → first ts ≡ k → n < binds k → n < binds (first ts)
at n k ts h lt = subst (λ j. n < binds j) (sym h) lt

abbrev loose : Option BinOp → ℕ
loose None = 0
loose (Some o) = looseness o

-- what goes on with no expression may stand behind any
pub ends_by : (k : TokenKind) → token_tests.goes_on k ≡ false → 12 < binds k
ends_by (kind.Text s) h = absurd cc
ends_by kind.Dot h = absurd cc
ends_by kind.LeftParen h = absurd cc
ends_by kind.LeftBracket h = absurd cc
ends_by kind.DoubleStar h = absurd cc
ends_by kind.Star h = absurd cc
ends_by kind.DoubleSlash h = absurd cc
ends_by kind.Percent h = absurd cc
ends_by kind.Plus h = absurd cc
ends_by kind.Minus h = absurd cc
ends_by kind.LeftShift h = absurd cc
ends_by kind.RightShift h = absurd cc
ends_by kind.Amper h = absurd cc
ends_by kind.Circumflex h = absurd cc
ends_by kind.VBar h = absurd cc
ends_by kind.Less h = absurd cc
ends_by kind.LessEqual h = absurd cc
ends_by kind.Greater h = absurd cc
ends_by kind.GreaterEqual h = absurd cc
ends_by kind.EqualEqual h = absurd cc
ends_by kind.NotEqual h = absurd cc
ends_by kind.In h = absurd cc
ends_by kind.Is h = absurd cc
ends_by kind.Not h = absurd cc
ends_by kind.And h = absurd cc
ends_by kind.Or h = absurd cc
ends_by kind.If h = absurd cc
ends_by _ h = omega arith

-- an operator binds by its looseness
pub binary_binds : (k : TokenKind) (o : BinOp) → binary_of k ≡ Some o → binds k ≡ 2 + looseness o
binary_binds kind.Star o h = ap (λ (z : Option BinOp). 2 + loose z) h
binary_binds kind.DoubleSlash o h = ap (λ (z : Option BinOp). 2 + loose z) h
binary_binds kind.Percent o h = ap (λ (z : Option BinOp). 2 + loose z) h
binary_binds kind.Plus o h = ap (λ (z : Option BinOp). 2 + loose z) h
binary_binds kind.Minus o h = ap (λ (z : Option BinOp). 2 + loose z) h
binary_binds kind.LeftShift o h = ap (λ (z : Option BinOp). 2 + loose z) h
binary_binds kind.RightShift o h = ap (λ (z : Option BinOp). 2 + loose z) h
binary_binds kind.Amper o h = ap (λ (z : Option BinOp). 2 + loose z) h
binary_binds kind.Circumflex o h = ap (λ (z : Option BinOp). 2 + loose z) h
binary_binds kind.VBar o h = ap (λ (z : Option BinOp). 2 + loose z) h
binary_binds _ o h = absurd cc

pub order_binds : (k : TokenKind) (o : CmpOp) → order_of k ≡ Some o → binds k ≡ 9
order_binds kind.Less o h = refl
order_binds kind.LessEqual o h = refl
order_binds kind.Greater o h = refl
order_binds kind.GreaterEqual o h = refl
order_binds kind.EqualEqual o h = refl
order_binds kind.NotEqual o h = refl
order_binds _ o h = absurd cc

-- ---- what does not follow

pub no_text : (k : TokenKind) → 0 < binds k → token_tests.is_text k ≡ false
no_text (kind.Text s) h = absurd (omega arith)
no_text _ h = refl

pub no_trailer : (k : TokenKind) → 1 < binds k → token_tests.starts_trailer k ≡ false
no_trailer kind.Dot h = absurd (omega arith)
no_trailer kind.LeftParen h = absurd (omega arith)
no_trailer kind.LeftBracket h = absurd (omega arith)
no_trailer _ h = refl

pub no_power : (k : TokenKind) → 2 < binds k → token_tests.is_double_star k ≡ false
no_power kind.DoubleStar h = absurd (omega arith)
no_power _ h = refl

pub no_test : (k l : TokenKind) → 9 < binds k → token_tests.starts_test k l ≡ false
no_test kind.Less l h = absurd (omega arith)
no_test kind.LessEqual l h = absurd (omega arith)
no_test kind.Greater l h = absurd (omega arith)
no_test kind.GreaterEqual l h = absurd (omega arith)
no_test kind.EqualEqual l h = absurd (omega arith)
no_test kind.NotEqual l h = absurd (omega arith)
no_test kind.In l h = absurd (omega arith)
no_test kind.Is l h = absurd (omega arith)
no_test kind.Not l h = absurd (omega arith)
no_test _ l h = refl

pub no_and : (k : TokenKind) → 10 < binds k → token_tests.is_and k ≡ false
no_and kind.And h = absurd (omega arith)
no_and _ h = refl

pub no_or : (k : TokenKind) → 11 < binds k → token_tests.is_or k ≡ false
no_or kind.Or h = absurd (omega arith)
no_or _ h = refl

pub no_if : (k : TokenKind) → 12 < binds k → token_tests.is_if k ≡ false
no_if kind.If h = absurd (omega arith)
no_if _ h = refl

pub no_for : (k : TokenKind) → 16 < binds k → token_tests.is_for k ≡ false
no_for kind.For h = absurd (omega arith)
no_for _ h = refl

pub no_comma : (k : TokenKind) → 20 < binds k → token_tests.is_comma k ≡ false
no_comma kind.Comma h = absurd (omega arith)
no_comma _ h = refl

-- no expression begins with a token that may follow a list of them
pub starts_none : (k : TokenKind) → 20 < binds k → starts k ≡ false
starts_none (kind.Name n) h = absurd (omega arith)
starts_none (kind.Int n) h = absurd (omega arith)
starts_none (kind.Text s) h = absurd (omega arith)
starts_none kind.None h = absurd (omega arith)
starts_none kind.True h = absurd (omega arith)
starts_none kind.False h = absurd (omega arith)
starts_none kind.LeftParen h = absurd (omega arith)
starts_none kind.LeftBracket h = absurd (omega arith)
starts_none kind.LeftBrace h = absurd (omega arith)
starts_none kind.Minus h = absurd (omega arith)
starts_none kind.Plus h = absurd (omega arith)
starts_none kind.Tilde h = absurd (omega arith)
starts_none kind.Not h = absurd (omega arith)
starts_none kind.Lambda h = absurd (omega arith)
starts_none _ h = refl

-- ---- what begins an expression

-- a token that begins an expression closes none, and is no colon
pub record Begins (k : TokenKind) : Type 0 where
  pub no_paren : token_tests.is_right_paren k ≡ false
  pub no_bracket : token_tests.is_right_bracket k ≡ false
  pub no_brace : token_tests.is_right_brace k ≡ false
  pub no_colon : token_tests.is_colon k ≡ false
  pub arg : token_tests.starts_arg k ≡ true

pub begins_by : (k : TokenKind) → starts k ≡ true → Begins k
begins_by (kind.Name n) h = record { no_paren = refl; no_bracket = refl; no_brace = refl; no_colon = refl; arg = refl }
begins_by (kind.Int n) h = record { no_paren = refl; no_bracket = refl; no_brace = refl; no_colon = refl; arg = refl }
begins_by (kind.Text s) h = record { no_paren = refl; no_bracket = refl; no_brace = refl; no_colon = refl; arg = refl }
begins_by kind.None h = record { no_paren = refl; no_bracket = refl; no_brace = refl; no_colon = refl; arg = refl }
begins_by kind.True h = record { no_paren = refl; no_bracket = refl; no_brace = refl; no_colon = refl; arg = refl }
begins_by kind.False h = record { no_paren = refl; no_bracket = refl; no_brace = refl; no_colon = refl; arg = refl }
begins_by kind.LeftParen h = record { no_paren = refl; no_bracket = refl; no_brace = refl; no_colon = refl; arg = refl }
begins_by kind.LeftBracket h = record { no_paren = refl; no_bracket = refl; no_brace = refl; no_colon = refl; arg = refl }
begins_by kind.LeftBrace h = record { no_paren = refl; no_bracket = refl; no_brace = refl; no_colon = refl; arg = refl }
begins_by kind.Minus h = record { no_paren = refl; no_bracket = refl; no_brace = refl; no_colon = refl; arg = refl }
begins_by kind.Plus h = record { no_paren = refl; no_bracket = refl; no_brace = refl; no_colon = refl; arg = refl }
begins_by kind.Tilde h = record { no_paren = refl; no_bracket = refl; no_brace = refl; no_colon = refl; arg = refl }
begins_by kind.Not h = record { no_paren = refl; no_bracket = refl; no_brace = refl; no_colon = refl; arg = refl }
begins_by kind.Lambda h = record { no_paren = refl; no_bracket = refl; no_brace = refl; no_colon = refl; arg = refl }
begins_by _ h = absurd cc

-- an atom begins with no operator before an operand, no `not` and no `lambda`
pub record Plainly (k : TokenKind) : Type 0 where
  pub begins : starts k ≡ true
  pub no_mark : unary_of k ≡ None
  pub no_not : token_tests.is_not k ≡ false
  pub no_lambda : token_tests.is_lambda k ≡ false

plainly : (k : TokenKind) (ts : Tokens) → first ts ≡ k → Plainly k → Plainly (first ts)
plainly k ts h p = subst Plainly (sym h) p

text_begins : {s : List ℕ} {ts us : Tokens} → grammar.Texts s ts us → Plainly (first ts)
text_begins {ts = ts} (grammar.one_text {s = s} h) = plainly (kind.Text s) ts h (record { begins = refl; no_mark = refl; no_not = refl; no_lambda = refl })
text_begins {ts = ts} (grammar.more_texts {s = s} h p) = plainly (kind.Text s) ts h (record { begins = refl; no_mark = refl; no_not = refl; no_lambda = refl })

pub atom_begins : {e : Expr} {ts us : Tokens} → grammar.Atom e ts us → Plainly (first ts)
atom_begins {ts = ts} (grammar.name {n = n} h) = plainly (kind.Name n) ts h (record { begins = refl; no_mark = refl; no_not = refl; no_lambda = refl })
atom_begins {ts = ts} (grammar.int {n = n} h) = plainly (kind.Int n) ts h (record { begins = refl; no_mark = refl; no_not = refl; no_lambda = refl })
atom_begins (grammar.text p) = text_begins p
atom_begins {ts = ts} (grammar.nil h) = plainly kind.None ts h (record { begins = refl; no_mark = refl; no_not = refl; no_lambda = refl })
atom_begins {ts = ts} (grammar.truth h) = plainly kind.True ts h (record { begins = refl; no_mark = refl; no_not = refl; no_lambda = refl })
atom_begins {ts = ts} (grammar.falsity h) = plainly kind.False ts h (record { begins = refl; no_mark = refl; no_not = refl; no_lambda = refl })
atom_begins {ts = ts} (grammar.paren h p i) = plainly kind.LeftParen ts h (record { begins = refl; no_mark = refl; no_not = refl; no_lambda = refl })
atom_begins {ts = ts} (grammar.unit h i) = plainly kind.LeftParen ts h (record { begins = refl; no_mark = refl; no_not = refl; no_lambda = refl })
atom_begins {ts = ts} (grammar.tuple h p i q j) = plainly kind.LeftParen ts h (record { begins = refl; no_mark = refl; no_not = refl; no_lambda = refl })
atom_begins {ts = ts} (grammar.list h q i) = plainly kind.LeftBracket ts h (record { begins = refl; no_mark = refl; no_not = refl; no_lambda = refl })
atom_begins {ts = ts} (grammar.list_of h p c cs i) = plainly kind.LeftBracket ts h (record { begins = refl; no_mark = refl; no_not = refl; no_lambda = refl })
atom_begins {ts = ts} (grammar.dict h q i) = plainly kind.LeftBrace ts h (record { begins = refl; no_mark = refl; no_not = refl; no_lambda = refl })
atom_begins {ts = ts} (grammar.dict_of h p i q c cs j) = plainly kind.LeftBrace ts h (record { begins = refl; no_mark = refl; no_not = refl; no_lambda = refl })

pub primary_begins : {e : Expr} {ts us : Tokens} → grammar.Primary e ts us → Plainly (first ts)
primary_begins (grammar.bare p) = atom_begins p
primary_begins (grammar.trailed p q r) = atom_begins p

pub power_begins : {e : Expr} {ts us : Tokens} → grammar.Power e ts us → Plainly (first ts)
power_begins (grammar.base p) = primary_begins p
power_begins (grammar.raised p h q) = primary_begins p

-- an operand of a binary operator begins with no `not` and no `lambda`
pub record Operandly (k : TokenKind) : Type 0 where
  pub begins : starts k ≡ true
  pub no_not : token_tests.is_not k ≡ false
  pub no_lambda : token_tests.is_lambda k ≡ false

marked : (k : TokenKind) (o : UnOp) → unary_of k ≡ Some o → Operandly k
marked kind.Minus o h = record { begins = refl; no_not = refl; no_lambda = refl }
marked kind.Plus o h = record { begins = refl; no_not = refl; no_lambda = refl }
marked kind.Tilde o h = record { begins = refl; no_not = refl; no_lambda = refl }
marked _ o h = absurd cc

unary_begins : {e : Expr} {ts us : Tokens} → grammar.Unary e ts us → Operandly (first ts)
unary_begins (grammar.unsigned p) = let b = power_begins p in record { begins = b.begins; no_not = b.no_not; no_lambda = b.no_lambda }
unary_begins {ts = ts} (grammar.signed {o = o} h p) = marked (first ts) o h

chain_begins : {k : ℕ} {e : Expr} {ts us : Tokens} → grammar.Chain k e ts us → Operandly (first ts)
chain_begins (grammar.operand p) = unary_begins p
chain_begins (grammar.tighter p) = chain_begins p
chain_begins (grammar.chained p h i q r) = chain_begins p

pub compare_begins : {e : Expr} {ts us : Tokens} → grammar.Compare e ts us → Operandly (first ts)
compare_begins (grammar.single p) = chain_begins p
compare_begins (grammar.compared p q r) = chain_begins p

-- what `or` joins begins with no `lambda`
abbrev Orly : TokenKind → Type 0
Orly k = (starts k ≡ true) × (token_tests.is_lambda k ≡ false)

not_begins : {e : Expr} {ts us : Tokens} → grammar.Not e ts us → Orly (first ts)
not_begins (grammar.asserted p) = let b = compare_begins p in (b.begins, b.no_lambda)
not_begins (grammar.negated h p) = (ap starts h, ap token_tests.is_lambda h)

and_begins : {e : Expr} {ts us : Tokens} → grammar.And e ts us → Orly (first ts)
and_begins (grammar.and_single p) = not_begins p
and_begins (grammar.and_several p h q r) = not_begins p

pub or_begins : {e : Expr} {ts us : Tokens} → grammar.Or e ts us → (starts (first ts) ≡ true) × (token_tests.is_lambda (first ts) ≡ false)
or_begins (grammar.or_single p) = and_begins p
or_begins (grammar.or_several p h q r) = and_begins p

pub expr_starts : {e : Expr} {ts us : Tokens} → grammar.IsExpr e ts us → starts (first ts) ≡ true
expr_starts (grammar.a_lambda h p d i q) = ap starts h
expr_starts (grammar.unconditional p) = (or_begins p).0
expr_starts (grammar.cond p h q i r) = (or_begins p).0

pub expr_begins : {e : Expr} {ts us : Tokens} → grammar.IsExpr e ts us → Begins (first ts)
expr_begins {ts = ts} p = begins_by (first ts) (expr_starts p)
