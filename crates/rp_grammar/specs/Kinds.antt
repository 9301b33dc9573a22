-- The tokens at the front of a list, and what their kinds stand for.
use Rattle.std.specs.Prelude.{ℕ, List, [], ◌∷◌, Option, Some, None}
use Rattle.rp_base.specs.declared.operator.BinOp.{BinOp}
use Rattle.rp_base.specs.declared.operator.BinOp.TheVariants.{Add, Sub, Mul, FloorDiv, Mod, Pow, BitAnd, BitOr, BitXor, LShift, RShift}
use Rattle.rp_base.specs.declared.operator.UnOp.{UnOp}
use Rattle.rp_base.specs.declared.operator.UnOp.TheVariants.{Neg, Pos, Invert}
use Rattle.rp_base.specs.declared.operator.CmpOp.{CmpOp}
use Rattle.rp_base.specs.declared.operator.CmpOp.TheVariants.{Lt, Le, Gt, Ge, Eq, Ne}
use Rattle.rp_base.specs.declared.value.Line.{Line}
use Rattle.rp_token.specs.declared.token.Token.{Token}
use Rattle.rp_token.specs.declared.token.TokenKind.{TokenKind}
use Rattle.rp_token.specs.declared.token.TokenKind.TheVariants as kind

abbrev pub Tokens : Type 0
Tokens = List Token

-- the kind and the line of the first token, and the tokens behind it
abbrev pub first : Tokens → TokenKind
first [] = kind.End
first (t ∷ ts) = t.kind

abbrev pub line_at : Tokens → Line
line_at [] = record { 0 = 0 }
line_at (t ∷ ts) = t.line

abbrev pub skip : Tokens → Tokens
skip [] = []
skip (t ∷ ts) = ts

-- a mark between two operands (Python Language Reference, binary arithmetic, shifting and binary bitwise operations)
abbrev pub binary_of : TokenKind → Option BinOp
binary_of kind.Star = Some Mul
binary_of kind.DoubleSlash = Some FloorDiv
binary_of kind.Percent = Some Mod
binary_of kind.Plus = Some Add
binary_of kind.Minus = Some Sub
binary_of kind.LeftShift = Some LShift
binary_of kind.RightShift = Some RShift
binary_of kind.Amper = Some BitAnd
binary_of kind.Circumflex = Some BitXor
binary_of kind.VBar = Some BitOr
binary_of k = None

-- how loosely an operator binds (Python Language Reference, operator precedence)
abbrev pub looseness : BinOp → ℕ
looseness Pow = 0
looseness Mul = 1
looseness FloorDiv = 1
looseness Mod = 1
looseness Add = 2
looseness Sub = 2
looseness LShift = 3
looseness RShift = 3
looseness BitAnd = 4
looseness BitXor = 5
looseness BitOr = 6

-- the looseness of the loosest
abbrev pub loosest : ℕ
loosest = 6

-- a mark before its operand
abbrev pub unary_of : TokenKind → Option UnOp
unary_of kind.Minus = Some Neg
unary_of kind.Plus = Some Pos
unary_of kind.Tilde = Some Invert
unary_of k = None

-- a mark of order or equality (Python Language Reference, value comparisons)
abbrev pub order_of : TokenKind → Option CmpOp
order_of kind.Less = Some Lt
order_of kind.LessEqual = Some Le
order_of kind.Greater = Some Gt
order_of kind.GreaterEqual = Some Ge
order_of kind.EqualEqual = Some Eq
order_of kind.NotEqual = Some Ne
order_of k = None

-- a mark of augmented assignment (Python Language Reference, augmented assignment statements)
abbrev pub augmented_of : TokenKind → Option BinOp
augmented_of kind.PlusEqual = Some Add
augmented_of kind.MinusEqual = Some Sub
augmented_of kind.StarEqual = Some Mul
augmented_of kind.DoubleSlashEqual = Some FloorDiv
augmented_of kind.PercentEqual = Some Mod
augmented_of kind.DoubleStarEqual = Some Pow
augmented_of kind.AmperEqual = Some BitAnd
augmented_of kind.VBarEqual = Some BitOr
augmented_of kind.CircumflexEqual = Some BitXor
augmented_of kind.LeftShiftEqual = Some LShift
augmented_of kind.RightShiftEqual = Some RShift
augmented_of k = None
