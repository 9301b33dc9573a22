-- Constants and operators as they are spelled (Python Language Reference, Keywords, Operators).
use Rattle.std.specs.Prelude.{ℕ, List, codes, true, false}
use Rattle.rp_base.specs.declared.operator.BinOp.{BinOp}
use Rattle.rp_base.specs.declared.operator.BinOp.TheVariants as binary
use Rattle.rp_base.specs.declared.operator.UnOp.{UnOp}
use Rattle.rp_base.specs.declared.operator.UnOp.TheVariants as unary
use Rattle.rp_base.specs.declared.operator.CmpOp.{CmpOp}
use Rattle.rp_base.specs.declared.operator.CmpOp.TheVariants as order
use Rattle.rp_tree.specs.declared.parts.Const.{Const}
use Rattle.rp_tree.specs.declared.parts.Const.TheVariants as const
use Rattle.rp_tree.specs.declared.parts.Test.{Test}
use Rattle.rp_tree.specs.declared.parts.Test.TheVariants as test

abbrev pub const_text : Const → List ℕ
const_text const.Nil = codes "None"
const_text (const.Truth true) = codes "True"
const_text (const.Truth false) = codes "False"

abbrev pub binary_text : BinOp → List ℕ
binary_text binary.Add = codes "+"
binary_text binary.Sub = codes "-"
binary_text binary.Mul = codes "*"
binary_text binary.FloorDiv = codes "//"
binary_text binary.Mod = codes "%"
binary_text binary.Pow = codes "**"
binary_text binary.BitAnd = codes "&"
binary_text binary.BitOr = codes "|"
binary_text binary.BitXor = codes "^"
binary_text binary.LShift = codes "<<"
binary_text binary.RShift = codes ">>"

abbrev pub unary_text : UnOp → List ℕ
unary_text unary.Neg = codes "-"
unary_text unary.Pos = codes "+"
unary_text unary.Invert = codes "~"

abbrev pub order_text : CmpOp → List ℕ
order_text order.Lt = codes "<"
order_text order.Le = codes "<="
order_text order.Gt = codes ">"
order_text order.Ge = codes ">="
order_text order.Eq = codes "=="
order_text order.Ne = codes "!="

abbrev pub test_text : Test → List ℕ
test_text (test.Order o) = order_text o
test_text test.Within = codes "in"
test_text test.NotWithin = codes "not in"
test_text test.Is = codes "is"
test_text test.IsNot = codes "is not"
