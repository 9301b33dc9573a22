-- Operators, as code of a side does them (Python Language Reference, Expressions; Data model, Emulating numeric types; zope.security, proxies): the
-- decisions on the operands by the names of their special methods, then the plain operator.
use Rattle.std.specs.Prelude.{Bool, true, false, not, List}
use Rattle.std.specs.Option.{option_map_or}
use Rattle.rp_base.specs.declared.word.TheConstants as name
use Rattle.rp_base.specs.declared.word.TheConstants.{ITER}
use Rattle.rp_base.specs.declared.operator.BinOp.{BinOp}
use Rattle.rp_base.specs.declared.operator.BinOp.TheVariants.{Add, Sub, Mul, FloorDiv, Mod, Pow, BitAnd, BitOr, BitXor, LShift, RShift}
use Rattle.rp_base.specs.declared.operator.CmpOp.{CmpOp}
use Rattle.rp_base.specs.declared.operator.CmpOp.TheVariants.{Lt, Le, Gt, Ge, Eq, Ne}
use Rattle.rp_base.specs.declared.operator.UnOp.{UnOp}
use Rattle.rp_base.specs.declared.operator.UnOp.TheVariants.{Neg, Pos, Invert}
use Rattle.rp_base.specs.declared.value.Name.{Name}
use Rattle.rp_base.specs.declared.value.Rock.TheVariants as rock
use Rattle.rp_base.specs.declared.value.Value.{Value}
use Rattle.rp_base.specs.declared.value.Value.TheVariants as value
use Rattle.rp_compare.specs.Order.{compare}
use Rattle.rp_ops.specs.Binary as binary
use Rattle.rp_ops.specs.Inplace as inplace
use Rattle.rp_ops.specs.Outcome.{gives, on_value, on_found}
use Rattle.rp_store.specs.Heap.{Owned, content_at}
use Rattle.rp_store.specs.Object as object
use Rattle.rp_store.specs.Object.{Content}
use Rattle.rp_tree.specs.declared.parts.Test.{Test}
use Rattle.rp_tree.specs.declared.parts.Test.TheVariants as test
use Rattle.rp_meaning.specs.State.{State, Outcome, plainly, heap_of}
use Rattle.rp_meaning.specs.Frame.{Frame, Meaning, asked_for, takes}
use Rattle.rp_meaning.specs.Access.{is_within}

-- the names that are decided on the operands

abbrev pub left_name : BinOp → Name
left_name Add = name.ADD
left_name Sub = name.SUB
left_name Mul = name.MUL
left_name FloorDiv = name.FLOOR_DIV
left_name Mod = name.MOD
left_name Pow = name.POW
left_name BitAnd = name.BIT_AND
left_name BitOr = name.BIT_OR
left_name BitXor = name.BIT_XOR
left_name LShift = name.LSHIFT
left_name RShift = name.RSHIFT

abbrev pub right_name : BinOp → Name
right_name Add = name.REFLECTED_ADD
right_name Sub = name.REFLECTED_SUB
right_name Mul = name.REFLECTED_MUL
right_name FloorDiv = name.REFLECTED_FLOOR_DIV
right_name Mod = name.REFLECTED_MOD
right_name Pow = name.REFLECTED_POW
right_name BitAnd = name.REFLECTED_BIT_AND
right_name BitOr = name.REFLECTED_BIT_OR
right_name BitXor = name.REFLECTED_BIT_XOR
right_name LShift = name.REFLECTED_LSHIFT
right_name RShift = name.REFLECTED_RSHIFT

abbrev pub in_place_name : BinOp → Name
in_place_name Add = name.IN_PLACE_ADD
in_place_name Sub = name.IN_PLACE_SUB
in_place_name Mul = name.IN_PLACE_MUL
in_place_name FloorDiv = name.IN_PLACE_FLOOR_DIV
in_place_name Mod = name.IN_PLACE_MOD
in_place_name Pow = name.IN_PLACE_POW
in_place_name BitAnd = name.IN_PLACE_BIT_AND
in_place_name BitOr = name.IN_PLACE_BIT_OR
in_place_name BitXor = name.IN_PLACE_BIT_XOR
in_place_name LShift = name.IN_PLACE_LSHIFT
in_place_name RShift = name.IN_PLACE_RSHIFT

abbrev pub comparison_name : CmpOp → Name
comparison_name Lt = name.LT
comparison_name Le = name.LE
comparison_name Gt = name.GT
comparison_name Ge = name.GE
comparison_name Eq = name.EQ
comparison_name Ne = name.NE

-- the comparison with its operands exchanged
abbrev pub mirrored : CmpOp → CmpOp
mirrored Lt = Gt
mirrored Le = Ge
mirrored Gt = Lt
mirrored Ge = Le
mirrored Eq = Eq
mirrored Ne = Ne

abbrev pub unary_name : UnOp → Name
unary_name Neg = name.NEG
unary_name Pos = name.POS
unary_name Invert = name.INVERT

-- `a op b`
abbrev pub operate : BinOp → Value → Value → Meaning
operate op a b frame s = asked_for frame (left_name op) a s (λ s. asked_for frame (right_name op) b s (λ s.
    on_value (plainly (binary.binary frame.side op a b) s) (λ v s. takes v frame s)))

-- `op a`
abbrev pub operate_unary : UnOp → Value → Meaning
operate_unary op a frame s = asked_for frame (unary_name op) a s (λ s. on_found (binary.int_value (binary.unary (heap_of s) op a)) s gives)

-- `a op= b`: what is stored back. The right operand is walked where a list is extended.

abbrev pub content_name : BinOp → Content → Name
content_name Add (object.list xs) = ITER
content_name op _ = right_name op

abbrev pub augmented_name : List Owned → BinOp → Value → Name
augmented_name heap op (value.Rock r) = right_name op
augmented_name heap op (value.Ref at) = option_map_or (content_name op) (content_at heap at) (right_name op)
augmented_name heap op (value.Prox at) = option_map_or (content_name op) (content_at heap at) (right_name op)

abbrev pub augment : BinOp → Value → Value → Meaning
augment op a b frame s = asked_for frame (in_place_name op) a s (λ s. asked_for frame (augmented_name (heap_of s) op a) b s (λ s.
    on_value (plainly (inplace.inplace frame.side op a b) s) (λ v s. takes v frame s)))

abbrev pub is_nil : Value → Bool
is_nil (value.Rock rock.Nil) = true
is_nil _ = false

-- one test of a comparison chain
abbrev pub tested : Test → Value → Value → Frame → State → Outcome Bool
tested (test.Order op) a b frame s =
    asked_for frame (comparison_name op) a s (λ s. asked_for frame (comparison_name (mirrored op)) b s (plainly (compare op a b)))
tested test.Within a b frame s = is_within a b frame s
tested test.NotWithin a b frame s = on_value (is_within a b frame s) (λ r s. gives (not r) s)
tested test.Is a b frame s = gives (is_nil a) s
tested test.IsNot a b frame s = gives (not (is_nil a)) s
