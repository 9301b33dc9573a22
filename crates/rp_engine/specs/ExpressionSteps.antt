-- What expressions still do once the value of a part is known, as the code has a function for it; each is a part of a form of rp_meaning.
use Rattle.std.specs.Prelude.{Bool, true, false}
use Rattle.rp_base.specs.declared.operator.BinOp.TheVariants.{Pow}
use Rattle.rp_base.specs.declared.value.Value.{Value}
use Rattle.rp_meaning.specs.Expressions as forms
use Rattle.rp_meaning.specs.Frame.{Meaning}
use Rattle.rp_meaning.specs.Operators.{operate}
use Rattle.rp_meaning.specs.State.{choose, stepped}
use Rattle.rp_meaning.specs.Walks.{on_truth}
use Rattle.rp_ops.specs.Outcome.{gives, on_value}

-- a part, and what its value is put to
abbrev pub put_to : Meaning → (Value → Meaning) → Meaning
put_to x go frame s = on_value (x frame s) (λ v s. go v frame s)

-- the same, with a step before it
abbrev pub step_to : Meaning → (Value → Meaning) → Meaning
step_to x go frame s = stepped s (put_to x go frame)

-- `not v`
abbrev pub not_of : Value → Meaning
not_of v frame s = on_truth v frame s (gives (forms.truth false)) (gives (forms.truth true))

-- one of two expressions
abbrev pub one_of : Bool → Meaning → Meaning → Meaning
one_of b x y frame s = choose b (x frame) (y frame) s

-- by a value
abbrev pub either : Meaning → Meaning → Value → Meaning
either a b v frame s = on_truth v frame s (a frame) (b frame)

-- a base with the exponent behind it
abbrev pub to_power : Meaning → Value → Meaning
to_power x a = put_to x (operate Pow a)
