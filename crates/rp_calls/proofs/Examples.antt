-- Worked examples of the binding of arguments.
use Rattle.std.proofs.Common.{◌≡◌, pos, true, false, [], ◌∷◌, Some, None, refl}
use Rattle.rp_base.specs.declared.value.Rock.TheVariants as rock
use Rattle.rp_base.specs.declared.value.Value.{Value}
use Rattle.rp_base.specs.declared.value.Value.TheVariants as value
use Rattle.rp_calls.specs.Binding.{elements_for, filled, sole}

one : Value
one = value.Rock (rock.Int (pos 1))

two : Value
two = value.Rock (rock.Int (pos 2))

-- a parameter takes its argument, and one without an argument its default
argument-and-default : filled (record { word = []; positional = Some one; default = Some two } ∷ record { word = []; positional = None; default = Some two } ∷ []) [] ≡ Some (one ∷ two ∷ [])
argument-and-default = refl

-- `def f(a): ..`, `f()`
stays-empty : filled (record { word = []; positional = None; default = None } ∷ []) [] ≡ None
stays-empty = refl

-- `def f(a=1): ..`, `f(2, a=1)`
filled-twice : sole (two ∷ one ∷ []) (Some one) ≡ None
filled-twice = refl

-- `def f(a, *b): ..` and `def f(a): ..`, `f(1, 2)`
left-over : elements_for true 1 (one ∷ two ∷ []) ≡ Some (two ∷ [])
left-over = refl

no-place : elements_for false 1 (one ∷ two ∷ []) ≡ None
no-place = refl
