-- Operators and comparisons on whole numbers, as the code computes them where they are needed.
use Rattle.std.specs.Prelude.{◌≡◌, ℤ, int_lt, Bool, not, List}
use Rattle.std.specs.Ordering.{int_eq}
use Rattle.rp_base.specs.declared.operator.CmpOp.{CmpOp}
use Rattle.rp_base.specs.declared.operator.CmpOp.TheVariants.{Lt, Le, Gt, Ge, Eq, Ne}
use Rattle.rp_base.specs.declared.value.Rock.TheVariants as rock
use Rattle.rp_base.specs.declared.value.Value.{Value}
use Rattle.rp_base.specs.declared.value.Value.TheVariants as value
use Rattle.rp_meaning.specs.Frame.{Meaning, Run}
use Rattle.rp_meaning.specs.State.{State, Outcome, heap_of, stepped}
use Rattle.rp_ops.specs.Outcome.{gives}
use Rattle.rp_store.specs.Heap.{Owned}
use Rattle.rp_engine.specs.Law.{frame_in}
use Rattle.rp_engine.specs.declared.machine.Machine.{Machine}

abbrev pub int : ℤ → Value
int n = value.Rock (rock.Int n)

abbrev pub truth : Bool → Value
truth b = value.Rock (rock.Truth b)

abbrev pub compared : CmpOp → ℤ → ℤ → Bool
compared Lt x y = int_lt x y
compared Gt x y = int_lt y x
compared Le x y = not (int_lt y x)
compared Ge x y = not (int_lt x y)
compared Eq x y = int_eq x y
compared Ne x y = not (int_eq x y)

-- a value behind the steps of a first operand, of an operator and of a second operand
abbrev pub in_three : Value → State → Outcome Value
in_three v s = stepped s (λ s. stepped s (λ s. stepped s (gives v)))

-- where these objects are, an operand gives the value with its step, or an operator on two operands with theirs

abbrev pub IsRead : Machine → List Owned → Meaning → Value → Type 0
IsRead machine heap m v = (base : Run) (s : State) → heap_of s ≡ heap → m (frame_in base machine) s ≡ stepped s (gives v)

abbrev pub IsComputed : Machine → List Owned → Meaning → Value → Type 0
IsComputed machine heap m v = (base : Run) (s : State) → heap_of s ≡ heap → m (frame_in base machine) s ≡ in_three v s
