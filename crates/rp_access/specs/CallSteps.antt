-- Calls of built-in functions, as the code has functions for them: of a frame they read its side, and what a call of a special method does. Each is a part of
-- a call of rp_meaning.
use Rattle.std.specs.Prelude.{◌≡◌, ◌++◌, IsTrue, is_some, List, [], ◌∷◌, length, Bool, true, false, Option, Some, None}
use Rattle.rp_base.specs.declared.kind.Kind.{Kind}
use Rattle.rp_base.specs.declared.native.NativeId.{NativeId}
use Rattle.rp_base.specs.declared.native.NativeId.TheVariants as native
use Rattle.rp_base.specs.declared.value.Name.{Name}
use Rattle.rp_base.specs.declared.value.Rock.TheVariants as rock
use Rattle.rp_base.specs.declared.value.Side.{Side}
use Rattle.rp_base.specs.declared.value.Value.{Value}
use Rattle.rp_base.specs.declared.value.Value.TheVariants as value
use Rattle.rp_base.specs.declared.word.TheConstants.{LEN}
use Rattle.rp_meaning.specs.BuiltIn.{not_called, wrong_arguments}
use Rattle.rp_meaning.specs.Expressions.{nil}
use Rattle.rp_meaning.specs.Frame.{through}
use Rattle.rp_meaning.specs.Special.{Special, on_special, special}
use Rattle.rp_meaning.specs.State.{State, Outcome, choose, heap_of, plainly}
use Rattle.rp_attributes.specs.BuiltIns.{counts_of, receiver_of}
use Rattle.rp_methods.specs.Methods.{method}
use Rattle.rp_native.specs.Counts.{is_function}
use Rattle.rp_native.specs.Functions as plain
use Rattle.rp_native.specs.Print as plain_print
use Rattle.rp_ops.specs.Outcome.{gives, on_value}
use Rattle.rp_proxy.specs.Taken.{taken}
use Rattle.rp_store.specs.Heap.{Owned}
use Rattle.rp_access.specs.Natives.{name_needed}
use Rattle.rp_access.specs.Parts.{asking, shown}

-- the name may be read on each of some values, from left to right
abbrev pub all_asked : Name → List Value → State → Outcome (Unit {0})
all_asked name [] s = gives (tt {0}) s
all_asked name (v ∷ vs) s = on_value (asking name v s) (λ _ s. all_asked name vs s)

abbrev pub each_asked : Option Name → List Value → State → Outcome (Unit {0})
each_asked None vs s = gives (tt {0}) s
each_asked (Some name) vs s = all_asked name vs s

-- what a function needs of its arguments, which is the same of each
abbrev pub needs_asked : NativeId → List Value → State → Outcome (Unit {0})
needs_asked id vs s = each_asked (name_needed id 0 (length vs)) vs s

-- it stands for a form of the language
abbrev pub is_form : NativeId → Bool
is_form native.GetAttr = true
is_form native.SetAttr = true
is_form _ = false

-- `len` of an instance that has no method for it, or another function
abbrev pub IsPlainly : List Owned → NativeId → List Value → Type 0
IsPlainly heap native.Len (v ∷ []) = special heap v LEN ≡ None
IsPlainly heap _ _ = Unit {0}

-- `len` of an instance that has a method for it
abbrev pub HasLength : List Owned → NativeId → List Value → Type 0
HasLength heap native.Len (v ∷ []) = IsTrue (is_some (special heap v LEN))
HasLength heap _ _ = ⊥

-- a function that is not done: `len` of such an instance, once that is decided
abbrev pub IsFunctionLeft : NativeId → List Value → State → State → Type 0
IsFunctionLeft id vs s t = (needs_asked id vs s ≡ gives (tt {0}) t) × HasLength (heap_of t) id vs

-- a function on values whose decisions are made
abbrev pub given : Side → NativeId → List Value → State → Outcome Value
given side id vs s = plainly (plain.function s.names side id vs) s

-- `print`
abbrev pub printing : List Value → State → Outcome Value
printing vs s = on_value (plainly (plain_print.print_line s.names vs) s) (λ line s. gives nil (record s { printed = s.printed ++ line }))

-- a function whose arguments are decided, but for those that stand for forms
abbrev pub applied_by : (Special → State → Outcome Value) → Side → NativeId → List Value → State → Outcome Value
applied_by call side native.Len (v ∷ []) s = on_special (special (heap_of s) v LEN) call (given side native.Len (v ∷ [])) s
applied_by call side native.Print vs s = printing vs s
applied_by call side id vs s = given side id vs s

-- what code of a side gets of it
abbrev pub function_by : (Special → State → Outcome Value) → Side → NativeId → List Value → State → Outcome Value
function_by call side id vs s =
    on_value (choose (is_function id) (λ s. on_value (needs_asked id vs s) (λ _ s. applied_by call side id vs s)) not_called s)
    (λ v s. gives (taken (heap_of s) side v) s)

-- an exception value
abbrev pub kind_by : Kind → List Value → State → Outcome Value
kind_by kind [] s = gives (value.Rock (rock.Exc kind [])) s
kind_by kind (v ∷ []) s = on_value (shown v s) (λ t s. gives (value.Rock (rock.Exc kind t)) s)
kind_by kind vs s = wrong_arguments s

-- a built-in method of a receiver, which is bound for an owner
abbrev pub method_by : Side → Value → NativeId → List Value → State → Outcome Value
method_by owner receiver id vs s =
    choose (is_some (counts_of (receiver_of (heap_of s) receiver) id)) (λ s. on_value (needs_asked id vs s) (λ _ s.
    plainly (method owner receiver id vs) s)) not_called s

-- what code of a side gets of it through a value
abbrev pub bound_by : Side → Value → Side → Value → NativeId → List Value → State → Outcome Value
bound_by side f owner receiver id vs s =
    on_value (method_by owner receiver id vs s) (λ v s. gives (taken (heap_of s) side (through f v)) s)
