-- Calls (Python Language Reference, Calls). The arguments are evaluated and spread in order; then the decisions are made, and then what is
-- called goes by what it is.
use Rattle.std.specs.Prelude.{ℕ, List, [], ◌∷◌, ◌++◌, map, codes, option_map, option_and_then, slice_get, Option, Some, None}
use Rattle.rp_base.specs.declared.word.TheConstants.{ITER, ITEMS, STR, CALL, INIT}
use Rattle.rp_base.specs.declared.kind.Kind.{Kind}
use Rattle.rp_base.specs.declared.kind.Kind.TheVariants.{TypeError}
use Rattle.rp_base.specs.declared.value.Name.{Name}
use Rattle.rp_base.specs.declared.value.Oid.{Oid}
use Rattle.rp_base.specs.declared.value.Rock.{Rock}
use Rattle.rp_base.specs.declared.value.Rock.TheVariants as rock
use Rattle.rp_base.specs.declared.value.Side.{Side}
use Rattle.rp_base.specs.declared.value.Value.{Value}
use Rattle.rp_base.specs.declared.value.Value.TheVariants as value
use Rattle.rp_store.specs.declared.key.Key.{Key}
use Rattle.rp_store.specs.declared.object.Callee.{Callee}
use Rattle.rp_store.specs.declared.object.Callee.TheVariants as callee
use Rattle.rp_store.specs.Heap.{Owned, content_at, method_at}
use Rattle.rp_store.specs.Object as object
use Rattle.rp_store.specs.Object.{Content}
use Rattle.rp_ops.specs.Outcome.{gives, raises, on_value}
use Rattle.rp_ops.specs.Walk.{elements}
use Rattle.rp_base.specs.Names.{word_of}
use Rattle.rp_proxy.specs.Taken.{taken}
use Rattle.rp_show.specs.Show.{show}
use Rattle.rp_meaning.specs.State.{State, Outcome, plainly, makes, heap_of}
use Rattle.rp_meaning.specs.Binding.{Arguments, behind}
use Rattle.rp_meaning.specs.Frame.{Frame, Meaning, asked_for, takes, got}
use Rattle.rp_meaning.specs.Special.{special, on_special}
use Rattle.rp_meaning.specs.BuiltIn.{function_call, method_call, wrong_arguments, wrong_argument, not_called}

-- arguments

abbrev pub with_plain : Arguments → List Value → Arguments
with_plain a vs = record a { plain = a.plain ++ vs }

abbrev pub with_named : Arguments → List (List ℕ × Value) → Arguments
with_named a ns = record a { named = a.named ++ ns }

-- what an argument adds to those before it
abbrev pub Argument : Type 0
Argument = Arguments → Frame → State → Outcome Arguments

-- `e`
abbrev pub plain_argument : Meaning → Argument
plain_argument m before frame s = on_value (m frame s) (λ v s. gives (with_plain before (v ∷ [])) s)

-- `NAME=e`
abbrev pub named_argument : Name → Meaning → Argument
named_argument name m before frame s = on_value (m frame s) (λ v s. gives (with_named before ((word_of s.names name, v) ∷ [])) s)

-- `*e`: a walk over the value
abbrev pub star_argument : Meaning → Argument
star_argument m before frame s =
    on_value (m frame s) (λ v s. asked_for frame ITER v s (λ s. on_value (plainly (elements v) s) (λ vs s.
    gives (with_plain before (map (taken (heap_of s) frame.side) vs)) s)))

-- `**e`: the entries of a dict whose keys are texts

abbrev pub entry_named : Key × (Rock × Value) → Option (List ℕ × Value)
entry_named e = of e.1.0 where
  of : Rock → Option (List ℕ × Value)
  of (rock.Text t) = Some (t, e.1.1)
  of r = None

abbrev pub all_named : List (Key × (Rock × Value)) → Option (List (List ℕ × Value))
all_named [] = Some []
all_named (e ∷ es) = option_and_then (λ n. option_map (λ ns. n ∷ ns) (all_named es)) (entry_named e)

abbrev pub content_named : Content → Option (List (List ℕ × Value))
content_named (object.dict es) = all_named es
content_named _ = None

abbrev pub entries_named : List Owned → Value → Option (List (List ℕ × Value))
entries_named heap (value.Rock r) = None
entries_named heap (value.Ref at) = option_and_then content_named (content_at heap at)
entries_named heap (value.Prox at) = option_and_then content_named (content_at heap at)

-- each value as what was got through the dict
abbrev pub got_named : Value → List (List ℕ × Value) → Frame → State → Outcome (List (List ℕ × Value))
got_named from [] frame s = gives [] s
got_named from (n ∷ ns) frame s =
    on_value (got from n.1 frame s) (λ v s. on_value (got_named from ns frame s) (λ vs s. gives ((n.0, v) ∷ vs) s))

abbrev pub stars_argument : Meaning → Argument
stars_argument m before frame s = on_value (m frame s) (λ v s. asked_for frame ITEMS v s (λ s. added v (entries_named (heap_of s) v) s)) where
  added : Value → Option (List (List ℕ × Value)) → State → Outcome Arguments
  added v None s = wrong_argument s
  added v (Some ns) s = on_value (got_named v ns frame s) (λ vs s. gives (with_named before vs) s)

abbrev pub arguments : List Argument → Argument
arguments [] before frame s = gives before s
arguments (a ∷ as') before frame s = on_value (a before frame s) (λ before s. arguments as' before frame s)

-- what is called

-- a call of an exception kind makes an exception value, with the shown argument as its text
abbrev pub kind_call : Kind → Arguments → Meaning
kind_call k a frame s = of a.named a.plain where
  of : List (List ℕ × Value) → List Value → Outcome Value
  of [] [] = gives (value.Rock (rock.Exc k [])) s
  of [] (v ∷ []) = asked_for frame STR v s (λ s. on_value (plainly (show s.names v) s) (λ t s. gives (value.Rock (rock.Exc k t)) s))
  of _ _ = wrong_arguments s

-- an instance is made, and `__init__` called on it, which gives None
abbrev pub made_instance : Side → Oid → Option Oid → Arguments → Meaning
made_instance owner of None a frame s = bare a.named a.plain where
  bare : List (List ℕ × Value) → List Value → Outcome Value
  bare [] [] = on_value (makes owner (object.instance of []) s) (λ at s. gives (value.Ref at) s)
  bare _ _ = wrong_arguments s
made_instance owner of (Some function) a frame s =
    on_value (makes owner (object.instance of []) s) (λ at s.
    on_value (frame.calls function (behind (value.Ref at) a) s) (λ v s. initialised (value.Ref at) v s)) where
      initialised : Value → Value → State → Outcome Value
      initialised made (value.Rock rock.Nil) s = gives made s
      initialised made _ s = raises TypeError (codes "init") s

-- a bound method: its receiver stands before the arguments
abbrev pub bound_call : Side → Value → Callee → Arguments → Meaning
bound_call owner receiver (callee.Function function) a frame s = frame.calls function (behind receiver a) s
bound_call owner receiver (callee.Native id) a frame s = method_call owner receiver id a frame s

-- an object of an owner at a place
abbrev pub object_call : Oid → Side → Content → Arguments → Meaning
object_call at owner (object.function name unit block within defaults) a frame s = frame.calls at a s
object_call at owner (object.method receiver called) a frame s = bound_call owner receiver called a frame s
object_call at owner (object.class name declared methods) a frame s = made_instance owner at (method_at (heap_of s) at INIT) a frame s
object_call at owner (object.instance of fields) a frame s =
    on_special (special (heap_of s) (value.Ref at) CALL) (λ m. frame.calls m.function (behind m.of a)) not_called s
object_call at owner c a frame s = not_called s

-- what stands at a place of the store is called; what is missing is not
abbrev pub found_call : Oid → Option Owned → Arguments → Meaning
found_call at None a frame s = not_called s
found_call at (Some o) a frame s = object_call at o.owner o.content a frame s

-- a call through a reference is decided, and what it gives is got through that
abbrev pub reference_call : Value → Oid → Arguments → Meaning
reference_call v at a frame s =
    asked_for frame CALL v s (λ s. on_value (found_call at (slice_get (heap_of s) at.0) a frame s) (λ r s. got v r frame s))

-- `f(..)` of a value, once its arguments are evaluated
abbrev pub call : Value → Arguments → Meaning
call (value.Rock (rock.Native id)) a frame s = on_value (function_call id a frame s) (λ v s. takes v frame s)
call (value.Rock (rock.Kind k)) a frame s = kind_call k a frame s
call (value.Rock r) a frame s = not_called s
call (value.Ref at) a frame s = reference_call (value.Ref at) at a frame s
call (value.Prox at) a frame s = reference_call (value.Prox at) at a frame s
