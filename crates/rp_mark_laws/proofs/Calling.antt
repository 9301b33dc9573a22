-- Arguments and calls do not see the trees of programs: a function's tree is found by the frame's calls.
use Rattle.std.proofs.Common.{◌≡◌, refl, ℕ, List, [], ◌∷◌, map, slice_get, Option, Some, None}
use Rattle.std.specs.List.{AllByRecursion}
use Rattle.rp_base.specs.Names.{word_of}
use Rattle.rp_base.specs.declared.kind.Kind.{Kind}
use Rattle.rp_base.specs.declared.value.Name.{Name}
use Rattle.rp_base.specs.declared.value.Oid.{Oid}
use Rattle.rp_base.specs.declared.value.Rock.TheVariants as rock
use Rattle.rp_base.specs.declared.value.Side.{Side}
use Rattle.rp_base.specs.declared.value.Value.{Value}
use Rattle.rp_base.specs.declared.value.Value.TheVariants as value
use Rattle.rp_base.specs.declared.word.TheConstants.{ITER, ITEMS, CALL, INIT}
use Rattle.rp_ops.specs.Outcome.{gives, on_value}
use Rattle.rp_ops.specs.Walk.{elements}
use Rattle.rp_proxy.specs.Taken.{taken}
use Rattle.rp_store.specs.declared.object.Callee.{Callee}
use Rattle.rp_store.specs.declared.object.Callee.TheVariants as callee
use Rattle.rp_store.specs.Heap.{Owned, method_at}
use Rattle.rp_store.specs.Object as object
use Rattle.rp_store.specs.Object.{Content}
use Rattle.rp_meaning.specs.Binding.{Arguments}
use Rattle.rp_meaning.specs.BuiltIn.{wrong_argument}
use Rattle.rp_meaning.specs.Calls as calls
use Rattle.rp_meaning.specs.Calls.{Argument, entries_named, got_named, with_named, with_plain}
use Rattle.rp_meaning.specs.Frame.{Frame, Meaning, asked_for, got, takes}
use Rattle.rp_meaning.specs.State.{State, Outcome, heap_of, plainly}
use Rattle.rp_mark_laws.specs.Blind.{Blind, blinded}
use Rattle.rp_mark_laws.proofs.Values.{function-called, method-called}

abbrev pub ArgumentIsBlind : Argument → Type 0
ArgumentIsBlind a = (before : Arguments) → Blind (a before)

abbrev pub ArgumentsAreBlind : List Argument → Type 0
ArgumentsAreBlind as' = AllByRecursion ArgumentIsBlind as'

pub plain_argument : (m : Meaning) → Blind m → ArgumentIsBlind (calls.plain_argument m)
plain_argument m i before f s = λ j. on_value (i f s j) (λ v s. gives (with_plain before (v ∷ [])) s)

pub named_argument : (n : Name) (m : Meaning) → Blind m → ArgumentIsBlind (calls.named_argument n m)
named_argument n m i before f s = λ j. on_value (i f s j) (λ v s. gives (with_named before ((word_of s.names n, v) ∷ [])) s)

pub star_argument : (m : Meaning) → Blind m → ArgumentIsBlind (calls.star_argument m)
star_argument m i before f s = λ j.
    on_value (i f s j) (λ v s. asked_for f ITER v s (λ s. on_value (plainly (elements v) s) (λ vs s.
    gives (with_plain before (map (taken (heap_of s) f.side) vs)) s)))

-- what `**` adds, of the entries that were found
abbrev added : Arguments → Frame → Value → Option (List (List ℕ × Value)) → State → Outcome Arguments
added before f v None s = wrong_argument s
added before f v (Some ns) s = on_value (got_named v ns f s) (λ vs s. gives (with_named before vs) s)

got-each : (from : Value) (ns : List (List ℕ × Value)) → Blind (got_named from ns)
got-each from [] f s = refl
got-each from (n ∷ ns) f s = λ j. on_value (got from n.1 f s) (λ v s. on_value (got-each from ns f s j) (λ vs s. gives ((n.0, v) ∷ vs) s))

added-blind : (before : Arguments) (f : Frame) (v : Value) (found : Option (List (List ℕ × Value))) (s : State)
    → added before (blinded f) v found s ≡ added before f v found s
added-blind before f v None s = refl
added-blind before f v (Some ns) s = λ j. on_value (got-each v ns f s j) (λ vs s. gives (with_named before vs) s)

pub stars_argument : (m : Meaning) → Blind m → ArgumentIsBlind (calls.stars_argument m)
stars_argument m i before f s = λ j.
    on_value (i f s j) (λ v s. asked_for f ITEMS v s (λ s. added-blind before f v (entries_named (heap_of s) v) s j))

pub arguments : (as' : List Argument) → ArgumentsAreBlind as' → ArgumentIsBlind (calls.arguments as')
arguments [] i before f s = refl
arguments (a ∷ as') i before f s = λ j. on_value (i.0 before f s j) (λ before s. arguments as' i.1 before f s j)

-- calls

kind-called : (kind : Kind) (vs : List Value) (ns : List (List ℕ × Value)) → Blind (calls.kind_call kind (record { plain = vs; named = ns }))
kind-called kind [] [] f s = refl
kind-called kind (v ∷ []) [] f s = refl
kind-called kind (v ∷ w ∷ vs) [] f s = refl
kind-called kind vs (n ∷ ns) f s = refl

made-instance : (owner : Side) (of : Oid) (function : Option Oid) (a : Arguments) → Blind (calls.made_instance owner of function a)
made-instance owner of None a f s = refl
made-instance owner of (Some function) a f s = refl

bound-call : (owner : Side) (receiver : Value) (called : Callee) (a : Arguments) → Blind (calls.bound_call owner receiver called a)
bound-call owner receiver (callee.Function function) a f s = refl
bound-call owner receiver (callee.Native id) a f s = method-called owner receiver id a f s

object-call : (at : Oid) (owner : Side) (content : Content) (a : Arguments) → Blind (calls.object_call at owner content a)
object-call at owner (object.method receiver called) a f s = bound-call owner receiver called a f s
object-call at owner (object.class name declared methods) a f s = made-instance owner at (method_at (heap_of s) at INIT) a f s
object-call at owner (object.function name unit block within defaults) a f s = refl
object-call at owner (object.instance of fields) a f s = refl
object-call at owner _ a f s = refl

found-call : (at : Oid) (o : Option Owned) (a : Arguments) → Blind (calls.found_call at o a)
found-call at None a f s = refl
found-call at (Some o) a f s = object-call at o.owner o.content a f s

reference-call : (v : Value) (at : Oid) (a : Arguments) → Blind (calls.reference_call v at a)
reference-call v at a f s = λ j.
    asked_for f CALL v s (λ s. on_value (found-call at (slice_get (heap_of s) at.0) a f s j) (λ r s. got v r f s))

pub call : (v : Value) (a : Arguments) → Blind (calls.call v a)
call (value.Rock (rock.Native id)) a f s = λ j. on_value (function-called id a f s j) (λ v s. takes v f s)
call (value.Rock (rock.Kind kind)) a f s = kind-called kind a.plain a.named f s
call (value.Rock _) a f s = refl
call (value.Ref at) a f s = reference-call (value.Ref at) at a f s
call (value.Prox at) a f s = reference-call (value.Prox at) at a f s
