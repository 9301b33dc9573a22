-- Arguments and calls add no step.
use Rattle.std.proofs.Common.{◌≡◌, refl, ℕ, List, [], ◌∷◌, slice_get, Option, Some, None}
use Rattle.rp_base.specs.declared.kind.Kind.{Kind}
use Rattle.rp_base.specs.declared.value.Name.{Name}
use Rattle.rp_base.specs.declared.value.Oid.{Oid}
use Rattle.rp_base.specs.declared.value.Side.{Side}
use Rattle.rp_base.specs.declared.value.Rock.{Rock}
use Rattle.rp_base.specs.declared.value.Rock.TheVariants as rock
use Rattle.rp_base.specs.declared.value.Value.{Value}
use Rattle.rp_base.specs.declared.value.Value.TheVariants as value
use Rattle.rp_base.specs.declared.word.TheConstants.{ITER, ITEMS, STR, CALL, INIT}
use Rattle.rp_store.specs.declared.object.Callee.{Callee}
use Rattle.rp_store.specs.declared.object.Callee.TheVariants as callee
use Rattle.rp_store.specs.Heap.{Owned, method_at}
use Rattle.rp_store.specs.Object as object
use Rattle.rp_store.specs.Object.{Content}
use Rattle.rp_meaning.specs.Binding.{Arguments, behind}
use Rattle.rp_meaning.specs.BuiltIn.{not_called}
use Rattle.rp_meaning.specs.Calls as calls
use Rattle.rp_meaning.specs.Calls.{Argument, arguments, entries_named, got_named}
use Rattle.rp_meaning.specs.Frame.{Meaning}
use Rattle.rp_meaning.specs.Special.{special}
use Rattle.rp_meaning.specs.State.{heap_of}
use Rattle.rp_meter_laws.proofs.AtMost.{Keeping}
use Rattle.rp_meter_laws.proofs.Going.{Each, same, bind, op, ask_for, on_method, by_option}
use Rattle.rp_meter_laws.proofs.Forms.{function_called, method_called}
use Rattle.rp_meter_laws.proofs.Operations.{elements, show_leaves}
use Rattle.rp_meter_laws.proofs.Plainly.{makes}

abbrev pub ArgumentKeeps : Argument → Type 0
ArgumentKeeps a = (before : Arguments) → Keeping (a before)

abbrev pub ArgumentsKeep : List Argument → Type 0
ArgumentsKeep as' = Each ArgumentKeeps as'

pub plain_argument : (m : Meaning) → Keeping m → ArgumentKeeps (calls.plain_argument m)
plain_argument m i before k f c s h = bind (i k f c s h) (λ v s h. same h)

pub named_argument : (n : Name) (m : Meaning) → Keeping m → ArgumentKeeps (calls.named_argument n m)
named_argument n m i before k f c s h = bind (i k f c s h) (λ v s h. same h)

pub star_argument : (m : Meaning) → Keeping m → ArgumentKeeps (calls.star_argument m)
star_argument m i before k f c s h =
    bind (i k f c s h) (λ v s h. ask_for f ITER v s h (λ s h. bind (op s (elements v s.plain h)) (λ vs s h. same h)))

got_each : (from : Value) (ns : List (List ℕ × Value)) → Keeping (got_named from ns)
got_each from [] k f c s h = same h
got_each from (n ∷ ns) k f c s h = bind (got_each from ns k f c s h) (λ vs s h. same h)

pub stars_argument : (m : Meaning) → Keeping m → ArgumentKeeps (calls.stars_argument m)
stars_argument m i before k f c s h = bind (i k f c s h) (λ v s h. ask_for f ITEMS v s h (λ s h.
    by_option (entries_named (heap_of s) v) (λ e. rw e (same h))
    (λ ns e. rw e (bind (got_each v ns k f c s h) (λ vs s h. same h)))))

pub arguments_keep : (as' : List Argument) → ArgumentsKeep as' → ArgumentKeeps (arguments as')
arguments_keep [] i before k f c s h = same h
arguments_keep (a ∷ as') i before k f c s h = bind (i.0 before k f c s h)
    (λ before s h. arguments_keep as' i.1 before k f c s h)

-- calls

kind_called : (kind : Kind) (vs : List Value) (ns : List (List ℕ × Value)) → Keeping
    (calls.kind_call kind (record { plain = vs; named = ns }))
kind_called kind [] [] k f c s h = same h
kind_called kind (v ∷ []) [] k f c s h = ask_for f STR v s h
    (λ s h. bind (op s (show_leaves s.names v s.plain h)) (λ t s h. same h))
kind_called kind (v ∷ w ∷ vs) [] k f c s h = same h
kind_called kind vs (n ∷ ns) k f c s h = same h

-- what `__init__` may give
by_given : {P : Type 0} (v : Value) → ((r : Rock) → v ≡ value.Rock r → P) → ((at : Oid) → v ≡ value.Ref at → P)
    → ((at : Oid) → v ≡ value.Prox at → P) → P
by_given (value.Rock r) p q t = p r refl
by_given (value.Ref at) p q t = q at refl
by_given (value.Prox at) p q t = t at refl

by_rock : {P : Type 0} (r : Rock) → (r ≡ rock.Nil → P) → ((b : _) → r ≡ rock.Truth b → P)
    → ((z : _) → r ≡ rock.Int z → P)
    → ((t : _) → r ≡ rock.Text t → P) → ((k : _) (t : _) → r ≡ rock.Exc k t → P) → ((k : _) → r ≡ rock.Kind k → P)
    → ((n : _) → r ≡ rock.Native n → P) → P
by_rock rock.Nil nil truth int text exc kind native = nil refl
by_rock (rock.Truth b) nil truth int text exc kind native = truth b refl
by_rock (rock.Int z) nil truth int text exc kind native = int z refl
by_rock (rock.Text t) nil truth int text exc kind native = text t refl
by_rock (rock.Exc k t) nil truth int text exc kind native = exc k t refl
by_rock (rock.Kind k) nil truth int text exc kind native = kind k refl
by_rock (rock.Native n) nil truth int text exc kind native = native n refl

made_keeps : (owner : Side) (of : Oid) (function : Option Oid) (vs : List Value) (ns : List (List ℕ × Value))
    → Keeping (calls.made_instance owner of function (record { plain = vs; named = ns }))
made_keeps owner of None [] [] k f c s h = bind (op s (makes owner (object.instance of []) s.plain h))
    (λ at s h. same h)
made_keeps owner of None (v ∷ vs) [] k f c s h = same h
made_keeps owner of None vs (n ∷ ns) k f c s h = same h
made_keeps owner of (Some function) vs ns k f c s h =
    bind (op s (makes owner (object.instance of []) s.plain h)) (λ at s h. bind (c.calls function _ s h) (λ v s h.
    by_given v (λ r e. rw e (by_rock r (λ e. rw e (same h)) (λ b e. rw e (same h)) (λ z e. rw e (same h))
    (λ t e. rw e (same h))
    (λ x t e. rw e (same h)) (λ x e. rw e (same h)) (λ n e. rw e (same h))))
    (λ at e. rw e (same h)) (λ at e. rw e (same h))))

bound_keeps : (owner : Side) (receiver : Value) (called : Callee) (a : Arguments) → Keeping
    (calls.bound_call owner receiver called a)
bound_keeps owner receiver (callee.Function function) a k f c s h = c.calls function (behind receiver a) s h
bound_keeps owner receiver (callee.Native id) a k f c s h = method_called owner receiver id a k f c s h

object_keeps : (at : Oid) (owner : Side) (content : Content) (a : Arguments) → Keeping
    (calls.object_call at owner content a)
object_keeps at owner (object.function name unit block within defaults) a k f c s h = c.calls at a s h
object_keeps at owner (object.method receiver called) a k f c s h = bound_keeps owner receiver called a k f c s h
object_keeps at owner (object.class name declared methods) a k f c s h =
    made_keeps owner at (method_at (heap_of s) at INIT) a.plain a.named k f c s h
object_keeps at owner (object.instance of fields) a k f c s h =
    on_method (special (heap_of s) (value.Ref at) CALL) (λ m. f.calls m.function (behind m.of a)) not_called s
    (λ m. c.calls m.function (behind m.of a) s h) (same h)
object_keeps at owner _ a k f c s h = same h

found_keeps : (at : Oid) (o : Option Owned) (a : Arguments) → Keeping (calls.found_call at o a)
found_keeps at None a k f c s h = same h
found_keeps at (Some o) a k f c s h = object_keeps at o.owner o.content a k f c s h

reference_keeps : (v : Value) (at : Oid) (a : Arguments) → Keeping (calls.reference_call v at a)
reference_keeps v at a k f c s h = ask_for f CALL v s h (λ s h.
    bind (found_keeps at (slice_get (heap_of s) at.0) a k f c s h) (λ r s h. same h))

pub call_keeps : (v : Value) (a : Arguments) → Keeping (calls.call v a)
call_keeps (value.Rock (rock.Native id)) a k f c s h = bind (function_called id a k f c s h) (λ v s h. same h)
call_keeps (value.Rock (rock.Kind kind)) a k f c s h = kind_called kind a.plain a.named k f c s h
call_keeps (value.Rock _) a k f c s h = same h
call_keeps (value.Ref at) a k f c s h = reference_keeps (value.Ref at) at a k f c s h
call_keeps (value.Prox at) a k f c s h = reference_keeps (value.Prox at) at a k f c s h
