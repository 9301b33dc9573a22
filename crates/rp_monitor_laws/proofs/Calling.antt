-- Arguments and calls come to the same with the monitor and without it.
use Rattle.std.proofs.Common.{◌≡◌, refl, ℕ, List, [], ◌∷◌, slice_get, Option, Some, None}
use Rattle.rp_base.specs.declared.kind.Kind.{Kind}
use Rattle.rp_base.specs.declared.value.Name.{Name}
use Rattle.rp_base.specs.declared.value.Oid.{Oid}
use Rattle.rp_base.specs.declared.value.Side.{Side}
use Rattle.rp_base.specs.declared.value.Rock.{Rock}
use Rattle.rp_base.specs.declared.value.Rock.TheVariants as rock
use Rattle.rp_base.specs.declared.value.Value.{Value}
use Rattle.rp_base.specs.declared.value.Value.TheVariants as value
use Rattle.rp_base.specs.declared.word.TheConstants.{ITER, ITEMS, STR, CALL, INIT}
use Rattle.rp_ops.specs.Walk.{elements}
use Rattle.rp_show.specs.Show.{show}
use Rattle.rp_store.specs.declared.object.Callee.{Callee}
use Rattle.rp_store.specs.declared.object.Callee.TheVariants as callee
use Rattle.rp_store.specs.Heap.{Owned, method_at}
use Rattle.rp_store.specs.Object as object
use Rattle.rp_store.specs.Object.{Content}
use Rattle.rp_meaning.specs.Binding.{Arguments, behind}
use Rattle.rp_meaning.specs.Calls as calls
use Rattle.rp_meaning.specs.Calls.{Argument, arguments, entries_named, got_named}
use Rattle.rp_meaning.specs.Frame.{Meaning}
use Rattle.rp_meaning.specs.Special.{special}
use Rattle.rp_meaning.specs.State.{heap_of}
use Rattle.rp_ops.specs.Outcome as plain
use Rattle.rp_monitor_laws.specs.Unseen.{Unseen}
use Rattle.rp_monitor_laws.proofs.Going.{Each, same, bind, op, ask_for, on_method, by_option}
use Rattle.rp_monitor_laws.proofs.Forms.{function_called, method_called}

abbrev pub ArgumentIsUnseen : Argument → Type 0
ArgumentIsUnseen a = (before : Arguments) → Unseen (a before)

abbrev pub ArgumentsAreUnseen : List Argument → Type 0
ArgumentsAreUnseen as' = Each ArgumentIsUnseen as'

pub plain_argument : (m : Meaning) → Unseen m → ArgumentIsUnseen (calls.plain_argument m)
plain_argument m i before k f d c s = bind _ (i k f d c s) (λ v s. same refl refl)

pub named_argument : (n : Name) (m : Meaning) → Unseen m → ArgumentIsUnseen (calls.named_argument n m)
named_argument n m i before k f d c s = bind _ (i k f d c s) (λ v s. same refl refl)

pub star_argument : (m : Meaning) → Unseen m → ArgumentIsUnseen (calls.star_argument m)
star_argument m i before k f d c s =
    bind _ (i k f d c s) (λ v s. ask_for _ f d ITER v s (λ s. bind _ (op (elements v s.plain) s) (λ vs s. same refl refl)))

got_each : (from : Value) (ns : List (List ℕ × Value)) → Unseen (got_named from ns)
got_each from [] k f d c s = same refl refl
got_each from (n ∷ ns) k f d c s = bind _ (got_each from ns k f d c s) (λ vs s. same refl refl)

pub stars_argument : (m : Meaning) → Unseen m → ArgumentIsUnseen (calls.stars_argument m)
stars_argument m i before k f d c s = bind _ (i k f d c s) (λ v s. ask_for _ f d ITEMS v s (λ s.
    by_option (entries_named (heap_of s) v) (λ e. rw e (same refl refl)) (λ ns e. rw e (bind _ (got_each v ns k f d c s) (λ vs s. same refl refl)))))

pub arguments_follow : (as' : List Argument) → ArgumentsAreUnseen as' → ArgumentIsUnseen (arguments as')
arguments_follow [] i before k f d c s = same refl refl
arguments_follow (a ∷ as') i before k f d c s = bind _ (i.0 before k f d c s) (λ before s. arguments_follow as' i.1 before k f d c s)

-- calls

kind_called : (kind : Kind) (vs : List Value) (ns : List (List ℕ × Value)) → Unseen (calls.kind_call kind (record { plain = vs; named = ns }))
kind_called kind [] [] k f d c s = same refl refl
kind_called kind (v ∷ []) [] k f d c s = ask_for _ f d STR v s (λ s. bind _ (op (show s.names v s.plain) s) (λ t s. same refl refl))
kind_called kind (v ∷ w ∷ vs) [] k f d c s = same refl refl
kind_called kind vs (n ∷ ns) k f d c s = same refl refl

-- what `__init__` may give
by_given : {P : Type 0} (v : Value) → ((r : Rock) → v ≡ value.Rock r → P) → ((at : Oid) → v ≡ value.Ref at → P)
    → ((at : Oid) → v ≡ value.Prox at → P) → P
by_given (value.Rock r) p q t = p r refl
by_given (value.Ref at) p q t = q at refl
by_given (value.Prox at) p q t = t at refl

by_rock : {P : Type 0} (r : Rock) → (r ≡ rock.Nil → P) → ((b : _) → r ≡ rock.Truth b → P) → ((z : _) → r ≡ rock.Int z → P)
    → ((t : _) → r ≡ rock.Text t → P) → ((k : _) (t : _) → r ≡ rock.Exc k t → P) → ((k : _) → r ≡ rock.Kind k → P)
    → ((n : _) → r ≡ rock.Native n → P) → P
by_rock rock.Nil nil truth int text exc kind native = nil refl
by_rock (rock.Truth b) nil truth int text exc kind native = truth b refl
by_rock (rock.Int z) nil truth int text exc kind native = int z refl
by_rock (rock.Text t) nil truth int text exc kind native = text t refl
by_rock (rock.Exc k t) nil truth int text exc kind native = exc k t refl
by_rock (rock.Kind k) nil truth int text exc kind native = kind k refl
by_rock (rock.Native n) nil truth int text exc kind native = native n refl

made_follows : (owner : Side) (of : Oid) (function : Option Oid) (vs : List Value) (ns : List (List ℕ × Value))
    → Unseen (calls.made_instance owner of function (record { plain = vs; named = ns }))
made_follows owner of None [] [] k f d c s = bind _ (op (plain.makes owner (object.instance of []) s.plain) s) (λ at s. same refl refl)
made_follows owner of None (v ∷ vs) [] k f d c s = same refl refl
made_follows owner of None vs (n ∷ ns) k f d c s = same refl refl
made_follows owner of (Some function) vs ns k f d c s =
    bind _ (op (plain.makes owner (object.instance of []) s.plain) s) (λ at s. bind _ (c function _ s) (λ v s.
    by_given v (λ r e. rw e (by_rock r (λ e. rw e (same refl refl)) (λ b e. rw e (same refl refl)) (λ z e. rw e (same refl refl)) (λ t e. rw e (same refl refl))
    (λ x t e. rw e (same refl refl)) (λ x e. rw e (same refl refl)) (λ n e. rw e (same refl refl))))
    (λ at e. rw e (same refl refl)) (λ at e. rw e (same refl refl))))

bound_follows : (owner : Side) (receiver : Value) (called : Callee) (a : Arguments) → Unseen (calls.bound_call owner receiver called a)
bound_follows owner receiver (callee.Function function) a k f d c s = c function (behind receiver a) s
bound_follows owner receiver (callee.Native id) a k f d c s = method_called owner receiver id a k f d c s

object_follows : (at : Oid) (owner : Side) (content : Content) (a : Arguments) → Unseen (calls.object_call at owner content a)
object_follows at owner (object.function name unit block within defaults) a k f d c s = c at a s
object_follows at owner (object.method receiver called) a k f d c s = bound_follows owner receiver called a k f d c s
object_follows at owner (object.class name declared methods) a k f d c s =
    made_follows owner at (method_at (heap_of s) at INIT) a.plain a.named k f d c s
object_follows at owner (object.instance of fields) a k f d c s =
    on_method (special (heap_of s) (value.Ref at) CALL) _ _ _ _ _ _ (λ m. c m.function (behind m.of a) s) (same refl refl)
object_follows at owner _ a k f d c s = same refl refl

found_follows : (at : Oid) (o : Option Owned) (a : Arguments) → Unseen (calls.found_call at o a)
found_follows at None a k f d c s = same refl refl
found_follows at (Some o) a k f d c s = object_follows at o.owner o.content a k f d c s

reference_follows : (v : Value) (at : Oid) (a : Arguments) → Unseen (calls.reference_call v at a)
reference_follows v at a k f d c s = ask_for _ f d CALL v s (λ s.
    bind _ (found_follows at (slice_get (heap_of s) at.0) a k f d c s) (λ r s. same refl refl))

pub call_follows : (v : Value) (a : Arguments) → Unseen (calls.call v a)
call_follows (value.Rock (rock.Native id)) a k f d c s = bind _ (function_called id a k f d c s) (λ v s. same refl refl)
call_follows (value.Rock (rock.Kind kind)) a k f d c s = kind_called kind a.plain a.named k f d c s
call_follows (value.Rock _) a k f d c s = same refl refl
call_follows (value.Ref at) a k f d c s = reference_follows (value.Ref at) at a k f d c s
call_follows (value.Prox at) a k f d c s = reference_follows (value.Prox at) at a k f d c s
