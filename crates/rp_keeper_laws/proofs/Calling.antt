-- Arguments and calls keep what is kept.
use Rattle.std.proofs.Common.{◌≡◌, refl, ℕ, List, [], ◌∷◌, map, slice_get, Option, Some, None}
use Rattle.rp_base.specs.declared.kind.Kind.{Kind}
use Rattle.rp_base.specs.declared.value.Name.{Name}
use Rattle.rp_base.specs.declared.value.Oid.{Oid}
use Rattle.rp_base.specs.declared.value.Side.{Side}
use Rattle.rp_base.specs.declared.value.Rock.{Rock}
use Rattle.rp_base.specs.declared.value.Rock.TheVariants as rock
use Rattle.rp_base.specs.declared.value.Value.{Value}
use Rattle.rp_base.specs.declared.value.Value.TheVariants as value
use Rattle.rp_base.specs.declared.word.TheConstants.{ITER, ITEMS, STR, CALL, INIT}
use Rattle.rp_ops.specs.Outcome.{gives}
use Rattle.rp_proxy.specs.Taken.{taken}
use Rattle.rp_store.specs.declared.object.Callee.{Callee}
use Rattle.rp_store.specs.declared.object.Callee.TheVariants as callee
use Rattle.rp_store.specs.Heap.{Owned, content_at, method_at, owner_at}
use Rattle.rp_store.specs.Object as object
use Rattle.rp_store.specs.Object.{Content}
use Rattle.rp_meaning.specs.Binding.{Arguments, behind}
use Rattle.rp_meaning.specs.BuiltIn.{not_called}
use Rattle.rp_meaning.specs.Calls as calls
use Rattle.rp_meaning.specs.Calls.{Argument, arguments, entries_named, got_named}
use Rattle.rp_meaning.specs.Frame.{Frame, Meaning}
use Rattle.rp_meaning.specs.State.{State, heap_of}
use Rattle.rp_apart_laws.proofs.Lists.{each_append, each_made}
use Rattle.rp_apart_laws.specs.Apart.{Each, OnSome}
use Rattle.rp_keeper_laws.specs.Keepers.{CalleeRefers, Keeper}
use Rattle.rp_keeper_laws.proofs.Forms.{function_called, method_called}
use Rattle.rp_keeper_laws.proofs.Going.{Any, Anything, FitIn, Held, IsBare, IsIn, Keeps, KeepsAt, Spot, Values, ask_any}
use Rattle.rp_keeper_laws.proofs.Going.{ask_for, bind, by_option, gets_value, made, on_method, op, same, start}
use Rattle.rp_keeper_laws.proofs.Going.{takes_value, values_later}
use Rattle.rp_keeper_laws.proofs.Going as going
use Rattle.rp_keeper_laws.proofs.Operations.{elements, show_leaves}

-- arguments, of which those without a name are held
abbrev pub Given : Keeper → Frame → List Owned → Arguments → Type 0
Given k f heap a = Values k f heap a.plain

abbrev pub ArgumentKeeps : Keeper → Spot → Argument → Type 0
ArgumentKeeps k t a = (before : Arguments) (f : Frame) → FitIn k t f → (s : State) → Given k f (heap_of s) before
    → IsIn k f s → Keeps k f (heap_of s) (Given k f) (a before f s)

abbrev pub ArgumentsKeep : Keeper → Spot → List Argument → Type 0
ArgumentsKeep k t as' = Each (ArgumentKeeps k t) as'

pub plain_argument : {k : Keeper} {t : Spot} (m : Meaning) → KeepsAt k t (Held k) m
    → ArgumentKeeps k t (calls.plain_argument m)
plain_argument {k} m i before f c s p h = bind (i f c s h) (λ v u q g h.
    same h (each_append (k.Held (heap_of u) f.side) before.plain (v ∷ [])
    (values_later k f (heap_of s) (heap_of u) g before.plain p) (q, tt)))

pub named_argument : {k : Keeper} {t : Spot} (n : Name) (m : Meaning) → KeepsAt k t (Held k) m
    → ArgumentKeeps k t (calls.named_argument n m)
named_argument {k} n m i before f c s p h = bind (i f c s h) (λ v u q g h.
    same h (values_later k f (heap_of s) (heap_of u) g before.plain p))

pub star_argument : {k : Keeper} {t : Spot} (m : Meaning) → KeepsAt k t (Held k) m
    → ArgumentKeeps k t (calls.star_argument m)
star_argument {k} m i before f c s p h =
    bind (i f c s h) (λ v s1 q g1 h. ask_any f c ITER v s1 h (λ s2 g2 h.
    bind (op s2 h (elements v s2.plain (start k s2 h.0))) (λ vs s3 r g3 h.
    same h (each_append (k.Held (heap_of s3) f.side) before.plain (map (taken (heap_of s3) f.side) vs)
    (values_later k f (heap_of s2) (heap_of s3) g3 before.plain
    (values_later k f (heap_of s1) (heap_of s2) g2 before.plain
    (values_later k f (heap_of s) (heap_of s1) g1 before.plain p)))
    (each_made (k.Held (heap_of s3) f.side) (taken (heap_of s3) f.side)
    (λ v. k.held_taken s3.declarations.classes (heap_of s3) f.side v c.acts h.0) vs)))))

got_each : {k : Keeper} {t : Spot} (from : Value) (ns : List (List ℕ × Value)) → KeepsAt k t Any (got_named from ns)
got_each from [] f c s h = same h tt
got_each from (n ∷ ns) f c s h =
    bind (gets_value from n.1 f c s h)
    (λ v s q g h. bind (got_each from ns f c s h) (λ vs s r g h. same {o = gives ((n.0, v) ∷ vs) s} h tt))

pub stars_argument : {k : Keeper} {t : Spot} (m : Meaning) → KeepsAt k t (Held k) m
    → ArgumentKeeps k t (calls.stars_argument m)
stars_argument {k} m i before f c s p h = bind (i f c s h) (λ v s1 q g1 h. ask_any f c ITEMS v s1 h (λ s2 g2 h.
    by_option (entries_named (heap_of s2) v) (λ e. rw e (same h tt))
    (λ ns e. rw e (bind (got_each v ns f c s2 h) (λ vs s3 r g3 h.
    same h (values_later k f (heap_of s2) (heap_of s3) g3 before.plain
    (values_later k f (heap_of s1) (heap_of s2) g2 before.plain
    (values_later k f (heap_of s) (heap_of s1) g1 before.plain p))))))))

pub arguments_keep : {k : Keeper} {t : Spot} (as' : List Argument) → ArgumentsKeep k t as'
    → ArgumentKeeps k t (arguments as')
arguments_keep [] i before f c s p h = same h p
arguments_keep (a ∷ as') i before f c s p h =
    bind (i.0 before f c s p h) (λ before s q g h. arguments_keep as' i.1 before f c s q h)

-- calls

kind_called : {k : Keeper} {t : Spot} (kind : Kind) (vs : List Value) (ns : List (List ℕ × Value))
    → KeepsAt k t (Held k) (calls.kind_call kind (record { plain = vs; named = ns }))
kind_called {k} kind [] [] f c s h = same h (k.held_rock (heap_of s) f.side (rock.Exc kind []))
kind_called {k} kind (v ∷ []) [] f c s h = ask_any f c STR v s h
    (λ s g h. bind (op s h (show_leaves s.names v s.plain (start k s h.0))) (λ x s p g h.
    same h (k.held_rock (heap_of s) f.side (rock.Exc kind x))))
kind_called kind (v ∷ w ∷ vs) [] f c s h = same h tt
kind_called kind vs (n ∷ ns) f c s h = same h tt

-- what `__init__` may give
by_given : {P : Type 0} (v : Value) → ((r : Rock) → v ≡ value.Rock r → P) → ((at : Oid) → v ≡ value.Ref at → P)
    → ((at : Oid) → v ≡ value.Prox at → P) → P
by_given (value.Rock r) p q t = p r refl
by_given (value.Ref at) p q t = q at refl
by_given (value.Prox at) p q t = t at refl

by_rock : {P : Type 0} (r : Rock) → (r ≡ rock.Nil → P) → ((b : _) → r ≡ rock.Truth b → P)
    → ((z : _) → r ≡ rock.Int z → P)
    → ((t : _) → r ≡ rock.Text t → P) → ((k : _) (t : _) → r ≡ rock.Exc k t → P) → ((k : _) → r ≡ rock.Kind k → P)
    → ((n : _) → r ≡ rock.Native n → P) → P
by_rock rock.Nil nil truth int text exc kind native = nil refl
by_rock (rock.Truth b) nil truth int text exc kind native = truth b refl
by_rock (rock.Int z) nil truth int text exc kind native = int z refl
by_rock (rock.Text t) nil truth int text exc kind native = text t refl
by_rock (rock.Exc k t) nil truth int text exc kind native = exc k t refl
by_rock (rock.Kind k) nil truth int text exc kind native = kind k refl
by_rock (rock.Native n) nil truth int text exc kind native = native n refl

made_keeps : {k : Keeper} {t : Spot} (owner : Side) (of : Oid) (function : Option Oid) (vs : List Value)
    (ns : List (List ℕ × Value)) (f : Frame) → FitIn k t f → (s : State) → k.Usable of → OnSome k.Usable function
    → owner_at (heap_of s) of ≡ Some owner → IsIn k f s
    → Keeps k f (heap_of s) Anything (calls.made_instance owner of function (record { plain = vs; named = ns }) f s)
made_keeps {k} owner of None [] [] f c s usable p e h =
    bind (made {P = Anything} owner (object.instance of []) s
    (k.instance_made s.declarations.classes (heap_of s) of owner h.0 usable e) tt h) (λ at s own g h. same h tt)
made_keeps owner of None (v ∷ vs) [] f c s usable p e h = same h tt
made_keeps owner of None vs (n ∷ ns) f c s usable p e h = same h tt
made_keeps {k} owner of (Some function) vs ns f c s usable p e h =
    bind (made {P = Anything} owner (object.instance of []) s
    (k.instance_made s.declarations.classes (heap_of s) of owner h.0 usable e) tt h) (λ at s own g h.
    bind (going.calls f c function (behind (value.Ref at) (record { plain = vs; named = ns })) s p h) (λ v s r g h.
    by_given v (λ r e. rw e (by_rock r (λ e. rw e (same h tt)) (λ b e. rw e (same h tt)) (λ z e. rw e (same h tt))
    (λ t e. rw e (same h tt)) (λ x t e. rw e (same h tt)) (λ x e. rw e (same h tt)) (λ n e. rw e (same h tt))))
    (λ at e. rw e (same h tt)) (λ at e. rw e (same h tt))))

bound_keeps : {k : Keeper} {t : Spot} (owner : Side) (receiver : Value) (called : Callee) (a : Arguments)
    → IsBare k receiver → CalleeRefers k.Usable called → KeepsAt k t Any (calls.bound_call owner receiver called a)
bound_keeps owner receiver (callee.Function function) a b p f c s h =
    going.calls f c function (behind receiver a) s p h
bound_keeps owner receiver (callee.Native id) a b p f c s h = method_called owner receiver id a b f c s h

object_keeps : {k : Keeper} {t : Spot} (at : Oid) (owner : Side) (content : Content) (a : Arguments) (f : Frame)
    → FitIn k t f → (s : State) → k.Usable at → owner_at (heap_of s) at ≡ Some owner
    → content_at (heap_of s) at ≡ Some content → IsIn k f s
    → Keeps k f (heap_of s) Anything (calls.object_call at owner content a f s)
object_keeps at owner (object.function name unit block within defaults) a f c s usable e i h =
    going.calls f c at a s usable h
object_keeps {k} at owner (object.method receiver called) a f c s usable e i h =
    let these = k.bound_usable s.declarations.classes (heap_of s) at receiver called h.0 usable i in
    bound_keeps owner receiver called a these.0 these.1 f c s h
object_keeps {k} at owner (object.class name declared methods) a f c s usable e i h =
    made_keeps owner at (method_at (heap_of s) at INIT) a.plain a.named f c s usable
    (k.method_usable s.declarations.classes (heap_of s) at INIT h.0 usable) e h
object_keeps at owner (object.instance of fields) a f c s usable e i h =
    on_method (value.Ref at) CALL (λ m. f.calls m.function (behind m.of a)) not_called s usable h.0
    (λ m p. going.calls f c m.function (behind m.of a) s p h) (same h tt)
object_keeps at owner _ a f c s usable e i h = same h tt

found_keeps : {k : Keeper} {t : Spot} (at : Oid) (o : Option Owned) (a : Arguments) (f : Frame) → FitIn k t f
    → (s : State) → k.Usable at → slice_get (heap_of s) at.0 ≡ o → IsIn k f s
    → Keeps k f (heap_of s) Anything (calls.found_call at o a f s)
found_keeps at None a f c s usable e h = same h tt
found_keeps at (Some o) a f c s usable e h =
    object_keeps at o.owner o.content a f c s usable (rw e refl) (rw e refl) h

found_call : {k : Keeper} {t : Spot} (at : Oid) (a : Arguments) (f : Frame) → FitIn k t f → (s : State) → k.Usable at
    → IsIn k f s → Keeps k f (heap_of s) Anything (calls.found_call at (slice_get (heap_of s) at.0) a f s)
found_call at a f c s usable h = found_keeps at (slice_get (heap_of s) at.0) a f c s usable refl h

pub call_keeps : {k : Keeper} {t : Spot} (v : Value) (a : Arguments) (f : Frame) → FitIn k t f → (s : State)
    → k.Held (heap_of s) f.side v → Given k f (heap_of s) a → IsIn k f s
    → Keeps k f (heap_of s) (Held k f) (calls.call v a f s)
call_keeps (value.Rock (rock.Native id)) a f c s p q h =
    bind (function_called id a f c s q h) (λ v s r g h. takes_value v f c s h)
call_keeps (value.Rock (rock.Kind kind)) a f c s p q h = kind_called kind a.plain a.named f c s h
call_keeps (value.Rock _) a f c s p q h = same h tt
call_keeps (value.Ref at) a f c s p q h = ask_for f c CALL (value.Ref at) s p h (λ b s g h.
    bind (found_call at a f c s b h) (λ r s _ g h. gets_value (value.Ref at) r f c s h))
call_keeps (value.Prox at) a f c s p q h = ask_for f c CALL (value.Prox at) s p h (λ b s g h.
    bind (found_call at a f c s b h) (λ r s _ g h. gets_value (value.Prox at) r f c s h))
