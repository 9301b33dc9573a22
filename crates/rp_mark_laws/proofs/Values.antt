-- What code does with values does not see the trees of programs: decisions, operators, walks and built-in functions.
use Rattle.std.proofs.Common.{◌≡◌, refl, ℕ, suc, List, [], ◌∷◌, length, Option, Some, None}
use Rattle.rp_base.specs.declared.native.NativeId.{NativeId}
use Rattle.rp_base.specs.declared.native.NativeId.TheVariants as native
use Rattle.rp_base.specs.declared.value.Name.{Name}
use Rattle.rp_base.specs.declared.value.Rock.TheVariants as rock
use Rattle.rp_base.specs.declared.value.Side.{Side}
use Rattle.rp_base.specs.declared.value.Value.{Value}
use Rattle.rp_base.specs.declared.value.Value.TheVariants as value
use Rattle.rp_tree.specs.declared.parts.Test.{Test}
use Rattle.rp_tree.specs.declared.parts.Test.TheVariants as test
use Rattle.rp_meaning.specs.Binding.{Arguments}
use Rattle.rp_meaning.specs.BuiltIn.{applied, decided_and_applied, function, function_call, getattr, method_call, not_called, setattr, unnamed}
use Rattle.rp_meaning.specs.Frame.{Frame, asked_for, asked_if, asked_each}
use Rattle.rp_meaning.specs.Operators.{tested}
use Rattle.rp_meaning.specs.State.{State, Outcome, heap_of, plainly, choose}
use Rattle.rp_mark_laws.specs.Blind.{Blind, blinded}

-- decisions

maybe-asked : {A : Type 0} (f : Frame) (n : Option Name) (v : Value) (s : State) (go to : State → Outcome A) → ((s : State) → go s ≡ to s)
    → asked_if (blinded f) n v s go ≡ asked_if f n v s to
maybe-asked f None v s go to more = more s
maybe-asked f (Some n) v s go to more = λ j. asked_for f n v s (λ s. more s j)

pub each-asked : {A : Type 0} (f : Frame) (needs : ℕ → Option Name) (i : ℕ) (vs : List Value) (s : State) (go to : State → Outcome A)
    → ((s : State) → go s ≡ to s) → asked_each (blinded f) needs i vs s go ≡ asked_each f needs i vs s to
each-asked f needs i [] s go to more = more s
each-asked f needs i (v ∷ vs) s go to more =
    maybe-asked f (needs i) v s (λ s. asked_each (blinded f) needs (suc i) vs s go) (λ s. asked_each f needs (suc i) vs s to)
    (λ s. each-asked f needs (suc i) vs s go to more)

-- tests of a comparison chain
pub test-blind : (t : Test) (a b : Value) → Blind (tested t a b)
test-blind (test.Order op) a b f s = refl
test-blind test.Within a b f s = refl
test-blind test.NotWithin a b f s = refl
test-blind test.Is a b f s = refl
test-blind test.IsNot a b f s = refl

-- calls of built-in functions and methods

getattr-blind : (o word : Value) (default : Option Value) → Blind (getattr o word default)
getattr-blind o (value.Rock (rock.Text word)) default f s = refl
getattr-blind o _ default f s = refl

setattr-blind : (o word v : Value) → Blind (setattr o word v)
setattr-blind o (value.Rock (rock.Text word)) v f s = refl
setattr-blind o _ v f s = refl

applied-blind : (id : NativeId) (vs : List Value) → Blind (applied id vs)
applied-blind native.Len (v ∷ []) f s = refl
applied-blind native.Print vs f s = refl
applied-blind id vs f s = refl

decided-blind : (id : NativeId) (vs : List Value) → Blind (decided_and_applied id vs)
decided-blind id vs f s =
    each-asked f (λ i. f.run.natives.needs id i (length vs)) 0 vs s (applied id vs (blinded f)) (applied id vs f) (λ s. applied-blind id vs f s)

function-blind : (id : NativeId) (vs : List Value) → Blind (function id vs)
function-blind native.GetAttr (o ∷ word ∷ []) f s = getattr-blind o word None f s
function-blind native.GetAttr (o ∷ word ∷ default ∷ []) f s = getattr-blind o word (Some default) f s
function-blind native.GetAttr _ f s = refl
function-blind native.SetAttr (o ∷ word ∷ v ∷ []) f s = setattr-blind o word v f s
function-blind native.SetAttr _ f s = refl
function-blind id vs f s = decided-blind id vs f s

pub function-called : (id : NativeId) (a : Arguments) → Blind (function_call id a)
function-called id a f s = λ j.
    choose (f.run.natives.is_function id) (λ s. unnamed a s (λ vs s. function-blind id vs f s j)) not_called s

pub method-called : (owner : Side) (receiver : Value) (id : NativeId) (a : Arguments) → Blind (method_call owner receiver id a)
method-called owner receiver id a f s = λ j.
    choose (f.run.natives.is_method (heap_of s) receiver id) (λ s. unnamed a s (λ vs s.
    each-asked f (λ i. f.run.natives.needs id i (length vs)) 0 vs s (λ s. plainly (f.run.natives.method s.names owner receiver id vs) s)
    (λ s. plainly (f.run.natives.method s.names owner receiver id vs) s) (λ s. refl) j)) not_called s
