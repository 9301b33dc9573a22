-- Calls of built-in functions and methods (Python Standard Library, Built-in functions): the decisions on the arguments, then what is given of the
-- function. Those that call methods, look attributes up or print stand here.
use Rattle.std.specs.Prelude.{ℕ, ℤ, pos, List, [], ◌∷◌, ◌++◌, length, codes, Option, Some, None, Result, Err}
use Rattle.std.specs.List.{position_or_len}
use Rattle.rp_base.specs.declared.word.TheConstants.{LEN}
use Rattle.rp_base.specs.Kind.{is_under}
use Rattle.rp_base.specs.Names.{with_word}
use Rattle.rp_base.specs.Same.{same_text}
use Rattle.rp_base.specs.declared.kind.Kind.TheVariants.{TypeError, AttributeError, ForbiddenAttribute}
use Rattle.rp_base.specs.declared.native.NativeId.{NativeId}
use Rattle.rp_base.specs.declared.native.NativeId.TheVariants as native
use Rattle.rp_base.specs.declared.value.Name.{Name}
use Rattle.rp_base.specs.declared.value.Rock.TheVariants as rock
use Rattle.rp_base.specs.declared.value.Side.{Side}
use Rattle.rp_base.specs.declared.value.Value.{Value}
use Rattle.rp_base.specs.declared.value.Value.TheVariants as value
use Rattle.rp_ops.specs.Keys.{index_number}
use Rattle.rp_ops.specs.Outcome.{End, raised, gives, ends, raises, on_value}
use Rattle.rp_meaning.specs.State.{State, Outcome, plainly, heap_of, choose}
use Rattle.rp_meaning.specs.Binding.{Arguments, only}
use Rattle.rp_meaning.specs.Frame.{Frame, Meaning, asked_each}
use Rattle.rp_meaning.specs.Special.{special, on_special}
use Rattle.rp_meaning.specs.Access.{get_attribute, set_attribute}

abbrev pub wrong_arguments : {A : Type 0} → State → Outcome A
wrong_arguments s = raises TypeError (codes "arguments") s

abbrev pub wrong_argument : {A : Type 0} → State → Outcome A
wrong_argument s = raises TypeError (codes "argument") s

abbrev pub not_called : State → Outcome Value
not_called s = raises TypeError (codes "call") s

-- goes on with the arguments where none has a name
abbrev pub unnamed : Arguments → State → (List Value → State → Outcome Value) → Outcome Value
unnamed a s go = of a.named where
  of : List (List ℕ × Value) → Outcome Value
  of [] = go a.plain s
  of _ = wrong_arguments s

-- `getattr` and `setattr`

abbrev pub name_of : List (List ℕ) → List ℕ → Name
name_of names word = record { 0 = position_or_len (same_text word) names }

-- the state with a word among the names
abbrev pub with_name : List ℕ → State → State
with_name word s = record s { names = with_word s.names word }

-- goes on with the name of a word that is not forbidden
abbrev pub allowed : {A : Type 0} → List ℕ → Frame → State → (Name → State → Outcome A) → Outcome A
allowed word frame s go = choose (frame.run.is_forbidden word) (raises ForbiddenAttribute word) (λ s. go (name_of s.names word) s) (with_name word s)

abbrev pub no_identifier : {A : Type 0} → State → Outcome A
no_identifier s = raises AttributeError (codes "name") s

-- the default in place of an AttributeError
abbrev pub defaulted : Option Value → Outcome Value → Outcome Value
defaulted None o = o
defaulted (Some default) o = by o.answer where
  by : Result Value End → Outcome Value
  by (Err (raised r)) = choose (is_under r.kind AttributeError) (gives default) (ends (raised r)) o.state
  by _ = o

-- the refusal of a forbidden name is not defaulted
abbrev pub get_named : Value → List ℕ → Option Value → Meaning
get_named o word default frame s = choose (frame.run.is_identifier word)
    (λ s. allowed word frame s (λ name s. defaulted default (get_attribute o name frame s)))
    (λ s. defaulted default (no_identifier s)) s

abbrev pub getattr : Value → Value → Option Value → Meaning
getattr o (value.Rock (rock.Text word)) default frame s = get_named o word default frame s
getattr o _ default frame s = wrong_argument s

abbrev pub set_named : Value → List ℕ → Value → Meaning
set_named o word v frame s = choose (frame.run.is_identifier word)
    (λ s. allowed word frame s (λ name s. on_value (set_attribute o name v frame s) (λ _ s. gives (value.Rock rock.Nil) s)))
    no_identifier s

abbrev pub setattr : Value → Value → Value → Meaning
setattr o (value.Rock (rock.Text word)) v frame s = set_named o word v frame s
setattr o _ v frame s = wrong_argument s

-- `len` of an instance is what its `__len__` gives, a number of at least 0

abbrev pub length_given : Value → State → Outcome Value
length_given v s = by (index_number v) where
  by : Option ℤ → Outcome Value
  by (Some (pos n)) = gives (value.Rock (rock.Int (pos n))) s
  by _ = raises TypeError (codes "len") s

-- a function of these arguments, by what is given of it
abbrev pub given : NativeId → List Value → Meaning
given id vs frame s = plainly (frame.run.natives.function s.names frame.side id vs) s

abbrev pub length_of : Value → Meaning
length_of v frame s = on_special (special (heap_of s) v LEN)
    (λ m s. on_value (frame.calls m.function (only (m.of ∷ [])) s) length_given)
    (given native.Len (v ∷ []) frame) s

-- `print` adds a line to what the session has printed
abbrev pub print : List Value → Meaning
print vs frame s =
    on_value (plainly (frame.run.natives.print_line s.names vs) s) (λ line s. gives (value.Rock rock.Nil) (record s { printed = s.printed ++ line }))

-- a function whose arguments are decided
abbrev pub applied : NativeId → List Value → Meaning
applied native.Len (v ∷ []) frame s = length_of v frame s
applied native.Print vs frame s = print vs frame s
applied id vs frame s = given id vs frame s

abbrev pub decided_and_applied : NativeId → List Value → Meaning
decided_and_applied id vs frame s = asked_each frame (λ i. frame.run.natives.needs id i (length vs)) 0 vs s (applied id vs frame)

abbrev pub function : NativeId → List Value → Meaning
function native.GetAttr (o ∷ word ∷ []) frame s = getattr o word None frame s
function native.GetAttr (o ∷ word ∷ default ∷ []) frame s = getattr o word (Some default) frame s
function native.GetAttr _ frame s = wrong_arguments s
function native.SetAttr (o ∷ word ∷ v ∷ []) frame s = setattr o word v frame s
function native.SetAttr _ frame s = wrong_arguments s
function id vs frame s = decided_and_applied id vs frame s

-- a call of a function, and of the method of a receiver, which is bound for a side

abbrev pub function_call : NativeId → Arguments → Meaning
function_call id a frame s =
    choose (frame.run.natives.is_function id) (λ s. unnamed a s (λ vs s. function id vs frame s)) not_called s

abbrev pub method_call : Side → Value → NativeId → Arguments → Meaning
method_call owner receiver id a frame s =
    choose (frame.run.natives.is_method (heap_of s) receiver id) (λ s. unnamed a s (λ vs s.
    asked_each frame (λ i. frame.run.natives.needs id i (length vs)) 0 vs s (λ s.
    plainly (frame.run.natives.method s.names owner receiver id vs) s))) not_called s
