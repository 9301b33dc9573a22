-- What a call still does once some of its arguments are known, as the code has a function for it; each is a part of a form of rp_meaning.
use Rattle.std.specs.Prelude.{ℕ, ◌+◌, ◌*◌, ◌++◌, List, [], ◌∷◌, drop, reverse, take}
use Rattle.rp_base.specs.declared.value.Rock.TheVariants as rock
use Rattle.rp_base.specs.declared.value.Value.{Value}
use Rattle.rp_base.specs.declared.value.Value.TheVariants as value
use Rattle.rp_meaning.specs.Binding.{Arguments, only}
use Rattle.rp_meaning.specs.Calls as calls
use Rattle.rp_meaning.specs.Calls.{Argument}
use Rattle.rp_meaning.specs.Expressions as forms
use Rattle.rp_meaning.specs.Frame.{Meaning}
use Rattle.rp_ops.specs.Outcome.{gives, on_value}

-- the arguments behind some, which have no names; then the call, and the trailers behind it
abbrev pub with_arguments : List Argument → List (Value → Meaning) → Value → List Value → Meaning
with_arguments as' ts f vs frame s =
    on_value (on_value (calls.arguments as' (only vs) frame s) (λ a s. calls.call f a frame s)) (λ w s. forms.trailers ts w frame s)

-- the same, behind these arguments
abbrev pub with_all : List Argument → List (Value → Meaning) → Value → Arguments → Meaning
with_all as' ts f a frame s = on_value (on_value (calls.arguments as' a frame s) (λ a s. calls.call f a frame s)) (λ w s. forms.trailers ts w frame s)

-- a part that gives this, with no step
abbrev pub known : Value → Meaning
known v frame s = gives v s

-- what is spread, and then the arguments behind it
abbrev pub with_spread : List Argument → List (Value → Meaning) → Value → List Value → Value → Meaning
with_spread as' ts f vs v frame s = with_arguments (calls.star_argument (known v) ∷ as') ts f vs frame s

-- the same, behind these arguments
abbrev pub with_spread_behind : List Argument → List (Value → Meaning) → Value → Arguments → Value → Meaning
with_spread_behind as' ts f a v frame s = with_all (calls.star_argument (known v) ∷ as') ts f a frame s

-- the same over arguments with names
abbrev pub with_spread_named : List Argument → List (Value → Meaning) → Value → Arguments → Value → Meaning
with_spread_named as' ts f a v frame s = with_all (calls.stars_argument (known v) ∷ as') ts f a frame s

-- the arguments at hand: so many without a name and, upon them, so many with one, each a name and then a value

abbrev pub word_at : Value → List ℕ
word_at (value.Rock (rock.Text t)) = t
word_at _ = []

-- values with names, the last one first, and each upon its name
abbrev pub named_in : List Value → List (List ℕ × Value)
named_in (v ∷ word ∷ vs) = named_in vs ++ (word_at word, v) ∷ []
named_in _ = []

-- values with names put upon others
abbrev pub with_all_named : List (List ℕ × Value) → List Value → List Value
with_all_named [] vs = vs
with_all_named (n ∷ ns) vs = with_all_named ns (n.1 ∷ value.Rock (rock.Text n.0) ∷ vs)

abbrev pub arguments_at : ℕ → ℕ → List Value → Arguments
arguments_at n k vs = record { plain = reverse (take n (drop (2 * k) vs)); named = named_in (take (2 * k) vs) }

-- how many values these are
abbrev pub sum_of : ℕ → ℕ → ℕ
sum_of n k = 2 * k + n

-- the trailers behind a call
abbrev pub with_call : List (Value → Meaning) → Value → List Value → Meaning
with_call ts f vs frame s = on_value (calls.call f (only vs) frame s) (λ w s. forms.trailers ts w frame s)
