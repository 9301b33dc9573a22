-- The methods of texts (Python Standard Library, Text Sequence Type). Other way: a text is the list of its characters, a part of it is sought at one place
-- after another, and pieces are lists. The code searches and cuts bytes by the searches of std, and builds strings.
use Rattle.std.specs.Prelude.{ℕ, zero, suc, ◌+◌, ◌-◌, nat_le, negsuc, Bool, ◌&&◌, List, [], ◌∷◌, ◌++◌, length, map, reverse, encode_utf8_all, Option, Some, None, is_some, option_map, if◌then◌else◌}
use Rattle.std.specs.Char.{is_whitespace}
use Rattle.std.specs.List.{concat, filter, list_all}
use Rattle.std.specs.Option.{option_map_or}
use Rattle.std.specs.Str.{drop_trailing_whitespace, skip_leading_whitespace}
use Rattle.rp_base.specs.declared.native.NativeId.{NativeId}
use Rattle.rp_base.specs.declared.native.NativeId.TheVariants as native
use Rattle.rp_base.specs.declared.value.Rock.{Rock}
use Rattle.rp_base.specs.declared.value.Rock.TheVariants as rock
use Rattle.rp_base.specs.declared.value.Side.{Side}
use Rattle.rp_base.specs.declared.value.Value.{Value}
use Rattle.rp_base.specs.declared.value.Value.TheVariants as value
use Rattle.rp_store.specs.Object as object
use Rattle.rp_ops.specs.Binary.{new_text}
use Rattle.rp_ops.specs.Operand.{is_some_element}
use Rattle.rp_ops.specs.Outcome.{State, Outcome, charged, gives, on_value}
use Rattle.rp_ops.specs.Walk.{elements}
use Rattle.rp_compare.specs.Membership.{begins}
use Rattle.rp_methods.specs.Dicts.{next_object, with_added}
use Rattle.rp_methods.specs.Faults.{faults, no_method, wrong_argument, wrong_arguments}
use Rattle.rp_methods.specs.Lists.{number}
use Rattle.rp_methods.specs.declared.fault.Fault.TheVariants as fault

-- the text that a value is
abbrev pub rock_text : Rock → Option (List ℕ)
rock_text (rock.Text t) = Some t
rock_text r = None

abbrev pub text_in : Value → Option (List ℕ)
text_in (value.Rock r) = rock_text r
text_in v = None

-- goes on with the text that a value is
abbrev pub on_text : Value → State → (List ℕ → State → Outcome Value) → Outcome Value
on_text v s go = option_map_or (λ u. go u s) (text_in v) (wrong_argument s)

abbrev pub truth : Bool → Value
truth b = value.Rock (rock.Truth b)

-- `t.startswith(u)` and `t.endswith(u)`
abbrev pub startswith : List ℕ → List Value → State → Outcome Value
startswith t (u ∷ []) s = on_text u s (λ u s. gives (truth (begins u t)) s)
startswith t args s = wrong_arguments s

abbrev pub ends : List ℕ → List ℕ → Bool
ends u t = begins (reverse u) (reverse t)

abbrev pub endswith : List ℕ → List Value → State → Outcome Value
endswith t (u ∷ []) s = on_text u s (λ u s. gives (truth (ends u t)) s)
endswith t args s = wrong_arguments s

-- the first place at which u stands in a text
abbrev pub place_in : List ℕ → List ℕ → Option ℕ
place_in u [] = if begins u [] then Some 0 else None
place_in u (c ∷ cs) = if begins u (c ∷ cs) then Some 0 else option_map suc (place_in u cs)

-- a place as a number, which is -1 where there is none
abbrev pub place_number : Option ℕ → Value
place_number (Some n) = number n
place_number None = value.Rock (rock.Int (negsuc 0))

-- `t.find(u)`
abbrev pub find : List ℕ → List Value → State → Outcome Value
find t (u ∷ []) s = on_text u s (λ u s. gives (place_number (place_in u t)) s)
find t args s = wrong_arguments s

-- a digit of ASCII
abbrev pub is_digit : ℕ → Bool
is_digit c = nat_le 48 c && nat_le c 57

-- `t.isdigit()`: one or more ASCII digits
abbrev pub isdigit : List ℕ → List Value → State → Outcome Value
isdigit t [] s = gives (truth (is_some_element t && list_all is_digit t)) s
isdigit t args s = wrong_arguments s

-- `t.strip()`: without the blanks at both ends
abbrev pub strip : List ℕ → List Value → State → Outcome Value
strip t [] s = new_text (drop_trailing_whitespace (skip_leading_whitespace t)) s
strip t args s = wrong_arguments s

-- texts one behind another, with one between each two
abbrev pub preceded : List ℕ → List (List ℕ) → List ℕ
preceded between [] = []
preceded between (t ∷ ts) = between ++ t ++ preceded between ts

abbrev pub joined : List ℕ → List (List ℕ) → List ℕ
joined between [] = []
joined between (t ∷ ts) = t ++ preceded between ts

-- whether a value is a text, and its characters
abbrev pub is_text : Value → Bool
is_text v = is_some (text_in v)

abbrev pub letters_of : Value → List ℕ
letters_of v = option_map_or (λ t. t) (text_in v) []

-- texts that values are, joined
abbrev pub joined_all : List ℕ → List Value → State → Outcome Value
joined_all t vs s = if list_all is_text vs then new_text (joined t (map letters_of vs)) s else wrong_argument s

-- `t.join(w)`: the value is walked, and then its elements are tested
abbrev pub join : List ℕ → List Value → State → Outcome Value
join t (w ∷ []) s = on_value (elements w s) (λ vs s. joined_all t vs s)
join t args s = wrong_arguments s

-- a character put before the first of some pieces
abbrev pub with_first : ℕ → List (List ℕ) → List (List ℕ)
with_first c [] = (c ∷ []) ∷ []
with_first c (p ∷ ps) = (c ∷ p) ∷ ps

-- the pieces between the places of u, from the left; the next n characters belong to a place that was found
abbrev pub pieces_after : List ℕ → ℕ → List ℕ → List (List ℕ)
pieces_after u n [] = [] ∷ []
pieces_after u (suc n) (c ∷ cs) = pieces_after u n cs
pieces_after u zero (c ∷ cs) = if begins u (c ∷ cs) then [] ∷ pieces_after u (length u - 1) cs else with_first c (pieces_after u zero cs)

abbrev pub pieces : List ℕ → List ℕ → List (List ℕ)
pieces u t = pieces_after u zero t

-- goes on where the text is not empty
abbrev pub on_some : List ℕ → State → (State → Outcome Value) → Outcome Value
on_some u s go = if is_some_element u then go s else faults fault.Empty s

-- `t.count(u)`: how often u stands in a text, at places behind one another
abbrev pub count_text : List ℕ → List ℕ → State → Outcome Value
count_text t u s = on_some u s (λ s. gives (number (length (pieces u t) - 1)) s)

abbrev pub count : List ℕ → List Value → State → Outcome Value
count t (u ∷ []) s = on_text u s (λ u s. count_text t u s)
count t args s = wrong_arguments s

-- `t.replace(a, b)`
abbrev pub replace_text : List ℕ → List ℕ → List ℕ → State → Outcome Value
replace_text t a b s = on_some a s (λ s. new_text (joined b (pieces a t)) s)

abbrev pub replace : List ℕ → List Value → State → Outcome Value
replace t (a ∷ b ∷ []) s = on_text a s (λ a s. on_text b s (λ b s. replace_text t a b s))
replace t args s = wrong_arguments s

-- the pieces between the blanks of a text, empty ones too
abbrev pub runs : List ℕ → List (List ℕ)
runs [] = [] ∷ []
runs (c ∷ cs) = if is_whitespace c then [] ∷ runs cs else with_first c (runs cs)

abbrev pub words : List ℕ → List (List ℕ)
words t = filter is_some_element (runs t)

abbrev pub text_value : List ℕ → Value
text_value t = value.Rock (rock.Text t)

-- a list of texts of a side, whose cells are used together with the bytes of the texts
abbrev pub texts_listed : Side → List (List ℕ) → State → Outcome Value
texts_listed side ts s =
    charged (1 + length ts + length (encode_utf8_all (concat ts))) s (λ s. gives (next_object s) (with_added side (object.list (map text_value ts)) s))

-- `t.split()` and `t.split(u)`
abbrev pub split_by : Side → List ℕ → List ℕ → State → Outcome Value
split_by side t u s = on_some u s (λ s. texts_listed side (pieces u t) s)

abbrev pub split : Side → List ℕ → List Value → State → Outcome Value
split side t [] s = texts_listed side (words t) s
split side t (u ∷ []) s = on_text u s (λ u s. split_by side t u s)
split side t args s = wrong_arguments s

-- a method of a text
abbrev pub text_method : Side → List ℕ → NativeId → List Value → State → Outcome Value
text_method side t native.Join args s = join t args s
text_method side t native.Strip args s = strip t args s
text_method side t native.StartsWith args s = startswith t args s
text_method side t native.EndsWith args s = endswith t args s
text_method side t native.Find args s = find t args s
text_method side t native.IsDigit args s = isdigit t args s
text_method side t native.Count args s = count t args s
text_method side t native.Replace args s = replace t args s
text_method side t native.Split args s = split side t args s
text_method side t id args s = no_method s
