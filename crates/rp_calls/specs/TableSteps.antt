-- The tables by which arguments and parameters are found by name, where both are many.
use Rattle.std.specs.Prelude.{◌≡◌, ℕ, Bool, List, [], ◌∷◌, Option, Some, None, bytes_eq, encode_utf8_all}
use Rattle.std.specs.Borrow.{Bor}
use Rattle.std.specs.HashMap.{HashMap, get_by}
use Rattle.std.specs.HashSet.{HashSet, contains_by}
use Rattle.std.specs.Option.{option_copied, option_map, option_to_list}
use Rattle.rp_base.specs.declared.value.Value.{Value}
use Rattle.rp_calls.specs.Binding.{is_plain, sole}
use Rattle.rp_tree.specs.declared.expr.Expr.{Expr}
use Rattle.rp_tree.specs.Expressions.{Named}

-- arguments by name, in order
abbrev pub Arguments : Type 0
Arguments = List (List ℕ × Value)

-- what a table has for a word: nothing, the value of its only argument, or that it has more than one
abbrev pub at_word : {S : Type 0} → HashMap (Bor (List ℕ)) (Option (Bor Value)) S → List ℕ → Option (Option Value)
at_word table word = option_map option_copied (get_by (λ k. bytes_eq (encode_utf8_all word) k.now) table)

-- whether a set has a word
abbrev pub has_word : {S : Type 0} → HashSet (Bor (List ℕ)) S → List ℕ → Bool
has_word words word = contains_by (λ k. bytes_eq (encode_utf8_all word) k.now) words

-- a set has the words of the parameters without a star
abbrev pub HasNames : {S : Type 0} → HashSet (Bor (List ℕ)) S → List (List ℕ) → List (Named × Option Expr) → Type 0
HasNames words names ps = (word : List ℕ) → has_word words word ≡ is_plain names ps word

-- one more value
abbrev pub again : Option (Option Value) → Value → Option (Option Value)
again None v = Some (Some v)
again (Some held) v = Some None

-- more values, one by one
abbrev pub noted : Option (Option Value) → List Value → Option (Option Value)
noted held [] = held
noted held (v ∷ vs) = noted (again held v) vs

-- the value of a parameter that its place may fill, and what a table has for its name
abbrev pub chosen : Option Value → Option (Option Value) → Option Value → Option Value
chosen first None default = sole (option_to_list first) default
chosen None (Some (Some v)) default = Some v
chosen (Some w) (Some (Some v)) default = None
chosen first (Some None) default = None
