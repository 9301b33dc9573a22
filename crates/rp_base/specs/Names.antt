-- The words that `Names` holds: a list, where the place of a word is its name.
use Rattle.std.specs.Prelude.{◌≡◌, ◌==◌, ℕ, Bool, List, [], ◌∷◌, ◌++◌, fold, Some, if◌then◌else◌, slice_get, slice_index_or, codes}
use Rattle.std.specs.List.{All, list_any}
use Rattle.rp_base.specs.Identifier.{IsIdentifier}
use Rattle.rp_base.specs.Same.{same_text}
use Rattle.rp_base.specs.declared.value.Name.{Name}

-- the word is one of these
abbrev pub is_held : List (List ℕ) → List ℕ → Bool
is_held words word = list_any (same_text word) words

-- the words with this one at the end, where it is new
abbrev pub with_word : List (List ℕ) → List ℕ → List (List ℕ)
with_word words word = if is_held words word then words else words ++ word ∷ []

-- the words with these at the end in their order, each where it is new
abbrev pub with_words : List (List ℕ) → List (List ℕ) → List (List ℕ)
with_words words more = fold with_word words more

-- the word of a name, which is its place; empty where there is no such place
abbrev pub word_of : List (List ℕ) → Name → List ℕ
word_of words name = slice_index_or words name.0 []

-- two names are equal
abbrev pub same_name : Name → Name → Bool
same_name m n = m.0 == n.0

-- the words with others behind them, so that each keeps its place
abbrev pub GrowsTo : List (List ℕ) → List (List ℕ) → Type 0
GrowsTo old new = (more : List (List ℕ)) × (new ≡ old ++ more)

-- two places with the same word are the same place
abbrev pub HoldsEachOnce : List (List ℕ) → Type 0
HoldsEachOnce words = (i j : ℕ) (word : List ℕ) → slice_get words i ≡ Some word → slice_get words j ≡ Some word → i ≡ j

-- the words are identifiers in their form, each once
pub record AreNames (words : List (List ℕ)) : Type 0 where
  pub identifiers : All IsIdentifier words
  pub distinct : HoldsEachOnce words

-- the words of operations, which have fixed places
abbrev pub first_words : List (List ℕ)
first_words =
    codes "__getitem__" ∷ codes "__setitem__" ∷ codes "__delitem__" ∷ codes "__iter__" ∷ codes "items"
    ∷ codes "__contains__" ∷ codes "__len__" ∷ codes "__call__" ∷ codes "__bool__" ∷ codes "__str__"
    ∷ codes "__add__" ∷ codes "__sub__" ∷ codes "__mul__" ∷ codes "__floordiv__" ∷ codes "__mod__" ∷ codes "__pow__"
    ∷ codes "__and__" ∷ codes "__or__" ∷ codes "__xor__" ∷ codes "__lshift__" ∷ codes "__rshift__"
    ∷ codes "__radd__" ∷ codes "__rsub__" ∷ codes "__rmul__" ∷ codes "__rfloordiv__" ∷ codes "__rmod__" ∷ codes "__rpow__"
    ∷ codes "__rand__" ∷ codes "__ror__" ∷ codes "__rxor__" ∷ codes "__rlshift__" ∷ codes "__rrshift__"
    ∷ codes "__iadd__" ∷ codes "__isub__" ∷ codes "__imul__" ∷ codes "__ifloordiv__" ∷ codes "__imod__" ∷ codes "__ipow__"
    ∷ codes "__iand__" ∷ codes "__ior__" ∷ codes "__ixor__" ∷ codes "__ilshift__" ∷ codes "__irshift__"
    ∷ codes "__lt__" ∷ codes "__le__" ∷ codes "__gt__" ∷ codes "__ge__" ∷ codes "__eq__" ∷ codes "__ne__"
    ∷ codes "__neg__" ∷ codes "__pos__" ∷ codes "__invert__"
    ∷ codes "index" ∷ codes "count" ∷ codes "get" ∷ codes "keys" ∷ codes "values" ∷ codes "copy" ∷ codes "__init__" ∷ []
