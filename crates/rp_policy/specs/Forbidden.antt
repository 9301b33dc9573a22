-- The words that a script may not use as names and as attributes (RestrictedPython, name and attribute policy). Which
-- attributes inspect frames, code and tracebacks, which names are reserved, and that these may be read, is this
-- project's own.
use Rattle.std.specs.Prelude.{ℕ, Bool, ◌&&◌, ◌||◌, not, nat_eq, List, [], ◌∷◌, codes}
use Rattle.std.specs.List.{list_any, starts_with, ends_with}
use Rattle.rp_base.specs.Same.{same_text}

-- one of these words
abbrev pub is_among : List (List ℕ) → List ℕ → Bool
is_among words word = list_any (λ w. same_text w word) words

-- it begins with `_` and isn't `_`
abbrev pub is_private : List ℕ → Bool
is_private word = starts_with nat_eq word (codes "_") && not (same_text word (codes "_"))

-- it is private, or ends with `__roles__`
unfoldable pub is_forbidden_name : List ℕ → Bool
is_forbidden_name word = is_private word || ends_with nat_eq word (codes "__roles__")

-- the attributes of frames, code and tracebacks
abbrev pub inspection_attributes : List (List ℕ)
inspection_attributes =
    codes "tb_frame" ∷ codes "tb_next" ∷ codes "f_back" ∷ codes "f_builtins" ∷ codes "f_code" ∷ codes "f_globals"
    ∷ codes "f_locals" ∷ codes "f_trace" ∷ codes "co_code" ∷ codes "gi_frame" ∷ codes "gi_code"
    ∷ codes "gi_yieldfrom" ∷ codes "cr_await" ∷ codes "cr_frame" ∷ codes "cr_code" ∷ codes "cr_origin" ∷ []

unfoldable pub is_forbidden_attribute : List ℕ → Bool
is_forbidden_attribute word = is_forbidden_name word || is_among inspection_attributes word

-- a name that may be read, but neither bound nor deleted
unfoldable pub is_reserved : List ℕ → Bool
is_reserved = is_among (codes "print" ∷ codes "printed" ∷ codes "builtins" ∷ codes "breakpoint" ∷ [])

-- a name that may not be called
unfoldable pub is_uncallable : List ℕ → Bool
is_uncallable = is_among (codes "exec" ∷ codes "eval" ∷ [])

-- the name that a class may define though it is private
unfoldable pub is_initializer : List ℕ → Bool
is_initializer word = same_text word (codes "__init__")
