-- Texts in byte order.
use Rattle.std.specs.Prelude.{ℕ, suc, List, [], ◌∷◌, fold, Option, Some, None, option_map, encode_utf8_all, if◌then◌else◌}
use Rattle.std.specs.BTreeSet.{insert_key}
use Rattle.std.specs.Option.{option_map_or}
use Rattle.std.specs.Ordering.{nat_cmp}
use Rattle.std.specs.declared.cmp.Ordering.{Ordering}
use Rattle.std.specs.declared.cmp.Ordering.TheVariants.{Less, Equal, Greater}
use Rattle.std.specs.Cmp.Lexicographic.{slice_cmp}
use Rattle.rp_base.specs.Same.{same_text}

-- the order of the UTF-8 bytes
abbrev pub text_cmp : List ℕ → List ℕ → Ordering
text_cmp x y = slice_cmp nat_cmp (encode_utf8_all x) (encode_utf8_all y)

abbrev pub lesser_by : Ordering → List ℕ → List ℕ → List ℕ
lesser_by Less x y = x
lesser_by Equal x y = x
lesser_by Greater x y = y

-- the lesser of two texts
abbrev pub lesser : List ℕ → List ℕ → List ℕ
lesser x y = lesser_by (text_cmp x y) x y

-- the lesser of two texts, each of which may be missing
abbrev pub lesser_of : Option (List ℕ) → Option (List ℕ) → Option (List ℕ)
lesser_of None other = other
lesser_of (Some x) other = Some (option_map_or (lesser x) other x)

-- the least of some texts
abbrev pub least : List (List ℕ) → Option (List ℕ)
least [] = None
least (x ∷ xs) = lesser_of (Some x) (least xs)

-- the texts in byte order, each once
abbrev pub sorted_set : List (List ℕ) → List (List ℕ)
sorted_set texts = fold (insert_key text_cmp) [] texts

-- the place of a text among others
abbrev pub place_of : List (List ℕ) → List ℕ → Option ℕ
place_of [] text = None
place_of (x ∷ xs) text = if same_text text x then Some 0 else option_map suc (place_of xs text)
