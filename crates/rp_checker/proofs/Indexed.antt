-- Tables of places, as they are read entry by entry.
use Rattle.std.proofs.Common.{◌≡◌, refl, sym, ap, ◌∙◌, ℕ, ◌+◌, ◌<◌, Bool, true, false, cond, List, [], ◌∷◌, ◌++◌, length, take, get_or, Option, Some, None}
use Rattle.std.proofs.lemmas.List.{take_more}
use Rattle.std.specs.Map.{lookup}
use Rattle.std.specs.Option.{option_or}
use Rattle.rp_base.specs.declared.value.Name.{Name}
use Rattle.rp_checker.specs.Lookup.{is_name}
use Rattle.rp_checker.specs.Tables.{class_place}

-- no name has a place yet
pub class_place-none : (name : Name) → class_place [] name ≡ None
class_place-none name = refl

-- one entry more, behind the others
lookup-last : (other : Name) (es : List (Name × ℕ)) (e : Name × ℕ)
    → lookup (is_name other) (es ++ e ∷ []) ≡ option_or (lookup (is_name other) es) (cond (is_name other e.0) (Some e.1) None)
lookup-last other [] e = refl
lookup-last other (x ∷ es) e = by (is_name other x.0) (lookup-last other es e)
  where
    by : (b : Bool) → lookup (is_name other) (es ++ e ∷ []) ≡ option_or (lookup (is_name other) es) (cond (is_name other e.0) (Some e.1) None)
        → cond b (Some x.1) (lookup (is_name other) (es ++ e ∷ [])) ≡ option_or (cond b (Some x.1) (lookup (is_name other) es)) (cond (is_name other e.0) (Some e.1) None)
    by true later = refl
    by false later = later

-- the places of some first entries, and of one more
pub place-more : (places more : List (Option ℕ)) (es : List (Name × ℕ)) (i : ℕ) (d : Name × ℕ) (other : Name) → i < length es
    → class_place places other ≡ lookup (is_name other) (take i es)
    → class_place more other ≡ option_or (class_place places other) (cond (is_name other (get_or es i d).0) (Some (get_or es i d).1) None)
    → class_place more other ≡ lookup (is_name other) (take (i + 1) es)
place-more places more es i d other inside was added =
    added
    ∙ ap (λ o. option_or o (cond (is_name other (get_or es i d).0) (Some (get_or es i d).1) None)) was
    ∙ sym (lookup-last other (take i es) (get_or es i d))
    ∙ ap (lookup (is_name other)) (sym (take_more es i d inside))
