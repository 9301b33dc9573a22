-- Tables of arrays of ids.
use Rattle.std.proofs.Common.{◌≡◌, ℕ, Bool, true, false, ◌||◌, List, [], ◌∷◌, if◌then◌else◌, cond, Some, refl}
use Rattle.std.specs.List.{list_any}
use Rattle.std.specs.Map.{lookup}
use Rattle.std.specs.Option.{option_map_or}
use Rattle.toml.specs.Data.{Data, same_key}
use Rattle.rp_decl.specs.Shape.{Path, at_key, id_arrays, texts}
use Rattle.rp_decl.specs.Word.{is_id}

pub at_key-id_arrays : (keys : List (List ℕ)) (key : List ℕ) (path : Path) (d : Data)
    → at_key (id_arrays keys) key path d ≡ if list_any (same_key key) keys then texts is_id path d else path ∷ []
at_key-id_arrays [] key path d = refl
at_key-id_arrays (k ∷ ks) key path d = by (same_key key k) (at_key-id_arrays ks key path d)
  where
    by : (b : Bool)
        → at_key (id_arrays ks) key path d ≡ (if list_any (same_key key) ks then texts is_id path d else path ∷ [])
        → option_map_or (λ shape. shape path d) (cond b (Some (texts is_id)) (lookup (same_key key) (id_arrays ks))) (path ∷ [])
        ≡ (if b || list_any (same_key key) ks then texts is_id path d else path ∷ [])
    by true rest = refl
    by false rest = rest
