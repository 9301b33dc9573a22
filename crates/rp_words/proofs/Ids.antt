-- The ids that a word joins, found one after another.
use Rattle.std.proofs.Common.{◌≡◌, ◌&&◌, Bool, true, false, ℕ, List, [], ◌∷◌, map, chars, Option, Some, None}
use Rattle.std.proofs.Common.{option_and_then, if◌then◌else◌, ap, refl}
use Rattle.std.specs.List.{list_all}
use Rattle.rp_decl.specs.Word.{is_id}
use Rattle.rp_words.specs.Command.{all_found}

abbrev pub id_of : List ℕ → Option (List ℕ)
id_of piece = if is_id (chars piece) then Some (chars piece) else None

joined : (here more : Bool) (id : List ℕ) (ids : List (List ℕ)) (rest : Option (List (List ℕ)))
    → rest ≡ (if more then Some ids else None)
    → option_and_then (λ x. option_and_then (λ xs. Some (x ∷ xs)) rest) (if here then Some id else None)
    ≡ (if here && more then Some (id ∷ ids) else None)
joined true true id ids rest e = ap (option_and_then (λ xs. Some (id ∷ xs))) e
joined true false id ids rest e = ap (option_and_then (λ xs. Some (id ∷ xs))) e
joined false more id ids rest e = refl

pub ids_found : (pieces : List (List ℕ))
    → all_found (map id_of pieces) ≡ (if list_all is_id (map chars pieces) then Some (map chars pieces) else None)
ids_found [] = refl
ids_found (p ∷ ps) =
    joined (is_id (chars p)) (list_all is_id (map chars ps)) (chars p) (map chars ps)
    (all_found (map id_of ps)) (ids_found ps)
