-- Forms in the place of a token, or the fault of its line.
use Rattle.std.proofs.Common.{◌≡◌, ◌∙◌, refl, ap, List, ◌++◌, map, Option, Some, None, Ok}
use Rattle.std.proofs.lemmas.List.{map-append}
use Rattle.std.specs.Option.{option_map, option_and_then}
use Rattle.rp_token.specs.Form.{Form}
use Rattle.rp_more.specs.declared.place.Place.{Place}
use Rattle.rp_more.specs.Forms.{placed}
use Rattle.rp_more.specs.LiteralSteps.{in_place, place_item}
use Rattle.rp_more.specs.Literals.{joined, with_front}

-- forms before others, where both are there
pub in_place-pair : (p : Place) (comma : List Form) (first rest : Option (List Form))
    → in_place p (option_and_then (λ forms. option_map (λ more. comma ++ (forms ++ more)) rest) first)
    ≡ with_front (map (placed (place_item p)) comma) (joined (in_place p first) (in_place p rest))
in_place-pair p comma None rest = refl
in_place-pair p comma (Some forms) None = refl
in_place-pair p comma (Some forms) (Some more) =
    ap Ok (map-append (placed (place_item p)) comma (forms ++ more) ∙ ap (λ xs. map (placed (place_item p)) comma ++ xs) (map-append (placed (place_item p)) forms more))
