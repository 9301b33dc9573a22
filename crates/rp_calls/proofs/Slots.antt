-- Slots one by one.
use Rattle.std.proofs.Common.{◌≡◌, List, [], ◌∷◌, ◌++◌, map, Option, Some, None, refl, ap}
use Rattle.std.specs.Option.{option_map}
use Rattle.std.proofs.lemmas.List.{append_assoc}
use Rattle.rp_base.specs.declared.value.Value.{Value}
use Rattle.rp_calls.specs.Binding.{put}

pub slots_put : (slots : List (Option Value)) (v : Value) (r : Option (List Value))
    → option_map (λ vs. (slots ++ Some v ∷ []) ++ map Some vs) r ≡ option_map (λ vs. slots ++ map Some vs) (put (Some v) r)
slots_put slots v None = refl
slots_put slots v (Some vs) = ap Some (append_assoc slots (Some v ∷ []) (map Some vs))
