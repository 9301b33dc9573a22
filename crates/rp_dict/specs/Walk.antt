-- The pairs that are left of a walk.
use Rattle.std.specs.Prelude.{ℕ, List, drop}
use Rattle.rp_dict.specs.declared.walk.Rest.{Rest}
use Rattle.rp_dict.specs.declared.walk.Rest.TheVariants.{Few, Many}
use Rattle.rp_dict.specs.Places.{live}

module _ {K V : Type 0} where
  -- those from a place on
  abbrev pub rest_of : Rest K V → ℕ → List (K × V)
  rest_of (Few pairs) place = drop place pairs.now
  rest_of (Many map) place = live (drop place map.now.entries)
