-- The words that declarations add to the names, in order.
use Rattle.std.specs.Prelude.{ℕ, List, [], ◌∷◌, ◌++◌, map, flat_map}
use Rattle.rp_decl.specs.Consistency.{likes}
use Rattle.rp_decl.specs.Records.{Class, Object, Declarations}

abbrev pub class_words : Class → List (List ℕ)
class_words c = map (λ row. row.0) c.get ++ map (λ row. row.0) c.set ++ likes c ++ c.name ∷ []

abbrev pub object_words : Object → List (List ℕ)
object_words o = map (λ field. field.0) o.fields ++ o.class ∷ o.name ∷ []

-- the names that scripts may use, and then those of the classes and of the objects
abbrev pub declared_words : Declarations → List (List ℕ)
declared_words d = d.expose ++ flat_map class_words d.classes ++ flat_map object_words d.objects
