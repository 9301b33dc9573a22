-- The names that the records give to things.
use Rattle.std.specs.Prelude.{◌≡◌, false}
use Rattle.std.specs.List.{All}
use Rattle.rp_decl.specs.Consistency.{class_names}
use Rattle.rp_decl.specs.Records.{Declarations}
use Rattle.rp_decl.specs.Word.{is_among}

-- no object has the name of a declared class
pub record AreNamesApart (d : Declarations) : Type 0 where
  pub objects : All (λ o. is_among (class_names d) o.name ≡ false) d.objects
