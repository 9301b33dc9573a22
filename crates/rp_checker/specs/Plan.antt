-- What rows are made from.
use Rattle.std.specs.Prelude.{ℕ, ◌<◌, List, length}
use Rattle.std.specs.Option.{ForSome}
use Rattle.std.specs.Map.{lookup}
use Rattle.rp_base.specs.declared.value.Name.{Name}
use Rattle.rp_decl.specs.declared.records.ClassDecl.{ClassDecl}
use Rattle.rp_checker.specs.Lookup.{is_name}

-- the classes, their places by name, and the ids of the permissions
pub record Plan : Type 0 where
  pub classes : List ClassDecl
  pub places : List (Name × ℕ)
  pub permissions : List (List ℕ)

-- each place is that of a class
abbrev pub HasPlacesWithin : Plan → Type 0
HasPlacesWithin plan = (name : Name) → ForSome (lookup (is_name name) plan.places) (λ place. place < length plan.classes)
