-- The names that are bound before the module runs.
use Rattle.std.specs.Prelude.{ℕ, List, ◌++◌, map}
use Rattle.rp_base.specs.declared.value.Name.{Name}
use Rattle.rp_decl.specs.Records.{Declarations}
use Rattle.rp_decl.specs.View.{Placed}

-- the names of the declared classes and then of the declared objects, which are the first globals of the module
abbrev pub global_names : Declarations → List (List ℕ)
global_names d = map (λ c. c.name) d.classes ++ map (λ o. o.name) d.objects

-- the same as the program has them
abbrev pub placed_names : Placed → List Name
placed_names d = map (λ c. c.name) d.classes ++ map (λ o. o.name) d.objects
