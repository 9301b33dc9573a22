-- What is named in the records and not declared.
use Rattle.std.specs.Prelude.{◌≡◌, ℕ, suc, zero, Bool, false, ◌||◌, not, List, [], ◌∷◌, ◌++◌, length, map, flat_map, filter, find, Option, Some, option_and_then}
use Rattle.std.specs.Option.{option_map_or}
use Rattle.rp_base.specs.Same.{same_text}
use Rattle.rp_decl.specs.Records.{RowText, Class, Declarations}
use Rattle.rp_decl.specs.Word.{is_among}

-- those of some texts that are not known
abbrev pub unknown : List (List ℕ) → List (List ℕ) → List (List ℕ)
unknown known texts = filter (λ t. not (is_among known t)) texts

abbrev pub needed : List RowText → List (List ℕ)
needed rows = map (λ row. row.1) rows

-- the permissions in rows, roles and grants
abbrev pub permissions_named : Declarations → List (List ℕ)
permissions_named d =
    flat_map (λ c. needed c.get ++ needed c.set) d.classes
    ++ flat_map (λ r. r.permissions) d.roles
    ++ flat_map (λ g. g.allow ++ g.deny) d.groups
    ++ flat_map (λ p. p.allow ++ p.deny) d.principals

abbrev pub class_names : Declarations → List (List ℕ)
class_names d = map (λ c. c.name) d.classes

abbrev pub class_named : Declarations → List ℕ → Option Class
class_named d name = find (λ c. same_text name c.name) d.classes

-- the class that a class is like, so many times
abbrev pub follow : Declarations → ℕ → List ℕ → Option (List ℕ)
follow d zero name = Some name
follow d (suc n) name = option_and_then (λ c. option_and_then (follow d n) c.like) (class_named d name)

abbrev pub leads_to : List ℕ → Option (List ℕ) → Bool
leads_to name found = option_map_or (same_text name) found false

-- the classes of so many steps that lead back, at most
abbrev pub comes_back : Declarations → ℕ → List ℕ → Bool
comes_back d zero name = false
comes_back d (suc n) name = leads_to name (follow d (suc n) name) || comes_back d n name

-- A class that is like itself, over other classes or none, stands on a ring; a ring has at most all classes.
abbrev pub is_on_ring : Declarations → List ℕ → Bool
is_on_ring d name = comes_back d (length d.classes) name

abbrev pub likes : Class → List (List ℕ)
likes c = option_map_or (λ name. name ∷ []) c.like []

-- the undeclared classes that a class is like or that an object is of, and the classes on a ring
abbrev pub class_faults : Declarations → List (List ℕ)
class_faults d =
    unknown (class_names d) (flat_map likes d.classes ++ map (λ o. o.class) d.objects)
    ++ filter (is_on_ring d) (class_names d)

abbrev pub permission_faults : Declarations → List (List ℕ)
permission_faults d = unknown d.permissions (permissions_named d)

abbrev pub group_ids : Declarations → List (List ℕ)
group_ids d = map (λ g. g.id) d.groups

abbrev pub role_ids : Declarations → List (List ℕ)
role_ids d = map (λ r. r.id) d.roles

abbrev pub group_faults : Declarations → List (List ℕ)
group_faults d = unknown (group_ids d) (flat_map (λ p. p.groups) d.principals)

abbrev pub role_faults : Declarations → List (List ℕ)
role_faults d =
    unknown (role_ids d) (flat_map (λ g. g.roles) d.groups ++ flat_map (λ p. p.roles) d.principals)

-- all that is named is declared, and no class is like itself
pub record IsConsistent (d : Declarations) : Type 0 where
  pub permissions_declared : permission_faults d ≡ []
  pub classes_declared : class_faults d ≡ []
  pub groups_declared : group_faults d ≡ []
  pub roles_declared : role_faults d ≡ []
