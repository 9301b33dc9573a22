-- What the records name is what the members of the document's tables name.
use Rattle.std.proofs.Common.{◌≡◌, ℕ, List, [], ◌∷◌, ◌++◌, map, flat_map, codes, Option, Some, None, refl, ap, ap₂, ◌∙◌}
use Rattle.std.specs.Option.{option_map_or}
use Rattle.toml.specs.Data.{Data, Members, no_members, member, get_member}
use Rattle.rp_decl.specs.Consistency.{likes, permissions_named}
use Rattle.rp_decl.specs.Document.{class_of, each_at, each_member, group_of, members_of, object_of, principal_of, records_of, role_of}
use Rattle.rp_decl.specs.Naming.{class_named, each_named, grants_named, ids_named, like_named, named_at, rows_named}

each-flat : {A : Type 0} (f : A → List (List ℕ)) (reader : List ℕ → Data → A) (named : Data → List (List ℕ)) → ((k : List ℕ) (d : Data) → f (reader k d) ≡ named d)
    → (ms : Members) → flat_map f (each_member reader ms) ≡ each_named named ms
each-flat f reader named same no_members = refl
each-flat f reader named same (member k d ms) = ap₂ (λ x y. x ++ y) (same k d) (each-flat f reader named same ms)

-- of the records of the table at a key
pub flat-named : {A : Type 0} (f : A → List (List ℕ)) (reader : List ℕ → Data → A) (named : Data → List (List ℕ)) → ((k : List ℕ) (d : Data) → f (reader k d) ≡ named d)
    → (key : List ℕ) (ms : Members) → flat_map f (each_at reader key ms) ≡ named_at named key ms
flat-named f reader named same key ms = by (get_member key ms)
  where
    by : (o : Option Data) → flat_map f (option_map_or (λ d. each_member reader (members_of d)) o []) ≡ option_map_or (λ d. each_named named (members_of d)) o []
    by None = refl
    by (Some d) = each-flat f reader named same (members_of d)

map-flat : {A B : Type 0} (f : A → B) (xs : List A) → map f xs ≡ flat_map (λ x. f x ∷ []) xs
map-flat f [] = refl
map-flat f (x ∷ xs) = ap (λ rest. f x ∷ rest) (map-flat f xs)

pub permissions_named-at : (ms : Members) → permissions_named (records_of ms)
    ≡ ((named_at rows_named (codes "class") ms ++ named_at (ids_named (codes "permissions")) (codes "role") ms) ++ named_at grants_named (codes "group") ms) ++ named_at grants_named (codes "principal") ms
permissions_named-at ms =
    ap₂ (λ x y. x ++ y)
    (ap₂ (λ x y. x ++ y)
    (ap₂ (λ x y. x ++ y) (flat-named _ class_of rows_named (λ k d. refl) (codes "class") ms) (flat-named _ role_of (ids_named (codes "permissions")) (λ k d. refl) (codes "role") ms))
    (flat-named _ group_of grants_named (λ k d. refl) (codes "group") ms))
    (flat-named _ principal_of grants_named (λ k d. refl) (codes "principal") ms)

pub likes-at : (ms : Members) → flat_map likes (records_of ms).classes ≡ named_at like_named (codes "class") ms
likes-at ms = flat-named likes class_of like_named (λ k d. refl) (codes "class") ms

pub classes-at : (ms : Members) → map (λ o. o.class) (records_of ms).objects ≡ named_at class_named (codes "object") ms
classes-at ms = map-flat (λ o. o.class) (records_of ms).objects ∙ flat-named (λ o. o.class ∷ []) object_of class_named (λ k d. refl) (codes "object") ms

pub groups-at : (ms : Members) → flat_map (λ p. p.groups) (records_of ms).principals ≡ named_at (ids_named (codes "groups")) (codes "principal") ms
groups-at ms = flat-named _ principal_of (ids_named (codes "groups")) (λ k d. refl) (codes "principal") ms

pub roles-at : (ms : Members) → flat_map (λ g. g.roles) (records_of ms).groups ++ flat_map (λ p. p.roles) (records_of ms).principals
    ≡ named_at (ids_named (codes "roles")) (codes "group") ms ++ named_at (ids_named (codes "roles")) (codes "principal") ms
roles-at ms =
    ap₂ (λ x y. x ++ y) (flat-named _ group_of (ids_named (codes "roles")) (λ k d. refl) (codes "group") ms) (flat-named _ principal_of (ids_named (codes "roles")) (λ k d. refl) (codes "principal") ms)
