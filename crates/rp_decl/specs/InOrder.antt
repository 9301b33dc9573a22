-- What stands in byte order in the records, each once.
use Rattle.std.specs.Prelude.{ℕ, List, [], ◌∷◌, map}
use Rattle.std.specs.List.{All}
use Rattle.std.specs.List.Sorted.{IsStrictlySortedBy}
use Rattle.rp_decl.specs.Order.{text_cmp}
use Rattle.rp_decl.specs.Records.{Field, int, text, truth, list, table, Fields, no_fields, field, Entries, no_entries, entry, Class, Object, Declarations}

-- each text comes before those behind it
abbrev pub AreAscending : List (List ℕ) → Type 0
AreAscending = IsStrictlySortedBy text_cmp

abbrev pub keys : Entries → List (List ℕ)
keys no_entries = []
keys (entry k x xs) = k ∷ keys xs

-- the keys of the tables in a value
abbrev mutual
  pub IsInOrder : Field → Type 0
  IsInOrder (int n) = Unit {0}
  IsInOrder (text t) = Unit {0}
  IsInOrder (truth b) = Unit {0}
  IsInOrder (list xs) = AreFieldsInOrder xs
  IsInOrder (table xs) = AreAscending (keys xs) × AreEntriesInOrder xs

  pub AreFieldsInOrder : Fields → Type 0
  AreFieldsInOrder no_fields = Unit {0}
  AreFieldsInOrder (field x xs) = IsInOrder x × AreFieldsInOrder xs

  pub AreEntriesInOrder : Entries → Type 0
  AreEntriesInOrder no_entries = Unit {0}
  AreEntriesInOrder (entry k x xs) = IsInOrder x × AreEntriesInOrder xs

pub record IsClassInOrder (c : Class) : Type 0 where
  pub get : AreAscending (map (λ row. row.0) c.get)
  pub set : AreAscending (map (λ row. row.0) c.set)

pub record IsObjectInOrder (o : Object) : Type 0 where
  pub names : AreAscending (map (λ f. f.0) o.fields)
  pub values : All (λ f. IsInOrder f.1) o.fields

pub record AreInOrder (d : Declarations) : Type 0 where
  pub permissions : AreAscending d.permissions
  pub classes : AreAscending (map (λ c. c.name) d.classes)
  pub rows : All IsClassInOrder d.classes
  pub roles : AreAscending (map (λ r. r.id) d.roles)
  pub groups : AreAscending (map (λ g. g.id) d.groups)
  pub principals : AreAscending (map (λ p. p.id) d.principals)
  pub objects : AreAscending (map (λ o. o.name) d.objects)
  pub fields : All IsObjectInOrder d.objects
