-- The values of fields, one after another.
use Rattle.std.proofs.Common.{◌≡◌, ℕ, List, [], ◌∷◌, ◌++◌, chars, refl, ap}
use Rattle.toml.specs.Data.{Members, no_members, member}
use Rattle.rp_decl.specs.Document.{each_member, entries_of, key_text}
use Rattle.rp_decl.specs.InOrder.{AreEntriesInOrder, AreFieldsInOrder, IsInOrder, keys}
use Rattle.rp_decl.specs.Records.{Fields, no_fields, field, Entries, no_entries, entry}
use Rattle.rp_decl.specs.View.{entries_view, field_view, fields_view}
use Rattle.rp_decl.specs.declared.records.Field.{Field as FieldDecl}

abbrev pub fields_behind : Fields → Fields → Fields
fields_behind no_fields rest = rest
fields_behind (field x xs) rest = field x (fields_behind xs rest)

abbrev pub entries_behind : Entries → Entries → Entries
entries_behind no_entries rest = rest
entries_behind (entry k x xs) rest = entry k x (entries_behind xs rest)

pub fields_behind-none : (xs : Fields) → fields_behind xs no_fields ≡ xs
fields_behind-none no_fields = refl
fields_behind-none (field x xs) = ap (field x) (fields_behind-none xs)

pub entries_behind-none : (xs : Entries) → entries_behind xs no_entries ≡ xs
entries_behind-none no_entries = refl
entries_behind-none (entry k x xs) = ap (entry k x) (entries_behind-none xs)

pub fields_behind-push : (xs : List FieldDecl) (x : FieldDecl) (rest : Fields) → fields_behind (fields_view (xs ++ x ∷ [])) rest ≡ fields_behind (fields_view xs) (field (field_view x) rest)
fields_behind-push [] x rest = refl
fields_behind-push (y ∷ xs) x rest = ap (field (field_view y)) (fields_behind-push xs x rest)

pub entries_behind-push : (xs : List (List ℕ × FieldDecl)) (x : List ℕ × FieldDecl) (rest : Entries) → entries_behind (entries_view (xs ++ x ∷ [])) rest ≡ entries_behind (entries_view xs) (entry x.0 (field_view x.1) rest)
entries_behind-push [] x rest = refl
entries_behind-push (y ∷ xs) x rest = ap (entry y.0 (field_view y.1)) (entries_behind-push xs x rest)

pub fields-push : (xs : List FieldDecl) (x : FieldDecl) → AreFieldsInOrder (fields_view xs) → IsInOrder (field_view x) → AreFieldsInOrder (fields_view (xs ++ x ∷ []))
fields-push [] x all one = (one, tt)
fields-push (y ∷ xs) x all one = (all.0, fields-push xs x all.1 one)

pub entries-push : (xs : List (List ℕ × FieldDecl)) (x : List ℕ × FieldDecl) → AreEntriesInOrder (entries_view xs) → IsInOrder (field_view x.1) → AreEntriesInOrder (entries_view (xs ++ x ∷ []))
entries-push [] x all one = (one, tt)
entries-push (y ∷ xs) x all one = (all.0, entries-push xs x all.1 one)

-- the keys of a table's entries are the table's keys
pub keys-entries_of : (ms : Members) → keys (entries_of ms) ≡ each_member key_text ms
keys-entries_of no_members = refl
keys-entries_of (member k d ms) = ap (λ rest. chars k ∷ rest) (keys-entries_of ms)
