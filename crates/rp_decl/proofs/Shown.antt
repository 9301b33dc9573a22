-- What shows names, permissions, rows and fields has their views, and its places are held.
use Rattle.std.proofs.Common.{◌≡◌, ℕ, ◌<◌, List, [], ◌∷◌, map, length, Option, Some, None, option_map, IfSome, chars, refl, ap}
use Rattle.std.specs.List.{All}
use Rattle.std.specs.Option.{option_map_or}
use Rattle.toml.specs.Data.{Data, Members, no_members, member, get_member}
use Rattle.rp_base.specs.declared.value.Name.{Name}
use Rattle.rp_decl.specs.Document.{each_at, each_member, key_text, members_of}
use Rattle.rp_decl.specs.InOrder.{IsInOrder}
use Rattle.rp_decl.specs.Places.{ArePerms, AreBelow, AreRows, IsHeld}
use Rattle.rp_decl.specs.Reading.{Shows, ShowsField, ShowsLike, ShowsName, ShowsPlace, ShowsRow}
use Rattle.rp_decl.specs.Records.{Field, RowText}
use Rattle.rp_decl.specs.View.{field_view, name_text, perm_text, row_text, text_at}
use Rattle.rp_decl.specs.declared.known_ids.Known.{Known}
use Rattle.rp_decl.specs.declared.records.Field.{Field as FieldDecl}
use Rattle.rp_decl.specs.declared.records.Perm.{Perm}
use Rattle.rp_decl.proofs.Growth.{Shows-All, Shows-values, Shows-view}

pub perms-shown : (known : List (List ℕ)) (perms : List Perm) (texts : List (List ℕ)) → Shows (λ p. ShowsPlace known p.0) perms texts []
    → (map (perm_text known) perms ≡ texts) × ArePerms (length known) perms
perms-shown known perms texts h =
    (Shows-view (λ p. ShowsPlace known p.0) (perm_text known) (λ p t r. r.0) perms texts h, Shows-All (λ p. ShowsPlace known p.0) (λ p. p.0 < length known) (λ p t r. r.1) perms texts h)

pub places-shown : (known : List (List ℕ)) (places : List ℕ) (texts : List (List ℕ)) → Shows (ShowsPlace known) places texts []
    → (map (text_at known) places ≡ texts) × AreBelow (length known) places
places-shown known places texts h =
    (Shows-view (ShowsPlace known) (text_at known) (λ p t r. r.0) places texts h, Shows-All (ShowsPlace known) (λ p. p < length known) (λ p t r. r.1) places texts h)

pub names-shown : (names : List (List ℕ)) (held : List Name) (words : List (List ℕ)) → Shows (ShowsName names) held words []
    → (map (name_text names) held ≡ words) × All (IsHeld names) held
names-shown names held words h =
    (Shows-view (ShowsName names) (name_text names) (λ n w r. r.0) held words h, Shows-All (ShowsName names) (IsHeld names) (λ n w r. r.1) held words h)

pub like-shown : (names : List (List ℕ)) (like : Option Name) (word : Option (List ℕ)) → ShowsLike names like word
    → (option_map (name_text names) like ≡ word) × IfSome like (IsHeld names)
like-shown names None word h = (h, tt)
like-shown names (Some name) None h = absurd h
like-shown names (Some name) (Some word) h = (ap Some h.0, h.1)

pub rows-shown : (names : List (List ℕ)) (known : Known) (rows : List (Name × Perm)) (texts : List RowText) → Shows (ShowsRow names known) rows texts []
    → (map (row_text names known.permissions) rows ≡ texts) × All (λ row. IsHeld names row.0) rows × AreRows (length known.permissions) rows
rows-shown names known rows texts h = (
  Shows-view (ShowsRow names known) (row_text names known.permissions) (λ row t r. λ i. (r.name.0 i, r.perm.0 i)) rows texts h,
  Shows-All (ShowsRow names known) (λ row. IsHeld names row.0) (λ row t r. r.name.1) rows texts h,
  Shows-All (ShowsRow names known) (λ row. row.1.0 < length known.permissions) (λ row t r. r.perm.1) rows texts h,
)

pub fields-shown : (names : List (List ℕ)) (fields : List (Name × FieldDecl)) (said : List (List ℕ × Field)) → Shows (ShowsField names) fields said []
    → (map (λ f. (name_text names f.0, field_view f.1)) fields ≡ said) × All (λ f. IsHeld names f.0) fields × All (λ f. IsInOrder f.1) said
fields-shown names fields said h = (
  Shows-view (ShowsField names) (λ f. (name_text names f.0, field_view f.1)) (λ f t r. λ i. (r.name.0 i, r.value i)) fields said h,
  Shows-All (ShowsField names) (λ f. IsHeld names f.0) (λ f t r. r.name.1) fields said h,
  Shows-values (ShowsField names) (λ f. IsInOrder f.1) (λ f t r. r.ordered) fields said h,
)

each-key : {A : Type 0} (name : A → List ℕ) (reader : List ℕ → Data → A) → ((k : List ℕ) (d : Data) → name (reader k d) ≡ chars k) → (ms : Members) → map name (each_member reader ms) ≡ each_member key_text ms
each-key name reader same no_members = refl
each-key name reader same (member k d ms) = λ i. same k d i ∷ each-key name reader same ms i

-- the names of the records of a table are its keys
pub keys-at : {A : Type 0} (name : A → List ℕ) (reader : List ℕ → Data → A) → ((k : List ℕ) (d : Data) → name (reader k d) ≡ chars k) → (key : List ℕ) (ms : Members)
    → map name (each_at reader key ms) ≡ each_at key_text key ms
keys-at name reader same key ms = by (get_member key ms)
  where
    by : (o : Option Data) → map name (option_map_or (λ d. each_member reader (members_of d)) o []) ≡ option_map_or (λ d. each_member key_text (members_of d)) o []
    by None = refl
    by (Some d) = each-key name reader same (members_of d)
