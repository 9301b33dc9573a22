-- What a declaration file says, as records, with names and ids as texts.
use Rattle.std.specs.Prelude.{ℕ, ℤ, Bool, List, Option}

-- the value of a field of a declared object
mutual
  pub data Field : Type 0 where
    int : ℤ → Field
    text : List ℕ → Field
    truth : Bool → Field
    list : Fields → Field
    table : Entries → Field

  pub data Fields : Type 0 where
    no_fields : Fields
    field : Field → Fields → Fields

  -- keys in byte order
  pub data Entries : Type 0 where
    no_entries : Entries
    entry : List ℕ → Field → Entries → Entries

-- a name, and the permission that it needs
abbrev pub RowText : Type 0
RowText = List ℕ × List ℕ

-- a class: the class that it is like, and the permission that reading and setting each name needs
pub record Class : Type 0 where
  pub name : List ℕ
  pub like : Option (List ℕ)
  pub get : List RowText
  pub set : List RowText

-- a role: the permissions that it has
pub record Role : Type 0 where
  pub id : List ℕ
  pub permissions : List (List ℕ)

-- a group: its roles, and the permissions that it is granted and denied
pub record Group : Type 0 where
  pub id : List ℕ
  pub roles : List (List ℕ)
  pub allow : List (List ℕ)
  pub deny : List (List ℕ)

-- a principal: its groups and roles, and the permissions that it is granted and denied
pub record Principal : Type 0 where
  pub id : List ℕ
  pub groups : List (List ℕ)
  pub roles : List (List ℕ)
  pub allow : List (List ℕ)
  pub deny : List (List ℕ)

-- an object of a class, with its fields
pub record Object : Type 0 where
  pub name : List ℕ
  pub class : List ℕ
  pub fields : List (List ℕ × Field)

-- Permissions, classes, roles, groups, principals and objects stand in byte order, each once, and so do rows and fields;
-- all else stands as written.
pub record Declarations : Type 0 where
  -- the ids of the permissions, `zope.Public` among them
  pub permissions : List (List ℕ)
  -- the names that scripts may use
  pub expose : List (List ℕ)
  -- the text of the trusted module, empty where there is none
  pub module_text : List ℕ
  pub classes : List Class
  pub roles : List Role
  pub groups : List Group
  pub principals : List Principal
  pub objects : List Object
