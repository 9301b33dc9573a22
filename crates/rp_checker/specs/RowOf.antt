-- What a class asks of whoever reads or sets a name of its objects (zope.security, checkers).
use Rattle.std.specs.Prelude.{ℕ, zero, suc, if◌then◌else◌, List, [], ◌∷◌, length, codes, Option, Some, None, option_and_then}
use Rattle.std.specs.Option.{option_map_or, option_or}
use Rattle.std.specs.Map.{lookup}
use Rattle.rp_base.specs.Same.{same_text}
use Rattle.rp_decl.specs.Consistency.{class_named}
use Rattle.rp_decl.specs.Document.{public as zope_public}
use Rattle.rp_decl.specs.Records.{Class, Declarations}
use Rattle.rp_decl.specs.Word.{is_among}

-- the class of an object: a built-in kind, a declared class, or another one
pub data Tag : Type 0 where
  list : Tag
  tuple : Tag
  dict : Tag
  function : Tag
  method : Tag
  class : Tag
  declared : List ℕ → Tag
  other : Tag

-- reading a name, or setting it
pub data Operation : Type 0 where
  reading : List ℕ → Operation
  setting : List ℕ → Operation

-- the row of a class for a name
pub data Row : Type 0 where
  public : Row
  needs : List ℕ → Row
  default : Row
  forbidden : Row

-- the permission of a class's own row
abbrev pub own_permission : Class → Operation → Option (List ℕ)
own_permission c (reading name) = lookup (same_text name) c.get
own_permission c (setting name) = lookup (same_text name) c.set

-- the permission of the class's own row, else that of the class that it is like, and so on, over so many classes
abbrev pub permission_within : Declarations → ℕ → List ℕ → Operation → Option (List ℕ)
permission_within d zero name op = None
permission_within d (suc n) name op =
    option_and_then (λ c. option_or (own_permission c op) (option_and_then (λ like. permission_within d n like op) c.like)) (class_named d name)

-- the names that everybody may read of a built-in kind
abbrev pub sequence_names : List (List ℕ)
sequence_names = codes "__getitem__" ∷ codes "__len__" ∷ codes "__iter__" ∷ codes "__contains__" ∷ codes "index" ∷ codes "count" ∷ []

abbrev pub dict_names : List (List ℕ)
dict_names =
    codes "__getitem__" ∷ codes "__len__" ∷ codes "__iter__" ∷ codes "__contains__" ∷ codes "get" ∷ codes "keys" ∷ codes "values" ∷ codes "items"
    ∷ codes "copy" ∷ []

abbrev pub call_names : List (List ℕ)
call_names = codes "__call__" ∷ []

abbrev pub public_names : Tag → List (List ℕ)
public_names list = sequence_names
public_names tuple = sequence_names
public_names dict = dict_names
public_names function = call_names
public_names method = call_names
public_names class = []
public_names (declared name) = []
public_names other = []

-- The permission of the row, where there is one. A chain of `like` that ends has at most all classes.
abbrev pub permission_of : Declarations → Tag → Operation → Option (List ℕ)
permission_of d (declared name) op = permission_within d (length d.classes) name op
permission_of d tag (reading name) = if is_among (public_names tag) name then Some zope_public else None
permission_of d tag (setting name) = None

-- the names that may be read of every class that has no row for them
abbrev pub default_names : List (List ℕ)
default_names =
    codes "__lt__" ∷ codes "__le__" ∷ codes "__eq__" ∷ codes "__ne__" ∷ codes "__gt__" ∷ codes "__ge__" ∷ codes "__bool__" ∷ codes "__str__" ∷ []

abbrev pub row_needing : List ℕ → Row
row_needing permission = if same_text permission zope_public then public else needs permission

abbrev pub row_without : Operation → Row
row_without (reading name) = if is_among default_names name then default else forbidden
row_without (setting name) = forbidden

-- a row with `zope.Public` is public, and another needs its permission
abbrev pub row_of : Declarations → Tag → Operation → Row
row_of d tag op = option_map_or row_needing (permission_of d tag op) (row_without op)
