-- What the members of a document's tables name.
use Rattle.std.specs.Prelude.{ℕ, List, [], ◌∷◌, ◌++◌, codes}
use Rattle.std.specs.Option.{option_map_or}
use Rattle.toml.specs.Data.{Data, Members, no_members, member, get_member}
use Rattle.rp_decl.specs.Consistency.{needed}
use Rattle.rp_decl.specs.Document.{each_at, members_of, row_of, text_at, text_of, texts_at}

abbrev pub each_named : (Data → List (List ℕ)) → Members → List (List ℕ)
each_named named no_members = []
each_named named (member k d ms) = named d ++ each_named named ms

-- what the members of the table at a key name
abbrev pub named_at : (Data → List (List ℕ)) → List ℕ → Members → List (List ℕ)
named_at named key ms = option_map_or (λ d. each_named named (members_of d)) (get_member key ms) []

-- the permissions in the rows of a class
abbrev pub rows_named : Data → List (List ℕ)
rows_named d = needed (each_at row_of (codes "get") (members_of d)) ++ needed (each_at row_of (codes "set") (members_of d))

-- the permissions that a group or a principal is granted and denied
abbrev pub grants_named : Data → List (List ℕ)
grants_named d = texts_at (codes "allow") (members_of d) ++ texts_at (codes "deny") (members_of d)

-- the ids in the array at a key
abbrev pub ids_named : List ℕ → Data → List (List ℕ)
ids_named key d = texts_at key (members_of d)

-- the class that a class is like
abbrev pub like_named : Data → List (List ℕ)
like_named d = option_map_or (λ name. name ∷ []) (text_at (codes "like") (members_of d)) []

-- the class of an object
abbrev pub class_named : Data → List (List ℕ)
class_named d = option_map_or text_of (get_member (codes "class") (members_of d)) [] ∷ []
