-- Rows as the program keeps them, with names and permissions as places.
use Rattle.std.specs.Prelude.{ℕ, Bool, nat_eq, if◌then◌else◌, List, [], Option, Some, None, option_and_then, unwrap_or, slice_get}
use Rattle.std.specs.List.{list_any}
use Rattle.std.specs.Map.{lookup}
use Rattle.rp_base.specs.declared.value.Name.{Name}
use Rattle.rp_base.specs.declared.value.ClassTag.{ClassTag}
use Rattle.rp_base.specs.declared.value.ClassTag.TheVariants.{List as ListTag, Tuple, Dict, Function, Method, Class, Declared, Other}
use Rattle.rp_base.specs.declared.value.Op.{Op}
use Rattle.rp_base.specs.declared.value.Op.TheVariants.{Get, Set}
use Rattle.rp_decl.specs.declared.row.Row.{Row}
use Rattle.rp_decl.specs.declared.row.Row.TheVariants.{Public, Default, Forbidden}
use Rattle.rp_checker.specs.Lookup.{is_name}
use Rattle.rp_checker.specs.declared.words.TheConstants.{SEQUENCE, MAPPING, CALLABLE, AVAILABLE}
use Rattle.rp_checker.specs.declared.class_rows.ClassRows.{ClassRows}

-- the place of each declared class by the place of its name, and the rows at each place
pub record Tables : Type 0 where
  pub places : List (Option ℕ)
  pub rows : List ClassRows

-- the row of a class
abbrev pub row_at : Op → ClassRows → Option Row
row_at (Get name) r = lookup (is_name name) r.get
row_at (Set name) r = lookup (is_name name) r.set

-- the places of the names that everybody may read of a built-in kind
abbrev pub public_places : ClassTag → List ℕ
public_places ListTag = SEQUENCE
public_places Tuple = SEQUENCE
public_places Dict = MAPPING
public_places Function = CALLABLE
public_places Method = CALLABLE
public_places Class = []
public_places (Declared name) = []
public_places Other = []

abbrev pub is_place_among : List ℕ → Name → Bool
is_place_among places name = list_any (λ place. nat_eq place name.0) places

-- the place of the class with a name, if it is declared
abbrev pub class_place : List (Option ℕ) → Name → Option ℕ
class_place places name = option_and_then (λ place. place) (slice_get places name.0)

-- the row that is listed for a class, if there is one
abbrev pub listed : Tables → ClassTag → Op → Option Row
listed t (Declared name) op = option_and_then (λ place. option_and_then (row_at op) (slice_get t.rows place)) (class_place t.places name)
listed t tag (Get name) = if is_place_among (public_places tag) name then Some Public else None
listed t tag (Set name) = None

abbrev pub row_unlisted : Op → Row
row_unlisted (Get name) = if is_place_among AVAILABLE name then Default else Forbidden
row_unlisted (Set name) = Forbidden

abbrev pub row_in : Tables → ClassTag → Op → Row
row_in t tag op = unwrap_or (listed t tag op) (row_unlisted op)
