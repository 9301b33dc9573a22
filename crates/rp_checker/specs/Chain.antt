-- Classes by their places, each with the class that it is like.
use Rattle.std.specs.Prelude.{◌≡◌, ℕ, zero, suc, ◌+◌, ◌<◌, ⊤, Bool, true, false, if◌then◌else◌, List, length, map, Option, Some, None, option_map, option_and_then, slice_get, slice_index, slice_index_or}
use Rattle.std.specs.List.{All, enumerate_from}
use Rattle.std.specs.Option.{IfSome, IsSome, option_or}
use Rattle.std.specs.Map.{lookup}
use Rattle.rp_base.specs.declared.value.Name.{Name}
use Rattle.rp_base.specs.declared.value.Op.{Op}
use Rattle.rp_base.specs.declared.value.Op.TheVariants.{Get, Set}
use Rattle.rp_base.specs.Same.{same_text}
use Rattle.rp_decl.specs.Document.{public as zope_public}
use Rattle.rp_decl.specs.Places.{IsClassWithin}
use Rattle.rp_decl.specs.View.{perm_text}
use Rattle.rp_decl.specs.declared.records.ClassDecl.{ClassDecl}
use Rattle.rp_decl.specs.declared.records.Perm.{Perm}
use Rattle.rp_decl.specs.declared.row.Row.{Row}
use Rattle.rp_decl.specs.declared.row.Row.TheVariants.{Public, Needs}
use Rattle.rp_checker.specs.Answers.{IsRowWithin}
use Rattle.rp_checker.specs.Lookup.{is_name}
use Rattle.rp_checker.specs.Plan.{Plan}
use Rattle.rp_checker.specs.Tables.{row_at}
use Rattle.rp_checker.specs.declared.class_rows.ClassRows.{ClassRows}

-- the place of each class by its name
abbrev pub class_places : List ClassDecl → List (Name × ℕ)
class_places classes = map (λ e. (e.1.name, e.0)) (enumerate_from 0 classes)

-- the place of the class that the one at this place is like
abbrev pub like_place : Plan → ℕ → Option ℕ
like_place plan place = option_and_then (λ c. option_and_then (λ name. lookup (is_name name) plan.places) c.like) (slice_get plan.classes place)

-- the row with a permission, which everybody may have
abbrev pub row_needing : List (List ℕ) → Perm → Row
row_needing permissions permission = if same_text (perm_text permissions permission) zope_public then Public else Needs permission

-- the permission of the class's own row
abbrev pub own_permission : Op → ClassDecl → Option Perm
own_permission (Get name) c = lookup (is_name name) c.get.items
own_permission (Set name) c = lookup (is_name name) c.set.items

-- the row of the class's own
abbrev pub own_row : Plan → ℕ → Op → Option Row
own_row plan place op = option_and_then (λ c. option_map (row_needing plan.permissions) (own_permission op c)) (slice_get plan.classes place)

-- the class's own row, else that of the class that it is like, and so on, over so many classes
abbrev pub row_within : Plan → ℕ → ℕ → Op → Option Row
row_within plan zero place op = None
row_within plan (suc n) place op = option_or (own_row plan place op) (option_and_then (λ like. row_within plan n like op) (like_place plan place))

-- from here on there are at most so many classes
abbrev pub EndsWithin : Plan → ℕ → Option ℕ → Type 0
EndsWithin plan n None = ⊤
EndsWithin plan zero (Some place) = ⊥
EndsWithin plan (suc n) (Some place) = EndsWithin plan n (like_place plan place)

-- no class is like itself, over other classes or none
abbrev pub AllEnd : Plan → Type 0
AllEnd plan = (place : ℕ) → place < length plan.classes → EndsWithin plan (length plan.classes) (Some place)

-- the class at a place has its rows
abbrev pub is_done : List Bool → ℕ → Bool
is_done done place = slice_index_or done place false

-- the rows are those of the class at this place
abbrev pub AreRowsOf : Plan → ℕ → ClassRows → Type 0
AreRowsOf plan place r = (op : Op) → row_at op r ≡ row_within plan (suc (length plan.classes)) place op

-- the rows of the classes that are done are theirs
abbrev pub AreRight : Plan → List Bool → List ClassRows → Type 0
AreRight plan done rows = (place : ℕ) → is_done done place ≡ true → IfSome (slice_get rows place) (AreRowsOf plan place)

-- each class has its rows
abbrev pub HasAllRows : Plan → List ClassRows → Type 0
HasAllRows plan rows = (place : ℕ) → place < length plan.classes → IfSome (slice_get rows place) (AreRowsOf plan place) × IsSome (slice_get rows place)

-- each permission of the classes is one of the plan's
pub record AreClassesWithin (plan : Plan) : Type 0 where
  pub each : All (IsClassWithin (length plan.permissions)) plan.classes

-- each permission of the rows of a class is one of so many
abbrev pub HasRowsWithin : ℕ → ClassRows → Type 0
HasRowsWithin permissions r = (op : Op) → IfSome (row_at op r) (IsRowWithin permissions)

-- so is each of the rows of these classes
pub record HaveRowsWithin (permissions : ℕ) (rows : List ClassRows) : Type 0 where
  pub each : All (HasRowsWithin permissions) rows

-- Classes from the first on, where each is like the next, and the last one is like a class that is done, or none.
pub record IsChain (plan : Plan) (done : List Bool) (first : ℕ) (chain : List ℕ) : Type 0 where
  pub within : All (λ place. place < length plan.classes) chain
  pub first_stands : 0 < length chain → slice_index chain 0 ≡ first
  pub linked : (k : ℕ) → k + 1 < length chain → like_place plan (slice_index chain k) ≡ Some (slice_index chain (k + 1))
  pub ready : AllEnd plan → (k : ℕ) → k + 1 ≡ length chain → IfSome (like_place plan (slice_index chain k)) (λ place. is_done done place ≡ true)
  pub nothing_left : length chain ≡ 0 → is_done done first ≡ true
