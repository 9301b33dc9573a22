-- Rows ask for permissions that are declared.
use Rattle.std.proofs.Common.{◌≡◌, refl, arith, ℕ, zero, suc, ◌<◌, Bool, true, false, cond, List, [], ◌∷◌, ◌++◌, length, set, unwrap_or, Option, Some, None}
use Rattle.std.specs.List.{All, slice_get}
use Rattle.std.specs.Option.{IfSome, IsSome, option_and_then, option_map, option_or}
use Rattle.std.proofs.lemmas.List.Elements.{All-push, All-set}
use Rattle.std.proofs.lemmas.Map.Entries.{All-lookup}
use Rattle.rp_base.specs.declared.value.ClassTag.{ClassTag}
use Rattle.rp_base.specs.declared.value.ClassTag.TheVariants.{List as ListTag, Tuple, Dict, Function, Method, Class, Declared, Other}
use Rattle.rp_base.specs.declared.value.Name.{Name}
use Rattle.rp_base.specs.declared.value.Op.{Op}
use Rattle.rp_base.specs.declared.value.Op.TheVariants.{Get, Set}
use Rattle.rp_base.specs.Same.{same_text}
use Rattle.rp_decl.specs.Document.{public as zope_public}
use Rattle.rp_decl.specs.Places.{IsClassWithin}
use Rattle.rp_decl.specs.View.{perm_text}
use Rattle.rp_decl.specs.declared.records.ClassDecl.{ClassDecl}
use Rattle.rp_decl.specs.declared.records.Perm.{Perm}
use Rattle.rp_decl.specs.declared.row.Row.{Row}
use Rattle.rp_decl.specs.declared.row.Row.TheVariants.{Public, Needs, Default, Forbidden}
use Rattle.rp_checker.specs.Answers.{AreRowsWithin, IsRowWithin}
use Rattle.rp_checker.specs.Chain.{AreClassesWithin, HasRowsWithin, HaveRowsWithin, like_place, own_permission, own_row, row_needing}
use Rattle.rp_checker.specs.Lookup.{is_name}
use Rattle.rp_checker.specs.Plan.{Plan}
use Rattle.rp_checker.specs.Tables.{Tables, class_place, is_place_among, listed, public_places, row_at, row_unlisted}
use Rattle.rp_checker.specs.declared.class_rows.ClassRows.{ClassRows}
use Rattle.rp_checker.specs.declared.words.TheConstants.{AVAILABLE}
use Rattle.rp_base.proofs.CallerLemmas.{IfSome-slice_get}

module _ (n : ℕ) where
  needing-within : (permissions : List (List ℕ)) (p : Perm) → p.0 < n → IsRowWithin n (row_needing permissions p)
  needing-within permissions p inside = by (same_text (perm_text permissions p) zope_public)
    where
      by : (b : Bool) → IsRowWithin n (cond b Public (Needs p))
      by true = tt
      by false = inside

  permission-within : (op : Op) (c : ClassDecl) → IsClassWithin n c → IfSome (own_permission op c) (λ p. p.0 < n)
  permission-within (Get name) c within = All-lookup (λ (p : Perm). p.0 < n) (is_name name) c.get.items within.get
  permission-within (Set name) c within = All-lookup (λ (p : Perm). p.0 < n) (is_name name) c.set.items within.set

  or-within : (a b : Option Row) → IfSome a (IsRowWithin n) → IfSome b (IsRowWithin n) → IfSome (option_or a b) (IsRowWithin n)
  or-within None b first second = second
  or-within (Some r) b first second = first

  at-within : (op : Op) (o : Option ClassRows) → IfSome o (HasRowsWithin n) → IfSome (option_and_then (row_at op) o) (IsRowWithin n)
  at-within op None within = tt
  at-within op (Some r) within = within op

  place-within : (op : Op) (rows : List ClassRows) (o : Option ℕ) → All (HasRowsWithin n) rows → IfSome (option_and_then (λ place. option_and_then (row_at op) (slice_get rows place)) o) (IsRowWithin n)
  place-within op rows None all = tt
  place-within op rows (Some place) all = at-within op (slice_get rows place) (IfSome-slice_get (HasRowsWithin n) rows place all)

  unlisted-within : (op : Op) → IsRowWithin n (row_unlisted op)
  unlisted-within (Set name) = tt
  unlisted-within (Get name) = by (is_place_among AVAILABLE name)
    where
      by : (b : Bool) → IsRowWithin n (cond b Default Forbidden)
      by true = tt
      by false = tt

  public-within : (places : List ℕ) (name : Name) → IfSome (cond (is_place_among places name) (Some Public) None) (IsRowWithin n)
  public-within places name = by (is_place_among places name)
    where
      by : (b : Bool) → IfSome (cond b (Some Public) None) (IsRowWithin n)
      by true = tt
      by false = tt

  listed-within : (t : Tables) (tag : ClassTag) (op : Op) → All (HasRowsWithin n) t.rows → IfSome (listed t tag op) (IsRowWithin n)
  listed-within t (Declared name) op all = place-within op t.rows (class_place t.places name) all
  listed-within t ListTag (Get name) all = public-within (public_places ListTag) name
  listed-within t Tuple (Get name) all = public-within (public_places Tuple) name
  listed-within t Dict (Get name) all = public-within (public_places Dict) name
  listed-within t Function (Get name) all = public-within (public_places Function) name
  listed-within t Method (Get name) all = public-within (public_places Method) name
  listed-within t Class (Get name) all = public-within (public_places Class) name
  listed-within t Other (Get name) all = public-within (public_places Other) name
  listed-within t ListTag (Set name) all = tt
  listed-within t Tuple (Set name) all = tt
  listed-within t Dict (Set name) all = tt
  listed-within t Function (Set name) all = tt
  listed-within t Method (Set name) all = tt
  listed-within t Class (Set name) all = tt
  listed-within t Other (Set name) all = tt

  -- where the rows of each class are, so is each row of the checkers
  pub rows-within : (t : Tables) → All (HasRowsWithin n) t.rows → AreRowsWithin n t
  rows-within t all tag op = by (listed t tag op) (listed-within t tag op all)
    where
      by : (o : Option Row) → IfSome o (IsRowWithin n) → IsRowWithin n (unwrap_or o (row_unlisted op))
      by None within = unlisted-within op
      by (Some r) within = within

-- the row of a class's own
own-within : (plan : Plan) (place : ℕ) (op : Op) → AreClassesWithin plan → IfSome (own_row plan place op) (IsRowWithin (length plan.permissions))
own-within plan place op classes = by (slice_get plan.classes place) (IfSome-slice_get (IsClassWithin (length plan.permissions)) plan.classes place classes.each)
  where
    needing : (o : Option Perm) → IfSome o (λ p. p.0 < length plan.permissions) → IfSome (option_map (row_needing plan.permissions) o) (IsRowWithin (length plan.permissions))
    needing None inside = tt
    needing (Some p) inside = needing-within (length plan.permissions) plan.permissions p inside

    by : (o : Option ClassDecl) → IfSome o (IsClassWithin (length plan.permissions)) → IfSome (option_and_then (λ c. option_map (row_needing plan.permissions) (own_permission op c)) o) (IsRowWithin (length plan.permissions))
    by None within = tt
    by (Some c) within = needing (own_permission op c) (permission-within (length plan.permissions) op c within)

-- rows made of a class over others
pub made-within : (plan : Plan) (place : ℕ) (rows : List ClassRows) (r : ClassRows) → AreClassesWithin plan
    → ((op : Op) → row_at op r ≡ option_or (own_row plan place op) (option_and_then (λ like. option_and_then (row_at op) (slice_get rows like)) (like_place plan place)))
    → HaveRowsWithin (length plan.permissions) rows → HaveRowsWithin (length plan.permissions) (set rows place r)
made-within plan place rows r classes made old =
    let n = length plan.permissions in
    record {
      each = All-set (HasRowsWithin n) rows place r (λ op. rw (made op) (or-within n _ _ (own-within plan place op classes) (place-within n op rows (like_place plan place) old.each))) old.each;
    }

-- no rows at all
none-within : (n : ℕ) (r : ClassRows) → r.get ≡ [] → r.set ≡ [] → HasRowsWithin n r
none-within n r get set (Get name) = rw get tt
none-within n r get set (Set name) = rw set tt

pub none-more : (n : ℕ) (rows : List ClassRows) (r : ClassRows) → r.get ≡ [] → r.set ≡ [] → HaveRowsWithin n rows → HaveRowsWithin n (rows ++ r ∷ [])
none-more n rows r get set old = record { each = All-push (HasRowsWithin n) rows r old.each (none-within n r get set) }

pub stands : (rows : List ClassRows) (place : ℕ) → place < length rows → IsSome (slice_get rows place)
stands [] place inside = absurd (omega arith)
stands (r ∷ rows) zero inside = refl
stands (r ∷ rows) (suc place) inside = stands rows place (omega arith)
