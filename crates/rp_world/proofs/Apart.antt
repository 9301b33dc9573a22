-- The names of the fields of an object differ.
use Rattle.std.proofs.Common.{◌≡◌, ℕ, Bool, true, false, List, [], ◌∷◌, map, Less, Equal, refl, sym, ap, ◌∙◌, arith}
use Rattle.std.specs.List.{All, AllByRecursion, IsDistinct}
use Rattle.std.specs.List.Sorted.{IsStrictlySortedBy}
use Rattle.std.specs.Map.{keys_of}
use Rattle.std.proofs.lemmas.Bool.Decides.{nat_tests}
use Rattle.std.proofs.lemmas.Cmp.{tied_itself}
use Rattle.std.proofs.lemmas.List.Elements.{All-cons, All-head, All-tail}
use Rattle.rp_base.specs.declared.value.Name.{Name}
use Rattle.rp_decl.specs.InOrder.{AreAscending, IsObjectInOrder}
use Rattle.rp_decl.specs.Order.{text_cmp}
use Rattle.rp_decl.specs.Records.{Field as DeclaredField}
use Rattle.rp_decl.specs.View.{field_view, name_text, object_view}
use Rattle.rp_decl.specs.declared.records.Field.{Field}
use Rattle.rp_decl.specs.declared.records.ObjectDecl.{ObjectDecl}
use Rattle.rp_decl.proofs.Orders.{text_cmp_total}
use Rattle.rp_store.specs.Key.{same_name}

same-place : (m n : Name) → same_name m n ≡ true → m.0 ≡ n.0
same-place m n h = grind (arith, nat_tests)

-- names whose texts ascend differ
pub apart-ascending : (names : List (List ℕ)) (xs : List (Name × Field)) → AreAscending (map (λ (f : List ℕ × DeclaredField). f.0) (map (λ (f : Name × Field). (name_text names f.0, field_view f.1)) xs)) → IsDistinct same_name (keys_of xs)
unfolding IsDistinct IsStrictlySortedBy
apart-ascending names [] up = tt
apart-ascending names (x ∷ xs) up = (others xs up.0, apart-ascending names xs up.1)
  where
    other : (y : Name) → text_cmp (name_text names x.0) (name_text names y) ≡ Less → (b : Bool) → same_name x.0 y ≡ b → same_name x.0 y ≡ false
    other y less false e = e
    other y less true e =
        let one : name_text names x.0 ≡ name_text names y = ap (λ n. name_text names (record { 0 = n })) (same-place x.0 y e) in
        let equal : text_cmp (name_text names x.0) (name_text names y) ≡ Equal = ap (text_cmp (name_text names x.0)) (sym one) ∙ tied_itself text_cmp_total (name_text names x.0) in
        cc

    others : (ys : List (Name × Field)) → AllByRecursion (λ t. text_cmp (name_text names x.0) t ≡ Less) (map (λ (f : List ℕ × DeclaredField). f.0) (map (λ (f : Name × Field). (name_text names f.0, field_view f.1)) ys)) → AllByRecursion (λ y. same_name x.0 y ≡ false) (keys_of ys)
    others [] up = tt
    others (y ∷ ys) up = (other y.0 up.0 (same_name x.0 y.0) refl, others ys up.1)

abbrev pub AreApart : ObjectDecl → Type 0
AreApart o = IsDistinct same_name (keys_of o.fields.items)

pub apart-objects : (names : List (List ℕ)) (os : List ObjectDecl) → All IsObjectInOrder (map (object_view names) os) → All AreApart os
apart-objects names [] ordered = λ k d within. absurd (omega arith)
apart-objects names (o ∷ os) ordered =
    let head = All-head IsObjectInOrder (object_view names o) (map (object_view names) os) ordered in
    let tail = All-tail IsObjectInOrder (object_view names o) (map (object_view names) os) ordered in
    All-cons AreApart o os (apart-ascending names o.fields.items head.names) (apart-objects names os tail)
