-- What was read into names stands for the same where other names follow.
use Rattle.std.proofs.Common.{◌≡◌, ℕ, ◌+◌, List, [], ◌∷◌, length, map, get_or, slice_get, Option, Some, None, option_map, refl, ap, ◌∙◌, arith}
use Rattle.std.specs.List.{All}
use Rattle.std.specs.Option.{IfSome}
use Rattle.std.proofs.lemmas.List.{length-append}
use Rattle.std.proofs.lemmas.List.Elements.{All-head, All-tail}
use Rattle.std.proofs.lemmas.Option.{get_or_from_slice_get, slice_get-get_or}
use Rattle.rp_base.specs.declared.value.Name.{Name}
use Rattle.rp_decl.specs.Places.{GrowsTo, IsClassHeld, IsHeld, IsHeldBy, IsObjectHeld}
use Rattle.rp_decl.specs.View.{Placed, class_view, declarations_view, field_view, name_text, object_view, perm_text, row_text}
use Rattle.rp_decl.specs.declared.records.ClassDecl.{ClassDecl}
use Rattle.rp_decl.specs.declared.records.Field.{Field}
use Rattle.rp_decl.specs.declared.records.ObjectDecl.{ObjectDecl}
use Rattle.rp_decl.specs.declared.records.Perm.{Perm}
use Rattle.rp_decl.proofs.Growth.{slice_get-append}

pub map-agree : {X Y : Type 0} (f g : X → Y) (P : X → Type 0) (xs : List X) → ((x : X) → P x → f x ≡ g x) → All P xs → map f xs ≡ map g xs
map-agree f g P [] agree all = refl
map-agree f g P (x ∷ xs) agree all =
    let head = agree x (All-head P x xs all) in
    let tail = map-agree f g P xs agree (All-tail P x xs all) in
    λ k. head k ∷ tail k

module _ (names later : List (List ℕ)) (grown : GrowsTo names later) where
  pub name-later : (name : Name) → IsHeld names name → name_text later name ≡ name_text names name
  name-later name held =
      let (more, is) = grown in
      let found : slice_get later name.0 ≡ Some (name_text names name) = rw is (slice_get-append names more name.0 (name_text names name) (slice_get-get_or names name.0 [] held)) in
      get_or_from_slice_get later name.0 (name_text names name) [] found

  pub name-held-later : (name : Name) → IsHeld names name → IsHeld later name
  name-held-later name held =
      let (more, is) = grown in
      let longer : length later ≡ length names + length more = ap length is ∙ length-append names more in
      omega arith

  like-later : (like : Option Name) → IfSome like (IsHeld names) → option_map (name_text later) like ≡ option_map (name_text names) like
  like-later None held = refl
  like-later (Some name) held = ap Some (name-later name held)

  like-held-later : (like : Option Name) → IfSome like (IsHeld names) → IfSome like (IsHeld later)
  like-held-later None held = held
  like-held-later (Some name) held = name-held-later name held

  rows-later : (permissions : List (List ℕ)) (rows : List (Name × Perm)) → All (λ row. IsHeld names row.0) rows → map (row_text later permissions) rows ≡ map (row_text names permissions) rows
  rows-later permissions rows held =
      map-agree (row_text later permissions) (row_text names permissions) (λ row. IsHeld names row.0) rows (λ row here. ap (λ t. (t, perm_text permissions row.1)) (name-later row.0 here)) held

  class-later : (permissions : List (List ℕ)) (c : ClassDecl) → IsClassHeld names c → class_view later permissions c ≡ class_view names permissions c
  class-later permissions c held =
      let name = name-later c.name held.name in
      let like = like-later c.like held.like in
      let get = rows-later permissions c.get.items held.get in
      let set = rows-later permissions c.set.items held.set in
      λ k. record { name = name k; like = like k; get = get k; set = set k }

  object-later : (o : ObjectDecl) → IsObjectHeld names o → object_view later o ≡ object_view names o
  object-later o held =
      let name = name-later o.name held.name in
      let class = name-later o.class held.class in
      let fields = map-agree (λ (f : Name × Field). (name_text later f.0, field_view f.1)) (λ (f : Name × Field). (name_text names f.0, field_view f.1)) (λ f. IsHeld names f.0) o.fields.items (λ f here. ap (λ t. (t, field_view f.1)) (name-later f.0 here)) held.fields in
      λ k. record { name = name k; class = class k; fields = fields k }

  pub declarations-later : (d : Placed) → IsHeldBy names d → declarations_view later d ≡ declarations_view names d
  declarations-later d held =
      let expose = map-agree (name_text later) (name_text names) (IsHeld names) d.expose name-later held.expose in
      let classes = map-agree (class_view later d.permissions) (class_view names d.permissions) (IsClassHeld names) d.classes (class-later d.permissions) held.classes in
      let objects = map-agree (object_view later) (object_view names) (IsObjectHeld names) d.objects object-later held.objects in
      λ k. record (declarations_view names d) { expose = expose k; classes = classes k; objects = objects k }

  class-held-later : (c : ClassDecl) → IsClassHeld names c → IsClassHeld later c
  class-held-later c held = record {
    name = name-held-later c.name held.name;
    like = like-held-later c.like held.like;
    get = λ k d within. name-held-later (get_or c.get.items k d).0 (held.get k d within);
    set = λ k d within. name-held-later (get_or c.set.items k d).0 (held.set k d within);
  }

  object-held-later : (o : ObjectDecl) → IsObjectHeld names o → IsObjectHeld later o
  object-held-later o held = record {
    name = name-held-later o.name held.name;
    class = name-held-later o.class held.class;
    fields = λ k d within. name-held-later (get_or o.fields.items k d).0 (held.fields k d within);
  }

  pub held-later : (d : Placed) → IsHeldBy names d → IsHeldBy later d
  held-later d held = record {
    expose = λ k x within. name-held-later (get_or d.expose k x) (held.expose k x within);
    classes = λ k x within. class-held-later (get_or d.classes k x) (held.classes k x within);
    objects = λ k x within. object-held-later (get_or d.objects k x) (held.objects k x within);
  }
