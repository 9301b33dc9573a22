-- Checkers whose rows are those of the classes answer as the declarations say.
use Rattle.std.proofs.Common.{◌≡◌, refl, sym, ap, subst, ◌∙◌, ℕ, zero, suc, ◌+◌, ◌<◌, ◌≤◌, ◌≢◌, ◌⊎◌, inl, inr, Bool, true, false, true≢false, cond, ◌||◌, List, [], ◌∷◌, ◌++◌, append_assoc, length, map, get_or, Option, Some, None, arith, nat_eq, eq-eqb}
use Rattle.std.specs.List.{All, filter, find, slice_get}
use Rattle.std.specs.Option.{IfSome, option_and_then, option_map, option_or}
use Rattle.std.specs.Map.{lookup}
use Rattle.std.proofs.lemmas.Bool.{cases_lt, eqb-true}
use Rattle.std.proofs.lemmas.List.{get_or-map, get_or_past, length-map, length_push}
use Rattle.std.proofs.lemmas.List.Elements.{All-head, All-tail}
use Rattle.std.proofs.lemmas.Option.{get_or_from_slice_get, slice_get-get_or, slice_get_within}
use Rattle.rp_base.specs.Names.{HoldsEachOnce}
use Rattle.rp_base.specs.Same.{same_text}
use Rattle.rp_base.specs.declared.value.Name.{Name}
use Rattle.rp_base.proofs.CallerLemmas.{nil-rest, same_text-equal, same_text-refl}
use Rattle.rp_decl.specs.Places.{IsClassHeld, IsHeld}
use Rattle.rp_decl.specs.Records.{Class, Declarations}
use Rattle.rp_decl.specs.View.{Placed, class_view, declarations_view, name_text, perm_text, row_text, text_at}
use Rattle.rp_decl.specs.declared.records.ClassDecl.{ClassDecl}
use Rattle.rp_decl.specs.declared.records.Perm.{Perm}
use Rattle.rp_decl.specs.Consistency.{class_named, class_names, comes_back, follow, is_on_ring, leads_to}
use Rattle.rp_decl.specs.Document.{public as zope_public}
use Rattle.rp_decl.specs.declared.row.Row.{Row}
use Rattle.rp_decl.specs.declared.row.Row.TheVariants.{Public, Needs}
use Rattle.rp_base.specs.declared.value.Op.{Op}
use Rattle.rp_base.specs.declared.value.Op.TheVariants.{Get, Set}
use Rattle.rp_checker.specs.Answers.{HasWords, IsForWord, IsReadWith, operation_view, row_view}
use Rattle.rp_checker.specs.Chain.{class_places, like_place, own_permission, row_needing, row_within}
use Rattle.rp_checker.specs.RowOf as text
use Rattle.rp_checker.specs.Lookup.{is_name}
use Rattle.rp_checker.specs.Plan.{Plan}
use Rattle.rp_checker.proofs.Plans.{numbered}
use Rattle.rp_checker.proofs.Rings.{HasNoRing, ahead, ahead-last}

text_stands : (names : List (List ℕ)) (i : ℕ) → i < length names → slice_get names i ≡ Some (text_at names i)
text_stands names i inside = slice_get-get_or names i [] inside

-- to compare words at places is to compare the places
pub same_text-places : (names : List (List ℕ)) (i j : ℕ) → HoldsEachOnce names → i < length names → j < length names → same_text (text_at names i) (text_at names j) ≡ nat_eq i j
same_text-places names i j once here there = by (nat_eq i j) refl (same_text (text_at names i) (text_at names j)) refl
  where
    by : (b : Bool) → nat_eq i j ≡ b → (s : Bool) → same_text (text_at names i) (text_at names j) ≡ s → s ≡ b
    by true e true t = refl
    by true e false t = let one : i ≡ j = eqb-true i j e in absurd (true≢false (sym (same_text-refl (text_at names i)) ∙ ap (λ k. same_text (text_at names i) (text_at names k)) one ∙ t))
    by false e false t = refl
    by false e true t =
        let equal : text_at names i ≡ text_at names j = same_text-equal _ _ t in
        let one : i ≡ j = once i j (text_at names i) (text_stands names i here) (text_stands names j there ∙ ap Some (sym equal)) in
        absurd (true≢false (sym (eq-eqb i j one) ∙ e))

-- the same where the first is at no place, and the second not empty
pub same_text-at : (names : List (List ℕ)) (i j : ℕ) → HoldsEachOnce names → j < length names → text_at names j ≢ [] → same_text (text_at names i) (text_at names j) ≡ nat_eq i j
same_text-at names i j once there some = elim (cases_lt i (length names)) [
  | inl here ↦ same_text-places names i j once here there
  | inr past ↦ by past (nat_eq i j) refl (same_text (text_at names i) (text_at names j)) refl
]
  where
    by : length names ≤ i → (b : Bool) → nat_eq i j ≡ b → (s : Bool) → same_text (text_at names i) (text_at names j) ≡ s → s ≡ b
    by past true e s t = let one : i ≡ j = eqb-true i j e in absurd (omega arith)
    by past false e true t = absurd (some (sym (same_text-equal _ _ t) ∙ get_or_past names i [] past))
    by past false e false t = refl

-- the permission of a name among rows
pub lookup-rows : (names permissions : List (List ℕ)) (name : Name) (rows : List (Name × Perm)) → HoldsEachOnce names → All (λ row. IsHeld names row.0) rows → All IsForWord (map (row_text names permissions) rows)
    → lookup (same_text (name_text names name)) (map (row_text names permissions) rows) ≡ option_map (perm_text permissions) (lookup (is_name name) rows)
lookup-rows names permissions name [] once held some = refl
lookup-rows names permissions name (row ∷ rows) once held some =
    let first = same_text-at names name.0 row.0.0 once (All-head (λ row. IsHeld names row.0) row rows held) (All-head IsForWord (row_text names permissions row) (map (row_text names permissions) rows) some) in
    let later = lookup-rows names permissions name rows once (All-tail (λ row. IsHeld names row.0) row rows held) (All-tail IsForWord (row_text names permissions row) (map (row_text names permissions) rows) some) in
    (λ k. cond (first k) (Some (perm_text permissions row.1)) (later k))
    ∙ by (is_name name row.0)
  where
    by : (b : Bool) → cond b (Some (perm_text permissions row.1)) (option_map (perm_text permissions) (lookup (is_name name) rows)) ≡ option_map (perm_text permissions) (cond b (Some row.1) (lookup (is_name name) rows))
    by true = refl
    by false = refl

-- the class of a name
pub find-classes : (names permissions : List (List ℕ)) (name : Name) (classes : List ClassDecl) → HoldsEachOnce names → IsHeld names name → All (IsClassHeld names) classes
    → find (λ c. same_text (name_text names name) c.name) (map (class_view names permissions) classes) ≡ option_map (class_view names permissions) (find (λ c. is_name name c.name) classes)
find-classes names permissions name [] once here held = refl
find-classes names permissions name (c ∷ classes) once here held =
    (λ k. cond (same_text-places names name.0 c.name.0 once here ((All-head (IsClassHeld names) c classes held).name) k) (Some (class_view names permissions c)) (find-classes names permissions name classes once here (All-tail (IsClassHeld names) c classes held) k))
    ∙ by (is_name name c.name)
  where
    by : (b : Bool) → cond b (Some (class_view names permissions c)) (option_map (class_view names permissions) (find (λ c. is_name name c.name) classes)) ≡ option_map (class_view names permissions) (cond b (Some c) (find (λ c. is_name name c.name) classes))
    by true = refl
    by false = refl

slice_get-middle : {X : Type 0} (front : List X) (x : X) (back : List X) → slice_get (front ++ x ∷ back) (length front) ≡ Some x
slice_get-middle [] x back = refl
slice_get-middle (y ∷ front) x back = slice_get-middle front x back

-- the class at the place of a name
pub found-numbered : (t : Name → Bool) (front classes : List ClassDecl) → option_and_then (slice_get (front ++ classes)) (lookup t (numbered (length front) classes)) ≡ find (λ c. t c.name) classes
found-numbered t front [] = refl
found-numbered t front (c ∷ classes) = by (t c.name) (found-numbered t (front ++ c ∷ []) classes)
  where
    by : (b : Bool) → option_and_then (slice_get ((front ++ c ∷ []) ++ classes)) (lookup t (numbered (length (front ++ c ∷ [])) classes)) ≡ find (λ c. t c.name) classes
        → option_and_then (slice_get (front ++ c ∷ classes)) (cond b (Some (length front)) (lookup t (numbered (length front + 1) classes))) ≡ cond b (Some c) (find (λ c. t c.name) classes)
    by true later = slice_get-middle front c classes
    by false later =
        let joined : front ++ c ∷ classes ≡ (front ++ c ∷ []) ++ classes = sym (append_assoc front (c ∷ []) classes) in
        let longer : length front + 1 ≡ length (front ++ c ∷ []) = sym (length_push front c) in
        (λ k. option_and_then (slice_get (joined k)) (lookup t (numbered (longer k) classes))) ∙ later

option_map-or : {A B : Type 0} (f : A → B) (a b : Option A) → option_map f (option_or a b) ≡ option_or (option_map f a) (option_map f b)
option_map-or f None b = refl
option_map-or f (Some x) b = refl

-- a row with a permission
row_needing-view : (permissions : List (List ℕ)) (p : Perm) → text.row_needing (perm_text permissions p) ≡ row_view permissions (row_needing permissions p)
row_needing-view permissions p = by (same_text (perm_text permissions p) zope_public)
  where
    by : (b : Bool) → cond b text.public (text.needs (perm_text permissions p)) ≡ row_view permissions (cond b Public (Needs p))
    by true = refl
    by false = refl

row_needing-views : (permissions : List (List ℕ)) (o : Option Perm) → option_map text.row_needing (option_map (perm_text permissions) o) ≡ option_map (row_view permissions) (option_map (row_needing permissions) o)
row_needing-views permissions None = refl
row_needing-views permissions (Some p) = ap Some (row_needing-view permissions p)

-- the plan of the classes with these places
abbrev pub plan_of : Placed → List (Name × ℕ) → Plan
plan_of d places = record { classes = d.classes; places = places; permissions = d.permissions }

module _ (names : List (List ℕ)) (d : Placed) (places : List (Name × ℕ)) (r : IsReadWith names d) (look : (name : Name) → lookup (is_name name) places ≡ lookup (is_name name) (class_places d.classes)) where
  pub held-at : (place : ℕ) (c : ClassDecl) → slice_get d.classes place ≡ Some c → IsClassHeld names c
  held-at place c e = rw (get_or_from_slice_get d.classes place c c e) at (r.held.classes place c (slice_get_within d.classes place c e))

  words-at : (place : ℕ) (c : ClassDecl) → slice_get d.classes place ≡ Some c → HasWords (class_view names d.permissions c)
  words-at place c e =
      let view : Class = class_view names d.permissions c in
      let inside : place < length d.classes = slice_get_within d.classes place c e in
      let as_many : length (map (class_view names d.permissions) d.classes) ≡ length d.classes = length-map d.classes (class_view names d.permissions) in
      let inside_views : place < length (map (class_view names d.permissions) d.classes) = omega arith in
      let its_view : get_or (map (class_view names d.permissions) d.classes) place view ≡ view =
      get_or-map (class_view names d.permissions) d.classes place c view inside
      ∙ ap (class_view names d.permissions) (get_or_from_slice_get d.classes place c c e) in
      subst HasWords its_view (r.words place view inside_views)

  pub class-named : (name : Name) → IsHeld names name
      → class_named (declarations_view names d) (name_text names name) ≡ option_map (class_view names d.permissions) (option_and_then (slice_get d.classes) (lookup (is_name name) places))
  class-named name here =
      find-classes names d.permissions name d.classes r.distinct here r.held.classes
      ∙ ap (option_map (class_view names d.permissions)) (sym (found-numbered (is_name name) [] d.classes) ∙ ap (option_and_then (slice_get d.classes)) (sym (look name)))

  own-agrees : (c : ClassDecl) (op : Op) → IsClassHeld names c → HasWords (class_view names d.permissions c)
      → option_map text.row_needing (text.own_permission (class_view names d.permissions c) (operation_view names op)) ≡ option_map (row_view d.permissions) (option_map (row_needing d.permissions) (own_permission op c))
  own-agrees c (Get name) held words = ap (option_map text.row_needing) (lookup-rows names d.permissions name c.get.items r.distinct held.get words.get) ∙ row_needing-views d.permissions (lookup (is_name name) c.get.items)
  own-agrees c (Set name) held words = ap (option_map text.row_needing) (lookup-rows names d.permissions name c.set.items r.distinct held.set words.set) ∙ row_needing-views d.permissions (lookup (is_name name) c.set.items)

  -- what the declarations say over so many classes, and what is made of it
  abbrev said : ℕ → Op → List ℕ → Option text.Row
  said n op name = option_map text.row_needing (text.permission_within (declarations_view names d) n name (operation_view names op))

  abbrev made : ℕ → Op → Option ℕ → Option text.Row
  made n op place = option_map (row_view d.permissions) (option_and_then (λ q. row_within (plan_of d places) n q op) place)

  -- the places that a class's like and a place's class lead to
  abbrev like_of : Option Name → Option ℕ
  like_of like = option_and_then (λ name. lookup (is_name name) places) like

  abbrev row_over : ℕ → Op → Option ClassDecl → Option Row
  row_over n op o = option_or (option_and_then (λ c. option_map (row_needing d.permissions) (own_permission op c)) o) (option_and_then (λ q. row_within (plan_of d places) n q op) (option_and_then (λ c. like_of c.like) o))

  abbrev permission_over : ℕ → Op → Class → Option (List ℕ)
  permission_over n op c = option_or (text.own_permission c (operation_view names op)) (option_and_then (λ like. text.permission_within (declarations_view names d) n like (operation_view names op)) c.like)

  abbrev Agrees : ℕ → Op → Type 0
  Agrees n op = (name : Name) → IsHeld names name → said n op (name_text names name) ≡ made n op (lookup (is_name name) places)

  like-agrees : (n : ℕ) (op : Op) (like : Option Name) → IfSome like (IsHeld names) → Agrees n op
      → option_map text.row_needing (option_and_then (λ l. text.permission_within (declarations_view names d) n l (operation_view names op)) (option_map (name_text names) like)) ≡ made n op (like_of like)
  like-agrees n op None held later = refl
  like-agrees n op (Some l) held later = later l held

  class-agrees : (n : ℕ) (op : Op) (c : ClassDecl) → IsClassHeld names c → HasWords (class_view names d.permissions c) → Agrees n op
      → option_map text.row_needing (permission_over n op (class_view names d.permissions c)) ≡ option_map (row_view d.permissions) (row_over n op (Some c))
  class-agrees n op c held words later =
      option_map-or text.row_needing _ _
      ∙ (λ k. option_or (own-agrees c op held words k) (like-agrees n op c.like held.like later k))
      ∙ sym (option_map-or (row_view d.permissions) _ _)

  place-agrees : (n : ℕ) (op : Op) (place : ℕ) → Agrees n op
      → option_map text.row_needing (option_and_then (permission_over n op) (option_map (class_view names d.permissions) (slice_get d.classes place))) ≡ option_map (row_view d.permissions) (row_within (plan_of d places) (suc n) place op)
  place-agrees n op place later = by (slice_get d.classes place) refl
    where
      by : (o : Option ClassDecl) → slice_get d.classes place ≡ o → option_map text.row_needing (option_and_then (permission_over n op) (option_map (class_view names d.permissions) o)) ≡ option_map (row_view d.permissions) (row_over n op o)
      by None e = refl
      by (Some c) e =
          class-agrees n op c (held-at place c e) (words-at place c e) later

  -- following `like` from name to name, and from place to place
  pub within-agrees : (n : ℕ) (op : Op) (name : Name) → IsHeld names name → said n op (name_text names name) ≡ made n op (lookup (is_name name) places)
  within-agrees zero op name here = by (lookup (is_name name) places)
    where
      by : (o : Option ℕ) → None ≡ option_map (row_view d.permissions) (option_and_then (λ q. None) o)
      by None = refl
      by (Some q) = refl
  within-agrees (suc n) op name here =
      ap (λ o. option_map text.row_needing (option_and_then (permission_over n op) o)) (class-named name here) ∙ by (lookup (is_name name) places) (within-agrees n op)
    where
      by : (o : Option ℕ) → Agrees n op → option_map text.row_needing (option_and_then (permission_over n op) (option_map (class_view names d.permissions) (option_and_then (slice_get d.classes) o))) ≡ made (suc n) op o
      by None later = refl
      by (Some q) later = place-agrees n op q later

find-passes : {X : Type 0} (p : X → Bool) (xs : List X) (x : X) → find p xs ≡ Some x → p x ≡ true
find-passes p [] x e = cc
find-passes {X} p (y ∷ xs) x e = by (p y) refl (find-passes p xs x) e
  where
    by : (b : Bool) → p y ≡ b → (find p xs ≡ Some x → p x ≡ true) → cond b (Some y) (find p xs) ≡ Some x → p x ≡ true
    by true here later e = let same : x ≡ y = cc in ap p same ∙ here
    by false here later e = later e

pub filter-none : {X : Type 0} (p : X → Bool) (xs : List X) → filter p xs ≡ [] → (k : ℕ) (d : X) → k < length xs → p (get_or xs k d) ≡ false
filter-none p [] e k d inside = absurd (omega arith)
filter-none {X} p (x ∷ xs) e k d inside = by (p x) refl (filter-none p xs) e k inside
  where
    by : (b : Bool) → p x ≡ b → (filter p xs ≡ [] → (k : ℕ) (d : X) → k < length xs → p (get_or xs k d) ≡ false) → cond b (x ∷ filter p xs) (filter p xs) ≡ [] → (k : ℕ) → k < suc (length xs) → p (get_or (x ∷ xs) k d) ≡ false
    by true here later e k inside = cc
    by false here later e zero inside = here
    by false here later e (suc k) inside = later e k d (omega arith)

pub comes_back-follows : (d : Declarations) (m n : ℕ) (t : List ℕ) → n < m → follow d (suc n) t ≡ Some t → comes_back d m t ≡ true
comes_back-follows d zero n t few e = absurd (omega arith)
comes_back-follows d (suc m) n t few e = by (cases_lt n m) (λ low. comes_back-follows d m n t low e)
  where
    or_true : (b : Bool) → (b || true) ≡ true
    or_true true = refl
    or_true false = refl

    by : (n < m) ⊎ (m ≤ n) → (n < m → comes_back d m t ≡ true) → (leads_to t (follow d (suc m) t) || comes_back d m t) ≡ true
    by (inl low) later = ap (λ b. leads_to t (follow d (suc m) t) || b) (later low) ∙ or_true (leads_to t (follow d (suc m) t))
    by (inr high) later =
        let last : m ≡ n = omega arith in
        ap (λ k. leads_to t (follow d (suc k) t) || comes_back d m t) last ∙ ap (λ o. leads_to t o || comes_back d m t) e ∙ ap (λ b. b || comes_back d m t) (same_text-refl t)

module _ (names : List (List ℕ)) (d : Placed) (places : List (Name × ℕ)) (r : IsReadWith names d) (look : (name : Name) → lookup (is_name name) places ≡ lookup (is_name name) (class_places d.classes)) where
  abbrev Named : Name → ℕ → Type 0
  Named name place = lookup (is_name name) places ≡ Some place

  -- the class at the place of a name has this name
  named-one : (name : Name) (place : ℕ) (c : ClassDecl) → Named name place → slice_get d.classes place ≡ Some c → name.0 ≡ c.name.0
  named-one name place c here e =
      let found : option_and_then (slice_get d.classes) (lookup (is_name name) places) ≡ find (λ c. is_name name c.name) d.classes =
      ap (option_and_then (slice_get d.classes)) (look name) ∙ found-numbered (is_name name) [] d.classes in
      let at_place : find (λ c. is_name name c.name) d.classes ≡ Some c = sym found ∙ ap (option_and_then (slice_get d.classes)) here ∙ e in
      eqb-true name.0 c.name.0 (find-passes (λ c. is_name name c.name) d.classes c at_place)

  abbrev Follows : ℕ → ℕ → ClassDecl → Type 0
  Follows k last c =
      (name : Name) (place : ℕ) → IsHeld names name → Named name place → ahead (plan_of d places) k place ≡ Some last
      → follow (declarations_view names d) k (name_text names name) ≡ Some (name_text names c.name)

  follow-like : (k last : ℕ) (c : ClassDecl) (like : Option Name) → IfSome like (IsHeld names) → Follows k last c
      → option_and_then (ahead (plan_of d places) k) (option_and_then (λ name. lookup (is_name name) places) like) ≡ Some last
      → option_and_then (follow (declarations_view names d) k) (option_map (name_text names) like) ≡ Some (name_text names c.name)
  follow-like k last c None held later e = cc
  follow-like k last c (Some l) held later e = by (lookup (is_name l) places) refl e
    where
      by : (o : Option ℕ) → lookup (is_name l) places ≡ o → option_and_then (ahead (plan_of d places) k) o ≡ Some last → follow (declarations_view names d) k (name_text names l) ≡ Some (name_text names c.name)
      by None here e = cc
      by (Some q) here e = later l q held here e

  follow-class : (k place last : ℕ) (c : ClassDecl) (o : Option ClassDecl) → slice_get d.classes place ≡ o → Follows k last c
      → option_and_then (ahead (plan_of d places) k) (option_and_then (λ c. option_and_then (λ name. lookup (is_name name) places) c.like) o) ≡ Some last
      → option_and_then (λ c. option_and_then (follow (declarations_view names d) k) c.like) (option_map (class_view names d.permissions) o) ≡ Some (name_text names c.name)
  follow-class k place last c None found later e = cc
  follow-class k place last c (Some b) found later e = follow-like k last c b.like (held-at names d places r look place b found).like later e

  -- the names that `like` leads to, from the places
  follow-ahead : (k last : ℕ) (c : ClassDecl) → slice_get d.classes last ≡ Some c → Follows k last c
  follow-ahead zero last c found name place held here e =
      let same : place ≡ last = cc in
      ap (λ n. Some (text_at names n)) (named-one name place c here (ap (slice_get d.classes) same ∙ found))
  follow-ahead (suc k) last c found name place held here e =
      ap (option_and_then (λ c. option_and_then (follow (declarations_view names d) k) c.like))
      (class-named names d places r look name held ∙ ap (λ o. option_map (class_view names d.permissions) (option_and_then (slice_get d.classes) o)) here)
      ∙ follow-class k place last c (slice_get d.classes place) refl (follow-ahead k last c found) e

  -- a class that comes back stands on a ring
  returns-on_ring : (n place : ℕ) (name : Name) (c : ClassDecl) → n < length d.classes → IsHeld names name → Named name place → slice_get d.classes place ≡ Some c → ahead (plan_of d places) (suc n) place ≡ Some place
      → is_on_ring (declarations_view names d) (name_text names c.name) ≡ true
  returns-on_ring n place name c few held here found e =
      let goes : follow (declarations_view names d) (suc n) (name_text names name) ≡ Some (name_text names c.name) = follow-ahead (suc n) place c found name place held here e in
      let one : name_text names name ≡ name_text names c.name = ap (text_at names) (named-one name place c here found) in
      let back : follow (declarations_view names d) (suc n) (name_text names c.name) ≡ Some (name_text names c.name) = ap (follow (declarations_view names d) (suc n)) (sym one) ∙ goes in
      let as_many : length (map (class_view names d.permissions) d.classes) ≡ length d.classes = length-map d.classes (class_view names d.permissions) in
      comes_back-follows (declarations_view names d) (length (map (class_view names d.permissions) d.classes)) n (name_text names c.name) (omega arith) back

  -- no class stands on a ring
  off_ring : (place : ℕ) (c : ClassDecl) → slice_get d.classes place ≡ Some c → is_on_ring (declarations_view names d) (name_text names c.name) ≡ false
  off_ring place c found =
      let inside : place < length d.classes = slice_get_within d.classes place c found in
      let as_many : length (map (class_view names d.permissions) d.classes) ≡ length d.classes = length-map d.classes (class_view names d.permissions) in
      let as_many_names : length (class_names (declarations_view names d)) ≡ length (map (class_view names d.permissions) d.classes) = length-map (map (class_view names d.permissions) d.classes) (λ c. c.name) in
      let inside_views : place < length (map (class_view names d.permissions) d.classes) = omega arith in
      let its_name : get_or (class_names (declarations_view names d)) place [] ≡ name_text names c.name =
      get_or-map (λ c. c.name) (map (class_view names d.permissions) d.classes) place (class_view names d.permissions c) [] inside_views
      ∙ ap (λ c. c.name) (get_or-map (class_view names d.permissions) d.classes place c (class_view names d.permissions c) inside)
      ∙ ap (λ c. name_text names c.name) (get_or_from_slice_get d.classes place c c found) in
      let none : filter (is_on_ring (declarations_view names d)) (class_names (declarations_view names d)) ≡ [] = nil-rest _ _ r.consistent.classes_declared in
      ap (is_on_ring (declarations_view names d)) (sym its_name) ∙ filter-none (is_on_ring (declarations_view names d)) (class_names (declarations_view names d)) none place [] (omega arith)

  -- the name by which a class was led to
  led-by : (n place : ℕ) (o : Option ℕ) → n < length d.classes → ahead (plan_of d places) n place ≡ o → option_and_then (like_place (plan_of d places)) o ≡ Some place → ahead (plan_of d places) (suc n) place ≡ Some place → ⊥
  led-by n place None few e back round = cc
  led-by n place (Some q) few e back round = at_class (slice_get d.classes q) refl back
    where
      at_name : (c : ClassDecl) (o : Option ClassDecl) (like : Option Name) → IfSome like (IsHeld names) → slice_get d.classes place ≡ o → option_and_then (λ name. lookup (is_name name) places) like ≡ Some place → ⊥
      at_name c None like held found back =
          let alone : like_place (plan_of d places) place ≡ None = ap (option_and_then (λ c. option_and_then (λ name. lookup (is_name name) places) c.like)) found in
          let stops : None ≡ Some place = sym (ap (option_and_then (ahead (plan_of d places) n)) alone) ∙ round in
          cc
      at_name c (Some b) None held found back = cc
      at_name c (Some b) (Some l) held found back = true≢false (sym (returns-on_ring n place l b few held back found round) ∙ off_ring place b found)

      at_class : (o : Option ClassDecl) → slice_get d.classes q ≡ o → option_and_then (λ c. option_and_then (λ name. lookup (is_name name) places) c.like) o ≡ Some place → ⊥
      at_class None found back = cc
      at_class (Some c) found back = at_name c (slice_get d.classes place) c.like (held-at names d places r look q c found).like refl back

  pub has-no-ring : HasNoRing (plan_of d places)
  has-no-ring = record {
    no_return = λ n place few inside round. led-by n place (ahead (plan_of d places) n place) few refl (sym (ahead-last (plan_of d places) n place) ∙ round) round;
  }
