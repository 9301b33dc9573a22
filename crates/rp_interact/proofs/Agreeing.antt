-- What the rules find by places is what they find by texts.
use Rattle.std.proofs.Common.{◌≡◌, refl, sym, ap, ◌∙◌, ℕ, zero, suc, ◌<◌, Bool, true, false, cond, ◌||◌, List, [], ◌∷◌, map, filter, length, Option, Some, None, is_some, arith, nat_eq, nat_lt, eq-eqb, find}
use Rattle.std.specs.List.{All, list_any, slice_get}
use Rattle.std.specs.Option.{ForSome, option_and_then, option_map, option_map_or}
use Rattle.std.proofs.lemmas.List.{get_or-map, length-map}
use Rattle.std.proofs.lemmas.List.Elements.{All-cons, All-head, All-nil, All-tail}
use Rattle.std.proofs.lemmas.Option.{get_or_from_slice_get, slice_get_within}
use Rattle.std.proofs.Math.Bool.{or-true}
use Rattle.rp_base.specs.Same.{same_text}
use Rattle.rp_decl.specs.InOrder.{AreAscending, AreInOrder}
use Rattle.rp_decl.specs.Order.{least}
use Rattle.rp_decl.specs.Places.{AreBelow, ArePerms, IsGroupWithin, IsRoleWithin}
use Rattle.rp_decl.specs.Records.{Group}
use Rattle.rp_decl.specs.View.{Placed, declarations_view, group_ids, group_view, perm_text, role_ids, role_view, text_at}
use Rattle.rp_decl.specs.Word.{is_among}
use Rattle.rp_decl.specs.declared.records.GroupDecl.{GroupDecl}
use Rattle.rp_decl.specs.declared.records.Perm.{Perm}
use Rattle.rp_decl.specs.declared.records.RoleDecl.{RoleDecl}
use Rattle.rp_interact.specs.Answers.{reason_view}
use Rattle.rp_interact.specs.Granted.{GroupGranted, group_granted, group_role, is_in, least_allowing, least_denying, least_role, least_with_role, permissions_of, role_at, role_granted}
use Rattle.rp_interact.specs.Least.{least_of, least_place, lower}
use Rattle.rp_interact.specs.Why as text
use Rattle.rp_interact.specs.declared.reason.Reason.TheVariants.{GroupRole}
use Rattle.rp_interact.proofs.Keeping.{one_place}
use Rattle.rp_interact.proofs.Leasts.{nat_eq-swap}
use Rattle.rp_interact.proofs.Naming.{find-map}
use Rattle.rp_interact.proofs.Orders.{find-at, least-places, same_text-places}
use Rattle.rp_base.proofs.CallerLemmas.{is_some-option_map}

one-more : {X : Type 0} (ids : List (List ℕ)) (made : ℕ → X) (place : X → ℕ) (q : ℕ) (texts : List (List ℕ)) (xs : List X) (b : Bool) → place (made q) ≡ q → q < length ids
    → (texts ≡ map (text_at ids) (map place xs)) × All (λ q. q < length ids) (map place xs)
    → (cond b (text_at ids q ∷ texts) texts ≡ map (text_at ids) (map place (cond b (made q ∷ xs) xs))) × All (λ q. q < length ids) (map place (cond b (made q ∷ xs) xs))
one-more ids made place q texts xs true stands here rest =
    let back : q ≡ place (made q) = sym stands in
    ((λ k. text_at ids (back k) ∷ rest.0 k), All-cons (λ q. q < length ids) (place (made q)) (map place xs) (rw stands here) rest.1)
one-more ids made place q texts xs false stands here rest = rest

filtered : {X : Type 0} (ids : List (List ℕ)) (passes : List ℕ → Bool) (made : ℕ → X) (place : X → ℕ) (test : X → Bool) (places : List ℕ)
    → ((q : ℕ) → place (made q) ≡ q) → ((q : ℕ) → q < length ids → passes (text_at ids q) ≡ test (made q)) → All (λ q. q < length ids) places
    → (filter passes (map (text_at ids) places) ≡ map (text_at ids) (map place (filter test (map made places)))) × All (λ q. q < length ids) (map place (filter test (map made places)))
filtered ids passes made place test [] stands agree within = (refl, All-nil _)
filtered ids passes made place test (q ∷ places) stands agree within =
    let here = All-head (λ q. q < length ids) q places within in
    let rest = filtered ids passes made place test places stands agree (All-tail (λ q. q < length ids) q places within) in
    let more = one-more ids made place q (filter passes (map (text_at ids) places)) (filter test (map made places)) (test (made q)) (stands q) here rest in
    (ap (λ b. cond b (text_at ids q ∷ filter passes (map (text_at ids) places)) (filter passes (map (text_at ids) places))) (agree q here) ∙ more.0, more.1)

-- the least of the ids that pass is the one at the least place that passes
pub least-agrees : {X : Type 0} (ids : List (List ℕ)) (passes : List ℕ → Bool) (made : ℕ → X) (place : X → ℕ) (test : X → Bool) (places : List ℕ) → AreAscending ids
    → ((q : ℕ) → place (made q) ≡ q) → ((q : ℕ) → q < length ids → passes (text_at ids q) ≡ test (made q)) → All (λ q. q < length ids) places
    → (least (filter passes (map (text_at ids) places)) ≡ option_map (text_at ids) (least_of test place (map made places))) × ForSome (least_of test place (map made places)) (λ q. q < length ids)
least-agrees ids passes made place test places ascending stands agree within =
    let kept = filtered ids passes made place test places stands agree within in
    let found = least-places ids (map place (filter test (map made places))) ascending kept.1 in
    (ap least kept.0 ∙ found.0, found.1)

-- a permission is among some by its text where it is by its place
pub is_among-places : (permissions : List (List ℕ)) (ps : List Perm) (p : Perm) → AreAscending permissions → ArePerms (length permissions) ps → p.0 < length permissions
    → is_among (map (perm_text permissions) ps) (perm_text permissions p) ≡ is_in ps p
is_among-places permissions [] p ascending within here = refl
is_among-places permissions (q ∷ ps) p ascending within here =
    let first = same_text-places permissions p.0 q.0 ascending here (All-head (λ q. q.0 < length permissions) q ps within) ∙ nat_eq-swap p.0 q.0 in
    λ k. first k || is_among-places permissions ps p ascending (All-tail (λ q. q.0 < length permissions) q ps within) here k

-- the ids of the records
role-ids : (permissions : List (List ℕ)) (roles : List RoleDecl) → map (λ r. r.id) (map (role_view permissions) roles) ≡ map (λ r. r.id) roles
role-ids permissions [] = refl
role-ids permissions (r ∷ roles) = ap (λ ids. r.id ∷ ids) (role-ids permissions roles)

group-ids : (permissions ids : List (List ℕ)) (groups : List GroupDecl) → map (λ g. g.id) (map (group_view permissions ids) groups) ≡ map (λ g. g.id) groups
group-ids permissions ids [] = refl
group-ids permissions ids (g ∷ groups) = ap (λ ids. g.id ∷ ids) (group-ids permissions ids groups)

-- an element that stands at a place has what all have
pub stands-all : {X : Type 0} (P : X → Type 0) (xs : List X) (k : ℕ) (x : X) → All P xs → slice_get xs k ≡ Some x → P x
stands-all P xs k x all e = rw (get_or_from_slice_get xs k x x e) at (all k x (slice_get_within xs k x e))

-- the least place that passes is that of an element
pub least-among : {X : Type 0} (test : X → Bool) (place : X → ℕ) (xs : List X) (q : ℕ) → least_of test place xs ≡ Some q → list_any (λ x. nat_eq (place x) q) xs ≡ true
least-among test place [] q e = cc
least-among {X} test place (x ∷ xs) q e = by (test x) (least-among test place xs q) e
  where
    last : (b : Bool) → b ≡ true → (nat_eq (place x) q || b) ≡ true
    last b t = ap (λ b. nat_eq (place x) q || b) t ∙ or-true (nat_eq (place x) q)

    pick : (o : Option ℕ) → least_of test place xs ≡ o → (least_of test place xs ≡ Some q → list_any (λ x. nat_eq (place x) q) xs ≡ true) → Some (lower o (place x)) ≡ Some q → (nat_eq (place x) q || list_any (λ x. nat_eq (place x) q) xs) ≡ true
    pick None none later e = let same : place x ≡ q = cc in ap (λ b. b || list_any (λ x. nat_eq (place x) q) xs) (eq-eqb (place x) q same)
    pick (Some r) some later e = lowest (nat_lt r (place x)) (let same : cond (nat_lt r (place x)) r (place x) ≡ q = cc in same)
      where
        lowest : (b : Bool) → cond b r (place x) ≡ q → (nat_eq (place x) q || list_any (λ x. nat_eq (place x) q) xs) ≡ true
        lowest true same = last _ (later (some ∙ ap Some same))
        lowest false same = ap (λ b. b || list_any (λ x. nat_eq (place x) q) xs) (eq-eqb (place x) q same)

    by : (b : Bool) → (least_of test place xs ≡ Some q → list_any (λ x. nat_eq (place x) q) xs ≡ true) → least_place (map place (cond b (x ∷ filter test xs) (filter test xs))) ≡ Some q → (nat_eq (place x) q || list_any (λ x. nat_eq (place x) q) xs) ≡ true
    by true later e = pick (least_of test place xs) refl later e
    by false later e = last _ (later e)

-- the element that is made of a place
pub find-made : {X : Type 0} (made : ℕ → X) (place : X → ℕ) (places : List ℕ) (q : ℕ) → ((p : ℕ) → place (made p) ≡ p) → list_any (λ x. nat_eq (place x) q) (map made places) ≡ true → find (λ x. nat_eq (place x) q) (map made places) ≡ Some (made q)
find-made made place [] q stands e = cc
find-made {X} made place (p ∷ places) q stands e = by (nat_eq (place (made p)) q) refl (find-made made place places q stands) e
  where
    by : (b : Bool) → nat_eq (place (made p)) q ≡ b → (list_any (λ x. nat_eq (place x) q) (map made places) ≡ true → find (λ x. nat_eq (place x) q) (map made places) ≡ Some (made q))
        → (b || list_any (λ x. nat_eq (place x) q) (map made places)) ≡ true → cond b (Some (made p)) (find (λ x. nat_eq (place x) q) (map made places)) ≡ Some (made q)
    by true same later e = let one : p ≡ q = sym (stands p) ∙ one_place (place (made p)) q same in ap (λ x. Some (made x)) one
    by false same later e = later e

stands-some : {X : Type 0} (xs : List X) (k : ℕ) → k < length xs → slice_get xs k ≡ None → ⊥
stands-some [] k inside e = absurd (omega arith)
stands-some (x ∷ xs) zero inside e = cc
stands-some (x ∷ xs) (suc k) inside e = stands-some xs k (omega arith) e

id-at : {X : Type 0} (id : X → List ℕ) (xs : List X) (k : ℕ) (x : X) → slice_get xs k ≡ Some x → text_at (map id xs) k ≡ id x
id-at id xs k x e = get_or-map id xs k x [] (slice_get_within xs k x e) ∙ ap id (get_or_from_slice_get xs k x x e)

module _ (names : List (List ℕ)) (d : Placed) (ordered : AreInOrder (declarations_view names d)) (roles_within : All (IsRoleWithin (length d.permissions)) d.roles) (groups_within : All (IsGroupWithin (length d.permissions) (length d.roles)) d.groups) (p : Perm) (here : p.0 < length d.permissions) where
  roles_ascending : AreAscending (role_ids d)
  roles_ascending = rw (role-ids d.permissions d.roles) at ordered.roles

  groups_ascending : AreAscending (group_ids d)
  groups_ascending = rw (group-ids d.permissions (role_ids d) d.groups) at ordered.groups

  abbrev asked : List ℕ
  asked = perm_text d.permissions p

  role-found : (q : ℕ) (r : RoleDecl) → slice_get d.roles q ≡ Some r → text.role_named (declarations_view names d) (text_at (role_ids d) q) ≡ Some (role_view d.permissions r)
  role-found q r e =
      ap (text.role_named (declarations_view names d)) (id-at (λ r. r.id) d.roles q r e)
      ∙ find-map (role_view d.permissions) (λ x. same_text r.id x.id) d.roles
      ∙ ap (option_map (role_view d.permissions)) (find-at (λ r. r.id) d.roles q r roles_ascending e)

  group-found : (q : ℕ) (g : GroupDecl) → slice_get d.groups q ≡ Some g → text.group_named (declarations_view names d) (text_at (group_ids d) q) ≡ Some (group_view d.permissions (role_ids d) g)
  group-found q g e =
      ap (text.group_named (declarations_view names d)) (id-at (λ g. g.id) d.groups q g e)
      ∙ find-map (group_view d.permissions (role_ids d)) (λ x. same_text g.id x.id) d.groups
      ∙ ap (option_map (group_view d.permissions (role_ids d))) (find-at (λ g. g.id) d.groups q g groups_ascending e)

  role-has : (q : ℕ) → q < length (role_ids d) → text.role_has (declarations_view names d) asked (text_at (role_ids d) q) ≡ is_in (permissions_of d.roles q) p
  role-has q inside = by (slice_get d.roles q) refl
    where
      by : (o : Option RoleDecl) → slice_get d.roles q ≡ o → text.role_has (declarations_view names d) asked (text_at (role_ids d) q) ≡ is_in (option_map_or (λ r. r.permissions.items) o []) p
      by None e = absurd (stands-some d.roles q (let as_many : length (role_ids d) ≡ length d.roles = length-map d.roles (λ r. r.id) in omega arith) e)
      by (Some r) e =
          ap (λ o. option_map_or (λ r. is_among r.permissions asked) o false) (role-found q r e)
          ∙ is_among-places d.permissions r.permissions.items p ordered.permissions (stands-all (IsRoleWithin (length d.permissions)) d.roles q r roles_within e) here

  -- the least of some roles
  pub roles-agree : (places : List ℕ) → AreBelow (length d.roles) places
      → (text.role_among (declarations_view names d) asked (map (text_at (role_ids d)) places) ≡ option_map (text_at (role_ids d)) (least_role (map (role_granted d.roles) places) p))
  roles-agree places within =
      let as_many : length (role_ids d) ≡ length d.roles = length-map d.roles (λ r. r.id) in
      (least-agrees (role_ids d) (text.role_has (declarations_view names d) asked) (role_granted d.roles) (λ r. r.place) (λ r. is_in r.permissions p) places roles_ascending (λ q. refl) role-has
      (λ k d low. let inside = within k d low in omega arith)).0

  group-case : {A : Type 0} (q : ℕ) (said : Option Group → A) (made : Option GroupDecl → A) → ((g : GroupDecl) → IsGroupWithin (length d.permissions) (length d.roles) g → said (Some (group_view d.permissions (role_ids d) g)) ≡ made (Some g))
      → q < length (group_ids d) → said (text.group_named (declarations_view names d) (text_at (group_ids d) q)) ≡ made (slice_get d.groups q)
  group-case {A} q said made one inside = by (slice_get d.groups q) refl
    where
      by : (o : Option GroupDecl) → slice_get d.groups q ≡ o → said (text.group_named (declarations_view names d) (text_at (group_ids d) q)) ≡ made o
      by None e = absurd (stands-some d.groups q (let as_many : length (group_ids d) ≡ length d.groups = length-map d.groups (λ g. g.id) in omega arith) e)
      by (Some g) e = ap said (group-found q g e) ∙ one g (stands-all (IsGroupWithin (length d.permissions) (length d.roles)) d.groups q g groups_within e)

  group-denies : (q : ℕ) → q < length (group_ids d) → text.group_denies (declarations_view names d) asked (text_at (group_ids d) q) ≡ is_in (group_granted d.roles d.groups q).deny p
  group-denies q inside =
      group-case q (λ o. option_map_or (λ g. is_among g.deny asked) o false) (λ o. is_in (option_map_or (λ g. g.deny.items) o []) p)
      (λ g within. is_among-places d.permissions g.deny.items p ordered.permissions within.deny here) inside

  group-allows : (q : ℕ) → q < length (group_ids d) → text.group_allows (declarations_view names d) asked (text_at (group_ids d) q) ≡ is_in (group_granted d.roles d.groups q).allow p
  group-allows q inside =
      group-case q (λ o. option_map_or (λ g. is_among g.allow asked) o false) (λ o. is_in (option_map_or (λ g. g.allow.items) o []) p)
      (λ g within. is_among-places d.permissions g.allow.items p ordered.permissions within.allow here) inside

  group-role : (q : ℕ) → q < length (group_ids d) → text.role_of_group (declarations_view names d) asked (text_at (group_ids d) q) ≡ option_map (text_at (role_ids d)) (least_role (group_granted d.roles d.groups q).roles p)
  group-role q inside =
      group-case q (λ o. option_and_then (λ g. text.role_among (declarations_view names d) asked g.roles) o) (λ o. option_map (text_at (role_ids d)) (least_role (map (role_granted d.roles) (option_map_or (λ g. g.roles.items) o [])) p))
      (λ g within. roles-agree g.roles.items within.roles_within) inside

  below-groups : (places : List ℕ) → AreBelow (length d.groups) places → All (λ q. q < length (group_ids d)) places
  below-groups places within k e low = let as_many : length (group_ids d) ≡ length d.groups = length-map d.groups (λ g. g.id) in let inside = within k e low in omega arith

  abbrev granted : List ℕ → List GroupGranted
  granted places = map (group_granted d.roles d.groups) places

  pub denying-agrees : (places : List ℕ) → AreBelow (length d.groups) places
      → least (filter (text.group_denies (declarations_view names d) asked) (map (text_at (group_ids d)) places)) ≡ option_map (text_at (group_ids d)) (least_denying (granted places) p)
  denying-agrees places within =
      (least-agrees (group_ids d) (text.group_denies (declarations_view names d) asked) (group_granted d.roles d.groups) (λ g. g.place) (λ g. is_in g.deny p) places groups_ascending (λ q. refl) group-denies (below-groups places within)).0

  pub allowing-agrees : (places : List ℕ) → AreBelow (length d.groups) places
      → least (filter (text.group_allows (declarations_view names d) asked) (map (text_at (group_ids d)) places)) ≡ option_map (text_at (group_ids d)) (least_allowing (granted places) p)
  allowing-agrees places within =
      (least-agrees (group_ids d) (text.group_allows (declarations_view names d) asked) (group_granted d.roles d.groups) (λ g. g.place) (λ g. is_in g.allow p) places groups_ascending (λ q. refl) group-allows (below-groups places within)).0

  -- the least group with a role, and the role
  pub with-role-agrees : (places : List ℕ) → AreBelow (length d.groups) places
      → text.group_with_role (declarations_view names d) asked (map (text_at (group_ids d)) places) ≡ option_map (reason_view d) (group_role (granted places) p)
  with-role-agrees places within =
      let found = least-agrees (group_ids d) (λ g. is_some (text.role_of_group (declarations_view names d) asked g)) (group_granted d.roles d.groups) (λ g. g.place) (λ g. is_some (least_role g.roles p)) places groups_ascending (λ q. refl)
      (λ q inside. ap is_some (group-role q inside) ∙ is_some-option_map (text_at (role_ids d)) (least_role (group_granted d.roles d.groups q).roles p)) (below-groups places within) in
      ap (option_and_then (λ g. option_map (text.group_role g) (text.role_of_group (declarations_view names d) asked g))) found.0 ∙ by (least_with_role (granted places) p) refl found.1
    where
      roles : (q : ℕ) (o : Option ℕ) → option_map (text.group_role (text_at (group_ids d) q)) (option_map (text_at (role_ids d)) o) ≡ option_map (reason_view d) (option_map (GroupRole q) o)
      roles q None = refl
      roles q (Some r) = refl

      by : (o : Option ℕ) → least_with_role (granted places) p ≡ o → ForSome o (λ q. q < length (group_ids d))
          → option_and_then (λ g. option_map (text.group_role g) (text.role_of_group (declarations_view names d) asked g)) (option_map (text_at (group_ids d)) o)
          ≡ option_map (reason_view d) (option_and_then (λ q. option_map (GroupRole q) (role_at (granted places) p q)) o)
      by None e inside = refl
      by (Some q) e inside =
          let its = find-made (group_granted d.roles d.groups) (λ g. g.place) places q (λ q. refl) (least-among (λ g. is_some (least_role g.roles p)) (λ g. g.place) (granted places) q e) in
          ap (option_map (text.group_role (text_at (group_ids d) q))) (group-role q (inside q refl))
          ∙ roles q (least_role (group_granted d.roles d.groups q).roles p)
          ∙ sym (ap (λ o. option_map (reason_view d) (option_map (GroupRole q) (option_and_then (λ g. least_role g.roles p) o))) its)
