-- The reasons that the program makes of a principal's grants are those that the rules give.
use Rattle.std.proofs.Common.{◌≡◌, refl, sym, ap, ◌∙◌, ℕ, zero, suc, ◌+◌, ◌<◌, ◌⊎◌, inl, inr, Bool, true, false, true≢false, cond, ◌||◌, List, [], ◌∷◌, ◌++◌, map, length, get_or, replicate, Some, arith, nat_eq, eq-eqb}
use Rattle.std.specs.List.{All, slice_get}
use Rattle.std.specs.Option.{option_map_or}
use Rattle.std.proofs.lemmas.List.{ext_get_or, get_or-replicate, length-replicate}
use Rattle.std.proofs.lemmas.List.Elements.{All-head, All-tail}
use Rattle.std.proofs.lemmas.List.FromFn.{get_or-map-range_with_len, length-map-range_with_len}
use Rattle.std.proofs.lemmas.Option.{slice_get_within}
use Rattle.rp_decl.specs.Places.{IsGroupWithin, IsPrincipalWithin}
use Rattle.rp_decl.specs.declared.records.GroupDecl.{GroupDecl}
use Rattle.rp_decl.specs.declared.records.Perm.{Perm}
use Rattle.rp_decl.specs.declared.records.PrincipalDecl.{PrincipalDecl}
use Rattle.rp_decl.specs.declared.records.RoleDecl.{RoleDecl}
use Rattle.rp_interact.specs.Granted.{granted_of, group_roles, is_in, permissions_of, reason, reasons_of}
use Rattle.rp_interact.specs.ReasonsSteps.{Mention, by_group, by_groups, by_role, by_roles, granting, has_place, is_nothing, lowered, own_grants, own_roles, roles_by_group, roles_by_groups}
use Rattle.rp_interact.specs.declared.reason.Reason.{Reason}
use Rattle.rp_interact.specs.declared.reason.Reason.TheVariants.{Public, Own, Role, Group, GroupRole, Nothing}
use Rattle.rp_interact.proofs.Agreeing.{stands-all}
use Rattle.rp_interact.proofs.Rules.{Applies, IsFirst, first-unique, reason-is-first}
use Rattle.rp_interact.proofs.Keeping.{one_place}
use Rattle.rp_interact.proofs.Mentions.{IsAtMost, IsLowered, Says, at_most-antisym, at_most-self, at_most-trans, each-says, granting-says, length-lowered, lowered-append, lowered-at, says-each, says-granting, says-left, says-one, says-right}
use Rattle.std.proofs.Math.Bool.{or-true}

-- places that are given reasons of their own
says-places : (f : ℕ → Reason) (places : List ℕ) (q : ℕ) → has_place places q ≡ true → Says (map (λ r. (r, f r)) places) q (f q)
says-places f [] q among = cc
says-places f (x ∷ places) q among = by (nat_eq x q) refl (says-places f places q) among
  where
    by : (b : Bool) → nat_eq x q ≡ b → (has_place places q ≡ true → Says (map (λ r. (r, f r)) places) q (f q)) → (b || has_place places q) ≡ true → Says (map (λ r. (r, f r)) (x ∷ places)) q (f q)
    by true here rest e = let same : x ≡ q = one_place x q here in inl (same, ap f same)
    by false other rest e = inr (rest e)

places-say : (f : ℕ → Reason) (places : List ℕ) (q : ℕ) (r : Reason) → Says (map (λ r. (r, f r)) places) q r → (f q ≡ r) × (has_place places q ≡ true)
places-say f [] q r says = absurd says
places-say f (x ∷ places) q r (inl here) = (ap f (sym here.0) ∙ here.1, ap (λ b. b || has_place places q) (eq-eqb x q here.0))
places-say f (x ∷ places) q r (inr later) = let rest = places-say f places q r later in (rest.0, ap (λ b. nat_eq x q || b) rest.1 ∙ or-true (nat_eq x q))

-- a place among some stands below what all of them stand below
below : (n : ℕ) (places : List ℕ) (q : ℕ) → All (λ p. p < n) places → has_place places q ≡ true → q < n
below n [] q all among = cc
below n (x ∷ places) q all among = by (nat_eq x q) refl (below n places q (All-tail (λ p. p < n) x places all)) among
  where
    by : (b : Bool) → nat_eq x q ≡ b → (has_place places q ≡ true → q < n) → (b || has_place places q) ≡ true → q < n
    by true here rest e = let same : x ≡ q = one_place x q here in let low : x < n = All-head (λ p. p < n) x places all in omega arith
    by false other rest e = rest e

-- an element stands at each place
stands-at : {X : Type 0} (xs : List X) (q : ℕ) → q < length xs → (x : X) × (slice_get xs q ≡ Some x)
stands-at [] q inside = absurd (omega arith)
stands-at (x ∷ xs) zero inside = (x, refl)
stands-at (x ∷ xs) (suc q) inside = stands-at xs q (omega arith)

none-at : (n q : ℕ) → q < n → get_or (replicate n Nothing) q Nothing ≡ Nothing
none-at n q inside = get_or-replicate n q Nothing Nothing inside

nothing-is : (o : Reason) → is_nothing o ≡ true → o ≡ Nothing
nothing-is Public none = cc
nothing-is (Own allowed) none = cc
nothing-is (Role r) none = cc
nothing-is (Group g allowed) none = cc
nothing-is (GroupRole g r) none = cc
nothing-is Nothing none = refl

module _ (n : ℕ) (roles : List RoleDecl) (groups : List GroupDecl) (principal : PrincipalDecl) (marks : List Bool) (marked : (place : ℕ) → place < length groups → get_or marks place false ≡ has_place principal.groups.items place)
    (groups_within : All (IsGroupWithin n (length roles)) groups) (within : IsPrincipalWithin n (length roles) (length groups) principal) where
  abbrev role_mentions : List Mention
  role_mentions = roles_by_groups marks 0 groups ++ own_roles principal.roles.items

  abbrev of_roles : List Reason
  of_roles = lowered (own_roles principal.roles.items) (lowered (roles_by_groups marks 0 groups) (replicate (length roles) Nothing))

  -- a role's reason names a grant of the role
  abbrev IsGranted : ℕ → Reason → Type 0
  IsGranted j r =
      ((Role j ≡ r) × (has_place principal.roles.items j ≡ true))
      ⊎ ((g : ℕ) × ((GroupRole g j ≡ r) × (has_place principal.groups.items g ≡ true) × (has_place (group_roles groups g) j ≡ true)))

  behind-first : (k : ℕ) → 0 + k ≡ k
  behind-first k = omega arith

  role-said : (j : ℕ) (r : Reason) → Says role_mentions j r → IsGranted j r
  role-said j r says = by (says-one (roles_by_groups marks 0 groups) (own_roles principal.roles.items) j r says)
    where
      of_group : (k : ℕ) (g : GroupDecl) → slice_get groups k ≡ Some g → (b : Bool) → get_or marks (0 + k) false ≡ b → Says (roles_by_group b (0 + k) g.roles.items) j r → IsGranted j r
      of_group k g stands false unmarked says = absurd says
      of_group k g stands true mark says =
          let said = places-say (GroupRole (0 + k)) g.roles.items j r says in
          let place = behind-first k in
          let inside = slice_get_within groups k g stands in
          inr (k, (ap (λ k. GroupRole k j) (sym place) ∙ said.0, sym (marked k inside) ∙ ap (λ k. get_or marks k false) (sym place) ∙ mark, ap (λ o. has_place (option_map_or (λ g. g.roles.items) o []) j) stands ∙ said.1))

      by : Says (roles_by_groups marks 0 groups) j r ⊎ Says (own_roles principal.roles.items) j r → IsGranted j r
      by (inl of_groups) =
          let found = each-says (λ place g. roles_by_group (get_or marks place false) place g.roles.items) 0 groups j r of_groups in
          of_group found.behind found.element found.stands (get_or marks (0 + found.behind) false) refl found.says
      by (inr own) = inl (places-say Role principal.roles.items j r own)

  own-role-said : (j : ℕ) → has_place principal.roles.items j ≡ true → Says role_mentions j (Role j)
  own-role-said j among = says-right (roles_by_groups marks 0 groups) (own_roles principal.roles.items) j (Role j) (says-places Role principal.roles.items j among)

  group-at : (g : ℕ) → has_place principal.groups.items g ≡ true → (d : GroupDecl) × (slice_get groups g ≡ Some d)
  group-at g among = stands-at groups g (below (length groups) principal.groups.items g within.groups_within among)

  -- the group at a place is marked
  mark-of : (g : ℕ) → has_place principal.groups.items g ≡ true → get_or marks (0 + g) false ≡ true
  mark-of g among = ap (λ k. get_or marks k false) (behind-first g) ∙ marked g (below (length groups) principal.groups.items g within.groups_within among) ∙ among

  group-role-said : (g j : ℕ) → has_place principal.groups.items g ≡ true → has_place (group_roles groups g) j ≡ true → Says role_mentions j (GroupRole g j)
  group-role-said g j among role =
      let found = group-at g among in
      let its : has_place found.0.roles.items j ≡ true = ap (λ o. has_place (option_map_or (λ g. g.roles.items) o []) j) (sym found.1) ∙ role in
      let place = behind-first g in
      let says : Says (roles_by_group true g found.0.roles.items) j (GroupRole g j) = says-places (GroupRole g) found.0.roles.items j its in
      says-left (roles_by_groups marks 0 groups) (own_roles principal.roles.items) j (GroupRole g j)
      (says-each (λ place g. roles_by_group (get_or marks place false) place g.roles.items) 0 groups g found.0 j (GroupRole g j) found.1 (rw (mark-of g among, place) says))

  role-at : (j : ℕ) → j < length roles → IsLowered role_mentions j Nothing (get_or of_roles j Nothing)
  role-at j inside =
      let made : lowered role_mentions (replicate (length roles) Nothing) ≡ of_roles = lowered-append (roles_by_groups marks 0 groups) (own_roles principal.roles.items) (replicate (length roles) Nothing) in
      let as_many : length (replicate (length roles) Nothing) ≡ length roles = length-replicate (length roles) Nothing in
      rw (none-at (length roles) j inside, made) at (lowered-at role_mentions (replicate (length roles) Nothing) j (omega arith))

  -- a role whose reason is before another that is not nothing has a reason
  is-something : (a b : Reason) → IsAtMost a b → is_nothing b ≡ false → is_nothing a ≡ false
  is-something Public b low other = refl
  is-something (Own allowed) b low other = refl
  is-something (Role r) b low other = refl
  is-something (Group g allowed) b low other = refl
  is-something (GroupRole g r) b low other = refl
  is-something Nothing Public low other = cc
  is-something Nothing (Own false) low other = cc
  is-something Nothing (Own true) low other = cc
  is-something Nothing (Role r) low other = cc
  is-something Nothing (Group g false) low other = cc
  is-something Nothing (Group g true) low other = cc
  is-something Nothing (GroupRole g r) low other = cc
  is-something Nothing Nothing low other = cc

  abbrev mentions : List Mention
  mentions = own_grants principal ++ by_groups marks 0 groups ++ by_roles of_roles 0 roles

  abbrev table : List Reason
  table = lowered (by_roles of_roles 0 roles) (lowered (by_groups marks 0 groups) (lowered (own_grants principal) (replicate n Nothing)))

  table-made : lowered mentions (replicate n Nothing) ≡ table
  table-made =
      lowered-append (own_grants principal ++ by_groups marks 0 groups) (by_roles of_roles 0 roles) (replicate n Nothing)
      ∙ ap (lowered (by_roles of_roles 0 roles)) (lowered-append (own_grants principal) (by_groups marks 0 groups) (replicate n Nothing))

  module _ (p : Perm) (here : p.0 < n) where
    abbrev Applied : Reason → Type 0
    Applied = Applies roles groups principal p

    own-applies : (r : Reason) → Says (own_grants principal) p.0 r → Applied r
    own-applies r says = by (says-one (granting (Own false) principal.deny.items) (granting (Own true) principal.allow.items) p.0 r says)
      where
        by : Says (granting (Own false) principal.deny.items) p.0 r ⊎ Says (granting (Own true) principal.allow.items) p.0 r → Applied r
        by (inl denied) = let said = granting-says (Own false) principal.deny.items p r denied in rw (← said.0) said.1
        by (inr allowed) = let said = granting-says (Own true) principal.allow.items p r allowed in rw (← said.0) said.1

    group-applies : (r : Reason) → Says (by_groups marks 0 groups) p.0 r → Applied r
    group-applies r says =
        let found = each-says (λ place g. by_group (get_or marks place false) place g) 0 groups p.0 r says in
        of_group found.behind found.element found.stands (get_or marks (0 + found.behind) false) refl found.says
      where
        of_group : (k : ℕ) (g : GroupDecl) → slice_get groups k ≡ Some g → (b : Bool) → get_or marks (0 + k) false ≡ b → Says (by_group b (0 + k) g) p.0 r → Applied r
        of_group k g stands false unmarked says = absurd says
        of_group k g stands true mark says = by (says-one (granting (Group (0 + k) false) g.deny.items) (granting (Group (0 + k) true) g.allow.items) p.0 r says)
          where
            among : has_place principal.groups.items k ≡ true
            among = sym (marked k (slice_get_within groups k g stands)) ∙ ap (λ k. get_or marks k false) (sym (behind-first k)) ∙ mark

            by : Says (granting (Group (0 + k) false) g.deny.items) p.0 r ⊎ Says (granting (Group (0 + k) true) g.allow.items) p.0 r → Applied r
            by (inl denied) =
                let said = granting-says (Group (0 + k) false) g.deny.items p r denied in
                let its : Group k false ≡ r = ap (λ k. Group k false) (sym (behind-first k)) ∙ said.0 in
                rw (← its) (among, ap (λ o. is_in (option_map_or (λ g. g.deny.items) o []) p) stands ∙ said.1)
            by (inr allowed) =
                let said = granting-says (Group (0 + k) true) g.allow.items p r allowed in
                let its : Group k true ≡ r = ap (λ k. Group k true) (sym (behind-first k)) ∙ said.0 in
                rw (← its) (among, ap (λ o. is_in (option_map_or (λ g. g.allow.items) o []) p) stands ∙ said.1)

    role-applies : (r : Reason) → Says (by_roles of_roles 0 roles) p.0 r → Applied r
    role-applies r says =
        let found = each-says (λ place r. by_role (get_or of_roles place Nothing) r.permissions.items) 0 roles p.0 r says in
        of_role found.behind found.element found.stands (rw (behind-first found.behind) at found.says)
      where
        granted-applies : (k : ℕ) (d : RoleDecl) → slice_get roles k ≡ Some d → is_in d.permissions.items p ≡ true → IsGranted k r → Applied r
        granted-applies k d stands has (inl own) = rw (← own.0) (own.1, ap (λ o. is_in (option_map_or (λ r. r.permissions.items) o []) p) stands ∙ has)
        granted-applies k d stands has (inr group) = rw (← group.1.0) (group.1.1, group.1.2, ap (λ o. is_in (option_map_or (λ r. r.permissions.items) o []) p) stands ∙ has)

        lowered-applies : (k : ℕ) (d : RoleDecl) → slice_get roles k ≡ Some d → (lead : Reason) → (lead ≡ Nothing) ⊎ Says role_mentions k lead → is_nothing lead ≡ false → (lead ≡ r) × (is_in d.permissions.items p ≡ true) → Applied r
        lowered-applies k d stands lead (inl none) some said = absurd (true≢false (ap is_nothing (sym none) ∙ some))
        lowered-applies k d stands lead (inr says) some said = granted-applies k d stands said.1 (rw said.0 at (role-said k lead says))

        by : (k : ℕ) (d : RoleDecl) → slice_get roles k ≡ Some d → (lead : Reason) → (lead ≡ Nothing) ⊎ Says role_mentions k lead → (b : Bool) → is_nothing lead ≡ b → Says (cond b [] (granting lead d.permissions.items)) p.0 r → Applied r
        by k d stands lead one true none says = absurd says
        by k d stands lead one false some says = lowered-applies k d stands lead one some (granting-says lead d.permissions.items p r says)

        of_role : (k : ℕ) (d : RoleDecl) → slice_get roles k ≡ Some d → Says (by_role (get_or of_roles k Nothing) d.permissions.items) p.0 r → Applied r
        of_role k d stands says = by k d stands (get_or of_roles k Nothing) (role-at k (slice_get_within roles k d stands)).one (is_nothing (get_or of_roles k Nothing)) refl says

    says-applies : (r : Reason) → Says mentions p.0 r → Applied r
    says-applies r says = by (says-one (own_grants principal ++ by_groups marks 0 groups) (by_roles of_roles 0 roles) p.0 r says)
      where
        front : Says (own_grants principal) p.0 r ⊎ Says (by_groups marks 0 groups) p.0 r → Applied r
        front (inl own) = own-applies r own
        front (inr group) = group-applies r group

        by : Says (own_grants principal ++ by_groups marks 0 groups) p.0 r ⊎ Says (by_roles of_roles 0 roles) p.0 r → Applied r
        by (inl other) = front (says-one (own_grants principal) (by_groups marks 0 groups) p.0 r other)
        by (inr role) = role-applies r role

    -- a mention that does not come after a reason
    pub record IsSaid (o : Reason) : Type 0 where
      pub reason : Reason
      pub says : Says mentions p.0 reason
      pub low : IsAtMost reason o

    own-says : (r : Reason) → Says (own_grants principal) p.0 r → Says mentions p.0 r
    own-says r says = says-left (own_grants principal ++ by_groups marks 0 groups) (by_roles of_roles 0 roles) p.0 r (says-left (own_grants principal) (by_groups marks 0 groups) p.0 r says)

    group-says : (g : ℕ) (r : Reason) → (among : has_place principal.groups.items g ≡ true) → Says (by_group true g (group-at g among).0) p.0 r → Says mentions p.0 r
    group-says g r among says =
        let found = group-at g among in
        let place = behind-first g in
        let one : Says (by_groups marks 0 groups) p.0 r = says-each (λ place g. by_group (get_or marks place false) place g) 0 groups g found.0 p.0 r found.1 (rw (mark-of g among, place) says) in
        says-left (own_grants principal ++ by_groups marks 0 groups) (by_roles of_roles 0 roles) p.0 r (says-right (own_grants principal) (by_groups marks 0 groups) p.0 r one)

    role-says : (j : ℕ) (o : Reason) → j < length roles → is_nothing o ≡ false → Says role_mentions j o → is_in (permissions_of roles j) p ≡ true → IsSaid o
    role-says j o inside some said has =
        let found = stands-at roles j inside in
        let low : IsAtMost (get_or of_roles j Nothing) o = (role-at j inside).first o said in
        let its : is_in found.0.permissions.items p ≡ true = ap (λ o. is_in (option_map_or (λ r. r.permissions.items) o []) p) (sym found.1) ∙ has in
        let lead = get_or of_roles j Nothing in
        let place = behind-first j in
        let says : Says (by_role lead found.0.permissions.items) p.0 lead = rw (is-something lead o low some) (says-granting lead found.0.permissions.items p its) in
        let one : Says (by_roles of_roles 0 roles) p.0 lead = says-each (λ place r. by_role (get_or of_roles place Nothing) r.permissions.items) 0 roles j found.0 p.0 lead found.1 (rw place says) in
        record { reason = lead; says = says-right (own_grants principal ++ by_groups marks 0 groups) (by_roles of_roles 0 roles) p.0 lead one; low = low }

    group-within : (g : ℕ) (d : GroupDecl) → slice_get groups g ≡ Some d → IsGroupWithin n (length roles) d
    group-within g d stands = stands-all (IsGroupWithin n (length roles)) groups g d groups_within stands

    said-for : (o : Reason) → is_nothing o ≡ false → Applied o → IsSaid o
    said-for Public some applies = absurd applies
    said-for (Own false) some applies = record {
      reason = Own false;
      says = own-says (Own false) (says-left (granting (Own false) principal.deny.items) (granting (Own true) principal.allow.items) p.0 (Own false) (says-granting (Own false) principal.deny.items p applies));
      low = refl;
    }
    said-for (Own true) some applies = record {
      reason = Own true;
      says = own-says (Own true) (says-right (granting (Own false) principal.deny.items) (granting (Own true) principal.allow.items) p.0 (Own true) (says-granting (Own true) principal.allow.items p applies));
      low = refl;
    }
    said-for (Role j) some applies = role-says j (Role j) (below (length roles) principal.roles.items j within.roles_within applies.0) refl (own-role-said j applies.0) applies.1
    said-for (Group g false) some applies =
        let found = group-at g applies.0 in
        let its : is_in found.0.deny.items p ≡ true = ap (λ o. is_in (option_map_or (λ g. g.deny.items) o []) p) (sym found.1) ∙ applies.1 in
        let says = says-left (granting (Group g false) found.0.deny.items) (granting (Group g true) found.0.allow.items) p.0 (Group g false) (says-granting (Group g false) found.0.deny.items p its) in
        record { reason = Group g false; says = group-says g (Group g false) applies.0 says; low = at_most-self (Group g false) }
    said-for (Group g true) some applies =
        let found = group-at g applies.0 in
        let its : is_in found.0.allow.items p ≡ true = ap (λ o. is_in (option_map_or (λ g. g.allow.items) o []) p) (sym found.1) ∙ applies.1 in
        let says = says-right (granting (Group g false) found.0.deny.items) (granting (Group g true) found.0.allow.items) p.0 (Group g true) (says-granting (Group g true) found.0.allow.items p its) in
        record { reason = Group g true; says = group-says g (Group g true) applies.0 says; low = at_most-self (Group g true) }
    said-for (GroupRole g j) some applies =
        let found = group-at g applies.0 in
        let its : has_place found.0.roles.items j ≡ true = ap (λ o. has_place (option_map_or (λ g. g.roles.items) o []) j) (sym found.1) ∙ applies.1 in
        let inside = below (length roles) found.0.roles.items j (group-within g found.0 found.1).roles_within its in
        role-says j (GroupRole g j) inside refl (group-role-said g j applies.0 applies.1) applies.2
    said-for Nothing some applies = cc

    pub table-first : IsFirst roles groups principal p (get_or table p.0 Nothing)
    table-first = record { applies = by its.one; first = λ o applies. low o applies (is_nothing o) refl }
      where
        its : IsLowered mentions p.0 Nothing (get_or table p.0 Nothing)
        its =
            let as_many : length (replicate n Nothing) ≡ n = length-replicate n Nothing in
            rw (none-at n p.0 here, table-made) at (lowered-at mentions (replicate n Nothing) p.0 (omega arith))

        by : (get_or table p.0 Nothing ≡ Nothing) ⊎ Says mentions p.0 (get_or table p.0 Nothing) → Applied (get_or table p.0 Nothing)
        by (inl none) = rw none tt
        by (inr says) = says-applies (get_or table p.0 Nothing) says

        low : (o : Reason) → Applied o → (b : Bool) → is_nothing o ≡ b → IsAtMost (get_or table p.0 Nothing) o
        low o applies true none = rw (nothing-is o none) its.old_first
        low o applies false some =
            let said = said-for o some applies in
            at_most-trans (get_or table p.0 Nothing) said.reason o (its.first said.reason said.says) said.low

    pub table-at : get_or table p.0 Nothing ≡ reason (granted_of roles groups principal) p
    table-at =
        let rules = reason-is-first roles groups principal p in
        let unique = first-unique roles groups principal p (get_or table p.0 Nothing) (reason (granted_of roles groups principal) p) table-first rules in
        at_most-antisym (get_or table p.0 Nothing) (reason (granted_of roles groups principal) p) unique.0 unique.1

  length-table : length table ≡ n
  length-table =
      length-lowered (by_roles of_roles 0 roles) (lowered (by_groups marks 0 groups) (lowered (own_grants principal) (replicate n Nothing)))
      ∙ length-lowered (by_groups marks 0 groups) (lowered (own_grants principal) (replicate n Nothing))
      ∙ length-lowered (own_grants principal) (replicate n Nothing)
      ∙ length-replicate n Nothing

  pub table-is : table ≡ reasons_of n (granted_of roles groups principal)
  table-is =
      let as_many : length (reasons_of n (granted_of roles groups principal)) ≡ n = length-map-range_with_len (λ q. reason (granted_of roles groups principal) (record { 0 = q })) 0 n in
      ext_get_or Nothing table (reasons_of n (granted_of roles groups principal)) (length-table ∙ sym as_many)
      (λ q inside. let low : q < n = let long = length-table in omega (arith, long) in
      table-at (record { 0 = q }) low
      ∙ sym (get_or-map-range_with_len (λ q. reason (granted_of roles groups principal) (record { 0 = q })) 0 n q q Nothing low (omega arith)))
