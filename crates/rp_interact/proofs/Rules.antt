-- Which reasons apply to a permission, and that the rules give the first of them.
use Rattle.std.proofs.Common.{◌≡◌, refl, sym, ap, ◌∙◌, ℕ, ◌≤◌, ◌⊎◌, inl, inr, Bool, true, false, true≢false, cond, ◌||◌, List, [], ◌∷◌, map, filter, Option, Some, None, is_some, unwrap_or, arith, nat_eq, nat_lt, eq-eqb}
use Rattle.std.specs.Option.{option_and_then, option_map}
use Rattle.std.proofs.lemmas.Bool.Decides.{nat_tests}
use Rattle.rp_decl.specs.declared.records.GroupDecl.{GroupDecl}
use Rattle.rp_decl.specs.declared.records.Perm.{Perm}
use Rattle.rp_decl.specs.declared.records.PrincipalDecl.{PrincipalDecl}
use Rattle.rp_decl.specs.declared.records.RoleDecl.{RoleDecl}
use Rattle.rp_interact.specs.Granted.{Granted, granted_of, group_granted, group_role, group_roles, is_in, least_allowing, least_denying, least_role, least_with_role, permissions_of, reason, role_at, role_granted}
use Rattle.rp_interact.specs.Least.{least_of, least_place, lower}
use Rattle.rp_interact.specs.ReasonsSteps.{has_place}
use Rattle.rp_interact.specs.declared.reason.Reason.{Reason}
use Rattle.rp_interact.specs.declared.reason.Reason.TheVariants.{Public, Own, Role, Group, GroupRole, Nothing}
use Rattle.rp_interact.proofs.Agreeing.{find-made, least-among}
use Rattle.rp_interact.proofs.Keeping.{one_place}
use Rattle.rp_interact.proofs.Mentions.{IsAtMost}
use Rattle.std.proofs.Math.Bool.{or-true}
use Rattle.rp_interact.specs.Why.{rule}

-- a place among others, and one that passes
abbrev Passes : {X : Type 0} → (X → Bool) → (ℕ → X) → List ℕ → ℕ → Type 0
Passes test made places q = (has_place places q ≡ true) × (test (made q) ≡ true)

passes-later : {X : Type 0} (test : X → Bool) (made : ℕ → X) (x : ℕ) (places : List ℕ) (q : ℕ) → Passes test made places q → Passes test made (x ∷ places) q
passes-later test made x places q rest = (ap (λ b. nat_eq x q || b) rest.0 ∙ or-true (nat_eq x q), rest.1)

passes-here : {X : Type 0} (test : X → Bool) (made : ℕ → X) (x : ℕ) (places : List ℕ) (q : ℕ) → test (made x) ≡ true → x ≡ q → Passes test made (x ∷ places) q
passes-here test made x places q passes same = (ap (λ b. b || has_place places q) (eq-eqb x q same), ap (λ y. test (made y)) (sym same) ∙ passes)

passes-lower : {X : Type 0} (test : X → Bool) (made : ℕ → X) (x y : ℕ) (places : List ℕ) (q : ℕ) (o : Option ℕ) → y ≡ x → (o ≡ Some q → Passes test made places q) → test (made x) ≡ true → Some (lower o y) ≡ Some q → Passes test made (x ∷ places) q
passes-lower test made x y places q None is rest passes e = let same : y ≡ q = cc in passes-here test made x places q passes (sym is ∙ same)
passes-lower {X} test made x y places q (Some r) is rest passes e = by (nat_lt r y) (let same : cond (nat_lt r y) r y ≡ q = cc in same)
  where
    by : (b : Bool) → cond b r y ≡ q → Passes test made (x ∷ places) q
    by true same = passes-later test made x places q (rest (ap Some same))
    by false same = passes-here test made x places q passes (sym is ∙ same)

-- the least place that passes is among the places, and passes
least-passes : {X : Type 0} (test : X → Bool) (made : ℕ → X) (place : X → ℕ) (places : List ℕ) (q : ℕ) → ((p : ℕ) → place (made p) ≡ p) → least_of test place (map made places) ≡ Some q → Passes test made places q
least-passes test made place [] q stands e = cc
least-passes {X} test made place (x ∷ places) q stands e = by (test (made x)) refl (least-passes test made place places q stands) e
  where
    by : (b : Bool) → test (made x) ≡ b → (least_of test place (map made places) ≡ Some q → Passes test made places q)
        → least_place (map place (cond b (made x ∷ filter test (map made places)) (filter test (map made places)))) ≡ Some q → Passes test made (x ∷ places) q
    by true passes rest e = passes-lower test made x (place (made x)) places q (least_of test place (map made places)) (stands x) rest passes e
    by false other rest e = passes-later test made x places q (rest e)

-- a place that passes, or one that is lower
pub record IsFound (least : Option ℕ) (q : ℕ) : Type 0 where
  pub lowest : ℕ
  pub is : least ≡ Some lowest
  pub low : lowest ≤ q

found-lower : (o : Option ℕ) (x q : ℕ) → (x ≤ q) ⊎ IsFound o q → IsFound (Some (lower o x)) q
found-lower None x q (inl low) = record { lowest = x; is = refl; low = low }
found-lower None x q (inr found) = cc
found-lower (Some r) x q (inl low) = record { lowest = cond (nat_lt r x) r x; is = refl; low = by (nat_lt r x) refl }
  where
    by : (b : Bool) → nat_lt r x ≡ b → cond b r x ≤ q
    by true e = grind (arith, nat_tests)
    by false e = low
found-lower (Some r) x q (inr found) = record { lowest = cond (nat_lt r x) r x; is = refl; low = by (nat_lt r x) refl }
  where
    r_low : r ≤ q
    r_low = let same : r ≡ found.lowest = cc in let low = found.low in omega arith

    by : (b : Bool) → nat_lt r x ≡ b → cond b r x ≤ q
    by true e = r_low
    by false e = grind (arith, nat_tests)

least-found : {X : Type 0} (test : X → Bool) (made : ℕ → X) (place : X → ℕ) (places : List ℕ) (q : ℕ) → ((p : ℕ) → place (made p) ≡ p) → has_place places q ≡ true → test (made q) ≡ true → IsFound (least_of test place (map made places)) q
least-found test made place [] q stands among passes = cc
least-found {X} test made place (x ∷ places) q stands among passes = by (nat_eq x q) refl (λ e. least-found test made place places q stands e passes) among
  where
    rest : Option ℕ
    rest = least_of test place (map made places)

    more : (b : Bool) → IsFound rest q → IsFound (least_place (map place (cond b (made x ∷ filter test (map made places)) (filter test (map made places))))) q
    more true found = found-lower rest (place (made x)) q (inr found)
    more false found = found

    by : (b : Bool) → nat_eq x q ≡ b → (has_place places q ≡ true → IsFound rest q) → (b || has_place places q) ≡ true
        → IsFound (least_place (map place (cond (test (made x)) (made x ∷ filter test (map made places)) (filter test (map made places))))) q
    by true here later among =
        let same : x ≡ q = one_place x q here in
        rw (ap (λ y. test (made y)) same ∙ passes) (found-lower rest (place (made x)) q (inl (let its = stands x in omega arith)))
    by false other later among = more (test (made x)) (later among)

module _ (roles : List RoleDecl) (groups : List GroupDecl) (principal : PrincipalDecl) (p : Perm) where
  abbrev granted : Granted
  granted = granted_of roles groups principal

  -- the reasons that apply to the permission
  abbrev pub Applies : Reason → Type 0
  Applies Public = ⊥
  Applies (Own false) = is_in principal.deny.items p ≡ true
  Applies (Own true) = is_in principal.allow.items p ≡ true
  Applies (Role r) = (has_place principal.roles.items r ≡ true) × (is_in (permissions_of roles r) p ≡ true)
  Applies (Group g false) = (has_place principal.groups.items g ≡ true) × (is_in (group_granted roles groups g).deny p ≡ true)
  Applies (Group g true) = (has_place principal.groups.items g ≡ true) × (is_in (group_granted roles groups g).allow p ≡ true)
  Applies (GroupRole g r) = (has_place principal.groups.items g ≡ true) × (has_place (group_roles groups g) r ≡ true) × (is_in (permissions_of roles r) p ≡ true)
  Applies Nothing = Unit {0}

  -- the first of the reasons that apply
  pub record IsFirst (r : Reason) : Type 0 where
    pub applies : Applies r
    pub first : (o : Reason) → Applies o → IsAtMost r o

  pub first-unique : (a b : Reason) → IsFirst a → IsFirst b → (IsAtMost a b) × (IsAtMost b a)
  first-unique a b fa fb = (fa.first b fb.applies, fb.first a fa.applies)

  role-passes : (r : ℕ) → least_role granted.roles p ≡ Some r → Applies (Role r)
  role-passes r e = least-passes (λ r. is_in r.permissions p) (role_granted roles) (λ r. r.place) principal.roles.items r (λ q. refl) e

  denying-passes : (g : ℕ) → least_denying granted.groups p ≡ Some g → Applies (Group g false)
  denying-passes g e = least-passes (λ g. is_in g.deny p) (group_granted roles groups) (λ g. g.place) principal.groups.items g (λ q. refl) e

  allowing-passes : (g : ℕ) → least_allowing granted.groups p ≡ Some g → Applies (Group g true)
  allowing-passes g e = least-passes (λ g. is_in g.allow p) (group_granted roles groups) (λ g. g.place) principal.groups.items g (λ q. refl) e

  -- the roles of the group at a place, as the rule finds it
  role-at : (g : ℕ) → least_with_role granted.groups p ≡ Some g → role_at granted.groups p g ≡ least_role (group_granted roles groups g).roles p
  role-at g e = ap (option_and_then (λ g. least_role g.roles p)) (find-made (group_granted roles groups) (λ g. g.place) principal.groups.items g (λ q. refl) (least-among (λ g. is_some (least_role g.roles p)) (λ g. g.place) granted.groups g e))

  group_role-passes : (x : Reason) → group_role granted.groups p ≡ Some x → Applies x
  group_role-passes x e = by (least_with_role granted.groups p) refl e
    where
      by : (o : Option ℕ) → least_with_role granted.groups p ≡ o → option_and_then (λ g. option_map (GroupRole g) (role_at granted.groups p g)) o ≡ Some x → Applies x
      by None none e = cc
      by (Some g) some e = pick (least_role (group_granted roles groups g).roles p) refl (ap (option_map (GroupRole g)) (sym (role-at g some)) ∙ e)
        where
          pick : (o : Option ℕ) → least_role (group_granted roles groups g).roles p ≡ o → option_map (GroupRole g) o ≡ Some x → Applies x
          pick None none e = cc
          pick (Some r) found e =
              let its = least-passes (λ g. is_some (least_role g.roles p)) (group_granted roles groups) (λ g. g.place) principal.groups.items g (λ q. refl) some in
              let role = least-passes (λ r. is_in r.permissions p) (role_granted roles) (λ r. r.place) (group_roles groups g) r (λ q. refl) found in
              let same : GroupRole g r ≡ x = cc in
              rw (← same) (its.0, role.0, role.1)

  -- a group with a role is found, at a place that is not behind
  pub record IsRoleFound (g r : ℕ) : Type 0 where
    pub group : ℕ
    pub role : ℕ
    pub is : group_role granted.groups p ≡ Some (GroupRole group role)
    pub low : IsAtMost (GroupRole group role) (GroupRole g r)

  group_role-found : (g r : ℕ) → Applies (GroupRole g r) → IsRoleFound g r
  group_role-found g r applies =
      let role = least-found (λ r. is_in r.permissions p) (role_granted roles) (λ r. r.place) (group_roles groups g) r (λ q. refl) applies.1 applies.2 in
      let group = least-found (λ g. is_some (least_role g.roles p)) (group_granted roles groups) (λ g. g.place) principal.groups.items g (λ q. refl) applies.0 (ap is_some role.is) in
      by group (least_role (group_granted roles groups group.lowest).roles p) refl
    where
      low : (a b : ℕ) → a ≤ g → (a ≡ g → b ≤ r) → IsAtMost (GroupRole a b) (GroupRole g r)
      low a b first second = grind (arith, nat_tests)

      by : (group : IsFound (least_with_role granted.groups p) g) (o : Option ℕ) → least_role (group_granted roles groups group.lowest).roles p ≡ o → IsRoleFound g r
      by group None none =
          let its = least-passes (λ g. is_some (least_role g.roles p)) (group_granted roles groups) (λ g. g.place) principal.groups.items group.lowest (λ q. refl) group.is in
          absurd (true≢false (sym its.1 ∙ ap is_some none))
      by group (Some b) some = record {
        group = group.lowest;
        role = b;
        is = ap (option_and_then (λ g. option_map (GroupRole g) (role_at granted.groups p g))) group.is ∙ ap (option_map (GroupRole group.lowest)) (role-at group.lowest group.is ∙ some);
        low = low group.lowest b group.low (λ same.
            let role = least-found (λ r. is_in r.permissions p) (role_granted roles) (λ r. r.place) (group_roles groups g) r (λ q. refl) applies.1 applies.2 in
            let its : Some b ≡ Some role.lowest = sym some ∙ ap (λ g. least_role (group_granted roles groups g).roles p) same ∙ role.is in
            let one : b ≡ role.lowest = cc in
            let low = role.low in omega arith);
      }

  -- a rule before others
  rule-applies : (o : Option Reason) (w : Reason) → ((x : Reason) → o ≡ Some x → Applies x) → Applies w → Applies (unwrap_or o w)
  rule-applies None w passes rest = rest
  rule-applies (Some x) w passes rest = passes x refl

  ruled : (b : Bool) (r x : Reason) → (b ≡ true → Applies r) → rule b r ≡ Some x → Applies x
  ruled true r x passes e = let same : r ≡ x = cc in rw (← same) (passes refl)
  ruled false r x passes e = cc

  mapped : (f : ℕ → Reason) (o : Option ℕ) (x : Reason) → ((q : ℕ) → o ≡ Some q → Applies (f q)) → option_map f o ≡ Some x → Applies x
  mapped f None x passes e = cc
  mapped f (Some q) x passes e = let same : f q ≡ x = cc in rw (← same) (passes q refl)

  pub reason-applies : Applies (reason granted p)
  reason-applies =
      rule-applies (rule (is_in granted.deny p) (Own false)) _ (λ x. ruled (is_in granted.deny p) (Own false) x (λ e. e))
      (rule-applies (rule (is_in granted.allow p) (Own true)) _ (λ x. ruled (is_in granted.allow p) (Own true) x (λ e. e))
      (rule-applies (option_map Role (least_role granted.roles p)) _ (λ x. mapped Role (least_role granted.roles p) x role-passes)
      (rule-applies (option_map (λ g. Group g false) (least_denying granted.groups p)) _ (λ x. mapped (λ g. Group g false) (least_denying granted.groups p) x denying-passes)
      (rule-applies (option_map (λ g. Group g true) (least_allowing granted.groups p)) _ (λ x. mapped (λ g. Group g true) (least_allowing granted.groups p) x allowing-passes)
      (rule-applies (group_role granted.groups p) Nothing group_role-passes tt)))))

  rule-skipped : (o : Option Reason) (w r : Reason) → ((x : Reason) → o ≡ Some x → IsAtMost x r) → IsAtMost w r → IsAtMost (unwrap_or o w) r
  rule-skipped None w r early rest = rest
  rule-skipped (Some x) w r early rest = early x refl

  rule-hit : (o : Option Reason) (w r x : Reason) → o ≡ Some x → IsAtMost x r → IsAtMost (unwrap_or o w) r
  rule-hit o w r x e low = rw e low

  early-rule : (b : Bool) (own r x : Reason) → IsAtMost own r → rule b own ≡ Some x → IsAtMost x r
  early-rule true own r x low e = let same : own ≡ x = cc in rw (← same) low
  early-rule false own r x low e = cc

  early-mapped : (f : ℕ → Reason) (o : Option ℕ) (r x : Reason) → ((q : ℕ) → IsAtMost (f q) r) → option_map f o ≡ Some x → IsAtMost x r
  early-mapped f None r x low e = cc
  early-mapped f (Some q) r x low e = let same : f q ≡ x = cc in rw (← same) (low q)

  before-nothing : (w : Reason) → IsAtMost w Nothing
  before-nothing Public = refl
  before-nothing (Own false) = refl
  before-nothing (Own true) = refl
  before-nothing (Role r) = refl
  before-nothing (Group g false) = refl
  before-nothing (Group g true) = refl
  before-nothing (GroupRole g r) = refl
  before-nothing Nothing = refl

  role-low : (a b : ℕ) → a ≤ b → IsAtMost (Role a) (Role b)
  role-low a b low = grind (arith, nat_tests)

  group-low : (a b : ℕ) (allowed : Bool) → a ≤ b → IsAtMost (Group a allowed) (Group b allowed)
  group-low a b true low = grind (arith, nat_tests)
  group-low a b false low = grind (arith, nat_tests)

  pub reason-first : (o : Reason) → Applies o → IsAtMost (reason granted p) o
  reason-first Public applies = absurd applies
  reason-first (Own false) applies = rule-hit (rule (is_in granted.deny p) (Own false)) _ (Own false) (Own false) (ap (λ b. rule b (Own false)) applies) refl
  reason-first (Own true) applies =
      rule-skipped (rule (is_in granted.deny p) (Own false)) _ (Own true) (λ x. early-rule (is_in granted.deny p) (Own false) (Own true) x refl)
      (rule-hit (rule (is_in granted.allow p) (Own true)) _ (Own true) (Own true) (ap (λ b. rule b (Own true)) applies) refl)
  reason-first (Role r) applies =
      let found = least-found (λ r. is_in r.permissions p) (role_granted roles) (λ r. r.place) principal.roles.items r (λ q. refl) applies.0 applies.1 in
      rule-skipped (rule (is_in granted.deny p) (Own false)) _ (Role r) (λ x. early-rule (is_in granted.deny p) (Own false) (Role r) x refl)
      (rule-skipped (rule (is_in granted.allow p) (Own true)) _ (Role r) (λ x. early-rule (is_in granted.allow p) (Own true) (Role r) x refl)
      (rule-hit (option_map Role (least_role granted.roles p)) _ (Role r) (Role found.lowest) (ap (option_map Role) found.is) (role-low found.lowest r found.low)))
  reason-first (Group g false) applies =
      let found = least-found (λ g. is_in g.deny p) (group_granted roles groups) (λ g. g.place) principal.groups.items g (λ q. refl) applies.0 applies.1 in
      let o = Group g false in
      rule-skipped (rule (is_in granted.deny p) (Own false)) _ o (λ x. early-rule (is_in granted.deny p) (Own false) o x refl)
      (rule-skipped (rule (is_in granted.allow p) (Own true)) _ o (λ x. early-rule (is_in granted.allow p) (Own true) o x refl)
      (rule-skipped (option_map Role (least_role granted.roles p)) _ o (λ x. early-mapped Role (least_role granted.roles p) o x (λ q. refl))
      (rule-hit (option_map (λ g. Group g false) (least_denying granted.groups p)) _ o (Group found.lowest false) (ap (option_map (λ g. Group g false)) found.is) (group-low found.lowest g false found.low))))
  reason-first (Group g true) applies =
      let found = least-found (λ g. is_in g.allow p) (group_granted roles groups) (λ g. g.place) principal.groups.items g (λ q. refl) applies.0 applies.1 in
      let o = Group g true in
      rule-skipped (rule (is_in granted.deny p) (Own false)) _ o (λ x. early-rule (is_in granted.deny p) (Own false) o x refl)
      (rule-skipped (rule (is_in granted.allow p) (Own true)) _ o (λ x. early-rule (is_in granted.allow p) (Own true) o x refl)
      (rule-skipped (option_map Role (least_role granted.roles p)) _ o (λ x. early-mapped Role (least_role granted.roles p) o x (λ q. refl))
      (rule-skipped (option_map (λ g. Group g false) (least_denying granted.groups p)) _ o (λ x. early-mapped (λ g. Group g false) (least_denying granted.groups p) o x (λ q. refl))
      (rule-hit (option_map (λ g. Group g true) (least_allowing granted.groups p)) _ o (Group found.lowest true) (ap (option_map (λ g. Group g true)) found.is) (group-low found.lowest g true found.low)))))
  reason-first (GroupRole g r) applies =
      let found = group_role-found g r applies in
      let o = GroupRole g r in
      rule-skipped (rule (is_in granted.deny p) (Own false)) _ o (λ x. early-rule (is_in granted.deny p) (Own false) o x refl)
      (rule-skipped (rule (is_in granted.allow p) (Own true)) _ o (λ x. early-rule (is_in granted.allow p) (Own true) o x refl)
      (rule-skipped (option_map Role (least_role granted.roles p)) _ o (λ x. early-mapped Role (least_role granted.roles p) o x (λ q. refl))
      (rule-skipped (option_map (λ g. Group g false) (least_denying granted.groups p)) _ o (λ x. early-mapped (λ g. Group g false) (least_denying granted.groups p) o x (λ q. refl))
      (rule-skipped (option_map (λ g. Group g true) (least_allowing granted.groups p)) _ o (λ x. early-mapped (λ g. Group g true) (least_allowing granted.groups p) o x (λ q. refl))
      (rule-hit (group_role granted.groups p) Nothing o (GroupRole found.group found.role) found.is found.low)))))
  reason-first Nothing applies = before-nothing (reason granted p)

  pub reason-is-first : IsFirst (reason granted p)
  reason-is-first = record { applies = reason-applies; first = reason-first }
