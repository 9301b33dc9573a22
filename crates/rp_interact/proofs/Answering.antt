-- An interaction with the grants of its principals answers as the declarations say.
use Rattle.std.proofs.Common.{◌≡◌, refl, sym, ap, ◌∙◌, ℕ, zero, suc, ◌+◌, ◌<◌, Bool, true, false, cond, ◌||◌, ◌&&◌, List, [], ◌∷◌, map, length, get_or, unwrap_or, Option, Some, None, arith, position}
use Rattle.std.specs.List.{All, list_all, position_from, slice_get}
use Rattle.std.specs.Option.{option_and_then, option_map, option_map_or}
use Rattle.std.proofs.lemmas.List.FromFn.{get_or-map-range_with_len}
use Rattle.std.proofs.lemmas.Iterator.Adapters.{position_from-zero}
use Rattle.std.proofs.lemmas.List.Quantifiers.{position-Some}
use Rattle.rp_base.specs.Same.{same_text}
use Rattle.rp_base.proofs.CallerLemmas.{same_text-equal}
use Rattle.rp_decl.specs.Document.{public as zope_public}
use Rattle.rp_decl.specs.InOrder.{AreInOrder}
use Rattle.rp_decl.specs.Places.{IsGroupWithin, IsPrincipalWithin, IsRoleWithin}
use Rattle.rp_decl.specs.Records.{Declarations}
use Rattle.rp_decl.specs.View.{Placed, declarations_view, group_ids, perm_text, role_ids, text_at}
use Rattle.rp_decl.specs.declared.records.Perm.{Perm}
use Rattle.rp_decl.specs.declared.records.PrincipalDecl.{PrincipalDecl}
use Rattle.rp_interact.specs.Answers.{reason_view}
use Rattle.rp_interact.specs.Granted.{first_rule, granted_of, is_in, least_allowing, least_denying, least_role, reason, rules}
use Rattle.rp_interact.specs.Interacting.{is_everybody, is_yes, reason_at, why_in}
use Rattle.rp_interact.specs.Why as text
use Rattle.rp_interact.specs.declared.reason.Reason.{Reason}
use Rattle.rp_interact.specs.declared.reason.Reason.TheVariants.{Public, Own, Role, Group, GroupRole, Nothing}
use Rattle.rp_interact.proofs.Agreeing.{allowing-agrees, denying-agrees, is_among-places, roles-agree, with-role-agrees}
use Rattle.rp_interact.proofs.Naming.{AreNamed, find-within, principal-named, principal_of, table_of, view_of}
use Rattle.rp_interact.proofs.Orders.{same_text-places}
use Rattle.rp_interact.specs.Why.{rule}

position_from-none : {X : Type 0} (test : X → Bool) (first : ℕ) (xs : List X) → position_from test first xs ≡ None → (k : ℕ) (d : X) → k < length xs → test (get_or xs k d) ≡ false
position_from-none test first [] e k d inside = absurd (omega arith)
position_from-none {X} test first (x ∷ xs) e k d inside = by (test x) refl (position_from-none test (first + 1) xs) e k inside
  where
    by : (b : Bool) → test x ≡ b → (position_from test (first + 1) xs ≡ None → (k : ℕ) (d : X) → k < length xs → test (get_or xs k d) ≡ false) → cond b (Some first) (position_from test (first + 1) xs) ≡ None
        → (k : ℕ) → k < suc (length xs) → test (get_or (x ∷ xs) k d) ≡ false
    by true here later e k inside = cc
    by false here later e zero inside = here
    by false here later e (suc k) inside = later e k d (omega arith)

rule-view : (d : Placed) (b : Bool) (r : Reason) → option_map (reason_view d) (rule b r) ≡ text.rule b (reason_view d r)
rule-view d true r = refl
rule-view d false r = refl

first-view : (d : Placed) (o : Option Reason) (r : Reason) → reason_view d (unwrap_or o r) ≡ unwrap_or (option_map (reason_view d) o) (reason_view d r)
first-view d None r = refl
first-view d (Some x) r = refl

map-view : {A B C : Type 0} (f : A → B) (g : B → C) (o : Option A) → option_map g (option_map f o) ≡ option_map (λ x. g (f x)) o
map-view f g None = refl
map-view f g (Some x) = refl

rules-view : (d : Placed) (rs : List (Option Reason)) → reason_view d (first_rule rs) ≡ text.first_rule (map (option_map (reason_view d)) rs)
rules-view d [] = refl
rules-view d (r ∷ rs) = first-view d r (first_rule rs) ∙ ap (unwrap_or (option_map (reason_view d) r)) (rules-view d rs)

yes-view : (d : Placed) (r : Reason) → text.is_yes (reason_view d r) ≡ is_yes r
yes-view d Public = refl
yes-view d (Own allowed) = refl
yes-view d (Role r) = refl
yes-view d (Group g allowed) = refl
yes-view d (GroupRole g r) = refl
yes-view d Nothing = refl

module _ (names : List (List ℕ)) (d : Placed) (ordered : AreInOrder (declarations_view names d)) (roles_within : All (IsRoleWithin (length d.permissions)) d.roles) (groups_within : All (IsGroupWithin (length d.permissions) (length d.roles)) d.groups)
    (principals_within : All (IsPrincipalWithin (length d.permissions) (length d.roles) (length d.groups)) d.principals) (everybody : Option ℕ) (found : everybody ≡ position (λ t. same_text t zope_public) d.permissions) (p : Perm) (here : p.0 < length d.permissions) where
  abbrev said : Declarations
  said = declarations_view names d

  abbrev asked : List ℕ
  asked = perm_text d.permissions p

  everybody-agrees : is_everybody everybody p ≡ same_text asked zope_public
  everybody-agrees = by everybody found
    where
      by : (o : Option ℕ) → o ≡ position (λ t. same_text t zope_public) d.permissions → is_everybody o p ≡ same_text asked zope_public
      by None e = sym (position_from-none (λ t. same_text t zope_public) 0 d.permissions (sym (position_from-zero (λ t. same_text t zope_public) d.permissions) ∙ sym e) p.0 [] here)
      by (Some i) e =
          let stands = position-Some (λ t. same_text t zope_public) d.permissions i [] (sym e) in
          let its : text_at d.permissions i ≡ zope_public = same_text-equal _ _ stands.1 in
          sym (same_text-places d.permissions p.0 i ordered.permissions here stands.0) ∙ ap (same_text asked) its

  -- the reason in the table is the one that the rules give
  table-reason : (pd : PrincipalDecl) → reason_at (table_of d pd) p ≡ reason (granted_of d.roles d.groups pd) p
  table-reason pd = get_or-map-range_with_len (λ q. reason (granted_of d.roles d.groups pd) (record { 0 = q })) 0 (length d.permissions) p.0 p.0 Nothing here (omega arith)

  -- the rules behind the first one
  rules-agree : (pd : PrincipalDecl) → IsPrincipalWithin (length d.permissions) (length d.roles) (length d.groups) pd
      → reason_view d (reason_at (table_of d pd) p)
      ≡ text.first_rule (text.rules said (view_of d pd) asked)
  rules-agree pd within =
      let g = granted_of d.roles d.groups pd in
      let deny = rule-view d (is_in g.deny p) (Own false) ∙ ap (λ b. text.rule b (text.own false)) (sym (is_among-places d.permissions pd.deny.items p ordered.permissions within.deny here)) in
      let allow = rule-view d (is_in g.allow p) (Own true) ∙ ap (λ b. text.rule b (text.own true)) (sym (is_among-places d.permissions pd.allow.items p ordered.permissions within.allow here)) in
      let roles = map-view Role (reason_view d) (least_role g.roles p) ∙ sym (map-view (text_at (role_ids d)) text.role (least_role g.roles p)) ∙ ap (option_map text.role) (sym (roles-agree names d ordered roles_within groups_within p here pd.roles.items within.roles_within)) in
      let denying = map-view (λ q. Group q false) (reason_view d) (least_denying g.groups p) ∙ sym (map-view (text_at (group_ids d)) (λ q. text.group q false) (least_denying g.groups p))
      ∙ ap (option_map (λ q. text.group q false)) (sym (denying-agrees names d ordered roles_within groups_within p here pd.groups.items within.groups_within)) in
      let allowing = map-view (λ q. Group q true) (reason_view d) (least_allowing g.groups p) ∙ sym (map-view (text_at (group_ids d)) (λ q. text.group q true) (least_allowing g.groups p))
      ∙ ap (option_map (λ q. text.group q true)) (sym (allowing-agrees names d ordered roles_within groups_within p here pd.groups.items within.groups_within)) in
      let by_role = sym (with-role-agrees names d ordered roles_within groups_within p here pd.groups.items within.groups_within) in
      ap (reason_view d) (table-reason pd) ∙ rules-view d (rules g p) ∙ (λ k. text.first_rule (deny k ∷ allow k ∷ roles k ∷ denying k ∷ allowing k ∷ by_role k ∷ []))

  pub why-agrees : (pd : PrincipalDecl) → IsPrincipalWithin (length d.permissions) (length d.roles) (length d.groups) pd → reason_view d (why_in everybody (table_of d pd) p) ≡ text.why said (view_of d pd) asked
  why-agrees pd within = by (is_everybody everybody p) (same_text asked zope_public) everybody-agrees
    where
      by : (b c : Bool) → b ≡ c → reason_view d (cond b Public (reason_at (table_of d pd) p)) ≡ unwrap_or (text.rule c text.public) (text.first_rule (text.rules said (view_of d pd) asked))
      by true c e = ap (λ b. unwrap_or (text.rule b text.public) (text.first_rule (text.rules said (view_of d pd) asked))) e
      by false c e = rules-agree pd within ∙ ap (λ b. unwrap_or (text.rule b text.public) (text.first_rule (text.rules said (view_of d pd) asked))) e

  -- the principal of an id
  id-agrees : (id : List ℕ) (g : List Reason) → option_map (table_of d) (principal_of d id) ≡ Some g → text.why_of said id asked ≡ Some (reason_view d (why_in everybody g p))
  id-agrees id g e = ap (option_map (λ p. text.why said p asked)) (principal-named names d id) ∙ by (principal_of d id) refl e
    where
      by : (o : Option PrincipalDecl) → principal_of d id ≡ o → option_map (table_of d) o ≡ Some g → option_map (λ p. text.why said p asked) (option_map (view_of d) o) ≡ Some (reason_view d (why_in everybody g p))
      by None found e = cc
      by (Some pd) found e =
          let its : table_of d pd ≡ g = cc in
          let within = find-within (IsPrincipalWithin (length d.permissions) (length d.roles) (length d.groups)) _ d.principals pd principals_within found in
          ap Some (sym (why-agrees pd within)) ∙ ap (λ g. Some (reason_view d (why_in everybody g p))) its

  all-agrees : is_everybody everybody p ≡ false → (ids : List (List ℕ)) (reasons : List (List Reason)) → AreNamed d ids reasons → list_all (λ g. is_yes (reason_at g p)) reasons ≡ list_all (text.id_has said asked) ids
  all-agrees no_rule [] [] named = refl
  all-agrees no_rule [] (g ∷ reasons) named = cc
  all-agrees no_rule (id ∷ ids) [] named = cc
  all-agrees no_rule (id ∷ ids) (g ∷ reasons) named =
      let first : Some g ≡ option_map (table_of d) (principal_of d id) = cc in
      let rest : AreNamed d ids reasons = cc in
      let seen : is_yes (why_in everybody g p) ≡ is_yes (reason_at g p) = ap (λ b. is_yes (cond b Public (reason_at g p))) no_rule in
      let one : text.id_has said asked id ≡ is_yes (reason_at g p) = ap (λ o. option_map_or text.is_yes o false) (id-agrees id g (sym first)) ∙ yes-view d (why_in everybody g p) ∙ seen in
      λ k. sym one k && all-agrees no_rule ids reasons rest k

  pub has-agrees : (ids : List (List ℕ)) (reasons : List (List Reason)) → AreNamed d ids reasons → (is_everybody everybody p || list_all (λ g. is_yes (reason_at g p)) reasons) ≡ text.has_all said ids asked
  has-agrees ids reasons named = by (is_everybody everybody p) refl ∙ ap (λ b. b || list_all (text.id_has said asked) ids) everybody-agrees
    where
      by : (b : Bool) → is_everybody everybody p ≡ b → (b || list_all (λ g. is_yes (reason_at g p)) reasons) ≡ (b || list_all (text.id_has said asked) ids)
      by true e = refl
      by false e = all-agrees e ids reasons named

  pub why-at-agrees : (ids : List (List ℕ)) (reasons : List (List Reason)) (k : ℕ) → AreNamed d ids reasons
      → option_map (reason_view d) (option_map (λ g. why_in everybody g p) (slice_get reasons k)) ≡ option_and_then (λ id. text.why_of said id asked) (slice_get ids k)
  why-at-agrees [] [] k named = refl
  why-at-agrees [] (g ∷ reasons) k named = cc
  why-at-agrees (id ∷ ids) [] k named = cc
  why-at-agrees (id ∷ ids) (g ∷ reasons) zero named = let first : Some g ≡ option_map (table_of d) (principal_of d id) = cc in sym (id-agrees id g (sym first))
  why-at-agrees (id ∷ ids) (g ∷ reasons) (suc k) named = let rest : AreNamed d ids reasons = cc in why-at-agrees ids reasons k rest
