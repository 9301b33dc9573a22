-- The program's records, where each is shown.
use Rattle.std.proofs.Common.{◌≡◌, ℕ, List, [], map, length, codes, refl, sym, ap, subst, ◌∙◌}
use Rattle.std.specs.List.{All}
use Rattle.std.proofs.lemmas.List.{length-map}
use Rattle.toml.specs.Data.{Members}
use Rattle.rp_decl.specs.Document.{class_of, each_at, group_of, key_text, object_of, principal_of, records_of, role_of}
use Rattle.rp_decl.specs.InOrder.{AreAscending, AreInOrder, IsClassInOrder, IsObjectInOrder}
use Rattle.rp_decl.specs.Places.{IsClassHeld, IsClassWithin, IsClosed, IsGroupWithin, IsHeldBy, IsObjectHeld, IsPrincipalWithin, IsRoleWithin}
use Rattle.rp_decl.specs.Reading.{IsKnownBy, Shows, ShowsClass, ShowsGroup, ShowsName, ShowsObject, ShowsPrincipal, ShowsRole}
use Rattle.rp_decl.specs.Records.{Declarations}
use Rattle.rp_decl.specs.View.{Placed, class_view, declarations_view, group_ids as group_ids_placed, group_view, object_view, principal_view, role_ids as role_ids_placed, role_view}
use Rattle.rp_decl.specs.declared.known_ids.Known.{Known}
use Rattle.rp_decl.proofs.Growth.{Shows-All, Shows-values, Shows-view}
use Rattle.rp_decl.proofs.Shown.{keys-at, names-shown}
use Rattle.rp_base.proofs.CallerLemmas.{map-through}

pub record IsShown (names : List (List ℕ)) (known : Known) (p : Placed) (d : Declarations) : Type 0 where
  pub permissions : p.permissions ≡ d.permissions
  pub expose : Shows (ShowsName names) p.expose d.expose []
  pub module_text : p.module_text ≡ d.module_text
  pub classes : Shows (ShowsClass names known) p.classes d.classes []
  pub roles : Shows (ShowsRole known) p.roles d.roles []
  pub groups : Shows (ShowsGroup known) p.groups d.groups []
  pub principals : Shows (ShowsPrincipal known) p.principals d.principals []
  pub objects : Shows (ShowsObject names) p.objects d.objects []

module _ (names : List (List ℕ)) (known : Known) (p : Placed) (d : Declarations) (by : IsKnownBy known d) (shown : IsShown names known p d) where
  permissions_are : p.permissions ≡ known.permissions
  permissions_are = shown.permissions ∙ sym by.permissions

  roles_are : map (role_view known.permissions) p.roles ≡ d.roles
  roles_are = Shows-view (ShowsRole known) (role_view known.permissions) (λ x y s. s.shown) p.roles d.roles shown.roles

  groups_are : map (group_view known.permissions known.roles) p.groups ≡ d.groups
  groups_are = Shows-view (ShowsGroup known) (group_view known.permissions known.roles) (λ x y s. s.shown) p.groups d.groups shown.groups

  role_ids_are : role_ids_placed p ≡ known.roles
  role_ids_are = sym (map-through (role_view known.permissions) (λ r. r.id) p.roles) ∙ ap (map (λ r. r.id)) roles_are ∙ sym by.roles

  group_ids_are : group_ids_placed p ≡ known.groups
  group_ids_are = sym (map-through (group_view known.permissions known.roles) (λ g. g.id) p.groups) ∙ ap (map (λ g. g.id)) groups_are ∙ sym by.groups

  pub shown-view : declarations_view names p ≡ d
  shown-view =
      let expose = (names-shown names p.expose d.expose shown.expose).0 in
      let classes = ap (λ ps. map (class_view names ps) p.classes) permissions_are ∙ Shows-view (ShowsClass names known) (class_view names known.permissions) (λ x y s. s.shown) p.classes d.classes shown.classes in
      let roles = ap (λ ps. map (role_view ps) p.roles) permissions_are ∙ roles_are in
      let groups = (λ i. map (group_view (permissions_are i) (role_ids_are i)) p.groups) ∙ groups_are in
      let principals = (λ i. map (principal_view (permissions_are i) (role_ids_are i) (group_ids_are i)) p.principals)
      ∙ Shows-view (ShowsPrincipal known) (principal_view known.permissions known.roles known.groups) (λ x y s. s.shown) p.principals d.principals shown.principals in
      let objects = Shows-view (ShowsObject names) (object_view names) (λ x y s. s.shown) p.objects d.objects shown.objects in
      λ i. record {
        permissions = shown.permissions i;
        expose = expose i;
        module_text = shown.module_text i;
        classes = classes i;
        roles = roles i;
        groups = groups i;
        principals = principals i;
        objects = objects i;
      }

  permissions_count : length known.permissions ≡ length p.permissions
  permissions_count = ap length (sym permissions_are)

  roles_count : length known.roles ≡ length p.roles
  roles_count = ap length (sym role_ids_are) ∙ length-map p.roles (λ r. r.id)

  groups_count : length known.groups ≡ length p.groups
  groups_count = ap length (sym group_ids_are) ∙ length-map p.groups (λ g. g.id)

  pub shown-closed : IsClosed p
  shown-closed = record {
    classes = subst (λ n. All (IsClassWithin n) p.classes) permissions_count (Shows-All (ShowsClass names known) (IsClassWithin (length known.permissions)) (λ x y s. s.within) p.classes d.classes shown.classes);
    roles = subst (λ n. All (IsRoleWithin n) p.roles) permissions_count (Shows-All (ShowsRole known) (IsRoleWithin (length known.permissions)) (λ x y s. s.within) p.roles d.roles shown.roles);
    groups = subst (λ n. All (IsGroupWithin n (length p.roles)) p.groups) permissions_count
        (subst (λ m. All (IsGroupWithin (length known.permissions) m) p.groups) roles_count
        (Shows-All (ShowsGroup known) (IsGroupWithin (length known.permissions) (length known.roles)) (λ x y s. s.within) p.groups d.groups shown.groups));
    principals = subst (λ n. All (IsPrincipalWithin n (length p.roles) (length p.groups)) p.principals) permissions_count
        (subst (λ m. All (IsPrincipalWithin (length known.permissions) m (length p.groups)) p.principals) roles_count
        (subst (λ k. All (IsPrincipalWithin (length known.permissions) (length known.roles) k) p.principals) groups_count
        (Shows-All (ShowsPrincipal known) (IsPrincipalWithin (length known.permissions) (length known.roles) (length known.groups)) (λ x y s. s.within) p.principals d.principals shown.principals)));
  }

  pub shown-held : IsHeldBy names p
  shown-held = record {
    expose = (names-shown names p.expose d.expose shown.expose).1;
    classes = Shows-All (ShowsClass names known) (IsClassHeld names) (λ x y s. s.held) p.classes d.classes shown.classes;
    objects = Shows-All (ShowsObject names) (IsObjectHeld names) (λ x y s. s.held) p.objects d.objects shown.objects;
  }

-- the keys of the tables of a document ascend
pub record KeysAscend (ms : Members) : Type 0 where
  pub classes : AreAscending (each_at key_text (codes "class") ms)
  pub roles : AreAscending (each_at key_text (codes "role") ms)
  pub groups : AreAscending (each_at key_text (codes "group") ms)
  pub principals : AreAscending (each_at key_text (codes "principal") ms)
  pub objects : AreAscending (each_at key_text (codes "object") ms)

pub shown-ordered : (names : List (List ℕ)) (known : Known) (p : Placed) (ms : Members) → IsShown names known p (records_of ms) → AreAscending p.permissions → KeysAscend ms → AreInOrder (records_of ms)
shown-ordered names known p ms shown permissions keys =
    let d = records_of ms in
    record {
      permissions = subst AreAscending shown.permissions permissions;
      classes = rw (keys-at (λ c. c.name) class_of (λ k e. refl) (codes "class") ms) keys.classes;
      rows = Shows-values (ShowsClass names known) IsClassInOrder (λ x y s. s.ordered) p.classes d.classes shown.classes;
      roles = rw (keys-at (λ r. r.id) role_of (λ k e. refl) (codes "role") ms) keys.roles;
      groups = rw (keys-at (λ g. g.id) group_of (λ k e. refl) (codes "group") ms) keys.groups;
      principals = rw (keys-at (λ q. q.id) principal_of (λ k e. refl) (codes "principal") ms) keys.principals;
      objects = rw (keys-at (λ o. o.name) object_of (λ k e. refl) (codes "object") ms) keys.objects;
      fields = Shows-values (ShowsObject names) IsObjectInOrder (λ x y s. s.ordered) p.objects d.objects shown.objects;
    }
