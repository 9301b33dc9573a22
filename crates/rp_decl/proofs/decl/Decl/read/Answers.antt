use Rattle.std.proofs.Common.{◌∙◌, ◌<◌, [], ℕ, List, ap, length, subst, sym}
use Rattle.std.specs.List.{All}
use Rattle.rp_base.specs.declared.value.Name.{Name}
use Rattle.toml.specs.View.{members_view}
use Rattle.rp_base.specs.Names.{with_words}
use Rattle.rp_decl.specs.DeclaredWords.{declared_words}
use Rattle.rp_decl.specs.Document.{records_of}
use Rattle.rp_decl.specs.Reading.{Shows, ShowsClass, ShowsName}
use Rattle.rp_decl.specs.View.{Placed}
use Rattle.rp_decl.specs.declared.records.ClassDecl.{ClassDecl}
use Rattle.rp_decl.proofs.Growth.{GrowsTo-refl, GrowsTo-trans, Shows-All}
use Rattle.rp_decl.proofs.Interned.{declared-interned}
use Rattle.rp_decl.proofs.Placed.{IsShown, shown-closed, shown-held, shown-ordered, shown-view}
use Rattle.rp_decl.proofs.Shown.{names-shown}
use Rattle.rp_decl.proofs.decl.Decl.read.Goals as goal
use Rattle.rp_decl.proofs.decl.Decl.read.Goals.{After-into_permissions-permissions}

placed : After-into_permissions-permissions → Placed
placed c = record {
  permissions = c.into_permissions-permissions.result.items;
  expose = c.in_ok-exposed.exposed;
  module_text = c.in_ok-module_text.module_text;
  classes = c.in_ok-classes.classes;
  roles = c.in_ok-roles.roles.items;
  groups = c.in_ok-groups.groups.items;
  principals = c.in_ok-principals.principals.items;
  objects = c.in_ok-objects.objects.items;
}

-- each record is shown by all the names
shown : (c : After-into_permissions-permissions) → IsShown c.records_at-5.new.names c.args.known (placed c) (records_of (members_view c.args.document.now.entries))
unfolding placed
shown c =
    let names = c.records_at-5.new.names in
    let after_principals = c.in_ok-objects.ensures.grown in
    let after_groups = GrowsTo-trans _ _ names c.in_ok-principals.ensures.grown after_principals in
    let after_roles = GrowsTo-trans _ _ names c.in_ok-groups.ensures.grown after_groups in
    let after_classes = GrowsTo-trans _ _ names c.in_ok-roles.ensures.grown after_roles in
    let after_expose = GrowsTo-trans _ _ names c.in_ok-listed.ensures.grown after_classes in
    record {
      permissions = c.into_permissions-permissions.ensures.value ∙ c.requires.known_by.permissions;
      expose = subst (λ (held : List Name). Shows (ShowsName names) held
          (records_of (members_view c.args.document.now.entries)).expose []) (sym c.in_ok-exposed.ensures)
          (c.in_ok-expose.ensures.shown names after_expose);
      module_text = c.in_ok-module_text.ensures ∙ c.text_member.ensures;
      classes = subst (λ (listed : List ClassDecl). Shows (ShowsClass names c.args.known) listed
          (records_of (members_view c.args.document.now.entries)).classes []) (sym c.in_ok-classes.ensures)
          (c.in_ok-listed.ensures.records names after_classes);
      roles = c.in_ok-roles.ensures.records names after_roles;
      groups = c.in_ok-groups.ensures.records names after_groups;
      principals = c.in_ok-principals.ensures.records names after_principals;
      objects = c.in_ok-objects.ensures.records names (GrowsTo-refl names);
    }

-- each exposed name is one of the names so far
pub new-requires : goal.new-requires
new-requires c =
    let names = c.names_at.new.names in
    let expose = c.in_ok-expose.expose.items in
    let held =
    (names-shown names expose (records_of (members_view c.args.document.now.entries)).expose
    (c.in_ok-expose.ensures.shown names (GrowsTo-refl names))).1 in
    subst (λ (n : ℕ). All (λ (name : Name). name.0 < n) expose) (sym c.len.ensures) held

-- and so is the name of each class
pub new-requires-3 : goal.new-requires-3
new-requires-3 c =
    let names = c.records_at.new.names in
    let listed = c.in_ok-listed.listed.items in
    let held = Shows-All (ShowsClass names c.args.known) (λ (class : ClassDecl). class.name.0 < length names)
    (λ x y s. s.held.name) listed (records_of (members_view c.args.document.now.entries)).classes
    (c.in_ok-listed.ensures.records names (GrowsTo-refl names)) in
    subst (λ (n : ℕ). All (λ (class : ClassDecl). class.name.0 < n) listed) (sym c.len-2.ensures) held

pub invariant_of-result : goal.invariant_of-result
unfolding placed
invariant_of-result c = shown-closed c.records_at-5.new.names c.args.known (placed c) _ c.requires.known_by (shown c)

pub returns-clause-declared : goal.returns-clause-declared
unfolding placed
returns-clause-declared c = shown-view c.records_at-5.new.names c.args.known (placed c) _ c.requires.known_by (shown c)

pub returns-clause-held : goal.returns-clause-held
unfolding placed
returns-clause-held c = shown-held c.records_at-5.new.names c.args.known (placed c) _ c.requires.known_by (shown c)

pub returns-clause-ordered : goal.returns-clause-ordered
unfolding placed
returns-clause-ordered c =
    shown-ordered c.records_at-5.new.names c.args.known (placed c) (members_view c.args.document.now.entries) (shown c)
    (rw c.into_permissions-permissions.ensures.value c.into_permissions-permissions.ensures.ascending)
    (record {
      classes = c.in_ok-listed.ensures.ordered;
      roles = c.in_ok-roles.ensures.ordered;
      groups = c.in_ok-groups.ensures.ordered;
      principals = c.in_ok-principals.ensures.ordered;
      objects = c.in_ok-objects.ensures.ordered;
    })

pub returns-clause-words : goal.returns-clause-words
unfolding placed
returns-clause-words c =
    let d = records_of (members_view c.args.document.now.entries) in
    declared-interned d c.args.names.now _ _ _ _ _ _ c.in_ok-expose.ensures.interned c.in_ok-listed.ensures.interned c.in_ok-roles.ensures.interned c.in_ok-groups.ensures.interned
    c.in_ok-principals.ensures.interned c.in_ok-objects.ensures.interned
    ∙ ap (λ said. with_words c.args.names.now (declared_words said)) (sym (returns-clause-declared c))
