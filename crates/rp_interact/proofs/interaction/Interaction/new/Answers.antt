use Rattle.std.proofs.Common.{◌≡◌, refl, ◌+◌, ◌++◌, ◌∷◌, [], sym, ap, ◌∙◌, length, take, arith, None, Some, find}
use Rattle.std.proofs.lemmas.List.{take_all, take_more}
use Rattle.std.proofs.lemmas.List.Elements.{All-nil}
use Rattle.rp_base.specs.Same.{same_text}
use Rattle.rp_decl.specs.Document.{public as zope_public}
use Rattle.rp_decl.specs.Places.{IsGroupWithin, IsPrincipalWithin, IsRoleWithin}
use Rattle.rp_decl.specs.View.{declarations_view, perm_text}
use Rattle.rp_interact.specs.Why as text
use Rattle.std.specs.List.{All, position, slice_get}
use Rattle.std.specs.Option.{option_and_then}
use Rattle.rp_interact.specs.Granted.{granted_of, reasons_of}
use Rattle.rp_interact.proofs.Naming.{AreNamed, find-within, named-length, named-more, none-unknown, one-unknown, principal_of, table_of}
use Rattle.rp_interact.proofs.Answering.{has-agrees, why-at-agrees}
use Rattle.rp_interact.proofs.interaction.Interaction.new.Goals as goal

pub new-requires : goal.new-requires
new-requires c =
    let d = c.args.decl.now in
    let permissions = c.permissions-permissions.ensures in
    let roles = c.roles-roles.ensures.value in
    let groups = c.groups-groups.ensures.value in
    let its = find-within (IsPrincipalWithin (length d.permissions) (length d.roles) (length d.groups)) _ c.principals-principals.result.now c.in-Some.principal.now c.principals-principals.ensures.within (sym c.in-Some.ensures) in
    record {
      roles = rw permissions c.roles-roles.ensures.within;
      groups = rw (permissions, roles) c.groups-groups.ensures.within;
      principal = rw (permissions, roles, groups) its;
    }

pub loop-id-preserved : goal.loop-id-preserved
loop-id-preserved c =
    let d = c.args.decl.now in
    let who = c.args.who.now in
    let i = c.loop-id.id-index in
    let id = c.id-item.result in
    let found : principal_of d id ≡ Some c.in-Some.principal.now = ap (find (λ p. same_text id p.id)) (sym c.principals-principals.ensures.value) ∙ sym c.in-Some.ensures in
    let named : AreNamed d (take (i + 1) who) (c.loop-id.reasons.items ++ table_of d c.in-Some.principal.now ∷ []) = named-more d who i id c.in-Some.principal.now c.loop-id.reasons.items (omega arith) c.id-item.is found c.loop-id.invariant.1 in
    let ids : c.push.new.self.items ≡ take (i + 1) who =
    c.in_ok-push.ensures.items ∙ (λ k. c.loop-id.invariant.0 k ++ (c.in_ok-copy-2.ensures ∙ c.id-item.is) k ∷ []) ∙ sym (take_more who i id (omega arith)) in
    let reasons : c.push-in-loop-id.new.self.items ≡ c.loop-id.reasons.items ++ table_of d c.in-Some.principal.now ∷ [] =
    c.in_ok-push-2.ensures.items ∙ ap (λ g. c.loop-id.reasons.items ++ g ∷ []) (c.in_ok-new.ensures ∙ (λ k. reasons_of (length (c.permissions-permissions.ensures k)) (granted_of (c.roles-roles.ensures.value k) (c.groups-groups.ensures.value k) c.in-Some.principal.now))) in
    (ids, rw reasons named)

pub returns-in_default-clause-refused : goal.returns-in_default-clause-refused
returns-in_default-clause-refused c names =
    let d = c.args.decl.now in
    let id = c.id-item.result in
    let none : principal_of d id ≡ None = ap (find (λ p. same_text id p.id)) (sym c.principals-principals.ensures.value) ∙ sym c.in_default.ensures in
    one-unknown names d c.args.who.now c.loop-id.id-index id c.loop-id.reasons.items (omega arith) c.id-item.is c.loop-id.invariant.1 none ∙ ap Some (sym c.in_ok-copy.ensures)

pub invariant_of-result : goal.invariant_of-result
invariant_of-result c =
    let d = c.args.decl.now in
    let ids : c.loop-id.ids.items ≡ take c.loop-id.id-index c.args.who.now = c.loop-id.invariant.0 in
    rw c.in_ok-kept.ensures (record {
      as_many = ap length ids ∙ named-length d (take c.loop-id.id-index c.args.who.now) c.loop-id.reasons.items c.loop-id.invariant.1;
      right = All-nil _;
      few = omega arith;
      room_is = refl;
    })

pub returns-clause-known : goal.returns-clause-known
returns-clause-known c names =
    let all : take c.loop-id.id-index c.args.who.now ≡ c.args.who.now = take_all c.loop-id.id-index c.args.who.now (omega arith) in
    let named : AreNamed c.args.decl.now c.args.who.now c.loop-id.reasons.items = rw (← all) c.loop-id.invariant.1 in
    none-unknown names c.args.decl.now c.args.who.now c.loop-id.reasons.items named

pub returns-clause-answers : goal.returns-clause-answers
returns-clause-answers c names ordered =
    let d = c.args.decl.now in
    let all : take c.loop-id.id-index c.args.who.now ≡ c.args.who.now = take_all c.loop-id.id-index c.args.who.now (omega arith) in
    let named : AreNamed d c.args.who.now c.loop-id.reasons.items = rw (← all) c.loop-id.invariant.1 in
    let everybody = c.public_place-everybody.ensures ∙ ap (position (λ t. same_text t zope_public)) c.permissions-permissions.ensures in
    let roles : All (IsRoleWithin (length d.permissions)) d.roles = rw (← c.roles-roles.ensures.value) c.roles-roles.ensures.within in
    let groups : All (IsGroupWithin (length d.permissions) (length d.roles)) d.groups = rw (← c.groups-groups.ensures.value) c.groups-groups.ensures.within in
    let principals : All (IsPrincipalWithin (length d.permissions) (length d.roles) (length d.groups)) d.principals = rw (← c.principals-principals.ensures.value) c.principals-principals.ensures.within in
    let ids : c.loop-id.ids.items ≡ c.args.who.now = c.loop-id.invariant.0 ∙ all in
    record {
      has = λ p here. has-agrees names d ordered roles groups principals c.public_place-everybody.result everybody p here c.args.who.now c.loop-id.reasons.items named ∙ ap (λ ids. text.has_all (declarations_view names d) ids (perm_text d.permissions p)) (sym ids);
      why = λ k p here. why-at-agrees names d ordered roles groups principals c.public_place-everybody.result everybody p here c.args.who.now c.loop-id.reasons.items k named ∙ ap (λ ids. option_and_then (λ id. text.why_of (declarations_view names d) id (perm_text d.permissions p)) (slice_get ids k)) (sym ids);
    }
