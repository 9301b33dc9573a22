-- What lasts while the names grow and the declarations stay.
use Rattle.std.proofs.Common.{◌≡◌, refl, sym, ap, subst, ◌∙◌, ℕ, ◌<◌, List, [], ◌∷◌, map, length, Option, Some, None, option_map, slice_get}
use Rattle.std.specs.Option.{option_and_then}
use Rattle.rp_decl.specs.Places.{GrowsTo}
use Rattle.rp_decl.specs.Records as records
use Rattle.rp_decl.specs.Records.{Declarations}
use Rattle.rp_decl.specs.View.{Placed, declarations_view, group_ids, group_view, perm_text, role_ids, role_view, text_at}
use Rattle.rp_decl.specs.declared.records.GroupDecl.{GroupDecl}
use Rattle.rp_decl.specs.declared.records.RoleDecl.{RoleDecl}
use Rattle.rp_interact.specs.Answers.{AnswersAs, reason_view, why_at}
use Rattle.rp_interact.specs.Interacting.{Interacting}
use Rattle.rp_interact.specs.Why as text
use Rattle.rp_interact.specs.declared.reason.Reason.{Reason}
use Rattle.rp_interact.specs.declared.reason.Reason.TheVariants.{Public, Own, Role, Group, GroupRole, Nothing}
use Rattle.rp_proxy.proofs.LaterNames.{MayGrowTo-trans}
use Rattle.rp_proxy.proofs.LaterRecords.{declarations-later}
use Rattle.rp_proxy.specs.Faithful.{IsFaithful, MayGrowTo}
use Rattle.rp_proxy.specs.declared.world.World.{World}
use Rattle.rp_proxy.specs.declared.world.Running.{Running}
use Rattle.rp_store.specs.Shape.{KeepsShape}
use Rattle.rp_session.specs.Ready.{AnswersIn, IsAtHome}
use Rattle.rp_session.specs.declared.session.Session.{Session}

-- the ids of roles and groups are those of the declarations

roles-seen : (permissions : List (List ℕ)) (rs : List RoleDecl) → map (λ (r : records.Role). r.id) (map (role_view permissions) rs) ≡ map (λ r. r.id) rs
roles-seen permissions [] = refl
roles-seen permissions (r ∷ rs) = ap (λ ids. r.id ∷ ids) (roles-seen permissions rs)

groups-seen : (permissions roles : List (List ℕ)) (gs : List GroupDecl)
    → map (λ (g : records.Group). g.id) (map (group_view permissions roles) gs) ≡ map (λ g. g.id) gs
groups-seen permissions roles [] = refl
groups-seen permissions roles (g ∷ gs) = ap (λ ids. g.id ∷ ids) (groups-seen permissions roles gs)

same-roles : (names : List (List ℕ)) (d e : Placed) → declarations_view names e ≡ declarations_view names d → role_ids e ≡ role_ids d
same-roles names d e same =
    sym (roles-seen e.permissions e.roles) ∙ ap (λ (x : Declarations). map (λ (r : records.Role). r.id) x.roles) same ∙ roles-seen d.permissions d.roles

same-groups : (names : List (List ℕ)) (d e : Placed) → declarations_view names e ≡ declarations_view names d → group_ids e ≡ group_ids d
same-groups names d e same =
    sym (groups-seen e.permissions (role_ids e) e.groups)
    ∙ ap (λ (x : Declarations). map (λ (g : records.Group). g.id) x.groups) same ∙ groups-seen d.permissions (role_ids d) d.groups

reason-same : (d e : Placed) → role_ids e ≡ role_ids d → group_ids e ≡ group_ids d → (r : Reason) → reason_view e r ≡ reason_view d r
reason-same d e roles groups Public = refl
reason-same d e roles groups (Own allowed) = refl
reason-same d e roles groups (Role r) = ap (λ ids. text.role (text_at ids r)) roles
reason-same d e roles groups (Group g allowed) = ap (λ ids. text.group (text_at ids g) allowed) groups
reason-same d e roles groups (GroupRole g r) = λ p. text.group_role (text_at (groups p) g) (text_at (roles p) r)
reason-same d e roles groups Nothing = refl

option-same : {A B : Type 0} (f g : A → B) → ((a : A) → f a ≡ g a) → (o : Option A) → option_map f o ≡ option_map g o
option-same f g e (Some a) = ap Some (e a)
option-same f g e None = refl

-- answers are the same where the declarations say the same
answers-same : (names : List (List ℕ)) (d e : Placed) (i : Interacting) → declarations_view names e ≡ declarations_view names d
    → AnswersAs names d i → AnswersAs names e i
answers-same names d e i same answers =
    let permissions : e.permissions ≡ d.permissions = ap (λ (x : Declarations). x.permissions) same in
    record {
      has = λ permission inside.
          answers.has permission (subst (λ ps. permission.0 < length ps) permissions inside)
          ∙ (λ p. text.has_all (sym same p) i.ids (perm_text (sym permissions p) permission));
      why = λ k permission inside.
          option-same (reason_view e) (reason_view d) (reason-same d e (same-roles names d e same) (same-groups names d e same)) (why_at i k permission)
          ∙ answers.why k permission (subst (λ ps. permission.0 < length ps) permissions inside)
          ∙ (λ p. option_and_then (λ id. text.why_of (sym same p) id (perm_text (sym permissions p) permission)) (slice_get i.ids k));
    }

-- a world went on, with the same declarations and with further names
pub record GoesOn (w v : World) : Type 0 where
  pub declarations : declarations_view v.names v.decl ≡ declarations_view w.names w.decl
  pub names : GrowsTo w.names v.names

pub answers-last : (w v : World) (i : Interacting) → IsFaithful w → IsFaithful v → GoesOn w v → AnswersIn w i → AnswersIn v i
answers-last w v i before after on answers later grows =
    let grown : MayGrowTo w.names v.names = record { grown = on.names; distinct = after.read.distinct } in
    let far : MayGrowTo w.names later = MayGrowTo-trans w.names v.names later grown grows in
    answers-same later w.decl v.decl i
    (declarations-later v.names later grows.grown v.decl after.read.held ∙ on.declarations
    ∙ sym (declarations-later w.names later far.grown w.decl before.read.held))
    (answers later far)

pub home-last : (w v : World) (k : Session) → IsFaithful w → IsFaithful v → GoesOn w v → KeepsShape w.store.heap v.store.heap → IsAtHome w k → IsAtHome v k
home-last w v k before after on shape home = record {
  scope = shape.scope (record { 0 = k.running.session }) k.globals home.scope;
  grants = answers-last w v k.running.interaction before after on home.grants;
  steps = home.steps;
}

-- the world with what another session runs with
pub faithful-with : (w : World) (r : Running) → IsFaithful w → AnswersIn w r.interaction → IsFaithful (record w { running = r })
faithful-with w r faithful answers = record {
  read = faithful.read;
  ordered = faithful.ordered;
  rows = faithful.rows;
  rows_within = faithful.rows_within;
  grants = answers;
  classes = faithful.classes;
  entries = faithful.entries;
}
