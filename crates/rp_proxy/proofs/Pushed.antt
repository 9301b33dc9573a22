-- The world after an entry was pushed.
use Rattle.std.proofs.Common.{◌≡◌, ℕ, Bool, true, false, nat_lt, ◌<◌, Result, Ok, Err, ◌+◌, ◌≤◌, refl, length, [], ◌∷◌, ◌++◌, Option, Some, ap, subst, sym, ◌∙◌, unwrap_or}
use Rattle.std.proofs.lemmas.Bool.{ltb-false, ltb-true}
use Rattle.std.specs.Option.{option_map_or}
use Rattle.rp_base.specs.declared.value.ClassTag.{ClassTag}
use Rattle.rp_base.specs.declared.value.ClassTag.TheVariants.{Other}
use Rattle.rp_base.specs.declared.value.Oid.{Oid}
use Rattle.rp_base.specs.declared.value.Op.{Op}
use Rattle.rp_base.specs.declared.value.Raised.{Raised}
use Rattle.rp_checker.specs.Answers.{IsRowWithin, IsTagHeld, operation_view, tag_view}
use Rattle.rp_checker.specs.Tables.{row_in}
use Rattle.rp_decl.specs.View.{declarations_view, name_text}
use Rattle.rp_decl.specs.declared.row.Row.{Row}
use Rattle.rp_interact.specs.Interacting.{Interacting}
use Rattle.rp_store.specs.Heap.{tag_at}
use Rattle.rp_store.specs.declared.store.StoreFault.{StoreFault}
use Rattle.rp_store.specs.declared.store.StoreFault.TheVariants.{Cells}
use Rattle.rp_trail.specs.View.{IsEntryHeld, IsVerdictDeclared, is_named, op_name, verdict_view}
use Rattle.rp_trail.specs.declared.entry.Entry.{Entry}
use Rattle.rp_trail.specs.declared.entry.Verdict.{Verdict}
use Rattle.rp_proxy.proofs.Decisions.{decided}
use Rattle.rp_proxy.proofs.LaterNames.{MayGrowTo-refl}
use Rattle.rp_proxy.proofs.Named.{IsTagHeld-tag_at}
use Rattle.rp_proxy.proofs.Verdicts.{class_held, name_held, verdict_declared, verdict_same}
use Rattle.rp_proxy.proofs.Worlds.{after, after-IsFaithful, after-OnlyDecides, asked_keeps, push-held}
use Rattle.rp_proxy.specs.Decide.{class_at, decide_entry, entry_of, go, refusal, refuses, verdict_of}
use Rattle.rp_proxy.specs.Faithful.{IsFaithful, MayGrowTo}
use Rattle.rp_proxy.specs.View.{IsAsked, OnlyDecides, entry_in, monitor_of, verdict_in}
use Rattle.rp_proxy.specs.declared.world.World.{World}

module _ (w : World) (at : Oid) (op : Op) (named : Bool) (class : ClassTag) (row : Row) (v : Verdict) (i : Interacting) (faithful : IsFaithful w)
    (found : tag_at w.store.heap at ≡ Some class) (row_is : row ≡ row_in w.checkers class op) (verdict_is : v ≡ verdict_in w.running.interaction row)
    (asked : IsAsked row w.running.interaction i) (told : named ≡ is_named w.names op) where
  abbrev pub entry : Entry
  entry = record { session = w.running.session; named = named; op = op; class = class; verdict = v }

  abbrev pub pushed : World
  pushed = after w (w.store.used + 1) (w.trail ++ entry ∷ []) i

  keeps : i ≡ record w.running.interaction { kept = i.kept }
  keeps = asked_keeps row w.running.interaction i asked

  stays : MayGrowTo w.names w.names
  stays = MayGrowTo-refl w.names faithful.read.distinct

  tag_is_held : IsTagHeld w.names class
  tag_is_held = IsTagHeld-tag_at w.names w.store.heap at class faithful.classes found

  verdict_means : verdict_view w.decl.permissions v ≡ verdict_of (declarations_view w.names w.decl) w.running.interaction.ids (tag_view w.names class) (operation_view w.names op)
  verdict_means =
      ap (verdict_view w.decl.permissions) (verdict_is ∙ ap (verdict_in w.running.interaction) row_is)
      ∙ verdict_same w.names w.decl w.checkers w.running.interaction class op (faithful.rows w.names stays) faithful.rows_within (faithful.grants w.names stays) tag_is_held

  row_within : IsRowWithin (length w.decl.permissions) row
  row_within = subst (IsRowWithin (length w.decl.permissions)) (sym row_is) (faithful.rows_within class op)

  entry_held : IsEntryHeld w.names w.decl.permissions entry
  entry_held = record {
    name = name_held w.names op named told;
    class = class_held w.names class tag_is_held;
    permission = subst (IsVerdictDeclared w.decl.permissions) (sym verdict_is) (verdict_declared w.decl.permissions w.running.interaction row row_within);
  }

  pub pushed-IsFaithful : IsFaithful pushed
  pushed-IsFaithful = after-IsFaithful w (w.store.used + 1) (w.trail ++ entry ∷ []) i keeps faithful (push-held w.names w.decl.permissions w.trail entry faithful.entries entry_held)

  pub pushed-OnlyDecides : OnlyDecides w pushed
  pushed-OnlyDecides = after-OnlyDecides w (w.store.used + 1) (w.trail ++ entry ∷ []) i keeps

  pub pushed-decided : (r : Option Raised) → w.store.used + 1 ≤ w.store.limit → r ≡ refusal (name_text w.names (op_name op)) (verdict_view w.decl.permissions v)
      → decide_entry (monitor_of w) (entry_of (monitor_of w) (operation_view w.names op) (class_at w.store.heap at)) ≡ (option_map_or refuses r go, monitor_of pushed)
  pushed-decided r few refused = decided w op named class v i told keeps verdict_means at r few found refused

  -- the entry is the one of the operation
  pub pushed-entry : w.trail ++ entry ∷ [] ≡ w.trail ++ entry_in w at op ∷ []
  pushed-entry =
      let class_is : class ≡ class_at w.store.heap at = ap (λ (t : Option ClassTag). unwrap_or t Other) (sym found) in
      let verdict : v ≡ verdict_in w.running.interaction (row_in w.checkers (class_at w.store.heap at) op) =
      verdict_is ∙ ap (verdict_in w.running.interaction) (row_is ∙ ap (λ t. row_in w.checkers t op) class_is) in
      λ k. w.trail ++ record { session = w.running.session; named = told k; op = op; class = class_is k; verdict = verdict k } ∷ []

-- an entry that was pushed met no fault
pub no_fault : ◌≡◌ {A = Result (Unit {0}) StoreFault} (Ok tt) (Err Cells) → ⊥
no_fault e = cc

-- a cell is left where one more is not over the limit
pub cell_left : (limit used : ℕ) → (limit < used + 1 → ⊥) → used + 1 ≤ limit
cell_left limit used few = by (nat_lt limit (used + 1)) refl
  where
    by : (over : Bool) → nat_lt limit (used + 1) ≡ over → used + 1 ≤ limit
    by true e = absurd (few (ltb-true limit (used + 1) e))
    by false e = ltb-false limit (used + 1) e
