-- Loading comes to the world in which the exposed names have their values, or to the least of them that has none.
use Rattle.std.proofs.Common.{◌≡◌, ℕ, List, [], ◌∷◌, length, map, position, Option, Some, None, option_map, Ok, Err, refl, sym, ap, subst, ◌∙◌}
use Rattle.std.specs.List.{All}
use Rattle.std.proofs.lemmas.List.Elements.{All-head, All-nil, All-tail}
use Rattle.std.proofs.lemmas.List.{length-map}
use Rattle.rp_base.specs.Names.{HoldsEachOnce}
use Rattle.rp_base.specs.declared.value.Name.{Name}
use Rattle.rp_base.specs.declared.value.Oid.{Oid}
use Rattle.rp_base.specs.declared.value.Value.{Value}
use Rattle.rp_decl.specs.Order.{least}
use Rattle.rp_decl.specs.Places.{IsHeld}
use Rattle.rp_decl.specs.View.{declarations_view, name_text}
use Rattle.rp_meaning.specs.BuiltIn.{name_of}
use Rattle.rp_meaning.specs.Load.{exposed_value, loaded, not_bound, unbound, world_of}
use Rattle.rp_meaning.specs.Scopes.{held, slot_in}
use Rattle.rp_meaning.specs.Sessions as sessions
use Rattle.rp_meaning.specs.State.{State}
use Rattle.rp_proxy.specs.Faithful.{IsFaithful}
use Rattle.rp_proxy.specs.declared.world.World.{World}
use Rattle.rp_store.specs.Heap.{Owned, changed_at, content_at, owner_at}
use Rattle.rp_store.proofs.CallerLemmas.{content_at-changed_at, owner_at-changed_at}
use Rattle.rp_store.specs.Key.{same_name}
use Rattle.rp_store.specs.Object.{Content}
use Rattle.rp_store.specs.Store.{Cells}
use Rattle.rp_store.specs.Writers.{on_slots}
use Rattle.rp_trail.specs.View.{IsEntryHeld, trail_view}
use Rattle.rp_trail.specs.declared.entry.Entry.{Entry as PlacedEntry}
use Rattle.rp_proxy.specs.Held.{AreNamed}
use Rattle.rp_world.proofs.Filled.{changed-named}
use Rattle.rp_world.proofs.Seen.{name-back}
use Rattle.rp_world.specs.PlacingSteps.{exposed_in, first, global_value}
use Rattle.rp_world.specs.Worlds.{ComesTo, HasExposed, IsMomentOf, world_view}

loaded-bound : (cells : ℕ) (exposed : List (Option Value)) (s : State) → least (unbound s.declarations.expose exposed) ≡ None → loaded cells exposed s ≡ Ok (world_of cells exposed s)
loaded-bound cells exposed s h = rw h refl

loaded-unbound : (cells : ℕ) (exposed : List (Option Value)) (s : State) (word : List ℕ) → least (unbound s.declarations.expose exposed) ≡ Some word → loaded cells exposed s ≡ Err (not_bound word)
loaded-unbound cells exposed s word h = rw h refl

-- the value of a word among the globals
abbrev value_in : List Name → Oid → List Owned → List (List ℕ) → List ℕ → Option Value
value_in locals globals heap names word = held heap (option_map (slot_in globals) (position (same_name (name_of names word)) locals))

module _ (names : List (List ℕ)) (once : HoldsEachOnce names) (locals : List Name) (globals : Oid) (heap : List Owned) where
  values-seen : (ns : List Name) → All (IsHeld names) ns → map (value_in locals globals heap names) (map (name_text names) ns) ≡ map (global_value locals globals heap) ns
  values-seen [] here = refl
  values-seen (n ∷ ns) here =
      let back = name-back names once n (All-head (IsHeld names) n ns here) in
      let rest = values-seen ns (All-tail (IsHeld names) n ns here) in
      λ k. held heap (option_map (slot_in globals) (position (same_name (back k)) locals)) ∷ rest k

module _ (w : World) (faithful : IsFaithful w) (locals : List Name) (globals : Oid) (cells : ℕ) where
  abbrev pub values : List (Option Value)
  values = map (global_value locals globals w.store.heap) w.decl.expose

  abbrev pub words : List (List ℕ)
  words = map (name_text w.names) w.decl.expose

  module _ (s : State) (m : IsMomentOf w s) where
    moment-values : map (exposed_value locals globals s) s.declarations.expose ≡ values
    moment-values =
        (λ k. map (value_in locals globals (m.heap k) (m.names k)) (m.declarations k).expose)
        ∙ values-seen w.names faithful.read.distinct locals globals w.store.heap w.decl.expose faithful.read.held.expose

    moment-least : least (unbound s.declarations.expose values) ≡ least (unbound words values)
    moment-least = ap (λ (ds : List (List ℕ)). least (unbound ds values)) (λ k. (m.declarations k).expose)

  pub comes-unbound : (word : List ℕ) → least (unbound words values) ≡ Some word → ComesTo locals globals cells w (Err (not_bound word))
  comes-unbound word found s m =
      ap (λ (vs : List (Option Value)). loaded cells vs s) (moment-values s m) ∙ loaded-unbound cells values s word (moment-least s m ∙ found)

  -- the world in which they have their values
  module _ (store : Cells) (trail : List PlacedEntry) (stored : store ≡ record (exposed_in w.decl.expose locals globals w.store) { used = 0; limit = cells }) (unlogged : trail ≡ []) where
    abbrev pub shown : World
    shown = record w { store = store; trail = trail }

    abbrev change : Content → Content
    change = on_slots (λ _. values)

    heap-is : store.heap ≡ changed_at w.store.heap first change
    heap-is = ap (λ (s : Cells). s.heap) stored

    world-seen : (s : State) (m : IsMomentOf w s) → world_of cells values s ≡ world_view shown
    world-seen s m =
        (λ k. record {
          store = record { heap = changed_at (m.heap k) first change; used = 0; limit = cells };
          log = [];
          names = m.names k;
          declarations = m.declarations k;
          sessions = [];
        })
        ∙ sym (λ k. record {
          store = stored k;
          log = trail_view w.names w.decl.permissions (unlogged k);
          names = w.names;
          declarations = declarations_view w.names w.decl;
          sessions = [];
        })

    pub comes-so : None ≡ least (unbound words values) → ComesTo locals globals cells w (Ok (world_view shown))
    comes-so none s m =
        ap (λ (vs : List (Option Value)). loaded cells vs s) (moment-values s m)
        ∙ loaded-bound cells values s (moment-least s m ∙ sym none)
        ∙ ap (λ (u : sessions.World). Ok u) (world-seen s m)

    pub faithful-so : IsFaithful shown
    faithful-so = record {
      read = faithful.read;
      ordered = faithful.ordered;
      rows = faithful.rows;
      rows_within = faithful.rows_within;
      grants = faithful.grants;
      classes = subst (AreNamed w.names) (sym heap-is) (changed-named w.names w.store.heap 0 (λ _. values) faithful.classes);
      entries = subst (λ (es : List PlacedEntry). All (IsEntryHeld w.names w.decl.permissions) es) (sym unlogged) (All-nil (IsEntryHeld w.names w.decl.permissions));
    }

    pub exposed-so : HasExposed (length w.decl.expose) w.store.heap → HasExposed (length w.decl.expose) store.heap
    exposed-so has = record {
      slots = values;
      many = length-map w.decl.expose (global_value locals globals w.store.heap);
      content = ap (λ (h : List Owned). content_at h first) heap-is ∙ content_at-changed_at w.store.heap first change ∙ ap (option_map change) has.content;
      owner = ap (λ (h : List Owned). owner_at h first) heap-is ∙ owner_at-changed_at w.store.heap first first change ∙ has.owner;
    }
