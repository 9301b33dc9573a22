use Rattle.std.proofs.Common.{◌<◌, List, length, refl, sym, ap, subst, ◌∙◌}
use Rattle.rp_base.specs.Names.{HoldsEachOnce}
use Rattle.rp_decl.specs.View.{Placed}
use Rattle.rp_decl.specs.declared.records.ClassDecl.{ClassDecl}
use Rattle.rp_world.proofs.Apart.{apart-objects}
use Rattle.rp_world.proofs.Declared.{classes-declared}
use Rattle.rp_proxy.proofs.LaterStores.{IsFaithful-stored}
use Rattle.rp_proxy.specs.Held.{AreNamed}
use Rattle.rp_proxy.specs.declared.world.Running.{Running}
use Rattle.rp_store.specs.Store.{Cells}
use Rattle.rp_world.specs.PlacingSteps.{TellsPlaces, declared_placed, filled, nothing}
use Rattle.rp_world.specs.Worlds.{HasExposed}
use Rattle.rp_world.proofs.Filled.{exposed-there, filled-named, scope-at, scope-behind}
use Rattle.rp_world.proofs.Laws.{filled-seen, place-seen}
use Rattle.rp_world.proofs.beginning.begin.Goals as goal

pub fill-requires : goal.fill-requires
fill-requires c =
    let known = c.in_ok-world.ensures in
    let w = c.in_ok-world.world in
    let read = known.faithful.read in
    record {
      tells = subst (λ (classes : List ClassDecl). TellsPlaces classes c.in_ok-places.places)
          (c.classes.ensures.value ∙ ap (λ (d : Placed). d.classes) (sym known.decl)) c.in_ok-places.ensures;
      declared = classes-declared w.names w.decl read.distinct read.held read.consistent;
      empty = ap (λ (s : Cells). s.heap) known.store;
    }

pub returns-clause-begins : goal.returns-clause-begins
returns-clause-begins c =
    let names = c.args.names in
    let d = c.args.decl in
    let known = c.in_ok-world.ensures in
    let once = subst HoldsEachOnce known.names known.faithful.read.distinct in
    let apart = apart-objects names d.objects c.requires.ordered.fields in
    record {
      store = c.in_ok-globals.ensures.filled ∙ (λ k. filled (known.decl k) c.args.locals (known.store k)) ∙ filled-seen names d once c.requires.held apart c.args.locals;
      globals = (λ j. record { 0 = c.in_ok-globals.ensures.place j })
          ∙ (λ k. record { 0 = length (declared_placed (known.decl k) (known.store k)).1.heap })
          ∙ (λ j. record { 0 = place-seen names d once c.requires.held apart j });
      names_same = known.names;
      decl_same = known.decl;
      unlogged = known.trail;
      session = ap (λ (r : Running). r.session) known.running;
      who = ap (λ (r : Running). r.interaction.ids) known.running ∙ c.in_ok-interaction.ensures.ids;
      steps = ap (λ (r : Running). r.meter.left) known.running;
      printed = ap (λ (r : Running). r.printed) known.running ∙ c.new-printed.ensures;
    }

pub returns-clause-faithful : goal.returns-clause-faithful
returns-clause-faithful c =
    let known = c.in_ok-world.ensures in
    let w = c.in_ok-world.world in
    let heap = ap (λ (s : Cells). s.heap) c.in_ok-globals.ensures.filled in
    let named = subst (AreNamed w.names) (sym heap) (filled-named w.decl w.store (ap (λ (s : Cells). s.heap) known.store) c.args.locals w.names known.faithful.read.held) in
    IsFaithful-stored w c.fill.new.store named known.faithful

pub returns-clause-exposed : goal.returns-clause-exposed
returns-clause-exposed c =
    let stored = c.in_ok-globals.ensures.filled ∙ (λ k. filled (c.in_ok-world.ensures.decl k) c.args.locals (c.in_ok-world.ensures.store k)) in
    subst (λ (s : Cells). HasExposed (length c.args.decl.expose) s.heap) (sym stored) (exposed-there c.args.decl nothing refl c.args.locals)

pub returns-clause-scope : goal.returns-clause-scope
returns-clause-scope c =
    let d = c.args.decl in
    let stored = c.in_ok-globals.ensures.filled ∙ (λ k. filled (c.in_ok-world.ensures.decl k) c.args.locals (c.in_ok-world.ensures.store k)) in
    let placed = c.in_ok-globals.ensures.place ∙ (λ k. length (declared_placed (c.in_ok-world.ensures.decl k) (c.in_ok-world.ensures.store k)).1.heap) in
    scope-at d nothing refl c.args.locals c.fill.new.store c.in_ok-globals.globals stored placed

pub returns-clause-behind : goal.returns-clause-behind
returns-clause-behind c =
    let placed = c.in_ok-globals.ensures.place ∙ (λ k. length (declared_placed (c.in_ok-world.ensures.decl k) (c.in_ok-world.ensures.store k)).1.heap) in
    subst (λ n. 0 < n) (sym placed) (scope-behind c.args.decl nothing refl c.args.locals)
