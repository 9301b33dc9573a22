-- Loading comes to what the module's statements come to, and then to what becomes of the exposed names.
use Rattle.std.proofs.Common.{◌≡◌, ℕ, List, [], ◌∷◌, length, map, true, is_ok, Result, Ok, Err, IfErr, IfOk, refl, sym, ap, ◌∙◌}
use Rattle.rp_access.specs.Moment.{state_of}
use Rattle.rp_base.specs.Names.{HoldsEachOnce}
use Rattle.rp_base.specs.declared.value.Name.{Name}
use Rattle.rp_base.specs.declared.value.Oid.{Oid}
use Rattle.rp_decl.specs.Places.{IsHeldBy}
use Rattle.rp_decl.specs.Records.{Declarations}
use Rattle.rp_decl.specs.View.{Placed, declarations_view}
use Rattle.rp_engine.specs.Does as does
use Rattle.rp_engine.specs.Moment as engine
use Rattle.rp_engine.specs.Moment.{program_view}
use Rattle.rp_engine.specs.declared.units.Program.{Program as CodeProgram}
use Rattle.rp_engine.specs.declared.units.Units.{Units}
use Rattle.rp_session.specs.Loads.{Breaks, EndsWell, Loads}
use Rattle.rp_session.specs.Runs.{module_in, program_in, run_of}
use Rattle.rp_world.specs.Globals.{placed_names}
use Rattle.rp_meaning.specs.Frame.{Run}
use Rattle.rp_meaning.specs.Load.{Refused, exposed_value, load, loaded, loaded_after, locals_of, module_ended, module_state, not_bound, trusted}
use Rattle.rp_meaning.specs.Meaning as meaning
use Rattle.rp_meaning.specs.Running.{program_frame}
use Rattle.rp_meaning.specs.Sessions as sessions
use Rattle.rp_meaning.specs.State.{State, Outcome, Flow}
use Rattle.rp_meaning.specs.Statements as stmt_forms
use Rattle.rp_ops.specs.Outcome as plain
use Rattle.rp_ops.specs.Outcome.{End}
use Rattle.rp_proxy.specs.declared.world.World.{World}
use Rattle.rp_scope.specs.Scopes as scopes
use Rattle.rp_trail.specs.View.{trail_view}
use Rattle.rp_tree.specs.Statements.{Stmts}
use Rattle.rp_tree.specs.StatementViews.{view_stmt, view_stmts, view_tree}
use Rattle.rp_tree.specs.declared.stmt.Stmt.{Stmt}
use Rattle.rp_tree.specs.declared.stmt.Tree.{Tree}
use Rattle.rp_world.proofs.Refusals.{refuses-on}
use Rattle.rp_world.specs.Worlds.{Begins, ComesTo, Refuses, made_of, world_view}
use Rattle.rp_world.specs.declared.beginning.Begun.{Begun}
use Rattle.rp_world.specs.declared.refusal.NoWorld.{NoWorld}
use Rattle.rp_session.proofs.GlobalNames.{module-is}
use Rattle.rp_session.proofs.ProgramsOn.{run-alone}

-- what the statements of a tree do
stmts-are : (xs : List Stmt) → meaning.stmts (view_stmts xs) ≡ map does.stmt xs
unfolding does.stmt
stmts-are [] = refl
stmts-are (x ∷ xs) = ap (λ ds. meaning.exec (view_stmt x) ∷ ds) (stmts-are xs)

module _ (locals : List Name) (cells : ℕ) (globals : Oid) where
  after-end : (o : Outcome Flow) (s : State) → EndsWell s o → loaded_after locals cells globals o ≡ loaded cells (map (exposed_value locals globals s) s.declarations.expose) s
  after-end o s well =
      by o.answer well.1 ∙ (λ k. loaded cells (map (exposed_value locals globals (well.0 k)) (well.0 k).declarations.expose) (well.0 k))
    where
      by : (answer : Result Flow End) → is_ok answer ≡ true
          → loaded_after locals cells globals (record { answer = answer; state = o.state }) ≡ loaded cells (map (exposed_value locals globals o.state) o.state.declarations.expose) o.state
      by (Ok flow) e = refl
      by (Err end) e = absurd (cc)

  after-break : (o : Outcome Flow) (result : Result sessions.World Refused) → Breaks o result → loaded_after locals cells globals o ≡ result
  after-break o (Err (module_ended e)) h = by o.answer h where
    by : (answer : Result Flow End) → answer ≡ Err e → loaded_after locals cells globals (record { answer = answer; state = o.state }) ≡ Err (module_ended e)
    by (Err end) h = let same : end ≡ e = cc in ap (λ (other : End). Err (module_ended other)) same
    by (Ok flow) h = absurd (cc)
  after-break o (Err (not_bound word)) h = absurd h
  after-break o (Ok w) h = absurd h

module _ (names : List (List ℕ)) (d : Placed) (once : HoldsEachOnce names) (known : IsHeldBy names d) (tree : Tree) (m : CodeProgram) (is : program_view m ≡ program_in (placed_names d) (view_tree tree))
    (of_tree : m.tree.now ≡ tree) (units : Units) (first : units.module ≡ m) (none : units.scripts.items ≡ []) (b : Begun) (locals cells : ℕ) (counted : locals ≡ length (scopes.locals_of m.layouts 0)) (begins : Begins names d locals b) where
  abbrev ds : Declarations
  ds = declarations_view names d

  abbrev body : Stmts
  body = view_tree tree

  abbrev pub run : Run
  run = run_of names ds body []

  abbrev names_of : List Name
  names_of = scopes.locals_of m.layouts 0

  module-same : program_view m ≡ module_in names ds body
  module-same = is ∙ module-is names d once known body

  run-same : engine.run_of run units ≡ run
  run-same = run-alone names ds body units (ap program_view first ∙ module-same) none

  locals-same : locals_of (module_in names ds body) ≡ names_of
  locals-same = sym (ap locals_of module-same)

  state-same : module_state names ds (length names_of) (made_of names d) ≡ state_of b.world
  state-same =
      ap (λ (n : ℕ). module_state names ds n (made_of names d)) (sym counted)
      ∙ sym (λ k. record {
        plain = plain.state_of (begins.store k) (begins.steps k);
        log = trail_view (begins.names_same k) (begins.decl_same k).permissions (begins.unlogged k);
        session = begins.session k;
        who = begins.who k;
        printed = begins.printed k;
        names = begins.names_same k;
        declarations = declarations_view (begins.names_same k) (begins.decl_same k);
      })

  abbrev pub ran : Outcome Flow
  ran = does.block m.tree.now.body.items (program_frame (engine.run_of run units) trusted b.globals) (state_of b.world)

  load-is : load run names ds cells ≡ loaded_after names_of cells b.globals ran
  load-is =
      (λ k. loaded_after (locals-same k) cells (record { 0 = length (made_of names d).1.heap })
      (meaning.block body (program_frame run trusted (record { 0 = length (made_of names d).1.heap })) (module_state names ds (length (locals-same k)) (made_of names d))))
      ∙ (λ k. loaded_after names_of cells (sym begins.globals k) (meaning.block body (program_frame run trusted (sym begins.globals k)) (state-same k)))
      ∙ (λ k. loaded_after names_of cells b.globals (stmt_forms.block (stmts-are tree.body.items k) (program_frame (sym run-same k) trusted b.globals) (state_of b.world)))
      ∙ (λ k. loaded_after names_of cells b.globals (does.block (sym of_tree k).body.items (program_frame (engine.run_of run units) trusted b.globals) (state_of b.world)))

  -- the statements broke off
  pub load-breaks : (result : Result sessions.World Refused) → Breaks ran result → load run names ds cells ≡ result
  load-breaks result breaks = load-is ∙ after-break names_of cells b.globals ran result breaks

  -- they ended well in a world
  pub load-well : (v : World) (result : Result sessions.World Refused) → EndsWell (state_of v) ran → ComesTo names_of b.globals cells v result → load run names ds cells ≡ result
  load-well v result well comes =
      load-is
      ∙ after-end names_of cells b.globals ran (state_of v) well
      ∙ comes (state_of v) (record { heap = refl; names = refl; declarations = refl })

  -- so it is with what becomes of the exposed names then, a world
  pub loads-comes : (v : World) (r : Result World NoWorld) → EndsWell (state_of v) ran → IfOk r (λ w. ComesTo names_of b.globals cells v (Ok (world_view w)))
      → IfOk r (λ w. Loads names ds body cells (Ok (world_view w)))
  loads-comes v (Ok w) well comes = load-well v (Ok (world_view w)) well comes
  loads-comes v (Err cause) well comes = tt

  -- or a cause for which there is none
  pub loads-refused : (v : World) (r : Result World NoWorld) → EndsWell (state_of v) ran → IfErr r (λ cause. Refuses cause (ComesTo names_of b.globals cells v))
      → IfErr r (λ cause. Refuses cause (Loads names ds body cells))
  loads-refused v (Ok w) well comes = tt
  loads-refused v (Err cause) well comes =
      refuses-on cause (ComesTo names_of b.globals cells v) (Loads names ds body cells) (λ answer come. load-well v answer well come) comes
