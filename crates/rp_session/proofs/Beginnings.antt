-- What the sessions of a run come to is what its meaning does.
use Rattle.std.proofs.Common.{◌≡◌, ℕ, List, [], ◌∷◌, map, length, refl, sym, ap, subst, ◌∙◌}
use Rattle.std.specs.List.{All, AllZip}
use Rattle.std.specs.Option.{IsSome}
use Rattle.std.proofs.lemmas.List.Elements.{All-head, All-tail}
use Rattle.rp_base.specs.Names.{HoldsEachOnce}
use Rattle.rp_compile.specs.Compiled.{Compilation, source_tree}
use Rattle.rp_decl.specs.View.{declarations_view}
use Rattle.rp_engine.specs.Moment as engine
use Rattle.rp_engine.specs.Moment.{program_view}
use Rattle.rp_engine.specs.declared.units.Program.{Program as CodeProgram}
use Rattle.rp_engine.specs.declared.units.Units.{Units}
use Rattle.rp_interact.specs.Interacting.{Interacting}
use Rattle.rp_session.specs.Played.{Reaches, placed, source_text, with_new_sessions}
use Rattle.rp_session.specs.Ready.{AreNumberedFrom}
use Rattle.rp_session.specs.Runs.{IsProgramOf, program_in, run_of}
use Rattle.rp_session.specs.View.{session_view}
use Rattle.rp_session.specs.declared.session.Session.{Session}
use Rattle.rp_mark_laws.proofs.Sessions.{marks-mean-nothing, sessions-begin-alike}
use Rattle.rp_mark_laws.specs.Unmarked.{unmarked}
use Rattle.rp_meaning.specs.Frame.{Run}
use Rattle.rp_meaning.specs.Load.{with_new_session}
use Rattle.rp_meaning.specs.Sessions as meant
use Rattle.rp_meaning.specs.Sessions.{run_all}
use Rattle.rp_program.specs.Leaves.{IsTreeHeld}
use Rattle.rp_proxy.specs.declared.world.World.{World}
use Rattle.rp_scope.specs.Numbers.{IsNumbered}
use Rattle.rp_tree.specs.Marks.{HasNoGuards}
use Rattle.rp_tree.specs.Statements.{Stmts}
use Rattle.rp_world.specs.Globals.{placed_names}
use Rattle.rp_world.specs.Worlds.{world_view}
use Rattle.rp_proxy.specs.Faithful.{IsFaithful}
use Rattle.rp_session.proofs.Endings.{all-ended}
use Rattle.rp_session.proofs.Finished.{AllStand, new-stand}
use Rattle.rp_session.proofs.Placing.{numbered-back}
use Rattle.rp_session.proofs.GlobalNames.{module-is}
use Rattle.rp_session.proofs.ProgramsOn.{run-is}

-- the sources of the programs are the trees of the scripts, numbered
all-numbered : (names : List (List ℕ)) → HoldsEachOnce names → (scripts : List Compilation) (us : List CodeProgram) → All (λ s. IsTreeHeld names (source_tree s)) scripts
    → AllZip IsProgramOf (map source_tree scripts) us
    → AllZip (λ tree script. IsNumbered (placed names tree) script) (map (source_text names) scripts) (map source_tree scripts)
all-numbered names once [] us held are = tt
all-numbered names once (s ∷ ss) [] held are = absurd are
all-numbered names once (s ∷ ss) (u ∷ us) held are =
    let P : Compilation → Type 0 = λ s. IsTreeHeld names (source_tree s) in (
      numbered-back names once (source_tree s) (All-head P s ss held) are.0.numbers,
      all-numbered names once ss us (All-tail P s ss held) are.1,
    )

-- new sessions begin as without marks
begin-alike : (run : Run) (whos : List (List (List ℕ))) (steps : ℕ) (w : meant.World) → with_new_sessions (unmarked run) whos steps w ≡ with_new_sessions run whos steps w
begin-alike run [] steps w = refl
begin-alike run (who ∷ whos) steps w =
    begin-alike run whos steps (with_new_session (unmarked run) who steps w) ∙ ap (with_new_sessions run whos steps) (sessions-begin-alike run who steps w)

-- the sessions of the scripts take their turns from the world, and come to another
pub reaches : (w : World) (body : Stmts) (scripts : List Compilation) (whos : List Interacting) (listed : List ℕ) (steps : ℕ) (units : Units) (first begun last : meant.World)
    → IsFaithful w → HasNoGuards body → All (λ s. IsTreeHeld w.names (source_tree s)) scripts
    → program_view units.module ≡ program_in (placed_names w.decl) body → AllZip IsProgramOf (map source_tree scripts) units.scripts.items → first ≡ world_view w
    → ((base : Run) → begun ≡ with_new_sessions (engine.run_of base units) (map (λ who. who.ids) whos) steps first)
    → ((base : Run) → last ≡ run_all (engine.run_of base units) listed begun)
    → Reaches (world_view w) body (map (source_text w.names) scripts) (map (λ who. who.ids) whos) listed steps last
reaches w body scripts whos listed steps units first begun last faithful plain held of of-scripts is-first begins runs =
    let ds = declarations_view w.names w.decl in
    let sources = map source_tree scripts in
    let ids = map (λ (who : Interacting). who.ids) whos in
    let run : Run = run_of w.names ds body sources in
    let made : Run = engine.run_of run units in
    let same : unmarked made ≡ run = run-is w.names ds body sources units plain (of ∙ module-is w.names w.decl faithful.read.distinct faithful.read.held body) of-scripts in
    let whole : last ≡ run_all run listed (with_new_sessions run ids steps (world_view w)) =
    runs run ∙ ap (run_all made listed) (begins run) ∙ sym (marks-mean-nothing made listed (with_new_sessions made ids steps first))
    ∙ ap (run_all (unmarked made) listed) (sym (begin-alike made ids steps first))
    ∙ (λ i. run_all (same i) listed (with_new_sessions (same i) ids steps (is-first i))) in
    record {
      scripts = sources;
      numbered = all-numbered w.names faithful.read.distinct scripts units.scripts.items held of-scripts;
      comes = sym whole;
    }

-- and then each has ended
pub all-end : (base : Run) (whos : List (List (List ℕ))) (listed : List ℕ) (steps : ℕ) (units : Units) (first begun last : meant.World) (js ks : List Session) → first.sessions ≡ []
    → ((base : Run) → begun ≡ with_new_sessions (engine.run_of base units) whos steps first)
    → ((base : Run) → last ≡ run_all (engine.run_of base units) listed begun)
    → begun.sessions ≡ map session_view js → last.sessions ≡ map session_view ks
    → AreNumberedFrom 1 js → AreNumberedFrom 1 ks → length ks ≡ length js → All (λ k. IsSome k.end) ks
all-end base whos listed steps units first begun last js ks none begins runs before after numbered-before numbered-after count =
    let run = engine.run_of base units in
    let stand = new-stand run whos steps first (subst (λ (l : List meant.Session). AllStand run l) (sym none) tt) in
    all-ended run listed begun last js ks before after numbered-before numbered-after count
    (subst (λ (w : meant.World). AllStand run w.sessions) (sym (begins base)) stand) (runs base)
