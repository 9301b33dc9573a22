-- All objects of a run fit its programs.
use Rattle.std.proofs.Common.{◌≡◌, ◌≤◌, ◌<◌, refl, sym, ap, subst, ◌∙◌, ℕ, zero, suc, ◌+◌, List, [], ◌∷◌, length}
use Rattle.std.proofs.Common.{map, Option, Some, None, Result, Ok, IfOk, slice_get, arith}
use Rattle.std.specs.List.{AllZip}
use Rattle.std.specs.Option.{option_map_or}
use Rattle.rp_base.specs.Names.{same_name}
use Rattle.rp_base.specs.declared.value.Name.{Name}
use Rattle.rp_apart_laws.specs.Apart.{Each, OnSome}
use Rattle.rp_session.specs.Played.{placed, with_new_sessions}
use Rattle.rp_session.specs.Runs.{module_in, program_in, program_on, run_of}
use Rattle.rp_apart_laws.proofs.Lists.{each_get}
use Rattle.rp_decl.specs.Places.{GrowsTo}
use Rattle.rp_decl.specs.Records.{Declarations}
use Rattle.rp_decl.proofs.Growth.{GrowsTo-trans}
use Rattle.rp_engine.specs.Moment.{layouts_view}
use Rattle.rp_fit_laws.specs.Laws.{IsFitRun}
use Rattle.rp_fit_laws.specs.Programs.{IsLaidOut}
use Rattle.rp_fit_laws.specs.Worlds.{IsFitWorld}
use Rattle.rp_fit_laws.proofs.Loading.{worlds_are_loaded_fit}
use Rattle.rp_fit_laws.proofs.Worlds.{runs_keep_fit, sessions_begin_fit}
use Rattle.rp_fixed_laws.specs.Fixed.{IsQuietRun}
use Rattle.rp_fixed_laws.proofs.Monitors.{monitors}
use Rattle.rp_layout_laws.specs.Layout.{AreHeld}
use Rattle.rp_layout_laws.proofs.Declared.{each_declared_has_room}
use Rattle.rp_layout_laws.proofs.Programs.{each_program_is_laid_out}
use Rattle.rp_meaning.specs.BuiltIn.{name_of}
use Rattle.rp_meaning.specs.Frame.{Program, Run as Frame}
use Rattle.rp_meaning.specs.Load.{Refused, with_new_session}
use Rattle.rp_meaning.specs.Sessions.{World}
use Rattle.rp_program.specs.Program.{IsProgram}
use Rattle.rp_program.specs.ProgramWords.{program_words}
use Rattle.rp_run.specs.Told as telling
use Rattle.rp_run.specs.Told.{Compiles, IsLoaded, module_bytes, module_names, read_into, scripts_of}
use Rattle.rp_run_laws.proofs.Held as words
use Rattle.rp_run_laws.proofs.Held.{Comes}
use Rattle.rp_run_laws.proofs.Unallowed.{built_in}
use Rattle.rp_run_laws.specs.Fit.{EachRunFits, its_run}
use Rattle.rp_scope.specs.Numbers.{HasNumbers, IsNumbered, block_count}
use Rattle.rp_scope.specs.Places.{locals}
use Rattle.rp_scope.specs.Scopes.{locals_of, scopes}
use Rattle.rp_scope.proofs.TableLaws.{scopes_are}
use Rattle.rp_tree.specs.Statements as stmt_tree
use Rattle.rp_tree.specs.StatementTrees.{Stmts}
use Rattle.rp_words.specs.Command.{Pair}
use Rattle.rp_world.specs.Globals.{global_names}

-- ---- programs

-- by the table of its scopes
scoped : (first : List Name) (body : stmt_tree.Stmts) → HasNumbers body → (number : ℕ) → number ≤ block_count body
    → locals_of (scopes first body) number ≡ locals same_name first body number
scoped first body has number within =
    let are = scopes_are first body has in
    let blocks = are.blocks in
    let there : number < length (scopes first body) = omega (arith, blocks, within) in
    are.local_names number there

-- a program of some bytes, whose words have names
laid_out : (names : List (List ℕ)) (first : List Name) (bytes : List ℕ) (tree : Stmts (List ℕ)) → IsProgram bytes tree
    → AreHeld names (program_words bytes) → (body : stmt_tree.Stmts) → IsNumbered (placed names tree) body
    → IsLaidOut (program_in first body)
laid_out names first bytes tree is held body numbered =
    each_program_is_laid_out names bytes tree is held first body numbered (layouts_view (scopes first body))
    (scoped first body numbered.has_numbers)

-- a tree of a program, whose words have names
record IsRead (names : List (List ℕ)) (tree : Stmts (List ℕ)) : Type 0 where
  bytes : List ℕ
  program : IsProgram bytes tree
  held : AreHeld names (program_words bytes)

are_read : (names : List (List ℕ)) {k : ℕ} {scripts : List (List ℕ)} {trees : List (Stmts (List ℕ))} {said : List ℕ}
    → Each (λ (bytes : List ℕ). AreHeld names (program_words bytes)) scripts → Compiles k scripts trees said
    → Each (IsRead names) trees
are_read names held telling.no_more = tt
are_read names held (telling.accepted {bytes = bytes} is more) =
    (record { bytes = bytes; program = is.program; held = held.0 }, are_read names held.1 more)
are_read names held (telling.refused why more) = are_read names held.1 more

abbrev Laid : stmt_tree.Stmts → Type 0
Laid body = IsLaidOut (program_in [] body)

scripts_laid_out : (names : List (List ℕ)) (trees : List (Stmts (List ℕ))) (scripts : List stmt_tree.Stmts)
    → Each (IsRead names) trees → AllZip (λ tree script. IsNumbered (placed names tree) script) trees scripts
    → Each Laid scripts
scripts_laid_out names [] [] read numbered = tt
scripts_laid_out names [] (x ∷ xs) read numbered = absurd numbered
scripts_laid_out names (t ∷ ts) [] read numbered = absurd numbered
scripts_laid_out names (t ∷ ts) (x ∷ xs) read numbered = (
  laid_out names [] read.0.bytes t read.0.program read.0.held x numbered.0,
  scripts_laid_out names ts xs read.1 numbered.1,
)

-- the program of each side, where those of the module and of the scripts are such
each_laid_out : (of_module : Program) (scripts : List stmt_tree.Stmts) → IsLaidOut of_module
    → Each Laid scripts → (n : ℕ)
    → IsLaidOut (program_on of_module scripts n)
each_laid_out of_module scripts laid each zero = laid
each_laid_out of_module scripts laid each (suc place) =
    by (slice_get scripts place) (each_get Laid scripts place each)
  where
    by : (o : Option stmt_tree.Stmts) → OnSome Laid o → IsLaidOut (option_map_or (program_in []) o of_module)
    by None none = laid
    by (Some body) own = own

-- ---- sessions

begin_fit : (run : Frame) (whos : List (List (List ℕ))) (steps : ℕ) (w : World) → IsFitWorld run.programs w
    → IsFitWorld run.programs (with_new_sessions run whos steps w)
begin_fit run [] steps w h = h
begin_fit run (who ∷ whos) steps w h =
    begin_fit run whos steps (with_new_session run who steps w) (sessions_begin_fit run who steps w h)

-- ---- a run

-- the program of the module, by the names of the world that it loaded into, and by those that came later
same_module : (d : Declarations) (body : stmt_tree.Stmts) (w later : World) → Comes (module_names d) d w
    → GrowsTo w.names later.names → later.declarations ≡ w.declarations
    → module_in (module_names d) d body ≡ module_in later.names later.declarations body
same_module d body w later comes grown same =
    let whole = GrowsTo-trans (module_names d) w.names later.names comes.1 grown in
    let names = words.names_later (module_names d) later.names whole (global_names d) (words.module_declared d) in
    ap (λ (first : List Name). program_in first body) (sym names)
    ∙ ap (λ (x : Declarations). module_in later.names x body) (sym (same ∙ comes.0))

pub each_run-fits : EachRunFits
each_run-fits r contents d body w trees ready order apart last its =
    let v : World = read_into (scripts_of r contents) w in
    let loading : Frame = run_of (module_names d) d body [] in
    let run : Frame = its_run v body its.scripts in
    let whos : List (List (List ℕ)) = map (λ (p : Pair). p.ids) r.pairs in
    let loaded : IsLoaded d r.cells body (Ok w) = ready.admitted.loaded in
    let comes : Comes (module_names d) d w =
    subst (λ (o : Result World Refused). IfOk o (Comes (module_names d) d)) loaded.comes
    (words.load_comes loading (module_names d) d r.cells) in
    let laid : IsLaidOut (module_in (module_names d) d body) =
    laid_out (module_names d) (map (name_of (module_names d)) (global_names d)) (module_bytes d) loaded.tree
    loaded.program (words.module_held d) body loaded.numbered in
    let same : module_in (module_names d) d body ≡ module_in v.names v.declarations body =
    same_module d body w v comes (words.grows_behind w.names (scripts_of r contents)) refl in
    let scripts = scripts_laid_out v.names trees its.scripts
    (are_read v.names (words.all_behind w.names (scripts_of r contents)) ready.compiled) its.numbered in
    let fit : IsFitRun run = record {
      quiet = record { decides = (monitors run).0; natives = built_in };
      programs = λ side. each_laid_out (module_in v.names v.declarations body) its.scripts
          (subst IsLaidOut same laid) scripts side.0;
    } in
    let quiet : IsQuietRun loading = record { decides = (monitors loading).0; natives = built_in } in
    let declared : List Name = map (name_of (module_names d)) (global_names d) in
    let own : locals_of (scopes declared body) 0 ≡ locals same_name declared body 0 =
    scoped declared body loaded.numbered.has_numbers 0 (omega arith) in
    let room : length d.classes + length d.objects ≤ length (locals_of (scopes declared body) 0) =
    subst (λ (ns : List Name). length d.classes + length d.objects ≤ length ns) (sym own)
    (each_declared_has_room (module_names d) d order apart (words.module_declared d) body) in
    let first : IsFitWorld run.programs w =
    worlds_are_loaded_fit loading quiet laid (module_names d) d room r.cells w loaded.comes run.programs same in
    let begun : IsFitWorld run.programs (with_new_sessions run whos r.steps v) =
    begin_fit run whos r.steps v (record { objects = first.objects; sessions = first.sessions }) in
    subst (λ (u : World). IsFitWorld run.programs u) its.comes
    (runs_keep_fit run fit r.turns (with_new_sessions run whos r.steps v) begun)
