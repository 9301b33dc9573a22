-- What comes of the loading of declarations.
use Rattle.std.proofs.Common.{◌≡◌, ◌≢◌, ◌∙◌, ℕ, List, [], encode_utf8_all, Result, Ok, Err, IfErr}
use Rattle.std.proofs.Common.{IfOk, IsUtf8, chars, refl, sym, ap, subst}
use Rattle.std.proofs.lemmas.Str.{encodes-chars}
use Rattle.rp_base.specs.Names.{HoldsEachOnce, first_words, with_words, word_of}
use Rattle.rp_decl.specs.DeclaredWords.{declared_words}
use Rattle.rp_decl.specs.Faults.{line_of}
use Rattle.rp_decl.specs.Places.{GrowsTo}
use Rattle.rp_decl.specs.Records.{Declarations}
use Rattle.rp_decl.specs.View.{Placed, declarations_view}
use Rattle.rp_meaning.specs.Load.{Refused as NoModuleWorld, load, module_ended, not_bound}
use Rattle.rp_meaning.specs.Sessions.{World as MeantWorld}
use Rattle.rp_ops.specs.Outcome.{raised, no_step, no_cell}
use Rattle.rp_session.specs.Loads.{Loads}
use Rattle.rp_session.specs.Played.{placed}
use Rattle.rp_session.specs.Runs.{run_of}
use Rattle.rp_session.specs.declared.loading.Loaded.{Loaded}
use Rattle.rp_session.proofs.Placing.{numbered-back}
use Rattle.rp_program.specs.Fault.{IsFault, fault_text}
use Rattle.rp_program.specs.Leaves.{IsTreeHeld}
use Rattle.rp_program.specs.Program.{IsProgram}
use Rattle.rp_program.specs.ProgramWords.{program_words}
use Rattle.rp_program.specs.declared.fault.ProgramFault.{ProgramFault}
use Rattle.rp_program.specs.declared.fault.ProgramFault.TheVariants as faulty
use Rattle.rp_proxy.proofs.LaterRecords.{declarations-later}
use Rattle.rp_run.proofs.Sayings.{refused_as, three}
use Rattle.rp_run.specs.Refusals.{OnRefusal, RefusesLoad, RefusesWorld, TellsLoad, cause_words}
use Rattle.rp_run.specs.Steps.{IsCommandStatus}
use Rattle.rp_run.specs.Told as told
use Rattle.rp_run.specs.Told.{IsLoaded, IsRead, ToldRefusedRun, module_bytes, module_names, module_prefix}
use Rattle.rp_run.specs.View.{IsReadInto}
use Rattle.rp_run.specs.declared.answer.Answer.{Answer}
use Rattle.rp_run.specs.declared.stop.Stop.{Stop}
use Rattle.rp_scope.specs.Numbers.{HasNumbers, IsNumbered}
use Rattle.rp_script.specs.Refusal.{from_program, line, refusal_lines}
use Rattle.rp_tree.specs.Maps.{named, without_blocks}
use Rattle.rp_tree.specs.Statements as stmt_tree
use Rattle.rp_tree.specs.StatementTrees as trees
use Rattle.rp_tree.specs.StatementViews.{view_tree}
use Rattle.rp_tree.specs.declared.stmt.Tree.{Tree}
use Rattle.rp_words.specs.Command.{Run}
use Rattle.rp_world.specs.Worlds.{Refuses, world_view}
use Rattle.rp_world.specs.declared.refusal.NoWorld.{NoWorld}
use Rattle.rp_world.specs.declared.refusal.NoWorld.TheVariants as cause

-- ---- what is said where there is no world

pub tells_load : (why : NoWorld) (names : List (List ℕ)) (d : Declarations) (tree : stmt_tree.Stmts) (cells : ℕ)
    (text : List ℕ) (status : ℕ) → Refuses why (Loads names d tree cells) → why ≢ cause.TooLong → why ≢ cause.Memory
    → text ≡ line_of (cause_words why) → status ≡ 3 → TellsLoad names d tree cells text status
tells_load (cause.Raised r) names d tree cells text status has counted other said ended =
    (module_ended (raised r), (has, (said, ended)))
tells_load cause.StopSteps names d tree cells text status has counted other said ended =
    (module_ended no_step, (has, (said, ended)))
tells_load cause.StopCells names d tree cells text status has counted other said ended =
    (module_ended no_cell, (has, (said, ended)))
tells_load (cause.Unbound word) names d tree cells text status has counted other said ended =
    (not_bound word, (has, (said, ended)))
tells_load cause.TooLong names d tree cells text status has counted other said ended = absurd (counted refl)
tells_load cause.Memory names d tree cells text status has counted other said ended = absurd (other refl)

-- ---- a module that is read as a tree

pub bytes_of : (text bytes : List ℕ) → IsUtf8 bytes → chars bytes ≡ text → encode_utf8_all text ≡ bytes
bytes_of text bytes utf8 are = ap encode_utf8_all (sym are) ∙ encodes-chars bytes utf8

-- the names are those that the declarations were read into, with the words of the text of their module, which is a
-- program of this tree, but for the numbers of its code blocks
pub record IsModuleRead (d placed_d : Declarations) (names : List (List ℕ)) (m : Tree) : Type 0 where
  pub same : placed_d ≡ d
  pub are : names ≡ module_names d
  pub once : HoldsEachOnce names
  pub held : IsTreeHeld names (view_tree m)
  pub numbers : HasNumbers (view_tree m)
  pub program : IsProgram (module_bytes d) (without_blocks (named (word_of names) (view_tree m)))

-- a module's text that is refused is told as its fault
pub told_as_fault : (names : List (List ℕ)) (prefix : List ℕ) (fault : ProgramFault)
    → refusal_lines names prefix (from_program fault) ≡ line prefix (fault_text fault)
told_as_fault names prefix (faulty.NotUtf8 n) = refl
told_as_fault names prefix (faulty.Token f) = refl
told_as_fault names prefix (faulty.Format at) = refl
told_as_fault names prefix (faulty.Syntax at) = refl
told_as_fault names prefix faulty.Memory = refl

module _ (names : List (List ℕ)) (decl : Placed) (bytes : List ℕ) (utf8 : IsUtf8 bytes)
    (text : chars bytes ≡ decl.module_text) where
  its_bytes : module_bytes (declarations_view names decl) ≡ bytes
  its_bytes = bytes_of decl.module_text bytes utf8 text

  pub module_read : (later : List (List ℕ)) (m : Tree) → IsReadInto names decl
      → names ≡ with_words first_words (declared_words (declarations_view names decl)) → GrowsTo names later
      → HoldsEachOnce later → IsTreeHeld later (view_tree m) → HasNumbers (view_tree m)
      → IsProgram bytes (without_blocks (named (word_of later) (view_tree m)))
      → later ≡ with_words names (program_words bytes)
      → IsModuleRead (declarations_view names decl) (declarations_view later decl) later m
  module_read later m read words grown once held numbers program more = record {
    same = declarations-later names later grown decl read.held;
    are = more ∙ (λ k. with_words (words k) (program_words (sym its_bytes k)));
    once = once;
    held = held;
    numbers = numbers;
    program = subst (λ (b : List ℕ). IsProgram b (without_blocks (named (word_of later) (view_tree m)))) (sym its_bytes)
        program;
  }

  -- the text is no program
  pub tells_text : (cells : ℕ) (fault : ProgramFault) (said : List ℕ) (status : ℕ) → IsFault bytes fault
      → said ≡ line module_prefix (fault_text fault) → status ≡ 3 → (r : Run) (of : List ℕ → List ℕ) → r.cells ≡ cells
      → IsRead (of r.declarations) (declarations_view names decl) → ToldRefusedRun r of said status
  tells_text cells fault said status wrong is ended r of its_cells read =
      told.ToldRefusedRun.no_module (declarations_view names decl) read fault
      (subst (λ (b : List ℕ). IsFault b fault) (sym its_bytes) wrong) is ended

module _ (d placed_d : Declarations) (names : List (List ℕ)) (m : Tree)
    (read : IsModuleRead d placed_d names m) (cells : ℕ) where
  abbrev words : trees.Stmts (List ℕ)
  words = without_blocks (named (word_of names) (view_tree m))

  by_its_names : load (run_of names placed_d (view_tree m) []) names placed_d cells
      ≡ load (run_of (module_names d) d (view_tree m) []) (module_names d) d cells
  by_its_names = λ k. load (run_of (read.are k) (read.same k) (view_tree m) []) (read.are k) (read.same k) cells

  loaded_as : (result : Result MeantWorld NoModuleWorld) → Loads names placed_d (view_tree m) cells result
      → IsLoaded d cells (view_tree m) result
  loaded_as result comes = record {
    tree = words;
    program = read.program;
    numbered = subst (λ (ns : List (List ℕ)). IsNumbered (placed ns words) (view_tree m)) read.are
        (numbered-back names read.once (view_tree m) read.held read.numbers);
    comes = sym by_its_names ∙ comes;
  }

  pub loads_so : (r : Result Loaded Stop) → IfOk r (λ x. x.module ≡ m)
      → IfOk r (λ x. Loads names placed_d (view_tree m) cells (Ok (world_view x.world)))
      → IfOk r (λ x. IsLoaded d cells (view_tree x.module) (Ok (world_view x.world)))
  loads_so (Ok x) is comes =
      subst (λ (t : Tree). IsLoaded d cells (view_tree t) (Ok (world_view x.world))) (sym is)
      (loaded_as (Ok (world_view x.world)) comes)
  loads_so (Err stop) is comes = tt

  refuses_world : (a : Answer) → RefusesLoad names placed_d (view_tree m) cells a → RefusesWorld d cells a
  refuses_world a refuses = λ r of its_cells declares.
      let why = refuses.0 in
      told.ToldRefusedRun.no_world d declares (view_tree m) why
      (subst (λ (n : ℕ). IsLoaded d n (view_tree m) (Err why)) (sym its_cells) (loaded_as (Err why) refuses.1.0))
      refuses.1.1.0 refuses.1.1.1

  pub refuses_so : (r : Result Loaded Stop) → IfErr r (OnRefusal (RefusesLoad names placed_d (view_tree m) cells))
      → IfErr r (OnRefusal (RefusesWorld d cells))
  refuses_so (Ok x) says = tt
  refuses_so (Err stop) says =
      refused_as (RefusesLoad names placed_d (view_tree m) cells) (RefusesWorld d cells) stop (λ a. refuses_world a)
      says

pub refuses_status : (names : List (List ℕ)) (d : Declarations) (tree : stmt_tree.Stmts) (cells : ℕ)
    (r : Result Loaded Stop) → IfErr r (OnRefusal (RefusesLoad names d tree cells))
    → IfErr r (OnRefusal (λ a. IsCommandStatus a.status.0))
refuses_status names d tree cells (Ok x) says = tt
refuses_status names d tree cells (Err stop) says =
    refused_as (RefusesLoad names d tree cells) (λ a. IsCommandStatus a.status.0) stop (λ a refuses.
    three a.status.0 refuses.1.1.1) says

-- ---- what there is of a world

pub declares_so : (d placed_d : Declarations) → placed_d ≡ d → (r : Result Loaded Stop)
    → IfOk r (λ x. declarations_view x.world.names x.world.decl ≡ placed_d)
    → IfOk r (λ x. declarations_view x.world.names x.world.decl ≡ d)
declares_so d placed_d same (Ok x) declared = declared ∙ same
declares_so d placed_d same (Err stop) declared = tt
