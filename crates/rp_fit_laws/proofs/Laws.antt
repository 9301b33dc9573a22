-- The laws of code, from what is kept.
use Rattle.std.proofs.Common.{◌≡◌, refl, subst, ℕ, zero, suc, List, Some, None}
use Rattle.rp_base.specs.declared.value.Oid.{Oid}
use Rattle.rp_base.specs.declared.value.Side.{Side}
use Rattle.rp_scope.specs.Blocks as blocks
use Rattle.rp_store.specs.Heap.{Owned}
use Rattle.rp_store.specs.Object as object
use Rattle.rp_store.specs.Object.{Content}
use Rattle.rp_tree.specs.Statements as stmt_tree
use Rattle.rp_meaning.specs.Blocks as codes
use Rattle.rp_meaning.specs.Frame.{Program, Run}
use Rattle.rp_meaning.specs.Meaning.{exec}
use Rattle.rp_meaning.specs.Running.{calls, frame_in, program_frame}
use Rattle.rp_meaning.specs.Sessions.{statement_at}
use Rattle.rp_meaning.specs.State.{State, heap_of}
use Rattle.rp_keeper_laws.specs.Blocks.{Around, Has, telling_around}
use Rattle.rp_keeper_laws.specs.Keepers.{Keeper}
use Rattle.rp_keeper_laws.proofs.Going.{Anything, Keeps}
use Rattle.rp_keeper_laws.proofs.Programs.{calls_keep, frame_fits, spot}
use Rattle.rp_keeper_laws.proofs.Trees.{block, left, right, statement}
use Rattle.rp_keeper_laws.proofs.Everything.{each_more}
use Rattle.rp_fit_laws.specs.Fit.{AreFit, Fits, IsCodeOf, IsScope}
use Rattle.rp_fit_laws.specs.Laws.{FunctionsKeepFit, IsFitRun, ProgramsKeepFit, StatementsKeepFit, WholeProgramsKeepFit}
use Rattle.rp_fit_laws.specs.Programs.{StandsIn}
use Rattle.rp_fit_laws.proofs.FitKeeper.{Runs, fit_keeper}
use Rattle.rp_fit_laws.proofs.Keeping.{Kept, Suits}
use Rattle.rp_fit_laws.proofs.Numbers.{whole_has}

-- ---- all sides

abbrev pub AnySide : Side → Type 0
AnySide side = Unit {0}

any_code : (side : Side) (c : Content) → IsCodeOf AnySide side c
any_code side (object.list xs) = tt
any_code side (object.tuple xs) = tt
any_code side (object.dict es) = tt
any_code side (object.instance of fs) = tt
any_code side (object.class name declared ms) = tt
any_code side (object.function name unit number within ds) = tt
any_code side (object.method v called) = tt
any_code side (object.scope None parent vs) = tt
any_code side (object.scope (Some number) parent vs) = tt

pub kept_of : (programs : Side → Program) (heap : List Owned) → AreFit programs heap → Kept programs AnySide heap
kept_of programs heap h = each_more (λ (o : Owned). Fits programs heap o.owner o.content)
    (λ (o : Owned). Suits programs AnySide heap o.owner o.content) (λ o p. (p, any_code o.owner o.content)) heap h

pub fit_of : (programs : Side → Program) (sides : Side → Type 0) (heap : List Owned) → Kept programs sides heap
    → AreFit programs heap
fit_of programs sides heap h = each_more (λ (o : Owned). Suits programs sides heap o.owner o.content)
    (λ (o : Owned). Fits programs heap o.owner o.content) (λ o p. p.0) heap h

module _ (run : Run) (fit : IsFitRun run) where
  abbrev pub all_keeper : Keeper
  all_keeper = fit_keeper run.programs AnySide (λ side acts. fit.programs side)

  pub runs_all : Runs run.programs AnySide (λ side acts. fit.programs side) run
  runs_all = record { quiet = fit.quiet; same = λ side acts. refl }

  pub statement_fits : (side : Side) (number : ℕ) (x : stmt_tree.Stmt) → StandsIn (run.programs side) number x
      → (scope : Oid) (s : State) → IsScope (heap_of s) side number scope → AreFit run.programs (heap_of s)
      → Keeps all_keeper (frame_in run (calls run) side number scope) (heap_of s) Anything
      (exec x (frame_in run (calls run) side number scope) s)
  statement_fits side number x stands scope s inside h =
      statement all_keeper (spot side number) x stands (frame_in run (calls run) side number scope)
      (frame_fits all_keeper run runs_all side number scope tt) s (kept_of run.programs (heap_of s) h, inside)

-- a top-level statement stands in the program
pub statement_has : {P : ℕ × codes.Code → Type 0} {Q : Around
    → Type 0} (i : ℕ) (b : stmt_tree.Stmts) (x : stmt_tree.Stmt)
    → statement_at i b ≡ Some x → Has P Q (codes.of_stmts b) (blocks.stmts_blocks telling_around 0 b)
    → Has P Q (codes.of_stmt x) (blocks.stmt_blocks telling_around 0 x)
statement_has i stmt_tree.no_stmts x e h = absurd (cc)
statement_has {P} {Q} zero (stmt_tree.stmt y ys) x e h =
    let same : y ≡ x = cc in
    subst (λ (y : stmt_tree.Stmt). Has P Q (codes.of_stmt y) (blocks.stmt_blocks telling_around 0 y)) same (left _ _ h)
statement_has (suc i) (stmt_tree.stmt y ys) x e h = statement_has i ys x e (right _ _ h)

pub statements_keep_fit : StatementsKeepFit
statements_keep_fit run fit side number x stands scope s inside h =
    fit_of run.programs AnySide _ (statement_fits run fit side number x stands scope s inside h).there.0

pub programs_keep_fit : ProgramsKeepFit
programs_keep_fit run fit side i x e globals s inside h =
    statements_keep_fit run fit side 0 x
    (statement_has i (run.programs side).body x e (whole_has (run.programs side)
    (fit.programs side))) globals s inside h

pub whole_programs_keep_fit : WholeProgramsKeepFit
whole_programs_keep_fit run fit side globals s inside h =
    let these = block (all_keeper run fit) (spot side 0) (run.programs side).body
    (whole_has (run.programs side) (fit.programs side)) (program_frame run side globals)
    (frame_fits (all_keeper run fit) run (runs_all run fit) side 0 globals tt) s
    (kept_of run.programs (heap_of s) h, inside) in
    fit_of run.programs AnySide _ these.there.0

pub functions_keep_fit : FunctionsKeepFit
functions_keep_fit run fit at a s h =
    fit_of run.programs AnySide _ (calls_keep (all_keeper run fit) run (runs_all run fit) at a s tt
    (kept_of run.programs (heap_of s) h)).there
