-- What a step of a command says, and where it refuses.
use Rattle.std.specs.Prelude.{◌≡◌, ◌≢◌, ◌+◌, ℕ, false, List, [], map, Option, Some, None, IfSome, Result}
use Rattle.std.specs.Prelude.{Ok, Err}
use Rattle.rp_decl.specs.Records.{Declarations}
use Rattle.rp_decl.specs.View.{Placed, declarations_view}
use Rattle.rp_decl.specs.Word.{is_among}
use Rattle.rp_interact.specs.Why.{first_unknown}
use Rattle.rp_meaning.specs.Load.{Refused as NoModuleWorld, module_ended, not_bound}
use Rattle.rp_ops.specs.Outcome.{raised, no_step, no_cell}
use Rattle.rp_run.specs.Output.{no_world_line, world_cause}
use Rattle.rp_run.specs.Told.{Compiles, IsRead, IsShort, IsTooLong, ToldRefusedRun, ToldUnread, first_too_long}
use Rattle.rp_run.specs.Told.{too_long_line, undeclared_line, unknown_line}
use Rattle.rp_session.specs.Loads.{Loads}
use Rattle.rp_tree.specs.Statements as stmt_tree
use Rattle.rp_tree.specs.StatementTrees.{Stmts}
use Rattle.rp_world.specs.declared.refusal.NoWorld.{NoWorld}
use Rattle.rp_world.specs.declared.refusal.NoWorld.TheVariants as cause
use Rattle.rp_words.specs.Command.{Pair, Run}
use Rattle.rp_run.specs.declared.answer.Answer.{Answer}
use Rattle.rp_run.specs.declared.stop.Silence.{Silence}
use Rattle.rp_run.specs.declared.stop.Silence.TheVariants as silence
use Rattle.rp_run.specs.declared.stop.Stop.{Stop}
use Rattle.rp_run.specs.declared.stop.Stop.TheVariants.{Refused, Failed, Memory}

-- of what is said where a step refuses; the other stops say nothing
abbrev pub OnRefusal : (Answer → Type 0) → Stop → Type 0
OnRefusal P (Refused a) = P a
OnRefusal P Failed = Unit {0}
OnRefusal P Memory = Unit {0}

-- of what is said, whether the last step answers or an earlier one refuses
abbrev pub OnAnswer : Result Answer Stop → (Answer → Type 0) → Type 0
OnAnswer (Ok a) P = P a
OnAnswer (Err stop) P = OnRefusal P stop

abbrev pub said_at : Stop → Result Answer Silence
said_at (Refused a) = Ok a
said_at Failed = Err silence.Failed
said_at Memory = Err silence.Memory

-- a refusal is an answer too
abbrev pub said : Result Answer Stop → Result Answer Silence
said (Ok a) = Ok a
said (Err stop) = said_at stop

-- ---- files

-- one file more was begun, the one at the path
abbrev pub BeginsNext : List ℕ → ℕ → ℕ → List ℕ → Type 0
BeginsNext path before begun last_path = (begun ≡ before + 1) × (last_path ≡ path)

-- the file at a path is short, and these are its bytes
abbrev pub IsWhole : Option (List ℕ → List ℕ) → List ℕ → List ℕ → Type 0
IsWhole contents bytes path = IfSome contents (λ of. (bytes ≡ of path) × IsShort (of path))

-- the file at a path is too long
abbrev pub IsLong : Option (List ℕ → List ℕ) → List ℕ → Type 0
IsLong contents path = IfSome contents (λ of. IsTooLong (of path))

abbrev pub RefusesLong : Option (List ℕ → List ℕ) → List ℕ → Answer → Type 0
RefusesLong contents path a = IsLong contents path × (a.text ≡ too_long_line path) × (a.status.0 ≡ 9)

-- ---- declarations, principals and permissions

-- the file at the path declares these records
abbrev pub TellsRead : List ℕ → Option (List ℕ → List ℕ) → Declarations → Type 0
TellsRead path contents d = IfSome contents (λ of. IsRead (of path) d)

-- it declares none
abbrev pub RefusesUnread : List ℕ → Option (List ℕ → List ℕ) → Answer → Type 0
RefusesUnread path contents a = IfSome contents (λ of. ToldUnread path (of path) a.text a.status.0)

-- one of the ids is that of no principal
abbrev pub RefusesUnknown : Placed → List (List ℕ) → Answer → Type 0
RefusesUnknown d ids a =
    (id : List ℕ) × (((names : List (List ℕ)) → first_unknown (declarations_view names d) ids ≡ Some id)
    × (a.text ≡ unknown_line id) × (a.status.0 ≡ 3))

-- the permission is not declared
abbrev pub RefusesUndeclared : List (List ℕ) → List ℕ → Answer → Type 0
RefusesUndeclared permissions id a = (is_among permissions id ≡ false) × (a.text ≡ undeclared_line id)
    × (a.status.0 ≡ 3)

-- ---- the world

-- why there is no world, in words; of a machine whose count is full, and of want of memory, there are none
abbrev pub cause_words : NoWorld → List ℕ
cause_words (cause.Raised r) = world_cause (module_ended (raised r))
cause_words cause.StopSteps = world_cause (module_ended no_step)
cause_words cause.StopCells = world_cause (module_ended no_cell)
cause_words (cause.Unbound word) = world_cause (not_bound word)
cause_words cause.TooLong = []
cause_words cause.Memory = []

-- of declarations whose module has these statements it is said, with this status, why they have no world
abbrev pub TellsLoad : List (List ℕ) → Declarations → stmt_tree.Stmts → ℕ → List ℕ → ℕ → Type 0
TellsLoad names d body cells text status =
    (why : NoModuleWorld) × (Loads names d body cells (Err why) × ((text ≡ no_world_line why) × (status ≡ 3)))

abbrev pub RefusesLoad : List (List ℕ) → Declarations → stmt_tree.Stmts → ℕ → Answer → Type 0
RefusesLoad names d body cells a = TellsLoad names d body cells a.text a.status.0

-- the text of their module is no program, or they have no world: so any run of them is refused that may use so many
-- cells
abbrev pub RefusesWorld : Declarations → ℕ → Answer → Type 0
RefusesWorld d cells a = (r : Run) (of : List ℕ → List ℕ) → r.cells ≡ cells → IsRead (of r.declarations) d
    → ToldRefusedRun r of a.text a.status.0

-- ---- scripts

-- the scripts of the pairs are short, and these are their bytes
abbrev pub AreWhole : Option (List ℕ → List ℕ) → List Pair → List (List ℕ) → Type 0
AreWhole contents pairs scripts = IfSome contents (λ of. (scripts ≡ map (λ (p : Pair). of p.path) pairs)
    × (first_too_long of pairs ≡ None))

-- one of them is too long
abbrev pub RefusesTooLong : Option (List ℕ → List ℕ) → List Pair → Answer → Type 0
RefusesTooLong contents pairs a =
    (path : List ℕ) × (IfSome contents (λ of. first_too_long of pairs ≡ Some path) × (a.text ≡ too_long_line path)
    × (a.status.0 ≡ 9))

-- some of the scripts are no programs, or offences stand against them
abbrev pub RefusesScripts : List (List ℕ) → Answer → Type 0
RefusesScripts scripts a = (trees : List (Stmts (List ℕ)))
    × (Compiles 1 scripts trees a.text × (a.text ≢ []) × (a.status.0 ≡ 4))
