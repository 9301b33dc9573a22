-- What the program says to its words and the contents of the files that they name.
use Rattle.std.specs.Prelude.{◌≡◌, ◌≢◌, ◌<◌, ◌≤◌, ◌-◌, ℕ, suc, nat_lt, true, false, List, [], ◌∷◌, ◌++◌, length}
use Rattle.std.specs.Prelude.{map, find, fold, codes, encode_utf8_all, Option, Some, None, MatchOption, Result, Ok, Err}
use Rattle.std.specs.Prelude.{if◌then◌else◌}
use Rattle.std.specs.Fmt.{decimal}
use Rattle.std.specs.List.{flat_map}
use Rattle.rp_decl.specs.Declares.{Declares, IsNoDocument, IsRefused, Refusal}
use Rattle.rp_decl.specs.Records.{Declarations}
use Rattle.rp_decl.specs.Word.{is_among}
use Rattle.rp_gen.specs.Large as input
use Rattle.rp_interact.specs.Why.{first_unknown}
use Rattle.rp_base.specs.Names.{first_words, with_words}
use Rattle.rp_base.specs.Same.{same_text}
use Rattle.rp_decl.specs.DeclaredWords.{declared_words}
use Rattle.rp_meaning.specs.Load.{Refused, load}
use Rattle.rp_meaning.specs.Sessions.{Session, World}
use Rattle.rp_meaning.specs.Unmonitored.{told_of}
use Rattle.rp_policy.specs.Offences.{offences, offence_text}
use Rattle.rp_program.specs.Fault.{IsFault, fault_text}
use Rattle.rp_program.specs.Program.{IsProgram}
use Rattle.rp_program.specs.ProgramWords.{program_words}
use Rattle.rp_program.specs.declared.fault.ProgramFault.{ProgramFault}
use Rattle.rp_print.specs.Statements.{printed}
use Rattle.rp_scope.specs.Numbers.{IsNumbered}
use Rattle.rp_script.specs.Refusal.{line}
use Rattle.rp_session.specs.Played.{Plays, Reaches, placed}
use Rattle.rp_session.specs.Runs.{run_of}
use Rattle.rp_trail.specs.Entry.{Entry}
use Rattle.rp_words.specs.Command.{Command, Pair, Run, May, run, script, may, large, command_of, usage, usual_limit}
use Rattle.rp_words.specs.declared.command.Question.{Question}
use Rattle.rp_words.specs.declared.command.Question.TheVariants.{Check, Show}
use Rattle.rp_tree.specs.Marks.{guard}
use Rattle.rp_tree.specs.Statements as stmt_tree
use Rattle.rp_tree.specs.StatementTrees.{Stmts}
use Rattle.rp_run.specs.Output.{Finished, as_told, input_lines, may_text, may_status, no_world_line, refusal_line}
use Rattle.rp_run.specs.Output.{run_status, run_text, used_lines}

-- the most bytes of a file that is read
abbrev pub longest_file : ℕ
longest_file = 4194304

abbrev pub IsShort : List ℕ → Type 0
IsShort bytes = length bytes ≤ longest_file

abbrev pub IsTooLong : List ℕ → Type 0
IsTooLong bytes = longest_file < length bytes

abbrev pub too_long_line : List ℕ → List ℕ
too_long_line path = codes "too long: " ++ path ++ codes "\n"

abbrev pub unknown_line : List ℕ → List ℕ
unknown_line id = codes "principal: " ++ id ++ codes "\n"

abbrev pub undeclared_line : List ℕ → List ℕ
undeclared_line permission = codes "permission: " ++ permission ++ codes "\n"

-- ---- declarations

-- The first check that the contents at the path of the declarations do not pass, and what is said.
pub data ToldUnread (path bytes : List ℕ) (text : List ℕ) (status : ℕ) : Type 0 where
  long : IsTooLong bytes → text ≡ too_long_line path → status ≡ 9 → ToldUnread path bytes text status
  not_toml : IsShort bytes → IsNoDocument bytes → text ≡ codes "declarations: not TOML\n" → status ≡ 3
      → ToldUnread path bytes text status
  refused : IsShort bytes → (r : Refusal) → IsRefused bytes r → text ≡ refusal_line r → status ≡ 3
      → ToldUnread path bytes text status

-- the bytes are read, and they declare these records
pub record IsRead (bytes : List ℕ) (d : Declarations) : Type 0 where
  pub short : IsShort bytes
  pub declares : Declares bytes d

-- ---- the trusted module

-- the bytes of the text of the module; there are none where there is no module
abbrev pub module_bytes : Declarations → List ℕ
module_bytes d = encode_utf8_all d.module_text

-- some names, and behind them the words of programs, each once
abbrev pub names_behind : List (List ℕ) → List (List ℕ) → List (List ℕ)
names_behind names programs = fold (λ names bytes. with_words names (program_words bytes)) names programs

-- the names that the module is run with: the words of the operations, of the declarations and of the module's text
abbrev pub module_names : Declarations → List (List ℕ)
module_names d = names_behind (with_words first_words (declared_words d)) (module_bytes d ∷ [])

-- The loading of declarations comes to this, a world or why there is none, where so many cells may be used from then
-- on: the text of the module is a program, and its statements, whose code blocks are numbered, are run as trusted code
-- (zope.security) over the declared classes and objects.
pub record IsLoaded (d : Declarations) (cells : ℕ) (body : stmt_tree.Stmts) (result : Result World Refused)
    : Type 0 where
  pub tree : Stmts (List ℕ)
  pub program : IsProgram (module_bytes d) tree
  pub numbered : IsNumbered (placed (module_names d) tree) body
  pub comes : load (run_of (module_names d) d body []) (module_names d) d cells ≡ result

-- ---- a script that is refused

-- The first check that a script does not pass, in the order of the constructors: its bytes are a program, and no
-- offence stands against it. It is
-- told by a line for the fault, or one for each offence, each behind a prefix.
pub data ToldRefused (prefix bytes : List ℕ) (text : List ℕ) : Type 0 where
  no_program : (fault : ProgramFault) → IsFault bytes fault → text ≡ line prefix (fault_text fault)
      → ToldRefused prefix bytes text
  offends : (tree : Stmts (List ℕ)) → IsProgram bytes tree → offences tree ≢ []
      → text ≡ flat_map (λ o. line prefix (offence_text o)) (offences tree) → ToldRefused prefix bytes text

-- ---- a run

-- the ids of the principals of all pairs, in the order of the words
abbrev pub all_ids : List Pair → List (List ℕ)
all_ids pairs = flat_map (λ (p : Pair). p.ids) pairs

-- the declarations of a run are read, are loaded into a world, where their module has these statements, and have the
-- run's principals
pub record IsAdmitted (r : Run) (contents : List ℕ → List ℕ) (d : Declarations) (body : stmt_tree.Stmts) (w : World)
    : Type 0 where
  pub read : IsRead (contents r.declarations) d
  pub loaded : IsLoaded d r.cells body (Ok w)
  pub known : first_unknown d (all_ids r.pairs) ≡ None

-- the path of the first script that is too long
abbrev pub first_too_long : (List ℕ → List ℕ) → List Pair → Option (List ℕ)
first_too_long contents pairs =
    find (λ path. nat_lt longest_file (length (contents path))) (map (λ (p : Pair). p.path) pairs)

-- the contents of its scripts, in order
abbrev pub scripts_of : Run → (List ℕ → List ℕ) → List (List ℕ)
scripts_of r contents = map (λ (p : Pair). contents p.path) r.pairs

-- what stands before each line about the script of a number
abbrev pub script_prefix : ℕ → List ℕ
script_prefix k = codes "script " ++ decimal k ++ codes ": "

-- the bytes are a program, against which no offence stands
pub record IsAccepted (bytes : List ℕ) (tree : Stmts (List ℕ)) : Type 0 where
  pub program : IsProgram bytes tree
  pub lawful : offences tree ≡ []

-- What comes of some scripts, of which the first has this number: the trees of those that are accepted, and what is
-- said of those that are refused, both in
-- the order of the scripts.
pub data Compiles : ℕ → List (List ℕ) → List (Stmts (List ℕ)) → List ℕ → Type 0 where
  no_more : {k : ℕ} → Compiles k [] [] []
  accepted : {k : ℕ} {bytes : List ℕ} {scripts : List (List ℕ)} {tree : Stmts (List ℕ)} {trees : List
      (Stmts (List ℕ))} {said : List ℕ}
      → IsAccepted bytes tree → Compiles (suc k) scripts trees said → Compiles k (bytes ∷ scripts) (tree ∷ trees) said
  refused : {k : ℕ} {bytes : List ℕ} {scripts : List (List ℕ)} {trees : List (Stmts (List ℕ))} {text said : List ℕ}
      → ToldRefused (script_prefix k) bytes text → Compiles (suc k) scripts trees said
      → Compiles k (bytes ∷ scripts) trees (text ++ said)

-- the world with the words of scripts among its names
abbrev pub read_into : List (List ℕ) → World → World
read_into scripts w = record w { names = names_behind w.names scripts }

-- ---- what is told to a run

-- what stands before the line about the text of the module
abbrev pub module_prefix : List ℕ
module_prefix = codes "declarations: module "

-- What scripts without an offence come to, by their trees, over a world with its module: their direct meaning, in the
-- listed turns and then each session to its end, over one store.
pub record ToldPlayed (r : Run) (body : stmt_tree.Stmts) (w : World) (trees : List (Stmts (List ℕ)))
    (text : List ℕ) (status : ℕ) : Type 0 where
  pub sessions : List Finished
  pub log : List Entry
  pub plays : Plays w body trees (map (λ (p : Pair). p.ids) r.pairs) r.turns r.steps (map as_told sessions) log
  pub said : text ≡ run_text r sessions log
  pub ends : status ≡ run_status sessions

-- The first step that refuses a run, in the order of the constructors.
pub data ToldRefusedRun (r : Run) (contents : List ℕ → List ℕ) (text : List ℕ) (status : ℕ) : Type 0 where
  unread : ToldUnread r.declarations (contents r.declarations) text status → ToldRefusedRun r contents text status
  no_module : (d : Declarations) → IsRead (contents r.declarations) d → (fault : ProgramFault)
      → IsFault (module_bytes d) fault → text ≡ line module_prefix (fault_text fault) → status ≡ 3
      → ToldRefusedRun r contents text status
  no_world : (d : Declarations) → IsRead (contents r.declarations) d → (body : stmt_tree.Stmts) (why : Refused)
      → IsLoaded d r.cells body (Err why) → text ≡ no_world_line why → status ≡ 3
      → ToldRefusedRun r contents text status
  unknown_principal : (d : Declarations) → IsRead (contents r.declarations) d → (body : stmt_tree.Stmts) (w : World)
      → IsLoaded d r.cells body (Ok w) → (id : List ℕ) → first_unknown d (all_ids r.pairs) ≡ Some id
      → text ≡ unknown_line id → status ≡ 3 → ToldRefusedRun r contents text status
  long_script : (d : Declarations) (body : stmt_tree.Stmts) (w : World) → IsAdmitted r contents d body w
      → (path : List ℕ) → first_too_long contents r.pairs ≡ Some path
      → text ≡ too_long_line path → status ≡ 9 → ToldRefusedRun r contents text status
  scripts_refused : (d : Declarations) (body : stmt_tree.Stmts) (w : World) → IsAdmitted r contents d body w
      → first_too_long contents r.pairs ≡ None → (trees : List (Stmts (List ℕ)))
      → Compiles 1 (scripts_of r contents) trees text → text ≢ [] → status ≡ 4
      → ToldRefusedRun r contents text status

-- no step refuses: the declarations are these, which are loaded into this world, and the scripts are these trees
pub record IsReady (r : Run) (contents : List ℕ → List ℕ) (d : Declarations) (body : stmt_tree.Stmts) (w : World)
    (trees : List (Stmts (List ℕ))) : Type 0 where
  pub admitted : IsAdmitted r contents d body w
  pub short : first_too_long contents r.pairs ≡ None
  pub compiled : Compiles 1 (scripts_of r contents) trees []

-- a step refuses, or the scripts are run over the world whose names have the words of scripts among them
pub data ToldRun (r : Run) (contents : List ℕ → List ℕ) (text : List ℕ) (status : ℕ) : Type 0 where
  refused : ToldRefusedRun r contents text status → ToldRun r contents text status
  played : (d : Declarations) (body : stmt_tree.Stmts) (w : World) (trees : List (Stmts (List ℕ)))
      → IsReady r contents d body w trees → ToldPlayed r body (read_into (scripts_of r contents) w) trees text status
      → ToldRun r contents text status

-- ---- the large input

-- the run of the large input, which is one without options; its two files, at these paths, are in memory
abbrev pub large_pair : Pair
large_pair = record { who = codes "p"; ids = codes "p" ∷ []; path = codes "script" }

abbrev pub large_run : Run
large_run = record {
  declarations = codes "declarations";
  pairs = large_pair ∷ [];
  steps = usual_limit;
  cells = usual_limit;
  turns = [];
  trail = false;
}

-- files that have these texts at the two paths, and no other
abbrev pub texts_at : List ℕ → List ℕ → List ℕ → List ℕ
texts_at declarations source path =
    if same_text large_run.declarations path then declarations
    else (if same_text large_pair.path path then source else [])

-- the declarations and the script of the large input of a size
unfoldable pub large_contents : ℕ → List ℕ → List ℕ
large_contents n = texts_at (input.declarations n) (input.script n)

-- the lines that tell its size and the lengths of these
unfoldable pub large_lines : ℕ → List ℕ
large_lines n = input_lines n (length (input.declarations n)) (length (input.script n))

-- What the only script comes to over a world with its module: the size and the lengths of the large input, what its
-- session used, and then what a run tells.
pub record ToldUsed (r : Run) (n : ℕ) (body : stmt_tree.Stmts) (w : World) (trees : List (Stmts (List ℕ)))
    (text : List ℕ) (status : ℕ) : Type 0 where
  pub last : World
  pub reaches : Reaches w body trees (map (λ (p : Pair). p.ids) r.pairs) r.turns r.steps last
  pub session : Session
  pub only : last.sessions ≡ session ∷ []
  pub finished : List Finished
  pub told : map as_told finished ≡ map told_of last.sessions
  pub said : text ≡ large_lines n ++ used_lines (r.steps - session.steps) last.store.used (length last.log)
      ++ run_text r finished last.log
  pub ends : status ≡ run_status finished

-- a step refuses the run of the large input of a size, over these contents, or its script comes to that
pub data ToldLarge (r : Run) (contents : List ℕ → List ℕ) (n : ℕ) (text : List ℕ) (status : ℕ) : Type 0 where
  refused : ToldRefusedRun r contents text status → ToldLarge r contents n text status
  played : (d : Declarations) (body : stmt_tree.Stmts) (w : World) (trees : List (Stmts (List ℕ)))
      → IsReady r contents d body w trees → ToldUsed r n body (read_into (scripts_of r contents) w) trees text status
      → ToldLarge r contents n text status

-- ---- a script that is checked or shown

-- The first check that a script does not pass decides, in the order of the constructors; else this is said of its tree.
pub data ToldScript (said : Stmts (List ℕ) → List ℕ) (path bytes : List ℕ) (text : List ℕ) (status : ℕ) : Type 0 where
  long : IsTooLong bytes → text ≡ too_long_line path → status ≡ 9 → ToldScript said path bytes text status
  unaccepted : IsShort bytes → ToldRefused [] bytes text → status ≡ 4 → ToldScript said path bytes text status
  accepted : IsShort bytes → (tree : Stmts (List ℕ)) → IsProgram bytes tree → offences tree ≡ [] → text ≡ said tree
      → status ≡ 0 → ToldScript said path bytes text status

-- a check says of each tree that it is accepted; else it is shown as it runs, each form that needs a guard as a call of
-- it
abbrev pub said_to : Question → Stmts (List ℕ) → List ℕ
said_to Check tree = codes "ok\n"
said_to Show tree = printed (guard tree)

-- ---- permissions

-- the same order: the declarations, the principals, the permission; else each principal's line is told
pub data ToldMay (m : May) (contents : List ℕ → List ℕ) (text : List ℕ) (status : ℕ) : Type 0 where
  unread : ToldUnread m.declarations (contents m.declarations) text status → ToldMay m contents text status
  unknown_principal : (d : Declarations) → IsRead (contents m.declarations) d → (id : List ℕ)
      → first_unknown d m.ids ≡ Some id
      → text ≡ unknown_line id → status ≡ 3 → ToldMay m contents text status
  undeclared : (d : Declarations) → IsRead (contents m.declarations) d → first_unknown d m.ids ≡ None
      → is_among d.permissions m.permission ≡ false
      → text ≡ undeclared_line m.permission → status ≡ 3 → ToldMay m contents text status
  told : (d : Declarations) → IsRead (contents m.declarations) d → first_unknown d m.ids ≡ None
      → is_among d.permissions m.permission ≡ true
      → text ≡ may_text d m.ids m.permission → status ≡ may_status d m.ids m.permission → ToldMay m contents text status

abbrev pub ToldCommand : Command → (List ℕ → List ℕ) → List ℕ → ℕ → Type 0
ToldCommand (run r) contents text status = ToldRun r contents text status
ToldCommand (script q path) contents text status = ToldScript (said_to q) path (contents path) text status
ToldCommand (may m) contents text status = ToldMay m contents text status
ToldCommand (large n) contents text status = ToldLarge large_run (large_contents n) n text status

-- the program says this text, as characters, and ends with this status
abbrev pub Told : List (List ℕ) → (List ℕ → List ℕ) → List ℕ → ℕ → Type 0
Told words contents text status =
    MatchOption (command_of words) ((text ≡ usage) × (status ≡ 2)) (λ command. ToldCommand command contents text status)
