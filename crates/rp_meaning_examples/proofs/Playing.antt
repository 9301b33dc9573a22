-- Whole runs: the module is loaded, the sessions play, and what is seen of them is told. A few built-in functions stand in for all.
use Rattle.std.proofs.Common.{ℕ, zero, suc, pos, Bool, true, false, List, [], ◌∷◌, ◌++◌, codes, map, Option, Some, None, Result, Ok, Err}
use Rattle.std.specs.Prelude.{option_and_then, slice_index_or, position, ◌==◌, if◌then◌else◌, unsigned_abs}
use Rattle.std.specs.List.{range_with_len}
use Rattle.std.specs.Map.{lookup}
use Rattle.std.specs.Option.{option_map_or}
use Rattle.rp_base.specs.declared.word.TheConstants.{LEN, BOOL, STR, ITER}
use Rattle.rp_base.specs.declared.kind.Kind.{Kind}
use Rattle.rp_base.specs.declared.kind.Kind.TheVariants.{TypeError}
use Rattle.rp_base.specs.declared.native.NativeId.{NativeId}
use Rattle.rp_base.specs.declared.native.NativeId.TheVariants as native
use Rattle.rp_base.specs.declared.value.Name.{Name}
use Rattle.rp_base.specs.declared.value.Side.{Side}
use Rattle.rp_base.specs.declared.value.Rock.TheVariants as rock
use Rattle.rp_base.specs.declared.value.Value.{Value}
use Rattle.rp_base.specs.declared.value.Value.TheVariants as value
use Rattle.rp_decl.specs.Records.{Declarations, Class, Principal, Field, text, list, field, no_fields}
use Rattle.rp_ops.specs.Outcome as plain
use Rattle.rp_ops.specs.Outcome.{End}
use Rattle.rp_ops.specs.Binary.{new_object}
use Rattle.rp_ops.specs.Keys.{index_number}
use Rattle.rp_ops.specs.Operand.{length_of, truth_of}
use Rattle.rp_ops.specs.Walk.{elements}
use Rattle.rp_proxy.specs.Decide.{decide}
use Rattle.rp_proxy.specs.Taken.{bare}
use Rattle.rp_show.specs.Show.{show, printed}
use Rattle.rp_store.specs.Key.{same_name}
use Rattle.rp_store.specs.Heap.{Owned, content_at}
use Rattle.rp_store.specs.Object as object
use Rattle.rp_store.specs.Object.{Content}
use Rattle.rp_store.specs.Writers.{pushed}
use Rattle.rp_trail.specs.Entry.{Entry, Verdict, allowed}
use Rattle.rp_tree.specs.Statements as stmt_tree
use Rattle.rp_meaning.specs.Frame.{Run, Program, Natives, program_of}
use Rattle.rp_meaning.specs.Load.{load, with_new_session, Refused}
use Rattle.rp_meaning.specs.Scopes.{Place, local, global, held, slot_in}
use Rattle.rp_meaning.specs.Sessions.{World, Session, SessionEnd, run_all}
use Rattle.rp_meaning.specs.Unmonitored.{unmonitored}
use Rattle.rp_meaning_examples.proofs.Building.{body}
use Rattle.rp_meaning_examples.proofs.Words.{words}

-- programs

-- a code block: its local names, and the places of names that blocks around it have
abbrev pub Block : Type 0
Block = List Name × List (Name × Place)

abbrev block_at : List Block → ℕ → Block
block_at blocks b = slice_index_or blocks b ([], [])

-- block 0 finds each name among the globals
abbrev place_in : List Block → ℕ → Name → Place
place_in blocks zero n = global
place_in blocks (suc b) n = own (block_at blocks (suc b)) where
  around : Block → Place
  around block = option_map_or (λ p. p) (lookup (same_name n) block.1) global

  own : Block → Place
  own block = option_map_or local (position (same_name n) block.0) (around block)

abbrev pub program : List stmt_tree.StmtForm → List Block → Program
program statements blocks = program_of (body statements) (record { locals = λ b. (block_at blocks b).0; place = place_in blocks })

-- built-in functions

abbrev one_shown : List (List ℕ) → Value → plain.State → plain.Outcome (List ℕ)
one_shown names (value.Rock (rock.Text t)) s = printed t s
one_shown names v s = show names v s

abbrev then_shown : List (List ℕ) → List Value → plain.State → plain.Outcome (List ℕ)
then_shown names [] s = printed (codes "\n") s
then_shown names (v ∷ vs) s =
    plain.on_value (printed (codes " ") s) (λ blank s. plain.on_value (one_shown names v s) (λ shown s.
    plain.on_value (then_shown names vs s) (λ rest s. plain.gives (blank ++ shown ++ rest) s)))

abbrev print_line : List (List ℕ) → List Value → plain.State → plain.Outcome (List ℕ)
print_line names [] s = printed (codes "\n") s
print_line names (v ∷ vs) s =
    plain.on_value (one_shown names v s) (λ shown s. plain.on_value (then_shown names vs s) (λ rest s. plain.gives (shown ++ rest) s))

abbrev only_of_one : ℕ → Name → Option Name
only_of_one count name = if count == 1 then Some name else None

abbrev needs : NativeId → ℕ → ℕ → Option Name
needs native.Len i count = only_of_one count LEN
needs native.Bool i count = only_of_one count BOOL
needs native.List i count = only_of_one count ITER
needs native.Print i count = Some STR
needs id i count = None

abbrev wrong : {A : Type 0} → List ℕ → plain.State → plain.Outcome A
wrong word s = plain.raises TypeError word s

abbrev pub number : ℕ → Value
number n = value.Rock (rock.Int (pos n))

abbrev function : List (List ℕ) → Side → NativeId → List Value → plain.State → plain.Outcome Value
function names side native.Len (v ∷ []) s = option_map_or (λ n. plain.gives (number n) s) (length_of s.store.heap v) (wrong (codes "len") s)
function names side native.Bool (v ∷ []) s = plain.gives (value.Rock (rock.Truth (truth_of s.store.heap v))) s
function names side native.List (v ∷ []) s = plain.on_value (elements v s) (λ vs s. new_object side (object.list vs) s)
function names side native.Range (v ∷ []) s =
    option_map_or (λ n. new_object side (object.list (map number (range_with_len 0 (unsigned_abs n)))) s) (index_number v) (wrong (codes "argument") s)
function names side native.RemoveSecurityProxy (v ∷ []) s = plain.gives (bare v) s
function names side id vs s = wrong (codes "arguments") s

abbrev method : List (List ℕ) → Side → Value → NativeId → List Value → plain.State → plain.Outcome Value
method names side (value.Ref at) native.Append (v ∷ []) s =
    plain.charged 1 s (λ s. plain.gives (value.Rock rock.Nil) (plain.with_change s at (pushed v)))
method names side r id vs s = wrong (codes "arguments") s

abbrev natives : Natives
natives = record {
  is_function = λ id. true;
  is_method = λ heap receiver id. true;
  needs = needs;
  function = function;
  method = method;
  print_line = print_line;
}

-- it begins with an underscore
abbrev is_forbidden : List ℕ → Bool
is_forbidden [] = false
is_forbidden (c ∷ cs) = c == 95

abbrev run_of : List Program → Run
run_of programs = record {
  programs = λ side. slice_index_or programs side.0 (program [] []);
  natives = natives;
  is_identifier = λ word. true;
  is_forbidden = is_forbidden;
  decide = decide;
}

-- the declarations: the principals `p`, who may view, and `q`, who may not, and the objects `o` and `items` of the class Item

abbrev viewed : List ℕ → List ℕ × List ℕ
viewed word = (word, codes "zope.View")

abbrev item : Class
item = record {
  name = codes "Item";
  like = None;
  get = viewed (codes "__call__") ∷ viewed (codes "__contains__") ∷ viewed (codes "__getitem__") ∷ (codes "__len__", codes "zope.Public")
      ∷ (codes "m", codes "secret") ∷ viewed (codes "n") ∷ viewed (codes "part") ∷ viewed (codes "total") ∷ [];
  set = viewed (codes "n") ∷ [];
}

abbrev principal : List ℕ → List (List ℕ) → Principal
principal id allow = record { id = id; groups = []; roles = []; allow = allow; deny = [] }

abbrev part : Field
part = list (field (text (codes "a")) (field (text (codes "b")) (field (text (codes "c")) no_fields)))

abbrev declared : Declarations
declared = record {
  permissions = codes "secret" ∷ codes "zope.Public" ∷ codes "zope.View" ∷ [];
  expose = codes "o" ∷ codes "items" ∷ codes "fun" ∷ codes "Item" ∷ [];
  module_text = [];
  classes = item ∷ [];
  roles = [];
  groups = [];
  principals = principal (codes "p") (codes "zope.View" ∷ []) ∷ principal (codes "q") [] ∷ [];
  objects = record { name = codes "items"; class = codes "Item"; fields = (codes "n", text (codes "seven")) ∷ [] } ∷ record {
    name = codes "o";
    class = codes "Item";
    fields = (codes "m", text (codes "eight")) ∷ (codes "n", text (codes "seven")) ∷ (codes "part", part) ∷ [];
  } ∷ [];
}

-- what is seen of a run

-- an entry of the trail: the session, `get` or `set`, the class, the name, and whether it was allowed
pub data Decided : Type 0 where
  decided : ℕ → List ℕ → List ℕ → List ℕ → Bool → Decided

abbrev is_allowed : Verdict → Bool
is_allowed (allowed permission) = true
is_allowed _ = false

abbrev decided_by : Entry → Decided
decided_by entry = decided entry.session entry.op entry.class entry.name (is_allowed entry.verdict)

-- the usual entries

abbrev pub read : ℕ → List ℕ → List ℕ → Decided
read session class name = decided session (codes "get") class name true

abbrev pub not_read : ℕ → List ℕ → List ℕ → Decided
not_read session class name = decided session (codes "get") class name false

abbrev pub set : ℕ → List ℕ → List ℕ → Decided
set session class name = decided session (codes "set") class name true

abbrev pub not_set : ℕ → List ℕ → List ℕ → Decided
not_set session class name = decided session (codes "set") class name false

-- the cells used, the entries, and of each session its end, the steps that are left, and what it printed
pub data Seen : Type 0 where
  seen : ℕ → List Decided → List (Option SessionEnd × ℕ × List ℕ) → Seen
  refused : Refused → Seen

abbrev seen_of : World → Seen
seen_of w = seen w.store.used (map decided_by w.log) (map (λ k. (k.end, k.steps, k.printed)) w.sessions)

abbrev with_sessions : Run → List (List ℕ) → ℕ → World → World
with_sessions run [] steps w = w
with_sessions run (who ∷ more) steps w = with_sessions run more steps (with_new_session run (who ∷ []) steps w)

abbrev played_in : Run → ℕ → List (List ℕ) → List ℕ → Result World Refused → Seen
played_in run steps who turns (Err r) = refused r
played_in run steps who turns (Ok w) = seen_of (run_all run turns (with_sessions run who steps w))

-- the module and the scripts, each with its principal, so many cells and, for each session, steps, and the turns that are listed
abbrev pub played : List Program → List (List ℕ) → ℕ → ℕ → List ℕ → Seen
played programs who cells steps turns = played_in (run_of programs) steps who turns (load (run_of programs) words declared cells)

-- the same without a monitor
abbrev pub played_unmonitored : List Program → List (List ℕ) → ℕ → ℕ → List ℕ → Seen
played_unmonitored programs who cells steps turns = played_in (unmonitored (run_of programs)) steps who turns (load (unmonitored (run_of programs)) words declared cells)

-- as the principal `p`, with ample cells and steps, each script to its end
abbrev pub plays : List Program → Seen
plays programs = played programs (codes "p" ∷ []) 100000 1000000 []

-- the end by an exception
abbrev pub raises_with : Kind → List ℕ → End
raises_with kind word = plain.raised (record { kind = kind; text = word })

-- what is left of a run

abbrev left_in : Run → ℕ → List (List ℕ) → Result World Refused → Result World Refused
left_in run steps who (Err r) = Err r
left_in run steps who (Ok w) = Ok (run_all run [] (with_sessions run who steps w))

-- the world behind the scripts, each with its principal, ample cells and, for each session, so many steps
abbrev pub leaves : List Program → List (List ℕ) → ℕ → Result World Refused
leaves programs who steps = left_in (run_of programs) steps who (load (run_of programs) words declared 100000)

-- the world behind one script of the principal `p`, with ample steps
abbrev pub left_by : List Program → Result World Refused
left_by programs = leaves programs (codes "p" ∷ []) 1000000

-- of each session what the variable of that number holds
abbrev variable_in : List Owned → ℕ → Session → Option Value
variable_in heap i k = held heap (Some (slot_in k.globals i))

abbrev pub variable : ℕ → Result World Refused → List (Option Value)
variable i (Err r) = []
variable i (Ok w) = map (variable_in w.store.heap i) w.sessions

-- and what the object holds that it refers to
abbrev content_of : List Owned → Value → Option Content
content_of heap (value.Ref at) = content_at heap at
content_of heap v = None

abbrev pub content : ℕ → Result World Refused → List (Option Content)
content i (Err r) = []
content i (Ok w) = map (λ k. option_and_then (content_of w.store.heap) (variable_in w.store.heap i k)) w.sessions

-- how each session ended, the steps that are left to it, and what it printed
abbrev pub ends : Result World Refused → List (Option SessionEnd)
ends (Err r) = []
ends (Ok w) = map (λ k. k.end) w.sessions

abbrev pub steps_left : Result World Refused → List ℕ
steps_left (Err r) = []
steps_left (Ok w) = map (λ k. k.steps) w.sessions

abbrev pub printed_by : Result World Refused → List (List ℕ)
printed_by (Err r) = []
printed_by (Ok w) = map (λ k. k.printed) w.sessions

-- the cells used, and the whole trail
abbrev pub cells_used : Result World Refused → Option ℕ
cells_used (Err r) = None
cells_used (Ok w) = Some w.store.used

abbrev pub trail : Result World Refused → List Entry
trail (Err r) = []
trail (Ok w) = w.log

-- how each session ended, and what it printed
abbrev pub told : Result World Refused → List (Option SessionEnd × List ℕ)
told (Err r) = []
told (Ok w) = map (λ k. (k.end, k.printed)) w.sessions
