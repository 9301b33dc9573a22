-- What code may change of objects. No code changes the owner of an object, nor what kind of object it is. And up to the
-- first operation that is allowed of it on a proxy, code of a script changes no object of others (zope.security,
-- proxies and checkers).
use Rattle.std.specs.Prelude.{◌≡◌, ℕ, suc, List, slice_get, option_map, Some, Ok, Err}
use Rattle.rp_base.specs.declared.native.NativeId.TheVariants as native
use Rattle.rp_base.specs.declared.value.Oid.{Oid}
use Rattle.rp_base.specs.declared.value.Side.{Side}
use Rattle.rp_base.specs.declared.value.Value.{Value}
use Rattle.rp_base.specs.declared.value.Value.TheVariants as value
use Rattle.rp_base.specs.declared.word.TheConstants.{LEN}
use Rattle.rp_checker.specs.RowOf.{Operation}
use Rattle.rp_ops.specs.Outcome.{no_cell}
use Rattle.rp_proxy.specs.Decide.{Decision, Monitor, decide, go}
use Rattle.rp_store.specs.Heap.{Owned}
use Rattle.rp_store.specs.Shape.{shaped}
use Rattle.rp_tree.specs.Expressions as tree
use Rattle.rp_tree.specs.Statements as stmt_tree
use Rattle.rp_meaning.specs.Binding.{Arguments}
use Rattle.rp_meaning.specs.Frame.{Frame, Run}
use Rattle.rp_meaning.specs.Meaning.{block, eval, exec}
use Rattle.rp_meaning.specs.Running.{calls, frame_in}
use Rattle.rp_meaning.specs.State.{Outcome, State, heap_of}
use Rattle.rp_apart_laws.specs.Apart.{Each}
use Rattle.rp_fixed_laws.specs.Fixed.{AreBuiltIn, IsQuietRun}
use Rattle.rp_owner_laws.specs.Code.{LetsNothingThrough}
use Rattle.rp_owner_laws.specs.Kept.{Fits, IsOwn, own}

-- ---- owners and kinds

-- each object that was there has its owner, and is of its kind: an instance of its class, a function of its code, a
-- scope of its block
abbrev pub OwnersStay : List Owned → List Owned → Type 0
OwnersStay old new =
    (at : Oid) (o : Owned) → slice_get old at.0 ≡ Some o → option_map shaped (slice_get new at.0) ≡ Some (shaped o)

-- what is done in a frame of any program, of its functions and its comprehensions
abbrev pub KeepsOwners : {A : Type 0} → (Frame → State → Outcome A) → Type 0
KeepsOwners does = (run : Run) → IsQuietRun run → (side : Side) (number : ℕ) (scope : Oid) (s : State)
    → OwnersStay (heap_of s) (heap_of (does (frame_in run (calls run) side number scope) s).state)

abbrev pub ExpressionsKeepOwners : Type 0
ExpressionsKeepOwners = (x : tree.Expr) → KeepsOwners (eval x)

abbrev pub StatementsKeepOwners : Type 0
StatementsKeepOwners = (x : stmt_tree.Stmt) → KeepsOwners (exec x)

abbrev pub BlocksKeepOwners : Type 0
BlocksKeepOwners = (b : stmt_tree.Stmts) → KeepsOwners (block b)

abbrev pub FunctionsKeepOwners : Type 0
FunctionsKeepOwners = (run : Run) → IsQuietRun run → (at : Oid) (a : Arguments) (s : State)
    → OwnersStay (heap_of s) (heap_of (calls run at a s).state)

-- ---- the objects of others

-- each object of another owner than the script of that number is as it was
abbrev pub OthersStay : ℕ → List Owned → List Owned → Type 0
OthersStay n old new =
    (at : Oid) (o : Owned) → slice_get old at.0 ≡ Some o → (o.owner.0 ≡ suc n → ⊥) → slice_get new at.0 ≡ Some o

-- the objects of the script are such as its code makes them
abbrev pub IsOrdered : ℕ → List Owned → Type 0
IsOrdered n heap = Each (λ o. o.owner.0 ≡ suc n → Fits (own n heap) o.content) heap

-- what is done in a frame of a script, in a run in which nothing is let through a proxy, with a scope of its own
abbrev pub LeavesOthers : {A : Type 0} → (Frame → State → Outcome A) → Type 0
LeavesOthers does = (run : Run) → IsQuietRun run → LetsNothingThrough run → (n number : ℕ) (scope : Oid) (s : State)
    → IsOrdered n (heap_of s) → IsOwn (own n (heap_of s)) (slice_get (heap_of s) scope.0)
    → OthersStay n (heap_of s) (heap_of (does (frame_in run (calls run) (record { 0 = suc n }) number scope) s).state)

abbrev pub ExpressionsLeaveOthers : Type 0
ExpressionsLeaveOthers = (x : tree.Expr) → LeavesOthers (eval x)

abbrev pub StatementsLeaveOthers : Type 0
StatementsLeaveOthers = (x : stmt_tree.Stmt) → LeavesOthers (exec x)

abbrev pub BlocksLeaveOthers : Type 0
BlocksLeaveOthers = (b : stmt_tree.Stmts) → LeavesOthers (block b)

-- a call of a function of the script, with whatever arguments
abbrev pub FunctionsLeaveOthers : Type 0
FunctionsLeaveOthers = (run : Run) → IsQuietRun run → LetsNothingThrough run → (n : ℕ) (at : Oid) (a : Arguments)
    (s : State) → IsOrdered n (heap_of s) → IsOwn (own n (heap_of s)) (slice_get (heap_of s) at.0)
    → OthersStay n (heap_of s) (heap_of (calls run at a s).state)

-- ---- up to the first that is allowed

abbrev pub stopping : Decision → Decision
stopping (Ok nothing) = Err no_cell
stopping (Err e) = Err e

-- as the monitor decides, but the first operation that is allowed on a proxy ends the run in place of being done
abbrev pub decide_until : Value → Operation → Monitor → Decision × Monitor
decide_until (value.Rock r) op m = (go, m)
decide_until (value.Ref at) op m = (go, m)
decide_until (value.Prox at) op m = (stopping (decide (value.Prox at) op m).0, (decide (value.Prox at) op m).1)

abbrev pub cut : Run → Run
cut run = record run { decide = decide_until }

-- such a run is one in which nothing is let through
abbrev pub CutRunsAreSuch : Type 0
CutRunsAreSuch = (run : Run) → AreBuiltIn run.natives → run.natives.needs native.Len 0 1 ≡ Some LEN
    → IsQuietRun (cut run) × LetsNothingThrough (cut run)
