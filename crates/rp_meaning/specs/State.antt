-- A moment of a run, and how forms go on in it (Python Language Reference, Execution model). It holds the moment of plain operations, which are
-- done in it as they stand. Each definition hands the state on to the next; the code changes one world where it is.
use Rattle.std.specs.Prelude.{ℕ, List, Bool, true, false}
use Rattle.rp_base.specs.declared.value.Oid.{Oid}
use Rattle.rp_base.specs.declared.value.Side.{Side}
use Rattle.rp_base.specs.declared.value.Value.{Value}
use Rattle.rp_decl.specs.Records.{Declarations}
use Rattle.rp_ops.specs.Outcome as plain
use Rattle.rp_ops.specs.Outcome.{Ending, gives, on_value}
use Rattle.rp_proxy.specs.Decide.{Monitor}
use Rattle.rp_store.specs.Heap.{Owned}
use Rattle.rp_store.specs.Object.{Content}
use Rattle.rp_trail.specs.Entry.{Entry}

-- a moment of a run, as the code of the running session sees it
pub record State : Type 0 where
  -- what plain operations read and write: the objects, the cells, and the steps that are left to the session
  pub plain : plain.State
  -- the decisions so far
  pub log : List Entry
  -- the number of the session, the ids of its principals, and what it has printed
  pub session : ℕ
  pub who : List (List ℕ)
  pub printed : List ℕ
  -- the run's names, the words of operations first; `getattr` and `setattr` add the words that they are given
  pub names : List (List ℕ)
  -- what the declaration file says
  pub declarations : Declarations

abbrev pub heap_of : State → List Owned
heap_of s = s.plain.store.heap

-- how a form ends
abbrev pub Outcome : Type 0 → Type 0
Outcome A = Ending State A

-- goes on by a truth value, one way or the other
abbrev pub choose : {A : Type 0} → Bool → (State → Outcome A) → (State → Outcome A) → State → Outcome A
choose true this other s = this s
choose false this other s = other s

-- the end of a plain operation, as one of the whole state
abbrev pub lifted : {A : Type 0} → plain.Outcome A → State → Outcome A
lifted o s = record { answer = o.answer; state = record s { plain = o.state } }

-- a plain operation, done in the whole state
abbrev pub plainly : {A : Type 0} → (plain.State → plain.Outcome A) → State → Outcome A
plainly operation s = lifted (operation s.plain) s

-- takes a step and goes on, or stops where none is left
abbrev pub stepped : {A : Type 0} → State → (State → Outcome A) → Outcome A
stepped s go = on_value (plainly (λ p. plain.stepped p (gives (tt {0}))) s) (λ _ s. go s)

-- uses so many cells and goes on, or stops where they are over the limit
abbrev pub charged : {A : Type 0} → ℕ → State → (State → Outcome A) → Outcome A
charged cells s go = on_value (plainly (λ p. plain.charged cells p (gives (tt {0}))) s) (λ _ s. go s)

-- makes an object of a side, charges its cost, and gives its place
abbrev pub makes : Side → Content → State → Outcome Oid
makes side content s = plainly (plain.makes side content) s

-- the object at a place changed
abbrev pub with_change : Oid → (Content → Content) → State → State
with_change at change s = record s { plain = plain.with_change s.plain at change }

-- how a block is left: behind its last statement, or by `break`, `continue` or `return`
pub data Flow : Type 0 where
  next : Flow
  broke : Flow
  continued : Flow
  returned : Value → Flow

-- done; the next statement is behind this one
abbrev pub done : State → Outcome Flow
done s = gives next s

-- goes on behind a statement that was done; every other way to leave passes through
abbrev pub on_flow : Flow → State → (State → Outcome Flow) → Outcome Flow
on_flow next s go = go s
on_flow broke s go = gives broke s
on_flow continued s go = gives continued s
on_flow (returned v) s go = gives (returned v) s

abbrev pub on_next : Outcome Flow → (State → Outcome Flow) → Outcome Flow
on_next o go = on_value o (λ flow s. on_flow flow s go)

-- a plain operation that gives nothing, as a statement
abbrev pub plainly_done : (plain.State → plain.Outcome (Unit {0})) → State → Outcome Flow
plainly_done operation s = on_value (plainly operation s) (λ _ s. done s)

-- what decisions read and write of a state
abbrev pub monitor_of : State → Monitor
monitor_of s = record {
  declarations = s.declarations;
  names = s.names;
  store = s.plain.store;
  log = s.log;
  session = s.session;
  who = s.who;
}

-- the state after a decision
abbrev pub with_monitor : Monitor → State → State
with_monitor m s = record s { plain = record s.plain { store = m.store }; log = m.log }
