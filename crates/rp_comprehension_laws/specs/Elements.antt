-- The elements that a comprehension gives (Python Language Reference, Displays for lists, sets and dictionaries): each
-- clause is a block within those before it, and where the innermost is reached, the expression is evaluated to give an
-- element. It is a relation on runs that come to an end.
use Rattle.std.specs.Prelude.{◌≡◌, ℕ, Bool, true, false, List, [], ◌∷◌, ◌++◌, length, Some, None}
use Rattle.rp_base.specs.declared.value.Oid.{Oid}
use Rattle.rp_base.specs.declared.value.Value.{Value}
use Rattle.rp_ops.specs.Outcome.{gives, on_value}
use Rattle.rp_ops.specs.Walk.{Cursor}
use Rattle.rp_store.specs.Heap.{content_at}
use Rattle.rp_store.specs.Object.{Content}
use Rattle.rp_meaning.specs.State.{State, Outcome, heap_of, done, makes, stepped}
use Rattle.rp_meaning.specs.Frame.{Frame, Meaning, layouts_of}
use Rattle.rp_meaning.specs.Expressions.{Clause, empty_slots, new_scope}
use Rattle.rp_meaning.specs.Statements.{Store}
use Rattle.rp_meaning.specs.Walks.{next_element, on_truth, walk}

-- parts of a clause

-- its iterable is evaluated, and a walk over it begins
abbrev pub begins : Clause → Frame → State → Outcome Cursor
begins c frame s = on_value (c.of frame s) (λ v s. walk v frame s)

-- whether tests are true, up to the first that is not
abbrev pub passes : List Meaning → Frame → State → Outcome Bool
passes [] frame s = gives true s
passes (m ∷ ms) frame s = on_value (m frame s) (λ v s. on_truth v frame s (passes ms frame) (gives false))

-- its target is bound to what came next in the walk, and whether its tests are true then
abbrev pub selects : Clause → Value → Frame → State → Outcome Bool
selects c v frame s = on_value (c.bind v frame s) (λ _ s. passes c.tests frame s)

mutual
  -- Clauses give these elements, from a state on to another; something is done with each, as it is given.
  pub data Gives (m : Meaning) (put : Store) (frame : Frame) : List Clause → State → List Value → State → Type 0 where
    -- the innermost block is reached
    element : {s t u : State} {v : Value} → m frame s ≡ gives v t → put v frame t ≡ done u
        → Gives m put frame [] s (v ∷ []) u
    -- a walk begins
    within : {c : Clause} {cs : List Clause} {s t u : State} {w : Cursor} {vs : List Value}
        → begins c frame s ≡ gives w t → GivesFrom m put frame c cs w t vs u → Gives m put frame (c ∷ cs) s vs u

  -- the same, of what is left of the walk of the first of them
  pub data GivesFrom (m : Meaning) (put : Store) (frame : Frame)
      : Clause → List Clause → Cursor → State → List Value → State → Type 0 where
    -- nothing comes next
    at_end : {c : Clause} {cs : List Clause} {w : Cursor} {s u : State} → next_element frame w s ≡ gives None u
        → GivesFrom m put frame c cs w s [] u
    -- what comes next does not pass the tests
    left_out : {c : Clause} {cs : List Clause} {w x : Cursor} {s t r u : State} {v : Value} {vs : List Value}
        → next_element frame w s ≡ gives (Some (v, x)) t → selects c v frame t ≡ gives false r
        → GivesFrom m put frame c cs x r vs u → GivesFrom m put frame c cs w s vs u
    -- it does, and the later clauses give the first of the elements
    selected : {c : Clause} {cs : List Clause} {w x : Cursor} {s t q r u : State} {v : Value} {vs vs' : List Value}
        → next_element frame w s ≡ gives (Some (v, x)) t → selects c v frame t ≡ gives true q
        → Gives m put frame cs q vs r → GivesFrom m put frame c cs x r vs' u
        → GivesFrom m put frame c cs w s (vs ++ vs') u

-- the object at a place is as it was
abbrev pub Same : Oid → State → State → Type 0
Same at s u = content_at (heap_of u) at ≡ content_at (heap_of s) at

-- what the clauses and the expression do keeps the object at a place as it is: only what is done with elements may
-- change it
abbrev mutual
  pub Keeps : {m : Meaning} {put : Store} {frame : Frame} {cs : List Clause} {s u : State} {vs : List Value} → Oid
      → Gives m put frame cs s vs u → Type 0
  Keeps at (element {s = s} {t = t} e p) = Same at s t
  Keeps at (within {s = s} {t = t} e g) = Same at s t × KeepsFrom at g

  pub KeepsFrom : {m : Meaning} {put : Store} {frame : Frame} {c : Clause} {cs : List Clause} {w : Cursor}
      {s u : State} {vs : List Value} → Oid → GivesFrom m put frame c cs w s vs u → Type 0
  KeepsFrom at (at_end {s = s} {u = u} e) = Same at s u
  KeepsFrom at (left_out {s = s} {r = r} e f g) = Same at s r × KeepsFrom at g
  KeepsFrom at (selected {s = s} {q = q} e f g h) = Same at s q × Keeps at g × KeepsFrom at h

-- code of the block of a comprehension, in a scope
abbrev pub inner_frame : ℕ → Oid → Frame → Frame
inner_frame block scope frame = record frame { block = block; scope = scope }

-- a comprehension of a code block begins: its first iterable is evaluated in the scope around, and behind that stand a
-- walk over it, the comprehension's own scope, and its result, which is empty
abbrev pub opens : ℕ → Clause → Content → Frame → State → Outcome (Cursor × Oid × Oid)
opens block c empty frame s = stepped s (λ s. on_value (begins c frame s) (λ w s.
    on_value (new_scope block frame (empty_slots (length ((layouts_of frame).locals block))) s) (λ scope s.
    on_value (makes frame.side empty s) (λ at s. gives (w, scope, at) s))))

-- a comprehension gives these elements, and puts each into its result, the object at a place
pub record Gathers (block : ℕ) (m : Meaning) (c : Clause) (cs : List Clause) (empty : Content) (put : Oid → Store)
    (frame : Frame) (s : State) (vs : List Value) (at : Oid) (u : State) : Type 0 where
  pub walked : Cursor
  pub scope : Oid
  pub before : State
  pub opened : opens block c empty frame s ≡ gives (walked, scope, at) before
  pub given : GivesFrom m (put at) (inner_frame block scope frame) c cs walked before vs u
