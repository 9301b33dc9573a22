-- Exceptions: which handler takes one, and what `try` does (Python Language Reference, The try statement). A stop is taken by no handler,
-- and no `finally` runs for it.
use Rattle.std.specs.Prelude.{Bool, true, List, [], ◌∷◌, codes, option_map, option_and_then, Option, Some, None, Result, Ok, Err}
use Rattle.std.specs.List.{list_any}
use Rattle.rp_base.specs.declared.kind.Kind.{Kind}
use Rattle.rp_base.specs.declared.kind.Kind.TheVariants.{TypeError}
use Rattle.rp_base.specs.declared.value.Name.{Name}
use Rattle.rp_base.specs.declared.value.Raised.{Raised}
use Rattle.rp_base.specs.declared.value.Rock.TheVariants as rock
use Rattle.rp_base.specs.declared.value.Value.{Value}
use Rattle.rp_base.specs.declared.value.Value.TheVariants as value
use Rattle.rp_base.specs.Kind.{is_under}
use Rattle.rp_ops.specs.Outcome.{End, raised, no_step, no_cell, gives, ends, raises, on_value}
use Rattle.rp_store.specs.Heap.{Owned, content_at}
use Rattle.rp_store.specs.Object as object
use Rattle.rp_store.specs.Object.{Content}
use Rattle.rp_meaning.specs.State.{State, Outcome, Flow, on_next, heap_of, choose}
use Rattle.rp_meaning.specs.Frame.{Frame, Meaning, Doing, bind_name, without_name}

-- what a value is in `except`: a kind, or a tuple of kinds

abbrev pub kind_of : Value → Option Kind
kind_of (value.Rock (rock.Kind k)) = Some k
kind_of _ = None

abbrev pub kinds_of : List Value → Option (List Kind)
kinds_of [] = Some []
kinds_of (v ∷ vs) = option_and_then (λ k. option_map (λ ks. k ∷ ks) (kinds_of vs)) (kind_of v)

abbrev pub tuple_kinds : Content → Option (List Kind)
tuple_kinds (object.tuple vs) = kinds_of vs
tuple_kinds _ = None

abbrev pub kinds_named : List Owned → Value → Option (List Kind)
kinds_named heap (value.Rock (rock.Kind k)) = Some (k ∷ [])
kinds_named heap (value.Rock r) = None
kinds_named heap (value.Ref at) = option_and_then tuple_kinds (content_at heap at)
kinds_named heap (value.Prox at) = None

-- handlers

-- the state changed, however the outcome came about but by a stop
abbrev pub after : Outcome Flow → (State → State) → Outcome Flow
after o change = by o.answer where
  by : Result Flow End → Outcome Flow
  by (Err no_step) = o
  by (Err no_cell) = o
  by _ = record o { state = change o.state }

-- what is handled, the name that it is bound to, and what is done then
pub record Handler : Type 0 where
  pub kind : Option Meaning
  pub name : Option Name
  pub body : Doing

-- the block of a handler, with the exception bound to the name of `as`, which is unbound at its end
abbrev pub handled : Option Name → Doing → Raised → Doing
handled None body r frame s = body (record frame { handling = Some r }) s
handled (Some name) body r frame s =
    on_next (bind_name name (value.Rock (rock.Exc r.kind r.text)) frame s) (λ s.
    after (body (record frame { handling = Some r }) s) (without_name name frame))

-- whether the value in `except` names a kind that the exception is under
abbrev pub matches : Value → Raised → State → Outcome Bool
matches v r s = by (kinds_named (heap_of s) v) where
  by : Option (List Kind) → Outcome Bool
  by None = raises TypeError (codes "except") s
  by (Some ks) = gives (list_any (is_under r.kind) ks) s

-- whether a handler takes the exception; one without an expression takes any
abbrev pub takes_raised : Option Meaning → Raised → Frame → State → Outcome Bool
takes_raised None r frame s = gives true s
takes_raised (Some m) r frame s = on_value (m frame s) (λ v s. matches v r s)

-- the first handler that takes the exception; none lets it pass
abbrev pub handle : List Handler → Raised → Doing
handle [] r frame s = ends (raised r) s
handle (h ∷ hs) r frame s = on_value (takes_raised h.kind r frame s) (λ b s. choose b (handled h.name h.body r frame) (handle hs r frame) s)

-- The block of `else` runs after a block that was done; what is raised in it, no handler of the same `try` takes.
abbrev pub otherwise : Outcome Flow → (State → Outcome Flow) → (Raised → State → Outcome Flow) → Outcome Flow
otherwise o other go = by o.answer where
  by : Result Flow End → Outcome Flow
  by (Ok flow) = on_next o other
  by (Err (raised r)) = go r o.state
  by (Err e) = o

-- what leaves the block of `finally` replaces what left the statement
abbrev pub finally : Outcome Flow → (State → Outcome Flow) → Outcome Flow
finally o last = by o.answer where
  by : Result Flow End → Outcome Flow
  by (Err no_step) = o
  by (Err no_cell) = o
  by answer = on_next (last o.state) (λ s. record { answer = answer; state = s })

abbrev pub try : Doing → List Handler → Doing → Doing → Doing
try body handlers other last frame s = finally (otherwise (body frame s) (other frame) (λ r s. handle handlers r frame s)) (last frame)

-- raising

abbrev pub raise_value : Value → State → Outcome Flow
raise_value (value.Rock (rock.Exc k t)) s = raises k t s
raise_value (value.Rock (rock.Kind k)) s = raises k [] s
raise_value _ s = raises TypeError (codes "raise") s

-- `raise` alone raises what the innermost handler around it took; the grammar lets it stand nowhere else
abbrev pub raise_again : Option Raised → State → Outcome Flow
raise_again (Some r) s = ends (raised r) s
raise_again None s = raises TypeError (codes "raise") s
