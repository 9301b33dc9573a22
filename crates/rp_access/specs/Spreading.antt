-- What is spread over the arguments of a call, as the code has functions for it; each is a part of a form of rp_meaning.
use Rattle.std.specs.Prelude.{ℕ, List, map, Option, Some, None, Result, Ok, Err}
use Rattle.std.specs.declared.alloc.Global.{Global}
use Rattle.std.specs.declared.vec.Vec.{Vec}
use Rattle.rp_base.specs.declared.value.OpEnd.{OpEnd}
use Rattle.rp_base.specs.declared.value.Rock.{Rock}
use Rattle.rp_base.specs.declared.value.Rock.TheVariants as rock
use Rattle.rp_base.specs.declared.value.Side.{Side}
use Rattle.rp_base.specs.declared.value.Value.{Value}
use Rattle.rp_base.specs.declared.word.TheConstants.{ITER, ITEMS}
use Rattle.rp_meaning.specs.BuiltIn.{wrong_argument}
use Rattle.rp_meaning.specs.Calls.{entries_named}
use Rattle.rp_meaning.specs.Frame.{through}
use Rattle.rp_meaning.specs.State.{State, Outcome, heap_of, plainly}
use Rattle.rp_ops.specs.Outcome.{gives, on_value}
use Rattle.rp_ops.specs.Walk.{elements}
use Rattle.rp_proxy.specs.Taken.{taken}
use Rattle.rp_store.specs.Heap.{Owned}
use Rattle.rp_access.specs.Parts.{asking}

-- values as code of a side takes them
abbrev pub all_taken : Side → List Value → State → Outcome (List Value)
all_taken side vs s = gives (map (taken (heap_of s) side) vs) s

-- the elements of a value, once that is decided
abbrev pub spread : Side → Value → State → Outcome (List Value)
spread side v s = on_value (asking ITER v s) (λ _ s. on_value (plainly (elements v) s) (λ vs s. all_taken side vs s))

-- a value with a name, as code of a side gets it through a value
abbrev pub got_through : List Owned → Side → Value → List ℕ × Value → List ℕ × Value
got_through heap side from n = (n.0, taken heap side (through from n.1))

-- the text that a key is
abbrev pub word_of : Rock → Option (List ℕ)
word_of (rock.Text t) = Some t
word_of _ = None

-- values with names, where there are any
abbrev pub all_got : Side → Value → Option (List (List ℕ × Value)) → State → Outcome (List (List ℕ × Value))
all_got side from None s = wrong_argument s
all_got side from (Some ns) s = gives (map (got_through (heap_of s) side from) ns) s

-- the entries of a value, once that is decided
abbrev pub spread_named : Side → Value → State → Outcome (List (List ℕ × Value))
spread_named side v s = on_value (asking ITEMS v s) (λ _ s. all_got side v (entries_named (heap_of s) v) s)

-- what was answered, by what the vector holds
abbrev pub named_of : Result (Vec (List ℕ × Value) Global) OpEnd → Result (List (List ℕ × Value)) OpEnd
named_of (Ok ns) = Ok ns.items
named_of (Err e) = Err e
