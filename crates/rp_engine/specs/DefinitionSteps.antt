-- What a definition of a function still does once some of its defaults are known, and a call of what is at hand, as the code has functions for them; each is
-- a part of a form of rp_meaning.
use Rattle.std.specs.Prelude.{ℕ, Bool, true, false, List, ◌++◌, Option, Some, None, slice_get}
use Rattle.rp_base.specs.declared.value.Name.{Name}
use Rattle.rp_base.specs.declared.value.Oid.{Oid}
use Rattle.rp_base.specs.declared.value.Side.{Side}
use Rattle.rp_base.specs.declared.value.Value.{Value}
use Rattle.rp_base.specs.declared.value.Value.TheVariants as value
use Rattle.rp_meaning.specs.Binding.{Arguments, only}
use Rattle.rp_meaning.specs.BuiltIn.{not_called}
use Rattle.rp_meaning.specs.Calls.{object_call}
use Rattle.rp_meaning.specs.Expressions.{makes_own, trailers, values}
use Rattle.rp_meaning.specs.Frame.{Meaning, takes}
use Rattle.rp_meaning.specs.State.{heap_of}
use Rattle.rp_ops.specs.Outcome.{on_value}
use Rattle.rp_enter.specs.Entering.{lent_by}
use Rattle.rp_store.specs.Heap.{Owned}
use Rattle.rp_store.specs.Object as object
use Rattle.rp_store.specs.Object.{Content}
use Rattle.rp_store.specs.declared.object.Callee.TheVariants as callee

-- a function of a side and a code block, made in a scope
abbrev pub function_of : Option Name → Side → ℕ → Oid → List Value → Content
function_of name side block scope vs = object.function name side block scope vs

-- the defaults behind some, and then the function
abbrev pub with_defaults : Option Name → ℕ → List Meaning → List Value → Meaning
with_defaults name block ms vs f s = on_value (values ms f s) (λ ws s. makes_own (function_of name f.side block f.scope (vs ++ ws)) f s)

-- the place of what is called by a reference, and whether it is called through a proxy
abbrev pub callee_of : Value → Option (Oid × Bool)
callee_of (value.Rock rock) = None
callee_of (value.Ref at) = Some (at, false)
callee_of (value.Prox at) = Some (at, true)

-- a call of the object at a place, where that runs code or makes an instance; a built-in method runs none, so it is not called so

abbrev pub code_of : Oid → Side → Content → Arguments → Meaning
code_of at owner (object.method receiver (callee.Native id)) a f s = not_called s
code_of at owner c a f s = object_call at owner c a f s

abbrev pub code_call : Oid → Option Owned → Arguments → Meaning
code_call at None a f s = not_called s
code_call at (Some o) a f s = code_of at o.owner o.content a f s

-- what was got by a call, through a proxy or not
abbrev pub got_by : Bool → Value → Meaning
got_by lent v f s = takes (lent_by lent v) f s

-- a call whose decision is made
abbrev pub called_by : Option (Oid × Bool) → Arguments → Meaning
called_by None a f s = not_called s
called_by (Some c) a f s = on_value (code_call c.0 (slice_get (heap_of s) c.0.0) a f s) (λ r s. got_by c.1 r f s)

abbrev pub called : Value → Arguments → Meaning
called v a f s = called_by (callee_of v) a f s

-- the trailers behind it
abbrev pub with_called : List (Value → Meaning) → Value → List Value → Meaning
with_called ts v vs f s = on_value (called v (only vs) f s) (λ w s. trailers ts w f s)
