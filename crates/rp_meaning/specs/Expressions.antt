-- What each kind of expression does, from what its parts do (Python Language Reference, Expressions). An expression takes a step at its
-- start, but `or`, `and`, comparisons, chains of operators and primaries; each later operand of those, and each trailer, takes one before it.
use Rattle.std.specs.Prelude.{ℕ, Bool, true, false, List, [], ◌∷◌, length, replicate, Option, Some, None, Result, Ok, Err}
use Rattle.rp_base.specs.declared.operator.BinOp.{BinOp}
use Rattle.rp_base.specs.declared.operator.BinOp.TheVariants.{Pow}
use Rattle.rp_base.specs.declared.operator.UnOp.{UnOp}
use Rattle.rp_base.specs.declared.value.Name.{Name}
use Rattle.rp_base.specs.declared.value.Oid.{Oid}
use Rattle.rp_base.specs.declared.value.Raised.{Raised}
use Rattle.rp_base.specs.declared.value.Rock.{Rock}
use Rattle.rp_base.specs.declared.value.Rock.TheVariants as rock
use Rattle.rp_base.specs.declared.value.Value.{Value}
use Rattle.rp_base.specs.declared.value.Value.TheVariants as value
use Rattle.rp_items.specs.Items as items
use Rattle.rp_ops.specs.Keys.{key_named}
use Rattle.rp_ops.specs.Outcome.{gives, on_value, on_found}
use Rattle.rp_store.specs.Object as object
use Rattle.rp_store.specs.Object.{Content}
use Rattle.rp_store.specs.Writers.{pushed, with_rock}
use Rattle.rp_tree.specs.declared.parts.Test.{Test}
use Rattle.rp_meaning.specs.State.{State, Outcome, on_next, stepped, charged, makes, plainly_done, done, choose, with_change}
use Rattle.rp_meaning.specs.Binding.{none}
use Rattle.rp_meaning.specs.Frame.{Frame, Meaning, Doing, layouts_of, read_name}
use Rattle.rp_meaning.specs.Walks.{walk, each, on_truth}
use Rattle.rp_meaning.specs.Operators.{operate, operate_unary, tested}
use Rattle.rp_meaning.specs.Access.{get_attribute, get_item, get_slice}
use Rattle.rp_meaning.specs.Calls as calls
use Rattle.rp_meaning.specs.Calls.{Argument}

abbrev pub truth : Bool → Value
truth b = value.Rock (rock.Truth b)

abbrev pub nil : Value
nil = value.Rock rock.Nil

-- a literal
abbrev pub constant : Value → Meaning
constant v frame s = stepped s (gives v)

abbrev pub name : Name → Meaning
name n frame s = stepped s (read_name n frame)

-- the values of the parts, from left to right
abbrev pub values : List Meaning → Frame → State → Outcome (List Value)
values [] frame s = gives [] s
values (m ∷ ms) frame s = on_value (m frame s) (λ v s. on_value (values ms frame s) (λ vs s. gives (v ∷ vs) s))

-- a new object of the side of the code
abbrev pub makes_own : Content → Meaning
makes_own content frame s = on_value (makes frame.side content s) (λ at s. gives (value.Ref at) s)

abbrev pub tuple : List Meaning → Meaning
tuple ms frame s = stepped s (λ s. on_value (values ms frame s) (λ vs s. makes_own (object.tuple vs) frame s))

abbrev pub list : List Meaning → Meaning
list ms frame s = stepped s (λ s. on_value (values ms frame s) (λ vs s. makes_own (object.list vs) frame s))

-- keys with their values
abbrev pub pairs : List (Meaning × Meaning) → Frame → State → Outcome (List (Value × Value))
pairs [] frame s = gives [] s
pairs (p ∷ ps) frame s =
    on_value (p.0 frame s) (λ k s. on_value (p.1 frame s) (λ v s. on_value (pairs ps frame s) (λ kvs s. gives ((k, v) ∷ kvs) s)))

-- a dict with entries added, where all keys have a key form
abbrev pub dict_with : Content → List (Value × Value) → Result Content Raised
dict_with c [] = Ok c
dict_with c (p ∷ ps) = by (key_named p.0) (λ r. dict_with (with_rock r p.1 c) ps) where
  by : Result Rock Raised → (Rock → Result Content Raised) → Result Content Raised
  by (Ok r) go = go r
  by (Err e) go = Err e

abbrev pub dict : List (Meaning × Meaning) → Meaning
dict ps frame s = stepped s (λ s. on_value (pairs ps frame s) (λ kvs s. on_found (dict_with (object.dict []) kvs) s (λ c s. makes_own c frame s)))

abbrev pub cond : Meaning → Meaning → Meaning → Meaning
cond x a b frame s = stepped s (λ s. on_value (x frame s) (λ v s. on_truth v frame s (a frame) (b frame)))

-- the later operands of `or` and of `and`: the last value, or the first that settles the whole, is the value
abbrev pub later_or : List Meaning → Value → Meaning
later_or [] v frame s = gives v s
later_or (m ∷ ms) v frame s = on_truth v frame s (gives v) (λ s. stepped s (λ s. on_value (m frame s) (λ w s. later_or ms w frame s)))

abbrev pub later_and : List Meaning → Value → Meaning
later_and [] v frame s = gives v s
later_and (m ∷ ms) v frame s = on_truth v frame s (λ s. stepped s (λ s. on_value (m frame s) (λ w s. later_and ms w frame s))) (gives v)

-- there are two operands at least
abbrev pub or : List Meaning → Meaning
or [] frame s = gives nil s
or (m ∷ ms) frame s = on_value (m frame s) (λ v s. later_or ms v frame s)

abbrev pub and : List Meaning → Meaning
and [] frame s = gives nil s
and (m ∷ ms) frame s = on_value (m frame s) (λ v s. later_and ms v frame s)

abbrev pub negated : Meaning → Meaning
negated m frame s = stepped s (λ s. on_value (m frame s) (λ v s. on_truth v frame s (gives (truth false)) (gives (truth true))))

-- the tests behind a first operand, up to the first that is false
abbrev pub tests : List (Test × Meaning) → Value → Meaning
tests [] a frame s = gives (truth true) s
tests (t ∷ ts) a frame s =
    stepped s (λ s. on_value (t.1 frame s) (λ b s. on_value (tested t.0 a b frame s) (λ r s. choose r (tests ts b frame) (gives (truth false)) s)))

abbrev pub compare : Meaning → List (Test × Meaning) → Meaning
compare m ts frame s = on_value (m frame s) (λ a s. tests ts a frame s)

-- the operators behind a first operand
abbrev pub operands : List (BinOp × Meaning) → Value → Meaning
operands [] a frame s = gives a s
operands (o ∷ os) a frame s = stepped s (λ s. on_value (o.1 frame s) (λ b s. on_value (operate o.0 a b frame s) (λ v s. operands os v frame s)))

abbrev pub chain : Meaning → List (BinOp × Meaning) → Meaning
chain m os frame s = on_value (m frame s) (λ a s. operands os a frame s)

abbrev pub unary : UnOp → Meaning → Meaning
unary op m frame s = stepped s (λ s. on_value (m frame s) (λ a s. operate_unary op a frame s))

abbrev pub power : Meaning → Meaning → Meaning
power m n frame s = stepped s (λ s. on_value (m frame s) (λ a s. on_value (n frame s) (λ b s. operate Pow a b frame s)))

-- what trailers do with the value before them
abbrev pub trailers : List (Value → Meaning) → Value → Meaning
trailers [] v frame s = gives v s
trailers (t ∷ ts) v frame s = on_value (stepped s (t v frame)) (λ w s. trailers ts w frame s)

abbrev pub primary : Meaning → List (Value → Meaning) → Meaning
primary m ts frame s = on_value (m frame s) (λ v s. trailers ts v frame s)

-- trailers, each after its step

abbrev pub attribute : Name → Value → Meaning
attribute n o frame s = get_attribute o n frame s

abbrev pub item : Meaning → Value → Meaning
item m o frame s = on_value (m frame s) (λ i s. get_item o i frame s)

-- a part of a slice that may be missing
abbrev pub part : Option Meaning → Meaning
part None frame s = gives nil s
part (Some m) frame s = m frame s

abbrev pub slice : Option Meaning → Option Meaning → Option Meaning → Value → Meaning
slice a b c o frame s =
    on_value (part a frame s) (λ x s. on_value (part b frame s) (λ y s. on_value (part c frame s) (λ z s. get_slice o x y z frame s)))

abbrev pub call : List Argument → Value → Meaning
call as' f frame s = on_value (calls.arguments as' none frame s) (λ a s. calls.call f a frame s)

-- a function of a code block, made after the values of its defaults
abbrev pub makes_function : Option Name → ℕ → List Meaning → Frame → State → Outcome Oid
makes_function n block defaults frame s =
    on_value (values defaults frame s) (λ vs s. makes frame.side (object.function n frame.side block frame.scope vs) s)

abbrev pub lambda : ℕ → List Meaning → Meaning
lambda block defaults frame s = stepped s (λ s. on_value (makes_function None block defaults frame s) (λ at s. gives (value.Ref at) s))

-- comprehensions

-- a clause: what is walked, what each element is bound to, and the tests
pub record Clause : Type 0 where
  pub of : Meaning
  pub bind : Value → Doing
  pub tests : List Meaning

-- does it where all tests are true
abbrev pub where_all : List Meaning → Doing → Doing
where_all [] inside frame s = inside frame s
where_all (m ∷ ms) inside frame s = on_value (m frame s) (λ v s. on_truth v frame s (where_all ms inside frame) done)

-- a turn of a clause
abbrev pub turn : Clause → Doing → Value → Doing
turn c inside v frame s = on_next (c.bind v frame s) (where_all c.tests inside frame)

-- the later clauses, each within those before it
abbrev pub nest : List Clause → Doing → Doing
nest [] inside frame s = inside frame s
nest (c ∷ cs) inside frame s = on_value (c.of frame s) (λ v s. on_value (walk v frame s) (λ w s. each (turn c (nest cs inside)) w frame s))

-- a new scope for the code block of that number
abbrev pub new_scope : ℕ → Frame → List (Option Value) → State → Outcome Oid
new_scope block frame slots s = makes frame.side (object.scope (Some block) (Some frame.scope) slots) s

abbrev pub empty_slots : ℕ → List (Option Value)
empty_slots n = replicate n None

-- the first iterable is evaluated and decided in the scope around; then the comprehension has a scope of its own, and then its result
abbrev pub comprehension : ℕ → List Clause → Content → (Oid → Doing) → Meaning
comprehension block [] empty add frame s = gives nil s
comprehension block (c ∷ cs) empty add frame s = stepped s (λ s. on_value (c.of frame s) (λ v s. on_value (walk v frame s) (λ w s.
    on_value (new_scope block frame (empty_slots (length ((layouts_of frame).locals block))) s) (λ scope s.
    on_value (makes frame.side empty s) (λ at s.
    on_value (each (turn c (nest cs (add at))) w (record frame { block = block; scope = scope }) s) (λ flow s. gives (value.Ref at) s))))))

-- an element costs a cell
abbrev pub adds_element : Meaning → Oid → Doing
adds_element m at frame s = on_value (m frame s) (λ v s. charged 1 s (λ s. done (with_change at (pushed v) s)))

abbrev pub adds_entry : Meaning → Meaning → Oid → Doing
adds_entry m n at frame s = on_value (m frame s) (λ k s. on_value (n frame s) (λ v s. plainly_done (items.set_item (value.Ref at) k v) s))

abbrev pub list_of : ℕ → List Clause → Meaning → Meaning
list_of block cs m = comprehension block cs (object.list []) (adds_element m)

abbrev pub dict_of : ℕ → List Clause → Meaning → Meaning → Meaning
dict_of block cs m n = comprehension block cs (object.dict []) (adds_entry m n)
