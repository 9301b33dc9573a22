-- What each kind of statement does, from what its parts do (Python Language Reference, Simple statements, Compound statements). A
-- statement takes a step at its start.
use Rattle.std.specs.Prelude.{ℕ, zero, suc, List, [], ◌∷◌, length, codes, Option, Some, None}
use Rattle.rp_base.specs.declared.kind.Kind.TheVariants.{ValueError, AssertionError}
use Rattle.rp_base.specs.declared.operator.BinOp.{BinOp}
use Rattle.rp_base.specs.declared.value.Name.{Name}
use Rattle.rp_base.specs.declared.value.Value.{Value}
use Rattle.rp_base.specs.declared.value.Value.TheVariants as value
use Rattle.rp_base.specs.declared.word.TheConstants.{STR}
use Rattle.rp_ops.specs.Outcome.{gives, raises, on_value}
use Rattle.rp_ops.specs.Walk.{Cursor}
use Rattle.rp_show.specs.Show.{show}
use Rattle.rp_meaning.specs.State.{State, Outcome, Flow, returned, on_next, stepped, plainly, done}
use Rattle.rp_meaning.specs.Frame.{Frame, Meaning, Doing, read_name, bind_name, asked_for}
use Rattle.rp_meaning.specs.Walks.{walk, next_element, loop, each, on_truth}
use Rattle.rp_meaning.specs.Access as access
use Rattle.rp_meaning.specs.Exceptions.{raise_value, raise_again}
use Rattle.rp_meaning.specs.Expressions.{nil, makes_function}
use Rattle.rp_meaning.specs.Operators.{augment}

-- the statements of a block, up to the first that leaves it
abbrev pub block : List Doing → Doing
block [] frame s = done s
block (d ∷ ds) frame s = on_next (d frame s) (block ds frame)

abbrev pub nothing : Doing
nothing frame s = done s

abbrev pub evaluate : Meaning → Doing
evaluate m frame s = on_value (m frame s) (λ v s. done s)

-- storing

-- what stores a value
abbrev pub Store : Type 0
Store = Value → Doing

abbrev pub store_attribute : Meaning → Name → Store
store_attribute m n v frame s = on_value (m frame s) (λ o s. access.set_attribute o n v frame s)

abbrev pub store_item : Meaning → Meaning → Store
store_item m k v frame s = on_value (m frame s) (λ o s. on_value (k frame s) (λ i s. access.set_item o i v frame s))

-- to several places, each time the same value
abbrev pub store_all : List Store → Store
store_all [] v frame s = done s
store_all (d ∷ ds) v frame s = on_next (d v frame s) (store_all ds v frame)

-- unpacking takes as many elements as there are parts, and finds no more

abbrev pub wrong_count : {A : Type 0} → State → Outcome A
wrong_count s = raises ValueError (codes "unpack") s

abbrev pub at_end : Option (Value × Cursor) → State → Outcome (List Value)
at_end None s = gives [] s
at_end (Some e) s = wrong_count s

abbrev pub on_element : Option (Value × Cursor) → State → (Value → Cursor → State → Outcome (List Value)) → Outcome (List Value)
on_element None s go = wrong_count s
on_element (Some e) s go = go e.0 e.1 s

abbrev pub exactly : ℕ → Cursor → Frame → State → Outcome (List Value)
exactly zero w frame s = on_value (next_element frame w s) at_end
exactly (suc n) w frame s =
    on_value (next_element frame w s) (λ e s. on_element e s (λ v w s. on_value (exactly n w frame s) (λ vs s. gives (v ∷ vs) s)))

-- to each place its value
abbrev pub store_each : List Store → List Value → Doing
store_each (d ∷ ds) (v ∷ vs) frame s = on_next (d v frame s) (store_each ds vs frame)
store_each _ _ frame s = done s

abbrev pub unpack : List Store → Store
unpack ds v frame s = on_value (walk v frame s) (λ w s. on_value (exactly (length ds) w frame s) (λ vs s. store_each ds vs frame s))

-- the right side comes first
abbrev pub assign : Meaning → Store → Doing
assign m store frame s = on_value (m frame s) (λ v s. store v frame s)

-- augmented assignment: the place is read, then the right side is evaluated, and what comes of both is stored

abbrev pub augment_name : Name → BinOp → Meaning → Doing
augment_name n op m frame s =
    on_value (read_name n frame s) (λ a s. on_value (m frame s) (λ b s. on_value (augment op a b frame s) (λ v s. bind_name n v frame s)))

abbrev pub augment_attribute : Meaning → Name → BinOp → Meaning → Doing
augment_attribute x n op m frame s = on_value (x frame s) (λ o s. on_value (access.get_attribute o n frame s) (λ a s.
    on_value (m frame s) (λ b s. on_value (augment op a b frame s) (λ v s. access.set_attribute o n v frame s))))

abbrev pub augment_item : Meaning → Meaning → BinOp → Meaning → Doing
augment_item x k op m frame s = on_value (x frame s) (λ o s. on_value (k frame s) (λ i s. on_value (access.get_item o i frame s) (λ a s.
    on_value (m frame s) (λ b s. on_value (augment op a b frame s) (λ v s. access.set_item o i v frame s)))))

-- deleting

abbrev pub delete_attribute : Meaning → Name → Doing
delete_attribute m n frame s = on_value (m frame s) (λ o s. access.del_attribute o n frame s)

abbrev pub delete_item : Meaning → Meaning → Doing
delete_item m k frame s = on_value (m frame s) (λ o s. on_value (k frame s) (λ i s. access.del_item o i frame s))

-- leaving

abbrev pub leave : Flow → Doing
leave flow frame s = gives flow s

abbrev pub give_back : Option Meaning → Doing
give_back None frame s = gives (returned nil) s
give_back (Some m) frame s = on_value (m frame s) (λ v s. gives (returned v) s)

abbrev pub raise : Option Meaning → Doing
raise None frame s = raise_again frame.handling s
raise (Some m) frame s = on_value (m frame s) raise_value

-- the shown message is the text of the exception
abbrev pub failed : Option Meaning → Doing
failed None frame s = raises AssertionError [] s
failed (Some m) frame s =
    on_value (m frame s) (λ v s. asked_for frame STR v s (λ s. on_value (plainly (show s.names v) s) (λ t s. raises AssertionError t s)))

abbrev pub assert : Meaning → Option Meaning → Doing
assert m message frame s = on_value (m frame s) (λ v s. on_truth v frame s done (failed message frame))

-- choices and loops

-- the block of the first test that is true, else the last block
abbrev pub choose : List (Meaning × Doing) → Doing → Doing
choose [] other frame s = other frame s
choose (b ∷ bs) other frame s = on_value (b.0 frame s) (λ v s. on_truth v frame s (b.1 frame) (choose bs other frame))

-- whether there is another turn of `while`, which takes a step before its test
abbrev pub tested : Meaning → Frame → Unit {0} → State → Outcome (Option (Value × Unit {0}))
tested m frame w s = stepped s (λ s. on_value (m frame s) (λ v s. on_truth v frame s (gives (Some (nil, w))) (gives None)))

abbrev pub while : Meaning → Doing → Doing
while m body frame s = loop (tested m frame) (λ v s. body frame s) (tt {0}) s

abbrev pub for : Meaning → Store → Doing → Doing
for m store body frame s =
    on_value (m frame s) (λ v s. on_value (walk v frame s) (λ w s. each (λ v frame s. on_next (store v frame s) (body frame)) w frame s))

abbrev pub define : Name → ℕ → List Meaning → Doing
define n block defaults frame s = on_value (makes_function (Some n) block defaults frame s) (λ at s. bind_name n (value.Ref at) frame s)
