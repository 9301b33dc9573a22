-- What code does with values adds no step: names, decisions, operators, attributes and items.
use Rattle.std.proofs.Common.{◌≡◌, refl, ℕ, ◌+◌, length, ℤ, pos, negsuc, List, [], ◌∷◌, Option, Some, None}
use Rattle.std.proofs.Common.{Result, Ok, Err}
use Rattle.std.proofs.Math.Nat.{le_trans}
use Rattle.rp_base.specs.Kind.{is_under}
use Rattle.rp_base.specs.Names.{word_of}
use Rattle.rp_base.specs.declared.kind.Kind.TheVariants.{AttributeError}
use Rattle.rp_base.specs.declared.native.NativeId.{NativeId}
use Rattle.rp_base.specs.declared.native.NativeId.TheVariants as native
use Rattle.rp_base.specs.declared.operator.BinOp.{BinOp}
use Rattle.rp_base.specs.declared.operator.UnOp.{UnOp}
use Rattle.rp_base.specs.declared.value.Name.{Name}
use Rattle.rp_base.specs.declared.value.Side.{Side}
use Rattle.rp_base.specs.declared.value.Rock.TheVariants as rock
use Rattle.rp_base.specs.declared.value.Value.{Value}
use Rattle.rp_base.specs.declared.value.Value.TheVariants as value
use Rattle.rp_base.specs.declared.word.TheConstants.{BOOL, CONTAINS, DEL_ITEM, GET_ITEM, ITER, LEN, SET_ITEM}
use Rattle.rp_ops.specs.Binary as binary
use Rattle.rp_ops.specs.Outcome as plain
use Rattle.rp_ops.specs.Keys.{index_number}
use Rattle.rp_ops.specs.Operand.{truth_of}
use Rattle.rp_ops.specs.Walk.{Cursor, walk_of}
use Rattle.rp_ops.specs.Outcome.{End, raised, no_step, no_cell, gives, on_value}
use Rattle.rp_tree.specs.declared.parts.Test.{Test}
use Rattle.rp_tree.specs.declared.parts.Test.TheVariants as test
use Rattle.rp_meaning.specs.Access.{get_attribute, set_attribute, del_attribute, get_item, set_item, del_item}
use Rattle.rp_meaning.specs.Access.{get_slice, is_within}
use Rattle.rp_meaning.specs.Binding.{Arguments}
use Rattle.rp_meaning.specs.BuiltIn.{allowed, applied, decided_and_applied, defaulted, function, function_call}
use Rattle.rp_meaning.specs.BuiltIn.{get_named, given, getattr, length_given}
use Rattle.rp_meaning.specs.BuiltIn.{length_of, method_call, name_of, set_named, setattr, unnamed, with_name}
use Rattle.rp_meaning.specs.Frame.{Frame, Natives, Doing, asked_each, read_name, bind_name, unbind_name, without_name}
use Rattle.rp_meaning.specs.Frame.{slot_of, place_of}
use Rattle.rp_meaning.specs.Operators.{operate, operate_unary, augment, tested, left_name, right_name, unary_name}
use Rattle.rp_meaning.specs.Operators.{in_place_name, augmented_name, comparison_name, mirrored}
use Rattle.rp_meaning.specs.Scopes.{Place, local, outer, global, held, global_value, value_at}
use Rattle.rp_meaning.specs.Special.{special}
use Rattle.rp_meaning.specs.State.{State, Outcome, heap_of, plainly}
use Rattle.rp_meaning.specs.Walks.{walk, next_element, each, on_truth}
use Rattle.rp_meter_laws.specs.Metered.{AddNone}
use Rattle.rp_meter_laws.proofs.AtMost.{IsIn, Keeps, Keeping, Steady}
use Rattle.rp_meter_laws.proofs.Going.{Does, same, bind, op, found, chosen, ask_each, ask_for, ask_to_set, on_method}
use Rattle.rp_meter_laws.proofs.Going.{slot_set, turns_keep, by_option}
use Rattle.rp_meter_laws.proofs.Objects.{attribute, item, slice}
use Rattle.rp_meter_laws.proofs.Objects.{del_attribute as del_attribute_leaves, del_item as del_item_leaves}
use Rattle.rp_meter_laws.proofs.Objects.{set_attribute as set_attribute_leaves, set_item as set_item_leaves}
use Rattle.rp_meter_laws.proofs.Operations.{binary_leaves, compare, contains, inplace_leaves, next_of}
use Rattle.rp_meter_laws.proofs.Plainly.{Leaves, There, kept}

-- names

value_keeps : {k : ℕ} (side : Side) (place : Place) (variable : Option Value) (word : List ℕ) (s : State)
    → IsIn k s → Keeps (value_at side place variable word s) k
value_keeps side (local i) (Some v) word s h = same h
value_keeps side (local i) None word s h = same h
value_keeps side (outer n i) (Some v) word s h = same h
value_keeps side (outer n i) None word s h = same h
value_keeps side global variable word s h =
    by_option (global_value side variable word s) (λ e. rw e (same h)) (λ v e. rw e (same h))

pub read : (n : Name) → Keeping (read_name n)
read n k f c s h = value_keeps f.side (place_of f n) _ _ s h

pub bound : (n : Name) (v : Value) → Keeping (bind_name n v)
bound n v k f c s h = same (slot_set (slot_of f n s) (Some v) s h)

pub without : {k : ℕ} (n : Name) (f : Frame) (s : State) → IsIn k s → IsIn k (without_name n f s)
without n f s h = slot_set (slot_of f n s) None s h

pub unbound : (n : Name) → Keeping (unbind_name n)
unbound n k f c s h =
    by_option (held (heap_of s) (slot_of f n s)) (λ e. rw e (same h)) (λ v e. rw e (same (without n f s h)))

-- walks

pub truth : {A : Type 0} {k : ℕ} (v : Value) (f : Frame) (s : State)
    {this other : State → Outcome A} → IsIn k s → Does k this → Does k other → Keeps (on_truth v f s this other) k
truth v f s {this} {other} h t o = ask_for f BOOL v s h
    (λ s h. chosen (truth_of (heap_of s) v) this other (t s h) (o s h))

pub walks : (v : Value) → Keeping (walk v)
walks v k f c s h = ask_for f ITER v s h (λ s h. found (walk_of (heap_of s) v) s h (λ w s h. same h))

pub element : (w : Cursor) → Keeping (λ f s. next_element f w s)
element w k f c s h = bind (op s (next_of w s.plain h)) (λ e s h. same h)

pub each_keeps : {k : ℕ} (body : Value → Doing) (f : Frame) → Steady k f.calls f.run
    → ((v : Value) → Does k (body v f)) → (w : Cursor)
    → Does k (each body w f)
each_keeps {k} body f c b w s h = turns_keep (s.plain.steps + 1) (λ w s h. element w k f c s h) b w s h

-- attributes and items

pub attribute_got : (o : Value) (n : Name) → Keeping (get_attribute o n)
attribute_got o n k f c s h = ask_for f n o s h
    (λ s h. bind (op s (attribute f.side o n (word_of s.names n) s.plain h)) (λ v s h. same h))

pub attribute_set : (o : Value) (n : Name) (v : Value) → Keeping (set_attribute o n v)
attribute_set o n v k f c s h = ask_to_set f n o s h
    (λ s h. bind (op s (set_attribute_leaves o n (word_of s.names n) v s.plain h)) (λ _ s h. same h))

pub attribute_deleted : (o : Value) (n : Name) → Keeping (del_attribute o n)
attribute_deleted o n k f c s h = ask_to_set f n o s h
    (λ s h. bind (op s (del_attribute_leaves o n (word_of s.names n) s.plain h)) (λ _ s h. same h))

pub item_got : (o i : Value) → Keeping (get_item o i)
item_got o i k f c s h = ask_for f GET_ITEM o s h (λ s h.
    bind (on_method (special (heap_of s) o GET_ITEM) _ _ s (λ m. c.calls m.function _ s h)
    (op s (item o i s.plain h))) (λ v s h. same h))

pub item_set : (o i v : Value) → Keeping (set_item o i v)
item_set o i v k f c s h = ask_for f SET_ITEM o s h (λ s h.
    on_method (special (heap_of s) o SET_ITEM) _ _ s (λ m. bind (c.calls m.function _ s h) (λ v s h. same h))
    (bind (op s (set_item_leaves o i v s.plain h)) (λ _ s h. same h)))

pub item_deleted : (o i : Value) → Keeping (del_item o i)
item_deleted o i k f c s h = ask_for f DEL_ITEM o s h (λ s h.
    on_method (special (heap_of s) o DEL_ITEM) _ _ s (λ m. bind (c.calls m.function _ s h) (λ v s h. same h))
    (bind (op s (del_item_leaves o i s.plain h)) (λ _ s h. same h)))

pub slice_got : (o x y z : Value) → Keeping (get_slice o x y z)
slice_got o x y z k f c s h = ask_for f GET_ITEM o s h
    (λ s h. bind (op s (slice o x y z s.plain h)) (λ v s h. same h))

pub within : (v o : Value) → Keeping (is_within v o)
within v o k f c s h = ask_for f CONTAINS o s h (λ s h.
    on_method (special (heap_of s) o CONTAINS) _ _ s (λ m. bind (c.calls m.function _ s h) (λ v s h. same h))
    (op s (contains v o s.plain h)))

-- operators

pub operated : (o : BinOp) (a b : Value) → Keeping (operate o a b)
operated o a b k f c s h = ask_for f (left_name o) a s h
    (λ s h. ask_for f (right_name o) b s h (λ s h. bind (op s (binary_leaves f.side o a b s.plain h))
    (λ v s h. same h)))

pub operated_once : (o : UnOp) (a : Value) → Keeping (operate_unary o a)
operated_once o a k f c s h = ask_for f (unary_name o) a s h
    (λ s h. found (binary.int_value (binary.unary (heap_of s) o a)) s h (λ v s h. same h))

pub augmented : (o : BinOp) (a b : Value) → Keeping (augment o a b)
augmented o a b k f c s h =
    ask_for f (in_place_name o) a s h (λ s h. ask_for f (augmented_name (heap_of s) o a) b s h
    (λ s h. bind (op s (inplace_leaves f.side o a b s.plain h)) (λ v s h. same h)))

pub test_keeps : (t : Test) (a b : Value) → Keeping (tested t a b)
test_keeps (test.Order o) a b k f c s h =
    ask_for f (comparison_name o) a s h (λ s h. ask_for f (comparison_name (mirrored o)) b s h (λ s h.
    op s (compare o a b s.plain h)))
test_keeps test.Within a b k f c s h = within a b k f c s h
test_keeps test.NotWithin a b k f c s h = bind (within a b k f c s h) (λ r s h. same h)
test_keeps test.Is a b k f c s h = same h
test_keeps test.IsNot a b k f c s h = same h

-- calls of built-in functions and methods

function_done : {k : ℕ} {n : Natives} → AddNone n → (names : List (List ℕ)) (side : Side) (id : NativeId)
    (vs : List Value) (s : plain.State) → There k s → Leaves k (n.function names side id vs s)
function_done none names side id vs s h = kept (le_trans (none.functions names side id vs s).steps h)

method_done : {k : ℕ} {n : Natives} → AddNone n → (names : List (List ℕ)) (side : Side) (v : Value) (id : NativeId)
    (vs : List Value) (s : plain.State) → There k s → Leaves k (n.method names side v id vs s)
method_done none names side v id vs s h = kept (le_trans (none.methods names side v id vs s).steps h)

line_printed : {k : ℕ} {n : Natives} → AddNone n → (names : List (List ℕ)) (vs : List Value) (s : plain.State)
    → There k s → Leaves k (n.print_line names vs s)
line_printed none names vs s h = kept (le_trans (none.lines names vs s).steps h)

given_keeps : (id : NativeId) (vs : List Value) → Keeping (given id vs)
given_keeps id vs k f c s h = op s (function_done c.natives s.names f.side id vs s.plain h)

unnamed_keeps : {k : ℕ} (plain : List Value) (names : List (List ℕ × Value)) (s : State)
    (go : List Value → State → Outcome Value)
    → IsIn k s → ((vs : List Value) → Does k (go vs)) → Keeps (unnamed (record { plain = plain; named = names }) s go) k
unnamed_keeps plain [] s go h more = more plain s h
unnamed_keeps plain (n ∷ ns) s go h more = same h

allowed_keeps : {A : Type 0} {k : ℕ} (word : List ℕ) (f : Frame) (s : State) (go : Name → State → Outcome A)
    → IsIn k s → ((n : Name) → Does k (go n)) → Keeps (allowed word f s go) k
allowed_keeps word f s go h more =
    chosen (f.run.is_forbidden word) _ _ (same h) (more (name_of (with_name word s).names word) (with_name word s) h)

defaulted_keeps : {k : ℕ} (default : Option Value) (o : Outcome Value) → Keeps o k → Keeps (defaulted default o) k
defaulted_keeps None o h = h
defaulted_keeps {k} (Some v) o h = by o.answer where
  by : (answer : Result Value End) → Keeps (defaulted (Some v) (record { answer = answer; state = o.state })) k
  by (Ok w) = same h.steps
  by (Err (raised r)) = chosen (is_under r.kind AttributeError) _ _ (same h.steps) (same h.steps)
  by (Err no_step) = same h.steps
  by (Err no_cell) = same h.steps

got_named : (o : Value) (word : List ℕ) (default : Option Value) → Keeping (get_named o word default)
got_named o word default k f c s h = chosen (f.run.is_identifier word) _ _
    (allowed_keeps word f s _ h (λ n s h. defaulted_keeps default _ (attribute_got o n k f c s h)))
    (defaulted_keeps default _ (same h))

getattr_keeps : (o word : Value) (default : Option Value) → Keeping (getattr o word default)
getattr_keeps o (value.Rock (rock.Text word)) default k f c s h = got_named o word default k f c s h
getattr_keeps o _ default k f c s h = same h

set_named_keeps : (o : Value) (word : List ℕ) (v : Value) → Keeping (set_named o word v)
set_named_keeps o word v k f c s h = chosen (f.run.is_identifier word) _ _
    (allowed_keeps word f s (λ n s. on_value (set_attribute o n v f s) (λ _ s. gives (value.Rock rock.Nil) s)) h
    (λ n s h. bind (attribute_set o n v k f c s h) (λ _ s h. same h))) (same h)

setattr_keeps : (o word v : Value) → Keeping (setattr o word v)
setattr_keeps o (value.Rock (rock.Text word)) v k f c s h = set_named_keeps o word v k f c s h
setattr_keeps o _ v k f c s h = same h

by_number : {P : Type 0} (x : Option ℤ) → ((n : ℕ) → x ≡ Some (pos n) → P) → ((n : ℕ) → x ≡ Some (negsuc n) → P)
    → (x ≡ None → P) → P
by_number (Some (pos n)) p q r = p n refl
by_number (Some (negsuc n)) p q r = q n refl
by_number None p q r = r refl

length_keeps : {k : ℕ} (v : Value) → Does k (length_given v)
length_keeps v s h = by_number (index_number v) (λ n e. rw e (same h)) (λ n e. rw e (same h)) (λ e. rw e (same h))

length_of_keeps : (v : Value) → Keeping (length_of v)
length_of_keeps v k f c s h =
    on_method (special (heap_of s) v LEN) _ _ s (λ m. bind (c.calls m.function _ s h) (λ v s h. length_keeps v s h))
    (given_keeps native.Len (v ∷ []) k f c s h)

applied_keeps : (id : NativeId) (vs : List Value) → Keeping (applied id vs)
applied_keeps native.Len (v ∷ []) k f c s h = length_of_keeps v k f c s h
applied_keeps native.Print vs k f c s h =
    bind (op s (line_printed c.natives s.names vs s.plain h)) (λ line s h. same h)
applied_keeps id vs k f c s h = given_keeps id vs k f c s h

decided_keeps : (id : NativeId) (vs : List Value) → Keeping (decided_and_applied id vs)
decided_keeps id vs k f c s h = ask_each f _ 0 vs s h (λ s h. applied_keeps id vs k f c s h)

function_keeps : (id : NativeId) (vs : List Value) → Keeping (function id vs)
function_keeps native.GetAttr (o ∷ word ∷ []) k f c s h = getattr_keeps o word None k f c s h
function_keeps native.GetAttr (o ∷ word ∷ default ∷ []) k f c s h = getattr_keeps o word (Some default) k f c s h
function_keeps native.GetAttr _ k f c s h = same h
function_keeps native.SetAttr (o ∷ word ∷ v ∷ []) k f c s h = setattr_keeps o word v k f c s h
function_keeps native.SetAttr _ k f c s h = same h
function_keeps id vs k f c s h = decided_keeps id vs k f c s h

pub function_called : (id : NativeId) (a : Arguments) → Keeping (function_call id a)
function_called id a k f c s h = chosen (f.run.natives.is_function id) _ _
    (unnamed_keeps a.plain a.named s _ h (λ vs s h. function_keeps id vs k f c s h)) (same h)

pub method_called : (owner : Side) (receiver : Value) (id : NativeId) (a : Arguments) → Keeping
    (method_call owner receiver id a)
method_called owner receiver id a k f c s h = chosen (f.run.natives.is_method (heap_of s) receiver id) _ _
    (unnamed_keeps a.plain a.named s
    (λ vs s. asked_each f (λ i. f.run.natives.needs id i (length vs)) 0 vs s
    (λ s. plainly (f.run.natives.method s.names owner receiver id vs) s)) h
    (λ vs s h. ask_each f (λ i. f.run.natives.needs id i (length vs)) 0 vs s h
    (λ s h. op s (method_done c.natives s.names owner receiver id vs s.plain h))))
    (same h)
