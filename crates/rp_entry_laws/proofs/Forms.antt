-- What code does with values adds such entries alone: names, decisions, operators, attributes and items.
use Rattle.std.proofs.Common.{◌≡◌, refl, ℕ, ◌+◌, length, ℤ, pos, negsuc, List, [], ◌∷◌, Option, Some, None, Result, Ok, Err}
use Rattle.rp_base.specs.Kind.{is_under}
use Rattle.rp_base.specs.Names.{word_of}
use Rattle.rp_base.specs.declared.kind.Kind.TheVariants.{AttributeError}
use Rattle.rp_base.specs.declared.native.NativeId.{NativeId}
use Rattle.rp_base.specs.declared.native.NativeId.TheVariants as native
use Rattle.rp_base.specs.declared.operator.BinOp.{BinOp}
use Rattle.rp_base.specs.declared.operator.UnOp.{UnOp}
use Rattle.rp_base.specs.declared.value.Name.{Name}
use Rattle.rp_base.specs.declared.value.Side.{Side}
use Rattle.rp_base.specs.declared.value.Rock.TheVariants as rock
use Rattle.rp_base.specs.declared.value.Value.{Value}
use Rattle.rp_base.specs.declared.value.Value.TheVariants as value
use Rattle.rp_base.specs.declared.word.TheConstants.{BOOL, CONTAINS, DEL_ITEM, GET_ITEM, ITER, LEN, SET_ITEM}
use Rattle.rp_attributes.specs.Attributes as attributes
use Rattle.rp_items.specs.Items as items
use Rattle.rp_items.specs.Slices as slices
use Rattle.rp_ops.specs.Binary as binary
use Rattle.rp_ops.specs.Inplace as inplace
use Rattle.rp_ops.specs.Keys.{index_number}
use Rattle.rp_ops.specs.Operand.{truth_of}
use Rattle.rp_ops.specs.Walk.{Cursor, walk_of, next_of}
use Rattle.rp_ops.specs.Outcome.{End, raised, no_step, no_cell, gives, on_value}
use Rattle.rp_tree.specs.declared.parts.Test.{Test}
use Rattle.rp_tree.specs.declared.parts.Test.TheVariants as test
use Rattle.rp_meaning.specs.Access.{get_attribute, set_attribute, del_attribute, get_item, set_item, del_item, get_slice, is_within}
use Rattle.rp_meaning.specs.Binding.{Arguments}
use Rattle.rp_meaning.specs.BuiltIn.{allowed, applied, decided_and_applied, defaulted, function, function_call, get_named, getattr, length_given}
use Rattle.rp_meaning.specs.BuiltIn.{length_of, method_call, name_of, set_named, setattr, unnamed, with_name}
use Rattle.rp_meaning.specs.Frame.{Frame, Doing, asked_each, read_name, bind_name, unbind_name, without_name, slot_of, place_of}
use Rattle.rp_meaning.specs.Operators.{operate, operate_unary, augment, tested, left_name, right_name, unary_name, in_place_name, augmented_name, comparison_name, mirrored}
use Rattle.rp_meaning.specs.Scopes.{Place, local, outer, global, held, global_value, value_at}
use Rattle.rp_meaning.specs.Special.{special}
use Rattle.rp_meaning.specs.State.{State, Outcome, heap_of, plainly}
use Rattle.rp_meaning.specs.Walks.{walk, next_element, each, on_truth}
use Rattle.rp_entry_laws.specs.Entries.{Trail, IsIn, IsMonitored, IsWatched, Adds, Adding}
use Rattle.rp_entry_laws.proofs.Going.{Does, same, bind, op, found, chosen, ask_each, ask_for, ask_to_set, on_method, slot_set, named, turns_add, by_option}

-- names

value_adds : {k : Trail} (side : Side) (place : Place) (variable : Option Value) (word : List ℕ) (s : State)
    → IsIn k s → Adds (value_at side place variable word s) k
value_adds side (local i) (Some v) word s h = same h
value_adds side (local i) None word s h = same h
value_adds side (outer n i) (Some v) word s h = same h
value_adds side (outer n i) None word s h = same h
value_adds side global variable word s h =
    by_option (global_value side variable word s) (λ e. rw e (same h)) (λ v e. rw e (same h))

pub read : (n : Name) → Adding (read_name n)
read n k f c s h = value_adds f.side (place_of f n) _ _ s h

pub bound : (n : Name) (v : Value) → Adding (bind_name n v)
bound n v k f c s h = same (slot_set (slot_of f n s) (Some v) s h)

pub without : {k : Trail} (n : Name) (f : Frame) (s : State) → IsIn k s → IsIn k (without_name n f s)
without n f s h = slot_set (slot_of f n s) None s h

pub unbound : (n : Name) → Adding (unbind_name n)
unbound n k f c s h =
    by_option (held (heap_of s) (slot_of f n s)) (λ e. rw e (same h)) (λ v e. rw e (same (without n f s h)))

-- walks

pub truth : {A : Type 0} {k : Trail} (v : Value) (f : Frame) → IsMonitored f.run → (s : State) {this other : State → Outcome A}
    → IsIn k s → Does k this → Does k other → Adds (on_truth v f s this other) k
truth v f m s {this} {other} h t o = ask_for f m BOOL v s h (λ s h. chosen (truth_of (heap_of s) v) this other (t s h) (o s h))

pub walks : (v : Value) → Adding (walk v)
walks v k f c s h = ask_for f c.0 ITER v s h (λ s h. found (walk_of (heap_of s) v) s h (λ w s h. same h))

pub element : (w : Cursor) → Adding (λ f s. next_element f w s)
element w k f c s h = bind (op (next_of w s.plain) s h) (λ e s h. same h)

pub each_adds : {k : Trail} (body : Value → Doing) (f : Frame) → IsWatched k f → ((v : Value) → Does k (body v f)) → (w : Cursor)
    → Does k (each body w f)
each_adds {k} body f c b w s h = turns_add (s.plain.steps + 1) (λ w s h. element w k f c s h) b w s h

-- attributes and items

pub attribute_got : (o : Value) (n : Name) → Adding (get_attribute o n)
attribute_got o n k f c s h = ask_for f c.0 n o s h (λ s h. bind (op (attributes.attribute f.side o n (word_of s.names n) s.plain) s h) (λ v s h. same h))

pub attribute_set : (o : Value) (n : Name) (v : Value) → Adding (set_attribute o n v)
attribute_set o n v k f c s h = ask_to_set f c.0 n o s h (λ s h. bind (op (attributes.set_attribute o n (word_of s.names n) v s.plain) s h) (λ _ s h. same h))

pub attribute_deleted : (o : Value) (n : Name) → Adding (del_attribute o n)
attribute_deleted o n k f c s h = ask_to_set f c.0 n o s h (λ s h. bind (op (attributes.del_attribute o n (word_of s.names n) s.plain) s h) (λ _ s h. same h))

pub item_got : (o i : Value) → Adding (get_item o i)
item_got o i k f c s h = ask_for f c.0 GET_ITEM o s h (λ s h.
    bind (on_method (special (heap_of s) o GET_ITEM) _ _ s (λ m. c.1 m.function _ s h) (same h)) (λ v s h. same h))

pub item_set : (o i v : Value) → Adding (set_item o i v)
item_set o i v k f c s h = ask_for f c.0 SET_ITEM o s h (λ s h.
    on_method (special (heap_of s) o SET_ITEM) _ _ s (λ m. bind (c.1 m.function _ s h) (λ v s h. same h)) (bind (op (items.set_item o i v s.plain) s h) (λ _ s h. same h)))

pub item_deleted : (o i : Value) → Adding (del_item o i)
item_deleted o i k f c s h = ask_for f c.0 DEL_ITEM o s h (λ s h.
    on_method (special (heap_of s) o DEL_ITEM) _ _ s (λ m. bind (c.1 m.function _ s h) (λ v s h. same h)) (bind (op (items.del_item o i s.plain) s h) (λ _ s h. same h)))

pub slice_got : (o x y z : Value) → Adding (get_slice o x y z)
slice_got o x y z k f c s h = ask_for f c.0 GET_ITEM o s h (λ s h. bind (op (slices.slice o x y z s.plain) s h) (λ v s h. same h))

pub within : (v o : Value) → Adding (is_within v o)
within v o k f c s h = ask_for f c.0 CONTAINS o s h (λ s h.
    on_method (special (heap_of s) o CONTAINS) _ _ s (λ m. bind (c.1 m.function _ s h) (λ v s h. same h)) (same h))

-- operators

pub operated : (o : BinOp) (a b : Value) → Adding (operate o a b)
operated o a b k f c s h = ask_for f c.0 (left_name o) a s h (λ s h. ask_for f c.0 (right_name o) b s h (λ s h. bind (op (binary.binary f.side o a b s.plain) s h) (λ v s h. same h)))

pub operated_once : (o : UnOp) (a : Value) → Adding (operate_unary o a)
operated_once o a k f c s h = ask_for f c.0 (unary_name o) a s h (λ s h. found (binary.int_value (binary.unary (heap_of s) o a)) s h (λ v s h. same h))

pub augmented : (o : BinOp) (a b : Value) → Adding (augment o a b)
augmented o a b k f c s h =
    ask_for f c.0 (in_place_name o) a s h (λ s h. ask_for f c.0 (augmented_name (heap_of s) o a) b s h (λ s h. bind (op (inplace.inplace f.side o a b s.plain) s h) (λ v s h. same h)))

pub test_adds : (t : Test) (a b : Value) → Adding (tested t a b)
test_adds (test.Order op) a b k f c s h =
    ask_for f c.0 (comparison_name op) a s h (λ s h. ask_for f c.0 (comparison_name (mirrored op)) b s h (λ s h. same h))
test_adds test.Within a b k f c s h = within a b k f c s h
test_adds test.NotWithin a b k f c s h = bind (within a b k f c s h) (λ r s h. same h)
test_adds test.Is a b k f c s h = same h
test_adds test.IsNot a b k f c s h = same h

-- calls of built-in functions and methods

unnamed_adds : {k : Trail} (plain : List Value) (names : List (List ℕ × Value)) (s : State) (go : List Value → State → Outcome Value)
    → IsIn k s → ((vs : List Value) → Does k (go vs)) → Adds (unnamed (record { plain = plain; named = names }) s go) k
unnamed_adds plain [] s go h more = more plain s h
unnamed_adds plain (n ∷ ns) s go h more = same h

allowed_adds : {A : Type 0} {k : Trail} (word : List ℕ) (f : Frame) (s : State) (go : Name → State → Outcome A)
    → IsIn k s → ((n : Name) → Does k (go n)) → Adds (allowed word f s go) k
allowed_adds word f s go h more =
    chosen (f.run.is_forbidden word) _ _ (same (named word s h)) (more (name_of (with_name word s).names word) (with_name word s) (named word s h))

defaulted_adds : {k : Trail} (default : Option Value) (o : Outcome Value) → Adds o k → Adds (defaulted default o) k
defaulted_adds None o h = h
defaulted_adds {k} (Some v) o h = by o.answer where
  by : (answer : Result Value End) → Adds (defaulted (Some v) (record { answer = answer; state = o.state })) k
  by (Ok w) = same h.trail
  by (Err (raised r)) = chosen (is_under r.kind AttributeError) _ _ (same h.trail) (same h.trail)
  by (Err no_step) = same h.trail
  by (Err no_cell) = same h.trail

got_named : (o : Value) (word : List ℕ) (default : Option Value) → Adding (get_named o word default)
got_named o word default k f c s h = chosen (f.run.is_identifier word) _ _
    (allowed_adds word f s _ h (λ n s h. defaulted_adds default _ (attribute_got o n k f c s h))) (defaulted_adds default _ (same h))

getattr_adds : (o word : Value) (default : Option Value) → Adding (getattr o word default)
getattr_adds o (value.Rock (rock.Text word)) default k f c s h = got_named o word default k f c s h
getattr_adds o _ default k f c s h = same h

set_named_adds : (o : Value) (word : List ℕ) (v : Value) → Adding (set_named o word v)
set_named_adds o word v k f c s h = chosen (f.run.is_identifier word) _ _
    (allowed_adds word f s (λ n s. on_value (set_attribute o n v f s) (λ _ s. gives (value.Rock rock.Nil) s)) h
    (λ n s h. bind (attribute_set o n v k f c s h) (λ _ s h. same h))) (same h)

setattr_adds : (o word v : Value) → Adding (setattr o word v)
setattr_adds o (value.Rock (rock.Text word)) v k f c s h = set_named_adds o word v k f c s h
setattr_adds o _ v k f c s h = same h

by_number : {P : Type 0} (x : Option ℤ) → ((n : ℕ) → x ≡ Some (pos n) → P) → ((n : ℕ) → x ≡ Some (negsuc n) → P) → (x ≡ None → P) → P
by_number (Some (pos n)) p q r = p n refl
by_number (Some (negsuc n)) p q r = q n refl
by_number None p q r = r refl

length_adds : {k : Trail} (v : Value) → Does k (length_given v)
length_adds v s h = by_number (index_number v) (λ n e. rw e (same h)) (λ n e. rw e (same h)) (λ e. rw e (same h))

length_of_adds : (v : Value) → Adding (length_of v)
length_of_adds v k f c s h =
    on_method (special (heap_of s) v LEN) _ _ s (λ m. bind (c.1 m.function _ s h) (λ v s h. length_adds v s h)) (same h)

applied_adds : (id : NativeId) (vs : List Value) → Adding (applied id vs)
applied_adds native.Len (v ∷ []) k f c s h = length_of_adds v k f c s h
applied_adds native.Print vs k f c s h = bind (op (f.run.natives.print_line s.names vs s.plain) s h) (λ line s h. same h)
applied_adds id vs k f c s h = same h

decided_adds : (id : NativeId) (vs : List Value) → Adding (decided_and_applied id vs)
decided_adds id vs k f c s h = ask_each f c.0 _ 0 vs s h (λ s h. applied_adds id vs k f c s h)

function_adds : (id : NativeId) (vs : List Value) → Adding (function id vs)
function_adds native.GetAttr (o ∷ word ∷ []) k f c s h = getattr_adds o word None k f c s h
function_adds native.GetAttr (o ∷ word ∷ default ∷ []) k f c s h = getattr_adds o word (Some default) k f c s h
function_adds native.GetAttr _ k f c s h = same h
function_adds native.SetAttr (o ∷ word ∷ v ∷ []) k f c s h = setattr_adds o word v k f c s h
function_adds native.SetAttr _ k f c s h = same h
function_adds id vs k f c s h = decided_adds id vs k f c s h

pub function_called : (id : NativeId) (a : Arguments) → Adding (function_call id a)
function_called id a k f c s h = chosen (f.run.natives.is_function id) _ _
    (unnamed_adds a.plain a.named s _ h (λ vs s h. function_adds id vs k f c s h)) (same h)

pub method_called : (owner : Side) (receiver : Value) (id : NativeId) (a : Arguments) → Adding (method_call owner receiver id a)
method_called owner receiver id a k f c s h = chosen (f.run.natives.is_method (heap_of s) receiver id) _ _
    (unnamed_adds a.plain a.named s
    (λ vs s. asked_each f (λ i. f.run.natives.needs id i (length vs)) 0 vs s (λ s. plainly (f.run.natives.method s.names owner receiver id vs) s)) h
    (λ vs s h. ask_each f c.0 (λ i. f.run.natives.needs id i (length vs)) 0 vs s h (λ s h. same h))) (same h)
