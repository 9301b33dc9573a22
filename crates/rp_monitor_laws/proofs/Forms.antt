-- What code does with values comes to the same with the monitor and without it: names, decisions, operators, attributes and items.
use Rattle.std.proofs.Common.{◌≡◌, refl, ℕ, ◌+◌, length, ℤ, pos, negsuc, List, [], ◌∷◌, Option, Some, None, Result, Ok, Err}
use Rattle.rp_base.specs.Kind.{is_under}
use Rattle.rp_base.specs.Names.{word_of}
use Rattle.rp_base.specs.declared.kind.Kind.TheVariants.{AttributeError}
use Rattle.rp_base.specs.declared.native.NativeId.{NativeId}
use Rattle.rp_base.specs.declared.native.NativeId.TheVariants as native
use Rattle.rp_base.specs.declared.operator.BinOp.{BinOp}
use Rattle.rp_base.specs.declared.operator.UnOp.{UnOp}
use Rattle.rp_base.specs.declared.value.Name.{Name}
use Rattle.rp_base.specs.declared.value.Side.{Side}
use Rattle.rp_base.specs.declared.value.Rock.TheVariants as rock
use Rattle.rp_base.specs.declared.value.Value.{Value}
use Rattle.rp_base.specs.declared.value.Value.TheVariants as value
use Rattle.rp_base.specs.declared.word.TheConstants.{BOOL, CONTAINS, DEL_ITEM, GET_ITEM, ITER, LEN, SET_ITEM}
use Rattle.rp_attributes.specs.Attributes as attributes
use Rattle.rp_items.specs.Items as items
use Rattle.rp_items.specs.Slices as slices
use Rattle.rp_ops.specs.Binary as binary
use Rattle.rp_ops.specs.Inplace as inplace
use Rattle.rp_ops.specs.Keys.{index_number}
use Rattle.rp_ops.specs.Operand.{truth_of}
use Rattle.rp_ops.specs.Walk.{Cursor, walk_of, next_of}
use Rattle.rp_ops.specs.Outcome.{End, raised, no_step, no_cell, gives, on_value}
use Rattle.rp_tree.specs.declared.parts.Test.{Test}
use Rattle.rp_tree.specs.declared.parts.Test.TheVariants as test
use Rattle.rp_meaning.specs.Access.{get_attribute, set_attribute, del_attribute, get_item, set_item, del_item, get_slice, is_within}
use Rattle.rp_meaning.specs.Binding.{Arguments}
use Rattle.rp_meaning.specs.BuiltIn.{allowed, applied, decided_and_applied, defaulted, function, function_call, get_named, getattr, length_given}
use Rattle.rp_meaning.specs.BuiltIn.{length_of, method_call, name_of, set_named, setattr, unnamed, with_name}
use Rattle.rp_meaning.specs.Frame.{Frame, Calls, Doing, asked_each, read_name, bind_name, unbind_name, without_name, slot_of, place_of}
use Rattle.rp_meaning.specs.Operators.{operate, operate_unary, augment, tested, left_name, right_name, unary_name, in_place_name, augmented_name, comparison_name, mirrored}
use Rattle.rp_meaning.specs.Scopes.{Place, Slot, local, outer, global, held, global_value, value_at, with_slot_set}
use Rattle.rp_meaning.specs.Special.{special}
use Rattle.rp_meaning.specs.State.{State, Outcome, choose, done, heap_of, plainly}
use Rattle.rp_meaning.specs.Walks.{walk, next_element, each, on_truth}
use Rattle.rp_trail.specs.Entry.{Entry}
use Rattle.rp_monitor_laws.specs.Unseen.{Follows, Unseen, CallsFollow, watched, unwatched, with_log}
use Rattle.rp_monitor_laws.proofs.Going.{Does, same, via, bind, op, found, chosen, ask_each, ask_for, ask_to_set, on_method, turns_follow, by_option}

-- names

value_follows : {k : List Entry} (side : Side) (place : Place) (variable : Option Value) (word : List ℕ) (s : State)
    → Follows k s.log (value_at side place variable word s) (value_at side place variable word (with_log k s))
value_follows side (local i) (Some v) word s = same refl refl
value_follows side (local i) None word s = same refl refl
value_follows side (outer n i) (Some v) word s = same refl refl
value_follows side (outer n i) None word s = same refl refl
value_follows side global variable word s =
    by_option (global_value side variable word s) (λ e. rw e (same refl refl)) (λ v e. rw e (same refl refl))

pub read : (n : Name) → Unseen (read_name n)
read n k f d c s = value_follows f.side (place_of f n) (held (heap_of s) (slot_of f n s)) (word_of s.names n) s

slot_set : {k : List Entry} (slot : Option Slot) (v : Option Value) (s : State)
    → Follows k s.log (done (with_slot_set slot v s)) (done (with_slot_set slot v (with_log k s)))
slot_set None v s = same refl refl
slot_set (Some slot) v s = same refl refl

pub bound : (n : Name) (v : Value) → Unseen (bind_name n v)
bound n v k f d c s = slot_set (slot_of f n s) (Some v) s

-- a slot that is emptied, in the state and with another log
log-emptied : (slot : Option Slot) (s : State) → (with_slot_set slot None s).log ≡ s.log
log-emptied None s = refl
log-emptied (Some slot) s = refl

emptied-as : (k : List Entry) (slot : Option Slot) (s : State) → with_slot_set slot None (with_log k s) ≡ with_log k (with_slot_set slot None s)
emptied-as k None s = refl
emptied-as k (Some slot) s = refl

pub log-without : (n : Name) (f : Frame) (s : State) → (without_name n f s).log ≡ s.log
log-without n f s = log-emptied (slot_of f n s) s

pub without-as : (k : List Entry) (n : Name) (f : Frame) (s : State) → without_name n f (with_log k s) ≡ with_log k (without_name n f s)
without-as k n f s = emptied-as k (slot_of f n s) s

pub unbound : (n : Name) → Unseen (unbind_name n)
unbound n k f d c s =
    by_option (held (heap_of s) (slot_of f n s)) (λ e. rw e (same refl refl)) (λ v e. rw e (slot_set (slot_of f n s) None s))

-- walks

pub truth : {A : Type 0} {k : List Entry} {this other : State → Outcome A} (this' other' : State → Outcome A) (v : Value) (f : Frame) (d : Calls) (s : State)
    → Does k this this' → Does k other other' → Follows k s.log (on_truth v (watched f) s this other) (on_truth v (unwatched d f) (with_log k s) this' other')
truth {A} {k} {this} {other} this' other' v f d s h i =
    ask_for (λ s. choose (truth_of (heap_of s) v) this' other' s) f d BOOL v s (λ s.
    chosen (truth_of (heap_of s) v) this other this' other' s (with_log k s) (h s) (i s))

pub walks : (v : Value) → Unseen (walk v)
walks v k f d c s = ask_for _ f d ITER v s (λ s. found _ (walk_of (heap_of s) v) s (λ w s. same refl refl))

pub element : (w : Cursor) → Unseen (λ f s. next_element f w s)
element w k f d c s = bind _ (op (next_of w s.plain) s) (λ e s. same refl refl)

pub each_follows : {k : List Entry} (body : Value → Doing) (f : Frame) (d : Calls) → CallsFollow k f.calls d
    → ((v : Value) → Does k (body v (watched f)) (body v (unwatched d f))) → (w : Cursor) → Does k (each body w (watched f)) (each body w (unwatched d f))
each_follows {k} body f d c b w s = turns_follow _ _ (s.plain.steps + 1) (λ w s. element w k f d c s) b w s

-- attributes and items

pub attribute_got : (o : Value) (n : Name) → Unseen (get_attribute o n)
attribute_got o n k f d c s = ask_for _ f d n o s (λ s. bind _ (op (attributes.attribute f.side o n (word_of s.names n) s.plain) s) (λ v s. same refl refl))

pub attribute_set : (o : Value) (n : Name) (v : Value) → Unseen (set_attribute o n v)
attribute_set o n v k f d c s = ask_to_set _ f d n o s (λ s. bind _ (op (attributes.set_attribute o n (word_of s.names n) v s.plain) s) (λ _ s. same refl refl))

pub attribute_deleted : (o : Value) (n : Name) → Unseen (del_attribute o n)
attribute_deleted o n k f d c s = ask_to_set _ f d n o s (λ s. bind _ (op (attributes.del_attribute o n (word_of s.names n) s.plain) s) (λ _ s. same refl refl))

pub item_got : (o i : Value) → Unseen (get_item o i)
item_got o i k f d c s = ask_for _ f d GET_ITEM o s (λ s.
    bind _ (on_method (special (heap_of s) o GET_ITEM) _ _ _ _ _ _ (λ m. c m.function _ s) (same refl refl)) (λ v s. same refl refl))

pub item_set : (o i v : Value) → Unseen (set_item o i v)
item_set o i v k f d c s = ask_for _ f d SET_ITEM o s (λ s.
    on_method (special (heap_of s) o SET_ITEM) _ _ _ _ _ _ (λ m. bind _ (c m.function _ s) (λ v s. same refl refl)) (bind _ (op (items.set_item o i v s.plain) s) (λ _ s. same refl refl)))

pub item_deleted : (o i : Value) → Unseen (del_item o i)
item_deleted o i k f d c s = ask_for _ f d DEL_ITEM o s (λ s.
    on_method (special (heap_of s) o DEL_ITEM) _ _ _ _ _ _ (λ m. bind _ (c m.function _ s) (λ v s. same refl refl)) (bind _ (op (items.del_item o i s.plain) s) (λ _ s. same refl refl)))

pub slice_got : (o x y z : Value) → Unseen (get_slice o x y z)
slice_got o x y z k f d c s = ask_for _ f d GET_ITEM o s (λ s. bind _ (op (slices.slice o x y z s.plain) s) (λ v s. same refl refl))

pub within : (v o : Value) → Unseen (is_within v o)
within v o k f d c s = ask_for _ f d CONTAINS o s (λ s.
    on_method (special (heap_of s) o CONTAINS) _ _ _ _ _ _ (λ m. bind _ (c m.function _ s) (λ v s. same refl refl)) (same refl refl))

-- operators

pub operated : (o : BinOp) (a b : Value) → Unseen (operate o a b)
operated o a b k f d c s = ask_for _ f d (left_name o) a s (λ s. ask_for _ f d (right_name o) b s (λ s. bind _ (op (binary.binary f.side o a b s.plain) s) (λ v s. same refl refl)))

pub operated_once : (o : UnOp) (a : Value) → Unseen (operate_unary o a)
operated_once o a k f d c s = ask_for _ f d (unary_name o) a s (λ s. found _ (binary.int_value (binary.unary (heap_of s) o a)) s (λ v s. same refl refl))

pub augmented : (o : BinOp) (a b : Value) → Unseen (augment o a b)
augmented o a b k f d c s =
    ask_for _ f d (in_place_name o) a s (λ s. ask_for _ f d (augmented_name (heap_of s) o a) b s (λ s. bind _ (op (inplace.inplace f.side o a b s.plain) s) (λ v s. same refl refl)))

pub test_follows : (t : Test) (a b : Value) → Unseen (tested t a b)
test_follows (test.Order op) a b k f d c s =
    ask_for _ f d (comparison_name op) a s (λ s. ask_for _ f d (comparison_name (mirrored op)) b s (λ s. same refl refl))
test_follows test.Within a b k f d c s = within a b k f d c s
test_follows test.NotWithin a b k f d c s = bind _ (within a b k f d c s) (λ r s. same refl refl)
test_follows test.Is a b k f d c s = same refl refl
test_follows test.IsNot a b k f d c s = same refl refl

-- calls of built-in functions and methods

unnamed_follows : {k : List Entry} (plain : List Value) (names : List (List ℕ × Value)) (s : State)
    {go : List Value → State → Outcome Value} (other : List Value → State → Outcome Value)
    → ((vs : List Value) → Does k (go vs) (other vs))
    → Follows k s.log (unnamed (record { plain = plain; named = names }) s go) (unnamed (record { plain = plain; named = names }) (with_log k s) other)
unnamed_follows plain [] s other more = more plain s
unnamed_follows plain (n ∷ ns) s other more = same refl refl

allowed_follows : {A : Type 0} {k : List Entry} (word : List ℕ) (f : Frame) (d : Calls) (s : State)
    {go : Name → State → Outcome A} (other : Name → State → Outcome A)
    → ((n : Name) → Does k (go n) (other n)) → Follows k s.log (allowed word (watched f) s go) (allowed word (unwatched d f) (with_log k s) other)
allowed_follows word f d s other more =
    chosen (f.run.is_forbidden word) _ _ _ _ _ _ (same refl refl) (more (name_of (with_name word s).names word) (with_name word s))

defaulted_follows : {k old : List Entry} (default : Option Value) (o p : Outcome Value)
    → Follows k old o p → Follows k old (defaulted default o) (defaulted default p)
defaulted_follows None o p h = h
defaulted_follows {k} (Some v) o p h = via (defaulted (Some v)) (defaulted (Some v)) o p h (by o.answer) where
  by : (answer : Result Value End) → Follows k o.state.log (defaulted (Some v) (record { answer = answer; state = o.state }))
      (defaulted (Some v) (record { answer = answer; state = with_log k o.state }))
  by (Ok w) = same refl refl
  by (Err (raised r)) = chosen (is_under r.kind AttributeError) _ _ _ _ _ _ (same refl refl) (same refl refl)
  by (Err no_step) = same refl refl
  by (Err no_cell) = same refl refl

got_named : (o : Value) (word : List ℕ) (default : Option Value) → Unseen (get_named o word default)
got_named o word default k f d c s = chosen (f.run.is_identifier word) _ _ _ _ _ _
    (allowed_follows word f d s (λ n s. defaulted default (get_attribute o n (unwatched d f) s)) (λ n s. defaulted_follows default _ _ (attribute_got o n k f d c s))) (defaulted_follows default _ _ (same refl refl))

getattr_follows : (o word : Value) (default : Option Value) → Unseen (getattr o word default)
getattr_follows o (value.Rock (rock.Text word)) default k f d c s = got_named o word default k f d c s
getattr_follows o _ default k f d c s = same refl refl

set_named_follows : (o : Value) (word : List ℕ) (v : Value) → Unseen (set_named o word v)
set_named_follows o word v k f d c s = chosen (f.run.is_identifier word) _ _ _ _ _ _
    (allowed_follows word f d s (λ n s. on_value (set_attribute o n v (unwatched d f) s) (λ _ s. gives (value.Rock rock.Nil) s)) (λ n s. bind _ (attribute_set o n v k f d c s) (λ _ s. same refl refl))) (same refl refl)

setattr_follows : (o word v : Value) → Unseen (setattr o word v)
setattr_follows o (value.Rock (rock.Text word)) v k f d c s = set_named_follows o word v k f d c s
setattr_follows o _ v k f d c s = same refl refl

by_number : {P : Type 0} (x : Option ℤ) → ((n : ℕ) → x ≡ Some (pos n) → P) → ((n : ℕ) → x ≡ Some (negsuc n) → P) → (x ≡ None → P) → P
by_number (Some (pos n)) p q r = p n refl
by_number (Some (negsuc n)) p q r = q n refl
by_number None p q r = r refl

length_follows : {k : List Entry} (v : Value) → Does k (length_given v) (length_given v)
length_follows v s = by_number (index_number v) (λ n e. rw e (same refl refl)) (λ n e. rw e (same refl refl)) (λ e. rw e (same refl refl))

length_of_follows : (v : Value) → Unseen (length_of v)
length_of_follows v k f d c s =
    on_method (special (heap_of s) v LEN) _ _ _ _ _ _ (λ m. bind _ (c m.function _ s) (λ v s. length_follows v s)) (same refl refl)

applied_follows : (id : NativeId) (vs : List Value) → Unseen (applied id vs)
applied_follows native.Len (v ∷ []) k f d c s = length_of_follows v k f d c s
applied_follows native.Print vs k f d c s = bind _ (op (f.run.natives.print_line s.names vs s.plain) s) (λ line s. same refl refl)
applied_follows id vs k f d c s = same refl refl

decided_follows : (id : NativeId) (vs : List Value) → Unseen (decided_and_applied id vs)
decided_follows id vs k f d c s = ask_each _ f d (λ i. f.run.natives.needs id i (length vs)) 0 vs s (λ s. applied_follows id vs k f d c s)

function_follows : (id : NativeId) (vs : List Value) → Unseen (function id vs)
function_follows native.GetAttr (o ∷ word ∷ []) k f d c s = getattr_follows o word None k f d c s
function_follows native.GetAttr (o ∷ word ∷ default ∷ []) k f d c s = getattr_follows o word (Some default) k f d c s
function_follows native.GetAttr _ k f d c s = same refl refl
function_follows native.SetAttr (o ∷ word ∷ v ∷ []) k f d c s = setattr_follows o word v k f d c s
function_follows native.SetAttr _ k f d c s = same refl refl
function_follows id vs k f d c s = decided_follows id vs k f d c s

pub function_called : (id : NativeId) (a : Arguments) → Unseen (function_call id a)
function_called id a k f d c s = chosen (f.run.natives.is_function id) _ _ _ _ _ _
    (unnamed_follows a.plain a.named s (λ vs s. function id vs (unwatched d f) s) (λ vs s. function_follows id vs k f d c s)) (same refl refl)

pub method_called : (owner : Side) (receiver : Value) (id : NativeId) (a : Arguments) → Unseen (method_call owner receiver id a)
method_called owner receiver id a k f d c s = chosen (f.run.natives.is_method (heap_of s) receiver id) _ _ _ _ _ _
    (unnamed_follows a.plain a.named s
    (λ vs s. asked_each (unwatched d f) (λ i. f.run.natives.needs id i (length vs)) 0 vs s (λ s. plainly (f.run.natives.method s.names owner receiver id vs) s))
    (λ vs s. ask_each _ f d (λ i. f.run.natives.needs id i (length vs)) 0 vs s (λ s. same refl refl))) (same refl refl)
