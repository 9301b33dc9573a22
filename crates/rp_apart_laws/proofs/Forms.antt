-- What code does with values leaves an object to which nothing refers: names, decisions, operators, attributes and items.
use Rattle.std.proofs.Common.{◌≡◌, refl, sym, subst, ℕ, zero, suc, ◌+◌, length, ℤ, pos, negsuc, List, []}
use Rattle.std.proofs.Common.{◌∷◌, ◌++◌, Option, Some, None, Result, Ok, Err}
use Rattle.std.specs.Prelude.{find, option_map, position}
use Rattle.std.specs.Option.{option_or}
use Rattle.rp_attributes.specs.Attributes.{method_named}
use Rattle.rp_base.specs.Kind.{is_under, kind_name}
use Rattle.rp_base.specs.Names.{word_of}
use Rattle.rp_base.specs.Same.{same_text}
use Rattle.rp_base.specs.declared.kind.Kind.{Kind}
use Rattle.rp_base.specs.declared.kind.Kind.TheVariants.{AttributeError}
use Rattle.rp_base.specs.declared.kind.TheConstants.Kind.{ALL}
use Rattle.rp_base.specs.declared.native.NativeId.{NativeId}
use Rattle.rp_base.specs.declared.native.NativeId.TheVariants as native
use Rattle.rp_base.specs.declared.operator.BinOp.{BinOp}
use Rattle.rp_base.specs.declared.operator.UnOp.{UnOp}
use Rattle.rp_base.specs.declared.value.Name.{Name}
use Rattle.rp_base.specs.declared.value.Oid.{Oid}
use Rattle.rp_base.specs.declared.value.Raised.{Raised}
use Rattle.rp_base.specs.declared.value.Rock.TheVariants as rock
use Rattle.rp_base.specs.declared.value.Side.{Side}
use Rattle.rp_base.specs.declared.value.Value.{Value}
use Rattle.rp_base.specs.declared.value.Value.TheVariants as value
use Rattle.rp_base.specs.declared.word.TheConstants.{BOOL, CONTAINS, DEL_ITEM, GET_ITEM, ITER, LEN, SET_ITEM}
use Rattle.rp_ops.specs.Binary as binary
use Rattle.rp_ops.specs.Keys.{index_number}
use Rattle.rp_ops.specs.Operand.{truth_of}
use Rattle.rp_ops.specs.Outcome as plain
use Rattle.rp_ops.specs.Outcome.{End, raised, no_step, no_cell, gives, on_value}
use Rattle.rp_ops.specs.Walk.{Cursor, walk_of}
use Rattle.rp_proxy.specs.Taken.{taken}
use Rattle.rp_store.specs.Heap.{Owned}
use Rattle.rp_tree.specs.declared.parts.Test.{Test}
use Rattle.rp_tree.specs.declared.parts.Test.TheVariants as test
use Rattle.rp_meaning.specs.Access.{get_attribute, set_attribute, del_attribute, get_item, set_item, del_item}
use Rattle.rp_meaning.specs.Access.{get_slice, is_within}
use Rattle.rp_meaning.specs.Binding.{Arguments, only}
use Rattle.rp_meaning.specs.BuiltIn.{allowed, applied, decided_and_applied, defaulted, function, function_call}
use Rattle.rp_meaning.specs.BuiltIn.{get_named, given, getattr, length_given}
use Rattle.rp_meaning.specs.BuiltIn.{length_of, method_call, name_of, set_named, setattr, unnamed, with_name}
use Rattle.rp_meaning.specs.Frame.{Frame, Natives, Doing, asked_each, read_name, bind_name, unbind_name, without_name}
use Rattle.rp_meaning.specs.Frame.{slot_of, place_of}
use Rattle.rp_meaning.specs.Operators.{operate, operate_unary, augment, tested, left_name, right_name, unary_name}
use Rattle.rp_meaning.specs.Operators.{in_place_name, augmented_name, comparison_name, mirrored}
use Rattle.rp_meaning.specs.Scopes.{Place, built_in, exposed, functions_of, global, global_value, held, local, outer}
use Rattle.rp_meaning.specs.Scopes.{slot_in, value_at}
use Rattle.rp_meaning.specs.Special.{special}
use Rattle.rp_meaning.specs.State.{State, Outcome, heap_of, plainly}
use Rattle.rp_meaning.specs.Walks.{walk, next_element, each, on_truth}
use Rattle.rp_fixed_laws.specs.Fixed.{AreBuiltIn, Placed}
use Rattle.rp_apart_laws.specs.Apart.{ArgumentsAvoid, Avoids, FlowAvoids, HeapAvoids, IsApart, Nothing}
use Rattle.rp_apart_laws.specs.Apart.{OnSome, OnValue, Stays}
use Rattle.rp_apart_laws.proofs.Going.{Anything, Does, FitIn, MoreAvoids, OnFound, StaysAt, ask_each, ask_for, ask_to_set, bind}
use Rattle.rp_apart_laws.proofs.Going.{by_option, chosen, found, gets_value, held_avoids, on_method, op, same}
use Rattle.rp_apart_laws.proofs.Going.{slot_other, slot_set, special_avoids, takes_value, turns_keep}
use Rattle.rp_apart_laws.proofs.Methods.{method_leaves}
use Rattle.rp_apart_laws.proofs.Natives.{function_leaves, print_line_leaves}
use Rattle.rp_apart_laws.proofs.Objects.{attribute, item, slice}
use Rattle.rp_apart_laws.proofs.Objects.{del_attribute as del_attribute_leaves, del_item as del_item_leaves}
use Rattle.rp_apart_laws.proofs.Objects.{set_attribute as set_attribute_leaves, set_item as set_item_leaves}
use Rattle.rp_apart_laws.proofs.Operations.{StepAvoids, Values, binary_leaves, inplace_leaves, next_of, taken_avoids}
use Rattle.rp_apart_laws.proofs.Plainly.{Leaves, There}
use Rattle.rp_apart_laws.proofs.Tests.{compare, contains}

-- names

built_in_avoids : (a : Oid) (side : Side) (word : List ℕ) → OnSome (Avoids a) (built_in side word)
built_in_avoids a side word =
    by (method_named (functions_of side) word) (find (λ (k : Kind). same_text (kind_name k) word) ALL)
  where
    by : (id : Option NativeId) (kind : Option Kind) → OnSome (Avoids a) (option_or
        (option_map (λ (id : NativeId). value.Rock (rock.Native id)) id)
        (option_map (λ (k : Kind). value.Rock (rock.Kind k)) kind))
    by (Some id) kind = tt
    by None (Some k) = tt
    by None None = tt

exposed_avoids : (a : Oid) (side : Side) (heap : List Owned) (names : List (List ℕ)) (word : List ℕ)
    → HeapAvoids a heap → OnSome (Avoids a) (exposed side heap names word)
exposed_avoids a side heap names word h = by side.0
  where
    taken_for : (n : ℕ) (o : Option Value) → OnSome (Avoids a) o
        → OnSome (Avoids a) (option_map (taken heap (record { 0 = suc n })) o)
    taken_for n None p = tt
    taken_for n (Some v) p = taken_avoids a heap (record { 0 = suc n }) v p

    by : (n : ℕ) → OnSome (Avoids a) (exposed (record { 0 = n }) heap names word)
    by zero = tt
    by (suc n) =
        taken_for n (held heap (option_map (slot_in (record { 0 = 0 })) (position (same_text word) names)))
        (held_avoids a heap (option_map (slot_in (record { 0 = 0 })) (position (same_text word) names)) h)

either_avoids : (a : Oid) (x y : Option Value) → OnSome (Avoids a) x → OnSome (Avoids a) y
    → OnSome (Avoids a) (option_or x y)
either_avoids a None y p q = q
either_avoids a (Some v) y p q = p

global_avoids : {k : Placed} (side : Side) (variable : Option Value) (word : List ℕ) (s : State)
    → OnSome (Avoids k.at) variable → IsApart k s → OnSome (Avoids k.at) (global_value side variable word s)
global_avoids {k} side variable word s p h =
    either_avoids k.at variable (option_or (exposed side (heap_of s) s.declarations.expose word) (built_in side word)) p
    (either_avoids k.at (exposed side (heap_of s) s.declarations.expose word) (built_in side word)
    (exposed_avoids k.at side (heap_of s) s.declarations.expose word h.heap.others) (built_in_avoids k.at side word))

value_keeps : {k : Placed} (side : Side) (place : Place) (variable : Option Value) (word : List ℕ) (s : State)
    → OnSome (Avoids k.at) variable → IsApart k s → Stays k (Avoids k.at) (value_at side place variable word s)
value_keeps side (local i) (Some v) word s p h = same h p
value_keeps side (local i) None word s p h = same h tt
value_keeps side (outer n i) (Some v) word s p h = same h p
value_keeps side (outer n i) None word s p h = same h tt
value_keeps {k} side global variable word s p h =
    by_option (global_value side variable word s) (λ e. rw e (same h tt))
    (λ v e. rw e (same h (subst (OnSome (Avoids k.at)) e (global_avoids side variable word s p h))))

pub read : {k : Placed} (n : Name) → StaysAt k (Avoids k.at) (read_name n)
read {k} n f c s h =
    value_keeps f.side (place_of f n) (held (heap_of s) (slot_of f n s)) (word_of s.names n) s
    (held_avoids k.at (heap_of s) (slot_of f n s) h.heap.others) h

pub bound : {k : Placed} (n : Name) (v : Value) → Avoids k.at v → StaysAt k (FlowAvoids k.at) (bind_name n v)
bound n v p f c s h = same (slot_set (slot_of f n s) (Some v) s (slot_other n f c s h) p h) tt

pub without : {k : Placed} (n : Name) (f : Frame) → FitIn k f → (s : State) → IsApart k s
    → IsApart k (without_name n f s)
without n f c s h = slot_set (slot_of f n s) None s (slot_other n f c s h) tt h

pub unbound : {k : Placed} (n : Name) → StaysAt k (FlowAvoids k.at) (unbind_name n)
unbound n f c s h =
    by_option (held (heap_of s) (slot_of f n s)) (λ e. rw e (same h tt)) (λ v e. rw e (same (without n f c s h) tt))

-- walks

pub truth : {A : Type 0} {k : Placed} {P : A → Type 0} (v : Value) (f : Frame) → FitIn k f → (s : State)
    {this other : State → Outcome A} → IsApart k s → Does k P this → Does k P other
    → Stays k P (on_truth v f s this other)
truth v f c s {this} {other} h t o = ask_for f c BOOL v s h
    (λ s h. chosen (truth_of (heap_of s) v) this other (t s h) (o s h))

pub walks : {k : Placed} (v : Value) → StaysAt k (Anything k) (walk v)
walks v f c s h = ask_for f c ITER v s h (λ s h. found (walk_of (heap_of s) v) s h (λ w e s h. same h tt))

pub element : {k : Placed} (w : Cursor) → StaysAt k (MoreAvoids k) (λ f s. next_element f w s)
element {k} w f c s h = bind (op s h (next_of w s.plain h.heap)) (λ e p s h. same h (by s e p)) where
  by : (s : State) (e : Option (Value × Cursor)) → StepAvoids k e
      → MoreAvoids k (option_map (λ (e : Value × Cursor). (taken (heap_of s) f.side e.0, e.1)) e)
  by s None p = tt
  by s (Some e) p = taken_avoids k.at (heap_of s) f.side e.0 p

pub each_keeps : {k : Placed} (body : Value → Doing) (f : Frame) → FitIn k f
    → ((v : Value) → Avoids k.at v → Does k (FlowAvoids k.at) (body v f)) → (w : Cursor)
    → Does k (FlowAvoids k.at) (each body w f)
each_keeps body f c b w s h = turns_keep (s.plain.steps + 1) (λ w s h. element w f c s h) b w s h

-- calls of special methods

only_avoid : (k : Placed) (vs : List Value) → Values k vs → ArgumentsAvoid k.at (only vs)
only_avoid k vs p = record { plain = p; named = tt }

-- attributes and items

pub attribute_got : {k : Placed} (o : Value) (n : Name) → Avoids k.at o → StaysAt k (Avoids k.at) (get_attribute o n)
attribute_got o n p f c s h = ask_for f c n o s h (λ s h.
    bind (op s h (attribute f.side o n (word_of s.names n) p s.plain h.heap)) (λ v q s h. gets_value o v f q s h))

pub attribute_set : {k : Placed} (o : Value) (n : Name) (v : Value) → Avoids k.at o → Avoids k.at v
    → StaysAt k (FlowAvoids k.at) (set_attribute o n v)
attribute_set o n v p q f c s h = ask_to_set f c n o s h (λ s h.
    bind (op s h (set_attribute_leaves o n (word_of s.names n) v p q s.plain h.heap)) (λ _ r s h. same h tt))

pub attribute_deleted : {k : Placed} (o : Value) (n : Name) → Avoids k.at o
    → StaysAt k (FlowAvoids k.at) (del_attribute o n)
attribute_deleted o n p f c s h = ask_to_set f c n o s h (λ s h.
    bind (op s h (del_attribute_leaves o n (word_of s.names n) p s.plain h.heap)) (λ _ r s h. same h tt))

pub item_got : {k : Placed} (o i : Value) → Avoids k.at o → Avoids k.at i → StaysAt k (Avoids k.at) (get_item o i)
item_got {k} o i p q f c s h = ask_for f c GET_ITEM o s h (λ s h.
    bind (on_method (special (heap_of s) o GET_ITEM) _ _ s (special_avoids k (heap_of s) o GET_ITEM p)
    (λ m r. c.calls m.function (only (m.of ∷ i ∷ [])) s (only_avoid k (m.of ∷ i ∷ []) (r, (q, tt))) h)
    (op s h (item o i s.plain h.heap))) (λ v r s h. gets_value o v f r s h))

pub item_set : {k : Placed} (o i v : Value) → Avoids k.at o → Avoids k.at i → Avoids k.at v
    → StaysAt k (FlowAvoids k.at) (set_item o i v)
item_set {k} o i v p q r f c s h = ask_for f c SET_ITEM o s h (λ s h.
    on_method (special (heap_of s) o SET_ITEM) _ _ s (special_avoids k (heap_of s) o SET_ITEM p)
    (λ m l. bind (c.calls m.function (only (m.of ∷ i ∷ v ∷ [])) s
    (only_avoid k (m.of ∷ i ∷ v ∷ []) (l, (q, (r, tt)))) h) (λ v _ s h. same h tt))
    (bind (op s h (set_item_leaves o i v p r s.plain h.heap)) (λ _ l s h. same h tt)))

pub item_deleted : {k : Placed} (o i : Value) → Avoids k.at o → Avoids k.at i
    → StaysAt k (FlowAvoids k.at) (del_item o i)
item_deleted {k} o i p q f c s h = ask_for f c DEL_ITEM o s h (λ s h.
    on_method (special (heap_of s) o DEL_ITEM) _ _ s (special_avoids k (heap_of s) o DEL_ITEM p)
    (λ m l. bind (c.calls m.function (only (m.of ∷ i ∷ [])) s (only_avoid k (m.of ∷ i ∷ []) (l, (q, tt))) h)
    (λ v _ s h. same h tt))
    (bind (op s h (del_item_leaves o i p s.plain h.heap)) (λ _ l s h. same h tt)))

pub slice_got : {k : Placed} (o x y z : Value) → StaysAt k (Avoids k.at) (get_slice o x y z)
slice_got o x y z f c s h = ask_for f c GET_ITEM o s h (λ s h.
    bind (op s h (slice o x y z s.plain h.heap)) (λ v p s h. gets_value o v f p s h))

pub within : {k : Placed} (v o : Value) → Avoids k.at v → Avoids k.at o → StaysAt k (Anything k) (is_within v o)
within {k} v o p q f c s h = ask_for f c CONTAINS o s h (λ s h.
    on_method (special (heap_of s) o CONTAINS) _ _ s (special_avoids k (heap_of s) o CONTAINS q)
    (λ m l. bind (c.calls m.function (only (m.of ∷ v ∷ [])) s (only_avoid k (m.of ∷ v ∷ []) (l, (p, tt))) h)
    (λ r _ s h. same h tt)) (op s h (contains v o s.plain h.heap)))

-- operators

pub operated : {k : Placed} (o : BinOp) (a b : Value) → StaysAt k (Avoids k.at) (operate o a b)
operated o a b f c s h = ask_for f c (left_name o) a s h (λ s h. ask_for f c (right_name o) b s h (λ s h.
    bind (op s h (binary_leaves f.side o a b s.plain h.heap)) (λ v p s h. takes_value v f p s h)))

unary_avoids : (a : Oid) (r : Result ℤ Raised) → OnFound (Avoids a) (binary.int_value r)
unary_avoids a (Ok z) = tt
unary_avoids a (Err e) = tt

pub operated_once : {k : Placed} (o : UnOp) (a : Value) → StaysAt k (Avoids k.at) (operate_unary o a)
operated_once {k} o a f c s h = ask_for f c (unary_name o) a s h (λ s h.
    found (binary.int_value (binary.unary (heap_of s) o a)) s h (λ v e t i.
    same i (subst (OnFound (Avoids k.at)) e (unary_avoids k.at (binary.unary (heap_of s) o a)))))

pub augmented : {k : Placed} (o : BinOp) (a b : Value) → Avoids k.at a → StaysAt k (Avoids k.at) (augment o a b)
augmented o a b p f c s h =
    ask_for f c (in_place_name o) a s h (λ s h. ask_for f c (augmented_name (heap_of s) o a) b s h (λ s h.
    bind (op s h (inplace_leaves f.side o a b p s.plain h.heap)) (λ v q s h. takes_value v f q s h)))

pub test_keeps : {k : Placed} (t : Test) (a b : Value) → Avoids k.at a → Avoids k.at b
    → StaysAt k (Anything k) (tested t a b)
test_keeps (test.Order o) a b p q f c s h =
    ask_for f c (comparison_name o) a s h (λ s h. ask_for f c (comparison_name (mirrored o)) b s h (λ s h.
    op s h (compare o a b s.plain h.heap)))
test_keeps test.Within a b p q f c s h = within a b p q f c s h
test_keeps test.NotWithin a b p q f c s h = bind (within a b p q f c s h) (λ r _ s h. same h tt)
test_keeps test.Is a b p q f c s h = same h tt
test_keeps test.IsNot a b p q f c s h = same h tt

-- calls of built-in functions and methods

function_done : {k : Placed} {n : Natives} → AreBuiltIn n → (names : List (List ℕ)) (side : Side) (id : NativeId)
    (vs : List Value) → Values k vs → (s : plain.State) → There k s
    → Leaves k (Avoids k.at) (n.function names side id vs s)
function_done {k} b names side id vs p s h =
    subst (λ (o : plain.Outcome Value). Leaves k (Avoids k.at) o) (sym (b.functions names side id vs s))
    (function_leaves names side id vs p s h)

method_done : {k : Placed} {n : Natives} → AreBuiltIn n → (names : List (List ℕ)) (side : Side) (v : Value)
    (id : NativeId) (vs : List Value) → Avoids k.at v → Values k vs → (s : plain.State) → There k s
    → Leaves k (Avoids k.at) (n.method names side v id vs s)
method_done {k} b names side v id vs p q s h =
    subst (λ (o : plain.Outcome Value). Leaves k (Avoids k.at) o) (sym (b.methods names side v id vs s))
    (method_leaves side v id vs p q s h)

line_printed : {k : Placed} {n : Natives} → AreBuiltIn n → (names : List (List ℕ)) (vs : List Value) (s : plain.State)
    → There k s → Leaves k Nothing (n.print_line names vs s)
line_printed {k} b names vs s h =
    subst (λ (o : plain.Outcome (List ℕ)). Leaves k Nothing o) (sym (b.lines names vs s))
    (print_line_leaves names vs s h)

given_keeps : {k : Placed} (id : NativeId) (vs : List Value) → Values k vs → StaysAt k (Avoids k.at) (given id vs)
given_keeps id vs p f c s h = op s h (function_done c.quiet.natives s.names f.side id vs p s.plain h.heap)

unnamed_keeps : {k : Placed} (plain : List Value) (names : List (List ℕ × Value)) (s : State)
    (go : List Value → State → Outcome Value) → Values k plain → IsApart k s
    → ((vs : List Value) → Values k vs → Does k (Avoids k.at) (go vs))
    → Stays k (Avoids k.at) (unnamed (record { plain = plain; named = names }) s go)
unnamed_keeps plain [] s go p h more = more plain p s h
unnamed_keeps plain (n ∷ ns) s go p h more = same h tt

-- the words of names are no objects
named_apart : {k : Placed} (word : List ℕ) (s : State) → IsApart k s → IsApart k (with_name word s)
named_apart word s h = record { heap = h.heap; declared = h.declared }

allowed_keeps : {A : Type 0} {k : Placed} {P : A → Type 0} (word : List ℕ) (f : Frame) (s : State)
    (go : Name → State → Outcome A) → IsApart k s → ((n : Name) → Does k P (go n)) → Stays k P (allowed word f s go)
allowed_keeps word f s go h more =
    chosen (f.run.is_forbidden word) _ _ (same (named_apart word s h) tt)
    (more (name_of (with_name word s).names word) (with_name word s) (named_apart word s h))

defaulted_keeps : {k : Placed} (default : Option Value) (o : Outcome Value) → OnSome (Avoids k.at) default
    → Stays k (Avoids k.at) o → Stays k (Avoids k.at) (defaulted default o)
defaulted_keeps None o p h = h
defaulted_keeps {k} (Some v) o p h = by o.answer h.gives where
  by : (answer : Result Value End) → OnValue (Avoids k.at) answer
      → Stays k (Avoids k.at) (defaulted (Some v) (record { answer = answer; state = o.state }))
  by (Ok w) q = same h.there q
  by (Err (raised r)) q = chosen (is_under r.kind AttributeError) _ _ (same h.there p) (same h.there tt)
  by (Err no_step) q = same h.there tt
  by (Err no_cell) q = same h.there tt

got_named : {k : Placed} (o : Value) (word : List ℕ) (default : Option Value) → Avoids k.at o
    → OnSome (Avoids k.at) default → StaysAt k (Avoids k.at) (get_named o word default)
got_named o word default p q f c s h = chosen (f.run.is_identifier word) _ _
    (allowed_keeps word f s _ h (λ n s h. defaulted_keeps default _ q (attribute_got o n p f c s h)))
    (defaulted_keeps default _ q (same h tt))

getattr_keeps : {k : Placed} (o word : Value) (default : Option Value) → Avoids k.at o → OnSome (Avoids k.at) default
    → StaysAt k (Avoids k.at) (getattr o word default)
getattr_keeps o (value.Rock (rock.Text word)) default p q f c s h = got_named o word default p q f c s h
getattr_keeps o _ default p q f c s h = same h tt

set_named_keeps : {k : Placed} (o : Value) (word : List ℕ) (v : Value) → Avoids k.at o → Avoids k.at v
    → StaysAt k (Avoids k.at) (set_named o word v)
set_named_keeps o word v p q f c s h = chosen (f.run.is_identifier word) _ _
    (allowed_keeps word f s (λ n s. on_value (set_attribute o n v f s) (λ _ s. gives (value.Rock rock.Nil) s)) h
    (λ n s h. bind (attribute_set o n v p q f c s h) (λ _ r s h. same h tt))) (same h tt)

setattr_keeps : {k : Placed} (o word v : Value) → Avoids k.at o → Avoids k.at v
    → StaysAt k (Avoids k.at) (setattr o word v)
setattr_keeps o (value.Rock (rock.Text word)) v p q f c s h = set_named_keeps o word v p q f c s h
setattr_keeps o _ v p q f c s h = same h tt

by_number : {P : Type 0} (x : Option ℤ) → ((n : ℕ) → x ≡ Some (pos n) → P) → ((n : ℕ) → x ≡ Some (negsuc n) → P)
    → (x ≡ None → P) → P
by_number (Some (pos n)) p q r = p n refl
by_number (Some (negsuc n)) p q r = q n refl
by_number None p q r = r refl

length_keeps : {k : Placed} (v : Value) → Does k (Avoids k.at) (length_given v)
length_keeps v s h =
    by_number (index_number v) (λ n e. rw e (same h tt)) (λ n e. rw e (same h tt)) (λ e. rw e (same h tt))

length_of_keeps : {k : Placed} (v : Value) → Avoids k.at v → StaysAt k (Avoids k.at) (length_of v)
length_of_keeps {k} v p f c s h =
    on_method (special (heap_of s) v LEN) _ _ s (special_avoids k (heap_of s) v LEN p)
    (λ m l. bind (c.calls m.function (only (m.of ∷ [])) s (only_avoid k (m.of ∷ []) (l, tt)) h)
    (λ v _ s h. length_keeps v s h))
    (given_keeps native.Len (v ∷ []) (p, tt) f c s h)

printed_apart : {k : Placed} (line : List ℕ) (s : State) → IsApart k s
    → IsApart k (record s { printed = s.printed ++ line })
printed_apart line s h = record { heap = h.heap; declared = h.declared }

applied_keeps : {k : Placed} (id : NativeId) (vs : List Value) → Values k vs → StaysAt k (Avoids k.at) (applied id vs)
applied_keeps native.Len (v ∷ []) p f c s h = length_of_keeps v p.0 f c s h
applied_keeps native.Print vs p f c s h =
    bind (op s h (line_printed c.quiet.natives s.names vs s.plain h.heap))
    (λ line q s h. same (printed_apart line s h) tt)
applied_keeps id vs p f c s h = given_keeps id vs p f c s h

decided_keeps : {k : Placed} (id : NativeId) (vs : List Value) → Values k vs
    → StaysAt k (Avoids k.at) (decided_and_applied id vs)
decided_keeps id vs p f c s h = ask_each f c _ 0 vs s h (λ s h. applied_keeps id vs p f c s h)

function_keeps : {k : Placed} (id : NativeId) (vs : List Value) → Values k vs
    → StaysAt k (Avoids k.at) (function id vs)
function_keeps native.GetAttr (o ∷ word ∷ []) p f c s h = getattr_keeps o word None p.0 tt f c s h
function_keeps native.GetAttr (o ∷ word ∷ default ∷ []) p f c s h =
    getattr_keeps o word (Some default) p.0 p.1.1.0 f c s h
function_keeps native.GetAttr _ p f c s h = same h tt
function_keeps native.SetAttr (o ∷ word ∷ v ∷ []) p f c s h = setattr_keeps o word v p.0 p.1.1.0 f c s h
function_keeps native.SetAttr _ p f c s h = same h tt
function_keeps id vs p f c s h = decided_keeps id vs p f c s h

pub function_called : {k : Placed} (id : NativeId) (a : Arguments) → ArgumentsAvoid k.at a
    → StaysAt k (Avoids k.at) (function_call id a)
function_called id a p f c s h = chosen (f.run.natives.is_function id) _ _
    (unnamed_keeps a.plain a.named s _ p.plain h (λ vs q s h. function_keeps id vs q f c s h)) (same h tt)

pub method_called : {k : Placed} (owner : Side) (receiver : Value) (id : NativeId) (a : Arguments)
    → Avoids k.at receiver → ArgumentsAvoid k.at a → StaysAt k (Avoids k.at) (method_call owner receiver id a)
method_called owner receiver id a p q f c s h = chosen (f.run.natives.is_method (heap_of s) receiver id) _ _
    (unnamed_keeps a.plain a.named s
    (λ vs s. asked_each f (λ i. f.run.natives.needs id i (length vs)) 0 vs s
    (λ s. plainly (f.run.natives.method s.names owner receiver id vs) s)) q.plain h
    (λ vs r s h. ask_each f c (λ i. f.run.natives.needs id i (length vs)) 0 vs s h
    (λ s h. op s h (method_done c.quiet.natives s.names owner receiver id vs p r s.plain h.heap))))
    (same h tt)
