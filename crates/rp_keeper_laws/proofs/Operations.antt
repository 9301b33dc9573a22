-- Walks, operators, comparisons and what is shown keep what is kept of objects.
use Rattle.std.proofs.Common.{ℕ, zero, suc, ◌+◌, ◌-◌, ◌*◌, ◌==◌, Bool, true, not, List, [], ◌∷◌, ◌++◌, length, map}
use Rattle.std.proofs.Common.{codes}
use Rattle.std.proofs.Common.{encode_utf8_all, slice_get, Option, Some, None, Result, Ok, Err}
use Rattle.std.specs.Prelude.{ℤ}
use Rattle.std.specs.List.{zip}
use Rattle.std.specs.Map.{lookup}
use Rattle.std.specs.Option.{option_map}
use Rattle.rp_base.specs.declared.operator.BinOp.{BinOp}
use Rattle.rp_base.specs.declared.operator.BinOp.TheVariants.{Add, Mul}
use Rattle.rp_base.specs.declared.operator.CmpOp.{CmpOp}
use Rattle.rp_base.specs.declared.operator.CmpOp.TheVariants.{Lt, Le, Gt, Ge, Eq, Ne}
use Rattle.rp_base.specs.declared.value.Oid.{Oid}
use Rattle.rp_base.specs.declared.value.Raised.{Raised}
use Rattle.rp_base.specs.declared.value.Rock.{Rock}
use Rattle.rp_base.specs.declared.value.Rock.TheVariants as rock
use Rattle.rp_base.specs.declared.value.Side.{Side}
use Rattle.rp_base.specs.declared.value.Value.{Value}
use Rattle.rp_base.specs.declared.value.Value.TheVariants as value
use Rattle.rp_compare.specs.Equality as equality
use Rattle.rp_compare.specs.Membership as membership
use Rattle.rp_compare.specs.Order as order
use Rattle.rp_ops.specs.Binary as binary
use Rattle.rp_ops.specs.Depth.{deepest}
use Rattle.rp_ops.specs.Inplace as inplace
use Rattle.rp_ops.specs.Keys.{key_named}
use Rattle.rp_ops.specs.Numbers.{computed}
use Rattle.rp_ops.specs.Operand as operand
use Rattle.rp_ops.specs.Operand.{Operand, lent, number_of}
use Rattle.rp_ops.specs.Outcome as plain
use Rattle.rp_ops.specs.Walk as walk
use Rattle.rp_ops.specs.Walk.{Cursor}
use Rattle.rp_show.specs.Show as show
use Rattle.rp_show.specs.Show.{Showing}
use Rattle.rp_show.specs.Shown.{shown_inside}
use Rattle.rp_store.specs.Heap.{content_at}
use Rattle.rp_store.specs.Key.{same_key}
use Rattle.rp_store.specs.Object as object
use Rattle.rp_store.specs.Object.{Content}
use Rattle.rp_store.specs.Writers.{extended, with_elements}
use Rattle.rp_store.specs.declared.key.Key.{Key}
use Rattle.rp_apart_laws.specs.Apart.{OnSome}
use Rattle.rp_keeper_laws.specs.PlainKeepers.{Bare, PlainKeeper}
use Rattle.rp_keeper_laws.proofs.Plainly.{Does, Leaves, There, bind, change, charge, chosen, elements_spare}
use Rattle.rp_keeper_laws.proofs.Plainly.{extended_spares, found, kept, kept_giving, makes, maybe, step, within}

abbrev pub Entry : Type 0
Entry = Key × (Rock × Value)

-- ---- new objects and texts

pub new_text : {k : PlainKeeper} (t : List ℕ) → Does k (binary.new_text t)
new_text t s h = charge (length (encode_utf8_all t)) s h (kept_giving (value.Rock (rock.Text t)))

pub new_object : {k : PlainKeeper} (side : Side) (content : Content) → k.Fits content
    → Does k (binary.new_object side content)
new_object side content p s h = bind (makes side content p s h) (λ at s h. kept h)

pub new_list : {k : PlainKeeper} (side : Side) (xs : List Value) → Does k (binary.new_object side (object.list xs))
new_list {k} side xs s h = new_object side (object.list xs) (k.list xs) s h

pub new_tuple : {k : PlainKeeper} (side : Side) (xs : List Value) → Does k (binary.new_object side (object.tuple xs))
new_tuple {k} side xs s h = new_object side (object.tuple xs) (k.tuple xs) s h

pub new_dict : {k : PlainKeeper} (side : Side) (es : List Entry) → Does k (binary.new_object side (object.dict es))
new_dict {k} side es s h = new_object side (object.dict es) (k.dict es) s h

-- ---- walks

pub walked : {k : PlainKeeper} (vs : List Value) → Does k (walk.walked vs)
walked [] s h = kept h
walked (v ∷ vs) s h = step s h (λ s h. bind (walked vs s h) (λ ws. kept_giving (v ∷ ws)))

spelled_out : {k : PlainKeeper} (cs : List ℕ) → Does k (walk.spelled_out cs)
spelled_out [] s h = kept h
spelled_out (c ∷ cs) s h =
    step s h (λ s h. bind (new_text (c ∷ []) s h) (λ v s h. bind (spelled_out cs s h) (λ vs. kept_giving (v ∷ vs))))

rock_elements : {k : PlainKeeper} (r : Rock) → Does k (walk.rock_elements r)
rock_elements (rock.Text t) s h = spelled_out t s h
rock_elements r s h = kept h

content_elements : {k : PlainKeeper} (seen : Value → Value) (c : Content) → Does k (walk.content_elements seen c)
content_elements seen (object.list xs) s h = walked (map seen xs) s h
content_elements seen (object.tuple xs) s h = walked (map seen xs) s h
content_elements seen (object.dict es) s h = walked (map (λ (e : Entry). value.Rock e.1.0) es) s h
content_elements seen c s h = kept h

pub elements : {k : PlainKeeper} (v : Value) → Does k (walk.elements v)
elements (value.Rock r) s h = rock_elements r s h
elements (value.Ref at) s h = maybe (content_at s.store.heap at) (λ c. content_elements (λ v. v) c s h) (kept h)
elements (value.Prox at) s h = maybe (content_at s.store.heap at) (λ c. content_elements lent c s h) (kept h)

taken : {k : PlainKeeper} (v : Option Value) (c : Cursor) → Does k (walk.taken v c)
taken None c s h = kept h
taken (Some v) c s h = step s h (kept_giving (Some (v, c)))

next_character : {k : PlainKeeper} (cs : List ℕ) → Does k (walk.next_character cs)
next_character [] s h = kept h
next_character (c ∷ cs) s h = step s h (λ s h. bind (new_text (c ∷ []) s h)
    (λ v. kept_giving (Some (v, walk.characters_from cs))))

next_key : {k : PlainKeeper} (keys : List Value) (at : Oid) (i size : ℕ) → Does k (walk.next_key keys at i size)
next_key keys at i size s h =
    chosen (length keys == size) (taken (slice_get keys i) (walk.keys_from at (i + 1) size) s h) (kept h)

pub next_of : {k : PlainKeeper} (c : Cursor) → Does k (walk.next_of c)
next_of (walk.elements_from lent at i) s h =
    taken (slice_get (walk.elements_in s.store.heap lent at) i) (walk.elements_from lent at (i + 1)) s h
next_of (walk.keys_from at i size) s h = next_key (walk.keys_in s.store.heap at) at i size s h
next_of (walk.characters_from cs) s h = next_character cs s h

-- ---- operators

pub number_value : {k : PlainKeeper} (r : Result ℤ Raised) → Does k (binary.number_value r)
number_value (Ok n) s h = kept h
number_value (Err e) s h = kept h

arithmetic : {k : PlainKeeper} (op : BinOp) (x y : Option ℤ) → Does k (binary.arithmetic op x y)
arithmetic op (Some x) (Some y) s h = number_value (computed op x y) s h
arithmetic op (Some x) None s h = kept h
arithmetic op None y s h = kept h

truth_value : {k : PlainKeeper} {otherwise : plain.Outcome Value} (b : Option Bool) (s : plain.State) → There k s
    → Leaves k otherwise → Leaves k (binary.truth_value b otherwise s)
truth_value (Some b) s h i = kept h
truth_value None s h i = i

repeats : {k : PlainKeeper} (side : Side) (x : Operand) (n : Option ℤ) → Does k (binary.repeats side x n)
repeats side (operand.text t) (Some n) s h = new_text (binary.repeated n t) s h
repeats side (operand.list xs) (Some n) s h = new_list side (binary.repeated n xs) s h
repeats side (operand.tuple xs) (Some n) s h = new_tuple side (binary.repeated n xs) s h
repeats side x n s h = kept h

calculated : {k : PlainKeeper} (op : BinOp) (x y : Operand) → Does k (binary.calculated op x y)
calculated op x y s h =
    truth_value (binary.logical_of op x y) s h (arithmetic op (number_of x) (number_of y) s h)

operated : {k : PlainKeeper} (side : Side) (op : BinOp) (x y : Operand) → Does k (binary.operated side op x y)
operated side Add (operand.text x) (operand.text y) s h = new_text (x ++ y) s h
operated side Add (operand.list xs) (operand.list ys) s h = new_list side (xs ++ ys) s h
operated side Add (operand.tuple xs) (operand.tuple ys) s h = new_tuple side (xs ++ ys) s h
operated side Mul (operand.text x) y s h = repeats side (operand.text x) (number_of y) s h
operated side Mul (operand.list xs) y s h = repeats side (operand.list xs) (number_of y) s h
operated side Mul (operand.tuple xs) y s h = repeats side (operand.tuple xs) (number_of y) s h
operated side Mul x (operand.text y) s h = repeats side (operand.text y) (number_of x) s h
operated side Mul x (operand.list ys) s h = repeats side (operand.list ys) (number_of x) s h
operated side Mul x (operand.tuple ys) s h = repeats side (operand.tuple ys) (number_of x) s h
operated side op x y s h = calculated op x y s h

pub binary_leaves : {k : PlainKeeper} (side : Side) (op : BinOp) (a b : Value) → Does k (binary.binary side op a b)
binary_leaves side op a b s h = operated side op (operand.operand s.store.heap a) (operand.operand s.store.heap b) s h

extends : {k : PlainKeeper} → (a : Value) (at : Oid) (b : Value) → k.Usable at → Does k (inplace.extends a at b)
extends a at b usable s h =
    bind (elements b s h) (λ vs s h. charge (length vs) s h
    (λ s h. change at usable a s (extended vs) (extended_spares vs) h))

repeats_list : {k : PlainKeeper} → (a : Value) (at : Oid) (xs : List Value) (n : Option ℤ)
    → k.Usable at → Does k (inplace.repeats_list a at xs n)
repeats_list a at xs (Some n) usable s h = charge ((binary.times n - 1) * length xs) s h
    (λ s h. change at usable a s (with_elements (binary.repeated n xs)) (elements_spare (binary.repeated n xs)) h)
repeats_list a at xs None usable s h = kept h

list_inplace : {k : PlainKeeper} → (side : Side) (op : BinOp) (a : Value) (at : Oid)
    (xs : List Value) (b : Value)
    → k.Usable at → Does k (inplace.list_inplace side op a at xs b)
list_inplace side Add a at xs b usable s h = extends a at b usable s h
list_inplace side Mul a at xs b usable s h = repeats_list a at xs (number_of (operand.operand s.store.heap b)) usable
    s h
list_inplace side op a at xs b usable s h = binary_leaves side op a b s h

content_inplace : {k : PlainKeeper} → (side : Side) (op : BinOp) (a : Value) (at : Oid) (c : Content)
    (b : Value)
    → k.Usable at → Does k (inplace.content_inplace side op a at c b)
content_inplace side op a at (object.list xs) b usable s h = list_inplace side op a at xs b usable s h
content_inplace side op a at c b usable s h = binary_leaves side op a b s h

object_inplace : {k : PlainKeeper} → (side : Side) (op : BinOp) (a : Value) (at : Oid) (b : Value)
    → k.Usable at → Does k (inplace.object_inplace side op a at b)
object_inplace side op a at b usable s h =
    maybe (content_at s.store.heap at) (λ c. content_inplace side op a at c b usable s h)
    (binary_leaves side op a b s h)

pub inplace_leaves : {k : PlainKeeper} → (side : Side) (op : BinOp) (a b : Value) → Bare k a → Does k
    (inplace.inplace side op a b)
inplace_leaves side op (value.Rock r) b usable s h = binary_leaves side op (value.Rock r) b s h
inplace_leaves side op (value.Ref at) b usable s h = object_inplace side op (value.Ref at) at b usable s h
inplace_leaves side op (value.Prox at) b usable s h = object_inplace side op (value.Prox at) at b usable s h

-- ---- comparisons

abbrev TestLeaves : PlainKeeper → equality.Test → Type 0
TestLeaves k test = (a b : Value) → Does k (test a b)

all_equal : {A : Type 0} {k : PlainKeeper} (one : A → plain.State → plain.Outcome Bool) → ((x : A) → Does k (one x))
    → (xs : List A) → Does k (equality.all_equal one xs)
all_equal one i [] s h = kept h
all_equal one i (x ∷ xs) s h = bind (i x s h) (λ b s h. chosen b (all_equal one i xs s h) (kept h))

pair_equal : {k : PlainKeeper} (same : equality.Test) → TestLeaves k same → (pair : Value × Value)
    → Does k (equality.pair_equal same pair)
pair_equal same i pair s h = step s h (λ s h. i pair.0 pair.1 s h)

found_equal : {k : PlainKeeper} (same : equality.Test) → TestLeaves k same → (v : Value) (there : Option (Rock × Value))
    → Does k (equality.found_equal same v there)
found_equal same i v there s h = maybe there (λ e. pair_equal same i (v, e.1) s h) (kept h)

entry_equal : {k : PlainKeeper} (same : equality.Test) → TestLeaves k same → (fs : List Entry) (e : Entry)
    → Does k (equality.entry_equal same fs e)
entry_equal same i fs e s h = found_equal same i e.1.1 (lookup (same_key e.0) fs) s h

elements_equal : {k : PlainKeeper} (same : equality.Test) → TestLeaves k same → (xs ys : List Value)
    → Does k (equality.elements_equal same xs ys)
elements_equal same i xs ys s h = chosen (length xs == length ys)
    (all_equal (equality.pair_equal same) (pair_equal same i) (zip xs ys) s h) (kept h)

dicts_equal : {k : PlainKeeper} (same : equality.Test) → TestLeaves k same → (es fs : List Entry)
    → Does k (equality.dicts_equal same es fs)
dicts_equal same i es fs s h = chosen (length es == length fs)
    (all_equal (equality.entry_equal same fs) (entry_equal same i fs) es s h) (kept h)

contents_equal : {k : PlainKeeper} (inner : Option equality.Test) → OnSome (TestLeaves k) inner → (c e : Content)
    → Does k (equality.contents_equal inner c e)
contents_equal {k} inner i (object.list xs) (object.list ys) s h =
    within (TestLeaves k) inner s i h (λ same j. elements_equal same j xs ys s h)
contents_equal {k} inner i (object.tuple xs) (object.tuple ys) s h =
    within (TestLeaves k) inner s i h (λ same j. elements_equal same j xs ys s h)
contents_equal {k} inner i (object.dict es) (object.dict fs) s h =
    within (TestLeaves k) inner s i h (λ same j. dicts_equal same j es fs s h)
contents_equal inner i c e s h = kept h

objects_equal : {k : PlainKeeper} (inner : Option equality.Test) → OnSome (TestLeaves k) inner → (x y : Oid)
    → Does k (equality.objects_equal inner x y)
objects_equal inner i x y s h = chosen (x.0 == y.0) (kept h) (maybe (content_at s.store.heap x)
    (λ c. maybe (content_at s.store.heap y) (λ e. contents_equal inner i c e s h) (kept h)) (kept h))

equal_by : {k : PlainKeeper} (inner : Option equality.Test) → OnSome (TestLeaves k) inner
    → TestLeaves k (equality.equal_by inner)
equal_by inner i (value.Rock q) (value.Rock r) s h = kept h
equal_by inner i (value.Ref x) (value.Ref y) s h = objects_equal inner i x y s h
equal_by inner i (value.Ref x) (value.Prox y) s h = objects_equal inner i x y s h
equal_by inner i (value.Prox x) (value.Ref y) s h = objects_equal inner i x y s h
equal_by inner i (value.Prox x) (value.Prox y) s h = objects_equal inner i x y s h
equal_by inner i a b s h = kept h

inner_equal : (k : PlainKeeper) (d : ℕ) → OnSome (TestLeaves k) (equality.within d)
unfolding equality.within
inner_equal k zero = tt
inner_equal k (suc d) = equal_by (equality.within d) (inner_equal k d)

pub equal : {k : PlainKeeper} (d : ℕ) → TestLeaves k (equality.equal d)
equal {k} d = equal_by (equality.within d) (inner_equal k d)

ordered : {k : PlainKeeper} (b : Option Bool) → Does k (order.ordered b)
ordered (Some b) s h = kept h
ordered None s h = kept h

pub compare : {k : PlainKeeper} (op : CmpOp) (a b : Value) → Does k (order.compare op a b)
compare Eq a b s h = equal deepest a b s h
compare Ne a b s h = bind (equal deepest a b s h) (λ same s h. kept h)
compare Lt a b s h = ordered (order.less a b) s h
compare Gt a b s h = ordered (order.less b a) s h
compare Le a b s h = ordered (option_map not (order.less b a)) s h
compare Ge a b s h = ordered (option_map not (order.less a b)) s h

found_in : {k : PlainKeeper} (a : Value) (xs : List Value) → Does k (membership.found_in a xs)
found_in a [] s h = kept h
found_in a (x ∷ xs) s h =
    step s h (λ s h. bind (equal deepest a x s h) (λ b s h. chosen b (kept_giving true s h) (found_in a xs s h)))

content_contains : {k : PlainKeeper} (c : Content) (a : Value) → Does k (membership.content_contains c a)
content_contains (object.list xs) a s h = found_in a xs s h
content_contains (object.tuple xs) a s h = found_in a xs s h
content_contains (object.dict es) a s h = found (key_named a) s h (λ r s h. kept h)
content_contains c a s h = kept h

text_contains : {k : PlainKeeper} (t : List ℕ) (a : Value) → Does k (membership.text_contains t a)
text_contains t (value.Rock (rock.Text u)) s h = kept h
text_contains t a s h = kept h

rock_contains : {k : PlainKeeper} (r : Rock) (a : Value) → Does k (membership.rock_contains r a)
rock_contains (rock.Text t) a s h = text_contains t a s h
rock_contains r a s h = kept h

pub contains : {k : PlainKeeper} (a of : Value) → Does k (membership.contains a of)
contains a (value.Rock r) s h = rock_contains r a s h
contains a (value.Ref at) s h = maybe (content_at s.store.heap at) (λ c. content_contains c a s h) (kept h)
contains a (value.Prox at) s h = maybe (content_at s.store.heap at) (λ c. content_contains c a s h) (kept h)

-- ---- showing

pub printed : {k : PlainKeeper} (t : List ℕ) → Does k (show.printed t)
printed [] s h = kept h
printed (c ∷ cs) s h =
    charge (length (encode_utf8_all (c ∷ []))) s h (λ s h. bind (printed cs s h) (λ t. kept_giving (c ∷ t)))

pub followed : {k : PlainKeeper} {first : plain.Outcome (List ℕ)} {next : plain.State → plain.Outcome (List ℕ)}
    → Leaves k first → Does k next → Leaves k (show.followed first next)
followed h i = bind h (λ t s h. bind (i s h) (λ u s h. kept h))

abbrev ShowingLeaves : PlainKeeper → Showing → Type 0
ShowingLeaves k showing = (v : Value) → Does k (showing v)

element_shown : {k : PlainKeeper} (showing : Showing) → ShowingLeaves k showing → (v : Value) → Does k
    (show.element showing v)
element_shown showing i v s h = step s h (λ s h. i v s h)

entry_shown : {k : PlainKeeper} (showing : Showing) → ShowingLeaves k showing → (e : Entry)
    → Does k (show.entry showing e)
entry_shown showing i e s h = step s h
    (λ s h. followed (printed (shown_inside e.1.0 ++ codes ": ") s h) (λ s h. i e.1.1 s h))

further : {A : Type 0} {k : PlainKeeper} (one : A → plain.State → plain.Outcome (List ℕ)) → ((x : A) → Does k (one x))
    → (xs : List A) → Does k (show.further one xs)
further one i [] s h = kept h
further one i (x ∷ xs) s h =
    followed (followed (printed (codes ", ") s h) (λ s h. i x s h)) (λ s h. further one i xs s h)

separated : {A : Type 0} {k : PlainKeeper} (one : A → plain.State → plain.Outcome (List ℕ)) → ((x : A) → Does k (one x))
    → (xs : List A) → Does k (show.separated one xs)
separated one i [] s h = kept h
separated one i (x ∷ xs) s h = followed (i x s h) (λ s h. further one i xs s h)

enclosed : {k : PlainKeeper} (opening closing : List ℕ) (inside : plain.State → plain.Outcome (List ℕ)) → Does k inside
    → Does k (show.enclosed opening closing inside)
enclosed opening closing inside i s h =
    followed (followed (printed opening s h) (λ s h. i s h)) (λ s h. printed closing s h)

module _ (names : List (List ℕ)) where
  content_shown : {k : PlainKeeper} (inner : Option Showing) → OnSome (ShowingLeaves k) inner → (c : Content)
      → Does k (show.content_shown names inner c)
  content_shown {k} inner i (object.list xs) s h = within (ShowingLeaves k) inner s i h (λ showing j.
      enclosed (codes "[") (codes "]") (show.separated (show.element showing) xs)
      (separated (show.element showing) (element_shown showing j) xs) s h)
  content_shown {k} inner i (object.tuple xs) s h = within (ShowingLeaves k) inner s i h (λ showing j.
      enclosed (codes "(") (show.tuple_end xs) (show.separated (show.element showing) xs)
      (separated (show.element showing) (element_shown showing j) xs) s h)
  content_shown {k} inner i (object.dict es) s h = within (ShowingLeaves k) inner s i h (λ showing j.
      enclosed (codes "{") (codes "}") (show.separated (show.entry showing) es)
      (separated (show.entry showing) (entry_shown showing j) es) s h)
  content_shown inner i c s h = printed (show.object_text names s.store.heap c) s h

  object_shown : {k : PlainKeeper} (inner : List Oid → Option Showing)
      → ((outer : List Oid) → OnSome (ShowingLeaves k) (inner outer)) → (outer : List Oid) (at : Oid)
      → Does k (show.object_shown names inner outer at)
  object_shown inner i outer at s h = maybe (content_at s.store.heap at) (λ c.
      chosen (show.is_among outer at) (printed (show.cut_text c) s h)
      (content_shown (inner (at ∷ outer)) (i (at ∷ outer)) c s h)) (kept h)

  shown_by : {k : PlainKeeper} (inner : List Oid → Option Showing)
      → ((outer : List Oid) → OnSome (ShowingLeaves k) (inner outer)) → (outer : List Oid)
      → ShowingLeaves k (show.shown_by names inner outer)
  shown_by inner i outer (value.Rock r) s h = printed (shown_inside r) s h
  shown_by inner i outer (value.Ref at) s h = object_shown inner i outer at s h
  shown_by inner i outer (value.Prox at) s h = object_shown inner i outer at s h

  shown : {k : PlainKeeper} (d : ℕ) (outer : List Oid) → ShowingLeaves k (show.shown names d outer)
  shown zero outer v s h = shown_by (λ outer. None) (λ outer. tt) outer v s h
  shown (suc d) outer v s h =
      shown_by (λ outer. Some (show.shown names d outer)) (λ outer. shown d outer) outer v s h

  pub show_leaves : {k : PlainKeeper} (v : Value) → Does k (show.show names v)
  show_leaves (value.Rock (rock.Text t)) s h = kept h
  show_leaves (value.Rock (rock.Exc j t)) s h = printed t s h
  show_leaves v s h = shown deepest [] v s h
