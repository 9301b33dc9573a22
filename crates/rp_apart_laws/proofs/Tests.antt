-- Comparisons and what is shown leave an object to which nothing refers.
use Rattle.std.proofs.Common.{ℕ, zero, suc, ◌==◌, Bool, true, not, ◌++◌, List, [], ◌∷◌, length, codes, encode_utf8_all}
use Rattle.std.proofs.Common.{Option, Some, None}
use Rattle.std.specs.List.{zip}
use Rattle.std.specs.Map.{lookup}
use Rattle.std.specs.Option.{option_map}
use Rattle.rp_base.specs.declared.operator.CmpOp.{CmpOp}
use Rattle.rp_base.specs.declared.operator.CmpOp.TheVariants.{Lt, Le, Gt, Ge, Eq, Ne}
use Rattle.rp_base.specs.declared.value.Oid.{Oid}
use Rattle.rp_base.specs.declared.value.Rock.{Rock}
use Rattle.rp_base.specs.declared.value.Rock.TheVariants as rock
use Rattle.rp_base.specs.declared.value.Value.{Value}
use Rattle.rp_base.specs.declared.value.Value.TheVariants as value
use Rattle.rp_compare.specs.Equality as equality
use Rattle.rp_compare.specs.Membership as membership
use Rattle.rp_compare.specs.Order as order
use Rattle.rp_ops.specs.Depth.{deepest}
use Rattle.rp_ops.specs.Keys.{key_named}
use Rattle.rp_ops.specs.Outcome as plain
use Rattle.rp_show.specs.Show as show
use Rattle.rp_show.specs.Show.{Showing}
use Rattle.rp_show.specs.Shown.{shown_inside}
use Rattle.rp_store.specs.Heap.{content_at}
use Rattle.rp_store.specs.Key.{same_key}
use Rattle.rp_store.specs.Object as object
use Rattle.rp_store.specs.Object.{Content}
use Rattle.rp_fixed_laws.specs.Fixed.{Placed}
use Rattle.rp_apart_laws.specs.Apart.{Nothing, OnSome}
use Rattle.rp_apart_laws.proofs.Operations.{Entry}
use Rattle.rp_apart_laws.proofs.Plainly.{Does, Leaves, bind, charge, chosen, found, kept, kept_giving, possibly, step, within}

-- ---- comparisons

abbrev TestLeaves : Placed → equality.Test → Type 0
TestLeaves k test = (a b : Value) → Does k Nothing (test a b)

all_equal : {A : Type 0} {k : Placed} (one : A → plain.State → plain.Outcome Bool) → ((x : A) → Does k Nothing (one x))
    → (xs : List A) → Does k Nothing (equality.all_equal one xs)
all_equal one i [] s h = kept h tt
all_equal one i (x ∷ xs) s h = bind (i x s h) (λ b p s h. chosen b (all_equal one i xs s h) (kept h tt))

pair_equal : {k : Placed} (same : equality.Test) → TestLeaves k same → (pair : Value × Value)
    → Does k Nothing (equality.pair_equal same pair)
pair_equal same i pair s h = step s h (λ s h. i pair.0 pair.1 s h)

found_equal : {k : Placed} (same : equality.Test) → TestLeaves k same → (v : Value) (there : Option (Rock × Value))
    → Does k Nothing (equality.found_equal same v there)
found_equal same i v there s h = possibly there (λ e. pair_equal same i (v, e.1) s h) (kept h tt)

entry_equal : {k : Placed} (same : equality.Test) → TestLeaves k same → (fs : List Entry) (e : Entry)
    → Does k Nothing (equality.entry_equal same fs e)
entry_equal same i fs e s h = found_equal same i e.1.1 (lookup (same_key e.0) fs) s h

elements_equal : {k : Placed} (same : equality.Test) → TestLeaves k same → (xs ys : List Value)
    → Does k Nothing (equality.elements_equal same xs ys)
elements_equal same i xs ys s h = chosen (length xs == length ys)
    (all_equal (equality.pair_equal same) (pair_equal same i) (zip xs ys) s h) (kept h tt)

dicts_equal : {k : Placed} (same : equality.Test) → TestLeaves k same → (es fs : List Entry)
    → Does k Nothing (equality.dicts_equal same es fs)
dicts_equal same i es fs s h = chosen (length es == length fs)
    (all_equal (equality.entry_equal same fs) (entry_equal same i fs) es s h) (kept h tt)

contents_equal : {k : Placed} (inner : Option equality.Test) → OnSome (TestLeaves k) inner → (c e : Content)
    → Does k Nothing (equality.contents_equal inner c e)
contents_equal {k} inner i (object.list xs) (object.list ys) s h =
    within (TestLeaves k) inner s i h (λ same j. elements_equal same j xs ys s h)
contents_equal {k} inner i (object.tuple xs) (object.tuple ys) s h =
    within (TestLeaves k) inner s i h (λ same j. elements_equal same j xs ys s h)
contents_equal {k} inner i (object.dict es) (object.dict fs) s h =
    within (TestLeaves k) inner s i h (λ same j. dicts_equal same j es fs s h)
contents_equal inner i c e s h = kept h tt

objects_equal : {k : Placed} (inner : Option equality.Test) → OnSome (TestLeaves k) inner → (x y : Oid)
    → Does k Nothing (equality.objects_equal inner x y)
objects_equal inner i x y s h = chosen (x.0 == y.0) (kept h tt) (possibly (content_at s.store.heap x)
    (λ c. possibly (content_at s.store.heap y) (λ e. contents_equal inner i c e s h) (kept h tt)) (kept h tt))

equal_by : {k : Placed} (inner : Option equality.Test) → OnSome (TestLeaves k) inner
    → TestLeaves k (equality.equal_by inner)
equal_by inner i (value.Rock q) (value.Rock r) s h = kept h tt
equal_by inner i (value.Ref x) (value.Ref y) s h = objects_equal inner i x y s h
equal_by inner i (value.Ref x) (value.Prox y) s h = objects_equal inner i x y s h
equal_by inner i (value.Prox x) (value.Ref y) s h = objects_equal inner i x y s h
equal_by inner i (value.Prox x) (value.Prox y) s h = objects_equal inner i x y s h
equal_by inner i a b s h = kept h tt

inner_equal : (k : Placed) (d : ℕ) → OnSome (TestLeaves k) (equality.within d)
unfolding equality.within
inner_equal k zero = tt
inner_equal k (suc d) = equal_by (equality.within d) (inner_equal k d)

pub equal : {k : Placed} (d : ℕ) → TestLeaves k (equality.equal d)
equal {k} d = equal_by (equality.within d) (inner_equal k d)

ordered : {k : Placed} (b : Option Bool) → Does k Nothing (order.ordered b)
ordered (Some b) s h = kept h tt
ordered None s h = kept h tt

pub compare : {k : Placed} (op : CmpOp) (a b : Value) → Does k Nothing (order.compare op a b)
compare Eq a b s h = equal deepest a b s h
compare Ne a b s h = bind (equal deepest a b s h) (λ same p s h. kept h tt)
compare Lt a b s h = ordered (order.less a b) s h
compare Gt a b s h = ordered (order.less b a) s h
compare Le a b s h = ordered (option_map not (order.less b a)) s h
compare Ge a b s h = ordered (option_map not (order.less a b)) s h

found_in : {k : Placed} (a : Value) (xs : List Value) → Does k Nothing (membership.found_in a xs)
found_in a [] s h = kept h tt
found_in a (x ∷ xs) s h =
    step s h (λ s h. bind (equal deepest a x s h) (λ b p s h. chosen b (kept_giving true tt s h) (found_in a xs s h)))

content_contains : {k : Placed} (c : Content) (a : Value) → Does k Nothing (membership.content_contains c a)
content_contains (object.list xs) a s h = found_in a xs s h
content_contains (object.tuple xs) a s h = found_in a xs s h
content_contains (object.dict es) a s h = found (key_named a) s h (λ r s h. kept h tt)
content_contains c a s h = kept h tt

text_contains : {k : Placed} (t : List ℕ) (a : Value) → Does k Nothing (membership.text_contains t a)
text_contains t (value.Rock (rock.Text u)) s h = kept h tt
text_contains t a s h = kept h tt

rock_contains : {k : Placed} (r : Rock) (a : Value) → Does k Nothing (membership.rock_contains r a)
rock_contains (rock.Text t) a s h = text_contains t a s h
rock_contains r a s h = kept h tt

pub contains : {k : Placed} (a of : Value) → Does k Nothing (membership.contains a of)
contains a (value.Rock r) s h = rock_contains r a s h
contains a (value.Ref at) s h = possibly (content_at s.store.heap at) (λ c. content_contains c a s h) (kept h tt)
contains a (value.Prox at) s h = possibly (content_at s.store.heap at) (λ c. content_contains c a s h) (kept h tt)

-- ---- showing

pub printed : {k : Placed} (t : List ℕ) → Does k Nothing (show.printed t)
printed [] s h = kept h tt
printed (c ∷ cs) s h =
    charge (length (encode_utf8_all (c ∷ []))) s h (λ s h. bind (printed cs s h) (λ t p. kept_giving (c ∷ t) tt))

pub followed : {k : Placed} {first : plain.Outcome (List ℕ)} {next : plain.State → plain.Outcome (List ℕ)}
    → Leaves k Nothing first → Does k Nothing next → Leaves k Nothing (show.followed first next)
followed h i = bind h (λ t p s h. bind (i s h) (λ u p s h. kept h tt))

abbrev ShowingLeaves : Placed → Showing → Type 0
ShowingLeaves k showing = (v : Value) → Does k Nothing (showing v)

element_shown : {k : Placed} (showing : Showing) → ShowingLeaves k showing → (v : Value) → Does k Nothing
    (show.element showing v)
element_shown showing i v s h = step s h (λ s h. i v s h)

entry_shown : {k : Placed} (showing : Showing) → ShowingLeaves k showing → (e : Entry) → Does k Nothing
    (show.entry showing e)
entry_shown showing i e s h = step s h (λ s h. followed (printed (shown_inside e.1.0 ++ codes ": ") s h) (λ s h. i e.1.1 s h))

further : {A : Type 0} {k : Placed} (one : A → plain.State → plain.Outcome (List ℕ))
    → ((x : A) → Does k Nothing (one x))
    → (xs : List A) → Does k Nothing (show.further one xs)
further one i [] s h = kept h tt
further one i (x ∷ xs) s h =
    followed (followed (printed (codes ", ") s h) (λ s h. i x s h)) (λ s h. further one i xs s h)

separated : {A : Type 0} {k : Placed} (one : A → plain.State → plain.Outcome (List ℕ))
    → ((x : A) → Does k Nothing (one x))
    → (xs : List A) → Does k Nothing (show.separated one xs)
separated one i [] s h = kept h tt
separated one i (x ∷ xs) s h = followed (i x s h) (λ s h. further one i xs s h)

enclosed : {k : Placed} (opening closing : List ℕ) (inside : plain.State → plain.Outcome (List ℕ))
    → Does k Nothing inside
    → Does k Nothing (show.enclosed opening closing inside)
enclosed opening closing inside i s h =
    followed (followed (printed opening s h) (λ s h. i s h)) (λ s h. printed closing s h)

module _ (names : List (List ℕ)) where
  content_shown : {k : Placed} (inner : Option Showing) → OnSome (ShowingLeaves k) inner → (c : Content)
      → Does k Nothing (show.content_shown names inner c)
  content_shown {k} inner i (object.list xs) s h = within (ShowingLeaves k) inner s i h (λ showing j.
      enclosed (codes "[") (codes "]") (show.separated (show.element showing) xs)
      (separated (show.element showing) (element_shown showing j) xs) s h)
  content_shown {k} inner i (object.tuple xs) s h = within (ShowingLeaves k) inner s i h (λ showing j.
      enclosed (codes "(") (show.tuple_end xs) (show.separated (show.element showing) xs)
      (separated (show.element showing) (element_shown showing j) xs) s h)
  content_shown {k} inner i (object.dict es) s h = within (ShowingLeaves k) inner s i h (λ showing j.
      enclosed (codes "{") (codes "}") (show.separated (show.entry showing) es)
      (separated (show.entry showing) (entry_shown showing j) es) s h)
  content_shown inner i c s h = printed (show.object_text names s.store.heap c) s h

  object_shown : {k : Placed} (inner : List Oid → Option Showing)
      → ((outer : List Oid) → OnSome (ShowingLeaves k) (inner outer)) → (outer : List Oid) (at : Oid)
      → Does k Nothing (show.object_shown names inner outer at)
  object_shown inner i outer at s h = possibly (content_at s.store.heap at) (λ c.
      chosen (show.is_among outer at) (printed (show.cut_text c) s h)
      (content_shown (inner (at ∷ outer)) (i (at ∷ outer)) c s h)) (kept h tt)

  shown_by : {k : Placed} (inner : List Oid → Option Showing)
      → ((outer : List Oid) → OnSome (ShowingLeaves k) (inner outer)) → (outer : List Oid)
      → ShowingLeaves k (show.shown_by names inner outer)
  shown_by inner i outer (value.Rock r) s h = printed (shown_inside r) s h
  shown_by inner i outer (value.Ref at) s h = object_shown inner i outer at s h
  shown_by inner i outer (value.Prox at) s h = object_shown inner i outer at s h

  shown : {k : Placed} (d : ℕ) (outer : List Oid) → ShowingLeaves k (show.shown names d outer)
  shown zero outer v s h = shown_by (λ outer. None) (λ outer. tt) outer v s h
  shown (suc d) outer v s h =
      shown_by (λ outer. Some (show.shown names d outer)) (λ outer. shown d outer) outer v s h

  pub show_leaves : {k : Placed} (v : Value) → Does k Nothing (show.show names v)
  show_leaves (value.Rock (rock.Text t)) s h = kept h tt
  show_leaves (value.Rock (rock.Exc j t)) s h = printed t s h
  show_leaves v s h = shown deepest [] v s h
