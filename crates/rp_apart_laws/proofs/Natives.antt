-- The built-in functions leave an object to which nothing refers (Python Standard Library, Built-in Functions).
use Rattle.std.proofs.Common.{◌≡◌, ◌<◌, ℕ, zero, suc, ◌+◌, Bool, true, false, not, if◌then◌else◌, List, [], ◌∷◌}
use Rattle.std.proofs.Common.{◌++◌, length, map, codes, encode_utf8_all, Option, Some, None, Result, Ok, Err, pos, arith}
use Rattle.std.specs.Prelude.{ℤ, filter_map, unsigned_abs}
use Rattle.std.specs.Option.{option_and_then, option_map}
use Rattle.rp_base.specs.declared.native.NativeId.{NativeId}
use Rattle.rp_base.specs.declared.native.NativeId.TheVariants as native
use Rattle.rp_base.specs.declared.value.Oid.{Oid}
use Rattle.rp_base.specs.declared.value.Rock.{Rock}
use Rattle.rp_base.specs.declared.value.Rock.TheVariants as rock
use Rattle.rp_base.specs.declared.value.Side.{Side}
use Rattle.rp_base.specs.declared.value.Value.{Value}
use Rattle.rp_base.specs.declared.value.Value.TheVariants as value
use Rattle.rp_native.specs.Copies as copies
use Rattle.rp_native.specs.Counts.{function_takes, is_function}
use Rattle.rp_native.specs.Extremes as extremes
use Rattle.rp_native.specs.Extremes.{have_order, is_less}
use Rattle.rp_native.specs.Functions as functions
use Rattle.rp_native.specs.Numbers as numbers
use Rattle.rp_native.specs.Print as lines
use Rattle.rp_native.specs.Ranges as ranges
use Rattle.rp_native.specs.Sorted as sorting
use Rattle.rp_native.specs.Tables as tables
use Rattle.rp_native.specs.Walked as walking
use Rattle.rp_native.specs.Zips as zips
use Rattle.rp_native.specs.declared.extremes.Extreme.{Extreme}
use Rattle.rp_native.specs.declared.extremes.Extreme.TheVariants as extreme_of
use Rattle.rp_native.specs.declared.fault.Fault.{Fault}
use Rattle.rp_native.specs.declared.fault.Fault.TheVariants as fault
use Rattle.rp_native.specs.declared.ranges.Bounds.{Bounds}
use Rattle.rp_ops.specs.Keys.{index_number}
use Rattle.rp_ops.specs.Numbers.{fitted}
use Rattle.rp_ops.specs.Outcome as plain
use Rattle.rp_ops.specs.View.{sequence_of}
use Rattle.rp_ops.specs.Walk as walk
use Rattle.rp_ops.specs.Walk.{Cursor}
use Rattle.rp_ops.specs.declared.sequences.Sequence.{Sequence}
use Rattle.rp_ops.specs.declared.sequences.Sequence.TheVariants as sequence
use Rattle.rp_store.specs.Heap.{Owned, content_at}
use Rattle.rp_store.specs.Object as object
use Rattle.rp_store.specs.Object.{Content}
use Rattle.rp_fixed_laws.specs.Fixed.{Placed}
use Rattle.rp_apart_laws.specs.Apart.{Avoids, ContentAvoids, Each, HeapAvoids, Nothing, OnSome}
use Rattle.rp_apart_laws.proofs.Lists.{each_in_order, each_made, each_map}
use Rattle.rp_apart_laws.proofs.Operations.{Entry, StepAvoids, Values, elements, handed_avoids, new_object, next_of}
use Rattle.rp_apart_laws.proofs.Operations.{number_value}
use Rattle.rp_apart_laws.proofs.Plainly.{Does, Leaves, bind, charge, chosen, found, kept, left_added}
use Rattle.rp_apart_laws.proofs.Plainly.{maybe, place_below, read_avoids, step}
use Rattle.rp_apart_laws.proofs.Tests.{followed, printed, show_leaves}

-- ---- copies

sequence_avoids : (a : Oid) (kind : Sequence) (vs : List Value) → Each (Avoids a) vs
    → ContentAvoids a (sequence_of kind vs)
sequence_avoids a sequence.List vs p = p
sequence_avoids a sequence.Tuple vs p = p

sequence_copy : {k : Placed} (side : Side) (kind : Sequence) (v : Value)
    → Does k (Avoids k.at) (copies.sequence_copy side kind v)
sequence_copy {k} side kind v s h =
    bind (elements v s h) (λ vs p s h. new_object side (sequence_of kind vs) (sequence_avoids k.at kind vs p) s h)

entries_avoid : (a : Oid) (heap : List Owned) (at : Oid) → HeapAvoids a heap
    → OnSome (Each (λ (e : Entry). Avoids a e.1.1)) (copies.entries_of heap at)
entries_avoid a heap at h = by (content_at heap at) (read_avoids a heap at h)
  where
    of : (c : Content) → ContentAvoids a c → OnSome (Each (λ (e : Entry). Avoids a e.1.1)) (copies.entries_in c)
    of (object.dict es) p = p
    of c p = tt

    by : (o : Option Content) → OnSome (ContentAvoids a) o
        → OnSome (Each (λ (e : Entry). Avoids a e.1.1)) (option_and_then copies.entries_in o)
    by None p = tt
    by (Some c) p = of c p

object_copy : {k : Placed} (side : Side) (lent : Bool) (at : Oid)
    → Does k (Avoids k.at) (copies.object_copy side lent at)
object_copy {k} side lent at s h =
    maybe (Each (λ (e : Entry). Avoids k.at e.1.1)) (copies.entries_of s.store.heap at)
    (entries_avoid k.at s.store.heap at h.others)
    (λ es p. new_object side (object.dict (map (copies.entry_handed lent) es))
    (each_map (λ (e : Entry). Avoids k.at e.1.1) (λ (e : Entry). Avoids k.at e.1.1) (copies.entry_handed lent)
    (λ e q. handed_avoids k.at lent e.1.1 q) es p) s h) (kept h tt)

dict_copy : {k : Placed} (side : Side) (v : Value) → Does k (Avoids k.at) (copies.dict_copy side v)
dict_copy side (value.Rock r) s h = kept h tt
dict_copy side (value.Ref at) s h = object_copy side false at s h
dict_copy side (value.Prox at) s h = object_copy side true at s h

-- ---- numbers

number_found : {k : Placed} (f : Fault) (z : Option ℤ) → Does k (Avoids k.at) (numbers.number_found f z)
number_found f (Some z) s h = number_value (fitted z) s h
number_found f None s h = kept h tt

int : {k : Placed} (v : Value) → Does k (Avoids k.at) (numbers.int v)
int (value.Rock (rock.Text t)) s h = number_found fault.Digits (numbers.spelled (encode_utf8_all t)) s h
int v s h = number_found fault.Argument (index_number v) s h

sum_of : {k : Placed} (vs : List Value) → Does k (Avoids k.at) (walking.sum_of vs)
sum_of vs s h = chosen (walking.are_numbers vs)
    (number_value (walking.summed (pos 0) (filter_map index_number vs)) s h) (kept h tt)

sum : {k : Placed} (v : Value) → Does k (Avoids k.at) (walking.sum v)
sum v s h = bind (elements v s h) (λ vs p s h. sum_of vs s h)

-- ---- the least and the greatest, and sorted lists

foremost_avoids : (a : Oid) (before : Value → Value → Bool) (v : Value) (ws : List Value) → Avoids a v
    → Each (Avoids a) ws → Avoids a (extremes.foremost before v ws)
foremost_avoids a before v [] p q = p
foremost_avoids a before v (w ∷ ws) p q =
    foremost_avoids a before (if before w v then w else v) ws (by (before w v)) q.1
  where
    by : (b : Bool) → Avoids a (if b then w else v)
    by true = q.0
    by false = p

foremost_chosen : {k : Placed} (which : Extreme) (vs : List Value) → Values k vs
    → Does k (Avoids k.at) (extremes.chosen which vs)
foremost_chosen which [] p s h = kept h tt
foremost_chosen {k} which (v ∷ vs) p s h = chosen (have_order (v ∷ vs))
    (kept h (foremost_avoids k.at (extremes.before which) v vs p.0 p.1)) (kept h tt)

extreme : {k : Placed} (which : Extreme) (v : Value) → Does k (Avoids k.at) (extremes.extreme which v)
extreme which v s h = bind (elements v s h) (λ vs p s h. foremost_chosen which vs p s h)

sorted_list : {k : Placed} (side : Side) (vs : List Value) → Values k vs
    → Does k (Avoids k.at) (sorting.sorted_list side vs)
sorted_list {k} side vs p s h = chosen (have_order vs)
    (new_object side (object.list (sorting.in_order is_less vs)) (each_in_order (Avoids k.at) is_less vs p) s h)
    (kept h tt)

sorted : {k : Placed} (side : Side) (v : Value) → Does k (Avoids k.at) (sorting.sorted side v)
sorted side v s h = bind (elements v s h) (λ vs p s h. sorted_list side vs p s h)

-- ---- ranges, and lists of tuples

listed : {k : Placed} (side : Side) (b : Result Bounds Fault) → Does k (Avoids k.at) (ranges.listed side b)
listed {k} side (Ok b) s h =
    new_object side (object.list (ranges.numbers b)) (each_made (Avoids k.at) (ranges.member b) (λ m. tt) _) s h
listed side (Err f) s h = kept h tt

range : {k : Placed} (side : Side) (vs : List Value) → Does k (Avoids k.at) (ranges.range side vs)
range side vs s h = listed side (ranges.bounds_of vs) s h

abbrev Rows : Placed → List (List Value) → Type 0
Rows k = Each (Each (Avoids k.at))

tuples_avoid : (a : Oid) (side : Side) (rows : List (List Value)) → Each (Each (Avoids a)) rows
    → HeapAvoids a (map (tables.tuple_of side) rows)
tuples_avoid a side [] p = tt
tuples_avoid a side (row ∷ rows) p = (p.0, tuples_avoid a side rows p.1)

-- the places from one on are others, if that one is behind the object's
behind_others : (a : Oid) (from count : ℕ) → a.0 < from → Each (Avoids a) (tables.references from count)
behind_others a from zero below = tt
behind_others a from (suc n) below =
    ((λ (e : from ≡ a.0). omega arith), behind_others a (from + 1) n (omega arith))

makes_table : {k : Placed} (side : Side) (rows : List (List Value)) → Rows k rows
    → Does k (Avoids k.at) (tables.makes_table side rows)
makes_table {k} side rows p s h =
    let tuples : List Owned = map (tables.tuple_of side) rows in
    let below : k.at.0 < length s.store.heap = place_below k s.store.heap h in
    kept (left_added k (s.store.heap ++ tuples) (record {
      owner = side;
      content = object.list (tables.references (length s.store.heap) (length rows));
    } ∷ []) (behind_others k.at (length s.store.heap) (length rows) below, tt)
    (left_added k s.store.heap tuples (tuples_avoid k.at side rows p) h))
    (λ (e : length s.store.heap + length rows ≡ k.at.0). omega arith)

table : {k : Placed} (side : Side) (rows : List (List Value)) → Rows k rows
    → Does k (Avoids k.at) (tables.table side rows)
table side rows p s h = charge (tables.table_cells rows) s h (λ s h. makes_table side rows p s h)

numbered_avoid : (a : Oid) (n : ℕ) (vs : List Value) → Each (Avoids a) vs
    → Each (Each (Avoids a)) (tables.numbered n vs)
numbered_avoid a n [] p = tt
numbered_avoid a n (v ∷ vs) p = ((tt, (p.0, tt)), numbered_avoid a (n + 1) vs p.1)

enumerate : {k : Placed} (side : Side) (v : Value) → Does k (Avoids k.at) (tables.enumerate side v)
enumerate {k} side v s h =
    bind (elements v s h) (λ vs p s h. table side (tables.numbered 0 vs) (numbered_avoid k.at 0 vs p) s h)

abbrev StepOf : Placed → Value × Cursor → Type 0
StepOf k e = Avoids k.at e.0

next_found : {k : Placed} (e : Option (Value × Cursor)) → StepAvoids k e → Does k (StepOf k) (zips.found e)
next_found (Some e) p s h = kept h p
next_found None p s h = kept h tt

with_steps : {A : Type 0} {k : Placed} {P : A → Type 0} (n : ℕ) (o : plain.Outcome A) → Leaves k P o
    → Leaves k P (zips.with_steps n o)
with_steps n o h = kept h.there h.gives

element : {k : Placed} (c : Cursor) → Does k (StepOf k) (zips.element c)
element c s h =
    with_steps s.steps (plain.on_value (walk.next_of c (record s { steps = 1 })) zips.found)
    (bind (next_of c (record s { steps = 1 }) h) (λ e p s h. next_found e p s h))

abbrev RowOf : Placed → List Value × List Cursor → Type 0
RowOf k r = Each (Avoids k.at) r.0

row : {k : Placed} (cs : List Cursor) → Does k (RowOf k) (zips.row cs)
row [] s h = kept h tt
row (c ∷ cs) s h = bind (element c s h) (λ e p s h. bind (row cs s h) (λ r q s h. kept h (p, q)))

rows : {k : Placed} (n : ℕ) (cs : List Cursor) → Does k (Rows k) (zips.rows n cs)
rows zero cs s h = kept h tt
rows (suc n) cs s h =
    bind (step s h (λ s h. row cs s h)) (λ r p s h. bind (rows n r.1 s h) (λ more q s h. kept h (p, q)))

zip : {k : Placed} (side : Side) (vs : List Value) → Does k (Avoids k.at) (zips.zip side vs)
zip side vs s h = found (zips.walks s.store.heap vs) s h (λ cs s h.
    bind (rows (zips.shortest s.store.heap vs) cs s h) (λ rs p s h. table side rs p s h))

-- ---- functions

none_given : {k : Placed} (side : Side) (id : NativeId) → Does k (Avoids k.at) (functions.none_given side id)
none_given side native.List s h = new_object side (object.list []) tt s h
none_given side native.Tuple s h = new_object side (object.tuple []) tt s h
none_given side native.Dict s h = new_object side (object.dict []) tt s h
none_given side native.Zip s h = zip side [] s h
none_given side id s h = kept h tt

bare_avoids : (a : Oid) (v : Value) → Avoids a v → Avoids a (functions.plain_value v)
bare_avoids a (value.Rock r) p = tt
bare_avoids a (value.Ref at) p = p
bare_avoids a (value.Prox at) p = p

one_given : {k : Placed} (names : List (List ℕ)) (side : Side) (id : NativeId) (v : Value) → Avoids k.at v
    → Does k (Avoids k.at) (functions.one_given names side id v)
one_given names side native.Len v p s h = number_found fault.Length
    (option_map (λ n. pos n) (numbers.length_of s.store.heap v)) s h
one_given names side native.Bool v p s h = kept h tt
one_given names side native.Str v p s h = bind (show_leaves names v s h) (λ t q s h. kept h tt)
one_given names side native.Int v p s h = int v s h
one_given names side native.Abs v p s h = number_found fault.Argument
    (option_map (λ z. pos (unsigned_abs z)) (index_number v)) s h
one_given names side native.Sum v p s h = sum v s h
one_given names side native.Min v p s h = extreme extreme_of.Least v s h
one_given names side native.Max v p s h = extreme extreme_of.Greatest v s h
one_given names side native.List v p s h = sequence_copy side sequence.List v s h
one_given names side native.Tuple v p s h = sequence_copy side sequence.Tuple v s h
one_given names side native.Dict v p s h = dict_copy side v s h
one_given names side native.Sorted v p s h = sorted side v s h
one_given names side native.Range v p s h = range side (v ∷ []) s h
one_given names side native.Enumerate v p s h = enumerate side v s h
one_given names side native.Zip v p s h = zip side (v ∷ []) s h
one_given {k} names side native.RemoveSecurityProxy v p s h = kept h (bare_avoids k.at v p)
one_given names side id v p s h = kept h tt

more_given : {k : Placed} (side : Side) (id : NativeId) (vs : List Value) → Values k vs
    → Does k (Avoids k.at) (functions.more_given side id vs)
more_given side native.Min vs p s h = foremost_chosen extreme_of.Least vs p s h
more_given side native.Max vs p s h = foremost_chosen extreme_of.Greatest vs p s h
more_given side native.Range vs p s h = range side vs s h
more_given side native.Zip vs p s h = zip side vs s h
more_given side id vs p s h = kept h tt

counted : {k : Placed} (names : List (List ℕ)) (side : Side) (id : NativeId) (vs : List Value) → Values k vs
    → Does k (Avoids k.at) (functions.counted names side id vs)
counted names side id [] p s h = none_given side id s h
counted names side id (v ∷ []) p s h = one_given names side id v p.0 s h
counted names side id (v ∷ w ∷ vs) p s h = more_given side id (v ∷ w ∷ vs) p s h

pub function_leaves : {k : Placed} (names : List (List ℕ)) (side : Side) (id : NativeId) (vs : List Value)
    → Values k vs → Does k (Avoids k.at) (functions.function names side id vs)
function_leaves names side id vs p s h = chosen (not (is_function id)) (kept h tt)
    (chosen (not (function_takes id (length vs))) (kept h tt) (counted names side id vs p s h))

-- ---- `print`

argument : {k : Placed} (names : List (List ℕ)) (v : Value) → Does k Nothing (lines.argument names v)
argument names (value.Rock (rock.Text t)) s h = printed t s h
argument names v s h = show_leaves names v s h

further : {k : Placed} (names : List (List ℕ)) (vs : List Value) → Does k Nothing (lines.further names vs)
further names [] s h = printed (codes "\n") s h
further names (v ∷ vs) s h =
    followed (followed (printed (codes " ") s h) (λ s h. argument names v s h)) (λ s h. further names vs s h)

pub print_line_leaves : {k : Placed} (names : List (List ℕ)) (vs : List Value)
    → Does k Nothing (lines.print_line names vs)
print_line_leaves names [] s h = printed (codes "\n") s h
print_line_leaves names (v ∷ vs) s h = followed (argument names v s h) (λ s h. further names vs s h)
