-- The built-in functions keep what is kept of objects (Python Standard Library, Built-in Functions).
use Rattle.std.proofs.Common.{ℕ, zero, suc, Bool, true, false, not, List, [], ◌∷◌, ◌++◌, length, map, codes}
use Rattle.std.proofs.Common.{Option, Some, None}
use Rattle.std.proofs.Common.{encode_utf8_all, Result, Ok, Err, pos}
use Rattle.std.specs.Prelude.{ℤ, filter_map, unsigned_abs}
use Rattle.std.specs.Option.{option_map}
use Rattle.rp_base.specs.declared.native.NativeId.{NativeId}
use Rattle.rp_base.specs.declared.native.NativeId.TheVariants as native
use Rattle.rp_base.specs.declared.value.Oid.{Oid}
use Rattle.rp_base.specs.declared.value.Rock.TheVariants as rock
use Rattle.rp_base.specs.declared.value.Side.{Side}
use Rattle.rp_base.specs.declared.value.Value.{Value}
use Rattle.rp_base.specs.declared.value.Value.TheVariants as value
use Rattle.rp_native.specs.Copies as copies
use Rattle.rp_native.specs.Counts.{function_takes, is_function}
use Rattle.rp_native.specs.Extremes as extremes
use Rattle.rp_native.specs.Extremes.{have_order, is_less}
use Rattle.rp_native.specs.Functions as functions
use Rattle.rp_native.specs.Numbers as numbers
use Rattle.rp_native.specs.Print as lines
use Rattle.rp_native.specs.Ranges as ranges
use Rattle.rp_native.specs.Sorted as sorting
use Rattle.rp_native.specs.Tables as tables
use Rattle.rp_native.specs.Walked as walking
use Rattle.rp_native.specs.Zips as zips
use Rattle.rp_native.specs.declared.extremes.Extreme.{Extreme}
use Rattle.rp_native.specs.declared.extremes.Extreme.TheVariants as extreme_of
use Rattle.rp_native.specs.declared.fault.Fault.{Fault}
use Rattle.rp_native.specs.declared.fault.Fault.TheVariants as fault
use Rattle.rp_native.specs.declared.ranges.Bounds.{Bounds}
use Rattle.rp_ops.specs.Keys.{index_number}
use Rattle.rp_ops.specs.Numbers.{fitted}
use Rattle.rp_ops.specs.Outcome as plain
use Rattle.rp_ops.specs.View.{sequence_of}
use Rattle.rp_ops.specs.Walk as walk
use Rattle.rp_ops.specs.Walk.{Cursor}
use Rattle.rp_ops.specs.declared.sequences.Sequence.{Sequence}
use Rattle.rp_ops.specs.declared.sequences.Sequence.TheVariants as sequence
use Rattle.rp_store.specs.Heap.{Owned}
use Rattle.rp_store.specs.Object as object
use Rattle.rp_keeper_laws.specs.PlainKeepers.{AllFit, PlainKeeper}
use Rattle.rp_keeper_laws.proofs.Plainly.{Does, Leaves, bind, charge, chosen, found, kept, maybe, step}
use Rattle.rp_keeper_laws.proofs.Operations.{elements, followed, new_dict, new_list, new_object, new_tuple, next_of}
use Rattle.rp_keeper_laws.proofs.Operations.{number_value, printed, show_leaves}

-- ---- copies

sequence_fits : (k : PlainKeeper) (kind : Sequence) (vs : List Value) → k.Fits (sequence_of kind vs)
sequence_fits k sequence.List vs = k.list vs
sequence_fits k sequence.Tuple vs = k.tuple vs

sequence_copy : {k : PlainKeeper} (side : Side) (kind : Sequence) (v : Value)
    → Does k (copies.sequence_copy side kind v)
sequence_copy {k} side kind v s h = bind (elements v s h)
    (λ vs s h. new_object side (sequence_of kind vs) (sequence_fits k kind vs) s h)

object_copy : {k : PlainKeeper} (side : Side) (lent : Bool) (at : Oid) → Does k (copies.object_copy side lent at)
object_copy side lent at s h = maybe (copies.entries_of s.store.heap at)
    (λ es. new_dict side (map (copies.entry_handed lent) es) s h) (kept h)

dict_copy : {k : PlainKeeper} (side : Side) (v : Value) → Does k (copies.dict_copy side v)
dict_copy side (value.Rock r) s h = kept h
dict_copy side (value.Ref at) s h = object_copy side false at s h
dict_copy side (value.Prox at) s h = object_copy side true at s h

-- ---- numbers

number_found : {k : PlainKeeper} (f : Fault) (z : Option ℤ) → Does k (numbers.number_found f z)
number_found f (Some z) s h = number_value (fitted z) s h
number_found f None s h = kept h

int : {k : PlainKeeper} (v : Value) → Does k (numbers.int v)
int (value.Rock (rock.Text t)) s h = number_found fault.Digits (numbers.spelled (encode_utf8_all t)) s h
int v s h = number_found fault.Argument (index_number v) s h

sum_of : {k : PlainKeeper} (vs : List Value) → Does k (walking.sum_of vs)
sum_of vs s h = chosen (walking.are_numbers vs)
    (number_value (walking.summed (pos 0) (filter_map index_number vs)) s h) (kept h)

sum : {k : PlainKeeper} (v : Value) → Does k (walking.sum v)
sum v s h = bind (elements v s h) (λ vs s h. sum_of vs s h)

-- ---- the least and the greatest, and sorted lists

foremost_chosen : {k : PlainKeeper} (which : Extreme) (vs : List Value) → Does k (extremes.chosen which vs)
foremost_chosen which [] s h = kept h
foremost_chosen which (v ∷ vs) s h = chosen (have_order (v ∷ vs)) (kept h) (kept h)

extreme : {k : PlainKeeper} (which : Extreme) (v : Value) → Does k (extremes.extreme which v)
extreme which v s h = bind (elements v s h) (λ vs s h. foremost_chosen which vs s h)

sorted_list : {k : PlainKeeper} (side : Side) (vs : List Value) → Does k (sorting.sorted_list side vs)
sorted_list side vs s h = chosen (have_order vs)
    (new_list side (sorting.in_order is_less vs) s h) (kept h)

sorted : {k : PlainKeeper} (side : Side) (v : Value) → Does k (sorting.sorted side v)
sorted side v s h = bind (elements v s h) (λ vs s h. sorted_list side vs s h)

-- ---- ranges, and lists of tuples

listed : {k : PlainKeeper} (side : Side) (b : Result Bounds Fault) → Does k (ranges.listed side b)
listed side (Ok b) s h = new_list side (ranges.numbers b) s h
listed side (Err f) s h = kept h

range : {k : PlainKeeper} (side : Side) (vs : List Value) → Does k (ranges.range side vs)
range side vs s h = listed side (ranges.bounds_of vs) s h

tuples_fit : (k : PlainKeeper) (side : Side) (rows : List (List Value))
    → AllFit k.Fits (map (tables.tuple_of side) rows)
tuples_fit k side [] = tt
tuples_fit k side (row ∷ rows) = (k.tuple row, tuples_fit k side rows)

makes_table : {k : PlainKeeper} (side : Side) (rows : List (List Value)) → Does k (tables.makes_table side rows)
makes_table {k} side rows s h =
    let tuples : List Owned = map (tables.tuple_of side) rows in
    kept (k.appended (s.store.heap ++ tuples) (record {
      owner = side;
      content = object.list (tables.references (length s.store.heap) (length rows));
    } ∷ []) (k.list _, tt) (k.appended s.store.heap tuples (tuples_fit k side rows) h))

table : {k : PlainKeeper} (side : Side) (rows : List (List Value)) → Does k (tables.table side rows)
table side rows s h = charge (tables.table_cells rows) s h (λ s h. makes_table side rows s h)

enumerate : {k : PlainKeeper} (side : Side) (v : Value) → Does k (tables.enumerate side v)
enumerate side v s h = bind (elements v s h) (λ vs s h. table side (tables.numbered 0 vs) s h)

next_found : {k : PlainKeeper} (e : Option (Value × Cursor)) → Does k (zips.found e)
next_found (Some e) s h = kept h
next_found None s h = kept h

with_steps : {A : Type 0} {k : PlainKeeper} (n : ℕ) (o : plain.Outcome A) → Leaves k o → Leaves k (zips.with_steps n o)
with_steps n o h = kept h.there

element : {k : PlainKeeper} (c : Cursor) → Does k (zips.element c)
element c s h =
    with_steps s.steps (plain.on_value (walk.next_of c (record s { steps = 1 })) zips.found)
    (bind (next_of c (record s { steps = 1 }) h) (λ e s h. next_found e s h))

row : {k : PlainKeeper} (cs : List Cursor) → Does k (zips.row cs)
row [] s h = kept h
row (c ∷ cs) s h = bind (element c s h) (λ e s h. bind (row cs s h) (λ r s h. kept h))

rows : {k : PlainKeeper} (n : ℕ) (cs : List Cursor) → Does k (zips.rows n cs)
rows zero cs s h = kept h
rows (suc n) cs s h =
    bind (step s h (λ s h. row cs s h)) (λ r s h. bind (rows n r.1 s h) (λ more s h. kept h))

zip : {k : PlainKeeper} (side : Side) (vs : List Value) → Does k (zips.zip side vs)
zip side vs s h = found (zips.walks s.store.heap vs) s h (λ cs s h.
    bind (rows (zips.shortest s.store.heap vs) cs s h) (λ rs s h. table side rs s h))

-- ---- functions

none_given : {k : PlainKeeper} (side : Side) (id : NativeId) → Does k (functions.none_given side id)
none_given side native.List s h = new_list side [] s h
none_given side native.Tuple s h = new_tuple side [] s h
none_given side native.Dict s h = new_dict side [] s h
none_given side native.Zip s h = zip side [] s h
none_given side id s h = kept h

one_given : {k : PlainKeeper} (names : List (List ℕ)) (side : Side) (id : NativeId) (v : Value)
    → Does k (functions.one_given names side id v)
one_given names side native.Len v s h = number_found fault.Length
    (option_map (λ n. pos n) (numbers.length_of s.store.heap v)) s h
one_given names side native.Bool v s h = kept h
one_given names side native.Str v s h = bind (show_leaves names v s h) (λ t s h. kept h)
one_given names side native.Int v s h = int v s h
one_given names side native.Abs v s h = number_found fault.Argument
    (option_map (λ z. pos (unsigned_abs z)) (index_number v)) s h
one_given names side native.Sum v s h = sum v s h
one_given names side native.Min v s h = extreme extreme_of.Least v s h
one_given names side native.Max v s h = extreme extreme_of.Greatest v s h
one_given names side native.List v s h = sequence_copy side sequence.List v s h
one_given names side native.Tuple v s h = sequence_copy side sequence.Tuple v s h
one_given names side native.Dict v s h = dict_copy side v s h
one_given names side native.Sorted v s h = sorted side v s h
one_given names side native.Range v s h = range side (v ∷ []) s h
one_given names side native.Enumerate v s h = enumerate side v s h
one_given names side native.Zip v s h = zip side (v ∷ []) s h
one_given names side native.RemoveSecurityProxy v s h = kept h
one_given names side id v s h = kept h

more_given : {k : PlainKeeper} (side : Side) (id : NativeId) (vs : List Value)
    → Does k (functions.more_given side id vs)
more_given side native.Min vs s h = foremost_chosen extreme_of.Least vs s h
more_given side native.Max vs s h = foremost_chosen extreme_of.Greatest vs s h
more_given side native.Range vs s h = range side vs s h
more_given side native.Zip vs s h = zip side vs s h
more_given side id vs s h = kept h

counted : {k : PlainKeeper} (names : List (List ℕ)) (side : Side) (id : NativeId) (vs : List Value)
    → Does k (functions.counted names side id vs)
counted names side id [] s h = none_given side id s h
counted names side id (v ∷ []) s h = one_given names side id v s h
counted names side id (v ∷ w ∷ vs) s h = more_given side id (v ∷ w ∷ vs) s h

pub function_leaves : {k : PlainKeeper} (names : List (List ℕ)) (side : Side) (id : NativeId) (vs : List Value)
    → Does k (functions.function names side id vs)
function_leaves names side id vs s h = chosen (not (is_function id)) (kept h)
    (chosen (not (function_takes id (length vs))) (kept h) (counted names side id vs s h))

-- ---- `print`

argument : {k : PlainKeeper} (names : List (List ℕ)) (v : Value) → Does k (lines.argument names v)
argument names (value.Rock (rock.Text t)) s h = printed t s h
argument names v s h = show_leaves names v s h

further : {k : PlainKeeper} (names : List (List ℕ)) (vs : List Value) → Does k (lines.further names vs)
further names [] s h = printed (codes "\n") s h
further names (v ∷ vs) s h =
    followed (followed (printed (codes " ") s h) (λ s h. argument names v s h)) (λ s h. further names vs s h)

pub print_line_leaves : {k : PlainKeeper} (names : List (List ℕ)) (vs : List Value) → Does k (lines.print_line names vs)
print_line_leaves names [] s h = printed (codes "\n") s h
print_line_leaves names (v ∷ vs) s h = followed (argument names v s h) (λ s h. further names vs s h)
