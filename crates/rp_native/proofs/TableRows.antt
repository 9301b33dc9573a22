-- Rows, their cells, and the tuples that are made of them.
use Rattle.std.proofs.Common.{◌≡◌, ℕ, zero, suc, ◌+◌, ◌-◌, ◌*◌, ◌<◌, ◌≤◌, ◌^◌, min, List, [], ◌∷◌, ◌++◌, append_assoc, append-nil, length, map, Result, Ok, Err, IsErrAnd, pos, refl, sym, ap, subst, ◌∙◌, arith}
use Rattle.std.specs.declared.alloc.Global.{Global}
use Rattle.std.specs.declared.vec.Vec.{Vec}
use Rattle.std.specs.List.{All, sum_by}
use Rattle.std.proofs.Math.Nat.{mul-le-mul_left}
use Rattle.std.proofs.lemmas.List.{length-append, length-map, map-append}
use Rattle.std.proofs.lemmas.List.Elements.{All-append, All-cons, All-head, All-nil, All-tail}
use Rattle.std.proofs.lemmas.List.FromFn.{length-map-range_with_len, map-range_with_len_more}
use Rattle.std.proofs.lemmas.List.Sums.{sum_by-cons}
use Rattle.rp_base.specs.declared.value.OpEnd.{OpEnd}
use Rattle.rp_base.specs.declared.value.OpEnd.TheVariants as end
use Rattle.rp_base.specs.declared.value.Rock.TheVariants as rock
use Rattle.rp_base.specs.declared.value.Side.{Side}
use Rattle.rp_base.specs.declared.value.Value.{Value}
use Rattle.rp_base.specs.declared.value.Value.TheVariants as value
use Rattle.rp_store.specs.Heap.{Owned}
use Rattle.rp_store.specs.Kept.{AreSound, IsSound}
use Rattle.rp_store.specs.Object as object
use Rattle.rp_store.specs.Object.{Content}
use Rattle.rp_store.specs.Store.{Cells, IsOver, added}
use Rattle.rp_ops.specs.Growth.{Gains}
use Rattle.rp_ops.specs.Outcome.{Meets, ends, gives, no_cell, state_of}
use Rattle.rp_ops.proofs.CallerLemmas.{charged-over, charged-within, used}
use Rattle.rp_native.specs.Objects.{IsContainer, IsContainerOf}
use Rattle.rp_native.specs.Tables.{makes_table, numbered, references, table, table_cells, tuple_of, with_table, with_tuples}
use Rattle.rp_native.specs.TableView.{rows_of}

abbrev pub Row : Type 0
Row = Vec Value Global

-- ---- rows behind their numbers

numbered-push : (n m : ℕ) (vs : List Value) (v : Value) → m ≡ n + length vs → numbered n (vs ++ v ∷ []) ≡ numbered n vs ++ (value.Rock (rock.Int (pos m)) ∷ v ∷ []) ∷ []
numbered-push n m [] v e = let same : n ≡ m = omega arith in ap (λ (k : ℕ). (value.Rock (rock.Int (pos k)) ∷ v ∷ []) ∷ []) same
numbered-push n m (w ∷ ws) v e =
    ap (λ (rows : List (List Value)). (value.Rock (rock.Int (pos n)) ∷ w ∷ []) ∷ rows) (numbered-push (n + 1) m ws v (omega arith))

pub length-numbered : (n : ℕ) (vs : List Value) → length (numbered n vs) ≡ length vs
length-numbered n [] = refl
length-numbered n (v ∷ vs) = ap suc (length-numbered (n + 1) vs)

pub numbered-width : (n : ℕ) (vs : List Value) → All (λ row. length row ≡ 2) (numbered n vs)
numbered-width n [] = All-nil (λ (row : List Value). length row ≡ 2)
numbered-width n (v ∷ vs) = All-cons (λ (row : List Value). length row ≡ 2) (value.Rock (rock.Int (pos n)) ∷ v ∷ []) (numbered (n + 1) vs) refl (numbered-width (n + 1) vs)

pub pair-sound : (heap : List Owned) (n : ℕ) (v : Value) → IsSound heap v → AreSound heap (value.Rock (rock.Int (pos n)) ∷ v ∷ [])
pair-sound heap n v h =
    All-cons (IsSound heap) (value.Rock (rock.Int (pos n))) (v ∷ []) tt (All-cons (IsSound heap) v [] h (All-nil (IsSound heap)))

-- ---- cells

sum-width : (w : ℕ) (rows : List (List Value)) → All (λ row. length row ≡ w) rows → sum_by (λ row. 1 + length row) rows ≡ length rows * (1 + w)
sum-width w [] h = omega arith
sum-width w (row ∷ rows) h =
    let first : length row ≡ w = All-head (λ (r : List Value). length r ≡ w) row rows h in
    let rest = sum-width w rows (All-tail (λ (r : List Value). length r ≡ w) row rows h) in
    sum_by-cons (λ (r : List Value). 1 + length r) row rows ∙ ap (λ (n : ℕ). (1 + n) + sum_by (λ (r : List Value). 1 + length r) rows) first
    ∙ ap (λ (n : ℕ). (1 + w) + n) rest ∙ one_more (length rows) w
  where
    one_more : (n w : ℕ) → (1 + w) + n * (1 + w) ≡ suc n * (1 + w)
    one_more n w = omega arith

cells-width : (w : ℕ) (rows : List (List Value)) → All (λ row. length row ≡ w) rows → table_cells rows ≡ 1 + length rows * (w + 2)
cells-width w rows h = ap (λ (n : ℕ). (1 + length rows) + n) (sum-width w rows h) ∙ gathered (length rows) where
  gathered : (n : ℕ) → (1 + n) + n * (1 + w) ≡ 1 + n * (w + 2)
  gathered n = omega arith

held-exactly : (n w size : ℕ) → size ≡ min (w + 2) (2 ^ 64 - 1) → 1 + n * size < 2 ^ 64 → 1 + n * size ≡ 1 + n * (w + 2)
held-exactly zero w size e small = omega arith
held-exactly (suc n) w size e small =
    let fits : size + 1 < 2 ^ 64 = omega arith in
    let same : size ≡ w + 2 = omega arith in
    ap (λ (k : ℕ). 1 + suc n * k) same

-- the cells that are charged, where each row has so many elements
pub cells-exact : (rows : List (List Value)) (n w size : ℕ) → All (λ row. length row ≡ w) rows → n ≡ length rows → size ≡ min (w + 2) (2 ^ 64 - 1)
    → 1 + n * size < 2 ^ 64 → 1 + n * size ≡ table_cells rows
cells-exact rows n w size h count e small =
    held-exactly n w size e small ∙ ap (λ (k : ℕ). 1 + k * (w + 2)) count ∙ sym (cells-width w rows h)

pub cells-over : (rows : List (List Value)) (n w size : ℕ) (store : Cells) → All (λ row. length row ≡ w) rows → n ≡ length rows → size ≡ min (w + 2) (2 ^ 64 - 1)
    → IsOver store (1 + n * size) → IsOver store (table_cells rows)
cells-over rows n w size store h count e over =
    subst (λ (k : ℕ). IsOver store k) (ap (λ (k : ℕ). 1 + k * (w + 2)) count ∙ sym (cells-width w rows h)) (more (n * size) (n * (w + 2)) (mul-le-mul_left {m = size} {n = w + 2} n below) over) where
      below : size ≤ w + 2
      below = omega arith

      more : (a b : ℕ) → a ≤ b → IsOver store (1 + a) → IsOver store (1 + b)
      more a b le h = omega arith

-- ---- what making the table answers

pub table-stops : (side : Side) (rows : List (List Value)) (old new : Cells) (result : Result Value OpEnd) (f : OpEnd) (steps : ℕ)
    → IsErrAnd result (λ e. e ≡ f) → f ≡ end.StopCells → IsOver old (table_cells rows) → new ≡ old → Meets result (state_of new steps) (table side rows (state_of old steps))
table-stops side rows old new (Ok v) f steps is stop over same = absurd is
table-stops side rows old new (Err g) f steps is stop over same =
    subst (λ (g : OpEnd). Meets {A = Value} (Err g) (state_of new steps) (table side rows (state_of old steps))) (sym (is ∙ stop))
    (charged-over (table_cells rows) (state_of old steps) (makes_table side rows) over ∙ ap (λ (s : Cells). ends no_cell (state_of s steps)) (sym same))

pub table-given : (side : Side) (rows : List (List Value)) (old between new : Cells) (v : Value) (cells steps : ℕ) → cells ≡ table_cells rows → old.used + cells ≤ old.limit
    → between ≡ used old cells → new ≡ with_table side rows between → v ≡ value.Ref (record { 0 = length between.heap + length rows })
    → table side rows (state_of old steps) ≡ gives v (state_of new steps)
table-given side rows old between new v cells steps e within first second place =
    charged-within (table_cells rows) (state_of old steps) (makes_table side rows) (subst (λ (n : ℕ). old.used + n ≤ old.limit) e within)
    ∙ ap (λ (n : ℕ). gives (value.Ref (record { 0 = length old.heap + length rows })) (state_of (with_table side rows (used old n)) steps)) (sym e)
    ∙ ap (λ (s : Cells). gives (value.Ref (record { 0 = length s.heap + length rows })) (state_of (with_table side rows s) steps)) (sym first)
    ∙ ap (λ (s : Cells). gives (value.Ref (record { 0 = length between.heap + length rows })) (state_of s steps)) (sym second)
    ∙ ap (λ (w : Value). gives w (state_of new steps)) (sym place)

-- ---- the tuples

tuples-put : (side : Side) (old now new : Cells) (rows : List (List Value)) (row : List Value) → now ≡ with_tuples side rows old
    → new ≡ added now side (object.tuple row) → new ≡ with_tuples side (rows ++ row ∷ []) old
tuples-put side old now new rows row so_far last =
    last ∙ ap (λ (s : Cells). added s side (object.tuple row)) so_far
    ∙ ap (λ (heap : List Owned). record old { heap = heap })
    (append_assoc old.heap (map (tuple_of side) rows) (tuple_of side row ∷ [])
    ∙ ap (λ (l : List Owned). old.heap ++ l) (sym (map-append (tuple_of side) rows (row ∷ []))))

pub tuples-more : (side : Side) (old now new : Cells) (ys : List Row) (row : Row) → now ≡ with_tuples side (rows_of ys) old → new ≡ added now side (object.tuple row.items)
    → new ≡ with_tuples side (rows_of (ys ++ row ∷ [])) old
tuples-more side old now new ys row so_far last =
    tuples-put side old now new (rows_of ys) row.items so_far last
    ∙ ap (λ (rows : List (List Value)). with_tuples side rows old) (sym (map-append (λ (r : Row). r.items) ys (row ∷ [])))

-- one more value behind its index
pub pairs-more : (side : Side) (old now new : Cells) (vs : List Value) (v : Value) (n : ℕ) (row : List Value) → now ≡ with_tuples side (numbered 0 vs) old
    → n ≡ length vs → row ≡ value.Rock (rock.Int (pos n)) ∷ v ∷ [] → new ≡ added now side (object.tuple row) → new ≡ with_tuples side (numbered 0 (vs ++ v ∷ [])) old
pairs-more side old now new vs v n row so_far count is last =
    tuples-put side old now new (numbered 0 vs) row so_far last
    ∙ ap (λ (rows : List (List Value)). with_tuples side rows old)
    (ap (λ (r : List Value). numbered 0 vs ++ r ∷ []) is ∙ sym (numbered-push 0 n vs v (omega arith)))

-- the place of the next tuple
place-behind : (side : Side) (old now : Cells) (rows : List (List Value)) (at : ℕ) → now ≡ with_tuples side rows old → at ≡ length now.heap
    → at ≡ length old.heap + length rows
place-behind side old now rows at so_far e =
    e ∙ ap (λ (s : Cells). length s.heap) so_far ∙ length-append old.heap (map (tuple_of side) rows)
    ∙ ap (λ (n : ℕ). length old.heap + n) (length-map rows (tuple_of side))

pub next-place : (side : Side) (old now : Cells) (ys : List Row) (at : ℕ) → now ≡ with_tuples side (rows_of ys) old → at ≡ length now.heap → at ≡ length old.heap + length ys
next-place side old now ys at so_far e =
    place-behind side old now (rows_of ys) at so_far e ∙ ap (λ (n : ℕ). length old.heap + n) (length-map ys (λ (r : Row). r.items))

pub pair-place : (side : Side) (old now : Cells) (vs : List Value) (at : ℕ) → now ≡ with_tuples side (numbered 0 vs) old → at ≡ length now.heap
    → at ≡ length old.heap + length vs
pair-place side old now vs at so_far e =
    place-behind side old now (numbered 0 vs) at so_far e ∙ ap (λ (n : ℕ). length old.heap + n) (length-numbered 0 vs)

pub references-more : {A : Type 0} (items new : List Value) (from at : ℕ) (ys : List A) (y : A) → items ≡ references from (length ys)
    → at ≡ from + length ys → new ≡ items ++ value.Ref (record { 0 = at }) ∷ [] → new ≡ references from (length (ys ++ y ∷ []))
references-more items new from at ys y so_far e push =
    let count : length (ys ++ y ∷ []) ≡ length ys + 1 = length-append ys (y ∷ []) in
    push ∙ ap (λ (l : List Value). l ++ value.Ref (record { 0 = at }) ∷ []) so_far
    ∙ sym (map-range_with_len_more (λ (i : ℕ). value.Ref (record { 0 = i })) from (length ys) at (sym e)) ∙ ap (references from) (sym count)

-- how many references there are
pub references-count : (items : List Value) (from count n : ℕ) → items ≡ references from count → n ≡ length items → n ≡ count
references-count items from count n e long =
    long ∙ ap length e ∙ length-map-range_with_len (λ (i : ℕ). value.Ref (record { 0 = i })) from count

-- ---- what is gained

tuples-owned : (side : Side) (rows : List (List Value)) → All (IsContainerOf side) (map (tuple_of side) rows)
tuples-owned side [] = All-nil (IsContainerOf side)
tuples-owned side (row ∷ rows) = All-cons (IsContainerOf side) (tuple_of side row) (map (tuple_of side) rows) (refl, tt) (tuples-owned side rows)

pub Gains-tuples : (side : Side) (rows : List (List Value)) (old new : Cells) → new ≡ with_tuples side rows old → Gains (IsContainerOf side) old.heap new.heap
Gains-tuples side rows old new e = (map (tuple_of side) rows, (ap (λ (s : Cells). s.heap) e, tuples-owned side rows))

pub Gains-added : (side : Side) (c : Content) (old now new : Cells) → IsContainer c → Gains (IsContainerOf side) old.heap now.heap → new ≡ added now side c
    → Gains (IsContainerOf side) old.heap new.heap
Gains-added side c old now new is gains e =
    let o : Owned = record { owner = side; content = c } in (
      gains.0 ++ o ∷ [],
      (
        ap (λ (s : Cells). s.heap) e ∙ ap (λ (heap : List Owned). heap ++ o ∷ []) gains.1.0 ∙ append_assoc old.heap gains.0 (o ∷ []),
        All-append (IsContainerOf side) gains.0 (o ∷ []) gains.1.1 (All-cons (IsContainerOf side) o [] (refl, is) (All-nil (IsContainerOf side))),
      ),
    )

-- ---- loops over the rows of a vector

pub nothing-left : {X : Type 0} (l : List X) (n : ℕ) → n ≡ length l → n ≡ 0 → l ≡ []
nothing-left [] n h e = refl
nothing-left (x ∷ xs) n h e = absurd (omega arith)

-- all are yielded
pub all-yielded : {X : Type 0} (before rest all : List X) → rest ≡ [] → before ++ rest ≡ all → before ≡ all
all-yielded before rest all e h = sym (append-nil before) ∙ ap (λ l. before ++ l) (sym e) ∙ h

-- one more is yielded
pub one-yielded : {X : Type 0} (before rest left all : List X) (x : X) → rest ≡ x ∷ left → before ++ rest ≡ all → (before ++ x ∷ []) ++ left ≡ all
one-yielded before rest left all x e h = append_assoc before (x ∷ []) left ∙ ap (λ l. before ++ l) (sym e) ∙ h
