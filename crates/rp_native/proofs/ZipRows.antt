-- Walks that go on side by side: what one turn of each loop of `zip` gives.
use Rattle.std.proofs.Common.{◌≡◌, ℕ, suc, ◌+◌, ◌<◌, List, [], ◌∷◌, ◌++◌, append_assoc, length, get_or, take, drop, Result, Ok, Err, IsErrAnd, refl, sym, ap, subst, ◌∙◌, arith}
use Rattle.std.specs.declared.alloc.Global.{Global}
use Rattle.std.specs.declared.vec.Vec.{Vec}
use Rattle.std.proofs.Math.ListN.{set}
use Rattle.std.proofs.lemmas.List.{drop_more, take_more_set, drop-set-lt}
use Rattle.rp_base.specs.declared.value.OpEnd.{OpEnd}
use Rattle.rp_base.specs.declared.value.Raised.{Raised}
use Rattle.rp_base.specs.declared.value.Value.{Value}
use Rattle.rp_ops.specs.Outcome.{End, Meets, Outcome, State, gives, on_answer, on_value, stepped}
use Rattle.rp_ops.specs.Walk.{Cursor}
use Rattle.rp_native.specs.ZipView.{row_given, rows_given}
use Rattle.rp_native.specs.Zips.{element, on_ok, row, rows}
use Rattle.rp_ops.proofs.CallerLemmas.{meets-passes}

-- ---- walks

-- the walks that were made, and then those that are made
abbrev pub walks_behind : List Cursor → Result (List Cursor) Raised → Result (List Cursor) Raised
walks_behind cs r = on_ok r (λ more. Ok (cs ++ more))

-- ---- a row

abbrev pub Row : Type 0
Row = List Value × List Cursor

-- the elements that were taken and the walks behind them, and then those that are taken
abbrev pub row_behind : List Value → List Cursor → Outcome Row → Outcome Row
row_behind vs cs o = on_value o (λ r s. gives (vs ++ r.0, cs ++ r.1) s)

row-put : (vs : List Value) (cs : List Cursor) (v : Value) (c : Cursor) (a : Result Row End) (s : State)
    → row_behind vs cs (on_answer a s (λ r s. gives (v ∷ r.0, c ∷ r.1) s)) ≡ row_behind (vs ++ v ∷ []) (cs ++ c ∷ []) (record { answer = a; state = s })
row-put vs cs v c (Ok r) s =
    ap (λ (l : List Value). gives {A = Row} (l, cs ++ c ∷ r.1) s) (sym (append_assoc vs (v ∷ []) r.0))
    ∙ ap (λ (l : List Cursor). gives {A = Row} ((vs ++ v ∷ []) ++ r.0, l) s) (sym (append_assoc cs (c ∷ []) r.1))
row-put vs cs v c (Err e) s = refl

pub row-turn : (vs new : List Value) (ws : List Cursor) (i : ℕ) (w d : Cursor) (v : Value) (s t : State) → i < length ws → w ≡ get_or ws i w
    → element w s ≡ gives (v, d) t → new ≡ vs ++ v ∷ []
    → row_behind vs (take i ws) (row (drop i ws) s) ≡ row_behind new (take (i + 1) (set ws i d)) (row (drop (i + 1) (set ws i d)) t)
row-turn vs new ws i w d v s t within is h put =
    ap (λ (l : List Cursor). row_behind vs (take i ws) (row l s)) (drop_more ws i w within ∙ ap (λ (x : Cursor). x ∷ drop (i + 1) ws) (sym is))
    ∙ ap (λ (o : Outcome (Value × Cursor)). row_behind vs (take i ws) (on_value o (λ e s. on_value (row (drop (i + 1) ws) s) (λ r s. gives (e.0 ∷ r.0, e.1 ∷ r.1) s)))) h
    ∙ row-put vs (take i ws) v d (row (drop (i + 1) ws) t).answer (row (drop (i + 1) ws) t).state
    ∙ ap (λ (l : List Cursor). row_behind (vs ++ v ∷ []) l (row (drop (i + 1) ws) t)) (sym (take_more_set ws i d within))
    ∙ ap (λ (l : List Cursor). row_behind (vs ++ v ∷ []) (take (i + 1) (set ws i d)) (row l t)) (sym (drop-set-lt (i + 1) ws i d (omega arith)))
    ∙ ap (λ (l : List Value). row_behind l (take (i + 1) (set ws i d)) (row (drop (i + 1) (set ws i d)) t)) (sym put)

pub row-ends : (e : OpEnd) (vs : List Value) (ws : List Cursor) (i : ℕ) (w : Cursor) (s t : State) → i < length ws → w ≡ get_or ws i w
    → Meets {A = Value × Cursor} (Err e) t (element w s) → Meets {A = Row} (Err e) t (row_behind vs (take i ws) (row (drop i ws) s))
row-ends e vs ws i w s t within is h =
    subst (λ (l : List Cursor). Meets {A = Row} (Err e) t (row_behind vs (take i ws) (row l s)))
    (sym (drop_more ws i w within ∙ ap (λ (x : Cursor). x ∷ drop (i + 1) ws) (sym is)))
    (meets-passes e t (on_value (element w s) (λ e s. on_value (row (drop (i + 1) ws) s) (λ r s. gives (e.0 ∷ r.0, e.1 ∷ r.1) s))) (λ r s. gives (vs ++ r.0, take i ws ++ r.1) s)
    (meets-passes e t (element w s) (λ e s. on_value (row (drop (i + 1) ws) s) (λ r s. gives (e.0 ∷ r.0, e.1 ∷ r.1) s)) h))

pub row-fail : (r : Result (Vec Value Global) OpEnd) (f : OpEnd) (ds : List Cursor) (vs : List Value) (ws : List Cursor) (i : ℕ) (w : Cursor) (s t : State) (all : Outcome Row)
    → IsErrAnd r (λ e. e ≡ f) → all ≡ row_behind vs (take i ws) (row (drop i ws) s) → i < length ws → w ≡ get_or ws i w → Meets {A = Value × Cursor} (Err f) t (element w s)
    → Meets (row_given ds r) t all
row-fail (Ok v) f ds vs ws i w s t all is so_far within at h = absurd is
row-fail (Err g) f ds vs ws i w s t all is so_far within at h =
    subst (λ (g : OpEnd). Meets {A = Row} (Err g) t all) (sym is)
    (subst (λ (o : Outcome Row). Meets {A = Row} (Err f) t o) (sym so_far) (row-ends f vs ws i w s t within at h))

-- ---- rows

-- the rows that were made, and then those that are made
abbrev pub rows_behind : List (List Value) → Outcome (List (List Value)) → Outcome (List (List Value))
rows_behind done o = on_value o (λ more s. gives (done ++ more) s)

abbrev Rows : Type 0
Rows = List (List Value)

rows-put : (done : Rows) (r : List Value) (a : Result Rows End) (s : State)
    → rows_behind done (on_answer a s (λ more s. gives (r ∷ more) s)) ≡ rows_behind (done ++ r ∷ []) (record { answer = a; state = s })
rows-put done r (Ok more) s = ap (λ (l : Rows). gives l s) (sym (append_assoc done (r ∷ []) more))
rows-put done r (Err e) s = refl

pub rows-turn : (done new : List (List Value)) (r : List Value) (ws ds : List Cursor) (n m : ℕ) (s t : State) → n ≡ suc m
    → stepped s (row ws) ≡ gives (r, ds) t → new ≡ done ++ r ∷ []
    → rows_behind done (rows n ws s) ≡ rows_behind new (rows m ds t)
rows-turn done new r ws ds n m s t count h put =
    ap (λ (j : ℕ). rows_behind done (rows j ws s)) count
    ∙ ap (λ (o : Outcome Row). rows_behind done (on_value o (λ r s. on_value (rows m r.1 s) (λ more s. gives (r.0 ∷ more) s)))) h
    ∙ rows-put done r (rows m ds t).answer (rows m ds t).state ∙ ap (λ (l : List (List Value)). rows_behind l (rows m ds t)) (sym put)

pub rows-end : (e : OpEnd) (done : List (List Value)) (ws : List Cursor) (n m : ℕ) (s t : State) → n ≡ suc m
    → Meets {A = Row} (Err e) t (stepped s (row ws)) → Meets {A = List (List Value)} (Err e) t (rows_behind done (rows n ws s))
rows-end e done ws n m s t count h =
    subst (λ (j : ℕ). Meets {A = List (List Value)} (Err e) t (rows_behind done (rows j ws s))) (sym count)
    (meets-passes e t (on_value (stepped s (row ws)) (λ r s. on_value (rows m r.1 s) (λ more s. gives (r.0 ∷ more) s))) (λ more s. gives (done ++ more) s)
    (meets-passes e t (stepped s (row ws)) (λ r s. on_value (rows m r.1 s) (λ more s. gives (r.0 ∷ more) s)) h))

pub rows-fail : (r : Result (Vec (Vec Value Global) Global) OpEnd) (f : OpEnd) (done : List (List Value)) (ws : List Cursor) (n m : ℕ) (s t : State)
    (all : Outcome (List (List Value))) → IsErrAnd r (λ e. e ≡ f) → all ≡ rows_behind done (rows n ws s) → n ≡ suc m → Meets {A = Row} (Err f) t (stepped s (row ws))
    → Meets (rows_given r) t all
rows-fail (Ok v) f done ws n m s t all is so_far count h = absurd is
rows-fail (Err g) f done ws n m s t all is so_far count h =
    subst (λ (g : OpEnd). Meets {A = List (List Value)} (Err g) t all) (sym is)
    (subst (λ (o : Outcome (List (List Value))). Meets {A = List (List Value)} (Err f) t o) (sym so_far) (rows-end f done ws n m s t count h))
