-- A node whose parts have been numbered one after the other has been numbered.
use Rattle.std.proofs.Common.{◌≡◌, ℕ, List, ◌∷◌, ◌++◌, map, Option, option_map, Vec, Global, Box, ap, sym, ◌∙◌, length, arith, rules}
use Rattle.rp_tree.specs.declared.parts.Block.{Block}
use Rattle.rp_tree.specs.declared.parts.Guard.{Guard}
use Rattle.rp_tree.specs.declared.expr.Arg.{Arg}
use Rattle.rp_tree.specs.declared.expr.Clause.{Clause, out-roll-Clause}
use Rattle.rp_tree.specs.declared.expr.Expr.{Expr}
use Rattle.rp_tree.specs.declared.expr.Params.{Params}
use Rattle.rp_tree.specs.declared.expr.Slice.{Slice, out-roll-Slice}
use Rattle.rp_tree.specs.declared.expr.Trailer.{Trailer}
use Rattle.rp_tree.specs.declared.expr.Walk.{Walk}
use Rattle.rp_tree.specs.declared.expr.ExprForm.TheVariants as form
use Rattle.rp_tree.specs.declared.expr.Place.TheVariants as place
use Rattle.rp_tree.specs.declared.expr.Trailer.TheVariants as trailer
use Rattle.rp_tree.specs.declared.expr.ExprForm.{ExprForm}
use Rattle.rp_tree.specs.declared.expr.Place.{Place}
use Rattle.rp_tree.specs.declared.expr.Target.{Target}
use Rattle.rp_tree.specs.declared.expr.Arg.TheFolds.{the_lemmas}
use Rattle.rp_tree.specs.declared.expr.Arg.TheOpen as open_arg
use Rattle.rp_tree.specs.declared.expr.Arg.TheViews.{roll-Clause, roll-Slice, roll-Params, out-Params, out-Clause, out-Slice}
use Rattle.std.specs.Vec.{with_items}
use Rattle.std.proofs.lemmas.List.{with_items_is}
use Rattle.rp_tree.specs.Expressions as tree
use Rattle.rp_tree.specs.ExpressionViews as views
use Rattle.rp_tree.specs.Maps as maps
use Rattle.rp_tree.specs.Maps.{no_blocks}
use Rattle.rp_tree.proofs.ExpressionEquations.{form_lambda, trailer_slice, place_item, params_out, params_roll, clause_out, clause_roll, slice_out, slice_roll}
use Rattle.rp_scope.specs.Numbers as numbering
use Rattle.rp_scope.specs.NumberSteps.{after, past, renumbered, slice_numbers}
use Rattle.rp_scope.proofs.Runs.{past-append, renumbered-append}

-- two runs of numbers, the one behind the other, and a run behind the number of a block

pub run_pair : (xs ys zs ws : List ℕ) (first between : ℕ) → zs ≡ renumbered first xs → between ≡ past xs first → ws ≡ renumbered between ys → zs ++ ws ≡ renumbered first (xs ++ ys)
run_pair xs ys zs ws first between p q r =
    ap (λ us. us ++ ws) p ∙ (ap (λ us. renumbered first xs ++ us) (r ∙ ap (λ k. renumbered k ys) q) ∙ sym (renumbered-append first xs ys))

pub past_pair : (xs ys : List ℕ) (first between next : ℕ) → between ≡ past xs first → next ≡ past ys between → next ≡ past (xs ++ ys) first
past_pair xs ys first between next p q = q ∙ (ap (past ys) p ∙ sym (past-append xs ys first))

pub run_block : (x : ℕ) (xs zs : List ℕ) (first between : ℕ) → between ≡ after first → zs ≡ renumbered between xs → first ∷ zs ≡ renumbered first (x ∷ xs)
run_block x xs zs first between p q = ap (λ us. first ∷ us) (q ∙ ap (λ k. renumbered k xs) p)

pub past_block : (x : ℕ) (xs : List ℕ) (first between next : ℕ) → between ≡ after first → next ≡ past xs between → next ≡ past (x ∷ xs) first
past_block x xs first between next p q = q ∙ ap (past xs) p

-- what holds of trees holds of what stands for them

pub kept_as : {A B : Type 0} (shape : A → B) {x y a b : A} → x ≡ a → y ≡ b → shape b ≡ shape a → shape y ≡ shape x
kept_as shape p q h = ap shape q ∙ (h ∙ sym (ap shape p))

pub numbers_as : {A : Type 0} (numbers : A → List ℕ) (first : ℕ) {x y a b : A} → x ≡ a → y ≡ b → numbers b ≡ renumbered first (numbers a) → numbers y ≡ renumbered first (numbers x)
numbers_as numbers first p q h = ap numbers q ∙ (h ∙ sym (ap (λ z. renumbered first (numbers z)) p))

pub next_as : {A : Type 0} (numbers : A → List ℕ) (first next : ℕ) {x a : A} → x ≡ a → next ≡ past (numbers a) first → next ≡ past (numbers x) first
next_as numbers first next p h = h ∙ sym (ap (λ z. past (numbers z) first) p)

-- structs

pub params_kept : (x : Params) (z : open_arg.Params-F Arg ExprForm Place Target Trailer Clause Expr Params Slice Walk) → maps.map_plain no_blocks (views.plain_of (map views.view_plain z.plain.items)) ≡ maps.map_plain no_blocks (views.plain_of (map views.view_plain (out-Params x).plain.items)) → z.list ≡ (out-Params x).list → z.dict ≡ (out-Params x).dict → maps.map_params no_blocks (views.view_params (roll-Params z)) ≡ maps.map_params no_blocks (views.view_params x)
params_kept x z p q r =
    kept_as (maps.map_params no_blocks) (params_out x) (params_roll z) (λ i. tree.params (p i) (option_map (maps.map_named no_blocks) (q i)) (option_map (maps.map_named no_blocks) (r i)))

pub params_numbers : (x : Params) (z : open_arg.Params-F Arg ExprForm Place Target Trailer Clause Expr Params Slice Walk) (first : ℕ) → numbering.plain_numbers (views.plain_of (map views.view_plain z.plain.items)) ≡ renumbered first (numbering.plain_numbers (views.plain_of (map views.view_plain (out-Params x).plain.items))) → numbering.params_numbers (views.view_params (roll-Params z)) ≡ renumbered first (numbering.params_numbers (views.view_params x))
params_numbers x z first p = numbers_as numbering.params_numbers first (params_out x) (params_roll z) p

-- a vector whose elements have been changed in place

items_filled : {A : Type 0} (w : Vec A Global) (old ws : List A) → old ≡ w.items → length ws ≡ length old → (with_items w ws).items ≡ ws
items_filled w old ws read kept =
    let long : length old ≡ length w.items = ap length read in
    with_items_is w ws (omega (arith, kept, long, w.ok.0))

pub filled_kept : {A B C : Type 0} (f : List A → B) (shape : B → C) (w b : Vec A Global) (old ws : List A) → w ≡ b → old ≡ w.items → length ws ≡ length old → shape (f ws) ≡ shape (f old) → shape (f (with_items w ws).items) ≡ shape (f b.items)
filled_kept f shape w b old ws same read kept h =
    ap (λ xs. shape (f xs)) (items_filled w old ws read kept) ∙ (h ∙ ap (λ xs. shape (f xs)) (read ∙ ap (λ x. x.items) same))

pub filled_numbers : {A B : Type 0} (f : List A → B) (numbers : B → List ℕ) (first : ℕ) (w b : Vec A Global) (old ws : List A) → w ≡ b → old ≡ w.items → length ws ≡ length old → numbers (f ws) ≡ renumbered first (numbers (f old)) → numbers (f (with_items w ws).items) ≡ renumbered first (numbers (f b.items))
filled_numbers f numbers first w b old ws same read kept h =
    ap (λ xs. numbers (f xs)) (items_filled w old ws read kept) ∙ (h ∙ ap (λ xs. renumbered first (numbers (f xs))) (read ∙ ap (λ x. x.items) same))

-- variants

pub lambda_kept : (x : ExprForm) (j k : Block) (p q : Box Params Global) (e f : Expr) → x ≡ form.Lambda j p e → maps.map_params no_blocks (views.view_params q.value) ≡ maps.map_params no_blocks (views.view_params p.value) → maps.map_expr no_blocks (views.view_expr f) ≡ maps.map_expr no_blocks (views.view_expr e) → maps.map_form no_blocks (views.view_form (form.Lambda k q f)) ≡ maps.map_form no_blocks (views.view_form x)
lambda_kept x j k p q e f is params body =
    kept_as (maps.map_form no_blocks) (ap views.view_form is ∙ form_lambda j p e) (form_lambda k q f) (λ i. tree.lambda 0 (params i) (body i))

pub lambda_numbers : (x : ExprForm) (j k : Block) (p q : Box Params Global) (e f : Expr) (first m0 m1 : ℕ) → x ≡ form.Lambda j p e → k.0 ≡ first → m0 ≡ after first → numbering.params_numbers (views.view_params q.value) ≡ renumbered m0 (numbering.params_numbers (views.view_params p.value)) → m1 ≡ past (numbering.params_numbers (views.view_params p.value)) m0 → numbering.expr_numbers (views.view_expr f) ≡ renumbered m1 (numbering.expr_numbers (views.view_expr e)) → numbering.form_numbers (views.view_form (form.Lambda k q f)) ≡ renumbered first (numbering.form_numbers (views.view_form x))
lambda_numbers x j k p q e f first m0 m1 is number begins params passed body =
    numbers_as numbering.form_numbers first (ap views.view_form is ∙ form_lambda j p e) (form_lambda k q f) (ap (λ z. z ∷ (numbering.params_numbers (views.view_params q.value) ++ numbering.expr_numbers (views.view_expr f))) number ∙ run_block j.0 (numbering.params_numbers (views.view_params p.value) ++ numbering.expr_numbers (views.view_expr e)) (numbering.params_numbers (views.view_params q.value) ++ numbering.expr_numbers (views.view_expr f)) first m0 begins (run_pair (numbering.params_numbers (views.view_params p.value)) (numbering.expr_numbers (views.view_expr e)) (numbering.params_numbers (views.view_params q.value)) (numbering.expr_numbers (views.view_expr f)) m0 m1 params passed body))

pub clause_numbers : (x : Clause) (z : open_arg.Clause-F Arg ExprForm Place Target Trailer Clause Expr Params Slice Walk) (first between : ℕ) → numbering.walk_numbers (views.view_walk z.walk) ≡ renumbered first (numbering.walk_numbers (views.view_walk (out-Clause x).walk)) → between ≡ past (numbering.walk_numbers (views.view_walk (out-Clause x).walk)) first → numbering.exprs_numbers (views.exprs_of (map views.view_expr z.tests.items)) ≡ renumbered between (numbering.exprs_numbers (views.exprs_of (map views.view_expr (out-Clause x).tests.items))) → numbering.clause_numbers (views.view_clause (roll-Clause z)) ≡ renumbered first (numbering.clause_numbers (views.view_clause x))
clause_numbers x z first between p q r =
    numbers_as numbering.clause_numbers first (clause_out x) (clause_roll z) (run_pair (numbering.walk_numbers (views.view_walk (out-Clause x).walk)) (numbering.exprs_numbers (views.exprs_of (map views.view_expr (out-Clause x).tests.items))) (numbering.walk_numbers (views.view_walk z.walk)) (numbering.exprs_numbers (views.exprs_of (map views.view_expr z.tests.items))) first between p q r)

pub clause_next : (x : Clause) (first between next : ℕ) → between ≡ past (numbering.walk_numbers (views.view_walk (out-Clause x).walk)) first → next ≡ past (numbering.exprs_numbers (views.exprs_of (map views.view_expr (out-Clause x).tests.items))) between → next ≡ past (numbering.clause_numbers (views.view_clause x)) first
clause_next x first between next p q =
    next_as numbering.clause_numbers first next (clause_out x) (past_pair (numbering.walk_numbers (views.view_walk (out-Clause x).walk)) (numbering.exprs_numbers (views.exprs_of (map views.view_expr (out-Clause x).tests.items))) first between next p q)

abbrev pub part_numbers : Option Expr → List ℕ
part_numbers x = numbering.maybe_numbers (views.maybe_of (option_map views.view_expr x))

pub slice_runs : (x : Slice) (z : open_arg.Slice-F Arg ExprForm Place Target Trailer Clause Expr Params Slice Walk) (first middle last : ℕ) → part_numbers z.from ≡ renumbered first (part_numbers (out-Slice x).from) → middle ≡ past (part_numbers (out-Slice x).from) first → part_numbers z.to ≡ renumbered middle (part_numbers (out-Slice x).to) → last ≡ past (part_numbers (out-Slice x).to) middle → part_numbers z.step ≡ renumbered last (part_numbers (out-Slice x).step) → slice_numbers (views.view_slice (roll-Slice z)) ≡ renumbered first (slice_numbers (views.view_slice x))
slice_runs x z first middle last p q r u w =
    numbers_as slice_numbers first (slice_out x) (slice_roll z) (run_pair (part_numbers (out-Slice x).from ++ part_numbers (out-Slice x).to) (part_numbers (out-Slice x).step) (part_numbers z.from ++ part_numbers z.to) (part_numbers z.step) first last (run_pair (part_numbers (out-Slice x).from) (part_numbers (out-Slice x).to) (part_numbers z.from) (part_numbers z.to) first middle p q r) (past_pair (part_numbers (out-Slice x).from) (part_numbers (out-Slice x).to) first middle last q u) w)

pub slice_next : (x : Slice) (first middle last next : ℕ) → middle ≡ past (part_numbers (out-Slice x).from) first → last ≡ past (part_numbers (out-Slice x).to) middle → next ≡ past (part_numbers (out-Slice x).step) last → next ≡ past (slice_numbers (views.view_slice x)) first
slice_next x first middle last next q u w =
    next_as slice_numbers first next (slice_out x) (past_pair (part_numbers (out-Slice x).from ++ part_numbers (out-Slice x).to) (part_numbers (out-Slice x).step) first last next (past_pair (part_numbers (out-Slice x).from) (part_numbers (out-Slice x).to) first middle last q u) w)

pub item_numbers : (x : Place) (a b c d : Expr) (g h : Option Guard) (first between : ℕ) → x ≡ place.Item a b g → numbering.expr_numbers (views.view_expr c) ≡ renumbered first (numbering.expr_numbers (views.view_expr a)) → between ≡ past (numbering.expr_numbers (views.view_expr a)) first → numbering.expr_numbers (views.view_expr d) ≡ renumbered between (numbering.expr_numbers (views.view_expr b)) → numbering.place_numbers (views.view_place (place.Item c d h)) ≡ renumbered first (numbering.place_numbers (views.view_place x))
item_numbers x a b c d g h first between is p q r =
    numbers_as numbering.place_numbers first (ap views.view_place is ∙ place_item a b g) (place_item c d h) (run_pair (numbering.expr_numbers (views.view_expr a)) (numbering.expr_numbers (views.view_expr b)) (numbering.expr_numbers (views.view_expr c)) (numbering.expr_numbers (views.view_expr d)) first between p q r)

pub item_next : (x : Place) (a b : Expr) (g : Option Guard) (first between next : ℕ) → x ≡ place.Item a b g → between ≡ past (numbering.expr_numbers (views.view_expr a)) first → next ≡ past (numbering.expr_numbers (views.view_expr b)) between → next ≡ past (numbering.place_numbers (views.view_place x)) first
item_next x a b g first between next is p q =
    next_as numbering.place_numbers first next (ap views.view_place is ∙ place_item a b g) (past_pair (numbering.expr_numbers (views.view_expr a)) (numbering.expr_numbers (views.view_expr b)) first between next p q)

pub slice_numbered : (x : Trailer) (p q : Box Slice Global) (g h : Option Guard) (first : ℕ) → x ≡ trailer.Slice p g → slice_numbers (views.view_slice q.value) ≡ renumbered first (slice_numbers (views.view_slice p.value)) → numbering.trailer_numbers (views.view_trailer (trailer.Slice q h)) ≡ renumbered first (numbering.trailer_numbers (views.view_trailer x))
slice_numbered x p q g h first is same =
    numbers_as numbering.trailer_numbers first (ap views.view_trailer is ∙ trailer_slice p g) (trailer_slice q h) same

pub slice_kept : (x : Trailer) (p q : Box Slice Global) (g h : Option Guard) → x ≡ trailer.Slice p g → h ≡ g → maps.map_maybe no_blocks (views.view_slice q.value).0 ≡ maps.map_maybe no_blocks (views.view_slice p.value).0 → maps.map_maybe no_blocks (views.view_slice q.value).1 ≡ maps.map_maybe no_blocks (views.view_slice p.value).1 → maps.map_maybe no_blocks (views.view_slice q.value).2 ≡ maps.map_maybe no_blocks (views.view_slice p.value).2 → maps.map_trailer no_blocks (views.view_trailer (trailer.Slice q h)) ≡ maps.map_trailer no_blocks (views.view_trailer x)
slice_kept x p q g h is same from to step =
    kept_as (maps.map_trailer no_blocks) (ap views.view_trailer is ∙ trailer_slice p g) (trailer_slice q h) (λ i. tree.slice (from i) (to i) (step i) (same i))

-- structs whose parts are changed in place, one after the other: y is the struct after the first change, and z after the second

abbrev ClauseParts : Type 0
ClauseParts = open_arg.Clause-F Arg ExprForm Place Target Trailer Clause Expr Params Slice Walk

abbrev SliceParts : Type 0
SliceParts = open_arg.Slice-F Arg ExprForm Place Target Trailer Clause Expr Params Slice Walk

clause_changed : (x : Clause) (y made : ClauseParts) (first between : ℕ) (old ws : List Expr) → y ≡ made → made.tests ≡ (out-Clause x).tests → numbering.walk_numbers (views.view_walk made.walk) ≡ renumbered first (numbering.walk_numbers (views.view_walk (out-Clause x).walk)) → between ≡ past (numbering.walk_numbers (views.view_walk (out-Clause x).walk)) first → old ≡ y.tests.items → length ws ≡ length old → numbering.exprs_numbers (views.exprs_of (map views.view_expr ws)) ≡ renumbered between (numbering.exprs_numbers (views.exprs_of (map views.view_expr old))) → numbering.clause_numbers (views.view_clause (roll-Clause (record { walk = y.walk; tests = with_items y.tests ws }))) ≡ renumbered first (numbering.clause_numbers (views.view_clause x))
clause_changed x y made first between old ws is same walk begins read long tests =
    clause_numbers x (record { walk = y.walk; tests = with_items y.tests ws }) first between (ap (λ (u : ClauseParts). numbering.walk_numbers (views.view_walk u.walk)) is ∙ walk) begins (filled_numbers (λ xs. views.exprs_of (map views.view_expr xs)) numbering.exprs_numbers between y.tests (out-Clause x).tests old ws (ap (λ (u : ClauseParts). u.tests) is ∙ same) read long tests)

pub clause_numbered : (x : Clause) (made : ClauseParts) (first between : ℕ) (old ws : List Expr) → made.tests ≡ (out-Clause x).tests → numbering.walk_numbers (views.view_walk made.walk) ≡ renumbered first (numbering.walk_numbers (views.view_walk (out-Clause x).walk)) → between ≡ past (numbering.walk_numbers (views.view_walk (out-Clause x).walk)) first → old ≡ (out-Clause (roll-Clause made)).tests.items → length ws ≡ length old → numbering.exprs_numbers (views.exprs_of (map views.view_expr ws)) ≡ renumbered between (numbering.exprs_numbers (views.exprs_of (map views.view_expr old))) → numbering.clause_numbers (views.view_clause (roll-Clause (record { walk = (out-Clause (roll-Clause made)).walk; tests = with_items (out-Clause (roll-Clause made)).tests ws }))) ≡ renumbered first (numbering.clause_numbers (views.view_clause x))
clause_numbered x made first between old ws same walk begins read long tests =
    clause_changed x (out-Clause (roll-Clause made)) made first between old ws (out-roll-Clause made) same walk begins read long tests

slice_changed : (x : Slice) (y z : SliceParts) (a b d : Option Expr) (first middle last : ℕ) → y ≡ record { from = a; to = (out-Slice x).to; step = (out-Slice x).step } → z ≡ record { from = y.from; to = b; step = y.step } → part_numbers a ≡ renumbered first (part_numbers (out-Slice x).from) → middle ≡ past (part_numbers (out-Slice x).from) first → part_numbers b ≡ renumbered middle (part_numbers y.to) → last ≡ past (part_numbers y.to) middle → part_numbers d ≡ renumbered last (part_numbers z.step) → slice_numbers (views.view_slice (roll-Slice (record { from = z.from; to = z.to; step = d }))) ≡ renumbered first (slice_numbers (views.view_slice x))
slice_changed x y z a b d first middle last is js from begins to goes step =
    slice_runs x (record { from = z.from; to = z.to; step = d }) first middle last (ap part_numbers (ap (λ (u : SliceParts). u.from) js ∙ ap (λ (u : SliceParts). u.from) is) ∙ from) begins (ap (λ (u : SliceParts). part_numbers u.to) js ∙ (to ∙ ap (λ (u : SliceParts). renumbered middle (part_numbers u.to)) is)) (goes ∙ ap (λ (u : SliceParts). past (part_numbers u.to) middle) is) (step ∙ ap (λ k. renumbered last (part_numbers k)) (ap (λ (u : SliceParts). u.step) js ∙ ap (λ (u : SliceParts). u.step) is))

slice_passed : (x : Slice) (y z : SliceParts) (a b : Option Expr) (first middle last next : ℕ) → y ≡ record { from = a; to = (out-Slice x).to; step = (out-Slice x).step } → z ≡ record { from = y.from; to = b; step = y.step } → middle ≡ past (part_numbers (out-Slice x).from) first → last ≡ past (part_numbers y.to) middle → next ≡ past (part_numbers z.step) last → next ≡ past (slice_numbers (views.view_slice x)) first
slice_passed x y z a b first middle last next is js begins goes ends =
    slice_next x first middle last next begins (goes ∙ ap (λ (u : SliceParts). past (part_numbers u.to) middle) is) (ends ∙ ap (λ k. past (part_numbers k) last) (ap (λ (u : SliceParts). u.step) js ∙ ap (λ (u : SliceParts). u.step) is))

-- the parts of a slice after the first change, and after the second

abbrev pub slice_once : Slice → Option Expr → SliceParts
slice_once x a = record { from = a; to = (out-Slice x).to; step = (out-Slice x).step }

abbrev pub slice_twice : Slice → Option Expr → Option Expr → SliceParts
slice_twice x a b = record { from = (out-Slice (roll-Slice (slice_once x a))).from; to = b; step = (out-Slice (roll-Slice (slice_once x a))).step }

pub slice_numbers_set : (x : Slice) (a b d : Option Expr) (first middle last : ℕ) → part_numbers a ≡ renumbered first (part_numbers (out-Slice x).from) → middle ≡ past (part_numbers (out-Slice x).from) first → part_numbers b ≡ renumbered middle (part_numbers (out-Slice (roll-Slice (slice_once x a))).to) → last ≡ past (part_numbers (out-Slice (roll-Slice (slice_once x a))).to) middle → part_numbers d ≡ renumbered last (part_numbers (out-Slice (roll-Slice (slice_twice x a b))).step) → slice_numbers (views.view_slice (roll-Slice (record { from = (out-Slice (roll-Slice (slice_twice x a b))).from; to = (out-Slice (roll-Slice (slice_twice x a b))).to; step = d }))) ≡ renumbered first (slice_numbers (views.view_slice x))
slice_numbers_set x a b d first middle last from begins to goes step =
    slice_changed x (out-Slice (roll-Slice (slice_once x a))) (out-Slice (roll-Slice (slice_twice x a b))) a b d first middle last (out-roll-Slice (slice_once x a)) (out-roll-Slice (slice_twice x a b)) from begins to goes step

pub slice_passed_by : (x : Slice) (a b : Option Expr) (first middle last next : ℕ) → middle ≡ past (part_numbers (out-Slice x).from) first → last ≡ past (part_numbers (out-Slice (roll-Slice (slice_once x a))).to) middle → next ≡ past (part_numbers (out-Slice (roll-Slice (slice_twice x a b))).step) last → next ≡ past (slice_numbers (views.view_slice x)) first
slice_passed_by x a b first middle last next begins goes ends =
    slice_passed x (out-Slice (roll-Slice (slice_once x a))) (out-Slice (roll-Slice (slice_twice x a b))) a b first middle last next (out-roll-Slice (slice_once x a)) (out-roll-Slice (slice_twice x a b)) begins goes ends

-- a struct that has been made anew has the parts that it was made of

pub out_tests : (z : open_arg.Clause-F Arg ExprForm Place Target Trailer Clause Expr Params Slice Walk) → (out-Clause (roll-Clause z)).tests.items ≡ z.tests.items
out_tests z = search (rules, the_lemmas)

pub items_alike : {A : Type 0} (w b : Vec A Global) → w ≡ b → w.items ≡ b.items
items_alike {A = A} w b e = ap (λ (x : Vec A Global). x.items) e
