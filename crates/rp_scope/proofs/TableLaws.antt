-- The table of scopes says the same as the list of blocks around each block.
use Rattle.std.proofs.Common.{◌≡◌, ℕ, zero, suc, ◌+◌, ◌<◌, ◌≤◌, inl, inr, Bool, true, false, cond, nat_eq, List, [], ◌∷◌, map, length, slice_get, get_or, position, Option, Some, None, option_map, unwrap_or, if◌then◌else◌, refl, sym, ap, ◌∙◌, subst, eq-eqb, arith}
use Rattle.std.proofs.lemmas.Bool.Decides.{nat_tests}
use Rattle.std.proofs.lemmas.List.{length-map}
use Rattle.std.proofs.lemmas.Option.{slice_get-map, slice_get-get_or}
use Rattle.std.specs.List.{list_any, range_with_len}
use Rattle.std.specs.Map.{lookup}
use Rattle.std.specs.Option.{option_map_or}
use Rattle.rp_base.specs.declared.value.Name.{Name}
use Rattle.rp_tree.specs.Statements.{Stmts}
use Rattle.rp_scope.specs.declared.place.Place2.{Place2}
use Rattle.rp_scope.specs.declared.place.Place2.TheVariants.{Global}
use Rattle.rp_scope.specs.Bindings.{Block, once, local_names, program_names}
use Rattle.rp_scope.specs.Blocks as code_blocks
use Rattle.rp_scope.specs.Blocks.{Nest, blocks, telling_nests}
use Rattle.rp_scope.specs.Numbers.{block_numbers, block_count, HasNumbers}
use Rattle.rp_scope.specs.Places as scope_places
use Rattle.rp_scope.specs.Places.{place_at, place_in, place_from}
use Rattle.rp_scope.specs.Scopes.{Scope, same_name, scope_in, telling_scopes, program_scope, scopes, locals_of, block_at, scope_place, found_in, around_of, found, found_from, AreScopesOf}
use Rattle.rp_scope.proofs.Sets.{any_once}
use Rattle.rp_scope.proofs.Tellings as tellings
use Rattle.rp_scope.proofs.ToldNumbers as numbers
use Rattle.rp_scope.proofs.Nests as nests
use Rattle.rp_scope.proofs.Nests.{Nested, nested, Each, Among, Stands, IsClosed, outer}

-- the number of the innermost block, 0 of the program
abbrev number_of : {A : Type 0} → Nested A → ℕ
number_of [] = 0
number_of (x ∷ xs) = x.0

-- a nest without numbers
abbrev bare : {A : Type 0} → Nested A → Nest A
bare x = map (λ q. q.1) x

abbrev numbered : {A : Type 0} → Nested A → ℕ × Nest A
numbered x = (number_of x, bare x)

abbrev entry : Nested Name → Scope
entry [] = scope_in 0 (record { names = []; globals = [] })
entry (x ∷ xs) = scope_in (number_of xs) x.1

abbrev nests_of : Stmts → List (Nested Name)
nests_of x = code_blocks.stmts_blocks nested [] x

-- the table behind the program, the nests by their numbers, and the numbers, of the nests of a tree

table_is : (x : Stmts) → map entry (nests_of x) ≡ code_blocks.stmts_blocks telling_scopes 0 x
table_is x = tellings.stmts_blocks nested telling_scopes number_of entry (record { inside = λ k block y. refl; told = λ k block y. refl }) [] 0 refl x

blocks_are : (x : Stmts) → map numbered (nests_of x) ≡ blocks x
blocks_are x =
    tellings.stmts_blocks nested telling_nests bare numbered (record { inside = λ k block y. refl; told = λ k block y. refl }) [] [] refl x

numbers_are : (x : Stmts) → map number_of (nests_of x) ≡ block_numbers x
numbers_are x = numbers.stmts_blocks nested number_of (record { told = λ k block y. refl }) [] x

-- lists whose elements have the numbers from s on
abbrev Counts : ℕ → List (Nested Name) → Type 0
Counts s xs = map number_of xs ≡ range_with_len s (length xs)

cons_head : {A : Type 0} (x y : A) (xs ys : List A) → x ∷ xs ≡ y ∷ ys → x ≡ y
cons_head x y xs ys e = cc

cons_tail : {A : Type 0} (x y : A) (xs ys : List A) → x ∷ xs ≡ y ∷ ys → xs ≡ ys
cons_tail x y xs ys e = cc

first_is : (s : ℕ) (y : Nested Name) (ys : List (Nested Name)) → Counts s (y ∷ ys) → number_of y ≡ s
first_is s y ys h = cons_head (number_of y) s (map number_of ys) (range_with_len (s + 1) (length ys)) h

rest_count : (s : ℕ) (y : Nested Name) (ys : List (Nested Name)) → Counts s (y ∷ ys) → Counts (s + 1) ys
rest_count s y ys h = cons_tail (number_of y) s (map number_of ys) (range_with_len (s + 1) (length ys)) h

next_number : (s i : ℕ) → s + 1 + i ≡ s + suc i
next_number s i = omega arith

-- where an element stands, by its number
placed : (s : ℕ) (xs : List (Nested Name)) (x : Nested Name) → Counts s xs → Among xs x → (i : ℕ) × (number_of x ≡ s + i) × (slice_get xs i ≡ Some x)
placed s [] x h among = absurd among
placed s (y ∷ ys) x h (inl e) = (0, ap number_of (sym e) ∙ (first_is s y ys h ∙ omega arith), ap Some e)
placed s (y ∷ ys) x h (inr among) =
    let found : (i : ℕ) × (number_of x ≡ s + 1 + i) × (slice_get ys i ≡ Some x) = placed (s + 1) ys x (rest_count s y ys h) among in
    (suc found.0, found.1 ∙ next_number s found.0, found.2)

number_at : (s : ℕ) (xs : List (Nested Name)) (i : ℕ) (d : Nested Name) → Counts s xs → i < length xs → number_of (get_or xs i d) ≡ s + i
number_at s [] i d h within = absurd (omega arith)
number_at s (y ∷ ys) zero d h within = first_is s y ys h ∙ omega arith
number_at s (y ∷ ys) (suc i) d h within = number_at (s + 1) ys i d (rest_count s y ys h) (omega arith) ∙ next_number s i

other_number : (s i m : ℕ) → m ≡ s → nat_eq (s + suc i) m ≡ false
other_number s i m e = grind (arith, nat_tests)

same_number : (s m : ℕ) → m ≡ s → nat_eq (s + 0) m ≡ true
same_number s m e = eq-eqb (s + 0) m (omega (arith, e))

-- a nest by its number
looked : (s : ℕ) (xs : List (Nested Name)) (i : ℕ) (d : Nested Name) → Counts s xs → i < length xs → lookup (nat_eq (s + i)) (map numbered xs) ≡ Some (bare (get_or xs i d))
looked s [] i d h within = absurd (omega arith)
looked s (y ∷ ys) zero d h within = ap (λ b. cond b (Some (bare y)) (lookup (nat_eq (s + 0)) (map numbered ys))) (same_number s (number_of y) (first_is s y ys h))
looked s (y ∷ ys) (suc i) d h within =
    ap (λ b. cond b (Some (bare y)) (lookup (nat_eq (s + suc i)) (map numbered ys))) (other_number s i (number_of y) (first_is s y ys h)) ∙ (ap (λ k. lookup (nat_eq k) (map numbered ys)) (sym (next_number s i)) ∙ looked (s + 1) ys i d (rest_count s y ys h) (omega arith))

each_among : {A : Type 0} (P : A → Type 0) (xs : List A) (x : A) → Each P xs → Among xs x → P x
each_among P [] x each among = absurd among
each_among P (y ∷ ys) x each (inl e) = subst P e each.0
each_among P (y ∷ ys) x each (inr among) = each_among P ys x each.1 among

weaker : {A : Type 0} (P Q : A → Type 0) → ((x : A) → P x → Q x) → (xs : List A) → Each P xs → Each Q xs
weaker P Q h [] each = tt
weaker P Q h (x ∷ xs) each = (h x each.0, weaker P Q h xs each.1)

each_self : {A : Type 0} (xs : List A) → Each (Among xs) xs
each_self [] = tt
each_self (x ∷ xs) = (inl refl, weaker (Among xs) (Among (x ∷ xs)) (λ y among. inr among) xs (each_self xs))

among_at : {A : Type 0} (xs : List A) (i : ℕ) (d : A) → i < length xs → Among xs (get_or xs i d)
among_at [] i d within = absurd (omega arith)
among_at (x ∷ xs) zero d within = inl refl
among_at (x ∷ xs) (suc i) d within = inr (among_at xs i d (omega arith))

closed : (x : Stmts) → Each (IsClosed (nests_of x) (length (nests_of x))) (nests_of x)
closed x = nests.stmts_blocks (nests_of x) (length (nests_of x)) 0 [] (omega arith) (inl refl) x (omega arith) (each_self (nests_of x))

-- the scope of a block by its number

scope_at : (program : Scope) (all : List (Nested Name)) (i k : ℕ) (x : Nested Name) → k ≡ 1 + i → slice_get all i ≡ Some x → block_at (program ∷ map entry all) k ≡ Some (entry x)
scope_at program all i k x e at =
    ap (block_at (program ∷ map entry all)) (e ∙ one_more i) ∙ (ap (λ b. cond b None (slice_get (map entry all) i)) (no_program i) ∙ (slice_get-map entry all i ∙ ap (option_map entry) at))
  where
    one_more : (i : ℕ) → 1 + i ≡ suc i
    one_more i = omega arith

    no_program : (i : ℕ) → nat_eq (suc i) 0 ≡ false
    no_program i = grind (arith, nat_tests)

place_alike : (listed : Bool) (slot : Option ℕ) (n : ℕ) (around : Place2) → unwrap_or (if listed then Some Global else option_map (place_at n) slot) around ≡ place_in listed slot n around
place_alike true slot n around = refl
place_alike false None n around = refl
place_alike false (Some i) n around = refl

scope_place_is : (r : ℕ) (block : Block Name) (n : ℕ) (name : Name) (around : Place2) → unwrap_or (scope_place (scope_in r block) n name) around ≡ place_in (list_any (same_name name) block.globals) (position (same_name name) (local_names same_name block)) n around
unfolding scope_in
scope_place_is r block n name around =
    ap (λ listed. unwrap_or (if listed then Some Global else option_map (place_at n) (position (same_name name) (local_names same_name block))) around) (any_once name block.globals) ∙ place_alike (list_any (same_name name) block.globals) (position (same_name name) (local_names same_name block)) n around

around_is : (r : ℕ) (block : Block Name) → (scope_in r block).around ≡ r
unfolding scope_in
around_is r block = refl

locals_are : (r : ℕ) (block : Block Name) → (scope_in r block).locals ≡ local_names same_name block
unfolding scope_in
locals_are r block = refl

empty_nest : {A : Type 0} (x : A) (xs : List A) → (x ∷ xs) ≡ [] → ⊥
empty_nest x xs e = cc

-- from a block on, the table finds what the nest finds
follows : (program : Scope) (all : List (Nested Name)) → Counts 1 all → Each (IsClosed all (length all)) all → (steps n : ℕ) (x : Nested Name) (name : Name) → Stands all x → length x < steps → found steps (program ∷ map entry all) n (number_of x) name ≡ place_from same_name n (bare x) name
follows program all counts each zero n x name stands less = absurd (omega arith)
follows program all counts each (suc steps) n [] name stands less = refl
follows program all counts each (suc steps) n (q ∷ rest) name (inl e) less = absurd (empty_nest q rest e)
follows program all counts each (suc steps) n (q ∷ rest) name (inr among) less =
    let table : List Scope = program ∷ map entry all in
    let where_it_is : (i : ℕ) × (q.0 ≡ 1 + i) × (slice_get all i ≡ Some (q ∷ rest)) = placed 1 all (q ∷ rest) counts among in
    let scope : block_at table q.0 ≡ Some (scope_in (number_of rest) q.1) = scope_at program all where_it_is.0 q.0 (q ∷ rest) where_it_is.1 where_it_is.2 in
    let outwards : Stands all rest = (each_among (IsClosed all (length all)) all (q ∷ rest) each among).0 in
    let next : found steps table (n + 1) (number_of rest) name ≡ place_from same_name (suc n) (bare rest) name =
    follows program all counts each steps (n + 1) rest name outwards (omega arith) ∙ ap (λ m. place_from same_name m (bare rest) name) (one_more n) in
    ap (λ o. found_in o n name (found steps table (n + 1) (around_of o) name)) scope ∙ (ap (λ r. unwrap_or (scope_place (scope_in (number_of rest) q.1) n name) (found steps table (n + 1) r name)) (around_is (number_of rest) q.1) ∙ (ap (unwrap_or (scope_place (scope_in (number_of rest) q.1) n name)) next ∙ scope_place_is (number_of rest) q.1 n name (place_from same_name (suc n) (bare rest) name)))
  where
    one_more : (n : ℕ) → n + 1 ≡ suc n
    one_more n = omega arith

counts_are : (x : Stmts) → HasNumbers x → Counts 1 (nests_of x)
counts_are x has =
    numbers_are x ∙ (has ∙ ap (range_with_len 1) (sym (ap length (numbers_are x)) ∙ length-map (nests_of x) number_of))

nest_at : (x : Stmts) (j : ℕ) → Counts 1 (nests_of x) → j < length (nests_of x) → scope_places.nest_of x (suc j) ≡ bare (get_or (nests_of x) j [])
nest_at x j counts within =
    ap (λ o. option_map_or (λ nest. nest) o []) (ap (lookup (nat_eq (suc j))) (sym (blocks_are x)) ∙ (ap (λ k. lookup (nat_eq k) (map numbered (nests_of x))) (one_more j) ∙ looked 1 (nests_of x) j [] counts within))
  where
    one_more : (j : ℕ) → suc j ≡ 1 + j
    one_more j = omega arith

program_locals : (first : List Name) (x : Stmts) → (program_scope first x).locals ≡ once same_name (program_names first x)
unfolding program_scope
program_locals first x = refl

abbrev table_of : List Name → Stmts → List Scope
table_of first x = program_scope first x ∷ map entry (nests_of x)

local_of_nest : (first : List Name) (x : Stmts) (y : Nested Name) (j : ℕ) → number_of y ≡ 1 + j → (entry y).locals ≡ scope_places.nest_locals same_name first x (bare y)
local_of_nest first x [] j e = absurd (omega (arith, e))
local_of_nest first x (q ∷ rest) j e = locals_are (number_of rest) q.1

locals_as : (first : List Name) (x : Stmts) → Counts 1 (nests_of x) → (k : ℕ) → k < length (table_of first x) → locals_of (table_of first x) k ≡ scope_places.locals same_name first x k
locals_as first x counts zero within = program_locals first x
locals_as first x counts (suc j) within =
    let inside : j < length (nests_of x) = omega (arith, length-map (nests_of x) entry) in
    let y : Nested Name = get_or (nests_of x) j [] in
    let at : slice_get (map entry (nests_of x)) j ≡ Some (entry (get_or (nests_of x) j [])) = slice_get-map entry (nests_of x) j ∙ ap (option_map entry) (slice_get-get_or (nests_of x) j [] inside) in
    ap (λ o. option_map_or (λ scope. scope.locals) o []) at ∙ (local_of_nest first x (get_or (nests_of x) j []) j (number_at 1 (nests_of x) j [] counts inside) ∙ ap (scope_places.nest_locals same_name first x) (sym (nest_at x j counts inside)))

found_as : (first : List Name) (x : Stmts) → Counts 1 (nests_of x) → (k : ℕ) (name : Name) → k < length (table_of first x) → found_from (table_of first x) k name ≡ scope_places.place same_name x k name
found_as first x counts zero name within = refl
found_as first x counts (suc j) name within =
    let inside : j < length (nests_of x) = omega (arith, length-map (nests_of x) entry) in
    let among : Among (nests_of x) (get_or (nests_of x) j []) = among_at (nests_of x) j [] inside in
    let fits : length (get_or (nests_of x) j []) ≤ length (nests_of x) = (each_among (IsClosed (nests_of x) (length (nests_of x))) (nests_of x) (get_or (nests_of x) j []) (closed x) among).1 in
    let number : suc j ≡ number_of (get_or (nests_of x) j []) = omega (arith, number_at 1 (nests_of x) j [] counts inside) in
    ap (λ m. found_from (table_of first x) m name) number ∙ (follows (program_scope first x) (nests_of x) counts (closed x) (length (table_of first x)) 0 (get_or (nests_of x) j []) name (inr among) (omega (arith, length-map (nests_of x) entry, fits)) ∙ ap (λ nest. place_from same_name 0 nest name) (sym (nest_at x j counts inside)))

table_as : (first : List Name) (x : Stmts) → table_of first x ≡ scopes first x
table_as first x = ap (λ zs. program_scope first x ∷ zs) (table_is x)

counted : (first : List Name) (x : Stmts) → length (table_of first x) ≡ suc (block_count x)
counted first x = ap suc (length-map (nests_of x) entry ∙ (sym (length-map (nests_of x) number_of) ∙ ap length (numbers_are x)))

-- the table has the program and each code block
pub scopes_counted : (first : List Name) (x : Stmts) → length (scopes first x) ≡ suc (block_count x)
scopes_counted first x = sym (ap length (table_as first x)) ∙ counted first x

-- the table of a tree whose code blocks have their numbers
pub scopes_are : (first : List Name) (x : Stmts) → HasNumbers x → AreScopesOf (scopes first x) first x
scopes_are first x has =
    let counts : Counts 1 (nests_of x) = counts_are x has in
    subst (λ table. AreScopesOf table first x) (table_as first x) (record {
      blocks = counted first x;
      local_names = locals_as first x counts;
      places = found_as first x counts;
    })
