-- A function of a program has as many local names at least as it has parameters, where these differ.
use Rattle.std.proofs.Common.{◌≡◌, ◌≤◌, refl, sym, ap, ◌∙◌, ℕ, zero, suc, nat_eq, Bool, true, false, cond}
use Rattle.std.proofs.Common.{not, List, [], ◌∷◌, ◌++◌, length, map, Option, Some, None, arith}
use Rattle.std.proofs.lemmas.List.{length-append}
use Rattle.std.specs.List.{filter, list_any}
use Rattle.std.specs.Map.{lookup}
use Rattle.std.specs.Option.{option_map_or}
use Rattle.rp_base.specs.Names.{same_name}
use Rattle.rp_base.specs.declared.value.Name.{Name}
use Rattle.rp_scope.specs.Bindings.{Block, local_names, once, option_names, params_names, plain_names}
use Rattle.rp_scope.specs.Blocks.{Nest, blocks, telling_nests}
use Rattle.rp_scope.specs.Numbers.{HasNumbers, block_count, block_numbers}
use Rattle.rp_scope.specs.Places.{locals, nest_locals, nest_of}
use Rattle.rp_scope.proofs.ToldNumbers as told
use Rattle.rp_tree.specs.Expressions as tree
use Rattle.rp_tree.specs.Statements as stmt_tree
use Rattle.rp_meaning.specs.Blocks.{Code, def, lambda, of_stmts}
use Rattle.rp_meaning.specs.Running.{params_of}
use Rattle.rp_apart_laws.specs.Apart.{Each}
use Rattle.rp_fit_laws.specs.Programs.{AllDiffer, EachScopedIsLaidOut, ParametersDiffer, code_block, count_of}
use Rattle.rp_fit_laws.specs.Programs.{plain_count}
use Rattle.rp_fit_laws.specs.Programs.{star_count}
use Rattle.rp_fit_laws.proofs.Among as among
use Rattle.rp_fit_laws.proofs.Among.{Among}
use Rattle.rp_fit_laws.proofs.Numbers.{each_both, found_each, numbered_once, numbered_within}

-- ---- names that differ stay

-- where a first name is taken out, other names stay
others_stay : (n : Name) (ns rest : List Name) → Each (λ (m : Name). same_name n m ≡ false) ns
    → filter (λ m. not (same_name n m)) (ns ++ rest) ≡ ns ++ filter (λ m. not (same_name n m)) rest
others_stay n [] rest h = refl
others_stay n (m ∷ ms) rest h = by (same_name n m) h.0 (others_stay n ms rest h.1) where
  by : (b : Bool) → b ≡ false
      → filter (λ m. not (same_name n m)) (ms ++ rest) ≡ ms ++ filter (λ m. not (same_name n m)) rest
      → cond (not b) (m ∷ filter (λ m. not (same_name n m)) (ms ++ rest)) (filter (λ m. not (same_name n m))
      (ms ++ rest))
      ≡ m ∷ (ms ++ filter (λ m. not (same_name n m)) rest)
  by true e more = absurd (cc)
  by false e more = ap (λ xs. m ∷ xs) more

-- so each of some names that differ stands once
pub once_begins : (ns gs rest : List Name) → AllDiffer ns gs
    → (more : List Name) × (once same_name (ns ++ rest) ≡ ns ++ more)
once_begins [] gs rest h = (once same_name rest, refl)
once_begins (n ∷ ns) gs rest h =
    let these = once_begins ns gs rest h.2 in (
      filter (λ m. not (same_name n m)) these.0,
      ap (λ xs. n ∷ filter (λ m. not (same_name n m)) xs) these.1
          ∙ ap (λ xs. n ∷ xs) (others_stay n ns these.0 h.0),
    )

-- and none of them is taken out that is not among the others
kept_names : (ns gs rest : List Name) → AllDiffer ns gs
    → filter (λ x. not (list_any (same_name x) gs)) (ns ++ rest)
    ≡ ns ++ filter (λ x. not (list_any (same_name x) gs)) rest
kept_names [] gs rest h = refl
kept_names (n ∷ ns) gs rest h = by (list_any (same_name n) gs) h.1 (kept_names ns gs rest h.2) where
  by : (b : Bool) → b ≡ false
      → filter (λ x. not (list_any (same_name x) gs)) (ns ++ rest)
      ≡ ns ++ filter (λ x. not (list_any (same_name x) gs)) rest
      → cond (not b) (n ∷ filter (λ x. not (list_any (same_name x) gs)) (ns ++ rest))
      (filter (λ x. not (list_any (same_name x) gs)) (ns ++ rest))
      ≡ n ∷ (ns ++ filter (λ x. not (list_any (same_name x) gs)) rest)
  by true e more = absurd (cc)
  by false e more = ap (λ xs. n ∷ xs) more

-- ---- parameters

plain_length : (ps : tree.Plain) → length (plain_names ps) ≡ plain_count ps
plain_length tree.no_plain = refl
plain_length (tree.plain n x ps) = ap suc (plain_length ps)

star_length : (n : Option tree.Named) → length (option_names n) ≡ star_count n
star_length None = refl
star_length (Some n) = refl

params_length : (ps : tree.Params) → length (params_names ps) ≡ count_of ps
params_length (tree.params ps l d) =
    let a = length-append (plain_names ps ++ option_names l) (option_names d) in
    let b = length-append (plain_names ps) (option_names l) in
    let p = plain_length ps in let x = star_length l in let y = star_length d in
    omega (arith, a, b, p, x, y)

-- a block whose names begin with names that differ has as many local names
local_room : (b : Block Name) (ns rest : List Name) → b.names ≡ ns ++ rest → AllDiffer ns b.globals
    → length ns ≤ length (local_names same_name b)
local_room b ns rest e h =
    let kept = kept_names ns b.globals rest h in
    let these = once_begins ns b.globals (filter (λ x. not (list_any (same_name x) b.globals)) rest) h in
    let whole : local_names same_name b ≡ ns ++ these.0 =
    ap (λ (xs : List Name). once same_name (filter (λ x. not (list_any (same_name x) b.globals)) xs)) e
    ∙ ap (once same_name) kept ∙ these.1 in
    let l = length-append ns these.0 in
    let m = ap length whole in
    omega (arith, l, m)

code_room : (code : Code) → ParametersDiffer code
    → count_of (params_of code) ≤ length (local_names same_name (code_block code))
code_room (def ps b) h =
    let l = local_room (code_block (def ps b)) (params_names ps) _ refl h in
    let m = params_length ps in omega (arith, l, m)
code_room (lambda ps x) h =
    let l = local_room (code_block (lambda ps x)) (params_names ps) [] (sym (append_none (params_names ps))) h in
    let m = params_length ps in omega (arith, l, m)
  where
    append_none : (ns : List Name) → ns ++ [] ≡ ns
    append_none [] = refl
    append_none (n ∷ ns) = ap (λ xs. n ∷ xs) (append_none ns)

-- ---- blocks by their numbers

abbrev Nested : Type 0
Nested = ℕ × Nest Name

module _ (body : stmt_tree.Stmts) (has : HasNumbers body) where
  numbers_are : map (λ (b : Nested). b.0) (blocks body) ≡ block_numbers body
  numbers_are = told.stmts_blocks telling_nests (λ (b : Nested). b.0) (record { told = λ n block around. refl }) [] body

  -- each block is found with its nest, and has a number of the program
  nests_found : Each (λ (b : Nested). lookup (nat_eq b.0) (blocks body) ≡ Some b.1) (blocks body)
  nests_found = found_each (blocks body) (λ c. numbered_once body has (blocks body) numbers_are c)

  found_number : (n : ℕ) (nest : Nest Name) → lookup (nat_eq n) (blocks body) ≡ Some nest
      → (1 ≤ n) × (n ≤ block_count body)
  found_number n nest e = numbered_within body has (blocks body) numbers_are n nest e

  nest_is : (n : ℕ) (nest : Nest Name) → lookup (nat_eq n) (blocks body) ≡ Some nest → nest_of body n ≡ nest
  nest_is zero nest e = let l = (found_number 0 nest e).0 in absurd (omega (arith, l))
  nest_is (suc n) nest e = ap (λ (o : Option (Nest Name)). option_map_or (λ nest. nest) o []) e

pub each_scoped_is_laid_out : EachScopedIsLaidOut
each_scoped_is_laid_out first body layouts has these differ = record {
  numbers = has;
  code = λ n. refl;
  room = each_both (Among Found) (λ (e : ℕ × Code). ParametersDiffer e.1)
      (λ (e : ℕ × Code). count_of (params_of e.1) ≤ length (layouts.locals e.0)) room (of_stmts body)
      (among.block Found [] body (record { each = nests_found body has })) differ;
} where
  Found : Nested → Type 0
  Found b = lookup (nat_eq b.0) (blocks body) ≡ Some b.1

  room : (e : ℕ × Code) → Among Found e → ParametersDiffer e.1
      → count_of (params_of e.1) ≤ length (layouts.locals e.0)
  room e f d =
      let nest : Nest Name = code_block e.1 ∷ f.0 in
      let a = these e.0 (found_number body has e.0 nest f.1).1 in
      let l : locals same_name first body e.0 ≡ local_names same_name (code_block e.1) =
      ap (nest_locals same_name first body) (nest_is body has e.0 nest f.1) in
      let m = ap length (a ∙ l) in
      let r = code_room e.1 d in
      omega (arith, m, r)
