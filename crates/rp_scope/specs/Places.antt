-- The local names of each code block, and where a block finds a name (Python Language Reference, Naming and binding, Resolution of names). Names
-- are of any type, with an equality.
use Rattle.std.specs.Prelude.{ℕ, zero, suc, nat_eq, List, [], ◌∷◌, Bool, true, false, position, Option, Some, None}
use Rattle.std.specs.List.{list_any}
use Rattle.std.specs.Map.{lookup}
use Rattle.std.specs.Option.{option_map_or}
use Rattle.rp_tree.specs.StatementTrees.{Stmts}
use Rattle.rp_scope.specs.declared.place.Place2.{Place2}
use Rattle.rp_scope.specs.declared.place.Place2.TheVariants.{Local, Outer, Global}
use Rattle.rp_scope.specs.Bindings.{once, local_names, program_names}
use Rattle.rp_scope.specs.Blocks.{Nest, blocks}

-- the block with this number and those around it; none where it is the program
abbrev pub nest_of : {A : Type 0} → Stmts A → ℕ → Nest A
nest_of program zero = []
nest_of program (suc n) = option_map_or (λ nest. nest) (lookup (nat_eq (suc n)) (blocks program)) []

-- the local names of the innermost block, parameters first; those of the program begin with the given ones
abbrev pub nest_locals : {A : Type 0} → (A → A → Bool) → List A → Stmts A → Nest A → List A
nest_locals same first program [] = once same (program_names first program)
nest_locals same first program (b ∷ around) = local_names same b

abbrev pub locals : {A : Type 0} → (A → A → Bool) → List A → Stmts A → ℕ → List A
locals same first program number = nest_locals same first program (nest_of program number)

-- a local name of the block that is so many blocks outwards
abbrev pub place_at : ℕ → ℕ → Place2
place_at zero i = Local i
place_at (suc n) i = Outer (suc n) i

-- the place of a name in a block that is so many blocks outwards: global where the block's `global` statements list it, else among its local names,
-- else as the blocks around have it
abbrev pub place_in : Bool → Option ℕ → ℕ → Place2 → Place2
place_in true i n around = Global
place_in false (Some i) n around = place_at n i
place_in false None n around = around

-- where a name is found from a block that is so many blocks outwards; where no block is left but the program, it is global
abbrev pub place_from : {A : Type 0} → (A → A → Bool) → ℕ → Nest A → A → Place2
place_from same n [] name = Global
place_from same n (b ∷ around) name =
    place_in (list_any (same name) b.globals) (position (same name) (local_names same b)) n (place_from same (suc n) around name)

-- where the code block with this number finds a name
abbrev pub place : {A : Type 0} → (A → A → Bool) → Stmts A → ℕ → A → Place2
place same program number name = place_from same zero (nest_of program number) name
