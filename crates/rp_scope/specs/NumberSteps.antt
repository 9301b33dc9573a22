-- Numbers that are given one after the other, as 64 bits tell them.
use Rattle.std.specs.Prelude.{ℕ, suc, min, ◌-◌, ◌^◌, List, [], ◌∷◌, ◌++◌, take}
use Rattle.rp_tree.specs.Expressions as tree
use Rattle.rp_tree.specs.Statements as stmt_tree
use Rattle.rp_scope.specs.Numbers as numbering

-- the number after a number; the greatest one that 64 bits have stays
unfoldable pub after : ℕ → ℕ
after n = min (suc n) (2 ^ 64 - 1)

-- the number that follows, where some numbers have been replaced by n and those after it
abbrev pub past : List ℕ → ℕ → ℕ
past [] n = n
past (x ∷ xs) n = past xs (after n)

-- n and the numbers after it, as many as some numbers
abbrev pub renumbered : ℕ → List ℕ → List ℕ
renumbered n [] = []
renumbered n (x ∷ xs) = n ∷ renumbered (after n) xs

-- the numbers in all elements of a list
abbrev pub all_numbers : {A : Type 0} → (A → List ℕ) → List A → List ℕ
all_numbers f [] = []
all_numbers f (x ∷ xs) = f x ++ all_numbers f xs

-- the number that the element at a place begins with, where the first element begins with n
abbrev pub start : {A : Type 0} → (A → List ℕ) → ℕ → List A → ℕ → ℕ
start f n xs i = past (all_numbers f (take i xs)) n

-- the numbers in an element of each list that is no node

abbrev pub pair_numbers : tree.Expr × tree.Expr → List ℕ
pair_numbers p = numbering.expr_numbers p.0 ++ numbering.expr_numbers p.1

abbrev pub second_numbers : {A : Type 0} → A × tree.Expr → List ℕ
second_numbers p = numbering.expr_numbers p.1

abbrev pub slice_numbers : tree.Maybe × tree.Maybe × tree.Maybe → List ℕ
slice_numbers p = numbering.maybe_numbers p.0 ++ numbering.maybe_numbers p.1 ++ numbering.maybe_numbers p.2

abbrev pub branch_numbers : tree.Expr × stmt_tree.Stmts → List ℕ
branch_numbers p = numbering.expr_numbers p.0 ++ numbering.block_numbers p.1
