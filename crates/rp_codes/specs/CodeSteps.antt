-- What a walk over a part of a tree does to a table: it puts each function under its number, where none is.
use Rattle.std.specs.Prelude.{◌≡◌, ◌<◌, ◌++◌, ℕ, List, Option, None, get_or, length, option_map}
use Rattle.std.specs.Option.{option_or}
use Rattle.rp_meaning.specs.Blocks as blocks
use Rattle.rp_meaning.specs.Blocks.{Codes, code_in, of_expr, of_maybe, of_stmts}
use Rattle.rp_tree.specs.Expressions as tree
use Rattle.rp_tree.specs.Statements as stmt_tree
use Rattle.rp_codes.specs.Codes.{code_view}
use Rattle.rp_codes.specs.declared.code.Code.{Code}

-- what stands under a number
abbrev pub shown : List (Option Code) → ℕ → Option blocks.Code
shown table number = option_map code_view (get_or table number None)

pub record Adds (codes : Codes) (old new : List (Option Code)) : Type 0 where
  pub size : length new ≡ length old
  pub under : (number : ℕ) → number < length old → shown new number ≡ option_or (shown old number) (code_in codes number)

-- the functions in the parts of a slice, and in a branch
abbrev pub slice_codes : tree.Maybe × tree.Maybe × tree.Maybe → Codes
slice_codes p = of_maybe p.0 ++ of_maybe p.1 ++ of_maybe p.2

abbrev pub branch_codes : tree.Expr × stmt_tree.Stmts → Codes
branch_codes p = of_expr p.0 ++ of_stmts p.1
