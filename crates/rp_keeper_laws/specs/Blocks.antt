-- The functions and the code blocks in a part of a tree, and what holds of each of them (Python Language Reference,
-- Naming and binding).
use Rattle.std.specs.Prelude.{ℕ, List}
use Rattle.rp_base.specs.declared.value.Name.{Name}
use Rattle.rp_scope.specs.Blocks.{Telling, expr_blocks, stmts_blocks}
use Rattle.rp_meaning.specs.Blocks.{Code, Codes, def, lambda, of_expr, of_stmts}
use Rattle.rp_apart_laws.specs.Apart.{Each}

-- of each block its number, and that of the block around it
abbrev pub Around : Type 0
Around = ℕ × ℕ

abbrev pub telling_around : Telling Name ℕ Around
telling_around = record { inside = λ n block around. n; told = λ n block around. (n, around) }

-- what holds of each function and of each block of a part, that has these
pub record Has (P : ℕ × Code → Type 0) (Q : Around → Type 0) (codes : Codes) (told : List Around) : Type 0 where
  pub functions : Each P codes
  pub blocks : Each Q told

-- of what a call of a function runs, which stands in the block of that number
abbrev pub CodeHas : (ℕ × Code → Type 0) → (Around → Type 0) → ℕ → Code → Type 0
CodeHas P Q number (def ps b) = Has P Q (of_stmts b) (stmts_blocks telling_around number b)
CodeHas P Q number (lambda ps x) = Has P Q (of_expr x) (expr_blocks telling_around number x)
