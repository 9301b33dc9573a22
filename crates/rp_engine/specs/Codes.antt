-- The functions of a program by the numbers of their code blocks, as the code has them in a table.
use Rattle.std.specs.Prelude.{◌≡◌, ◌≤◌, ℕ, Option, None, get_or, length, option_map}
use Rattle.rp_base.specs.declared.value.Side.{Side}
use Rattle.rp_codes.specs.Codes.{code_view}
use Rattle.rp_codes.specs.declared.code.Code.{Code}
use Rattle.rp_engine.specs.declared.units.Program.{Program}
use Rattle.rp_engine.specs.declared.units.Units.{Units}
use Rattle.rp_engine.specs.Moment.{program_at, program_view}
use Rattle.rp_grammar.specs.Program.{highest}
use Rattle.rp_tree.specs.Heights.{stmts_height}
use Rattle.rp_tree.specs.StatementViews.{view_tree}

-- what stands under a number in the table of a program
abbrev pub code_at : Program → ℕ → Option Code
code_at p number = get_or p.codes number None

-- the table has the program's functions, and a place for each of its code blocks; no statement is higher than one of a program may be
pub record IsIndexed (p : Program) : Type 0 where
  pub code : (number : ℕ) → option_map code_view (code_at p number) ≡ (program_view p).code number
  pub blocks : length p.codes ≡ length p.layouts
  pub low : stmts_height (view_tree p.tree.now) ≤ highest

abbrev pub AreIndexed : Units → Type 0
AreIndexed units = (side : Side) → IsIndexed (program_at units side)
