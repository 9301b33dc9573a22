-- The code blocks of a program, each with the number of the block around it (Python Language Reference, Structure of a
-- program; Naming and binding).
use Rattle.std.specs.Prelude.{◌≡◌, ◌≤◌, ℕ, suc, ◌+◌, nat_eq, false, List, [], ◌∷◌, length, Option, Some, None}
use Rattle.std.specs.List.{list_any}
use Rattle.std.specs.Map.{lookup}
use Rattle.rp_base.specs.Names.{same_name}
use Rattle.rp_base.specs.declared.value.Name.{Name}
use Rattle.rp_scope.specs.Blocks.{stmt_blocks, stmts_blocks}
use Rattle.rp_scope.specs.Bindings.{Block, function_block, lambda_block, params_names}
use Rattle.rp_scope.specs.Numbers.{HasNumbers, block_count}
use Rattle.rp_scope.specs.Places.{locals}
use Rattle.rp_tree.specs.Expressions as tree
use Rattle.rp_tree.specs.Statements as stmt_tree
use Rattle.rp_meaning.specs.Blocks.{Code, code_in, def, lambda, of_stmt, of_stmts}
use Rattle.rp_meaning.specs.Frame.{Program, program_of}
use Rattle.rp_meaning.specs.Scopes.{Layouts}
use Rattle.rp_meaning.specs.Running.{params_of}
use Rattle.rp_apart_laws.specs.Apart.{Each}
use Rattle.rp_keeper_laws.specs.Blocks.{Around, Has, telling_around}

-- the number of the block around a block of that number; the program's own, which is 0, has none
abbrev pub around : Program → ℕ → Option ℕ
around p number = lookup (nat_eq number) (stmts_blocks telling_around 0 p.body)

-- how many parameters have a default, and how many parameters there are

abbrev pub plain_defaults : tree.Plain → ℕ
plain_defaults tree.no_plain = 0
plain_defaults (tree.plain n tree.none ps) = plain_defaults ps
plain_defaults (tree.plain n (tree.some x) ps) = suc (plain_defaults ps)

abbrev pub defaults_of : tree.Params → ℕ
defaults_of (tree.params ps l d) = plain_defaults ps

abbrev pub plain_count : tree.Plain → ℕ
plain_count tree.no_plain = 0
plain_count (tree.plain n x ps) = suc (plain_count ps)

abbrev pub star_count : {A : Type 0} → Option A → ℕ
star_count None = 0
star_count (Some n) = 1

abbrev pub count_of : tree.Params → ℕ
count_of (tree.params ps l d) = plain_count ps + star_count l + star_count d

-- A program whose tree has its numbers, whose functions are found by these, and whose layouts have a local name for each
-- parameter of a function.
pub record IsLaidOut (p : Program) : Type 0 where
  pub numbers : HasNumbers p.body
  pub code : (number : ℕ) → p.code number ≡ code_in (of_stmts p.body) number
  pub room : Each (λ (e : ℕ × Code). count_of (params_of e.1) ≤ length (p.layouts.locals e.0)) (of_stmts p.body)

-- ---- programs whose layouts are those of their scopes

-- the block of a function
abbrev pub code_block : Code → Block Name
code_block (def ps b) = function_block ps b
code_block (lambda ps x) = lambda_block ps

-- names that differ from one another, and from others
abbrev pub AllDiffer : List Name → List Name → Type 0
AllDiffer [] others = Unit {0}
AllDiffer (n ∷ ns) others = Each (λ m. same_name n m ≡ false) ns × (list_any (same_name n) others ≡ false)
    × AllDiffer ns others

-- the parameters of a function, of which the grammar has it that they differ, and that its `global` statements name none
abbrev pub ParametersDiffer : Code → Type 0
ParametersDiffer code = AllDiffer (params_names (params_of code)) (code_block code).globals

-- so a program with its numbers, whose functions are such, and each of whose blocks has the local names that the scopes
-- have, is laid out
abbrev pub EachScopedIsLaidOut : Type 0
EachScopedIsLaidOut = (first : List Name) (body : stmt_tree.Stmts) (layouts : Layouts) → HasNumbers body
    → ((number : ℕ) → number ≤ block_count body → layouts.locals number ≡ locals same_name first body number)
    → Each (λ (e : ℕ × Code). ParametersDiffer e.1) (of_stmts body) → IsLaidOut (program_of body layouts)

-- ---- parts of a program

-- a statement that stands in a block of a program: its functions and its blocks are those of the program
abbrev pub IsFunctionOf : Program → ℕ × Code → Type 0
IsFunctionOf p e = p.code e.0 ≡ Some e.1

abbrev pub IsBlockOf : Program → Around → Type 0
IsBlockOf p b = around p b.0 ≡ Some b.1

abbrev pub StandsIn : Program → ℕ → stmt_tree.Stmt → Type 0
StandsIn p number x = Has (IsFunctionOf p) (IsBlockOf p) (of_stmt x) (stmt_blocks telling_around number x)
