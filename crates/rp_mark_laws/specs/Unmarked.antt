-- Guard marks mean nothing (RestrictedPython, transformer; zope.security, proxies): what code does through a reference that it was lent is decided by
-- that reference, with a mark or without one. So programs with their guards run as their sources do.
use Rattle.std.specs.Prelude.{◌≡◌, ℕ, List, option_map}
use Rattle.rp_tree.specs.Marks.{erase, no_marks}
use Rattle.rp_tree.specs.Maps.{map_expr, map_params, map_stmt}
use Rattle.rp_tree.specs.Statements as stmt_tree
use Rattle.rp_meaning.specs.Blocks.{Code, def, lambda}
use Rattle.rp_meaning.specs.Frame.{Program, Run}
use Rattle.rp_meaning.specs.Load.{with_new_session}
use Rattle.rp_meaning.specs.Meaning.{exec}
use Rattle.rp_meaning.specs.Sessions.{World, run_all}

-- a function without marks
abbrev pub unmarked_code : Code → Code
unmarked_code (def ps b) = def (map_params no_marks ps) (erase b)
unmarked_code (lambda ps x) = lambda (map_params no_marks ps) (map_expr no_marks x)

-- a program without marks
abbrev pub unmarked_program : Program → Program
unmarked_program p = record { body = erase p.body; code = λ n. option_map unmarked_code (p.code n); layouts = p.layouts }

-- a run of such programs
abbrev pub unmarked : Run → Run
unmarked run = record run { programs = λ side. unmarked_program (run.programs side) }

-- a statement does what it does without marks
abbrev pub StatementsHaveNoMarks : Type 0
StatementsHaveNoMarks = (x : stmt_tree.Stmt) → exec (map_stmt no_marks x) ≡ exec x

-- new sessions begin alike, and sessions come to the same world by the listed turns and then each to its end

abbrev pub SessionsBeginAlike : Type 0
SessionsBeginAlike =
    (run : Run) (who : List (List ℕ)) (steps : ℕ) (w : World) → with_new_session (unmarked run) who steps w ≡ with_new_session run who steps w

abbrev pub MarksMeanNothing : Type 0
MarksMeanNothing = (run : Run) (listed : List ℕ) (w : World) → run_all (unmarked run) listed w ≡ run_all run listed w
