-- What a block of a program leaves as it was.
use Rattle.std.proofs.Common.{subst, Bool, false, List, [], ◌∷◌, map, Option, None}
use Rattle.rp_ops.specs.Outcome.{no_cell, ends}
use Rattle.rp_meaning.specs.Frame.{Run, Natives, program_of}
use Rattle.rp_meaning.specs.Running.{program_frame}
use Rattle.rp_meaning.specs.Scopes.{global}
use Rattle.rp_meaning.specs.State.{State}
use Rattle.rp_proxy.specs.Decide.{decide}
use Rattle.rp_proxy.specs.declared.world.World.{World}
use Rattle.rp_session_laws.proofs.Going.{Each, begins}
use Rattle.rp_session_laws.proofs.Programs.{functions-keep}
use Rattle.rp_session_laws.proofs.Statements as statement
use Rattle.rp_session_laws.proofs.Trees as tree
use Rattle.rp_session_laws.specs.Setting.{Keeping, Stays, setting_of}
use Rattle.rp_engine.specs.Does as does
use Rattle.rp_tree.specs.Statements as stmt_tree
use Rattle.rp_tree.specs.StatementViews.{view_stmt}
use Rattle.rp_tree.specs.declared.stmt.Stmt.{Stmt}
use Rattle.rp_session.specs.Turns.{comes_of, moment}
use Rattle.rp_session.specs.View.{EndsSo, session_view}
use Rattle.rp_session.specs.declared.session.Session.{Session}
use Rattle.rp_session.specs.declared.session_end.SessionEnd.{SessionEnd}

-- some run, by which a law of all runs tells what they have in common

abbrev no_natives : Natives
no_natives = record {
  is_function = λ id. false;
  is_method = λ heap v id. false;
  needs = λ id i n. None;
  function = λ names side id vs p. ends no_cell p;
  method = λ names side v id vs p. ends no_cell p;
  print_line = λ names vs p. ends no_cell p;
}

abbrev pub some_run : Run
some_run = record {
  programs = λ side. program_of stmt_tree.no_stmts (record { locals = λ block. []; place = λ block name. global });
  natives = no_natives;
  is_identifier = λ word. false;
  is_forbidden = λ word. false;
  decide = decide;
}

pub does-keep : (xs : List Stmt) → Each (λ d. Keeping d) (map does.stmt xs)
unfolding does.stmt
does-keep [] = tt
does-keep (x ∷ xs) = (tree.statement (view_stmt x), does-keep xs)

pub settled : (run : Run) (xs : List Stmt) (is_last : Bool) (end : Option SessionEnd) (w : World) (k : Session) (s : State)
    → EndsSo end is_last s (comes_of run xs w k) → Stays (setting_of (moment w k)) (setting_of s)
settled run xs is_last end w k s h =
    let m = moment w k in
    let frame = program_frame run (session_view k).side k.globals in
    subst (λ (s : State). Stays (setting_of m) (setting_of s)) h.0
    (statement.block (map does.stmt xs) (does-keep xs) (setting_of m) frame (λ at a u i. functions-keep run (setting_of m) at a u i) m (begins m)).setting
