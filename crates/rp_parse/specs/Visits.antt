-- Whoever takes the statements of a script while it is read. A relation tells by which statements it comes from one state to another.
use Rattle.std.specs.Prelude.{◌≡◌, Bool, false, Ok, OnOk, Result}
use Rattle.rp_tree.specs.Marks.{HasNoGuards}
use Rattle.rp_tree.specs.Statements.{Stmts}
use Rattle.rp_tree.specs.Statements as stmt_tree
use Rattle.rp_grammar.specs.Kinds.{Tokens}
use Rattle.rp_grammar.specs.Leaves.{HasLeavesOf}
use Rattle.rp_grammar.specs.Program.{Spells}
use Rattle.rp_grammar.specs.Statements.{joined}
use Rattle.rp_grammar.specs.StatementReading as stmt_reading
use Rattle.rp_parse.specs.Gives.{deep}
use Rattle.rp_parse.specs.ScriptSteps.{Passes}

abbrev pub no_stmts : Stmts
no_stmts = stmt_tree.no_stmts

-- the next statements are taken behind those before
abbrev pub TakesNext : {V E : Type 0} → (V → Stmts → V → Type 0) → V → Stmts → V → Result (Unit {0}) E → Type 0
TakesNext {V} takes before next after result = (start : V) (taken : Stmts) → takes start taken before → OnOk result (takes start (joined taken next) after)

-- some turns take the tokens from ts up to us, and their statements are handed on
pub record Hands {V : Type 0} (takes : V → Stmts → V → Type 0) (before : V) (on_line : Bool) (ts : Tokens) (after : V) (more : Bool) (us : Tokens) : Type 0 where
  pub next : Stmts
  pub passes : Passes no_stmts on_line ts next more us
  pub taken : (start : V) (earlier : Stmts) → takes start earlier before → takes start (joined earlier next) after

-- the statements of a front of a script are handed on
pub record Handed {V : Type 0} (takes : V → Stmts → V → Type 0) (start : V) (ts : Tokens) (now : V) (more : Bool) (us : Tokens) : Type 0 where
  pub found : Stmts
  pub passes : Passes no_stmts false ts found more us
  pub taken : takes start found now

-- a whole script is read, and its statements are taken
pub record TakesWhole {V : Type 0} (takes : V → Stmts → V → Type 0) (start : V) (ts : Tokens) (end : V) : Type 0 where
  pub found : Stmts
  pub rest : Tokens
  pub read : stmt_reading.program_at deep 199 ts ≡ Ok (found, rest)
  pub taken : takes start found end

-- The tokens spell a tree, and its statements are taken. It has no guards, and the leaves of the tokens.
pub record TakesTree {V : Type 0} (takes : V → Stmts → V → Type 0) (start : V) (ts : Tokens) (end : V) : Type 0 where
  pub tree : Stmts
  pub spelled : Spells tree ts
  pub plain : HasNoGuards tree
  pub leaves : HasLeavesOf ts tree
  pub taken : takes start tree end
