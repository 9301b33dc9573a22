-- What code sees of the programs of its run: the layouts of their code blocks (Python Language Reference, Naming and binding). Their trees it does not
-- see; a function's tree is found by the call of it.
use Rattle.std.specs.Prelude.{◌≡◌, None}
use Rattle.rp_tree.specs.Expressions as tree
use Rattle.rp_tree.specs.Statements as stmt_tree
use Rattle.rp_tree.specs.Statements.{no_stmts}
use Rattle.rp_meaning.specs.Frame.{Frame, Program, Run}
use Rattle.rp_meaning.specs.Meaning.{eval, exec, block}
use Rattle.rp_meaning.specs.State.{State, Outcome}

-- a program without its tree
abbrev pub treeless_program : Program → Program
treeless_program p = record { body = no_stmts; code = λ n. None; layouts = p.layouts }

abbrev pub treeless : Run → Run
treeless run = record run { programs = λ side. treeless_program (run.programs side) }

-- the frame, where the programs of its run have no trees; its calls are the same
abbrev pub blinded : Frame → Frame
blinded f = record f { run = treeless f.run }

-- what is done in a frame is the same without the trees
abbrev pub Blind : {A : Type 0} → (Frame → State → Outcome A) → Type 0
Blind does = (f : Frame) (s : State) → does (blinded f) s ≡ does f s

-- Every expression, statement and block is so.

abbrev pub ExpressionsAreBlind : Type 0
ExpressionsAreBlind = (x : tree.Expr) → Blind (eval x)

abbrev pub StatementsAreBlind : Type 0
StatementsAreBlind = (x : stmt_tree.Stmt) → Blind (exec x)

abbrev pub BlocksAreBlind : Type 0
BlocksAreBlind = (b : stmt_tree.Stmts) → Blind (block b)
