-- Statements as values, without where they lie in memory (Python Language Reference, Simple statements and Compound
-- statements), over names of any type A. The value of a whole tree is the list of its statements.
use Rattle.std.specs.Prelude.{ℕ, List, Option, ⊤}
use Rattle.rp_base.specs.declared.value.Line.{Line}
use Rattle.rp_base.specs.declared.operator.BinOp.{BinOp}
use Rattle.rp_tree.specs.declared.parts.Guard.{Guard}
use Rattle.rp_tree.specs.ExpressionTrees.{Named, Expr, Place, Target, Walk, Params}

mutual
  -- a statement, with the line of its first token
  pub data Stmt (A : Type 0) : Type 0 where
    a_stmt : Line → StmtForm A → Stmt A

  pub data StmtForm (A : Type 0) : Type 0 where
    evaluate : Expr A → StmtForm A
    assign : List (Place A) → Expr A → StmtForm A
    unpack : Target A → Expr A → Option Guard → StmtForm A
    -- place, operator and its line, right operand, mark
    aug : Place A → BinOp → Line → Expr A → Option Guard → StmtForm A
    del : List (Place A) → StmtForm A
    pass : StmtForm A
    break : StmtForm A
    continue : StmtForm A
    give_back : Option (Expr A) → StmtForm A
    raise : Option (Expr A) → StmtForm A
    assert : Expr A → Option (Expr A) → StmtForm A
    global : List (Named A) → StmtForm A
    -- 'if' and each 'elif', then the block of 'else'
    choose : Branches A → MaybeStmts A → StmtForm A
    while : Expr A → Stmts A → StmtForm A
    for : Walk A → Stmts A → StmtForm A
    -- block, handlers, block of 'else', block of 'finally'
    try : Stmts A → Excepts A → MaybeStmts A → MaybeStmts A → StmtForm A
    -- the number of its code block, its name, its parameters, its body
    define : ℕ → Named A → Params A → Stmts A → StmtForm A
    class : Named A → Stmts A → StmtForm A

  pub data Stmts (A : Type 0) : Type 0 where
    no_stmts : Stmts A
    stmt : Stmt A → Stmts A → Stmts A

  -- a block that may be missing
  pub data MaybeStmts (A : Type 0) : Type 0 where
    none : MaybeStmts A
    some : Stmts A → MaybeStmts A

  -- tests with their blocks
  pub data Branches (A : Type 0) : Type 0 where
    no_branches : Branches A
    branch : Expr A → Stmts A → Branches A → Branches A

  -- the exceptions that are handled, the name they are bound to, the block
  pub data Except (A : Type 0) : Type 0 where
    an_except : Option (Expr A) → Option (Named A) → Stmts A → Except A

  pub data Excepts (A : Type 0) : Type 0 where
    no_excepts : Excepts A
    except : Except A → Excepts A → Excepts A

abbrev pub IsTry : {A : Type 0} → StmtForm A → Type 0
IsTry (try b hs o l) = ⊤
IsTry _ = ⊥

-- the simple statements (Python Language Reference, Simple statements)
abbrev pub IsSimple : {A : Type 0} → StmtForm A → Type 0
IsSimple (choose bs o) = ⊥
IsSimple (while e b) = ⊥
IsSimple (for w b) = ⊥
IsSimple (try b hs o l) = ⊥
IsSimple (define k n ps b) = ⊥
IsSimple (class n b) = ⊥
IsSimple _ = ⊤
