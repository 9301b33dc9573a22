-- Expressions as values, without where they lie in memory (Python Language Reference, Expressions). Names are of any type A:
-- places among the names of a text, places among the names of a run, or lists of characters. Texts are lists of characters.
-- Each kind of list that is a part of an expression has a type of its own.
use Rattle.std.specs.Prelude.{ℕ, ℤ, List, Option}
use Rattle.rp_base.specs.declared.value.Line.{Line}
use Rattle.rp_base.specs.declared.operator.BinOp.{BinOp}
use Rattle.rp_base.specs.declared.operator.UnOp.{UnOp}
use Rattle.rp_tree.specs.declared.parts.Guard.{Guard}
use Rattle.rp_tree.specs.declared.parts.Const.{Const}
use Rattle.rp_tree.specs.declared.parts.Test.{Test}
pub use Rattle.rp_tree.specs.declared.parts.Named.{Named}

mutual
  -- an expression, with the line of its first token
  pub data Expr (A : Type 0) : Type 0 where
    node : Line → Form A → Expr A

  pub data Form (A : Type 0) : Type 0 where
    name : A → Form A
    int : ℤ → Form A
    text : List ℕ → Form A
    const : Const → Form A
    tuple : Exprs A → Form A
    list : Exprs A → Form A
    dict : Pairs A → Form A
    -- a comprehension: the number of its code block, what it lists, and its clauses
    list_of : ℕ → Expr A → Clauses A → Form A
    dict_of : ℕ → Expr A → Expr A → Clauses A → Form A
    -- the number of its code block, its parameters, what it gives
    lambda : ℕ → Params A → Expr A → Form A
    -- test, value where true, value where false
    cond : Expr A → Expr A → Expr A → Form A
    or : Exprs A → Form A
    and : Exprs A → Form A
    not : Expr A → Form A
    -- the first operand, then each operator with its right operand
    compare : Expr A → Tests A → Form A
    chain : Expr A → Ops A → Form A
    unary : UnOp → Expr A → Form A
    power : Expr A → Expr A → Form A
    primary : Expr A → Trailers A → Form A

  pub data Exprs (A : Type 0) : Type 0 where
    no_exprs : Exprs A
    expr : Expr A → Exprs A → Exprs A

  -- an expression that may be missing
  pub data Maybe (A : Type 0) : Type 0 where
    none : Maybe A
    some : Expr A → Maybe A

  -- keys with their values
  pub data Pairs (A : Type 0) : Type 0 where
    no_pairs : Pairs A
    pair : Expr A → Expr A → Pairs A → Pairs A

  -- comparison operators with their right operands
  pub data Tests (A : Type 0) : Type 0 where
    no_tests : Tests A
    test : Test → Expr A → Tests A → Tests A

  -- binary operators with their right operands
  pub data Ops (A : Type 0) : Type 0 where
    no_ops : Ops A
    op : BinOp → Expr A → Ops A → Ops A

  -- what is walked, and the tests behind it
  pub data Clause (A : Type 0) : Type 0 where
    a_clause : Walk A → Exprs A → Clause A

  pub data Clauses (A : Type 0) : Type 0 where
    no_clauses : Clauses A
    clause : Clause A → Clauses A → Clauses A

  -- target, iterable, mark
  pub data Walk (A : Type 0) : Type 0 where
    a_walk : Target A → Expr A → Option Guard → Walk A

  pub data Target (A : Type 0) : Type 0 where
    to_place : Place A → Target A
    group : Targets A → Target A

  pub data Targets (A : Type 0) : Type 0 where
    no_targets : Targets A
    target : Target A → Targets A → Targets A

  -- a name, an attribute of an object, an item of a container at a key
  pub data Place (A : Type 0) : Type 0 where
    to_name : Named A → Place A
    to_attr : Expr A → Named A → Option Guard → Place A
    to_item : Expr A → Expr A → Option Guard → Place A

  -- the parameters without a star, then '*NAME', then '**NAME'
  pub data Params (A : Type 0) : Type 0 where
    params : Plain A → Option (Named A) → Option (Named A) → Params A

  -- parameters without a star, with their defaults
  pub data Plain (A : Type 0) : Type 0 where
    no_plain : Plain A
    plain : Named A → Maybe A → Plain A → Plain A

  pub data Trailer (A : Type 0) : Type 0 where
    attr : Named A → Option Guard → Trailer A
    item : Expr A → Option Guard → Trailer A
    slice : Maybe A → Maybe A → Maybe A → Option Guard → Trailer A
    call : Args A → Option Guard → Trailer A

  pub data Trailers (A : Type 0) : Type 0 where
    no_trailers : Trailers A
    trailer : Trailer A → Trailers A → Trailers A

  -- 'e', '*e', 'NAME=e', '**e'
  pub data Arg (A : Type 0) : Type 0 where
    value : Expr A → Arg A
    star : Expr A → Arg A
    key : A → Expr A → Arg A
    stars : Expr A → Arg A

  pub data Args (A : Type 0) : Type 0 where
    no_args : Args A
    arg : Arg A → Args A → Args A
