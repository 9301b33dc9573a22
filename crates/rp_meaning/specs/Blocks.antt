-- The functions of a tree by the numbers that its nodes carry (Python Language Reference, Structure of a program): what a call of each runs. The
-- program itself is block 0; a comprehension has a number and is called by nothing.
use Rattle.std.specs.Prelude.{ℕ, List, [], ◌∷◌, ◌++◌, nat_eq, Option}
use Rattle.std.specs.Map.{lookup}
use Rattle.std.specs.Option.{option_map_or}
use Rattle.rp_tree.specs.Expressions as tree
use Rattle.rp_tree.specs.Statements as stmt_tree

-- the parameters of a function, and what a call of it runs
pub data Code : Type 0 where
  def : tree.Params → stmt_tree.Stmts → Code
  lambda : tree.Params → tree.Expr → Code

-- the functions in a part of a tree, each with its number
abbrev pub Codes : Type 0
Codes = List (ℕ × Code)

abbrev mutual
  pub of_expr : tree.Expr → Codes
  of_expr (tree.node line x) = of_form x

  pub of_form : tree.Form → Codes
  of_form (tree.name n) = []
  of_form (tree.int z) = []
  of_form (tree.text x) = []
  of_form (tree.const c) = []
  of_form (tree.tuple es) = of_exprs es
  of_form (tree.list es) = of_exprs es
  of_form (tree.dict ps) = of_pairs ps
  of_form (tree.list_of n x cs) = of_expr x ++ of_clauses cs
  of_form (tree.dict_of n k x cs) = of_expr k ++ of_expr x ++ of_clauses cs
  of_form (tree.lambda n ps x) = (n, lambda ps x) ∷ (of_params ps ++ of_expr x)
  of_form (tree.cond x a b) = of_expr x ++ of_expr a ++ of_expr b
  of_form (tree.or es) = of_exprs es
  of_form (tree.and es) = of_exprs es
  of_form (tree.not x) = of_expr x
  of_form (tree.compare x ts) = of_expr x ++ of_tests ts
  of_form (tree.chain x os) = of_expr x ++ of_ops os
  of_form (tree.unary u x) = of_expr x
  of_form (tree.power a b) = of_expr a ++ of_expr b
  of_form (tree.primary x ts) = of_expr x ++ of_trailers ts

  pub of_exprs : tree.Exprs → Codes
  of_exprs tree.no_exprs = []
  of_exprs (tree.expr x xs) = of_expr x ++ of_exprs xs

  pub of_maybe : tree.Maybe → Codes
  of_maybe tree.none = []
  of_maybe (tree.some x) = of_expr x

  pub of_pairs : tree.Pairs → Codes
  of_pairs tree.no_pairs = []
  of_pairs (tree.pair k x ps) = of_expr k ++ of_expr x ++ of_pairs ps

  pub of_tests : tree.Tests → Codes
  of_tests tree.no_tests = []
  of_tests (tree.test o x ts) = of_expr x ++ of_tests ts

  pub of_ops : tree.Ops → Codes
  of_ops tree.no_ops = []
  of_ops (tree.op o x os) = of_expr x ++ of_ops os

  pub of_clause : tree.Clause → Codes
  of_clause (tree.a_clause w es) = of_walk w ++ of_exprs es

  pub of_clauses : tree.Clauses → Codes
  of_clauses tree.no_clauses = []
  of_clauses (tree.clause c cs) = of_clause c ++ of_clauses cs

  pub of_walk : tree.Walk → Codes
  of_walk (tree.a_walk p x g) = of_target p ++ of_expr x

  pub of_target : tree.Target → Codes
  of_target (tree.to_place p) = of_place p
  of_target (tree.group ps) = of_targets ps

  pub of_targets : tree.Targets → Codes
  of_targets tree.no_targets = []
  of_targets (tree.target p ps) = of_target p ++ of_targets ps

  pub of_place : tree.Place → Codes
  of_place (tree.to_name n) = []
  of_place (tree.to_attr x n g) = of_expr x
  of_place (tree.to_item x i g) = of_expr x ++ of_expr i

  pub of_params : tree.Params → Codes
  of_params (tree.params ps l d) = of_plain ps

  pub of_plain : tree.Plain → Codes
  of_plain tree.no_plain = []
  of_plain (tree.plain n x ps) = of_maybe x ++ of_plain ps

  pub of_trailer : tree.Trailer → Codes
  of_trailer (tree.attr n g) = []
  of_trailer (tree.item x g) = of_expr x
  of_trailer (tree.slice a b c g) = of_maybe a ++ of_maybe b ++ of_maybe c
  of_trailer (tree.call as' g) = of_args as'

  pub of_trailers : tree.Trailers → Codes
  of_trailers tree.no_trailers = []
  of_trailers (tree.trailer x ts) = of_trailer x ++ of_trailers ts

  pub of_arg : tree.Arg → Codes
  of_arg (tree.value x) = of_expr x
  of_arg (tree.star x) = of_expr x
  of_arg (tree.key n x) = of_expr x
  of_arg (tree.stars x) = of_expr x

  pub of_args : tree.Args → Codes
  of_args tree.no_args = []
  of_args (tree.arg x xs) = of_arg x ++ of_args xs

abbrev pub of_places : List tree.Place → Codes
of_places [] = []
of_places (p ∷ ps) = of_place p ++ of_places ps

abbrev pub of_option : Option tree.Expr → Codes
of_option x = option_map_or of_expr x []

abbrev mutual
  pub of_stmt : stmt_tree.Stmt → Codes
  of_stmt (stmt_tree.a_stmt line x) = of_stmt_form x

  pub of_stmt_form : stmt_tree.StmtForm → Codes
  of_stmt_form (stmt_tree.evaluate x) = of_expr x
  of_stmt_form (stmt_tree.assign ps x) = of_places ps ++ of_expr x
  of_stmt_form (stmt_tree.unpack p x g) = of_target p ++ of_expr x
  of_stmt_form (stmt_tree.aug p o at x g) = of_place p ++ of_expr x
  of_stmt_form (stmt_tree.del ps) = of_places ps
  of_stmt_form stmt_tree.pass = []
  of_stmt_form stmt_tree.break = []
  of_stmt_form stmt_tree.continue = []
  of_stmt_form (stmt_tree.give_back x) = of_option x
  of_stmt_form (stmt_tree.raise x) = of_option x
  of_stmt_form (stmt_tree.assert x m) = of_expr x ++ of_option m
  of_stmt_form (stmt_tree.global ns) = []
  of_stmt_form (stmt_tree.choose bs o) = of_branches bs ++ of_maybe_stmts o
  of_stmt_form (stmt_tree.while x b) = of_expr x ++ of_stmts b
  of_stmt_form (stmt_tree.for w b) = of_walk w ++ of_stmts b
  of_stmt_form (stmt_tree.try b hs o l) = of_stmts b ++ of_excepts hs ++ of_maybe_stmts o ++ of_maybe_stmts l
  of_stmt_form (stmt_tree.define n x ps b) = (n, def ps b) ∷ (of_params ps ++ of_stmts b)
  of_stmt_form (stmt_tree.class n b) = of_stmts b

  pub of_stmts : stmt_tree.Stmts → Codes
  of_stmts stmt_tree.no_stmts = []
  of_stmts (stmt_tree.stmt x xs) = of_stmt x ++ of_stmts xs

  pub of_maybe_stmts : stmt_tree.MaybeStmts → Codes
  of_maybe_stmts stmt_tree.none = []
  of_maybe_stmts (stmt_tree.some b) = of_stmts b

  pub of_branches : stmt_tree.Branches → Codes
  of_branches stmt_tree.no_branches = []
  of_branches (stmt_tree.branch x b bs) = of_expr x ++ of_stmts b ++ of_branches bs

  pub of_except : stmt_tree.Except → Codes
  of_except (stmt_tree.an_except x n b) = of_option x ++ of_stmts b

  pub of_excepts : stmt_tree.Excepts → Codes
  of_excepts stmt_tree.no_excepts = []
  of_excepts (stmt_tree.except x xs) = of_except x ++ of_excepts xs

-- what stands under a number among some functions
abbrev pub code_in : Codes → ℕ → Option Code
code_in codes n = lookup (nat_eq n) codes
