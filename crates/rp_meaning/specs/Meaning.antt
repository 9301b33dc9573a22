-- The direct meaning of trees: what each node does, from what its parts do (Python Language Reference, Expressions, Simple statements, Compound
-- statements). Lines and marks mean nothing.
use Rattle.std.specs.Prelude.{List, [], ◌∷◌, map, option_map, Option, Some, None}
use Rattle.rp_base.specs.declared.operator.BinOp.{BinOp}
use Rattle.rp_base.specs.declared.value.Rock.TheVariants as rock
use Rattle.rp_base.specs.declared.value.Value.{Value}
use Rattle.rp_base.specs.declared.value.Value.TheVariants as value
use Rattle.rp_tree.specs.declared.parts.Const.{Const}
use Rattle.rp_tree.specs.declared.parts.Const.TheVariants as const
use Rattle.rp_tree.specs.declared.parts.Test.{Test}
use Rattle.rp_tree.specs.Expressions as tree
use Rattle.rp_tree.specs.Statements as stmt_tree
use Rattle.rp_meaning.specs.State.{broke, continued, stepped}
use Rattle.rp_meaning.specs.Frame.{Meaning, Doing, bind_name, unbind_name}
use Rattle.rp_meaning.specs.Calls as call
use Rattle.rp_meaning.specs.Classes as class
use Rattle.rp_meaning.specs.Exceptions as exception
use Rattle.rp_meaning.specs.Expressions as forms
use Rattle.rp_meaning.specs.Statements as stmt_forms

-- the literals None, True and False
abbrev pub constant : Const → Value
constant const.Nil = forms.nil
constant (const.Truth b) = forms.truth b

abbrev mutual
  pub eval : tree.Expr → Meaning
  eval (tree.node line x) = eval_form x

  pub eval_form : tree.Form → Meaning
  eval_form (tree.name x) = forms.name x
  eval_form (tree.int z) = forms.constant (value.Rock (rock.Int z))
  eval_form (tree.text x) = forms.constant (value.Rock (rock.Text x))
  eval_form (tree.const c) = forms.constant (constant c)
  eval_form (tree.tuple es) = forms.tuple (exprs es)
  eval_form (tree.list es) = forms.list (exprs es)
  eval_form (tree.dict ps) = forms.dict (pairs ps)
  eval_form (tree.list_of n x cs) = forms.list_of n (clauses cs) (eval x)
  eval_form (tree.dict_of n k x cs) = forms.dict_of n (clauses cs) (eval k) (eval x)
  eval_form (tree.lambda n ps x) = forms.lambda n (defaults ps)
  eval_form (tree.cond x a b) = forms.cond (eval x) (eval a) (eval b)
  eval_form (tree.or es) = forms.or (exprs es)
  eval_form (tree.and es) = forms.and (exprs es)
  eval_form (tree.not x) = forms.negated (eval x)
  eval_form (tree.compare x ts) = forms.compare (eval x) (tests ts)
  eval_form (tree.chain x os) = forms.chain (eval x) (ops os)
  eval_form (tree.unary u x) = forms.unary u (eval x)
  eval_form (tree.power a b) = forms.power (eval a) (eval b)
  eval_form (tree.primary x ts) = forms.primary (eval x) (trailers ts)

  pub exprs : tree.Exprs → List Meaning
  exprs tree.no_exprs = []
  exprs (tree.expr x xs) = eval x ∷ exprs xs

  pub maybe : tree.Maybe → Option Meaning
  maybe tree.none = None
  maybe (tree.some x) = Some (eval x)

  pub pairs : tree.Pairs → List (Meaning × Meaning)
  pairs tree.no_pairs = []
  pairs (tree.pair k x ps) = (eval k, eval x) ∷ pairs ps

  pub tests : tree.Tests → List (Test × Meaning)
  tests tree.no_tests = []
  tests (tree.test o x ts) = (o, eval x) ∷ tests ts

  pub ops : tree.Ops → List (BinOp × Meaning)
  ops tree.no_ops = []
  ops (tree.op o x os) = (o, eval x) ∷ ops os

  pub clause : tree.Clause → forms.Clause
  clause (tree.a_clause (tree.a_walk p x g) es) = record { of = eval x; bind = target p; tests = exprs es }

  pub clauses : tree.Clauses → List forms.Clause
  clauses tree.no_clauses = []
  clauses (tree.clause c cs) = clause c ∷ clauses cs

  pub target : tree.Target → stmt_forms.Store
  target (tree.to_place p) = place p
  target (tree.group ps) = stmt_forms.unpack (targets ps)

  pub targets : tree.Targets → List stmt_forms.Store
  targets tree.no_targets = []
  targets (tree.target p ps) = target p ∷ targets ps

  pub place : tree.Place → stmt_forms.Store
  place (tree.to_name x) = bind_name x.name
  place (tree.to_attr x a g) = stmt_forms.store_attribute (eval x) a.name
  place (tree.to_item x i g) = stmt_forms.store_item (eval x) (eval i)

  pub defaults : tree.Params → List Meaning
  defaults (tree.params ps l k) = plain ps

  pub plain : tree.Plain → List Meaning
  plain tree.no_plain = []
  plain (tree.plain x tree.none ps) = plain ps
  plain (tree.plain x (tree.some y) ps) = eval y ∷ plain ps

  pub trailer : tree.Trailer → Value → Meaning
  trailer (tree.attr x g) = forms.attribute x.name
  trailer (tree.item x g) = forms.item (eval x)
  trailer (tree.slice a b c g) = forms.slice (maybe a) (maybe b) (maybe c)
  trailer (tree.call as' g) = forms.call (args as')

  pub trailers : tree.Trailers → List (Value → Meaning)
  trailers tree.no_trailers = []
  trailers (tree.trailer x ts) = trailer x ∷ trailers ts

  pub arg : tree.Arg → call.Argument
  arg (tree.value x) = call.plain_argument (eval x)
  arg (tree.star x) = call.star_argument (eval x)
  arg (tree.key k x) = call.named_argument k (eval x)
  arg (tree.stars x) = call.stars_argument (eval x)

  pub args : tree.Args → List call.Argument
  args tree.no_args = []
  args (tree.arg x xs) = arg x ∷ args xs

-- an expression that may be missing
abbrev pub option : Option tree.Expr → Option Meaning
option x = option_map eval x

-- an augmented assignment, by its place
abbrev pub augment : tree.Place → BinOp → Meaning → Doing
augment (tree.to_name x) op m = stmt_forms.augment_name x.name op m
augment (tree.to_attr x a g) op m = stmt_forms.augment_attribute (eval x) a.name op m
augment (tree.to_item x i g) op m = stmt_forms.augment_item (eval x) (eval i) op m

abbrev pub delete : tree.Place → Doing
delete (tree.to_name x) = unbind_name x.name
delete (tree.to_attr x a g) = stmt_forms.delete_attribute (eval x) a.name
delete (tree.to_item x i g) = stmt_forms.delete_item (eval x) (eval i)

abbrev mutual
  pub exec : stmt_tree.Stmt → Doing
  exec (stmt_tree.a_stmt line x) frame s = stepped s (exec_form x frame)

  pub exec_form : stmt_tree.StmtForm → Doing
  exec_form (stmt_tree.evaluate x) = stmt_forms.evaluate (eval x)
  exec_form (stmt_tree.assign ps x) = stmt_forms.assign (eval x) (stmt_forms.store_all (map place ps))
  exec_form (stmt_tree.unpack p x g) = stmt_forms.assign (eval x) (target p)
  exec_form (stmt_tree.aug p op at x g) = augment p op (eval x)
  exec_form (stmt_tree.del ps) = stmt_forms.block (map delete ps)
  exec_form stmt_tree.pass = stmt_forms.nothing
  exec_form stmt_tree.break = stmt_forms.leave broke
  exec_form stmt_tree.continue = stmt_forms.leave continued
  exec_form (stmt_tree.give_back x) = stmt_forms.give_back (option x)
  exec_form (stmt_tree.raise x) = stmt_forms.raise (option x)
  exec_form (stmt_tree.assert x m) = stmt_forms.assert (eval x) (option m)
  exec_form (stmt_tree.global ns) = stmt_forms.nothing
  exec_form (stmt_tree.choose bs o) = stmt_forms.choose (branches bs) (maybe_block o)
  exec_form (stmt_tree.while x b) = stmt_forms.while (eval x) (stmt_forms.block (stmts b))
  exec_form (stmt_tree.for (tree.a_walk p x g) b) = stmt_forms.for (eval x) (target p) (stmt_forms.block (stmts b))
  exec_form (stmt_tree.try b hs o l) = exception.try (stmt_forms.block (stmts b)) (handlers hs) (maybe_block o) (maybe_block l)
  exec_form (stmt_tree.define n x ps b) = stmt_forms.define x.name n (defaults ps)
  exec_form (stmt_tree.class x b) = class.class x.name (class_parts b)

  pub stmts : stmt_tree.Stmts → List Doing
  stmts stmt_tree.no_stmts = []
  stmts (stmt_tree.stmt x xs) = exec x ∷ stmts xs

  pub maybe_block : stmt_tree.MaybeStmts → Doing
  maybe_block stmt_tree.none = stmt_forms.nothing
  maybe_block (stmt_tree.some b) = stmt_forms.block (stmts b)

  pub branches : stmt_tree.Branches → List (Meaning × Doing)
  branches stmt_tree.no_branches = []
  branches (stmt_tree.branch x b bs) = (eval x, stmt_forms.block (stmts b)) ∷ branches bs

  pub handler : stmt_tree.Except → exception.Handler
  handler (stmt_tree.an_except x k b) = record { kind = option x; name = option_map (λ k. k.name) k; body = stmt_forms.block (stmts b) }

  pub handlers : stmt_tree.Excepts → List exception.Handler
  handlers stmt_tree.no_excepts = []
  handlers (stmt_tree.except x xs) = handler x ∷ handlers xs

  -- the statements of a class block: functions, `pass` and text literals
  pub class_part : stmt_tree.StmtForm → class.Part
  class_part (stmt_tree.define n x ps b) = class.method x.name (forms.makes_function (Some x.name) n (defaults ps))
  class_part (stmt_tree.evaluate x) = class.other (stmt_forms.evaluate (eval x))
  class_part _ = class.other stmt_forms.nothing

  pub class_parts : stmt_tree.Stmts → List class.Part
  class_parts stmt_tree.no_stmts = []
  class_parts (stmt_tree.stmt (stmt_tree.a_stmt line x) xs) = class_part x ∷ class_parts xs

-- the statements of a block
abbrev pub block : stmt_tree.Stmts → Doing
block b = stmt_forms.block (stmts b)
