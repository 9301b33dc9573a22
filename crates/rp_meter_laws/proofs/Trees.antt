-- Every expression, statement and block adds no step.
use Rattle.std.proofs.Common.{List, [], ◌∷◌, map, Option, Some, None}
use Rattle.rp_base.specs.declared.operator.BinOp.{BinOp}
use Rattle.rp_base.specs.declared.value.Rock.TheVariants as rock
use Rattle.rp_base.specs.declared.value.Value.TheVariants as value
use Rattle.rp_tree.specs.Expressions as tree
use Rattle.rp_tree.specs.Statements as stmt_tree
use Rattle.rp_meaning.specs.Meaning as meaning
use Rattle.rp_meaning.specs.State.{broke, continued}
use Rattle.rp_meaning.specs.Statements as stmt_forms
use Rattle.rp_meter_laws.proofs.AtMost.{Keeping}
use Rattle.rp_meter_laws.proofs.Going.{Each, step}
use Rattle.rp_meter_laws.proofs.Forms as form
use Rattle.rp_meter_laws.proofs.Calling as calling
use Rattle.rp_meter_laws.proofs.Parts as part
use Rattle.rp_meter_laws.proofs.Statements as done

mutual
  pub expression : (x : tree.Expr) → Keeping (meaning.eval x)
  expression (tree.node line x) = of_form x

  of_form : (x : tree.Form) → Keeping (meaning.eval_form x)
  of_form (tree.name x) = part.name x
  of_form (tree.int z) = part.constant (value.Rock (rock.Int z))
  of_form (tree.text x) = part.constant (value.Rock (rock.Text x))
  of_form (tree.const c) = part.constant (meaning.constant c)
  of_form (tree.tuple es) = part.tuple (meaning.exprs es) (exprs es)
  of_form (tree.list es) = part.list (meaning.exprs es) (exprs es)
  of_form (tree.dict ps) = part.dict (meaning.pairs ps) (pairs ps)
  of_form (tree.list_of n x cs) = part.list_of n (meaning.clauses cs) (meaning.eval x) (clauses cs) (expression x)
  of_form (tree.dict_of n k x cs) = part.dict_of n (meaning.clauses cs) (meaning.eval k) (meaning.eval x)
      (clauses cs) (expression k) (expression x)
  of_form (tree.lambda n ps x) = part.lambda n (meaning.defaults ps) (defaults ps)
  of_form (tree.cond x a b) = part.cond (meaning.eval x) (meaning.eval a) (meaning.eval b) (expression x)
      (expression a) (expression b)
  of_form (tree.or es) = part.or (meaning.exprs es) (exprs es)
  of_form (tree.and es) = part.and (meaning.exprs es) (exprs es)
  of_form (tree.not x) = part.negated (meaning.eval x) (expression x)
  of_form (tree.compare x ts) = part.compare (meaning.eval x) (meaning.tests ts) (expression x) (tests ts)
  of_form (tree.chain x os) = part.chain (meaning.eval x) (meaning.ops os) (expression x) (ops os)
  of_form (tree.unary u x) = part.unary u (meaning.eval x) (expression x)
  of_form (tree.power a b) = part.power (meaning.eval a) (meaning.eval b) (expression a) (expression b)
  of_form (tree.primary x ts) = part.primary (meaning.eval x) (meaning.trailers ts) (expression x) (trailers ts)

  pub exprs : (es : tree.Exprs) → Each (λ m. Keeping m) (meaning.exprs es)
  exprs tree.no_exprs = tt
  exprs (tree.expr x xs) = (expression x, exprs xs)

  maybe : (x : tree.Maybe) → part.OptionKeeps (meaning.maybe x)
  maybe tree.none = tt
  maybe (tree.some x) = expression x

  pairs : (ps : tree.Pairs) → Each part.PairKeeps (meaning.pairs ps)
  pairs tree.no_pairs = tt
  pairs (tree.pair k x ps) = ((expression k, expression x), pairs ps)

  tests : (ts : tree.Tests) → Each (λ t. Keeping t.1) (meaning.tests ts)
  tests tree.no_tests = tt
  tests (tree.test o x ts) = (expression x, tests ts)

  ops : (os : tree.Ops) → Each (λ o. Keeping o.1) (meaning.ops os)
  ops tree.no_ops = tt
  ops (tree.op o x os) = (expression x, ops os)

  clause : (x : tree.Clause) → part.ClauseKeeps (meaning.clause x)
  clause (tree.a_clause (tree.a_walk p x g) es) = record { of = expression x; bind = target p; tests = exprs es }

  clauses : (cs : tree.Clauses) → Each part.ClauseKeeps (meaning.clauses cs)
  clauses tree.no_clauses = tt
  clauses (tree.clause x xs) = (clause x, clauses xs)

  target : (p : tree.Target) → done.StoreKeeps (meaning.target p)
  target (tree.to_place p) = place p
  target (tree.group ps) = done.unpack (meaning.targets ps) (targets ps)

  targets : (ps : tree.Targets) → Each done.StoreKeeps (meaning.targets ps)
  targets tree.no_targets = tt
  targets (tree.target p ps) = (target p, targets ps)

  place : (p : tree.Place) → done.StoreKeeps (meaning.place p)
  place (tree.to_name x) = done.store_name x.name
  place (tree.to_attr x a g) = done.store_attribute (meaning.eval x) a.name (expression x)
  place (tree.to_item x i g) = done.store_item (meaning.eval x) (meaning.eval i) (expression x) (expression i)

  defaults : (ps : tree.Params) → Each (λ m. Keeping m) (meaning.defaults ps)
  defaults (tree.params ps l k) = plain ps

  plain : (ps : tree.Plain) → Each (λ m. Keeping m) (meaning.plain ps)
  plain tree.no_plain = tt
  plain (tree.plain x tree.none ps) = plain ps
  plain (tree.plain x (tree.some y) ps) = (expression y, plain ps)

  trailer : (x : tree.Trailer) → part.TrailerKeeps (meaning.trailer x)
  trailer (tree.attr x g) = part.attribute x.name
  trailer (tree.item x g) = part.item (meaning.eval x) (expression x)
  trailer (tree.slice a b c g) = part.slice (meaning.maybe a) (meaning.maybe b) (meaning.maybe c) (maybe a)
      (maybe b) (maybe c)
  trailer (tree.call as' g) = part.call (meaning.args as') (args as')

  trailers : (ts : tree.Trailers) → Each part.TrailerKeeps (meaning.trailers ts)
  trailers tree.no_trailers = tt
  trailers (tree.trailer x xs) = (trailer x, trailers xs)

  arg : (x : tree.Arg) → calling.ArgumentKeeps (meaning.arg x)
  arg (tree.value x) = calling.plain_argument (meaning.eval x) (expression x)
  arg (tree.star x) = calling.star_argument (meaning.eval x) (expression x)
  arg (tree.key k x) = calling.named_argument k (meaning.eval x) (expression x)
  arg (tree.stars x) = calling.stars_argument (meaning.eval x) (expression x)

  args : (as' : tree.Args) → Each calling.ArgumentKeeps (meaning.args as')
  args tree.no_args = tt
  args (tree.arg x xs) = (arg x, args xs)

option : (x : Option tree.Expr) → part.OptionKeeps (meaning.option x)
option None = tt
option (Some x) = expression x

augment : (p : tree.Place) (o : BinOp) (x : tree.Expr) → Keeping (meaning.augment p o (meaning.eval x))
augment (tree.to_name y) o x = done.augment_name y.name o (meaning.eval x) (expression x)
augment (tree.to_attr y a g) o x = done.augment_attribute (meaning.eval y) a.name o (meaning.eval x) (expression y)
    (expression x)
augment (tree.to_item y i g) o x = done.augment_item (meaning.eval y) (meaning.eval i) o (meaning.eval x)
    (expression y) (expression i) (expression x)

delete : (p : tree.Place) → Keeping (meaning.delete p)
delete (tree.to_name x) = form.unbound x.name
delete (tree.to_attr x a g) = done.delete_attribute (meaning.eval x) a.name (expression x)
delete (tree.to_item x i g) = done.delete_item (meaning.eval x) (meaning.eval i) (expression x) (expression i)

deletes : (ps : List tree.Place) → Each (λ d. Keeping d) (map meaning.delete ps)
deletes [] = tt
deletes (p ∷ ps) = (delete p, deletes ps)

places : (ps : List tree.Place) → Each done.StoreKeeps (map meaning.place ps)
places [] = tt
places (p ∷ ps) = (place p, places ps)

mutual
  pub statement : (x : stmt_tree.Stmt) → Keeping (meaning.exec x)
  statement (stmt_tree.a_stmt line x) k f c s h = step s h (λ s h. statement_form x k f c s h)

  statement_form : (x : stmt_tree.StmtForm) → Keeping (meaning.exec_form x)
  statement_form (stmt_tree.evaluate x) = done.evaluate (meaning.eval x) (expression x)
  statement_form (stmt_tree.assign ps x) = done.assign (meaning.eval x)
      (stmt_forms.store_all (map meaning.place ps)) (expression x) (done.store_all (map meaning.place ps) (places ps))
  statement_form (stmt_tree.unpack p x g) = done.assign (meaning.eval x) (meaning.target p) (expression x) (target p)
  statement_form (stmt_tree.aug p op at x g) = augment p op x
  statement_form (stmt_tree.del ps) = done.block (map meaning.delete ps) (deletes ps)
  statement_form stmt_tree.pass = done.nothing
  statement_form stmt_tree.break = done.leave broke
  statement_form stmt_tree.continue = done.leave continued
  statement_form (stmt_tree.give_back x) = done.give_back (meaning.option x) (option x)
  statement_form (stmt_tree.raise x) = done.raise (meaning.option x) (option x)
  statement_form (stmt_tree.assert x y) = done.assert (meaning.eval x) (meaning.option y) (expression x) (option y)
  statement_form (stmt_tree.global ns) = done.nothing
  statement_form (stmt_tree.choose bs o) = done.choose (meaning.branches bs) (meaning.maybe_block o) (branches bs)
      (maybe_block o)
  statement_form (stmt_tree.while x b) = done.while (meaning.eval x) (meaning.block b) (expression x) (block b)
  statement_form (stmt_tree.for (tree.a_walk p x g) b) = done.for (meaning.eval x) (meaning.target p)
      (meaning.block b) (expression x) (target p) (block b)
  statement_form (stmt_tree.try b hs o l) =
      done.try (meaning.block b) (meaning.handlers hs) (meaning.maybe_block o) (meaning.maybe_block l) (block b)
      (handlers hs) (maybe_block o) (maybe_block l)
  statement_form (stmt_tree.define n x ps b) = done.define x.name n (meaning.defaults ps) (defaults ps)
  statement_form (stmt_tree.class x b) = done.class x.name (meaning.class_parts b) (class_parts b)

  stmts : (b : stmt_tree.Stmts) → Each (λ d. Keeping d) (meaning.stmts b)
  stmts stmt_tree.no_stmts = tt
  stmts (stmt_tree.stmt x xs) = (statement x, stmts xs)

  pub block : (b : stmt_tree.Stmts) → Keeping (meaning.block b)
  block stmt_tree.no_stmts = done.block [] tt
  block (stmt_tree.stmt x xs) = done.block (meaning.exec x ∷ meaning.stmts xs) (statement x, stmts xs)

  maybe_block : (b : stmt_tree.MaybeStmts) → Keeping (meaning.maybe_block b)
  maybe_block stmt_tree.none = done.nothing
  maybe_block (stmt_tree.some b) = block b

  branches : (bs : stmt_tree.Branches) → Each done.BranchKeeps (meaning.branches bs)
  branches stmt_tree.no_branches = tt
  branches (stmt_tree.branch x b bs) = ((expression x, block b), branches bs)

  handler : (x : stmt_tree.Except) → done.HandlerKeeps (meaning.handler x)
  handler (stmt_tree.an_except x k b) = record { kind = option x; body = block b }

  handlers : (hs : stmt_tree.Excepts) → Each done.HandlerKeeps (meaning.handlers hs)
  handlers stmt_tree.no_excepts = tt
  handlers (stmt_tree.except x xs) = (handler x, handlers xs)

  class_part : (x : stmt_tree.StmtForm) → done.PartKeeps (meaning.class_part x)
  class_part (stmt_tree.define n x ps b) = part.makes_function (Some x.name) n (meaning.defaults ps) (defaults ps)
  class_part (stmt_tree.evaluate x) = done.evaluate (meaning.eval x) (expression x)
  class_part _ = done.nothing

  class_parts : (b : stmt_tree.Stmts) → Each done.PartKeeps (meaning.class_parts b)
  class_parts stmt_tree.no_stmts = tt
  class_parts (stmt_tree.stmt (stmt_tree.a_stmt line x) xs) = (class_part x, class_parts xs)
