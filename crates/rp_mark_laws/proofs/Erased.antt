-- A tree means what it means without its marks.
use Rattle.std.proofs.Common.{◌≡◌, refl, ℕ, true, false, List, [], ◌∷◌, drop, is_some, length, map, Option, Some, None, option_map}
use Rattle.std.specs.Option.{option_map_or}
use Rattle.rp_base.specs.declared.operator.BinOp.{BinOp}
use Rattle.rp_base.specs.declared.value.Side.{Side}
use Rattle.rp_base.specs.declared.value.Value.{Value}
use Rattle.rp_calls.specs.Binding.{elements_for, entries_for, filled, no_binding, parameter}
use Rattle.rp_ops.specs.Outcome as plain
use Rattle.rp_tree.specs.Expressions as tree
use Rattle.rp_tree.specs.Statements as stmt_tree
use Rattle.rp_tree.specs.Marks.{no_marks}
use Rattle.rp_tree.specs.Maps as maps
use Rattle.rp_meaning.specs.Binding.{Arguments, all_made, bind, offered, plain_names}
use Rattle.rp_meaning.specs.Classes as class_forms
use Rattle.rp_meaning.specs.Exceptions as exception
use Rattle.rp_meaning.specs.Expressions as forms
use Rattle.rp_meaning.specs.Calls as call
use Rattle.rp_meaning.specs.Frame.{Meaning}
use Rattle.rp_meaning.specs.Meaning as meaning
use Rattle.rp_meaning.specs.Statements as stmt_forms
use Rattle.rp_meaning.specs.State.{stepped}
use Rattle.rp_mark_laws.specs.Unmarked.{StatementsHaveNoMarks}

mutual
  pub expr : (x : tree.Expr) → meaning.eval (maps.map_expr no_marks x) ≡ meaning.eval x
  expr (tree.node line x) = form x

  form : (x : tree.Form) → meaning.eval_form (maps.map_form no_marks x) ≡ meaning.eval_form x
  form (tree.name x) = refl
  form (tree.int z) = refl
  form (tree.text x) = refl
  form (tree.const c) = refl
  form (tree.tuple es) = λ j. forms.tuple (exprs es j)
  form (tree.list es) = λ j. forms.list (exprs es j)
  form (tree.dict ps) = λ j. forms.dict (pairs ps j)
  form (tree.list_of n x cs) = λ j. forms.list_of n (clauses cs j) (expr x j)
  form (tree.dict_of n k x cs) = λ j. forms.dict_of n (clauses cs j) (expr k j) (expr x j)
  form (tree.lambda n ps x) = λ j. forms.lambda n (defaults ps j)
  form (tree.cond x a b) = λ j. forms.cond (expr x j) (expr a j) (expr b j)
  form (tree.or es) = λ j. forms.or (exprs es j)
  form (tree.and es) = λ j. forms.and (exprs es j)
  form (tree.not x) = λ j. forms.negated (expr x j)
  form (tree.compare x ts) = λ j. forms.compare (expr x j) (tests ts j)
  form (tree.chain x os) = λ j. forms.chain (expr x j) (ops os j)
  form (tree.unary u x) = λ j. forms.unary u (expr x j)
  form (tree.power a b) = λ j. forms.power (expr a j) (expr b j)
  form (tree.primary x ts) = λ j. forms.primary (expr x j) (trailers ts j)

  exprs : (xs : tree.Exprs) → meaning.exprs (maps.map_exprs no_marks xs) ≡ meaning.exprs xs
  exprs tree.no_exprs = refl
  exprs (tree.expr x xs) = λ j. expr x j ∷ exprs xs j

  maybe : (x : tree.Maybe) → meaning.maybe (maps.map_maybe no_marks x) ≡ meaning.maybe x
  maybe tree.none = refl
  maybe (tree.some x) = λ j. Some (expr x j)

  pairs : (ps : tree.Pairs) → meaning.pairs (maps.map_pairs no_marks ps) ≡ meaning.pairs ps
  pairs tree.no_pairs = refl
  pairs (tree.pair k x ps) = λ j. (expr k j, expr x j) ∷ pairs ps j

  tests : (ts : tree.Tests) → meaning.tests (maps.map_tests no_marks ts) ≡ meaning.tests ts
  tests tree.no_tests = refl
  tests (tree.test o x ts) = λ j. (o, expr x j) ∷ tests ts j

  ops : (os : tree.Ops) → meaning.ops (maps.map_ops no_marks os) ≡ meaning.ops os
  ops tree.no_ops = refl
  ops (tree.op o x os) = λ j. (o, expr x j) ∷ ops os j

  clause : (c : tree.Clause) → meaning.clause (maps.map_clause no_marks c) ≡ meaning.clause c
  clause (tree.a_clause (tree.a_walk p x g) es) = λ j. record { of = expr x j; bind = target p j; tests = exprs es j }

  clauses : (cs : tree.Clauses) → meaning.clauses (maps.map_clauses no_marks cs) ≡ meaning.clauses cs
  clauses tree.no_clauses = refl
  clauses (tree.clause c cs) = λ j. clause c j ∷ clauses cs j

  target : (p : tree.Target) → meaning.target (maps.map_target no_marks p) ≡ meaning.target p
  target (tree.to_place p) = place p
  target (tree.group ps) = λ j. stmt_forms.unpack (targets ps j)

  targets : (ps : tree.Targets) → meaning.targets (maps.map_targets no_marks ps) ≡ meaning.targets ps
  targets tree.no_targets = refl
  targets (tree.target p ps) = λ j. target p j ∷ targets ps j

  place : (p : tree.Place) → meaning.place (maps.map_place no_marks p) ≡ meaning.place p
  place (tree.to_name x) = refl
  place (tree.to_attr x a g) = λ j. stmt_forms.store_attribute (expr x j) a.name
  place (tree.to_item x i g) = λ j. stmt_forms.store_item (expr x j) (expr i j)

  defaults : (ps : tree.Params) → meaning.defaults (maps.map_params no_marks ps) ≡ meaning.defaults ps
  defaults (tree.params ps l k) = plain_defaults ps

  plain_defaults : (ps : tree.Plain) → meaning.plain (maps.map_plain no_marks ps) ≡ meaning.plain ps
  plain_defaults tree.no_plain = refl
  plain_defaults (tree.plain x tree.none ps) = plain_defaults ps
  plain_defaults (tree.plain x (tree.some y) ps) = λ j. expr y j ∷ plain_defaults ps j

  trailer : (x : tree.Trailer) → meaning.trailer (maps.map_trailer no_marks x) ≡ meaning.trailer x
  trailer (tree.attr x g) = refl
  trailer (tree.item x g) = λ j. forms.item (expr x j)
  trailer (tree.slice a b c g) = λ j. forms.slice (maybe a j) (maybe b j) (maybe c j)
  trailer (tree.call as' g) = λ j. forms.call (args as' j)

  trailers : (ts : tree.Trailers) → meaning.trailers (maps.map_trailers no_marks ts) ≡ meaning.trailers ts
  trailers tree.no_trailers = refl
  trailers (tree.trailer x ts) = λ j. trailer x j ∷ trailers ts j

  arg : (x : tree.Arg) → meaning.arg (maps.map_arg no_marks x) ≡ meaning.arg x
  arg (tree.value x) = λ j. call.plain_argument (expr x j)
  arg (tree.star x) = λ j. call.star_argument (expr x j)
  arg (tree.key k x) = λ j. call.named_argument k (expr x j)
  arg (tree.stars x) = λ j. call.stars_argument (expr x j)

  args : (as' : tree.Args) → meaning.args (maps.map_args no_marks as') ≡ meaning.args as'
  args tree.no_args = refl
  args (tree.arg x xs) = λ j. arg x j ∷ args xs j

option : (x : Option tree.Expr) → meaning.option (option_map (maps.map_expr no_marks) x) ≡ meaning.option x
option None = refl
option (Some x) = λ j. Some (expr x j)

augment : (p : tree.Place) (op : BinOp) (m : Meaning) → meaning.augment (maps.map_place no_marks p) op m ≡ meaning.augment p op m
augment (tree.to_name x) op m = refl
augment (tree.to_attr x a g) op m = λ j. stmt_forms.augment_attribute (expr x j) a.name op m
augment (tree.to_item x i g) op m = λ j. stmt_forms.augment_item (expr x j) (expr i j) op m

delete : (p : tree.Place) → meaning.delete (maps.map_place no_marks p) ≡ meaning.delete p
delete (tree.to_name x) = refl
delete (tree.to_attr x a g) = λ j. stmt_forms.delete_attribute (expr x j) a.name
delete (tree.to_item x i g) = λ j. stmt_forms.delete_item (expr x j) (expr i j)

deletes : (ps : List tree.Place) → map meaning.delete (map (maps.map_place no_marks) ps) ≡ map meaning.delete ps
deletes [] = refl
deletes (p ∷ ps) = λ j. delete p j ∷ deletes ps j

places : (ps : List tree.Place) → map meaning.place (map (maps.map_place no_marks) ps) ≡ map meaning.place ps
places [] = refl
places (p ∷ ps) = λ j. place p j ∷ places ps j

mutual
  pub stmt : (x : stmt_tree.Stmt) → meaning.exec (maps.map_stmt no_marks x) ≡ meaning.exec x
  stmt (stmt_tree.a_stmt line x) = λ j frame s. stepped s (stmt_form x j frame)

  stmt_form : (x : stmt_tree.StmtForm) → meaning.exec_form (maps.map_stmt_form no_marks x) ≡ meaning.exec_form x
  stmt_form (stmt_tree.evaluate x) = λ j. stmt_forms.evaluate (expr x j)
  stmt_form (stmt_tree.assign ps x) = λ j. stmt_forms.assign (expr x j) (stmt_forms.store_all (places ps j))
  stmt_form (stmt_tree.unpack p x g) = λ j. stmt_forms.assign (expr x j) (target p j)
  stmt_form (stmt_tree.aug p op at x g) = λ j. augment p op (expr x j) j
  stmt_form (stmt_tree.del ps) = λ j. stmt_forms.block (deletes ps j)
  stmt_form stmt_tree.pass = refl
  stmt_form stmt_tree.break = refl
  stmt_form stmt_tree.continue = refl
  stmt_form (stmt_tree.give_back x) = λ j. stmt_forms.give_back (option x j)
  stmt_form (stmt_tree.raise x) = λ j. stmt_forms.raise (option x j)
  stmt_form (stmt_tree.assert x m) = λ j. stmt_forms.assert (expr x j) (option m j)
  stmt_form (stmt_tree.global ns) = refl
  stmt_form (stmt_tree.choose bs o) = λ j. stmt_forms.choose (branches bs j) (maybe_block o j)
  stmt_form (stmt_tree.while x b) = λ j. stmt_forms.while (expr x j) (stmt_forms.block (stmts b j))
  stmt_form (stmt_tree.for (tree.a_walk p x g) b) = λ j. stmt_forms.for (expr x j) (target p j) (stmt_forms.block (stmts b j))
  stmt_form (stmt_tree.try b hs o l) = λ j.
      exception.try (stmt_forms.block (stmts b j)) (handlers hs j) (maybe_block o j) (maybe_block l j)
  stmt_form (stmt_tree.define n x ps b) = λ j. stmt_forms.define x.name n (defaults ps j)
  stmt_form (stmt_tree.class x b) = λ j. class_forms.class x.name (class_parts b j)

  pub stmts : (b : stmt_tree.Stmts) → meaning.stmts (maps.map_stmts no_marks b) ≡ meaning.stmts b
  stmts stmt_tree.no_stmts = refl
  stmts (stmt_tree.stmt x xs) = λ j. stmt x j ∷ stmts xs j

  maybe_block : (b : stmt_tree.MaybeStmts) → meaning.maybe_block (maps.map_maybe_stmts no_marks b) ≡ meaning.maybe_block b
  maybe_block stmt_tree.none = refl
  maybe_block (stmt_tree.some b) = λ j. stmt_forms.block (stmts b j)

  branches : (bs : stmt_tree.Branches) → meaning.branches (maps.map_branches no_marks bs) ≡ meaning.branches bs
  branches stmt_tree.no_branches = refl
  branches (stmt_tree.branch x b bs) = λ j. (expr x j, stmt_forms.block (stmts b j)) ∷ branches bs j

  handler : (x : stmt_tree.Except) → meaning.handler (maps.map_except no_marks x) ≡ meaning.handler x
  handler (stmt_tree.an_except x None b) = λ j. record { kind = option x j; name = None; body = stmt_forms.block (stmts b j) }
  handler (stmt_tree.an_except x (Some k) b) = λ j. record { kind = option x j; name = Some k.name; body = stmt_forms.block (stmts b j) }

  handlers : (hs : stmt_tree.Excepts) → meaning.handlers (maps.map_excepts no_marks hs) ≡ meaning.handlers hs
  handlers stmt_tree.no_excepts = refl
  handlers (stmt_tree.except x xs) = λ j. handler x j ∷ handlers xs j

  class_part : (x : stmt_tree.StmtForm) → meaning.class_part (maps.map_stmt_form no_marks x) ≡ meaning.class_part x
  class_part (stmt_tree.define n x ps b) = λ j. class_forms.method x.name (forms.makes_function (Some x.name) n (defaults ps j))
  class_part (stmt_tree.evaluate x) = λ j. class_forms.other (stmt_forms.evaluate (expr x j))
  class_part _ = refl

  class_parts : (b : stmt_tree.Stmts) → meaning.class_parts (maps.map_stmts no_marks b) ≡ meaning.class_parts b
  class_parts stmt_tree.no_stmts = refl
  class_parts (stmt_tree.stmt (stmt_tree.a_stmt line x) xs) = λ j. class_part x j ∷ class_parts xs j

pub statements-have-no-marks : StatementsHaveNoMarks
statements-have-no-marks x = stmt x

-- and arguments are bound to its parameters alike

names : (ps : tree.Plain) → plain_names (maps.map_plain no_marks ps) ≡ plain_names ps
names tree.no_plain = refl
names (tree.plain n x ps) = λ j. (n, None) ∷ names ps j

offers : (words : List (List ℕ)) (ps : tree.Plain) (args given : List Value) → offered words (maps.map_plain no_marks ps) args given ≡ offered words ps args given
offers words tree.no_plain args given = refl
offers words (tree.plain n tree.none ps) args given = λ j. parameter words n false args given ∷ offers words ps (drop 1 args) given j
offers words (tree.plain n (tree.some x) ps) args given = λ j.
    parameter words n true args given ∷ offers words ps (drop 1 args) (drop 1 given) j

there : (n : Option tree.Named) → is_some (option_map (maps.map_named no_marks) n) ≡ is_some n
there None = refl
there (Some n) = refl

pub binds : (side : Side) (words : List (List ℕ)) (ps : tree.Params) (given : List Value) (a : Arguments) (s : plain.State)
    → bind side words (maps.map_params no_marks ps) given a s ≡ bind side words ps given a s
binds side words (tree.params ps list dict) given a s = λ j.
    option_map_or (λ rest.
    option_map_or (λ values.
    option_map_or (λ es. all_made side (there list j) (there dict j) values rest es s)
    (entries_for (there dict j) words (names ps j) a.named) (no_binding s))
    (filled (offers words ps a.plain given j) a.named) (no_binding s))
    (elements_for (there list j) (length (names ps j)) a.plain) (no_binding s)
