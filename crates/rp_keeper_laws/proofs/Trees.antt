-- Every expression, statement and block keeps what is kept, where its functions and blocks are the program's.
use Rattle.std.proofs.Common.{ℕ, List, [], ◌∷◌, ◌++◌, map, Option, Some, None}
use Rattle.rp_base.specs.declared.operator.BinOp.{BinOp}
use Rattle.rp_base.specs.declared.value.Rock.TheVariants as rock
use Rattle.rp_base.specs.declared.value.Side.{Side}
use Rattle.rp_tree.specs.declared.parts.Const.TheVariants as const
use Rattle.rp_tree.specs.Expressions as tree
use Rattle.rp_tree.specs.Statements as stmt_tree
use Rattle.rp_scope.specs.Blocks as blocks
use Rattle.rp_meaning.specs.Blocks as codes
use Rattle.rp_meaning.specs.Blocks.{Codes}
use Rattle.rp_meaning.specs.Meaning as meaning
use Rattle.rp_meaning.specs.State.{broke, continued}
use Rattle.rp_meaning.specs.Statements as stmt_forms
use Rattle.rp_apart_laws.specs.Apart.{Each}
use Rattle.rp_keeper_laws.specs.Blocks as known
use Rattle.rp_keeper_laws.specs.Blocks.{Around, telling_around}
use Rattle.rp_keeper_laws.specs.Keepers.{Keeper}
use Rattle.rp_keeper_laws.proofs.Going.{Spot, step}
use Rattle.rp_keeper_laws.proofs.Forms as form
use Rattle.rp_keeper_laws.proofs.Calling as calling
use Rattle.rp_keeper_laws.proofs.Parts as part
use Rattle.rp_keeper_laws.proofs.Parts.{inside}
use Rattle.rp_keeper_laws.proofs.Statements as done

-- what holds of the functions and the blocks of a part
abbrev pub Has : Keeper → Side → Codes → List Around → Type 0
Has k side cs bs = known.Has (k.Function side) (k.Block side) cs bs

pub each_left : {A : Type 0} (P : A → Type 0) (xs ys : List A) → Each P (xs ++ ys) → Each P xs
each_left P [] ys h = tt
each_left P (x ∷ xs) ys h = (h.0, each_left P xs ys h.1)

pub each_right : {A : Type 0} (P : A → Type 0) (xs ys : List A) → Each P (xs ++ ys) → Each P ys
each_right P [] ys h = h
each_right P (x ∷ xs) ys h = each_right P xs ys h.1

-- of both parts of a part
pub left : {P : ℕ × codes.Code → Type 0} {Q : Around → Type 0} {as' : Codes} (bs : Codes) {cs : List Around}
    (ds : List Around) → known.Has P Q (as' ++ bs) (cs ++ ds) → known.Has P Q as' cs
left {P} {Q} {as'} bs {cs} ds h =
    record { functions = each_left P as' bs h.functions; blocks = each_left Q cs ds h.blocks }

pub right : {P : ℕ × codes.Code → Type 0} {Q : Around → Type 0} (as' : Codes) {bs : Codes} (cs : List Around)
    {ds : List Around} → known.Has P Q (as' ++ bs) (cs ++ ds) → known.Has P Q bs ds
right {P} {Q} as' {bs} cs {ds} h =
    record { functions = each_right P as' bs h.functions; blocks = each_right Q cs ds h.blocks }

-- of what stands in a block that is the first
pub behind_block : {P : ℕ × codes.Code → Type 0} {Q : Around → Type 0} {as' : Codes} {c : Around} {cs : List Around}
    → known.Has P Q as' (c ∷ cs) → known.Has P Q as' cs
behind_block h = record { functions = h.functions; blocks = h.blocks.1 }

-- and in a function that is the first
pub behind_function : {P : ℕ × codes.Code → Type 0} {Q : Around
    → Type 0} {a : ℕ × codes.Code} {as' : Codes} {c : Around}
    {cs : List Around} → known.Has P Q (a ∷ as') (c ∷ cs) → known.Has P Q as' cs
behind_function h = record { functions = h.functions.1; blocks = h.blocks.1 }

-- the value where a test is true is told of before the test, and stands behind it
pub first_swapped : {P : ℕ × codes.Code → Type 0} {Q : Around → Type 0} {xs : Codes} (as' bs : Codes) {ys : List Around}
    (cs ds : List Around) → known.Has P Q (xs ++ as' ++ bs) (cs ++ ys ++ ds) → known.Has P Q xs ys
first_swapped {P} {Q} {xs} as' bs {ys} cs ds h = record {
  functions = each_left P xs as' (each_left P (xs ++ as') bs h.functions);
  blocks = each_right Q cs ys (each_left Q (cs ++ ys) ds h.blocks);
}

pub second_swapped : {P : ℕ × codes.Code → Type 0} {Q : Around → Type 0} (xs : Codes) {as' : Codes} (bs : Codes)
    (ys : List Around) {cs : List Around} (ds : List Around) → known.Has P Q (xs ++ as' ++ bs) (cs ++ ys ++ ds)
    → known.Has P Q as' cs
second_swapped {P} {Q} xs {as'} bs ys {cs} ds h = record {
  functions = each_right P xs as' (each_left P (xs ++ as') bs h.functions);
  blocks = each_left Q cs ys (each_left Q (cs ++ ys) ds h.blocks);
}

mutual
  pub expression : (k : Keeper) (t : Spot) (x : tree.Expr)
      → Has k t.side (codes.of_expr x) (blocks.expr_blocks telling_around t.block x)
      → part.Means k t (meaning.eval x)
  expression k t (tree.node line x) h = of_form k t x h

  of_form : (k : Keeper) (t : Spot) (x : tree.Form)
      → Has k t.side (codes.of_form x) (blocks.form_blocks telling_around t.block x)
      → part.Means k t (meaning.eval_form x)
  of_form k t (tree.name x) h = part.name x
  of_form k t (tree.int z) h = part.constant (rock.Int z)
  of_form k t (tree.text x) h = part.constant (rock.Text x)
  of_form k t (tree.const const.Nil) h = part.constant rock.Nil
  of_form k t (tree.const (const.Truth b)) h = part.constant (rock.Truth b)
  of_form k t (tree.tuple es) h = part.tuple (meaning.exprs es) (exprs k t es h)
  of_form k t (tree.list es) h = part.list (meaning.exprs es) (exprs k t es h)
  of_form k t (tree.dict ps) h = part.dict (meaning.pairs ps) (pairs k t ps h)
  of_form k t (tree.list_of n x cs) h = part.list_of n (meaning.clauses cs) (meaning.eval x) h.blocks.0
      (clauses k t n cs (right _ _ (behind_block h))) (expression k (inside t n) x (left _ _ (behind_block h)))
  of_form k t (tree.dict_of n y x cs) h = part.dict_of n (meaning.clauses cs) (meaning.eval y)
      (meaning.eval x) h.blocks.0
      (clauses k t n cs (right _ _ (behind_block h)))
      (expression k (inside t n) y (left _ _ (left _ _ (behind_block h))))
      (expression k (inside t n) x (right _ _ (left _ _ (behind_block h))))
  of_form k t (tree.lambda n ps x) h = part.lambda n (codes.lambda ps x)
      (record { function = h.functions.0; block = h.blocks.0 }) (defaults k t ps (left _ _ (behind_function h)))
  of_form k t (tree.cond x a b) h = part.cond (meaning.eval x) (meaning.eval a) (meaning.eval b)
      (expression k t x (first_swapped _ _ _ _ h)) (expression k t a (second_swapped _ _ _ _ h)) (expression k t b
      (right _ _ h))
  of_form k t (tree.or es) h = part.or (meaning.exprs es) (exprs k t es h)
  of_form k t (tree.and es) h = part.and (meaning.exprs es) (exprs k t es h)
  of_form k t (tree.not x) h = part.negated (meaning.eval x) (expression k t x h)
  of_form k t (tree.compare x ts) h = part.compare (meaning.eval x) (meaning.tests ts) (expression k t x (left _ _ h))
      (tests k t ts (right _ _ h))
  of_form k t (tree.chain x os) h = part.chain (meaning.eval x) (meaning.ops os) (expression k t x (left _ _ h))
      (ops k t os (right _ _ h))
  of_form k t (tree.unary u x) h = part.unary u (meaning.eval x) (expression k t x h)
  of_form k t (tree.power a b) h = part.power (meaning.eval a) (meaning.eval b) (expression k t a (left _ _ h))
      (expression k t b (right _ _ h))
  of_form k t (tree.primary x ts) h = part.primary (meaning.eval x) (meaning.trailers ts) (expression k t x
      (left _ _ h))
      (trailers k t ts (right _ _ h))

  pub exprs : (k : Keeper) (t : Spot) (x : tree.Exprs)
      → Has k t.side (codes.of_exprs x) (blocks.exprs_blocks telling_around t.block x)
      → part.AllMean k t (meaning.exprs x)
  exprs k t tree.no_exprs h = tt
  exprs k t (tree.expr x xs) h = (expression k t x (left _ _ h), exprs k t xs (right _ _ h))

  maybe : (k : Keeper) (t : Spot) (x : tree.Maybe)
      → Has k t.side (codes.of_maybe x) (blocks.maybe_blocks telling_around t.block x)
      → part.OptionKeeps k t (meaning.maybe x)
  maybe k t tree.none h = tt
  maybe k t (tree.some x) h = expression k t x h

  pairs : (k : Keeper) (t : Spot) (x : tree.Pairs)
      → Has k t.side (codes.of_pairs x) (blocks.pairs_blocks telling_around t.block x)
      → Each (part.PairKeeps k t) (meaning.pairs x)
  pairs k t tree.no_pairs h = tt
  pairs k t (tree.pair y x ps) h = (
    (expression k t y (left _ _ (left _ _ h)), expression k t x (right _ _ (left _ _ h))),
    pairs k t ps
        (right _ _ h),
  )

  tests : (k : Keeper) (t : Spot) (x : tree.Tests)
      → Has k t.side (codes.of_tests x) (blocks.tests_blocks telling_around t.block x)
      → Each (λ y. part.Means k t y.1) (meaning.tests x)
  tests k t tree.no_tests h = tt
  tests k t (tree.test o x ts) h = (expression k t x (left _ _ h), tests k t ts (right _ _ h))

  ops : (k : Keeper) (t : Spot) (x : tree.Ops)
      → Has k t.side (codes.of_ops x) (blocks.ops_blocks telling_around t.block x)
      → Each (λ y. part.Means k t y.1) (meaning.ops x)
  ops k t tree.no_ops h = tt
  ops k t (tree.op o x os) h = (expression k t x (left _ _ h), ops k t os (right _ _ h))

  -- the iterable stands in the block around, and all else in the other
  clause : (k : Keeper) (t : Spot) (n : ℕ) (x : tree.Clause)
      → Has k t.side (codes.of_clause x) (blocks.clause_blocks telling_around t.block n x)
      → part.ClauseKeeps k t (inside t n) (meaning.clause x)
  clause k t n (tree.a_clause (tree.a_walk p x g) es) h = record {
    of = expression k t x (right _ _ (left _ _ h));
    bind = target k (inside t n) p (left _ _ (left _ _ h));
    tests = exprs k (inside t n) es (right _ _ h);
  }

  pub clauses : (k : Keeper) (t : Spot) (n : ℕ) (x : tree.Clauses)
      → Has k t.side (codes.of_clauses x) (blocks.clauses_blocks telling_around t.block n x)
      → part.ClausesKeep k t (inside t n) (meaning.clauses x)
  clauses k t n tree.no_clauses h = tt
  clauses k t n (tree.clause x xs) h = (clause k t n x (left _ _ h), clauses k (inside t n) n xs (right _ _ h))

  target : (k : Keeper) (t : Spot) (x : tree.Target)
      → Has k t.side (codes.of_target x) (blocks.target_blocks telling_around t.block x)
      → part.StoreKeeps k t (meaning.target x)
  target k t (tree.to_place p) h = place k t p h
  target k t (tree.group ps) h = done.unpack (meaning.targets ps) (targets k t ps h)

  targets : (k : Keeper) (t : Spot) (x : tree.Targets)
      → Has k t.side (codes.of_targets x) (blocks.targets_blocks telling_around t.block x)
      → Each (part.StoreKeeps k t) (meaning.targets x)
  targets k t tree.no_targets h = tt
  targets k t (tree.target p ps) h = (target k t p (left _ _ h), targets k t ps (right _ _ h))

  place : (k : Keeper) (t : Spot) (x : tree.Place)
      → Has k t.side (codes.of_place x) (blocks.place_blocks telling_around t.block x)
      → part.StoreKeeps k t (meaning.place x)
  place k t (tree.to_name x) h = done.store_name x.name
  place k t (tree.to_attr x a g) h = done.store_attribute (meaning.eval x) a.name (expression k t x h)
  place k t (tree.to_item x i g) h = done.store_item (meaning.eval x) (meaning.eval i) (expression k t x (left _ _ h))
      (expression k t i (right _ _ h))

  defaults : (k : Keeper) (t : Spot) (x : tree.Params)
      → Has k t.side (codes.of_params x) (blocks.params_blocks telling_around t.block x)
      → part.AllMean k t (meaning.defaults x)
  defaults k t (tree.params ps l d) h = plain k t ps h

  plain : (k : Keeper) (t : Spot) (x : tree.Plain)
      → Has k t.side (codes.of_plain x) (blocks.plain_blocks telling_around t.block x)
      → part.AllMean k t (meaning.plain x)
  plain k t tree.no_plain h = tt
  plain k t (tree.plain x tree.none ps) h = plain k t ps h
  plain k t (tree.plain x (tree.some y) ps) h = (expression k t y (left _ _ h), plain k t ps (right _ _ h))

  trailer : (k : Keeper) (t : Spot) (x : tree.Trailer)
      → Has k t.side (codes.of_trailer x) (blocks.trailer_blocks telling_around t.block x)
      → part.TrailerKeeps k t (meaning.trailer x)
  trailer k t (tree.attr x g) h = part.attribute x.name
  trailer k t (tree.item x g) h = part.item (meaning.eval x) (expression k t x h)
  trailer k t (tree.slice a b c g) h = part.slice (meaning.maybe a) (meaning.maybe b) (meaning.maybe c)
      (maybe k t a (left _ _ (left _ _ h))) (maybe k t b (right _ _ (left _ _ h))) (maybe k t c (right _ _ h))
  trailer k t (tree.call as' g) h = part.call (meaning.args as') (args k t as' h)

  trailers : (k : Keeper) (t : Spot) (x : tree.Trailers)
      → Has k t.side (codes.of_trailers x) (blocks.trailers_blocks telling_around t.block x)
      → Each (part.TrailerKeeps k t) (meaning.trailers x)
  trailers k t tree.no_trailers h = tt
  trailers k t (tree.trailer x xs) h = (trailer k t x (left _ _ h), trailers k t xs (right _ _ h))

  arg : (k : Keeper) (t : Spot) (x : tree.Arg)
      → Has k t.side (codes.of_arg x) (blocks.arg_blocks telling_around t.block x)
      → calling.ArgumentKeeps k t (meaning.arg x)
  arg k t (tree.value x) h = calling.plain_argument (meaning.eval x) (expression k t x h)
  arg k t (tree.star x) h = calling.star_argument (meaning.eval x) (expression k t x h)
  arg k t (tree.key n x) h = calling.named_argument n (meaning.eval x) (expression k t x h)
  arg k t (tree.stars x) h = calling.stars_argument (meaning.eval x) (expression k t x h)

  args : (k : Keeper) (t : Spot) (x : tree.Args)
      → Has k t.side (codes.of_args x) (blocks.args_blocks telling_around t.block x)
      → calling.ArgumentsKeep k t (meaning.args x)
  args k t tree.no_args h = tt
  args k t (tree.arg x xs) h = (arg k t x (left _ _ h), args k t xs (right _ _ h))

option : (k : Keeper) (t : Spot) (x : Option tree.Expr)
    → Has k t.side (codes.of_option x) (blocks.option_blocks telling_around t.block x)
    → part.OptionKeeps k t (meaning.option x)
option k t None h = tt
option k t (Some x) h = expression k t x h

augment : (k : Keeper) (t : Spot) (p : tree.Place) (o : BinOp) (x : tree.Expr)
    → Has k t.side (codes.of_place p) (blocks.place_blocks telling_around t.block p)
    → Has k t.side (codes.of_expr x) (blocks.expr_blocks telling_around t.block x)
    → done.DoesSo k t (meaning.augment p o (meaning.eval x))
augment k t (tree.to_name y) o x h i = done.augment_name y.name o (meaning.eval x) (expression k t x i)
augment k t (tree.to_attr y a g) o x h i = done.augment_attribute (meaning.eval y) a.name o (meaning.eval x)
    (expression k t y h) (expression k t x i)
augment k t (tree.to_item y z g) o x h i = done.augment_item (meaning.eval y) (meaning.eval z) o (meaning.eval x)
    (expression k t y (left _ _ h)) (expression k t z (right _ _ h)) (expression k t x i)

delete : (k : Keeper) (t : Spot) (x : tree.Place)
    → Has k t.side (codes.of_place x) (blocks.place_blocks telling_around t.block x)
    → done.DoesSo k t (meaning.delete x)
delete k t (tree.to_name x) h = λ f c s i. form.unbound x.name f c s i
delete k t (tree.to_attr x a g) h = done.delete_attribute (meaning.eval x) a.name (expression k t x h)
delete k t (tree.to_item x i g) h = done.delete_item (meaning.eval x) (meaning.eval i) (expression k t x (left _ _ h))
    (expression k t i (right _ _ h))

deletes : (k : Keeper) (t : Spot) (x : List tree.Place)
    → Has k t.side (codes.of_places x) (blocks.places_blocks telling_around t.block x)
    → Each (done.DoesSo k t) (map meaning.delete x)
deletes k t [] h = tt
deletes k t (p ∷ ps) h = (delete k t p (left _ _ h), deletes k t ps (right _ _ h))

places : (k : Keeper) (t : Spot) (x : List tree.Place)
    → Has k t.side (codes.of_places x) (blocks.places_blocks telling_around t.block x)
    → Each (part.StoreKeeps k t) (map meaning.place x)
places k t [] h = tt
places k t (p ∷ ps) h = (place k t p (left _ _ h), places k t ps (right _ _ h))

mutual
  pub statement : (k : Keeper) (t : Spot) (x : stmt_tree.Stmt)
      → Has k t.side (codes.of_stmt x) (blocks.stmt_blocks telling_around t.block x)
      → done.DoesSo k t (meaning.exec x)
  statement k t (stmt_tree.a_stmt line x) h f c s i = step s i (λ s g i. statement_form k t x h f c s i)

  statement_form : (k : Keeper) (t : Spot) (x : stmt_tree.StmtForm)
      → Has k t.side (codes.of_stmt_form x) (blocks.stmt_form_blocks telling_around t.block x)
      → done.DoesSo k t (meaning.exec_form x)
  statement_form k t (stmt_tree.evaluate x) h = done.evaluate (meaning.eval x) (expression k t x h)
  statement_form k t (stmt_tree.assign ps x) h = done.assign (meaning.eval x)
      (stmt_forms.store_all (map meaning.place ps)) (expression k t x (right _ _ h))
      (done.store_all (map meaning.place ps) (places k t ps (left _ _ h)))
  statement_form k t (stmt_tree.unpack p x g) h = done.assign (meaning.eval x) (meaning.target p)
      (expression k t x (right _ _ h)) (target k t p (left _ _ h))
  statement_form k t (stmt_tree.aug p op at x g) h = augment k t p op x (left _ _ h) (right _ _ h)
  statement_form k t (stmt_tree.del ps) h = done.block (map meaning.delete ps) (deletes k t ps h)
  statement_form k t stmt_tree.pass h = done.nothing
  statement_form k t stmt_tree.break h = done.leave broke
  statement_form k t stmt_tree.continue h = done.leave continued
  statement_form k t (stmt_tree.give_back x) h = done.give_back (meaning.option x) (option k t x h)
  statement_form k t (stmt_tree.raise x) h = done.raise (meaning.option x) (option k t x h)
  statement_form k t (stmt_tree.assert x y) h = done.assert (meaning.eval x) (meaning.option y)
      (expression k t x (left _ _ h)) (option k t y (right _ _ h))
  statement_form k t (stmt_tree.global ns) h = done.nothing
  statement_form k t (stmt_tree.choose bs o) h = done.choose (meaning.branches bs) (meaning.maybe_block o)
      (branches k t bs (left _ _ h)) (maybe_block k t o (right _ _ h))
  statement_form k t (stmt_tree.while x b) h = done.while (meaning.eval x) (meaning.block b)
      (expression k t x (left _ _ h)) (block k t b (right _ _ h))
  statement_form k t (stmt_tree.for (tree.a_walk p x g) b) h = done.for (meaning.eval x) (meaning.target p)
      (meaning.block b) (expression k t x (right _ _ (left _ _ h))) (target k t p (left _ _ (left _ _ h)))
      (block k t b (right _ _ h))
  statement_form k t (stmt_tree.try b hs o l) h =
      done.try (meaning.block b) (meaning.handlers hs) (meaning.maybe_block o) (meaning.maybe_block l)
      (block k t b (left _ _ (left _ _ (left _ _ h)))) (handlers k t hs (right _ _ (left _ _ (left _ _ h))))
      (maybe_block k t o (right _ _ (left _ _ h))) (maybe_block k t l (right _ _ h))
  statement_form k t (stmt_tree.define n x ps b) h = done.define x.name n (codes.def ps b)
      (record { function = h.functions.0; block = h.blocks.0 }) (defaults k t ps (left _ _ (behind_function h)))
  statement_form k t (stmt_tree.class x b) h = done.class x.name (meaning.class_parts b) (class_parts k t b h)

  stmts : (k : Keeper) (t : Spot) (x : stmt_tree.Stmts)
      → Has k t.side (codes.of_stmts x) (blocks.stmts_blocks telling_around t.block x)
      → Each (done.DoesSo k t) (meaning.stmts x)
  stmts k t stmt_tree.no_stmts h = tt
  stmts k t (stmt_tree.stmt x xs) h = (statement k t x (left _ _ h), stmts k t xs (right _ _ h))

  pub block : (k : Keeper) (t : Spot) (x : stmt_tree.Stmts)
      → Has k t.side (codes.of_stmts x) (blocks.stmts_blocks telling_around t.block x)
      → done.DoesSo k t (meaning.block x)
  block k t stmt_tree.no_stmts h = done.block [] tt
  block k t (stmt_tree.stmt x xs) h =
      done.block (meaning.exec x ∷ meaning.stmts xs) (statement k t x (left _ _ h), stmts k t xs (right _ _ h))

  maybe_block : (k : Keeper) (t : Spot) (x : stmt_tree.MaybeStmts)
      → Has k t.side (codes.of_maybe_stmts x) (blocks.maybe_stmts_blocks telling_around t.block x)
      → done.DoesSo k t (meaning.maybe_block x)
  maybe_block k t stmt_tree.none h = done.nothing
  maybe_block k t (stmt_tree.some b) h = block k t b h

  branches : (k : Keeper) (t : Spot) (x : stmt_tree.Branches)
      → Has k t.side (codes.of_branches x) (blocks.branches_blocks telling_around t.block x)
      → Each (done.BranchKeeps k t) (meaning.branches x)
  branches k t stmt_tree.no_branches h = tt
  branches k t (stmt_tree.branch x b bs) h =
      ((expression k t x (left _ _ (left _ _ h)), block k t b (right _ _ (left _ _ h))), branches k t bs (right _ _ h))

  handler : (k : Keeper) (t : Spot) (x : stmt_tree.Except)
      → Has k t.side (codes.of_except x) (blocks.except_blocks telling_around t.block x)
      → done.HandlerKeeps k t (meaning.handler x)
  handler k t (stmt_tree.an_except x n b) h = record {
    kind = option k t x (left _ _ h);
    body = block k t b
        (right _ _ h);
  }

  handlers : (k : Keeper) (t : Spot) (x : stmt_tree.Excepts)
      → Has k t.side (codes.of_excepts x) (blocks.excepts_blocks telling_around t.block x)
      → Each (done.HandlerKeeps k t) (meaning.handlers x)
  handlers k t stmt_tree.no_excepts h = tt
  handlers k t (stmt_tree.except x xs) h = (handler k t x (left _ _ h), handlers k t xs (right _ _ h))

  class_part : (k : Keeper) (t : Spot) (x : stmt_tree.StmtForm)
      → Has k t.side (codes.of_stmt_form x) (blocks.stmt_form_blocks telling_around t.block x)
      → done.PartKeeps k t (meaning.class_part x)
  class_part k t (stmt_tree.define n x ps b) h = part.makes_function (Some x.name) n (codes.def ps b)
      (record { function = h.functions.0; block = h.blocks.0 }) (defaults k t ps (left _ _ (behind_function h)))
  class_part k t (stmt_tree.evaluate x) h = done.evaluate (meaning.eval x) (expression k t x h)
  class_part k t _ h = done.nothing

  class_parts : (k : Keeper) (t : Spot) (x : stmt_tree.Stmts)
      → Has k t.side (codes.of_stmts x) (blocks.stmts_blocks telling_around t.block x)
      → Each (done.PartKeeps k t) (meaning.class_parts x)
  class_parts k t stmt_tree.no_stmts h = tt
  class_parts k t (stmt_tree.stmt (stmt_tree.a_stmt line x) xs) h =
      (class_part k t x (left _ _ h), class_parts k t xs (right _ _ h))
