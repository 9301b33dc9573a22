-- No number stands at more functions of a part than at code blocks of it.
use Rattle.std.proofs.Common.{◌≡◌, ◌≤◌, ℕ, suc, ◌+◌, nat_eq, Bool, true, false, List, [], ◌∷◌}
use Rattle.std.proofs.Common.{◌++◌, Option, Some, None, arith}
use Rattle.rp_tree.specs.Expressions as tree
use Rattle.rp_tree.specs.Statements as stmt_tree
use Rattle.rp_scope.specs.Blocks as blocks
use Rattle.rp_meaning.specs.Blocks as codes
use Rattle.rp_meaning.specs.Blocks.{Code, Codes}
use Rattle.rp_keeper_laws.specs.Blocks.{Around, telling_around}

-- how often a number stands at elements
abbrev pub counted : Bool → ℕ → ℕ
counted true n = suc n
counted false n = n

abbrev pub times : {A : Type 0} → ℕ → List (ℕ × A) → ℕ
times c [] = 0
times c (e ∷ es) = counted (nat_eq c e.0) (times c es)

pub record Fewer (c : ℕ) (functions : Codes) (bs : List Around) : Type 0 where
  pub most : times c functions ≤ times c bs

times_append : {A : Type 0} (c : ℕ) (xs ys : List (ℕ × A)) → times c (xs ++ ys) ≡ times c xs + times c ys
times_append c [] ys = omega arith
times_append c (x ∷ xs) ys = by (nat_eq c x.0) (times_append c xs ys) where
  by : (b : Bool) → times c (xs ++ ys) ≡ times c xs + times c ys
      → counted b (times c (xs ++ ys)) ≡ counted b (times c xs) + times c ys
  by true e = omega (arith, e)
  by false e = e

nothing : {c : ℕ} → Fewer c [] []
nothing = record { most = omega arith }

joined : {c : ℕ} {as' bs : Codes} {cs ds : List Around} → Fewer c as' cs → Fewer c bs ds
    → Fewer c (as' ++ bs) (cs ++ ds)
joined {c} {as'} {bs} {cs} {ds} h i =
    let a = h.most in let b = i.most in let l = times_append c as' bs in let r = times_append c cs ds in
    record { most = omega (arith, a, b, l, r) }

swapped : {c : ℕ} {xs as' bs : Codes} {ys cs ds : List Around} → Fewer c xs ys → Fewer c as' cs → Fewer c bs ds
    → Fewer c (xs ++ as' ++ bs) (cs ++ ys ++ ds)
swapped {c} {xs} {as'} {bs} {ys} {cs} {ds} h i j =
    let x = h.most in let a = i.most in let b = j.most in
    let l = times_append c (xs ++ as') bs in let l2 = times_append c xs as' in
    let r = times_append c (cs ++ ys) ds in let r2 = times_append c cs ys in
    record { most = omega (arith, x, a, b, l, l2, r, r2) }

around_more : {c n m : ℕ} {as' : Codes} {cs : List Around} → Fewer c as' cs → Fewer c as' ((n, m) ∷ cs)
around_more {c} {n} {m} {as'} {cs} h = record { most = by (nat_eq c n) h.most } where
  by : (b : Bool) → times c as' ≤ times c cs → times c as' ≤ counted b (times c cs)
  by true l = omega (arith, l)
  by false l = l

begun : {c n m : ℕ} {code : Code} {as' : Codes} {cs : List Around} → Fewer c as' cs
    → Fewer c ((n, code) ∷ as') ((n, m) ∷ cs)
begun {c} {n} {m} {code} {as'} {cs} h = record { most = by (nat_eq c n) h.most } where
  by : (b : Bool) → times c as' ≤ times c cs → counted b (times c as') ≤ counted b (times c cs)
  by true l = omega (arith, l)
  by false l = l

mutual
  pub expression : (number : ℕ) (m : ℕ) (x : tree.Expr)
      → Fewer number (codes.of_expr x) (blocks.expr_blocks telling_around m x)
  expression number m (tree.node line x) = of_form number m x

  of_form : (number : ℕ) (m : ℕ) (x : tree.Form)
      → Fewer number (codes.of_form x) (blocks.form_blocks telling_around m x)
  of_form number m (tree.name x) = nothing
  of_form number m (tree.int z) = nothing
  of_form number m (tree.text x) = nothing
  of_form number m (tree.const c) = nothing
  of_form number m (tree.tuple es) = exprs number m es
  of_form number m (tree.list es) = exprs number m es
  of_form number m (tree.dict ps) = pairs number m ps
  of_form number m (tree.list_of n x cs) = around_more (joined (expression number n x) (clauses number m n cs))
  of_form number m (tree.dict_of n y x cs) = around_more (joined (joined (expression number n y)
      (expression number n x)) (clauses number m n cs))
  of_form number m (tree.lambda n ps x) = begun (joined (parameters number m ps) (expression number n x))
  of_form number m (tree.cond x a b) = swapped (expression number m x) (expression number m a) (expression number m b)
  of_form number m (tree.or es) = exprs number m es
  of_form number m (tree.and es) = exprs number m es
  of_form number m (tree.not x) = expression number m x
  of_form number m (tree.compare x ts) = joined (expression number m x) (tests number m ts)
  of_form number m (tree.chain x os) = joined (expression number m x) (ops number m os)
  of_form number m (tree.unary u x) = expression number m x
  of_form number m (tree.power a b) = joined (expression number m a) (expression number m b)
  of_form number m (tree.primary x ts) = joined (expression number m x) (trailers number m ts)

  exprs : (number : ℕ) (m : ℕ) (x : tree.Exprs)
      → Fewer number (codes.of_exprs x) (blocks.exprs_blocks telling_around m x)
  exprs number m tree.no_exprs = nothing
  exprs number m (tree.expr x xs) = joined (expression number m x) (exprs number m xs)

  maybe : (number : ℕ) (m : ℕ) (x : tree.Maybe)
      → Fewer number (codes.of_maybe x) (blocks.maybe_blocks telling_around m x)
  maybe number m tree.none = nothing
  maybe number m (tree.some x) = expression number m x

  pairs : (number : ℕ) (m : ℕ) (x : tree.Pairs)
      → Fewer number (codes.of_pairs x) (blocks.pairs_blocks telling_around m x)
  pairs number m tree.no_pairs = nothing
  pairs number m (tree.pair y x ps) = joined (joined (expression number m y) (expression number m x))
      (pairs number m ps)

  tests : (number : ℕ) (m : ℕ) (x : tree.Tests)
      → Fewer number (codes.of_tests x) (blocks.tests_blocks telling_around m x)
  tests number m tree.no_tests = nothing
  tests number m (tree.test o x ts) = joined (expression number m x) (tests number m ts)

  ops : (number : ℕ) (m : ℕ) (x : tree.Ops)
      → Fewer number (codes.of_ops x) (blocks.ops_blocks telling_around m x)
  ops number m tree.no_ops = nothing
  ops number m (tree.op o x os) = joined (expression number m x) (ops number m os)

  clause : (number : ℕ) (m n : ℕ) (x : tree.Clause)
      → Fewer number (codes.of_clause x) (blocks.clause_blocks telling_around m n x)
  clause number m n (tree.a_clause w es) = joined (walk number m n w) (exprs number n es)

  clauses : (number : ℕ) (m n : ℕ) (x : tree.Clauses)
      → Fewer number (codes.of_clauses x) (blocks.clauses_blocks telling_around m n x)
  clauses number m n tree.no_clauses = nothing
  clauses number m n (tree.clause x xs) = joined (clause number m n x) (clauses number n n xs)

  walk : (number : ℕ) (m n : ℕ) (x : tree.Walk)
      → Fewer number (codes.of_walk x) (blocks.walk_blocks telling_around m n x)
  walk number m n (tree.a_walk p x g) = joined (target number n p) (expression number m x)

  target : (number : ℕ) (m : ℕ) (x : tree.Target)
      → Fewer number (codes.of_target x) (blocks.target_blocks telling_around m x)
  target number m (tree.to_place p) = place number m p
  target number m (tree.group ps) = targets number m ps

  targets : (number : ℕ) (m : ℕ) (x : tree.Targets)
      → Fewer number (codes.of_targets x) (blocks.targets_blocks telling_around m x)
  targets number m tree.no_targets = nothing
  targets number m (tree.target p ps) = joined (target number m p) (targets number m ps)

  place : (number : ℕ) (m : ℕ) (x : tree.Place)
      → Fewer number (codes.of_place x) (blocks.place_blocks telling_around m x)
  place number m (tree.to_name x) = nothing
  place number m (tree.to_attr x a g) = expression number m x
  place number m (tree.to_item x i g) = joined (expression number m x) (expression number m i)

  parameters : (number : ℕ) (m : ℕ) (x : tree.Params)
      → Fewer number (codes.of_params x) (blocks.params_blocks telling_around m x)
  parameters number m (tree.params ps l d) = plain number m ps

  plain : (number : ℕ) (m : ℕ) (x : tree.Plain)
      → Fewer number (codes.of_plain x) (blocks.plain_blocks telling_around m x)
  plain number m tree.no_plain = nothing
  plain number m (tree.plain n x ps) = joined (maybe number m x) (plain number m ps)

  trailer : (number : ℕ) (m : ℕ) (x : tree.Trailer)
      → Fewer number (codes.of_trailer x) (blocks.trailer_blocks telling_around m x)
  trailer number m (tree.attr x g) = nothing
  trailer number m (tree.item x g) = expression number m x
  trailer number m (tree.slice a b c g) = joined (joined (maybe number m a) (maybe number m b)) (maybe number m c)
  trailer number m (tree.call xs g) = args number m xs

  trailers : (number : ℕ) (m : ℕ) (x : tree.Trailers)
      → Fewer number (codes.of_trailers x) (blocks.trailers_blocks telling_around m x)
  trailers number m tree.no_trailers = nothing
  trailers number m (tree.trailer x xs) = joined (trailer number m x) (trailers number m xs)

  arg : (number : ℕ) (m : ℕ) (x : tree.Arg)
      → Fewer number (codes.of_arg x) (blocks.arg_blocks telling_around m x)
  arg number m (tree.value x) = expression number m x
  arg number m (tree.star x) = expression number m x
  arg number m (tree.key n x) = expression number m x
  arg number m (tree.stars x) = expression number m x

  args : (number : ℕ) (m : ℕ) (x : tree.Args)
      → Fewer number (codes.of_args x) (blocks.args_blocks telling_around m x)
  args number m tree.no_args = nothing
  args number m (tree.arg x xs) = joined (arg number m x) (args number m xs)

option : (number : ℕ) (m : ℕ) (x : Option tree.Expr)
    → Fewer number (codes.of_option x) (blocks.option_blocks telling_around m x)
option number m None = nothing
option number m (Some x) = expression number m x

places : (number : ℕ) (m : ℕ) (x : List tree.Place)
    → Fewer number (codes.of_places x) (blocks.places_blocks telling_around m x)
places number m [] = nothing
places number m (p ∷ ps) = joined (place number m p) (places number m ps)

mutual
  pub statement : (number : ℕ) (m : ℕ) (x : stmt_tree.Stmt)
      → Fewer number (codes.of_stmt x) (blocks.stmt_blocks telling_around m x)
  statement number m (stmt_tree.a_stmt line x) = statement_form number m x

  statement_form : (number : ℕ) (m : ℕ) (x : stmt_tree.StmtForm)
      → Fewer number (codes.of_stmt_form x) (blocks.stmt_form_blocks telling_around m x)
  statement_form number m (stmt_tree.evaluate x) = expression number m x
  statement_form number m (stmt_tree.assign ps x) = joined (places number m ps) (expression number m x)
  statement_form number m (stmt_tree.unpack p x g) = joined (target number m p) (expression number m x)
  statement_form number m (stmt_tree.aug p o at x g) = joined (place number m p) (expression number m x)
  statement_form number m (stmt_tree.del ps) = places number m ps
  statement_form number m stmt_tree.pass = nothing
  statement_form number m stmt_tree.break = nothing
  statement_form number m stmt_tree.continue = nothing
  statement_form number m (stmt_tree.give_back x) = option number m x
  statement_form number m (stmt_tree.raise x) = option number m x
  statement_form number m (stmt_tree.assert x y) = joined (expression number m x) (option number m y)
  statement_form number m (stmt_tree.global ns) = nothing
  statement_form number m (stmt_tree.choose bs o) = joined (branches number m bs) (maybe_block number m o)
  statement_form number m (stmt_tree.while x b) = joined (expression number m x) (block number m b)
  statement_form number m (stmt_tree.for w b) = joined (walk number m m w) (block number m b)
  statement_form number m (stmt_tree.try b hs o l) = joined (joined (joined (block number m b)
      (handlers number m hs)) (maybe_block number m o)) (maybe_block number m l)
  statement_form number m (stmt_tree.define n x ps b) = begun (joined (parameters number m ps) (block number n b))
  statement_form number m (stmt_tree.class n b) = block number m b

  pub block : (number : ℕ) (m : ℕ) (x : stmt_tree.Stmts)
      → Fewer number (codes.of_stmts x) (blocks.stmts_blocks telling_around m x)
  block number m stmt_tree.no_stmts = nothing
  block number m (stmt_tree.stmt x xs) = joined (statement number m x) (block number m xs)

  maybe_block : (number : ℕ) (m : ℕ) (x : stmt_tree.MaybeStmts)
      → Fewer number (codes.of_maybe_stmts x) (blocks.maybe_stmts_blocks telling_around m x)
  maybe_block number m stmt_tree.none = nothing
  maybe_block number m (stmt_tree.some b) = block number m b

  branches : (number : ℕ) (m : ℕ) (x : stmt_tree.Branches)
      → Fewer number (codes.of_branches x) (blocks.branches_blocks telling_around m x)
  branches number m stmt_tree.no_branches = nothing
  branches number m (stmt_tree.branch x b bs) = joined (joined (expression number m x) (block number m b))
      (branches number m bs)

  handler : (number : ℕ) (m : ℕ) (x : stmt_tree.Except)
      → Fewer number (codes.of_except x) (blocks.except_blocks telling_around m x)
  handler number m (stmt_tree.an_except x n b) = joined (option number m x) (block number m b)

  handlers : (number : ℕ) (m : ℕ) (x : stmt_tree.Excepts)
      → Fewer number (codes.of_excepts x) (blocks.excepts_blocks telling_around m x)
  handlers number m stmt_tree.no_excepts = nothing
  handlers number m (stmt_tree.except x xs) = joined (handler number m x) (handlers number m xs)
