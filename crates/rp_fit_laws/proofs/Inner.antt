-- What holds of the functions and the blocks of a part holds of those within each of its functions.
use Rattle.std.proofs.Common.{ℕ, List, [], ◌∷◌, Option, Some, None}
use Rattle.rp_tree.specs.Expressions as tree
use Rattle.rp_tree.specs.Statements as stmt_tree
use Rattle.rp_scope.specs.Blocks as blocks
use Rattle.rp_meaning.specs.Blocks as codes
use Rattle.rp_meaning.specs.Blocks.{Code}
use Rattle.rp_apart_laws.proofs.Lists.{each_append}
use Rattle.rp_apart_laws.specs.Apart.{Each}
use Rattle.rp_keeper_laws.specs.Blocks.{Around, CodeHas, Has, telling_around}
use Rattle.rp_keeper_laws.proofs.Trees.{behind_block, behind_function, first_swapped, left, right, second_swapped}

abbrev pub Inner : (ℕ × Code → Type 0) → (Around → Type 0) → ℕ × Code → Type 0
Inner P Q e = CodeHas P Q e.0 e.1

mutual
  pub expression : {P : ℕ × Code → Type 0} {Q : Around → Type 0} (m : ℕ) (x : tree.Expr)
      → Has P Q (codes.of_expr x) (blocks.expr_blocks telling_around m x)
      → Each (Inner P Q) (codes.of_expr x)
  expression m (tree.node line x) h = of_form m x h

  of_form : {P : ℕ × Code → Type 0} {Q : Around → Type 0} (m : ℕ) (x : tree.Form)
      → Has P Q (codes.of_form x) (blocks.form_blocks telling_around m x)
      → Each (Inner P Q) (codes.of_form x)
  of_form m (tree.name x) h = tt
  of_form m (tree.int z) h = tt
  of_form m (tree.text x) h = tt
  of_form m (tree.const c) h = tt
  of_form m (tree.tuple es) h = exprs m es h
  of_form m (tree.list es) h = exprs m es h
  of_form m (tree.dict ps) h = pairs m ps h
  of_form {P} {Q} m (tree.list_of n x cs) h = each_append (Inner P Q) _ _ (expression n x (left _ _
      (behind_block h))) (clauses m n cs (right _ _ (behind_block h)))
  of_form {P} {Q} m (tree.dict_of n y x cs) h = each_append (Inner P Q) _ _ (each_append (Inner P Q) _ _
      (expression n y (left _ _ (left _ _ (behind_block h)))) (expression n x (right _ _ (left _ _
      (behind_block h))))) (clauses m n cs (right _ _ (behind_block h)))
  of_form {P} {Q} m (tree.lambda n ps x) h = (
    right _ _ (behind_function h),
    each_append (Inner P Q) _ _
        (parameters m ps (left _ _ (behind_function h))) (expression n x (right _ _ (behind_function h))),
  )
  of_form {P} {Q} m (tree.cond x a b) h = each_append (Inner P Q) _ _ (each_append (Inner P Q) _ _ (expression m x
      (first_swapped _ _ _ _ h)) (expression m a (second_swapped _ _ _ _ h))) (expression m b (right _ _ h))
  of_form m (tree.or es) h = exprs m es h
  of_form m (tree.and es) h = exprs m es h
  of_form m (tree.not x) h = expression m x h
  of_form {P} {Q} m (tree.compare x ts) h = each_append (Inner P Q) _ _ (expression m x (left _ _ h)) (tests m ts
      (right _ _ h))
  of_form {P} {Q} m (tree.chain x os) h = each_append (Inner P Q) _ _ (expression m x (left _ _ h)) (ops m os
      (right _ _ h))
  of_form m (tree.unary u x) h = expression m x h
  of_form {P} {Q} m (tree.power a b) h = each_append (Inner P Q) _ _ (expression m a (left _ _ h)) (expression m b
      (right _ _ h))
  of_form {P} {Q} m (tree.primary x ts) h = each_append (Inner P Q) _ _ (expression m x (left _ _ h)) (trailers m ts
      (right _ _ h))

  exprs : {P : ℕ × Code → Type 0} {Q : Around → Type 0} (m : ℕ) (x : tree.Exprs)
      → Has P Q (codes.of_exprs x) (blocks.exprs_blocks telling_around m x)
      → Each (Inner P Q) (codes.of_exprs x)
  exprs m tree.no_exprs h = tt
  exprs {P} {Q} m (tree.expr x xs) h = each_append (Inner P Q) _ _ (expression m x (left _ _ h)) (exprs m xs
      (right _ _ h))

  maybe : {P : ℕ × Code → Type 0} {Q : Around → Type 0} (m : ℕ) (x : tree.Maybe)
      → Has P Q (codes.of_maybe x) (blocks.maybe_blocks telling_around m x)
      → Each (Inner P Q) (codes.of_maybe x)
  maybe m tree.none h = tt
  maybe m (tree.some x) h = expression m x h

  pairs : {P : ℕ × Code → Type 0} {Q : Around → Type 0} (m : ℕ) (x : tree.Pairs)
      → Has P Q (codes.of_pairs x) (blocks.pairs_blocks telling_around m x)
      → Each (Inner P Q) (codes.of_pairs x)
  pairs m tree.no_pairs h = tt
  pairs {P} {Q} m (tree.pair y x ps) h = each_append (Inner P Q) _ _ (each_append (Inner P Q) _ _ (expression m y
      (left _ _ (left _ _ h))) (expression m x (right _ _ (left _ _ h)))) (pairs m ps (right _ _ h))

  tests : {P : ℕ × Code → Type 0} {Q : Around → Type 0} (m : ℕ) (x : tree.Tests)
      → Has P Q (codes.of_tests x) (blocks.tests_blocks telling_around m x)
      → Each (Inner P Q) (codes.of_tests x)
  tests m tree.no_tests h = tt
  tests {P} {Q} m (tree.test o x ts) h = each_append (Inner P Q) _ _ (expression m x (left _ _ h)) (tests m ts
      (right _ _ h))

  ops : {P : ℕ × Code → Type 0} {Q : Around → Type 0} (m : ℕ) (x : tree.Ops)
      → Has P Q (codes.of_ops x) (blocks.ops_blocks telling_around m x)
      → Each (Inner P Q) (codes.of_ops x)
  ops m tree.no_ops h = tt
  ops {P} {Q} m (tree.op o x os) h = each_append (Inner P Q) _ _ (expression m x (left _ _ h)) (ops m os (right _ _ h))

  clause : {P : ℕ × Code → Type 0} {Q : Around → Type 0} (m n : ℕ) (x : tree.Clause)
      → Has P Q (codes.of_clause x) (blocks.clause_blocks telling_around m n x)
      → Each (Inner P Q) (codes.of_clause x)
  clause {P} {Q} m n (tree.a_clause w es) h = each_append (Inner P Q) _ _ (walk m n w (left _ _ h)) (exprs n es
      (right _ _ h))

  clauses : {P : ℕ × Code → Type 0} {Q : Around → Type 0} (m n : ℕ) (x : tree.Clauses)
      → Has P Q (codes.of_clauses x) (blocks.clauses_blocks telling_around m n x)
      → Each (Inner P Q) (codes.of_clauses x)
  clauses m n tree.no_clauses h = tt
  clauses {P} {Q} m n (tree.clause x xs) h = each_append (Inner P Q) _ _ (clause m n x (left _ _ h)) (clauses n n xs
      (right _ _ h))

  walk : {P : ℕ × Code → Type 0} {Q : Around → Type 0} (m n : ℕ) (x : tree.Walk)
      → Has P Q (codes.of_walk x) (blocks.walk_blocks telling_around m n x)
      → Each (Inner P Q) (codes.of_walk x)
  walk {P} {Q} m n (tree.a_walk p x g) h = each_append (Inner P Q) _ _ (target n p (left _ _ h)) (expression m x
      (right _ _ h))

  target : {P : ℕ × Code → Type 0} {Q : Around → Type 0} (m : ℕ) (x : tree.Target)
      → Has P Q (codes.of_target x) (blocks.target_blocks telling_around m x)
      → Each (Inner P Q) (codes.of_target x)
  target m (tree.to_place p) h = place m p h
  target m (tree.group ps) h = targets m ps h

  targets : {P : ℕ × Code → Type 0} {Q : Around → Type 0} (m : ℕ) (x : tree.Targets)
      → Has P Q (codes.of_targets x) (blocks.targets_blocks telling_around m x)
      → Each (Inner P Q) (codes.of_targets x)
  targets m tree.no_targets h = tt
  targets {P} {Q} m (tree.target p ps) h = each_append (Inner P Q) _ _ (target m p (left _ _ h)) (targets m ps
      (right _ _ h))

  place : {P : ℕ × Code → Type 0} {Q : Around → Type 0} (m : ℕ) (x : tree.Place)
      → Has P Q (codes.of_place x) (blocks.place_blocks telling_around m x)
      → Each (Inner P Q) (codes.of_place x)
  place m (tree.to_name x) h = tt
  place m (tree.to_attr x a g) h = expression m x h
  place {P} {Q} m (tree.to_item x i g) h = each_append (Inner P Q) _ _ (expression m x (left _ _ h)) (expression m i
      (right _ _ h))

  parameters : {P : ℕ × Code → Type 0} {Q : Around → Type 0} (m : ℕ) (x : tree.Params)
      → Has P Q (codes.of_params x) (blocks.params_blocks telling_around m x)
      → Each (Inner P Q) (codes.of_params x)
  parameters m (tree.params ps l d) h = plain m ps h

  plain : {P : ℕ × Code → Type 0} {Q : Around → Type 0} (m : ℕ) (x : tree.Plain)
      → Has P Q (codes.of_plain x) (blocks.plain_blocks telling_around m x)
      → Each (Inner P Q) (codes.of_plain x)
  plain m tree.no_plain h = tt
  plain {P} {Q} m (tree.plain n x ps) h = each_append (Inner P Q) _ _ (maybe m x (left _ _ h)) (plain m ps
      (right _ _ h))

  trailer : {P : ℕ × Code → Type 0} {Q : Around → Type 0} (m : ℕ) (x : tree.Trailer)
      → Has P Q (codes.of_trailer x) (blocks.trailer_blocks telling_around m x)
      → Each (Inner P Q) (codes.of_trailer x)
  trailer m (tree.attr x g) h = tt
  trailer m (tree.item x g) h = expression m x h
  trailer {P} {Q} m (tree.slice a b c g) h = each_append (Inner P Q) _ _ (each_append (Inner P Q) _ _ (maybe m a
      (left _ _ (left _ _ h))) (maybe m b (right _ _ (left _ _ h)))) (maybe m c (right _ _ h))
  trailer m (tree.call xs g) h = args m xs h

  trailers : {P : ℕ × Code → Type 0} {Q : Around → Type 0} (m : ℕ) (x : tree.Trailers)
      → Has P Q (codes.of_trailers x) (blocks.trailers_blocks telling_around m x)
      → Each (Inner P Q) (codes.of_trailers x)
  trailers m tree.no_trailers h = tt
  trailers {P} {Q} m (tree.trailer x xs) h = each_append (Inner P Q) _ _ (trailer m x (left _ _ h)) (trailers m xs
      (right _ _ h))

  arg : {P : ℕ × Code → Type 0} {Q : Around → Type 0} (m : ℕ) (x : tree.Arg)
      → Has P Q (codes.of_arg x) (blocks.arg_blocks telling_around m x)
      → Each (Inner P Q) (codes.of_arg x)
  arg m (tree.value x) h = expression m x h
  arg m (tree.star x) h = expression m x h
  arg m (tree.key n x) h = expression m x h
  arg m (tree.stars x) h = expression m x h

  args : {P : ℕ × Code → Type 0} {Q : Around → Type 0} (m : ℕ) (x : tree.Args)
      → Has P Q (codes.of_args x) (blocks.args_blocks telling_around m x)
      → Each (Inner P Q) (codes.of_args x)
  args m tree.no_args h = tt
  args {P} {Q} m (tree.arg x xs) h = each_append (Inner P Q) _ _ (arg m x (left _ _ h)) (args m xs (right _ _ h))

option : {P : ℕ × Code → Type 0} {Q : Around → Type 0} (m : ℕ) (x : Option tree.Expr)
    → Has P Q (codes.of_option x) (blocks.option_blocks telling_around m x)
    → Each (Inner P Q) (codes.of_option x)
option m None h = tt
option m (Some x) h = expression m x h

places : {P : ℕ × Code → Type 0} {Q : Around → Type 0} (m : ℕ) (x : List tree.Place)
    → Has P Q (codes.of_places x) (blocks.places_blocks telling_around m x)
    → Each (Inner P Q) (codes.of_places x)
places m [] h = tt
places {P} {Q} m (p ∷ ps) h = each_append (Inner P Q) _ _ (place m p (left _ _ h)) (places m ps (right _ _ h))

mutual
  pub statement : {P : ℕ × Code → Type 0} {Q : Around → Type 0} (m : ℕ) (x : stmt_tree.Stmt)
      → Has P Q (codes.of_stmt x) (blocks.stmt_blocks telling_around m x)
      → Each (Inner P Q) (codes.of_stmt x)
  statement m (stmt_tree.a_stmt line x) h = statement_form m x h

  statement_form : {P : ℕ × Code → Type 0} {Q : Around → Type 0} (m : ℕ) (x : stmt_tree.StmtForm)
      → Has P Q (codes.of_stmt_form x) (blocks.stmt_form_blocks telling_around m x)
      → Each (Inner P Q) (codes.of_stmt_form x)
  statement_form m (stmt_tree.evaluate x) h = expression m x h
  statement_form {P} {Q} m (stmt_tree.assign ps x) h = each_append (Inner P Q) _ _ (places m ps (left _ _ h))
      (expression m x (right _ _ h))
  statement_form {P} {Q} m (stmt_tree.unpack p x g) h = each_append (Inner P Q) _ _ (target m p (left _ _ h))
      (expression m x (right _ _ h))
  statement_form {P} {Q} m (stmt_tree.aug p o at x g) h = each_append (Inner P Q) _ _ (place m p (left _ _ h))
      (expression m x (right _ _ h))
  statement_form m (stmt_tree.del ps) h = places m ps h
  statement_form m stmt_tree.pass h = tt
  statement_form m stmt_tree.break h = tt
  statement_form m stmt_tree.continue h = tt
  statement_form m (stmt_tree.give_back x) h = option m x h
  statement_form m (stmt_tree.raise x) h = option m x h
  statement_form {P} {Q} m (stmt_tree.assert x y) h = each_append (Inner P Q) _ _ (expression m x (left _ _ h))
      (option m y (right _ _ h))
  statement_form m (stmt_tree.global ns) h = tt
  statement_form {P} {Q} m (stmt_tree.choose bs o) h = each_append (Inner P Q) _ _ (branches m bs (left _ _ h))
      (maybe_block m o (right _ _ h))
  statement_form {P} {Q} m (stmt_tree.while x b) h = each_append (Inner P Q) _ _ (expression m x (left _ _ h))
      (block m b (right _ _ h))
  statement_form {P} {Q} m (stmt_tree.for w b) h = each_append (Inner P Q) _ _ (walk m m w (left _ _ h)) (block m b
      (right _ _ h))
  statement_form {P} {Q} m (stmt_tree.try b hs o l) h = each_append (Inner P Q) _ _ (each_append (Inner P Q) _ _
      (each_append (Inner P Q) _ _ (block m b (left _ _ (left _ _ (left _ _ h)))) (handlers m hs (right _ _
      (left _ _ (left _ _ h))))) (maybe_block m o (right _ _ (left _ _ h)))) (maybe_block m l (right _ _ h))
  statement_form {P} {Q} m (stmt_tree.define n x ps b) h = (
    right _ _ (behind_function h),
    each_append
        (Inner P Q) _ _ (parameters m ps (left _ _ (behind_function h))) (block n b (right _ _ (behind_function h))),
  )
  statement_form m (stmt_tree.class n b) h = block m b h

  pub block : {P : ℕ × Code → Type 0} {Q : Around → Type 0} (m : ℕ) (x : stmt_tree.Stmts)
      → Has P Q (codes.of_stmts x) (blocks.stmts_blocks telling_around m x)
      → Each (Inner P Q) (codes.of_stmts x)
  block m stmt_tree.no_stmts h = tt
  block {P} {Q} m (stmt_tree.stmt x xs) h = each_append (Inner P Q) _ _ (statement m x (left _ _ h)) (block m xs
      (right _ _ h))

  maybe_block : {P : ℕ × Code → Type 0} {Q : Around → Type 0} (m : ℕ) (x : stmt_tree.MaybeStmts)
      → Has P Q (codes.of_maybe_stmts x) (blocks.maybe_stmts_blocks telling_around m x)
      → Each (Inner P Q) (codes.of_maybe_stmts x)
  maybe_block m stmt_tree.none h = tt
  maybe_block m (stmt_tree.some b) h = block m b h

  branches : {P : ℕ × Code → Type 0} {Q : Around → Type 0} (m : ℕ) (x : stmt_tree.Branches)
      → Has P Q (codes.of_branches x) (blocks.branches_blocks telling_around m x)
      → Each (Inner P Q) (codes.of_branches x)
  branches m stmt_tree.no_branches h = tt
  branches {P} {Q} m (stmt_tree.branch x b bs) h = each_append (Inner P Q) _ _ (each_append (Inner P Q) _ _
      (expression m x (left _ _ (left _ _ h))) (block m b (right _ _ (left _ _ h)))) (branches m bs (right _ _ h))

  handler : {P : ℕ × Code → Type 0} {Q : Around → Type 0} (m : ℕ) (x : stmt_tree.Except)
      → Has P Q (codes.of_except x) (blocks.except_blocks telling_around m x)
      → Each (Inner P Q) (codes.of_except x)
  handler {P} {Q} m (stmt_tree.an_except x n b) h = each_append (Inner P Q) _ _ (option m x (left _ _ h)) (block m b
      (right _ _ h))

  handlers : {P : ℕ × Code → Type 0} {Q : Around → Type 0} (m : ℕ) (x : stmt_tree.Excepts)
      → Has P Q (codes.of_excepts x) (blocks.excepts_blocks telling_around m x)
      → Each (Inner P Q) (codes.of_excepts x)
  handlers m stmt_tree.no_excepts h = tt
  handlers {P} {Q} m (stmt_tree.except x xs) h = each_append (Inner P Q) _ _ (handler m x (left _ _ h))
      (handlers m xs (right _ _ h))
