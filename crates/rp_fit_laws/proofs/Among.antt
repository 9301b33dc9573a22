-- What holds of each code block of a part, by its number and its nest, holds of the block of each function of it.
use Rattle.std.proofs.Common.{ℕ, List, [], ◌∷◌, ◌++◌, Option, Some, None}
use Rattle.rp_base.specs.declared.value.Name.{Name}
use Rattle.rp_tree.specs.Expressions as tree
use Rattle.rp_tree.specs.Statements as stmt_tree
use Rattle.rp_scope.specs.Bindings.{comprehension_block, function_block, lambda_block}
use Rattle.rp_scope.specs.Blocks as blocks
use Rattle.rp_scope.specs.Blocks.{Nest, telling_nests}
use Rattle.rp_meaning.specs.Blocks as codes
use Rattle.rp_meaning.specs.Blocks.{Code}
use Rattle.rp_apart_laws.proofs.Lists.{each_append}
use Rattle.rp_apart_laws.specs.Apart.{Each}
use Rattle.rp_keeper_laws.proofs.Trees.{each_left, each_right}
use Rattle.rp_fit_laws.specs.Programs.{code_block}

-- the block of a function, with some blocks around it
abbrev pub Among : (ℕ × Nest Name → Type 0) → ℕ × Code → Type 0
Among Q e = (around : Nest Name) × Q (e.0, code_block e.1 ∷ around)

-- what holds of each block of some
pub record All (Q : ℕ × Nest Name → Type 0) (bs : List (ℕ × Nest Name)) : Type 0 where
  pub each : Each Q bs

left : {Q : ℕ × Nest Name → Type 0} {xs : List (ℕ × Nest Name)} (ys : List (ℕ × Nest Name)) → All Q (xs ++ ys)
    → All Q xs
left {Q} {xs} ys h = record { each = each_left Q xs ys h.each }

right : {Q : ℕ × Nest Name → Type 0} (xs : List (ℕ × Nest Name)) {ys : List (ℕ × Nest Name)} → All Q (xs ++ ys)
    → All Q ys
right {Q} xs {ys} h = record { each = each_right Q xs ys h.each }

rest : {Q : ℕ × Nest Name → Type 0} {b : ℕ × Nest Name} {bs : List (ℕ × Nest Name)} → All Q (b ∷ bs) → All Q bs
rest h = record { each = h.each.1 }

mutual
  pub expression : (Q : ℕ × Nest Name → Type 0) (around : Nest Name) (x : tree.Expr)
      → All Q (blocks.expr_blocks telling_nests around x) → Each (Among Q) (codes.of_expr x)
  expression Q around (tree.node line x) h = of_form Q around x h

  of_form : (Q : ℕ × Nest Name → Type 0) (around : Nest Name) (x : tree.Form)
      → All Q (blocks.form_blocks telling_nests around x) → Each (Among Q) (codes.of_form x)
  of_form Q around (tree.name x) h = tt
  of_form Q around (tree.int z) h = tt
  of_form Q around (tree.text x) h = tt
  of_form Q around (tree.const c) h = tt
  of_form Q around (tree.tuple es) h = exprs Q around es h
  of_form Q around (tree.list es) h = exprs Q around es h
  of_form Q around (tree.dict ps) h = pairs Q around ps h
  of_form Q around (tree.list_of n x cs) h = each_append (Among Q) _ _ (expression Q
      (comprehension_block cs ∷ around) x (left _ (rest h))) (clauses Q around (comprehension_block cs ∷ around) cs
      (right _ (rest h)))
  of_form Q around (tree.dict_of n y x cs) h = each_append (Among Q) _ _ (each_append (Among Q) _ _ (expression Q
      (comprehension_block cs ∷ around) y (left _ (left _ (rest h)))) (expression Q
      (comprehension_block cs ∷ around) x (right _ (left _ (rest h))))) (clauses Q around
      (comprehension_block cs ∷ around) cs (right _ (rest h)))
  of_form Q around (tree.lambda n ps x) h = (
    (around, h.each.0),
    each_append (Among Q) _ _ (parameters Q around ps
        (left _ (rest h))) (expression Q (lambda_block ps ∷ around) x (right _ (rest h))),
  )
  of_form Q around (tree.cond x a b) h = each_append (Among Q) _ _ (each_append (Among Q) _ _ (expression Q around x
      (right _ (left _ h))) (expression Q around a (left _ (left _ h)))) (expression Q around b (right _ h))
  of_form Q around (tree.or es) h = exprs Q around es h
  of_form Q around (tree.and es) h = exprs Q around es h
  of_form Q around (tree.not x) h = expression Q around x h
  of_form Q around (tree.compare x ts) h = each_append (Among Q) _ _ (expression Q around x (left _ h))
      (tests Q around ts (right _ h))
  of_form Q around (tree.chain x os) h = each_append (Among Q) _ _ (expression Q around x (left _ h))
      (ops Q around os (right _ h))
  of_form Q around (tree.unary u x) h = expression Q around x h
  of_form Q around (tree.power a b) h = each_append (Among Q) _ _ (expression Q around a (left _ h))
      (expression Q around b (right _ h))
  of_form Q around (tree.primary x ts) h = each_append (Among Q) _ _ (expression Q around x (left _ h))
      (trailers Q around ts (right _ h))

  exprs : (Q : ℕ × Nest Name → Type 0) (around : Nest Name) (x : tree.Exprs)
      → All Q (blocks.exprs_blocks telling_nests around x) → Each (Among Q) (codes.of_exprs x)
  exprs Q around tree.no_exprs h = tt
  exprs Q around (tree.expr x xs) h = each_append (Among Q) _ _ (expression Q around x (left _ h))
      (exprs Q around xs (right _ h))

  maybe : (Q : ℕ × Nest Name → Type 0) (around : Nest Name) (x : tree.Maybe)
      → All Q (blocks.maybe_blocks telling_nests around x) → Each (Among Q) (codes.of_maybe x)
  maybe Q around tree.none h = tt
  maybe Q around (tree.some x) h = expression Q around x h

  pairs : (Q : ℕ × Nest Name → Type 0) (around : Nest Name) (x : tree.Pairs)
      → All Q (blocks.pairs_blocks telling_nests around x) → Each (Among Q) (codes.of_pairs x)
  pairs Q around tree.no_pairs h = tt
  pairs Q around (tree.pair y x ps) h = each_append (Among Q) _ _ (each_append (Among Q) _ _ (expression Q around y
      (left _ (left _ h))) (expression Q around x (right _ (left _ h)))) (pairs Q around ps (right _ h))

  tests : (Q : ℕ × Nest Name → Type 0) (around : Nest Name) (x : tree.Tests)
      → All Q (blocks.tests_blocks telling_nests around x) → Each (Among Q) (codes.of_tests x)
  tests Q around tree.no_tests h = tt
  tests Q around (tree.test o x ts) h = each_append (Among Q) _ _ (expression Q around x (left _ h))
      (tests Q around ts (right _ h))

  ops : (Q : ℕ × Nest Name → Type 0) (around : Nest Name) (x : tree.Ops)
      → All Q (blocks.ops_blocks telling_nests around x) → Each (Among Q) (codes.of_ops x)
  ops Q around tree.no_ops h = tt
  ops Q around (tree.op o x os) h = each_append (Among Q) _ _ (expression Q around x (left _ h)) (ops Q around os
      (right _ h))

  clause : (Q : ℕ × Nest Name → Type 0) (around inside : Nest Name) (x : tree.Clause)
      → All Q (blocks.clause_blocks telling_nests around inside x) → Each (Among Q) (codes.of_clause x)
  clause Q around inside (tree.a_clause w es) h = each_append (Among Q) _ _ (walk Q around inside w (left _ h))
      (exprs Q inside es (right _ h))

  clauses : (Q : ℕ × Nest Name → Type 0) (around inside : Nest Name) (x : tree.Clauses)
      → All Q (blocks.clauses_blocks telling_nests around inside x) → Each (Among Q) (codes.of_clauses x)
  clauses Q around inside tree.no_clauses h = tt
  clauses Q around inside (tree.clause x xs) h = each_append (Among Q) _ _ (clause Q around inside x (left _ h))
      (clauses Q inside inside xs (right _ h))

  walk : (Q : ℕ × Nest Name → Type 0) (around inside : Nest Name) (x : tree.Walk)
      → All Q (blocks.walk_blocks telling_nests around inside x) → Each (Among Q) (codes.of_walk x)
  walk Q around inside (tree.a_walk p x g) h = each_append (Among Q) _ _ (target Q inside p (left _ h))
      (expression Q around x (right _ h))

  target : (Q : ℕ × Nest Name → Type 0) (around : Nest Name) (x : tree.Target)
      → All Q (blocks.target_blocks telling_nests around x) → Each (Among Q) (codes.of_target x)
  target Q around (tree.to_place p) h = place Q around p h
  target Q around (tree.group ps) h = targets Q around ps h

  targets : (Q : ℕ × Nest Name → Type 0) (around : Nest Name) (x : tree.Targets)
      → All Q (blocks.targets_blocks telling_nests around x) → Each (Among Q) (codes.of_targets x)
  targets Q around tree.no_targets h = tt
  targets Q around (tree.target p ps) h = each_append (Among Q) _ _ (target Q around p (left _ h))
      (targets Q around ps (right _ h))

  place : (Q : ℕ × Nest Name → Type 0) (around : Nest Name) (x : tree.Place)
      → All Q (blocks.place_blocks telling_nests around x) → Each (Among Q) (codes.of_place x)
  place Q around (tree.to_name x) h = tt
  place Q around (tree.to_attr x a g) h = expression Q around x h
  place Q around (tree.to_item x i g) h = each_append (Among Q) _ _ (expression Q around x (left _ h))
      (expression Q around i (right _ h))

  parameters : (Q : ℕ × Nest Name → Type 0) (around : Nest Name) (x : tree.Params)
      → All Q (blocks.params_blocks telling_nests around x) → Each (Among Q) (codes.of_params x)
  parameters Q around (tree.params ps l d) h = plain Q around ps h

  plain : (Q : ℕ × Nest Name → Type 0) (around : Nest Name) (x : tree.Plain)
      → All Q (blocks.plain_blocks telling_nests around x) → Each (Among Q) (codes.of_plain x)
  plain Q around tree.no_plain h = tt
  plain Q around (tree.plain n x ps) h = each_append (Among Q) _ _ (maybe Q around x (left _ h)) (plain Q around ps
      (right _ h))

  trailer : (Q : ℕ × Nest Name → Type 0) (around : Nest Name) (x : tree.Trailer)
      → All Q (blocks.trailer_blocks telling_nests around x) → Each (Among Q) (codes.of_trailer x)
  trailer Q around (tree.attr x g) h = tt
  trailer Q around (tree.item x g) h = expression Q around x h
  trailer Q around (tree.slice a b c g) h = each_append (Among Q) _ _ (each_append (Among Q) _ _ (maybe Q around a
      (left _ (left _ h))) (maybe Q around b (right _ (left _ h)))) (maybe Q around c (right _ h))
  trailer Q around (tree.call xs g) h = args Q around xs h

  trailers : (Q : ℕ × Nest Name → Type 0) (around : Nest Name) (x : tree.Trailers)
      → All Q (blocks.trailers_blocks telling_nests around x) → Each (Among Q) (codes.of_trailers x)
  trailers Q around tree.no_trailers h = tt
  trailers Q around (tree.trailer x xs) h = each_append (Among Q) _ _ (trailer Q around x (left _ h))
      (trailers Q around xs (right _ h))

  arg : (Q : ℕ × Nest Name → Type 0) (around : Nest Name) (x : tree.Arg)
      → All Q (blocks.arg_blocks telling_nests around x) → Each (Among Q) (codes.of_arg x)
  arg Q around (tree.value x) h = expression Q around x h
  arg Q around (tree.star x) h = expression Q around x h
  arg Q around (tree.key n x) h = expression Q around x h
  arg Q around (tree.stars x) h = expression Q around x h

  args : (Q : ℕ × Nest Name → Type 0) (around : Nest Name) (x : tree.Args)
      → All Q (blocks.args_blocks telling_nests around x) → Each (Among Q) (codes.of_args x)
  args Q around tree.no_args h = tt
  args Q around (tree.arg x xs) h = each_append (Among Q) _ _ (arg Q around x (left _ h)) (args Q around xs (right _ h))

option : (Q : ℕ × Nest Name → Type 0) (around : Nest Name) (x : Option tree.Expr)
    → All Q (blocks.option_blocks telling_nests around x) → Each (Among Q) (codes.of_option x)
option Q around None h = tt
option Q around (Some x) h = expression Q around x h

places : (Q : ℕ × Nest Name → Type 0) (around : Nest Name) (x : List tree.Place)
    → All Q (blocks.places_blocks telling_nests around x) → Each (Among Q) (codes.of_places x)
places Q around [] h = tt
places Q around (p ∷ ps) h = each_append (Among Q) _ _ (place Q around p (left _ h)) (places Q around ps (right _ h))

mutual
  pub statement : (Q : ℕ × Nest Name → Type 0) (around : Nest Name) (x : stmt_tree.Stmt)
      → All Q (blocks.stmt_blocks telling_nests around x) → Each (Among Q) (codes.of_stmt x)
  statement Q around (stmt_tree.a_stmt line x) h = statement_form Q around x h

  statement_form : (Q : ℕ × Nest Name → Type 0) (around : Nest Name) (x : stmt_tree.StmtForm)
      → All Q (blocks.stmt_form_blocks telling_nests around x) → Each (Among Q) (codes.of_stmt_form x)
  statement_form Q around (stmt_tree.evaluate x) h = expression Q around x h
  statement_form Q around (stmt_tree.assign ps x) h = each_append (Among Q) _ _ (places Q around ps (left _ h))
      (expression Q around x (right _ h))
  statement_form Q around (stmt_tree.unpack p x g) h = each_append (Among Q) _ _ (target Q around p (left _ h))
      (expression Q around x (right _ h))
  statement_form Q around (stmt_tree.aug p o at x g) h = each_append (Among Q) _ _ (place Q around p (left _ h))
      (expression Q around x (right _ h))
  statement_form Q around (stmt_tree.del ps) h = places Q around ps h
  statement_form Q around stmt_tree.pass h = tt
  statement_form Q around stmt_tree.break h = tt
  statement_form Q around stmt_tree.continue h = tt
  statement_form Q around (stmt_tree.give_back x) h = option Q around x h
  statement_form Q around (stmt_tree.raise x) h = option Q around x h
  statement_form Q around (stmt_tree.assert x y) h = each_append (Among Q) _ _ (expression Q around x (left _ h))
      (option Q around y (right _ h))
  statement_form Q around (stmt_tree.global ns) h = tt
  statement_form Q around (stmt_tree.choose bs o) h = each_append (Among Q) _ _ (branches Q around bs (left _ h))
      (maybe_block Q around o (right _ h))
  statement_form Q around (stmt_tree.while x b) h = each_append (Among Q) _ _ (expression Q around x (left _ h))
      (block Q around b (right _ h))
  statement_form Q around (stmt_tree.for w b) h = each_append (Among Q) _ _ (walk Q around around w (left _ h))
      (block Q around b (right _ h))
  statement_form Q around (stmt_tree.try b hs o l) h = each_append (Among Q) _ _ (each_append (Among Q) _ _
      (each_append (Among Q) _ _ (block Q around b (left _ (left _ (left _ h)))) (handlers Q around hs (right _
      (left _ (left _ h))))) (maybe_block Q around o (right _ (left _ h)))) (maybe_block Q around l (right _ h))
  statement_form Q around (stmt_tree.define n x ps b) h = (
    (around, h.each.0),
    each_append (Among Q) _ _
        (parameters Q around ps (left _ (rest h))) (block Q (function_block ps b ∷ around) b (right _ (rest h))),
  )
  statement_form Q around (stmt_tree.class n b) h = block Q around b h

  pub block : (Q : ℕ × Nest Name → Type 0) (around : Nest Name) (x : stmt_tree.Stmts)
      → All Q (blocks.stmts_blocks telling_nests around x) → Each (Among Q) (codes.of_stmts x)
  block Q around stmt_tree.no_stmts h = tt
  block Q around (stmt_tree.stmt x xs) h = each_append (Among Q) _ _ (statement Q around x (left _ h))
      (block Q around xs (right _ h))

  maybe_block : (Q : ℕ × Nest Name → Type 0) (around : Nest Name) (x : stmt_tree.MaybeStmts)
      → All Q (blocks.maybe_stmts_blocks telling_nests around x) → Each (Among Q) (codes.of_maybe_stmts x)
  maybe_block Q around stmt_tree.none h = tt
  maybe_block Q around (stmt_tree.some b) h = block Q around b h

  branches : (Q : ℕ × Nest Name → Type 0) (around : Nest Name) (x : stmt_tree.Branches)
      → All Q (blocks.branches_blocks telling_nests around x) → Each (Among Q) (codes.of_branches x)
  branches Q around stmt_tree.no_branches h = tt
  branches Q around (stmt_tree.branch x b bs) h = each_append (Among Q) _ _ (each_append (Among Q) _ _
      (expression Q around x (left _ (left _ h))) (block Q around b (right _ (left _ h)))) (branches Q around bs
      (right _ h))

  handler : (Q : ℕ × Nest Name → Type 0) (around : Nest Name) (x : stmt_tree.Except)
      → All Q (blocks.except_blocks telling_nests around x) → Each (Among Q) (codes.of_except x)
  handler Q around (stmt_tree.an_except x n b) h = each_append (Among Q) _ _ (option Q around x (left _ h))
      (block Q around b (right _ h))

  handlers : (Q : ℕ × Nest Name → Type 0) (around : Nest Name) (x : stmt_tree.Excepts)
      → All Q (blocks.excepts_blocks telling_nests around x) → Each (Among Q) (codes.of_excepts x)
  handlers Q around stmt_tree.no_excepts h = tt
  handlers Q around (stmt_tree.except x xs) h = each_append (Among Q) _ _ (handler Q around x (left _ h))
      (handlers Q around xs (right _ h))
