-- Whether all leaves of a tree pass tests: its names, its numbers, the numbers of its code blocks, and its guard marks.
use Rattle.std.specs.Prelude.{◌≡◌, ℕ, ℤ, Bool, true, ◌&&◌, Option, None}
use Rattle.std.specs.List.{list_all}
use Rattle.std.specs.Option.{option_map_or}
use Rattle.rp_base.specs.declared.value.Name.{Name}
use Rattle.rp_token.specs.declared.token.Token.{Token}
use Rattle.rp_token.specs.declared.token.TokenKind.{TokenKind}
use Rattle.rp_token.specs.declared.token.TokenKind.TheVariants as kind
use Rattle.rp_tree.specs.declared.parts.Guard.{Guard}
use Rattle.rp_tree.specs.ExpressionTrees as trees
use Rattle.rp_tree.specs.declared.parts.Named.{Named}
use Rattle.rp_tree.specs.ExpressionTrees.{Expr, Form, Exprs, Maybe, Pairs, Tests, Ops, Clause, Clauses, Walk, Target, Targets, Place, Params, Plain, Trailer, Trailers, Arg, Args}
use Rattle.rp_tree.specs.StatementTrees as stmt_trees
use Rattle.rp_tree.specs.StatementTrees.{Stmt, StmtForm, Stmts, MaybeStmts, Branches, Except, Excepts}
use Rattle.rp_grammar.specs.Kinds.{Tokens}

-- a test of each kind of leaf
pub record LeafTest (A : Type 0) : Type 0 where
  pub name : A → Bool
  pub number : ℤ → Bool
  pub block : ℕ → Bool
  pub mark : Option Guard → Bool

abbrev pub named_passes : {A : Type 0} → LeafTest A → Named A → Bool
named_passes l n = l.name n.name

abbrev mutual
  pub expr_passes : {A : Type 0} → LeafTest A → Expr A → Bool
  expr_passes l (trees.node line f) = form_passes l f

  pub form_passes : {A : Type 0} → LeafTest A → Form A → Bool
  form_passes l (trees.name n) = l.name n
  form_passes l (trees.int n) = l.number n
  form_passes l (trees.text x) = true
  form_passes l (trees.const x) = true
  form_passes l (trees.tuple es) = exprs_pass l es
  form_passes l (trees.list es) = exprs_pass l es
  form_passes l (trees.dict ps) = pairs_pass l ps
  form_passes l (trees.list_of b e cs) = l.block b && expr_passes l e && clauses_pass l cs
  form_passes l (trees.dict_of b k e cs) = l.block b && expr_passes l k && expr_passes l e && clauses_pass l cs
  form_passes l (trees.lambda b p e) = l.block b && params_pass l p && expr_passes l e
  form_passes l (trees.cond x y z) = expr_passes l x && expr_passes l y && expr_passes l z
  form_passes l (trees.or es) = exprs_pass l es
  form_passes l (trees.and es) = exprs_pass l es
  form_passes l (trees.not e) = expr_passes l e
  form_passes l (trees.compare e os) = expr_passes l e && tests_pass l os
  form_passes l (trees.chain e os) = expr_passes l e && ops_pass l os
  form_passes l (trees.unary u e) = expr_passes l e
  form_passes l (trees.power x y) = expr_passes l x && expr_passes l y
  form_passes l (trees.primary e xs) = expr_passes l e && trailers_pass l xs

  pub exprs_pass : {A : Type 0} → LeafTest A → Exprs A → Bool
  exprs_pass l trees.no_exprs = true
  exprs_pass l (trees.expr e es) = expr_passes l e && exprs_pass l es

  pub maybe_passes : {A : Type 0} → LeafTest A → Maybe A → Bool
  maybe_passes l trees.none = true
  maybe_passes l (trees.some e) = expr_passes l e

  pub pairs_pass : {A : Type 0} → LeafTest A → Pairs A → Bool
  pairs_pass l trees.no_pairs = true
  pairs_pass l (trees.pair k e ps) = expr_passes l k && expr_passes l e && pairs_pass l ps

  pub tests_pass : {A : Type 0} → LeafTest A → Tests A → Bool
  tests_pass l trees.no_tests = true
  tests_pass l (trees.test o e os) = expr_passes l e && tests_pass l os

  pub ops_pass : {A : Type 0} → LeafTest A → Ops A → Bool
  ops_pass l trees.no_ops = true
  ops_pass l (trees.op o e os) = expr_passes l e && ops_pass l os

  pub clause_passes : {A : Type 0} → LeafTest A → Clause A → Bool
  clause_passes l (trees.a_clause w es) = walk_passes l w && exprs_pass l es

  pub clauses_pass : {A : Type 0} → LeafTest A → Clauses A → Bool
  clauses_pass l trees.no_clauses = true
  clauses_pass l (trees.clause x xs) = clause_passes l x && clauses_pass l xs

  pub walk_passes : {A : Type 0} → LeafTest A → Walk A → Bool
  walk_passes l (trees.a_walk p e g) = target_passes l p && expr_passes l e && l.mark g

  pub target_passes : {A : Type 0} → LeafTest A → Target A → Bool
  target_passes l (trees.to_place p) = place_passes l p
  target_passes l (trees.group ps) = targets_pass l ps

  pub targets_pass : {A : Type 0} → LeafTest A → Targets A → Bool
  targets_pass l trees.no_targets = true
  targets_pass l (trees.target p ps) = target_passes l p && targets_pass l ps

  pub place_passes : {A : Type 0} → LeafTest A → Place A → Bool
  place_passes l (trees.to_name n) = named_passes l n
  place_passes l (trees.to_attr e n g) = expr_passes l e && named_passes l n && l.mark g
  place_passes l (trees.to_item e i g) = expr_passes l e && expr_passes l i && l.mark g

  pub params_pass : {A : Type 0} → LeafTest A → Params A → Bool
  params_pass l (trees.params ps list dict) =
      plain_passes l ps && option_map_or (named_passes l) list true && option_map_or (named_passes l) dict true

  pub plain_passes : {A : Type 0} → LeafTest A → Plain A → Bool
  plain_passes l trees.no_plain = true
  plain_passes l (trees.plain n e ps) = named_passes l n && maybe_passes l e && plain_passes l ps

  pub trailer_passes : {A : Type 0} → LeafTest A → Trailer A → Bool
  trailer_passes l (trees.attr n g) = named_passes l n && l.mark g
  trailer_passes l (trees.item e g) = expr_passes l e && l.mark g
  trailer_passes l (trees.slice x y z g) = maybe_passes l x && maybe_passes l y && maybe_passes l z && l.mark g
  trailer_passes l (trees.call xs g) = args_pass l xs && l.mark g

  pub trailers_pass : {A : Type 0} → LeafTest A → Trailers A → Bool
  trailers_pass l trees.no_trailers = true
  trailers_pass l (trees.trailer x xs) = trailer_passes l x && trailers_pass l xs

  pub arg_passes : {A : Type 0} → LeafTest A → Arg A → Bool
  arg_passes l (trees.value e) = expr_passes l e
  arg_passes l (trees.star e) = expr_passes l e
  arg_passes l (trees.key n e) = l.name n && expr_passes l e
  arg_passes l (trees.stars e) = expr_passes l e

  pub args_pass : {A : Type 0} → LeafTest A → Args A → Bool
  args_pass l trees.no_args = true
  args_pass l (trees.arg x xs) = arg_passes l x && args_pass l xs

abbrev mutual
  pub stmt_passes : {A : Type 0} → LeafTest A → Stmt A → Bool
  stmt_passes l (stmt_trees.a_stmt line x) = stmt_form_passes l x

  pub stmt_form_passes : {A : Type 0} → LeafTest A → StmtForm A → Bool
  stmt_form_passes l (stmt_trees.evaluate e) = expr_passes l e
  stmt_form_passes l (stmt_trees.assign ps e) = list_all (place_passes l) ps && expr_passes l e
  stmt_form_passes l (stmt_trees.unpack p e g) = target_passes l p && expr_passes l e && l.mark g
  stmt_form_passes l (stmt_trees.aug p o at e g) = place_passes l p && expr_passes l e && l.mark g
  stmt_form_passes l (stmt_trees.del ps) = list_all (place_passes l) ps
  stmt_form_passes l stmt_trees.pass = true
  stmt_form_passes l stmt_trees.break = true
  stmt_form_passes l stmt_trees.continue = true
  stmt_form_passes l (stmt_trees.give_back e) = option_map_or (expr_passes l) e true
  stmt_form_passes l (stmt_trees.raise e) = option_map_or (expr_passes l) e true
  stmt_form_passes l (stmt_trees.assert e m) = expr_passes l e && option_map_or (expr_passes l) m true
  stmt_form_passes l (stmt_trees.global ns) = list_all (named_passes l) ns
  stmt_form_passes l (stmt_trees.choose bs o) = branches_pass l bs && maybe_stmts_pass l o
  stmt_form_passes l (stmt_trees.while e b) = expr_passes l e && stmts_pass l b
  stmt_form_passes l (stmt_trees.for w b) = walk_passes l w && stmts_pass l b
  stmt_form_passes l (stmt_trees.try b hs o last) =
      stmts_pass l b && excepts_pass l hs && maybe_stmts_pass l o && maybe_stmts_pass l last
  stmt_form_passes l (stmt_trees.define k n ps b) = l.block k && named_passes l n && params_pass l ps && stmts_pass l b
  stmt_form_passes l (stmt_trees.class n b) = named_passes l n && stmts_pass l b

  pub stmts_pass : {A : Type 0} → LeafTest A → Stmts A → Bool
  stmts_pass l stmt_trees.no_stmts = true
  stmts_pass l (stmt_trees.stmt x xs) = stmt_passes l x && stmts_pass l xs

  pub maybe_stmts_pass : {A : Type 0} → LeafTest A → MaybeStmts A → Bool
  maybe_stmts_pass l stmt_trees.none = true
  maybe_stmts_pass l (stmt_trees.some b) = stmts_pass l b

  pub branches_pass : {A : Type 0} → LeafTest A → Branches A → Bool
  branches_pass l stmt_trees.no_branches = true
  branches_pass l (stmt_trees.branch e b bs) = expr_passes l e && stmts_pass l b && branches_pass l bs

  pub except_passes : {A : Type 0} → LeafTest A → Except A → Bool
  except_passes l (stmt_trees.an_except k n b) =
      option_map_or (expr_passes l) k true && option_map_or (named_passes l) n true && stmts_pass l b

  pub excepts_pass : {A : Type 0} → LeafTest A → Excepts A → Bool
  excepts_pass l stmt_trees.no_excepts = true
  excepts_pass l (stmt_trees.except x xs) = except_passes l x && excepts_pass l xs

-- ---- the leaves of tokens

-- the name or the number that a token is
abbrev pub kind_passes : LeafTest Name → TokenKind → Bool
kind_passes l (kind.Name n) = l.name n
kind_passes l (kind.Int n) = l.number n
kind_passes l k = true

abbrev pub tokens_pass : LeafTest Name → Tokens → Bool
tokens_pass l ts = list_all (λ (t : Token). kind_passes l t.kind) ts

-- The tree has the names and the numbers of the tokens, code blocks without numbers, and no marks: each test that these
-- pass, its leaves pass.
abbrev pub HasLeavesOf : Tokens → Stmts Name → Type 0
HasLeavesOf tokens tree =
    (l : LeafTest Name) → l.block 0 ≡ true → l.mark None ≡ true → tokens_pass l tokens ≡ true → stmts_pass l tree ≡ true
