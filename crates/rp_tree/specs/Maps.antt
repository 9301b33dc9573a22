-- One map over trees: what becomes of each name, each line, each number of a code block, and of each guard mark at its site.
-- All else stays. Renaming and the dropping of lines and numbers are such maps.
use Rattle.std.specs.Prelude.{ℕ, map, Option, option_map}
use Rattle.rp_base.specs.declared.value.Line.{Line}
use Rattle.rp_tree.specs.declared.parts.Guard.{Guard}
use Rattle.rp_tree.specs.ExpressionTrees as trees
use Rattle.rp_tree.specs.ExpressionTrees.{Named, Expr, Form, Exprs, Maybe, Pairs, Tests, Ops, Clause, Clauses, Walk, Target, Targets, Place, Params, Plain, Trailer, Trailers, Arg, Args}
use Rattle.rp_tree.specs.StatementTrees as stmt_trees
use Rattle.rp_tree.specs.StatementTrees.{Stmt, StmtForm, Stmts, MaybeStmts, Branches, Except, Excepts}

-- where a guard mark may stand
pub data Site : Type 0 where
  attribute_read : Site
  item_read : Site
  slice_read : Site
  -- a call without '*e' and '**e', and one with such an argument
  plain_call : Site
  star_call : Site
  -- an attribute or an item that is assigned or deleted
  attribute_stored : Site
  item_stored : Site
  -- what 'for' goes over, its elements assigned to one place, or dealt out over a group
  walk_to_place : Site
  walk_to_group : Site
  -- an assignment that deals its value out over a group
  unpacking : Site
  -- an augmented assignment to a name, and one to an attribute or an item
  inplace_name : Site
  inplace_part : Site

abbrev pub call_site : {A : Type 0} → Args A → Site
call_site trees.no_args = plain_call
call_site (trees.arg (trees.value e) xs) = call_site xs
call_site (trees.arg (trees.star e) xs) = star_call
call_site (trees.arg (trees.key n e) xs) = call_site xs
call_site (trees.arg (trees.stars e) xs) = star_call

abbrev pub walk_site : {A : Type 0} → Target A → Site
walk_site (trees.to_place p) = walk_to_place
walk_site (trees.group ps) = walk_to_group

abbrev pub inplace_site : {A : Type 0} → Place A → Site
inplace_site (trees.to_name n) = inplace_name
inplace_site (trees.to_attr e n g) = inplace_part
inplace_site (trees.to_item e i g) = inplace_part

-- what becomes of names, lines, numbers of code blocks, and marks
pub record Change (A B : Type 0) : Type 0 where
  pub name : A → B
  pub line : Line → Line
  pub block : ℕ → ℕ
  pub mark : Site → Option Guard → Option Guard

abbrev pub map_named : {A B : Type 0} → Change A B → Named A → Named B
map_named c n = record { name = c.name n.name; line = c.line n.line }

abbrev mutual
  pub map_expr : {A B : Type 0} → Change A B → Expr A → Expr B
  map_expr c (trees.node l f) = trees.node (c.line l) (map_form c f)

  pub map_form : {A B : Type 0} → Change A B → Form A → Form B
  map_form c (trees.name n) = trees.name (c.name n)
  map_form c (trees.int n) = trees.int n
  map_form c (trees.text x) = trees.text x
  map_form c (trees.const x) = trees.const x
  map_form c (trees.tuple es) = trees.tuple (map_exprs c es)
  map_form c (trees.list es) = trees.list (map_exprs c es)
  map_form c (trees.dict ps) = trees.dict (map_pairs c ps)
  map_form c (trees.list_of b e cs) = trees.list_of (c.block b) (map_expr c e) (map_clauses c cs)
  map_form c (trees.dict_of b k e cs) = trees.dict_of (c.block b) (map_expr c k) (map_expr c e) (map_clauses c cs)
  map_form c (trees.lambda b p e) = trees.lambda (c.block b) (map_params c p) (map_expr c e)
  map_form c (trees.cond x y z) = trees.cond (map_expr c x) (map_expr c y) (map_expr c z)
  map_form c (trees.or es) = trees.or (map_exprs c es)
  map_form c (trees.and es) = trees.and (map_exprs c es)
  map_form c (trees.not e) = trees.not (map_expr c e)
  map_form c (trees.compare e os) = trees.compare (map_expr c e) (map_tests c os)
  map_form c (trees.chain e os) = trees.chain (map_expr c e) (map_ops c os)
  map_form c (trees.unary u e) = trees.unary u (map_expr c e)
  map_form c (trees.power x y) = trees.power (map_expr c x) (map_expr c y)
  map_form c (trees.primary e xs) = trees.primary (map_expr c e) (map_trailers c xs)

  pub map_exprs : {A B : Type 0} → Change A B → Exprs A → Exprs B
  map_exprs c trees.no_exprs = trees.no_exprs
  map_exprs c (trees.expr e es) = trees.expr (map_expr c e) (map_exprs c es)

  pub map_maybe : {A B : Type 0} → Change A B → Maybe A → Maybe B
  map_maybe c trees.none = trees.none
  map_maybe c (trees.some e) = trees.some (map_expr c e)

  pub map_pairs : {A B : Type 0} → Change A B → Pairs A → Pairs B
  map_pairs c trees.no_pairs = trees.no_pairs
  map_pairs c (trees.pair k e ps) = trees.pair (map_expr c k) (map_expr c e) (map_pairs c ps)

  pub map_tests : {A B : Type 0} → Change A B → Tests A → Tests B
  map_tests c trees.no_tests = trees.no_tests
  map_tests c (trees.test o e os) = trees.test o (map_expr c e) (map_tests c os)

  pub map_ops : {A B : Type 0} → Change A B → Ops A → Ops B
  map_ops c trees.no_ops = trees.no_ops
  map_ops c (trees.op o e os) = trees.op o (map_expr c e) (map_ops c os)

  pub map_clause : {A B : Type 0} → Change A B → Clause A → Clause B
  map_clause c (trees.a_clause w es) = trees.a_clause (map_walk c w) (map_exprs c es)

  pub map_clauses : {A B : Type 0} → Change A B → Clauses A → Clauses B
  map_clauses c trees.no_clauses = trees.no_clauses
  map_clauses c (trees.clause x xs) = trees.clause (map_clause c x) (map_clauses c xs)

  pub map_walk : {A B : Type 0} → Change A B → Walk A → Walk B
  map_walk c (trees.a_walk p e g) = trees.a_walk (map_target c p) (map_expr c e) (c.mark (walk_site p) g)

  pub map_target : {A B : Type 0} → Change A B → Target A → Target B
  map_target c (trees.to_place p) = trees.to_place (map_place c p)
  map_target c (trees.group ps) = trees.group (map_targets c ps)

  pub map_targets : {A B : Type 0} → Change A B → Targets A → Targets B
  map_targets c trees.no_targets = trees.no_targets
  map_targets c (trees.target p ps) = trees.target (map_target c p) (map_targets c ps)

  pub map_place : {A B : Type 0} → Change A B → Place A → Place B
  map_place c (trees.to_name n) = trees.to_name (map_named c n)
  map_place c (trees.to_attr e n g) = trees.to_attr (map_expr c e) (map_named c n) (c.mark attribute_stored g)
  map_place c (trees.to_item e i g) = trees.to_item (map_expr c e) (map_expr c i) (c.mark item_stored g)

  pub map_params : {A B : Type 0} → Change A B → Params A → Params B
  map_params c (trees.params ps l d) = trees.params (map_plain c ps) (option_map (map_named c) l) (option_map (map_named c) d)

  pub map_plain : {A B : Type 0} → Change A B → Plain A → Plain B
  map_plain c trees.no_plain = trees.no_plain
  map_plain c (trees.plain n e ps) = trees.plain (map_named c n) (map_maybe c e) (map_plain c ps)

  pub map_trailer : {A B : Type 0} → Change A B → Trailer A → Trailer B
  map_trailer c (trees.attr n g) = trees.attr (map_named c n) (c.mark attribute_read g)
  map_trailer c (trees.item e g) = trees.item (map_expr c e) (c.mark item_read g)
  map_trailer c (trees.slice x y z g) = trees.slice (map_maybe c x) (map_maybe c y) (map_maybe c z) (c.mark slice_read g)
  map_trailer c (trees.call xs g) = trees.call (map_args c xs) (c.mark (call_site xs) g)

  pub map_trailers : {A B : Type 0} → Change A B → Trailers A → Trailers B
  map_trailers c trees.no_trailers = trees.no_trailers
  map_trailers c (trees.trailer x xs) = trees.trailer (map_trailer c x) (map_trailers c xs)

  pub map_arg : {A B : Type 0} → Change A B → Arg A → Arg B
  map_arg c (trees.value e) = trees.value (map_expr c e)
  map_arg c (trees.star e) = trees.star (map_expr c e)
  map_arg c (trees.key n e) = trees.key (c.name n) (map_expr c e)
  map_arg c (trees.stars e) = trees.stars (map_expr c e)

  pub map_args : {A B : Type 0} → Change A B → Args A → Args B
  map_args c trees.no_args = trees.no_args
  map_args c (trees.arg x xs) = trees.arg (map_arg c x) (map_args c xs)

abbrev mutual
  pub map_stmt : {A B : Type 0} → Change A B → Stmt A → Stmt B
  map_stmt c (stmt_trees.a_stmt l x) = stmt_trees.a_stmt (c.line l) (map_stmt_form c x)

  pub map_stmt_form : {A B : Type 0} → Change A B → StmtForm A → StmtForm B
  map_stmt_form c (stmt_trees.evaluate e) = stmt_trees.evaluate (map_expr c e)
  map_stmt_form c (stmt_trees.assign ps e) = stmt_trees.assign (map (map_place c) ps) (map_expr c e)
  map_stmt_form c (stmt_trees.unpack p e g) = stmt_trees.unpack (map_target c p) (map_expr c e) (c.mark unpacking g)
  map_stmt_form c (stmt_trees.aug p o at e g) = stmt_trees.aug (map_place c p) o (c.line at) (map_expr c e) (c.mark (inplace_site p) g)
  map_stmt_form c (stmt_trees.del ps) = stmt_trees.del (map (map_place c) ps)
  map_stmt_form c stmt_trees.pass = stmt_trees.pass
  map_stmt_form c stmt_trees.break = stmt_trees.break
  map_stmt_form c stmt_trees.continue = stmt_trees.continue
  map_stmt_form c (stmt_trees.give_back e) = stmt_trees.give_back (option_map (map_expr c) e)
  map_stmt_form c (stmt_trees.raise e) = stmt_trees.raise (option_map (map_expr c) e)
  map_stmt_form c (stmt_trees.assert e m) = stmt_trees.assert (map_expr c e) (option_map (map_expr c) m)
  map_stmt_form c (stmt_trees.global ns) = stmt_trees.global (map (map_named c) ns)
  map_stmt_form c (stmt_trees.choose bs o) = stmt_trees.choose (map_branches c bs) (map_maybe_stmts c o)
  map_stmt_form c (stmt_trees.while e b) = stmt_trees.while (map_expr c e) (map_stmts c b)
  map_stmt_form c (stmt_trees.for w b) = stmt_trees.for (map_walk c w) (map_stmts c b)
  map_stmt_form c (stmt_trees.try b hs o l) = stmt_trees.try (map_stmts c b) (map_excepts c hs) (map_maybe_stmts c o) (map_maybe_stmts c l)
  map_stmt_form c (stmt_trees.define k n ps b) = stmt_trees.define (c.block k) (map_named c n) (map_params c ps) (map_stmts c b)
  map_stmt_form c (stmt_trees.class n b) = stmt_trees.class (map_named c n) (map_stmts c b)

  pub map_stmts : {A B : Type 0} → Change A B → Stmts A → Stmts B
  map_stmts c stmt_trees.no_stmts = stmt_trees.no_stmts
  map_stmts c (stmt_trees.stmt x xs) = stmt_trees.stmt (map_stmt c x) (map_stmts c xs)

  pub map_maybe_stmts : {A B : Type 0} → Change A B → MaybeStmts A → MaybeStmts B
  map_maybe_stmts c stmt_trees.none = stmt_trees.none
  map_maybe_stmts c (stmt_trees.some b) = stmt_trees.some (map_stmts c b)

  pub map_branches : {A B : Type 0} → Change A B → Branches A → Branches B
  map_branches c stmt_trees.no_branches = stmt_trees.no_branches
  map_branches c (stmt_trees.branch e b bs) = stmt_trees.branch (map_expr c e) (map_stmts c b) (map_branches c bs)

  pub map_except : {A B : Type 0} → Change A B → Except A → Except B
  map_except c (stmt_trees.an_except k n b) = stmt_trees.an_except (option_map (map_expr c) k) (option_map (map_named c) n) (map_stmts c b)

  pub map_excepts : {A B : Type 0} → Change A B → Excepts A → Excepts B
  map_excepts c stmt_trees.no_excepts = stmt_trees.no_excepts
  map_excepts c (stmt_trees.except x xs) = stmt_trees.except (map_except c x) (map_excepts c xs)

-- one change after another
abbrev pub after : {A B C : Type 0} → Change A B → Change B C → Change A C
after c d = record { name = λ n. d.name (c.name n); line = λ l. d.line (c.line l); block = λ k. d.block (c.block k); mark = λ x g. d.mark x (c.mark x g) }

-- other names, and nothing else
abbrev pub names_by : {A B : Type 0} → (A → B) → Change A B
names_by f = record { name = f; line = λ l. l; block = λ k. k; mark = λ x g. g }

-- no lines: line 0 everywhere, which no token has
abbrev pub no_lines : {A : Type 0} → Change A A
no_lines = record { name = λ n. n; line = λ l. record { 0 = 0 }; block = λ k. k; mark = λ x g. g }

-- no numbers of code blocks: 0 everywhere, as the parser leaves them
abbrev pub no_blocks : {A : Type 0} → Change A A
no_blocks = record { name = λ n. n; line = λ l. l; block = λ k. 0; mark = λ x g. g }

-- neither lines nor numbers of code blocks
abbrev pub shape : {A : Type 0} → Change A A
shape = record { name = λ n. n; line = λ l. record { 0 = 0 }; block = λ k. 0; mark = λ x g. g }

-- a tree with its names changed
abbrev pub named : {A B : Type 0} → (A → B) → Stmts A → Stmts B
named f = map_stmts (names_by f)

-- a tree without its lines
abbrev pub without_lines : {A : Type 0} → Stmts A → Stmts A
without_lines = map_stmts no_lines

-- a tree without the numbers of its code blocks
abbrev pub without_blocks : {A : Type 0} → Stmts A → Stmts A
without_blocks = map_stmts no_blocks

-- a tree without both: two trees are the same where these are equal
abbrev pub shape_of : {A : Type 0} → Stmts A → Stmts A
shape_of = map_stmts shape
