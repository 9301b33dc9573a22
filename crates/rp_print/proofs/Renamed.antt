-- A tree whose names are replaced by others has the text of the tree, by the words of these. The numbers of code blocks tell nothing.
use Rattle.std.proofs.Common.{◌≡◌, ℕ, suc, Bool, true, false, ◌||◌, List, [], ◌∷◌, ◌++◌, map, codes, Option}
use Rattle.std.proofs.Common.{Some, None, option_map, refl, sym, ap}
use Rattle.std.specs.Fmt.{decimal}
use Rattle.rp_base.specs.declared.operator.BinOp.{BinOp}
use Rattle.rp_tree.specs.declared.parts.Guard.{Guard}
use Rattle.rp_tree.specs.declared.parts.Named.{Named}
use Rattle.rp_tree.specs.ExpressionTrees as trees
use Rattle.rp_tree.specs.ExpressionTrees.{Expr, Form, Exprs, Maybe, Pairs, Tests, Ops, Clause, Clauses, Walk, Target}
use Rattle.rp_tree.specs.ExpressionTrees.{Targets, Place, Params, Plain, Trailer, Trailers, Arg, Args}
use Rattle.rp_tree.specs.Maps as maps
use Rattle.rp_tree.specs.Maps.{Change, named, without_blocks}
use Rattle.rp_tree.specs.StatementTrees as stmt_trees
use Rattle.rp_tree.specs.StatementTrees.{Stmt, StmtForm, Stmts, MaybeStmts, Branches, Except, Excepts}
use Rattle.rp_print.specs.Texts.{◌⧺◌, bracketed, call_text, joined, line, listed, name_literal}
use Rattle.rp_print.specs.Texts.{tuple_text}
use Rattle.rp_print.specs.Operators.{binary_text, test_text, unary_text}
use Rattle.rp_print.specs.Expressions as texts
use Rattle.rp_print.specs.Expressions.{begins_guarded, dealt, guarded_iterable, inner_spec, inner_specs, is_guarded}
use Rattle.rp_print.specs.Expressions.{lambda_head, stands_alone, stands_before_trailer, spec_text, starred}
use Rattle.rp_print.specs.Expressions.{targets_count}
use Rattle.rp_print.specs.Statements as lines
use Rattle.rp_print.specs.Statements.{augmented_text, branch_keyword, printed, printed_by, unpacked}

module _ {A B : Type 0} (f : A → B) (renumber : ℕ → ℕ) where
  abbrev change : Change A B
  change = record { name = f; line = λ l. l; block = renumber; mark = λ x g. g }

  alone_named : (x : Form A) → stands_alone (maps.map_form change x) ≡ stands_alone x
  alone_named (trees.primary e xs) = refl
  alone_named _ = refl

  before_named : (x : Form A) → stands_before_trailer (maps.map_form change x) ≡ stands_before_trailer x
  before_named (trees.primary e xs) = refl
  before_named _ = refl

  guarded_named : (x : Trailer A) → is_guarded (maps.map_trailer change x) ≡ is_guarded x
  guarded_named (trees.attr n None) = refl
  guarded_named (trees.item e None) = refl
  guarded_named (trees.slice x y z None) = refl
  guarded_named (trees.call xs None) = refl
  guarded_named _ = refl

  begins_named : (xs : Trailers A) → begins_guarded (maps.map_trailers change xs) ≡ begins_guarded xs
  begins_named trees.no_trailers = refl
  begins_named (trees.trailer x xs) = guarded_named x

  count_named : (ps : Targets A) → targets_count (maps.map_targets change ps) ≡ targets_count ps
  count_named trees.no_targets = refl
  count_named (trees.target p ps) = ap suc (count_named ps)

  mutual
    inner_specs_named : (i : ℕ) (ps : Targets A) → inner_specs i (maps.map_targets change ps) ≡ inner_specs i ps
    inner_specs_named i trees.no_targets = refl
    inner_specs_named i (trees.target p ps) = λ k. inner_spec_named i p k ++ inner_specs_named (suc i) ps k

    inner_spec_named : (i : ℕ) (x : Target A) → inner_spec i (maps.map_target change x) ≡ inner_spec i x
    inner_spec_named i (trees.to_place p) = refl
    inner_spec_named i (trees.group ps) = λ k. tuple_text (decimal i ∷ dealt (count_named ps k)
        (inner_specs_named 0 ps k) ∷ []) ∷ []

  spec_named : (ps : Targets A) → spec_text (maps.map_targets change ps) ≡ spec_text ps
  spec_named ps = λ k. dealt (count_named ps k) (inner_specs_named 0 ps k)

  iterable_named : (x : Target A) {e d : List ℕ} → e ≡ d → guarded_iterable (maps.map_target change x) e
      ≡ guarded_iterable x d
  iterable_named (trees.to_place p) h = λ k. call_text (codes "_getiter_") (h k ∷ [])
  iterable_named (trees.group ps) h = λ k. call_text (codes "_iter_unpack_sequence_")
      (h k ∷ spec_named ps k ∷ codes "_getiter_" ∷ [])

  unpacked_named : (x : Target A) {e d : List ℕ} → e ≡ d → unpacked (maps.map_target change x) e ≡ unpacked x d
  unpacked_named (trees.to_place p) h = h
  unpacked_named (trees.group ps) h = λ k. call_text (codes "_unpack_sequence_")
      (h k ∷ spec_named ps k ∷ codes "_getiter_" ∷ [])

  module _ (word : B → List ℕ) where
    abbrev other : A → List ℕ
    other n = word (f n)

    option_named_named : (n : Option (Named A)) → texts.option_named word (option_map (maps.map_named change) n)
        ≡ texts.option_named other n
    option_named_named None = refl
    option_named_named (Some n) = refl

    mutual
      expr_named : (x : Expr A) → texts.expr_text word (maps.map_expr change x) ≡ texts.expr_text other x
      expr_named (trees.node l x) = form_named x

      form_named : (x : Form A) → texts.form_text word (maps.map_form change x) ≡ texts.form_text other x
      form_named (trees.name n) = refl
      form_named (trees.int n) = refl
      form_named (trees.text x) = refl
      form_named (trees.const c) = refl
      form_named (trees.tuple es) = λ i. tuple_text (exprs_named es i)
      form_named (trees.list es) = λ i. codes "[" ⧺ listed (exprs_named es i) ⧺ codes "]"
      form_named (trees.dict ps) = λ i. codes "{" ⧺ listed (pairs_named ps i) ⧺ codes "}"
      form_named (trees.list_of b e cs) = λ i. codes "[" ⧺ expr_named e i ⧺ clauses_named cs i ⧺ codes "]"
      form_named (trees.dict_of b k e cs) = λ i. codes "{" ⧺ expr_named k i ⧺ codes ": " ⧺ expr_named e i
          ⧺ clauses_named cs i ⧺ codes "}"
      form_named (trees.lambda b ps e) = λ i. lambda_head (params_named ps i) ⧺ expr_named e i
      form_named (trees.cond x y z) = λ i. operand_named y i ⧺ codes " if " ⧺ operand_named x i ⧺ codes " else "
          ⧺ operand_named z i
      form_named (trees.or es) = λ i. joined (codes " or ") (operands_named es i)
      form_named (trees.and es) = λ i. joined (codes " and ") (operands_named es i)
      form_named (trees.not e) = λ i. codes "not " ⧺ operand_named e i
      form_named (trees.compare e os) = λ i. operand_named e i ⧺ tests_named os i
      form_named (trees.chain e os) = λ i. operand_named e i ⧺ ops_named os i
      form_named (trees.unary u e) = λ i. unary_text u ⧺ operand_named e i
      form_named (trees.power x y) = λ i. operand_named x i ⧺ codes " ** " ⧺ operand_named y i
      form_named (trees.primary e xs) = trailed_named xs (base_named e (begins_named xs))

      operand_named : (x : Expr A) → texts.operand_text word (maps.map_expr change x) ≡ texts.operand_text other x
      operand_named (trees.node l x) = λ i. bracketed (alone_named x i) (form_named x i)

      base_named : (x : Expr A) {g h : Bool} → g ≡ h → texts.base_text word g (maps.map_expr change x)
          ≡ texts.base_text other h x
      base_named (trees.node l x) e = λ i. bracketed (e i || before_named x i) (form_named x i)

      exprs_named : (x : Exprs A) → texts.exprs_texts word (maps.map_exprs change x) ≡ texts.exprs_texts other x
      exprs_named trees.no_exprs = refl
      exprs_named (trees.expr e es) = λ i. expr_named e i ∷ exprs_named es i

      operands_named : (x : Exprs A) → texts.operands_texts word (maps.map_exprs change x) ≡ texts.operands_texts other x
      operands_named trees.no_exprs = refl
      operands_named (trees.expr e es) = λ i. operand_named e i ∷ operands_named es i

      pairs_named : (x : Pairs A) → texts.pairs_texts word (maps.map_pairs change x) ≡ texts.pairs_texts other x
      pairs_named trees.no_pairs = refl
      pairs_named (trees.pair k e ps) = λ i. (expr_named k i ⧺ codes ": " ⧺ expr_named e i) ∷ pairs_named ps i

      targets_named : (x : Targets A) → texts.targets_texts word (maps.map_targets change x) ≡ texts.targets_texts other x
      targets_named trees.no_targets = refl
      targets_named (trees.target p ps) = λ i. target_named p i ∷ targets_named ps i

      plain_named : (x : Plain A) → texts.plain_texts word (maps.map_plain change x) ≡ texts.plain_texts other x
      plain_named trees.no_plain = refl
      plain_named (trees.plain n e ps) = λ i. (other n.name ⧺ default_named e i) ∷ plain_named ps i

      args_named : (x : Args A) → texts.args_texts word (maps.map_args change x) ≡ texts.args_texts other x
      args_named trees.no_args = refl
      args_named (trees.arg x xs) = λ i. arg_named x i ∷ args_named xs i

      tests_named : (x : Tests A) → texts.tests_text word (maps.map_tests change x) ≡ texts.tests_text other x
      tests_named trees.no_tests = refl
      tests_named (trees.test o e os) = λ i. codes " " ⧺ test_text o ⧺ codes " " ⧺ operand_named e i ⧺ tests_named os i

      ops_named : (x : Ops A) → texts.ops_text word (maps.map_ops change x) ≡ texts.ops_text other x
      ops_named trees.no_ops = refl
      ops_named (trees.op o e os) = λ i. codes " " ⧺ binary_text o ⧺ codes " " ⧺ operand_named e i ⧺ ops_named os i

      clauses_named : (x : Clauses A) → texts.clauses_text word (maps.map_clauses change x) ≡ texts.clauses_text other x
      clauses_named trees.no_clauses = refl
      clauses_named (trees.clause c cs) = λ i. clause_named c i ⧺ clauses_named cs i

      clause_named : (x : Clause A) → texts.clause_text word (maps.map_clause change x) ≡ texts.clause_text other x
      clause_named (trees.a_clause w es) = λ i. codes " " ⧺ walk_named w i ⧺ clause_iterable_named w i
          ⧺ conditions_named es i

      conditions_named : (x : Exprs A) → texts.conditions_text word (maps.map_exprs change x)
          ≡ texts.conditions_text other x
      conditions_named trees.no_exprs = refl
      conditions_named (trees.expr e es) = λ i. codes " if " ⧺ operand_named e i ⧺ conditions_named es i

      walk_named : (x : Walk A) → texts.walk_text word (maps.map_walk change x) ≡ texts.walk_text other x
      walk_named (trees.a_walk p e g) = λ i. codes "for " ⧺ target_named p i ⧺ codes " in "

      clause_iterable_named : (x : Walk A) → texts.clause_iterable word (maps.map_walk change x)
          ≡ texts.clause_iterable other x
      clause_iterable_named (trees.a_walk p e None) = operand_named e
      clause_iterable_named (trees.a_walk p e (Some g)) = iterable_named p (expr_named e)

      statement_iterable_named : (x : Walk A) → texts.statement_iterable word (maps.map_walk change x)
          ≡ texts.statement_iterable other x
      statement_iterable_named (trees.a_walk p e None) = expr_named e
      statement_iterable_named (trees.a_walk p e (Some g)) = iterable_named p (expr_named e)

      target_named : (x : Target A) → texts.target_text word (maps.map_target change x) ≡ texts.target_text other x
      target_named (trees.to_place p) = place_named p
      target_named (trees.group ps) = λ i. tuple_text (targets_named ps i)

      place_named : (x : Place A) → texts.place_text word (maps.map_place change x) ≡ texts.place_text other x
      place_named (trees.to_name n) = refl
      place_named (trees.to_attr e n None) = λ i. base_named e {g = false} refl i ⧺ codes "." ⧺ other n.name
      place_named (trees.to_attr e n (Some g)) = λ i. call_text (codes "_write_") (expr_named e i ∷ []) ⧺ codes "."
          ⧺ other n.name
      place_named (trees.to_item e j None) = λ i. base_named e {g = false} refl i ⧺ codes "[" ⧺ expr_named j i ⧺ codes "]"
      place_named (trees.to_item e j (Some g)) = λ i. call_text (codes "_write_") (expr_named e i ∷ []) ⧺ codes "["
          ⧺ expr_named j i ⧺ codes "]"

      params_named : (x : Params A) → texts.params_texts word (maps.map_params change x) ≡ texts.params_texts other x
      params_named (trees.params ps l d) = λ i. plain_named ps i ++ starred (codes "*")
          (option_named_named l i) ++ starred (codes "**") (option_named_named d i)

      default_named : (x : Maybe A) → texts.default_text word (maps.map_maybe change x) ≡ texts.default_text other x
      default_named trees.none = refl
      default_named (trees.some e) = λ i. codes "=" ⧺ expr_named e i

      bound_named : (x : Maybe A) → texts.bound_text word (maps.map_maybe change x) ≡ texts.bound_text other x
      bound_named trees.none = refl
      bound_named (trees.some e) = expr_named e

      stride_named : (x : Maybe A) → texts.stride_text word (maps.map_maybe change x) ≡ texts.stride_text other x
      stride_named trees.none = refl
      stride_named (trees.some e) = λ i. codes ":" ⧺ expr_named e i

      part_named : (x : Maybe A) → texts.part_text word (maps.map_maybe change x) ≡ texts.part_text other x
      part_named trees.none = refl
      part_named (trees.some e) = expr_named e

      arg_named : (x : Arg A) → texts.arg_text word (maps.map_arg change x) ≡ texts.arg_text other x
      arg_named (trees.value e) = expr_named e
      arg_named (trees.star e) = λ i. codes "*" ⧺ expr_named e i
      arg_named (trees.key n e) = λ i. other n ⧺ codes "=" ⧺ expr_named e i
      arg_named (trees.stars e) = λ i. codes "**" ⧺ expr_named e i

      trailed_named : (xs : Trailers A) {a b : List ℕ} → a ≡ b → texts.trailed word a (maps.map_trailers change xs)
          ≡ texts.trailed other b xs
      trailed_named trees.no_trailers e = e
      trailed_named (trees.trailer x xs) e = trailed_named xs (trailer_named x e)

      trailer_named : (x : Trailer A) {a b : List ℕ} → a ≡ b → texts.with_trailer word a (maps.map_trailer change x)
          ≡ texts.with_trailer other b x
      trailer_named (trees.attr n None) h = λ i. h i ⧺ codes "." ⧺ other n.name
      trailer_named (trees.attr n (Some g)) h = λ i. call_text (codes "_getattr_") (h i ∷ name_literal (other n.name) ∷ [])
      trailer_named (trees.item e None) h = λ i. h i ⧺ codes "[" ⧺ expr_named e i ⧺ codes "]"
      trailer_named (trees.item e (Some g)) h = λ i. call_text (codes "_getitem_") (h i ∷ expr_named e i ∷ [])
      trailer_named (trees.slice x y z None) h = λ i. h i ⧺ codes "[" ⧺ bound_named x i ⧺ codes ":" ⧺ bound_named y i
          ⧺ stride_named z i ⧺ codes "]"
      trailer_named (trees.slice x y z (Some g)) h = λ i. call_text (codes "_getitem_") (h i ∷ call_text (codes "slice")
          (part_named x i ∷ part_named y i ∷ part_named z i ∷ []) ∷ [])
      trailer_named (trees.call xs None) h = λ i. call_text (h i) (args_named xs i)
      trailer_named (trees.call xs (Some g)) h = λ i. call_text (codes "_apply_") (h i ∷ args_named xs i)

    assigned_named : (ps : List (Place A)) → lines.assigned_text word (map (maps.map_place change) ps)
        ≡ lines.assigned_text other ps
    assigned_named [] = refl
    assigned_named (x ∷ ps) = λ i. place_named x i ⧺ codes " = " ⧺ assigned_named ps i

    places_named : (ps : List (Place A)) → lines.places_texts word (map (maps.map_place change) ps)
        ≡ lines.places_texts other ps
    places_named [] = refl
    places_named (x ∷ ps) = λ i. place_named x i ∷ places_named ps i

    names_named : (ns : List (Named A)) → lines.names_texts word (map (maps.map_named change) ns)
        ≡ lines.names_texts other ns
    names_named [] = refl
    names_named (n ∷ ns) = λ i. other n.name ∷ names_named ns i

    behind_named : (before : List ℕ) (e : Option (Expr A)) → lines.behind word before (option_map
        (maps.map_expr change) e) ≡ lines.behind other before e
    behind_named before None = refl
    behind_named before (Some e) = λ i. before ⧺ expr_named e i

    bound_name_named : (n : Option (Named A)) → lines.bound_name word (option_map (maps.map_named change) n)
        ≡ lines.bound_name other n
    bound_name_named None = refl
    bound_name_named (Some n) = refl

    value_named : (g : Option Guard) (x : Target A) (e : Expr A) → lines.value_text word g (maps.map_target change x)
        (maps.map_expr change e) ≡ lines.value_text other g x e
    value_named None x e = expr_named e
    value_named (Some g) x e = unpacked_named x (expr_named e)

    aug_named : (g : Option Guard) (x : Place A) (o : BinOp) (e : Expr A) → lines.aug_text word g
        (maps.map_place change x) o (maps.map_expr change e) ≡ lines.aug_text other g x o e
    aug_named None x o e = λ i. place_named x i ⧺ codes " " ⧺ augmented_text o ⧺ codes " " ⧺ expr_named e i
    aug_named (Some g) x o e = λ i. place_named x i ⧺ codes " = " ⧺ call_text (codes "_inplacevar_") ((codes "'"
        ⧺ augmented_text o ⧺ codes "'") ∷ place_named x i ∷ expr_named e i ∷ [])

    simple_named : (x : StmtForm A) → lines.simple_text word (maps.map_stmt_form change x) ≡ lines.simple_text other x
    simple_named (stmt_trees.evaluate e) = expr_named e
    simple_named (stmt_trees.assign ps e) = λ i. assigned_named ps i ⧺ expr_named e i
    simple_named (stmt_trees.unpack x e g) = λ i. target_named x i ⧺ codes " = " ⧺ value_named g x e i
    simple_named (stmt_trees.aug x o at e g) = aug_named g x o e
    simple_named (stmt_trees.del ps) = λ i. codes "del " ⧺ listed (places_named ps i)
    simple_named stmt_trees.pass = refl
    simple_named stmt_trees.break = refl
    simple_named stmt_trees.continue = refl
    simple_named (stmt_trees.give_back e) = λ i. codes "return" ⧺ behind_named (codes " ") e i
    simple_named (stmt_trees.raise e) = λ i. codes "raise" ⧺ behind_named (codes " ") e i
    simple_named (stmt_trees.assert e x) = λ i. codes "assert " ⧺ expr_named e i ⧺ behind_named (codes ", ") x i
    simple_named (stmt_trees.global ns) = λ i. codes "global " ⧺ listed (names_named ns i)
    simple_named (stmt_trees.choose bs o) = refl
    simple_named (stmt_trees.while e b) = refl
    simple_named (stmt_trees.for w b) = refl
    simple_named (stmt_trees.try b hs o l) = refl
    simple_named (stmt_trees.define k n ps b) = refl
    simple_named (stmt_trees.class n b) = refl

    mutual
      stmt_named : (d : ℕ) (x : Stmt A) → lines.stmt_lines word d (maps.map_stmt change x) ≡ lines.stmt_lines other d x
      stmt_named d (stmt_trees.a_stmt l x) = stmt_form_named d x

      stmt_form_named : (d : ℕ) (x : StmtForm A) → lines.stmt_form_lines word d (maps.map_stmt_form change x)
          ≡ lines.stmt_form_lines other d x
      stmt_form_named d (stmt_trees.choose bs o) = λ i. branches_named d true bs i ⧺ maybe_named d (codes "else:") o i
      stmt_form_named d (stmt_trees.while e b) = λ i. line d (codes "while " ⧺ expr_named e i ⧺ codes ":") ⧺ stmts_named
          (suc d) b i
      stmt_form_named d (stmt_trees.for w b) = λ i. line d (walk_named w i ⧺ statement_iterable_named w i ⧺ codes ":")
          ⧺ stmts_named (suc d) b i
      stmt_form_named d (stmt_trees.try b hs o l) = λ i. line d (codes "try:") ⧺ stmts_named (suc d) b i ⧺ excepts_named d hs i
          ⧺ maybe_named d (codes "else:") o i ⧺ maybe_named d (codes "finally:") l i
      stmt_form_named d (stmt_trees.define k n ps b) = λ i. line d (codes "def " ⧺ other n.name ⧺ codes "(" ⧺ listed
          (params_named ps i) ⧺ codes "):") ⧺ stmts_named (suc d) b i
      stmt_form_named d (stmt_trees.class n b) = λ i. line d (codes "class " ⧺ other n.name ⧺ codes ":") ⧺ stmts_named
          (suc d) b i
      stmt_form_named d (stmt_trees.evaluate e) = λ i. line d (simple_named (stmt_trees.evaluate e) i)
      stmt_form_named d (stmt_trees.assign ps e) = λ i. line d (simple_named (stmt_trees.assign ps e) i)
      stmt_form_named d (stmt_trees.unpack x e g) = λ i. line d (simple_named (stmt_trees.unpack x e g) i)
      stmt_form_named d (stmt_trees.aug x o at e g) = λ i. line d (simple_named (stmt_trees.aug x o at e g) i)
      stmt_form_named d (stmt_trees.del ps) = λ i. line d (simple_named (stmt_trees.del ps) i)
      stmt_form_named d stmt_trees.pass = λ i. line d (simple_named stmt_trees.pass i)
      stmt_form_named d stmt_trees.break = λ i. line d (simple_named stmt_trees.break i)
      stmt_form_named d stmt_trees.continue = λ i. line d (simple_named stmt_trees.continue i)
      stmt_form_named d (stmt_trees.give_back e) = λ i. line d (simple_named (stmt_trees.give_back e) i)
      stmt_form_named d (stmt_trees.raise e) = λ i. line d (simple_named (stmt_trees.raise e) i)
      stmt_form_named d (stmt_trees.assert e x) = λ i. line d (simple_named (stmt_trees.assert e x) i)
      stmt_form_named d (stmt_trees.global ns) = λ i. line d (simple_named (stmt_trees.global ns) i)

      stmts_named : (d : ℕ) (x : Stmts A) → lines.stmts_lines word d (maps.map_stmts change x)
          ≡ lines.stmts_lines other d x
      stmts_named d stmt_trees.no_stmts = refl
      stmts_named d (stmt_trees.stmt x xs) = λ i. stmt_named d x i ⧺ stmts_named d xs i

      maybe_named : (d : ℕ) (keyword : List ℕ) (x : MaybeStmts A) → lines.maybe_block word d keyword
          (maps.map_maybe_stmts change x) ≡ lines.maybe_block other d keyword x
      maybe_named d keyword stmt_trees.none = refl
      maybe_named d keyword (stmt_trees.some b) = λ i. line d keyword ⧺ stmts_named (suc d) b i

      branches_named : (d : ℕ) (first : Bool) (x : Branches A) → lines.branches_lines word d first
          (maps.map_branches change x) ≡ lines.branches_lines other d first x
      branches_named d first stmt_trees.no_branches = refl
      branches_named d first (stmt_trees.branch e b bs) = λ i. line d (branch_keyword first ⧺ expr_named e i ⧺ codes ":")
          ⧺ stmts_named (suc d) b i ⧺ branches_named d false bs i

      excepts_named : (d : ℕ) (x : Excepts A) → lines.excepts_lines word d (maps.map_excepts change x)
          ≡ lines.excepts_lines other d x
      excepts_named d stmt_trees.no_excepts = refl
      excepts_named d (stmt_trees.except x xs) = λ i. except_named d x i ⧺ excepts_named d xs i

      except_named : (d : ℕ) (x : Except A) → lines.except_lines word d (maps.map_except change x)
          ≡ lines.except_lines other d x
      except_named d (stmt_trees.an_except k n b) = λ i. line d (codes "except" ⧺ behind_named (codes " ") k i
          ⧺ bound_name_named n i ⧺ codes ":") ⧺ stmts_named (suc d) b i

-- the text of a tree whose names are replaced by their words
pub printed_named : {A : Type 0} (word : A → List ℕ) (xs : Stmts A) → printed_by word xs ≡ printed (named word xs)
printed_named word xs = sym (stmts_named word (λ k. k) (λ w. w) 0 xs)

-- the text of a tree is that of the tree without the numbers of its code blocks
pub printed_unnumbered : {A : Type 0} (word : A → List ℕ) (xs : Stmts A) → printed_by word (without_blocks xs) ≡ printed_by word xs
printed_unnumbered word xs = stmts_named (λ n. n) (λ k. 0) word 0 xs
