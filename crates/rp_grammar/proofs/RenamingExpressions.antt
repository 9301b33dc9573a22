-- Reading expressions at renamed tokens gives the renamed expression, and the renamed tokens behind it.
use Rattle.std.proofs.Common.{◌≡◌, ℕ, zero, suc, Bool, true, false, List, [], ◌++◌, Option, Some, None, option_map, refl, ap, ◌∙◌}
use Rattle.rp_base.specs.declared.operator.UnOp.{UnOp}
use Rattle.rp_base.specs.declared.operator.CmpOp.{CmpOp}
use Rattle.rp_base.specs.declared.value.Name.{Name}
use Rattle.rp_base.specs.declared.value.Line.{Line}
use Rattle.rp_token.specs.declared.token.TokenKind.{TokenKind}
use Rattle.rp_token.specs.declared.token.TokenKind.TheVariants as kind
use Rattle.rp_tree.specs.declared.parts.Test.{Test}
use Rattle.rp_tree.specs.declared.parts.Test.TheVariants.{Order, Within, NotWithin, Is, IsNot}
use Rattle.rp_tree.specs.Expressions as tree
use Rattle.rp_tree.specs.Expressions.{Named, Expr, Exprs, Maybe, Pairs, Tests, Ops, Clause, Clauses, Target, Targets, Params, Plain, Trailer, Trailers, Arg, Args}
use Rattle.rp_grammar.specs.Kinds.{Tokens, first, line_at, skip, loosest, unary_of, order_of}
use Rattle.rp_grammar.specs.Expressions.{distinct, key_names, parameter_names}
use Rattle.rp_grammar.specs.Front.{is_comma, is_colon, is_equal, is_star, is_double_star, is_right_paren, is_right_bracket, is_right_brace, is_name, is_text, is_lambda, is_if, is_else, is_or, is_and, is_not, is_in, is_for, starts, starts_arg, starts_trailer, starts_test}
use Rattle.rp_grammar.specs.ExpressionReading as reading
use Rattle.rp_grammar.specs.ExpressionReading.{Read, Readers, all_many, all_listed, alike, behind, at, ◌>>=◌}
use Rattle.rp_grammar.proofs.Renamed.{IsInjective, renamed_kind, renamed_tokens, renamed_named, renamed_expr, renamed_exprs, renamed_maybe, renamed_pairs, renamed_tests, renamed_ops, renamed_clause, renamed_clauses, renamed_target, renamed_targets, renamed_params, renamed_plain, renamed_trailer, renamed_trailers, renamed_arg, renamed_args}
use Rattle.rp_grammar.proofs.RenamingBasics.{kept, first_renamed, line_at_renamed, skip_renamed, front_kept, moved, Renames, bound, bound_same, chosen, branched, passed, all_many_renamed, all_listed_renamed, alike_renamed, behind_renamed}
use Rattle.rp_grammar.proofs.RenamingNames.{line_of_renamed, name_renamed, key_names_renamed, parameter_names_renamed, as_target_renamed, distinct_renamed}

-- the readers of the expressions within commute with the renaming
pub record AreRenamed (f : Name → Name) (rs : Readers) : Type 0 where
  pub expr : Renames f (renamed_expr f) rs.expr rs.expr
  pub or : Renames f (renamed_expr f) rs.or rs.or
  pub not : Renames f (renamed_expr f) rs.not rs.not
  pub unary : Renames f (renamed_expr f) rs.unary rs.unary
  pub primary : Renames f (renamed_expr f) rs.primary rs.primary

abbrev renamed_pair : (Name → Name) → Expr × Expr → Expr × Expr
renamed_pair f p = (renamed_expr f p.0, renamed_expr f p.1)

abbrev renamed_operation : {O : Type 0} → (Name → Name) → O × Expr → O × Expr
renamed_operation f x = (x.0, renamed_expr f x.1)

starts_test_kept : (f : Name → Name) (k l : TokenKind) → starts_test k (renamed_kind f l) ≡ starts_test k l
starts_test_kept f kind.Not l = kept f is_in (λ m n. refl) l
starts_test_kept f _ l = refl

at_test_renamed : (f : Name → Name) (ts : Tokens) → reading.at_test (renamed_tokens f ts) ≡ reading.at_test ts
at_test_renamed f ts =
    rw (first_renamed f ts, skip_renamed f ts, first_renamed f (skip ts))
    (kept f (λ k. starts_test k (renamed_kind f (first (skip ts)))) (λ m n. refl) (first ts) ∙ starts_test_kept f (first ts) (first (skip ts)))

text_by_renamed : (f : Name → Name) (k : TokenKind) (ts : Tokens) → reading.text_by (renamed_kind f k) (renamed_tokens f ts) ≡ moved f (λ (x : List ℕ). x) (reading.text_by k ts)
text_by_renamed f (kind.Text s) ts = refl
text_by_renamed f _ ts = refl

module _ (f : Name → Name) (injective : IsInjective f) (rs : Readers) (inner : AreRenamed f rs) where
  text_renamed : Renames f (λ (x : List ℕ). x) (λ us. reading.text_by (first us) (skip us)) (λ us. reading.text_by (first us) (skip us))
  text_renamed ts = rw (first_renamed f ts, skip_renamed f ts) (text_by_renamed f (first ts) (skip ts))

  exprs_renamed : (e : Expr) → Renames f (renamed_exprs f) (reading.exprs rs e) (reading.exprs rs (renamed_expr f e))
  unfolding reading.exprs
  exprs_renamed e ts = bound _ _ _ _ _ _
      (all_listed_renamed f (renamed_expr f) (renamed_exprs f) tree.no_exprs tree.no_exprs tree.expr starts (alike rs.expr) refl refl (λ x xs. refl) (λ m n. refl) (alike_renamed f (renamed_expr f) rs.expr inner.expr) tt ts)
      (λ x. refl)

  others_renamed : (e : Expr) → Renames f (renamed_exprs f) (reading.others rs e) (reading.others rs (renamed_expr f e))
  unfolding reading.others
  others_renamed e ts = branched f (moved f (renamed_exprs f)) is_comma (λ m n. refl) ts _ _ _ _ (rw (skip_renamed f ts) (exprs_renamed e (skip ts))) refl

  parenthesized_renamed : (line : Line) → Renames f (renamed_expr f) (reading.parenthesized rs line) (reading.parenthesized rs line)
  unfolding reading.parenthesized
  parenthesized_renamed line ts = branched f (moved f (renamed_expr f)) is_right_paren (λ m n. refl) ts _ _ _ _
      (rw (skip_renamed f ts) refl)
      (bound _ _ _ _ _ _ (inner.expr ts) (λ e. branched f (moved f (renamed_expr f)) is_comma (λ m n. refl) e.1 _ _ _ _
      (rw (skip_renamed f e.1) (bound _ _ _ _ _ _ (exprs_renamed e.0 (skip e.1)) (λ es. passed f _ is_right_paren (λ m n. refl) es.1 _ _ (λ rest. refl))))
      (passed f _ is_right_paren (λ m n. refl) e.1 _ _ (λ rest. refl))))

  texts_renamed : (s : List ℕ) → Renames f (λ (x : List ℕ). x) (reading.texts s) (reading.texts s)
  unfolding reading.texts
  texts_renamed s ts = bound _ _ _ _ _ _
      (all_many_renamed f (λ (x : List ℕ). x) (λ (x : List ℕ). x) [] (λ x xs. x ++ xs) (at is_text) (λ us. reading.text_by (first us) (skip us)) refl (λ x xs. refl) (front_kept f is_text (λ m n. refl)) text_renamed ts)
      (λ x. refl)

  part_renamed : Renames f (renamed_target f) (reading.part rs) (reading.part rs)
  unfolding reading.part
  part_renamed ts = bound _ _ _ _ _ _ (inner.primary ts) (λ e. bound _ _ _ _ _ _ (as_target_renamed f e.0) (λ p. refl))

  parts_renamed : (p : Target) → Renames f (renamed_targets f) (reading.parts rs p) (reading.parts rs (renamed_target f p))
  unfolding reading.parts
  parts_renamed p ts = bound _ _ _ _ _ _
      (all_listed_renamed f (renamed_target f) (renamed_targets f) tree.no_targets tree.no_targets tree.target starts (alike (reading.part rs)) refl refl (λ x xs. refl) (λ m n. refl) (alike_renamed f (renamed_target f) (reading.part rs) part_renamed) tt ts)
      (λ x. refl)

  pub target_renamed : Renames f (renamed_target f) (reading.target rs) (reading.target rs)
  unfolding reading.target
  target_renamed ts = bound _ _ _ _ _ _ (part_renamed ts) (λ p. branched f (moved f (renamed_target f)) is_comma (λ m n. refl) p.1 _ _ _ _
      (rw (skip_renamed f p.1) (bound _ _ _ _ _ _ (parts_renamed p.0 (skip p.1)) (λ ps. refl)))
      refl)

  ifs_renamed : Renames f (renamed_exprs f) (reading.ifs rs) (reading.ifs rs)
  unfolding reading.ifs
  ifs_renamed = all_many_renamed f (renamed_expr f) (renamed_exprs f) tree.no_exprs tree.expr (at is_if) (behind rs.or) refl (λ x xs. refl) (front_kept f is_if (λ m n. refl)) (behind_renamed f (renamed_expr f) rs.or inner.or)

  clause_renamed : Renames f (renamed_clause f) (reading.clause rs) (reading.clause rs)
  unfolding reading.clause
  clause_renamed ts = bound _ _ _ _ _ _ (target_renamed ts) (λ p. passed f _ is_in (λ m n. refl) p.1 _ _ (λ rest. bound _ _ _ _ _ _ (inner.or rest) (λ e. bound _ _ _ _ _ _ (ifs_renamed e.1) (λ es. refl))))

  clauses_renamed : Renames f (renamed_clauses f) (reading.clauses rs) (reading.clauses rs)
  unfolding reading.clauses
  clauses_renamed = all_many_renamed f (renamed_clause f) (renamed_clauses f) tree.no_clauses tree.clause (at is_for) (behind (reading.clause rs)) refl (λ x xs. refl) (front_kept f is_for (λ m n. refl)) (behind_renamed f (renamed_clause f) (reading.clause rs) clause_renamed)

  bracketed_renamed : (line : Line) → Renames f (renamed_expr f) (reading.bracketed rs line) (reading.bracketed rs line)
  unfolding reading.bracketed
  bracketed_renamed line ts = branched f (moved f (renamed_expr f)) is_right_bracket (λ m n. refl) ts _ _ _ _
      (rw (skip_renamed f ts) refl)
      (bound _ _ _ _ _ _ (inner.expr ts) (λ e. branched f (moved f (renamed_expr f)) is_for (λ m n. refl) e.1 _ _ _ _
      (bound _ _ _ _ _ _ (clauses_renamed e.1) (λ cs. passed f _ is_right_bracket (λ m n. refl) cs.1 _ _ (λ rest. refl)))
      (bound _ _ _ _ _ _ (others_renamed e.0 e.1) (λ es. passed f _ is_right_bracket (λ m n. refl) es.1 _ _ (λ rest. refl)))))

  pair_renamed : Renames f (renamed_pair f) (reading.pair rs) (reading.pair rs)
  unfolding reading.pair
  pair_renamed ts = bound _ _ _ _ _ _ (inner.expr ts) (λ k. passed f _ is_colon (λ m n. refl) k.1 _ _ (λ rest. bound _ _ _ _ _ _ (inner.expr rest) (λ e. refl)))

  pairs_renamed : (p : Expr × Expr) → Renames f (renamed_pairs f) (reading.pairs rs p) (reading.pairs rs (renamed_pair f p))
  unfolding reading.pairs
  pairs_renamed p ts = bound _ _ _ _ _ _
      (all_listed_renamed f (renamed_pair f) (renamed_pairs f) tree.no_pairs tree.no_pairs reading.with_pair starts (alike (reading.pair rs)) refl refl (λ x xs. refl) (λ m n. refl) (alike_renamed f (renamed_pair f) (reading.pair rs) pair_renamed) tt ts)
      (λ x. refl)

  other_pairs_renamed : (p : Expr × Expr) → Renames f (renamed_pairs f) (reading.other_pairs rs p) (reading.other_pairs rs (renamed_pair f p))
  unfolding reading.other_pairs
  other_pairs_renamed p ts = branched f (moved f (renamed_pairs f)) is_comma (λ m n. refl) ts _ _ _ _ (rw (skip_renamed f ts) (pairs_renamed p (skip ts))) refl

  braced_renamed : (line : Line) → Renames f (renamed_expr f) (reading.braced rs line) (reading.braced rs line)
  unfolding reading.braced
  braced_renamed line ts = branched f (moved f (renamed_expr f)) is_right_brace (λ m n. refl) ts _ _ _ _
      (rw (skip_renamed f ts) refl)
      (bound _ _ _ _ _ _ (pair_renamed ts) (λ p. branched f (moved f (renamed_expr f)) is_for (λ m n. refl) p.1 _ _ _ _
      (bound _ _ _ _ _ _ (clauses_renamed p.1) (λ cs. passed f _ is_right_brace (λ m n. refl) cs.1 _ _ (λ rest. refl)))
      (bound _ _ _ _ _ _ (other_pairs_renamed p.0 p.1) (λ ps. passed f _ is_right_brace (λ m n. refl) ps.1 _ _ (λ rest. refl)))))

  atom_by_renamed : (k : TokenKind) (line : Line) (ts : Tokens) → reading.atom_by (renamed_kind f k) rs line (renamed_tokens f ts) ≡ moved f (renamed_expr f) (reading.atom_by k rs line ts)
  atom_by_renamed (kind.Name n) line ts = refl
  atom_by_renamed (kind.Int n) line ts = refl
  atom_by_renamed (kind.Text s) line ts = bound _ _ _ _ _ _ (texts_renamed s ts) (λ x. refl)
  atom_by_renamed kind.None line ts = refl
  atom_by_renamed kind.True line ts = refl
  atom_by_renamed kind.False line ts = refl
  atom_by_renamed kind.LeftParen line ts = parenthesized_renamed line ts
  atom_by_renamed kind.LeftBracket line ts = bracketed_renamed line ts
  atom_by_renamed kind.LeftBrace line ts = braced_renamed line ts
  atom_by_renamed _ line ts = refl

  atom_renamed : Renames f (renamed_expr f) (reading.atom rs) (reading.atom rs)
  unfolding reading.atom
  atom_renamed ts = rw (first_renamed f ts, line_at_renamed f ts, skip_renamed f ts) (atom_by_renamed (first ts) (line_at ts) (skip ts))

  positional_renamed : (named : Bool) → Renames f (λ (x : Arg × Bool). (renamed_arg f x.0, x.1)) (reading.positional rs named) (reading.positional rs named)
  unfolding reading.positional
  positional_renamed true ts = refl
  positional_renamed false ts = bound _ _ _ _ _ _ (inner.expr ts) (λ e. refl)

  starred_renamed : (named : Bool) → Renames f (λ (x : Arg × Bool). (renamed_arg f x.0, x.1)) (reading.starred rs named) (reading.starred rs named)
  unfolding reading.starred
  starred_renamed true ts = refl
  starred_renamed false ts = bound _ _ _ _ _ _ (inner.expr ts) (λ e. refl)

  arg_by_renamed : (k : TokenKind) (equal named : Bool) (ts : Tokens) → reading.arg_by (renamed_kind f k) equal rs named (renamed_tokens f ts) ≡ moved f (λ (x : Arg × Bool). (renamed_arg f x.0, x.1)) (reading.arg_by k equal rs named ts)
  arg_by_renamed kind.Star equal named ts = rw (skip_renamed f ts) (starred_renamed named (skip ts))
  arg_by_renamed kind.DoubleStar equal named ts = rw (skip_renamed f ts) (bound _ _ _ _ _ _ (inner.expr (skip ts)) (λ e. refl))
  arg_by_renamed (kind.Name n) true named ts = rw (skip_renamed f ts, skip_renamed f (skip ts)) (bound _ _ _ _ _ _ (inner.expr (skip (skip ts))) (λ e. refl))
  arg_by_renamed _ equal named ts = positional_renamed named ts

  arg_renamed : (named : Bool) → Renames f (λ (x : Arg × Bool). (renamed_arg f x.0, x.1)) (reading.arg rs named) (reading.arg rs named)
  unfolding reading.arg
  arg_renamed named ts = rw (first_renamed f ts, skip_renamed f ts, front_kept f is_equal (λ m n. refl) (skip ts)) (arg_by_renamed (first ts) (is_equal (first (skip ts))) named ts)

  args_renamed : Renames f (renamed_args f) (reading.args rs) (reading.args rs)
  unfolding reading.args
  args_renamed = all_listed_renamed f (renamed_arg f) (renamed_args f) tree.no_args tree.no_args tree.arg starts_arg (reading.arg rs) refl refl (λ x xs. refl) (λ m n. refl) arg_renamed false

  called_renamed : Renames f (renamed_trailer f) (reading.called rs) (reading.called rs)
  unfolding reading.called
  called_renamed ts = bound _ _ _ _ _ _ (args_renamed ts) (λ xs. chosen (moved f (renamed_trailer f)) _ _ _ _ _ _ (ap distinct (key_names_renamed f xs.0) ∙ distinct_renamed f injective (key_names xs.0))
      (passed f _ is_right_paren (λ m n. refl) xs.1 _ _ (λ rest. refl)) refl)

  maybe_renamed : Renames f (renamed_maybe f) (reading.maybe rs) (reading.maybe rs)
  unfolding reading.maybe
  maybe_renamed ts = branched f (moved f (renamed_maybe f)) starts (λ m n. refl) ts _ _ _ _ (bound _ _ _ _ _ _ (inner.expr ts) (λ e. refl)) refl

  slice_renamed : (a : Maybe) → Renames f (renamed_trailer f) (reading.slice rs a) (reading.slice rs (renamed_maybe f a))
  unfolding reading.slice
  slice_renamed a ts = bound _ _ _ _ _ _ (maybe_renamed ts) (λ b. branched f (moved f (renamed_trailer f)) is_colon (λ m n. refl) b.1 _ _ _ _
      (rw (skip_renamed f b.1) (bound _ _ _ _ _ _ (maybe_renamed (skip b.1)) (λ c. passed f _ is_right_bracket (λ m n. refl) c.1 _ _ (λ rest. refl))))
      (passed f _ is_right_bracket (λ m n. refl) b.1 _ _ (λ rest. refl)))

  subscript_renamed : Renames f (renamed_trailer f) (reading.subscript rs) (reading.subscript rs)
  unfolding reading.subscript
  subscript_renamed ts = branched f (moved f (renamed_trailer f)) is_colon (λ m n. refl) ts _ _ _ _
      (rw (skip_renamed f ts) (slice_renamed tree.none (skip ts)))
      (bound _ _ _ _ _ _ (inner.expr ts) (λ e. branched f (moved f (renamed_trailer f)) is_colon (λ m n. refl) e.1 _ _ _ _
      (rw (skip_renamed f e.1) (slice_renamed (tree.some e.0) (skip e.1)))
      (passed f _ is_right_bracket (λ m n. refl) e.1 _ _ (λ rest. refl))))

  attr_renamed : Renames f (renamed_trailer f) reading.attr reading.attr
  unfolding reading.attr
  attr_renamed ts = bound _ _ _ _ _ _ (name_renamed f ts) (λ n. refl)

  trailer_by_renamed : (k : TokenKind) (ts : Tokens) → reading.trailer_by (renamed_kind f k) rs (renamed_tokens f ts) ≡ moved f (renamed_trailer f) (reading.trailer_by k rs ts)
  trailer_by_renamed kind.Dot ts = attr_renamed ts
  trailer_by_renamed kind.LeftBracket ts = subscript_renamed ts
  trailer_by_renamed kind.LeftParen ts = called_renamed ts
  trailer_by_renamed _ ts = refl

  trailer_renamed : Renames f (renamed_trailer f) (reading.trailer rs) (reading.trailer rs)
  unfolding reading.trailer
  trailer_renamed ts = rw (first_renamed f ts, skip_renamed f ts) (trailer_by_renamed (first ts) (skip ts))

  trailers_renamed : Renames f (renamed_trailers f) (reading.trailers rs) (reading.trailers rs)
  unfolding reading.trailers
  trailers_renamed = all_many_renamed f (renamed_trailer f) (renamed_trailers f) tree.no_trailers tree.trailer (at starts_trailer) (reading.trailer rs) refl (λ x xs. refl) (front_kept f starts_trailer (λ m n. refl)) trailer_renamed

  pub primary_renamed : Renames f (renamed_expr f) (reading.primary rs) (reading.primary rs)
  unfolding reading.primary
  primary_renamed ts = bound _ _ _ _ _ _ (atom_renamed ts) (λ e. branched f (moved f (renamed_expr f)) starts_trailer (λ m n. refl) e.1 _ _ _ _
      (rw (line_of_renamed f e.0) (bound _ _ _ _ _ _ (trailers_renamed e.1) (λ xs. refl)))
      refl)

  power_renamed : Renames f (renamed_expr f) (reading.power rs) (reading.power rs)
  unfolding reading.power
  power_renamed ts = bound _ _ _ _ _ _ (primary_renamed ts) (λ e. branched f (moved f (renamed_expr f)) is_double_star (λ m n. refl) e.1 _ _ _ _
      (rw (skip_renamed f e.1, line_of_renamed f e.0) (bound _ _ _ _ _ _ (inner.unary (skip e.1)) (λ xs. refl)))
      refl)

  unary_by_renamed : (o : Option UnOp) → Renames f (renamed_expr f) (reading.unary_by o rs) (reading.unary_by o rs)
  unary_by_renamed None ts = power_renamed ts
  unary_by_renamed (Some o) ts = rw (skip_renamed f ts, line_at_renamed f ts) (bound _ _ _ _ _ _ (inner.unary (skip ts)) (λ e. refl))

  pub unary_renamed : Renames f (renamed_expr f) (reading.unary rs) (reading.unary rs)
  unfolding reading.unary
  unary_renamed ts = rw (front_kept f unary_of (λ m n. refl) ts) (unary_by_renamed (unary_of (first ts)) ts)

  operation_renamed : (k : ℕ) (read : Tokens → Read Expr) → Renames f (renamed_expr f) read read → Renames f (renamed_operation f) (reading.operation k read) (reading.operation k read)
  operation_renamed k read item ts =
      rw (front_kept f (reading.operator_of k) (λ m n. refl) ts, skip_renamed f ts) (bound_same _ (reading.operator_of k (first ts)) _ _ (λ o. bound _ _ _ _ _ _ (item (skip ts)) (λ e. refl)))

  operations_renamed : (k : ℕ) (read : Tokens → Read Expr) → Renames f (renamed_expr f) read read → Renames f (renamed_ops f) (reading.operations k read) (reading.operations k read)
  operations_renamed k read item =
      all_many_renamed f (renamed_operation f) (renamed_ops f) tree.no_ops reading.with_op (at (λ j. reading.is_some (reading.operator_of k j))) (reading.operation k read) refl (λ x xs. refl)
      (front_kept f (λ j. reading.is_some (reading.operator_of k j)) (λ m n. refl)) (operation_renamed k read item)

  chained_at_renamed : (k : ℕ) (read : Tokens → Read Expr) → Renames f (renamed_expr f) read read → (e : Expr) → Renames f (renamed_expr f) (reading.chained_at k read e) (reading.chained_at k read (renamed_expr f e))
  unfolding reading.chained_at
  chained_at_renamed k read item e ts = branched f (moved f (renamed_expr f)) (λ j. reading.is_some (reading.operator_of k j)) (λ m n. refl) ts _ _ _ _
      (rw (line_of_renamed f e) (bound _ _ _ _ _ _ (operations_renamed k read item ts) (λ os. refl)))
      refl

  chain_renamed : (k : ℕ) → Renames f (renamed_expr f) (reading.chain rs k) (reading.chain rs k)
  unfolding reading.chain
  chain_renamed zero ts = unary_renamed ts
  chain_renamed (suc k) ts = bound _ _ _ _ _ _ (chain_renamed k ts) (λ e. chained_at_renamed (suc k) (reading.chain rs k) (chain_renamed k) e.0 e.1)

  compared_with_renamed : (x : Test) → Renames f (renamed_operation f) (reading.compared_with rs x) (reading.compared_with rs x)
  compared_with_renamed x ts = bound _ _ _ _ _ _ (chain_renamed loosest ts) (λ e. refl)

  nil_by_renamed : (k : TokenKind) (x : Test) (ts : Tokens) → reading.nil_by (renamed_kind f k) x (renamed_tokens f ts) ≡ moved f (renamed_operation f) (reading.nil_by k x ts)
  nil_by_renamed kind.None x ts = rw (line_at_renamed f ts, skip_renamed f ts) refl
  nil_by_renamed _ x ts = refl

  is_by_renamed : (k : TokenKind) (ts : Tokens) → reading.is_by (renamed_kind f k) (renamed_tokens f ts) ≡ moved f (renamed_operation f) (reading.is_by k ts)
  is_by_renamed kind.Not ts = rw (skip_renamed f ts, first_renamed f (skip ts)) (nil_by_renamed (first (skip ts)) IsNot (skip ts))
  is_by_renamed k ts = nil_by_renamed k Is ts

  ordered_renamed : (o : Option CmpOp) (ts : Tokens) → (o >>= λ o. reading.compared_with rs (Order o) (renamed_tokens f ts)) ≡ moved f (renamed_operation f) (o >>= λ o. reading.compared_with rs (Order o) ts)
  ordered_renamed None ts = refl
  ordered_renamed (Some o) ts = compared_with_renamed (Order o) ts

  test_by_renamed : (k : TokenKind) (ts : Tokens) → reading.test_by (renamed_kind f k) rs (renamed_tokens f ts) ≡ moved f (renamed_operation f) (reading.test_by k rs ts)
  test_by_renamed kind.In ts = compared_with_renamed Within ts
  test_by_renamed kind.Not ts = passed f _ is_in (λ m n. refl) ts _ _ (λ rest. compared_with_renamed NotWithin rest)
  test_by_renamed kind.Is ts = rw (first_renamed f ts) (is_by_renamed (first ts) ts)
  test_by_renamed k ts = ordered_renamed (order_of k) ts

  test_renamed : Renames f (renamed_operation f) (reading.comparison rs) (reading.comparison rs)
  unfolding reading.comparison
  test_renamed ts = rw (first_renamed f ts, skip_renamed f ts) (test_by_renamed (first ts) (skip ts))

  tests_renamed : Renames f (renamed_tests f) (reading.tests rs) (reading.tests rs)
  unfolding reading.tests
  tests_renamed = all_many_renamed f (renamed_operation f) (renamed_tests f) tree.no_tests reading.with_test reading.at_test (reading.comparison rs) refl (λ x xs. refl) (at_test_renamed f) test_renamed

  compare_renamed : Renames f (renamed_expr f) (reading.compare rs) (reading.compare rs)
  unfolding reading.compare
  compare_renamed ts = bound _ _ _ _ _ _ (chain_renamed loosest ts) (λ e. chosen (moved f (renamed_expr f)) _ _ _ _ _ _ (at_test_renamed f e.1)
      (rw (line_of_renamed f e.0) (bound _ _ _ _ _ _ (tests_renamed e.1) (λ xs. refl)))
      refl)

  pub not_renamed : Renames f (renamed_expr f) (reading.not rs) (reading.not rs)
  unfolding reading.not
  not_renamed ts = branched f (moved f (renamed_expr f)) is_not (λ m n. refl) ts _ _ _ _
      (rw (skip_renamed f ts, line_at_renamed f ts) (bound _ _ _ _ _ _ (inner.not (skip ts)) (λ e. refl)))
      (compare_renamed ts)

  ands_renamed : (e : Expr) → Renames f (renamed_exprs f) (reading.ands rs e) (reading.ands rs (renamed_expr f e))
  unfolding reading.ands
  ands_renamed e ts = bound _ _ _ _ _ _
      (all_many_renamed f (renamed_expr f) (renamed_exprs f) tree.no_exprs tree.expr (at is_and) (behind (reading.not rs)) refl (λ x xs. refl) (front_kept f is_and (λ m n. refl)) (behind_renamed f (renamed_expr f) (reading.not rs) not_renamed) ts)
      (λ x. refl)

  and_renamed : Renames f (renamed_expr f) (reading.and rs) (reading.and rs)
  unfolding reading.and
  and_renamed ts = bound _ _ _ _ _ _ (not_renamed ts) (λ e. branched f (moved f (renamed_expr f)) is_and (λ m n. refl) e.1 _ _ _ _
      (rw (line_of_renamed f e.0) (bound _ _ _ _ _ _ (ands_renamed e.0 e.1) (λ es. refl)))
      refl)

  ors_renamed : (e : Expr) → Renames f (renamed_exprs f) (reading.ors rs e) (reading.ors rs (renamed_expr f e))
  unfolding reading.ors
  ors_renamed e ts = bound _ _ _ _ _ _
      (all_many_renamed f (renamed_expr f) (renamed_exprs f) tree.no_exprs tree.expr (at is_or) (behind (reading.and rs)) refl (λ x xs. refl) (front_kept f is_or (λ m n. refl)) (behind_renamed f (renamed_expr f) (reading.and rs) and_renamed) ts)
      (λ x. refl)

  pub or_renamed : Renames f (renamed_expr f) (reading.or rs) (reading.or rs)
  unfolding reading.or
  or_renamed ts = bound _ _ _ _ _ _ (and_renamed ts) (λ e. branched f (moved f (renamed_expr f)) is_or (λ m n. refl) e.1 _ _ _ _
      (rw (line_of_renamed f e.0) (bound _ _ _ _ _ _ (ors_renamed e.0 e.1) (λ es. refl)))
      refl)

  abbrev renamed_parameter : Named × Maybe → Named × Maybe
  renamed_parameter x = (renamed_named f x.0, renamed_maybe f x.1)

  abbrev renamed_plains : Plain × Bool → Plain × Bool
  renamed_plains ps = (renamed_plain f ps.0, ps.1)

  abbrev renamed_stars : Option Named × Option Named → Option Named × Option Named
  renamed_stars x = (option_map (renamed_named f) x.0, option_map (renamed_named f) x.1)

  plain_renamed : (defaults : Bool) → Renames f (λ (x : (Named × Maybe) × Bool). (renamed_parameter x.0, x.1)) (reading.plain rs defaults) (reading.plain rs defaults)
  unfolding reading.plain
  plain_renamed defaults ts = bound _ _ _ _ _ _ (name_renamed f ts) (λ n. branched f (moved f (λ (x : (Named × Maybe) × Bool). (renamed_parameter x.0, x.1))) is_equal (λ m n. refl) n.1 _ _ _ _
      (rw (skip_renamed f n.1) (bound _ _ _ _ _ _ (inner.expr (skip n.1)) (λ e. refl)))
      (chosen (moved f (λ (x : (Named × Maybe) × Bool). (renamed_parameter x.0, x.1))) defaults defaults _ _ _ _ refl refl refl))

  plains_renamed : Renames f renamed_plains (reading.plains rs) (reading.plains rs)
  unfolding reading.plains
  plains_renamed = all_listed_renamed f renamed_parameter renamed_plains (tree.no_plain, true) (tree.no_plain, false) reading.with_plain is_name (reading.plain rs) refl refl (λ x xs. refl) (λ m n. refl) plain_renamed false

  last_name_renamed : Renames f (renamed_named f) reading.last_name reading.last_name
  unfolding reading.last_name
  last_name_renamed ts = bound _ _ _ _ _ _ (name_renamed f ts) (λ n. ap (λ (us : Tokens). Some (renamed_named f n.0, us)) (branched f (renamed_tokens f) is_comma (λ m n. refl) n.1 _ _ _ _ (skip_renamed f n.1) refl))

  dict_param_renamed : Renames f (option_map (renamed_named f)) reading.dict_param reading.dict_param
  unfolding reading.dict_param
  dict_param_renamed ts = branched f (moved f (option_map (renamed_named f))) is_double_star (λ m n. refl) ts _ _ _ _
      (rw (skip_renamed f ts) (bound _ _ _ _ _ _ (last_name_renamed (skip ts)) (λ n. refl)))
      refl

  star_params_renamed : Renames f renamed_stars reading.star_params reading.star_params
  unfolding reading.star_params
  star_params_renamed ts = branched f (moved f renamed_stars) is_star (λ m n. refl) ts _ _ _ _
      (rw (skip_renamed f ts) (bound _ _ _ _ _ _ (name_renamed f (skip ts)) (λ n. branched f (moved f renamed_stars) is_comma (λ m n. refl) n.1 _ _ _ _
      (rw (skip_renamed f n.1) (bound _ _ _ _ _ _ (dict_param_renamed (skip n.1)) (λ d. refl)))
      refl)))
      (bound _ _ _ _ _ _ (dict_param_renamed ts) (λ d. refl))

  pub params_renamed : Renames f (renamed_params f) (reading.params rs) (reading.params rs)
  unfolding reading.params
  params_renamed ts = bound _ _ _ _ _ _ (plains_renamed ts) (λ ps. chosen (moved f (renamed_params f)) ps.0.1 ps.0.1 _ _ _ _ refl
      (bound _ _ _ _ _ _ (star_params_renamed ps.1) (λ x. refl))
      refl)

  pub differ_renamed : (ps : Params) → distinct (parameter_names (renamed_params f ps)) ≡ distinct (parameter_names ps)
  differ_renamed ps = ap distinct (parameter_names_renamed f ps) ∙ distinct_renamed f injective (parameter_names ps)

  lambda_renamed : (line : Line) → Renames f (renamed_expr f) (reading.lambda rs line) (reading.lambda rs line)
  unfolding reading.lambda
  lambda_renamed line ts = bound _ _ _ _ _ _ (params_renamed ts) (λ ps. chosen (moved f (renamed_expr f)) _ _ _ _ _ _ (differ_renamed ps.0)
      (passed f _ is_colon (λ m n. refl) ps.1 _ _ (λ rest. bound _ _ _ _ _ _ (inner.expr rest) (λ e. refl)))
      refl)

  conditional_renamed : (e : Expr) → Renames f (renamed_expr f) (reading.conditional rs e) (reading.conditional rs (renamed_expr f e))
  unfolding reading.conditional
  conditional_renamed e ts = rw (line_of_renamed f e) (bound _ _ _ _ _ _ (or_renamed ts) (λ test. passed f _ is_else (λ m n. refl) test.1 _ _ (λ rest. bound _ _ _ _ _ _ (inner.expr rest) (λ x. refl))))

  pub expr_renamed : Renames f (renamed_expr f) (reading.expr rs) (reading.expr rs)
  unfolding reading.expr
  expr_renamed ts = branched f (moved f (renamed_expr f)) is_lambda (λ m n. refl) ts _ _ _ _
      (rw (line_at_renamed f ts, skip_renamed f ts) (lambda_renamed (line_at ts) (skip ts)))
      (bound _ _ _ _ _ _ (or_renamed ts) (λ e. branched f (moved f (renamed_expr f)) is_if (λ m n. refl) e.1 _ _ _ _
      (rw (skip_renamed f e.1) (conditional_renamed e.0 (skip e.1)))
      refl))

  pub expr_list_renamed : Renames f (renamed_expr f) (reading.expr_list rs) (reading.expr_list rs)
  unfolding reading.expr_list
  expr_list_renamed ts = bound _ _ _ _ _ _ (expr_renamed ts) (λ e. branched f (moved f (renamed_expr f)) is_comma (λ m n. refl) e.1 _ _ _ _
      (rw (skip_renamed f e.1, line_of_renamed f e.0) (bound _ _ _ _ _ _ (exprs_renamed e.0 (skip e.1)) (λ es. refl)))
      refl)

pub readers_renamed : (f : Name → Name) → IsInjective f → (d : ℕ) → AreRenamed f (reading.readers d)
unfolding reading.readers
readers_renamed f injective zero = record { expr = λ ts. refl; or = λ ts. refl; not = λ ts. refl; unary = λ ts. refl; primary = λ ts. refl }
readers_renamed f injective (suc d) =
    let inner = readers_renamed f injective d in
    record {
      expr = expr_renamed f injective (reading.readers d) inner;
      or = or_renamed f injective (reading.readers d) inner;
      not = not_renamed f injective (reading.readers d) inner;
      unary = unary_renamed f injective (reading.readers d) inner;
      primary = primary_renamed f injective (reading.readers d) inner;
    }
