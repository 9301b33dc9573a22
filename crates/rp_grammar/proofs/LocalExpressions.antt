-- What is read of an expression before `pass` is read of the same tokens before others.
use Rattle.std.proofs.Common.{◌≡◌, ℕ, zero, suc, ◌<◌, Bool, true, false, cond, List, [], ◌∷◌, ◌++◌, length, Option, Some, None, refl, ap, ◌∙◌, ◌⊎◌, inl, inr, arith, length-append}
use Rattle.rp_base.specs.declared.operator.UnOp.{UnOp}
use Rattle.rp_base.specs.declared.value.Line.{Line}
use Rattle.rp_base.specs.declared.value.Name.{Name}
use Rattle.rp_token.specs.declared.token.Token.{Token}
use Rattle.rp_token.specs.declared.token.TokenKind.{TokenKind}
use Rattle.rp_token.specs.declared.token.TokenKind.TheVariants as kind
use Rattle.rp_tree.specs.declared.parts.Const.TheVariants.{Nil, Truth}
use Rattle.rp_tree.specs.declared.parts.Test.{Test}
use Rattle.rp_tree.specs.declared.parts.Test.TheVariants.{Order, Within, NotWithin, Is, IsNot}
use Rattle.rp_tree.specs.Expressions as tree
use Rattle.rp_tree.specs.Expressions.{Expr, Exprs, Maybe, Pairs, Tests, Ops, Clause, Clauses, Target, Targets, Params, Plain, Trailer, Trailers, Arg, Args}
use Rattle.rp_grammar.specs.Kinds.{Tokens, first, skip, unary_of, order_of, loosest}
use Rattle.rp_grammar.specs.Expressions.{line_of, named, distinct, key_names, parameter_names}
use Rattle.rp_grammar.specs.Conversion.{as_target}
use Rattle.rp_grammar.specs.Front.{is_comma, is_colon, is_equal, is_star, is_double_star, is_right_paren, is_right_bracket, is_right_brace, is_name, is_text, is_lambda, is_if, is_else, is_or, is_and, is_not, is_in, is_for, starts, starts_arg, starts_trailer, starts_test}
use Rattle.rp_grammar.specs.ExpressionReading as reading
use Rattle.rp_grammar.specs.ExpressionReading.{Read, Readers, ◌>>=◌}
use Rattle.rp_grammar.proofs.Loops.{Shortens}
use Rattle.rp_grammar.proofs.ExpressionTakes.{expr_takes, takes}
use Rattle.rp_grammar.proofs.ExpressionSound.{readers_sound}
use Rattle.rp_grammar.proofs.Turns.{ifs_short, clauses_short, trailers_short, operations_short, tests_short, ands_short, ors_short, exprs_short, pairs_short, parts_short, args_short, plains_short}
use Rattle.rp_grammar.proofs.Local.{IsStuck, Halts, Rests, Follows, fails, halts, goes, Local, halted, halts_bind, local_some, local_none, local_bind, local_rest, local_cond, local_if, local_take, local_after, local_option, local_front, Tells, tells_at, begun, local_many, local_listed, local_told}

-- ---- tokens

module _ (w : Rests) where
  name_moves : (k : TokenKind) (b : Token) (bs : Tokens) → Follows w (reading.name_by k (b ∷ (bs ++ w.ending))) (reading.name_by k (b ∷ (bs ++ w.others)))
  name_moves (kind.Name n) b bs = local_rest (local_some (record { name = n; line = b.line })) bs
  name_moves _ b bs = fails

  name_stuck : (k : TokenKind) (ts : Tokens) → k ≡ first ts → IsStuck ts → Halts (reading.name_by k ts)
  name_stuck (kind.Name n) ts is (inl h) = let wrong : kind.Name n ≡ kind.Pass = is ∙ h in absurd cc
  name_stuck (kind.Name n) ts is (inr (h, i)) = let wrong : kind.Name n ≡ kind.Not = is ∙ h in absurd cc
  name_stuck _ ts is h = tt

  pub local_name : Local w (λ ts. reading.name_by (first ts) ts)
  local_name = record { stuck = λ ts h. name_stuck (first ts) ts refl h; moves = λ b bs. name_moves b.kind b bs }

  text_from : (k : TokenKind) (line : Line) → Local w (λ us. reading.text_by k us)
  text_from (kind.Text s) line = local_some s
  text_from _ line = local_none

  local_text : Local w (λ us. reading.text_by (first us) (skip us))
  local_text = local_front (λ k line us. reading.text_by k us) (λ line us. refl) text_from

  nil_moves : (x : Test) (k : TokenKind) (b : Token) (bs : Tokens) → Follows w (reading.nil_by k x (b ∷ (bs ++ w.ending))) (reading.nil_by k x (b ∷ (bs ++ w.others)))
  nil_moves x kind.None b bs = local_rest (local_some (x, tree.node b.line (tree.const Nil))) bs
  nil_moves x _ b bs = fails

  nil_stuck : (x : Test) (k : TokenKind) (ts : Tokens) → k ≡ first ts → IsStuck ts → Halts (reading.nil_by k x ts)
  nil_stuck x kind.None ts is (inl h) = let wrong : kind.None ≡ kind.Pass = is ∙ h in absurd cc
  nil_stuck x kind.None ts is (inr (h, i)) = let wrong : kind.None ≡ kind.Not = is ∙ h in absurd cc
  nil_stuck x _ ts is h = tt

  local_nil : (x : Test) → Local w (λ ts. reading.nil_by (first ts) x ts)
  local_nil x = record { stuck = λ ts h. nil_stuck x (first ts) ts refl h; moves = λ b bs. nil_moves x b.kind b bs }

  is_moves : (k : TokenKind) (b : Token) (bs : Tokens) → Follows w (reading.is_by k (b ∷ (bs ++ w.ending))) (reading.is_by k (b ∷ (bs ++ w.others)))
  is_moves kind.Not b bs = local_rest (local_nil IsNot) bs
  is_moves kind.None b bs = nil_moves Is kind.None b bs
  is_moves _ b bs = fails

  is_stuck : (k : TokenKind) (ts : Tokens) → k ≡ first ts → IsStuck ts → Halts (reading.is_by k ts)
  is_stuck kind.Not ts is (inl h) = let wrong : kind.Not ≡ kind.Pass = is ∙ h in absurd cc
  is_stuck kind.Not ts is (inr (h, i)) = (local_nil IsNot).stuck (skip ts) (inl i)
  is_stuck kind.None ts is h = nil_stuck Is kind.None ts is h
  is_stuck _ ts is h = tt

  local_is : Local w (λ ts. reading.is_by (first ts) ts)
  local_is = record { stuck = λ ts h. is_stuck (first ts) ts refl h; moves = λ b bs. is_moves b.kind b bs }

  -- a comma is passed, if it comes
  abbrev behind_comma : {A : Type 0} → A → Tokens → Read A
  behind_comma x us = Some (x, cond (is_comma (first us)) (skip us) us)

  comma_stuck : {A : Type 0} (x : A) (ts : Tokens) → IsStuck ts → Halts (behind_comma x ts)
  comma_stuck x ts (inl h) = rw h (inl h)
  comma_stuck x ts (inr (h, i)) = rw h (inr (h, i))

  comma_moves : {A : Type 0} (x : A) (c : Bool) (b : Token) (bs : Tokens) → Follows {A = A} w (Some (x, cond c (bs ++ w.ending) (b ∷ (bs ++ w.ending)))) (Some (x, cond c (bs ++ w.others) (b ∷ (bs ++ w.others))))
  comma_moves x true b bs = local_rest (local_some x) bs
  comma_moves x false b bs = goes x b bs

  local_comma : {A : Type 0} (x : A) → Local w (behind_comma x)
  local_comma x = record { stuck = comma_stuck x; moves = λ b bs. comma_moves x (is_comma b.kind) b bs }

  -- an item behind a token of this kind
  pub begun_behind : {A : Type 0} {read : Tokens → Read A} (is : TokenKind → Bool) → is kind.Pass ≡ false → Local w read → Local w (begun (reading.at is) (reading.behind read))
  begun_behind {read = read} is unlike p = local_take {f = λ line. read} {g = λ ts. None} is unlike (λ line. p) local_none

  begun_at : {A : Type 0} {read : Tokens → Read A} (is : TokenKind → Bool) → Local w read → Local w (begun (reading.at is) read)
  begun_at {read = read} is p = local_if {f = read} {g = λ ts. None} is p local_none

  -- operators of comparison are told by two tokens
  same_test : (k l m : TokenKind) → (k ≡ kind.Not) ⊎ (starts_test k l ≡ starts_test k m)
  same_test kind.Not l m = inl refl
  same_test _ l m = inr refl

  test_over : (ts : Tokens) → IsStuck ts → reading.at_test ts ≡ false
  test_over ts (inl h) = rw h refl
  test_over ts (inr (h, i)) = rw (h, i) refl

  test_same : (b : Token) (bs : Tokens) → IsStuck (b ∷ (bs ++ w.ending)) ⊎ (reading.at_test (b ∷ (bs ++ w.ending)) ≡ reading.at_test (b ∷ (bs ++ w.others)))
  test_same b [] = elim (same_test b.kind (first w.ending) (first w.others)) [ inl h ↦ inl (inr (h, w.begins)) | inr h ↦ inr h ]
  test_same b (c ∷ bs) = inr refl

  tells_test : Tells w reading.at_test
  tells_test = record { over = test_over; same = test_same }

-- ---- expressions

pub record LocalReaders (w : Rests) (rs : Readers) : Type 0 where
  pub expr : Local w rs.expr
  pub or : Local w rs.or
  pub not : Local w rs.not
  pub unary : Local w rs.unary
  pub primary : Local w rs.primary

texts_short : Shortens (reading.at is_text) (λ us. reading.text_by (first us) (skip us))
texts_short ts x begun h = by (first ts) refl h where
  by : (k : TokenKind) → first ts ≡ k → reading.text_by k (skip ts) ≡ Some x → length x.1 < length ts
  by (kind.Text s) is h =
      let same : ◌≡◌ {A = List ℕ × Tokens} (s, skip ts) x = cc in
      let less = takes ts (kind.Text s) is (λ e. cc) in
      let rest : skip ts ≡ x.1 = ap (λ (z : List ℕ × Tokens). z.1) same in
      omega (arith, less, ap length rest)
  by _ is h = absurd cc

module _ (w : Rests) (d : ℕ) (inner : LocalReaders w (reading.readers d)) where
  abbrev rs : Readers
  rs = reading.readers d

  local_alike : {A : Type 0} {read : Tokens → Read A} → Local w read → (u : Unit {0}) → Local w (reading.alike read u)
  local_alike p u = local_bind p (λ x. local_some (x, tt))

  pub local_exprs : (e : Expr) → Local w (reading.exprs rs e)
  unfolding reading.exprs
  local_exprs e = local_bind (local_listed tree.no_exprs tree.no_exprs tree.expr starts (reading.alike rs.expr) (exprs_short d) (local_alike inner.expr) tt) (λ es. local_some (tree.expr e es))

  local_others : (e : Expr) → Local w (reading.others rs e)
  unfolding reading.others
  local_others e = local_take {f = λ line. reading.exprs rs e} is_comma refl (λ line. local_exprs e) (local_some (tree.expr e tree.no_exprs))

  local_texts : (s : List ℕ) → Local w (reading.texts s)
  unfolding reading.texts
  local_texts s = local_bind (local_many [] (λ x xs. x ++ xs) (reading.at is_text) (λ us. reading.text_by (first us) (skip us)) (tells_at is_text refl refl) texts_short (begun_at w is_text (local_text w))) (λ xs. local_some (s ++ xs))

  local_part : Local w (reading.part rs)
  unfolding reading.part
  local_part = local_bind inner.primary (λ e. local_option (as_target e) (λ p. local_some p))

  local_parts : (p : Target) → Local w (reading.parts rs p)
  unfolding reading.parts
  local_parts p = local_bind (local_listed tree.no_targets tree.no_targets tree.target starts (reading.alike (reading.part rs)) (parts_short d) (local_alike local_part) tt) (λ ps. local_some (tree.target p ps))

  pub local_target : Local w (reading.target rs)
  unfolding reading.target
  local_target = local_bind local_part (λ p. local_take {f = λ line us. reading.parts rs p us >>= λ ps. Some (tree.group ps.0, ps.1)} is_comma refl (λ line. local_bind (local_parts p) (λ ps. local_some (tree.group ps))) (local_some p))

  local_ifs : Local w (reading.ifs rs)
  unfolding reading.ifs
  local_ifs = local_many tree.no_exprs tree.expr (reading.at is_if) (reading.behind rs.or) (tells_at is_if refl refl) (ifs_short d) (begun_behind w is_if refl inner.or)

  local_clause : Local w (reading.clause rs)
  unfolding reading.clause
  local_clause = local_bind local_target (λ p. local_after is_in refl (local_bind inner.or (λ e. local_bind local_ifs (λ es. local_some (tree.a_clause (tree.a_walk p e None) es)))))

  local_clauses : Local w (reading.clauses rs)
  unfolding reading.clauses
  local_clauses = local_many tree.no_clauses tree.clause (reading.at is_for) (reading.behind (reading.clause rs)) (tells_at is_for refl refl) (clauses_short d) (begun_behind w is_for refl local_clause)

  local_parenthesized : (line : Line) → Local w (reading.parenthesized rs line)
  unfolding reading.parenthesized
  local_parenthesized line =
      local_take is_right_paren refl (λ l. local_some (tree.node line (tree.tuple tree.no_exprs)))
      (local_bind inner.expr (λ e. local_take is_comma refl (λ l. local_bind (local_exprs e) (λ es. local_after is_right_paren refl (local_some (tree.node line (tree.tuple es)))))
      (local_after is_right_paren refl (local_some e))))

  local_bracketed : (line : Line) → Local w (reading.bracketed rs line)
  unfolding reading.bracketed
  local_bracketed line =
      local_take is_right_bracket refl (λ l. local_some (tree.node line (tree.list tree.no_exprs)))
      (local_bind inner.expr (λ e. local_if is_for (local_bind local_clauses (λ cs. local_after is_right_bracket refl (local_some (tree.node line (tree.list_of 0 e cs)))))
      (local_bind (local_others e) (λ es. local_after is_right_bracket refl (local_some (tree.node line (tree.list es)))))))

  local_pair : Local w (reading.pair rs)
  unfolding reading.pair
  local_pair = local_bind inner.expr (λ k. local_after is_colon refl (local_bind inner.expr (λ e. local_some (k, e))))

  local_pairs : (p : Expr × Expr) → Local w (reading.pairs rs p)
  unfolding reading.pairs
  local_pairs p = local_bind (local_listed tree.no_pairs tree.no_pairs reading.with_pair starts (reading.alike (reading.pair rs)) (pairs_short d) (local_alike local_pair) tt) (λ ps. local_some (reading.with_pair p ps))

  local_other_pairs : (p : Expr × Expr) → Local w (reading.other_pairs rs p)
  unfolding reading.other_pairs
  local_other_pairs p = local_take {f = λ line. reading.pairs rs p} is_comma refl (λ line. local_pairs p) (local_some (reading.with_pair p tree.no_pairs))

  local_braced : (line : Line) → Local w (reading.braced rs line)
  unfolding reading.braced
  local_braced line =
      local_take is_right_brace refl (λ l. local_some (tree.node line (tree.dict tree.no_pairs)))
      (local_bind local_pair (λ p. local_if is_for (local_bind local_clauses (λ cs. local_after is_right_brace refl (local_some (tree.node line (tree.dict_of 0 p.0 p.1 cs)))))
      (local_bind (local_other_pairs p) (λ ps. local_after is_right_brace refl (local_some (tree.node line (tree.dict ps)))))))

  atom_from : (k : TokenKind) (line : Line) → Local w (reading.atom_by k rs line)
  atom_from (kind.Name n) line = local_some (tree.node line (tree.name n))
  atom_from (kind.Int n) line = local_some (tree.node line (tree.int n))
  atom_from (kind.Text s) line = local_bind (local_texts s) (λ x. local_some (tree.node line (tree.text x)))
  atom_from kind.None line = local_some (tree.node line (tree.const Nil))
  atom_from kind.True line = local_some (tree.node line (tree.const (Truth true)))
  atom_from kind.False line = local_some (tree.node line (tree.const (Truth false)))
  atom_from kind.LeftParen line = local_parenthesized line
  atom_from kind.LeftBracket line = local_bracketed line
  atom_from kind.LeftBrace line = local_braced line
  atom_from _ line = local_none

  local_atom : Local w (reading.atom rs)
  unfolding reading.atom
  local_atom = local_front (λ k line. reading.atom_by k rs line) (λ line us. refl) atom_from

  -- ---- trailers

  local_positional : (named : Bool) → Local w (reading.positional rs named)
  unfolding reading.positional
  local_positional named = local_cond named local_none (local_bind inner.expr (λ e. local_some (tree.value e, false)))

  local_starred : (named : Bool) → Local w (reading.starred rs named)
  unfolding reading.starred
  local_starred named = local_cond named local_none (local_bind inner.expr (λ e. local_some (tree.star e, false)))

  local_stars : Local {A = Arg × Bool} w (λ us. rs.expr us >>= λ e. Some ((tree.stars e.0, true), e.1))
  local_stars = local_bind inner.expr (λ e. local_some (tree.stars e, true))

  local_key : (n : Name) → Local {A = Arg × Bool} w (λ us. rs.expr us >>= λ e. Some ((tree.key n e.0, true), e.1))
  local_key n = local_bind inner.expr (λ e. local_some (tree.key n e, true))

  -- a name alone before `pass`: nothing is read behind it
  alone : (ts : Tokens) (o p : Read Expr) → Follows w o p → ((x : Expr × Tokens) → o ≡ Some x → length x.1 < suc (length w.ending)) → Halts o
  alone ts None p h less = tt
  alone ts (Some (x, us)) p (halts h) less = h
  alone ts _ _ (goes x b bs) less = absurd (omega (arith, less (x, b ∷ (bs ++ w.ending)) refl, length-append bs w.ending))

  positional_alone : (named : Bool) (b : Token) → Halts (reading.positional rs named (b ∷ w.ending))
  unfolding reading.positional
  positional_alone true b = tt
  positional_alone false b =
      halts_bind (rs.expr (b ∷ w.ending)) (λ e us. Some ((tree.value e, false), us))
      (alone w.ending (rs.expr (b ∷ w.ending)) (rs.expr (b ∷ w.others)) (inner.expr.moves b []) (λ x h. expr_takes ((readers_sound d).expr (b ∷ w.ending) x h))) (λ e us k. k)

  name_or_key : (n : Name) (equal : Bool) (named : Bool) (b c : Token) (bs : Tokens) → Follows w (reading.arg_by (kind.Name n) equal rs named (b ∷ c ∷ (bs ++ w.ending))) (reading.arg_by (kind.Name n) equal rs named (b ∷ c ∷ (bs ++ w.others)))
  name_or_key n true named b c bs = local_rest (local_key n) bs
  name_or_key n false named b c bs = (local_positional named).moves b (c ∷ bs)

  arg_moves : (k : TokenKind) (named : Bool) (b : Token) (bs : Tokens) → Follows w (reading.arg_by k (is_equal (first (bs ++ w.ending))) rs named (b ∷ (bs ++ w.ending))) (reading.arg_by k (is_equal (first (bs ++ w.others))) rs named (b ∷ (bs ++ w.others)))
  arg_moves kind.Star named b bs = local_rest (local_starred named) bs
  arg_moves kind.DoubleStar named b bs = local_rest local_stars bs
  arg_moves (kind.Name n) named b [] = rw w.begins (halted (reading.positional rs named (b ∷ w.ending)) (reading.arg_by (kind.Name n) (is_equal (first w.others)) rs named (b ∷ w.others)) (positional_alone named b))
  arg_moves (kind.Name n) named b (c ∷ bs) = name_or_key n (is_equal c.kind) named b c bs
  arg_moves _ named b bs = (local_positional named).moves b bs

  arg_stuck : (k : TokenKind) (equal named : Bool) (ts : Tokens) → k ≡ first ts → IsStuck ts → Halts (reading.arg_by k equal rs named ts)
  arg_stuck kind.Pass equal named ts is h = (local_positional named).stuck ts h
  arg_stuck kind.Not equal named ts is h = (local_positional named).stuck ts h
  arg_stuck _ equal named ts is (inl h) = let wrong = is ∙ h in absurd cc
  arg_stuck _ equal named ts is (inr (h, i)) = let wrong = is ∙ h in absurd cc

  local_arg : (named : Bool) → Local w (reading.arg rs named)
  unfolding reading.arg
  local_arg named = record { stuck = λ ts h. arg_stuck (first ts) (is_equal (first (skip ts))) named ts refl h; moves = λ b bs. arg_moves b.kind named b bs }

  local_args : Local w (reading.args rs)
  unfolding reading.args
  local_args = local_listed tree.no_args tree.no_args tree.arg starts_arg (reading.arg rs) (args_short d) local_arg false

  local_called : Local w (reading.called rs)
  unfolding reading.called
  local_called = local_bind local_args (λ xs. local_cond (distinct (key_names xs)) (local_after is_right_paren refl (local_some (tree.call xs None))) local_none)

  local_maybe : Local w (reading.maybe rs)
  unfolding reading.maybe
  local_maybe = local_if starts (local_bind inner.expr (λ e. local_some (tree.some e))) (local_some tree.none)

  local_slice : (a : Maybe) → Local w (reading.slice rs a)
  unfolding reading.slice
  local_slice a =
      local_bind local_maybe (λ b. local_take is_colon refl (λ line. local_bind local_maybe (λ c. local_after is_right_bracket refl (local_some (tree.slice a b c None))))
      (local_after is_right_bracket refl (local_some (tree.slice a b tree.none None))))

  local_subscript : Local w (reading.subscript rs)
  unfolding reading.subscript
  local_subscript =
      local_take {f = λ line. reading.slice rs tree.none} is_colon refl (λ line. local_slice tree.none)
      (local_bind inner.expr (λ e. local_take {f = λ line. reading.slice rs (tree.some e)} is_colon refl (λ line. local_slice (tree.some e)) (local_after is_right_bracket refl (local_some (tree.item e None)))))

  local_attr : Local w reading.attr
  unfolding reading.attr
  local_attr = local_bind (local_name w) (λ n. local_some (tree.attr n None))

  trailer_from : (k : TokenKind) (line : Line) → Local w (λ us. reading.trailer_by k rs us)
  trailer_from kind.Dot line = local_attr
  trailer_from kind.LeftBracket line = local_subscript
  trailer_from kind.LeftParen line = local_called
  trailer_from _ line = local_none

  local_trailer : Local w (reading.trailer rs)
  unfolding reading.trailer
  local_trailer = local_front (λ k line us. reading.trailer_by k rs us) (λ line us. refl) trailer_from

  local_trailers : Local w (reading.trailers rs)
  unfolding reading.trailers
  local_trailers = local_many tree.no_trailers tree.trailer (reading.at starts_trailer) (reading.trailer rs) (tells_at starts_trailer refl refl) (trailers_short d) (begun_at w starts_trailer local_trailer)

  pub local_primary : Local w (reading.primary rs)
  unfolding reading.primary
  local_primary = local_bind local_atom (λ e. local_if starts_trailer (local_bind local_trailers (λ xs. local_some (tree.node (line_of e) (tree.primary e xs)))) (local_some e))

  -- ---- operators

  local_power : Local w (reading.power rs)
  unfolding reading.power
  local_power = local_bind local_primary (λ e. local_take is_double_star refl (λ line. local_bind inner.unary (λ f. local_some (tree.node (line_of e) (tree.power e f)))) (local_some e))

  unary_from : (o : Option UnOp) (b : Token) (bs : Tokens) → Follows w (reading.unary_by o rs (b ∷ (bs ++ w.ending))) (reading.unary_by o rs (b ∷ (bs ++ w.others)))
  unary_from None b bs = local_power.moves b bs
  unary_from (Some o) b bs = local_rest (local_bind inner.unary (λ e. local_some (tree.node b.line (tree.unary o e)))) bs

  unary_stuck : (ts : Tokens) → IsStuck ts → Halts (reading.unary_by (unary_of (first ts)) rs ts)
  unary_stuck ts (inl h) = rw h (local_power.stuck ts (inl h))
  unary_stuck ts (inr (h, i)) = rw h (local_power.stuck ts (inr (h, i)))

  local_unary : Local w (reading.unary rs)
  unfolding reading.unary
  local_unary = record { stuck = unary_stuck; moves = λ b bs. unary_from (unary_of b.kind) b bs }

  local_operation : {read : Tokens → Read Expr} (k : ℕ) → Local w read → Local w (reading.operation k read)
  local_operation {read = read} k p =
      local_front (λ j line us. reading.operator_of k j >>= λ o. read us >>= λ e. Some ((o, e.0), e.1)) (λ line us. refl) (λ j line. local_option (reading.operator_of k j) (λ o. local_bind p (λ e. local_some (o, e))))

  local_chained : (k : ℕ) (e : Expr) → Local w (reading.chain rs k) → Local w (reading.chained_at (suc k) (reading.chain rs k) e)
  unfolding reading.chained_at
  local_chained k e p =
      local_if (λ j. reading.is_some (reading.operator_of (suc k) j))
      (local_bind
      (local_many tree.no_ops reading.with_op (reading.at (λ j. reading.is_some (reading.operator_of (suc k) j))) (reading.operation (suc k) (reading.chain rs k)) (tells_at (λ j. reading.is_some (reading.operator_of (suc k) j)) refl refl) (operations_short d k)
      (begun_at w (λ j. reading.is_some (reading.operator_of (suc k) j)) (local_operation (suc k) p)))
      (λ os. local_some (tree.node (line_of e) (tree.chain e os)))) (local_some e)

  local_chain : (k : ℕ) → Local w (reading.chain rs k)
  unfolding reading.chain
  local_chain zero = local_unary
  local_chain (suc k) = local_bind (local_chain k) (λ e. local_chained k e (local_chain k))

  local_compared : (x : Test) → Local w (reading.compared_with rs x)
  local_compared x = local_bind (local_chain loosest) (λ e. local_some (x, e))

  test_from : (k : TokenKind) (line : Line) → Local w (λ us. reading.test_by k rs us)
  test_from kind.In line = local_compared Within
  test_from kind.Not line = local_after is_in refl (local_compared NotWithin)
  test_from kind.Is line = local_is w
  test_from k line = local_option (order_of k) (λ o. local_compared (Order o))

  local_test : Local w (reading.comparison rs)
  unfolding reading.comparison
  local_test = local_front (λ k line us. reading.test_by k rs us) (λ line us. refl) test_from

  local_tests : Local w (reading.tests rs)
  unfolding reading.tests
  local_tests = local_many tree.no_tests reading.with_test reading.at_test (reading.comparison rs) (tells_test w) (tests_short d) (local_told reading.at_test (tells_test w) local_test local_none)

  local_compare : Local w (reading.compare rs)
  unfolding reading.compare
  local_compare = local_bind (local_chain loosest) (λ e. local_told reading.at_test (tells_test w) (local_bind local_tests (λ xs. local_some (tree.node (line_of e) (tree.compare e xs)))) (local_some e))

  local_not : Local w (reading.not rs)
  unfolding reading.not
  local_not = local_take is_not refl (λ line. local_bind inner.not (λ e. local_some (tree.node line (tree.not e)))) local_compare

  local_ands : (e : Expr) → Local w (reading.ands rs e)
  unfolding reading.ands
  local_ands e = local_bind (local_many tree.no_exprs tree.expr (reading.at is_and) (reading.behind (reading.not rs)) (tells_at is_and refl refl) (ands_short d) (begun_behind w is_and refl local_not)) (λ es. local_some (tree.expr e es))

  local_and : Local w (reading.and rs)
  unfolding reading.and
  local_and = local_bind local_not (λ e. local_if is_and (local_bind (local_ands e) (λ es. local_some (tree.node (line_of e) (tree.and es)))) (local_some e))

  local_ors : (e : Expr) → Local w (reading.ors rs e)
  unfolding reading.ors
  local_ors e = local_bind (local_many tree.no_exprs tree.expr (reading.at is_or) (reading.behind (reading.and rs)) (tells_at is_or refl refl) (ors_short d) (begun_behind w is_or refl local_and)) (λ es. local_some (tree.expr e es))

  local_or : Local w (reading.or rs)
  unfolding reading.or
  local_or = local_bind local_and (λ e. local_if is_or (local_bind (local_ors e) (λ es. local_some (tree.node (line_of e) (tree.or es)))) (local_some e))

  -- ---- parameters

  local_plain : (defaults : Bool) → Local w (reading.plain rs defaults)
  unfolding reading.plain
  local_plain defaults =
      local_bind (local_name w) (λ n. local_take is_equal refl (λ line. local_bind inner.expr (λ e. local_some ((n, tree.some e), true)))
      (local_cond defaults local_none (local_some ((n, tree.none), false))))

  local_plains : Local w (reading.plains rs)
  unfolding reading.plains
  local_plains = local_listed (tree.no_plain, true) (tree.no_plain, false) reading.with_plain is_name (reading.plain rs) (plains_short d) local_plain false

  local_last_name : Local w reading.last_name
  unfolding reading.last_name
  local_last_name = local_bind (local_name w) (λ n. local_comma w n)

  local_dict_param : Local w reading.dict_param
  unfolding reading.dict_param
  local_dict_param = local_take is_double_star refl (λ line. local_bind local_last_name (λ n. local_some (Some n))) (local_some None)

  local_star_params : Local w reading.star_params
  unfolding reading.star_params
  local_star_params =
      local_take is_star refl (λ line. local_bind (local_name w) (λ n. local_take is_comma refl (λ line. local_bind local_dict_param (λ d. local_some (Some n, d))) (local_some (Some n, None))))
      (local_bind local_dict_param (λ d. local_some (None, d)))

  pub local_params : Local w (reading.params rs)
  unfolding reading.params
  local_params = local_bind local_plains (λ ps. local_cond ps.1 (local_bind local_star_params (λ x. local_some (tree.params ps.0 x.0 x.1))) (local_some (tree.params ps.0 None None)))

  local_lambda : (line : Line) → Local w (reading.lambda rs line)
  unfolding reading.lambda
  local_lambda line =
      local_bind local_params (λ ps. local_cond (distinct (parameter_names ps)) (local_after is_colon refl (local_bind inner.expr (λ e. local_some (tree.node line (tree.lambda 0 ps e))))) local_none)

  local_conditional : (e : Expr) → Local w (reading.conditional rs e)
  unfolding reading.conditional
  local_conditional e = local_bind local_or (λ test. local_after is_else refl (local_bind inner.expr (λ f. local_some (tree.node (line_of e) (tree.cond test e f)))))

  pub local_expr : Local w (reading.expr rs)
  unfolding reading.expr
  local_expr = local_take is_lambda refl local_lambda (local_bind local_or (λ e. local_take {f = λ line. reading.conditional rs e} is_if refl (λ line. local_conditional e) (local_some e)))

  pub local_expr_list : Local w (reading.expr_list rs)
  unfolding reading.expr_list
  local_expr_list = local_bind local_expr (λ e. local_take is_comma refl (λ line. local_bind (local_exprs e) (λ es. local_some (tree.node (line_of e) (tree.tuple es)))) (local_some e))

pub local_readers : (w : Rests) (d : ℕ) → LocalReaders w (reading.readers d)
unfolding reading.readers
local_readers w zero = record { expr = local_none; or = local_none; not = local_none; unary = local_none; primary = local_none }
local_readers w (suc d) =
    let inner = local_readers w d in
    record { expr = local_expr w d inner; or = local_or w d inner; not = local_not w d inner; unary = local_unary w d inner; primary = local_primary w d inner }
