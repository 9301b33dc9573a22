-- What is read of a simple statement before `pass` is read of the same tokens before others. It takes a token at least.
use Rattle.std.proofs.Common.{◌≡◌, ℕ, zero, suc, ◌<◌, Bool, true, false, cond, List, [], ◌∷◌, ◌++◌, length, Option, Some, None, refl, ap, subst, inl, inr, arith, length-append}
use Rattle.std.specs.List.{list_all}
use Rattle.rp_base.specs.declared.operator.BinOp.{BinOp}
use Rattle.rp_base.specs.declared.value.Line.{Line}
use Rattle.rp_token.specs.declared.token.Token.{Token}
use Rattle.rp_token.specs.declared.token.TokenKind.{TokenKind}
use Rattle.rp_token.specs.declared.token.TokenKind.TheVariants as kind
use Rattle.rp_tree.specs.Expressions as tree
use Rattle.rp_tree.specs.Expressions.{Named, Expr, Place, Target, Params}
use Rattle.rp_tree.specs.Statements as stmt_tree
use Rattle.rp_tree.specs.Statements.{Stmt}
use Rattle.rp_grammar.specs.Kinds.{Tokens, first, skip, augmented_of}
use Rattle.rp_grammar.specs.Expressions.{line_of, distinct, parameter_names}
use Rattle.rp_grammar.specs.Conversion.{as_place, as_target}
use Rattle.rp_grammar.specs.Front.{is_comma, is_equal, starts}
use Rattle.rp_grammar.specs.ExpressionReading as reading
use Rattle.rp_grammar.specs.ExpressionReading.{Read, Readers, ◌>>=◌}
use Rattle.rp_grammar.proofs.Basics.{bind_some, some_is}
use Rattle.rp_grammar.proofs.Loops.{Shortens, ShortensIn}
use Rattle.rp_grammar.proofs.ExpressionTakes.{skip_within, place_takes}
use Rattle.rp_grammar.proofs.ExpressionSound.{readers_sound, expr_list_sound}
use Rattle.rp_grammar.specs.Statements.{Context, is_in_function, is_free}
use Rattle.rp_grammar.specs.StatementReading as stmt_reading
use Rattle.rp_grammar.proofs.Simple.{place_sound}
use Rattle.rp_grammar.proofs.StatementTakes.{exprs_take}
use Rattle.rp_grammar.proofs.Local.{IsStuck, Halts, Rests, Follows, fails, goes, Local, halted, halts_bind, halts_take, follows_bind, follows_cond, local_some, local_none, local_bind, local_rest, local_cond, local_if, local_take, local_option, tells_at, local_many, local_listed}
use Rattle.rp_grammar.proofs.LocalExpressions.{local_readers, local_name, begun_behind, local_primary, local_expr, local_expr_list, local_params}

-- ---- each turn takes a token

name_rest : (k : TokenKind) (ts : Tokens) (x : Named × Tokens) → reading.name_by k ts ≡ Some x → skip ts ≡ x.1
name_rest (kind.Name n) ts x h = ap (λ (z : Named × Tokens). z.1) (some_is h)
name_rest _ ts x h = absurd cc

begun_takes : (is : TokenKind → Bool) → is kind.End ≡ false → (ts : Tokens) → is (first ts) ≡ true → length (skip ts) < length ts
begun_takes is unlike [] h = absurd cc
begun_takes is unlike (b ∷ ts) h = omega arith

names_short : Shortens (reading.at is_comma) (reading.behind (λ us. reading.name_by (first us) us))
names_short ts x begun h =
    let rest = name_rest (first (skip ts)) (skip ts) x h in
    omega (arith, begun_takes is_comma refl ts begun, skip_within (skip ts), ap length rest)

module _ (d : ℕ) where
  abbrev rs : Readers
  rs = reading.readers d

  place_short : (ts : Tokens) (x : Place × Tokens) → stmt_reading.place rs ts ≡ Some x → length x.1 < length ts
  place_short ts x h = place_takes (place_sound rs (readers_sound d) ts x h)

  places_short : ShortensIn (reading.alike (stmt_reading.place rs))
  places_short u ts x h =
      let (y, found, all) = bind_some _ _ _ h in
      let same : ◌≡◌ {A = (Place × Unit {0}) × Tokens} ((y.0, tt), y.1) x = some_is all in
      subst (λ (z : (Place × Unit {0}) × Tokens). length z.1 < length ts) same (place_short ts y found)

  exprs_short : (ts : Tokens) (x : Expr × Tokens) → reading.expr_list rs ts ≡ Some x → length x.1 < length ts
  exprs_short ts x h = exprs_take (expr_list_sound rs (readers_sound d) ts x h)

-- ---- what moves

module _ (w : Rests) (d : ℕ) where
  pub expr_moves : Local w (reading.expr (reading.readers d))
  expr_moves = local_expr w d (local_readers w d)

  pub exprs_move : Local w (reading.expr_list (reading.readers d))
  exprs_move = local_expr_list w d (local_readers w d)

  local_place : Local w (stmt_reading.place (reading.readers d))
  unfolding stmt_reading.place
  local_place = local_bind (local_primary w d (local_readers w d)) (λ e. local_option (as_place e) (λ q. local_some q))

  local_places : Local w (stmt_reading.places (reading.readers d))
  unfolding stmt_reading.places
  local_places =
      local_bind local_place (λ q. local_take is_comma refl
      (λ line. local_bind (local_listed [] [] (λ q qs. q ∷ qs) starts (reading.alike (stmt_reading.place (reading.readers d))) (places_short d) (λ u. local_bind local_place (λ x. local_some (x, tt))) tt) (λ qs. local_some (q ∷ qs)))
      (local_some (q ∷ [])))

  local_names : Local w stmt_reading.names
  unfolding stmt_reading.names
  local_names = local_bind (local_name w) (λ n. local_bind (local_many [] (λ n ns. n ∷ ns) (reading.at is_comma) (reading.behind (λ us. reading.name_by (first us) us)) (tells_at is_comma refl refl) names_short (begun_behind w is_comma refl (local_name w))) (λ ns. local_some (n ∷ ns)))

  local_maybe_exprs : Local w (stmt_reading.maybe_exprs (reading.readers d))
  unfolding stmt_reading.maybe_exprs
  local_maybe_exprs = local_if starts (local_bind exprs_move (λ e. local_some (Some e))) (local_some None)

  local_maybe_expr : Local w (stmt_reading.maybe_expr (reading.readers d))
  unfolding stmt_reading.maybe_expr
  local_maybe_expr = local_if starts (local_bind expr_moves (λ e. local_some (Some e))) (local_some None)

  local_return : (c : Context) (line : Line) → Local w (stmt_reading.return (reading.readers d) c line)
  unfolding stmt_reading.return
  local_return c line = local_cond (is_in_function c) (local_bind local_maybe_exprs (λ e. local_some (stmt_tree.a_stmt line (stmt_tree.give_back e)))) local_none

  local_raised : (c : Context) (line : Line) (e : Option Expr) → Local w (λ us. stmt_reading.raised c line (e, us))
  local_raised c line (Some e) = local_some (stmt_tree.a_stmt line (stmt_tree.raise (Some e)))
  local_raised c line None = local_cond c.handler (local_some (stmt_tree.a_stmt line (stmt_tree.raise None))) local_none

  local_raise : (c : Context) (line : Line) → Local w (stmt_reading.raise (reading.readers d) c line)
  unfolding stmt_reading.raise
  local_raise c line = local_bind local_maybe_expr (local_raised c line)

  local_assert : (line : Line) → Local w (stmt_reading.assert (reading.readers d) line)
  unfolding stmt_reading.assert
  local_assert line = local_bind expr_moves (λ e. local_take is_comma refl (λ l. local_bind expr_moves (λ f. local_some (stmt_tree.a_stmt line (stmt_tree.assert e (Some f))))) (local_some (stmt_tree.a_stmt line (stmt_tree.assert e None))))

  local_global : (c : Context) (line : Line) → Local w (stmt_reading.global c line)
  unfolding stmt_reading.global
  local_global c line = local_cond c.class local_none (local_bind local_names (λ ns. local_cond (list_all (is_free c.function) ns) (local_some (stmt_tree.a_stmt line (stmt_tree.global ns))) local_none))

  pub local_parameters : Local w (stmt_reading.parameters (reading.readers d))
  unfolding stmt_reading.parameters
  local_parameters = local_bind (local_params w d (local_readers w d)) (λ ps. local_cond (distinct (parameter_names ps)) (local_some ps) local_none)

  -- ---- assignments

  abbrev after_equal : ℕ → Expr → Tokens → Read (List Place × Expr)
  after_equal n e us = as_place e >>= λ q. stmt_reading.assigned_by n (reading.readers d) us >>= λ x. Some ((q ∷ x.0.0, x.0.1), x.1)

  abbrev next : ℕ → Expr → Tokens → Read (List Place × Expr)
  next n e us = cond (is_equal (first us)) (after_equal n e (skip us)) (Some (([], e), us))

  equal_stuck : (n : ℕ) (o : Option Place) (us : Tokens) → Halts (stmt_reading.assigned_by n (reading.readers d) us) → Halts {A = List Place × Expr} (o >>= λ q. stmt_reading.assigned_by n (reading.readers d) us >>= λ x. Some ((q ∷ x.0.0, x.0.1), x.1))
  equal_stuck n None us h = tt
  equal_stuck n (Some q) us h = halts_bind (stmt_reading.assigned_by n (reading.readers d) us) (λ x vs. Some ((q ∷ x.0, x.1), vs)) h (λ x vs k. k)

  assigned_stuck : (n : ℕ) (ts : Tokens) → IsStuck ts → Halts (stmt_reading.assigned_by n (reading.readers d) ts)
  unfolding stmt_reading.assigned_by
  assigned_stuck zero ts h = tt
  assigned_stuck (suc n) ts h =
      halts_bind (reading.expr_list (reading.readers d) ts) (next n) (exprs_move.stuck ts h)
      (λ e us k. halts_take is_equal us (after_equal n e (skip us)) (Some (([], e), us)) refl k (λ l. equal_stuck n (as_place e) (skip us) (assigned_stuck n (skip us) l)) k)

  abbrev Assigned : ℕ → ℕ → Type 0
  Assigned n m = (b : Token) (bs : Tokens) → length (b ∷ bs) < m → Follows w (stmt_reading.assigned_by n (reading.readers d) (b ∷ (bs ++ w.ending))) (stmt_reading.assigned_by m (reading.readers d) (b ∷ (bs ++ w.others)))

  assigned_rest : (n m : ℕ) → Assigned n m → (bs : Tokens) → length bs < m → Follows w (stmt_reading.assigned_by n (reading.readers d) (bs ++ w.ending)) (stmt_reading.assigned_by m (reading.readers d) (bs ++ w.others))
  assigned_rest n m more [] lt = halted (stmt_reading.assigned_by n (reading.readers d) w.ending) (stmt_reading.assigned_by m (reading.readers d) w.others) (assigned_stuck n w.ending (inl w.begins))
  assigned_rest n m more (b ∷ bs) lt = more b bs lt

  equal_moves : (n m : ℕ) (o : Option Place) (us vs : Tokens) → Follows w (stmt_reading.assigned_by n (reading.readers d) us) (stmt_reading.assigned_by m (reading.readers d) vs)
      → Follows {A = List Place × Expr} w (o >>= λ q. stmt_reading.assigned_by n (reading.readers d) us >>= λ x. Some ((q ∷ x.0.0, x.0.1), x.1)) (o >>= λ q. stmt_reading.assigned_by m (reading.readers d) vs >>= λ x. Some ((q ∷ x.0.0, x.0.1), x.1))
  equal_moves n m None us vs h = fails
  equal_moves n m (Some q) us vs h =
      follows_bind (stmt_reading.assigned_by n (reading.readers d) us) (stmt_reading.assigned_by m (reading.readers d) vs) (λ x ws. Some ((q ∷ x.0, x.1), ws)) (λ x ws. Some ((q ∷ x.0, x.1), ws)) h (λ x ws k. k) (λ x c cs is. goes (q ∷ x.0, x.1) c cs)

  assigned_moves : (n m : ℕ) → Assigned n m
  unfolding stmt_reading.assigned_by
  assigned_moves zero m b bs lt = fails
  assigned_moves (suc n) zero b bs lt = absurd (omega arith)
  assigned_moves (suc n) (suc m) b bs lt =
      follows_bind (reading.expr_list (reading.readers d) (b ∷ (bs ++ w.ending))) (reading.expr_list (reading.readers d) (b ∷ (bs ++ w.others))) (next n) (next m) (exprs_move.moves b bs)
      (λ e us k. halts_take is_equal us (after_equal n e (skip us)) (Some (([], e), us)) refl k (λ l. equal_stuck n (as_place e) (skip us) (assigned_stuck n (skip us) l)) k)
      (λ e c cs is.
      let less = exprs_short d (b ∷ (bs ++ w.others)) (e, c ∷ (cs ++ w.others)) is in
      let fewer : length cs < m = omega (arith, length-append cs w.others, length-append bs w.others) in
      follows_cond (is_equal c.kind) (after_equal n e (cs ++ w.ending)) (Some (([], e), c ∷ (cs ++ w.ending))) (after_equal m e (cs ++ w.others)) (Some (([], e), c ∷ (cs ++ w.others)))
      (equal_moves n m (as_place e) (cs ++ w.ending) (cs ++ w.others) (assigned_rest n m (assigned_moves n m) cs fewer)) (goes ([], e) c cs))

  local_assigned : Local w (stmt_reading.assigned (reading.readers d))
  local_assigned = record { stuck = λ ts h. assigned_stuck (suc (length ts)) ts h; moves = λ b bs. assigned_moves (suc (length (b ∷ (bs ++ w.ending)))) (suc (length (b ∷ (bs ++ w.others)))) b bs (omega (arith, length-append bs w.others)) }

  local_assignment_to : (line : Line) (q : Target) → Local w (stmt_reading.assignment_to (reading.readers d) line q)
  local_assignment_to line (tree.to_place q) = local_bind local_assigned (λ x. local_some (stmt_tree.a_stmt line (stmt_tree.assign (q ∷ x.0) x.1)))
  local_assignment_to line (tree.group qs) = local_bind exprs_move (λ e. local_some (stmt_tree.a_stmt line (stmt_tree.unpack (tree.group qs) e None)))

  local_assignment : (e : Expr) → Local w (stmt_reading.assignment (reading.readers d) e)
  unfolding stmt_reading.assignment
  local_assignment e = local_option (as_target e) (λ q. local_assignment_to (line_of e) q)

  augmented_from : (o : BinOp) (e : Expr) (line : Line) → Local w (λ us. as_place e >>= λ q. reading.expr_list (reading.readers d) us >>= λ f. Some (stmt_tree.a_stmt (line_of e) (stmt_tree.aug q o line f.0 None), f.1))
  augmented_from o e line = local_option (as_place e) (λ q. local_bind exprs_move (λ f. local_some (stmt_tree.a_stmt (line_of e) (stmt_tree.aug q o line f None))))

  behind_moves : (k : TokenKind) (o : Option BinOp) (e : Expr) (b : Token) (bs : Tokens) → Follows w (stmt_reading.behind_exprs k o (reading.readers d) e (b ∷ (bs ++ w.ending))) (stmt_reading.behind_exprs k o (reading.readers d) e (b ∷ (bs ++ w.others)))
  unfolding stmt_reading.augmented
  behind_moves k (Some o) e b bs = local_rest (augmented_from o e b.line) bs
  behind_moves kind.Equal None e b bs = local_rest (local_assignment e) bs
  behind_moves _ None e b bs = goes (stmt_tree.a_stmt (line_of e) (stmt_tree.evaluate e)) b bs

  behind_stuck : (e : Expr) (ts : Tokens) → IsStuck ts → Halts (stmt_reading.behind_exprs (first ts) (augmented_of (first ts)) (reading.readers d) e ts)
  behind_stuck e ts (inl h) = rw h (inl h)
  behind_stuck e ts (inr (h, i)) = rw h (inr (h, i))

  local_expression : Local w (stmt_reading.expression_statement (reading.readers d))
  unfolding stmt_reading.expression_statement
  local_expression = local_bind exprs_move (λ e. record { stuck = behind_stuck e; moves = λ b bs. behind_moves b.kind (augmented_of b.kind) e b bs })

  simple_from : (c : Context) (k : TokenKind) (b : Token) (bs : Tokens) → Follows w (stmt_reading.simple_by k (reading.readers d) c (b ∷ (bs ++ w.ending))) (stmt_reading.simple_by k (reading.readers d) c (b ∷ (bs ++ w.others)))
  simple_from c kind.Pass b bs = local_rest (local_some (stmt_tree.a_stmt b.line stmt_tree.pass)) bs
  simple_from c kind.Break b bs = local_rest (local_cond c.loop (local_some (stmt_tree.a_stmt b.line stmt_tree.break)) local_none) bs
  simple_from c kind.Continue b bs = local_rest (local_cond c.loop (local_some (stmt_tree.a_stmt b.line stmt_tree.continue)) local_none) bs
  simple_from c kind.Return b bs = local_rest (local_return c b.line) bs
  simple_from c kind.Raise b bs = local_rest (local_raise c b.line) bs
  simple_from c kind.Assert b bs = local_rest (local_assert b.line) bs
  simple_from c kind.Global b bs = local_rest (local_global c b.line) bs
  simple_from c kind.Del b bs = local_rest (local_bind local_places (λ qs. local_some (stmt_tree.a_stmt b.line (stmt_tree.del qs)))) bs
  simple_from c _ b bs = local_expression.moves b bs

  pub simple_moves : (c : Context) (b : Token) (bs : Tokens) → Follows w (stmt_reading.simple (reading.readers d) c (b ∷ (bs ++ w.ending))) (stmt_reading.simple (reading.readers d) c (b ∷ (bs ++ w.others)))
  unfolding stmt_reading.simple
  simple_moves c b bs = simple_from c b.kind b bs
