-- Compound statements on two lists of tokens that have the same front.
use Rattle.std.proofs.Common.{◌≡◌, ℕ, zero, suc, ◌<◌, ◌≤◌, Bool, true, false, cond, [], ◌∷◌, ◌++◌, length, Some, None, Ok, Err, refl, ap, subst, ◌∙◌, inl, inr, arith, length-append}
use Rattle.rp_token.specs.declared.token.Token.{Token}
use Rattle.rp_token.specs.declared.token.TokenKind.{TokenKind}
use Rattle.rp_token.specs.declared.token.TokenKind.TheVariants as kind
use Rattle.rp_tree.specs.Expressions as tree
use Rattle.rp_tree.specs.Expressions.{Named, Expr, Target, Params}
use Rattle.rp_tree.specs.Heights.{expr_height, target_height, params_height}
use Rattle.rp_tree.specs.Statements as stmt_tree
use Rattle.rp_tree.specs.Statements.{Stmt, StmtForm, Stmts, MaybeStmts, Branches, Except, Excepts}
use Rattle.rp_grammar.specs.Kinds.{Tokens, first, skip}
use Rattle.rp_grammar.specs.Expressions.{named, distinct, parameter_names}
use Rattle.rp_grammar.specs.Front.{is_colon, is_in, is_right_paren}
use Rattle.rp_grammar.specs.ExpressionReading as reading
use Rattle.rp_grammar.specs.ExpressionReading.{Read}
use Rattle.rp_grammar.proofs.Basics.{bind_some, some_is, tested}
use Rattle.rp_grammar.proofs.ExpressionTakes.{skip_within, expr_takes, target_takes, params_take}
use Rattle.rp_grammar.proofs.ExpressionSound.{readers_sound, expr_sound, expr_list_sound, target_sound, params_sound}
use Rattle.rp_grammar.specs.StatementReading as stmt_reading
use Rattle.rp_grammar.specs.StatementReading.{Found, ◌>>>◌, from, hidden, within, expected}
use Rattle.rp_grammar.proofs.StatementTakes.{exprs_take}
use Rattle.rp_grammar.proofs.Founds.{ok_is, from_ok}
use Rattle.rp_grammar.proofs.Local.{IsStuck, Halts, Rests, Follows, fails, halts, goes}
use Rattle.rp_grammar.proofs.LocalExpressions.{local_readers, local_name, local_target}
use Rattle.rp_grammar.proofs.LocalSimple.{expr_moves, exprs_move, local_parameters}
use Rattle.rp_grammar.proofs.Past.{Past, Shrinks, from_past, shrinks_later, past_bind, shrinks_bind, shrinks_hidden, shrinks_cond, past_cond, Takes, Over, over_unlike, EndsOver, Refused, ends_bind, Crossed, refused, inside, refused_by, crossed_cond, crossed_from, crossed_bind, crossed_then, Crosses, Heads, Trails, trails_ok, trails_bind, heads_bind, crosses_head, heads_within, heads_expected, heads_by}

-- ---- what begins no statement

expr_short : (d : ℕ) → Takes (reading.expr (reading.readers d))
expr_short d ts x h = omega (arith, expr_takes (expr_sound (reading.readers d) (readers_sound d) ts x h))

exprs_short : (d : ℕ) → Takes (reading.expr_list (reading.readers d))
exprs_short d ts x h = omega (arith, exprs_take (expr_list_sound (reading.readers d) (readers_sound d) ts x h))

target_short : (d : ℕ) → Takes (reading.target (reading.readers d))
target_short d ts x h = omega (arith, target_takes (target_sound (reading.readers d) (readers_sound d) ts x h).1)

parameters_short : (d : ℕ) → Takes (stmt_reading.parameters (reading.readers d))
unfolding stmt_reading.parameters
parameters_short d ts x h =
    let (ps, found, more) = bind_some _ _ _ h in
    let (differ, all) = tested (distinct (parameter_names ps.0)) _ _ more in
    let same : ◌≡◌ {A = Params × Tokens} ps x = some_is all in
    subst (λ (z : Params × Tokens). length z.1 ≤ length ts) same (params_take (params_sound (reading.readers d) (readers_sound d) ts ps found))

-- a list that is taken from is longer than what is found in a part of it
shorter : {A : Type 0} (x : A) (us vs : Tokens) (o : Found A) → Shrinks vs o → o ≡ Ok (x, us) → length us ≤ length vs
shorter {A} x us vs (Ok (y, ws)) h e =
    let same : ◌≡◌ {A = A × Tokens} (y, ws) (x, us) = ok_is e in
    let rest : ws ≡ us = ap (λ (z : A × Tokens). z.1) same in
    omega (arith, h, ap length rest)
shorter x us vs (Err q) h e = absurd cc

fewer : (m : ℕ) (w : Rests) (b c : Token) (bs cs : Tokens) → length (c ∷ (cs ++ w.others)) ≤ length (bs ++ w.others) → length (b ∷ bs) < suc m → length (c ∷ cs) < m
fewer m w b c bs cs le lt = omega (arith, length-append cs w.others, length-append bs w.others)

module _ (w : Rests) where
  name_then : {A : Type 0} (o q : Read Named) (f g : Named → Tokens → Found A) → Follows w o q → ((n : Named) (us : Tokens) → IsStuck us → Refused (f n us))
      → ((n : Named) (b : Token) (bs : Tokens) → Crossed w (f n (b ∷ (bs ++ w.ending))) (g n (b ∷ (bs ++ w.others)))) → Crossed w (stmt_reading.with_name f o) (stmt_reading.with_name g q)
  name_then None q f g fails never more = refused
  name_then (Some (n, us)) q f g (halts k) never more = refused_by (f n us) (stmt_reading.with_name g q) (never n us k)
  name_then _ _ f g (goes n b bs) never more = more n b bs

  name_stuck : {A : Type 0} (o : Read Named) (f : Named → Tokens → Found A) → Halts o → ((n : Named) (us : Tokens) → IsStuck us → Refused (f n us)) → Refused (stmt_reading.with_name f o)
  name_stuck None f k never = tt
  name_stuck (Some (n, us)) f k never = never n us k

  name_shrinks : {A : Type 0} (k : TokenKind) (ts : Tokens) (f : Named → Tokens → Found A) → ((n : Named) (us : Tokens) → Shrinks us (f n us)) → Shrinks ts (stmt_reading.with_name f (reading.name_by k ts))
  name_shrinks (kind.Name n) ts f h = shrinks_later (skip ts) ts (f (named n ts) (skip ts)) (skip_within ts) (h (named n ts) (skip ts))
  name_shrinks _ ts f h = tt

  heads_name : {A : Type 0} {f : Named → Tokens → Found A} → ((n : Named) → Heads w (f n)) → Heads w (λ ts. stmt_reading.with_name f (reading.name_by (first ts) ts))
  heads_name {f = f} a = record {
    moves = λ b bs. name_then (reading.name_by b.kind (b ∷ (bs ++ w.ending))) (reading.name_by b.kind (b ∷ (bs ++ w.others))) f f ((local_name w).moves b bs) (λ n us. (a n).stuck us) (λ n c cs. (a n).moves c cs);
    stuck = λ ts h. name_stuck (reading.name_by (first ts) ts) f ((local_name w).stuck ts h) (λ n us. (a n).stuck us);
    shrinks = λ ts. name_shrinks (first ts) ts f (λ n us. (a n).shrinks us);
  }

-- ---- with blocks

module _ (w : Rests) (d h : ℕ) where
  pub heads_suite : {block : Tokens → Found Stmts} → Crosses w block → Heads w (stmt_reading.suite block)
  heads_suite c = heads_expected is_colon refl refl c

  heads_tested : {block : Tokens → Found Stmts} → Crosses w block → Heads w (stmt_reading.tested (reading.readers d) h block)
  unfolding stmt_reading.tested
  heads_tested c = heads_within expr_height h (expr_moves w d) (expr_short d) (λ e. heads_bind (heads_suite c) (λ b. trails_ok (e, b)))

  -- a part that may be missing, at a place where its word comes
  part_past : {A B : Type 0} (is : TokenKind → Bool) (ts : Tokens) (f : Tokens → Found A) (g : A → Tokens → Found B) (o : Found B) → ((us : Tokens) → Shrinks us (f us)) → ((x : A) (us : Tokens) → Past us (g x us)) → Past ts o
      → Past ts (cond (is (first ts)) (from ts (f (skip ts)) >>> λ x. g x.0 x.1) o)
  part_past is ts f g o shrinks later past =
      past_cond ts (is (first ts)) (from ts (f (skip ts)) >>> λ x. g x.0 x.1) o (past_bind ts (from ts (f (skip ts))) g (from_past ts (f (skip ts)) (shrinks_later (skip ts) ts (f (skip ts)) (skip_within ts) (shrinks (skip ts)))) later) past

  trails_maybe : {block : Tokens → Found Stmts} (is : TokenKind → Bool) → is kind.Pass ≡ false → is kind.Dedent ≡ false → is kind.End ≡ false → Crosses w block → Trails w (stmt_reading.maybe_suite is block)
  unfolding stmt_reading.maybe_suite
  trails_maybe {block = block} is i j k c = record {
    moves = λ b bs. crossed_cond (is b.kind) (from (b ∷ (bs ++ w.ending)) (stmt_reading.suite block (bs ++ w.ending)) >>> λ x. some x.0 x.1) (Ok (stmt_tree.none, b ∷ (bs ++ w.ending)))
        (from (b ∷ (bs ++ w.others)) (stmt_reading.suite block (bs ++ w.others)) >>> λ x. some x.0 x.1) (Ok (stmt_tree.none, b ∷ (bs ++ w.others)))
        (crossed_bind (from (b ∷ (bs ++ w.ending)) (stmt_reading.suite block (bs ++ w.ending))) (from (b ∷ (bs ++ w.others)) (stmt_reading.suite block (bs ++ w.others))) some some
        (crossed_from (b ∷ (bs ++ w.ending)) (b ∷ (bs ++ w.others)) (stmt_reading.suite block (bs ++ w.ending)) (stmt_reading.suite block (bs ++ w.others)) ((crosses_head (heads_suite c)).at bs))
        (λ x e es is. inside (stmt_tree.some x) e es) (λ x us over. over) (λ x us. omega arith))
        (inside stmt_tree.none b bs);
    ended = λ ts over. rw (over_unlike w is i j k ts over) over;
    past = λ ts. part_past is ts (stmt_reading.suite block) some (Ok (stmt_tree.none, ts)) (heads_suite c).shrinks (λ x us. omega arith) (omega arith);
  }
    where
      some : Stmts → Tokens → Found MaybeStmts
      some x us = Ok (stmt_tree.some x, us)

  -- ---- 'elif'

  module _ (block : Tokens → Found Stmts) (c : Crosses w block) where
    abbrev elif : ℕ → Expr × Stmts → Tokens → Found Branches
    elif n x us = stmt_reading.elifs_by n (reading.readers d) h block us >>> λ bs. Ok (stmt_tree.branch x.0 x.1 bs.0, bs.1)

    elifs_past : (n : ℕ) (ts : Tokens) → Past ts (stmt_reading.elifs_by n (reading.readers d) h block ts)
    unfolding stmt_reading.elifs_by
    elifs_past zero ts = omega arith
    elifs_past (suc n) ts =
        part_past stmt_reading.is_elif ts (stmt_reading.tested (reading.readers d) h block) (elif n) (Ok (stmt_tree.no_branches, ts)) (heads_tested c).shrinks
        (λ x us. past_bind us (stmt_reading.elifs_by n (reading.readers d) h block us) (λ bs vs. Ok (stmt_tree.branch x.0 x.1 bs, vs)) (elifs_past n us) (λ bs vs. omega arith)) (omega arith)

    elifs_ended : (n : ℕ) (ts : Tokens) → Over w ts → EndsOver w (stmt_reading.elifs_by n (reading.readers d) h block ts)
    unfolding stmt_reading.elifs_by
    elifs_ended zero ts over = tt
    elifs_ended (suc n) ts over = rw (over_unlike w stmt_reading.is_elif refl refl refl ts over) over

    elifs_move : (n m : ℕ) (b : Token) (bs : Tokens) → length (b ∷ bs) < m → Crossed w (stmt_reading.elifs_by n (reading.readers d) h block (b ∷ (bs ++ w.ending))) (stmt_reading.elifs_by m (reading.readers d) h block (b ∷ (bs ++ w.others)))
    unfolding stmt_reading.elifs_by
    elifs_move zero m b bs lt = refused
    elifs_move (suc n) zero b bs lt = absurd (omega arith)
    elifs_move (suc n) (suc m) b bs lt =
        crossed_cond (stmt_reading.is_elif b.kind) (from (b ∷ (bs ++ w.ending)) (stmt_reading.tested (reading.readers d) h block (bs ++ w.ending)) >>> λ x. elif n x.0 x.1) (Ok (stmt_tree.no_branches, b ∷ (bs ++ w.ending)))
        (from (b ∷ (bs ++ w.others)) (stmt_reading.tested (reading.readers d) h block (bs ++ w.others)) >>> λ x. elif m x.0 x.1) (Ok (stmt_tree.no_branches, b ∷ (bs ++ w.others)))
        (crossed_bind (from (b ∷ (bs ++ w.ending)) (stmt_reading.tested (reading.readers d) h block (bs ++ w.ending))) (from (b ∷ (bs ++ w.others)) (stmt_reading.tested (reading.readers d) h block (bs ++ w.others))) (elif n) (elif m)
        (crossed_from (b ∷ (bs ++ w.ending)) (b ∷ (bs ++ w.others)) (stmt_reading.tested (reading.readers d) h block (bs ++ w.ending)) (stmt_reading.tested (reading.readers d) h block (bs ++ w.others)) ((crosses_head (heads_tested c)).at bs))
        (λ x e es is.
        let less = shorter x (e ∷ (es ++ w.others)) (bs ++ w.others) (stmt_reading.tested (reading.readers d) h block (bs ++ w.others)) ((heads_tested c).shrinks (bs ++ w.others)) (from_ok _ _ _ is) in
        crossed_bind (stmt_reading.elifs_by n (reading.readers d) h block (e ∷ (es ++ w.ending))) (stmt_reading.elifs_by m (reading.readers d) h block (e ∷ (es ++ w.others))) (λ bs vs. Ok (stmt_tree.branch x.0 x.1 bs, vs)) (λ bs vs. Ok (stmt_tree.branch x.0 x.1 bs, vs))
        (elifs_move n m e es (fewer m w b e bs es less lt)) (λ bs f fs is. inside (stmt_tree.branch x.0 x.1 bs) f fs) (λ bs vs over. over) (λ bs vs. omega arith))
        (λ x us over. ends_bind w (stmt_reading.elifs_by n (reading.readers d) h block us) (λ bs vs. Ok (stmt_tree.branch x.0 x.1 bs, vs)) (elifs_ended n us over) (λ bs vs over. over))
        (λ x us. past_bind us (stmt_reading.elifs_by m (reading.readers d) h block us) (λ bs vs. Ok (stmt_tree.branch x.0 x.1 bs, vs)) (elifs_past m us) (λ bs vs. omega arith)))
        (inside stmt_tree.no_branches b bs)

    trails_elifs : Trails w (stmt_reading.elifs (reading.readers d) h block)
    trails_elifs = record {
      moves = λ b bs. elifs_move (suc (length (b ∷ (bs ++ w.ending)))) (suc (length (b ∷ (bs ++ w.others)))) b bs (omega (arith, length-append bs w.others));
      ended = λ ts over. elifs_ended (suc (length ts)) ts over;
      past = λ ts. elifs_past (suc (length ts)) ts;
    }

    trails_else : Trails w (stmt_reading.maybe_suite stmt_reading.is_else block)
    trails_else = trails_maybe stmt_reading.is_else refl refl refl c

    trails_finally : Trails w (stmt_reading.maybe_suite stmt_reading.is_finally block)
    trails_finally = trails_maybe stmt_reading.is_finally refl refl refl c

    pub heads_if : Heads w (stmt_reading.if_statement (reading.readers d) h block)
    unfolding stmt_reading.if_statement
    heads_if = heads_bind (heads_tested c) (λ x. trails_bind trails_elifs (λ bs. trails_bind trails_else (λ o. trails_ok (stmt_tree.choose (stmt_tree.branch x.0 x.1 bs) o))))

    pub heads_while : Heads w (stmt_reading.while_statement (reading.readers d) h block)
    unfolding stmt_reading.while_statement
    heads_while = heads_bind (heads_tested c) (λ x. trails_ok (stmt_tree.while x.0 x.1))

    pub heads_for : Heads w (stmt_reading.for_statement (reading.readers d) h block)
    unfolding stmt_reading.for_statement
    heads_for =
        heads_within target_height h (local_target w d (local_readers w d)) (target_short d) (λ q. heads_expected is_in refl refl (crosses_head
        (heads_within expr_height h (exprs_move w d) (exprs_short d) (λ e. heads_bind (heads_suite c) (λ b. trails_ok (stmt_tree.for (tree.a_walk q e None) b))))))

    -- ---- handlers

    heads_plain : (e : Expr) → Heads {A = Except × Bool} w (λ us. stmt_reading.suite block us >>> λ b. Ok ((stmt_tree.an_except (Some e) None b.0, false), b.1))
    heads_plain e = heads_bind (heads_suite c) (λ b. trails_ok (stmt_tree.an_except (Some e) None b, false))

    crosses_named : (e : Expr) (n : Named) → Crosses {A = Except × Bool} w (λ us. stmt_reading.suite block us >>> λ b. Ok ((stmt_tree.an_except (Some e) (Some n) b.0, false), b.1))
    crosses_named e n = crosses_head (heads_bind (heads_suite c) (λ b. trails_ok (stmt_tree.an_except (Some e) (Some n) b, false)))

    as_moves : (l : TokenKind) (e : Expr) (b a : Token) (bs : Tokens) → Crossed w (stmt_reading.named_handler kind.As l block e (b ∷ a ∷ (bs ++ w.ending))) (stmt_reading.named_handler kind.As l block e (b ∷ a ∷ (bs ++ w.others)))
    as_moves (kind.Name n) e b a bs = (crosses_named e (record { name = n; line = a.line })).at bs
    as_moves _ e b a bs = refused

    named_moves : (k : TokenKind) (e : Expr) (b : Token) (bs : Tokens) → Crossed w (stmt_reading.named_handler k (first (bs ++ w.ending)) block e (b ∷ (bs ++ w.ending))) (stmt_reading.named_handler k (first (bs ++ w.others)) block e (b ∷ (bs ++ w.others)))
    named_moves kind.As e b [] = rw w.begins refused
    named_moves kind.As e b (a ∷ bs) = as_moves a.kind e b a bs
    named_moves _ e b bs = (heads_plain e).moves b bs

    named_stuck : (k l : TokenKind) (e : Expr) (ts : Tokens) → k ≡ first ts → IsStuck ts → Refused (stmt_reading.named_handler k l block e ts)
    named_stuck kind.As l e ts is (inl i) = let wrong : kind.As ≡ kind.Pass = is ∙ i in absurd cc
    named_stuck kind.As l e ts is (inr (i, j)) = let wrong : kind.As ≡ kind.Not = is ∙ i in absurd cc
    named_stuck _ l e ts is i = (heads_plain e).stuck ts i

    named_shrinks : (k l : TokenKind) (e : Expr) (ts : Tokens) → Shrinks ts (stmt_reading.named_handler k l block e ts)
    named_shrinks kind.As (kind.Name n) e ts =
        let rest = skip (skip ts) in
        shrinks_later rest ts (stmt_reading.suite block rest >>> λ b. Ok ((stmt_tree.an_except (Some e) (Some (named n (skip ts))) b.0, false), b.1)) (omega (arith, skip_within ts, skip_within (skip ts))) ((crosses_named e (named n (skip ts))).shrinks rest)
    named_shrinks kind.As _ e ts = tt
    named_shrinks _ l e ts = (heads_plain e).shrinks ts

    heads_named : (e : Expr) → Heads w (λ us. stmt_reading.named_handler (first us) (first (skip us)) block e us)
    heads_named e = record { moves = λ b bs. named_moves b.kind e b bs; stuck = λ ts i. named_stuck (first ts) (first (skip ts)) e ts refl i; shrinks = λ ts. named_shrinks (first ts) (first (skip ts)) e ts }

    handler_from : (k : TokenKind) → Heads w (stmt_reading.handler_by k (reading.readers d) h block)
    handler_from kind.Colon = heads_bind (heads_suite c) (λ b. trails_ok (stmt_tree.an_except None None b, true))
    handler_from _ = heads_within expr_height h (expr_moves w d) (expr_short d) heads_named

    heads_handler : Heads w (stmt_reading.handler (reading.readers d) h block)
    unfolding stmt_reading.handler
    heads_handler = heads_by handler_from

    -- further handlers
    abbrev further : ℕ → Except × Bool → Tokens → Found Excepts
    further n x us = stmt_reading.handlers_by n (reading.readers d) h block x.1 us >>> λ xs. Ok (stmt_tree.except x.0 xs.0, xs.1)

    abbrev last : Except × Bool → Excepts → Tokens → Found Excepts
    last x xs us = Ok (stmt_tree.except x.0 xs, us)

    handlers_past : (n : ℕ) (all : Bool) (ts : Tokens) → Past ts (stmt_reading.handlers_by n (reading.readers d) h block all ts)
    unfolding stmt_reading.handlers_by
    handlers_past zero all ts = omega arith
    handlers_past (suc n) true ts = omega arith
    handlers_past (suc n) false ts =
        part_past stmt_reading.is_except ts (stmt_reading.handler (reading.readers d) h block) (further n) (Ok (stmt_tree.no_excepts, ts)) heads_handler.shrinks
        (λ x us. past_bind us (stmt_reading.handlers_by n (reading.readers d) h block x.1 us) (last x) (handlers_past n x.1 us) (λ xs vs. omega arith)) (omega arith)

    handlers_ended : (n : ℕ) (all : Bool) (ts : Tokens) → Over w ts → EndsOver w (stmt_reading.handlers_by n (reading.readers d) h block all ts)
    unfolding stmt_reading.handlers_by
    handlers_ended zero all ts over = tt
    handlers_ended (suc n) true ts over = over
    handlers_ended (suc n) false ts over = rw (over_unlike w stmt_reading.is_except refl refl refl ts over) over

    handlers_move : (n m : ℕ) (all : Bool) (b : Token) (bs : Tokens) → length (b ∷ bs) < m → Crossed w (stmt_reading.handlers_by n (reading.readers d) h block all (b ∷ (bs ++ w.ending))) (stmt_reading.handlers_by m (reading.readers d) h block all (b ∷ (bs ++ w.others)))
    unfolding stmt_reading.handlers_by
    handlers_move zero m all b bs lt = refused
    handlers_move (suc n) zero all b bs lt = absurd (omega arith)
    handlers_move (suc n) (suc m) true b bs lt = inside stmt_tree.no_excepts b bs
    handlers_move (suc n) (suc m) false b bs lt =
        crossed_cond (stmt_reading.is_except b.kind) (from (b ∷ (bs ++ w.ending)) (stmt_reading.handler (reading.readers d) h block (bs ++ w.ending)) >>> λ x. further n x.0 x.1) (Ok (stmt_tree.no_excepts, b ∷ (bs ++ w.ending)))
        (from (b ∷ (bs ++ w.others)) (stmt_reading.handler (reading.readers d) h block (bs ++ w.others)) >>> λ x. further m x.0 x.1) (Ok (stmt_tree.no_excepts, b ∷ (bs ++ w.others)))
        (crossed_bind (from (b ∷ (bs ++ w.ending)) (stmt_reading.handler (reading.readers d) h block (bs ++ w.ending))) (from (b ∷ (bs ++ w.others)) (stmt_reading.handler (reading.readers d) h block (bs ++ w.others))) (further n) (further m)
        (crossed_from (b ∷ (bs ++ w.ending)) (b ∷ (bs ++ w.others)) (stmt_reading.handler (reading.readers d) h block (bs ++ w.ending)) (stmt_reading.handler (reading.readers d) h block (bs ++ w.others)) ((crosses_head heads_handler).at bs))
        (λ x e es is.
        let less = shorter x (e ∷ (es ++ w.others)) (bs ++ w.others) (stmt_reading.handler (reading.readers d) h block (bs ++ w.others)) (heads_handler.shrinks (bs ++ w.others)) (from_ok _ _ _ is) in
        crossed_bind (stmt_reading.handlers_by n (reading.readers d) h block x.1 (e ∷ (es ++ w.ending))) (stmt_reading.handlers_by m (reading.readers d) h block x.1 (e ∷ (es ++ w.others))) (last x) (last x)
        (handlers_move n m x.1 e es (fewer m w b e bs es less lt)) (λ xs f fs is. inside (stmt_tree.except x.0 xs) f fs) (λ xs vs over. over) (λ xs vs. omega arith))
        (λ x us over. ends_bind w (stmt_reading.handlers_by n (reading.readers d) h block x.1 us) (last x) (handlers_ended n x.1 us over) (λ xs vs over. over))
        (λ x us. past_bind us (stmt_reading.handlers_by m (reading.readers d) h block x.1 us) (last x) (handlers_past m x.1 us) (λ xs vs. omega arith)))
        (inside stmt_tree.no_excepts b bs)

    trails_handlers : (all : Bool) → Trails w (stmt_reading.handlers (reading.readers d) h block all)
    trails_handlers all = record {
      moves = λ b bs. handlers_move (suc (length (b ∷ (bs ++ w.ending)))) (suc (length (b ∷ (bs ++ w.others)))) all b bs (omega (arith, length-append bs w.others));
      ended = λ ts over. handlers_ended (suc (length ts)) all ts over;
      past = λ ts. handlers_past (suc (length ts)) all ts;
    }

  -- ---- 'try'

  module _ (block handling : Tokens → Found Stmts) (c : Crosses w block) (k : Crosses w handling) where
    heads_except : (b : Stmts) → Heads {A = StmtForm} w (λ us. stmt_reading.handler (reading.readers d) h handling us >>> λ x. stmt_reading.handlers (reading.readers d) h handling x.0.1 x.1 >>> λ xs.
        stmt_reading.maybe_suite stmt_reading.is_else block xs.1 >>> λ o. stmt_reading.maybe_suite stmt_reading.is_finally block o.1 >>> λ l. Ok (stmt_tree.try b (stmt_tree.except x.0.0 xs.0) o.0 l.0, l.1))
    heads_except b =
        heads_bind (heads_handler handling k) (λ x. trails_bind (trails_handlers handling k x.1) (λ xs. trails_bind (trails_else block c) (λ o. trails_bind (trails_finally block c) (λ l. trails_ok (stmt_tree.try b (stmt_tree.except x.0 xs) o l)))))

    heads_last : (b : Stmts) → Heads {A = StmtForm} w (λ us. stmt_reading.suite block us >>> λ l. Ok (stmt_tree.try b stmt_tree.no_excepts stmt_tree.none (stmt_tree.some l.0), l.1))
    heads_last b = heads_bind (heads_suite c) (λ l. trails_ok (stmt_tree.try b stmt_tree.no_excepts stmt_tree.none (stmt_tree.some l)))

    behind_moves : (j : TokenKind) (b : Stmts) (t : Token) (ts : Tokens) → Crossed w (stmt_reading.behind_try j (reading.readers d) h block handling b (t ∷ (ts ++ w.ending))) (stmt_reading.behind_try j (reading.readers d) h block handling b (t ∷ (ts ++ w.others)))
    behind_moves kind.Except b t ts = (crosses_head (heads_except b)).at ts
    behind_moves kind.Finally b t ts = (crosses_head (heads_last b)).at ts
    behind_moves _ b t ts = refused

    behind_shrinks : (j : TokenKind) (b : Stmts) (ts : Tokens) → Shrinks ts (stmt_reading.behind_try j (reading.readers d) h block handling b ts)
    behind_shrinks kind.Except b ts = shrinks_later (skip ts) ts (stmt_reading.behind_try kind.Except (reading.readers d) h block handling b ts) (skip_within ts) ((heads_except b).shrinks (skip ts))
    behind_shrinks kind.Finally b ts = shrinks_later (skip ts) ts (stmt_reading.behind_try kind.Finally (reading.readers d) h block handling b ts) (skip_within ts) ((heads_last b).shrinks (skip ts))
    behind_shrinks _ b ts = tt

    behind_refused : (j : TokenKind) (b : Stmts) (ts : Tokens) → stmt_reading.is_except j ≡ false → stmt_reading.is_finally j ≡ false → Refused (stmt_reading.behind_try j (reading.readers d) h block handling b ts)
    behind_refused kind.Except b ts no_except no_finally = absurd cc
    behind_refused kind.Finally b ts no_except no_finally = absurd cc
    behind_refused _ b ts no_except no_finally = tt

    behind_over : (b : Stmts) (ts : Tokens) → Over w ts → Refused (stmt_reading.behind_try (first ts) (reading.readers d) h block handling b ts)
    behind_over b ts over = behind_refused (first ts) b ts (over_unlike w stmt_reading.is_except refl refl refl ts over) (over_unlike w stmt_reading.is_finally refl refl refl ts over)

    try_stuck : (o : Found Stmts) (g : Stmts → Tokens → Found StmtForm) → Refused o → Refused (hidden o >>> λ b. g b.0 b.1)
    try_stuck (Ok x) g i = absurd i
    try_stuck (Err q) g i = tt

    pub heads_try : Heads w (stmt_reading.try_statement (reading.readers d) h block handling)
    unfolding stmt_reading.try_statement
    heads_try = record {
      moves = λ t ts. crossed_then (stmt_reading.suite block (t ∷ (ts ++ w.ending))) (stmt_reading.suite block (t ∷ (ts ++ w.others))) behind behind ((heads_suite c).moves t ts) (λ b u us. behind_moves u.kind b u us) behind_over;
      stuck = λ ts i. try_stuck (stmt_reading.suite block ts) behind ((heads_suite c).stuck ts i);
      shrinks = λ ts. shrinks_bind ts (hidden (stmt_reading.suite block ts)) behind (shrinks_hidden ts (stmt_reading.suite block ts) ((heads_suite c).shrinks ts)) (λ b us. behind_shrinks (first us) b us);
    }
      where
        behind : Stmts → Tokens → Found StmtForm
        behind b us = stmt_reading.behind_try (first us) (reading.readers d) h block handling b us

  -- ---- definitions

  pub heads_def : {block : Params → Tokens → Found Stmts} → ((ps : Params) → Crosses w (block ps)) → Heads w (stmt_reading.def_statement (reading.readers d) h block)
  unfolding stmt_reading.def_statement
  heads_def c =
      heads_name w (λ n. heads_expected stmt_reading.is_left_paren refl refl (crosses_head (heads_within params_height h (local_parameters w d) (parameters_short d)
      (λ ps. heads_bind (heads_expected is_right_paren refl refl (crosses_head (heads_suite (c ps)))) (λ b. trails_ok (stmt_tree.define 0 n ps b))))))

  -- empty parentheses, or none
  abbrev closed : Tokens → Found (Unit {0})
  closed ts = expected is_right_paren (λ us. Ok (tt, us)) ts

  closes_moves : {A : Type 0} (g : Tokens → Found A) → Crosses w g → (bs : Tokens) → Crossed w (closed (bs ++ w.ending) >>> λ x. g x.1) (closed (bs ++ w.others) >>> λ x. g x.1)
  closes_moves g c [] = rw w.begins refused
  closes_moves g c (b ∷ bs) = by (is_right_paren b.kind) where
    by : (i : Bool) → Crossed w (cond {A = Found (Unit {0})} i (Ok (tt, bs ++ w.ending)) (Err None) >>> λ x. g x.1) (cond {A = Found (Unit {0})} i (Ok (tt, bs ++ w.others)) (Err None) >>> λ x. g x.1)
    by true = c.at bs
    by false = refused

  closes_stuck : {A : Type 0} (g : Tokens → Found A) (ts : Tokens) → first ts ≡ kind.Pass → Refused (closed ts >>> λ x. g x.1)
  closes_stuck g ts i = rw i tt

  closes_shrink : (ts : Tokens) → Shrinks ts (closed ts)
  closes_shrink ts = shrinks_cond ts (is_right_paren (first ts)) (Ok (tt, skip ts)) (Err None) (skip_within ts) tt

  heads_bases : {A : Type 0} {g : Tokens → Found A} → Heads w g → Heads w (λ ts. stmt_reading.bases ts >>> λ x. g x.1)
  unfolding stmt_reading.bases
  heads_bases {A} {g} a = record { moves = λ b bs. moves_by (stmt_reading.is_left_paren b.kind) b bs; stuck = λ ts i. stuck_by (stmt_reading.is_left_paren (first ts)) ts i refl; shrinks = shrinks_at } where
    moves_by : (i : Bool) (b : Token) (bs : Tokens) → Crossed w (cond i (closed (bs ++ w.ending)) (Ok (tt, b ∷ (bs ++ w.ending))) >>> λ x. g x.1) (cond i (closed (bs ++ w.others)) (Ok (tt, b ∷ (bs ++ w.others))) >>> λ x. g x.1)
    moves_by true b bs = closes_moves g (crosses_head a) bs
    moves_by false b bs = a.moves b bs

    stuck_by : (i : Bool) (ts : Tokens) → IsStuck ts → stmt_reading.is_left_paren (first ts) ≡ i → Refused (cond i (closed (skip ts)) (Ok (tt, ts)) >>> λ x. g x.1)
    stuck_by true ts (inl j) is = let wrong : stmt_reading.is_left_paren (first ts) ≡ false = ap stmt_reading.is_left_paren j in absurd cc
    stuck_by true ts (inr (j, k)) is = closes_stuck g (skip ts) k
    stuck_by false ts j is = a.stuck ts j

    shrinks_at : (ts : Tokens) → Shrinks ts (cond (stmt_reading.is_left_paren (first ts)) (closed (skip ts)) (Ok (tt, ts)) >>> λ x. g x.1)
    shrinks_at ts =
        shrinks_bind ts (cond (stmt_reading.is_left_paren (first ts)) (closed (skip ts)) (Ok (tt, ts))) (λ x. g)
        (shrinks_cond ts (stmt_reading.is_left_paren (first ts)) (closed (skip ts)) (Ok (tt, ts)) (shrinks_later (skip ts) ts (closed (skip ts)) (skip_within ts) (closes_shrink (skip ts))) (omega arith)) (λ x us. a.shrinks us)

  pub heads_class : {block : Tokens → Found Stmts} → Crosses w block → Heads w (stmt_reading.class_statement block)
  unfolding stmt_reading.class_statement
  heads_class c = heads_name w (λ n. heads_bases (heads_bind (heads_suite c) (λ b. trails_ok (stmt_tree.class n b))))
