-- Lines, blocks and programs on two lists of tokens that have the same front.
use Rattle.std.proofs.Common.{◌≡◌, ℕ, zero, suc, ◌<◌, ◌≤◌, ◌==◌, nat_le, Bool, true, false, cond, not, ◌&&◌, [], ◌∷◌, ◌++◌, length, Some, None, Ok, Err, refl, sym, ap, subst, ◌∙◌, inl, inr, arith, length-append}
use Rattle.std.proofs.lemmas.Bool.{eqb-true}
use Rattle.rp_base.specs.declared.value.Line.{Line}
use Rattle.rp_token.specs.declared.token.Token.{Token}
use Rattle.rp_token.specs.declared.token.TokenKind.{TokenKind}
use Rattle.rp_token.specs.declared.token.TokenKind.TheVariants as kind
use Rattle.rp_tree.specs.Expressions.{Expr}
use Rattle.rp_tree.specs.Heights.{stmt_height}
use Rattle.rp_tree.specs.Statements as stmt_tree
use Rattle.rp_tree.specs.Statements.{Stmt, StmtForm, Stmts}
use Rattle.rp_grammar.specs.Kinds.{Tokens, first, line_at, skip}
use Rattle.rp_grammar.specs.Expressions as grammar
use Rattle.rp_grammar.specs.Front.{starts}
use Rattle.rp_grammar.specs.ExpressionReading as reading
use Rattle.rp_grammar.specs.ExpressionReading.{Read}
use Rattle.rp_grammar.proofs.Follow.{expr_starts}
use Rattle.rp_grammar.proofs.ExpressionTakes.{skip_within}
use Rattle.rp_grammar.proofs.ExpressionSound.{readers_sound, expr_list_sound}
use Rattle.rp_grammar.specs.Statements.{Context, in_loop, in_handler, in_class, in_function, is_member, joined, one, top}
use Rattle.rp_grammar.specs.StatementReading as stmt_reading
use Rattle.rp_grammar.specs.StatementReading.{Found, Blocks, ◌>>>◌, from, within, expected, ends}
use Rattle.rp_grammar.proofs.Founds.{from_ok}
use Rattle.rp_grammar.proofs.Simple.{simple_sound}
use Rattle.rp_grammar.proofs.StatementSound.{LineEnd, at_newline, at_semicolon, goes_on, BlocksSound, item_sound, statement_sound, block_sound}
use Rattle.rp_grammar.proofs.StatementTakes.{simple_takes, statement_takes}
use Rattle.rp_grammar.proofs.Local.{IsStuck, Rests, Follows, fails, halts, goes}
use Rattle.rp_grammar.proofs.LocalSimple.{simple_moves}
use Rattle.rp_grammar.proofs.Past.{Past, Shrinks, past_shrinks, from_past, shrinks_later, past_bind, shrinks_bind, shrinks_cond, past_cond, shrinks_within, OnlyEnds, Over, only_skip, EndsOver, Refused, ends_bind, ends_from, Crossed, refused, inside, beyond, refused_by, beyond_by, crossed_cond, crossed_from, crossed_bind, Crosses, Heads, Trails, trails_ok, trails_bind, heads_bind, crosses_bind, crosses_head, crosses_from, heads_expected}
use Rattle.rp_grammar.proofs.PastCompounds.{heads_if, heads_while, heads_for, heads_try, heads_def, heads_class}

-- the ending of a good front: `pass`, NEWLINE, and what ends blocks and the program
pub record IsEnding (es : Tokens) : Type 0 where
  pub pass : Token
  pub newline : Token
  pub rest : Tokens
  pub parts : es ≡ pass ∷ newline ∷ rest
  pub is_pass : pass.kind ≡ kind.Pass
  pub is_newline : newline.kind ≡ kind.Newline
  pub only_ends : OnlyEnds rest

only_first : (ts : Tokens) → OnlyEnds ts → ends (first ts) ≡ true
only_first [] h = refl
only_first (t ∷ ts) h = h.0

abbrev pub LineOver : Found (Stmt × Bool) → Type 0
LineOver (Ok (x, us)) = (x.1 ≡ false) × OnlyEnds us
LineOver (Err q) = Unit {0}

rest_of : {A : Type 0} {w : Rests} (x : A) (bs : Tokens) → Crossed w (Ok (x, bs ++ w.ending)) (Ok (x, bs ++ w.others))
rest_of x [] = beyond (inl refl) (omega arith)
rest_of x (b ∷ bs) = inside x b bs

-- ---- lines

-- a statement of a line, by what is read of it
abbrev pub item_of : ℕ → Bool → Read Stmt → Found (Stmt × Bool)
item_of h members o = (within stmt_height (suc h) o >>> λ x. cond (members && not (is_member x.0)) (Err None) (Ok x)) >>> λ x. stmt_reading.separated (first x.1) x.0 x.1

separated_shrinks : (k : TokenKind) (x : Stmt) (us : Tokens) → Shrinks us (stmt_reading.separated k x us)
separated_shrinks kind.Newline x us = skip_within us
separated_shrinks kind.Semicolon x us = shrinks_cond us (stmt_reading.is_newline (first (skip us))) (Ok ((x, false), skip (skip us))) (Ok ((x, true), skip us)) (omega (arith, skip_within us, skip_within (skip us))) (skip_within us)
separated_shrinks _ x us = tt

item_closed : (h : ℕ) (members : Bool) (x : Stmt) (b : Token) (rest : Tokens) → b.kind ≡ kind.Newline → OnlyEnds rest → LineOver (item_of h members (Some (x, b ∷ rest)))
item_closed h members x b rest is only = low (nat_le (stmt_height x) (suc h)) where
  member : (c : Bool) → LineOver (cond c (Err None) (Ok (x, b ∷ rest)) >>> λ x. stmt_reading.separated (first x.1) x.0 x.1)
  member true = tt
  member false = rw is (refl, only)

  low : (c : Bool) → LineOver ((cond c (Ok (x, b ∷ rest)) (Err None) >>> λ x. cond (members && not (is_member x.0)) (Err None) (Ok x)) >>> λ x. stmt_reading.separated (first x.1) x.0 x.1)
  low true = member (members && not (is_member x))
  low false = tt

item_stuck : (h : ℕ) (members : Bool) (x : Stmt) (us : Tokens) → IsStuck us → Refused (item_of h members (Some (x, us)))
item_stuck h members x us stuck = low (nat_le (stmt_height x) (suc h)) where
  ends_so : IsStuck us → Refused (stmt_reading.separated (first us) x us)
  ends_so (inl i) = rw i tt
  ends_so (inr (i, j)) = rw i tt

  member : (c : Bool) → Refused (cond c (Err None) (Ok (x, us)) >>> λ x. stmt_reading.separated (first x.1) x.0 x.1)
  member true = tt
  member false = ends_so stuck

  low : (c : Bool) → Refused ((cond c (Ok (x, us)) (Err None) >>> λ x. cond (members && not (is_member x.0)) (Err None) (Ok x)) >>> λ x. stmt_reading.separated (first x.1) x.0 x.1)
  low true = member (members && not (is_member x))
  low false = tt

line_end_takes : {more : Bool} {us vs : Tokens} → LineEnd more us vs → length vs ≤ length us
line_end_takes (at_newline {us = us} i) = skip_within us
line_end_takes (at_semicolon {us = us} i j) = omega (arith, skip_within us, skip_within (skip us))
line_end_takes (goes_on {us = us} i) = skip_within us

module _ (d : ℕ) where
  no_exprs : (ts : Tokens) → starts (first ts) ≡ false → reading.expr_list (reading.readers d) ts ≡ None
  no_exprs ts no_start = by (reading.expr_list (reading.readers d) ts) refl where
    begins : {e : Expr} {us : Tokens} → grammar.IsExprs e ts us → starts (first ts) ≡ true
    begins (grammar.an_expr q) = expr_starts q
    begins (grammar.several q i l) = expr_starts q

    by : (o : Read Expr) → reading.expr_list (reading.readers d) ts ≡ o → o ≡ None
    by None is = refl
    by (Some x) is = let start = begins (expr_list_sound (reading.readers d) (readers_sound d) ts x is) in absurd cc

  no_simple : (c : Context) (ts : Tokens) → ends (first ts) ≡ true → stmt_reading.simple (reading.readers d) c ts ≡ None
  unfolding stmt_reading.simple stmt_reading.expression_statement
  no_simple c ts over = by (first ts) refl over where
    by : (k : TokenKind) → k ≡ first ts → ends k ≡ true → stmt_reading.simple_by k (reading.readers d) c ts ≡ None
    by kind.Dedent is h = rw (no_exprs ts (ap starts (sym is))) refl
    by kind.End is h = rw (no_exprs ts (ap starts (sym is))) refl
    by _ is h = absurd cc

  item_short : (h : ℕ) (c : Context) (members : Bool) (ts : Tokens) (y : (Stmt × Bool) × Tokens) → stmt_reading.item_at (reading.readers d) h c members ts ≡ Ok y → length y.1 < length ts
  item_short h c members ts y e =
      let it = item_sound (reading.readers d) (readers_sound d) h c members ts y e in
      omega (arith, simple_takes it.spelled, line_end_takes it.ending)

  item_shrinks : (h : ℕ) (c : Context) (members : Bool) (ts : Tokens) → Shrinks ts (stmt_reading.item_at (reading.readers d) h c members ts)
  unfolding stmt_reading.item_at stmt_reading.simple_at
  item_shrinks h c members ts =
      shrinks_bind ts (within stmt_height (suc h) (stmt_reading.simple (reading.readers d) c ts) >>> λ x. cond (members && not (is_member x.0)) (Err None) (Ok x)) (λ x us. stmt_reading.separated (first us) x us)
      (shrinks_bind ts (within stmt_height (suc h) (stmt_reading.simple (reading.readers d) c ts)) (λ x us. cond (members && not (is_member x)) (Err None) (Ok (x, us)))
      (shrinks_within stmt_height (suc h) ts (stmt_reading.simple (reading.readers d) c ts) (λ x is. omega (arith, simple_takes (simple_sound (reading.readers d) (readers_sound d) c ts x is))))
      (λ x us. shrinks_cond us (members && not (is_member x)) (Err None) (Ok (x, us)) tt (omega arith)))
      (λ x us. separated_shrinks (first us) x us)

module _ (w : Rests) (closes : IsEnding w.ending) (d : ℕ) where
  separated_moves : (k : TokenKind) (x : Stmt) (b : Token) (bs : Tokens) → Crossed w (stmt_reading.separated k x (b ∷ (bs ++ w.ending))) (stmt_reading.separated k x (b ∷ (bs ++ w.others)))
  separated_moves kind.Newline x b bs = rest_of (x, false) bs
  separated_moves kind.Semicolon x b [] = rw w.begins (beyond (inl refl) (past_cond w.others (stmt_reading.is_newline (first w.others)) (Ok ((x, false), skip w.others)) (Ok ((x, true), w.others)) (skip_within w.others) (omega arith)))
  separated_moves kind.Semicolon x b (c ∷ bs) =
      crossed_cond (stmt_reading.is_newline c.kind) (Ok ((x, false), bs ++ w.ending)) (Ok ((x, true), c ∷ (bs ++ w.ending))) (Ok ((x, false), bs ++ w.others)) (Ok ((x, true), c ∷ (bs ++ w.others))) (rest_of (x, false) bs) (inside (x, true) c bs)
  separated_moves _ x b bs = refused

  item_then : (h : ℕ) (members : Bool) (o q : Read Stmt) → Follows w o q → Crossed w (item_of h members o) (item_of h members q)
  item_then h members None q fails = refused
  item_then h members (Some (x, us)) q (halts stuck) = refused_by (item_of h members (Some (x, us))) (item_of h members q) (item_stuck h members x us stuck)
  item_then h members _ _ (goes x b bs) = low (nat_le (stmt_height x) (suc h)) where
    member : (c : Bool) → Crossed w (cond c (Err None) (Ok (x, b ∷ (bs ++ w.ending))) >>> λ x. stmt_reading.separated (first x.1) x.0 x.1) (cond c (Err None) (Ok (x, b ∷ (bs ++ w.others))) >>> λ x. stmt_reading.separated (first x.1) x.0 x.1)
    member true = refused
    member false = separated_moves b.kind x b bs

    low : (c : Bool) → Crossed w ((cond c (Ok (x, b ∷ (bs ++ w.ending))) (Err None) >>> λ x. cond (members && not (is_member x.0)) (Err None) (Ok x)) >>> λ x. stmt_reading.separated (first x.1) x.0 x.1)
        ((cond c (Ok (x, b ∷ (bs ++ w.others))) (Err None) >>> λ x. cond (members && not (is_member x.0)) (Err None) (Ok x)) >>> λ x. stmt_reading.separated (first x.1) x.0 x.1)
    low true = member (members && not (is_member x))
    low false = refused

  module _ (h : ℕ) (c : Context) (members : Bool) where
    item_moves : (b : Token) (bs : Tokens) → Crossed w (stmt_reading.item_at (reading.readers d) h c members (b ∷ (bs ++ w.ending))) (stmt_reading.item_at (reading.readers d) h c members (b ∷ (bs ++ w.others)))
    unfolding stmt_reading.item_at stmt_reading.simple_at
    item_moves b bs = item_then h members (stmt_reading.simple (reading.readers d) c (b ∷ (bs ++ w.ending))) (stmt_reading.simple (reading.readers d) c (b ∷ (bs ++ w.others))) (simple_moves w d c b bs)

    item_over : LineOver (stmt_reading.item_at (reading.readers d) h c members w.ending)
    unfolding stmt_reading.item_at stmt_reading.simple_at stmt_reading.simple
    item_over = subst (λ (z : Tokens). LineOver (item_of h members (stmt_reading.simple_by (first z) (reading.readers d) c z))) (sym closes.parts) at_pass where
      at_pass : LineOver (item_of h members (stmt_reading.simple_by closes.pass.kind (reading.readers d) c (closes.pass ∷ closes.newline ∷ closes.rest)))
      at_pass = rw closes.is_pass (item_closed h members (stmt_tree.a_stmt closes.pass.line stmt_tree.pass) closes.newline closes.rest closes.is_newline closes.only_ends)

    -- the statements behind one on its line
    abbrev with_first : Stmt × Bool → Stmts → Tokens → Found Stmts
    with_first x xs us = Ok (stmt_tree.stmt x.0 xs, us)

    abbrev line_rest : ℕ → Stmt × Bool → Tokens → Found Stmts
    line_rest n x us = cond x.1 (stmt_reading.line_by n (reading.readers d) h c members us >>> λ xs. with_first x xs.0 xs.1) (Ok (one x.0, us))

    line_past : (n : ℕ) (ts : Tokens) → Past ts (stmt_reading.line_by n (reading.readers d) h c members ts)
    unfolding stmt_reading.line_by
    line_past zero ts = omega arith
    line_past (suc n) ts =
        past_bind ts (from ts (stmt_reading.item_at (reading.readers d) h c members ts)) (line_rest n) (from_past ts (stmt_reading.item_at (reading.readers d) h c members ts) (item_shrinks d h c members ts))
        (λ x us. past_cond us x.1 (stmt_reading.line_by n (reading.readers d) h c members us >>> λ xs. with_first x xs.0 xs.1) (Ok (one x.0, us)) (past_bind us (stmt_reading.line_by n (reading.readers d) h c members us) (with_first x) (line_past n us) (λ xs vs. omega arith)) (omega arith))

    rest_over : (n : ℕ) (ts : Tokens) (o : Found (Stmt × Bool)) → LineOver o → EndsOver w (from ts o >>> λ x. line_rest n x.0 x.1)
    rest_over n ts (Ok (x, us)) over = rw over.0 (inr over.1)
    rest_over n ts (Err None) over = tt
    rest_over n ts (Err (Some q)) over = tt

    line_ended : (n : ℕ) → EndsOver w (stmt_reading.line_by n (reading.readers d) h c members w.ending)
    unfolding stmt_reading.line_by
    line_ended zero = tt
    line_ended (suc n) = rest_over n w.ending (stmt_reading.item_at (reading.readers d) h c members w.ending) item_over

    line_none : (n : ℕ) (ts : Tokens) → ends (first ts) ≡ true → EndsOver w (stmt_reading.line_by n (reading.readers d) h c members ts)
    unfolding stmt_reading.line_by stmt_reading.item_at stmt_reading.simple_at
    line_none zero ts over = tt
    line_none (suc n) ts over = rw (no_simple d c ts over) tt

    line_over : (n : ℕ) (ts : Tokens) → Over w ts → EndsOver w (stmt_reading.line_by n (reading.readers d) h c members ts)
    line_over n ts (inl e) = subst (λ (z : Tokens). EndsOver w (stmt_reading.line_by n (reading.readers d) h c members z)) (sym e) (line_ended n)
    line_over n ts (inr only) = line_none n ts (only_first ts only)

    ends_cond : {A : Type 0} (b : Bool) (o q : Found A) → EndsOver w o → EndsOver w q → EndsOver w (cond b o q)
    ends_cond true o q i j = i
    ends_cond false o q i j = j

    line_moves : (n m : ℕ) (b : Token) (bs : Tokens) → length (b ∷ bs) < m → Crossed w (stmt_reading.line_by n (reading.readers d) h c members (b ∷ (bs ++ w.ending))) (stmt_reading.line_by m (reading.readers d) h c members (b ∷ (bs ++ w.others)))
    unfolding stmt_reading.line_by
    line_moves zero m b bs lt = refused
    line_moves (suc n) zero b bs lt = absurd (omega arith)
    line_moves (suc n) (suc m) b bs lt =
        crossed_bind (from (b ∷ (bs ++ w.ending)) (stmt_reading.item_at (reading.readers d) h c members (b ∷ (bs ++ w.ending)))) (from (b ∷ (bs ++ w.others)) (stmt_reading.item_at (reading.readers d) h c members (b ∷ (bs ++ w.others)))) (line_rest n) (line_rest m)
        (crossed_from (b ∷ (bs ++ w.ending)) (b ∷ (bs ++ w.others)) (stmt_reading.item_at (reading.readers d) h c members (b ∷ (bs ++ w.ending))) (stmt_reading.item_at (reading.readers d) h c members (b ∷ (bs ++ w.others))) (item_moves b bs))
        (λ x e es is.
        let less = item_short d h c members (b ∷ (bs ++ w.others)) (x, e ∷ (es ++ w.others)) (from_ok _ _ _ is) in
        let fewer : length (e ∷ es) < m = omega (arith, length-append es w.others, length-append bs w.others) in
        crossed_cond x.1 (stmt_reading.line_by n (reading.readers d) h c members (e ∷ (es ++ w.ending)) >>> λ xs. with_first x xs.0 xs.1) (Ok (one x.0, e ∷ (es ++ w.ending))) (stmt_reading.line_by m (reading.readers d) h c members (e ∷ (es ++ w.others)) >>> λ xs. with_first x xs.0 xs.1) (Ok (one x.0, e ∷ (es ++ w.others)))
        (crossed_bind (stmt_reading.line_by n (reading.readers d) h c members (e ∷ (es ++ w.ending))) (stmt_reading.line_by m (reading.readers d) h c members (e ∷ (es ++ w.others))) (with_first x) (with_first x) (line_moves n m e es fewer)
        (λ xs f fs is. inside (stmt_tree.stmt x.0 xs) f fs) (λ xs vs over. over) (λ xs vs. omega arith))
        (inside (one x.0) e es))
        (λ x us over. ends_cond x.1 (stmt_reading.line_by n (reading.readers d) h c members us >>> λ xs. with_first x xs.0 xs.1) (Ok (one x.0, us)) (ends_bind w (stmt_reading.line_by n (reading.readers d) h c members us) (with_first x) (line_over n us over) (λ xs vs over. over)) over)
        (λ x us. past_cond us x.1 (stmt_reading.line_by m (reading.readers d) h c members us >>> λ xs. with_first x xs.0 xs.1) (Ok (one x.0, us)) (past_bind us (stmt_reading.line_by m (reading.readers d) h c members us) (with_first x) (line_past m us) (λ xs vs. omega arith)) (omega arith))

    crosses_line : Crosses w (stmt_reading.line (reading.readers d) h c members)
    crosses_line = record { at = at_rest; shrinks = λ ts. past_shrinks ts (stmt_reading.line (reading.readers d) h c members ts) (line_past (suc (length ts)) ts) } where
      at_rest : (bs : Tokens) → Crossed w (stmt_reading.line (reading.readers d) h c members (bs ++ w.ending)) (stmt_reading.line (reading.readers d) h c members (bs ++ w.others))
      at_rest [] = beyond_by (stmt_reading.line (reading.readers d) h c members w.ending) (stmt_reading.line (reading.readers d) h c members w.others) (line_ended (suc (length w.ending))) (line_past (suc (length w.others)) w.others)
      at_rest (b ∷ bs) = line_moves (suc (length (b ∷ (bs ++ w.ending)))) (suc (length (b ∷ (bs ++ w.others)))) b bs (omega (arith, length-append bs w.others))

  -- ---- statements

  module _ (h : ℕ) (block : Blocks) (sound : BlocksSound h block) (crosses : (c : Context) (members : Bool) → Crosses w (block c members)) where
    a_compound : {f : Tokens → Found StmtForm} (at : Line) → Heads w f → Crosses w (λ us. stmt_reading.compound at (f us))
    a_compound at a = crosses_head (heads_bind a (λ x. trails_ok (one (stmt_tree.a_stmt at x))))

    no_member : {A : Type 0} {f : Tokens → Found A} (members : Bool) → Crosses w f → Crosses w (λ us. stmt_reading.no_member members (f us))
    no_member {f = f} members a = record {
      at = λ bs. crossed_cond members (Err None) (f (bs ++ w.ending)) (Err None) (f (bs ++ w.others)) refused (a.at bs);
      shrinks = λ ts. shrinks_cond ts members (Err None) (f ts) tt (a.shrinks ts);
    }

    -- what is read of a compound statement behind its word
    an_if : (c : Context) (members : Bool) (at : Line) → Crosses w (λ us. stmt_reading.no_member members (stmt_reading.compound at (stmt_reading.if_statement (reading.readers d) h (block c false) us)))
    an_if c members at = no_member members (a_compound at (heads_if w d h (block c false) (crosses c false)))

    a_while : (c : Context) (members : Bool) (at : Line) → Crosses w (λ us. stmt_reading.no_member members (stmt_reading.compound at (stmt_reading.while_statement (reading.readers d) h (block (in_loop c) false) us)))
    a_while c members at = no_member members (a_compound at (heads_while w d h (block (in_loop c) false) (crosses (in_loop c) false)))

    a_for : (c : Context) (members : Bool) (at : Line) → Crosses w (λ us. stmt_reading.no_member members (stmt_reading.compound at (stmt_reading.for_statement (reading.readers d) h (block (in_loop c) false) us)))
    a_for c members at = no_member members (a_compound at (heads_for w d h (block (in_loop c) false) (crosses (in_loop c) false)))

    a_try : (c : Context) (members : Bool) (at : Line) → Crosses w (λ us. stmt_reading.no_member members (stmt_reading.compound at (stmt_reading.try_statement (reading.readers d) h (block c false) (block (in_handler c) false) us)))
    a_try c members at = no_member members (a_compound at (heads_try w d h (block c false) (block (in_handler c) false) (crosses c false) (crosses (in_handler c) false)))

    a_def : (c : Context) (at : Line) → Crosses w (λ us. stmt_reading.compound at (stmt_reading.def_statement (reading.readers d) h (λ ps. block (in_function ps c) false) us))
    a_def c at = a_compound at (heads_def w d h (λ ps. crosses (in_function ps c) false))

    a_class : (c : Context) (members : Bool) (at : Line) → Crosses w (λ us. stmt_reading.no_member members (stmt_reading.compound at (stmt_reading.class_statement (block (in_class c) true) us)))
    a_class c members at = no_member members (a_compound at (heads_class w d h (crosses (in_class c) true)))

    module _ (c : Context) (members : Bool) where
      statement_from : (k : TokenKind) (b : Token) (bs : Tokens) → Crossed w (stmt_reading.statement_by k (reading.readers d) h c members block (b ∷ (bs ++ w.ending))) (stmt_reading.statement_by k (reading.readers d) h c members block (b ∷ (bs ++ w.others)))
      statement_from kind.If b bs = (an_if c members b.line).at bs
      statement_from kind.While b bs = (a_while c members b.line).at bs
      statement_from kind.For b bs = (a_for c members b.line).at bs
      statement_from kind.Try b bs = (a_try c members b.line).at bs
      statement_from kind.Def b bs = (a_def c b.line).at bs
      statement_from kind.Class b bs = (a_class c members b.line).at bs
      statement_from _ b bs = (crosses_line h c members).at (b ∷ bs)

      shrinks_by : (k : TokenKind) (ts : Tokens) → Shrinks ts (stmt_reading.statement_by k (reading.readers d) h c members block ts)
      shrinks_by kind.If ts = shrinks_later (skip ts) ts (stmt_reading.statement_by kind.If (reading.readers d) h c members block ts) (skip_within ts) ((an_if c members (line_at ts)).shrinks (skip ts))
      shrinks_by kind.While ts = shrinks_later (skip ts) ts (stmt_reading.statement_by kind.While (reading.readers d) h c members block ts) (skip_within ts) ((a_while c members (line_at ts)).shrinks (skip ts))
      shrinks_by kind.For ts = shrinks_later (skip ts) ts (stmt_reading.statement_by kind.For (reading.readers d) h c members block ts) (skip_within ts) ((a_for c members (line_at ts)).shrinks (skip ts))
      shrinks_by kind.Try ts = shrinks_later (skip ts) ts (stmt_reading.statement_by kind.Try (reading.readers d) h c members block ts) (skip_within ts) ((a_try c members (line_at ts)).shrinks (skip ts))
      shrinks_by kind.Def ts = shrinks_later (skip ts) ts (stmt_reading.statement_by kind.Def (reading.readers d) h c members block ts) (skip_within ts) ((a_def c (line_at ts)).shrinks (skip ts))
      shrinks_by kind.Class ts = shrinks_later (skip ts) ts (stmt_reading.statement_by kind.Class (reading.readers d) h c members block ts) (skip_within ts) ((a_class c members (line_at ts)).shrinks (skip ts))
      shrinks_by _ ts = (crosses_line h c members).shrinks ts

      statement_moves : (b : Token) (bs : Tokens) → Crossed w (stmt_reading.statement_at (reading.readers d) h c members block (b ∷ (bs ++ w.ending))) (stmt_reading.statement_at (reading.readers d) h c members block (b ∷ (bs ++ w.others)))
      unfolding stmt_reading.statement_at
      statement_moves b bs = statement_from b.kind b bs

      statement_shrinks : (ts : Tokens) → Shrinks ts (stmt_reading.statement_at (reading.readers d) h c members block ts)
      unfolding stmt_reading.statement_at
      statement_shrinks ts = shrinks_by (first ts) ts

      statement_ended : EndsOver w (stmt_reading.statement_at (reading.readers d) h c members block w.ending)
      unfolding stmt_reading.statement_at
      statement_ended = by (first w.ending) w.begins where
        by : (k : TokenKind) → k ≡ kind.Pass → EndsOver w (stmt_reading.statement_by k (reading.readers d) h c members block w.ending)
        by k is = rw is (line_ended h c members (suc (length w.ending)))

      statement_short : (ts : Tokens) (y : Stmts × Tokens) → stmt_reading.statement_at (reading.readers d) h c members block ts ≡ Ok y → length y.1 < length ts
      statement_short ts y e = statement_takes (statement_sound (reading.readers d) (readers_sound d) h block sound c members ts y e).spelled

      abbrev with_these : Stmts → Stmts → Tokens → Found Stmts
      with_these xs ys us = Ok (joined xs ys, us)

      abbrev further : ℕ → Stmts → Tokens → Found Stmts
      further n xs us = stmt_reading.statements_by n (reading.readers d) h c members block us >>> λ ys. with_these xs ys.0 ys.1

      statements_past : (n : ℕ) (ts : Tokens) → Past ts (stmt_reading.statements_by n (reading.readers d) h c members block ts)
      unfolding stmt_reading.statements_by
      statements_past zero ts = omega arith
      statements_past (suc n) ts =
          past_cond ts (ends (first ts)) (Ok (stmt_tree.no_stmts, ts)) (from ts (stmt_reading.statement_at (reading.readers d) h c members block ts) >>> λ xs. further n xs.0 xs.1) (omega arith)
          (past_bind ts (from ts (stmt_reading.statement_at (reading.readers d) h c members block ts)) (further n) (from_past ts (stmt_reading.statement_at (reading.readers d) h c members block ts) (statement_shrinks ts))
          (λ xs us. past_bind us (stmt_reading.statements_by n (reading.readers d) h c members block us) (with_these xs) (statements_past n us) (λ ys vs. omega arith)))

      statement_over : (ts : Tokens) → Over w ts → ends (first ts) ≡ false → EndsOver w (stmt_reading.statement_at (reading.readers d) h c members block ts)
      statement_over ts (inl e) more = subst (λ (z : Tokens). EndsOver w (stmt_reading.statement_at (reading.readers d) h c members block z)) (sym e) statement_ended
      statement_over ts (inr only) more = let over = only_first ts only in absurd cc

      over_by : (n : ℕ) (b : Bool) (ts : Tokens) → ends (first ts) ≡ b → Over w ts → ((us : Tokens) → Over w us → EndsOver w (stmt_reading.statements_by n (reading.readers d) h c members block us))
          → EndsOver w (cond b (Ok (stmt_tree.no_stmts, ts)) (from ts (stmt_reading.statement_at (reading.readers d) h c members block ts) >>> λ xs. further n xs.0 xs.1))
      over_by n true ts is over more = over
      over_by n false ts is over more =
          ends_bind w (from ts (stmt_reading.statement_at (reading.readers d) h c members block ts)) (further n) (ends_from w ts (stmt_reading.statement_at (reading.readers d) h c members block ts) (statement_over ts over is))
          (λ xs us over. ends_bind w (stmt_reading.statements_by n (reading.readers d) h c members block us) (with_these xs) (more us over) (λ ys vs over. over))

      statements_ended : (n : ℕ) (ts : Tokens) → Over w ts → EndsOver w (stmt_reading.statements_by n (reading.readers d) h c members block ts)
      unfolding stmt_reading.statements_by
      statements_ended zero ts over = tt
      statements_ended (suc n) ts over = over_by n (ends (first ts)) ts refl over (statements_ended n)

      statements_move : (n m : ℕ) (b : Token) (bs : Tokens) → length (b ∷ bs) < m → Crossed w (stmt_reading.statements_by n (reading.readers d) h c members block (b ∷ (bs ++ w.ending))) (stmt_reading.statements_by m (reading.readers d) h c members block (b ∷ (bs ++ w.others)))
      unfolding stmt_reading.statements_by
      statements_move zero m b bs lt = refused
      statements_move (suc n) zero b bs lt = absurd (omega arith)
      statements_move (suc n) (suc m) b bs lt =
          crossed_cond (ends b.kind) (Ok (stmt_tree.no_stmts, b ∷ (bs ++ w.ending))) (from (b ∷ (bs ++ w.ending)) (stmt_reading.statement_at (reading.readers d) h c members block (b ∷ (bs ++ w.ending))) >>> λ xs. further n xs.0 xs.1)
          (Ok (stmt_tree.no_stmts, b ∷ (bs ++ w.others))) (from (b ∷ (bs ++ w.others)) (stmt_reading.statement_at (reading.readers d) h c members block (b ∷ (bs ++ w.others))) >>> λ xs. further m xs.0 xs.1)
          (inside stmt_tree.no_stmts b bs)
          (crossed_bind (from (b ∷ (bs ++ w.ending)) (stmt_reading.statement_at (reading.readers d) h c members block (b ∷ (bs ++ w.ending)))) (from (b ∷ (bs ++ w.others)) (stmt_reading.statement_at (reading.readers d) h c members block (b ∷ (bs ++ w.others)))) (further n) (further m)
          (crossed_from (b ∷ (bs ++ w.ending)) (b ∷ (bs ++ w.others)) (stmt_reading.statement_at (reading.readers d) h c members block (b ∷ (bs ++ w.ending))) (stmt_reading.statement_at (reading.readers d) h c members block (b ∷ (bs ++ w.others))) (statement_moves b bs))
          (λ xs e es is.
          let less = statement_short (b ∷ (bs ++ w.others)) (xs, e ∷ (es ++ w.others)) (from_ok _ _ _ is) in
          let fewer : length (e ∷ es) < m = omega (arith, length-append es w.others, length-append bs w.others) in
          crossed_bind (stmt_reading.statements_by n (reading.readers d) h c members block (e ∷ (es ++ w.ending))) (stmt_reading.statements_by m (reading.readers d) h c members block (e ∷ (es ++ w.others))) (with_these xs) (with_these xs) (statements_move n m e es fewer)
          (λ ys f fs is. inside (joined xs ys) f fs) (λ ys vs over. over) (λ ys vs. omega arith))
          (λ xs us over. ends_bind w (stmt_reading.statements_by n (reading.readers d) h c members block us) (with_these xs) (statements_ended n us over) (λ ys vs over. over))
          (λ xs us. past_bind us (stmt_reading.statements_by m (reading.readers d) h c members block us) (with_these xs) (statements_past m us) (λ ys vs. omega arith)))

      trails_statements : Trails w (stmt_reading.statements (reading.readers d) h c members block)
      trails_statements = record {
        moves = λ b bs. statements_move (suc (length (b ∷ (bs ++ w.ending)))) (suc (length (b ∷ (bs ++ w.others)))) b bs (omega (arith, length-append bs w.others));
        ended = λ ts over. statements_ended (suc (length ts)) ts over;
        past = λ ts. statements_past (suc (length ts)) ts;
      }

      -- ---- blocks

      crosses_first : Crosses w (λ ts. from ts (stmt_reading.statement_at (reading.readers d) h c members block ts))
      crosses_first = crosses_from (stmt_reading.statement_at (reading.readers d) h c members block) statement_moves statement_ended statement_shrinks

      dedented_moves : (k : TokenKind) (xs : Stmts) (b : Token) (bs : Tokens) → Crossed w (stmt_reading.dedented k xs (b ∷ (bs ++ w.ending))) (stmt_reading.dedented k xs (b ∷ (bs ++ w.others)))
      dedented_moves kind.Dedent xs b bs = rest_of xs bs
      dedented_moves _ xs b bs = refused

      dedented_over : (k : TokenKind) (xs : Stmts) (ts : Tokens) → first ts ≡ k → Over w ts → EndsOver w (stmt_reading.dedented k xs ts)
      dedented_over kind.Dedent xs ts is (inl e) = let wrong : kind.Dedent ≡ kind.Pass = sym is ∙ ap first e ∙ w.begins in absurd cc
      dedented_over kind.Dedent xs ts is (inr only) = inr (only_skip ts only)
      dedented_over _ xs ts is over = tt

      dedented_past : (k : TokenKind) (xs : Stmts) (ts : Tokens) → Past ts (stmt_reading.dedented k xs ts)
      dedented_past kind.Dedent xs ts = skip_within ts
      dedented_past _ xs ts = omega arith

      trails_dedented : (xs : Stmts) → Trails w (λ ts. stmt_reading.dedented (first ts) xs ts)
      trails_dedented xs = record { moves = λ b bs. dedented_moves b.kind xs b bs; ended = λ ts over. dedented_over (first ts) xs ts refl over; past = λ ts. dedented_past (first ts) xs ts }

      crosses_indented : Crosses w (stmt_reading.indented (reading.readers d) h c members block)
      unfolding stmt_reading.indented
      crosses_indented = crosses_bind crosses_first (λ xs. trails_bind trails_statements (λ ys. trails_dedented (joined xs ys)))

      crosses_inner : Crosses w (expected stmt_reading.is_indent (stmt_reading.indented (reading.readers d) h c members block))
      crosses_inner = crosses_head (heads_expected stmt_reading.is_indent refl refl crosses_indented)

      block_from : (k : TokenKind) (b : Token) (bs : Tokens) → Crossed w (stmt_reading.block_by k (reading.readers d) h c members block (b ∷ (bs ++ w.ending))) (stmt_reading.block_by k (reading.readers d) h c members block (b ∷ (bs ++ w.others)))
      block_from kind.Newline b bs = crosses_inner.at bs
      block_from _ b bs = (crosses_line h c members).at (b ∷ bs)

      block_shrinks : (k : TokenKind) (ts : Tokens) → Shrinks ts (stmt_reading.block_by k (reading.readers d) h c members block ts)
      block_shrinks kind.Newline ts = shrinks_later (skip ts) ts (stmt_reading.block_by kind.Newline (reading.readers d) h c members block ts) (skip_within ts) (crosses_inner.shrinks (skip ts))
      block_shrinks _ ts = (crosses_line h c members).shrinks ts

      block_ended : EndsOver w (stmt_reading.block_by (first w.ending) (reading.readers d) h c members block w.ending)
      block_ended = by (first w.ending) w.begins where
        by : (k : TokenKind) → k ≡ kind.Pass → EndsOver w (stmt_reading.block_by k (reading.readers d) h c members block w.ending)
        by k is = rw is (line_ended h c members (suc (length w.ending)))

      crosses_block : Crosses w (λ ts. from ts (stmt_reading.block_by (first ts) (reading.readers d) h c members block ts))
      crosses_block = crosses_from (λ ts. stmt_reading.block_by (first ts) (reading.readers d) h c members block ts) (λ b bs. block_from b.kind b bs) block_ended (λ ts. block_shrinks (first ts) ts)

  crosses_blocks : (h : ℕ) (c : Context) (members : Bool) → Crosses w (stmt_reading.block_at (reading.readers d) h c members)
  unfolding stmt_reading.block_at
  crosses_blocks zero c members = record { at = λ bs. refused; shrinks = λ ts. tt }
  crosses_blocks (suc h) c members = crosses_block h (stmt_reading.block_at (reading.readers d) h) (block_sound (reading.readers d) (readers_sound d) h) (crosses_blocks h) c members

  -- ---- programs

  ended_moves : (k : TokenKind) (xs : Stmts) (b : Token) (bs : Tokens) → Crossed w (stmt_reading.ended k xs (b ∷ (bs ++ w.ending))) (stmt_reading.ended k xs (b ∷ (bs ++ w.others)))
  ended_moves kind.End xs b bs = by (length (b ∷ (bs ++ w.ending)) == 1) refl where
    by : (i : Bool) → (length (b ∷ (bs ++ w.ending)) == 1) ≡ i → Crossed w (cond i (Ok (xs, b ∷ (bs ++ w.ending))) (Err (Some (b ∷ (bs ++ w.ending))))) (stmt_reading.ended kind.End xs (b ∷ (bs ++ w.others)))
    by true is = absurd (omega (arith, eqb-true (length (b ∷ (bs ++ w.ending))) 1 is, length-append bs w.ending, ap length closes.parts))
    by false is = refused
  ended_moves _ xs b bs = refused

  ended_over : (k : TokenKind) (xs : Stmts) (ts : Tokens) → Over w ts → EndsOver w (stmt_reading.ended k xs ts)
  ended_over kind.End xs ts over = by (length ts == 1) where
    by : (i : Bool) → EndsOver w (cond i (Ok (xs, ts)) (Err (Some ts)))
    by true = over
    by false = tt
  ended_over _ xs ts over = tt

  ended_past : (k : TokenKind) (xs : Stmts) (ts : Tokens) → Past ts (stmt_reading.ended k xs ts)
  ended_past kind.End xs ts = past_cond ts (length ts == 1) (Ok (xs, ts)) (Err (Some ts)) (omega arith) (omega arith)
  ended_past _ xs ts = omega arith

  trails_ended : (xs : Stmts) → Trails w (λ ts. stmt_reading.ended (first ts) xs ts)
  trails_ended xs = record { moves = λ b bs. ended_moves b.kind xs b bs; ended = λ ts over. ended_over (first ts) xs ts over; past = λ ts. ended_past (first ts) xs ts }

  pub trails_program : (h : ℕ) → Trails w (stmt_reading.program_at (reading.readers d) h)
  unfolding stmt_reading.program_at
  trails_program h = trails_bind (trails_statements h (stmt_reading.block_at (reading.readers d) h) (block_sound (reading.readers d) (readers_sound d) h) (crosses_blocks h) top false) trails_ended
