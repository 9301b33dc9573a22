-- The place that reading a program tells is one at which a statement can begin: the front before it is good.
use Rattle.std.proofs.Common.{◌≡◌, ℕ, zero, suc, ◌==◌, Bool, true, false, cond, [], ◌∷◌, ◌++◌, length, replicate, Some, Ok, Err, refl, sym, ap, subst, arith}
use Rattle.std.proofs.lemmas.List.Sums.{sum_by-cons}
use Rattle.rp_base.specs.declared.value.Line.{Line}
use Rattle.rp_token.specs.declared.token.TokenKind.{TokenKind}
use Rattle.rp_token.specs.declared.token.TokenKind.TheVariants as kind
use Rattle.rp_tree.specs.Statements as stmt_tree
use Rattle.rp_tree.specs.Statements.{StmtForm, Stmts}
use Rattle.rp_grammar.specs.Kinds.{Tokens, first, line_at, skip}
use Rattle.rp_grammar.specs.ExpressionReading as reading
use Rattle.rp_grammar.specs.ExpressionReading.{Readers}
use Rattle.rp_grammar.proofs.ExpressionSound.{AreSound, readers_sound}
use Rattle.rp_grammar.specs.Statements as stmt_grammar
use Rattle.rp_grammar.specs.Statements.{Context, in_loop, in_handler, in_class, in_function, joined, one, top, are_members}
use Rattle.rp_grammar.specs.StatementReading as stmt_reading
use Rattle.rp_grammar.specs.StatementReading.{Found, ◌>>>◌, Blocks}
use Rattle.rp_grammar.specs.Program.{token, is_indent, IsGood}
use Rattle.rp_grammar.proofs.Founds.{from_ok}
use Rattle.rp_grammar.proofs.StatementMarks.{indent_is}
use Rattle.rp_grammar.proofs.Parts.{statement_again, statements_again}
use Rattle.rp_grammar.proofs.StatementSound.{IsRead, CompoundAt, BlocksSound, in_context, joined_height, joined_members, statement_sound, statements_sound, block_sound}
use Rattle.rp_grammar.proofs.Opens.{Until, until_step, Opens, opens_map, behind, Any, tail_here, pass_statement, no_statements, statements_tail, Tells, reads, silent, tells, bind_tells, map_tells, from_tells, cond_tells, expected_tells, told}
use Rattle.rp_grammar.proofs.OpenLines.{SomeLine, line_here, line_tells}
use Rattle.rp_grammar.proofs.OpenTails.{SomeBlock, BlockTells}
use Rattle.rp_grammar.proofs.OpenCompounds.{CompoundThen, compound_then, DefAt, if_tells, while_tells, for_tells, def_tells, class_tells}
use Rattle.rp_grammar.proofs.OpenTry.{try_tells}

-- statements, none or several
abbrev pub SomeStatements : ℕ → Context → Bool → Tokens → Tokens → Type 0
SomeStatements h c members = Any (IsRead stmt_grammar.IsStatements h c members)

-- statements, at least one
pub data Many (h : ℕ) (c : Context) (members : Bool) : Tokens → Tokens → Type 0 where
  many : {xs ys : Stmts} {ts us vs : Tokens} → IsRead stmt_grammar.IsStatement h c members xs ts us → IsRead stmt_grammar.IsStatements h c members ys us vs → Many h c members ts vs

pub many_here : (h : ℕ) (c : Context) (members : Bool) (ts : Tokens) → Opens (Many (suc h) c members) ts ts
many_here h c members ts = record { dedents = 0; front = []; until = record { parts = refl; enough = omega arith }; spelled = λ tail. many (pass_statement h c members tail) (no_statements (suc h) c members tail) }

many_statements : {h : ℕ} {c : Context} {members : Bool} {ts us : Tokens} → Many h c members ts us → SomeStatements h c members ts us
many_statements (many {xs = xs} {ys = ys} a b) =
    let low = a.low in
    let rest = b.low in
    (joined xs ys, record { spelled = stmt_grammar.more_statements a.spelled b.spelled; low = omega (arith, joined_height xs ys, low, rest); are_members = λ m. joined_members xs ys (a.are_members m) (b.are_members m) })

joined_twice : (xs ys zs : Stmts) → joined (joined xs ys) zs ≡ joined xs (joined ys zs)
joined_twice stmt_tree.no_stmts ys zs = refl
joined_twice (stmt_tree.stmt x xs) ys zs = ap (stmt_tree.stmt x) (joined_twice xs ys zs)

-- two lists of statements are one
statements_joined : {c : Context} {xs ys : Stmts} {ts us vs : Tokens} → stmt_grammar.IsStatements c xs ts us → stmt_grammar.IsStatements c ys us vs → stmt_grammar.IsStatements c (joined xs ys) ts vs
statements_joined stmt_grammar.no_statement q = q
statements_joined {c} {ys = zs} {ts = ts} {vs = vs} (stmt_grammar.more_statements {xs = xs} {ys = ys} p q) r = subst (λ (z : Stmts). stmt_grammar.IsStatements c z ts vs) (sym (joined_twice xs ys zs)) (stmt_grammar.more_statements p (statements_joined q r))

both_read : {h : ℕ} {c : Context} {members : Bool} {xs : Stmts} {ts us vs : Tokens} → IsRead stmt_grammar.IsStatements h c members xs ts us → SomeStatements h c members us vs → SomeStatements h c members ts vs
both_read {xs = xs} a (ys, b) =
    let low = a.low in
    let rest = b.low in
    (joined xs ys, record { spelled = statements_joined a.spelled b.spelled; low = omega (arith, joined_height xs ys, low, rest); are_members = λ m. joined_members xs ys (a.are_members m) (b.are_members m) })

-- a place behind a statement
many_behind : {h : ℕ} {c : Context} {members : Bool} {xs : Stmts} {ts us q : Tokens} → IsRead stmt_grammar.IsStatement h c members xs ts us → Opens (SomeStatements h c members) us q → Opens (Many h c members) ts q
many_behind a o =
    behind o (λ n b w. statement_again (Until _ n) (until_step _ n) a.spelled w) (λ ts us vs p rest. many (record { spelled = p; low = a.low; are_members = a.are_members }) rest.1)

-- a place behind statements
statements_behind : {h : ℕ} {c : Context} {members : Bool} {xs : Stmts} {ts us q : Tokens} → IsRead stmt_grammar.IsStatements h c members xs ts us → Opens (SomeStatements h c members) us q → Opens (SomeStatements h c members) ts q
statements_behind a o =
    behind o (λ n b w. statements_again (Until _ n) (until_step _ n) a.spelled w) (λ ts us vs p rest. both_read (record { spelled = p; low = a.low; are_members = a.are_members }) rest)

-- ---- statements

then_many : {h : ℕ} {c : Context} {ts us : Tokens} → CompoundThen h c ts us → Many (suc h) c false ts us
then_many (compound_then (p, low) (ys, end)) = many (record { spelled = stmt_grammar.a_compound p; low = omega (arith, low); are_members = λ m. absurd cc }) end

alone_many : {h : ℕ} {c : Context} {ts us : Tokens} → Any (CompoundAt h c) ts us → Many (suc h) c false ts us
alone_many {h} {c} {us = us} (form, p) = then_many (compound_then p (stmt_tree.no_stmts, no_statements (suc h) c false us))

def_many : {h : ℕ} {c : Context} {members : Bool} {ts us : Tokens} → DefAt h c ts us → Many (suc h) c members ts us
def_many {h} {c} {members} {us = us} (f, ps, b, p) =
    let low = p.1 in
    many (record { spelled = stmt_grammar.a_compound p.0; low = omega (arith, low); are_members = λ m. refl }) (no_statements (suc h) c members us)

line_many : {h : ℕ} {c : Context} {members : Bool} {ts us : Tokens} → SomeLine h c members ts us → Many h c members ts us
line_many {h} {c} {members} {us = us} (xs, l) = many (record { spelled = stmt_grammar.a_line l.spelled; low = l.low; are_members = l.are_members }) (no_statements h c members us)

no_member_tells : {A : Type 0} (O : Bool → Tokens → Type 0) (members : Bool) (found : Found A) → Tells (O false) found → Tells (O members) (stmt_reading.no_member members found)
no_member_tells O true found t = silent
no_member_tells O false found t = t

compound_tells : {O : Tokens → Type 0} (at : Line) (found : Found StmtForm) → Tells O found → Tells O (stmt_reading.compound at found)
compound_tells at found t = bind_tells found (λ x. Ok (one (stmt_tree.a_stmt at x.0), x.1)) t (λ x is. reads)

-- each place that a reader of blocks tells, in every context, is open
abbrev pub BlocksTell : ℕ → Blocks → Type 0
BlocksTell h block = (c : Context) (members : Bool) → BlockTells h c members (block c members)

module _ (rs : Readers) (inner : AreSound rs) (h : ℕ) (block : Blocks) (sound : BlocksSound h block) (t : BlocksTell h block) where
  abbrev Told : Context → Tokens → Bool → Tokens → Type 0
  Told c ts members q = Opens (Many (suc h) c members) ts q

  statement_by_tells : (c : Context) (members : Bool) (k : TokenKind) (ts : Tokens) → first ts ≡ k → Tells (Opens (Many (suc h) c members) ts) (stmt_reading.statement_by k rs h c members block ts)
  statement_by_tells c members kind.If ts is =
      no_member_tells (Told c ts) members _ (compound_tells (line_at ts) _ (map_tells (if_tells rs inner h c (block c false) (in_context h block sound c) (t c false) ts is) (λ q o. opens_map o (λ ts vs x. then_many x))))
  statement_by_tells c members kind.While ts is =
      no_member_tells (Told c ts) members _ (compound_tells (line_at ts) _ (map_tells (while_tells rs inner h c (block (in_loop c) false) (in_context h block sound (in_loop c)) (t (in_loop c) false) ts is) (λ q o. opens_map o (λ ts vs x. alone_many x))))
  statement_by_tells c members kind.For ts is =
      no_member_tells (Told c ts) members _ (compound_tells (line_at ts) _ (map_tells (for_tells rs inner h c (block (in_loop c) false) (in_context h block sound (in_loop c)) (t (in_loop c) false) ts is) (λ q o. opens_map o (λ ts vs x. alone_many x))))
  statement_by_tells c members kind.Try ts is =
      no_member_tells (Told c ts) members _ (compound_tells (line_at ts) _
      (map_tells (try_tells rs inner h c (block (in_handler c) false) (in_context h block sound (in_handler c)) (t (in_handler c) false) (block c false) (in_context h block sound c) (t c false) ts is) (λ q o. opens_map o (λ ts vs x. then_many x))))
  statement_by_tells c members kind.Def ts is = compound_tells (line_at ts) _ (map_tells (def_tells rs inner h c (λ ps. block (in_function ps c) false) (λ ps. t (in_function ps c) false) ts is) (λ q o. opens_map o (λ ts vs x. def_many x)))
  statement_by_tells c members kind.Class ts is =
      no_member_tells (Told c ts) members _ (compound_tells (line_at ts) _ (map_tells (class_tells h c (block (in_class c) true) (t (in_class c) true) ts is) (λ q o. opens_map o (λ ts vs x. alone_many x))))
  statement_by_tells c members _ ts is = map_tells (line_tells rs inner (suc (length ts)) h c members ts) (λ q o. opens_map o (λ ts vs x. line_many x))

  pub statement_tells : (c : Context) (members : Bool) (ts : Tokens) → Tells (Opens (Many (suc h) c members) ts) (stmt_reading.statement_at rs h c members block ts)
  unfolding stmt_reading.statement_at
  statement_tells c members ts = statement_by_tells c members (first ts) ts refl

  pub statements_tells : (n : ℕ) (c : Context) (members : Bool) (ts : Tokens) → Tells (Opens (SomeStatements (suc h) c members) ts) (stmt_reading.statements_by n rs h c members block ts)
  unfolding stmt_reading.statements_by
  statements_tells zero c members ts = tells (tail_here (statements_tail h c members) ts)
  statements_tells (suc n) c members ts =
      cond_tells (stmt_reading.ends (first ts)) _ _ (λ over. reads) (λ more.
      bind_tells _ _ (from_tells ts _ (map_tells (statement_tells c members ts) (λ q o. opens_map o (λ ts vs x. many_statements x))) (tail_here (statements_tail h c members) ts)) (λ xs found.
      let front = statement_sound rs inner h block sound c members ts xs (from_ok ts _ _ found) in
      bind_tells _ _ (map_tells (statements_tells n c members xs.1) (λ q o. opens_map (many_behind front o) (λ ts vs x. many_statements x))) (λ ys found. reads)))

  -- ---- blocks

  dedented_tells : {O : Tokens → Type 0} (k : TokenKind) (xs : Stmts) (ts : Tokens) → O ts → Tells O (stmt_reading.dedented k xs ts)
  dedented_tells kind.Dedent xs ts o = reads
  dedented_tells _ xs ts o = tells o

  indented_tells : (c : Context) (members : Bool) (ts : Tokens) → Tells (Opens (Many (suc h) c members) ts) (stmt_reading.indented rs h c members block ts)
  unfolding stmt_reading.indented
  indented_tells c members ts =
      bind_tells _ _ (from_tells ts _ (statement_tells c members ts) (many_here h c members ts)) (λ xs found.
      let front = statement_sound rs inner h block sound c members ts xs (from_ok ts _ _ found) in
      bind_tells _ _ (map_tells (statements_tells _ c members xs.1) (λ q o. many_behind front o)) (λ ys found.
      let rest = statements_sound rs inner h block sound _ c members xs.1 ys found in
      dedented_tells (first ys.1) (joined xs.0 ys.0) ys.1 (many_behind front (statements_behind rest (tail_here (statements_tail h c members) ys.1)))))

dedents_turned : (n : ℕ) (tail : Tokens) → replicate n (token kind.Dedent) ++ (token kind.Dedent ∷ tail) ≡ replicate (suc n) (token kind.Dedent) ++ tail
dedents_turned zero tail = refl
dedents_turned (suc n) tail = ap (λ (z : Tokens). token kind.Dedent ∷ z) (dedents_turned n tail)

block_made : {h : ℕ} {c : Context} {members : Bool} {ts us : Tokens} → first ts ≡ kind.Newline → first (skip ts) ≡ kind.Indent → Many h c members (skip (skip ts)) us → first us ≡ kind.Dedent → SomeBlock h c members ts (skip us)
block_made newline indent (many {xs = xs} {ys = ys} a b) dedent =
    let low = a.low in
    let rest = b.low in
    (joined xs ys, record { spelled = stmt_grammar.indented newline indent a.spelled b.spelled dedent; low = omega (arith, joined_height xs ys, low, rest); are_members = λ m. joined_members xs ys (a.are_members m) (b.are_members m) })

-- a block that is open is closed by one DEDENT more
block_opens : {h : ℕ} {c : Context} {members : Bool} {q : Tokens} (ts : Tokens) → first ts ≡ kind.Newline → first (skip ts) ≡ kind.Indent → Opens (Many h c members) (skip (skip ts)) q → Opens (SomeBlock h c members) ts q
block_opens [] newline indent o = absurd cc
block_opens (x ∷ []) newline indent o = absurd cc
block_opens {h} {c} {members} {q} (x ∷ y ∷ ts) newline indent o =
    let enough = o.until.enough in
    let counted : is_indent y ≡ true = rw indent refl in
    let one : ◌≡◌ {A = ℕ} (cond (is_indent y) 1 0) 1 = ap (λ (b : Bool). cond {A = ℕ} b 1 0) counted in
    record {
      dedents = suc o.dedents;
      front = x ∷ y ∷ o.front;
      until = record {
        parts = ap (λ (z : Tokens). x ∷ y ∷ z) o.until.parts;
        enough = omega (arith, enough, one, sum_by-cons (λ z. cond (is_indent z) 1 0) x (y ∷ o.front), sum_by-cons (λ z. cond (is_indent z) 1 0) y o.front);
      };
      spelled = λ tail.
          subst (λ (z : Tokens). SomeBlock h c members (x ∷ y ∷ (o.front ++ (token kind.Pass ∷ token kind.Newline ∷ z))) tail) (dedents_turned o.dedents tail) (block_made newline indent (o.spelled (token kind.Dedent ∷ tail)) refl);
    }

line_block : {h : ℕ} {c : Context} {members : Bool} {ts us : Tokens} → SomeLine h c members ts us → SomeBlock h c members ts us
line_block (xs, l) = (xs, record { spelled = stmt_grammar.one_line l.spelled; low = l.low; are_members = l.are_members })

module _ (rs : Readers) (inner : AreSound rs) (h : ℕ) (block : Blocks) (sound : BlocksSound h block) (t : BlocksTell h block) where
  block_by_tells : (k : TokenKind) (c : Context) (members : Bool) (ts : Tokens) → first ts ≡ k → Tells (Opens (SomeBlock (suc h) c members) ts) (stmt_reading.block_by k rs h c members block ts)
  block_by_tells kind.Newline c members ts is =
      expected_tells stmt_reading.is_indent (stmt_reading.indented rs h c members block) (skip ts) (λ indent. map_tells (indented_tells rs inner h block sound t c members (skip (skip ts))) (λ q o. block_opens ts is (indent_is _ indent) o))
  block_by_tells _ c members ts is = map_tells (line_tells rs inner (suc (length ts)) h c members ts) (λ q o. opens_map o (λ ts vs x. line_block x))

pub block_tells : (rs : Readers) → AreSound rs → (h : ℕ) → BlocksTell h (stmt_reading.block_at rs h)
unfolding stmt_reading.block_at
block_tells rs inner zero c members ts = silent
block_tells rs inner (suc h) c members ts =
    from_tells ts _ (block_by_tells rs inner h (stmt_reading.block_at rs h) (block_sound rs inner h) (block_tells rs inner h) (first ts) c members ts refl) (opens_map (line_here h c members ts) (λ ts vs x. line_block x))

-- ---- programs

ended_tells : {O : Tokens → Type 0} (k : TokenKind) (xs : Stmts) (ts : Tokens) → O ts → Tells O (stmt_reading.ended k xs ts)
ended_tells kind.End xs ts o = cond_tells (length ts == 1) _ _ (λ alone. reads) (λ other. tells o)
ended_tells _ xs ts o = tells o

pub program_tells : (rs : Readers) → AreSound rs → (h : ℕ) (ts : Tokens) → Tells (Opens (SomeStatements (suc h) top false) ts) (stmt_reading.program_at rs h ts)
unfolding stmt_reading.program_at
program_tells rs inner h ts =
    bind_tells _ _ (statements_tells rs inner h (stmt_reading.block_at rs h) (block_sound rs inner h) (block_tells rs inner h) _ top false ts) (λ xs found.
    let read = statements_sound rs inner h (stmt_reading.block_at rs h) (block_sound rs inner h) _ top false ts xs found in
    ended_tells (first xs.1) xs.0 xs.1 (statements_behind read (tail_here (statements_tail h top false) xs.1)))

-- the front before the place that is told is good
pub place_good : (d : ℕ) (ts q : Tokens) → stmt_reading.program_at (reading.readers d) 199 ts ≡ Err (Some q) → (front : Tokens) × (ts ≡ front ++ q) × IsGood front
place_good d ts q e =
    let o = told q (program_tells (reading.readers d) (readers_sound d) 199 ts) e in
    let (xs, read) = o.spelled (token kind.End ∷ []) in (
      o.front,
      o.until.parts,
      record {
        dedents = o.dedents;
        enough = o.until.enough;
        tree = xs;
        spelled = record { rest = token kind.End ∷ []; statements = read.spelled; ends = refl; alone = refl; low = read.low };
      },
    )
