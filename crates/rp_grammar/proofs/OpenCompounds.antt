-- The places within compound statements are open, and behind those that may go on.
use Rattle.std.proofs.Common.{◌≡◌, ℕ, suc, ◌≤◌, true, false, ◌∷◌, None, Ok, refl, sym, ap, subst, ◌∙◌, arith}
use Rattle.rp_base.specs.declared.value.Line.{Line}
use Rattle.rp_base.specs.declared.value.Name.{Name}
use Rattle.rp_token.specs.declared.token.TokenKind.TheVariants as kind
use Rattle.rp_tree.specs.Expressions as tree
use Rattle.rp_tree.specs.Expressions.{Named, Expr, Params}
use Rattle.rp_tree.specs.Heights.{expr_height, target_height, params_height}
use Rattle.rp_tree.specs.Statements as stmt_tree
use Rattle.rp_tree.specs.Statements.{StmtForm, Stmts, MaybeStmts, Branches, Except, Excepts}
use Rattle.rp_grammar.specs.Expressions as grammar
use Rattle.rp_grammar.specs.Expressions.{named, distinct, parameter_names, any}
use Rattle.rp_grammar.specs.Front.{is_in, is_right_paren}
use Rattle.rp_grammar.specs.Kinds.{Tokens, first, skip}
use Rattle.rp_grammar.specs.ExpressionReading as reading
use Rattle.rp_grammar.specs.ExpressionReading.{Readers}
use Rattle.rp_grammar.proofs.ExpressionMarks.{in_is, right_paren_is}
use Rattle.rp_grammar.proofs.ExpressionSound.{AreSound, expr_list_sound, target_sound}
use Rattle.rp_grammar.specs.Statements as stmt_grammar
use Rattle.rp_grammar.specs.Statements.{Context, in_loop, in_handler, in_class, in_function, is_member}
use Rattle.rp_grammar.specs.StatementReading as stmt_reading
use Rattle.rp_grammar.specs.StatementReading.{Found, ◌>>>◌}
use Rattle.rp_grammar.proofs.Again.{target_again, exprs_again, params_again}
use Rattle.rp_grammar.proofs.Founds.{within_ok}
use Rattle.rp_grammar.proofs.StatementMarks.{left_paren_is}
use Rattle.rp_grammar.proofs.Parts.{word, bases_again}
use Rattle.rp_grammar.proofs.StatementSound.{IsRead, IsTested, CompoundAt, tested_sound, elifs_sound, bases_sound, parameters_sound, name_sound}
use Rattle.rp_grammar.proofs.Opens.{Until, until_step, Opens, again_opens, behind_word, closing, Any, Tail, Then, then, statements_tail, Tells, reads, bind_tells, map_tells, cond_tells, within_tells, expected_tells, with_name_tells}
use Rattle.rp_grammar.proofs.OpenTails.{SomeSuite, BlockTells, BlockReads, suite_tells, ElseAt, ElifsAt, else_tail, elifs_tail, elifs_behind, else_tells, tested_again, tested_tells, elifs_tells}

-- statements, none or several, that stand behind a compound one
abbrev pub End : ℕ → Context → Tokens → Tokens → Type 0
End h c = Any (IsRead stmt_grammar.IsStatements (suc h) c false)

-- a compound statement, and statements behind it
pub data CompoundThen (h : ℕ) (c : Context) : Tokens → Tokens → Type 0 where
  compound_then : {form : StmtForm} {ts us vs : Tokens} → CompoundAt h c form ts us → End h c us vs → CompoundThen h c ts vs

-- ---- if

-- what may stand behind the first block of `if`
abbrev pub BehindIf : ℕ → Context → Tokens → Tokens → Type 0
BehindIf h c = Then Branches (ElifsAt h c) (Then MaybeStmts (ElseAt h c) (End h c))

if_tail : (h : ℕ) (c : Context) → Tail (BehindIf h c)
if_tail h c = elifs_tail h c (else_tail h c (statements_tail h c false))

if_made : {h : ℕ} {c : Context} {x : Expr × Stmts} {ts us vs : Tokens} → first ts ≡ kind.If → IsTested h c x (skip ts) us → BehindIf h c us vs → CompoundThen h c ts vs
if_made is t (then (p, elifs_low) (then (q, else_low) end)) =
    let test_low = t.test_low in
    let suite_low = t.suite_low in
    compound_then (stmt_grammar.is_if is t.test t.suite p q, omega arith) end

if_behind : {h : ℕ} {c : Context} {x : Expr × Stmts} {us q : Tokens} (ts : Tokens) → first ts ≡ kind.If → IsTested h c x (skip ts) us → Opens (BehindIf h c) us q → Opens (CompoundThen h c) ts q
if_behind {q = q} ts is front o =
    let (f, w, test) = tested_again o.dedents front o.until in
    let (x, w, is, l) = word (Until q o.dedents) (until_step q o.dedents) ts is refl w in
    again_opens o (x ∷ f) w (λ tail. if_made is (test (closing o.dedents tail)) (o.spelled tail))

module _ (rs : Readers) (inner : AreSound rs) (h : ℕ) (c : Context) (block : Tokens → Found Stmts) (sound : BlockReads h c block) (t : BlockTells h c false block) where
  pub if_tells : (ts : Tokens) → first ts ≡ kind.If → Tells (Opens (CompoundThen h c) ts) (stmt_reading.if_statement rs h block (skip ts))
  unfolding stmt_reading.if_statement
  if_tells ts is =
      bind_tells _ _ (map_tells (tested_tells rs inner h c block sound t (skip ts)) (λ q o. behind_word ts is refl o (λ us vs is l x. if_made is x.1 ((if_tail h c).none vs)))) (λ x found.
      let front = tested_sound rs inner h c block sound (skip ts) x found in
      bind_tells _ _ (map_tells (elifs_tells rs inner h c block sound t (Then MaybeStmts (ElseAt h c) (End h c)) (else_tail h c (statements_tail h c false)) _ x.1) (λ q o. if_behind ts is front o)) (λ bs found.
      let elifs = elifs_sound rs inner h c block sound _ x.1 bs found in
      bind_tells _ _ (map_tells (else_tells h c block t (End h c) (statements_tail h c false) bs.1) (λ q o. if_behind ts is front (elifs_behind elifs o))) (λ o found. reads)))

-- ---- while and for

while_made : {h : ℕ} {c : Context} {ts us : Tokens} → first ts ≡ kind.While → Any (IsTested h (in_loop c)) (skip ts) us → Any (CompoundAt h c) ts us
while_made is (x, t) =
    let test_low = t.test_low in
    let suite_low = t.suite_low in
    (stmt_tree.while x.0 x.1, (stmt_grammar.is_while is t.test t.suite, omega arith))

for_made : {h : ℕ} {c : Context} {p : tree.Target} {line : Line} {e : Expr} {ts us vs ws : Tokens} → first ts ≡ kind.For → grammar.IsTarget p line (skip ts) us → target_height p ≤ h → first us ≡ kind.In → grammar.IsExprs e (skip us) vs
    → expr_height e ≤ h → SomeSuite h (in_loop c) false vs ws → Any (CompoundAt h c) ts ws
for_made {p = p} {e = e} is target target_low comes q low (b, read) =
    let suite_low = read.low in
    (stmt_tree.for (tree.a_walk p e None) b, (stmt_grammar.is_for is target comes q read.spelled, omega arith))

module _ (rs : Readers) (inner : AreSound rs) (h : ℕ) (c : Context) (block : Tokens → Found Stmts) (sound : BlockReads h (in_loop c) block) (t : BlockTells h (in_loop c) false block) where
  pub while_tells : (ts : Tokens) → first ts ≡ kind.While → Tells (Opens (Any (CompoundAt h c)) ts) (stmt_reading.while_statement rs h block (skip ts))
  unfolding stmt_reading.while_statement
  while_tells ts is = bind_tells _ _ (map_tells (tested_tells rs inner h (in_loop c) block sound t (skip ts)) (λ q o. behind_word ts is refl o (λ us vs is l x. while_made is x))) (λ x found. reads)

  for_behind : {p : tree.Target} {line : Line} {e : Expr} {us vs q : Tokens} (ts : Tokens) → first ts ≡ kind.For → grammar.IsTarget p line (skip ts) us → target_height p ≤ h → first us ≡ kind.In → grammar.IsExprs e (skip us) vs
      → expr_height e ≤ h → Opens (SomeSuite h (in_loop c) false) vs q → Opens (Any (CompoundAt h c)) ts q
  for_behind {us = us} {q = q} ts is target target_low comes p low o =
      let (f, w, p) = exprs_again (Until q o.dedents) (λ x ts b i. until_step q o.dedents x ts b) p o.until in
      let (y, w, comes, m) = word (Until q o.dedents) (until_step q o.dedents) us comes refl w in
      let (f, w, target) = target_again (Until q o.dedents) (λ x ts b i. until_step q o.dedents x ts b) target w in
      let (x, w, is, l) = word (Until q o.dedents) (until_step q o.dedents) ts is refl w in
      again_opens o (x ∷ f) w (λ tail. for_made is (target (closing o.dedents tail)) target_low comes (p (closing o.dedents tail)) low (o.spelled tail))

  pub for_tells : (ts : Tokens) → first ts ≡ kind.For → Tells (Opens (Any (CompoundAt h c)) ts) (stmt_reading.for_statement rs h block (skip ts))
  unfolding stmt_reading.for_statement
  for_tells ts is =
      bind_tells _ _ (within_tells target_height h (reading.target rs (skip ts))) (λ x found.
      let (read, target_low) = within_ok target_height h _ x found in
      let (line, target) = target_sound rs inner (skip ts) x read in
      expected_tells is_in (λ us. stmt_reading.within expr_height h (reading.expr_list rs us) >>> λ e. stmt_reading.suite block e.1 >>> λ b. Ok (stmt_tree.for (tree.a_walk x.0 e.0 None) b.0, b.1)) x.1 (λ comes.
      bind_tells _ _ (within_tells expr_height h (reading.expr_list rs (skip x.1))) (λ v found.
      let (read, low) = within_ok expr_height h _ v found in
      bind_tells _ _ (map_tells (suite_tells h (in_loop c) false block t v.1) (λ q o. for_behind ts is target target_low (in_is _ comes) (expr_list_sound rs inner (skip x.1) v read) low o)) (λ b found. reads))))

-- ---- def and class

def_made : {h : ℕ} {c : Context} {n : Name} {ps : Params} {ts us vs : Tokens} → first ts ≡ kind.Def → first (skip ts) ≡ kind.Name n → first (skip (skip ts)) ≡ kind.LeftParen → grammar.IsParams any ps (skip (skip (skip ts))) us
    → distinct (parameter_names ps) ≡ true → params_height ps ≤ h → first us ≡ kind.RightParen → SomeSuite h (in_function ps c) false (skip us) vs → (f : Named) × (b : Stmts) × CompoundAt h c (stmt_tree.define 0 f ps b) ts vs
def_made {n = n} {ts = ts} is name opens p differ params_low closes (b, read) =
    let suite_low = read.low in
    (named n (skip ts), b, (stmt_grammar.is_def is name opens p differ closes read.spelled, omega arith))

-- a function definition is a member of a class
abbrev pub DefAt : ℕ → Context → Tokens → Tokens → Type 0
DefAt h c ts us = (f : Named) × (ps : Params) × (b : Stmts) × CompoundAt h c (stmt_tree.define 0 f ps b) ts us

def_behind : {h : ℕ} {c : Context} {n : Name} {ps : Params} {us q : Tokens} (ts : Tokens) → first ts ≡ kind.Def → first (skip ts) ≡ kind.Name n → first (skip (skip ts)) ≡ kind.LeftParen → grammar.IsParams any ps (skip (skip (skip ts))) us
    → distinct (parameter_names ps) ≡ true → params_height ps ≤ h → first us ≡ kind.RightParen → Opens (SomeSuite h (in_function ps c) false) (skip us) q → Opens (DefAt h c) ts q
def_behind {ps = ps} {us = us} {q = q} ts is name opens p differ low closes o =
    let (y, w, closes, m) = word (Until q o.dedents) (until_step q o.dedents) us closes refl o.until in
    let (f, w, p) = params_again (Until q o.dedents) (λ x ts b i. until_step q o.dedents x ts b) p w in
    let (z, w, opens, m) = word (Until q o.dedents) (until_step q o.dedents) (skip (skip ts)) opens refl w in
    let (y, w, name, m) = word (Until q o.dedents) (until_step q o.dedents) (skip ts) name refl w in
    let (x, w, is, l) = word (Until q o.dedents) (until_step q o.dedents) ts is refl w in
    again_opens o (x ∷ y ∷ z ∷ f) w (λ tail. let (f, b, d) = def_made is name opens (p (closing o.dedents tail)) differ low closes (o.spelled tail) in (f, ps, b, d))

class_made : {h : ℕ} {c : Context} {n : Name} {ts us vs : Tokens} → first ts ≡ kind.Class → first (skip ts) ≡ kind.Name n → stmt_grammar.IsEmptyBases (skip (skip ts)) us → SomeSuite h (in_class c) true us vs → Any (CompoundAt h c) ts vs
class_made {n = n} {ts = ts} is name bases (b, read) = (stmt_tree.class (named n (skip ts)) b, (stmt_grammar.is_class is name bases read.spelled (read.are_members refl), read.low))

class_behind : {h : ℕ} {c : Context} {n : Name} {us q : Tokens} (ts : Tokens) → first ts ≡ kind.Class → first (skip ts) ≡ kind.Name n → stmt_grammar.IsEmptyBases (skip (skip ts)) us → Opens (SomeSuite h (in_class c) true) us q
    → Opens (Any (CompoundAt h c)) ts q
class_behind {q = q} ts is name bases o =
    let (f, w, bases) = bases_again (Until q o.dedents) (until_step q o.dedents) bases o.until in
    let (y, w, name, m) = word (Until q o.dedents) (until_step q o.dedents) (skip ts) name refl w in
    let (x, w, is, l) = word (Until q o.dedents) (until_step q o.dedents) ts is refl w in
    again_opens o (x ∷ y ∷ f) w (λ tail. class_made is name (bases (closing o.dedents tail)) (o.spelled tail))

bases_tells : {O : Tokens → Type 0} (ts : Tokens) → Tells O (stmt_reading.bases ts)
unfolding stmt_reading.bases
bases_tells ts = cond_tells (stmt_reading.is_left_paren (first ts)) _ _ (λ opens. expected_tells is_right_paren (λ us. Ok (tt, us)) (skip ts) (λ closes. reads)) (λ none. reads)

pub class_tells : (h : ℕ) (c : Context) (block : Tokens → Found Stmts) → BlockTells h (in_class c) true block → (ts : Tokens) → first ts ≡ kind.Class → Tells (Opens (Any (CompoundAt h c)) ts) (stmt_reading.class_statement block (skip ts))
unfolding stmt_reading.class_statement
class_tells h c block t ts is =
    with_name_tells _ _ (λ n found.
    let (m, name, same, rest) = name_sound (skip ts) n found in
    bind_tells _ _ (bases_tells n.1) (λ x found.
    let bases : stmt_grammar.IsEmptyBases (skip (skip ts)) x.1 = subst (λ (z : Tokens). stmt_grammar.IsEmptyBases z x.1) (sym rest) (bases_sound n.1 x found) in
    bind_tells _ _ (map_tells (suite_tells h (in_class c) true block t x.1) (λ q o. class_behind ts is name bases o)) (λ b found. reads)))

pub def_tells : (rs : Readers) → AreSound rs → (h : ℕ) (c : Context) (block : Params → Tokens → Found Stmts) → ((ps : Params) → BlockTells h (in_function ps c) false (block ps)) → (ts : Tokens) → first ts ≡ kind.Def
    → Tells (Opens (DefAt h c) ts) (stmt_reading.def_statement rs h block (skip ts))
unfolding stmt_reading.def_statement
def_tells rs inner h c block t ts is =
    with_name_tells _ _ (λ n found.
    let (m, name, same, rest) = name_sound (skip ts) n found in
    expected_tells stmt_reading.is_left_paren (λ us. stmt_reading.within params_height h (stmt_reading.parameters rs us) >>> λ ps. stmt_reading.expected is_right_paren (stmt_reading.suite (block ps.0)) ps.1 >>> λ b. Ok (stmt_tree.define 0 n.0 ps.0 b.0, b.1)) n.1 (λ opens.
    bind_tells _ _ (within_tells params_height h (stmt_reading.parameters rs (skip n.1))) (λ ps found.
    let (read, low) = within_ok params_height h _ ps found in
    let (spelled, differ) = parameters_sound rs inner (skip n.1) ps read in
    let paren : first (skip (skip ts)) ≡ kind.LeftParen = ap first rest ∙ left_paren_is _ opens in
    let params : grammar.IsParams any ps.0 (skip (skip (skip ts))) ps.1 = subst (λ (z : Tokens). grammar.IsParams any ps.0 (skip z) ps.1) (sym rest) spelled in
    bind_tells _ _ (expected_tells is_right_paren (stmt_reading.suite (block ps.0)) ps.1 (λ closes. map_tells (suite_tells h (in_function ps.0 c) false (block ps.0) (t ps.0) (skip ps.1)) (λ q o. def_behind ts is name paren params differ low (right_paren_is _ closes) o)))
    (λ b found. reads))))
