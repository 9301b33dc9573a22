-- What is read of statements is spelled so, within the height and, in a class, by members alone.
use Rattle.std.proofs.Common.{◌≡◌, ℕ, zero, suc, ◌≤◌, ◌==◌, max, Bool, true, false, ◌&&◌, length, Some, None, Ok, refl, sym, ap, subst, ◌∙◌, inl, inr, arith}
use Rattle.std.proofs.lemmas.Bool.{and_parts, eqb-true}
use Rattle.rp_base.specs.declared.value.Line.{Line}
use Rattle.rp_token.specs.declared.token.TokenKind.{TokenKind}
use Rattle.rp_token.specs.declared.token.TokenKind.TheVariants as kind
use Rattle.rp_tree.specs.Expressions as tree
use Rattle.rp_tree.specs.Expressions.{Named, Expr, Params}
use Rattle.rp_tree.specs.Heights.{expr_height, target_height, params_height, stmt_height, stmt_form_height, stmts_height, maybe_stmts_height, branches_height, except_height, excepts_height}
use Rattle.rp_tree.specs.Statements as stmt_tree
use Rattle.rp_tree.specs.Statements.{Stmt, StmtForm, Stmts, MaybeStmts, Branches, Except, Excepts}
use Rattle.rp_grammar.specs.Kinds.{Tokens, first, line_at, skip}
use Rattle.rp_grammar.specs.Expressions as grammar
use Rattle.rp_grammar.specs.Expressions.{named, distinct, parameter_names, any}
use Rattle.rp_grammar.specs.Front.{is_colon, is_in, is_right_paren}
use Rattle.rp_grammar.specs.ExpressionReading as reading
use Rattle.rp_grammar.specs.ExpressionReading.{Read, Readers}
use Rattle.rp_grammar.proofs.ExpressionMarks.{colon_is, in_is, right_paren_is}
use Rattle.rp_grammar.proofs.Basics.{bind_some, some_is, chosen, tested}
use Rattle.rp_grammar.proofs.ExpressionSound.{AreSound, readers_sound, expr_sound, expr_list_sound, target_sound, params_sound}
use Rattle.rp_grammar.specs.Statements as stmt_grammar
use Rattle.rp_grammar.specs.Statements.{Context, in_loop, in_handler, in_class, in_function, is_member, are_members, joined, one, top}
use Rattle.rp_grammar.specs.Program.{Spells}
use Rattle.rp_grammar.specs.StatementReading as stmt_reading
use Rattle.rp_grammar.specs.StatementReading.{Found, ◌>>>◌, Blocks, within, expected, ends}
use Rattle.rp_grammar.proofs.StatementMarks.{newline_is, elif_is, else_is, finally_is, except_is, indent_is, left_paren_is}
use Rattle.rp_grammar.proofs.Founds.{ok_is, bind_ok, from_ok, hidden_ok, within_ok, expected_ok, no_member_ok, got_ok, member_ok}
pub use Rattle.rp_grammar.proofs.Simple.{simple_sound, name_sound}

-- ---- statements that are spelled, not higher than h, and members where members are wanted

pub record IsRead (P : Context → Stmts → Tokens → Tokens → Type 0) (h : ℕ) (c : Context) (members : Bool) (xs : Stmts) (ts us : Tokens) : Type 0 where
  pub spelled : P c xs ts us
  pub low : stmts_height xs ≤ h
  pub are_members : members ≡ true → stmt_grammar.are_members xs ≡ true

-- what a reader of blocks answers, in every context, is a block
abbrev pub BlocksSound : ℕ → Blocks → Type 0
BlocksSound h block = (c : Context) (members : Bool) (ts : Tokens) (y : Stmts × Tokens) → block c members ts ≡ Ok y → IsRead stmt_grammar.IsBlock h c members y.0 ts y.1

-- what a reader of blocks in one context answers is a block
abbrev pub BlockSound : ℕ → Context → (Tokens → Found Stmts) → Type 0
BlockSound h c block = (ts : Tokens) (y : Stmts × Tokens) → block ts ≡ Ok y → stmt_grammar.IsBlock c y.0 ts y.1 × (stmts_height y.0 ≤ h)

pub in_context : (h : ℕ) (block : Blocks) → BlocksSound h block → (c : Context) → BlockSound h c (block c false)
in_context h block sound c ts y e = let b = sound c false ts y e in (b.spelled, b.low)

pub joined_height : (xs ys : Stmts) → stmts_height (joined xs ys) ≡ max (stmts_height xs) (stmts_height ys)
joined_height stmt_tree.no_stmts ys = omega arith
joined_height (stmt_tree.stmt x xs) ys = let rest = joined_height xs ys in omega (arith, rest)

both_hold : (a b : Bool) → a ≡ true → b ≡ true → (a && b) ≡ true
both_hold true true h k = refl
both_hold true false h k = absurd cc
both_hold false b h k = absurd cc

pub joined_members : (xs ys : Stmts) → are_members xs ≡ true → are_members ys ≡ true → are_members (joined xs ys) ≡ true
joined_members stmt_tree.no_stmts ys h k = k
joined_members (stmt_tree.stmt x xs) ys h k = let (head, tail) = and_parts (is_member x) (are_members xs) h in both_hold (is_member x) (are_members (joined xs ys)) head (joined_members xs ys tail k)

pub one_member : (x : Stmt) → is_member x ≡ true → are_members (one x) ≡ true
one_member x h = both_hold (is_member x) true h refl

-- ---- lines

-- what stands behind a statement of a line, and whether another follows on the line
pub data LineEnd : Bool → Tokens → Tokens → Type 0 where
  at_newline : {us : Tokens} → first us ≡ kind.Newline → LineEnd false us (skip us)
  at_semicolon : {us : Tokens} → first us ≡ kind.Semicolon → first (skip us) ≡ kind.Newline → LineEnd false us (skip (skip us))
  goes_on : {us : Tokens} → first us ≡ kind.Semicolon → LineEnd true us (skip us)

-- a statement of a line, and what stands behind it
pub record IsItem (h : ℕ) (c : Context) (members : Bool) (x : Stmt × Bool) (ts vs : Tokens) : Type 0 where
  pub middle : Tokens
  pub spelled : stmt_grammar.IsSimple c x.0 ts middle
  pub low : stmt_height x.0 ≤ h
  pub is_member : members ≡ true → stmt_grammar.is_member x.0 ≡ true
  pub ending : LineEnd x.1 middle vs

pub separated_sound : (k : TokenKind) (x : Stmt) (us : Tokens) (y : (Stmt × Bool) × Tokens) → first us ≡ k → stmt_reading.separated k x us ≡ Ok y → (x ≡ y.0.0) × LineEnd y.0.1 us y.1
separated_sound kind.Newline x us y is e = got_ok (λ (z : Stmt × Bool) ts vs. (x ≡ z.0) × LineEnd z.1 ts vs) us e (refl, at_newline is)
separated_sound kind.Semicolon x us y is e =
    elim (chosen (stmt_reading.is_newline (first (skip us))) _ _ _ e) [
      | inl (newline, e) ↦ got_ok (λ (z : Stmt × Bool) ts vs. (x ≡ z.0) × LineEnd z.1 ts vs) us e (refl, at_semicolon is (newline_is _ newline))
      | inr (other, e) ↦ got_ok (λ (z : Stmt × Bool) ts vs. (x ≡ z.0) × LineEnd z.1 ts vs) us e (refl, goes_on is)
    ]
separated_sound _ x us y is e = absurd cc

last_of_line : (h : ℕ) (c : Context) (members : Bool) (x : Stmt) (ts us vs : Tokens) → stmt_grammar.IsSimple c x ts us → stmt_height x ≤ h → (members ≡ true → is_member x ≡ true) → LineEnd false us vs → IsRead stmt_grammar.IsLine h c members (one x) ts vs
last_of_line h c members x ts us vs q low member (at_newline is) = record { spelled = stmt_grammar.line_end q is; low = omega (arith, low); are_members = λ m. one_member x (member m) }
last_of_line h c members x ts us vs q low member (at_semicolon is newline) = record { spelled = stmt_grammar.line_semicolon q is newline; low = omega (arith, low); are_members = λ m. one_member x (member m) }

more_of_line : (h : ℕ) (c : Context) (members : Bool) (x : Stmt) (xs : Stmts) (ts us vs ws : Tokens) → stmt_grammar.IsSimple c x ts us → stmt_height x ≤ h → (members ≡ true → is_member x ≡ true) → LineEnd true us vs
    → IsRead stmt_grammar.IsLine h c members xs vs ws → IsRead stmt_grammar.IsLine h c members (stmt_tree.stmt x xs) ts ws
more_of_line h c members x xs ts us vs ws q low member (goes_on is) rest =
    let below = rest.low in
    record { spelled = stmt_grammar.line_more q is rest.spelled; low = omega (arith, low, below); are_members = λ m. both_hold (is_member x) (are_members xs) (member m) (rest.are_members m) }

module _ (rs : Readers) (inner : AreSound rs) where
  pub simple_at_sound : (h : ℕ) (c : Context) (members : Bool) (ts : Tokens) (y : Stmt × Tokens) → stmt_reading.simple_at rs h c members ts ≡ Ok y
      → stmt_grammar.IsSimple c y.0 ts y.1 × (stmt_height y.0 ≤ suc h) × (members ≡ true → is_member y.0 ≡ true)
  unfolding stmt_reading.simple_at
  simple_at_sound h c members ts y e =
      let (x, found, more) = bind_ok _ _ _ e in
      let (read, low) = within_ok stmt_height (suc h) (stmt_reading.simple rs c ts) x found in
      let (member, same) = member_ok members (is_member x.0) x y more in
      subst (λ (z : Stmt × Tokens). stmt_grammar.IsSimple c z.0 ts z.1 × (stmt_height z.0 ≤ suc h) × (members ≡ true → is_member z.0 ≡ true)) same (simple_sound rs inner c ts x read, low, member)

  pub item_sound : (h : ℕ) (c : Context) (members : Bool) (ts : Tokens) (y : (Stmt × Bool) × Tokens) → stmt_reading.item_at rs h c members ts ≡ Ok y → IsItem (suc h) c members y.0 ts y.1
  unfolding stmt_reading.item_at
  item_sound h c members ts y e =
      let (x, found, more) = bind_ok _ _ _ e in
      let (spelled, low, member) = simple_at_sound h c members ts x found in
      let (same, ending) = separated_sound (first x.1) x.0 x.1 y refl more in
      record {
        middle = x.1;
        spelled = subst (λ (z : Stmt). stmt_grammar.IsSimple c z ts x.1) same spelled;
        low = subst (λ (z : Stmt). stmt_height z ≤ suc h) same low;
        is_member = subst (λ (z : Stmt). members ≡ true → stmt_grammar.is_member z ≡ true) same member;
        ending = ending;
      }

  pub line_sound : (n h : ℕ) (c : Context) (members : Bool) (ts : Tokens) (y : Stmts × Tokens) → stmt_reading.line_by n rs h c members ts ≡ Ok y → IsRead stmt_grammar.IsLine (suc h) c members y.0 ts y.1
  unfolding stmt_reading.line_by
  line_sound zero h c members ts y e = absurd cc
  line_sound (suc n) h c members ts y e =
      let (x, found, more) = bind_ok _ _ _ e in
      let item = item_sound h c members ts x (from_ok ts _ _ found) in
      elim (chosen x.0.1 _ _ _ more) [
        | inl (goes, e) ↦
            let (xs, others, all) = bind_ok _ _ _ e in
            got_ok (IsRead stmt_grammar.IsLine (suc h) c members) ts all
            (more_of_line (suc h) c members x.0.0 xs.0 ts item.middle x.1 xs.1 item.spelled item.low item.is_member (subst (λ (b : Bool). LineEnd b item.middle x.1) goes item.ending) (line_sound n h c members x.1 xs others))
        | inr (over, e) ↦
            got_ok (IsRead stmt_grammar.IsLine (suc h) c members) ts e
            (last_of_line (suc h) c members x.0.0 ts item.middle x.1 item.spelled item.low item.is_member (subst (λ (b : Bool). LineEnd b item.middle x.1) over item.ending))
      ]

-- ---- blocks behind a colon

pub suite_sound : (h : ℕ) (c : Context) (block : Tokens → Found Stmts) → BlockSound h c block → (ts : Tokens) (y : Stmts × Tokens) → stmt_reading.suite block ts ≡ Ok y → stmt_grammar.IsSuite c y.0 ts y.1 × (stmts_height y.0 ≤ h)
suite_sound h c block sound ts y e =
    let (colon, read) = expected_ok is_colon block ts y e in
    let (spelled, low) = sound (skip ts) y read in
    (stmt_grammar.suite (colon_is _ colon) spelled, low)

-- a block that may be missing, behind its word
maybe_suite_sound : (h : ℕ) (c : Context) (is : TokenKind → Bool) (block : Tokens → Found Stmts) → BlockSound h c block → (P : MaybeStmts → Tokens → Tokens → Type 0) → ((ts : Tokens) → P stmt_tree.none ts ts)
    → ((ts us : Tokens) (b : Stmts) → is (first ts) ≡ true → stmt_grammar.IsSuite c b (skip ts) us → P (stmt_tree.some b) ts us) → (ts : Tokens) (y : MaybeStmts × Tokens) → stmt_reading.maybe_suite is block ts ≡ Ok y → P y.0 ts y.1 × (maybe_stmts_height y.0 ≤ h)
unfolding stmt_reading.maybe_suite
maybe_suite_sound h c is block sound P none some ts y e =
    elim (chosen (is (first ts)) _ _ _ e) [
      | inl (comes, e) ↦
          let (b, found, all) = bind_ok _ _ _ e in
          let (spelled, low) = suite_sound h c block sound (skip ts) b (from_ok ts _ _ found) in
          got_ok (λ (z : MaybeStmts) ts us. P z ts us × (maybe_stmts_height z ≤ h)) ts all (some ts b.1 b.0 comes spelled, low)
      | inr (missing, e) ↦ got_ok (λ (z : MaybeStmts) ts us. P z ts us × (maybe_stmts_height z ≤ h)) ts e (none ts, omega arith)
    ]

pub else_sound : (h : ℕ) (c : Context) (block : Tokens → Found Stmts) → BlockSound h c block → (ts : Tokens) (y : MaybeStmts × Tokens) → stmt_reading.maybe_suite stmt_reading.is_else block ts ≡ Ok y → stmt_grammar.IsElse c y.0 ts y.1 × (maybe_stmts_height y.0 ≤ h)
else_sound h c block sound ts y e = maybe_suite_sound h c stmt_reading.is_else block sound (stmt_grammar.IsElse c) (λ ts. stmt_grammar.no_else) (λ ts us b comes q. stmt_grammar.an_else (else_is _ comes) q) ts y e

pub finally_sound : (h : ℕ) (c : Context) (block : Tokens → Found Stmts) → BlockSound h c block → (ts : Tokens) (y : MaybeStmts × Tokens) → stmt_reading.maybe_suite stmt_reading.is_finally block ts ≡ Ok y → stmt_grammar.IsFinally c y.0 ts y.1 × (maybe_stmts_height y.0 ≤ h)
finally_sound h c block sound ts y e = maybe_suite_sound h c stmt_reading.is_finally block sound (stmt_grammar.IsFinally c) (λ ts. stmt_grammar.no_finally) (λ ts us b comes q. stmt_grammar.a_finally (finally_is _ comes) q) ts y e

-- ---- compound statements

-- a test and a block
pub record IsTested (h : ℕ) (c : Context) (x : Expr × Stmts) (ts vs : Tokens) : Type 0 where
  pub middle : Tokens
  pub test : grammar.IsExpr x.0 ts middle
  pub suite : stmt_grammar.IsSuite c x.1 middle vs
  pub test_low : expr_height x.0 ≤ h
  pub suite_low : stmts_height x.1 ≤ h

-- further handlers, where the last so far handles all or not
abbrev pub Further : Context → Bool → Excepts → Tokens → Tokens → Type 0
Further c true xs ts us = (xs ≡ stmt_tree.no_excepts) × (ts ≡ us)
Further c false xs ts us = stmt_grammar.IsHandlers c xs ts us

-- a handler before what may follow it
abbrev pub IsHandler : Context → Except × Bool → Tokens → Tokens → Type 0
IsHandler c x ts us = (xs : Excepts) (vs : Tokens) → Further c x.1 xs us vs → stmt_grammar.IsHandlers c (stmt_tree.except x.0 xs) ts vs

handles_all : (c : Context) (b : Stmts) (ts us : Tokens) → first ts ≡ kind.Except → stmt_grammar.IsSuite (in_handler c) b (skip ts) us → IsHandler c (stmt_tree.an_except None None b, true) ts us
handles_all c b ts us is q xs vs (none, here) =
    subst (λ (z : Excepts). stmt_grammar.IsHandlers c (stmt_tree.except (stmt_tree.an_except None None b) z) ts vs) (sym none) (subst (λ (z : Tokens). stmt_grammar.IsHandlers c (stmt_tree.except (stmt_tree.an_except None None b) stmt_tree.no_excepts) ts z) here (stmt_grammar.handles_all is q))

-- a compound statement that is read
abbrev pub CompoundAt : ℕ → Context → StmtForm → Tokens → Tokens → Type 0
CompoundAt h c form ts us = stmt_grammar.IsCompound c form ts us × (stmt_form_height form ≤ h)

pub bases_sound : (ts : Tokens) (y : Unit {0} × Tokens) → stmt_reading.bases ts ≡ Ok y → stmt_grammar.IsEmptyBases ts y.1
unfolding stmt_reading.bases
bases_sound ts y e =
    elim (chosen (stmt_reading.is_left_paren (first ts)) _ _ _ e) [
      | inl (comes, e) ↦
          let (closes, same) = expected_ok is_right_paren (λ us. Ok (tt, us)) (skip ts) y e in
          got_ok (λ (z : Unit {0}) ts us. stmt_grammar.IsEmptyBases ts us) ts same (stmt_grammar.empty_bases (left_paren_is _ comes) (right_paren_is _ closes))
      | inr (none, e) ↦ got_ok (λ (z : Unit {0}) ts us. stmt_grammar.IsEmptyBases ts us) ts e stmt_grammar.no_bases
    ]

with_name_ok : {A : Type 0} (more : Named → Tokens → Found A) (o : Read Named) (y : A × Tokens) → stmt_reading.with_name more o ≡ Ok y → (n : Named × Tokens) × (o ≡ Some n) × (more n.0 n.1 ≡ Ok y)
with_name_ok more None y e = absurd cc
with_name_ok more (Some n) y e = (n, refl, e)

-- behind `class`; its members are read as such
pub class_sound : (h : ℕ) (c : Context) (block : Tokens → Found Stmts) → ((ts : Tokens) (y : Stmts × Tokens) → block ts ≡ Ok y → IsRead stmt_grammar.IsBlock h (in_class c) true y.0 ts y.1) → (ts : Tokens) (y : StmtForm × Tokens)
    → first ts ≡ kind.Class → stmt_reading.class_statement block (skip ts) ≡ Ok y → CompoundAt h c y.0 ts y.1
unfolding stmt_reading.class_statement
class_sound h c block sound ts y is e =
    let (n, found, more) = with_name_ok _ _ _ e in
    let (m, name, same, rest) = name_sound (skip ts) n found in
    let (x, none, more) = bind_ok _ _ _ more in
    let (b, found, all) = bind_ok _ _ _ more in
    let (colon, read) = expected_ok is_colon block x.1 b found in
    let body = sound (skip x.1) b read in
    let empty : stmt_grammar.IsEmptyBases (skip (skip ts)) x.1 = subst (λ (z : Tokens). stmt_grammar.IsEmptyBases z x.1) (sym rest) (bases_sound n.1 x none) in
    let spelled = stmt_grammar.is_class is name empty (stmt_grammar.suite (colon_is _ colon) body.spelled) (body.are_members refl) in
    got_ok (CompoundAt h c) ts all (subst (λ (z : Named). CompoundAt h c (stmt_tree.class z b.0) ts b.1) same (spelled, body.low))

module _ (rs : Readers) (inner : AreSound rs) where
  module _ (h : ℕ) (c : Context) (block : Tokens → Found Stmts) (sound : (ts : Tokens) (y : Stmts × Tokens) → block ts ≡ Ok y → stmt_grammar.IsBlock c y.0 ts y.1 × (stmts_height y.0 ≤ h)) where
    pub tested_sound : (ts : Tokens) (y : (Expr × Stmts) × Tokens) → stmt_reading.tested rs h block ts ≡ Ok y → IsTested h c y.0 ts y.1
    unfolding stmt_reading.tested
    tested_sound ts y e =
        let (v, found, more) = bind_ok _ _ _ e in
        let (read, small) = within_ok expr_height h _ v found in
        let (b, found, all) = bind_ok _ _ _ more in
        let (spelled, low) = suite_sound h c block sound v.1 b found in
        got_ok (IsTested h c) ts all (record { middle = v.1; test = expr_sound rs inner ts v read; suite = spelled; test_low = small; suite_low = low })

    pub elifs_sound : (n : ℕ) (ts : Tokens) (y : Branches × Tokens) → stmt_reading.elifs_by n rs h block ts ≡ Ok y → stmt_grammar.IsElifs c y.0 ts y.1 × (branches_height y.0 ≤ h)
    unfolding stmt_reading.elifs_by
    elifs_sound zero ts y e = absurd cc
    elifs_sound (suc n) ts y e =
        elim (chosen (stmt_reading.is_elif (first ts)) _ _ _ e) [
          | inl (comes, e) ↦
              let (x, found, more) = bind_ok _ _ _ e in
              let front = tested_sound (skip ts) x (from_ok ts _ _ found) in
              let (bs, found, all) = bind_ok _ _ _ more in
              let (rest, low) = elifs_sound n x.1 bs found in
              let test_low = front.test_low in
              let suite_low = front.suite_low in
              got_ok (λ (z : Branches) ts us. stmt_grammar.IsElifs c z ts us × (branches_height z ≤ h)) ts all (stmt_grammar.an_elif (elif_is _ comes) front.test front.suite rest, omega arith)
          | inr (over, e) ↦ got_ok (λ (z : Branches) ts us. stmt_grammar.IsElifs c z ts us × (branches_height z ≤ h)) ts e (stmt_grammar.no_elif, omega arith)
        ]

    pub if_sound : (ts : Tokens) (y : StmtForm × Tokens) → first ts ≡ kind.If → stmt_reading.if_statement rs h block (skip ts) ≡ Ok y → CompoundAt h c y.0 ts y.1
    unfolding stmt_reading.if_statement
    if_sound ts y is e =
        let (x, found, more) = bind_ok _ _ _ e in
        let front = tested_sound (skip ts) x found in
        let (bs, found, more) = bind_ok _ _ _ more in
        let (others, low) = elifs_sound _ x.1 bs found in
        let (o, found, all) = bind_ok _ _ _ more in
        let (last, last_low) = else_sound h c block sound bs.1 o found in
        let test_low = front.test_low in
        let suite_low = front.suite_low in
        got_ok (CompoundAt h c) ts all (stmt_grammar.is_if is front.test front.suite others last, omega arith)

    -- behind the first handlers of `try`, and the handler alone
    module _ (handling : Tokens → Found Stmts) (sound_handling : (ts : Tokens) (y : Stmts × Tokens) → handling ts ≡ Ok y → stmt_grammar.IsBlock (in_handler c) y.0 ts y.1 × (stmts_height y.0 ≤ h)) where
      named_handler_sound : (k l : TokenKind) (e : Expr) (ts us : Tokens) (y : (Except × Bool) × Tokens) → first ts ≡ kind.Except → grammar.IsExpr e (skip ts) us → expr_height e ≤ h → first us ≡ k → first (skip us) ≡ l
          → stmt_reading.named_handler k l handling e us ≡ Ok y → IsHandler c y.0 ts y.1 × (except_height y.0.0 ≤ h)
      named_handler_sound kind.As (kind.Name n) e ts us y is q small comes name read =
          let (b, found, all) = bind_ok _ _ _ read in
          let (spelled, low) = suite_sound h (in_handler c) handling sound_handling (skip (skip us)) b found in
          got_ok (λ (z : Except × Bool) ts vs. IsHandler c z ts vs × (except_height z.0 ≤ h)) ts all ((λ xs vs further. stmt_grammar.handles_named is q comes name spelled further), omega arith)
      named_handler_sound kind.As _ e ts us y is q small comes name read = absurd cc
      named_handler_sound _ l e ts us y is q small comes name read =
          let (b, found, all) = bind_ok _ _ _ read in
          let (spelled, low) = suite_sound h (in_handler c) handling sound_handling us b found in
          got_ok (λ (z : Except × Bool) ts vs. IsHandler c z ts vs × (except_height z.0 ≤ h)) ts all ((λ xs vs further. stmt_grammar.handles is q spelled further), omega arith)

      handler_by_sound : (k : TokenKind) (ts : Tokens) (y : (Except × Bool) × Tokens) → first ts ≡ kind.Except → first (skip ts) ≡ k → stmt_reading.handler_by k rs h handling (skip ts) ≡ Ok y → IsHandler c y.0 ts y.1 × (except_height y.0.0 ≤ h)
      handler_by_sound kind.Colon ts y is colon e =
          let (b, found, all) = bind_ok _ _ _ e in
          let (spelled, low) = suite_sound h (in_handler c) handling sound_handling (skip ts) b found in
          got_ok (λ (z : Except × Bool) ts vs. IsHandler c z ts vs × (except_height z.0 ≤ h)) ts all (handles_all c b.0 ts b.1 is spelled, omega arith)
      handler_by_sound _ ts y is other e =
          let (v, found, more) = bind_ok _ _ _ e in
          let (read, small) = within_ok expr_height h _ v found in
          named_handler_sound (first v.1) (first (skip v.1)) v.0 ts v.1 y is (expr_sound rs inner (skip ts) v read) small refl refl more

      pub handler_sound : (ts : Tokens) (y : (Except × Bool) × Tokens) → first ts ≡ kind.Except → stmt_reading.handler rs h handling (skip ts) ≡ Ok y → IsHandler c y.0 ts y.1 × (except_height y.0.0 ≤ h)
      unfolding stmt_reading.handler
      handler_sound ts y is e = handler_by_sound (first (skip ts)) ts y is refl e

      pub handlers_sound : (n : ℕ) (all : Bool) (ts : Tokens) (y : Excepts × Tokens) → stmt_reading.handlers_by n rs h handling all ts ≡ Ok y → Further c all y.0 ts y.1 × (excepts_height y.0 ≤ h)
      unfolding stmt_reading.handlers_by
      handlers_sound zero all ts y e = absurd cc
      handlers_sound (suc n) true ts y e = got_ok (λ (z : Excepts) ts us. Further c true z ts us × (excepts_height z ≤ h)) ts e ((refl, refl), omega arith)
      handlers_sound (suc n) false ts y e =
          elim (chosen (stmt_reading.is_except (first ts)) _ _ _ e) [
            | inl (comes, e) ↦
                let (x, found, more) = bind_ok _ _ _ e in
                let (front, small) = handler_sound ts x (except_is _ comes) (from_ok ts _ _ found) in
                let (xs, found, all) = bind_ok _ _ _ more in
                let (rest, low) = handlers_sound n x.0.1 x.1 xs found in
                got_ok (λ (z : Excepts) ts us. stmt_grammar.IsHandlers c z ts us × (excepts_height z ≤ h)) ts all (front xs.0 xs.1 rest, omega arith)
            | inr (over, e) ↦ got_ok (λ (z : Excepts) ts us. stmt_grammar.IsHandlers c z ts us × (excepts_height z ≤ h)) ts e (stmt_grammar.no_handler, omega arith)
          ]

      behind_try_sound : (k : TokenKind) (b : Stmts) (ts us : Tokens) (y : StmtForm × Tokens) → first ts ≡ kind.Try → stmt_grammar.IsSuite c b (skip ts) us → stmts_height b ≤ h → first us ≡ k
          → stmt_reading.behind_try k rs h block handling b us ≡ Ok y → CompoundAt h c y.0 ts y.1
      behind_try_sound kind.Except b ts us y is body low comes e =
          let (x, found, more) = bind_ok _ _ _ e in
          let (front, small) = handler_sound us x comes found in
          let (xs, found, more) = bind_ok _ _ _ more in
          let (rest, rest_low) = handlers_sound _ x.0.1 x.1 xs found in
          let (o, found, more) = bind_ok _ _ _ more in
          let (other, other_low) = else_sound h c block sound xs.1 o found in
          let (l, found, all) = bind_ok _ _ _ more in
          let (last, last_low) = finally_sound h c block sound o.1 l found in
          got_ok (CompoundAt h c) ts all (stmt_grammar.is_try is body (front xs.0 xs.1 rest) other last, omega arith)
      behind_try_sound kind.Finally b ts us y is body low comes e =
          let (l, found, all) = bind_ok _ _ _ e in
          let (last, last_low) = suite_sound h c block sound (skip us) l found in
          got_ok (CompoundAt h c) ts all (stmt_grammar.is_try_finally is body (stmt_grammar.a_finally comes last), omega arith)
      behind_try_sound _ b ts us y is body low comes e = absurd cc

      pub try_sound : (ts : Tokens) (y : StmtForm × Tokens) → first ts ≡ kind.Try → stmt_reading.try_statement rs h block handling (skip ts) ≡ Ok y → CompoundAt h c y.0 ts y.1
      unfolding stmt_reading.try_statement
      try_sound ts y is e =
          let (b, found, more) = bind_ok _ _ _ e in
          let (body, low) = suite_sound h c block sound (skip ts) b (hidden_ok _ _ found) in
          behind_try_sound (first b.1) b.0 ts b.1 y is body low refl more

  -- behind `while`; the block stands in a loop
  pub while_sound : (h : ℕ) (c : Context) (block : Tokens → Found Stmts) → BlockSound h (in_loop c) block → (ts : Tokens) (y : StmtForm × Tokens) → first ts ≡ kind.While → stmt_reading.while_statement rs h block (skip ts) ≡ Ok y → CompoundAt h c y.0 ts y.1
  unfolding stmt_reading.while_statement
  while_sound h c block sound ts y is e =
      let (x, found, all) = bind_ok _ _ _ e in
      let front = tested_sound h (in_loop c) block sound (skip ts) x found in
      let test_low = front.test_low in
      let suite_low = front.suite_low in
      got_ok (CompoundAt h c) ts all (stmt_grammar.is_while is front.test front.suite, omega arith)

  -- behind `for`
  pub for_sound : (h : ℕ) (c : Context) (block : Tokens → Found Stmts) → BlockSound h (in_loop c) block → (ts : Tokens) (y : StmtForm × Tokens) → first ts ≡ kind.For → stmt_reading.for_statement rs h block (skip ts) ≡ Ok y → CompoundAt h c y.0 ts y.1
  unfolding stmt_reading.for_statement
  for_sound h c block sound ts y is e =
      let (q, found, more) = bind_ok _ _ _ e in
      let (read, small) = within_ok target_height h _ q found in
      let (line, target) = target_sound rs inner (skip ts) q read in
      let (comes, more) = expected_ok is_in (λ us. within expr_height h (reading.expr_list rs us) >>> λ e. stmt_reading.suite block e.1 >>> λ b. Ok (stmt_tree.for (tree.a_walk q.0 e.0 None) b.0, b.1)) q.1 y more in
      let (v, found, more) = bind_ok _ _ _ more in
      let (read, low) = within_ok expr_height h _ v found in
      let (b, found, all) = bind_ok _ _ _ more in
      let (body, body_low) = suite_sound h (in_loop c) block sound v.1 b found in
      got_ok (CompoundAt h c) ts all (stmt_grammar.is_for is target (in_is _ comes) (expr_list_sound rs inner (skip q.1) v read) body, omega arith)

  pub parameters_sound : (ts : Tokens) (y : Params × Tokens) → stmt_reading.parameters rs ts ≡ Some y → grammar.IsParams any y.0 ts y.1 × (distinct (parameter_names y.0) ≡ true)
  unfolding stmt_reading.parameters
  parameters_sound ts y e =
      let (ps, found, more) = bind_some _ _ _ e in
      let (differ, same) = tested (distinct (parameter_names ps.0)) _ _ more in
      subst (λ (z : Params × Tokens). grammar.IsParams any z.0 ts z.1 × (distinct (parameter_names z.0) ≡ true)) (some_is same) (params_sound rs inner ts ps found, differ)

  -- behind `def`; the block stands in a function of the parameters
  pub def_sound : (h : ℕ) (c : Context) (block : Params → Tokens → Found Stmts) → ((ps : Params) → BlockSound h (in_function ps c) (block ps)) → (ts : Tokens) (y : StmtForm × Tokens) → first ts ≡ kind.Def
      → stmt_reading.def_statement rs h block (skip ts) ≡ Ok y → CompoundAt h c y.0 ts y.1 × ((line : Line) → is_member (stmt_tree.a_stmt line y.0) ≡ true)
  unfolding stmt_reading.def_statement
  def_sound h c block sound ts y is e =
      let (n, found, more) = with_name_ok _ _ _ e in
      let (m, name, same, rest) = name_sound (skip ts) n found in
      let (opens, more) = expected_ok stmt_reading.is_left_paren (λ us. within params_height h (stmt_reading.parameters rs us) >>> λ ps. expected is_right_paren (stmt_reading.suite (block ps.0)) ps.1 >>> λ b. Ok (stmt_tree.define 0 n.0 ps.0 b.0, b.1)) n.1 y more in
      let (ps, found, more) = bind_ok _ _ _ more in
      let (read, small) = within_ok params_height h _ ps found in
      let (spelled, differ) = parameters_sound (skip n.1) ps read in
      let (b, found, all) = bind_ok _ _ _ more in
      let (closes, found) = expected_ok is_right_paren (stmt_reading.suite (block ps.0)) ps.1 b found in
      let (body, low) = suite_sound h (in_function ps.0 c) (block ps.0) (sound ps.0) (skip ps.1) b found in
      let paren : first (skip (skip ts)) ≡ kind.LeftParen = ap first rest ∙ left_paren_is _ opens in
      let params : grammar.IsParams any ps.0 (skip (skip (skip ts))) ps.1 = subst (λ (z : Tokens). grammar.IsParams any ps.0 (skip z) ps.1) (sym rest) spelled in
      let whole : CompoundAt h c (stmt_tree.define 0 (named m (skip ts)) ps.0 b.0) ts b.1 = (stmt_grammar.is_def is name paren params differ (right_paren_is _ closes) body, omega arith) in
      got_ok (λ (z : StmtForm) ts us. CompoundAt h c z ts us × ((line : Line) → is_member (stmt_tree.a_stmt line z) ≡ true)) ts all (subst (λ (z : Named). CompoundAt h c (stmt_tree.define 0 z ps.0 b.0) ts b.1) same whole, λ line. refl)

-- ---- statements

compound_ok : (at : Line) (found : Found StmtForm) (y : Stmts × Tokens) → stmt_reading.compound at found ≡ Ok y → (x : StmtForm × Tokens) × (found ≡ Ok x) × (◌≡◌ {A = Stmts × Tokens} (one (stmt_tree.a_stmt at x.0), x.1) y)
compound_ok at found y e = let (x, is, all) = bind_ok _ _ _ e in (x, is, ok_is all)

-- a compound statement is a statement; a member only where none is wanted
a_compound : (h : ℕ) (c : Context) (ts : Tokens) (x : StmtForm × Tokens) (y : Stmts × Tokens) → CompoundAt h c x.0 ts x.1 → ◌≡◌ {A = Stmts × Tokens} (one (stmt_tree.a_stmt (line_at ts) x.0), x.1) y → IsRead stmt_grammar.IsStatement (suc h) c false y.0 ts y.1
a_compound h c ts x y (spelled, low) same =
    subst (λ (z : Stmts × Tokens). IsRead stmt_grammar.IsStatement (suc h) c false z.0 ts z.1) same (record { spelled = stmt_grammar.a_compound spelled; low = omega (arith, low); are_members = λ m. absurd cc })

-- where none is wanted, what is read is read
no_member_read : (h : ℕ) (c : Context) (members : Bool) (ts : Tokens) (y : Stmts × Tokens) → members ≡ false → IsRead stmt_grammar.IsStatement h c false y.0 ts y.1 → IsRead stmt_grammar.IsStatement h c members y.0 ts y.1
no_member_read h c members ts y none read = subst (λ (b : Bool). IsRead stmt_grammar.IsStatement h c b y.0 ts y.1) (sym none) read

module _ (rs : Readers) (inner : AreSound rs) (h : ℕ) (block : Blocks) (sound : (c : Context) (members : Bool) (ts : Tokens) (y : Stmts × Tokens) → block c members ts ≡ Ok y → IsRead stmt_grammar.IsBlock h c members y.0 ts y.1) where
  if_statement_sound : (c : Context) (members : Bool) (ts : Tokens) (y : Stmts × Tokens) → first ts ≡ kind.If → stmt_reading.statement_by kind.If rs h c members block ts ≡ Ok y → IsRead stmt_grammar.IsStatement (suc h) c members y.0 ts y.1
  if_statement_sound c members ts y is e =
      let (none, e) = no_member_ok members _ y e in
      let (x, found, all) = compound_ok (line_at ts) _ y e in
      no_member_read (suc h) c members ts y none (a_compound h c ts x y (if_sound rs inner h c (block c false) (in_context h block sound c) ts x is found) all)

  while_statement_sound : (c : Context) (members : Bool) (ts : Tokens) (y : Stmts × Tokens) → first ts ≡ kind.While → stmt_reading.statement_by kind.While rs h c members block ts ≡ Ok y → IsRead stmt_grammar.IsStatement (suc h) c members y.0 ts y.1
  while_statement_sound c members ts y is e =
      let (none, e) = no_member_ok members _ y e in
      let (x, found, all) = compound_ok (line_at ts) _ y e in
      no_member_read (suc h) c members ts y none (a_compound h c ts x y (while_sound rs inner h c (block (in_loop c) false) (in_context h block sound (in_loop c)) ts x is found) all)

  for_statement_sound : (c : Context) (members : Bool) (ts : Tokens) (y : Stmts × Tokens) → first ts ≡ kind.For → stmt_reading.statement_by kind.For rs h c members block ts ≡ Ok y → IsRead stmt_grammar.IsStatement (suc h) c members y.0 ts y.1
  for_statement_sound c members ts y is e =
      let (none, e) = no_member_ok members _ y e in
      let (x, found, all) = compound_ok (line_at ts) _ y e in
      no_member_read (suc h) c members ts y none (a_compound h c ts x y (for_sound rs inner h c (block (in_loop c) false) (in_context h block sound (in_loop c)) ts x is found) all)

  try_statement_sound : (c : Context) (members : Bool) (ts : Tokens) (y : Stmts × Tokens) → first ts ≡ kind.Try → stmt_reading.statement_by kind.Try rs h c members block ts ≡ Ok y → IsRead stmt_grammar.IsStatement (suc h) c members y.0 ts y.1
  try_statement_sound c members ts y is e =
      let (none, e) = no_member_ok members _ y e in
      let (x, found, all) = compound_ok (line_at ts) _ y e in
      no_member_read (suc h) c members ts y none
      (a_compound h c ts x y (try_sound rs inner h c (block c false) (in_context h block sound c) (block (in_handler c) false) (in_context h block sound (in_handler c)) ts x is found) all)

  class_statement_sound : (c : Context) (members : Bool) (ts : Tokens) (y : Stmts × Tokens) → first ts ≡ kind.Class → stmt_reading.statement_by kind.Class rs h c members block ts ≡ Ok y → IsRead stmt_grammar.IsStatement (suc h) c members y.0 ts y.1
  class_statement_sound c members ts y is e =
      let (none, e) = no_member_ok members _ y e in
      let (x, found, all) = compound_ok (line_at ts) _ y e in
      no_member_read (suc h) c members ts y none (a_compound h c ts x y (class_sound h c (block (in_class c) true) (λ ts y e. sound (in_class c) true ts y e) ts x is found) all)

  def_statement_sound : (c : Context) (members : Bool) (ts : Tokens) (y : Stmts × Tokens) → first ts ≡ kind.Def → stmt_reading.statement_by kind.Def rs h c members block ts ≡ Ok y → IsRead stmt_grammar.IsStatement (suc h) c members y.0 ts y.1
  def_statement_sound c members ts y is e =
      let (x, found, all) = compound_ok (line_at ts) _ y e in
      let (whole, member) = def_sound rs inner h c (λ ps. block (in_function ps c) false) (λ ps. in_context h block sound (in_function ps c)) ts x is found in
      let (spelled, low) = whole in
      subst (λ (z : Stmts × Tokens). IsRead stmt_grammar.IsStatement (suc h) c members z.0 ts z.1) all
      (record { spelled = stmt_grammar.a_compound spelled; low = omega (arith, low); are_members = λ m. one_member (stmt_tree.a_stmt (line_at ts) x.0) (member (line_at ts)) })

  pub statement_by_sound : (c : Context) (members : Bool) (k : TokenKind) (ts : Tokens) (y : Stmts × Tokens) → first ts ≡ k → stmt_reading.statement_by k rs h c members block ts ≡ Ok y → IsRead stmt_grammar.IsStatement (suc h) c members y.0 ts y.1
  statement_by_sound c members kind.If ts y is e = if_statement_sound c members ts y is e
  statement_by_sound c members kind.While ts y is e = while_statement_sound c members ts y is e
  statement_by_sound c members kind.For ts y is e = for_statement_sound c members ts y is e
  statement_by_sound c members kind.Try ts y is e = try_statement_sound c members ts y is e
  statement_by_sound c members kind.Def ts y is e = def_statement_sound c members ts y is e
  statement_by_sound c members kind.Class ts y is e = class_statement_sound c members ts y is e
  statement_by_sound c members _ ts y is e = let l = line_sound rs inner (suc (length ts)) h c members ts y e in record { spelled = stmt_grammar.a_line l.spelled; low = l.low; are_members = l.are_members }

  pub statement_sound : (c : Context) (members : Bool) (ts : Tokens) (y : Stmts × Tokens) → stmt_reading.statement_at rs h c members block ts ≡ Ok y → IsRead stmt_grammar.IsStatement (suc h) c members y.0 ts y.1
  unfolding stmt_reading.statement_at
  statement_sound c members ts y e = statement_by_sound c members (first ts) ts y refl e

  pub statements_sound : (n : ℕ) (c : Context) (members : Bool) (ts : Tokens) (y : Stmts × Tokens) → stmt_reading.statements_by n rs h c members block ts ≡ Ok y → IsRead stmt_grammar.IsStatements (suc h) c members y.0 ts y.1
  unfolding stmt_reading.statements_by
  statements_sound zero c members ts y e = absurd cc
  statements_sound (suc n) c members ts y e =
      elim (chosen (ends (first ts)) _ _ _ e) [
        | inl (over, e) ↦ got_ok (IsRead stmt_grammar.IsStatements (suc h) c members) ts e (record { spelled = stmt_grammar.no_statement; low = omega arith; are_members = λ m. refl })
        | inr (more, e) ↦
            let (xs, found, more) = bind_ok _ _ _ e in
            let front = statement_sound c members ts xs (from_ok ts _ _ found) in
            let (ys, found, all) = bind_ok _ _ _ more in
            let rest = statements_sound n c members xs.1 ys found in
            got_ok (IsRead stmt_grammar.IsStatements (suc h) c members) ts all (both_read c members xs.0 ys.0 ts xs.1 ys.1 front rest)
      ]
    where
      both_read : (c : Context) (members : Bool) (xs ys : Stmts) (ts us vs : Tokens) → IsRead stmt_grammar.IsStatement (suc h) c members xs ts us → IsRead stmt_grammar.IsStatements (suc h) c members ys us vs → IsRead stmt_grammar.IsStatements (suc h) c members (joined xs ys) ts vs
      both_read c members xs ys ts us vs a b =
          let low = a.low in
          let rest = b.low in
          record { spelled = stmt_grammar.more_statements a.spelled b.spelled; low = omega (arith, joined_height xs ys, low, rest); are_members = λ m. joined_members xs ys (a.are_members m) (b.are_members m) }

  -- at NEWLINE and INDENT
  indented_sound : (c : Context) (members : Bool) (ts : Tokens) (y : Stmts × Tokens) → first ts ≡ kind.Newline → first (skip ts) ≡ kind.Indent → stmt_reading.indented rs h c members block (skip (skip ts)) ≡ Ok y → IsRead stmt_grammar.IsBlock (suc h) c members y.0 ts y.1
  unfolding stmt_reading.indented
  indented_sound c members ts y newline indent e =
      let ws = skip (skip ts) in
      let (xs, found, more) = bind_ok _ _ _ e in
      let front = statement_sound c members ws xs (from_ok ws _ _ found) in
      let (ys, found, more) = bind_ok _ _ _ more in
      let rest = statements_sound (suc (length xs.1)) c members xs.1 ys found in
      let (dedent, all) = dedented_ok (first ys.1) (joined xs.0 ys.0) ys.1 y more in
      let low = front.low in
      let rest_low = rest.low in
      subst (λ (z : Stmts × Tokens). IsRead stmt_grammar.IsBlock (suc h) c members z.0 ts z.1) all
      (record {
        spelled = stmt_grammar.indented newline indent front.spelled rest.spelled dedent;
        low = omega (arith, joined_height xs.0 ys.0, low, rest_low);
        are_members = λ m. joined_members xs.0 ys.0 (front.are_members m) (rest.are_members m);
      })
    where
      dedented_ok : (k : TokenKind) (xs : Stmts) (vs : Tokens) (y : Stmts × Tokens) → stmt_reading.dedented k xs vs ≡ Ok y → (k ≡ kind.Dedent) × (◌≡◌ {A = Stmts × Tokens} (xs, skip vs) y)
      dedented_ok kind.Dedent xs vs y e = (refl, ok_is e)
      dedented_ok _ xs vs y e = absurd cc

  block_by_sound : (k : TokenKind) (c : Context) (members : Bool) (ts : Tokens) (y : Stmts × Tokens) → first ts ≡ k → stmt_reading.block_by k rs h c members block ts ≡ Ok y → IsRead stmt_grammar.IsBlock (suc h) c members y.0 ts y.1
  block_by_sound kind.Newline c members ts y is e =
      let (indent, e) = expected_ok stmt_reading.is_indent (stmt_reading.indented rs h c members block) (skip ts) y e in
      indented_sound c members ts y is (indent_is _ indent) e
  block_by_sound _ c members ts y is e = let l = line_sound rs inner (suc (length ts)) h c members ts y e in record { spelled = stmt_grammar.one_line l.spelled; low = l.low; are_members = l.are_members }

-- ---- blocks and programs

pub block_sound : (rs : Readers) → AreSound rs → (h : ℕ) → BlocksSound h (stmt_reading.block_at rs h)
unfolding stmt_reading.block_at
block_sound rs inner zero c members ts y e = absurd cc
block_sound rs inner (suc h) c members ts y e = block_by_sound rs inner h (stmt_reading.block_at rs h) (block_sound rs inner h) (first ts) c members ts y refl (from_ok ts _ _ e)

-- a program that is read
pub record IsProgram (h : ℕ) (xs : Stmts) (ts us : Tokens) : Type 0 where
  pub spelled : stmt_grammar.IsStatements top xs ts us
  pub ends : first us ≡ kind.End
  pub alone : length us ≡ 1
  pub low : stmts_height xs ≤ h

ended_ok : (k : TokenKind) (xs : Stmts) (vs : Tokens) (y : Stmts × Tokens) → stmt_reading.ended k xs vs ≡ Ok y → (k ≡ kind.End) × (length vs ≡ 1) × (◌≡◌ {A = Stmts × Tokens} (xs, vs) y)
ended_ok kind.End xs vs y e =
    elim (chosen (length vs == 1) _ _ _ e) [
      | inl (one, e) ↦ (refl, eqb-true _ _ one, ok_is e)
      | inr (other, e) ↦ absurd cc
    ]
ended_ok _ xs vs y e = absurd cc

pub program_sound : (rs : Readers) → AreSound rs → (h : ℕ) (ts : Tokens) (y : Stmts × Tokens) → stmt_reading.program_at rs h ts ≡ Ok y → IsProgram (suc h) y.0 ts y.1
unfolding stmt_reading.program_at
program_sound rs inner h ts y e =
    let (xs, found, more) = bind_ok _ _ _ e in
    let read = statements_sound rs inner h (stmt_reading.block_at rs h) (block_sound rs inner h) (suc (length ts)) top false ts xs found in
    let (ends, one, all) = ended_ok (first xs.1) xs.0 xs.1 y more in
    subst (λ (z : Stmts × Tokens). IsProgram (suc h) z.0 ts z.1) all (record { spelled = read.spelled; ends = ends; alone = one; low = read.low })

-- a program that is read is spelled
pub program_spells : (d : ℕ) (ts : Tokens) (y : Stmts × Tokens) → stmt_reading.program_at (reading.readers d) 199 ts ≡ Ok y → Spells y.0 ts
program_spells d ts y e =
    let program = program_sound (reading.readers d) (readers_sound d) 199 ts y e in
    record { rest = y.1; statements = program.spelled; ends = program.ends; alone = program.alone; low = program.low }
