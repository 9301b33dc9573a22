-- Reading statements from left to right. What a reader answers is a value and the tokens behind it, or else the last place
-- at which a statement could begin within what it read, where there is one. Statements, and the parts of a compound statement that
-- may be missing, begin at such places; within the first block of `try` none counts, since that block alone is no statement.
-- A reader of compound statements takes the reader of the blocks within it, whose statements are lower by one.
use Rattle.std.specs.Prelude.{ℕ, zero, suc, nat_le, ◌==◌, ◌&&◌, not, if◌then◌else◌, Bool, true, false, List, [], ◌∷◌, length, Option, Some, None, Result, Ok, Err}
use Rattle.std.specs.List.{list_all}
use Rattle.rp_base.specs.declared.operator.BinOp.{BinOp}
use Rattle.rp_base.specs.declared.value.Line.{Line}
use Rattle.rp_base.specs.declared.value.Name.{Name}
use Rattle.rp_token.specs.declared.token.TokenKind.{TokenKind}
use Rattle.rp_token.specs.declared.token.TokenKind.TheVariants as kind
use Rattle.rp_tree.specs.Expressions as tree
use Rattle.rp_tree.specs.Expressions.{Named, Expr, Place, Target, Params}
use Rattle.rp_tree.specs.Heights.{expr_height, target_height, params_height, stmt_height}
use Rattle.rp_tree.specs.Statements as stmt_tree
use Rattle.rp_tree.specs.Statements.{Stmt, StmtForm, Stmts, MaybeStmts, Branches, Except, Excepts}
use Rattle.rp_grammar.specs.Kinds.{Tokens, first, line_at, skip, augmented_of}
use Rattle.rp_grammar.specs.Expressions.{line_of, named, distinct, parameter_names}
use Rattle.rp_grammar.specs.Conversion.{as_place, as_target}
use Rattle.rp_grammar.specs.Front.{is_comma, is_colon, is_equal, is_in, is_right_paren, starts}
pub use Rattle.rp_grammar.specs.Front.{is_else}
pub use Rattle.rp_token.specs.Laws.{is_indent}
use Rattle.rp_grammar.specs.ExpressionReading as read
use Rattle.rp_grammar.specs.ExpressionReading.{Read, Readers, after, at, behind, before, alike, all_many, all_listed, name_by, ◌>>=◌}
use Rattle.rp_grammar.specs.Statements.{Context, in_loop, in_handler, in_class, in_function, is_in_function, is_free, is_member, joined, one, top}

-- ---- simple statements, within which no statement begins

-- a place, which is read as a primary
unfoldable pub place : Readers → Tokens → Read Place
place r ts = read.primary r ts >>= λ e. as_place e.0 >>= λ p. Some (p, e.1)

-- places with commas between them, and a comma behind the last or not
unfoldable pub places : Readers → Tokens → Read (List Place)
places r ts = place r ts >>= λ p.
    if is_comma (first p.1) then before (λ ps. p.0 ∷ ps) (all_listed [] [] (λ p ps. p ∷ ps) starts (alike (place r)) tt (skip p.1))
    else Some (p.0 ∷ [], p.1)

-- names with commas between them
unfoldable pub names : Tokens → Read (List Named)
names ts = name_by (first ts) ts >>= λ n. before (λ ns. n.0 ∷ ns) (all_many [] (λ n ns. n ∷ ns) (at is_comma) (λ us. name_by (first (skip us)) (skip us)) n.1)

-- an expression list, where one begins
unfoldable pub maybe_exprs : Readers → Tokens → Read (Option Expr)
maybe_exprs r ts = if starts (first ts) then (read.expr_list r ts >>= λ e. Some (Some e.0, e.1)) else Some (None, ts)

-- an expression, where one begins
unfoldable pub maybe_expr : Readers → Tokens → Read (Option Expr)
maybe_expr r ts = if starts (first ts) then (read.expr r ts >>= λ e. Some (Some e.0, e.1)) else Some (None, ts)

-- behind `return`
unfoldable pub return : Readers → Context → Line → Tokens → Read Stmt
return r c line ts = if is_in_function c then (maybe_exprs r ts >>= λ e. Some (stmt_tree.a_stmt line (stmt_tree.give_back e.0), e.1)) else None

abbrev pub raised : Context → Line → Option Expr × Tokens → Read Stmt
raised c line (Some e, us) = Some (stmt_tree.a_stmt line (stmt_tree.raise (Some e)), us)
raised c line (None, us) = if c.handler then Some (stmt_tree.a_stmt line (stmt_tree.raise None), us) else None

-- behind `raise`
unfoldable pub raise : Readers → Context → Line → Tokens → Read Stmt
raise r c line ts = maybe_expr r ts >>= raised c line

-- behind `assert`
unfoldable pub assert : Readers → Line → Tokens → Read Stmt
assert r line ts = read.expr r ts >>= λ e.
    if is_comma (first e.1) then (read.expr r (skip e.1) >>= λ f. Some (stmt_tree.a_stmt line (stmt_tree.assert e.0 (Some f.0)), f.1))
    else Some (stmt_tree.a_stmt line (stmt_tree.assert e.0 None), e.1)

-- behind `global`
unfoldable pub global : Context → Line → Tokens → Read Stmt
global c line ts = if c.class then None else (names ts >>= λ ns. if list_all (is_free c.function) ns.0 then Some (stmt_tree.a_stmt line (stmt_tree.global ns.0), ns.1) else None)

-- behind `=`: further places, each with `=` behind it, and the value
unfoldable pub assigned_by : ℕ → Readers → Tokens → Read (List Place × Expr)
assigned_by zero r ts = None
assigned_by (suc n) r ts = read.expr_list r ts >>= λ e.
    if is_equal (first e.1) then (as_place e.0 >>= λ p. assigned_by n r (skip e.1) >>= λ x. Some ((p ∷ x.0.0, x.0.1), x.1))
    else Some (([], e.0), e.1)

abbrev pub assigned : Readers → Tokens → Read (List Place × Expr)
assigned r ts = assigned_by (suc (length ts)) r ts

-- behind an expression list and `=`: the target that it stands for is a place, and further places may follow, or a group
abbrev pub assignment_to : Readers → Line → Target → Tokens → Read Stmt
assignment_to r line (tree.to_place p) ts = assigned r ts >>= λ x. Some (stmt_tree.a_stmt line (stmt_tree.assign (p ∷ x.0.0) x.0.1), x.1)
assignment_to r line g ts = read.expr_list r ts >>= λ e. Some (stmt_tree.a_stmt line (stmt_tree.unpack g e.0 None), e.1)

unfoldable pub assignment : Readers → Expr → Tokens → Read Stmt
assignment r e ts = as_target e >>= λ g. assignment_to r (line_of e) g ts

-- behind an expression list, where a mark of augmented assignment comes
unfoldable pub augmented : Readers → BinOp → Expr → Tokens → Read Stmt
augmented r o e ts = as_place e >>= λ p. read.expr_list r (skip ts) >>= λ f. Some (stmt_tree.a_stmt (line_of e) (stmt_tree.aug p o (line_at ts) f.0 None), f.1)

abbrev pub behind_exprs : TokenKind → Option BinOp → Readers → Expr → Tokens → Read Stmt
behind_exprs k (Some o) r e ts = augmented r o e ts
behind_exprs kind.Equal None r e ts = assignment r e (skip ts)
behind_exprs k None r e ts = Some (stmt_tree.a_stmt (line_of e) (stmt_tree.evaluate e), ts)

-- what begins with an expression list
unfoldable pub expression_statement : Readers → Tokens → Read Stmt
expression_statement r ts = read.expr_list r ts >>= λ e. behind_exprs (first e.1) (augmented_of (first e.1)) r e.0 e.1

abbrev pub simple_by : TokenKind → Readers → Context → Tokens → Read Stmt
simple_by kind.Pass r c ts = Some (stmt_tree.a_stmt (line_at ts) stmt_tree.pass, skip ts)
simple_by kind.Break r c ts = if c.loop then Some (stmt_tree.a_stmt (line_at ts) stmt_tree.break, skip ts) else None
simple_by kind.Continue r c ts = if c.loop then Some (stmt_tree.a_stmt (line_at ts) stmt_tree.continue, skip ts) else None
simple_by kind.Return r c ts = return r c (line_at ts) (skip ts)
simple_by kind.Raise r c ts = raise r c (line_at ts) (skip ts)
simple_by kind.Assert r c ts = assert r (line_at ts) (skip ts)
simple_by kind.Global r c ts = global c (line_at ts) (skip ts)
simple_by kind.Del r c ts = places r (skip ts) >>= λ ps. Some (stmt_tree.a_stmt (line_at ts) (stmt_tree.del ps.0), ps.1)
simple_by _ r c ts = expression_statement r ts

unfoldable pub simple : Readers → Context → Tokens → Read Stmt
simple r c ts = simple_by (first ts) r c ts

-- ---- places at which a statement could begin

-- a value and the tokens behind it, or else the last such place within
abbrev pub Found : Type 0 → Type 0
Found A = Result (A × Tokens) (Option Tokens)

infixl 10 ◌>>>◌
abbrev pub ◌>>>◌ : {A B : Type 0} → Found A → (A × Tokens → Found B) → Found B
(Ok x) >>> f = f x
(Err p) >>> f = Err p

-- ts is a place, and what is read goes on from there
abbrev pub from : {A : Type 0} → Tokens → Found A → Found A
from ts (Ok x) = Ok x
from ts (Err None) = Err (Some ts)
from ts (Err (Some p)) = Err (Some p)

-- no place within counts
abbrev pub hidden : {A : Type 0} → Found A → Found A
hidden (Ok x) = Ok x
hidden (Err p) = Err None

-- what is read, where its height is at most h
abbrev pub within : {A : Type 0} → (A → ℕ) → ℕ → Read A → Found A
within height h None = Err None
within height h (Some x) = if nat_le (height x.0) h then Ok x else Err None

-- the tokens behind one of this kind
abbrev pub expected : {A : Type 0} → (TokenKind → Bool) → (Tokens → Found A) → Tokens → Found A
expected is more ts = if is (first ts) then more (skip ts) else Err None

-- what reads the blocks within, by the context that their statements stand in and whether they are members of a class
abbrev pub Blocks : Type 0
Blocks = Context → Bool → Tokens → Found Stmts

-- ---- lines of simple statements

-- a simple statement of height at most suc h; in the block of a class, a member
unfoldable pub simple_at : Readers → ℕ → Context → Bool → Tokens → Found Stmt
simple_at r h c members ts = within stmt_height (suc h) (simple r c ts) >>> λ x. if members && not (is_member x.0) then Err None else Ok x

abbrev pub is_newline : TokenKind → Bool
is_newline kind.Newline = true
is_newline _ = false

-- a statement and whether another follows on its line
abbrev pub separated : TokenKind → Stmt → Tokens → Found (Stmt × Bool)
separated kind.Newline x us = Ok ((x, false), skip us)
separated kind.Semicolon x us = if is_newline (first (skip us)) then Ok ((x, false), skip (skip us)) else Ok ((x, true), skip us)
separated _ x us = Err None

unfoldable pub item_at : Readers → ℕ → Context → Bool → Tokens → Found (Stmt × Bool)
item_at r h c members ts = simple_at r h c members ts >>> λ x. separated (first x.1) x.0 x.1

-- the statements of a line, of height at most suc h, in at most so many turns
unfoldable pub line_by : ℕ → Readers → ℕ → Context → Bool → Tokens → Found Stmts
line_by zero r h c members ts = Err (Some ts)
line_by (suc n) r h c members ts = from ts (item_at r h c members ts) >>> λ x.
    if x.0.1 then (line_by n r h c members x.1 >>> λ xs. Ok (stmt_tree.stmt x.0.0 xs.0, xs.1)) else Ok (one x.0.0, x.1)

abbrev pub line : Readers → ℕ → Context → Bool → Tokens → Found Stmts
line r h c members ts = line_by (suc (length ts)) r h c members ts

-- ---- compound statements, whose expressions and blocks have height at most h

abbrev pub suite : (Tokens → Found Stmts) → Tokens → Found Stmts
suite block ts = expected is_colon block ts

-- behind `if`, `elif` or `while`: a test and a block
unfoldable pub tested : Readers → ℕ → (Tokens → Found Stmts) → Tokens → Found (Expr × Stmts)
tested r h block ts = within expr_height h (read.expr r ts) >>> λ e. suite block e.1 >>> λ b. Ok ((e.0, b.0), b.1)

abbrev pub is_elif : TokenKind → Bool
is_elif kind.Elif = true
is_elif _ = false

unfoldable pub elifs_by : ℕ → Readers → ℕ → (Tokens → Found Stmts) → Tokens → Found Branches
elifs_by zero r h block ts = Err (Some ts)
elifs_by (suc n) r h block ts =
    if is_elif (first ts) then (from ts (tested r h block (skip ts)) >>> λ x. elifs_by n r h block x.1 >>> λ bs. Ok (stmt_tree.branch x.0.0 x.0.1 bs.0, bs.1))
    else Ok (stmt_tree.no_branches, ts)

abbrev pub elifs : Readers → ℕ → (Tokens → Found Stmts) → Tokens → Found Branches
elifs r h block ts = elifs_by (suc (length ts)) r h block ts

-- a block behind a word that may be missing
unfoldable pub maybe_suite : (TokenKind → Bool) → (Tokens → Found Stmts) → Tokens → Found MaybeStmts
maybe_suite is block ts = if is (first ts) then (from ts (suite block (skip ts)) >>> λ b. Ok (stmt_tree.some b.0, b.1)) else Ok (stmt_tree.none, ts)

abbrev pub is_finally : TokenKind → Bool
is_finally kind.Finally = true
is_finally _ = false

-- behind `if`
unfoldable pub if_statement : Readers → ℕ → (Tokens → Found Stmts) → Tokens → Found StmtForm
if_statement r h block ts = tested r h block ts >>> λ x. elifs r h block x.1 >>> λ bs. maybe_suite is_else block bs.1 >>> λ o.
    Ok (stmt_tree.choose (stmt_tree.branch x.0.0 x.0.1 bs.0) o.0, o.1)

-- behind `while`
unfoldable pub while_statement : Readers → ℕ → (Tokens → Found Stmts) → Tokens → Found StmtForm
while_statement r h block ts = tested r h block ts >>> λ x. Ok (stmt_tree.while x.0.0 x.0.1, x.1)

-- behind `for`
unfoldable pub for_statement : Readers → ℕ → (Tokens → Found Stmts) → Tokens → Found StmtForm
for_statement r h block ts = within target_height h (read.target r ts) >>> λ p. expected is_in (λ us.
    within expr_height h (read.expr_list r us) >>> λ e. suite block e.1 >>> λ b. Ok (stmt_tree.for (tree.a_walk p.0 e.0 None) b.0, b.1)) p.1

-- behind the expression of a handler, by the two tokens that come: 'as' and a name, or neither
abbrev pub named_handler : TokenKind → TokenKind → (Tokens → Found Stmts) → Expr → Tokens → Found (Except × Bool)
named_handler kind.As (kind.Name n) block e us = suite block (skip (skip us)) >>> λ b. Ok ((stmt_tree.an_except (Some e) (Some (named n (skip us))) b.0, false), b.1)
named_handler kind.As _ block e us = Err None
named_handler _ l block e us = suite block us >>> λ b. Ok ((stmt_tree.an_except (Some e) None b.0, false), b.1)

-- behind `except`: a handler, and whether it handles all
abbrev pub handler_by : TokenKind → Readers → ℕ → (Tokens → Found Stmts) → Tokens → Found (Except × Bool)
handler_by kind.Colon r h block ts = suite block ts >>> λ b. Ok ((stmt_tree.an_except None None b.0, true), b.1)
handler_by _ r h block ts = within expr_height h (read.expr r ts) >>> λ e. named_handler (first e.1) (first (skip e.1)) block e.0 e.1

unfoldable pub handler : Readers → ℕ → (Tokens → Found Stmts) → Tokens → Found (Except × Bool)
handler r h block ts = handler_by (first ts) r h block ts

abbrev pub is_except : TokenKind → Bool
is_except kind.Except = true
is_except _ = false

-- further handlers, where the last so far does not handle all
unfoldable pub handlers_by : ℕ → Readers → ℕ → (Tokens → Found Stmts) → Bool → Tokens → Found Excepts
handlers_by zero r h block all ts = Err (Some ts)
handlers_by (suc n) r h block all ts =
    if not all && is_except (first ts) then (from ts (handler r h block (skip ts)) >>> λ x. handlers_by n r h block x.0.1 x.1 >>> λ xs. Ok (stmt_tree.except x.0.0 xs.0, xs.1))
    else Ok (stmt_tree.no_excepts, ts)

abbrev pub handlers : Readers → ℕ → (Tokens → Found Stmts) → Bool → Tokens → Found Excepts
handlers r h block all ts = handlers_by (suc (length ts)) r h block all ts

-- behind the first block of `try`: handlers, or a last block alone
abbrev pub behind_try : TokenKind → Readers → ℕ → (Tokens → Found Stmts) → (Tokens → Found Stmts) → Stmts → Tokens → Found StmtForm
behind_try kind.Except r h block handling b ts = handler r h handling (skip ts) >>> λ x. handlers r h handling x.0.1 x.1 >>> λ xs.
    maybe_suite is_else block xs.1 >>> λ o. maybe_suite is_finally block o.1 >>> λ l. Ok (stmt_tree.try b (stmt_tree.except x.0.0 xs.0) o.0 l.0, l.1)
behind_try kind.Finally r h block handling b ts = suite block (skip ts) >>> λ l. Ok (stmt_tree.try b stmt_tree.no_excepts stmt_tree.none (stmt_tree.some l.0), l.1)
behind_try _ r h block handling b ts = Err None

-- behind `try`
unfoldable pub try_statement : Readers → ℕ → (Tokens → Found Stmts) → (Tokens → Found Stmts) → Tokens → Found StmtForm
try_statement r h block handling ts = hidden (suite block ts) >>> λ b. behind_try (first b.1) r h block handling b.0 b.1

-- parameters whose names differ
unfoldable pub parameters : Readers → Tokens → Read Params
parameters r ts = read.params r ts >>= λ ps. if distinct (parameter_names ps.0) then Some ps else None

abbrev pub is_left_paren : TokenKind → Bool
is_left_paren kind.LeftParen = true
is_left_paren _ = false

-- a name, and what is read behind it
abbrev pub with_name : {A : Type 0} → (Named → Tokens → Found A) → Option (Named × Tokens) → Found A
with_name more None = Err None
with_name more (Some n) = more n.0 n.1

-- behind `def`
unfoldable pub def_statement : Readers → ℕ → (Params → Tokens → Found Stmts) → Tokens → Found StmtForm
def_statement r h block ts = with_name (λ n. expected is_left_paren (λ us. within params_height h (parameters r us) >>> λ ps.
    expected is_right_paren (suite (block ps.0)) ps.1 >>> λ b. Ok (stmt_tree.define 0 n ps.0 b.0, b.1))) (name_by (first ts) ts)

-- ['(' ')']
unfoldable pub bases : Tokens → Found (Unit {0})
bases ts = if is_left_paren (first ts) then expected is_right_paren (λ us. Ok (tt, us)) (skip ts) else Ok (tt, ts)

-- behind `class`
unfoldable pub class_statement : (Tokens → Found Stmts) → Tokens → Found StmtForm
class_statement block ts = with_name (λ n us. bases us >>> λ x. suite block x.1 >>> λ b. Ok (stmt_tree.class n b.0, b.1)) (name_by (first ts) ts)

-- a compound statement, one of a class if it is a member; else a line
abbrev pub compound : Line → Found StmtForm → Found Stmts
compound at found = found >>> λ x. Ok (one (stmt_tree.a_stmt at x.0), x.1)

-- what is no member of a class
abbrev pub no_member : {A : Type 0} → Bool → Found A → Found A
no_member members found = if members then Err None else found

abbrev pub statement_by : TokenKind → Readers → ℕ → Context → Bool → Blocks → Tokens → Found Stmts
statement_by kind.If r h c members block ts = no_member members (compound (line_at ts) (if_statement r h (block c false) (skip ts)))
statement_by kind.While r h c members block ts = no_member members (compound (line_at ts) (while_statement r h (block (in_loop c) false) (skip ts)))
statement_by kind.For r h c members block ts = no_member members (compound (line_at ts) (for_statement r h (block (in_loop c) false) (skip ts)))
statement_by kind.Try r h c members block ts = no_member members (compound (line_at ts) (try_statement r h (block c false) (block (in_handler c) false) (skip ts)))
statement_by kind.Def r h c members block ts = compound (line_at ts) (def_statement r h (λ ps. block (in_function ps c) false) (skip ts))
statement_by kind.Class r h c members block ts = no_member members (compound (line_at ts) (class_statement (block (in_class c) true) (skip ts)))
statement_by _ r h c members block ts = line r h c members ts

-- a statement of height at most suc h, or the statements of a line
unfoldable pub statement_at : Readers → ℕ → Context → Bool → Blocks → Tokens → Found Stmts
statement_at r h c members block ts = statement_by (first ts) r h c members block ts

-- ---- blocks

-- no further statement of the block comes
abbrev pub ends : TokenKind → Bool
ends kind.Dedent = true
ends kind.End = true
ends _ = false

-- statements up to the end of the block
unfoldable pub statements_by : ℕ → Readers → ℕ → Context → Bool → Blocks → Tokens → Found Stmts
statements_by zero r h c members block ts = Err (Some ts)
statements_by (suc n) r h c members block ts =
    if ends (first ts) then Ok (stmt_tree.no_stmts, ts)
    else (from ts (statement_at r h c members block ts) >>> λ xs. statements_by n r h c members block xs.1 >>> λ ys. Ok (joined xs.0 ys.0, ys.1))

abbrev pub statements : Readers → ℕ → Context → Bool → Blocks → Tokens → Found Stmts
statements r h c members block ts = statements_by (suc (length ts)) r h c members block ts

abbrev pub dedented : TokenKind → Stmts → Tokens → Found Stmts
dedented kind.Dedent xs ts = Ok (xs, skip ts)
dedented _ xs ts = Err (Some ts)

-- behind INDENT
unfoldable pub indented : Readers → ℕ → Context → Bool → Blocks → Tokens → Found Stmts
indented r h c members block ts = from ts (statement_at r h c members block ts) >>> λ xs. statements r h c members block xs.1 >>> λ ys.
    dedented (first ys.1) (joined xs.0 ys.0) ys.1

abbrev pub block_by : TokenKind → Readers → ℕ → Context → Bool → Blocks → Tokens → Found Stmts
block_by kind.Newline r h c members block ts = expected is_indent (indented r h c members block) (skip ts)
block_by _ r h c members block ts = line r h c members ts

-- a block of statements of height at most h, behind ':'
unfoldable pub block_at : Readers → ℕ → Blocks
block_at r zero c members ts = Err None
block_at r (suc h) c members ts = from ts (block_by (first ts) r h c members (block_at r h) ts)

-- ---- programs

abbrev pub ended : TokenKind → Stmts → Tokens → Found Stmts
ended kind.End xs ts = if length ts == 1 then Ok (xs, ts) else Err (Some ts)
ended _ xs ts = Err (Some ts)

-- a program of statements of height at most suc h
unfoldable pub program_at : Readers → ℕ → Tokens → Found Stmts
program_at r h ts = statements r h top false (block_at r h) ts >>> λ xs. ended (first xs.1) xs.0 xs.1
