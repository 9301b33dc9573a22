-- What the readers of the program promise.
use Rattle.std.specs.Prelude.{◌≡◌, ℕ, List, [], ◌∷◌, ◌++◌, Bool, true, false, Option, Some, None, Result, Ok, Err, option_map, if◌then◌else◌}
use Rattle.rp_base.specs.declared.value.Line.{Line}
use Rattle.rp_token.specs.declared.token.TokenKind.{TokenKind}
use Rattle.rp_token.specs.declared.token.TokenKind.TheVariants as kind
use Rattle.rp_tree.specs.Expressions as tree
use Rattle.rp_tree.specs.Expressions.{Named, Expr, Form, Place}
use Rattle.rp_tree.specs.Statements as stmt_tree
use Rattle.rp_tree.specs.Statements.{Stmt, StmtForm, Stmts, Branches}
use Rattle.rp_grammar.specs.Kinds.{Tokens, first, skip}
use Rattle.rp_grammar.specs.Front.{is_comma, starts}
use Rattle.rp_grammar.specs.ExpressionReading as read
use Rattle.rp_grammar.specs.ExpressionReading.{Read, Readers, before, alike, all_many, all_listed, at, name_by, ◌>>=◌}
use Rattle.rp_expr.specs.declared.fault.Fault.{Fault}
use Rattle.rp_expr.specs.declared.fault.Fault.TheVariants as fault
use Rattle.rp_grammar.specs.Statements as stmt_grammar
use Rattle.rp_grammar.specs.StatementReading.{Found, ◌>>>◌, place, places, suite, handler, handlers, maybe_suite, is_else, is_finally, block_at}
use Rattle.rp_parse.specs.declared.context.Context.{Context}
use Rattle.rp_parse.specs.declared.context.Setting.{Setting}
use Rattle.rp_parse.specs.declared.fault.Stop.{Stop}
use Rattle.rp_parse.specs.declared.fault.Stop.TheVariants as stop

-- what reads the expressions: enough for 450 open brackets and a tree of height 200
abbrev pub deep : Readers
deep = read.readers 650

-- ---- what a function answered is what reading gives, unless memory ran out

-- the last place at which a statement could begin, unless memory ran out
abbrev pub told : Stop → Option (Option Tokens)
told stop.Memory = None
told (stop.Syntax p) = Some (option_map (λ ts. ts.now) p)

-- the same, where a statement could begin at ts
abbrev pub placed : Tokens → Option (Option Tokens) → Option (Option Tokens)
placed ts None = None
placed ts (Some None) = Some (Some ts)
placed ts (Some (Some p)) = Some (Some p)

-- the same, where no place within counts
abbrev pub unplaced : Option (Option Tokens) → Option (Option Tokens)
unplaced None = None
unplaced (Some p) = Some None

abbrev pub Fails : {Y : Type 0} → Stop → Found Y → Type 0
Fails stop.Memory found = Unit {0}
Fails (stop.Syntax p) found = found ≡ Err (option_map (λ ts. ts.now) p)

abbrev pub Gives : {X Y : Type 0} → (X → Y × Tokens) → Result X Stop → Found Y → Type 0
Gives f (Ok x) found = found ≡ Ok (f x)
Gives f (Err e) found = Fails e found

-- a fault of an expression, within which no statement begins
abbrev pub stop_of : Fault → Stop
stop_of fault.Memory = stop.Memory
stop_of fault.Syntax = stop.Syntax None

-- ---- what the structs of the program stand for

abbrev pub context_of : Context → stmt_grammar.Context
context_of c = record { loop = c.in_loop; handler = c.in_handler; class = c.in_class; function = option_map (λ ns. ns.now) c.function }

-- what reads a block
abbrev pub block_of : Setting → Tokens → Found Stmts
block_of x = block_at deep x.height (context_of x.context) x.members

-- ---- what is read behind some items, with these at its front

abbrev pub ahead : {L : Type 0} → (L → L) → Found L → Found L
ahead items found = found >>> λ xs. Ok (items xs.0, xs.1)

abbrev pub with_branch : Expr × Stmts → Branches → Branches
with_branch b bs = stmt_tree.branch b.0 b.1 bs

abbrev pub with_places : List Place → List Place × Expr → List Place × Expr
with_places ps x = (ps ++ x.0, x.1)

abbrev pub other_places : Readers → Place → Tokens → Read (List Place)
other_places r p ts = before (λ ps. p ∷ ps) (all_listed [] [] (λ p ps. p ∷ ps) starts (alike (place r)) tt ts)

abbrev pub other_names : Named → Tokens → Read (List Named)
other_names n ts = before (λ ns. n ∷ ns) (all_many [] (λ n ns. n ∷ ns) (at is_comma) (λ us. name_by (first (skip us)) (skip us)) ts)

-- behind `del`
abbrev pub deleted : Readers → Line → Tokens → Read Stmt
deleted r line ts = places r ts >>= λ ps. Some (stmt_tree.a_stmt line (stmt_tree.del ps.0), ps.1)

-- ---- parts of a compound statement

abbrev pub is_as : TokenKind → Bool
is_as kind.As = true
is_as k = false

-- what reads the block of a handler
abbrev pub handling_of : Setting → Tokens → Found Stmts
handling_of x = block_at deep x.height (stmt_grammar.in_handler (context_of x.context)) false

-- behind the first block of `try` and `except`
abbrev pub handled : ℕ → (Tokens → Found Stmts) → (Tokens → Found Stmts) → Stmts → Tokens → Found StmtForm
handled h block handling b ts = handler deep h handling ts >>> λ x. handlers deep h handling x.0.1 x.1 >>> λ xs.
    maybe_suite is_else block xs.1 >>> λ o. maybe_suite is_finally block o.1 >>> λ l. Ok (stmt_tree.try b (stmt_tree.except x.0.0 xs.0) o.0 l.0, l.1)

-- behind the first block of `try` and `finally`
abbrev pub finished : (Tokens → Found Stmts) → Stmts → Tokens → Found StmtForm
finished block b ts = suite block ts >>> λ l. Ok (stmt_tree.try b stmt_tree.no_excepts stmt_tree.none (stmt_tree.some l.0), l.1)

abbrev pub is_text_form : Form → Bool
is_text_form (tree.text cs) = true
is_text_form f = false

-- a statement without parts, where it may stand
abbrev pub allowed : Bool → Line → StmtForm → Tokens → Read Stmt
allowed may line form ts = if may then Some (stmt_tree.a_stmt line form, ts) else None
