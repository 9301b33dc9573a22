-- What begins a statement, and what may stand behind one.
use Rattle.std.proofs.Common.{◌≡◌, ℕ, suc, ◌<◌, Bool, true, false, List, length, Some, None, refl, sym, ap, subst, arith}
use Rattle.rp_base.specs.declared.operator.BinOp.{BinOp}
use Rattle.rp_base.specs.declared.value.Line.{Line}
use Rattle.rp_token.specs.declared.token.TokenKind.{TokenKind}
use Rattle.rp_token.specs.declared.token.TokenKind.TheVariants as kind
use Rattle.rp_tree.specs.Expressions.{Expr, Place, Target}
use Rattle.rp_tree.specs.Statements as stmt_tree
use Rattle.rp_tree.specs.Statements.{Stmt, StmtForm, Stmts, MaybeStmts, Branches, Excepts}
use Rattle.rp_grammar.specs.Kinds.{Tokens, first, augmented_of}
use Rattle.rp_grammar.specs.Expressions as grammar
use Rattle.rp_grammar.specs.Expressions.{line_of}
use Rattle.rp_grammar.specs.Front.{is_comma, is_equal, starts}
use Rattle.rp_grammar.specs.ExpressionReading.{Readers}
use Rattle.rp_grammar.proofs.Follow.{binds, primary_begins, expr_starts}
use Rattle.rp_grammar.proofs.ExpressionComplete.{place_read, part_read, parts_read}
use Rattle.rp_grammar.specs.Statements as stmt_grammar
use Rattle.rp_grammar.specs.Statements.{Context}
use Rattle.rp_grammar.specs.StatementReading as stmt_reading
use Rattle.rp_grammar.specs.StatementReading.{Blocks, ends}

-- what may stand behind a simple statement
pub record Closes (k : TokenKind) : Type 0 where
  pub binds : 20 < binds k
  pub no_comma : is_comma k ≡ false
  pub no_equal : is_equal k ≡ false
  pub no_start : starts k ≡ false
  pub no_mark : augmented_of k ≡ None

pub newline_closes : (us : Tokens) → first us ≡ kind.Newline → Closes (first us)
newline_closes us h = subst Closes (sym h) (record { binds = omega arith; no_comma = refl; no_equal = refl; no_start = refl; no_mark = refl })

pub semicolon_closes : (us : Tokens) → first us ≡ kind.Semicolon → Closes (first us)
semicolon_closes us h = subst Closes (sym h) (record { binds = omega arith; no_comma = refl; no_equal = refl; no_start = refl; no_mark = refl })

-- a mark of augmented assignment goes on with no expression
pub mark_binds : (k : TokenKind) (o : BinOp) → augmented_of k ≡ Some o → 20 < binds k
mark_binds kind.PlusEqual o h = omega arith
mark_binds kind.MinusEqual o h = omega arith
mark_binds kind.StarEqual o h = omega arith
mark_binds kind.DoubleSlashEqual o h = omega arith
mark_binds kind.PercentEqual o h = omega arith
mark_binds kind.DoubleStarEqual o h = omega arith
mark_binds kind.AmperEqual o h = omega arith
mark_binds kind.VBarEqual o h = omega arith
mark_binds kind.CircumflexEqual o h = omega arith
mark_binds kind.LeftShiftEqual o h = omega arith
mark_binds kind.RightShiftEqual o h = omega arith
mark_binds _ o h = absurd cc

-- ---- what begins

abbrev pub begins_simple : TokenKind → Bool
begins_simple kind.Pass = true
begins_simple kind.Break = true
begins_simple kind.Continue = true
begins_simple kind.Return = true
begins_simple kind.Raise = true
begins_simple kind.Assert = true
begins_simple kind.Global = true
begins_simple kind.Del = true
begins_simple k = starts k

abbrev pub begins : TokenKind → Bool
begins kind.If = true
begins kind.While = true
begins kind.For = true
begins kind.Try = true
begins kind.Def = true
begins kind.Class = true
begins k = begins_simple k

starts_simple : (k : TokenKind) → starts k ≡ true → begins_simple k ≡ true
starts_simple kind.Pass h = absurd cc
starts_simple kind.Break h = absurd cc
starts_simple kind.Continue h = absurd cc
starts_simple kind.Return h = absurd cc
starts_simple kind.Raise h = absurd cc
starts_simple kind.Assert h = absurd cc
starts_simple kind.Global h = absurd cc
starts_simple kind.Del h = absurd cc
starts_simple _ h = h

pub simple_is_begun : (k : TokenKind) → begins_simple k ≡ true → begins k ≡ true
simple_is_begun kind.If h = absurd cc
simple_is_begun kind.While h = absurd cc
simple_is_begun kind.For h = absurd cc
simple_is_begun kind.Try h = absurd cc
simple_is_begun kind.Def h = absurd cc
simple_is_begun kind.Class h = absurd cc
simple_is_begun _ h = h

pub exprs_start : {e : Expr} {ts us : Tokens} → grammar.IsExprs e ts us → starts (first ts) ≡ true
exprs_start (grammar.an_expr q) = expr_starts q
exprs_start (grammar.several q h l) = expr_starts q

pub place_starts : {x : Place} {ts us : Tokens} → grammar.IsPlace x ts us → starts (first ts) ≡ true
place_starts q = let c = place_read q in (primary_begins c.spelled).begins

pub unpacked_starts : {x : Target} {line : Line} {ts us : Tokens} → stmt_grammar.IsUnpacked x line ts us → starts (first ts) ≡ true
unpacked_starts (stmt_grammar.a_group q) = let c = part_read (grammar.part_group q) in (primary_begins c.spelled).begins
unpacked_starts (stmt_grammar.some_parts q) = let c = parts_read q in (primary_begins c.head).begins

pub assigned_starts : {xs : List Place} {ts us : Tokens} → stmt_grammar.Assigned xs ts us → starts (first ts) ≡ true
assigned_starts (stmt_grammar.last_assigned q h) = place_starts q
assigned_starts (stmt_grammar.more_assigned q h l) = place_starts q

pub simple_begins : {c : Context} {x : Stmt} {ts us : Tokens} → stmt_grammar.IsSimple c x ts us → begins_simple (first ts) ≡ true
simple_begins (stmt_grammar.is_pass h) = ap begins_simple h
simple_begins (stmt_grammar.is_break inside h) = ap begins_simple h
simple_begins (stmt_grammar.is_continue inside h) = ap begins_simple h
simple_begins (stmt_grammar.is_return inside h) = ap begins_simple h
simple_begins (stmt_grammar.returns_value inside h q) = ap begins_simple h
simple_begins (stmt_grammar.raises_again inside h) = ap begins_simple h
simple_begins (stmt_grammar.is_raise h q) = ap begins_simple h
simple_begins (stmt_grammar.is_assert h q) = ap begins_simple h
simple_begins (stmt_grammar.asserts_with_text h q comma l) = ap begins_simple h
simple_begins (stmt_grammar.is_global outside free h q) = ap begins_simple h
simple_begins (stmt_grammar.is_del h q) = ap begins_simple h
simple_begins {ts = ts} (stmt_grammar.is_value q) = starts_simple (first ts) (exprs_start q)
simple_begins {ts = ts} (stmt_grammar.is_augmented q mark l) = starts_simple (first ts) (place_starts q)
simple_begins {ts = ts} (stmt_grammar.is_assignment q l) = starts_simple (first ts) (assigned_starts q)
simple_begins {ts = ts} (stmt_grammar.is_unpacking q equal l) = starts_simple (first ts) (unpacked_starts q)

pub line_begins : {c : Context} {xs : Stmts} {ts us : Tokens} → stmt_grammar.IsLine c xs ts us → begins_simple (first ts) ≡ true
line_begins (stmt_grammar.line_end x h) = simple_begins x
line_begins (stmt_grammar.line_semicolon x h newline) = simple_begins x
line_begins (stmt_grammar.line_more x h xs) = simple_begins x

pub compound_begins : {c : Context} {form : StmtForm} {ts us : Tokens} → stmt_grammar.IsCompound c form ts us → begins (first ts) ≡ true
compound_begins (stmt_grammar.is_if h e b bs o) = ap begins h
compound_begins (stmt_grammar.is_while h e b) = ap begins h
compound_begins (stmt_grammar.is_for h q comes e b) = ap begins h
compound_begins (stmt_grammar.is_try h b hs o l) = ap begins h
compound_begins (stmt_grammar.is_try_finally h b l) = ap begins h
compound_begins (stmt_grammar.is_def h name opens ps differ closes b) = ap begins h
compound_begins (stmt_grammar.is_class h name empty b members) = ap begins h

pub statement_begins : {c : Context} {xs : Stmts} {ts us : Tokens} → stmt_grammar.IsStatement c xs ts us → begins (first ts) ≡ true
statement_begins {ts = ts} (stmt_grammar.a_line l) = simple_is_begun (first ts) (line_begins l)
statement_begins (stmt_grammar.a_compound x) = compound_begins x

pub begun_no_newline : (k : TokenKind) → begins_simple k ≡ true → stmt_reading.is_newline k ≡ false
begun_no_newline kind.Newline h = absurd cc
begun_no_newline _ h = refl

-- ---- what follows

-- what may stand behind a statement: no part of it that may be missing
pub record Rests (k : TokenKind) : Type 0 where
  pub no_elif : stmt_reading.is_elif k ≡ false
  pub no_else : stmt_reading.is_else k ≡ false
  pub no_except : stmt_reading.is_except k ≡ false
  pub no_finally : stmt_reading.is_finally k ≡ false

pub begun_rests : (k : TokenKind) → begins k ≡ true → (ends k ≡ false) × Rests k
begun_rests kind.Dedent h = absurd cc
begun_rests kind.End h = absurd cc
begun_rests kind.Elif h = absurd cc
begun_rests kind.Else h = absurd cc
begun_rests kind.Except h = absurd cc
begun_rests kind.Finally h = absurd cc
begun_rests _ h = (refl, record { no_elif = refl; no_else = refl; no_except = refl; no_finally = refl })

pub end_rests : (k : TokenKind) → ends k ≡ true → Rests k
end_rests kind.Dedent h = record { no_elif = refl; no_else = refl; no_except = refl; no_finally = refl }
end_rests kind.End h = record { no_elif = refl; no_else = refl; no_except = refl; no_finally = refl }
end_rests _ h = absurd cc

-- what stands behind a statement in a block
pub statements_rest : {c : Context} {xs : Stmts} {ts us : Tokens} → stmt_grammar.IsStatements c xs ts us → ends (first us) ≡ true → Rests (first ts)
statements_rest {ts = ts} stmt_grammar.no_statement over = end_rests (first ts) over
statements_rest {ts = ts} (stmt_grammar.more_statements x xs) over = (begun_rests (first ts) (statement_begins x)).1

-- ---- the reader that a token chooses

pub line_by_kind : (k : TokenKind) (rs : Readers) (h : ℕ) (c : Context) (members : Bool) (block : Blocks) (ts : Tokens) → begins_simple k ≡ true → stmt_reading.statement_by k rs h c members block ts ≡ stmt_reading.line_by (suc (length ts)) rs h c members ts
line_by_kind kind.If rs h c members block ts e = absurd cc
line_by_kind kind.While rs h c members block ts e = absurd cc
line_by_kind kind.For rs h c members block ts e = absurd cc
line_by_kind kind.Try rs h c members block ts e = absurd cc
line_by_kind kind.Def rs h c members block ts e = absurd cc
line_by_kind kind.Class rs h c members block ts e = absurd cc
line_by_kind _ rs h c members block ts e = refl

pub block_by_kind : (k : TokenKind) (rs : Readers) (h : ℕ) (c : Context) (members : Bool) (block : Blocks) (ts : Tokens) → begins_simple k ≡ true → stmt_reading.block_by k rs h c members block ts ≡ stmt_reading.line_by (suc (length ts)) rs h c members ts
block_by_kind kind.Newline rs h c members block ts e = absurd cc
block_by_kind _ rs h c members block ts e = refl

pub simple_by_kind : (k : TokenKind) (rs : Readers) (c : Context) (ts : Tokens) → starts k ≡ true → stmt_reading.simple_by k rs c ts ≡ stmt_reading.expression_statement rs ts
simple_by_kind kind.Pass rs c ts e = absurd cc
simple_by_kind kind.Break rs c ts e = absurd cc
simple_by_kind kind.Continue rs c ts e = absurd cc
simple_by_kind kind.Return rs c ts e = absurd cc
simple_by_kind kind.Raise rs c ts e = absurd cc
simple_by_kind kind.Assert rs c ts e = absurd cc
simple_by_kind kind.Global rs c ts e = absurd cc
simple_by_kind kind.Del rs c ts e = absurd cc
simple_by_kind _ rs c ts e = refl

pub behind_by_kind : (k : TokenKind) (rs : Readers) (e : Expr) (us : Tokens) → is_equal k ≡ false → stmt_reading.behind_exprs k None rs e us ≡ Some (stmt_tree.a_stmt (line_of e) (stmt_tree.evaluate e), us)
behind_by_kind kind.Equal rs e us h = absurd cc
behind_by_kind _ rs e us h = refl
