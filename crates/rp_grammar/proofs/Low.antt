-- Where no place of some tokens stands in too many brackets, none of the tokens behind what is spelled does.
use Rattle.std.proofs.Common.{◌≡◌, ℕ, zero, suc, ◌+◌, ◌≤◌, List, [], ◌∷◌, ◌++◌, length, replicate, refl, subst, arith}
use Rattle.rp_base.specs.declared.value.Line.{Line}
use Rattle.rp_token.specs.declared.token.TokenKind.{TokenKind}
use Rattle.rp_token.specs.declared.token.TokenKind.TheVariants as kind
use Rattle.rp_tree.specs.Expressions.{Named, Expr, Exprs, Place, Target}
use Rattle.rp_tree.specs.Statements.{Stmt, StmtForm, Stmts, MaybeStmts, Branches, Excepts}
use Rattle.rp_grammar.specs.Brackets.{open_behind, IsShallow}
use Rattle.rp_grammar.specs.Kinds.{Tokens, skip}
use Rattle.rp_grammar.specs.Expressions as grammar
use Rattle.rp_grammar.proofs.Depth.{expr_stays, target_stays, params_stays}
use Rattle.rp_token.specs.Laws.{IsWithin, open_behind as token_open}
use Rattle.rp_grammar.specs.Program.{token, ending}
use Rattle.rp_grammar.specs.Statements as stmt_grammar
use Rattle.rp_grammar.specs.Statements.{Context}

open_mono : (k : TokenKind) (m n : ℕ) → m ≤ n → open_behind k m ≤ open_behind k n
open_mono kind.LeftParen m n le = omega arith
open_mono kind.LeftBracket m n le = omega arith
open_mono kind.LeftBrace m n le = omega arith
open_mono kind.RightParen m n le = omega arith
open_mono kind.RightBracket m n le = omega arith
open_mono kind.RightBrace m n le = omega arith
open_mono _ m n le = le

-- with fewer open before it, what is shallow is so
pub shallow_below : (most m n : ℕ) (ts : Tokens) → m ≤ n → IsShallow most n ts → IsShallow most m ts
shallow_below most m n [] le w = omega arith
shallow_below most m n (t ∷ ts) le w = (let low = w.0 in omega arith, shallow_below most (open_behind t.kind m) (open_behind t.kind n) ts (open_mono t.kind m n le) w.1)

-- each list of tokens is shallow for some number
pub always_shallow : (n : ℕ) (ts : Tokens) (most : ℕ) → n + length ts ≤ most → IsShallow most n ts
always_shallow n [] most le = omega arith
always_shallow n (t ∷ ts) most le = (omega arith, always_shallow (open_behind t.kind n) ts most (let one = one_more t.kind n in omega arith))
  where
    one_more : (k : TokenKind) (n : ℕ) → open_behind k n ≤ suc n
    one_more kind.LeftParen n = omega arith
    one_more kind.LeftBracket n = omega arith
    one_more kind.LeftBrace n = omega arith
    one_more kind.RightParen n = omega arith
    one_more kind.RightBracket n = omega arith
    one_more kind.RightBrace n = omega arith
    one_more _ n = omega arith

-- the end of a shallow list is shallow
pub shallow_end : (most n : ℕ) (front ts : Tokens) → IsShallow most n (front ++ ts) → IsShallow most 0 ts
shallow_end most n [] ts w = shallow_below most 0 n ts (omega arith) w
shallow_end most n (t ∷ front) ts w = shallow_end most (open_behind t.kind n) front ts w.1

-- what stands behind a front of a shallow list may be exchanged for what is shallow itself
pub shallow_front : (most n : ℕ) (front rest others : Tokens) → IsShallow most n (front ++ rest) → ((m : ℕ) → m ≤ most → IsShallow most m others) → IsShallow most n (front ++ others)
shallow_front most n [] rest others w more = more n (shallow_low most n rest w)
  where
    shallow_low : (most n : ℕ) (ts : Tokens) → IsShallow most n ts → n ≤ most
    shallow_low most n [] w = w
    shallow_low most n (t ∷ ts) w = w.0
shallow_front most n (t ∷ front) rest others w more = (w.0, shallow_front most (open_behind t.kind n) front rest others w.1 more)

-- what ends a program opens no bracket
pub ending_shallow : (most m k : ℕ) → m ≤ most → IsShallow most m (ending k)
ending_shallow most m k low = (low, (low, dedents k))
  where
    dedents : (k : ℕ) → IsShallow most m (replicate k (token kind.Dedent) ++ token kind.End ∷ [])
    dedents zero = (low, low)
    dedents (suc k) = (low, dedents k)

-- a front of a shallow list with such an ending is shallow
pub front_ending : (most k : ℕ) (front rest : Tokens) → IsShallow most 0 (front ++ rest) → IsShallow most 0 (front ++ ending k)
front_ending most k front rest w = shallow_front most 0 front rest (ending k) w (λ m low. ending_shallow most m k low)

-- the tokenizer says the same of its tokens
pub within_shallow : (most n : ℕ) (ts : Tokens) → IsWithin most n ts → IsShallow most n ts
within_shallow most n [] w = w
within_shallow most n (t ∷ ts) w = (w.0, subst (λ (z : ℕ). IsShallow most z ts) (same t.kind n) (within_shallow most (token_open n t.kind) ts w.1))
  where
    same : (k : TokenKind) (n : ℕ) → token_open n k ≡ open_behind k n
    same kind.LeftParen n = omega arith
    same kind.LeftBracket n = omega arith
    same kind.LeftBrace n = omega arith
    same kind.RightParen n = omega arith
    same kind.RightBracket n = omega arith
    same kind.RightBrace n = omega arith
    same _ n = refl

-- what stays within a limit stays within a greater one
pub within_weaker : (a b n : ℕ) (ts : Tokens) → a ≤ b → IsWithin a n ts → IsWithin b n ts
within_weaker a b n [] le w = omega arith
within_weaker a b n (t ∷ ts) le w = (let low = w.0 in omega arith, within_weaker a b (token_open n t.kind) ts le w.1)

module _ (most : ℕ) where
  abbrev Low : Tokens → Type 0
  Low ts = IsShallow most 0 ts

  pub down : (ts : Tokens) → IsShallow most 0 ts → IsShallow most 0 (skip ts)
  down [] w = w
  down (t ∷ ts) w = shallow_below most 0 (open_behind t.kind 0) ts (omega arith) w.1

  listed_low : {es : Exprs} {ts us : Tokens} → grammar.Listed es ts us → Low ts → Low us
  listed_low grammar.nothing w = w
  listed_low (grammar.last p) w = expr_stays most p 0 w
  listed_low (grammar.more {us = us} p h q) w = listed_low q (down us (expr_stays most p 0 w))

  pub exprs_low : {e : Expr} {ts us : Tokens} → grammar.IsExprs e ts us → IsShallow most 0 ts → IsShallow most 0 us
  exprs_low (grammar.an_expr p) w = expr_stays most p 0 w
  exprs_low (grammar.several {us = us} p h q) w = listed_low q (down us (expr_stays most p 0 w))

  pub expr_low : {e : Expr} {ts us : Tokens} → grammar.IsExpr e ts us → IsShallow most 0 ts → IsShallow most 0 us
  expr_low p w = expr_stays most p 0 w

  pub place_low : {p : Place} {ts us : Tokens} → grammar.IsPlace p ts us → IsShallow most 0 ts → IsShallow most 0 us
  place_low p w = target_stays most (grammar.target_part (grammar.part_place p)) 0 w

  names_low : {ns : List Named} {ts us : Tokens} → stmt_grammar.IsNames ns ts us → Low ts → Low us
  names_low {ts = ts} (stmt_grammar.last_name h) w = down ts w
  names_low {ts = ts} (stmt_grammar.more_names h comma q) w = names_low q (down (skip ts) (down ts w))

  places_low : {ps : List Place} {ts us : Tokens} → stmt_grammar.IsPlaces ps ts us → Low ts → Low us
  places_low (stmt_grammar.last_place p) w = place_low p w
  places_low (stmt_grammar.last_comma {us = us} p comma) w = down us (place_low p w)
  places_low (stmt_grammar.more_places {us = us} p comma q) w = places_low q (down us (place_low p w))

  pub assigned_low : {ps : List Place} {ts us : Tokens} → stmt_grammar.Assigned ps ts us → IsShallow most 0 ts → IsShallow most 0 us
  assigned_low (stmt_grammar.last_assigned {us = us} p equal) w = down us (place_low p w)
  assigned_low (stmt_grammar.more_assigned {us = us} p equal q) w = assigned_low q (down us (place_low p w))

  pub unpacked_low : {p : Target} {line : Line} {ts us : Tokens} → stmt_grammar.IsUnpacked p line ts us → IsShallow most 0 ts → IsShallow most 0 us
  unpacked_low (stmt_grammar.a_group p) w = target_stays most (grammar.target_part (grammar.part_group p)) 0 w
  unpacked_low (stmt_grammar.some_parts p) w = target_stays most (grammar.target_parts p) 0 w

  pub simple_low : {c : Context} {x : Stmt} {ts us : Tokens} → stmt_grammar.IsSimple c x ts us → IsShallow most 0 ts → IsShallow most 0 us
  simple_low {ts = ts} (stmt_grammar.is_pass h) w = down ts w
  simple_low {ts = ts} (stmt_grammar.is_break inside h) w = down ts w
  simple_low {ts = ts} (stmt_grammar.is_continue inside h) w = down ts w
  simple_low {ts = ts} (stmt_grammar.is_return inside h) w = down ts w
  simple_low {ts = ts} (stmt_grammar.returns_value inside h p) w = exprs_low p (down ts w)
  simple_low {ts = ts} (stmt_grammar.raises_again inside h) w = down ts w
  simple_low {ts = ts} (stmt_grammar.is_raise h p) w = expr_low p (down ts w)
  simple_low {ts = ts} (stmt_grammar.is_assert h p) w = expr_low p (down ts w)
  simple_low {ts = ts} (stmt_grammar.asserts_with_text {us = us} h p comma q) w = expr_low q (down us (expr_low p (down ts w)))
  simple_low {ts = ts} (stmt_grammar.is_global outside free h p) w = names_low p (down ts w)
  simple_low {ts = ts} (stmt_grammar.is_del h p) w = places_low p (down ts w)
  simple_low (stmt_grammar.is_value p) w = exprs_low p w
  simple_low (stmt_grammar.is_augmented {us = us} p mark q) w = exprs_low q (down us (place_low p w))
  simple_low (stmt_grammar.is_assignment p q) w = exprs_low q (assigned_low p w)
  simple_low (stmt_grammar.is_unpacking {us = us} p equal q) w = exprs_low q (down us (unpacked_low p w))

  pub line_low : {c : Context} {xs : Stmts} {ts us : Tokens} → stmt_grammar.IsLine c xs ts us → IsShallow most 0 ts → IsShallow most 0 us
  line_low (stmt_grammar.line_end {us = us} x h) w = down us (simple_low x w)
  line_low (stmt_grammar.line_semicolon {us = us} x h newline) w = down (skip us) (down us (simple_low x w))
  line_low (stmt_grammar.line_more {us = us} x h xs) w = line_low xs (down us (simple_low x w))

  pub bases_low : {ts us : Tokens} → stmt_grammar.IsEmptyBases ts us → IsShallow most 0 ts → IsShallow most 0 us
  bases_low stmt_grammar.no_bases w = w
  bases_low {ts = ts} (stmt_grammar.empty_bases opens closes) w = down (skip ts) (down ts w)

  mutual
    pub statement_low : {c : Context} {xs : Stmts} {ts us : Tokens} → stmt_grammar.IsStatement c xs ts us → IsShallow most 0 ts → IsShallow most 0 us
    statement_low (stmt_grammar.a_line l) w = line_low l w
    statement_low (stmt_grammar.a_compound x) w = compound_low x w

    pub compound_low : {c : Context} {form : StmtForm} {ts us : Tokens} → stmt_grammar.IsCompound c form ts us → IsShallow most 0 ts → IsShallow most 0 us
    compound_low {ts = ts} (stmt_grammar.is_if h e b bs o) w = else_low o (elifs_low bs (suite_low b (expr_low e (down ts w))))
    compound_low {ts = ts} (stmt_grammar.is_while h e b) w = suite_low b (expr_low e (down ts w))
    compound_low {ts = ts} (stmt_grammar.is_for {us = us} h p comes e b) w = suite_low b (exprs_low e (down us (target_stays most p 0 (down ts w))))
    compound_low {ts = ts} (stmt_grammar.is_try h b hs o l) w = finally_low l (else_low o (handlers_low hs (suite_low b (down ts w))))
    compound_low {ts = ts} (stmt_grammar.is_try_finally h b l) w = finally_low l (suite_low b (down ts w))
    compound_low {ts = ts} (stmt_grammar.is_def {us = us} h name opens ps differ closes b) w = suite_low b (down us (params_stays most ps 0 (down (skip (skip ts)) (down (skip ts) (down ts w)))))
    compound_low {ts = ts} (stmt_grammar.is_class h name empty b members) w = suite_low b (bases_low empty (down (skip ts) (down ts w)))

    pub elifs_low : {c : Context} {bs : Branches} {ts us : Tokens} → stmt_grammar.IsElifs c bs ts us → IsShallow most 0 ts → IsShallow most 0 us
    elifs_low stmt_grammar.no_elif w = w
    elifs_low {ts = ts} (stmt_grammar.an_elif h e b bs) w = elifs_low bs (suite_low b (expr_low e (down ts w)))

    pub else_low : {c : Context} {o : MaybeStmts} {ts us : Tokens} → stmt_grammar.IsElse c o ts us → IsShallow most 0 ts → IsShallow most 0 us
    else_low stmt_grammar.no_else w = w
    else_low {ts = ts} (stmt_grammar.an_else h b) w = suite_low b (down ts w)

    pub finally_low : {c : Context} {o : MaybeStmts} {ts us : Tokens} → stmt_grammar.IsFinally c o ts us → IsShallow most 0 ts → IsShallow most 0 us
    finally_low stmt_grammar.no_finally w = w
    finally_low {ts = ts} (stmt_grammar.a_finally h b) w = suite_low b (down ts w)

    pub handlers_low : {c : Context} {hs : Excepts} {ts us : Tokens} → stmt_grammar.IsHandlers c hs ts us → IsShallow most 0 ts → IsShallow most 0 us
    handlers_low stmt_grammar.no_handler w = w
    handlers_low {ts = ts} (stmt_grammar.handles_all h b) w = suite_low b (down ts w)
    handlers_low {ts = ts} (stmt_grammar.handles h e b hs) w = handlers_low hs (suite_low b (expr_low e (down ts w)))
    handlers_low {ts = ts} (stmt_grammar.handles_named {us = us} h e comes name b hs) w = handlers_low hs (suite_low b (down (skip us) (down us (expr_low e (down ts w)))))

    pub suite_low : {c : Context} {xs : Stmts} {ts us : Tokens} → stmt_grammar.IsSuite c xs ts us → IsShallow most 0 ts → IsShallow most 0 us
    suite_low {ts = ts} (stmt_grammar.suite h b) w = block_low b (down ts w)

    pub block_low : {c : Context} {xs : Stmts} {ts us : Tokens} → stmt_grammar.IsBlock c xs ts us → IsShallow most 0 ts → IsShallow most 0 us
    block_low (stmt_grammar.one_line l) w = line_low l w
    block_low {ts = ts} (stmt_grammar.indented {vs = vs} newline indent x xs dedent) w = down vs (statements_low xs (statement_low x (down (skip ts) (down ts w))))

    pub statements_low : {c : Context} {xs : Stmts} {ts us : Tokens} → stmt_grammar.IsStatements c xs ts us → IsShallow most 0 ts → IsShallow most 0 us
    statements_low stmt_grammar.no_statement w = w
    statements_low (stmt_grammar.more_statements x xs) w = statements_low xs (statement_low x w)
