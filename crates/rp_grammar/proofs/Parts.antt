-- A statement, and each part of a compound one, is spelled again by the tokens that it took, whatever stands behind them.
use Rattle.std.proofs.Common.{◌≡◌, true, ◌∷◌, refl}
use Rattle.rp_token.specs.declared.token.Token.{Token}
use Rattle.rp_token.specs.declared.token.TokenKind.{TokenKind}
use Rattle.rp_tree.specs.Expressions.{Expr}
use Rattle.rp_tree.specs.Statements.{Stmt, StmtForm, Stmts, MaybeStmts, Branches, Excepts}
use Rattle.rp_grammar.specs.Kinds.{Tokens, first, line_at, skip}
use Rattle.rp_grammar.specs.Expressions as grammar
use Rattle.rp_grammar.specs.Statements as stmt_grammar
use Rattle.rp_grammar.specs.Statements.{Context}
use Rattle.rp_grammar.proofs.Again as again_laws
use Rattle.rp_grammar.proofs.Again.{is_inner, Again, AgainAt}
use Rattle.rp_grammar.proofs.AgainSimple as simple_again_laws

module _ (Front : Tokens → Tokens → Type 0) (step : (x : Token) (ts b : Tokens) → Front ts b → Front (x ∷ ts) (x ∷ b)) where
  pub word : {k : TokenKind} {b : Tokens} (ts : Tokens) → first ts ≡ k → is_inner k ≡ true → Front (skip ts) b → (x : Token) × Front ts (x ∷ b) × (x.kind ≡ k) × (x.line ≡ line_at ts)
  word ts h inner w = again_laws.word Front (λ x ts b i. step x ts b) ts h inner w

  pub expr_again : {e : Expr} {ts us b : Tokens} → grammar.IsExpr e ts us → Front us b → Again Front (grammar.IsExpr e) ts b
  expr_again p w = again_laws.expr_again Front (λ x ts b i. step x ts b) p w

  pub simple_again : {c : Context} {x : Stmt} {ts us b : Tokens} → stmt_grammar.IsSimple c x ts us → Front us b → Again Front (stmt_grammar.IsSimple c x) ts b
  simple_again p w = simple_again_laws.simple_again Front (λ x ts b i. step x ts b) (Unit {0}) (λ may. step) p (λ h. tt) w

  pub line_again : {c : Context} {xs : Stmts} {ts us b : Tokens} → stmt_grammar.IsLine c xs ts us → Front us b → Again Front (stmt_grammar.IsLine c xs) ts b
  line_again (stmt_grammar.line_end {us = us} p h) w =
      let (x, w, h, l) = word us h refl w in
      let (f, w, p) = simple_again p w in
      (f, w, λ vs. stmt_grammar.line_end (p vs) h)
  line_again (stmt_grammar.line_semicolon {us = us} p h i) w =
      let (y, w, i, m) = word (skip us) i refl w in
      let (x, w, h, l) = word us h refl w in
      let (f, w, p) = simple_again p w in
      (f, w, λ vs. stmt_grammar.line_semicolon (p vs) h i)
  line_again (stmt_grammar.line_more {us = us} p h q) w =
      let (f, w, q) = line_again q w in
      let (x, w, h, l) = word us h refl w in
      let (f, w, p) = simple_again p w in
      (f, w, λ vs. stmt_grammar.line_more (p vs) h (q vs))

  pub bases_again : {ts us b : Tokens} → stmt_grammar.IsEmptyBases ts us → Front us b → Again Front stmt_grammar.IsEmptyBases ts b
  bases_again {b = b} stmt_grammar.no_bases w = (b, w, λ vs. stmt_grammar.no_bases)
  bases_again {ts = ts} {b = b} (stmt_grammar.empty_bases h i) w =
      let (y, w, i, m) = word (skip ts) i refl w in
      let (x, w, h, l) = word ts h refl w in
      (x ∷ y ∷ b, w, λ vs. stmt_grammar.empty_bases h i)

  mutual
    pub statement_again : {c : Context} {xs : Stmts} {ts us b : Tokens} → stmt_grammar.IsStatement c xs ts us → Front us b → Again Front (stmt_grammar.IsStatement c xs) ts b
    statement_again (stmt_grammar.a_line p) w = let (f, w, p) = line_again p w in (f, w, λ vs. stmt_grammar.a_line (p vs))
    statement_again (stmt_grammar.a_compound p) w = let (f, w, p, l) = compound_again p w in (f, w, λ vs. rw (← l vs) (stmt_grammar.a_compound (p vs)))

    compound_again : {c : Context} {form : StmtForm} {ts us b : Tokens} → stmt_grammar.IsCompound c form ts us → Front us b → AgainAt Front (stmt_grammar.IsCompound c form) ts b
    compound_again {ts = ts} (stmt_grammar.is_if h p q r o) w =
        let (f, w, o) = else_again o w in
        let (f, w, r) = elifs_again r w in
        let (f, w, q) = suite_again q w in
        let (f, w, p) = expr_again p w in
        let (x, w, h, l) = word ts h refl w in
        (x ∷ f, w, λ vs. stmt_grammar.is_if h (p vs) (q vs) (r vs) (o vs), λ vs. l)
    compound_again {ts = ts} (stmt_grammar.is_while h p q) w =
        let (f, w, q) = suite_again q w in
        let (f, w, p) = expr_again p w in
        let (x, w, h, l) = word ts h refl w in
        (x ∷ f, w, λ vs. stmt_grammar.is_while h (p vs) (q vs), λ vs. l)
    compound_again {ts = ts} (stmt_grammar.is_for {us = us} h p i q r) w =
        let (f, w, r) = suite_again r w in
        let (f, w, q) = again_laws.exprs_again Front (λ x ts b i. step x ts b) q w in
        let (y, w, i, m) = word us i refl w in
        let (f, w, p) = again_laws.target_again Front (λ x ts b i. step x ts b) p w in
        let (x, w, h, l) = word ts h refl w in
        (x ∷ f, w, λ vs. stmt_grammar.is_for h (p vs) i (q vs) (r vs), λ vs. l)
    compound_again {ts = ts} (stmt_grammar.is_try h p q o r) w =
        let (f, w, r) = finally_again r w in
        let (f, w, o) = else_again o w in
        let (f, w, q) = handlers_again q w in
        let (f, w, p) = suite_again p w in
        let (x, w, h, l) = word ts h refl w in
        (x ∷ f, w, λ vs. stmt_grammar.is_try h (p vs) (q vs) (o vs) (r vs), λ vs. l)
    compound_again {ts = ts} (stmt_grammar.is_try_finally h p q) w =
        let (f, w, q) = finally_again q w in
        let (f, w, p) = suite_again p w in
        let (x, w, h, l) = word ts h refl w in
        (x ∷ f, w, λ vs. stmt_grammar.is_try_finally h (p vs) (q vs), λ vs. l)
    compound_again {ts = ts} (stmt_grammar.is_def {us = us} h i j p d k q) w =
        let (f, w, q) = suite_again q w in
        let (y, w, k, m) = word us k refl w in
        let (f, w, p) = again_laws.params_again Front (λ x ts b i. step x ts b) p w in
        let (z, w, j, m) = word (skip (skip ts)) j refl w in
        let (y, w, i, m) = word (skip ts) i refl w in
        let (x, w, h, l) = word ts h refl w in
        (x ∷ y ∷ z ∷ f, w, λ vs. rw (← m) (stmt_grammar.is_def h i j (p vs) d k (q vs)), λ vs. l)
    compound_again {ts = ts} (stmt_grammar.is_class h i p q d) w =
        let (f, w, q) = suite_again q w in
        let (f, w, p) = bases_again p w in
        let (y, w, i, m) = word (skip ts) i refl w in
        let (x, w, h, l) = word ts h refl w in
        (x ∷ y ∷ f, w, λ vs. rw (← m) (stmt_grammar.is_class h i (p vs) (q vs) d), λ vs. l)

    pub elifs_again : {c : Context} {bs : Branches} {ts us b : Tokens} → stmt_grammar.IsElifs c bs ts us → Front us b → Again Front (stmt_grammar.IsElifs c bs) ts b
    elifs_again {b = b} stmt_grammar.no_elif w = (b, w, λ vs. stmt_grammar.no_elif)
    elifs_again {ts = ts} (stmt_grammar.an_elif h p q r) w =
        let (f, w, r) = elifs_again r w in
        let (f, w, q) = suite_again q w in
        let (f, w, p) = expr_again p w in
        let (x, w, h, l) = word ts h refl w in
        (x ∷ f, w, λ vs. stmt_grammar.an_elif h (p vs) (q vs) (r vs))

    pub else_again : {c : Context} {o : MaybeStmts} {ts us b : Tokens} → stmt_grammar.IsElse c o ts us → Front us b → Again Front (stmt_grammar.IsElse c o) ts b
    else_again {b = b} stmt_grammar.no_else w = (b, w, λ vs. stmt_grammar.no_else)
    else_again {ts = ts} (stmt_grammar.an_else h p) w =
        let (f, w, p) = suite_again p w in
        let (x, w, h, l) = word ts h refl w in
        (x ∷ f, w, λ vs. stmt_grammar.an_else h (p vs))

    pub finally_again : {c : Context} {o : MaybeStmts} {ts us b : Tokens} → stmt_grammar.IsFinally c o ts us → Front us b → Again Front (stmt_grammar.IsFinally c o) ts b
    finally_again {b = b} stmt_grammar.no_finally w = (b, w, λ vs. stmt_grammar.no_finally)
    finally_again {ts = ts} (stmt_grammar.a_finally h p) w =
        let (f, w, p) = suite_again p w in
        let (x, w, h, l) = word ts h refl w in
        (x ∷ f, w, λ vs. stmt_grammar.a_finally h (p vs))

    pub handlers_again : {c : Context} {hs : Excepts} {ts us b : Tokens} → stmt_grammar.IsHandlers c hs ts us → Front us b → Again Front (stmt_grammar.IsHandlers c hs) ts b
    handlers_again {b = b} stmt_grammar.no_handler w = (b, w, λ vs. stmt_grammar.no_handler)
    handlers_again {ts = ts} (stmt_grammar.handles_all h p) w =
        let (f, w, p) = suite_again p w in
        let (x, w, h, l) = word ts h refl w in
        (x ∷ f, w, λ vs. stmt_grammar.handles_all h (p vs))
    handlers_again {ts = ts} (stmt_grammar.handles h p q r) w =
        let (f, w, r) = handlers_again r w in
        let (f, w, q) = suite_again q w in
        let (f, w, p) = expr_again p w in
        let (x, w, h, l) = word ts h refl w in
        (x ∷ f, w, λ vs. stmt_grammar.handles h (p vs) (q vs) (r vs))
    handlers_again {ts = ts} (stmt_grammar.handles_named {us = us} h p i j q r) w =
        let (f, w, r) = handlers_again r w in
        let (f, w, q) = suite_again q w in
        let (z, w, j, m) = word (skip us) j refl w in
        let (y, w, i, n) = word us i refl w in
        let (f, w, p) = expr_again p w in
        let (x, w, h, l) = word ts h refl w in
        (x ∷ f, w, λ vs. rw (← m) (stmt_grammar.handles_named h (p vs) i j (q vs) (r vs)))

    pub suite_again : {c : Context} {xs : Stmts} {ts us b : Tokens} → stmt_grammar.IsSuite c xs ts us → Front us b → Again Front (stmt_grammar.IsSuite c xs) ts b
    suite_again {ts = ts} (stmt_grammar.suite h p) w =
        let (f, w, p) = block_again p w in
        let (x, w, h, l) = word ts h refl w in
        (x ∷ f, w, λ vs. stmt_grammar.suite h (p vs))

    pub block_again : {c : Context} {xs : Stmts} {ts us b : Tokens} → stmt_grammar.IsBlock c xs ts us → Front us b → Again Front (stmt_grammar.IsBlock c xs) ts b
    block_again (stmt_grammar.one_line p) w = let (f, w, p) = line_again p w in (f, w, λ vs. stmt_grammar.one_line (p vs))
    block_again {ts = ts} (stmt_grammar.indented {vs = vs} h i p q j) w =
        let (z, w, j, n) = word vs j refl w in
        let (f, w, q) = statements_again q w in
        let (f, w, p) = statement_again p w in
        let (y, w, i, m) = word (skip ts) i refl w in
        let (x, w, h, l) = word ts h refl w in
        (x ∷ y ∷ f, w, λ vs. stmt_grammar.indented h i (p vs) (q vs) j)

    pub statements_again : {c : Context} {xs : Stmts} {ts us b : Tokens} → stmt_grammar.IsStatements c xs ts us → Front us b → Again Front (stmt_grammar.IsStatements c xs) ts b
    statements_again {b = b} stmt_grammar.no_statement w = (b, w, λ vs. stmt_grammar.no_statement)
    statements_again (stmt_grammar.more_statements p q) w =
        let (f, w, q) = statements_again q w in
        let (f, w, p) = statement_again p w in
        (f, w, λ vs. stmt_grammar.more_statements (p vs) (q vs))
