-- A simple statement is spelled again by the tokens that it took, whatever stands behind them.
use Rattle.std.proofs.Common.{◌≡◌, true, List, [], ◌∷◌, refl}
use Rattle.rp_base.specs.declared.value.Line.{Line}
use Rattle.rp_token.specs.declared.token.Token.{Token}
use Rattle.rp_token.specs.declared.token.TokenKind.{TokenKind}
use Rattle.rp_token.specs.declared.token.TokenKind.TheVariants as kind
use Rattle.rp_tree.specs.Expressions.{Named, Expr, Place, Target}
use Rattle.rp_tree.specs.Statements.{Stmt}
use Rattle.rp_grammar.specs.Kinds.{Tokens, first, line_at, skip, augmented_of}
use Rattle.rp_grammar.specs.Expressions as grammar
use Rattle.rp_tree.specs.Statements as tree
use Rattle.rp_grammar.specs.Statements as stmt_grammar
use Rattle.rp_grammar.specs.Statements.{Context}
use Rattle.rp_grammar.proofs.Again as again_laws
use Rattle.rp_grammar.proofs.Again.{is_inner, Again, AgainAt, augmented_inner}

module _ (Front : Tokens → Tokens → Type 0) (step : (x : Token) (ts b : Tokens) → is_inner x.kind ≡ true → Front ts b → Front (x ∷ ts) (x ∷ b)) where
  word : {k : TokenKind} {b : Tokens} (ts : Tokens) → first ts ≡ k → is_inner k ≡ true → Front (skip ts) b → (x : Token) × Front ts (x ∷ b) × (x.kind ≡ k) × (x.line ≡ line_at ts)
  word ts h inner w = again_laws.word Front step ts h inner w

  expr_again : {e : Expr} {ts us b : Tokens} → grammar.IsExpr e ts us → Front us b → Again Front (grammar.IsExpr e) ts b
  expr_again p w = again_laws.expr_again Front step p w

  exprs_again : {e : Expr} {ts us b : Tokens} → grammar.IsExprs e ts us → Front us b → Again Front (grammar.IsExprs e) ts b
  exprs_again p w = again_laws.exprs_again Front step p w

  place_again : {p : Place} {ts us b : Tokens} → grammar.IsPlace p ts us → Front us b → Again Front (grammar.IsPlace p) ts b
  place_again p w = again_laws.place_again Front step p w

  pub names_again : {ns : List Named} {ts us b : Tokens} → stmt_grammar.IsNames ns ts us → Front us b → Again Front (stmt_grammar.IsNames ns) ts b
  names_again {ts = ts} {b = b} (stmt_grammar.last_name h) w = let (x, w, h, l) = word ts h refl w in (x ∷ b, w, λ vs. rw (← l) (stmt_grammar.last_name h))
  names_again {ts = ts} (stmt_grammar.more_names h i p) w =
      let (f, w, p) = names_again p w in
      let (y, w, i, m) = word (skip ts) i refl w in
      let (x, w, h, l) = word ts h refl w in
      (x ∷ y ∷ f, w, λ vs. rw (← l) (stmt_grammar.more_names h i (p vs)))

  pub places_again : {ps : List Place} {ts us b : Tokens} → stmt_grammar.IsPlaces ps ts us → Front us b → Again Front (stmt_grammar.IsPlaces ps) ts b
  places_again (stmt_grammar.last_place p) w = let (f, w, p) = place_again p w in (f, w, λ vs. stmt_grammar.last_place (p vs))
  places_again (stmt_grammar.last_comma {us = us} p h) w =
      let (x, w, h, l) = word us h refl w in
      let (f, w, p) = place_again p w in
      (f, w, λ vs. stmt_grammar.last_comma (p vs) h)
  places_again (stmt_grammar.more_places {us = us} p h q) w =
      let (f, w, q) = places_again q w in
      let (x, w, h, l) = word us h refl w in
      let (f, w, p) = place_again p w in
      (f, w, λ vs. stmt_grammar.more_places (p vs) h (q vs))

  pub assigned_again : {ps : List Place} {ts us b : Tokens} → stmt_grammar.Assigned ps ts us → Front us b → Again Front (stmt_grammar.Assigned ps) ts b
  assigned_again (stmt_grammar.last_assigned {us = us} p h) w =
      let (x, w, h, l) = word us h refl w in
      let (f, w, p) = place_again p w in
      (f, w, λ vs. stmt_grammar.last_assigned (p vs) h)
  assigned_again (stmt_grammar.more_assigned {us = us} p h q) w =
      let (f, w, q) = assigned_again q w in
      let (x, w, h, l) = word us h refl w in
      let (f, w, p) = place_again p w in
      (f, w, λ vs. stmt_grammar.more_assigned (p vs) h (q vs))

  pub unpacked_again : {p : Target} {line : Line} {ts us b : Tokens} → stmt_grammar.IsUnpacked p line ts us → Front us b → Again Front (stmt_grammar.IsUnpacked p line) ts b
  unpacked_again (stmt_grammar.a_group p) w = let (f, w, p) = again_laws.group_again Front step p w in (f, w, λ vs. stmt_grammar.a_group (p vs))
  unpacked_again (stmt_grammar.some_parts p) w = let (f, w, p) = again_laws.parts_again Front step p w in (f, w, λ vs. stmt_grammar.some_parts (p vs))

  -- a simple statement, where `pass` may be taken on the condition Pass
  module _ (Pass : Type 0) (step_pass : Pass → (x : Token) (ts b : Tokens) → Front ts b → Front (x ∷ ts) (x ∷ b)) where
    pass_again : {c : Context} {ts b : Tokens} → Pass → first ts ≡ kind.Pass → Front (skip ts) b → Again Front (stmt_grammar.IsSimple c (tree.a_stmt (line_at ts) tree.pass)) ts b
    pass_again {ts = []} may h w = absurd cc
    pass_again {ts = x ∷ ts} {b = b} may h w = (x ∷ b, step_pass may x ts b w, λ vs. stmt_grammar.is_pass h)

    pub simple_again : {c : Context} {x : Stmt} {ts us b : Tokens} → stmt_grammar.IsSimple c x ts us → (first ts ≡ kind.Pass → Pass) → Front us b → Again Front (stmt_grammar.IsSimple c x) ts b
    simple_again (stmt_grammar.is_pass h) may w = pass_again (may h) h w
    simple_again {ts = ts} {b = b} (stmt_grammar.is_break c h) may w = let (x, w, h, l) = word ts h refl w in (x ∷ b, w, λ vs. rw (← l) (stmt_grammar.is_break c h))
    simple_again {ts = ts} {b = b} (stmt_grammar.is_continue c h) may w = let (x, w, h, l) = word ts h refl w in (x ∷ b, w, λ vs. rw (← l) (stmt_grammar.is_continue c h))
    simple_again {ts = ts} {b = b} (stmt_grammar.is_return c h) may w = let (x, w, h, l) = word ts h refl w in (x ∷ b, w, λ vs. rw (← l) (stmt_grammar.is_return c h))
    simple_again {ts = ts} (stmt_grammar.returns_value c h p) may w =
        let (f, w, p) = exprs_again p w in
        let (x, w, h, l) = word ts h refl w in
        (x ∷ f, w, λ vs. rw (← l) (stmt_grammar.returns_value c h (p vs)))
    simple_again {ts = ts} {b = b} (stmt_grammar.raises_again c h) may w = let (x, w, h, l) = word ts h refl w in (x ∷ b, w, λ vs. rw (← l) (stmt_grammar.raises_again c h))
    simple_again {ts = ts} (stmt_grammar.is_raise h p) may w =
        let (f, w, p) = expr_again p w in
        let (x, w, h, l) = word ts h refl w in
        (x ∷ f, w, λ vs. rw (← l) (stmt_grammar.is_raise h (p vs)))
    simple_again {ts = ts} (stmt_grammar.is_assert h p) may w =
        let (f, w, p) = expr_again p w in
        let (x, w, h, l) = word ts h refl w in
        (x ∷ f, w, λ vs. rw (← l) (stmt_grammar.is_assert h (p vs)))
    simple_again {ts = ts} (stmt_grammar.asserts_with_text {us = us} h p i q) may w =
        let (f, w, q) = expr_again q w in
        let (y, w, i, m) = word us i refl w in
        let (f, w, p) = expr_again p w in
        let (x, w, h, l) = word ts h refl w in
        (x ∷ f, w, λ vs. rw (← l) (stmt_grammar.asserts_with_text h (p vs) i (q vs)))
    simple_again {ts = ts} (stmt_grammar.is_global c d h p) may w =
        let (f, w, p) = names_again p w in
        let (x, w, h, l) = word ts h refl w in
        (x ∷ f, w, λ vs. rw (← l) (stmt_grammar.is_global c d h (p vs)))
    simple_again {ts = ts} (stmt_grammar.is_del h p) may w =
        let (f, w, p) = places_again p w in
        let (x, w, h, l) = word ts h refl w in
        (x ∷ f, w, λ vs. rw (← l) (stmt_grammar.is_del h (p vs)))
    simple_again (stmt_grammar.is_value p) may w = let (f, w, p) = exprs_again p w in (f, w, λ vs. stmt_grammar.is_value (p vs))
    simple_again (stmt_grammar.is_augmented {us = us} p h q) may w =
        let (f, w, q) = exprs_again q w in
        let (x, w, h, l) = again_laws.mark Front step augmented_of augmented_inner us h w in
        let (f, w, p) = place_again p w in
        (f, w, λ vs. rw (← l) (stmt_grammar.is_augmented (p vs) h (q vs)))
    simple_again (stmt_grammar.is_assignment p q) may w =
        let (f, w, q) = exprs_again q w in
        let (f, w, p) = assigned_again p w in
        (f, w, λ vs. stmt_grammar.is_assignment (p vs) (q vs))
    simple_again (stmt_grammar.is_unpacking {us = us} p h q) may w =
        let (f, w, q) = exprs_again q w in
        let (x, w, h, l) = word us h refl w in
        let (f, w, p) = unpacked_again p w in
        (f, w, λ vs. stmt_grammar.is_unpacking (p vs) h (q vs))
