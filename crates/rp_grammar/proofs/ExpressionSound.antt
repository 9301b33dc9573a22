-- What is read is spelled so.
use Rattle.std.proofs.Common.{◌≡◌, ℕ, zero, suc, ◌≤◌, ◌==◌, append-nil, Bool, true, false, cond, List, [], ◌++◌, Option, Some, None, refl, sym, ap, subst, ◌∙◌, ◌⊎◌, inl, inr, arith}
use Rattle.std.proofs.lemmas.Bool.{eqb-true}
use Rattle.rp_base.specs.declared.operator.BinOp.{BinOp}
use Rattle.rp_base.specs.declared.operator.UnOp.{UnOp}
use Rattle.rp_base.specs.declared.operator.CmpOp.{CmpOp}
use Rattle.rp_base.specs.declared.value.Line.{Line}
use Rattle.rp_base.specs.declared.value.Name.{Name}
use Rattle.rp_token.specs.declared.token.TokenKind.{TokenKind}
use Rattle.rp_token.specs.declared.token.TokenKind.TheVariants as kind
use Rattle.rp_tree.specs.declared.parts.Test.{Test}
use Rattle.rp_tree.specs.declared.parts.Test.TheVariants.{Order, Within, NotWithin, IsNot}
use Rattle.rp_tree.specs.Expressions as tree
use Rattle.rp_tree.specs.Expressions.{Named, Expr, Exprs, Maybe, Pairs, Tests, Ops, Clause, Clauses, Target, Targets, Params, Plain, Trailer, Trailers, Arg, Args}
use Rattle.rp_grammar.specs.Kinds.{Tokens, first, line_at, skip, binary_of, looseness, loosest, unary_of, order_of}
use Rattle.rp_grammar.specs.Expressions as grammar
use Rattle.rp_grammar.specs.Expressions.{line_of, named, distinct, key_names, parameter_names, Stage, any, defaults, stars, star, closed, place_of}
use Rattle.rp_grammar.specs.Front.{is_comma, is_colon, is_equal, is_star, is_double_star, is_right_paren, is_right_bracket, is_right_brace, is_name, is_text, is_lambda, is_if, is_else, is_or, is_and, is_not, is_in, is_for, starts, starts_arg, starts_trailer}
use Rattle.rp_grammar.specs.ExpressionReading as reading
use Rattle.rp_grammar.specs.ExpressionReading.{Read, Readers, ◌>>=◌, after, many, listed}
use Rattle.rp_grammar.proofs.ExpressionMarks.{comma_is, colon_is, equal_is, star_is, double_star_is, right_paren_is, right_bracket_is, right_brace_is, lambda_is, if_is, else_is, or_is, and_is, not_is, in_is, for_is}
use Rattle.rp_grammar.proofs.Basics.{bind_some, some_is, chosen, guarded, tested, after_some, got, many_sound, many_first, listed_sound}
use Rattle.rp_grammar.proofs.Targets.{primary_target}

-- each answer of a reader is spelled by what it took
abbrev pub Sound : {A : Type 0} → (A → Tokens → Tokens → Type 0) → (Tokens → Read A) → Type 0
Sound {A} P read = (ts : Tokens) (x : A × Tokens) → read ts ≡ Some x → P x.0 ts x.1

pub record AreSound (rs : Readers) : Type 0 where
  pub expr : Sound grammar.IsExpr rs.expr
  pub or : Sound grammar.Or rs.or
  pub not : Sound grammar.Not rs.not
  pub unary : Sound grammar.Unary rs.unary
  pub primary : Sound grammar.Primary rs.primary

-- an item behind a token of this kind
record Behind {A : Type 0} (k : TokenKind) (P : A → Tokens → Tokens → Type 0) (x : A) (ts us : Tokens) : Type 0 where
  word : first ts ≡ k
  item : P x (skip ts) us

behind_sound : {A : Type 0} (is : TokenKind → Bool) (k : TokenKind) → ((j : TokenKind) → is j ≡ true → j ≡ k) → (P : A → Tokens → Tokens → Type 0) (read : Tokens → Read A) → Sound P read
    → (ts : Tokens) (x : A × Tokens) → reading.at is ts ≡ true → reading.behind read ts ≡ Some x → Behind k P x.0 ts x.1
behind_sound is k names P read sound ts x begun h = record { word = names (first ts) begun; item = sound (skip ts) x h }

alike_sound : {A : Type 0} (P : A → Tokens → Tokens → Type 0) (read : Tokens → Read A) → Sound P read → (u : Unit {0}) (ts : Tokens) (x : (A × Unit {0}) × Tokens) → reading.alike read u ts ≡ Some x → P x.0.0 ts x.1
alike_sound {A} P read sound u ts x h =
    let (y, found, all) = bind_some _ _ _ h in
    got (λ (z : A × Unit {0}) ts us. P z.0 ts us) ts all (sound ts y found)

-- a list between commas, of items of one kind
plain_list : {A L : Type 0} (nil : L) (cons : A → L → L) (begins : TokenKind → Bool) (read : Tokens → Read A) (P : A → Tokens → Tokens → Type 0) (R : L → Tokens → Tokens → Type 0)
    → ((ts : Tokens) → R nil ts ts)
    → ((x : A) (ts us : Tokens) → P x ts us → R (cons x nil) ts us)
    → ((x : A) (xs : L) (ts us vs : Tokens) → P x ts us → first us ≡ kind.Comma → R xs (skip us) vs → R (cons x xs) ts vs)
    → Sound P read → (n : ℕ) (ts : Tokens) (y : L × Tokens) → listed nil nil cons begins (reading.alike read) n tt ts ≡ Some y → R y.0 ts y.1
plain_list {A} {L} nil cons begins read P R ends last more sound n ts y h =
    listed_sound nil nil cons begins (reading.alike read) (λ (u : Unit {0}) (x : A × Unit {0}) ts us. P x.0 ts us) (λ (u : Unit {0}) xs ts us. R xs ts us)
    (λ u ts. ends ts) (λ u x ts us p. last x.0 ts us p) (λ u x xs ts us vs p i q. more x.0 xs ts us vs p i q) (λ u ts x h. alike_sound P read sound u ts x h) n tt ts y h

-- texts, none or several
abbrev SomeTexts : List ℕ → Tokens → Tokens → Type 0
SomeTexts s ts us = ((s ≡ []) × (ts ≡ us)) ⊎ grammar.Texts s ts us

text_goes : (s cs : List ℕ) (ts vs : Tokens) → first ts ≡ kind.Text s → SomeTexts cs (skip ts) vs → grammar.Texts (s ++ cs) ts vs
text_goes s cs ts vs h (inl (none, here)) = subst (λ (z : List ℕ). grammar.Texts z ts vs) (sym (append-nil s) ∙ ap (λ (z : List ℕ). s ++ z) (sym none)) (subst (λ (us : Tokens). grammar.Texts s ts us) here (grammar.one_text h))
text_goes s cs ts vs h (inr p) = grammar.more_texts h p

text_by_sound : (k : TokenKind) (ts : Tokens) (x : List ℕ × Tokens) → first ts ≡ k → reading.text_by k (skip ts) ≡ Some x → (first ts ≡ kind.Text x.0) × (skip ts ≡ x.1)
text_by_sound (kind.Text s) ts x is h = let same : ◌≡◌ {A = List ℕ × Tokens} (s, skip ts) x = some_is h in (is ∙ ap (λ (z : List ℕ × Tokens). kind.Text z.0) same, ap (λ (z : List ℕ × Tokens). z.1) same)
text_by_sound _ ts x is h = absurd cc

pub texts_sound : (s : List ℕ) (ts : Tokens) (x : List ℕ × Tokens) → first ts ≡ kind.Text s → reading.texts s (skip ts) ≡ Some x → grammar.Texts x.0 ts x.1
unfolding reading.texts
texts_sound s ts x is h =
    let (cs, found, all) = bind_some _ _ _ h in
    let some_more = many_sound [] (λ x xs. x ++ xs) (reading.at is_text) (λ us. reading.text_by (first us) (skip us)) (λ y us vs. (first us ≡ kind.Text y) × (skip us ≡ vs)) SomeTexts
    (λ ts. inl (refl, refl)) (λ y ys us vs ws p q. inr (text_goes y ys us ws p.0 (subst (λ (z : Tokens). SomeTexts ys z ws) (sym p.1) q))) (λ us y begun found. text_by_sound (first us) us y refl found) _ (skip ts) cs found in
    got grammar.Texts ts all (text_goes s cs.0 ts cs.1 is some_more)

name_by_sound : (k : TokenKind) (ts : Tokens) (n : Named × Tokens) → first ts ≡ k → reading.name_by k ts ≡ Some n → (m : Name) × (first ts ≡ kind.Name m) × (named m ts ≡ n.0) × (skip ts ≡ n.1)
name_by_sound (kind.Name m) ts n is h = let same : ◌≡◌ {A = Named × Tokens} (named m ts, skip ts) n = some_is h in (m, is, ap (λ (z : Named × Tokens). z.0) same, ap (λ (z : Named × Tokens). z.1) same)
name_by_sound _ ts n is h = absurd cc

abbrev read_some : {A : Type 0} → A → Option A
read_some x = Some x

module _ (rs : Readers) (inner : AreSound rs) where
  pub exprs_sound : (e : Expr) (ts : Tokens) (x : Exprs × Tokens) → reading.exprs rs e ts ≡ Some x → (es : Exprs) × grammar.Listed es ts x.1 × (tree.expr e es ≡ x.0)
  unfolding reading.exprs
  exprs_sound e ts x h =
      let (es, found, all) = bind_some _ _ _ h in
      let spelled = plain_list tree.no_exprs tree.expr starts rs.expr grammar.IsExpr grammar.Listed (λ ts. grammar.nothing) (λ x ts us p. grammar.last p) (λ x xs ts us vs p i q. grammar.more p i q) inner.expr _ ts es found in
      let same : ◌≡◌ {A = Exprs × Tokens} (tree.expr e es.0, es.1) x = some_is all in
      (es.0, subst (λ (us : Tokens). grammar.Listed es.0 ts us) (ap (λ (z : Exprs × Tokens). z.1) same) spelled, ap (λ (z : Exprs × Tokens). z.0) same)

  others_sound : (e : Expr) (ts us : Tokens) (x : Exprs × Tokens) → grammar.IsExpr e ts us → reading.others rs e us ≡ Some x → grammar.Listed x.0 ts x.1
  unfolding reading.others
  others_sound e ts us x p h =
      elim (chosen (is_comma (first us)) _ _ _ h) [
        | inl (comma, h) ↦
            let (es, spelled, same) = exprs_sound e (skip us) x h in
            subst (λ (z : Exprs). grammar.Listed z ts x.1) same (grammar.more p (comma_is _ comma) spelled)
        | inr (no_comma, h) ↦ got grammar.Listed ts h (grammar.last p)
      ]

  pub part_sound : (ts : Tokens) (x : Target × Tokens) → reading.part rs ts ≡ Some x → (line : Line) × grammar.Part x.0 line ts x.1
  unfolding reading.part
  part_sound ts x h =
      let (e, found, more) = bind_some _ _ _ h in
      let (p, converts, all) = bind_some _ _ _ more in
      (line_of e.0, got (λ (z : Target) ts us. grammar.Part z (line_of e.0) ts us) ts all (primary_target (inner.primary ts e found) converts))

  parts_sound : (p : Target) (ts : Tokens) (x : Targets × Tokens) → reading.parts rs p ts ≡ Some x → (ps : Targets) × grammar.Targeted ps ts x.1 × (tree.target p ps ≡ x.0)
  unfolding reading.parts
  parts_sound p ts x h =
      let (ps, found, all) = bind_some _ _ _ h in
      let spelled = plain_list tree.no_targets tree.target starts (reading.part rs) (λ p ts us. (line : Line) × grammar.Part p line ts us) grammar.Targeted (λ ts. grammar.no_part) (λ x ts us p. grammar.last_part p.1) (λ x xs ts us vs p i q. grammar.more_parts p.1 i q) part_sound _ ts ps found in
      let same : ◌≡◌ {A = Targets × Tokens} (tree.target p ps.0, ps.1) x = some_is all in
      (ps.0, subst (λ (us : Tokens). grammar.Targeted ps.0 ts us) (ap (λ (z : Targets × Tokens). z.1) same) spelled, ap (λ (z : Targets × Tokens). z.0) same)

  pub target_sound : (ts : Tokens) (x : Target × Tokens) → reading.target rs ts ≡ Some x → (line : Line) × grammar.IsTarget x.0 line ts x.1
  unfolding reading.target
  target_sound ts x h =
      let (p, found, more) = bind_some _ _ _ h in
      let (line, part) = part_sound ts p found in
      elim (chosen (is_comma (first p.1)) _ _ _ more) [
        | inl (comma, h) ↦
            let (qs, found, all) = bind_some _ _ _ h in
            let (ps, spelled, same) = parts_sound p.0 (skip p.1) qs found in
            (line, got (λ (z : Target) ts us. grammar.IsTarget z line ts us) ts all (subst (λ (z : Targets). grammar.IsTarget (tree.group z) line ts qs.1) same (grammar.target_parts (grammar.parts part (comma_is _ comma) spelled))))
        | inr (no_comma, h) ↦ (line, got (λ (z : Target) ts us. grammar.IsTarget z line ts us) ts h (grammar.target_part part))
      ]

  ifs_sound : Sound grammar.Ifs (reading.ifs rs)
  unfolding reading.ifs
  ifs_sound ts x h =
      many_sound tree.no_exprs tree.expr (reading.at is_if) (reading.behind rs.or) (Behind kind.If grammar.Or) grammar.Ifs (λ ts. grammar.ifs_end) (λ x xs ts us vs p q. grammar.ifs_go p.word p.item q) (behind_sound is_if kind.If if_is grammar.Or rs.or inner.or) _ ts x h

  -- behind `for`
  clause_sound : (ts : Tokens) (x : Clause × Tokens) → first ts ≡ kind.For → reading.clause rs (skip ts) ≡ Some x → grammar.IsClause x.0 ts x.1
  unfolding reading.clause
  clause_sound ts x begun h =
      let (p, found, more) = bind_some _ _ _ h in
      let (line, target) = target_sound (skip ts) p found in
      let (comes, more) = after_some is_in p.1 _ _ more in
      let (e, found, more) = bind_some _ _ _ more in
      let (es, tested, all) = bind_some _ _ _ more in
      got grammar.IsClause ts all (grammar.a_clause begun target (in_is _ comes) (inner.or (skip p.1) e found) (ifs_sound e.1 es tested))

  pub clause_begun : (ts : Tokens) (x : Clause × Tokens) → reading.at is_for ts ≡ true → reading.behind (reading.clause rs) ts ≡ Some x → grammar.IsClause x.0 ts x.1
  clause_begun ts x begun h = clause_sound ts x (for_is _ begun) h

  clauses_more : (n : ℕ) → Sound grammar.IsClauses (many tree.no_clauses tree.clause (reading.at is_for) (reading.behind (reading.clause rs)) n)
  clauses_more n ts x h = many_sound tree.no_clauses tree.clause (reading.at is_for) (reading.behind (reading.clause rs)) grammar.IsClause grammar.IsClauses (λ ts. grammar.clauses_end) (λ x xs ts us vs p q. grammar.clauses_go p q) clause_begun n ts x h

  -- at `for`
  clauses_sound : (ts : Tokens) (x : Clauses × Tokens) → is_for (first ts) ≡ true → reading.clauses rs ts ≡ Some x
      → (c : Clause) × (cs : Clauses) × (us : Tokens) × grammar.IsClause c ts us × grammar.IsClauses cs us x.1 × (tree.clause c cs ≡ x.0)
  unfolding reading.clauses
  clauses_sound ts x begun h =
      let (c, n, cs, found, others, same) = many_first tree.no_clauses tree.clause (reading.at is_for) (reading.behind (reading.clause rs)) _ ts x begun h in
      let pair : ◌≡◌ {A = Clauses × Tokens} (tree.clause c.0 cs.0, cs.1) x = same in
      (c.0, cs.0, c.1, clause_begun ts c begun found, subst (λ (us : Tokens). grammar.IsClauses cs.0 c.1 us) (ap (λ (z : Clauses × Tokens). z.1) pair) (clauses_more n c.1 cs others), ap (λ (z : Clauses × Tokens). z.0) pair)

  parenthesized_sound : (ts : Tokens) (x : Expr × Tokens) → first ts ≡ kind.LeftParen → reading.parenthesized rs (line_at ts) (skip ts) ≡ Some x → grammar.Atom x.0 ts x.1
  unfolding reading.parenthesized
  parenthesized_sound ts x begun h =
      elim (chosen (is_right_paren (first (skip ts))) _ _ _ h) [
        | inl (closes, h) ↦ got grammar.Atom ts h (grammar.unit begun (right_paren_is _ closes))
        | inr (other, h) ↦
            let (e, found, more) = bind_some _ _ _ h in
            let front = inner.expr (skip ts) e found in
            elim (chosen (is_comma (first e.1)) _ _ _ more) [
              | inl (comma, h) ↦
                  let (es, found, more) = bind_some _ _ _ h in
                  let (others, spelled, same) = exprs_sound e.0 (skip e.1) es found in
                  let (closes, all) = after_some is_right_paren es.1 _ _ more in
                  got grammar.Atom ts all (subst (λ (z : Exprs). grammar.Atom (tree.node (line_at ts) (tree.tuple z)) ts (skip es.1)) same (grammar.tuple begun front (comma_is _ comma) spelled (right_paren_is _ closes)))
              | inr (no_comma, h) ↦
                  let (closes, all) = after_some is_right_paren e.1 _ _ h in
                  got grammar.Atom ts all (grammar.paren begun front (right_paren_is _ closes))
            ]
      ]

  bracketed_sound : (ts : Tokens) (x : Expr × Tokens) → first ts ≡ kind.LeftBracket → reading.bracketed rs (line_at ts) (skip ts) ≡ Some x → grammar.Atom x.0 ts x.1
  unfolding reading.bracketed
  bracketed_sound ts x begun h =
      elim (chosen (is_right_bracket (first (skip ts))) _ _ _ h) [
        | inl (closes, h) ↦ got grammar.Atom ts h (grammar.list begun grammar.nothing (right_bracket_is _ closes))
        | inr (other, h) ↦
            let (e, found, more) = bind_some _ _ _ h in
            let front = inner.expr (skip ts) e found in
            elim (chosen (is_for (first e.1)) _ _ _ more) [
              | inl (for_comes, h) ↦
                  let (cs, found, more) = bind_some _ _ _ h in
                  let (c, others, us, spelled, further, same) = clauses_sound e.1 cs for_comes found in
                  let (closes, all) = after_some is_right_bracket cs.1 _ _ more in
                  got grammar.Atom ts all (subst (λ (z : Clauses). grammar.Atom (tree.node (line_at ts) (tree.list_of 0 e.0 z)) ts (skip cs.1)) same (grammar.list_of begun front spelled further (right_bracket_is _ closes)))
              | inr (no_for, h) ↦
                  let (es, found, more) = bind_some _ _ _ h in
                  let (closes, all) = after_some is_right_bracket es.1 _ _ more in
                  got grammar.Atom ts all (grammar.list begun (others_sound e.0 (skip ts) e.1 es front found) (right_bracket_is _ closes))
            ]
      ]

  -- a key and its value
  abbrev PairAt : Expr × Expr → Tokens → Tokens → Type 0
  PairAt p ts us = (vs : Tokens) × grammar.IsExpr p.0 ts vs × (first vs ≡ kind.Colon) × grammar.IsExpr p.1 (skip vs) us

  pub pair_sound : Sound PairAt (reading.pair rs)
  unfolding reading.pair
  pair_sound ts x h =
      let (k, found, more) = bind_some _ _ _ h in
      let (comes, more) = after_some is_colon k.1 _ _ more in
      let (e, read, all) = bind_some _ _ _ more in
      got PairAt ts all (k.1, inner.expr ts k found, colon_is _ comes, inner.expr (skip k.1) e read)

  other_pairs_sound : (p : Expr × Expr) (ts us : Tokens) (x : Pairs × Tokens) → PairAt p ts us → reading.other_pairs rs p us ≡ Some x → grammar.Paired x.0 ts x.1
  unfolding reading.other_pairs reading.pairs
  other_pairs_sound p ts us x q h =
      elim (chosen (is_comma (first us)) _ _ _ h) [
        | inl (comma, h) ↦
            let (ps, found, all) = bind_some _ _ _ h in
            let spelled = plain_list tree.no_pairs reading.with_pair starts (reading.pair rs) PairAt grammar.Paired (λ ts. grammar.no_pair) (λ x ts us p. grammar.last_pair p.1 p.2 p.3) (λ x xs ts us vs p i q. grammar.more_pairs p.1 p.2 p.3 i q) pair_sound _ (skip us) ps found in
            got grammar.Paired ts all (grammar.more_pairs q.1 q.2 q.3 (comma_is _ comma) spelled)
        | inr (no_comma, h) ↦ got grammar.Paired ts h (grammar.last_pair q.1 q.2 q.3)
      ]

  braced_sound : (ts : Tokens) (x : Expr × Tokens) → first ts ≡ kind.LeftBrace → reading.braced rs (line_at ts) (skip ts) ≡ Some x → grammar.Atom x.0 ts x.1
  unfolding reading.braced
  braced_sound ts x begun h =
      elim (chosen (is_right_brace (first (skip ts))) _ _ _ h) [
        | inl (closes, h) ↦ got grammar.Atom ts h (grammar.dict begun grammar.no_pair (right_brace_is _ closes))
        | inr (other, h) ↦
            let (p, found, more) = bind_some _ _ _ h in
            let front = pair_sound (skip ts) p found in
            elim (chosen (is_for (first p.1)) _ _ _ more) [
              | inl (for_comes, h) ↦
                  let (cs, found, more) = bind_some _ _ _ h in
                  let (c, others, us, spelled, further, same) = clauses_sound p.1 cs for_comes found in
                  let (closes, all) = after_some is_right_brace cs.1 _ _ more in
                  got grammar.Atom ts all (subst (λ (z : Clauses). grammar.Atom (tree.node (line_at ts) (tree.dict_of 0 p.0.0 p.0.1 z)) ts (skip cs.1)) same (grammar.dict_of begun front.1 front.2 front.3 spelled further (right_brace_is _ closes)))
              | inr (no_for, h) ↦
                  let (ps, found, more) = bind_some _ _ _ h in
                  let (closes, all) = after_some is_right_brace ps.1 _ _ more in
                  got grammar.Atom ts all (grammar.dict begun (other_pairs_sound p.0 (skip ts) p.1 ps front found) (right_brace_is _ closes))
            ]
      ]

  atom_by_sound : (k : TokenKind) (ts : Tokens) (x : Expr × Tokens) → first ts ≡ k → reading.atom_by k rs (line_at ts) (skip ts) ≡ Some x → grammar.Atom x.0 ts x.1
  atom_by_sound (kind.Name n) ts x is h = got grammar.Atom ts h (grammar.name is)
  atom_by_sound (kind.Int n) ts x is h = got grammar.Atom ts h (grammar.int is)
  atom_by_sound (kind.Text s) ts x is h = let (cs, found, all) = bind_some _ _ _ h in got grammar.Atom ts all (grammar.text (texts_sound s ts cs is found))
  atom_by_sound kind.None ts x is h = got grammar.Atom ts h (grammar.nil is)
  atom_by_sound kind.True ts x is h = got grammar.Atom ts h (grammar.truth is)
  atom_by_sound kind.False ts x is h = got grammar.Atom ts h (grammar.falsity is)
  atom_by_sound kind.LeftParen ts x is h = parenthesized_sound ts x is h
  atom_by_sound kind.LeftBracket ts x is h = bracketed_sound ts x is h
  atom_by_sound kind.LeftBrace ts x is h = braced_sound ts x is h
  atom_by_sound _ ts x is h = absurd cc

  atom_sound : Sound grammar.Atom (reading.atom rs)
  unfolding reading.atom
  atom_sound ts x h = atom_by_sound (first ts) ts x refl h

  -- ---- trailers

  -- an argument, and whether it has a name
  abbrev ArgAt : Bool → Arg × Bool → Tokens → Tokens → Type 0
  ArgAt named x ts us = (named ≡ true → x.1 ≡ true) × grammar.IsArg x.1 x.0 ts us

  positional_sound : (named : Bool) (ts : Tokens) (x : (Arg × Bool) × Tokens) → reading.positional rs named ts ≡ Some x → ArgAt named x.0 ts x.1
  unfolding reading.positional
  positional_sound true ts x h = absurd cc
  positional_sound false ts x h = let (e, found, all) = bind_some _ _ _ h in got (ArgAt false) ts all (λ e. absurd cc, grammar.value (inner.expr ts e found))

  starred_sound : (named : Bool) (ts : Tokens) (x : (Arg × Bool) × Tokens) → first ts ≡ kind.Star → reading.starred rs named (skip ts) ≡ Some x → ArgAt named x.0 ts x.1
  unfolding reading.starred
  starred_sound true ts x begun h = absurd cc
  starred_sound false ts x begun h = let (e, found, all) = bind_some _ _ _ h in got (ArgAt false) ts all (λ e. absurd cc, grammar.starred begun (inner.expr (skip ts) e found))

  named_sound : (b : Bool) (n : Name) (named : Bool) (ts : Tokens) (x : (Arg × Bool) × Tokens) → first ts ≡ kind.Name n → is_equal (first (skip ts)) ≡ b → reading.arg_by (kind.Name n) b rs named ts ≡ Some x → ArgAt named x.0 ts x.1
  named_sound true n named ts x begun is h = let (e, found, all) = bind_some _ _ _ h in got (ArgAt named) ts all (λ e. refl, grammar.key begun (equal_is _ is) (inner.expr (skip (skip ts)) e found))
  named_sound false n named ts x begun is h = positional_sound named ts x h

  arg_by_sound : (k : TokenKind) (named : Bool) (ts : Tokens) (x : (Arg × Bool) × Tokens) → first ts ≡ k → reading.arg_by k (is_equal (first (skip ts))) rs named ts ≡ Some x → ArgAt named x.0 ts x.1
  arg_by_sound kind.Star named ts x is h = starred_sound named ts x is h
  arg_by_sound kind.DoubleStar named ts x is h = let (e, found, all) = bind_some _ _ _ h in got (ArgAt named) ts all (λ e. refl, grammar.double_starred is (inner.expr (skip ts) e found))
  arg_by_sound (kind.Name n) named ts x is h = named_sound (is_equal (first (skip ts))) n named ts x is refl h
  arg_by_sound _ named ts x is h = positional_sound named ts x h

  pub arg_sound : (named : Bool) (ts : Tokens) (x : (Arg × Bool) × Tokens) → reading.arg rs named ts ≡ Some x → ArgAt named x.0 ts x.1
  unfolding reading.arg
  arg_sound named ts x h = arg_by_sound (first ts) named ts x refl h

  arg_last : (s named : Bool) (x : Arg) (ts us : Tokens) → (s ≡ true → named ≡ true) → grammar.IsArg named x ts us → grammar.IsArgs s (tree.arg x tree.no_args) ts us
  arg_last true true x ts us kept p = grammar.last_arg p
  arg_last false true x ts us kept p = grammar.args_with_names (grammar.last_arg p)
  arg_last false false x ts us kept p = grammar.last_arg p
  arg_last true false x ts us kept p = absurd (let e : false ≡ true = kept refl in cc)

  arg_more : (s named : Bool) (x : Arg) (xs : Args) (ts us vs : Tokens) → (s ≡ true → named ≡ true) → grammar.IsArg named x ts us → first us ≡ kind.Comma → grammar.IsArgs named xs (skip us) vs → grammar.IsArgs s (tree.arg x xs) ts vs
  arg_more true true x xs ts us vs kept p i q = grammar.more_args p i q
  arg_more false true x xs ts us vs kept p i q = grammar.args_with_names (grammar.more_args p i q)
  arg_more false false x xs ts us vs kept p i q = grammar.more_args p i q
  arg_more true false x xs ts us vs kept p i q = absurd (let e : false ≡ true = kept refl in cc)

  args_sound : Sound (grammar.IsArgs false) (reading.args rs)
  unfolding reading.args
  args_sound ts x h =
      listed_sound tree.no_args tree.no_args tree.arg starts_arg (reading.arg rs) ArgAt grammar.IsArgs (λ s ts. grammar.no_arg) (λ s x ts us p. arg_last s x.1 x.0 ts us p.0 p.1) (λ s x xs ts us vs p i q. arg_more s x.1 x.0 xs ts us vs p.0 p.1 i q)
      arg_sound _ false ts x h

  called_sound : (ts : Tokens) (x : Trailer × Tokens) → first ts ≡ kind.LeftParen → reading.called rs (skip ts) ≡ Some x → grammar.IsTrailer x.0 ts x.1
  unfolding reading.called
  called_sound ts x begun h =
      let (xs, found, more) = bind_some _ _ _ h in
      let (each_once, more) = tested (distinct (key_names xs.0)) _ _ more in
      let (closes, all) = after_some is_right_paren xs.1 _ _ more in
      got grammar.IsTrailer ts all (grammar.call begun (args_sound (skip ts) xs found) each_once (right_paren_is _ closes))

  maybe_sound : Sound grammar.IsMaybe (reading.maybe rs)
  unfolding reading.maybe
  maybe_sound ts x h =
      elim (chosen (starts (first ts)) _ _ _ h) [
        | inl (begun, h) ↦ let (e, found, all) = bind_some _ _ _ h in got grammar.IsMaybe ts all (grammar.present (inner.expr ts e found))
        | inr (over, h) ↦ got grammar.IsMaybe ts h grammar.missing
      ]

  slice_sound : (a : Maybe) (ts us : Tokens) (x : Trailer × Tokens) → first ts ≡ kind.LeftBracket → grammar.IsMaybe a (skip ts) us → first us ≡ kind.Colon → reading.slice rs a (skip us) ≡ Some x → grammar.IsTrailer x.0 ts x.1
  unfolding reading.slice
  slice_sound a ts us x begun p i h =
      let (b, found, more) = bind_some _ _ _ h in
      let to = maybe_sound (skip us) b found in
      elim (chosen (is_colon (first b.1)) _ _ _ more) [
        | inl (colon, h) ↦
            let (c, found, more) = bind_some _ _ _ h in
            let (closes, all) = after_some is_right_bracket c.1 _ _ more in
            got grammar.IsTrailer ts all (grammar.stepped begun p i to (colon_is _ colon) (maybe_sound (skip b.1) c found) (right_bracket_is _ closes))
        | inr (no_colon, h) ↦
            let (closes, all) = after_some is_right_bracket b.1 _ _ h in
            got grammar.IsTrailer ts all (grammar.slice begun p i to (right_bracket_is _ closes))
      ]

  subscript_sound : (ts : Tokens) (x : Trailer × Tokens) → first ts ≡ kind.LeftBracket → reading.subscript rs (skip ts) ≡ Some x → grammar.IsTrailer x.0 ts x.1
  unfolding reading.subscript
  subscript_sound ts x begun h =
      elim (chosen (is_colon (first (skip ts))) _ _ _ h) [
        | inl (colon, h) ↦ slice_sound tree.none ts (skip ts) x begun grammar.missing (colon_is _ colon) h
        | inr (other, h) ↦
            let (e, found, more) = bind_some _ _ _ h in
            let item = inner.expr (skip ts) e found in
            elim (chosen (is_colon (first e.1)) _ _ _ more) [
              | inl (colon, h) ↦ slice_sound (tree.some e.0) ts e.1 x begun (grammar.present item) (colon_is _ colon) h
              | inr (no_colon, h) ↦
                  let (closes, all) = after_some is_right_bracket e.1 _ _ h in
                  got grammar.IsTrailer ts all (grammar.item begun item (right_bracket_is _ closes))
            ]
      ]

  attr_sound : (ts : Tokens) (x : Trailer × Tokens) → first ts ≡ kind.Dot → reading.attr (skip ts) ≡ Some x → grammar.IsTrailer x.0 ts x.1
  unfolding reading.attr
  attr_sound ts x dot h =
      let (n, found, all) = bind_some _ _ _ h in
      let (m, is, name, behind) = name_by_sound (first (skip ts)) (skip ts) n refl found in
      got grammar.IsTrailer ts all (subst (λ (us : Tokens). grammar.IsTrailer (tree.attr n.0 None) ts us) behind (subst (λ (z : Named). grammar.IsTrailer (tree.attr z None) ts (skip (skip ts))) name (grammar.attr dot is)))

  trailer_by_sound : (k : TokenKind) (ts : Tokens) (x : Trailer × Tokens) → first ts ≡ k → reading.trailer_by k rs (skip ts) ≡ Some x → grammar.IsTrailer x.0 ts x.1
  trailer_by_sound kind.Dot ts x is h = attr_sound ts x is h
  trailer_by_sound kind.LeftBracket ts x is h = subscript_sound ts x is h
  trailer_by_sound kind.LeftParen ts x is h = called_sound ts x is h
  trailer_by_sound _ ts x is h = absurd cc

  pub trailer_sound : Sound grammar.IsTrailer (reading.trailer rs)
  unfolding reading.trailer
  trailer_sound ts x h = trailer_by_sound (first ts) ts x refl h

  pub primary_sound : Sound grammar.Primary (reading.primary rs)
  unfolding reading.primary reading.trailers
  primary_sound ts y h =
      let (e, found, more) = bind_some _ _ _ h in
      let base = atom_sound ts e found in
      elim (chosen (starts_trailer (first e.1)) _ _ _ more) [
        | inl (begun, h) ↦
            let (xs, trail, all) = bind_some _ _ _ h in
            let (x, n, others, one, further, same) = many_first tree.no_trailers tree.trailer (reading.at starts_trailer) (reading.trailer rs) _ e.1 xs begun trail in
            let rest = many_sound tree.no_trailers tree.trailer (reading.at starts_trailer) (reading.trailer rs) grammar.IsTrailer grammar.Trail (λ ts. grammar.ends) (λ x xs ts us vs p q. grammar.goes p q) (λ ts x begun h. trailer_sound ts x h) n x.1 others further in
            got grammar.Primary ts all (got (λ (z : Trailers) ts us. grammar.Primary (tree.node (line_of e.0) (tree.primary e.0 z)) ts us) ts (ap read_some same) (grammar.trailed base (trailer_sound e.1 x one) rest))
        | inr (over, h) ↦ got grammar.Primary ts h (grammar.bare base)
      ]

  -- ---- operators

  power_sound : Sound grammar.Power (reading.power rs)
  unfolding reading.power
  power_sound ts x h =
      let (e, found, more) = bind_some _ _ _ h in
      let base = primary_sound ts e found in
      elim (chosen (is_double_star (first e.1)) _ _ _ more) [
        | inl (comes, h) ↦ let (f, found, all) = bind_some _ _ _ h in got grammar.Power ts all (grammar.raised base (double_star_is _ comes) (inner.unary (skip e.1) f found))
        | inr (over, h) ↦ got grammar.Power ts h (grammar.base base)
      ]

  unary_by_sound : (o : Option UnOp) (ts : Tokens) (x : Expr × Tokens) → unary_of (first ts) ≡ o → reading.unary_by o rs ts ≡ Some x → grammar.Unary x.0 ts x.1
  unary_by_sound None ts x is h = grammar.unsigned (power_sound ts x h)
  unary_by_sound (Some o) ts x is h = let (e, found, all) = bind_some _ _ _ h in got grammar.Unary ts all (grammar.signed is (inner.unary (skip ts) e found))

  pub unary_sound : Sound grammar.Unary (reading.unary rs)
  unfolding reading.unary
  unary_sound ts x h = unary_by_sound (unary_of (first ts)) ts x refl h

-- an operator of this looseness, and an operand
abbrev OperationAt : ℕ → BinOp × Expr → Tokens → Tokens → Type 0
OperationAt k x ts us = (binary_of (first ts) ≡ Some x.0) × (looseness x.0 ≡ suc k) × grammar.Chain k x.1 (skip ts) us

operator_sound : (k : ℕ) (j : TokenKind) (o : BinOp) → reading.operator_of k j ≡ Some o → (binary_of j ≡ Some o) × (looseness o ≡ k)
operator_sound k j o h =
    let (p, found, more) = bind_some _ _ _ h in
    let (loose, same) = guarded (looseness p == k) p o more in
    (found ∙ ap read_some same, ap looseness (sym same) ∙ eqb-true _ _ loose)

pub operation_sound : (k : ℕ) (read : Tokens → Read Expr) → Sound (grammar.Chain k) read → Sound (OperationAt k) (reading.operation (suc k) read)
operation_sound k read sound ts x h =
    let (o, found, more) = bind_some _ _ _ h in
    let (binary, loose) = operator_sound (suc k) (first ts) o found in
    let (e, operand, all) = bind_some _ _ _ more in
    got (OperationAt k) ts all (binary, loose, sound (skip ts) e operand)

-- an operator of comparison, and what it compares with
abbrev TestAt : Test × Expr → Tokens → Tokens → Type 0
TestAt x ts us = grammar.Tested x.0 x.1 ts us

module _ (rs : Readers) (inner : AreSound rs) where
  pub chain_sound : (k : ℕ) → Sound (grammar.Chain k) (reading.chain rs k)
  unfolding reading.chain reading.chained_at
  chain_sound zero ts x h = grammar.operand (unary_sound rs inner ts x h)
  chain_sound (suc k) ts y h =
      let (e, found, more) = bind_some _ _ _ h in
      let base = chain_sound k ts e found in
      elim (chosen (reading.is_some (reading.operator_of (suc k) (first e.1))) _ _ _ more) [
        | inl (begun, h) ↦
            let (os, chained, all) = bind_some _ _ _ h in
            let (x, n, others, one, further, same) = many_first tree.no_ops reading.with_op (reading.at (λ j. reading.is_some (reading.operator_of (suc k) j))) (reading.operation (suc k) (reading.chain rs k)) _ e.1 os begun chained in
            let (binary, loose, right) = operation_sound k (reading.chain rs k) (chain_sound k) e.1 x one in
            let rest = many_sound tree.no_ops reading.with_op (reading.at (λ j. reading.is_some (reading.operator_of (suc k) j))) (reading.operation (suc k) (reading.chain rs k)) (OperationAt k) (grammar.Chained k) (λ ts. grammar.chain_ends) (λ x xs ts us vs p q. grammar.chain_goes p.0 p.1 p.2 q)
            (λ ts x begun h. operation_sound k (reading.chain rs k) (chain_sound k) ts x h) n x.1 others further in
            got (grammar.Chain (suc k)) ts all (got (λ (z : Ops) ts us. grammar.Chain (suc k) (tree.node (line_of e.0) (tree.chain e.0 z)) ts us) ts (ap read_some same) (grammar.chained base binary loose right rest))
        | inr (over, h) ↦ got (grammar.Chain (suc k)) ts h (grammar.tighter base)
      ]

  compared_sound : (x : Test) (ts us : Tokens) (y : (Test × Expr) × Tokens) → grammar.IsTest x ts us → reading.compared_with rs x us ≡ Some y → TestAt y.0 ts y.1
  compared_sound x ts us y p h = let (e, found, all) = bind_some _ _ _ h in got TestAt ts all (grammar.test p (chain_sound loosest us e found))

  order_sound : (o : Option CmpOp) (ts : Tokens) (x : (Test × Expr) × Tokens) → order_of (first ts) ≡ o → (o >>= λ o. reading.compared_with rs (Order o) (skip ts)) ≡ Some x → TestAt x.0 ts x.1
  order_sound None ts x is h = absurd cc
  order_sound (Some o) ts x is h = compared_sound (Order o) ts (skip ts) x (grammar.order is) h

  not_in_sound : (ts : Tokens) (x : (Test × Expr) × Tokens) → first ts ≡ kind.Not → reading.test_by kind.Not rs (skip ts) ≡ Some x → TestAt x.0 ts x.1
  not_in_sound ts x is h =
      let (comes, more) = after_some is_in (skip ts) _ _ h in
      compared_sound NotWithin ts (skip (skip ts)) x (grammar.not_within is (in_is _ comes)) more

  is_not_sound : (k : TokenKind) (ts : Tokens) (x : (Test × Expr) × Tokens) → first ts ≡ kind.Is → first (skip ts) ≡ kind.Not → first (skip (skip ts)) ≡ k → reading.nil_by k IsNot (skip (skip ts)) ≡ Some x → TestAt x.0 ts x.1
  is_not_sound kind.None ts x is i j h = got TestAt ts h (grammar.is_not_none is i j)
  is_not_sound _ ts x is i j h = absurd cc

  is_sound : (k : TokenKind) (ts : Tokens) (x : (Test × Expr) × Tokens) → first ts ≡ kind.Is → first (skip ts) ≡ k → reading.is_by k (skip ts) ≡ Some x → TestAt x.0 ts x.1
  is_sound kind.Not ts x is i h = is_not_sound (first (skip (skip ts))) ts x is i refl h
  is_sound kind.None ts x is i h = got TestAt ts h (grammar.is_none is i)
  is_sound _ ts x is i h = absurd cc

  test_by_sound : (k : TokenKind) (ts : Tokens) (x : (Test × Expr) × Tokens) → first ts ≡ k → reading.test_by k rs (skip ts) ≡ Some x → TestAt x.0 ts x.1
  test_by_sound kind.In ts x is h = compared_sound Within ts (skip ts) x (grammar.within is) h
  test_by_sound kind.Not ts x is h = not_in_sound ts x is h
  test_by_sound kind.Is ts x is h = is_sound (first (skip ts)) ts x is refl h
  test_by_sound k ts x is h = order_sound _ ts x (ap order_of is) h

  pub test_sound : Sound TestAt (reading.comparison rs)
  unfolding reading.comparison
  test_sound ts x h = test_by_sound (first ts) ts x refl h

  compare_sound : Sound grammar.Compare (reading.compare rs)
  unfolding reading.compare reading.tests
  compare_sound ts y h =
      let (e, found, more) = bind_some _ _ _ h in
      let base = chain_sound loosest ts e found in
      elim (chosen (reading.at_test e.1) _ _ _ more) [
        | inl (begun, h) ↦
            let (xs, tested, all) = bind_some _ _ _ h in
            let (x, n, others, one, further, same) = many_first tree.no_tests reading.with_test reading.at_test (reading.comparison rs) _ e.1 xs begun tested in
            let rest = many_sound tree.no_tests reading.with_test reading.at_test (reading.comparison rs) TestAt grammar.Compared (λ ts. grammar.tests_end) (λ x xs ts us vs p q. grammar.tests_go p q) (λ ts x begun h. test_sound ts x h) n x.1 others further in
            got grammar.Compare ts all (got (λ (z : Tests) ts us. grammar.Compare (tree.node (line_of e.0) (tree.compare e.0 z)) ts us) ts (ap read_some same) (grammar.compared base (test_sound e.1 x one) rest))
        | inr (over, h) ↦ got grammar.Compare ts h (grammar.single base)
      ]

  pub not_sound : Sound grammar.Not (reading.not rs)
  unfolding reading.not
  not_sound ts x h =
      elim (chosen (is_not (first ts)) _ _ _ h) [
        | inl (comes, h) ↦ let (e, found, all) = bind_some _ _ _ h in got grammar.Not ts all (grammar.negated (not_is _ comes) (inner.not (skip ts) e found))
        | inr (other, h) ↦ grammar.asserted (compare_sound ts x h)
      ]

  pub and_sound : Sound grammar.And (reading.and rs)
  unfolding reading.and reading.ands
  and_sound ts y h =
      let (e, found, more) = bind_some _ _ _ h in
      let base = not_sound ts e found in
      elim (chosen (is_and (first e.1)) _ _ _ more) [
        | inl (begun, h) ↦
            let (all_of, listed, all) = bind_some _ _ _ h in
            let (es, several, together) = bind_some _ _ _ listed in
            let (f, n, others, one, further, same) = many_first tree.no_exprs tree.expr (reading.at is_and) (reading.behind (reading.not rs)) _ e.1 es begun several in
            let rest = many_sound tree.no_exprs tree.expr (reading.at is_and) (reading.behind (reading.not rs)) (Behind kind.And grammar.Not) grammar.Ands (λ ts. grammar.ands_end) (λ x xs ts us vs p q. grammar.ands_go p.word p.item q) (behind_sound is_and kind.And and_is grammar.Not (reading.not rs) not_sound) n f.1 others further in
            let spelled = grammar.and_several base (and_is _ begun) (not_sound (skip e.1) f one) rest in
            got grammar.And ts all (got (λ (z : Exprs) ts us. grammar.And (tree.node (line_of e.0) (tree.and z)) ts us) ts together (got (λ (z : Exprs) ts us. grammar.And (tree.node (line_of e.0) (tree.and (tree.expr e.0 z))) ts us) ts (ap read_some same) spelled))
        | inr (over, h) ↦ got grammar.And ts h (grammar.and_single base)
      ]

  pub or_sound : Sound grammar.Or (reading.or rs)
  unfolding reading.or reading.ors
  or_sound ts y h =
      let (e, found, more) = bind_some _ _ _ h in
      let base = and_sound ts e found in
      elim (chosen (is_or (first e.1)) _ _ _ more) [
        | inl (begun, h) ↦
            let (all_of, listed, all) = bind_some _ _ _ h in
            let (es, several, together) = bind_some _ _ _ listed in
            let (f, n, others, one, further, same) = many_first tree.no_exprs tree.expr (reading.at is_or) (reading.behind (reading.and rs)) _ e.1 es begun several in
            let rest = many_sound tree.no_exprs tree.expr (reading.at is_or) (reading.behind (reading.and rs)) (Behind kind.Or grammar.And) grammar.Ors (λ ts. grammar.ors_end) (λ x xs ts us vs p q. grammar.ors_go p.word p.item q) (behind_sound is_or kind.Or or_is grammar.And (reading.and rs) and_sound) n f.1 others further in
            let spelled = grammar.or_several base (or_is _ begun) (and_sound (skip e.1) f one) rest in
            got grammar.Or ts all (got (λ (z : Exprs) ts us. grammar.Or (tree.node (line_of e.0) (tree.or z)) ts us) ts together (got (λ (z : Exprs) ts us. grammar.Or (tree.node (line_of e.0) (tree.or (tree.expr e.0 z))) ts us) ts (ap read_some same) spelled))
        | inr (over, h) ↦ got grammar.Or ts h (grammar.or_single base)
      ]

-- ---- parameters

-- what parameters may come where defaults have come or not
abbrev pub stage_of : Bool → Stage
stage_of true = defaults
stage_of false = any

plain_stage : (d : Bool) → place_of (stage_of d) ≤ 1
plain_stage true = omega arith
plain_stage false = omega arith

-- a parameter without a star: what may follow it may follow with it at the front
abbrev PlainAt : Bool → (Named × Maybe) × Bool → Tokens → Tokens → Type 0
PlainAt d x ts us = (ps : Params) (vs : Tokens) → grammar.Following (stage_of x.1) ps us vs → grammar.IsParams (stage_of d) (grammar.with_plain x.0.0 x.0.1 ps) ts vs

-- parameters with a star, at each stage where they may come
abbrev StarsAt : Option Named × Option Named → Tokens → Tokens → Type 0
StarsAt x ts us = (stage : Stage) → place_of stage ≤ 2 → grammar.IsParams stage (tree.params tree.no_plain x.0 x.1) ts us

-- parameters without a star, and those with one where they may still come
abbrev PlainsAt : Bool → reading.Plains → Tokens → Tokens → Type 0
PlainsAt d (ps, true) ts us = (x : Option Named × Option Named) (vs : Tokens) → StarsAt x us vs → grammar.IsParams (stage_of d) (tree.params ps x.0 x.1) ts vs
PlainsAt d (ps, false) ts us = grammar.IsParams (stage_of d) (tree.params ps None None) ts us

-- one after the last parameter
abbrev EndsAt : Tokens → Tokens → Type 0
EndsAt us vs = (stage : Stage) → grammar.Following stage reading.no_params us vs

comma_sound : (us vs : Tokens) → cond (is_comma (first us)) (skip us) us ≡ vs → EndsAt us vs
comma_sound us vs h =
    elim (chosen (is_comma (first us)) _ _ _ h) [
      | inl (comma, same) ↦ subst (λ (z : Tokens). EndsAt us z) same (λ stage. grammar.comma (comma_is _ comma) grammar.no_param)
      | inr (over, same) ↦ subst (λ (z : Tokens). EndsAt us z) same (λ stage. grammar.no_more)
    ]

-- the last name, and a comma or none
last_name_sound : (ts : Tokens) (n : Named × Tokens) → reading.last_name ts ≡ Some n → (m : Name) × (first ts ≡ kind.Name m) × (named m ts ≡ n.0) × EndsAt (skip ts) n.1
unfolding reading.last_name
last_name_sound ts n h =
    let (l, found, all) = bind_some _ _ _ h in
    let (m, is, name, behind) = name_by_sound (first ts) ts l refl found in
    let same : ◌≡◌ {A = Named × Tokens} (l.0, cond (is_comma (first l.1)) (skip l.1) l.1) n = some_is all in
    let ends : EndsAt l.1 n.1 = comma_sound l.1 n.1 (ap (λ (z : Named × Tokens). z.1) same) in
    (m, is, name ∙ ap (λ (z : Named × Tokens). z.0) same, subst (λ (us : Tokens). EndsAt us n.1) (sym behind) ends)

-- `**NAME` or nothing, at each stage where it may come
abbrev DictAt : Option Named → Tokens → Tokens → Type 0
DictAt d ts us = (stage : Stage) → place_of stage ≤ 3 → grammar.IsParams stage (tree.params tree.no_plain None d) ts us

dict_param_sound : (ts : Tokens) (x : Option Named × Tokens) → reading.dict_param ts ≡ Some x → DictAt x.0 ts x.1
unfolding reading.dict_param
dict_param_sound ts x h =
    elim (chosen (is_double_star (first ts)) _ _ _ h) [
      | inl (comes, h) ↦
          let (n, found, all) = bind_some _ _ _ h in
          let (m, is, name, ends) = last_name_sound (skip ts) n found in
          got DictAt ts all (subst (λ (z : Named). DictAt (Some z) ts n.1) name (λ stage low. grammar.dict_param low (double_star_is _ comes) is (ends closed)))
      | inr (over, h) ↦ got DictAt ts h (λ stage low. grammar.no_param)
    ]

star_params_sound : (ts : Tokens) (x : (Option Named × Option Named) × Tokens) → reading.star_params ts ≡ Some x → StarsAt x.0 ts x.1
unfolding reading.star_params
star_params_sound ts x h =
    elim (chosen (is_star (first ts)) _ _ _ h) [
      | inl (comes, h) ↦
          let (n, found, more) = bind_some _ _ _ h in
          let (m, is, name, behind) = name_by_sound (first (skip ts)) (skip ts) n refl found in
          elim (chosen (is_comma (first n.1)) _ _ _ more) [
            | inl (comma, h) ↦
                let (d, found, all) = bind_some _ _ _ h in
                let dict = dict_param_sound (skip n.1) d found in
                let follows : grammar.Following stars (tree.params tree.no_plain None d.0) n.1 d.1 = grammar.comma (comma_is _ comma) (dict stars (omega arith)) in
                let there : grammar.Following stars (tree.params tree.no_plain None d.0) (skip (skip ts)) d.1 = subst (λ (z : Tokens). grammar.Following stars (tree.params tree.no_plain None d.0) z d.1) (sym behind) follows in
                got StarsAt ts all (subst (λ (z : Named). StarsAt (Some z, d.0) ts d.1) name (λ stage low. grammar.list_param low (star_is _ comes) is there))
            | inr (over, h) ↦
                let follows : grammar.Following stars reading.no_params n.1 n.1 = grammar.no_more in
                let there : grammar.Following stars reading.no_params (skip (skip ts)) n.1 = subst (λ (z : Tokens). grammar.Following stars reading.no_params z n.1) (sym behind) follows in
                got StarsAt ts h (subst (λ (z : Named). StarsAt (Some z, None) ts n.1) name (λ stage low. grammar.list_param low (star_is _ comes) is there))
          ]
      | inr (other, h) ↦
          let (d, found, all) = bind_some _ _ _ h in
          let dict = dict_param_sound ts d found in
          got StarsAt ts all (λ stage low. dict stage (omega arith))
    ]

plains_last : (d : Bool) (x : (Named × Maybe) × Bool) (ts us : Tokens) → PlainAt d x ts us → PlainsAt d (reading.with_plain x.0 (tree.no_plain, false)) ts us
plains_last d x ts us p = p reading.no_params us grammar.no_more

plains_more : (d : Bool) (x : (Named × Maybe) × Bool) (ps : reading.Plains) (ts us vs : Tokens) → PlainAt d x ts us → first us ≡ kind.Comma → PlainsAt x.1 ps (skip us) vs → PlainsAt d (reading.with_plain x.0 ps) ts vs
plains_more d x (ps, true) ts us vs p i q = λ y ws z. p (tree.params ps y.0 y.1) ws (grammar.comma i (q y ws z))
plains_more d x (ps, false) ts us vs p i q = p (tree.params ps None None) vs (grammar.comma i q)

module _ (rs : Readers) (inner : AreSound rs) where
  plain_sound : (d : Bool) (ts : Tokens) (x : ((Named × Maybe) × Bool) × Tokens) → reading.plain rs d ts ≡ Some x → PlainAt d x.0 ts x.1
  unfolding reading.plain
  plain_sound d ts x h =
      let (n, found, more) = bind_some _ _ _ h in
      let (m, is, name, behind) = name_by_sound (first ts) ts n refl found in
      elim (chosen (is_equal (first n.1)) _ _ _ more) [
        | inl (comes, h) ↦
            let (e, found, all) = bind_some _ _ _ h in
            let equal : first (skip ts) ≡ kind.Equal = ap first behind ∙ equal_is _ comes in
            let default : grammar.IsExpr e.0 (skip (skip ts)) e.1 = inner.expr (skip (skip ts)) e (ap (λ (z : Tokens). rs.expr (skip z)) behind ∙ found) in
            got (PlainAt d) ts all (subst (λ (z : Named). PlainAt d ((z, tree.some e.0), true) ts e.1) name (λ ps vs f. grammar.default (plain_stage d) is equal default f))
        | inr (none, h) ↦ without d n m h is name behind
      ]
    where
      without : (d : Bool) (n : Named × Tokens) (m : Name) → cond d None (Some (((n.0, tree.none), false), n.1)) ≡ Some x → first ts ≡ kind.Name m → named m ts ≡ n.0 → skip ts ≡ n.1 → PlainAt d x.0 ts x.1
      without true n m h is name behind = absurd cc
      without false n m h is name behind =
          got (PlainAt false) ts h (subst (λ (z : Named). PlainAt false ((z, tree.none), false) ts n.1) name (λ ps vs f. grammar.param is (subst (λ (z : Tokens). grammar.Following any ps z vs) (sym behind) f)))

  plains_sound : (ts : Tokens) (x : reading.Plains × Tokens) → reading.plains rs ts ≡ Some x → PlainsAt false x.0 ts x.1
  unfolding reading.plains
  plains_sound ts x h =
      listed_sound (tree.no_plain, true) (tree.no_plain, false) reading.with_plain is_name (reading.plain rs) PlainAt PlainsAt (λ d ts y vs stars_come. stars_come (stage_of d) (omega (arith, plain_stage d))) plains_last plains_more plain_sound _ false ts x h

  params_by_sound : (ps : reading.Plains) (ts us : Tokens) (x : Params × Tokens) → PlainsAt false ps ts us
      → cond ps.1 (reading.star_params us >>= λ y. Some (tree.params ps.0 y.0.0 y.0.1, y.1)) (Some (tree.params ps.0 None None, us)) ≡ Some x → grammar.IsParams any x.0 ts x.1
  params_by_sound (ps, true) ts us x p h = let (y, found, all) = bind_some _ _ _ h in got (grammar.IsParams any) ts all (p y.0 y.1 (star_params_sound us y found))
  params_by_sound (ps, false) ts us x p h = got (grammar.IsParams any) ts h p

  pub params_sound : Sound (grammar.IsParams any) (reading.params rs)
  unfolding reading.params
  params_sound ts x h =
      let (ps, found, more) = bind_some _ _ _ h in
      params_by_sound ps.0 ts ps.1 x (plains_sound ts ps found) more

  -- ---- expressions

  lambda_sound : (ts : Tokens) (x : Expr × Tokens) → first ts ≡ kind.Lambda → reading.lambda rs (line_at ts) (skip ts) ≡ Some x → grammar.IsExpr x.0 ts x.1
  unfolding reading.lambda
  lambda_sound ts x begun h =
      let (ps, found, more) = bind_some _ _ _ h in
      let (each_once, more) = tested (distinct (parameter_names ps.0)) _ _ more in
      let (comes, more) = after_some is_colon ps.1 _ _ more in
      let (e, body, all) = bind_some _ _ _ more in
      got grammar.IsExpr ts all (grammar.a_lambda begun (params_sound (skip ts) ps found) each_once (colon_is _ comes) (inner.expr (skip ps.1) e body))

  conditional_sound : (e : Expr) (ts us : Tokens) (x : Expr × Tokens) → grammar.Or e ts us → first us ≡ kind.If → reading.conditional rs e (skip us) ≡ Some x → grammar.IsExpr x.0 ts x.1
  unfolding reading.conditional
  conditional_sound e ts us x p i h =
      let (test, found, more) = bind_some _ _ _ h in
      let (comes, more) = after_some is_else test.1 _ _ more in
      let (f, read, all) = bind_some _ _ _ more in
      got grammar.IsExpr ts all (grammar.cond p i (or_sound rs inner (skip us) test found) (else_is _ comes) (inner.expr (skip test.1) f read))

  pub expr_sound : Sound grammar.IsExpr (reading.expr rs)
  unfolding reading.expr
  expr_sound ts x h =
      elim (chosen (is_lambda (first ts)) _ _ _ h) [
        | inl (comes, h) ↦ lambda_sound ts x (lambda_is _ comes) h
        | inr (other, h) ↦
            let (e, found, more) = bind_some _ _ _ h in
            let front = or_sound rs inner ts e found in
            elim (chosen (is_if (first e.1)) _ _ _ more) [
              | inl (comes, h) ↦ conditional_sound e.0 ts e.1 x front (if_is _ comes) h
              | inr (over, h) ↦ got grammar.IsExpr ts h (grammar.unconditional front)
            ]
      ]

  pub expr_list_sound : Sound grammar.IsExprs (reading.expr_list rs)
  unfolding reading.expr_list
  expr_list_sound ts x h =
      let (e, found, more) = bind_some _ _ _ h in
      let front = expr_sound ts e found in
      elim (chosen (is_comma (first e.1)) _ _ _ more) [
        | inl (comma, h) ↦
            let (es, found, all) = bind_some _ _ _ h in
            let (others, spelled, same) = exprs_sound rs inner e.0 (skip e.1) es found in
            got grammar.IsExprs ts all (subst (λ (z : Exprs). grammar.IsExprs (tree.node (line_of e.0) (tree.tuple z)) ts es.1) same (grammar.several front (comma_is _ comma) spelled))
        | inr (over, h) ↦ got grammar.IsExprs ts h (grammar.an_expr front)
      ]

-- what is read at a depth is spelled so
pub readers_sound : (d : ℕ) → AreSound (reading.readers d)
unfolding reading.readers
readers_sound zero = record { expr = λ ts x h. absurd cc; or = λ ts x h. absurd cc; not = λ ts x h. absurd cc; unary = λ ts x h. absurd cc; primary = λ ts x h. absurd cc }
readers_sound (suc d) = record {
  expr = expr_sound (reading.readers d) (readers_sound d);
  or = or_sound (reading.readers d) (readers_sound d);
  not = not_sound (reading.readers d) (readers_sound d);
  unary = unary_sound (reading.readers d) (readers_sound d);
  primary = primary_sound (reading.readers d) (readers_sound d);
}
