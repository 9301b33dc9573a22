-- An expression is spelled again by the tokens that it took, whatever stands behind them.
use Rattle.std.proofs.Common.{◌≡◌, ℕ, Bool, true, false, List, [], ◌∷◌, ◌++◌, Option, Some, refl, ap, ◌∙◌}
use Rattle.rp_base.specs.declared.operator.BinOp.{BinOp}
use Rattle.rp_base.specs.declared.operator.UnOp.{UnOp}
use Rattle.rp_base.specs.declared.operator.CmpOp.{CmpOp}
use Rattle.rp_base.specs.declared.value.Line.{Line}
use Rattle.rp_token.specs.declared.token.Token.{Token}
use Rattle.rp_token.specs.declared.token.TokenKind.{TokenKind}
use Rattle.rp_token.specs.declared.token.TokenKind.TheVariants as kind
use Rattle.rp_tree.specs.declared.parts.Test.{Test}
use Rattle.rp_tree.specs.Expressions.{Expr, Exprs, Maybe, Pairs, Tests, Ops, Clause, Clauses, Target, Targets, Place, Params, Trailer, Trailers, Arg, Args}
use Rattle.rp_grammar.specs.Kinds.{Tokens, first, line_at, skip, binary_of, unary_of, order_of, augmented_of}
use Rattle.rp_grammar.specs.Expressions as grammar
use Rattle.rp_grammar.specs.Expressions.{Stage}

-- a token within a simple statement that is no `pass`
abbrev pub is_inner : TokenKind → Bool
is_inner kind.Pass = false
is_inner kind.End = false
is_inner k = true

-- a front that Front tells of ts, and what X says of it and of the front b, whatever stands behind
abbrev pub Again : (Tokens → Tokens → Type 0) → (Tokens → Tokens → Type 0) → Tokens → Tokens → Type 0
Again Front X ts b = (f : Tokens) × Front ts f × ((vs : Tokens) → X (f ++ vs) (b ++ vs))

-- and that the line at its beginning is that of ts
abbrev pub AgainAt : (Tokens → Tokens → Type 0) → (Tokens → Tokens → Type 0) → Tokens → Tokens → Type 0
AgainAt Front X ts b = (f : Tokens) × Front ts f × ((vs : Tokens) → X (f ++ vs) (b ++ vs)) × ((vs : Tokens) → line_at (f ++ vs) ≡ line_at ts)

binary_inner : (k : TokenKind) (o : BinOp) → binary_of k ≡ Some o → is_inner k ≡ true
binary_inner kind.Pass o h = absurd cc
binary_inner kind.End o h = absurd cc
binary_inner _ o h = refl

unary_inner : (k : TokenKind) (o : UnOp) → unary_of k ≡ Some o → is_inner k ≡ true
unary_inner kind.Pass o h = absurd cc
unary_inner kind.End o h = absurd cc
unary_inner _ o h = refl

order_inner : (k : TokenKind) (o : CmpOp) → order_of k ≡ Some o → is_inner k ≡ true
order_inner kind.Pass o h = absurd cc
order_inner kind.End o h = absurd cc
order_inner _ o h = refl

pub augmented_inner : (k : TokenKind) (o : BinOp) → augmented_of k ≡ Some o → is_inner k ≡ true
augmented_inner kind.Pass o h = absurd cc
augmented_inner kind.End o h = absurd cc
augmented_inner _ o h = refl

module _ (Front : Tokens → Tokens → Type 0) (step : (x : Token) (ts b : Tokens) → is_inner x.kind ≡ true → Front ts b → Front (x ∷ ts) (x ∷ b)) where
  pub word : {k : TokenKind} {b : Tokens} (ts : Tokens) → first ts ≡ k → is_inner k ≡ true → Front (skip ts) b → (x : Token) × Front ts (x ∷ b) × (x.kind ≡ k) × (x.line ≡ line_at ts)
  word [] h inner w = let no : is_inner kind.End ≡ true = ap is_inner h ∙ inner in absurd cc
  word {b = b} (x ∷ ts) h inner w = (x, step x ts b (ap is_inner h ∙ inner) w, h, refl)

  pub mark : {O : Type 0} {o : O} {b : Tokens} (of : TokenKind → Option O) → ((k : TokenKind) (o : O) → of k ≡ Some o → is_inner k ≡ true) → (ts : Tokens) → of (first ts) ≡ Some o → Front (skip ts) b
      → (x : Token) × Front ts (x ∷ b) × (of x.kind ≡ Some o) × (x.line ≡ line_at ts)
  mark {o = o} of inner [] h w = let no : is_inner kind.End ≡ true = inner kind.End o h in absurd cc
  mark {o = o} {b = b} of inner (x ∷ ts) h w = (x, step x ts b (inner x.kind o h) w, h, refl)

  texts_again : {s : List ℕ} {ts us b : Tokens} → grammar.Texts s ts us → Front us b → AgainAt Front (grammar.Texts s) ts b
  texts_again {ts = ts} {b = b} (grammar.one_text h) w = let (x, w, h, l) = word ts h refl w in (x ∷ b, w, λ vs. grammar.one_text h, λ vs. l)
  texts_again {ts = ts} (grammar.more_texts h p) w =
      let (f, w, p, m) = texts_again p w in
      let (x, w, h, l) = word ts h refl w in
      (x ∷ f, w, λ vs. grammar.more_texts h (p vs), λ vs. l)

  test_again : {x : Test} {ts us b : Tokens} → grammar.IsTest x ts us → Front us b → Again Front (grammar.IsTest x) ts b
  test_again {ts = ts} {b = b} (grammar.order h) w = let (x, w, h, l) = mark order_of order_inner ts h w in (x ∷ b, w, λ vs. grammar.order h)
  test_again {ts = ts} {b = b} (grammar.within h) w = let (x, w, h, l) = word ts h refl w in (x ∷ b, w, λ vs. grammar.within h)
  test_again {ts = ts} {b = b} (grammar.not_within h i) w =
      let (y, w, i, m) = word (skip ts) i refl w in
      let (x, w, h, l) = word ts h refl w in
      (x ∷ y ∷ b, w, λ vs. grammar.not_within h i)

  mutual
    atom_again : {e : Expr} {ts us b : Tokens} → grammar.Atom e ts us → Front us b → Again Front (grammar.Atom e) ts b
    atom_again {ts = ts} {b = b} (grammar.name h) w = let (x, w, h, l) = word ts h refl w in (x ∷ b, w, λ vs. rw (← l) (grammar.name h))
    atom_again {ts = ts} {b = b} (grammar.int h) w = let (x, w, h, l) = word ts h refl w in (x ∷ b, w, λ vs. rw (← l) (grammar.int h))
    atom_again (grammar.text p) w = let (f, w, p, l) = texts_again p w in (f, w, λ vs. rw (← l vs) (grammar.text (p vs)))
    atom_again {ts = ts} {b = b} (grammar.nil h) w = let (x, w, h, l) = word ts h refl w in (x ∷ b, w, λ vs. rw (← l) (grammar.nil h))
    atom_again {ts = ts} {b = b} (grammar.truth h) w = let (x, w, h, l) = word ts h refl w in (x ∷ b, w, λ vs. rw (← l) (grammar.truth h))
    atom_again {ts = ts} {b = b} (grammar.falsity h) w = let (x, w, h, l) = word ts h refl w in (x ∷ b, w, λ vs. rw (← l) (grammar.falsity h))
    atom_again {ts = ts} (grammar.paren {us = us} h p i) w =
        let (y, w, i, m) = word us i refl w in
        let (f, w, p) = expr_again p w in
        let (x, w, h, l) = word ts h refl w in
        (x ∷ f, w, λ vs. grammar.paren h (p vs) i)
    atom_again {ts = ts} {b = b} (grammar.unit h i) w =
        let (y, w, i, m) = word (skip ts) i refl w in
        let (x, w, h, l) = word ts h refl w in
        (x ∷ y ∷ b, w, λ vs. rw (← l) (grammar.unit h i))
    atom_again {ts = ts} (grammar.tuple {us = us} {vs = vs} h p i q j) w =
        let (z, w, j, n) = word vs j refl w in
        let (f, w, q) = listed_again q w in
        let (y, w, i, m) = word us i refl w in
        let (f, w, p) = expr_again p w in
        let (x, w, h, l) = word ts h refl w in
        (x ∷ f, w, λ vs. rw (← l) (grammar.tuple h (p vs) i (q vs) j))
    atom_again {ts = ts} (grammar.list {us = us} h q i) w =
        let (y, w, i, m) = word us i refl w in
        let (f, w, q) = listed_again q w in
        let (x, w, h, l) = word ts h refl w in
        (x ∷ f, w, λ vs. rw (← l) (grammar.list h (q vs) i))
    atom_again {ts = ts} (grammar.list_of {ws = ws} h p c cs i) w =
        let (y, w, i, m) = word ws i refl w in
        let (f, w, cs) = clauses_again cs w in
        let (f, w, c) = clause_again c w in
        let (f, w, p) = expr_again p w in
        let (x, w, h, l) = word ts h refl w in
        (x ∷ f, w, λ vs. rw (← l) (grammar.list_of h (p vs) (c vs) (cs vs) i))
    atom_again {ts = ts} (grammar.dict {us = us} h q i) w =
        let (y, w, i, m) = word us i refl w in
        let (f, w, q) = paired_again q w in
        let (x, w, h, l) = word ts h refl w in
        (x ∷ f, w, λ vs. rw (← l) (grammar.dict h (q vs) i))
    atom_again {ts = ts} (grammar.dict_of {us = us} {xs = xs} h p i q c cs j) w =
        let (z, w, j, n) = word xs j refl w in
        let (f, w, cs) = clauses_again cs w in
        let (f, w, c) = clause_again c w in
        let (f, w, q) = expr_again q w in
        let (y, w, i, m) = word us i refl w in
        let (f, w, p) = expr_again p w in
        let (x, w, h, l) = word ts h refl w in
        (x ∷ f, w, λ vs. rw (← l) (grammar.dict_of h (p vs) i (q vs) (c vs) (cs vs) j))

    pub listed_again : {es : Exprs} {ts us b : Tokens} → grammar.Listed es ts us → Front us b → Again Front (grammar.Listed es) ts b
    listed_again {b = b} grammar.nothing w = (b, w, λ vs. grammar.nothing)
    listed_again (grammar.last p) w = let (f, w, p) = expr_again p w in (f, w, λ vs. grammar.last (p vs))
    listed_again (grammar.more {us = us} p h q) w =
        let (f, w, q) = listed_again q w in
        let (x, w, h, l) = word us h refl w in
        let (f, w, p) = expr_again p w in
        (f, w, λ vs. grammar.more (p vs) h (q vs))

    paired_again : {ps : Pairs} {ts us b : Tokens} → grammar.Paired ps ts us → Front us b → Again Front (grammar.Paired ps) ts b
    paired_again {b = b} grammar.no_pair w = (b, w, λ vs. grammar.no_pair)
    paired_again (grammar.last_pair {us = us} p h q) w =
        let (f, w, q) = expr_again q w in
        let (x, w, h, l) = word us h refl w in
        let (f, w, p) = expr_again p w in
        (f, w, λ vs. grammar.last_pair (p vs) h (q vs))
    paired_again (grammar.more_pairs {us = us} {vs = vs} p h q i r) w =
        let (f, w, r) = paired_again r w in
        let (y, w, i, m) = word vs i refl w in
        let (f, w, q) = expr_again q w in
        let (x, w, h, l) = word us h refl w in
        let (f, w, p) = expr_again p w in
        (f, w, λ vs. grammar.more_pairs (p vs) h (q vs) i (r vs))

    clause_again : {c : Clause} {ts us b : Tokens} → grammar.IsClause c ts us → Front us b → Again Front (grammar.IsClause c) ts b
    clause_again {ts = ts} (grammar.a_clause {us = us} h p i q r) w =
        let (f, w, r) = ifs_again r w in
        let (f, w, q) = or_again q w in
        let (y, w, i, m) = word us i refl w in
        let (f, w, p) = target_again p w in
        let (x, w, h, l) = word ts h refl w in
        (x ∷ f, w, λ vs. grammar.a_clause h (p vs) i (q vs) (r vs))

    clauses_again : {cs : Clauses} {ts us b : Tokens} → grammar.IsClauses cs ts us → Front us b → Again Front (grammar.IsClauses cs) ts b
    clauses_again {b = b} grammar.clauses_end w = (b, w, λ vs. grammar.clauses_end)
    clauses_again (grammar.clauses_go c cs) w =
        let (f, w, cs) = clauses_again cs w in
        let (f, w, c) = clause_again c w in
        (f, w, λ vs. grammar.clauses_go (c vs) (cs vs))

    ifs_again : {es : Exprs} {ts us b : Tokens} → grammar.Ifs es ts us → Front us b → Again Front (grammar.Ifs es) ts b
    ifs_again {b = b} grammar.ifs_end w = (b, w, λ vs. grammar.ifs_end)
    ifs_again {ts = ts} (grammar.ifs_go h p q) w =
        let (f, w, q) = ifs_again q w in
        let (f, w, p) = or_again p w in
        let (x, w, h, l) = word ts h refl w in
        (x ∷ f, w, λ vs. grammar.ifs_go h (p vs) (q vs))

    pub place_again : {p : Place} {ts us b : Tokens} → grammar.IsPlace p ts us → Front us b → Again Front (grammar.IsPlace p) ts b
    place_again {ts = ts} {b = b} (grammar.place_name h) w = let (x, w, h, l) = word ts h refl w in (x ∷ b, w, λ vs. rw (← l) (grammar.place_name h))
    place_again (grammar.place_attr {us = us} p h i) w =
        let (y, w, i, m) = word (skip us) i refl w in
        let (x, w, h, l) = word us h refl w in
        let (f, w, p) = primary_again p w in
        (f, w, λ vs. rw (← m) (grammar.place_attr (p vs) h i))
    place_again (grammar.place_item {us = us} {vs = vs} p h q i) w =
        let (y, w, i, m) = word vs i refl w in
        let (f, w, q) = expr_again q w in
        let (x, w, h, l) = word us h refl w in
        let (f, w, p) = primary_again p w in
        (f, w, λ vs. grammar.place_item (p vs) h (q vs) i)
    place_again {ts = ts} (grammar.place_paren {us = us} h p i) w =
        let (y, w, i, m) = word us i refl w in
        let (f, w, p) = place_again p w in
        let (x, w, h, l) = word ts h refl w in
        (x ∷ f, w, λ vs. grammar.place_paren h (p vs) i)

    pub group_again : {p : Target} {line : Line} {ts us b : Tokens} → grammar.IsGroup p line ts us → Front us b → Again Front (grammar.IsGroup p line) ts b
    group_again {ts = ts} (grammar.group_parts {us = us} h p i) w =
        let (y, w, i, m) = word us i refl w in
        let (f, w, p) = parts_again p w in
        let (x, w, h, l) = word ts h refl w in
        (x ∷ f, w, λ vs. rw (← l) (grammar.group_parts h (p vs) i))
    group_again {ts = ts} (grammar.group_list {us = us} h p i) w =
        let (y, w, i, m) = word us i refl w in
        let (f, w, p) = targeted_again p w in
        let (x, w, h, l) = word ts h refl w in
        (x ∷ f, w, λ vs. rw (← l) (grammar.group_list h (p vs) i))
    group_again {ts = ts} (grammar.group_paren {us = us} h p i) w =
        let (y, w, i, m) = word us i refl w in
        let (f, w, p) = group_again p w in
        let (x, w, h, l) = word ts h refl w in
        (x ∷ f, w, λ vs. grammar.group_paren h (p vs) i)

    part_again : {p : Target} {line : Line} {ts us b : Tokens} → grammar.Part p line ts us → Front us b → Again Front (grammar.Part p line) ts b
    part_again (grammar.part_place p) w = let (f, w, p) = place_again p w in (f, w, λ vs. grammar.part_place (p vs))
    part_again (grammar.part_group p) w = let (f, w, p) = group_again p w in (f, w, λ vs. grammar.part_group (p vs))

    targeted_again : {ps : Targets} {ts us b : Tokens} → grammar.Targeted ps ts us → Front us b → Again Front (grammar.Targeted ps) ts b
    targeted_again {b = b} grammar.no_part w = (b, w, λ vs. grammar.no_part)
    targeted_again (grammar.last_part p) w = let (f, w, p) = part_again p w in (f, w, λ vs. grammar.last_part (p vs))
    targeted_again (grammar.more_parts {us = us} p h q) w =
        let (f, w, q) = targeted_again q w in
        let (x, w, h, l) = word us h refl w in
        let (f, w, p) = part_again p w in
        (f, w, λ vs. grammar.more_parts (p vs) h (q vs))

    pub parts_again : {ps : Targets} {line : Line} {ts us b : Tokens} → grammar.Parts ps line ts us → Front us b → Again Front (grammar.Parts ps line) ts b
    parts_again (grammar.parts {us = us} p h q) w =
        let (f, w, q) = targeted_again q w in
        let (x, w, h, l) = word us h refl w in
        let (f, w, p) = part_again p w in
        (f, w, λ vs. grammar.parts (p vs) h (q vs))

    pub target_again : {p : Target} {line : Line} {ts us b : Tokens} → grammar.IsTarget p line ts us → Front us b → Again Front (grammar.IsTarget p line) ts b
    target_again (grammar.target_part p) w = let (f, w, p) = part_again p w in (f, w, λ vs. grammar.target_part (p vs))
    target_again (grammar.target_parts p) w = let (f, w, p) = parts_again p w in (f, w, λ vs. grammar.target_parts (p vs))

    maybe_again : {a : Maybe} {ts us b : Tokens} → grammar.IsMaybe a ts us → Front us b → Again Front (grammar.IsMaybe a) ts b
    maybe_again {b = b} grammar.missing w = (b, w, λ vs. grammar.missing)
    maybe_again (grammar.present p) w = let (f, w, p) = expr_again p w in (f, w, λ vs. grammar.present (p vs))

    trailer_again : {x : Trailer} {ts us b : Tokens} → grammar.IsTrailer x ts us → Front us b → Again Front (grammar.IsTrailer x) ts b
    trailer_again {ts = ts} {b = b} (grammar.attr h i) w =
        let (y, w, i, m) = word (skip ts) i refl w in
        let (x, w, h, l) = word ts h refl w in
        (x ∷ y ∷ b, w, λ vs. rw (← m) (grammar.attr h i))
    trailer_again {ts = ts} (grammar.item {us = us} h p i) w =
        let (y, w, i, m) = word us i refl w in
        let (f, w, p) = expr_again p w in
        let (x, w, h, l) = word ts h refl w in
        (x ∷ f, w, λ vs. grammar.item h (p vs) i)
    trailer_again {ts = ts} (grammar.slice {us = us} {vs = vs} h a i b j) w =
        let (z, w, j, n) = word vs j refl w in
        let (f, w, b) = maybe_again b w in
        let (y, w, i, m) = word us i refl w in
        let (f, w, a) = maybe_again a w in
        let (x, w, h, l) = word ts h refl w in
        (x ∷ f, w, λ vs. grammar.slice h (a vs) i (b vs) j)
    trailer_again {ts = ts} (grammar.stepped {us = us} {vs = vs} {ws = ws} h a i b j c k) w =
        let (z', w, k, o) = word ws k refl w in
        let (f, w, c) = maybe_again c w in
        let (z, w, j, n) = word vs j refl w in
        let (f, w, b) = maybe_again b w in
        let (y, w, i, m) = word us i refl w in
        let (f, w, a) = maybe_again a w in
        let (x, w, h, l) = word ts h refl w in
        (x ∷ f, w, λ vs. grammar.stepped h (a vs) i (b vs) j (c vs) k)
    trailer_again {ts = ts} (grammar.call {us = us} h q d i) w =
        let (y, w, i, m) = word us i refl w in
        let (f, w, q) = args_again q w in
        let (x, w, h, l) = word ts h refl w in
        (x ∷ f, w, λ vs. grammar.call h (q vs) d i)

    arg_again : {named : Bool} {x : Arg} {ts us b : Tokens} → grammar.IsArg named x ts us → Front us b → Again Front (grammar.IsArg named x) ts b
    arg_again (grammar.value p) w = let (f, w, p) = expr_again p w in (f, w, λ vs. grammar.value (p vs))
    arg_again {ts = ts} (grammar.starred h p) w =
        let (f, w, p) = expr_again p w in
        let (x, w, h, l) = word ts h refl w in
        (x ∷ f, w, λ vs. grammar.starred h (p vs))
    arg_again {ts = ts} (grammar.key h i p) w =
        let (f, w, p) = expr_again p w in
        let (y, w, i, m) = word (skip ts) i refl w in
        let (x, w, h, l) = word ts h refl w in
        (x ∷ y ∷ f, w, λ vs. grammar.key h i (p vs))
    arg_again {ts = ts} (grammar.double_starred h p) w =
        let (f, w, p) = expr_again p w in
        let (x, w, h, l) = word ts h refl w in
        (x ∷ f, w, λ vs. grammar.double_starred h (p vs))

    args_again : {named : Bool} {xs : Args} {ts us b : Tokens} → grammar.IsArgs named xs ts us → Front us b → Again Front (grammar.IsArgs named xs) ts b
    args_again {b = b} grammar.no_arg w = (b, w, λ vs. grammar.no_arg)
    args_again (grammar.last_arg p) w = let (f, w, p) = arg_again p w in (f, w, λ vs. grammar.last_arg (p vs))
    args_again (grammar.more_args {us = us} p h q) w =
        let (f, w, q) = args_again q w in
        let (x, w, h, l) = word us h refl w in
        let (f, w, p) = arg_again p w in
        (f, w, λ vs. grammar.more_args (p vs) h (q vs))
    args_again (grammar.args_with_names p) w = let (f, w, p) = args_again p w in (f, w, λ vs. grammar.args_with_names (p vs))

    pub params_again : {stage : Stage} {ps : Params} {ts us b : Tokens} → grammar.IsParams stage ps ts us → Front us b → Again Front (grammar.IsParams stage ps) ts b
    params_again {b = b} grammar.no_param w = (b, w, λ vs. grammar.no_param)
    params_again {ts = ts} (grammar.param h p) w =
        let (f, w, p) = following_again p w in
        let (x, w, h, l) = word ts h refl w in
        (x ∷ f, w, λ vs. rw (← l) (grammar.param h (p vs)))
    params_again {ts = ts} (grammar.default c h i p q) w =
        let (f, w, q) = following_again q w in
        let (f, w, p) = expr_again p w in
        let (y, w, i, m) = word (skip ts) i refl w in
        let (x, w, h, l) = word ts h refl w in
        (x ∷ y ∷ f, w, λ vs. rw (← l) (grammar.default c h i (p vs) (q vs)))
    params_again {ts = ts} (grammar.list_param c h i p) w =
        let (f, w, p) = following_again p w in
        let (y, w, i, m) = word (skip ts) i refl w in
        let (x, w, h, l) = word ts h refl w in
        (x ∷ y ∷ f, w, λ vs. rw (← m) (grammar.list_param c h i (p vs)))
    params_again {ts = ts} (grammar.dict_param c h i p) w =
        let (f, w, p) = following_again p w in
        let (y, w, i, m) = word (skip ts) i refl w in
        let (x, w, h, l) = word ts h refl w in
        (x ∷ y ∷ f, w, λ vs. rw (← m) (grammar.dict_param c h i (p vs)))

    following_again : {stage : Stage} {ps : Params} {ts us b : Tokens} → grammar.Following stage ps ts us → Front us b → Again Front (grammar.Following stage ps) ts b
    following_again {b = b} grammar.no_more w = (b, w, λ vs. grammar.no_more)
    following_again {ts = ts} (grammar.comma h p) w =
        let (f, w, p) = params_again p w in
        let (x, w, h, l) = word ts h refl w in
        (x ∷ f, w, λ vs. grammar.comma h (p vs))

    trail_again : {xs : Trailers} {ts us b : Tokens} → grammar.Trail xs ts us → Front us b → Again Front (grammar.Trail xs) ts b
    trail_again {b = b} grammar.ends w = (b, w, λ vs. grammar.ends)
    trail_again (grammar.goes p q) w =
        let (f, w, q) = trail_again q w in
        let (f, w, p) = trailer_again p w in
        (f, w, λ vs. grammar.goes (p vs) (q vs))

    pub primary_again : {e : Expr} {ts us b : Tokens} → grammar.Primary e ts us → Front us b → Again Front (grammar.Primary e) ts b
    primary_again (grammar.bare p) w = let (f, w, p) = atom_again p w in (f, w, λ vs. grammar.bare (p vs))
    primary_again (grammar.trailed p q r) w =
        let (f, w, r) = trail_again r w in
        let (f, w, q) = trailer_again q w in
        let (f, w, p) = atom_again p w in
        (f, w, λ vs. grammar.trailed (p vs) (q vs) (r vs))

    power_again : {e : Expr} {ts us b : Tokens} → grammar.Power e ts us → Front us b → Again Front (grammar.Power e) ts b
    power_again (grammar.base p) w = let (f, w, p) = primary_again p w in (f, w, λ vs. grammar.base (p vs))
    power_again (grammar.raised {us = us} p h q) w =
        let (f, w, q) = unary_again q w in
        let (x, w, h, l) = word us h refl w in
        let (f, w, p) = primary_again p w in
        (f, w, λ vs. grammar.raised (p vs) h (q vs))

    unary_again : {e : Expr} {ts us b : Tokens} → grammar.Unary e ts us → Front us b → Again Front (grammar.Unary e) ts b
    unary_again (grammar.unsigned p) w = let (f, w, p) = power_again p w in (f, w, λ vs. grammar.unsigned (p vs))
    unary_again {ts = ts} (grammar.signed h p) w =
        let (f, w, p) = unary_again p w in
        let (x, w, h, l) = mark unary_of unary_inner ts h w in
        (x ∷ f, w, λ vs. rw (← l) (grammar.signed h (p vs)))

    chain_again : {k : ℕ} {e : Expr} {ts us b : Tokens} → grammar.Chain k e ts us → Front us b → Again Front (grammar.Chain k e) ts b
    chain_again (grammar.operand p) w = let (f, w, p) = unary_again p w in (f, w, λ vs. grammar.operand (p vs))
    chain_again (grammar.tighter p) w = let (f, w, p) = chain_again p w in (f, w, λ vs. grammar.tighter (p vs))
    chain_again (grammar.chained {us = us} p h i q r) w =
        let (f, w, r) = chained_again r w in
        let (f, w, q) = chain_again q w in
        let (x, w, h, l) = mark binary_of binary_inner us h w in
        let (f, w, p) = chain_again p w in
        (f, w, λ vs. grammar.chained (p vs) h i (q vs) (r vs))

    chained_again : {k : ℕ} {os : Ops} {ts us b : Tokens} → grammar.Chained k os ts us → Front us b → Again Front (grammar.Chained k os) ts b
    chained_again {b = b} grammar.chain_ends w = (b, w, λ vs. grammar.chain_ends)
    chained_again {ts = ts} (grammar.chain_goes h i p q) w =
        let (f, w, q) = chained_again q w in
        let (f, w, p) = chain_again p w in
        let (x, w, h, l) = mark binary_of binary_inner ts h w in
        (x ∷ f, w, λ vs. grammar.chain_goes h i (p vs) (q vs))

    compare_again : {e : Expr} {ts us b : Tokens} → grammar.Compare e ts us → Front us b → Again Front (grammar.Compare e) ts b
    compare_again (grammar.single p) w = let (f, w, p) = chain_again p w in (f, w, λ vs. grammar.single (p vs))
    compare_again (grammar.compared p q r) w =
        let (f, w, r) = compared_again r w in
        let (f, w, q) = tested_again q w in
        let (f, w, p) = chain_again p w in
        (f, w, λ vs. grammar.compared (p vs) (q vs) (r vs))

    tested_again : {x : Test} {e : Expr} {ts us b : Tokens} → grammar.Tested x e ts us → Front us b → Again Front (grammar.Tested x e) ts b
    tested_again (grammar.test p q) w =
        let (f, w, q) = chain_again q w in
        let (f, w, p) = test_again p w in
        (f, w, λ vs. grammar.test (p vs) (q vs))
    tested_again {ts = ts} {b = b} (grammar.is_none h i) w =
        let (y, w, i, m) = word (skip ts) i refl w in
        let (x, w, h, l) = word ts h refl w in
        (x ∷ y ∷ b, w, λ vs. rw (← m) (grammar.is_none h i))
    tested_again {ts = ts} {b = b} (grammar.is_not_none h i j) w =
        let (z, w, j, n) = word (skip (skip ts)) j refl w in
        let (y, w, i, m) = word (skip ts) i refl w in
        let (x, w, h, l) = word ts h refl w in
        (x ∷ y ∷ z ∷ b, w, λ vs. rw (← n) (grammar.is_not_none h i j))

    compared_again : {xs : Tests} {ts us b : Tokens} → grammar.Compared xs ts us → Front us b → Again Front (grammar.Compared xs) ts b
    compared_again {b = b} grammar.tests_end w = (b, w, λ vs. grammar.tests_end)
    compared_again (grammar.tests_go p q) w =
        let (f, w, q) = compared_again q w in
        let (f, w, p) = tested_again p w in
        (f, w, λ vs. grammar.tests_go (p vs) (q vs))

    not_again : {e : Expr} {ts us b : Tokens} → grammar.Not e ts us → Front us b → Again Front (grammar.Not e) ts b
    not_again (grammar.asserted p) w = let (f, w, p) = compare_again p w in (f, w, λ vs. grammar.asserted (p vs))
    not_again {ts = ts} (grammar.negated h p) w =
        let (f, w, p) = not_again p w in
        let (x, w, h, l) = word ts h refl w in
        (x ∷ f, w, λ vs. rw (← l) (grammar.negated h (p vs)))

    and_again : {e : Expr} {ts us b : Tokens} → grammar.And e ts us → Front us b → Again Front (grammar.And e) ts b
    and_again (grammar.and_single p) w = let (f, w, p) = not_again p w in (f, w, λ vs. grammar.and_single (p vs))
    and_again (grammar.and_several {us = us} p h q r) w =
        let (f, w, r) = ands_again r w in
        let (f, w, q) = not_again q w in
        let (x, w, h, l) = word us h refl w in
        let (f, w, p) = not_again p w in
        (f, w, λ vs. grammar.and_several (p vs) h (q vs) (r vs))

    ands_again : {es : Exprs} {ts us b : Tokens} → grammar.Ands es ts us → Front us b → Again Front (grammar.Ands es) ts b
    ands_again {b = b} grammar.ands_end w = (b, w, λ vs. grammar.ands_end)
    ands_again {ts = ts} (grammar.ands_go h p q) w =
        let (f, w, q) = ands_again q w in
        let (f, w, p) = not_again p w in
        let (x, w, h, l) = word ts h refl w in
        (x ∷ f, w, λ vs. grammar.ands_go h (p vs) (q vs))

    pub or_again : {e : Expr} {ts us b : Tokens} → grammar.Or e ts us → Front us b → Again Front (grammar.Or e) ts b
    or_again (grammar.or_single p) w = let (f, w, p) = and_again p w in (f, w, λ vs. grammar.or_single (p vs))
    or_again (grammar.or_several {us = us} p h q r) w =
        let (f, w, r) = ors_again r w in
        let (f, w, q) = and_again q w in
        let (x, w, h, l) = word us h refl w in
        let (f, w, p) = and_again p w in
        (f, w, λ vs. grammar.or_several (p vs) h (q vs) (r vs))

    ors_again : {es : Exprs} {ts us b : Tokens} → grammar.Ors es ts us → Front us b → Again Front (grammar.Ors es) ts b
    ors_again {b = b} grammar.ors_end w = (b, w, λ vs. grammar.ors_end)
    ors_again {ts = ts} (grammar.ors_go h p q) w =
        let (f, w, q) = ors_again q w in
        let (f, w, p) = and_again p w in
        let (x, w, h, l) = word ts h refl w in
        (x ∷ f, w, λ vs. grammar.ors_go h (p vs) (q vs))

    pub expr_again : {e : Expr} {ts us b : Tokens} → grammar.IsExpr e ts us → Front us b → Again Front (grammar.IsExpr e) ts b
    expr_again {ts = ts} (grammar.a_lambda {us = us} h p d i q) w =
        let (f, w, q) = expr_again q w in
        let (y, w, i, m) = word us i refl w in
        let (f, w, p) = params_again p w in
        let (x, w, h, l) = word ts h refl w in
        (x ∷ f, w, λ vs. rw (← l) (grammar.a_lambda h (p vs) d i (q vs)))
    expr_again (grammar.unconditional p) w = let (f, w, p) = or_again p w in (f, w, λ vs. grammar.unconditional (p vs))
    expr_again (grammar.cond {us = us} {vs = vs} p h q i r) w =
        let (f, w, r) = expr_again r w in
        let (y, w, i, m) = word vs i refl w in
        let (f, w, q) = or_again q w in
        let (x, w, h, l) = word us h refl w in
        let (f, w, p) = or_again p w in
        (f, w, λ vs. grammar.cond (p vs) h (q vs) i (r vs))

  pub exprs_again : {e : Expr} {ts us b : Tokens} → grammar.IsExprs e ts us → Front us b → Again Front (grammar.IsExprs e) ts b
  exprs_again (grammar.an_expr p) w = let (f, w, p) = expr_again p w in (f, w, λ vs. grammar.an_expr (p vs))
  exprs_again (grammar.several {us = us} p h q) w =
      let (f, w, q) = listed_again q w in
      let (x, w, h, l) = word us h refl w in
      let (f, w, p) = expr_again p w in
      (f, w, λ vs. grammar.several (p vs) h (q vs))
