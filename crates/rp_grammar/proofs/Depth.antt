-- A reader goes no deeper within than the brackets are deep and the tree is high, so a fixed depth is enough.
use Rattle.std.proofs.Common.{◌≡◌, ℕ, suc, ◌+◌, ◌-◌, ◌<◌, ◌≤◌, max, Bool, List, [], ◌∷◌, Some, refl, ap, subst, ◌∙◌, arith}
use Rattle.rp_base.specs.declared.operator.BinOp.{BinOp}
use Rattle.rp_base.specs.declared.operator.UnOp.{UnOp}
use Rattle.rp_base.specs.declared.operator.CmpOp.{CmpOp}
use Rattle.rp_base.specs.declared.value.Line.{Line}
use Rattle.rp_token.specs.declared.token.TokenKind.{TokenKind}
use Rattle.rp_token.specs.declared.token.TokenKind.TheVariants as kind
use Rattle.rp_tree.specs.declared.parts.Test.{Test}
use Rattle.rp_tree.specs.Expressions as tree
use Rattle.rp_tree.specs.Expressions.{Expr, Exprs, Maybe, Pairs, Tests, Ops, Clause, Clauses, Target, Targets, Place, Params, Trailer, Trailers, Arg, Args}
use Rattle.rp_tree.specs.Heights.{expr_height, exprs_height, maybe_height, pairs_height, tests_height, ops_height, clause_height, clauses_height, target_height, targets_height, place_height, params_height, trailer_height, trailers_height, arg_height, args_height}
use Rattle.rp_grammar.specs.Kinds.{Tokens, first, skip, binary_of, unary_of, order_of}
use Rattle.rp_grammar.specs.Brackets.{open_behind, IsShallow}
use Rattle.rp_grammar.specs.Expressions as grammar
use Rattle.rp_grammar.specs.Expressions.{Stage}
use Rattle.rp_grammar.proofs.Nest.{nest_atom, nest_listed, nest_paired, nest_clause, nest_clauses, nest_ifs, nest_place, nest_group, nest_part, nest_targeted, nest_parts, nest_target, nest_maybe, nest_trailer, nest_arg, nest_args, nest_params, nest_following, nest_trail, nest_primary, nest_power, nest_unary, nest_chain, nest_chained, nest_compare, nest_tested, nest_compared, nest_not, nest_and, nest_ands, nest_or, nest_ors, nest_expr, nest_exprs}

binary_open : (k : TokenKind) (o : BinOp) (n : ℕ) → binary_of k ≡ Some o → open_behind k n ≡ n
binary_open kind.LeftParen o n h = absurd cc
binary_open kind.LeftBracket o n h = absurd cc
binary_open kind.LeftBrace o n h = absurd cc
binary_open kind.RightParen o n h = absurd cc
binary_open kind.RightBracket o n h = absurd cc
binary_open kind.RightBrace o n h = absurd cc
binary_open _ o n h = refl

unary_open : (k : TokenKind) (o : UnOp) (n : ℕ) → unary_of k ≡ Some o → open_behind k n ≡ n
unary_open kind.LeftParen o n h = absurd cc
unary_open kind.LeftBracket o n h = absurd cc
unary_open kind.LeftBrace o n h = absurd cc
unary_open kind.RightParen o n h = absurd cc
unary_open kind.RightBracket o n h = absurd cc
unary_open kind.RightBrace o n h = absurd cc
unary_open _ o n h = refl

order_open : (k : TokenKind) (o : CmpOp) (n : ℕ) → order_of k ≡ Some o → open_behind k n ≡ n
order_open kind.LeftParen o n h = absurd cc
order_open kind.LeftBracket o n h = absurd cc
order_open kind.LeftBrace o n h = absurd cc
order_open kind.RightParen o n h = absurd cc
order_open kind.RightBracket o n h = absurd cc
order_open kind.RightBrace o n h = absurd cc
order_open _ o n h = refl

module _ (most : ℕ) where
  abbrev At : ℕ → Tokens → Type 0
  At n ts = IsShallow most n ts

  low : (n : ℕ) (ts : Tokens) → At n ts → n ≤ most
  low n [] w = w
  low n (t ∷ ts) w = w.0

  -- behind a token
  passes : (n m : ℕ) (ts : Tokens) → open_behind (first ts) n ≡ m → At n ts → At m (skip ts)
  passes n m [] h w = subst (λ (z : ℕ). z ≤ most) h w
  passes n m (t ∷ ts) h w = subst (λ (z : ℕ). At z ts) h w.1

  by : (k : TokenKind) (n : ℕ) (ts : Tokens) → first ts ≡ k → At n ts → At (open_behind k n) (skip ts)
  by k n ts h w = passes n (open_behind k n) ts (ap (λ j. open_behind j n) h) w

  -- behind a closing bracket
  closed_paren : (n : ℕ) (us : Tokens) → first us ≡ kind.RightParen → At (suc n) us → At n (skip us)
  closed_paren n us h w = passes (suc n) n us (ap (λ j. open_behind j (suc n)) h ∙ same) w where
    same : suc n - 1 ≡ n
    same = omega arith

  closed_bracket : (n : ℕ) (us : Tokens) → first us ≡ kind.RightBracket → At (suc n) us → At n (skip us)
  closed_bracket n us h w = passes (suc n) n us (ap (λ j. open_behind j (suc n)) h ∙ same) w where
    same : suc n - 1 ≡ n
    same = omega arith

  closed_brace : (n : ℕ) (us : Tokens) → first us ≡ kind.RightBrace → At (suc n) us → At n (skip us)
  closed_brace n us h w = passes (suc n) n us (ap (λ j. open_behind j (suc n)) h ∙ same) w where
    same : suc n - 1 ≡ n
    same = omega arith

  texts_stay : {s : List ℕ} {ts us : Tokens} → grammar.Texts s ts us → (n : ℕ) → At n ts → At n us
  texts_stay {ts = ts} (grammar.one_text {s = s} h) n w = by (kind.Text s) n ts h w
  texts_stay {ts = ts} (grammar.more_texts {s = s} h p) n w = texts_stay p n (by (kind.Text s) n ts h w)

  test_stays : {x : Test} {ts us : Tokens} → grammar.IsTest x ts us → (n : ℕ) → At n ts → At n us
  test_stays {ts = ts} (grammar.order {o = o} h) n w = passes n n ts (order_open (first ts) o n h) w
  test_stays {ts = ts} (grammar.within h) n w = by kind.In n ts h w
  test_stays {ts = ts} (grammar.not_within h i) n w = by kind.In n (skip ts) i (by kind.Not n ts h w)

  -- what is spelled leaves as many brackets open as it has found
  mutual
    atom_stays : {e : Expr} {ts us : Tokens} → grammar.Atom e ts us → (n : ℕ) → At n ts → At n us
    atom_stays {ts = ts} (grammar.name {n = m} h) n w = by (kind.Name m) n ts h w
    atom_stays {ts = ts} (grammar.int {n = m} h) n w = by (kind.Int m) n ts h w
    atom_stays (grammar.text p) n w = texts_stay p n w
    atom_stays {ts = ts} (grammar.nil h) n w = by kind.None n ts h w
    atom_stays {ts = ts} (grammar.truth h) n w = by kind.True n ts h w
    atom_stays {ts = ts} (grammar.falsity h) n w = by kind.False n ts h w
    atom_stays {ts = ts} (grammar.paren {us = us} h p i) n w = closed_paren n us i (expr_stays p (suc n) (by kind.LeftParen n ts h w))
    atom_stays {ts = ts} (grammar.unit h i) n w = closed_paren n (skip ts) i (by kind.LeftParen n ts h w)
    atom_stays {ts = ts} (grammar.tuple {us = us} {vs = vs} h p i q j) n w = closed_paren n vs j (listed_stays q (suc n) (by kind.Comma (suc n) us i (expr_stays p (suc n) (by kind.LeftParen n ts h w))))
    atom_stays {ts = ts} (grammar.list {us = us} h q i) n w = closed_bracket n us i (listed_stays q (suc n) (by kind.LeftBracket n ts h w))
    atom_stays {ts = ts} (grammar.list_of {ws = ws} h p c cs i) n w = closed_bracket n ws i (clauses_stays cs (suc n) (clause_stays c (suc n) (expr_stays p (suc n) (by kind.LeftBracket n ts h w))))
    atom_stays {ts = ts} (grammar.dict {us = us} h q i) n w = closed_brace n us i (paired_stays q (suc n) (by kind.LeftBrace n ts h w))
    atom_stays {ts = ts} (grammar.dict_of {us = us} {xs = xs} h p i q c cs j) n w = closed_brace n xs j (clauses_stays cs (suc n) (clause_stays c (suc n) (expr_stays q (suc n) (by kind.Colon (suc n) us i (expr_stays p (suc n) (by kind.LeftBrace n ts h w))))))

    listed_stays : {es : Exprs} {ts us : Tokens} → grammar.Listed es ts us → (n : ℕ) → At n ts → At n us
    listed_stays grammar.nothing n w = w
    listed_stays (grammar.last p) n w = expr_stays p n w
    listed_stays (grammar.more {us = us} p h q) n w = listed_stays q n (by kind.Comma n us h (expr_stays p n w))

    paired_stays : {ps : Pairs} {ts us : Tokens} → grammar.Paired ps ts us → (n : ℕ) → At n ts → At n us
    paired_stays grammar.no_pair n w = w
    paired_stays (grammar.last_pair {us = us} p h q) n w = expr_stays q n (by kind.Colon n us h (expr_stays p n w))
    paired_stays (grammar.more_pairs {us = us} {vs = vs} p h q i s) n w = paired_stays s n (by kind.Comma n vs i (expr_stays q n (by kind.Colon n us h (expr_stays p n w))))

    clause_stays : {c : Clause} {ts us : Tokens} → grammar.IsClause c ts us → (n : ℕ) → At n ts → At n us
    clause_stays {ts = ts} (grammar.a_clause {us = us} h p i q s) n w = ifs_stays s n (or_stays q n (by kind.In n us i (target_stays p n (by kind.For n ts h w))))

    clauses_stays : {cs : Clauses} {ts us : Tokens} → grammar.IsClauses cs ts us → (n : ℕ) → At n ts → At n us
    clauses_stays grammar.clauses_end n w = w
    clauses_stays (grammar.clauses_go c cs) n w = clauses_stays cs n (clause_stays c n w)

    ifs_stays : {es : Exprs} {ts us : Tokens} → grammar.Ifs es ts us → (n : ℕ) → At n ts → At n us
    ifs_stays grammar.ifs_end n w = w
    ifs_stays {ts = ts} (grammar.ifs_go h p q) n w = ifs_stays q n (or_stays p n (by kind.If n ts h w))

    place_stays : {x : Place} {ts us : Tokens} → grammar.IsPlace x ts us → (n : ℕ) → At n ts → At n us
    place_stays {ts = ts} (grammar.place_name {n = m} h) n w = by (kind.Name m) n ts h w
    place_stays (grammar.place_attr {n = m} {us = us} p h i) n w = by (kind.Name m) n (skip us) i (by kind.Dot n us h (primary_stays p n w))
    place_stays (grammar.place_item {us = us} {vs = vs} p h q i) n w = closed_bracket n vs i (expr_stays q (suc n) (by kind.LeftBracket n us h (primary_stays p n w)))
    place_stays {ts = ts} (grammar.place_paren {us = us} h p i) n w = closed_paren n us i (place_stays p (suc n) (by kind.LeftParen n ts h w))

    group_stays : {x : Target} {line : Line} {ts us : Tokens} → grammar.IsGroup x line ts us → (n : ℕ) → At n ts → At n us
    group_stays {ts = ts} (grammar.group_parts {us = us} h p i) n w = closed_paren n us i (parts_stays p (suc n) (by kind.LeftParen n ts h w))
    group_stays {ts = ts} (grammar.group_list {us = us} h p i) n w = closed_bracket n us i (targeted_stays p (suc n) (by kind.LeftBracket n ts h w))
    group_stays {ts = ts} (grammar.group_paren {us = us} h p i) n w = closed_paren n us i (group_stays p (suc n) (by kind.LeftParen n ts h w))

    part_stays : {x : Target} {line : Line} {ts us : Tokens} → grammar.Part x line ts us → (n : ℕ) → At n ts → At n us
    part_stays (grammar.part_place p) n w = place_stays p n w
    part_stays (grammar.part_group p) n w = group_stays p n w

    targeted_stays : {ps : Targets} {ts us : Tokens} → grammar.Targeted ps ts us → (n : ℕ) → At n ts → At n us
    targeted_stays grammar.no_part n w = w
    targeted_stays (grammar.last_part p) n w = part_stays p n w
    targeted_stays (grammar.more_parts {us = us} p h q) n w = targeted_stays q n (by kind.Comma n us h (part_stays p n w))

    parts_stays : {ps : Targets} {line : Line} {ts us : Tokens} → grammar.Parts ps line ts us → (n : ℕ) → At n ts → At n us
    parts_stays (grammar.parts {us = us} p h q) n w = targeted_stays q n (by kind.Comma n us h (part_stays p n w))

    pub target_stays : {x : Target} {line : Line} {ts us : Tokens} → grammar.IsTarget x line ts us → (n : ℕ) → At n ts → At n us
    target_stays (grammar.target_part p) n w = part_stays p n w
    target_stays (grammar.target_parts p) n w = parts_stays p n w

    maybe_stays : {a : Maybe} {ts us : Tokens} → grammar.IsMaybe a ts us → (n : ℕ) → At n ts → At n us
    maybe_stays grammar.missing n w = w
    maybe_stays (grammar.present p) n w = expr_stays p n w

    trailer_stays : {x : Trailer} {ts us : Tokens} → grammar.IsTrailer x ts us → (n : ℕ) → At n ts → At n us
    trailer_stays {ts = ts} (grammar.attr {n = m} h i) n w = by (kind.Name m) n (skip ts) i (by kind.Dot n ts h w)
    trailer_stays {ts = ts} (grammar.item {us = us} h p i) n w = closed_bracket n us i (expr_stays p (suc n) (by kind.LeftBracket n ts h w))
    trailer_stays {ts = ts} (grammar.slice {us = us} {vs = vs} h p i q j) n w = closed_bracket n vs j (maybe_stays q (suc n) (by kind.Colon (suc n) us i (maybe_stays p (suc n) (by kind.LeftBracket n ts h w))))
    trailer_stays {ts = ts} (grammar.stepped {us = us} {vs = vs} {ws = ws} h p i q j s k) n w = closed_bracket n ws k (maybe_stays s (suc n) (by kind.Colon (suc n) vs j (maybe_stays q (suc n) (by kind.Colon (suc n) us i (maybe_stays p (suc n) (by kind.LeftBracket n ts h w))))))
    trailer_stays {ts = ts} (grammar.call {us = us} h q each_once i) n w = closed_paren n us i (args_stays q (suc n) (by kind.LeftParen n ts h w))

    arg_stays : {named : Bool} {x : Arg} {ts us : Tokens} → grammar.IsArg named x ts us → (n : ℕ) → At n ts → At n us
    arg_stays (grammar.value p) n w = expr_stays p n w
    arg_stays {ts = ts} (grammar.starred h p) n w = expr_stays p n (by kind.Star n ts h w)
    arg_stays {ts = ts} (grammar.key {n = m} h i p) n w = expr_stays p n (by kind.Equal n (skip ts) i (by (kind.Name m) n ts h w))
    arg_stays {ts = ts} (grammar.double_starred h p) n w = expr_stays p n (by kind.DoubleStar n ts h w)

    args_stays : {named : Bool} {xs : Args} {ts us : Tokens} → grammar.IsArgs named xs ts us → (n : ℕ) → At n ts → At n us
    args_stays grammar.no_arg n w = w
    args_stays (grammar.last_arg p) n w = arg_stays p n w
    args_stays (grammar.more_args {us = us} p h q) n w = args_stays q n (by kind.Comma n us h (arg_stays p n w))
    args_stays (grammar.args_with_names p) n w = args_stays p n w

    pub params_stays : {stage : Stage} {ps : Params} {ts us : Tokens} → grammar.IsParams stage ps ts us → (n : ℕ) → At n ts → At n us
    params_stays grammar.no_param n w = w
    params_stays {ts = ts} (grammar.param {n = m} {ps = tree.params others list dict} h q) n w = following_stays q n (by (kind.Name m) n ts h w)
    params_stays {ts = ts} (grammar.default {n = m} {ps = tree.params others list dict} c h i p q) n w = following_stays q n (expr_stays p n (by kind.Equal n (skip ts) i (by (kind.Name m) n ts h w)))
    params_stays {ts = ts} (grammar.list_param {n = m} c h i q) n w = following_stays q n (by (kind.Name m) n (skip ts) i (by kind.Star n ts h w))
    params_stays {ts = ts} (grammar.dict_param {n = m} c h i q) n w = following_stays q n (by (kind.Name m) n (skip ts) i (by kind.DoubleStar n ts h w))

    following_stays : {stage : Stage} {ps : Params} {ts us : Tokens} → grammar.Following stage ps ts us → (n : ℕ) → At n ts → At n us
    following_stays grammar.no_more n w = w
    following_stays {ts = ts} (grammar.comma h p) n w = params_stays p n (by kind.Comma n ts h w)

    trail_stays : {xs : Trailers} {ts us : Tokens} → grammar.Trail xs ts us → (n : ℕ) → At n ts → At n us
    trail_stays grammar.ends n w = w
    trail_stays (grammar.goes p q) n w = trail_stays q n (trailer_stays p n w)

    pub primary_stays : {e : Expr} {ts us : Tokens} → grammar.Primary e ts us → (n : ℕ) → At n ts → At n us
    primary_stays (grammar.bare p) n w = atom_stays p n w
    primary_stays (grammar.trailed p q s) n w = trail_stays s n (trailer_stays q n (atom_stays p n w))

    power_stays : {e : Expr} {ts us : Tokens} → grammar.Power e ts us → (n : ℕ) → At n ts → At n us
    power_stays (grammar.base p) n w = primary_stays p n w
    power_stays (grammar.raised {us = us} p h q) n w = unary_stays q n (by kind.DoubleStar n us h (primary_stays p n w))

    unary_stays : {e : Expr} {ts us : Tokens} → grammar.Unary e ts us → (n : ℕ) → At n ts → At n us
    unary_stays (grammar.unsigned p) n w = power_stays p n w
    unary_stays {ts = ts} (grammar.signed {o = o} h p) n w = unary_stays p n (passes n n ts (unary_open (first ts) o n h) w)

    chain_stays : {k : ℕ} {e : Expr} {ts us : Tokens} → grammar.Chain k e ts us → (n : ℕ) → At n ts → At n us
    chain_stays (grammar.operand p) n w = unary_stays p n w
    chain_stays (grammar.tighter p) n w = chain_stays p n w
    chain_stays (grammar.chained {o = o} {us = us} p h i q s) n w = chained_stays s n (chain_stays q n (passes n n us (binary_open (first us) o n h) (chain_stays p n w)))

    chained_stays : {k : ℕ} {os : Ops} {ts us : Tokens} → grammar.Chained k os ts us → (n : ℕ) → At n ts → At n us
    chained_stays grammar.chain_ends n w = w
    chained_stays {ts = ts} (grammar.chain_goes {o = o} h i p q) n w = chained_stays q n (chain_stays p n (passes n n ts (binary_open (first ts) o n h) w))

    compare_stays : {e : Expr} {ts us : Tokens} → grammar.Compare e ts us → (n : ℕ) → At n ts → At n us
    compare_stays (grammar.single p) n w = chain_stays p n w
    compare_stays (grammar.compared p q s) n w = compared_stays s n (tested_stays q n (chain_stays p n w))

    tested_stays : {x : Test} {e : Expr} {ts us : Tokens} → grammar.Tested x e ts us → (n : ℕ) → At n ts → At n us
    tested_stays (grammar.test p q) n w = chain_stays q n (test_stays p n w)
    tested_stays {ts = ts} (grammar.is_none h i) n w = by kind.None n (skip ts) i (by kind.Is n ts h w)
    tested_stays {ts = ts} (grammar.is_not_none h i j) n w = by kind.None n (skip (skip ts)) j (by kind.Not n (skip ts) i (by kind.Is n ts h w))

    compared_stays : {xs : Tests} {ts us : Tokens} → grammar.Compared xs ts us → (n : ℕ) → At n ts → At n us
    compared_stays grammar.tests_end n w = w
    compared_stays (grammar.tests_go p q) n w = compared_stays q n (tested_stays p n w)

    not_stays : {e : Expr} {ts us : Tokens} → grammar.Not e ts us → (n : ℕ) → At n ts → At n us
    not_stays (grammar.asserted p) n w = compare_stays p n w
    not_stays {ts = ts} (grammar.negated h p) n w = not_stays p n (by kind.Not n ts h w)

    and_stays : {e : Expr} {ts us : Tokens} → grammar.And e ts us → (n : ℕ) → At n ts → At n us
    and_stays (grammar.and_single p) n w = not_stays p n w
    and_stays (grammar.and_several {us = us} p h q s) n w = ands_stays s n (not_stays q n (by kind.And n us h (not_stays p n w)))

    ands_stays : {es : Exprs} {ts us : Tokens} → grammar.Ands es ts us → (n : ℕ) → At n ts → At n us
    ands_stays grammar.ands_end n w = w
    ands_stays {ts = ts} (grammar.ands_go h p q) n w = ands_stays q n (not_stays p n (by kind.And n ts h w))

    pub or_stays : {e : Expr} {ts us : Tokens} → grammar.Or e ts us → (n : ℕ) → At n ts → At n us
    or_stays (grammar.or_single p) n w = and_stays p n w
    or_stays (grammar.or_several {us = us} p h q s) n w = ors_stays s n (and_stays q n (by kind.Or n us h (and_stays p n w)))

    ors_stays : {es : Exprs} {ts us : Tokens} → grammar.Ors es ts us → (n : ℕ) → At n ts → At n us
    ors_stays grammar.ors_end n w = w
    ors_stays {ts = ts} (grammar.ors_go h p q) n w = ors_stays q n (and_stays p n (by kind.Or n ts h w))

    pub expr_stays : {e : Expr} {ts us : Tokens} → grammar.IsExpr e ts us → (n : ℕ) → At n ts → At n us
    expr_stays {ts = ts} (grammar.a_lambda {e = e} {us = us} h p each_once i q) n w = expr_stays q n (by kind.Colon n us i (params_stays p n (by kind.Lambda n ts h w)))
    expr_stays (grammar.unconditional p) n w = or_stays p n w
    expr_stays (grammar.cond {us = us} {vs = vs} p h q i s) n w = expr_stays s n (by kind.Else n vs i (or_stays q n (by kind.If n us h (or_stays p n w))))

  -- what is spelled is read within the room that is left for brackets, and the height of its tree
  mutual
    atom_bound : {e : Expr} {ts us : Tokens} (p : grammar.Atom e ts us) → (n : ℕ) → At n ts → n + nest_atom p < most + expr_height e
    atom_bound {ts = ts} (grammar.name {n = m} h) n w = omega (arith, low n ts w)
    atom_bound {ts = ts} (grammar.int {n = m} h) n w = omega (arith, low n ts w)
    atom_bound {ts = ts} (grammar.text p) n w = omega (arith, low n ts w)
    atom_bound {ts = ts} (grammar.nil h) n w = omega (arith, low n ts w)
    atom_bound {ts = ts} (grammar.truth h) n w = omega (arith, low n ts w)
    atom_bound {ts = ts} (grammar.falsity h) n w = omega (arith, low n ts w)
    atom_bound {ts = ts} (grammar.paren {us = us} h p i) n w = omega (arith, expr_bound p (suc n) (by kind.LeftParen n ts h w))
    atom_bound {ts = ts} (grammar.unit h i) n w = omega (arith, low n ts w)
    atom_bound {ts = ts} (grammar.tuple {us = us} {vs = vs} h p i q j) n w = omega (arith, expr_bound p (suc n) (by kind.LeftParen n ts h w), listed_bound q (suc n) (by kind.Comma (suc n) us i (expr_stays p (suc n) (by kind.LeftParen n ts h w))))
    atom_bound {ts = ts} (grammar.list {us = us} h q i) n w = omega (arith, listed_bound q (suc n) (by kind.LeftBracket n ts h w))
    atom_bound {ts = ts} (grammar.list_of {ws = ws} h p c cs i) n w = omega (arith, expr_bound p (suc n) (by kind.LeftBracket n ts h w), clause_bound c (suc n) (expr_stays p (suc n) (by kind.LeftBracket n ts h w)), clauses_bound cs (suc n) (clause_stays c (suc n) (expr_stays p (suc n) (by kind.LeftBracket n ts h w))))
    atom_bound {ts = ts} (grammar.dict {us = us} h q i) n w = omega (arith, paired_bound q (suc n) (by kind.LeftBrace n ts h w))
    atom_bound {ts = ts} (grammar.dict_of {us = us} {xs = xs} h p i q c cs j) n w = omega (arith, expr_bound p (suc n) (by kind.LeftBrace n ts h w), expr_bound q (suc n) (by kind.Colon (suc n) us i (expr_stays p (suc n) (by kind.LeftBrace n ts h w))), clause_bound c (suc n) (expr_stays q (suc n) (by kind.Colon (suc n) us i (expr_stays p (suc n) (by kind.LeftBrace n ts h w)))), clauses_bound cs (suc n) (clause_stays c (suc n) (expr_stays q (suc n) (by kind.Colon (suc n) us i (expr_stays p (suc n) (by kind.LeftBrace n ts h w))))))

    listed_bound : {es : Exprs} {ts us : Tokens} (p : grammar.Listed es ts us) → (n : ℕ) → At n ts → n + nest_listed p < most + max 1 (exprs_height es)
    listed_bound {ts = ts} grammar.nothing n w = omega (arith, low n ts w)
    listed_bound (grammar.last p) n w = omega (arith, expr_bound p n w)
    listed_bound (grammar.more {us = us} p h q) n w = omega (arith, expr_bound p n w, listed_bound q n (by kind.Comma n us h (expr_stays p n w)))

    paired_bound : {ps : Pairs} {ts us : Tokens} (p : grammar.Paired ps ts us) → (n : ℕ) → At n ts → n + nest_paired p < most + max 1 (pairs_height ps)
    paired_bound {ts = ts} grammar.no_pair n w = omega (arith, low n ts w)
    paired_bound (grammar.last_pair {us = us} p h q) n w = omega (arith, expr_bound p n w, expr_bound q n (by kind.Colon n us h (expr_stays p n w)))
    paired_bound (grammar.more_pairs {us = us} {vs = vs} p h q i s) n w = omega (arith, expr_bound p n w, expr_bound q n (by kind.Colon n us h (expr_stays p n w)), paired_bound s n (by kind.Comma n vs i (expr_stays q n (by kind.Colon n us h (expr_stays p n w)))))

    clause_bound : {c : Clause} {ts us : Tokens} (p : grammar.IsClause c ts us) → (n : ℕ) → At n ts → n + nest_clause p < most + max 1 (clause_height c)
    clause_bound {ts = ts} (grammar.a_clause {us = us} h p i q s) n w = omega (arith, target_bound p n (by kind.For n ts h w), or_bound q n (by kind.In n us i (target_stays p n (by kind.For n ts h w))), ifs_bound s n (or_stays q n (by kind.In n us i (target_stays p n (by kind.For n ts h w)))))

    clauses_bound : {cs : Clauses} {ts us : Tokens} (p : grammar.IsClauses cs ts us) → (n : ℕ) → At n ts → n + nest_clauses p < most + max 1 (clauses_height cs)
    clauses_bound {ts = ts} grammar.clauses_end n w = omega (arith, low n ts w)
    clauses_bound (grammar.clauses_go c cs) n w = omega (arith, clause_bound c n w, clauses_bound cs n (clause_stays c n w))

    ifs_bound : {es : Exprs} {ts us : Tokens} (p : grammar.Ifs es ts us) → (n : ℕ) → At n ts → n + nest_ifs p < most + max 1 (exprs_height es)
    ifs_bound {ts = ts} grammar.ifs_end n w = omega (arith, low n ts w)
    ifs_bound {ts = ts} (grammar.ifs_go h p q) n w = omega (arith, or_bound p n (by kind.If n ts h w), ifs_bound q n (or_stays p n (by kind.If n ts h w)))

    place_bound : {x : Place} {ts us : Tokens} (p : grammar.IsPlace x ts us) → (n : ℕ) → At n ts → n + nest_place p < most + place_height x
    place_bound {ts = ts} (grammar.place_name {n = m} h) n w = omega (arith, low n ts w)
    place_bound (grammar.place_attr {n = m} {us = us} p h i) n w = omega (arith, primary_bound p n w)
    place_bound (grammar.place_item {us = us} {vs = vs} p h q i) n w = omega (arith, primary_bound p n w, expr_bound q (suc n) (by kind.LeftBracket n us h (primary_stays p n w)))
    place_bound {ts = ts} (grammar.place_paren {us = us} h p i) n w = omega (arith, place_bound p (suc n) (by kind.LeftParen n ts h w))

    group_bound : {x : Target} {line : Line} {ts us : Tokens} (p : grammar.IsGroup x line ts us) → (n : ℕ) → At n ts → n + nest_group p < most + target_height x
    group_bound {ts = ts} (grammar.group_parts {us = us} h p i) n w = omega (arith, parts_bound p (suc n) (by kind.LeftParen n ts h w))
    group_bound {ts = ts} (grammar.group_list {us = us} h p i) n w = omega (arith, targeted_bound p (suc n) (by kind.LeftBracket n ts h w))
    group_bound {ts = ts} (grammar.group_paren {us = us} h p i) n w = omega (arith, group_bound p (suc n) (by kind.LeftParen n ts h w))

    part_bound : {x : Target} {line : Line} {ts us : Tokens} (p : grammar.Part x line ts us) → (n : ℕ) → At n ts → n + nest_part p < most + target_height x
    part_bound (grammar.part_place p) n w = place_bound p n w
    part_bound (grammar.part_group p) n w = group_bound p n w

    targeted_bound : {ps : Targets} {ts us : Tokens} (p : grammar.Targeted ps ts us) → (n : ℕ) → At n ts → n + nest_targeted p < most + max 1 (targets_height ps)
    targeted_bound {ts = ts} grammar.no_part n w = omega (arith, low n ts w)
    targeted_bound (grammar.last_part p) n w = omega (arith, part_bound p n w)
    targeted_bound (grammar.more_parts {us = us} p h q) n w = omega (arith, part_bound p n w, targeted_bound q n (by kind.Comma n us h (part_stays p n w)))

    parts_bound : {ps : Targets} {line : Line} {ts us : Tokens} (p : grammar.Parts ps line ts us) → (n : ℕ) → At n ts → n + nest_parts p < most + max 1 (targets_height ps)
    parts_bound (grammar.parts {us = us} p h q) n w = omega (arith, part_bound p n w, targeted_bound q n (by kind.Comma n us h (part_stays p n w)))

    pub target_bound : {x : Target} {line : Line} {ts us : Tokens} (p : grammar.IsTarget x line ts us) → (n : ℕ) → At n ts → n + nest_target p < most + target_height x
    target_bound (grammar.target_part p) n w = part_bound p n w
    target_bound (grammar.target_parts p) n w = omega (arith, parts_bound p n w)

    maybe_bound : {a : Maybe} {ts us : Tokens} (p : grammar.IsMaybe a ts us) → (n : ℕ) → At n ts → n + nest_maybe p < most + max 1 (maybe_height a)
    maybe_bound {ts = ts} grammar.missing n w = omega (arith, low n ts w)
    maybe_bound (grammar.present p) n w = omega (arith, expr_bound p n w)

    trailer_bound : {x : Trailer} {ts us : Tokens} (p : grammar.IsTrailer x ts us) → (n : ℕ) → At n ts → n + nest_trailer p < most + max 1 (trailer_height x)
    trailer_bound {ts = ts} (grammar.attr {n = m} h i) n w = omega (arith, low n ts w)
    trailer_bound {ts = ts} (grammar.item {us = us} h p i) n w = omega (arith, expr_bound p (suc n) (by kind.LeftBracket n ts h w))
    trailer_bound {ts = ts} (grammar.slice {us = us} {vs = vs} h p i q j) n w = omega (arith, maybe_bound p (suc n) (by kind.LeftBracket n ts h w), maybe_bound q (suc n) (by kind.Colon (suc n) us i (maybe_stays p (suc n) (by kind.LeftBracket n ts h w))))
    trailer_bound {ts = ts} (grammar.stepped {us = us} {vs = vs} {ws = ws} h p i q j s k) n w = omega (arith, maybe_bound p (suc n) (by kind.LeftBracket n ts h w), maybe_bound q (suc n) (by kind.Colon (suc n) us i (maybe_stays p (suc n) (by kind.LeftBracket n ts h w))), maybe_bound s (suc n) (by kind.Colon (suc n) vs j (maybe_stays q (suc n) (by kind.Colon (suc n) us i (maybe_stays p (suc n) (by kind.LeftBracket n ts h w))))))
    trailer_bound {ts = ts} (grammar.call {us = us} h q each_once i) n w = omega (arith, args_bound q (suc n) (by kind.LeftParen n ts h w))

    arg_bound : {named : Bool} {x : Arg} {ts us : Tokens} (p : grammar.IsArg named x ts us) → (n : ℕ) → At n ts → n + nest_arg p < most + max 1 (arg_height x)
    arg_bound (grammar.value p) n w = omega (arith, expr_bound p n w)
    arg_bound {ts = ts} (grammar.starred h p) n w = omega (arith, expr_bound p n (by kind.Star n ts h w))
    arg_bound {ts = ts} (grammar.key {n = m} h i p) n w = omega (arith, expr_bound p n (by kind.Equal n (skip ts) i (by (kind.Name m) n ts h w)))
    arg_bound {ts = ts} (grammar.double_starred h p) n w = omega (arith, expr_bound p n (by kind.DoubleStar n ts h w))

    args_bound : {named : Bool} {xs : Args} {ts us : Tokens} (p : grammar.IsArgs named xs ts us) → (n : ℕ) → At n ts → n + nest_args p < most + max 1 (args_height xs)
    args_bound {ts = ts} grammar.no_arg n w = omega (arith, low n ts w)
    args_bound (grammar.last_arg p) n w = omega (arith, arg_bound p n w)
    args_bound (grammar.more_args {us = us} p h q) n w = omega (arith, arg_bound p n w, args_bound q n (by kind.Comma n us h (arg_stays p n w)))
    args_bound (grammar.args_with_names p) n w = args_bound p n w

    pub params_bound : {stage : Stage} {ps : Params} {ts us : Tokens} (p : grammar.IsParams stage ps ts us) → (n : ℕ) → At n ts → n + nest_params p ≤ most + params_height ps
    params_bound {ts = ts} grammar.no_param n w = omega (arith, low n ts w)
    params_bound {ts = ts} (grammar.param {n = m} {ps = tree.params others list dict} h q) n w = omega (arith, following_bound q n (by (kind.Name m) n ts h w))
    params_bound {ts = ts} (grammar.default {n = m} {ps = tree.params others list dict} c h i p q) n w = omega (arith, expr_bound p n (by kind.Equal n (skip ts) i (by (kind.Name m) n ts h w)), following_bound q n (expr_stays p n (by kind.Equal n (skip ts) i (by (kind.Name m) n ts h w))))
    params_bound {ts = ts} (grammar.list_param {n = m} c h i q) n w = omega (arith, following_bound q n (by (kind.Name m) n (skip ts) i (by kind.Star n ts h w)))
    params_bound {ts = ts} (grammar.dict_param {n = m} c h i q) n w = omega (arith, following_bound q n (by (kind.Name m) n (skip ts) i (by kind.DoubleStar n ts h w)))

    following_bound : {stage : Stage} {ps : Params} {ts us : Tokens} (p : grammar.Following stage ps ts us) → (n : ℕ) → At n ts → n + nest_following p ≤ most + params_height ps
    following_bound {ts = ts} grammar.no_more n w = omega (arith, low n ts w)
    following_bound {ts = ts} (grammar.comma h p) n w = params_bound p n (by kind.Comma n ts h w)

    trail_bound : {xs : Trailers} {ts us : Tokens} (p : grammar.Trail xs ts us) → (n : ℕ) → At n ts → n + nest_trail p < most + max 1 (trailers_height xs)
    trail_bound {ts = ts} grammar.ends n w = omega (arith, low n ts w)
    trail_bound (grammar.goes p q) n w = omega (arith, trailer_bound p n w, trail_bound q n (trailer_stays p n w))

    pub primary_bound : {e : Expr} {ts us : Tokens} (p : grammar.Primary e ts us) → (n : ℕ) → At n ts → n + nest_primary p < most + expr_height e
    primary_bound (grammar.bare p) n w = atom_bound p n w
    primary_bound (grammar.trailed p q s) n w = omega (arith, atom_bound p n w, trailer_bound q n (atom_stays p n w), trail_bound s n (trailer_stays q n (atom_stays p n w)))

    power_bound : {e : Expr} {ts us : Tokens} (p : grammar.Power e ts us) → (n : ℕ) → At n ts → n + nest_power p < most + expr_height e
    power_bound (grammar.base p) n w = primary_bound p n w
    power_bound (grammar.raised {us = us} p h q) n w = omega (arith, primary_bound p n w, unary_bound q n (by kind.DoubleStar n us h (primary_stays p n w)))

    unary_bound : {e : Expr} {ts us : Tokens} (p : grammar.Unary e ts us) → (n : ℕ) → At n ts → n + nest_unary p < most + expr_height e
    unary_bound (grammar.unsigned p) n w = power_bound p n w
    unary_bound {ts = ts} (grammar.signed {o = o} h p) n w = omega (arith, unary_bound p n (passes n n ts (unary_open (first ts) o n h) w))

    chain_bound : {k : ℕ} {e : Expr} {ts us : Tokens} (p : grammar.Chain k e ts us) → (n : ℕ) → At n ts → n + nest_chain p < most + expr_height e
    chain_bound (grammar.operand p) n w = unary_bound p n w
    chain_bound (grammar.tighter p) n w = chain_bound p n w
    chain_bound (grammar.chained {o = o} {us = us} p h i q s) n w = omega (arith, chain_bound p n w, chain_bound q n (passes n n us (binary_open (first us) o n h) (chain_stays p n w)), chained_bound s n (chain_stays q n (passes n n us (binary_open (first us) o n h) (chain_stays p n w))))

    chained_bound : {k : ℕ} {os : Ops} {ts us : Tokens} (p : grammar.Chained k os ts us) → (n : ℕ) → At n ts → n + nest_chained p < most + max 1 (ops_height os)
    chained_bound {ts = ts} grammar.chain_ends n w = omega (arith, low n ts w)
    chained_bound {ts = ts} (grammar.chain_goes {o = o} h i p q) n w = omega (arith, chain_bound p n (passes n n ts (binary_open (first ts) o n h) w), chained_bound q n (chain_stays p n (passes n n ts (binary_open (first ts) o n h) w)))

    compare_bound : {e : Expr} {ts us : Tokens} (p : grammar.Compare e ts us) → (n : ℕ) → At n ts → n + nest_compare p < most + expr_height e
    compare_bound (grammar.single p) n w = chain_bound p n w
    compare_bound (grammar.compared p q s) n w = omega (arith, chain_bound p n w, tested_bound q n (chain_stays p n w), compared_bound s n (tested_stays q n (chain_stays p n w)))

    tested_bound : {x : Test} {e : Expr} {ts us : Tokens} (p : grammar.Tested x e ts us) → (n : ℕ) → At n ts → n + nest_tested p < most + expr_height e
    tested_bound (grammar.test p q) n w = chain_bound q n (test_stays p n w)
    tested_bound {ts = ts} (grammar.is_none h i) n w = omega (arith, low n ts w)
    tested_bound {ts = ts} (grammar.is_not_none h i j) n w = omega (arith, low n ts w)

    compared_bound : {xs : Tests} {ts us : Tokens} (p : grammar.Compared xs ts us) → (n : ℕ) → At n ts → n + nest_compared p < most + max 1 (tests_height xs)
    compared_bound {ts = ts} grammar.tests_end n w = omega (arith, low n ts w)
    compared_bound (grammar.tests_go p q) n w = omega (arith, tested_bound p n w, compared_bound q n (tested_stays p n w))

    not_bound : {e : Expr} {ts us : Tokens} (p : grammar.Not e ts us) → (n : ℕ) → At n ts → n + nest_not p < most + expr_height e
    not_bound (grammar.asserted p) n w = compare_bound p n w
    not_bound {ts = ts} (grammar.negated h p) n w = omega (arith, not_bound p n (by kind.Not n ts h w))

    and_bound : {e : Expr} {ts us : Tokens} (p : grammar.And e ts us) → (n : ℕ) → At n ts → n + nest_and p < most + expr_height e
    and_bound (grammar.and_single p) n w = not_bound p n w
    and_bound (grammar.and_several {us = us} p h q s) n w = omega (arith, not_bound p n w, not_bound q n (by kind.And n us h (not_stays p n w)), ands_bound s n (not_stays q n (by kind.And n us h (not_stays p n w))))

    ands_bound : {es : Exprs} {ts us : Tokens} (p : grammar.Ands es ts us) → (n : ℕ) → At n ts → n + nest_ands p < most + max 1 (exprs_height es)
    ands_bound {ts = ts} grammar.ands_end n w = omega (arith, low n ts w)
    ands_bound {ts = ts} (grammar.ands_go h p q) n w = omega (arith, not_bound p n (by kind.And n ts h w), ands_bound q n (not_stays p n (by kind.And n ts h w)))

    pub or_bound : {e : Expr} {ts us : Tokens} (p : grammar.Or e ts us) → (n : ℕ) → At n ts → n + nest_or p < most + expr_height e
    or_bound (grammar.or_single p) n w = and_bound p n w
    or_bound (grammar.or_several {us = us} p h q s) n w = omega (arith, and_bound p n w, and_bound q n (by kind.Or n us h (and_stays p n w)), ors_bound s n (and_stays q n (by kind.Or n us h (and_stays p n w))))

    ors_bound : {es : Exprs} {ts us : Tokens} (p : grammar.Ors es ts us) → (n : ℕ) → At n ts → n + nest_ors p < most + max 1 (exprs_height es)
    ors_bound {ts = ts} grammar.ors_end n w = omega (arith, low n ts w)
    ors_bound {ts = ts} (grammar.ors_go h p q) n w = omega (arith, and_bound p n (by kind.Or n ts h w), ors_bound q n (and_stays p n (by kind.Or n ts h w)))

    pub expr_bound : {e : Expr} {ts us : Tokens} (p : grammar.IsExpr e ts us) → (n : ℕ) → At n ts → n + nest_expr p < most + expr_height e
    expr_bound {ts = ts} (grammar.a_lambda {us = us} h p each_once i q) n w = omega (arith, params_bound p n (by kind.Lambda n ts h w), expr_bound q n (by kind.Colon n us i (params_stays p n (by kind.Lambda n ts h w))))
    expr_bound (grammar.unconditional p) n w = or_bound p n w
    expr_bound (grammar.cond {us = us} {vs = vs} p h q i s) n w = omega (arith, or_bound p n w, or_bound q n (by kind.If n us h (or_stays p n w)), expr_bound s n (by kind.Else n vs i (or_stays q n (by kind.If n us h (or_stays p n w)))))

  pub exprs_bound : {e : Expr} {ts us : Tokens} (p : grammar.IsExprs e ts us) → (n : ℕ) → At n ts → n + nest_exprs p < most + expr_height e
  exprs_bound (grammar.an_expr p) n w = expr_bound p n w
  exprs_bound (grammar.several {us = us} p h q) n w = omega (arith, expr_bound p n w, listed_bound q n (by kind.Comma n us h (expr_stays p n w)))
