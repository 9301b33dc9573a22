-- What is spelled takes at least one token, and what may be empty none or more.
use Rattle.std.proofs.Common.{◌≡◌, ℕ, ◌<◌, ◌≤◌, Bool, List, [], ◌∷◌, length, Some, arith}
use Rattle.rp_base.specs.declared.operator.BinOp.{BinOp}
use Rattle.rp_base.specs.declared.operator.UnOp.{UnOp}
use Rattle.rp_base.specs.declared.operator.CmpOp.{CmpOp}
use Rattle.rp_base.specs.declared.value.Line.{Line}
use Rattle.rp_token.specs.declared.token.TokenKind.{TokenKind}
use Rattle.rp_token.specs.declared.token.TokenKind.TheVariants as kind
use Rattle.rp_tree.specs.declared.parts.Test.{Test}
use Rattle.rp_tree.specs.Expressions.{Expr, Exprs, Maybe, Pairs, Tests, Ops, Clause, Clauses, Target, Targets, Place, Params, Trailer, Trailers, Arg, Args}
use Rattle.rp_grammar.specs.Kinds.{Tokens, first, skip, binary_of, unary_of, order_of}
use Rattle.rp_grammar.specs.Expressions as grammar
use Rattle.rp_grammar.specs.Expressions.{Stage}

pub skip_within : (ts : Tokens) → length (skip ts) ≤ length ts
skip_within [] = omega arith
skip_within (x ∷ ts) = omega arith

-- a token is taken
pub takes : (ts : Tokens) (k : TokenKind) → first ts ≡ k → (kind.End ≡ k → ⊥) → length (skip ts) < length ts
takes [] k h other = absurd (other h)
takes (x ∷ ts) k h other = omega arith

pub binary_takes : (ts : Tokens) (o : BinOp) → binary_of (first ts) ≡ Some o → length (skip ts) < length ts
binary_takes [] o h = absurd cc
binary_takes (x ∷ ts) o h = omega arith

pub unary_mark_takes : (ts : Tokens) (o : UnOp) → unary_of (first ts) ≡ Some o → length (skip ts) < length ts
unary_mark_takes [] o h = absurd cc
unary_mark_takes (x ∷ ts) o h = omega arith

pub order_takes : (ts : Tokens) (o : CmpOp) → order_of (first ts) ≡ Some o → length (skip ts) < length ts
order_takes [] o h = absurd cc
order_takes (x ∷ ts) o h = omega arith

pub texts_take : {s : List ℕ} {ts us : Tokens} → grammar.Texts s ts us → length us < length ts
texts_take {ts = ts} (grammar.one_text h) = takes ts _ h (λ e. cc)
texts_take {ts = ts} (grammar.more_texts h p) = omega (arith, takes ts _ h (λ e. cc), texts_take p)

pub test_takes : {x : Test} {ts us : Tokens} → grammar.IsTest x ts us → length us < length ts
test_takes {ts = ts} (grammar.order {o = o} h) = order_takes ts o h
test_takes {ts = ts} (grammar.within h) = takes ts _ h (λ e. cc)
test_takes {ts = ts} (grammar.not_within h i) = omega (arith, takes ts _ h (λ e. cc), takes (skip ts) _ i (λ e. cc))

mutual
  pub atom_takes : {e : Expr} {ts us : Tokens} → grammar.Atom e ts us → length us < length ts
  atom_takes {ts = ts} (grammar.name h) = takes ts _ h (λ e. cc)
  atom_takes {ts = ts} (grammar.int h) = takes ts _ h (λ e. cc)
  atom_takes (grammar.text p) = texts_take p
  atom_takes {ts = ts} (grammar.nil h) = takes ts _ h (λ e. cc)
  atom_takes {ts = ts} (grammar.truth h) = takes ts _ h (λ e. cc)
  atom_takes {ts = ts} (grammar.falsity h) = takes ts _ h (λ e. cc)
  atom_takes {ts = ts} (grammar.paren {us = us} h p i) = omega (arith, takes ts _ h (λ e. cc), expr_takes p, skip_within us)
  atom_takes {ts = ts} (grammar.unit h i) = omega (arith, takes ts _ h (λ e. cc), skip_within (skip ts))
  atom_takes {ts = ts} (grammar.tuple {us = us} {vs = vs} h p i q j) = omega (arith, takes ts _ h (λ e. cc), expr_takes p, skip_within us, listed_takes q, skip_within vs)
  atom_takes {ts = ts} (grammar.list {us = us} h q i) = omega (arith, takes ts _ h (λ e. cc), listed_takes q, skip_within us)
  atom_takes {ts = ts} (grammar.list_of {ws = ws} h p c cs i) = omega (arith, takes ts _ h (λ e. cc), expr_takes p, clause_takes c, clauses_take cs, skip_within ws)
  atom_takes {ts = ts} (grammar.dict {us = us} h q i) = omega (arith, takes ts _ h (λ e. cc), paired_takes q, skip_within us)
  atom_takes {ts = ts} (grammar.dict_of {us = us} {xs = xs} h p i q c cs j) = omega (arith, takes ts _ h (λ e. cc), expr_takes p, skip_within us, expr_takes q, clause_takes c, clauses_take cs, skip_within xs)

  pub listed_takes : {es : Exprs} {ts us : Tokens} → grammar.Listed es ts us → length us ≤ length ts
  listed_takes grammar.nothing = omega arith
  listed_takes (grammar.last p) = omega (arith, expr_takes p)
  listed_takes (grammar.more {us = us} p h q) = omega (arith, expr_takes p, skip_within us, listed_takes q)

  pub paired_takes : {ps : Pairs} {ts us : Tokens} → grammar.Paired ps ts us → length us ≤ length ts
  paired_takes grammar.no_pair = omega arith
  paired_takes (grammar.last_pair {us = us} p h q) = omega (arith, expr_takes p, skip_within us, expr_takes q)
  paired_takes (grammar.more_pairs {us = us} {vs = vs} p h q i r) = omega (arith, expr_takes p, skip_within us, expr_takes q, skip_within vs, paired_takes r)

  pub clause_takes : {c : Clause} {ts us : Tokens} → grammar.IsClause c ts us → length us < length ts
  clause_takes {ts = ts} (grammar.a_clause {us = us} h p i q r) = omega (arith, takes ts _ h (λ e. cc), target_takes p, skip_within us, or_takes q, ifs_take r)

  pub clauses_take : {cs : Clauses} {ts us : Tokens} → grammar.IsClauses cs ts us → length us ≤ length ts
  clauses_take grammar.clauses_end = omega arith
  clauses_take (grammar.clauses_go c cs) = omega (arith, clause_takes c, clauses_take cs)

  pub ifs_take : {es : Exprs} {ts us : Tokens} → grammar.Ifs es ts us → length us ≤ length ts
  ifs_take grammar.ifs_end = omega arith
  ifs_take {ts = ts} (grammar.ifs_go h p q) = omega (arith, skip_within ts, or_takes p, ifs_take q)

  pub place_takes : {p : Place} {ts us : Tokens} → grammar.IsPlace p ts us → length us < length ts
  place_takes {ts = ts} (grammar.place_name h) = takes ts _ h (λ e. cc)
  place_takes (grammar.place_attr {us = us} p h i) = omega (arith, primary_takes p, skip_within us, skip_within (skip us))
  place_takes (grammar.place_item {us = us} {vs = vs} p h q i) = omega (arith, primary_takes p, skip_within us, expr_takes q, skip_within vs)
  place_takes {ts = ts} (grammar.place_paren {us = us} h p i) = omega (arith, skip_within ts, place_takes p, skip_within us)

  pub group_takes : {p : Target} {line : Line} {ts us : Tokens} → grammar.IsGroup p line ts us → length us < length ts
  group_takes {ts = ts} (grammar.group_parts {us = us} h p i) = omega (arith, skip_within ts, parts_take p, skip_within us)
  group_takes {ts = ts} (grammar.group_list {us = us} h p i) = omega (arith, takes ts _ h (λ e. cc), targeted_takes p, skip_within us)
  group_takes {ts = ts} (grammar.group_paren {us = us} h p i) = omega (arith, skip_within ts, group_takes p, skip_within us)

  pub part_takes : {p : Target} {line : Line} {ts us : Tokens} → grammar.Part p line ts us → length us < length ts
  part_takes (grammar.part_place p) = place_takes p
  part_takes (grammar.part_group p) = group_takes p

  pub targeted_takes : {ps : Targets} {ts us : Tokens} → grammar.Targeted ps ts us → length us ≤ length ts
  targeted_takes grammar.no_part = omega arith
  targeted_takes (grammar.last_part p) = omega (arith, part_takes p)
  targeted_takes (grammar.more_parts {us = us} p h q) = omega (arith, part_takes p, skip_within us, targeted_takes q)

  pub parts_take : {ps : Targets} {line : Line} {ts us : Tokens} → grammar.Parts ps line ts us → length us < length ts
  parts_take (grammar.parts {us = us} p h q) = omega (arith, part_takes p, skip_within us, targeted_takes q)

  pub target_takes : {p : Target} {line : Line} {ts us : Tokens} → grammar.IsTarget p line ts us → length us < length ts
  target_takes (grammar.target_part p) = part_takes p
  target_takes (grammar.target_parts p) = parts_take p

  pub maybe_takes : {a : Maybe} {ts us : Tokens} → grammar.IsMaybe a ts us → length us ≤ length ts
  maybe_takes grammar.missing = omega arith
  maybe_takes (grammar.present p) = omega (arith, expr_takes p)

  pub trailer_takes : {x : Trailer} {ts us : Tokens} → grammar.IsTrailer x ts us → length us < length ts
  trailer_takes {ts = ts} (grammar.attr h i) = omega (arith, takes ts _ h (λ e. cc), skip_within (skip ts))
  trailer_takes {ts = ts} (grammar.item {us = us} h p i) = omega (arith, skip_within ts, expr_takes p, skip_within us)
  trailer_takes {ts = ts} (grammar.slice {us = us} {vs = vs} h a i b j) = omega (arith, takes ts _ h (λ e. cc), maybe_takes a, skip_within us, maybe_takes b, skip_within vs)
  trailer_takes {ts = ts} (grammar.stepped {us = us} {vs = vs} {ws = ws} h a i b j c k) = omega (arith, takes ts _ h (λ e. cc), maybe_takes a, skip_within us, maybe_takes b, skip_within vs, maybe_takes c, skip_within ws)
  trailer_takes {ts = ts} (grammar.call {us = us} h q d i) = omega (arith, takes ts _ h (λ e. cc), args_take q, skip_within us)

  pub arg_takes : {named : Bool} {x : Arg} {ts us : Tokens} → grammar.IsArg named x ts us → length us < length ts
  arg_takes (grammar.value p) = expr_takes p
  arg_takes {ts = ts} (grammar.starred h p) = omega (arith, skip_within ts, expr_takes p)
  arg_takes {ts = ts} (grammar.key h i p) = omega (arith, skip_within ts, skip_within (skip ts), expr_takes p)
  arg_takes {ts = ts} (grammar.double_starred h p) = omega (arith, skip_within ts, expr_takes p)

  pub args_take : {named : Bool} {xs : Args} {ts us : Tokens} → grammar.IsArgs named xs ts us → length us ≤ length ts
  args_take grammar.no_arg = omega arith
  args_take (grammar.last_arg p) = omega (arith, arg_takes p)
  args_take (grammar.more_args {us = us} p h q) = omega (arith, arg_takes p, skip_within us, args_take q)
  args_take (grammar.args_with_names p) = args_take p

  pub params_take : {stage : Stage} {ps : Params} {ts us : Tokens} → grammar.IsParams stage ps ts us → length us ≤ length ts
  params_take grammar.no_param = omega arith
  params_take {ts = ts} (grammar.param h f) = omega (arith, skip_within ts, following_takes f)
  params_take {ts = ts} (grammar.default c h i p f) = omega (arith, skip_within ts, skip_within (skip ts), expr_takes p, following_takes f)
  params_take {ts = ts} (grammar.list_param c h i f) = omega (arith, skip_within ts, skip_within (skip ts), following_takes f)
  params_take {ts = ts} (grammar.dict_param c h i f) = omega (arith, skip_within ts, skip_within (skip ts), following_takes f)

  pub following_takes : {stage : Stage} {ps : Params} {ts us : Tokens} → grammar.Following stage ps ts us → length us ≤ length ts
  following_takes grammar.no_more = omega arith
  following_takes {ts = ts} (grammar.comma h p) = omega (arith, skip_within ts, params_take p)

  pub trail_takes : {xs : Trailers} {ts us : Tokens} → grammar.Trail xs ts us → length us ≤ length ts
  trail_takes grammar.ends = omega arith
  trail_takes (grammar.goes p q) = omega (arith, trailer_takes p, trail_takes q)

  pub primary_takes : {e : Expr} {ts us : Tokens} → grammar.Primary e ts us → length us < length ts
  primary_takes (grammar.bare p) = atom_takes p
  primary_takes (grammar.trailed p q r) = omega (arith, atom_takes p, trailer_takes q, trail_takes r)

  pub power_takes : {e : Expr} {ts us : Tokens} → grammar.Power e ts us → length us < length ts
  power_takes (grammar.base p) = primary_takes p
  power_takes (grammar.raised {us = us} p h q) = omega (arith, primary_takes p, skip_within us, unary_takes q)

  pub unary_takes : {e : Expr} {ts us : Tokens} → grammar.Unary e ts us → length us < length ts
  unary_takes (grammar.unsigned p) = power_takes p
  unary_takes {ts = ts} (grammar.signed {o = o} h p) = omega (arith, skip_within ts, unary_takes p)

  pub chain_takes : {k : ℕ} {e : Expr} {ts us : Tokens} → grammar.Chain k e ts us → length us < length ts
  chain_takes (grammar.operand p) = unary_takes p
  chain_takes (grammar.tighter p) = chain_takes p
  chain_takes (grammar.chained {us = us} p h i q r) = omega (arith, chain_takes p, skip_within us, chain_takes q, chained_takes r)

  pub chained_takes : {k : ℕ} {os : Ops} {ts us : Tokens} → grammar.Chained k os ts us → length us ≤ length ts
  chained_takes grammar.chain_ends = omega arith
  chained_takes (grammar.chain_goes {us = us} h i p q) = omega (arith, skip_within us, chain_takes p, chained_takes q)

  pub compare_takes : {e : Expr} {ts us : Tokens} → grammar.Compare e ts us → length us < length ts
  compare_takes (grammar.single p) = chain_takes p
  compare_takes (grammar.compared p q r) = omega (arith, chain_takes p, tested_takes q, compared_takes r)

  pub tested_takes : {x : Test} {f : Expr} {ts us : Tokens} → grammar.Tested x f ts us → length us < length ts
  tested_takes (grammar.test p q) = omega (arith, test_takes p, chain_takes q)
  tested_takes {ts = ts} (grammar.is_none h i) = omega (arith, takes ts _ h (λ e. cc), skip_within (skip ts))
  tested_takes {ts = ts} (grammar.is_not_none h i j) = omega (arith, takes ts _ h (λ e. cc), skip_within (skip ts), skip_within (skip (skip ts)))

  pub compared_takes : {xs : Tests} {ts us : Tokens} → grammar.Compared xs ts us → length us ≤ length ts
  compared_takes grammar.tests_end = omega arith
  compared_takes (grammar.tests_go p q) = omega (arith, tested_takes p, compared_takes q)

  pub not_takes : {e : Expr} {ts us : Tokens} → grammar.Not e ts us → length us < length ts
  not_takes (grammar.asserted p) = compare_takes p
  not_takes {ts = ts} (grammar.negated h p) = omega (arith, skip_within ts, not_takes p)

  pub and_takes : {e : Expr} {ts us : Tokens} → grammar.And e ts us → length us < length ts
  and_takes (grammar.and_single p) = not_takes p
  and_takes (grammar.and_several {us = us} p h q r) = omega (arith, not_takes p, skip_within us, not_takes q, ands_take r)

  pub ands_take : {es : Exprs} {ts us : Tokens} → grammar.Ands es ts us → length us ≤ length ts
  ands_take grammar.ands_end = omega arith
  ands_take (grammar.ands_go {us = us} h p q) = omega (arith, skip_within us, not_takes p, ands_take q)

  pub or_takes : {e : Expr} {ts us : Tokens} → grammar.Or e ts us → length us < length ts
  or_takes (grammar.or_single p) = and_takes p
  or_takes (grammar.or_several {us = us} p h q r) = omega (arith, and_takes p, skip_within us, and_takes q, ors_take r)

  pub ors_take : {es : Exprs} {ts us : Tokens} → grammar.Ors es ts us → length us ≤ length ts
  ors_take grammar.ors_end = omega arith
  ors_take (grammar.ors_go {us = us} h p q) = omega (arith, skip_within us, and_takes p, ors_take q)

  pub expr_takes : {e : Expr} {ts us : Tokens} → grammar.IsExpr e ts us → length us < length ts
  expr_takes {ts = ts} (grammar.a_lambda {us = us} h p d i q) = omega (arith, skip_within ts, params_take p, skip_within us, expr_takes q)
  expr_takes (grammar.unconditional p) = or_takes p
  expr_takes (grammar.cond {us = us} {vs = vs} p h q i r) = omega (arith, or_takes p, skip_within us, or_takes q, skip_within vs, expr_takes r)
