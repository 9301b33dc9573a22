-- Expansion leaves the tokens of an expression: a name stands before an operator, a mark or a word, and each `{` is
-- that of a dict.
use Rattle.std.proofs.Common.{◌≡◌, refl, ℕ, Bool, true, false, List}
use Rattle.rp_base.specs.declared.value.Line.{Line}
use Rattle.rp_token.specs.declared.token.TokenKind.TheVariants as kind
use Rattle.rp_tree.specs.declared.parts.Test.{Test}
use Rattle.rp_tree.specs.Expressions.{Expr, Exprs, Maybe, Pairs, Tests, Ops, Clause, Clauses, Target, Targets, Place}
use Rattle.rp_tree.specs.Expressions.{Params, Trailer, Trailers, Arg, Args}
use Rattle.rp_grammar.specs.Kinds.{Tokens, first, skip}
use Rattle.rp_grammar.specs.Expressions as grammar
use Rattle.rp_grammar.specs.Expressions.{Stage}
use Rattle.rp_printed.proofs.Untouched.{◌▹◌, Goes, IsNoSet, back, before_colon, binary_plain, closed_at_once, front}
use Rattle.rp_printed.proofs.Untouched.{in_braces, in_brackets, in_parentheses, name_goes, nothing, order_plain}
use Rattle.rp_printed.proofs.Untouched.{plain_goes, stays, text_goes, unary_plain, within}

texts_go : {s : List ℕ} {ts us : Tokens} → grammar.Texts s ts us → Goes false ts false us
texts_go {ts = ts} (grammar.one_text h) = text_goes ts h
texts_go {ts = ts} (grammar.more_texts h p) = text_goes ts h ▹ texts_go p

test_goes : {x : Test} {ts us : Tokens} → grammar.IsTest x ts us → Goes true ts false us
test_goes {ts = ts} (grammar.order {o = o} h) = plain_goes {k = first ts} ts refl (order_plain (first ts) o h)
test_goes {ts = ts} (grammar.within h) = plain_goes ts h refl
test_goes {ts = ts} (grammar.not_within h i) = plain_goes ts h refl ▹ front (plain_goes (skip ts) i refl)

mutual
  atom_goes : {e : Expr} {ts us : Tokens} → grammar.Atom e ts us → Goes false ts true us
  atom_goes {ts = ts} (grammar.name h) = front (name_goes ts h)
  atom_goes {ts = ts} (grammar.int h) = within (plain_goes ts h refl)
  atom_goes (grammar.text p) = back (texts_go p)
  atom_goes {ts = ts} (grammar.nil h) = within (plain_goes ts h refl)
  atom_goes {ts = ts} (grammar.truth h) = within (plain_goes ts h refl)
  atom_goes {ts = ts} (grammar.falsity h) = within (plain_goes ts h refl)
  atom_goes {ts = ts} (grammar.paren {us = us} h p i) = within (in_parentheses ts us h (expr_goes p) i)
  atom_goes {ts = ts} (grammar.unit h i) = within (in_parentheses ts (skip ts) h (nothing (skip ts)) i)
  atom_goes {ts = ts} (grammar.tuple {us = us} {vs = vs} h p i q j) =
      within (in_parentheses ts vs h (expr_goes p ▹ plain_goes us i refl ▹ listed_goes q) j)
  atom_goes {ts = ts} (grammar.list {us = us} h q i) = within (in_brackets ts us h (listed_goes q) i)
  atom_goes {ts = ts} (grammar.list_of {ws = ws} h p c cs i) =
      within (in_brackets ts ws h (expr_goes p ▹ clause_goes c ▹ clauses_go cs) i)
  atom_goes {ts = ts} (grammar.dict {us = us} h q i) = within (in_braces ts us h (pairs_no_set q i) (paired_goes q) i)
  atom_goes {ts = ts} (grammar.dict_of {us = us} {xs = xs} h p i q c cs j) =
      within (in_braces ts xs h (before_colon (skip ts) us (expr_goes p) i)
      (expr_goes p ▹ plain_goes us i refl ▹ expr_goes q ▹ clause_goes c ▹ clauses_go cs) j)

  -- behind `{`
  pairs_no_set : {ps : Pairs} {ts us : Tokens} → grammar.Paired ps ts us → first us ≡ kind.RightBrace → IsNoSet ts
  pairs_no_set {ts = ts} grammar.no_pair i = closed_at_once ts i
  pairs_no_set {ts = ts} (grammar.last_pair {us = us} p h q) i = before_colon ts us (expr_goes p) h
  pairs_no_set {ts = ts} (grammar.more_pairs {us = us} p h q j r) i = before_colon ts us (expr_goes p) h

  pub listed_goes : {es : Exprs} {ts us : Tokens} → grammar.Listed es ts us → Goes false ts true us
  listed_goes {ts = ts} grammar.nothing = nothing ts
  listed_goes (grammar.last p) = expr_goes p
  listed_goes (grammar.more {us = us} p h q) = expr_goes p ▹ plain_goes us h refl ▹ listed_goes q

  paired_goes : {ps : Pairs} {ts us : Tokens} → grammar.Paired ps ts us → Goes false ts true us
  paired_goes {ts = ts} grammar.no_pair = nothing ts
  paired_goes (grammar.last_pair {us = us} p h q) = expr_goes p ▹ plain_goes us h refl ▹ expr_goes q
  paired_goes (grammar.more_pairs {us = us} {vs = vs} p h q i r) =
      expr_goes p ▹ plain_goes us h refl ▹ expr_goes q ▹ plain_goes vs i refl ▹ paired_goes r

  clause_goes : {c : Clause} {ts us : Tokens} → grammar.IsClause c ts us → Goes true ts true us
  clause_goes {ts = ts} (grammar.a_clause {us = us} h p i q r) =
      plain_goes ts h refl ▹ target_goes p ▹ plain_goes us i refl ▹ or_goes q ▹ ifs_go r

  clauses_go : {cs : Clauses} {ts us : Tokens} → grammar.IsClauses cs ts us → Goes true ts true us
  clauses_go {ts = ts} grammar.clauses_end = stays true ts
  clauses_go (grammar.clauses_go c cs) = clause_goes c ▹ clauses_go cs

  ifs_go : {es : Exprs} {ts us : Tokens} → grammar.Ifs es ts us → Goes true ts true us
  ifs_go {ts = ts} grammar.ifs_end = stays true ts
  ifs_go {ts = ts} (grammar.ifs_go h p q) = plain_goes ts h refl ▹ or_goes p ▹ ifs_go q

  pub place_goes : {p : Place} {ts us : Tokens} → grammar.IsPlace p ts us → Goes false ts true us
  place_goes {ts = ts} (grammar.place_name h) = front (name_goes ts h)
  place_goes (grammar.place_attr {us = us} p h i) =
      primary_goes p ▹ plain_goes us h refl ▹ front (name_goes (skip us) i)
  place_goes (grammar.place_item {us = us} {vs = vs} p h q i) =
      primary_goes p ▹ back (in_brackets us vs h (expr_goes q) i)
  place_goes {ts = ts} (grammar.place_paren {us = us} h p i) = within (in_parentheses ts us h (place_goes p) i)

  pub group_goes : {p : Target} {line : Line} {ts us : Tokens} → grammar.IsGroup p line ts us → Goes false ts true us
  group_goes {ts = ts} (grammar.group_parts {us = us} h p i) = within (in_parentheses ts us h (parts_go p) i)
  group_goes {ts = ts} (grammar.group_list {us = us} h p i) = within (in_brackets ts us h (targeted_goes p) i)
  group_goes {ts = ts} (grammar.group_paren {us = us} h p i) = within (in_parentheses ts us h (group_goes p) i)

  part_goes : {p : Target} {line : Line} {ts us : Tokens} → grammar.Part p line ts us → Goes false ts true us
  part_goes (grammar.part_place p) = place_goes p
  part_goes (grammar.part_group p) = group_goes p

  targeted_goes : {ps : Targets} {ts us : Tokens} → grammar.Targeted ps ts us → Goes false ts true us
  targeted_goes {ts = ts} grammar.no_part = nothing ts
  targeted_goes (grammar.last_part p) = part_goes p
  targeted_goes (grammar.more_parts {us = us} p h q) = part_goes p ▹ plain_goes us h refl ▹ targeted_goes q

  pub parts_go : {ps : Targets} {line : Line} {ts us : Tokens} → grammar.Parts ps line ts us → Goes false ts true us
  parts_go (grammar.parts {us = us} p h q) = part_goes p ▹ plain_goes us h refl ▹ targeted_goes q

  pub target_goes : {p : Target} {line : Line} {ts us : Tokens} → grammar.IsTarget p line ts us → Goes false ts true us
  target_goes (grammar.target_part p) = part_goes p
  target_goes (grammar.target_parts p) = parts_go p

  maybe_goes : {a : Maybe} {ts us : Tokens} → grammar.IsMaybe a ts us → Goes false ts true us
  maybe_goes {ts = ts} grammar.missing = nothing ts
  maybe_goes (grammar.present p) = expr_goes p

  trailer_goes : {x : Trailer} {ts us : Tokens} → grammar.IsTrailer x ts us → Goes true ts true us
  trailer_goes {ts = ts} (grammar.attr h i) = plain_goes ts h refl ▹ front (name_goes (skip ts) i)
  trailer_goes {ts = ts} (grammar.item {us = us} h p i) = back (in_brackets ts us h (expr_goes p) i)
  trailer_goes {ts = ts} (grammar.slice {us = us} {vs = vs} h a i b j) =
      back (in_brackets ts vs h (maybe_goes a ▹ plain_goes us i refl ▹ maybe_goes b) j)
  trailer_goes {ts = ts} (grammar.stepped {us = us} {vs = vs} {ws = ws} h a i b j c k) =
      back (in_brackets ts ws h
      (maybe_goes a ▹ plain_goes us i refl ▹ maybe_goes b ▹ plain_goes vs j refl ▹ maybe_goes c) k)
  trailer_goes {ts = ts} (grammar.call {us = us} h q d i) = back (in_parentheses ts us h (args_go q) i)

  arg_goes : {named : Bool} {x : Arg} {ts us : Tokens} → grammar.IsArg named x ts us → Goes false ts true us
  arg_goes (grammar.value p) = expr_goes p
  arg_goes {ts = ts} (grammar.starred h p) = front (plain_goes ts h refl) ▹ expr_goes p
  arg_goes {ts = ts} (grammar.key h i p) = front (name_goes ts h) ▹ plain_goes (skip ts) i refl ▹ expr_goes p
  arg_goes {ts = ts} (grammar.double_starred h p) = front (plain_goes ts h refl) ▹ expr_goes p

  args_go : {named : Bool} {xs : Args} {ts us : Tokens} → grammar.IsArgs named xs ts us → Goes false ts true us
  args_go {ts = ts} grammar.no_arg = nothing ts
  args_go (grammar.last_arg p) = arg_goes p
  args_go (grammar.more_args {us = us} p h q) = arg_goes p ▹ plain_goes us h refl ▹ args_go q
  args_go (grammar.args_with_names p) = args_go p

  pub params_go : {stage : Stage} {ps : Params} {ts us : Tokens} → grammar.IsParams stage ps ts us
      → Goes false ts true us
  params_go {ts = ts} grammar.no_param = nothing ts
  params_go {ts = ts} (grammar.param h f) = front (name_goes ts h) ▹ following_goes f
  params_go {ts = ts} (grammar.default c h i p f) =
      front (name_goes ts h) ▹ plain_goes (skip ts) i refl ▹ expr_goes p ▹ following_goes f
  params_go {ts = ts} (grammar.list_param c h i f) =
      front (plain_goes ts h refl) ▹ front (name_goes (skip ts) i) ▹ following_goes f
  params_go {ts = ts} (grammar.dict_param c h i f) =
      front (plain_goes ts h refl) ▹ front (name_goes (skip ts) i) ▹ following_goes f

  following_goes : {stage : Stage} {ps : Params} {ts us : Tokens} → grammar.Following stage ps ts us
      → Goes true ts true us
  following_goes {ts = ts} grammar.no_more = stays true ts
  following_goes {ts = ts} (grammar.comma h p) = plain_goes ts h refl ▹ params_go p

  trail_goes : {xs : Trailers} {ts us : Tokens} → grammar.Trail xs ts us → Goes true ts true us
  trail_goes {ts = ts} grammar.ends = stays true ts
  trail_goes (grammar.goes p q) = trailer_goes p ▹ trail_goes q

  primary_goes : {e : Expr} {ts us : Tokens} → grammar.Primary e ts us → Goes false ts true us
  primary_goes (grammar.bare p) = atom_goes p
  primary_goes (grammar.trailed p q r) = atom_goes p ▹ trailer_goes q ▹ trail_goes r

  power_goes : {e : Expr} {ts us : Tokens} → grammar.Power e ts us → Goes false ts true us
  power_goes (grammar.base p) = primary_goes p
  power_goes (grammar.raised {us = us} p h q) = primary_goes p ▹ plain_goes us h refl ▹ unary_goes q

  unary_goes : {e : Expr} {ts us : Tokens} → grammar.Unary e ts us → Goes false ts true us
  unary_goes (grammar.unsigned p) = power_goes p
  unary_goes {ts = ts} (grammar.signed {o = o} h p) =
      front (plain_goes {k = first ts} ts refl (unary_plain (first ts) o h)) ▹ unary_goes p

  chain_goes : {k : ℕ} {e : Expr} {ts us : Tokens} → grammar.Chain k e ts us → Goes false ts true us
  chain_goes (grammar.operand p) = unary_goes p
  chain_goes (grammar.tighter p) = chain_goes p
  chain_goes (grammar.chained {o = o} {us = us} p h i q r) =
      chain_goes p ▹ plain_goes {k = first us} us refl (binary_plain (first us) o h) ▹ chain_goes q ▹ chained_goes r

  chained_goes : {k : ℕ} {os : Ops} {ts us : Tokens} → grammar.Chained k os ts us → Goes true ts true us
  chained_goes {ts = ts} grammar.chain_ends = stays true ts
  chained_goes {ts = ts} (grammar.chain_goes {o = o} h i p q) =
      plain_goes {k = first ts} ts refl (binary_plain (first ts) o h) ▹ chain_goes p ▹ chained_goes q

  compare_goes : {e : Expr} {ts us : Tokens} → grammar.Compare e ts us → Goes false ts true us
  compare_goes (grammar.single p) = chain_goes p
  compare_goes (grammar.compared p q r) = chain_goes p ▹ tested_goes q ▹ compared_goes r

  tested_goes : {x : Test} {f : Expr} {ts us : Tokens} → grammar.Tested x f ts us → Goes true ts true us
  tested_goes (grammar.test p q) = test_goes p ▹ chain_goes q
  tested_goes {ts = ts} (grammar.is_none h i) = plain_goes ts h refl ▹ within (plain_goes (skip ts) i refl)
  tested_goes {ts = ts} (grammar.is_not_none h i j) =
      plain_goes ts h refl ▹ front (plain_goes (skip ts) i refl) ▹ within (plain_goes (skip (skip ts)) j refl)

  compared_goes : {xs : Tests} {ts us : Tokens} → grammar.Compared xs ts us → Goes true ts true us
  compared_goes {ts = ts} grammar.tests_end = stays true ts
  compared_goes (grammar.tests_go p q) = tested_goes p ▹ compared_goes q

  not_goes : {e : Expr} {ts us : Tokens} → grammar.Not e ts us → Goes false ts true us
  not_goes (grammar.asserted p) = compare_goes p
  not_goes {ts = ts} (grammar.negated h p) = front (plain_goes ts h refl) ▹ not_goes p

  and_goes : {e : Expr} {ts us : Tokens} → grammar.And e ts us → Goes false ts true us
  and_goes (grammar.and_single p) = not_goes p
  and_goes (grammar.and_several {us = us} p h q r) = not_goes p ▹ plain_goes us h refl ▹ not_goes q ▹ ands_go r

  ands_go : {es : Exprs} {ts us : Tokens} → grammar.Ands es ts us → Goes true ts true us
  ands_go {ts = ts} grammar.ands_end = stays true ts
  ands_go {ts = ts} (grammar.ands_go h p q) = plain_goes ts h refl ▹ not_goes p ▹ ands_go q

  or_goes : {e : Expr} {ts us : Tokens} → grammar.Or e ts us → Goes false ts true us
  or_goes (grammar.or_single p) = and_goes p
  or_goes (grammar.or_several {us = us} p h q r) = and_goes p ▹ plain_goes us h refl ▹ and_goes q ▹ ors_go r

  ors_go : {es : Exprs} {ts us : Tokens} → grammar.Ors es ts us → Goes true ts true us
  ors_go {ts = ts} grammar.ors_end = stays true ts
  ors_go {ts = ts} (grammar.ors_go h p q) = plain_goes ts h refl ▹ and_goes p ▹ ors_go q

  pub expr_goes : {e : Expr} {ts us : Tokens} → grammar.IsExpr e ts us → Goes false ts true us
  expr_goes {ts = ts} (grammar.a_lambda {us = us} h p d i q) =
      front (plain_goes ts h refl) ▹ params_go p ▹ plain_goes us i refl ▹ expr_goes q
  expr_goes (grammar.unconditional p) = or_goes p
  expr_goes (grammar.cond {us = us} {vs = vs} p h q i r) =
      or_goes p ▹ plain_goes us h refl ▹ or_goes q ▹ plain_goes vs i refl ▹ expr_goes r

pub exprs_go : {e : Expr} {ts us : Tokens} → grammar.IsExprs e ts us → Goes false ts true us
exprs_go (grammar.an_expr p) = expr_goes p
exprs_go (grammar.several {us = us} p h q) = expr_goes p ▹ plain_goes us h refl ▹ listed_goes q
