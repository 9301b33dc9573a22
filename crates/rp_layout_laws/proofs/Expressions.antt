-- The functions in what is spelled as an expression have parameters that differ (Python Language Reference, Lambdas).
use Rattle.std.proofs.Common.{ℕ, Bool}
use Rattle.rp_base.specs.declared.value.Line.{Line}
use Rattle.rp_tree.specs.declared.parts.Test.{Test}
use Rattle.rp_tree.specs.Expressions as tree
use Rattle.rp_tree.specs.Expressions.{Named, Expr, Exprs, Maybe, Pairs, Tests, Ops, Clause, Clauses, Target, Targets}
use Rattle.rp_tree.specs.Expressions.{Place, Params, Trailer, Trailers, Arg, Args}
use Rattle.rp_grammar.specs.Kinds.{Tokens}
use Rattle.rp_grammar.specs.Expressions as grammar
use Rattle.rp_grammar.specs.Expressions.{Stage, named, with_plain}
use Rattle.rp_meaning.specs.Blocks.{of_arg, of_args, of_clause, of_clauses, of_expr, of_exprs, of_maybe, of_ops}
use Rattle.rp_meaning.specs.Blocks.{of_pairs, of_params, of_place, of_target, of_targets, of_tests, of_trailer}
use Rattle.rp_meaning.specs.Blocks.{of_trailers}
use Rattle.rp_layout_laws.proofs.Functions.{Differ, a_lambda, both, none}

with_plain_differs : (ps : Params) (n : Named) (default : Maybe) → Differ (of_maybe default) → Differ (of_params ps)
    → Differ (of_params (with_plain n default ps))
with_plain_differs (tree.params others list dict) n default value rest = both value rest

mutual
  atom_differs : {e : Expr} {ts us : Tokens} → grammar.Atom e ts us → Differ (of_expr e)
  atom_differs (grammar.name h) = none
  atom_differs (grammar.int h) = none
  atom_differs (grammar.text p) = none
  atom_differs (grammar.nil h) = none
  atom_differs (grammar.truth h) = none
  atom_differs (grammar.falsity h) = none
  atom_differs (grammar.paren h p i) = expr_differs p
  atom_differs (grammar.unit h i) = none
  atom_differs (grammar.tuple h p i q j) = both (expr_differs p) (listed_differ q)
  atom_differs (grammar.list h q i) = listed_differ q
  atom_differs (grammar.list_of h p c cs i) = both (expr_differs p) (both (clause_differs c) (clauses_differ cs))
  atom_differs (grammar.dict h q i) = paired_differ q
  atom_differs (grammar.dict_of h p i q c cs j) =
      both (both (expr_differs p) (expr_differs q)) (both (clause_differs c) (clauses_differ cs))

  pub listed_differ : {es : Exprs} {ts us : Tokens} → grammar.Listed es ts us → Differ (of_exprs es)
  listed_differ grammar.nothing = none
  listed_differ (grammar.last p) = both (expr_differs p) none
  listed_differ (grammar.more p h q) = both (expr_differs p) (listed_differ q)

  paired_differ : {ps : Pairs} {ts us : Tokens} → grammar.Paired ps ts us → Differ (of_pairs ps)
  paired_differ grammar.no_pair = none
  paired_differ (grammar.last_pair p h q) = both (both (expr_differs p) (expr_differs q)) none
  paired_differ (grammar.more_pairs p h q i r) = both (both (expr_differs p) (expr_differs q)) (paired_differ r)

  clause_differs : {c : Clause} {ts us : Tokens} → grammar.IsClause c ts us → Differ (of_clause c)
  clause_differs (grammar.a_clause h p i q r) = both (both (target_differs p) (or_differs q)) (ifs_differ r)

  clauses_differ : {cs : Clauses} {ts us : Tokens} → grammar.IsClauses cs ts us → Differ (of_clauses cs)
  clauses_differ grammar.clauses_end = none
  clauses_differ (grammar.clauses_go c cs) = both (clause_differs c) (clauses_differ cs)

  ifs_differ : {es : Exprs} {ts us : Tokens} → grammar.Ifs es ts us → Differ (of_exprs es)
  ifs_differ grammar.ifs_end = none
  ifs_differ (grammar.ifs_go h p q) = both (or_differs p) (ifs_differ q)

  pub place_differs : {p : Place} {ts us : Tokens} → grammar.IsPlace p ts us → Differ (of_place p)
  place_differs (grammar.place_name h) = none
  place_differs (grammar.place_attr p h i) = primary_differs p
  place_differs (grammar.place_item p h q i) = both (primary_differs p) (expr_differs q)
  place_differs (grammar.place_paren h p i) = place_differs p

  pub group_differs : {p : Target} {line : Line} {ts us : Tokens} → grammar.IsGroup p line ts us → Differ (of_target p)
  group_differs (grammar.group_parts h p i) = parts_differ p
  group_differs (grammar.group_list h p i) = targeted_differ p
  group_differs (grammar.group_paren h p i) = group_differs p

  part_differs : {p : Target} {line : Line} {ts us : Tokens} → grammar.Part p line ts us → Differ (of_target p)
  part_differs (grammar.part_place p) = place_differs p
  part_differs (grammar.part_group p) = group_differs p

  targeted_differ : {ps : Targets} {ts us : Tokens} → grammar.Targeted ps ts us → Differ (of_targets ps)
  targeted_differ grammar.no_part = none
  targeted_differ (grammar.last_part p) = both (part_differs p) none
  targeted_differ (grammar.more_parts p h q) = both (part_differs p) (targeted_differ q)

  pub parts_differ : {ps : Targets} {line : Line} {ts us : Tokens} → grammar.Parts ps line ts us
      → Differ (of_targets ps)
  parts_differ (grammar.parts p h q) = both (part_differs p) (targeted_differ q)

  pub target_differs : {p : Target} {line : Line} {ts us : Tokens} → grammar.IsTarget p line ts us
      → Differ (of_target p)
  target_differs (grammar.target_part p) = part_differs p
  target_differs (grammar.target_parts p) = parts_differ p

  maybe_differs : {a : Maybe} {ts us : Tokens} → grammar.IsMaybe a ts us → Differ (of_maybe a)
  maybe_differs grammar.missing = none
  maybe_differs (grammar.present p) = expr_differs p

  trailer_differs : {x : Trailer} {ts us : Tokens} → grammar.IsTrailer x ts us → Differ (of_trailer x)
  trailer_differs (grammar.attr h i) = none
  trailer_differs (grammar.item h p i) = expr_differs p
  trailer_differs (grammar.slice h x i y j) = both (both (maybe_differs x) (maybe_differs y)) none
  trailer_differs (grammar.stepped h x i y j z k) = both (both (maybe_differs x) (maybe_differs y)) (maybe_differs z)
  trailer_differs (grammar.call h q d i) = args_differ q

  arg_differs : {named : Bool} {x : Arg} {ts us : Tokens} → grammar.IsArg named x ts us → Differ (of_arg x)
  arg_differs (grammar.value p) = expr_differs p
  arg_differs (grammar.starred h p) = expr_differs p
  arg_differs (grammar.key h i p) = expr_differs p
  arg_differs (grammar.double_starred h p) = expr_differs p

  args_differ : {named : Bool} {xs : Args} {ts us : Tokens} → grammar.IsArgs named xs ts us → Differ (of_args xs)
  args_differ grammar.no_arg = none
  args_differ (grammar.last_arg p) = both (arg_differs p) none
  args_differ (grammar.more_args p h q) = both (arg_differs p) (args_differ q)
  args_differ (grammar.args_with_names p) = args_differ p

  pub params_differ : {stage : Stage} {ps : Params} {ts us : Tokens} → grammar.IsParams stage ps ts us
      → Differ (of_params ps)
  params_differ grammar.no_param = none
  params_differ (grammar.param {n = m} {ps = ps} {ts = ts} h f) =
      with_plain_differs ps (named m ts) tree.none none (following_differ f)
  params_differ (grammar.default {n = m} {e = e} {ps = ps} {ts = ts} c h i p f) =
      with_plain_differs ps (named m ts) (tree.some e) (expr_differs p) (following_differ f)
  params_differ (grammar.list_param c h i f) = none
  params_differ (grammar.dict_param c h i f) = none

  following_differ : {stage : Stage} {ps : Params} {ts us : Tokens} → grammar.Following stage ps ts us
      → Differ (of_params ps)
  following_differ grammar.no_more = none
  following_differ (grammar.comma h p) = params_differ p

  trail_differs : {xs : Trailers} {ts us : Tokens} → grammar.Trail xs ts us → Differ (of_trailers xs)
  trail_differs grammar.ends = none
  trail_differs (grammar.goes p q) = both (trailer_differs p) (trail_differs q)

  primary_differs : {e : Expr} {ts us : Tokens} → grammar.Primary e ts us → Differ (of_expr e)
  primary_differs (grammar.bare p) = atom_differs p
  primary_differs (grammar.trailed p q r) = both (atom_differs p) (both (trailer_differs q) (trail_differs r))

  power_differs : {e : Expr} {ts us : Tokens} → grammar.Power e ts us → Differ (of_expr e)
  power_differs (grammar.base p) = primary_differs p
  power_differs (grammar.raised p h q) = both (primary_differs p) (unary_differs q)

  unary_differs : {e : Expr} {ts us : Tokens} → grammar.Unary e ts us → Differ (of_expr e)
  unary_differs (grammar.unsigned p) = power_differs p
  unary_differs (grammar.signed h p) = unary_differs p

  chain_differs : {k : ℕ} {e : Expr} {ts us : Tokens} → grammar.Chain k e ts us → Differ (of_expr e)
  chain_differs (grammar.operand p) = unary_differs p
  chain_differs (grammar.tighter p) = chain_differs p
  chain_differs (grammar.chained p h i q r) = both (chain_differs p) (both (chain_differs q) (chained_differ r))

  chained_differ : {k : ℕ} {os : Ops} {ts us : Tokens} → grammar.Chained k os ts us → Differ (of_ops os)
  chained_differ grammar.chain_ends = none
  chained_differ (grammar.chain_goes h i p q) = both (chain_differs p) (chained_differ q)

  compare_differs : {e : Expr} {ts us : Tokens} → grammar.Compare e ts us → Differ (of_expr e)
  compare_differs (grammar.single p) = chain_differs p
  compare_differs (grammar.compared p q r) = both (chain_differs p) (both (tested_differs q) (compared_differ r))

  tested_differs : {x : Test} {f : Expr} {ts us : Tokens} → grammar.Tested x f ts us → Differ (of_expr f)
  tested_differs (grammar.test p q) = chain_differs q
  tested_differs (grammar.is_none h i) = none
  tested_differs (grammar.is_not_none h i j) = none

  compared_differ : {xs : Tests} {ts us : Tokens} → grammar.Compared xs ts us → Differ (of_tests xs)
  compared_differ grammar.tests_end = none
  compared_differ (grammar.tests_go p q) = both (tested_differs p) (compared_differ q)

  not_differs : {e : Expr} {ts us : Tokens} → grammar.Not e ts us → Differ (of_expr e)
  not_differs (grammar.asserted p) = compare_differs p
  not_differs (grammar.negated h p) = not_differs p

  and_differs : {e : Expr} {ts us : Tokens} → grammar.And e ts us → Differ (of_expr e)
  and_differs (grammar.and_single p) = not_differs p
  and_differs (grammar.and_several p h q r) = both (not_differs p) (both (not_differs q) (ands_differ r))

  ands_differ : {es : Exprs} {ts us : Tokens} → grammar.Ands es ts us → Differ (of_exprs es)
  ands_differ grammar.ands_end = none
  ands_differ (grammar.ands_go h p q) = both (not_differs p) (ands_differ q)

  or_differs : {e : Expr} {ts us : Tokens} → grammar.Or e ts us → Differ (of_expr e)
  or_differs (grammar.or_single p) = and_differs p
  or_differs (grammar.or_several p h q r) = both (and_differs p) (both (and_differs q) (ors_differ r))

  ors_differ : {es : Exprs} {ts us : Tokens} → grammar.Ors es ts us → Differ (of_exprs es)
  ors_differ grammar.ors_end = none
  ors_differ (grammar.ors_go h p q) = both (and_differs p) (ors_differ q)

  pub expr_differs : {e : Expr} {ts us : Tokens} → grammar.IsExpr e ts us → Differ (of_expr e)
  expr_differs (grammar.a_lambda {ps = ps} {e = e} h p d i q) =
      a_lambda 0 ps e d (both (params_differ p) (expr_differs q))
  expr_differs (grammar.unconditional p) = or_differs p
  expr_differs (grammar.cond p h q i r) = both (both (or_differs q) (or_differs p)) (expr_differs r)
