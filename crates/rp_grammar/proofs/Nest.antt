-- How deep readers go within readers.
use Rattle.std.proofs.Common.{ℕ, suc, max, Bool}
use Rattle.rp_base.specs.declared.value.Line.{Line}
use Rattle.rp_tree.specs.declared.parts.Test.{Test}
use Rattle.rp_tree.specs.Expressions.{Expr, Exprs, Maybe, Pairs, Tests, Ops, Clause, Clauses, Target, Targets, Place, Params, Trailer, Trailers, Arg, Args}
use Rattle.rp_grammar.specs.Kinds.{Tokens}
use Rattle.rp_grammar.specs.Expressions as grammar
use Rattle.rp_grammar.specs.Expressions.{Stage}

abbrev mutual
  pub nest_atom : {e : Expr} {ts us : Tokens} → grammar.Atom e ts us → ℕ
  nest_atom (grammar.name h) = 0
  nest_atom (grammar.int h) = 0
  nest_atom (grammar.text p) = 0
  nest_atom (grammar.nil h) = 0
  nest_atom (grammar.truth h) = 0
  nest_atom (grammar.falsity h) = 0
  nest_atom (grammar.paren h p i) = suc (nest_expr p)
  nest_atom (grammar.unit h i) = 0
  nest_atom (grammar.tuple h p i q j) = suc (max (nest_expr p) (nest_listed q))
  nest_atom (grammar.list h q i) = suc (nest_listed q)
  nest_atom (grammar.list_of h p c cs i) = suc (max (nest_expr p) (max (nest_clause c) (nest_clauses cs)))
  nest_atom (grammar.dict h q i) = suc (nest_paired q)
  nest_atom (grammar.dict_of h p i q c cs j) = suc (max (nest_expr p) (max (nest_expr q) (max (nest_clause c) (nest_clauses cs))))

  pub nest_listed : {es : Exprs} {ts us : Tokens} → grammar.Listed es ts us → ℕ
  nest_listed grammar.nothing = 0
  nest_listed (grammar.last p) = nest_expr p
  nest_listed (grammar.more p h q) = max (nest_expr p) (nest_listed q)

  pub nest_paired : {ps : Pairs} {ts us : Tokens} → grammar.Paired ps ts us → ℕ
  nest_paired grammar.no_pair = 0
  nest_paired (grammar.last_pair p h q) = max (nest_expr p) (nest_expr q)
  nest_paired (grammar.more_pairs p h q i r) = max (nest_expr p) (max (nest_expr q) (nest_paired r))

  pub nest_clause : {c : Clause} {ts us : Tokens} → grammar.IsClause c ts us → ℕ
  nest_clause (grammar.a_clause h p i q r) = max (nest_target p) (max (nest_or q) (nest_ifs r))

  pub nest_clauses : {cs : Clauses} {ts us : Tokens} → grammar.IsClauses cs ts us → ℕ
  nest_clauses grammar.clauses_end = 0
  nest_clauses (grammar.clauses_go c cs) = max (nest_clause c) (nest_clauses cs)

  pub nest_ifs : {es : Exprs} {ts us : Tokens} → grammar.Ifs es ts us → ℕ
  nest_ifs grammar.ifs_end = 0
  nest_ifs (grammar.ifs_go h p q) = max (nest_or p) (nest_ifs q)

  pub nest_place : {p : Place} {ts us : Tokens} → grammar.IsPlace p ts us → ℕ
  nest_place (grammar.place_name h) = 0
  nest_place (grammar.place_attr p h i) = nest_primary p
  nest_place (grammar.place_item p h q i) = max (nest_primary p) (suc (nest_expr q))
  nest_place (grammar.place_paren h p i) = suc (nest_place p)

  pub nest_group : {p : Target} {line : Line} {ts us : Tokens} → grammar.IsGroup p line ts us → ℕ
  nest_group (grammar.group_parts h p i) = suc (nest_parts p)
  nest_group (grammar.group_list h p i) = suc (nest_targeted p)
  nest_group (grammar.group_paren h p i) = suc (nest_group p)

  pub nest_part : {p : Target} {line : Line} {ts us : Tokens} → grammar.Part p line ts us → ℕ
  nest_part (grammar.part_place p) = nest_place p
  nest_part (grammar.part_group p) = nest_group p

  pub nest_targeted : {ps : Targets} {ts us : Tokens} → grammar.Targeted ps ts us → ℕ
  nest_targeted grammar.no_part = 0
  nest_targeted (grammar.last_part p) = nest_part p
  nest_targeted (grammar.more_parts p h q) = max (nest_part p) (nest_targeted q)

  pub nest_parts : {ps : Targets} {line : Line} {ts us : Tokens} → grammar.Parts ps line ts us → ℕ
  nest_parts (grammar.parts p h q) = max (nest_part p) (nest_targeted q)

  pub nest_target : {p : Target} {line : Line} {ts us : Tokens} → grammar.IsTarget p line ts us → ℕ
  nest_target (grammar.target_part p) = nest_part p
  nest_target (grammar.target_parts p) = nest_parts p

  pub nest_maybe : {a : Maybe} {ts us : Tokens} → grammar.IsMaybe a ts us → ℕ
  nest_maybe grammar.missing = 0
  nest_maybe (grammar.present p) = nest_expr p

  pub nest_trailer : {x : Trailer} {ts us : Tokens} → grammar.IsTrailer x ts us → ℕ
  nest_trailer (grammar.attr h i) = 0
  nest_trailer (grammar.item h p i) = suc (nest_expr p)
  nest_trailer (grammar.slice h a i b j) = suc (max (nest_maybe a) (nest_maybe b))
  nest_trailer (grammar.stepped h a i b j c k) = suc (max (nest_maybe a) (max (nest_maybe b) (nest_maybe c)))
  nest_trailer (grammar.call h q d i) = suc (nest_args q)

  pub nest_arg : {named : Bool} {x : Arg} {ts us : Tokens} → grammar.IsArg named x ts us → ℕ
  nest_arg (grammar.value p) = nest_expr p
  nest_arg (grammar.starred h p) = nest_expr p
  nest_arg (grammar.key h i p) = nest_expr p
  nest_arg (grammar.double_starred h p) = nest_expr p

  pub nest_args : {named : Bool} {xs : Args} {ts us : Tokens} → grammar.IsArgs named xs ts us → ℕ
  nest_args grammar.no_arg = 0
  nest_args (grammar.last_arg p) = nest_arg p
  nest_args (grammar.more_args p h q) = max (nest_arg p) (nest_args q)
  nest_args (grammar.args_with_names p) = nest_args p

  pub nest_params : {stage : Stage} {ps : Params} {ts us : Tokens} → grammar.IsParams stage ps ts us → ℕ
  nest_params grammar.no_param = 0
  nest_params (grammar.param h f) = nest_following f
  nest_params (grammar.default c h i p f) = max (suc (nest_expr p)) (nest_following f)
  nest_params (grammar.list_param c h i f) = nest_following f
  nest_params (grammar.dict_param c h i f) = nest_following f

  pub nest_following : {stage : Stage} {ps : Params} {ts us : Tokens} → grammar.Following stage ps ts us → ℕ
  nest_following grammar.no_more = 0
  nest_following (grammar.comma h p) = nest_params p

  pub nest_trail : {xs : Trailers} {ts us : Tokens} → grammar.Trail xs ts us → ℕ
  nest_trail grammar.ends = 0
  nest_trail (grammar.goes p q) = max (nest_trailer p) (nest_trail q)

  pub nest_primary : {e : Expr} {ts us : Tokens} → grammar.Primary e ts us → ℕ
  nest_primary (grammar.bare p) = nest_atom p
  nest_primary (grammar.trailed p q r) = max (nest_atom p) (max (nest_trailer q) (nest_trail r))

  pub nest_power : {e : Expr} {ts us : Tokens} → grammar.Power e ts us → ℕ
  nest_power (grammar.base p) = nest_primary p
  nest_power (grammar.raised p h q) = max (nest_primary p) (suc (nest_unary q))

  pub nest_unary : {e : Expr} {ts us : Tokens} → grammar.Unary e ts us → ℕ
  nest_unary (grammar.unsigned p) = nest_power p
  nest_unary (grammar.signed h p) = suc (nest_unary p)

  pub nest_chain : {k : ℕ} {e : Expr} {ts us : Tokens} → grammar.Chain k e ts us → ℕ
  nest_chain (grammar.operand p) = nest_unary p
  nest_chain (grammar.tighter p) = nest_chain p
  nest_chain (grammar.chained p h i q r) = max (nest_chain p) (max (nest_chain q) (nest_chained r))

  pub nest_chained : {k : ℕ} {os : Ops} {ts us : Tokens} → grammar.Chained k os ts us → ℕ
  nest_chained grammar.chain_ends = 0
  nest_chained (grammar.chain_goes h i p q) = max (nest_chain p) (nest_chained q)

  pub nest_compare : {e : Expr} {ts us : Tokens} → grammar.Compare e ts us → ℕ
  nest_compare (grammar.single p) = nest_chain p
  nest_compare (grammar.compared p q r) = max (nest_chain p) (max (nest_tested q) (nest_compared r))

  pub nest_tested : {x : Test} {f : Expr} {ts us : Tokens} → grammar.Tested x f ts us → ℕ
  nest_tested (grammar.test p q) = nest_chain q
  nest_tested (grammar.is_none h i) = 0
  nest_tested (grammar.is_not_none h i j) = 0

  pub nest_compared : {xs : Tests} {ts us : Tokens} → grammar.Compared xs ts us → ℕ
  nest_compared grammar.tests_end = 0
  nest_compared (grammar.tests_go p q) = max (nest_tested p) (nest_compared q)

  pub nest_not : {e : Expr} {ts us : Tokens} → grammar.Not e ts us → ℕ
  nest_not (grammar.asserted p) = nest_compare p
  nest_not (grammar.negated h p) = suc (nest_not p)

  pub nest_and : {e : Expr} {ts us : Tokens} → grammar.And e ts us → ℕ
  nest_and (grammar.and_single p) = nest_not p
  nest_and (grammar.and_several p h q r) = max (nest_not p) (max (nest_not q) (nest_ands r))

  pub nest_ands : {es : Exprs} {ts us : Tokens} → grammar.Ands es ts us → ℕ
  nest_ands grammar.ands_end = 0
  nest_ands (grammar.ands_go h p q) = max (nest_not p) (nest_ands q)

  pub nest_or : {e : Expr} {ts us : Tokens} → grammar.Or e ts us → ℕ
  nest_or (grammar.or_single p) = nest_and p
  nest_or (grammar.or_several p h q r) = max (nest_and p) (max (nest_and q) (nest_ors r))

  pub nest_ors : {es : Exprs} {ts us : Tokens} → grammar.Ors es ts us → ℕ
  nest_ors grammar.ors_end = 0
  nest_ors (grammar.ors_go h p q) = max (nest_and p) (nest_ors q)

  pub nest_expr : {e : Expr} {ts us : Tokens} → grammar.IsExpr e ts us → ℕ
  nest_expr (grammar.a_lambda h p d i q) = max (nest_params p) (suc (nest_expr q))
  nest_expr (grammar.unconditional p) = nest_or p
  nest_expr (grammar.cond p h q i r) = max (nest_or p) (max (nest_or q) (suc (nest_expr r)))

abbrev pub nest_exprs : {e : Expr} {ts us : Tokens} → grammar.IsExprs e ts us → ℕ
nest_exprs (grammar.an_expr p) = nest_expr p
nest_exprs (grammar.several p h q) = max (nest_expr p) (nest_listed q)
