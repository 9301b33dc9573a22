-- What is spelled has the names and the numbers of its tokens, code blocks without numbers, and no guard marks.
use Rattle.std.proofs.Common.{◌≡◌, ℕ, ℤ, Bool, true, false, ◌&&◌, List, [], ◌∷◌, Option, Some, None, refl, subst}
use Rattle.std.specs.List.{list_all}
use Rattle.std.specs.Option.{option_map_or}
use Rattle.std.proofs.lemmas.Bool.{and_parts}
use Rattle.rp_base.specs.declared.value.Line.{Line}
use Rattle.rp_base.specs.declared.value.Name.{Name}
use Rattle.rp_token.specs.declared.token.TokenKind.{TokenKind}
use Rattle.rp_token.specs.declared.token.TokenKind.TheVariants as kind
use Rattle.rp_tree.specs.declared.parts.Test.{Test}
use Rattle.rp_tree.specs.Expressions as tree
use Rattle.rp_tree.specs.Expressions.{Named, Expr, Exprs, Maybe, Pairs, Tests, Ops, Clause, Clauses, Target, Targets, Place, Params, Trailer, Trailers, Arg, Args}
use Rattle.rp_grammar.specs.Kinds.{Tokens, first, skip}
use Rattle.rp_grammar.specs.Expressions as grammar
use Rattle.rp_grammar.specs.Expressions.{Stage, named, with_plain}
use Rattle.rp_grammar.specs.Leaves.{LeafTest, kind_passes, tokens_pass, named_passes, expr_passes, exprs_pass, maybe_passes, pairs_pass, tests_pass, ops_pass, clause_passes, clauses_pass, target_passes, targets_pass, place_passes, params_pass, plain_passes, trailer_passes, trailers_pass, arg_passes, args_pass}

-- both tests pass
pub both : {a b : Bool} → a ≡ true → b ≡ true → (a && b) ≡ true
both h k = rw (h, k) refl

module _ (l : LeafTest Name) where
  -- the names and the numbers of the tokens pass
  pub record Pass (ts : Tokens) : Type 0 where
    pub all : tokens_pass l ts ≡ true

  pub behind : {ts : Tokens} → Pass ts → Pass (skip ts)
  behind {ts = []} ok = ok
  behind {ts = t ∷ ts} ok = record { all = (and_parts (kind_passes l t.kind) (tokens_pass l ts) ok.all).1 }

  first_passes : (ts : Tokens) → Pass ts → kind_passes l (first ts) ≡ true
  first_passes [] ok = refl
  first_passes (t ∷ ts) ok = (and_parts (kind_passes l t.kind) (tokens_pass l ts) ok.all).0

  pub name_at : {n : Name} {ts : Tokens} → first ts ≡ kind.Name n → Pass ts → l.name n ≡ true
  name_at {ts = ts} h ok = subst (λ (k : TokenKind). kind_passes l k ≡ true) h (first_passes ts ok)

  number_at : {n : ℤ} {ts : Tokens} → first ts ≡ kind.Int n → Pass ts → l.number n ≡ true
  number_at {ts = ts} h ok = subst (λ (k : TokenKind). kind_passes l k ≡ true) h (first_passes ts ok)

  texts_fit : {s : List ℕ} {ts us : Tokens} → grammar.Texts s ts us → Pass ts → Pass us
  texts_fit (grammar.one_text h) ok = behind ok
  texts_fit (grammar.more_texts h p) ok = texts_fit p (behind ok)

  test_fits : {x : Test} {ts us : Tokens} → grammar.IsTest x ts us → Pass ts → Pass us
  test_fits (grammar.order h) ok = behind ok
  test_fits (grammar.within h) ok = behind ok
  test_fits (grammar.not_within h i) ok = behind (behind ok)

  with_plain_fits : (ps : Params) (n : Named) (default : Maybe) → named_passes l n ≡ true → maybe_passes l default ≡ true → params_pass l ps ≡ true → params_pass l (with_plain n default ps) ≡ true
  with_plain_fits (tree.params others list dict) n default name value rest =
      let (front, last) = and_parts (plain_passes l others && option_map_or (named_passes l) list true) (option_map_or (named_passes l) dict true) rest in
      let (plain, more) = and_parts (plain_passes l others) (option_map_or (named_passes l) list true) front in
      both (both (both (both name value) plain) more) last

  list_fits : (dict : Option Named) (n : Named) → named_passes l n ≡ true → params_pass l (tree.params tree.no_plain None dict) ≡ true → params_pass l (tree.params tree.no_plain (Some n) dict) ≡ true
  list_fits dict n name rest = both name (and_parts true (option_map_or (named_passes l) dict true) rest).1

  module _ (block : l.block 0 ≡ true) (mark : l.mark None ≡ true) where
    mutual
      pub atom_fits : {e : Expr} {ts us : Tokens} → grammar.Atom e ts us → Pass ts → (expr_passes l e ≡ true) × Pass us
      atom_fits (grammar.name h) ok = (name_at h ok, behind ok)
      atom_fits (grammar.int h) ok = (number_at h ok, behind ok)
      atom_fits (grammar.text p) ok = (refl, texts_fit p ok)
      atom_fits (grammar.nil h) ok = (refl, behind ok)
      atom_fits (grammar.truth h) ok = (refl, behind ok)
      atom_fits (grammar.falsity h) ok = (refl, behind ok)
      atom_fits (grammar.paren h p i) ok = let a = expr_fits p (behind ok) in (a.0, behind a.1)
      atom_fits (grammar.unit h i) ok = (refl, behind (behind ok))
      atom_fits (grammar.tuple h p i q j) ok = let a = expr_fits p (behind ok) in let b = listed_fit q (behind a.1) in (both a.0 b.0, behind b.1)
      atom_fits (grammar.list h q i) ok = let a = listed_fit q (behind ok) in (a.0, behind a.1)
      atom_fits (grammar.list_of h p c cs i) ok = let a = expr_fits p (behind ok) in let b = clause_fits c a.1 in let d = clauses_fit cs b.1 in (both (both block a.0) (both b.0 d.0), behind d.1)
      atom_fits (grammar.dict h q i) ok = let a = paired_fit q (behind ok) in (a.0, behind a.1)
      atom_fits (grammar.dict_of h p i q c cs j) ok = let a = expr_fits p (behind ok) in let b = expr_fits q (behind a.1) in let d = clause_fits c b.1 in let e = clauses_fit cs d.1 in (both (both (both block a.0) b.0) (both d.0 e.0), behind e.1)

      pub listed_fit : {es : Exprs} {ts us : Tokens} → grammar.Listed es ts us → Pass ts → (exprs_pass l es ≡ true) × Pass us
      listed_fit grammar.nothing ok = (refl, ok)
      listed_fit (grammar.last p) ok = let a = expr_fits p ok in (both a.0 refl, a.1)
      listed_fit (grammar.more p h q) ok = let a = expr_fits p ok in let b = listed_fit q (behind a.1) in (both a.0 b.0, b.1)

      pub paired_fit : {ps : Pairs} {ts us : Tokens} → grammar.Paired ps ts us → Pass ts → (pairs_pass l ps ≡ true) × Pass us
      paired_fit grammar.no_pair ok = (refl, ok)
      paired_fit (grammar.last_pair p h q) ok = let a = expr_fits p ok in let b = expr_fits q (behind a.1) in (both (both a.0 b.0) refl, b.1)
      paired_fit (grammar.more_pairs p h q i r) ok = let a = expr_fits p ok in let b = expr_fits q (behind a.1) in let c = paired_fit r (behind b.1) in (both (both a.0 b.0) c.0, c.1)

      pub clause_fits : {c : Clause} {ts us : Tokens} → grammar.IsClause c ts us → Pass ts → (clause_passes l c ≡ true) × Pass us
      clause_fits (grammar.a_clause h p i q r) ok = let a = target_fits p (behind ok) in let b = or_fits q (behind a.1) in let c = ifs_fit r b.1 in (both (both (both a.0 b.0) mark) c.0, c.1)

      pub clauses_fit : {cs : Clauses} {ts us : Tokens} → grammar.IsClauses cs ts us → Pass ts → (clauses_pass l cs ≡ true) × Pass us
      clauses_fit grammar.clauses_end ok = (refl, ok)
      clauses_fit (grammar.clauses_go c cs) ok = let a = clause_fits c ok in let b = clauses_fit cs a.1 in (both a.0 b.0, b.1)

      pub ifs_fit : {es : Exprs} {ts us : Tokens} → grammar.Ifs es ts us → Pass ts → (exprs_pass l es ≡ true) × Pass us
      ifs_fit grammar.ifs_end ok = (refl, ok)
      ifs_fit (grammar.ifs_go h p q) ok = let a = or_fits p (behind ok) in let b = ifs_fit q a.1 in (both a.0 b.0, b.1)

      pub place_fits : {p : Place} {ts us : Tokens} → grammar.IsPlace p ts us → Pass ts → (place_passes l p ≡ true) × Pass us
      place_fits (grammar.place_name h) ok = (name_at h ok, behind ok)
      place_fits (grammar.place_attr p h i) ok = let a = primary_fits p ok in let n = name_at i (behind a.1) in (both (both a.0 n) mark, behind (behind a.1))
      place_fits (grammar.place_item p h q i) ok = let a = primary_fits p ok in let b = expr_fits q (behind a.1) in (both (both a.0 b.0) mark, behind b.1)
      place_fits (grammar.place_paren h p i) ok = let a = place_fits p (behind ok) in (a.0, behind a.1)

      pub group_fits : {p : Target} {line : Line} {ts us : Tokens} → grammar.IsGroup p line ts us → Pass ts → (target_passes l p ≡ true) × Pass us
      group_fits (grammar.group_parts h p i) ok = let a = parts_fit p (behind ok) in (a.0, behind a.1)
      group_fits (grammar.group_list h p i) ok = let a = targeted_fit p (behind ok) in (a.0, behind a.1)
      group_fits (grammar.group_paren h p i) ok = let a = group_fits p (behind ok) in (a.0, behind a.1)

      pub part_fits : {p : Target} {line : Line} {ts us : Tokens} → grammar.Part p line ts us → Pass ts → (target_passes l p ≡ true) × Pass us
      part_fits (grammar.part_place p) ok = place_fits p ok
      part_fits (grammar.part_group p) ok = group_fits p ok

      pub targeted_fit : {ps : Targets} {ts us : Tokens} → grammar.Targeted ps ts us → Pass ts → (targets_pass l ps ≡ true) × Pass us
      targeted_fit grammar.no_part ok = (refl, ok)
      targeted_fit (grammar.last_part p) ok = let a = part_fits p ok in (both a.0 refl, a.1)
      targeted_fit (grammar.more_parts p h q) ok = let a = part_fits p ok in let b = targeted_fit q (behind a.1) in (both a.0 b.0, b.1)

      pub parts_fit : {ps : Targets} {line : Line} {ts us : Tokens} → grammar.Parts ps line ts us → Pass ts → (targets_pass l ps ≡ true) × Pass us
      parts_fit (grammar.parts p h q) ok = let a = part_fits p ok in let b = targeted_fit q (behind a.1) in (both a.0 b.0, b.1)

      pub target_fits : {p : Target} {line : Line} {ts us : Tokens} → grammar.IsTarget p line ts us → Pass ts → (target_passes l p ≡ true) × Pass us
      target_fits (grammar.target_part p) ok = part_fits p ok
      target_fits (grammar.target_parts p) ok = parts_fit p ok

      pub maybe_fits : {a : Maybe} {ts us : Tokens} → grammar.IsMaybe a ts us → Pass ts → (maybe_passes l a ≡ true) × Pass us
      maybe_fits grammar.missing ok = (refl, ok)
      maybe_fits (grammar.present p) ok = expr_fits p ok

      pub trailer_fits : {x : Trailer} {ts us : Tokens} → grammar.IsTrailer x ts us → Pass ts → (trailer_passes l x ≡ true) × Pass us
      trailer_fits (grammar.attr h i) ok = let n = name_at i (behind ok) in (both n mark, behind (behind ok))
      trailer_fits (grammar.item h p i) ok = let a = expr_fits p (behind ok) in (both a.0 mark, behind a.1)
      trailer_fits (grammar.slice h x i y j) ok = let a = maybe_fits x (behind ok) in let b = maybe_fits y (behind a.1) in (both (both (both a.0 b.0) refl) mark, behind b.1)
      trailer_fits (grammar.stepped h x i y j z k) ok = let a = maybe_fits x (behind ok) in let b = maybe_fits y (behind a.1) in let c = maybe_fits z (behind b.1) in (both (both (both a.0 b.0) c.0) mark, behind c.1)
      trailer_fits (grammar.call h q d i) ok = let a = args_fit q (behind ok) in (both a.0 mark, behind a.1)

      pub arg_fits : {named : Bool} {x : Arg} {ts us : Tokens} → grammar.IsArg named x ts us → Pass ts → (arg_passes l x ≡ true) × Pass us
      arg_fits (grammar.value p) ok = expr_fits p ok
      arg_fits (grammar.starred h p) ok = expr_fits p (behind ok)
      arg_fits (grammar.key h i p) ok = let n = name_at h ok in let a = expr_fits p (behind (behind ok)) in (both n a.0, a.1)
      arg_fits (grammar.double_starred h p) ok = expr_fits p (behind ok)

      pub args_fit : {named : Bool} {xs : Args} {ts us : Tokens} → grammar.IsArgs named xs ts us → Pass ts → (args_pass l xs ≡ true) × Pass us
      args_fit grammar.no_arg ok = (refl, ok)
      args_fit (grammar.last_arg p) ok = let a = arg_fits p ok in (both a.0 refl, a.1)
      args_fit (grammar.more_args p h q) ok = let a = arg_fits p ok in let b = args_fit q (behind a.1) in (both a.0 b.0, b.1)
      args_fit (grammar.args_with_names p) ok = args_fit p ok

      pub params_fit : {stage : Stage} {ps : Params} {ts us : Tokens} → grammar.IsParams stage ps ts us → Pass ts → (params_pass l ps ≡ true) × Pass us
      params_fit grammar.no_param ok = (refl, ok)
      params_fit (grammar.param {n = m} {ps = ps} {ts = ts} h f) ok = let n = name_at h ok in let a = following_fits f (behind ok) in (with_plain_fits ps (named m ts) tree.none n refl a.0, a.1)
      params_fit (grammar.default {n = m} {e = e} {ps = ps} {ts = ts} c h i p f) ok = let n = name_at h ok in let a = expr_fits p (behind (behind ok)) in let b = following_fits f a.1 in (with_plain_fits ps (named m ts) (tree.some e) n a.0 b.0, b.1)
      params_fit (grammar.list_param {n = m} {dict = dict} {ts = ts} c h i f) ok = let n = name_at i (behind ok) in let a = following_fits f (behind (behind ok)) in (list_fits dict (named m (skip ts)) n a.0, a.1)
      params_fit (grammar.dict_param c h i f) ok = let n = name_at i (behind ok) in let a = following_fits f (behind (behind ok)) in (n, a.1)

      pub following_fits : {stage : Stage} {ps : Params} {ts us : Tokens} → grammar.Following stage ps ts us → Pass ts → (params_pass l ps ≡ true) × Pass us
      following_fits grammar.no_more ok = (refl, ok)
      following_fits (grammar.comma h p) ok = params_fit p (behind ok)

      pub trail_fits : {xs : Trailers} {ts us : Tokens} → grammar.Trail xs ts us → Pass ts → (trailers_pass l xs ≡ true) × Pass us
      trail_fits grammar.ends ok = (refl, ok)
      trail_fits (grammar.goes p q) ok = let a = trailer_fits p ok in let b = trail_fits q a.1 in (both a.0 b.0, b.1)

      pub primary_fits : {e : Expr} {ts us : Tokens} → grammar.Primary e ts us → Pass ts → (expr_passes l e ≡ true) × Pass us
      primary_fits (grammar.bare p) ok = atom_fits p ok
      primary_fits (grammar.trailed p q r) ok = let a = atom_fits p ok in let b = trailer_fits q a.1 in let c = trail_fits r b.1 in (both a.0 (both b.0 c.0), c.1)

      pub power_fits : {e : Expr} {ts us : Tokens} → grammar.Power e ts us → Pass ts → (expr_passes l e ≡ true) × Pass us
      power_fits (grammar.base p) ok = primary_fits p ok
      power_fits (grammar.raised p h q) ok = let a = primary_fits p ok in let b = unary_fits q (behind a.1) in (both a.0 b.0, b.1)

      pub unary_fits : {e : Expr} {ts us : Tokens} → grammar.Unary e ts us → Pass ts → (expr_passes l e ≡ true) × Pass us
      unary_fits (grammar.unsigned p) ok = power_fits p ok
      unary_fits (grammar.signed h p) ok = unary_fits p (behind ok)

      pub chain_fits : {k : ℕ} {e : Expr} {ts us : Tokens} → grammar.Chain k e ts us → Pass ts → (expr_passes l e ≡ true) × Pass us
      chain_fits (grammar.operand p) ok = unary_fits p ok
      chain_fits (grammar.tighter p) ok = chain_fits p ok
      chain_fits (grammar.chained p h i q r) ok = let a = chain_fits p ok in let b = chain_fits q (behind a.1) in let c = chained_fit r b.1 in (both a.0 (both b.0 c.0), c.1)

      pub chained_fit : {k : ℕ} {os : Ops} {ts us : Tokens} → grammar.Chained k os ts us → Pass ts → (ops_pass l os ≡ true) × Pass us
      chained_fit grammar.chain_ends ok = (refl, ok)
      chained_fit (grammar.chain_goes h i p q) ok = let a = chain_fits p (behind ok) in let b = chained_fit q a.1 in (both a.0 b.0, b.1)

      pub compare_fits : {e : Expr} {ts us : Tokens} → grammar.Compare e ts us → Pass ts → (expr_passes l e ≡ true) × Pass us
      compare_fits (grammar.single p) ok = chain_fits p ok
      compare_fits (grammar.compared p q r) ok = let a = chain_fits p ok in let b = tested_fits q a.1 in let c = compared_fit r b.1 in (both a.0 (both b.0 c.0), c.1)

      pub tested_fits : {x : Test} {f : Expr} {ts us : Tokens} → grammar.Tested x f ts us → Pass ts → (expr_passes l f ≡ true) × Pass us
      tested_fits (grammar.test p q) ok = let r = test_fits p ok in chain_fits q r
      tested_fits (grammar.is_none h i) ok = (refl, behind (behind ok))
      tested_fits (grammar.is_not_none h i j) ok = (refl, behind (behind (behind ok)))

      pub compared_fit : {xs : Tests} {ts us : Tokens} → grammar.Compared xs ts us → Pass ts → (tests_pass l xs ≡ true) × Pass us
      compared_fit grammar.tests_end ok = (refl, ok)
      compared_fit (grammar.tests_go p q) ok = let a = tested_fits p ok in let b = compared_fit q a.1 in (both a.0 b.0, b.1)

      pub not_fits : {e : Expr} {ts us : Tokens} → grammar.Not e ts us → Pass ts → (expr_passes l e ≡ true) × Pass us
      not_fits (grammar.asserted p) ok = compare_fits p ok
      not_fits (grammar.negated h p) ok = not_fits p (behind ok)

      pub and_fits : {e : Expr} {ts us : Tokens} → grammar.And e ts us → Pass ts → (expr_passes l e ≡ true) × Pass us
      and_fits (grammar.and_single p) ok = not_fits p ok
      and_fits (grammar.and_several p h q r) ok = let a = not_fits p ok in let b = not_fits q (behind a.1) in let c = ands_fit r b.1 in (both a.0 (both b.0 c.0), c.1)

      pub ands_fit : {es : Exprs} {ts us : Tokens} → grammar.Ands es ts us → Pass ts → (exprs_pass l es ≡ true) × Pass us
      ands_fit grammar.ands_end ok = (refl, ok)
      ands_fit (grammar.ands_go h p q) ok = let a = not_fits p (behind ok) in let b = ands_fit q a.1 in (both a.0 b.0, b.1)

      pub or_fits : {e : Expr} {ts us : Tokens} → grammar.Or e ts us → Pass ts → (expr_passes l e ≡ true) × Pass us
      or_fits (grammar.or_single p) ok = and_fits p ok
      or_fits (grammar.or_several p h q r) ok = let a = and_fits p ok in let b = and_fits q (behind a.1) in let c = ors_fit r b.1 in (both a.0 (both b.0 c.0), c.1)

      pub ors_fit : {es : Exprs} {ts us : Tokens} → grammar.Ors es ts us → Pass ts → (exprs_pass l es ≡ true) × Pass us
      ors_fit grammar.ors_end ok = (refl, ok)
      ors_fit (grammar.ors_go h p q) ok = let a = and_fits p (behind ok) in let b = ors_fit q a.1 in (both a.0 b.0, b.1)

      pub expr_fits : {e : Expr} {ts us : Tokens} → grammar.IsExpr e ts us → Pass ts → (expr_passes l e ≡ true) × Pass us
      expr_fits (grammar.a_lambda h p d i q) ok = let a = params_fit p (behind ok) in let b = expr_fits q (behind a.1) in (both (both block a.0) b.0, b.1)
      expr_fits (grammar.unconditional p) ok = or_fits p ok
      expr_fits (grammar.cond p h q i r) ok = let a = or_fits p ok in let b = or_fits q (behind a.1) in let c = expr_fits r (behind b.1) in (both (both b.0 a.0) c.0, c.1)
