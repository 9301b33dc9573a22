-- Each expression that good tokens spell is read back from its printed text.
use Rattle.std.proofs.Common.{◌≡◌, subst, ℕ, suc, ◌≤◌, ℤ, Bool, true, false, List, [], ◌∷◌, pos, negsuc, arith}
use lib.Utf8.{scalars}
use Rattle.rp_base.specs.declared.value.Line.{Line}
use Rattle.rp_base.specs.declared.value.Name.{Name}
use Rattle.rp_grammar.specs.Kinds.{Tokens, first, line_at, loosest, looseness, skip}
use Rattle.rp_grammar.specs.Expressions as grammar
use Rattle.rp_grammar.specs.Expressions.{Stage, any, line_of, named, with_plain}
use Rattle.rp_token.specs.declared.token.TokenKind.{TokenKind}
use Rattle.rp_token.specs.declared.token.TokenKind.TheVariants as kind
use Rattle.rp_base.specs.declared.operator.BinOp.{BinOp}
use Rattle.rp_base.specs.declared.operator.BinOp.TheVariants as binary
use Rattle.rp_tree.specs.declared.parts.Const.TheVariants as const
use Rattle.rp_tree.specs.declared.parts.Test.{Test}
use Rattle.rp_tree.specs.Expressions as tree
use Rattle.rp_tree.specs.Expressions.{Named, Expr, Exprs, Maybe, Pairs, Tests, Ops, Clause, Clauses, Target, Targets}
use Rattle.rp_tree.specs.Expressions.{Place, Params, Trailer, Trailers, Arg, Args}
use Rattle.rp_printed.proofs.Reading.{AreGood, IsGoodKind, IsGoodName, scalars-append}
use Rattle.rp_printed.proofs.Operands.{AllRead, IsRead}
use Rattle.rp_printed.proofs.Operators as operator_laws
use Rattle.rp_printed.proofs.Displays as display_laws
use Rattle.rp_printed.proofs.Places as place_laws
use Rattle.rp_printed.proofs.Parameters as parameter_laws

module _ (words : List (List ℕ)) where
  -- good tokens
  pub record Good (ts : Tokens) : Type 0 where
    pub all : AreGood words ts

  pub behind : {ts : Tokens} → Good ts → Good (skip ts)
  behind {ts = []} ok = ok
  behind {ts = t ∷ ts} ok = record { all = ok.all.1 }

  first_good : (ts : Tokens) → Good ts → IsGoodKind words (first ts)
  first_good [] ok = tt
  first_good (t ∷ ts) ok = ok.all.0

  pub name_at : {n : Name} {ts : Tokens} → first ts ≡ kind.Name n → Good ts → IsGoodName words n
  name_at {ts = ts} h ok = subst (λ (k : TokenKind). IsGoodKind words k) h (first_good ts ok)

  number_at : {n : ℤ} {ts : Tokens} → first ts ≡ kind.Int n → Good ts → IsGoodKind words (kind.Int n)
  number_at {ts = ts} h ok = subst (λ (k : TokenKind). IsGoodKind words k) h (first_good ts ok)

  text_at : {s : List ℕ} {ts : Tokens} → first ts ≡ kind.Text s → Good ts → scalars s ≡ true
  text_at {ts = ts} h ok = subst (λ (k : TokenKind). IsGoodKind words k) h (first_good ts ok)

  texts_back : {s : List ℕ} {ts us : Tokens} → grammar.Texts s ts us → Good ts → (scalars s ≡ true) × Good us
  texts_back (grammar.one_text h) ok = (text_at h ok, behind ok)
  texts_back (grammar.more_texts {s = s} {cs = cs} h p) ok = let a = texts_back p (behind ok) in
      (scalars-append s cs (text_at h ok) a.0, a.1)

  test_back : {x : Test} {ts us : Tokens} → grammar.IsTest x ts us → Good ts → Good us
  test_back (grammar.order h) ok = behind ok
  test_back (grammar.within h) ok = behind ok
  test_back (grammar.not_within h i) ok = behind (behind ok)

  -- no operator is looser than the loosest
  low : (o : BinOp) (k : ℕ) → looseness o ≡ suc k → suc k ≤ loosest
  low binary.Pow k e = omega arith
  low binary.Mul k e = omega arith
  low binary.FloorDiv k e = omega arith
  low binary.Mod k e = omega arith
  low binary.Add k e = omega arith
  low binary.Sub k e = omega arith
  low binary.LShift k e = omega arith
  low binary.RShift k e = omega arith
  low binary.BitAnd k e = omega arith
  low binary.BitXor k e = omega arith
  low binary.BitOr k e = omega arith

  module _ (size : ℕ) (columns : List ℕ) (line : ℕ) where
    abbrev Whole : Expr → Type 0
    Whole = IsRead words size columns line

    abbrev All : Exprs → Type 0
    All = AllRead words size columns line

    int_back : (l : Line) (n : ℤ) → IsGoodKind words (kind.Int n) → Whole (tree.node l (tree.int n))
    int_back l (pos m) good = display_laws.int_atom words size columns line l m good
    int_back l (negsuc m) good = absurd good

    pub tuple_back : (l : Line) (e : Expr) (es : Exprs) → Whole e → All es → Whole (tree.node l (tree.tuple (tree.expr e es)))
    tuple_back l e tree.no_exprs a all = display_laws.single_atom words size columns line l e a
    tuple_back l e (tree.expr f es) a all = display_laws.tuple_atom words size columns line l e f es (a, all)

    mutual
      pub atom_back : {e : Expr} {ts us : Tokens} → grammar.Atom e ts us → Good ts → Whole e × Good us
      atom_back (grammar.name {n = n} {ts = ts} h) ok =
          (display_laws.name_atom words size columns line (line_at ts) n (name_at h ok), behind ok)
      atom_back (grammar.int {n = n} {ts = ts} h) ok = (int_back (line_at ts) n (number_at h ok), behind ok)
      atom_back (grammar.text {s = s} {ts = ts} x) ok = let a = texts_back x ok in
          (display_laws.text_atom words size columns line (line_at ts) s a.0, a.1)
      atom_back (grammar.nil {ts = ts} h) ok = (display_laws.const_atom words size columns line (line_at ts) const.Nil, behind ok)
      atom_back (grammar.truth {ts = ts} h) ok =
          (display_laws.const_atom words size columns line (line_at ts) (const.Truth true), behind ok)
      atom_back (grammar.falsity {ts = ts} h) ok =
          (display_laws.const_atom words size columns line (line_at ts) (const.Truth false), behind ok)
      atom_back (grammar.paren h x i) ok = let a = expr_back x (behind ok) in (a.0, behind a.1)
      atom_back (grammar.unit {ts = ts} h i) ok = (display_laws.unit_atom words size columns line (line_at ts), behind (behind ok))
      atom_back (grammar.tuple {e = e} {es = es} {ts = ts} h x i y j) ok =
          let a = expr_back x (behind ok) in let b = listed_back y (behind a.1) in
          (tuple_back (line_at ts) e es a.0 b.0, behind b.1)
      atom_back (grammar.list {es = es} {ts = ts} h y i) ok = let a = listed_back y (behind ok) in
          (display_laws.list_atom words size columns line (line_at ts) es a.0, behind a.1)
      atom_back (grammar.list_of {e = e} {c = c} {cs = cs} {ts = ts} h x y z i) ok =
          let a = expr_back x (behind ok) in let b = clause_back y a.1 in let f = clauses_back z b.1 in (
            display_laws.list_of_atom words size columns line (line_at ts) e c cs a.0
                (place_laws.clauses_read words size columns line c cs b.0 f.0),
            behind f.1,
          )
      atom_back (grammar.dict {ps = ps} {ts = ts} h y i) ok = let a = paired_back y (behind ok) in
          (display_laws.dict_atom words size columns line (line_at ts) ps a.0, behind a.1)
      atom_back (grammar.dict_of {k = k} {e = e} {c = c} {cs = cs} {ts = ts} h v i x y z j) ok =
          let a = expr_back v (behind ok) in let b = expr_back x (behind a.1) in let f = clause_back y b.1 in let m =
          clauses_back z f.1 in (
            display_laws.dict_of_atom words size columns line (line_at ts) k e c cs a.0 b.0
                (place_laws.clauses_read words size columns line c cs f.0 m.0),
            behind m.1,
          )

      pub listed_back : {es : Exprs} {ts us : Tokens} → grammar.Listed es ts us → Good ts → All es × Good us
      listed_back grammar.nothing ok = (tt, ok)
      listed_back (grammar.last x) ok = let a = expr_back x ok in ((a.0, tt), a.1)
      listed_back (grammar.more x h y) ok = let a = expr_back x ok in let b = listed_back y (behind a.1) in ((a.0, b.0), b.1)

      paired_back : {ps : Pairs} {ts us : Tokens} → grammar.Paired ps ts us → Good ts → display_laws.AllPairs words size columns line ps
          × Good us
      paired_back grammar.no_pair ok = (tt, ok)
      paired_back (grammar.last_pair x h y) ok = let a = expr_back x ok in let b = expr_back y (behind a.1) in
          ((a.0, b.0, tt), b.1)
      paired_back (grammar.more_pairs x h y i z) ok =
          let a = expr_back x ok in let b = expr_back y (behind a.1) in let c = paired_back z (behind b.1) in
          ((a.0, b.0, c.0), c.1)

      clause_back : {c : Clause} {ts us : Tokens} → grammar.IsClause c ts us → Good ts
          → place_laws.ReadClause words size columns line c × Good us
      clause_back (grammar.a_clause {p = target} {e = e} {es = es} h x i y z) ok =
          let a = target_back x (behind ok) in let b = or_back y (behind a.1) in let c = ifs_back z b.1 in
          (place_laws.clause_read words size columns line target e es a.0 b.0 c.0, c.1)

      clauses_back : {cs : Clauses} {ts us : Tokens} → grammar.IsClauses cs ts us → Good ts
          → place_laws.ReadClauses words size columns line cs × Good us
      clauses_back grammar.clauses_end ok = (place_laws.no_clauses_read words size columns line, ok)
      clauses_back (grammar.clauses_go {c = c} {cs = cs} x y) ok =
          let a = clause_back x ok in let b = clauses_back y a.1 in
          (place_laws.clauses_read words size columns line c cs a.0 b.0, b.1)

      ifs_back : {es : Exprs} {ts us : Tokens} → grammar.Ifs es ts us → Good ts → All es × Good us
      ifs_back grammar.ifs_end ok = (tt, ok)
      ifs_back (grammar.ifs_go h x y) ok = let a = or_back x (behind ok) in let b = ifs_back y a.1 in ((a.0, b.0), b.1)

      pub place_back : {x : Place} {ts us : Tokens} → grammar.IsPlace x ts us → Good ts
          → place_laws.ReadPlace words size columns line x × Good us
      place_back (grammar.place_name {n = n} {ts = ts} h) ok =
          (place_laws.name_place words size columns line (named n ts) (name_at h ok), behind ok)
      place_back (grammar.place_attr {e = e} {n = n} {us = us} x h i) ok =
          let a = primary_back x ok in (
            place_laws.attr_place words size columns line e (named n (skip us)) a.0 (name_at i (behind a.1)),
            behind
                (behind a.1),
          )
      place_back (grammar.place_item {e = e} {i = i} x h y j) ok =
          let a = primary_back x ok in let b = expr_back y (behind a.1) in
          (place_laws.item_place words size columns line e i a.0 b.0, behind b.1)
      place_back (grammar.place_paren h x i) ok = let a = place_back x (behind ok) in (a.0, behind a.1)

      pub group_back : {x : Target} {l : Line} {ts us : Tokens} → grammar.IsGroup x l ts us → Good ts
          → place_laws.ReadGroup words size columns line x × Good us
      group_back (grammar.group_parts h x i) ok = let a = parts_back x (behind ok) in (a.0, behind a.1)
      group_back (grammar.group_list {p = x} {ps = xs} h y i) ok = let a = targeted_back y (behind ok) in
          (place_laws.group_read words size columns line x xs a.0, behind a.1)
      group_back (grammar.group_paren h x i) ok = let a = group_back x (behind ok) in (a.0, behind a.1)

      part_back : {x : Target} {l : Line} {ts us : Tokens} → grammar.Part x l ts us → Good ts
          → place_laws.ReadPart words size columns line x × Good us
      part_back (grammar.part_place {p = x} y) ok = let a = place_back y ok in
          (place_laws.place_part words size columns line x a.0, a.1)
      part_back (grammar.part_group {g = x} y) ok = let a = group_back y ok in
          (place_laws.group_read_part words size columns line x a.0, a.1)

      targeted_back : {xs : Targets} {ts us : Tokens} → grammar.Targeted xs ts us → Good ts
          → place_laws.AllParts words size columns line xs × Good us
      targeted_back grammar.no_part ok = (tt, ok)
      targeted_back (grammar.last_part x) ok = let a = part_back x ok in ((a.0, tt), a.1)
      targeted_back (grammar.more_parts x h y) ok = let a = part_back x ok in let b = targeted_back y (behind a.1) in
          ((a.0, b.0), b.1)

      pub parts_back : {xs : Targets} {l : Line} {ts us : Tokens} → grammar.Parts xs l ts us → Good ts
          → place_laws.ReadGroup words size columns line (tree.group xs) × Good us
      parts_back (grammar.parts {p = x} {ps = xs} y h z) ok =
          let a = part_back y ok in let b = targeted_back z (behind a.1) in
          (place_laws.group_read words size columns line x xs (a.0, b.0), b.1)

      pub target_back : {x : Target} {l : Line} {ts us : Tokens} → grammar.IsTarget x l ts us → Good ts
          → place_laws.ReadPart words size columns line x × Good us
      target_back (grammar.target_part x) ok = part_back x ok
      target_back (grammar.target_parts {ps = xs} x) ok = let a = parts_back x ok in
          (place_laws.group_read_part words size columns line (tree.group xs) a.0, a.1)

      maybe_back : {x : Maybe} {ts us : Tokens} → grammar.IsMaybe x ts us → Good ts → place_laws.MaybeRead words size columns line x
          × Good us
      maybe_back grammar.missing ok = (tt, ok)
      maybe_back (grammar.present x) ok = expr_back x ok

      trailer_back : {x : Trailer} {ts us : Tokens} → grammar.IsTrailer x ts us → Good ts
          → place_laws.ReadTrailer words size columns line x × Good us
      trailer_back (grammar.attr {n = n} {ts = ts} h i) ok =
          (place_laws.attr_trailer words size columns line (named n (skip ts)) (name_at i (behind ok)), behind (behind ok))
      trailer_back (grammar.item {e = e} h x i) ok = let a = expr_back x (behind ok) in
          (place_laws.item_trailer words size columns line e a.0, behind a.1)
      trailer_back (grammar.slice {a = x} {b = y} h v i w j) ok =
          let a = maybe_back v (behind ok) in let b = maybe_back w (behind a.1) in
          (place_laws.slice_trailer words size columns line x y tree.none a.0 b.0 tt, behind b.1)
      trailer_back (grammar.stepped {a = x} {b = y} {c = z} h v i w j u k) ok =
          let a = maybe_back v (behind ok) in let b = maybe_back w (behind a.1) in let c = maybe_back u (behind b.1) in
          (place_laws.slice_trailer words size columns line x y z a.0 b.0 c.0, behind c.1)
      trailer_back (grammar.call {xs = xs} h x apart i) ok = let a = args_back x (behind ok) in
          (parameter_laws.call_trailer words size columns line xs a.0 apart, behind a.1)

      arg_back : {named : Bool} {x : Arg} {ts us : Tokens} → grammar.IsArg named x ts us → Good ts
          → parameter_laws.ReadArg words size columns line named x × Good us
      arg_back (grammar.value {e = e} x) ok = let a = expr_back x ok in (parameter_laws.value_arg words size columns line e a.0, a.1)
      arg_back (grammar.starred {e = e} h x) ok = let a = expr_back x (behind ok) in
          (parameter_laws.star_arg words size columns line e a.0, a.1)
      arg_back (grammar.key {n = n} {e = e} h i x) ok = let a = expr_back x (behind (behind ok)) in
          (parameter_laws.key_arg words size columns line n e (name_at h ok) a.0, a.1)
      arg_back (grammar.double_starred {e = e} h x) ok = let a = expr_back x (behind ok) in
          (parameter_laws.stars_arg words size columns line e a.0, a.1)

      args_back : {named : Bool} {xs : Args} {ts us : Tokens} → grammar.IsArgs named xs ts us → Good ts
          → parameter_laws.AllArgs words size columns line named xs × Good us
      args_back grammar.no_arg ok = (parameter_laws.none_read, ok)
      args_back (grammar.last_arg x) ok = let a = arg_back x ok in (parameter_laws.one_read a.0 parameter_laws.none_read, a.1)
      args_back (grammar.more_args x h y) ok = let a = arg_back x ok in let b = args_back y (behind a.1) in
          (parameter_laws.one_read a.0 b.0, b.1)
      args_back (grammar.args_with_names x) ok = let a = args_back x ok in (parameter_laws.names_read a.0, a.1)

      pub params_back : {stage : Stage} {ps : Params} {ts us : Tokens} → grammar.IsParams stage ps ts us → Good ts
          → parameter_laws.ReadParams words size columns line stage ps × Good us
      params_back {stage = stage} grammar.no_param ok = (parameter_laws.no_params words size columns line stage, ok)
      params_back (grammar.param {n = n} {ps = ps} {ts = ts} h x) ok =
          let a = following_back x (behind ok) in
          (parameter_laws.plain_param words size columns line (named n ts) ps (name_at h ok) a.0, a.1)
      params_back {stage = stage} (grammar.default {n = n} {e = e} {ps = ps} {ts = ts} may h i x y) ok =
          let a = expr_back x (behind (behind ok)) in let b = following_back y a.1 in
          (parameter_laws.default_param words size columns line stage (named n ts) e ps may (name_at h ok) a.0 b.0, b.1)
      params_back {stage = stage} (grammar.list_param {n = n} {dict = dict} {ts = ts} may h i x) ok =
          let a = following_back x (behind (behind ok)) in
          (parameter_laws.list_param words size columns line stage (named n (skip ts)) dict may (name_at i (behind ok)) a.0, a.1)
      params_back {stage = stage} (grammar.dict_param {n = n} {ts = ts} may h i x) ok =
          let a = following_back x (behind (behind ok)) in
          (parameter_laws.dict_param words size columns line stage (named n (skip ts)) may (name_at i (behind ok)), a.1)

      following_back : {stage : Stage} {ps : Params} {ts us : Tokens} → grammar.Following stage ps ts us → Good ts
          → parameter_laws.ReadFollowing words size columns line stage ps × Good us
      following_back {stage = stage} grammar.no_more ok = (parameter_laws.no_following words size columns line stage, ok)
      following_back (grammar.comma h x) ok = let a = params_back x (behind ok) in (λ n h. a.0.further n h, a.1)

      trail_back : {xs : Trailers} {ts us : Tokens} → grammar.Trail xs ts us → Good ts
          → place_laws.ReadTrail words size columns line xs × Good us
      trail_back grammar.ends ok = (place_laws.no_trail words size columns line, ok)
      trail_back (grammar.goes {x = x} {xs = xs} y z) ok = let a = trailer_back y ok in let b = trail_back z a.1 in
          (place_laws.more_trail words size columns line x xs a.0 b.0, b.1)

      pub primary_back : {e : Expr} {ts us : Tokens} → grammar.Primary e ts us → Good ts → Whole e × Good us
      primary_back (grammar.bare x) ok = atom_back x ok
      primary_back (grammar.trailed {e = e} {x = x} {xs = xs} u v w) ok =
          let a = atom_back u ok in let b = trailer_back v a.1 in let c = trail_back w b.1 in
          (place_laws.primary_read words size columns line (line_of e) e x xs a.0 b.0 c.0, c.1)

      power_back : {e : Expr} {ts us : Tokens} → grammar.Power e ts us → Good ts → Whole e × Good us
      power_back (grammar.base x) ok = primary_back x ok
      power_back (grammar.raised {e = e} {f = f} x h y) ok =
          let a = primary_back x ok in let b = unary_back y (behind a.1) in
          (operator_laws.power_read words size columns line (line_of e) e f a.0 b.0, b.1)

      unary_back : {e : Expr} {ts us : Tokens} → grammar.Unary e ts us → Good ts → Whole e × Good us
      unary_back (grammar.unsigned x) ok = power_back x ok
      unary_back (grammar.signed {o = u} {e = e} {ts = ts} h x) ok = let a = unary_back x (behind ok) in
          (operator_laws.unary_read words size columns line (line_at ts) u e a.0, a.1)

      chain_back : {k : ℕ} {e : Expr} {ts us : Tokens} → grammar.Chain k e ts us → Good ts → Whole e × Good us
      chain_back (grammar.operand x) ok = unary_back x ok
      chain_back (grammar.tighter x) ok = chain_back x ok
      chain_back (grammar.chained {k = k} {e = e} {f = f} {o = m} {os = os} x h i y z) ok =
          let a = chain_back x ok in let b = chain_back y (behind a.1) in let c = chained_back z b.1 in
          (operator_laws.chain_read words size columns line (line_of e) k e m f os (low m k i) a.0 (i, b.0, c.0), c.1)

      chained_back : {k : ℕ} {os : Ops} {ts us : Tokens} → grammar.Chained k os ts us → Good ts
          → operator_laws.AllOps words size columns line k os × Good us
      chained_back grammar.chain_ends ok = (tt, ok)
      chained_back (grammar.chain_goes h i x y) ok = let a = chain_back x (behind ok) in let b = chained_back y a.1 in
          ((i, a.0, b.0), b.1)

      compare_back : {e : Expr} {ts us : Tokens} → grammar.Compare e ts us → Good ts → Whole e × Good us
      compare_back (grammar.single x) ok = chain_back x ok
      compare_back (grammar.compared {e = e} {f = f} {x = m} {xs = ms} x y z) ok =
          let a = chain_back x ok in let b = tested_back y a.1 in let c = compared_back z b.1 in
          (operator_laws.compare_read words size columns line (line_of e) e f m ms a.0 (b.0, c.0), c.1)

      tested_back : {x : Test} {f : Expr} {ts us : Tokens} → grammar.Tested x f ts us → Good ts
          → operator_laws.ReadTest words size columns line x f × Good us
      tested_back (grammar.test x y) ok = let a = test_back x ok in let b = chain_back y a in
          (operator_laws.test_read words size columns line x b.0, b.1)
      tested_back (grammar.is_none {ts = ts} h i) ok =
          (operator_laws.is_none_read words size columns line (line_at (skip ts)), behind (behind ok))
      tested_back (grammar.is_not_none {ts = ts} h i j) ok =
          (operator_laws.is_not_none_read words size columns line (line_at (skip (skip ts))), behind (behind (behind ok)))

      compared_back : {xs : Tests} {ts us : Tokens} → grammar.Compared xs ts us → Good ts
          → operator_laws.AllTests words size columns line xs × Good us
      compared_back grammar.tests_end ok = (tt, ok)
      compared_back (grammar.tests_go x y) ok = let a = tested_back x ok in let b = compared_back y a.1 in ((a.0, b.0), b.1)

      not_back : {e : Expr} {ts us : Tokens} → grammar.Not e ts us → Good ts → Whole e × Good us
      not_back (grammar.asserted x) ok = compare_back x ok
      not_back (grammar.negated {e = e} {ts = ts} h x) ok = let a = not_back x (behind ok) in
          (operator_laws.not_read words size columns line (line_at ts) e a.0, a.1)

      and_back : {e : Expr} {ts us : Tokens} → grammar.And e ts us → Good ts → Whole e × Good us
      and_back (grammar.and_single x) ok = not_back x ok
      and_back (grammar.and_several {e = e} {f = f} {es = es} x h y z) ok =
          let a = not_back x ok in let b = not_back y (behind a.1) in let c = ands_back z b.1 in
          (operator_laws.and_read words size columns line (line_of e) e f es (a.0, (b.0, c.0)), c.1)

      ands_back : {es : Exprs} {ts us : Tokens} → grammar.Ands es ts us → Good ts → All es × Good us
      ands_back grammar.ands_end ok = (tt, ok)
      ands_back (grammar.ands_go h x y) ok = let a = not_back x (behind ok) in let b = ands_back y a.1 in ((a.0, b.0), b.1)

      or_back : {e : Expr} {ts us : Tokens} → grammar.Or e ts us → Good ts → Whole e × Good us
      or_back (grammar.or_single x) ok = and_back x ok
      or_back (grammar.or_several {e = e} {f = f} {es = es} x h y z) ok =
          let a = and_back x ok in let b = and_back y (behind a.1) in let c = ors_back z b.1 in
          (operator_laws.or_read words size columns line (line_of e) e f es (a.0, (b.0, c.0)), c.1)

      ors_back : {es : Exprs} {ts us : Tokens} → grammar.Ors es ts us → Good ts → All es × Good us
      ors_back grammar.ors_end ok = (tt, ok)
      ors_back (grammar.ors_go h x y) ok = let a = and_back x (behind ok) in let b = ors_back y a.1 in ((a.0, b.0), b.1)

      pub expr_back : {e : Expr} {ts us : Tokens} → grammar.IsExpr e ts us → Good ts → Whole e × Good us
      expr_back (grammar.a_lambda {ps = ps} {e = e} {ts = ts} h x apart i y) ok =
          let a = params_back x (behind ok) in let b = expr_back y (behind a.1) in
          (parameter_laws.lambda_read words size columns line (line_at ts) ps e a.0 apart b.0, b.1)
      expr_back (grammar.unconditional x) ok = or_back x ok
      expr_back (grammar.cond {yes = m} {test = e} {no = f} x h y i z) ok =
          let a = or_back x ok in let b = or_back y (behind a.1) in let c = expr_back z (behind b.1) in
          (operator_laws.cond_read words size columns line (line_of m) e m f b.0 a.0 c.0, c.1)
