-- A target is spelled as an expression that converts to it, and an expression that converts to a target is spelled as it.
use Rattle.std.proofs.Common.{◌≡◌, ℕ, Option, Some, None, refl, ap, subst, ◌∙◌, option_map}
use Rattle.rp_base.specs.declared.value.Line.{Line}
use Rattle.rp_token.specs.declared.token.TokenKind.TheVariants as kind
use Rattle.rp_tree.specs.Expressions as tree
use Rattle.rp_tree.specs.Expressions.{Expr, Form, Exprs, Place, Target, Targets, Trailer, Trailers}
use Rattle.rp_grammar.specs.Kinds.{Tokens, first, line_at, skip}
use Rattle.rp_grammar.specs.Expressions as grammar
use Rattle.rp_grammar.specs.Expressions.{line_of, named, place_line}
use Rattle.rp_grammar.specs.Conversion.{with_trailers, before_last, last_of, trailed_place, as_place, group_of, one_more, as_target, as_targets}
use Rattle.rp_grammar.proofs.Basics.{some_is}

-- ---- an expression that converts is spelled as the target

-- the last of some trailers, and those before it
trail_split : {x : Trailer} {xs : Trailers} {ts us vs : Tokens} → grammar.IsTrailer x ts us → grammar.Trail xs us vs → (ws : Tokens) × grammar.Trail (before_last x xs) ts ws × grammar.IsTrailer (last_of x xs) ws vs
trail_split {ts = ts} q grammar.ends = (ts, grammar.ends, q)
trail_split q (grammar.goes p r) = let (ws, front, last) = trail_split p r in (ws, grammar.goes q front, last)

primary_of : {e : Expr} {xs : Trailers} {ts us vs : Tokens} → grammar.Atom e ts us → grammar.Trail xs us vs → grammar.Primary (with_trailers e xs) ts vs
primary_of p grammar.ends = grammar.bare p
primary_of p (grammar.goes q r) = grammar.trailed p q r

line_kept : (e : Expr) (xs : Trailers) → line_of (with_trailers e xs) ≡ line_of e
line_kept e tree.no_trailers = refl
line_kept e (tree.trailer x xs) = refl

-- a place that is spelled, and its line
abbrev PlaceAt : Place → Line → Tokens → Tokens → Type 0
PlaceAt q line ts us = grammar.IsPlace q ts us × (place_line q ≡ line)

place_last : (e : Expr) (x : Trailer) (q : Place) {ts us vs : Tokens} → grammar.Primary e ts us → grammar.IsTrailer x us vs → trailed_place e x ≡ Some q → PlaceAt q (line_of e) ts vs
place_last e _ q {ts = ts} {us = us} p (grammar.attr i j) h = subst (λ q. PlaceAt q (line_of e) ts (skip (skip us))) (some_is h) (grammar.place_attr p i j, refl)
place_last e _ q {ts = ts} p (grammar.item {us = vs} i r j) h = subst (λ q. PlaceAt q (line_of e) ts (skip vs)) (some_is h) (grammar.place_item p i r j, refl)
place_last e _ q p (grammar.slice i a j b k) h = absurd cc
place_last e _ q p (grammar.stepped i a j b k c l) h = absurd cc
place_last e _ q p (grammar.call i r d j) h = absurd cc

mapped : (o : Option Place) (p : Target) → option_map tree.to_place o ≡ Some p → (q : Place) × (o ≡ Some q) × (tree.to_place q ≡ p)
mapped None p h = absurd cc
mapped (Some q) p h = (q, refl, some_is h)

grouped : (o : Option Targets) (p : Target) → group_of o ≡ Some p → (q : Target) × (qs : Targets) × (o ≡ Some (tree.target q qs)) × (tree.group (tree.target q qs) ≡ p)
grouped None p h = absurd cc
grouped (Some tree.no_targets) p h = absurd cc
grouped (Some (tree.target q qs)) p h = (q, qs, refl, some_is h)

more_is : (o : Option Target) (os : Option Targets) (ps : Targets) → one_more o os ≡ Some ps → (q : Target) × (qs : Targets) × (o ≡ Some q) × (os ≡ Some qs) × (tree.target q qs ≡ ps)
more_is None os ps h = absurd cc
more_is (Some q) None ps h = absurd cc
more_is (Some q) (Some qs) ps h = (q, qs, refl, refl, some_is h)

in_parens : {p : Target} {line : Line} {ts us : Tokens} → first ts ≡ kind.LeftParen → grammar.Part p line (skip ts) us → first us ≡ kind.RightParen → grammar.Part p line ts (skip us)
in_parens h (grammar.part_place q) i = grammar.part_place (grammar.place_paren h q i)
in_parens h (grammar.part_group q) i = grammar.part_group (grammar.group_paren h q i)

primary_part : {e : Expr} {x : Trailer} {xs : Trailers} {p : Target} {ts us vs ws : Tokens} → grammar.Atom e ts us → grammar.IsTrailer x us vs → grammar.Trail xs vs ws
    → option_map tree.to_place (trailed_place (with_trailers e (before_last x xs)) (last_of x xs)) ≡ Some p → grammar.Part p (line_of e) ts ws
primary_part {e} {x} {xs} {p} {ts} {us} {vs} {ws} a q r h =
    let (place, is, same) = mapped _ _ h in
    let (mid, front, last) = trail_split q r in
    let (spelled, line) = place_last (with_trailers e (before_last x xs)) (last_of x xs) place (primary_of a front) last is in
    let part : grammar.Part (tree.to_place place) (place_line place) ts ws = grammar.part_place spelled in
    let at_line : grammar.Part (tree.to_place place) (line_of e) ts ws = subst (λ (l : Line). grammar.Part (tree.to_place place) l ts ws) (line ∙ line_kept e (before_last x xs)) part in
    subst (λ (z : Target). grammar.Part z (line_of e) ts ws) same at_line

mutual
  pub atom_part : {e : Expr} {p : Target} {ts us : Tokens} → grammar.Atom e ts us → as_target e ≡ Some p → grammar.Part p (line_of e) ts us
  atom_part {ts = ts} (grammar.name i) h = subst (λ (z : Target). grammar.Part z (line_at ts) ts (skip ts)) (some_is h) (grammar.part_place (grammar.place_name i))
  atom_part (grammar.int i) h = absurd cc
  atom_part (grammar.text x) h = absurd cc
  atom_part (grammar.nil i) h = absurd cc
  atom_part (grammar.truth i) h = absurd cc
  atom_part (grammar.falsity i) h = absurd cc
  atom_part (grammar.paren i p j) h = in_parens i (expr_part p h) j
  atom_part (grammar.unit i j) h = absurd cc
  atom_part {ts = ts} (grammar.tuple {e = e} {es = es} {vs = vs} i p j r k) h =
      let (q, qs, converts, same) = grouped _ _ h in
      let (q', qs', head, tail, all) = more_is (as_target e) (as_targets es) (tree.target q qs) converts in
      subst (λ (z : Target). grammar.Part z (line_at ts) ts (skip vs)) (ap tree.group all ∙ same) (grammar.part_group (grammar.group_parts i (grammar.parts (expr_part p head) j (listed_parts r tail)) k))
  atom_part {ts = ts} (grammar.list {us = us} i r j) h =
      let (q, qs, converts, same) = grouped _ _ h in
      subst (λ (z : Target). grammar.Part z (line_at ts) ts (skip us)) same (grammar.part_group (grammar.group_list i (listed_parts r converts) j))
  atom_part (grammar.list_of i p c cs j) h = absurd cc
  atom_part (grammar.dict i p j) h = absurd cc
  atom_part (grammar.dict_of i p j q c cs k) h = absurd cc

  pub listed_parts : {es : Exprs} {ps : Targets} {ts us : Tokens} → grammar.Listed es ts us → as_targets es ≡ Some ps → grammar.Targeted ps ts us
  listed_parts {ts = ts} grammar.nothing h = subst (λ (z : Targets). grammar.Targeted z ts ts) (some_is h) grammar.no_part
  listed_parts {ts = ts} {us = us} (grammar.last {e = e} p) h =
      let (q, qs, head, tail, all) = more_is (as_target e) (Some tree.no_targets) _ h in
      subst (λ (z : Targets). grammar.Targeted z ts us) (ap (tree.target q) (some_is tail) ∙ all) (grammar.last_part (expr_part p head))
  listed_parts {ts = ts} {us = vs} (grammar.more {e = e} {es = es} p i r) h =
      let (q, qs, head, tail, all) = more_is (as_target e) (as_targets es) _ h in
      subst (λ (z : Targets). grammar.Targeted z ts vs) all (grammar.more_parts (expr_part p head) i (listed_parts r tail))

  pub primary_target : {e : Expr} {p : Target} {ts us : Tokens} → grammar.Primary e ts us → as_target e ≡ Some p → grammar.Part p (line_of e) ts us
  primary_target (grammar.bare p) h = atom_part p h
  primary_target (grammar.trailed a q r) h = primary_part a q r h

  power_part : {e : Expr} {p : Target} {ts us : Tokens} → grammar.Power e ts us → as_target e ≡ Some p → grammar.Part p (line_of e) ts us
  power_part (grammar.base p) h = primary_target p h
  power_part (grammar.raised p i q) h = absurd cc

  unary_part : {e : Expr} {p : Target} {ts us : Tokens} → grammar.Unary e ts us → as_target e ≡ Some p → grammar.Part p (line_of e) ts us
  unary_part (grammar.unsigned p) h = power_part p h
  unary_part (grammar.signed i p) h = absurd cc

  chain_part : {k : ℕ} {e : Expr} {p : Target} {ts us : Tokens} → grammar.Chain k e ts us → as_target e ≡ Some p → grammar.Part p (line_of e) ts us
  chain_part (grammar.operand p) h = unary_part p h
  chain_part (grammar.tighter p) h = chain_part p h
  chain_part (grammar.chained p i j q r) h = absurd cc

  compare_part : {e : Expr} {p : Target} {ts us : Tokens} → grammar.Compare e ts us → as_target e ≡ Some p → grammar.Part p (line_of e) ts us
  compare_part (grammar.single p) h = chain_part p h
  compare_part (grammar.compared p q r) h = absurd cc

  not_part : {e : Expr} {p : Target} {ts us : Tokens} → grammar.Not e ts us → as_target e ≡ Some p → grammar.Part p (line_of e) ts us
  not_part (grammar.asserted p) h = compare_part p h
  not_part (grammar.negated i p) h = absurd cc

  and_part : {e : Expr} {p : Target} {ts us : Tokens} → grammar.And e ts us → as_target e ≡ Some p → grammar.Part p (line_of e) ts us
  and_part (grammar.and_single p) h = not_part p h
  and_part (grammar.and_several p i q r) h = absurd cc

  or_part : {e : Expr} {p : Target} {ts us : Tokens} → grammar.Or e ts us → as_target e ≡ Some p → grammar.Part p (line_of e) ts us
  or_part (grammar.or_single p) h = and_part p h
  or_part (grammar.or_several p i q r) h = absurd cc

  pub expr_part : {e : Expr} {p : Target} {ts us : Tokens} → grammar.IsExpr e ts us → as_target e ≡ Some p → grammar.Part p (line_of e) ts us
  expr_part (grammar.a_lambda i p d j q) h = absurd cc
  expr_part (grammar.unconditional p) h = or_part p h
  expr_part (grammar.cond p i q j r) h = absurd cc

-- an expression list that converts is spelled as the target
pub exprs_target : {e : Expr} {p : Target} {ts us : Tokens} → grammar.IsExprs e ts us → as_target e ≡ Some p → grammar.IsTarget p (line_of e) ts us
exprs_target (grammar.an_expr p) h = grammar.target_part (expr_part p h)
exprs_target {ts = ts} (grammar.several {e = e} {es = es} {vs = vs} p i r) h =
    let (q, qs, converts, same) = grouped _ _ h in
    let (q', qs', head, tail, all) = more_is (as_target e) (as_targets es) (tree.target q qs) converts in
    subst (λ (z : Target). grammar.IsTarget z (line_of e) ts vs) (ap tree.group all ∙ same) (grammar.target_parts (grammar.parts (expr_part p head) i (listed_parts r tail)))

-- a place is a target
abbrev some : {A : Type 0} → A → Option A
some x = Some x

pub target_of_place : (e : Expr) (q : Place) → as_place e ≡ Some q → as_target e ≡ Some (tree.to_place q)
target_of_place (tree.node line (tree.name n)) q h = ap (λ (z : Place). some (tree.to_place z)) (some_is h)
target_of_place (tree.node line (tree.primary e xs)) q h = ap (option_map tree.to_place) h
target_of_place (tree.node line (tree.int n)) q h = absurd cc
target_of_place (tree.node line (tree.text s)) q h = absurd cc
target_of_place (tree.node line (tree.const c)) q h = absurd cc
target_of_place (tree.node line (tree.tuple es)) q h = absurd cc
target_of_place (tree.node line (tree.list es)) q h = absurd cc
target_of_place (tree.node line (tree.dict ps)) q h = absurd cc
target_of_place (tree.node line (tree.list_of b e cs)) q h = absurd cc
target_of_place (tree.node line (tree.dict_of b k e cs)) q h = absurd cc
target_of_place (tree.node line (tree.lambda b ps e)) q h = absurd cc
target_of_place (tree.node line (tree.cond a b c)) q h = absurd cc
target_of_place (tree.node line (tree.or es)) q h = absurd cc
target_of_place (tree.node line (tree.and es)) q h = absurd cc
target_of_place (tree.node line (tree.not e)) q h = absurd cc
target_of_place (tree.node line (tree.compare e xs)) q h = absurd cc
target_of_place (tree.node line (tree.chain e os)) q h = absurd cc
target_of_place (tree.node line (tree.unary o e)) q h = absurd cc
target_of_place (tree.node line (tree.power e f)) q h = absurd cc
