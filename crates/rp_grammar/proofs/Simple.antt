-- A simple statement that is read is spelled so.
use Rattle.std.proofs.Common.{◌≡◌, ℕ, zero, suc, true, List, [], ◌∷◌, Option, Some, None, refl, sym, ap, subst, ◌∙◌, ◌⊎◌, inl, inr}
use Rattle.std.specs.List.{list_all}
use Rattle.rp_base.specs.declared.operator.BinOp.{BinOp}
use Rattle.rp_base.specs.declared.value.Line.{Line}
use Rattle.rp_base.specs.declared.value.Name.{Name}
use Rattle.rp_token.specs.declared.token.TokenKind.{TokenKind}
use Rattle.rp_token.specs.declared.token.TokenKind.TheVariants as kind
use Rattle.rp_tree.specs.Expressions as tree
use Rattle.rp_tree.specs.Expressions.{Named, Expr, Place, Target, Targets}
use Rattle.rp_tree.specs.Statements as stmt_tree
use Rattle.rp_tree.specs.Statements.{Stmt}
use Rattle.rp_grammar.specs.Kinds.{Tokens, first, line_at, skip, augmented_of}
use Rattle.rp_grammar.specs.Expressions as grammar
use Rattle.rp_grammar.specs.Expressions.{line_of, place_line, named}
use Rattle.rp_grammar.specs.Conversion.{as_place, as_target}
use Rattle.rp_grammar.specs.Front.{is_comma, is_equal, starts}
use Rattle.rp_grammar.specs.ExpressionReading as reading
use Rattle.rp_grammar.specs.ExpressionReading.{Read, Readers, ◌>>=◌}
use Rattle.rp_grammar.proofs.ExpressionMarks.{comma_is, equal_is}
use Rattle.rp_grammar.proofs.Basics.{bind_some, some_is, chosen, tested, got, many_sound, listed_sound}
use Rattle.rp_grammar.proofs.Targets.{exprs_target, primary_target, target_of_place}
use Rattle.rp_grammar.proofs.ExpressionSound.{Sound, AreSound, primary_sound, expr_sound, expr_list_sound}
use Rattle.rp_grammar.specs.Statements as stmt_grammar
use Rattle.rp_grammar.specs.Statements.{Context, is_in_function, is_free}
use Rattle.rp_grammar.specs.StatementReading as stmt_reading

-- ---- places and their lines

no_place_group : {q : Target} {line : Line} {ts us : Tokens} → grammar.IsGroup q line ts us → (x : Place) → q ≡ tree.to_place x → ⊥
no_place_group (grammar.group_parts h q j) x e = cc
no_place_group (grammar.group_list h q j) x e = cc
no_place_group (grammar.group_paren h q j) x e = no_place_group q x e

-- a place, and the line at which it begins
abbrev PlaceAt : Place → Line → Tokens → Tokens → Type 0
PlaceAt x line ts us = grammar.IsPlace x ts us × (place_line x ≡ line)

place_at : {q : Target} {line : Line} {ts us : Tokens} → grammar.IsTarget q line ts us → (x : Place) → q ≡ tree.to_place x → PlaceAt x line ts us
place_at {ts = ts} {us = us} (grammar.target_part (grammar.part_place {p = y} q)) x e = let same : y ≡ x = cc in subst (λ (z : Place). PlaceAt z (place_line y) ts us) same (q, refl)
place_at (grammar.target_part (grammar.part_group q)) x e = absurd (no_place_group q x e)
place_at (grammar.target_parts q) x e = absurd cc

-- an expression list that converts to a place is spelled as it, on the same line
pub exprs_place : {e : Expr} {x : Place} {ts us : Tokens} → grammar.IsExprs e ts us → as_place e ≡ Some x → grammar.IsPlace x ts us × (place_line x ≡ line_of e)
exprs_place {e} {x} q h = place_at (exprs_target q (target_of_place e x h)) x refl

pub primary_place : {e : Expr} {x : Place} {ts us : Tokens} → grammar.Primary e ts us → as_place e ≡ Some x → grammar.IsPlace x ts us × (place_line x ≡ line_of e)
primary_place {e} {x} q h = place_at (grammar.target_part (primary_target q (target_of_place e x h))) x refl

-- one that converts to a place or to a group
pub exprs_to_place : {e : Expr} {x : Place} {ts us : Tokens} → grammar.IsExprs e ts us → as_target e ≡ Some (tree.to_place x) → grammar.IsPlace x ts us × (place_line x ≡ line_of e)
exprs_to_place {x = x} q h = place_at (exprs_target q h) x refl

unpacked : {q : Target} {line : Line} {ts us : Tokens} → grammar.IsTarget q line ts us → (qs : Targets) → q ≡ tree.group qs → stmt_grammar.IsUnpacked q line ts us
unpacked (grammar.target_part (grammar.part_place q)) qs e = absurd cc
unpacked (grammar.target_part (grammar.part_group q)) qs e = stmt_grammar.a_group q
unpacked (grammar.target_parts q) qs e = stmt_grammar.some_parts q

pub exprs_to_group : {e : Expr} {qs : Targets} {ts us : Tokens} → grammar.IsExprs e ts us → as_target e ≡ Some (tree.group qs) → stmt_grammar.IsUnpacked (tree.group qs) (line_of e) ts us
exprs_to_group {qs = qs} q h = unpacked (exprs_target q h) qs refl

-- ---- names

abbrev NameAt : Named → Tokens → Tokens → Type 0
NameAt x ts us = (n : Name) × (first ts ≡ kind.Name n) × (named n ts ≡ x) × (skip ts ≡ us)

name_by_sound : (k : TokenKind) (ts : Tokens) (x : Named × Tokens) → first ts ≡ k → reading.name_by k ts ≡ Some x → NameAt x.0 ts x.1
name_by_sound (kind.Name n) ts x is h = let same : ◌≡◌ {A = Named × Tokens} (named n ts, skip ts) x = some_is h in (n, is, ap (λ (z : Named × Tokens). z.0) same, ap (λ (z : Named × Tokens). z.1) same)
name_by_sound _ ts x is h = absurd cc

pub name_sound : (ts : Tokens) (x : Named × Tokens) → reading.name_by (first ts) ts ≡ Some x → (n : Name) × (first ts ≡ kind.Name n) × (named n ts ≡ x.0) × (skip ts ≡ x.1)
name_sound ts x h = name_by_sound (first ts) ts x refl h

-- names, each behind a comma
abbrev NamesBehind : List Named → Tokens → Tokens → Type 0
NamesBehind ns ts us = ((ns ≡ []) × (ts ≡ us)) ⊎ ((first ts ≡ kind.Comma) × stmt_grammar.IsNames ns (skip ts) us)

with_names : (x : Named) (ns : List Named) (ts us vs : Tokens) → NameAt x ts us → NamesBehind ns us vs → stmt_grammar.IsNames (x ∷ ns) ts vs
with_names x ns ts us vs (n, is, name, rest) (inl (none, here)) =
    subst (λ (z : Named). stmt_grammar.IsNames (z ∷ ns) ts vs) name
    (subst (λ (z : List Named). stmt_grammar.IsNames (named n ts ∷ z) ts vs) (sym none) (subst (λ (z : Tokens). stmt_grammar.IsNames (named n ts ∷ []) ts z) (rest ∙ here) (stmt_grammar.last_name is)))
with_names x ns ts us vs (n, is, name, rest) (inr (comma, more)) =
    subst (λ (z : Named). stmt_grammar.IsNames (z ∷ ns) ts vs) name (stmt_grammar.more_names is (ap first rest ∙ comma) (subst (λ (z : Tokens). stmt_grammar.IsNames ns (skip z) vs) (sym rest) more))

abbrev BehindComma : Named → Tokens → Tokens → Type 0
BehindComma x ts us = (first ts ≡ kind.Comma) × NameAt x (skip ts) us

pub names_sound : Sound stmt_grammar.IsNames stmt_reading.names
unfolding stmt_reading.names
names_sound ts x h =
    let (n, found, more) = bind_some _ _ _ h in
    let (ns, others, all) = bind_some _ _ _ more in
    let behind = many_sound [] (λ n ns. n ∷ ns) (reading.at is_comma) (λ us. reading.name_by (first (skip us)) (skip us)) BehindComma NamesBehind (λ ts. inl (refl, refl))
    (λ y ys us vs ws a b. inr (a.0, with_names y ys (skip us) vs ws a.1 b)) (λ us y begun found. (comma_is _ begun, name_sound (skip us) y found)) _ n.1 ns others in
    got stmt_grammar.IsNames ts all (with_names n.0 ns.0 ts n.1 ns.1 (name_sound ts n found) behind)

-- an expression, or nothing
abbrev MaybeOf : (Expr → Tokens → Tokens → Type 0) → Option Expr → Tokens → Tokens → Type 0
MaybeOf P None ts us = ts ≡ us
MaybeOf P (Some e) ts us = P e ts us

returns : (c : Context) (e : Option Expr) (ts us : Tokens) → is_in_function c ≡ true → first ts ≡ kind.Return → MaybeOf grammar.IsExprs e (skip ts) us → stmt_grammar.IsSimple c (stmt_tree.a_stmt (line_at ts) (stmt_tree.give_back e)) ts us
returns c None ts us inside is here = subst (λ (z : Tokens). stmt_grammar.IsSimple c (stmt_tree.a_stmt (line_at ts) (stmt_tree.give_back None)) ts z) here (stmt_grammar.is_return inside is)
returns c (Some e) ts us inside is q = stmt_grammar.returns_value inside is q

raised_sound : (c : Context) (e : Option Expr) (ts us : Tokens) (x : Stmt × Tokens) → first ts ≡ kind.Raise → MaybeOf grammar.IsExpr e (skip ts) us → stmt_reading.raised c (line_at ts) (e, us) ≡ Some x → stmt_grammar.IsSimple c x.0 ts x.1
raised_sound c (Some e) ts us x is q h = got (stmt_grammar.IsSimple c) ts h (stmt_grammar.is_raise is q)
raised_sound c None ts us x is here h =
    let (handles, all) = tested c.handler _ _ h in
    got (stmt_grammar.IsSimple c) ts all (subst (λ (z : Tokens). stmt_grammar.IsSimple c (stmt_tree.a_stmt (line_at ts) (stmt_tree.raise None)) ts z) here (stmt_grammar.raises_again handles is))

pub global_sound : (c : Context) (ts : Tokens) (x : Stmt × Tokens) → first ts ≡ kind.Global → stmt_reading.global c (line_at ts) (skip ts) ≡ Some x → stmt_grammar.IsSimple c x.0 ts x.1
unfolding stmt_reading.global
global_sound c ts x is h =
    elim (chosen c.class _ _ _ h) [
      | inl (within, h) ↦ absurd cc
      | inr (outside, h) ↦
          let (ns, found, more) = bind_some _ _ _ h in
          let (free, all) = tested (list_all (is_free c.function) ns.0) _ _ more in
          got (stmt_grammar.IsSimple c) ts all (stmt_grammar.is_global outside free is (names_sound (skip ts) ns found))
    ]

-- places behind a comma, none or several
abbrev PlacesBehind : List Place → Tokens → Tokens → Type 0
PlacesBehind qs ts us = ((qs ≡ []) × (ts ≡ us)) ⊎ stmt_grammar.IsPlaces qs ts us

with_places : (x : Place) (qs : List Place) (ts us vs : Tokens) → grammar.IsPlace x ts us → first us ≡ kind.Comma → PlacesBehind qs (skip us) vs → stmt_grammar.IsPlaces (x ∷ qs) ts vs
with_places x qs ts us vs q comma (inl (none, here)) =
    subst (λ (z : List Place). stmt_grammar.IsPlaces (x ∷ z) ts vs) (sym none) (subst (λ (z : Tokens). stmt_grammar.IsPlaces (x ∷ []) ts z) here (stmt_grammar.last_comma q comma))
with_places x qs ts us vs q comma (inr more) = stmt_grammar.more_places q comma more

-- what stands behind `=`: further places, each with `=` behind it, and the value
record Assigned (qs : List Place) (e : Expr) (ts us : Tokens) : Type 0 where
  middle : Tokens
  places : ((qs ≡ []) × (ts ≡ middle)) ⊎ stmt_grammar.Assigned qs ts middle
  value : grammar.IsExprs e middle us

with_assigned : (x : Place) (qs : List Place) (ts us vs : Tokens) → grammar.IsPlace x ts us → first us ≡ kind.Equal → ((qs ≡ []) × (skip us ≡ vs)) ⊎ stmt_grammar.Assigned qs (skip us) vs → stmt_grammar.Assigned (x ∷ qs) ts vs
with_assigned x qs ts us vs q equal (inl (none, here)) =
    subst (λ (z : List Place). stmt_grammar.Assigned (x ∷ z) ts vs) (sym none) (subst (λ (z : Tokens). stmt_grammar.Assigned (x ∷ []) ts z) here (stmt_grammar.last_assigned q equal))
with_assigned x qs ts us vs q equal (inr more) = stmt_grammar.more_assigned q equal more

module _ (rs : Readers) (inner : AreSound rs) where
  pub place_sound : Sound grammar.IsPlace (stmt_reading.place rs)
  unfolding stmt_reading.place
  place_sound ts x h =
      let (e, found, more) = bind_some _ _ _ h in
      let (q, converts, all) = bind_some _ _ _ more in
      got grammar.IsPlace ts all (primary_place (primary_sound rs inner ts e found) converts).0

  alike_sound : (u : Unit {0}) (ts : Tokens) (x : (Place × Unit {0}) × Tokens) → reading.alike (stmt_reading.place rs) u ts ≡ Some x → grammar.IsPlace x.0.0 ts x.1
  alike_sound u ts x h =
      let (y, found, all) = bind_some _ _ _ h in
      got (λ (z : Place × Unit {0}) ts us. grammar.IsPlace z.0 ts us) ts all (place_sound ts y found)

  pub places_sound : Sound stmt_grammar.IsPlaces (stmt_reading.places rs)
  unfolding stmt_reading.places
  places_sound ts x h =
      let (q, found, more) = bind_some _ _ _ h in
      let front = place_sound ts q found in
      elim (chosen (is_comma (first q.1)) _ _ _ more) [
        | inl (comma, h) ↦
            let (qs, others, all) = bind_some _ _ _ h in
            let behind = listed_sound [] [] (λ q qs. q ∷ qs) starts (reading.alike (stmt_reading.place rs)) (λ (u : Unit {0}) (x : Place × Unit {0}) ts us. grammar.IsPlace x.0 ts us) (λ (u : Unit {0}) xs ts us. PlacesBehind xs ts us)
            (λ u ts. inl (refl, refl)) (λ u x ts us q. inr (stmt_grammar.last_place q)) (λ u x xs ts us vs q comma b. inr (with_places x.0 xs ts us vs q comma b)) alike_sound _ tt (skip q.1) qs others in
            got stmt_grammar.IsPlaces ts all (with_places q.0 qs.0 ts q.1 qs.1 front (comma_is _ comma) behind)
        | inr (over, h) ↦ got stmt_grammar.IsPlaces ts h (stmt_grammar.last_place front)
      ]

  maybe_exprs_sound : (ts : Tokens) (x : Option Expr × Tokens) → stmt_reading.maybe_exprs rs ts ≡ Some x → MaybeOf grammar.IsExprs x.0 ts x.1
  unfolding stmt_reading.maybe_exprs
  maybe_exprs_sound ts x h =
      elim (chosen (starts (first ts)) _ _ _ h) [
        | inl (begun, h) ↦ let (e, found, all) = bind_some _ _ _ h in got (MaybeOf grammar.IsExprs) ts all (expr_list_sound rs inner ts e found)
        | inr (none, h) ↦ got (MaybeOf grammar.IsExprs) ts h refl
      ]

  maybe_expr_sound : (ts : Tokens) (x : Option Expr × Tokens) → stmt_reading.maybe_expr rs ts ≡ Some x → MaybeOf grammar.IsExpr x.0 ts x.1
  unfolding stmt_reading.maybe_expr
  maybe_expr_sound ts x h =
      elim (chosen (starts (first ts)) _ _ _ h) [
        | inl (begun, h) ↦ let (e, found, all) = bind_some _ _ _ h in got (MaybeOf grammar.IsExpr) ts all (expr_sound rs inner ts e found)
        | inr (none, h) ↦ got (MaybeOf grammar.IsExpr) ts h refl
      ]

  pub return_sound : (c : Context) (ts : Tokens) (x : Stmt × Tokens) → first ts ≡ kind.Return → stmt_reading.return rs c (line_at ts) (skip ts) ≡ Some x → stmt_grammar.IsSimple c x.0 ts x.1
  unfolding stmt_reading.return
  return_sound c ts x is h =
      let (inside, more) = tested (is_in_function c) _ _ h in
      let (e, found, all) = bind_some _ _ _ more in
      got (stmt_grammar.IsSimple c) ts all (returns c e.0 ts e.1 inside is (maybe_exprs_sound (skip ts) e found))

  pub raise_sound : (c : Context) (ts : Tokens) (x : Stmt × Tokens) → first ts ≡ kind.Raise → stmt_reading.raise rs c (line_at ts) (skip ts) ≡ Some x → stmt_grammar.IsSimple c x.0 ts x.1
  unfolding stmt_reading.raise
  raise_sound c ts x is h =
      let (e, found, more) = bind_some _ _ _ h in
      raised_sound c e.0 ts e.1 x is (maybe_expr_sound (skip ts) e found) more

  pub assert_sound : (c : Context) (ts : Tokens) (x : Stmt × Tokens) → first ts ≡ kind.Assert → stmt_reading.assert rs (line_at ts) (skip ts) ≡ Some x → stmt_grammar.IsSimple c x.0 ts x.1
  unfolding stmt_reading.assert
  assert_sound c ts x is h =
      let (e, found, more) = bind_some _ _ _ h in
      let front = expr_sound rs inner (skip ts) e found in
      elim (chosen (is_comma (first e.1)) _ _ _ more) [
        | inl (comma, h) ↦
            let (f, found, all) = bind_some _ _ _ h in
            got (stmt_grammar.IsSimple c) ts all (stmt_grammar.asserts_with_text is front (comma_is _ comma) (expr_sound rs inner (skip e.1) f found))
        | inr (over, h) ↦ got (stmt_grammar.IsSimple c) ts h (stmt_grammar.is_assert is front)
      ]

  pub del_sound : (c : Context) (ts : Tokens) (x : Stmt × Tokens) → first ts ≡ kind.Del → stmt_reading.simple_by kind.Del rs c ts ≡ Some x → stmt_grammar.IsSimple c x.0 ts x.1
  del_sound c ts x is h =
      let (qs, found, all) = bind_some _ _ _ h in
      got (stmt_grammar.IsSimple c) ts all (stmt_grammar.is_del is (places_sound (skip ts) qs found))

  assigned_sound : (n : ℕ) (ts : Tokens) (x : (List Place × Expr) × Tokens) → stmt_reading.assigned_by n rs ts ≡ Some x → Assigned x.0.0 x.0.1 ts x.1
  unfolding stmt_reading.assigned_by
  assigned_sound zero ts x h = absurd cc
  assigned_sound (suc n) ts x h =
      let (e, found, more) = bind_some _ _ _ h in
      let front = expr_list_sound rs inner ts e found in
      elim (chosen (is_equal (first e.1)) _ _ _ more) [
        | inl (comes, h) ↦
            let (q, converts, more) = bind_some _ _ _ h in
            let (y, found, all) = bind_some _ _ _ more in
            let behind = assigned_sound n (skip e.1) y found in
            got (λ (z : List Place × Expr) ts us. Assigned z.0 z.1 ts us) ts all
            (record { middle = behind.middle; places = inr (with_assigned q y.0.0 ts e.1 behind.middle (exprs_place front converts).0 (equal_is _ comes) behind.places); value = behind.value })
        | inr (over, h) ↦ got (λ (z : List Place × Expr) ts us. Assigned z.0 z.1 ts us) ts h (record { middle = ts; places = inl (refl, refl); value = front })
      ]

  assignment_to_sound : (c : Context) (e : Expr) (q : Target) (ts us : Tokens) (x : Stmt × Tokens) → grammar.IsExprs e ts us → first us ≡ kind.Equal → as_target e ≡ Some q
      → stmt_reading.assignment_to rs (line_of e) q (skip us) ≡ Some x → stmt_grammar.IsSimple c x.0 ts x.1
  assignment_to_sound c e (tree.to_place q) ts us x front equal converts h =
      let (y, found, all) = bind_some _ _ _ h in
      let behind = assigned_sound _ (skip us) y found in
      let (spelled, line) = exprs_to_place front converts in
      let places = with_assigned q y.0.0 ts us behind.middle spelled equal behind.places in
      got (stmt_grammar.IsSimple c) ts all (subst (λ (z : Line). stmt_grammar.IsSimple c (stmt_tree.a_stmt z (stmt_tree.assign (q ∷ y.0.0) y.0.1)) ts y.1) line (stmt_grammar.is_assignment places behind.value))
  assignment_to_sound c e (tree.group qs) ts us x front equal converts h =
      let (f, found, all) = bind_some _ _ _ h in
      got (stmt_grammar.IsSimple c) ts all (stmt_grammar.is_unpacking (exprs_to_group front converts) equal (expr_list_sound rs inner (skip us) f found))

  pub assignment_sound : (c : Context) (e : Expr) (ts us : Tokens) (x : Stmt × Tokens) → grammar.IsExprs e ts us → first us ≡ kind.Equal → stmt_reading.assignment rs e (skip us) ≡ Some x → stmt_grammar.IsSimple c x.0 ts x.1
  unfolding stmt_reading.assignment
  assignment_sound c e ts us x front equal h =
      let (q, converts, more) = bind_some _ _ _ h in
      assignment_to_sound c e q ts us x front equal converts more

  pub augmented_sound : (c : Context) (o : BinOp) (e : Expr) (ts us : Tokens) (x : Stmt × Tokens) → grammar.IsExprs e ts us → augmented_of (first us) ≡ Some o → stmt_reading.augmented rs o e us ≡ Some x → stmt_grammar.IsSimple c x.0 ts x.1
  unfolding stmt_reading.augmented
  augmented_sound c o e ts us x front mark h =
      let (q, converts, more) = bind_some _ _ _ h in
      let (f, found, all) = bind_some _ _ _ more in
      let (spelled, line) = exprs_place front converts in
      got (stmt_grammar.IsSimple c) ts all (subst (λ (z : Line). stmt_grammar.IsSimple c (stmt_tree.a_stmt z (stmt_tree.aug q o (line_at us) f.0 None)) ts f.1) line (stmt_grammar.is_augmented spelled mark (expr_list_sound rs inner (skip us) f found)))

  behind_exprs_sound : (c : Context) (k : TokenKind) (o : Option BinOp) (e : Expr) (ts us : Tokens) (x : Stmt × Tokens) → grammar.IsExprs e ts us → first us ≡ k → augmented_of (first us) ≡ o → stmt_reading.behind_exprs k o rs e us ≡ Some x
      → stmt_grammar.IsSimple c x.0 ts x.1
  behind_exprs_sound c k (Some o) e ts us x front is mark h = augmented_sound c o e ts us x front mark h
  behind_exprs_sound c kind.Equal None e ts us x front is mark h = assignment_sound c e ts us x front is h
  behind_exprs_sound c _ None e ts us x front is mark h = got (stmt_grammar.IsSimple c) ts h (stmt_grammar.is_value front)

  pub expression_statement_sound : (c : Context) (ts : Tokens) (x : Stmt × Tokens) → stmt_reading.expression_statement rs ts ≡ Some x → stmt_grammar.IsSimple c x.0 ts x.1
  unfolding stmt_reading.expression_statement
  expression_statement_sound c ts x h =
      let (e, found, more) = bind_some _ _ _ h in
      behind_exprs_sound c (first e.1) (augmented_of (first e.1)) e.0 ts e.1 x (expr_list_sound rs inner ts e found) refl refl more

  simple_by_sound : (c : Context) (k : TokenKind) (ts : Tokens) (x : Stmt × Tokens) → first ts ≡ k → stmt_reading.simple_by k rs c ts ≡ Some x → stmt_grammar.IsSimple c x.0 ts x.1
  simple_by_sound c kind.Pass ts x is h = got (stmt_grammar.IsSimple c) ts h (stmt_grammar.is_pass is)
  simple_by_sound c kind.Break ts x is h = let (inside, all) = tested c.loop _ _ h in got (stmt_grammar.IsSimple c) ts all (stmt_grammar.is_break inside is)
  simple_by_sound c kind.Continue ts x is h = let (inside, all) = tested c.loop _ _ h in got (stmt_grammar.IsSimple c) ts all (stmt_grammar.is_continue inside is)
  simple_by_sound c kind.Return ts x is h = return_sound c ts x is h
  simple_by_sound c kind.Raise ts x is h = raise_sound c ts x is h
  simple_by_sound c kind.Assert ts x is h = assert_sound c ts x is h
  simple_by_sound c kind.Global ts x is h = global_sound c ts x is h
  simple_by_sound c kind.Del ts x is h = del_sound c ts x is h
  simple_by_sound c _ ts x is h = expression_statement_sound c ts x h

  pub simple_sound : (c : Context) (ts : Tokens) (x : Stmt × Tokens) → stmt_reading.simple rs c ts ≡ Some x → stmt_grammar.IsSimple c x.0 ts x.1
  unfolding stmt_reading.simple
  simple_sound c ts x h = simple_by_sound c (first ts) ts x refl h
