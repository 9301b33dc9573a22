-- What is spelled so is read.
use Rattle.std.proofs.Common.{◌≡◌, ℕ, zero, suc, ◌+◌, ◌<◌, ◌≤◌, ◌==◌, max, Bool, true, false, cond, List, [], ◌++◌, append-nil, length, Option, Some, None, refl, sym, ap, subst, ◌∙◌, arith}
use Rattle.rp_base.specs.declared.operator.BinOp.{BinOp}
use Rattle.rp_base.specs.declared.operator.CmpOp.{CmpOp}
use Rattle.rp_base.specs.declared.value.Line.{Line}
use Rattle.rp_base.specs.declared.value.Name.{Name}
use Rattle.rp_token.specs.declared.token.TokenKind.{TokenKind}
use Rattle.rp_token.specs.declared.token.TokenKind.TheVariants as kind
use Rattle.rp_tree.specs.declared.parts.Test.{Test}
use Rattle.rp_tree.specs.declared.parts.Test.TheVariants.{Order, Within, NotWithin}
use Rattle.rp_tree.specs.Expressions as tree
use Rattle.rp_tree.specs.Expressions.{Named, Expr, Exprs, Maybe, Pairs, Tests, Ops, Clause, Clauses, Place, Target, Targets, Params, Plain, Trailer, Trailers, Arg, Args}
use Rattle.rp_grammar.specs.Kinds.{Tokens, first, line_at, skip, binary_of, looseness, loosest, order_of}
use Rattle.rp_grammar.specs.Expressions as grammar
use Rattle.rp_grammar.specs.Expressions.{line_of, place_line, named, Stage, any, stars, star, closed, place_of}
use Rattle.rp_grammar.specs.Conversion.{with_trailers, before_last, last_of, trailed_place, as_place, group_of, one_more, as_target, as_targets}
use Rattle.rp_grammar.specs.Front as token_tests
use Rattle.rp_grammar.specs.Front.{is_comma, is_equal, is_name, is_star, is_double_star, starts, starts_arg}
use Rattle.rp_grammar.specs.ExpressionReading as reading
use Rattle.rp_grammar.specs.ExpressionReading.{Read, Readers, ◌>>=◌, many, listed, before}
use Rattle.rp_grammar.proofs.Follow.{binds, at, binary_binds, order_binds, no_text, no_trailer, no_power, no_test, no_and, no_or, no_if, no_for, no_comma, starts_none, primary_begins, power_begins, compare_begins, or_begins, expr_starts, expr_begins}
use Rattle.rp_grammar.proofs.Nest.{nest_atom, nest_listed, nest_paired, nest_clause, nest_clauses, nest_ifs, nest_place, nest_group, nest_part, nest_targeted, nest_parts, nest_target, nest_maybe, nest_trailer, nest_arg, nest_args, nest_params, nest_trail, nest_primary, nest_power, nest_unary, nest_chain, nest_chained, nest_compare, nest_tested, nest_compared, nest_not, nest_and, nest_ands, nest_or, nest_ors, nest_expr, nest_exprs}
use Rattle.rp_grammar.proofs.ExpressionMarks.{equal_is}
use Rattle.rp_grammar.proofs.Basics.{alike_reads, bind_some, some_is}
use Rattle.rp_grammar.proofs.Targets.{target_of_place}
use Rattle.rp_grammar.proofs.ExpressionTakes.{skip_within, takes, clause_takes, part_takes, trailer_takes, arg_takes, chain_takes, tested_takes, not_takes, and_takes, or_takes, expr_takes}

pub record AreComplete (d : ℕ) (rs : Readers) : Type 0 where
  pub expr : {e : Expr} {ts us : Tokens} (p : grammar.IsExpr e ts us) → nest_expr p < d → 12 < binds (first us) → rs.expr ts ≡ Some (e, us)
  pub or : {e : Expr} {ts us : Tokens} (p : grammar.Or e ts us) → nest_or p < d → 11 < binds (first us) → rs.or ts ≡ Some (e, us)
  pub not : {e : Expr} {ts us : Tokens} (p : grammar.Not e ts us) → nest_not p < d → 9 < binds (first us) → rs.not ts ≡ Some (e, us)
  pub unary : {e : Expr} {ts us : Tokens} (p : grammar.Unary e ts us) → nest_unary p < d → 2 < binds (first us) → rs.unary ts ≡ Some (e, us)
  pub primary : {e : Expr} {ts us : Tokens} (p : grammar.Primary e ts us) → nest_primary p < d → 1 < binds (first us) → rs.primary ts ≡ Some (e, us)

abbrev some : {A : Type 0} → A → Option A
some x = Some x

-- ---- loops

many_ends : {A L : Type 0} (nil : L) (cons : A → L → L) (begins : Tokens → Bool) (read : Tokens → Read A) (n : ℕ) (ts : Tokens) → begins ts ≡ false → length ts < n → many nil cons begins read n ts ≡ Some (nil, ts)
unfolding many
many_ends nil cons begins read zero ts over lt = absurd (omega arith)
many_ends nil cons begins read (suc n) ts over lt = rw over refl

many_goes : {A L : Type 0} (nil : L) (cons : A → L → L) (begins : Tokens → Bool) (read : Tokens → Read A) (n : ℕ) (ts us vs : Tokens) (x : A) (xs : L) → begins ts ≡ true → read ts ≡ Some (x, us) → length ts < n
    → length us < length ts → ((m : ℕ) → length us < m → many nil cons begins read m us ≡ Some (xs, vs)) → many nil cons begins read n ts ≡ Some (cons x xs, vs)
unfolding many
many_goes nil cons begins read zero ts us vs x xs begun is lt less more = absurd (omega arith)
many_goes nil cons begins read (suc n) ts us vs x xs begun is lt less more = rw (begun, is, more n (omega arith)) refl

listed_ends : {S A L : Type 0} (open_end shut_end : L) (cons : A → L → L) (begins : TokenKind → Bool) (read : S → Tokens → Read (A × S)) (n : ℕ) (s : S) (ts : Tokens) → begins (first ts) ≡ false → length ts < n
    → listed open_end shut_end cons begins read n s ts ≡ Some (open_end, ts)
unfolding listed
listed_ends open_end shut_end cons begins read zero s ts over lt = absurd (omega arith)
listed_ends open_end shut_end cons begins read (suc n) s ts over lt = rw over refl

listed_shuts : {S A L : Type 0} (open_end shut_end : L) (cons : A → L → L) (begins : TokenKind → Bool) (read : S → Tokens → Read (A × S)) (n : ℕ) (s s' : S) (ts us : Tokens) (x : A) → begins (first ts) ≡ true → read s ts ≡ Some ((x, s'), us)
    → is_comma (first us) ≡ false → length ts < n → listed open_end shut_end cons begins read n s ts ≡ Some (cons x shut_end, us)
unfolding listed
listed_shuts open_end shut_end cons begins read zero s s' ts us x begun is over lt = absurd (omega arith)
listed_shuts open_end shut_end cons begins read (suc n) s s' ts us x begun is over lt = rw (begun, is, over) refl

listed_goes : {S A L : Type 0} (open_end shut_end : L) (cons : A → L → L) (begins : TokenKind → Bool) (read : S → Tokens → Read (A × S)) (n : ℕ) (s s' : S) (ts us vs : Tokens) (x : A) (xs : L) → begins (first ts) ≡ true → read s ts ≡ Some ((x, s'), us)
    → first us ≡ kind.Comma → length ts < n → length us < length ts → ((m : ℕ) → length (skip us) < m → listed open_end shut_end cons begins read m s' (skip us) ≡ Some (xs, vs))
    → listed open_end shut_end cons begins read n s ts ≡ Some (cons x xs, vs)
unfolding listed
listed_goes open_end shut_end cons begins read zero s s' ts us vs x xs begun is comma lt less more = absurd (omega arith)
listed_goes open_end shut_end cons begins read (suc n) s s' ts us vs x xs begun is comma lt less more = let c : is_comma (first us) ≡ true = ap is_comma comma in rw (begun, is, c, more n (omega (arith, skip_within us))) refl

-- ---- texts

texts_many : {s : List ℕ} {ts us : Tokens} → grammar.Texts s ts us → 0 < binds (first us) → (n : ℕ) → length ts < n → many [] (λ x xs. x ++ xs) (reading.at token_tests.is_text) (λ us. reading.text_by (first us) (skip us)) n ts ≡ Some (s, us)
texts_many {ts = ts} (grammar.one_text {s = s} h) ends n lt =
    many_goes [] (λ x xs. x ++ xs) (reading.at token_tests.is_text) (λ us. reading.text_by (first us) (skip us)) n ts (skip ts) (skip ts) s [] (ap token_tests.is_text h) (ap (λ k. reading.text_by k (skip ts)) h) lt (takes ts _ h (λ e. cc))
    (λ m lt. many_ends [] (λ x xs. x ++ xs) (reading.at token_tests.is_text) (λ us. reading.text_by (first us) (skip us)) m (skip ts) (no_text (first (skip ts)) ends) lt) ∙ ap (λ (z : List ℕ). some (z, skip ts)) (append-nil s)
texts_many {ts = ts} {us = us} (grammar.more_texts {s = s} {cs = cs} h p) ends n lt =
    many_goes [] (λ x xs. x ++ xs) (reading.at token_tests.is_text) (λ us. reading.text_by (first us) (skip us)) n ts (skip ts) us s cs (ap token_tests.is_text h) (ap (λ k. reading.text_by k (skip ts)) h) lt (takes ts _ h (λ e. cc)) (λ m lt. texts_many p ends m lt)

texts_complete : {s : List ℕ} {ts us : Tokens} → grammar.Texts s ts us → 0 < binds (first us) → (x : List ℕ) × (first ts ≡ kind.Text x) × (reading.texts x (skip ts) ≡ Some (s, us))
unfolding reading.texts
texts_complete {ts = ts} (grammar.one_text {s = s} h) ends =
    (s, h, ap (before (λ xs. s ++ xs)) (many_ends [] (λ x xs. x ++ xs) (reading.at token_tests.is_text) (λ us. reading.text_by (first us) (skip us)) (suc (length (skip ts))) (skip ts) (no_text (first (skip ts)) ends) (omega arith)) ∙ ap (λ (z : List ℕ). some (z, skip ts)) (append-nil s))
texts_complete {ts = ts} (grammar.more_texts {s = s} h p) ends = (s, h, ap (before (λ xs. s ++ xs)) (texts_many p ends (suc (length (skip ts))) (omega arith)))

-- ---- targets are read as primaries

abbrev expr_of : {e : Expr} {ts us : Tokens} → grammar.Primary e ts us → grammar.IsExpr e ts us
expr_of p = grammar.unconditional (grammar.or_single (grammar.and_single (grammar.asserted (grammar.single (grammar.tighter (grammar.tighter (grammar.tighter (grammar.tighter (grammar.tighter (grammar.tighter (grammar.operand (grammar.unsigned (grammar.base p)))))))))))))

push : Trailers → Trailer → Trailers
push tree.no_trailers x = tree.trailer x tree.no_trailers
push (tree.trailer y ys) x = tree.trailer y (push ys x)

trail_push : {xs : Trailers} {x : Trailer} {ts us vs : Tokens} (p : grammar.Trail xs ts us) (q : grammar.IsTrailer x us vs) → (r : grammar.Trail (push xs x) ts vs) × (nest_trail r ≡ max (nest_trail p) (nest_trailer q))
unfolding push
trail_push grammar.ends q = (grammar.goes q grammar.ends, omega arith)
trail_push (grammar.goes p ps) q = let (s, same) = trail_push ps q in (grammar.goes p s, omega (arith, same))

front_push : (y : Trailer) (ys : Trailers) (x : Trailer) → before_last y (push ys x) ≡ tree.trailer y ys
unfolding push
front_push y tree.no_trailers x = refl
front_push y (tree.trailer z zs) x = ap (tree.trailer y) (front_push z zs x)

last_push : (y : Trailer) (ys : Trailers) (x : Trailer) → last_of y (push ys x) ≡ x
unfolding push
last_push y tree.no_trailers x = refl
last_push y (tree.trailer z zs) x = last_push z zs x

-- a primary that converts to a place
pub record PlaceRead (q : Place) (n : ℕ) (ts us : Tokens) : Type 0 where
  pub e : Expr
  pub spelled : grammar.Primary e ts us
  pub low : nest_primary spelled ≤ n
  pub line : line_of e ≡ place_line q
  pub converts : as_place e ≡ Some q

one_more_trailer : {e : Expr} {x : Trailer} {ts us vs : Tokens} (p : grammar.Primary e ts us) (q : grammar.IsTrailer x us vs) → (z : Expr) × (s : grammar.Primary z ts vs) × (nest_primary s ≤ max (nest_primary p) (nest_trailer q)) × (line_of z ≡ line_of e) × (as_place z ≡ trailed_place e x)
unfolding push
one_more_trailer {e} {x} (grammar.bare p) q = (tree.node (line_of e) (tree.primary e (tree.trailer x tree.no_trailers)), grammar.trailed p q grammar.ends, omega arith, refl, refl)
one_more_trailer {x = x} (grammar.trailed {e = e} {x = y} {xs = ys} p a b) q =
    let (s, same) = trail_push b q in (
      tree.node (line_of e) (tree.primary e (tree.trailer y (push ys x))),
      grammar.trailed p a s,
      omega (arith, same),
      refl,
      ap (λ (l : Trailers). trailed_place (with_trailers e l) (last_of y (push ys x))) (front_push y ys x) ∙ ap (trailed_place (with_trailers e (tree.trailer y ys))) (last_push y ys x),
    )

pub place_read : {q : Place} {ts us : Tokens} (p : grammar.IsPlace q ts us) → PlaceRead q (nest_place p) ts us
place_read {ts = ts} (grammar.place_name {n = n} i) = record { e = tree.node (line_at ts) (tree.name n); spelled = grammar.bare (grammar.name i); low = omega arith; line = refl; converts = refl }
place_read (grammar.place_attr p i j) = let (z, s, low, line, same) = one_more_trailer p (grammar.attr i j) in record { e = z; spelled = s; low = omega arith; line = line; converts = same }
place_read (grammar.place_item p i q j) = let (z, s, low, line, same) = one_more_trailer p (grammar.item i q j) in record { e = z; spelled = s; low = omega arith; line = line; converts = same }
place_read (grammar.place_paren i p j) = let c = place_read p in let l = c.low in record { e = c.e; spelled = grammar.bare (grammar.paren i (expr_of c.spelled) j); low = omega arith; line = c.line; converts = c.converts }

-- a primary that converts to a target
pub record TargetRead (q : Target) (l : Line) (n : ℕ) (ts us : Tokens) : Type 0 where
  pub e : Expr
  pub spelled : grammar.Primary e ts us
  pub low : nest_primary spelled ≤ n
  pub line : line_of e ≡ l
  pub converts : as_target e ≡ Some q

-- a list of expressions that converts to targets
pub record TargetsRead (qs : Targets) (n : ℕ) (ts us : Tokens) : Type 0 where
  pub es : Exprs
  pub spelled : grammar.Listed es ts us
  pub low : nest_listed spelled ≤ n
  pub converts : as_targets es ≡ Some qs

-- several parts, as a first expression and others
pub record PartsRead (qs : Targets) (l : Line) (n : ℕ) (ts us : Tokens) : Type 0 where
  pub e : Expr
  pub es : Exprs
  pub vs : Tokens
  pub head : grammar.Primary e ts vs
  pub comma : first vs ≡ kind.Comma
  pub tail : grammar.Listed es (skip vs) us
  pub low : max (nest_primary head) (nest_listed tail) ≤ n
  pub line : line_of e ≡ l
  pub converts : group_of (as_targets (tree.expr e es)) ≡ Some (tree.group qs)

mutual
  pub part_read : {q : Target} {l : Line} {ts us : Tokens} (p : grammar.Part q l ts us) → TargetRead q l (nest_part p) ts us
  part_read (grammar.part_place {p = q} p) = let c = place_read p in record { e = c.e; spelled = c.spelled; low = c.low; line = c.line; converts = target_of_place c.e q c.converts }
  part_read (grammar.part_group p) = group_read p

  group_read : {q : Target} {l : Line} {ts us : Tokens} (p : grammar.IsGroup q l ts us) → TargetRead q l (nest_group p) ts us
  group_read {ts = ts} (grammar.group_parts i p j) =
      let c = parts_read p in
      let l = c.low in
      record { e = tree.node (line_at ts) (tree.tuple (tree.expr c.e c.es)); spelled = grammar.bare (grammar.tuple i (expr_of c.head) c.comma c.tail j); low = omega arith; line = refl; converts = c.converts }
  group_read {ts = ts} (grammar.group_list i p j) =
      let c = targeted_read p in
      let l = c.low in
      record { e = tree.node (line_at ts) (tree.list c.es); spelled = grammar.bare (grammar.list i c.spelled j); low = omega arith; line = refl; converts = ap group_of c.converts }
  group_read (grammar.group_paren i p j) =
      let c = group_read p in
      let l = c.low in
      record { e = c.e; spelled = grammar.bare (grammar.paren i (expr_of c.spelled) j); low = omega arith; line = c.line; converts = c.converts }

  pub parts_read : {qs : Targets} {l : Line} {ts us : Tokens} (p : grammar.Parts qs l ts us) → PartsRead qs l (nest_parts p) ts us
  parts_read (grammar.parts {p = head} {us = vs} p h q) =
      let c = part_read p in
      let cs = targeted_read q in
      let l = c.low in
      let ls = cs.low in
      record {
        e = c.e;
        es = cs.es;
        vs = vs;
        head = c.spelled;
        comma = h;
        tail = cs.spelled;
        low = omega arith;
        line = c.line;
        converts = ap (λ (o : Option Target). group_of (one_more o (as_targets cs.es))) c.converts ∙ ap (λ (o : Option Targets). group_of (one_more (some head) o)) cs.converts;
      }

  pub targeted_read : {qs : Targets} {ts us : Tokens} (p : grammar.Targeted qs ts us) → TargetsRead qs (nest_targeted p) ts us
  targeted_read grammar.no_part = record { es = tree.no_exprs; spelled = grammar.nothing; low = omega arith; converts = refl }
  targeted_read (grammar.last_part p) =
      let c = part_read p in
      record { es = tree.expr c.e tree.no_exprs; spelled = grammar.last (expr_of c.spelled); low = c.low; converts = ap (λ (o : Option Target). one_more o (some tree.no_targets)) c.converts }
  targeted_read (grammar.more_parts {p = head} p h q) =
      let c = part_read p in
      let cs = targeted_read q in
      let l = c.low in
      let ls = cs.low in
      record {
        es = tree.expr c.e cs.es;
        spelled = grammar.more (expr_of c.spelled) h cs.spelled;
        low = omega arith;
        converts = ap (λ (o : Option Target). one_more o (as_targets cs.es)) c.converts ∙ ap (λ (o : Option Targets). one_more (some head) o) cs.converts;
      }

-- a target is spelled as an expression list that converts to it
pub target_list : {q : Target} {l : Line} {ts us : Tokens} → grammar.IsTarget q l ts us → (e : Expr) × grammar.IsExprs e ts us × (line_of e ≡ l) × (as_target e ≡ Some q)
target_list (grammar.target_part p) = let c = part_read p in (c.e, grammar.an_expr (expr_of c.spelled), c.line, c.converts)
target_list (grammar.target_parts p) = let c = parts_read p in (tree.node (line_of c.e) (tree.tuple (tree.expr c.e c.es)), grammar.several (expr_of c.head) c.comma c.tail, c.line, c.converts)

-- ---- operators

same_number : (a : ℕ) → (a == a) ≡ true
same_number a = grind arith

operator_is : (k : ℕ) (j : TokenKind) (o : BinOp) → binary_of j ≡ Some o → looseness o ≡ k → reading.operator_of k j ≡ Some o
operator_is k j o h i = rw (h, i, same_number k) refl

other_number : (a b : ℕ) → (a ≡ b → ⊥) → (a == b) ≡ false
other_number a b h = grind arith

no_operator_by : (k : ℕ) (j : TokenKind) (o : Option BinOp) → binary_of j ≡ o → 2 + k < binds j → reading.is_some (o >>= λ o. cond (looseness o == k) (Some o) None) ≡ false
no_operator_by k j None h lt = refl
no_operator_by k j (Some o) h lt = rw (other_number (looseness o) k (λ e. let b = binary_binds j o h in absurd (omega arith))) refl

no_operator : (k : ℕ) (j : TokenKind) → 2 + k < binds j → reading.is_some (reading.operator_of k j) ≡ false
no_operator k j lt = no_operator_by k j (binary_of j) refl lt

-- ---- parameters

-- what may follow parameters
pub record EndsParams (k : TokenKind) : Type 0 where
  pub binds : 12 < binds k
  pub comma : is_comma k ≡ false
  pub name : is_name k ≡ false
  pub star : is_star k ≡ false
  pub stars : is_double_star k ≡ false
  pub equal : is_equal k ≡ false

pub paren_ends : (us : Tokens) → first us ≡ kind.RightParen → EndsParams (first us)
paren_ends us h = subst EndsParams (sym h) (record { binds = omega arith; comma = refl; name = refl; star = refl; stars = refl; equal = refl })

pub colon_ends : (us : Tokens) → first us ≡ kind.Colon → EndsParams (first us)
colon_ends us h = subst EndsParams (sym h) (record { binds = omega arith; comma = refl; name = refl; star = refl; stars = refl; equal = refl })

pub name_is : (n : Name) (ts : Tokens) → first ts ≡ kind.Name n → reading.name_by (first ts) ts ≡ Some (named n ts, skip ts)
name_is n ts h = ap (λ k. reading.name_by k ts) h

abbrev named_read : Named → Tokens → Read (Option Named)
named_read n us = Some (Some n, us)

abbrev both_read : Named → Tokens → Read (Option Named × Option Named)
both_read n us = Some ((None, Some n), us)

-- the tokens behind a last name
ends_is : {stage : Stage} {us vs : Tokens} → grammar.Following stage reading.no_params us vs → 4 ≤ place_of stage → EndsParams (first vs) → cond (is_comma (first us)) (skip us) us ≡ vs
ends_is grammar.no_more high ends = rw ends.comma refl
ends_is (grammar.comma h p) high ends = rw h (closed_is p high)
  where
    closed_is : {stage : Stage} {ps : Params} {us vs : Tokens} → grammar.IsParams stage ps us vs → 4 ≤ place_of stage → us ≡ vs
    closed_is grammar.no_param high = refl
    closed_is (grammar.param h q) high = absurd (omega arith)
    closed_is (grammar.default c h i p q) high = absurd (omega arith)
    closed_is (grammar.list_param c h i q) high = absurd (omega arith)
    closed_is (grammar.dict_param c h i q) high = absurd (omega arith)

-- `**NAME` or nothing
dict_complete : {stage : Stage} {ps : Params} {ts us : Tokens} → grammar.IsParams stage ps ts us → 3 ≤ place_of stage → EndsParams (first us) → (d : Option Named) × (ps ≡ tree.params tree.no_plain None d) × (reading.dict_param ts ≡ Some (d, us))
unfolding reading.dict_param reading.last_name
dict_complete {ts = ts} grammar.no_param high ends = (None, refl, rw ends.stars refl)
dict_complete (grammar.param h q) high ends = absurd (omega arith)
dict_complete (grammar.default c h i p q) high ends = absurd (omega arith)
dict_complete (grammar.list_param c h i q) high ends = absurd (omega arith)
dict_complete {ts = ts} {us = us} (grammar.dict_param {n = n} c h i q) high ends =
    (Some (named n (skip ts)), refl, rw (h, name_is n (skip ts) i) (ap (λ (z : Tokens). named_read (named n (skip ts)) z) (ends_is q (omega arith) ends)))

-- what stands behind a list parameter: nothing, or `**NAME`
stars_complete : {stage : Stage} {ps : Params} {us vs : Tokens} → grammar.Following stage ps us vs → 3 ≤ place_of stage → EndsParams (first vs) → (list : Named)
    → (d : Option Named) × (ps ≡ tree.params tree.no_plain None d) × (cond (is_comma (first us)) (◌>>=◌ {B = (Option Named × Option Named) × Tokens} (reading.dict_param (skip us)) (λ d. Some ((Some list, d.0), d.1))) (Some ((Some list, None), us)) ≡ Some ((Some list, d), vs))
stars_complete grammar.no_more high ends list = (None, refl, rw ends.comma refl)
stars_complete (grammar.comma h p) high ends list = let (d, same, read) = dict_complete p high ends in (d, same, rw (h, read) refl)

abbrev with_list : Named → Params → Params
with_list n (tree.params others list dict) = tree.params others (Some n) dict

-- parameters with a star, none without
star_complete : {stage : Stage} {ps : Params} {ts us : Tokens} → grammar.IsParams stage ps ts us → EndsParams (first us) → is_name (first ts) ≡ false
    → (list dict : Option Named) × (ps ≡ tree.params tree.no_plain list dict) × (reading.star_params ts ≡ Some ((list, dict), us))
unfolding reading.star_params reading.dict_param reading.last_name
star_complete {ts = ts} grammar.no_param ends none = (None, None, refl, rw (ends.star, ends.stars) refl)
star_complete (grammar.param h q) ends none = absurd (let e = ap is_name h in cc)
star_complete (grammar.default c h i p q) ends none = absurd (let e = ap is_name h in cc)
star_complete {ts = ts} (grammar.list_param {n = n} c h i q) ends none =
    let (d, same, read) = stars_complete q (omega arith) ends (named n (skip ts)) in
    (Some (named n (skip ts)), d, ap (with_list (named n (skip ts))) same, rw (h, name_is n (skip ts) i) read)
star_complete {ts = ts} {us = us} (grammar.dict_param {n = n} c h i q) ends none =
    (None, Some (named n (skip ts)), refl, rw (h, name_is n (skip ts) i) (ap (λ (z : Tokens). both_read (named n (skip ts)) z) (ends_is q (omega arith) ends)))

abbrev params_read : Params → Tokens → Read Params
params_read ps us = Some (ps, us)

-- behind the parameters without a star
abbrev tail_read : Bool → Plain → Tokens → Read Params
tail_read is_open others vs = cond is_open (reading.star_params vs >>= λ y. params_read (tree.params others y.0.0 y.0.1) y.1) (params_read (tree.params others None None) vs)

-- ---- the readers of each production, over those of the expressions within

module _ (d : ℕ) (rs : Readers) (inner : AreComplete d rs) where
  listed_complete : {es : Exprs} {ts us : Tokens} (p : grammar.Listed es ts us) → nest_listed p < d → 12 < binds (first us) → is_comma (first us) ≡ false → starts (first us) ≡ false → (n : ℕ) → length ts < n → listed tree.no_exprs tree.no_exprs tree.expr starts (reading.alike rs.expr) n tt ts ≡ Some (es, us)
  listed_complete {ts = ts} grammar.nothing small ends shut none n lt = listed_ends tree.no_exprs tree.no_exprs tree.expr starts (reading.alike rs.expr) n tt ts none lt
  listed_complete {ts = ts} {us = us} (grammar.last {e = e} p) small ends shut none n lt =
      listed_shuts tree.no_exprs tree.no_exprs tree.expr starts (reading.alike rs.expr) n tt tt ts us e (expr_starts p) (alike_reads rs.expr ts us e (inner.expr p small ends)) shut lt
  listed_complete {ts = ts} {us = vs} (grammar.more {e = e} {es = es} {us = us} p h q) small ends shut none n lt =
      listed_goes tree.no_exprs tree.no_exprs tree.expr starts (reading.alike rs.expr) n tt tt ts us vs e es (expr_starts p) (alike_reads rs.expr ts us e (inner.expr p (omega arith) (at 12 kind.Comma us h (omega arith)))) h lt (expr_takes p)
      (λ m lt. listed_complete q (omega arith) ends shut none m lt)

  pub exprs_complete : (e : Expr) {es : Exprs} {ts us : Tokens} (p : grammar.Listed es ts us) → nest_listed p < d → 12 < binds (first us) → is_comma (first us) ≡ false → starts (first us) ≡ false → reading.exprs rs e ts ≡ Some (tree.expr e es, us)
  unfolding reading.exprs
  exprs_complete e {ts = ts} p small ends shut none = rw (listed_complete p small ends shut none (suc (length ts)) (omega arith)) refl

  part_complete : {q : Target} {l : Line} {ts us : Tokens} (p : grammar.Part q l ts us) → nest_part p < d → 1 < binds (first us) → reading.part rs ts ≡ Some (q, us)
  unfolding reading.part
  part_complete p small ends = let c = part_read p in let l = c.low in rw (inner.primary c.spelled (omega arith) ends, c.converts) refl

  part_starts : {q : Target} {l : Line} {ts us : Tokens} → grammar.Part q l ts us → starts (first ts) ≡ true
  part_starts p = let c = part_read p in (primary_begins c.spelled).begins

  targeted_complete : {qs : Targets} {ts us : Tokens} (p : grammar.Targeted qs ts us) → nest_targeted p < d → 1 < binds (first us) → is_comma (first us) ≡ false → starts (first us) ≡ false → (n : ℕ) → length ts < n
      → listed tree.no_targets tree.no_targets tree.target starts (reading.alike (reading.part rs)) n tt ts ≡ Some (qs, us)
  targeted_complete {ts = ts} grammar.no_part small ends shut none n lt = listed_ends tree.no_targets tree.no_targets tree.target starts (reading.alike (reading.part rs)) n tt ts none lt
  targeted_complete {ts = ts} {us = us} (grammar.last_part {p = q} p) small ends shut none n lt =
      listed_shuts tree.no_targets tree.no_targets tree.target starts (reading.alike (reading.part rs)) n tt tt ts us q (part_starts p) (alike_reads (reading.part rs) ts us q (part_complete p small ends)) shut lt
  targeted_complete {ts = ts} {us = vs} (grammar.more_parts {p = q} {ps = qs} {us = us} p h ps) small ends shut none n lt =
      listed_goes tree.no_targets tree.no_targets tree.target starts (reading.alike (reading.part rs)) n tt tt ts us vs q qs (part_starts p) (alike_reads (reading.part rs) ts us q (part_complete p (omega arith) (at 1 kind.Comma us h (omega arith)))) h lt (part_takes p)
      (λ m lt. targeted_complete ps (omega arith) ends shut none m lt)

  pub target_complete : {q : Target} {l : Line} {ts us : Tokens} (p : grammar.IsTarget q l ts us) → nest_target p < d → 1 < binds (first us) → is_comma (first us) ≡ false → starts (first us) ≡ false → reading.target rs ts ≡ Some (q, us)
  unfolding reading.target reading.parts
  target_complete (grammar.target_part p) small ends shut none = rw (part_complete p small ends, shut) refl
  target_complete (grammar.target_parts (grammar.parts {us = us} p h ps)) small ends shut none =
      rw (part_complete p (omega arith) (at 1 kind.Comma us h (omega arith)), h, targeted_complete ps (omega arith) ends shut none (suc (length (skip us))) (omega arith)) refl

  ifs_front : {es : Exprs} {vs ws : Tokens} → grammar.Ifs es vs ws → 12 < binds (first ws) → 11 < binds (first vs)
  ifs_front grammar.ifs_end ends = omega arith
  ifs_front {vs = vs} (grammar.ifs_go h p q) ends = at 11 kind.If vs h (omega arith)

  ifs_complete : {es : Exprs} {ts us : Tokens} (p : grammar.Ifs es ts us) → nest_ifs p < d → 12 < binds (first us) → (n : ℕ) → length ts < n → many tree.no_exprs tree.expr (reading.at token_tests.is_if) (reading.behind rs.or) n ts ≡ Some (es, us)
  ifs_complete {ts = ts} grammar.ifs_end small ends n lt = many_ends tree.no_exprs tree.expr (reading.at token_tests.is_if) (reading.behind rs.or) n ts (no_if (first ts) ends) lt
  ifs_complete {ts = ts} {us = vs} (grammar.ifs_go {e = e} {es = es} {us = us} h p q) small ends n lt =
      many_goes tree.no_exprs tree.expr (reading.at token_tests.is_if) (reading.behind rs.or) n ts us vs e es (ap token_tests.is_if h) (inner.or p (omega arith) (ifs_front q ends)) lt (omega (arith, skip_within ts, or_takes p)) (λ m lt. ifs_complete q (omega arith) ends m lt)

  -- behind `for`
  clause_complete : {c : Clause} {ts us : Tokens} (p : grammar.IsClause c ts us) → nest_clause p < d → 12 < binds (first us) → (first ts ≡ kind.For) × (reading.clause rs (skip ts) ≡ Some (c, us))
  unfolding reading.clause reading.ifs
  clause_complete {ts = ts} (grammar.a_clause {us = us} {vs = vs} h p i q s) small ends =
      (h, rw (target_complete p (omega arith) (at 1 kind.In us i (omega arith)) (ap is_comma i) (ap starts i), i, inner.or q (omega arith) (ifs_front s ends), ifs_complete s (omega arith) ends (suc (length vs)) (omega arith)) refl)

  clauses_complete : {cs : Clauses} {ts us : Tokens} (p : grammar.IsClauses cs ts us) → nest_clauses p < d → 16 < binds (first us) → (n : ℕ) → length ts < n → many tree.no_clauses tree.clause (reading.at token_tests.is_for) (reading.behind (reading.clause rs)) n ts ≡ Some (cs, us)
  clauses_complete {ts = ts} grammar.clauses_end small ends n lt = many_ends tree.no_clauses tree.clause (reading.at token_tests.is_for) (reading.behind (reading.clause rs)) n ts (no_for (first ts) ends) lt
  clauses_complete {ts = ts} {us = vs} (grammar.clauses_go {c = c} {cs = cs} {us = us} p q) small ends n lt =
      let (begun, read) = clause_complete p (omega arith) (clauses_front q ends) in
      many_goes tree.no_clauses tree.clause (reading.at token_tests.is_for) (reading.behind (reading.clause rs)) n ts us vs c cs (ap token_tests.is_for begun) read lt (clause_takes p) (λ m lt. clauses_complete q (omega arith) ends m lt)
    where
      clauses_front : {cs : Clauses} {vs ws : Tokens} → grammar.IsClauses cs vs ws → 16 < binds (first ws) → 12 < binds (first vs)
      clauses_front grammar.clauses_end ends = omega arith
      clauses_front {vs = vs} (grammar.clauses_go (grammar.a_clause h p i q s) cs) ends = at 12 kind.For vs h (omega arith)

  -- at `for`
  comprehended : {c : Clause} {cs : Clauses} {ts us vs : Tokens} (p : grammar.IsClause c ts us) (q : grammar.IsClauses cs us vs) → nest_clause p < d → nest_clauses q < d → 16 < binds (first vs) → (first ts ≡ kind.For) × (reading.clauses rs ts ≡ Some (tree.clause c cs, vs))
  unfolding reading.clauses
  comprehended {ts = ts} p q small smaller ends = (for_begins p, clauses_complete (grammar.clauses_go p q) (omega arith) ends (suc (length ts)) (omega arith))
    where
      for_begins : {c : Clause} {ts us : Tokens} → grammar.IsClause c ts us → first ts ≡ kind.For
      for_begins (grammar.a_clause h p i q s) = h

  pair_complete : {k e : Expr} {ts us vs : Tokens} (p : grammar.IsExpr k ts us) → first us ≡ kind.Colon → (q : grammar.IsExpr e (skip us) vs) → nest_expr p < d → nest_expr q < d → 12 < binds (first vs) → reading.pair rs ts ≡ Some ((k, e), vs)
  unfolding reading.pair
  pair_complete {us = us} p h q small smaller ends = rw (inner.expr p small (at 12 kind.Colon us h (omega arith)), h, inner.expr q smaller ends) refl

  paired_complete : {ps : Pairs} {ts us : Tokens} (p : grammar.Paired ps ts us) → nest_paired p < d → 20 < binds (first us) → (n : ℕ) → length ts < n → listed tree.no_pairs tree.no_pairs reading.with_pair starts (reading.alike (reading.pair rs)) n tt ts ≡ Some (ps, us)
  paired_complete {ts = ts} grammar.no_pair small ends n lt = listed_ends tree.no_pairs tree.no_pairs reading.with_pair starts (reading.alike (reading.pair rs)) n tt ts (starts_none (first ts) ends) lt
  paired_complete {ts = ts} {us = vs} (grammar.last_pair {k = k} {e = e} {us = us} p h q) small ends n lt =
      listed_shuts tree.no_pairs tree.no_pairs reading.with_pair starts (reading.alike (reading.pair rs)) n tt tt ts vs (k, e) (expr_starts p) (alike_reads (reading.pair rs) ts vs (k, e) (pair_complete p h q (omega arith) (omega arith) (omega arith))) (no_comma (first vs) ends) lt
  paired_complete {ts = ts} {us = ws} (grammar.more_pairs {k = k} {e = e} {ps = ps} {us = us} {vs = vs} p h q i s) small ends n lt =
      listed_goes tree.no_pairs tree.no_pairs reading.with_pair starts (reading.alike (reading.pair rs)) n tt tt ts vs ws (k, e) ps (expr_starts p) (alike_reads (reading.pair rs) ts vs (k, e) (pair_complete p h q (omega arith) (omega arith) (at 12 kind.Comma vs i (omega arith)))) i lt
      (omega (arith, expr_takes p, skip_within us, expr_takes q)) (λ m lt. paired_complete s (omega arith) ends m lt)

  dict_display : {ps : Pairs} {ts us : Tokens} → (line : Line) (p : grammar.Paired ps ts us) → nest_paired p < d → first us ≡ kind.RightBrace → reading.braced rs line ts ≡ Some (tree.node line (tree.dict ps), skip us)
  unfolding reading.braced reading.other_pairs reading.pairs
  dict_display line grammar.no_pair small h = rw h refl
  dict_display line (grammar.last_pair {us = us} {vs = vs} p i q) small h = rw ((expr_begins p).no_brace, pair_complete p i q (omega arith) (omega arith) (at 12 kind.RightBrace vs h (omega arith)), h, h) refl
  dict_display {us = ws} line (grammar.more_pairs {us = us} {vs = vs} p i q j s) small h =
      rw ((expr_begins p).no_brace, pair_complete p i q (omega arith) (omega arith) (at 12 kind.Comma vs j (omega arith)), j, paired_complete s (omega arith) (at 20 kind.RightBrace ws h (omega arith)) (suc (length (skip vs))) (omega arith), h) refl

  list_display : {es : Exprs} {ts us : Tokens} → (line : Line) (p : grammar.Listed es ts us) → nest_listed p < d → first us ≡ kind.RightBracket → reading.bracketed rs line ts ≡ Some (tree.node line (tree.list es), skip us)
  unfolding reading.bracketed reading.others
  list_display line grammar.nothing small h = rw h refl
  list_display {us = us} line (grammar.last p) small h = rw ((expr_begins p).no_bracket, inner.expr p small (at 12 kind.RightBracket us h (omega arith)), h, h) refl
  list_display {us = vs} line (grammar.more {e = e} {us = us} p i q) small h =
      rw ((expr_begins p).no_bracket, inner.expr p (omega arith) (at 12 kind.Comma us i (omega arith)), i, exprs_complete e q (omega arith) (at 12 kind.RightBracket vs h (omega arith)) (ap is_comma h) (ap starts h), h) refl

  pub atom_complete : {e : Expr} {ts us : Tokens} (p : grammar.Atom e ts us) → nest_atom p ≤ d → 0 < binds (first us) → reading.atom rs ts ≡ Some (e, us)
  unfolding reading.atom reading.parenthesized reading.bracketed reading.braced
  atom_complete (grammar.name h) small ends = rw h refl
  atom_complete (grammar.int h) small ends = rw h refl
  atom_complete (grammar.text p) small ends = let (s, h, read) = texts_complete p ends in rw (h, read) refl
  atom_complete (grammar.nil h) small ends = rw h refl
  atom_complete (grammar.truth h) small ends = rw h refl
  atom_complete (grammar.falsity h) small ends = rw h refl
  atom_complete (grammar.paren {us = us} h p i) small ends = rw (h, (expr_begins p).no_paren, inner.expr p (omega arith) (at 12 kind.RightParen us i (omega arith)), i) refl
  atom_complete (grammar.unit h i) small ends = rw (h, i) refl
  atom_complete (grammar.tuple {e = e} {us = us} {vs = vs} h p i q j) small ends =
      rw (h, (expr_begins p).no_paren, inner.expr p (omega arith) (at 12 kind.Comma us i (omega arith)), i, exprs_complete e q (omega arith) (at 12 kind.RightParen vs j (omega arith)) (ap is_comma j) (ap starts j), j) refl
  atom_complete {ts = ts} (grammar.list h q i) small ends = rw (h, list_display (line_at ts) q (omega arith) i) refl
  atom_complete (grammar.list_of {us = us} {ws = ws} h p c cs i) small ends =
      let (begun, read) = comprehended c cs (omega arith) (omega arith) (at 16 kind.RightBracket ws i (omega arith)) in
      rw (h, (expr_begins p).no_bracket, inner.expr p (omega arith) (at 12 kind.For us begun (omega arith)), begun, read, i) refl
  atom_complete {ts = ts} (grammar.dict h q i) small ends = rw (h, dict_display (line_at ts) q (omega arith) i) refl
  atom_complete (grammar.dict_of {vs = vs} {xs = xs} h p i q c cs j) small ends =
      let (begun, read) = comprehended c cs (omega arith) (omega arith) (at 16 kind.RightBrace xs j (omega arith)) in
      rw (h, (expr_begins p).no_brace, pair_complete p i q (omega arith) (omega arith) (at 12 kind.For vs begun (omega arith)), begun, read, j) refl

  -- ---- trailers

  -- a name alone before a token that goes on no expression is the whole expression
  name_alone : {e : Expr} {n : Name} {ts us : Tokens} (p : grammar.IsExpr e ts us) → nest_expr p < d → 12 < binds (first us) → first ts ≡ kind.Name n → 12 < binds (first (skip ts)) → us ≡ skip ts
  name_alone {e} {n} {ts} {us} p small ends h after_name =
      let whole : rs.expr ts ≡ Some (e, us) = inner.expr p small ends in
      let alone : rs.expr ts ≡ Some (tree.node (line_at ts) (tree.name n), skip ts) = inner.expr (expr_of (grammar.bare (grammar.name h))) (omega arith) after_name in
      let same : ◌≡◌ {A = Option (Expr × Tokens)} (Some (e, us)) (Some (tree.node (line_at ts) (tree.name n), skip ts)) = sym whole ∙ alone in
      ap (λ (x : Expr × Tokens). x.1) (some_is same)

  positional_by : (k : TokenKind) (b : Bool) {e : Expr} {ts us : Tokens} (p : grammar.IsExpr e ts us) → nest_expr p < d → 12 < binds (first us) → is_equal (first us) ≡ false → first ts ≡ k → is_equal (first (skip ts)) ≡ b
      → reading.arg_by k b rs false ts ≡ Some ((tree.value e, false), us)
  unfolding reading.positional
  positional_by kind.Star b p small ends other h i = absurd (let s = expr_starts p in let e = ap starts h in cc)
  positional_by kind.DoubleStar b p small ends other h i = absurd (let s = expr_starts p in let e = ap starts h in cc)
  positional_by (kind.Name n) true {ts = ts} {us = us} p small ends other h i =
      let equal = equal_is (first (skip ts)) i in
      let same = name_alone p small ends h (at 12 kind.Equal (skip ts) equal (omega arith)) in
      absurd (let e : is_equal (first us) ≡ true = ap (λ (z : Tokens). is_equal (first z)) same ∙ i in cc)
  positional_by k b p small ends other h i = rw (inner.expr p small ends) refl

  -- what may follow an argument
  abbrev EndsArg : Tokens → Type 0
  EndsArg us = (12 < binds (first us)) × (is_equal (first us) ≡ false)

  arg_complete : {b : Bool} {x : Arg} {ts us : Tokens} (p : grammar.IsArg b x ts us) → nest_arg p < d → EndsArg us → (s : Bool) → (s ≡ true → b ≡ true) → reading.arg rs s ts ≡ Some ((x, b), us)
  unfolding reading.arg reading.starred
  arg_complete (grammar.value p) small ends true kept = absurd (let e = kept refl in cc)
  arg_complete {ts = ts} (grammar.value p) small ends false kept = positional_by (first ts) (is_equal (first (skip ts))) p small ends.0 ends.1 refl refl
  arg_complete (grammar.starred h p) small ends true kept = absurd (let e = kept refl in cc)
  arg_complete (grammar.starred h p) small ends false kept = rw (h, inner.expr p small ends.0) refl
  arg_complete (grammar.key h i p) small ends s kept = rw (h, i, inner.expr p small ends.0) refl
  arg_complete (grammar.double_starred h p) small ends s kept = rw (h, inner.expr p small ends.0) refl

  arg_starts : {b : Bool} {x : Arg} {ts us : Tokens} → grammar.IsArg b x ts us → starts_arg (first ts) ≡ true
  arg_starts (grammar.value p) = (expr_begins p).arg
  arg_starts (grammar.starred h p) = ap starts_arg h
  arg_starts (grammar.key h i p) = ap starts_arg h
  arg_starts (grammar.double_starred h p) = ap starts_arg h

  comma_ends : (us : Tokens) → first us ≡ kind.Comma → EndsArg us
  comma_ends us h = (at 12 kind.Comma us h (omega arith), ap is_equal h)

  args_complete : {b : Bool} {xs : Args} {ts us : Tokens} (p : grammar.IsArgs b xs ts us) → nest_args p < d → first us ≡ kind.RightParen → (s : Bool) → (s ≡ true → b ≡ true) → (n : ℕ) → length ts < n
      → listed tree.no_args tree.no_args tree.arg starts_arg (reading.arg rs) n s ts ≡ Some (xs, us)
  args_complete {ts = ts} grammar.no_arg small h s kept n lt = listed_ends tree.no_args tree.no_args tree.arg starts_arg (reading.arg rs) n s ts (ap starts_arg h) lt
  args_complete {b} {ts = ts} {us = us} (grammar.last_arg {x = x} p) small h s kept n lt =
      listed_shuts tree.no_args tree.no_args tree.arg starts_arg (reading.arg rs) n s b ts us x (arg_starts p) (arg_complete p small (at 12 kind.RightParen us h (omega arith), ap is_equal h) s kept) (ap is_comma h) lt
  args_complete {b} {ts = ts} {us = vs} (grammar.more_args {x = x} {xs = xs} {us = us} p i q) small h s kept n lt =
      listed_goes tree.no_args tree.no_args tree.arg starts_arg (reading.arg rs) n s b ts us vs x xs (arg_starts p) (arg_complete p (omega arith) (comma_ends us i) s kept) i lt (arg_takes p)
      (λ m lt. args_complete q (omega arith) h b (λ e. e) m lt)
  args_complete (grammar.args_with_names p) small h s kept n lt = args_complete p small h s (λ e. refl) n lt

  maybe_complete : {a : Maybe} {ts us : Tokens} (p : grammar.IsMaybe a ts us) → nest_maybe p < d → 20 < binds (first us) → reading.maybe rs ts ≡ Some (a, us)
  unfolding reading.maybe
  maybe_complete {ts = ts} grammar.missing small ends = rw (starts_none (first ts) ends) refl
  maybe_complete (grammar.present p) small ends = rw (expr_starts p, inner.expr p small (omega arith)) refl

  slice_complete : (a : Maybe) {b : Maybe} {ts us : Tokens} (q : grammar.IsMaybe b ts us) → nest_maybe q < d → first us ≡ kind.RightBracket → reading.slice rs a ts ≡ Some (tree.slice a b tree.none None, skip us)
  unfolding reading.slice
  slice_complete a {us = us} q small h = rw (maybe_complete q small (at 20 kind.RightBracket us h (omega arith)), h) refl

  stepped_complete : (a : Maybe) {b c : Maybe} {ts us vs : Tokens} (q : grammar.IsMaybe b ts us) (s : grammar.IsMaybe c (skip us) vs) → nest_maybe q < d → nest_maybe s < d → first us ≡ kind.Colon → first vs ≡ kind.RightBracket
      → reading.slice rs a ts ≡ Some (tree.slice a b c None, skip vs)
  unfolding reading.slice
  stepped_complete a {us = us} {vs = vs} q s small smaller h i = rw (maybe_complete q small (at 20 kind.Colon us h (omega arith)), h, maybe_complete s smaller (at 20 kind.RightBracket vs i (omega arith)), i) refl

  -- behind `[`, up to the first colon
  from_complete : {a : Maybe} {ts us : Tokens} (p : grammar.IsMaybe a ts us) → nest_maybe p < d → first us ≡ kind.Colon → reading.subscript rs ts ≡ reading.slice rs a (skip us)
  unfolding reading.subscript
  from_complete grammar.missing small h = rw h refl
  from_complete {us = us} (grammar.present p) small h = rw ((expr_begins p).no_colon, inner.expr p small (at 12 kind.Colon us h (omega arith)), h) refl

  trailer_complete : {x : Trailer} {ts us : Tokens} (p : grammar.IsTrailer x ts us) → nest_trailer p ≤ d → reading.trailer rs ts ≡ Some (x, us)
  unfolding reading.trailer reading.attr reading.subscript reading.called reading.args
  trailer_complete {ts = ts} (grammar.attr {n = n} h i) small = rw (h, name_is n (skip ts) i) refl
  trailer_complete (grammar.item {us = us} h p i) small = rw (h, (expr_begins p).no_colon, inner.expr p (omega arith) (at 12 kind.RightBracket us i (omega arith)), i) refl
  trailer_complete (grammar.slice {a = a} h p i q j) small = rw h (from_complete p (omega arith) i ∙ slice_complete a q (omega arith) j)
  trailer_complete (grammar.stepped {a = a} h p i q j s k) small = rw h (from_complete p (omega arith) i ∙ stepped_complete a q s (omega arith) (omega arith) j k)
  trailer_complete {ts = ts} (grammar.call h q each_once i) small = rw (h, args_complete q (omega arith) i false (λ e. absurd cc) (suc (length (skip ts))) (omega arith), each_once, i) refl

  trailer_starts : {x : Trailer} {ts us : Tokens} → grammar.IsTrailer x ts us → token_tests.starts_trailer (first ts) ≡ true
  trailer_starts (grammar.attr h i) = ap token_tests.starts_trailer h
  trailer_starts (grammar.item h p i) = ap token_tests.starts_trailer h
  trailer_starts (grammar.slice h p i q j) = ap token_tests.starts_trailer h
  trailer_starts (grammar.stepped h p i q j s k) = ap token_tests.starts_trailer h
  trailer_starts (grammar.call h q each_once i) = ap token_tests.starts_trailer h

  trailer_front : (k : TokenKind) → token_tests.starts_trailer k ≡ true → 0 < binds k
  trailer_front kind.Dot h = omega arith
  trailer_front kind.LeftBracket h = omega arith
  trailer_front kind.LeftParen h = omega arith
  trailer_front _ h = absurd cc

  trail_complete : {xs : Trailers} {ts us : Tokens} (p : grammar.Trail xs ts us) → nest_trail p ≤ d → 1 < binds (first us) → (n : ℕ) → length ts < n → many tree.no_trailers tree.trailer (reading.at token_tests.starts_trailer) (reading.trailer rs) n ts ≡ Some (xs, us)
  trail_complete {ts = ts} grammar.ends small ends n lt = many_ends tree.no_trailers tree.trailer (reading.at token_tests.starts_trailer) (reading.trailer rs) n ts (no_trailer (first ts) ends) lt
  trail_complete {us = vs} (grammar.goes {x = x} {xs = xs} {ts = ts} {us = us} p q) small ends n lt =
      many_goes tree.no_trailers tree.trailer (reading.at token_tests.starts_trailer) (reading.trailer rs) n ts us vs x xs (trailer_starts p) (trailer_complete p (omega arith)) lt (trailer_takes p) (λ m lt. trail_complete q (omega arith) ends m lt)

  pub primary_complete : {e : Expr} {ts us : Tokens} (p : grammar.Primary e ts us) → nest_primary p ≤ d → 1 < binds (first us) → reading.primary rs ts ≡ Some (e, us)
  unfolding reading.primary reading.trailers
  primary_complete {us = us} (grammar.bare p) small ends = rw (atom_complete p small (omega arith), no_trailer (first us) ends) refl
  primary_complete (grammar.trailed {us = us} p q s) small ends =
      rw (atom_complete p (omega arith) (trailer_front (first us) (trailer_starts q)), trailer_starts q, trail_complete (grammar.goes q s) (omega arith) ends (suc (length us)) (omega arith)) refl

  -- ---- operators

  power_complete : {e : Expr} {ts us : Tokens} (p : grammar.Power e ts us) → nest_power p ≤ d → 2 < binds (first us) → reading.power rs ts ≡ Some (e, us)
  unfolding reading.power
  power_complete {us = us} (grammar.base p) small ends = rw (primary_complete p small (omega arith), no_power (first us) ends) refl
  power_complete (grammar.raised {us = us} p h q) small ends = rw (primary_complete p (omega arith) (at 1 kind.DoubleStar us h (omega arith)), h, inner.unary q (omega arith) ends) refl

  pub unary_complete : {e : Expr} {ts us : Tokens} (p : grammar.Unary e ts us) → nest_unary p ≤ d → 2 < binds (first us) → reading.unary rs ts ≡ Some (e, us)
  unfolding reading.unary
  unary_complete (grammar.unsigned p) small ends = rw ((power_begins p).no_mark, power_complete p small ends) refl
  unary_complete (grammar.signed h p) small ends = rw (h, inner.unary p small ends) refl

  operation_complete : (k : ℕ) (o : BinOp) (f : Expr) (ts us : Tokens) → binary_of (first ts) ≡ Some o → looseness o ≡ suc k → reading.chain rs k (skip ts) ≡ Some (f, us) → reading.operation (suc k) (reading.chain rs k) ts ≡ Some ((o, f), us)
  operation_complete k o f ts us h i read = rw (operator_is (suc k) (first ts) o h i, read) refl

  -- the tokens that a chain goes on with
  chained_front : {k : ℕ} {os : Ops} {vs ws : Tokens} → grammar.Chained k os vs ws → 2 + suc k < binds (first ws) → 2 + k < binds (first vs)
  chained_front grammar.chain_ends ends = omega arith
  chained_front {vs = vs} (grammar.chain_goes {o = o} h i p q) ends = omega (arith, binary_binds (first vs) o h)

  chained_complete : (k : ℕ) → ((e : Expr) (ts us : Tokens) (p : grammar.Chain k e ts us) → nest_chain p ≤ d → 2 + k < binds (first us) → reading.chain rs k ts ≡ Some (e, us))
      → {os : Ops} {ts us : Tokens} (p : grammar.Chained k os ts us) → nest_chained p ≤ d → 2 + suc k < binds (first us) → (n : ℕ) → length ts < n
      → many tree.no_ops reading.with_op (reading.at (λ j. reading.is_some (reading.operator_of (suc k) j))) (reading.operation (suc k) (reading.chain rs k)) n ts ≡ Some (os, us)
  chained_complete k each {ts = ts} grammar.chain_ends small ends n lt = many_ends tree.no_ops reading.with_op (reading.at (λ j. reading.is_some (reading.operator_of (suc k) j))) (reading.operation (suc k) (reading.chain rs k)) n ts (no_operator (suc k) (first ts) ends) lt
  chained_complete k each (grammar.chain_goes {f = e} {o = o} {os = os} {us = us} {vs = vs} {ws = ws} h i p q) small ends n lt =
      many_goes tree.no_ops reading.with_op (reading.at (λ j. reading.is_some (reading.operator_of (suc k) j))) (reading.operation (suc k) (reading.chain rs k)) n us vs ws (o, e) os (ap reading.is_some (operator_is (suc k) (first us) o h i))
      (operation_complete k o e us vs h i (each e (skip us) vs p (omega arith) (chained_front q ends))) lt (omega (arith, skip_within us, chain_takes p)) (λ m lt. chained_complete k each q (omega arith) ends m lt)

  chain_complete : (k : ℕ) {e : Expr} {ts us : Tokens} (p : grammar.Chain k e ts us) → nest_chain p ≤ d → 2 + k < binds (first us) → reading.chain rs k ts ≡ Some (e, us)
  unfolding reading.chain reading.chained_at
  chain_complete zero (grammar.operand p) small ends = unary_complete p small (omega arith)
  chain_complete (suc k) {us = us} (grammar.tighter p) small ends = rw (chain_complete k p small (omega arith), no_operator (suc k) (first us) ends) refl
  chain_complete (suc k) (grammar.chained {o = o} {us = us} p h i q s) small ends =
      rw (
        chain_complete k p (omega arith) (omega (arith, binary_binds (first us) o h)),
        ap reading.is_some (operator_is (suc k) (first us) o h i),
        chained_complete k (λ e ts us p. chain_complete k p) {ts = us} (grammar.chain_goes h i q s) (omega arith) ends (suc (length us)) (omega arith),
      ) refl

  compared_complete : (x : Test) {e : Expr} {ts us : Tokens} (p : grammar.Chain loosest e ts us) → nest_chain p ≤ d → 8 < binds (first us) → reading.compared_with rs x ts ≡ Some ((x, e), us)
  compared_complete x p small ends = rw (chain_complete loosest p small ends) refl

  order_by : (k : TokenKind) (o : CmpOp) (us : Tokens) → order_of k ≡ Some o → reading.test_by k rs us ≡ reading.compared_with rs (Order o) us
  order_by kind.Less o us h = ap (λ (z : CmpOp). reading.compared_with rs (Order z) us) (some_is h)
  order_by kind.LessEqual o us h = ap (λ (z : CmpOp). reading.compared_with rs (Order z) us) (some_is h)
  order_by kind.Greater o us h = ap (λ (z : CmpOp). reading.compared_with rs (Order z) us) (some_is h)
  order_by kind.GreaterEqual o us h = ap (λ (z : CmpOp). reading.compared_with rs (Order z) us) (some_is h)
  order_by kind.EqualEqual o us h = ap (λ (z : CmpOp). reading.compared_with rs (Order z) us) (some_is h)
  order_by kind.NotEqual o us h = ap (λ (z : CmpOp). reading.compared_with rs (Order z) us) (some_is h)
  order_by _ o us h = absurd cc

  order_starts : (k l : TokenKind) (o : CmpOp) → order_of k ≡ Some o → token_tests.starts_test k l ≡ true
  order_starts kind.Less l o h = refl
  order_starts kind.LessEqual l o h = refl
  order_starts kind.Greater l o h = refl
  order_starts kind.GreaterEqual l o h = refl
  order_starts kind.EqualEqual l o h = refl
  order_starts kind.NotEqual l o h = refl
  order_starts _ l o h = absurd cc

  -- an operator of comparison begins, and no tighter expression goes on with it
  record TestBegins (ts : Tokens) : Type 0 where
    begins : reading.at_test ts ≡ true
    front : 8 < binds (first ts)

  test_begins : {x : Test} {e : Expr} {ts us : Tokens} → grammar.Tested x e ts us → TestBegins ts
  test_begins {ts = ts} (grammar.test (grammar.order {o = o} h) p) = record { begins = order_starts (first ts) (first (skip ts)) o h; front = omega (arith, order_binds (first ts) o h) }
  test_begins {ts = ts} (grammar.test (grammar.within h) p) = record { begins = ap (λ k. token_tests.starts_test k (first (skip ts))) h; front = at 8 kind.In ts h (omega arith) }
  test_begins {ts = ts} (grammar.test (grammar.not_within h i) p) = record { begins = ap (λ k. token_tests.starts_test k (first (skip ts))) h ∙ ap token_tests.is_in i; front = at 8 kind.Not ts h (omega arith) }
  test_begins {ts = ts} (grammar.is_none h i) = record { begins = ap (λ k. token_tests.starts_test k (first (skip ts))) h; front = at 8 kind.Is ts h (omega arith) }
  test_begins {ts = ts} (grammar.is_not_none h i j) = record { begins = ap (λ k. token_tests.starts_test k (first (skip ts))) h; front = at 8 kind.Is ts h (omega arith) }

  test_complete : {x : Test} {e : Expr} {ts us : Tokens} (p : grammar.Tested x e ts us) → nest_tested p ≤ d → 8 < binds (first us) → reading.comparison rs ts ≡ Some ((x, e), us)
  unfolding reading.comparison
  test_complete {ts = ts} (grammar.test (grammar.order {o = o} h) p) small ends = order_by (first ts) o (skip ts) h ∙ compared_complete (Order o) p small ends
  test_complete (grammar.test (grammar.within h) p) small ends = rw h (compared_complete Within p small ends)
  test_complete (grammar.test (grammar.not_within h i) p) small ends = rw (h, i) (compared_complete NotWithin p small ends)
  test_complete (grammar.is_none h i) small ends = rw (h, i) refl
  test_complete (grammar.is_not_none h i j) small ends = rw (h, i, j) refl

  compared_front : {xs : Tests} {vs ws : Tokens} → grammar.Compared xs vs ws → 9 < binds (first ws) → 8 < binds (first vs)
  compared_front grammar.tests_end ends = omega arith
  compared_front (grammar.tests_go p q) ends = (test_begins p).front

  tests_complete : {xs : Tests} {ts us : Tokens} (p : grammar.Compared xs ts us) → nest_compared p ≤ d → 9 < binds (first us) → (n : ℕ) → length ts < n → many tree.no_tests reading.with_test reading.at_test (reading.comparison rs) n ts ≡ Some (xs, us)
  tests_complete {ts = ts} grammar.tests_end small ends n lt = many_ends tree.no_tests reading.with_test reading.at_test (reading.comparison rs) n ts (no_test (first ts) (first (skip ts)) ends) lt
  tests_complete (grammar.tests_go {f = e} {x = x} {xs = xs} {us = us} {vs = vs} {ws = ws} p q) small ends n lt =
      many_goes tree.no_tests reading.with_test reading.at_test (reading.comparison rs) n us vs ws (x, e) xs (test_begins p).begins (test_complete p (omega arith) (compared_front q ends)) lt (tested_takes p) (λ m lt. tests_complete q (omega arith) ends m lt)

  compare_complete : {e : Expr} {ts us : Tokens} (p : grammar.Compare e ts us) → nest_compare p ≤ d → 9 < binds (first us) → reading.compare rs ts ≡ Some (e, us)
  unfolding reading.compare reading.tests
  compare_complete {us = us} (grammar.single p) small ends = rw (chain_complete loosest p small (omega arith), no_test (first us) (first (skip us)) ends) refl
  compare_complete (grammar.compared {us = us} p q s) small ends =
      rw (chain_complete loosest p (omega arith) (test_begins q).front, (test_begins q).begins, tests_complete (grammar.tests_go q s) (omega arith) ends (suc (length us)) (omega arith)) refl

  pub not_complete : {e : Expr} {ts us : Tokens} (p : grammar.Not e ts us) → nest_not p ≤ d → 9 < binds (first us) → reading.not rs ts ≡ Some (e, us)
  unfolding reading.not
  not_complete (grammar.asserted p) small ends = rw ((compare_begins p).no_not, compare_complete p small ends) refl
  not_complete (grammar.negated h p) small ends = rw (h, inner.not p small ends) refl

  ands_front : {es : Exprs} {vs ws : Tokens} → grammar.Ands es vs ws → 10 < binds (first ws) → 9 < binds (first vs)
  ands_front grammar.ands_end ends = omega arith
  ands_front {vs = vs} (grammar.ands_go h p q) ends = at 9 kind.And vs h (omega arith)

  ands_complete : {es : Exprs} {ts us : Tokens} (p : grammar.Ands es ts us) → nest_ands p ≤ d → 10 < binds (first us) → (n : ℕ) → length ts < n → many tree.no_exprs tree.expr (reading.at token_tests.is_and) (reading.behind (reading.not rs)) n ts ≡ Some (es, us)
  ands_complete {ts = ts} grammar.ands_end small ends n lt = many_ends tree.no_exprs tree.expr (reading.at token_tests.is_and) (reading.behind (reading.not rs)) n ts (no_and (first ts) ends) lt
  ands_complete (grammar.ands_go {f = e} {es = es} {us = us} {vs = vs} {ws = ws} h p q) small ends n lt =
      many_goes tree.no_exprs tree.expr (reading.at token_tests.is_and) (reading.behind (reading.not rs)) n us vs ws e es (ap token_tests.is_and h) (not_complete p (omega arith) (ands_front q ends)) lt (omega (arith, skip_within us, not_takes p)) (λ m lt. ands_complete q (omega arith) ends m lt)

  and_complete : {e : Expr} {ts us : Tokens} (p : grammar.And e ts us) → nest_and p ≤ d → 10 < binds (first us) → reading.and rs ts ≡ Some (e, us)
  unfolding reading.and reading.ands
  and_complete {us = us} (grammar.and_single p) small ends = rw (not_complete p small (omega arith), no_and (first us) ends) refl
  and_complete (grammar.and_several {us = us} p h q s) small ends =
      rw (not_complete p (omega arith) (at 9 kind.And us h (omega arith)), ap token_tests.is_and h, ands_complete {ts = us} (grammar.ands_go h q s) (omega arith) ends (suc (length us)) (omega arith)) refl

  ors_front : {es : Exprs} {vs ws : Tokens} → grammar.Ors es vs ws → 11 < binds (first ws) → 10 < binds (first vs)
  ors_front grammar.ors_end ends = omega arith
  ors_front {vs = vs} (grammar.ors_go h p q) ends = at 10 kind.Or vs h (omega arith)

  ors_complete : {es : Exprs} {ts us : Tokens} (p : grammar.Ors es ts us) → nest_ors p ≤ d → 11 < binds (first us) → (n : ℕ) → length ts < n → many tree.no_exprs tree.expr (reading.at token_tests.is_or) (reading.behind (reading.and rs)) n ts ≡ Some (es, us)
  ors_complete {ts = ts} grammar.ors_end small ends n lt = many_ends tree.no_exprs tree.expr (reading.at token_tests.is_or) (reading.behind (reading.and rs)) n ts (no_or (first ts) ends) lt
  ors_complete (grammar.ors_go {f = e} {es = es} {us = us} {vs = vs} {ws = ws} h p q) small ends n lt =
      many_goes tree.no_exprs tree.expr (reading.at token_tests.is_or) (reading.behind (reading.and rs)) n us vs ws e es (ap token_tests.is_or h) (and_complete p (omega arith) (ors_front q ends)) lt (omega (arith, skip_within us, and_takes p)) (λ m lt. ors_complete q (omega arith) ends m lt)

  pub or_complete : {e : Expr} {ts us : Tokens} (p : grammar.Or e ts us) → nest_or p ≤ d → 11 < binds (first us) → reading.or rs ts ≡ Some (e, us)
  unfolding reading.or reading.ors
  or_complete {us = us} (grammar.or_single p) small ends = rw (and_complete p small (omega arith), no_or (first us) ends) refl
  or_complete (grammar.or_several {us = us} p h q s) small ends =
      rw (and_complete p (omega arith) (at 10 kind.Or us h (omega arith)), ap token_tests.is_or h, ors_complete {ts = us} (grammar.ors_go h q s) (omega arith) ends (suc (length us)) (omega arith)) refl

  -- ---- parameters

  -- what is read from a parameter on, where a default has come or not
  abbrev params_from : ℕ → Bool → Tokens → Read Params
  params_from n b ts = listed (tree.no_plain, true) (tree.no_plain, false) reading.with_plain is_name (reading.plain rs) n b ts >>= λ ps. tail_read ps.0.1 ps.0.0 ps.1

  params_end : (n : ℕ) (b : Bool) {stage : Stage} {ps : Params} {ts us : Tokens} → grammar.IsParams stage ps ts us → EndsParams (first us) → is_name (first ts) ≡ false → length ts < n → params_from n b ts ≡ Some (ps, us)
  params_end n b {ps = ps} {ts = ts} {us = us} p ends none lt =
      let (list, dict, same, read) = star_complete p ends none in
      rw (listed_ends (tree.no_plain, true) (tree.no_plain, false) reading.with_plain is_name (reading.plain rs) n b ts none lt, read) (ap (λ (z : Params). params_read z us) (sym same))

  -- a parameter without a star, and no other
  plain_shuts : (n : ℕ) (b b' : Bool) (x : Named × Maybe) (ts us : Tokens) → is_name (first ts) ≡ true → reading.plain rs b ts ≡ Some ((x, b'), us) → is_comma (first us) ≡ false → length ts < n
      → params_from n b ts ≡ Some (grammar.with_plain x.0 x.1 reading.no_params, us)
  plain_shuts n b b' x ts us begun read over lt = rw (listed_shuts (tree.no_plain, true) (tree.no_plain, false) reading.with_plain is_name (reading.plain rs) n b b' ts us x begun read over lt) refl

  with_tail : (o : Read reading.Plains) (x : Named × Maybe) (ps : Params) (us : Tokens) → (o >>= λ ps. tail_read ps.0.1 ps.0.0 ps.1) ≡ Some (ps, us)
      → (before (reading.with_plain x) o >>= λ ps. tail_read ps.0.1 ps.0.0 ps.1) ≡ Some (grammar.with_plain x.0 x.1 ps, us)
  with_tail None x ps us h = absurd cc
  with_tail (Some ((others, true), vs)) x ps us h =
      let (y, found, all) = bind_some (reading.star_params vs) (λ y. params_read (tree.params others y.0.0 y.0.1) y.1) (ps, us) h in
      rw found (ap (λ (z : Params × Tokens). params_read (grammar.with_plain x.0 x.1 z.0) z.1) (some_is all))
  with_tail (Some ((others, false), vs)) x ps us h = ap (λ (z : Params × Tokens). params_read (grammar.with_plain x.0 x.1 z.0) z.1) (some_is h)

  plain_goes : (n : ℕ) (b b' : Bool) (x : Named × Maybe) (ts us vs : Tokens) (ps : Params) → is_name (first ts) ≡ true → reading.plain rs b ts ≡ Some ((x, b'), us) → first us ≡ kind.Comma → params_from n b' (skip us) ≡ Some (ps, vs)
      → params_from (suc n) b ts ≡ Some (grammar.with_plain x.0 x.1 ps, vs)
  unfolding listed
  plain_goes n b b' x ts us vs ps begun read comma more =
      let c : is_comma (first us) ≡ true = ap is_comma comma in
      rw (begun, read, c) (with_tail (listed (tree.no_plain, true) (tree.no_plain, false) reading.with_plain is_name (reading.plain rs) n b' (skip us)) x ps vs more)

  undefaulted : (n : Name) (ts : Tokens) → first ts ≡ kind.Name n → is_equal (first (skip ts)) ≡ false → reading.plain rs false ts ≡ Some (((named n ts, tree.none), false), skip ts)
  unfolding reading.plain
  undefaulted n ts h other = rw (name_is n ts h, other) refl

  defaulted : (b : Bool) (n : Name) (ts : Tokens) {e : Expr} {us : Tokens} (p : grammar.IsExpr e (skip (skip ts)) us) → first ts ≡ kind.Name n → first (skip ts) ≡ kind.Equal → nest_expr p < d → 12 < binds (first us)
      → reading.plain rs b ts ≡ Some (((named n ts, tree.some e), true), us)
  unfolding reading.plain
  defaulted b n ts p h i small ends = rw (name_is n ts h, i, inner.expr p small ends) refl

  following_front : {stage : Stage} {ps : Params} {us vs : Tokens} → grammar.Following stage ps us vs → EndsParams (first vs) → (12 < binds (first us)) × (is_equal (first us) ≡ false)
  following_front grammar.no_more ends = (ends.binds, ends.equal)
  following_front {us = us} (grammar.comma h p) ends = (at 12 kind.Comma us h (omega arith), ap is_equal h)

  params_complete : {stage : Stage} {ps : Params} {ts us : Tokens} (p : grammar.IsParams stage ps ts us) → nest_params p ≤ d → EndsParams (first us) → (b : Bool) → (b ≡ true → 1 ≤ place_of stage) → (n : ℕ) → length ts < n → params_from n b ts ≡ Some (ps, us)
  params_complete {ts = ts} grammar.no_param small ends b kept n lt = params_end n b {stage = closed} {ts = ts} grammar.no_param ends ends.name lt
  params_complete (grammar.param h q) small ends true kept n lt = absurd (let l = kept refl in omega arith)
  params_complete (grammar.param h q) small ends false kept zero lt = absurd (omega arith)
  params_complete {ts = ts} (grammar.param {n = m} h grammar.no_more) small ends false kept (suc n) lt =
      plain_shuts (suc n) false false (named m ts, tree.none) ts (skip ts) (ap is_name h) (undefaulted m ts h ends.equal) ends.comma lt
  params_complete {ts = ts} {us = us} (grammar.param {n = m} h (grammar.comma {ps = ps} i q)) small ends false kept (suc n) lt =
      plain_goes n false false (named m ts, tree.none) ts (skip ts) us ps (ap is_name h) (undefaulted m ts h (ap is_equal i)) i (params_complete q small ends false (λ e. absurd cc) n (omega (arith, takes ts _ h (λ e. cc), skip_within (skip ts))))
  params_complete (grammar.default c h i p q) small ends b kept zero lt = absurd (omega arith)
  params_complete {ts = ts} {us = us} (grammar.default {n = m} {e = e} c h i p grammar.no_more) small ends b kept (suc n) lt =
      plain_shuts (suc n) b true (named m ts, tree.some e) ts us (ap is_name h) (defaulted b m ts p h i (omega arith) ends.binds) ends.comma lt
  params_complete {ts = ts} {us = vs} (grammar.default {n = m} {e = e} {us = us} c h i p (grammar.comma {ps = ps} j q)) small ends b kept (suc n) lt =
      plain_goes n b true (named m ts, tree.some e) ts us vs ps (ap is_name h) (defaulted b m ts p h i (omega arith) (at 12 kind.Comma us j (omega arith))) j
      (params_complete q (omega arith) ends true (λ e. omega arith) n (omega (arith, takes ts _ h (λ e. cc), skip_within (skip ts), expr_takes p, skip_within us)))
  params_complete (grammar.list_param c h i q) small ends b kept n lt = params_end n b (grammar.list_param c h i q) ends (ap is_name h) lt
  params_complete (grammar.dict_param c h i q) small ends b kept n lt = params_end n b (grammar.dict_param c h i q) ends (ap is_name h) lt

  pub parameters_complete : {ps : Params} {ts us : Tokens} (p : grammar.IsParams any ps ts us) → nest_params p ≤ d → EndsParams (first us) → reading.params rs ts ≡ Some (ps, us)
  unfolding reading.params reading.plains
  parameters_complete {ts = ts} p small ends = params_complete p small ends false (λ e. absurd cc) (suc (length ts)) (omega arith)

  -- ---- expressions

  pub expr_complete : {e : Expr} {ts us : Tokens} (p : grammar.IsExpr e ts us) → nest_expr p ≤ d → 12 < binds (first us) → reading.expr rs ts ≡ Some (e, us)
  unfolding reading.expr reading.lambda reading.conditional
  expr_complete (grammar.a_lambda {us = us} h p each_once i q) small ends = rw (h, parameters_complete p (omega arith) (colon_ends us i), each_once, i, inner.expr q (omega arith) ends) refl
  expr_complete {us = us} (grammar.unconditional p) small ends = rw ((or_begins p).1, or_complete p small (omega arith), no_if (first us) ends) refl
  expr_complete (grammar.cond {us = us} {vs = vs} p h q i s) small ends =
      rw ((or_begins p).1, or_complete p (omega arith) (at 11 kind.If us h (omega arith)), h, or_complete q (omega arith) (at 11 kind.Else vs i (omega arith)), i, inner.expr s (omega arith) ends) refl

  pub expr_list_complete : {e : Expr} {ts us : Tokens} (p : grammar.IsExprs e ts us) → nest_exprs p < d → 12 < binds (first us) → is_comma (first us) ≡ false → starts (first us) ≡ false → reading.expr_list rs ts ≡ Some (e, us)
  unfolding reading.expr_list
  expr_list_complete {us = us} (grammar.an_expr p) small ends shut none = rw (expr_complete p (omega arith) ends, shut) refl
  expr_list_complete (grammar.several {e = e} {us = us} p h q) small ends shut none = rw (expr_complete p (omega arith) (at 12 kind.Comma us h (omega arith)), h, exprs_complete e q (omega arith) ends shut none) refl

-- what is spelled so is read, at each depth that is enough
pub readers_complete : (d : ℕ) → AreComplete d (reading.readers d)
unfolding reading.readers
readers_complete zero = record { expr = λ p h. absurd (omega arith); or = λ p h. absurd (omega arith); not = λ p h. absurd (omega arith); unary = λ p h. absurd (omega arith); primary = λ p h. absurd (omega arith) }
readers_complete (suc d) = record {
  expr = λ p h ends. expr_complete d (reading.readers d) (readers_complete d) p (omega arith) ends;
  or = λ p h ends. or_complete d (reading.readers d) (readers_complete d) p (omega arith) ends;
  not = λ p h ends. not_complete d (reading.readers d) (readers_complete d) p (omega arith) ends;
  unary = λ p h ends. unary_complete d (reading.readers d) (readers_complete d) p (omega arith) ends;
  primary = λ p h ends. primary_complete d (reading.readers d) (readers_complete d) p (omega arith) ends;
}
