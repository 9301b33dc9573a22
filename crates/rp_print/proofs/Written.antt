-- What the code writes is the text behind the page: a line for each form of an expression, and for each kind of its
-- parts.
use Rattle.std.proofs.Common.{◌≡◌, ℕ, suc, Bool, true, false, ◌&&◌, ◌||◌, List, [], ◌∷◌, ◌++◌, length, codes}
use Rattle.std.proofs.Common.{if◌then◌else◌, Option, Some, None, refl, sym, ap, ◌∙◌, arith}
use Rattle.std.specs.Fmt.{decimal}
use Rattle.rp_tree.specs.declared.parts.Named.{Named}
use Rattle.rp_tree.specs.ExpressionTrees as trees
use Rattle.rp_tree.specs.ExpressionTrees.{Expr, Form, Exprs, Maybe, Pairs, Tests, Ops, Clause, Clauses, Walk, Target}
use Rattle.rp_tree.specs.ExpressionTrees.{Targets, Place, Params, Plain, Trailer, Trailers, Arg, Args}
use Rattle.rp_print.specs.Texts.{◌⧺◌, bracketed, call_text, further, joined, listed, space_before}
use Rattle.rp_print.specs.Texts.{tuple_end}
use Rattle.rp_print.specs.Expressions.{arg_text, args_texts, base_text, begins_guarded, bound_text, clause_iterable}
use Rattle.rp_print.specs.Expressions.{clause_text, clauses_text, conditions_text, default_text, expr_text}
use Rattle.rp_print.specs.Expressions.{exprs_texts, form_text, guarded_iterable, inner_spec, inner_specs}
use Rattle.rp_print.specs.Expressions.{operand_text, operands_texts, ops_text, option_named, pairs_texts}
use Rattle.rp_print.specs.Expressions.{params_texts, part_text, place_text, plain_texts, spec_text, stands_alone}
use Rattle.rp_print.specs.Expressions.{stands_before_trailer, starred, statement_iterable, stride_text, target_text}
use Rattle.rp_print.specs.Expressions.{targets_count, targets_texts, tests_text, trailed, walk_text, with_trailer}
use Rattle.rp_print.specs.PageSteps.{gap, spec_end, written}
use Rattle.rp_print.specs.WritingSteps.{close_iterable, exprs_count, has_no_params, has_no_plain, has_none}
use Rattle.rp_print.specs.WritingSteps.{holds_group, open_iterable, put_arg, put_args, put_base, put_bound}
use Rattle.rp_print.specs.WritingSteps.{put_clause, put_clause_iterable, put_clauses, put_closing, put_closings}
use Rattle.rp_print.specs.WritingSteps.{put_conditions, put_dealing, put_default, put_expr, put_exprs, put_form}
use Rattle.rp_print.specs.WritingSteps.{put_inner_spec, put_inner_specs, put_opening, put_openings, put_operand}
use Rattle.rp_print.specs.WritingSteps.{put_operands, put_ops, put_pairs, put_params, put_part, put_place, put_plain}
use Rattle.rp_print.specs.WritingSteps.{put_spec, put_starred, put_statement_iterable, put_stride, put_target}
use Rattle.rp_print.specs.WritingSteps.{put_targets, put_tests, put_walk}
use Rattle.rp_print.proofs.Pages.{left, left_none, left_one, then_part, then_text, written_beside, written_nil}
use Rattle.std.proofs.lemmas.Bool.{ne_eqb}

-- lists behind one another

further_append : (s page : List ℕ) (xs ys : List (List ℕ)) → written page (further s (xs ++ ys)) ≡ written
    (written page (further s xs)) (further s ys)
unfolding further
further_append s page [] ys = ap (λ (p : List ℕ). written p (further s ys)) (sym (written_nil page))
further_append s page (x ∷ xs) ys =
    written_beside page (s ⧺ x) (further s (xs ++ ys))
    ∙ (further_append s (written page (s ⧺ x)) xs ys
    ∙ ap (λ (p : List ℕ). written p (further s ys)) (sym (written_beside page (s ⧺ x) (further s xs))))

is_empty : List (List ℕ) → Bool
is_empty [] = true
is_empty (x ∷ xs) = false

left_append : (s page : List ℕ) (xs ys : List (List ℕ)) → written page (joined s (xs ++ ys)) ≡ written (written page
    (joined s xs)) (left s (is_empty xs) ys)
unfolding joined further is_empty
left_append s page [] ys = ap (λ (p : List ℕ). written p (joined s ys)) (sym (written_nil page))
left_append s page (x ∷ xs) ys =
    written_beside page x (further s (xs ++ ys))
    ∙ (further_append s (written page x) xs ys
    ∙ ap (λ (p : List ℕ). written p (further s ys)) (sym (written_beside page x (further s xs))))

empty_append : (xs ys : List (List ℕ)) → is_empty (xs ++ ys) ≡ (is_empty xs && is_empty ys)
unfolding is_empty
empty_append [] ys = refl
empty_append (x ∷ xs) ys = refl

three_lists : (s page : List ℕ) (xs ys zs : List (List ℕ))
    → written page (joined s (xs ++ ys ++ zs))
    ≡ written (written (written page (joined s xs)) (left s (is_empty xs) ys)) (left s (is_empty xs && is_empty ys) zs)
three_lists s page xs ys zs =
    left_append s page (xs ++ ys) zs
    ∙ (ap (λ (p : List ℕ). written p (left s (is_empty (xs ++ ys)) zs)) (left_append s page xs ys)
    ∙ ap (λ (b : Bool). written (written (written page (joined s xs)) (left s (is_empty xs) ys)) (left s b zs))
    (empty_append xs ys))

-- a text in parentheses, or alone
in_brackets : (b : Bool) (t page : List ℕ) {alone inner : List ℕ}
    → alone ≡ written page t → inner ≡ written (written page (codes "(")) t
    → (if b then alone else written inner (codes ")")) ≡ written page (bracketed b t)
unfolding bracketed
in_brackets true t page e h = e
in_brackets false t page e h = then_text page (codes "(" ⧺ t) (codes ")") (then_part page (codes "(") t refl h)

-- how a value is dealt out over targets

more_end : (n : ℕ) → tuple_end (suc (suc n)) ≡ codes ")"
unfolding tuple_end
more_end n = ap (λ (b : Bool). if b then codes ",)" else codes ")") (ne_eqb (suc (suc n)) 1 (λ h. omega arith))

end_of : {A : Type 0} (i : ℕ) (ps : Targets A) → spec_end (holds_group ps) ≡ tuple_end (suc (length (inner_specs i ps)))
unfolding tuple_end spec_end
end_of i trees.no_targets = refl
end_of i (trees.target (trees.to_place x) ps) = end_of (suc i) ps
end_of i (trees.target (trees.group qs) ps) = sym (more_end (length (inner_specs (suc i) ps)))

spec_from : {A : Type 0} (ps : Targets A) (page : List ℕ)
    → put_inner_specs 0 ps (written (written page (codes "(")) (decimal (targets_count ps)))
    ≡ written (written (written page (codes "(")) (decimal (targets_count ps))) (further (codes ", ")
    (inner_specs 0 ps))
    → put_spec ps page ≡ written page (spec_text ps)
unfolding joined
spec_from ps page h =
    ap (written (put_inner_specs 0 ps (written (written page (codes "(")) (decimal (targets_count ps))))) (end_of 0 ps)
    ∙ then_text page (codes "(" ⧺ (decimal (targets_count ps) ⧺ further (codes ", ") (inner_specs 0 ps))) (tuple_end
    (suc (length (inner_specs 0 ps))))
    (then_part page (codes "(") (decimal (targets_count ps) ⧺ further (codes ", ") (inner_specs 0 ps)) refl
    (then_part (written page (codes "(")) (decimal (targets_count ps)) (further (codes ", ")
    (inner_specs 0 ps)) refl h))

-- a list that stands among others
inner_from : (i : ℕ) (page spec : List ℕ) {q : List ℕ}
    → q ≡ written (written (written (written (written page (codes ", ")) (codes "(")) (decimal i)) (codes ", ")) spec
    → written q (codes ")") ≡ written page (further (codes ", ") ((codes "(" ⧺ listed (decimal i ∷ spec ∷ [])
    ⧺ tuple_end 2) ∷ []))
unfolding joined further tuple_end
inner_from i page spec e = ap (λ (p : List ℕ). written p (codes ")")) e ∙ simp (written_beside, written_nil)

mutual
  inner_specs_written : {A : Type 0} (i : ℕ) (ps : Targets A) (page : List ℕ) → put_inner_specs i ps page
      ≡ written page (further (codes ", ") (inner_specs i ps))
  inner_specs_written i trees.no_targets page = left_none (codes ", ") page false
  inner_specs_written i (trees.target p ps) page =
      inner_specs_written (suc i) ps (put_inner_spec i p page)
      ∙ (ap (λ (q : List ℕ). written q (further (codes ", ") (inner_specs (suc i) ps))) (inner_spec_written i p page)
      ∙ sym (further_append (codes ", ") page (inner_spec i p) (inner_specs (suc i) ps)))

  inner_spec_written : {A : Type 0} (i : ℕ) (x : Target A) (page : List ℕ) → put_inner_spec i x page ≡ written page
      (further (codes ", ") (inner_spec i x))
  inner_spec_written i (trees.to_place p) page = left_none (codes ", ") page false
  inner_spec_written i (trees.group ps) page =
      inner_from i page (spec_text ps)
      (spec_from ps (written (written (written (written page (codes ", ")) (codes "(")) (decimal i)) (codes ", "))
      (inner_specs_written 0 ps (written (written (written (written (written (written page (codes ", ")) (codes "("))
      (decimal i)) (codes ", ")) (codes "(")) (decimal (targets_count ps)))))

pub spec_written : {A : Type 0} (ps : Targets A) (page : List ℕ) → put_spec ps page ≡ written page (spec_text ps)
spec_written ps page = spec_from ps page (inner_specs_written 0 ps (written (written page (codes "(")) (decimal
    (targets_count ps))))

pub dealing_written : {A : Type 0} (ps : Targets A) (page function e : List ℕ) {q : List ℕ}
    → q ≡ written (written (written page function) (codes "(")) e
    → put_dealing ps q ≡ written page (call_text function (e ∷ spec_text ps ∷ codes "_getiter_" ∷ []))
unfolding joined further
dealing_written ps page function e {q = q} h =
    ap (λ (p : List ℕ). written (written (written p (codes ", ")) (codes "_getiter_")) (codes ")")) (spec_written ps
    (written q (codes ", ")))
    ∙ (ap (λ (p : List ℕ). written (written (written (written (written p (codes ", ")) (spec_text ps)) (codes ", "))
    (codes "_getiter_")) (codes ")")) h
    ∙ simp (written_beside, written_nil))

iterable_written : {A : Type 0} (x : Target A) (e page : List ℕ) {q : List ℕ} → q ≡ written (open_iterable x page) e
    → close_iterable x q ≡ written page (guarded_iterable x e)
unfolding joined further
iterable_written (trees.to_place p) e page h = ap (λ (p : List ℕ). written p (codes ")")) h ∙ simp
    (written_beside, written_nil)
iterable_written (trees.group ps) e page h = dealing_written ps page (codes "_iter_unpack_sequence_") e h

module _ {A : Type 0} (word : A → List ℕ) where
  exprs_are : (es : Exprs A) → exprs_count es ≡ length (exprs_texts word es)
  exprs_are trees.no_exprs = refl
  exprs_are (trees.expr e es) = ap suc (exprs_are es)

  targets_are : (ps : Targets A) → targets_count ps ≡ length (targets_texts word ps)
  targets_are trees.no_targets = refl
  targets_are (trees.target p ps) = ap suc (targets_are ps)

  starred_written : (first : Bool) (stars : List ℕ) (name : Option (Named A)) (page : List ℕ)
      → put_starred word first stars name page ≡ written page (left (codes ", ") first (starred stars
      (option_named word name)))
  unfolding further
  starred_written first stars None page = left_none (codes ", ") page first
  starred_written first stars (Some n) page =
      left_one (codes ", ") page first (stars ⧺ word n.name) []
      (then_text (written page (gap (codes ", ") first)) stars (word n.name) refl)
      (sym (written_nil (written (written (written page (gap (codes ", ") first)) stars) (word n.name))))

  plain_is_empty : (ps : Plain A) → has_no_plain ps ≡ is_empty (plain_texts word ps)
  unfolding is_empty
  plain_is_empty trees.no_plain = refl
  plain_is_empty (trees.plain n e ps) = refl

  starred_is_empty : (stars : List ℕ) (name : Option (Named A)) → has_none name ≡ is_empty (starred stars
      (option_named word name))
  unfolding is_empty
  starred_is_empty stars None = refl
  starred_is_empty stars (Some n) = refl

  lambda_gap : (ps : Params A) → gap (codes " ") (has_no_params ps) ≡ space_before (params_texts word ps)
  unfolding gap space_before
  lambda_gap (trees.params trees.no_plain None None) = refl
  lambda_gap (trees.params trees.no_plain None (Some d)) = refl
  lambda_gap (trees.params trees.no_plain (Some l) d) = refl
  lambda_gap (trees.params (trees.plain n e ps) l d) = refl

  params_from : (ps : Plain A) (l d : Option (Named A)) (page : List ℕ) {q : List ℕ} → q ≡ written page (joined
      (codes ", ") (plain_texts word ps))
      → put_starred word (has_no_plain ps && has_none l) (codes "**") d (put_starred word (has_no_plain ps)
      (codes "*") l q)
      ≡ written page (listed (params_texts word (trees.params ps l d)))
  params_from ps l d page {q = q} h =
      let stars : List (List ℕ) = starred (codes "*") (option_named word l) in
      let pairs : List (List ℕ) = starred (codes "**") (option_named word d) in
      starred_written (has_no_plain ps && has_none l) (codes "**") d (put_starred word (has_no_plain ps)
      (codes "*") l q)
      ∙ (ap (λ (p : List ℕ). written p (left (codes ", ") (has_no_plain ps && has_none l) pairs)) (starred_written
      (has_no_plain ps) (codes "*") l q)
      ∙ (ap (λ (p : List ℕ). written (written p (left (codes ", ") (has_no_plain ps) stars)) (left (codes ", ")
      (has_no_plain ps && has_none l) pairs)) h
      ∙ (ap (λ (b : Bool). written (written (written page (joined (codes ", ") (plain_texts word ps))) (left
      (codes ", ") b stars)) (left (codes ", ") (b && has_none l) pairs)) (plain_is_empty ps)
      ∙ (ap (λ (b : Bool). written (written (written page (joined (codes ", ") (plain_texts word ps))) (left
      (codes ", ") (is_empty (plain_texts word ps)) stars)) (left (codes ", ") (is_empty
      (plain_texts word ps) && b) pairs)) (starred_is_empty (codes "*") l)
      ∙ sym (three_lists (codes ", ") page (plain_texts word ps) stars pairs)))))

  mutual
    unfolding joined further

    pub expr_written : (x : Expr A) (page : List ℕ) → put_expr word x page ≡ written page (expr_text word x)
    expr_written (trees.node l f) page = form_written f page

    form_written : (f : Form A) (page : List ℕ) → put_form word f page ≡ written page (form_text word f)
    form_written (trees.name n) page = refl
    form_written (trees.int n) page = refl
    form_written (trees.text x) page = refl
    form_written (trees.const c) page = refl
    form_written (trees.tuple es) page = ap (λ (n : ℕ). written (put_exprs word true es (written page (codes "(")))
        (tuple_end n)) (exprs_are es) ∙ then_text _ _ _ (then_part _ _ _ refl (exprs_written true es _))
    form_written (trees.list es) page = then_text _ _ _ (then_part _ _ _ refl (exprs_written true es _))
    form_written (trees.dict ps) page = then_text _ _ _ (then_part _ _ _ refl (pairs_written true ps _))
    form_written (trees.list_of b e cs) page = then_text _ _ _ (then_part _ _ _ (then_part _ _ _ refl (expr_written e _))
        (clauses_written cs _))
    form_written (trees.dict_of b k e cs) page = then_text _ _ _ (then_part _ _ _ (then_part _ _ _ (then_text _ _ _
        (then_part _ _ _ refl (expr_written k _))) (expr_written e _)) (clauses_written cs _))
    form_written (trees.lambda b ps e) page = then_part _ _ _ (then_text _ _ _ (then_part _ _ _ (then_text _ _ _ refl)
        (params_written ps _))) (expr_written e _) ∙ ap (λ (g : List ℕ). written page (codes "lambda" ⧺ g ⧺ listed
        (params_texts word ps) ⧺ codes ": " ⧺ expr_text word e)) (lambda_gap ps)
    form_written (trees.cond x y z) page = then_part _ _ _ (then_text _ _ _ (then_part _ _ _ (then_text _ _ _
        (operand_written y page)) (operand_written x _))) (operand_written z _)
    form_written (trees.or es) page = operands_written (codes " or ") true es page
    form_written (trees.and es) page = operands_written (codes " and ") true es page
    form_written (trees.not e) page = then_part _ _ _ refl (operand_written e _)
    form_written (trees.compare e os) page = then_part _ _ _ (operand_written e page) (tests_written os _)
    form_written (trees.chain e os) page = then_part _ _ _ (operand_written e page) (ops_written os _)
    form_written (trees.unary u e) page = then_part _ _ _ refl (operand_written e _)
    form_written (trees.power x y) page = then_part _ _ _ (then_text _ _ _ (operand_written x page)) (operand_written y _)
    form_written (trees.primary e xs) page = trailed_written xs (base_text word (begins_guarded xs) e) page (base_written
        (begins_guarded xs) e (put_openings xs page))

    operand_written : (x : Expr A) (page : List ℕ) → put_operand word x page ≡ written page (operand_text word x)
    operand_written (trees.node l f) page = in_brackets (stands_alone f) (form_text word f) page (form_written f page)
        (form_written f (written page (codes "(")))

    base_written : (guarded : Bool) (x : Expr A) (page : List ℕ) → put_base word guarded x page ≡ written page
        (base_text word guarded x)
    base_written guarded (trees.node l f) page = in_brackets (guarded || stands_before_trailer f) (form_text word f) page
        (form_written f page) (form_written f (written page (codes "(")))

    exprs_written : (first : Bool) (x : Exprs A) (page : List ℕ) → put_exprs word first x page ≡ written page (left
        (codes ", ") first (exprs_texts word x))
    exprs_written first trees.no_exprs page = left_none (codes ", ") page first
    exprs_written first (trees.expr e es) page = left_one (codes ", ") page first _ _ (expr_written e (written page (gap
        (codes ", ") first))) (exprs_written false es _)

    operands_written : (s : List ℕ) (first : Bool) (x : Exprs A) (page : List ℕ) → put_operands word s first x page
        ≡ written page (left s first (operands_texts word x))
    operands_written s first trees.no_exprs page = left_none s page first
    operands_written s first (trees.expr e es) page = left_one s page first _ _ (operand_written e (written page
        (gap s first))) (operands_written s false es _)

    pairs_written : (first : Bool) (x : Pairs A) (page : List ℕ) → put_pairs word first x page ≡ written page (left
        (codes ", ") first (pairs_texts word x))
    pairs_written first trees.no_pairs page = left_none (codes ", ") page first
    pairs_written first (trees.pair k e ps) page = left_one (codes ", ") page first _ _ (then_part _ _ _ (then_text _ _ _
        (expr_written k (written page (gap (codes ", ") first)))) (expr_written e _)) (pairs_written false ps _)

    targets_written : (first : Bool) (x : Targets A) (page : List ℕ) → put_targets word first x page ≡ written page
        (left (codes ", ") first (targets_texts word x))
    targets_written first trees.no_targets page = left_none (codes ", ") page first
    targets_written first (trees.target p ps) page = left_one (codes ", ") page first _ _ (target_written p (written page
        (gap (codes ", ") first))) (targets_written false ps _)

    plain_written : (first : Bool) (x : Plain A) (page : List ℕ) → put_plain word first x page ≡ written page (left
        (codes ", ") first (plain_texts word x))
    plain_written first trees.no_plain page = left_none (codes ", ") page first
    plain_written first (trees.plain n e ps) page = left_one (codes ", ") page first _ _ (then_part _ _ _ refl
        (default_written e _)) (plain_written false ps _)

    args_written : (first : Bool) (x : Args A) (page : List ℕ) → put_args word first x page ≡ written page (left
        (codes ", ") first (args_texts word x))
    args_written first trees.no_args page = left_none (codes ", ") page first
    args_written first (trees.arg x xs) page = left_one (codes ", ") page first _ _ (arg_written x (written page (gap
        (codes ", ") first))) (args_written false xs _)

    tests_written : (x : Tests A) (page : List ℕ) → put_tests word x page ≡ written page (tests_text word x)
    tests_written trees.no_tests page = sym (written_nil page)
    tests_written (trees.test o e os) page = then_part _ _ _ (then_part _ _ _ (then_text _ _ _ (then_text _ _ _ refl))
        (operand_written e _)) (tests_written os _)

    ops_written : (x : Ops A) (page : List ℕ) → put_ops word x page ≡ written page (ops_text word x)
    ops_written trees.no_ops page = sym (written_nil page)
    ops_written (trees.op o e os) page = then_part _ _ _ (then_part _ _ _ (then_text _ _ _ (then_text _ _ _ refl))
        (operand_written e _)) (ops_written os _)

    clauses_written : (x : Clauses A) (page : List ℕ) → put_clauses word x page ≡ written page (clauses_text word x)
    clauses_written trees.no_clauses page = sym (written_nil page)
    clauses_written (trees.clause c cs) page = then_part _ _ _ (clause_written c page) (clauses_written cs _)

    clause_written : (x : Clause A) (page : List ℕ) → put_clause word x page ≡ written page (clause_text word x)
    clause_written (trees.a_clause w es) page = then_part _ _ _ (then_part _ _ _ (then_part _ _ _ refl (walk_written w _))
        (clause_iterable_written w _)) (conditions_written es _)

    conditions_written : (x : Exprs A) (page : List ℕ) → put_conditions word x page ≡ written page
        (conditions_text word x)
    conditions_written trees.no_exprs page = sym (written_nil page)
    conditions_written (trees.expr e es) page = then_part _ _ _ (then_part _ _ _ refl (operand_written e _))
        (conditions_written es _)

    pub walk_written : (x : Walk A) (page : List ℕ) → put_walk word x page ≡ written page (walk_text word x)
    walk_written (trees.a_walk p e g) page = then_text _ _ _ (then_part _ _ _ refl (target_written p _))

    clause_iterable_written : (x : Walk A) (page : List ℕ) → put_clause_iterable word x page ≡ written page
        (clause_iterable word x)
    clause_iterable_written (trees.a_walk p e None) page = operand_written e page
    clause_iterable_written (trees.a_walk p e (Some g)) page = iterable_written p (expr_text word e) page (expr_written e
        (open_iterable p page))

    pub statement_iterable_written : (x : Walk A) (page : List ℕ) → put_statement_iterable word x page ≡ written page
        (statement_iterable word x)
    statement_iterable_written (trees.a_walk p e None) page = expr_written e page
    statement_iterable_written (trees.a_walk p e (Some g)) page = iterable_written p (expr_text word e) page
        (expr_written e (open_iterable p page))

    pub target_written : (x : Target A) (page : List ℕ) → put_target word x page ≡ written page (target_text word x)
    target_written (trees.to_place p) page = place_written p page
    target_written (trees.group ps) page = ap (λ (n : ℕ). written (put_targets word true ps (written page (codes "(")))
        (tuple_end n)) (targets_are ps) ∙ then_text _ _ _ (then_part _ _ _ refl (targets_written true ps _))

    pub place_written : (x : Place A) (page : List ℕ) → put_place word x page ≡ written page (place_text word x)
    place_written (trees.to_name n) page = refl
    place_written (trees.to_attr e n None) page = then_text _ _ _ (then_text _ _ _ (base_written false e page))
    place_written (trees.to_attr e n (Some g)) page = then_text _ _ _ (then_text _ _ _ (then_text _ _ _ (then_part _ _ _
        (then_text _ _ _ refl) (expr_written e _)))) ∙ simp (written_beside, written_nil)
    place_written (trees.to_item e i None) page = then_text _ _ _ (then_part _ _ _ (then_text _ _ _
        (base_written false e page)) (expr_written i _))
    place_written (trees.to_item e i (Some g)) page = then_text _ _ _ (then_part _ _ _ (then_text _ _ _ (then_text _ _ _
        (then_part _ _ _ (then_text _ _ _ refl) (expr_written e _)))) (expr_written i _)) ∙ simp
        (written_beside, written_nil)

    default_written : (x : Maybe A) (page : List ℕ) → put_default word x page ≡ written page (default_text word x)
    default_written trees.none page = sym (written_nil page)
    default_written (trees.some e) page = then_part _ _ _ refl (expr_written e _)

    bound_written : (x : Maybe A) (page : List ℕ) → put_bound word x page ≡ written page (bound_text word x)
    bound_written trees.none page = sym (written_nil page)
    bound_written (trees.some e) page = expr_written e page

    stride_written : (x : Maybe A) (page : List ℕ) → put_stride word x page ≡ written page (stride_text word x)
    stride_written trees.none page = sym (written_nil page)
    stride_written (trees.some e) page = then_part _ _ _ refl (expr_written e _)

    part_written : (x : Maybe A) (page : List ℕ) → put_part word x page ≡ written page (part_text word x)
    part_written trees.none page = refl
    part_written (trees.some e) page = expr_written e page

    arg_written : (x : Arg A) (page : List ℕ) → put_arg word x page ≡ written page (arg_text word x)
    arg_written (trees.value e) page = expr_written e page
    arg_written (trees.star e) page = then_part _ _ _ refl (expr_written e _)
    arg_written (trees.key n e) page = then_part _ _ _ (then_text _ _ _ refl) (expr_written e _)
    arg_written (trees.stars e) page = then_part _ _ _ refl (expr_written e _)

    pub params_written : (x : Params A) (page : List ℕ) → put_params word x page ≡ written page (listed
        (params_texts word x))
    params_written (trees.params ps l d) page = params_from ps l d page (plain_written true ps page)

    trailed_written : (xs : Trailers A) (so_far page : List ℕ) {q : List ℕ} → q ≡ written
        (put_openings xs page) so_far → put_closings word xs q ≡ written page (trailed word so_far xs)
    trailed_written trees.no_trailers so_far page h = h
    trailed_written (trees.trailer x xs) so_far page h = trailed_written xs (with_trailer word so_far x) page
        (closing_written x so_far (put_openings xs page) h)

    closing_written : (x : Trailer A) (so_far page : List ℕ) {q : List ℕ} → q ≡ written (put_opening x page) so_far
        → put_closing word x q ≡ written page (with_trailer word so_far x)
    closing_written (trees.attr n None) so_far page {q = q} h = then_text _ _ _ (then_text _ _ _ h)
    closing_written (trees.attr n (Some g)) so_far page {q = q} h = then_text _ _ _ (then_text _ _ _ (then_text _ _ _
        (then_text _ _ _ (then_text _ _ _ (h ∙ then_text page (codes "_getattr_" ⧺ codes "(") so_far (then_text page
        (codes "_getattr_") (codes "(") refl)))))) ∙ simp (written_beside, written_nil)
    closing_written (trees.item e None) so_far page {q = q} h = then_text _ _ _ (then_part _ _ _ (then_text _ _ _ h)
        (expr_written e _))
    closing_written (trees.item e (Some g)) so_far page {q = q} h = then_text _ _ _ (then_part _ _ _ (then_text _ _ _ (h
        ∙ then_text page (codes "_getitem_" ⧺ codes "(") so_far (then_text page (codes "_getitem_")
        (codes "(") refl))) (expr_written e _)) ∙ simp (written_beside, written_nil)
    closing_written (trees.slice x y z None) so_far page {q = q} h = then_text _ _ _ (then_part _ _ _ (then_part _ _ _
        (then_text _ _ _ (then_part _ _ _ (then_text _ _ _ h) (bound_written x _))) (bound_written y _))
        (stride_written z _))
    closing_written (trees.slice x y z (Some g)) so_far page {q = q} h = then_text _ _ _ (then_text _ _ _ (then_part _ _ _
        (then_text _ _ _ (then_part _ _ _ (then_text _ _ _ (then_part _ _ _ (then_text _ _ _ (then_text _ _ _
        (then_text _ _ _ (h ∙ then_text page (codes "_getitem_" ⧺ codes "(") so_far (then_text page
        (codes "_getitem_") (codes "(") refl))))) (part_written x _))) (part_written y _))) (part_written z _)))
        ∙ simp (written_beside, written_nil)
    closing_written (trees.call xs None) so_far page {q = q} h = then_text _ _ _ (then_part _ _ _ (then_text _ _ _ h)
        (args_written true xs _))
    closing_written (trees.call xs (Some g)) so_far page {q = q} h = then_text _ _ _ (then_part _ _ _ (h ∙ then_text page
        (codes "_apply_" ⧺ codes "(") so_far (then_text page (codes "_apply_") (codes "(") refl))
        (args_written false xs _)) ∙ simp written_beside
