-- How a page grows while the code walks over an expression: it goes from one part to the next, and guards open before
-- the text that they are put around.
use Rattle.std.specs.Prelude.{ℕ, suc, Bool, true, false, ◌&&◌, ◌||◌, codes, if◌then◌else◌, List, Option, Some, None}
use Rattle.std.specs.Fmt.{decimal, signed_decimal}
use Rattle.rp_tree.specs.declared.parts.Named.{Named}
use Rattle.rp_tree.specs.ExpressionTrees as trees
use Rattle.rp_tree.specs.ExpressionTrees.{Expr, Form, Exprs, Maybe, Pairs, Tests, Ops, Clause, Clauses, Walk}
use Rattle.rp_tree.specs.ExpressionTrees.{Target, Targets, Place, Params, Plain, Trailer, Trailers, Arg, Args}
use Rattle.rp_show.specs.Shown.{quoted}
use Rattle.rp_print.specs.Texts.{tuple_end}
use Rattle.rp_print.specs.Operators.{binary_text, const_text, test_text, unary_text}
use Rattle.rp_print.specs.Expressions.{begins_guarded, stands_alone, stands_before_trailer, targets_count}
use Rattle.rp_print.specs.PageSteps.{gap, spec_end, written}

-- the name of a function and the parenthesis behind it
abbrev pub opened : List ℕ → List ℕ → List ℕ
opened function page = written (written page function) (codes "(")

-- an operator with a space on each side
abbrev pub put_between : List ℕ → List ℕ → List ℕ
put_between mark page = written (written (written page (codes " ")) mark) (codes " ")

abbrev pub is_group : {A : Type 0} → Target A → Bool
is_group (trees.to_place p) = false
is_group (trees.group ps) = true

-- a list stands among the targets
abbrev pub holds_group : {A : Type 0} → Targets A → Bool
holds_group trees.no_targets = false
holds_group (trees.target p ps) = is_group p || holds_group ps

abbrev pub exprs_count : {A : Type 0} → Exprs A → ℕ
exprs_count trees.no_exprs = 0
exprs_count (trees.expr e es) = suc (exprs_count es)

-- how a value is dealt out over a list of targets, whose number is written, and that of those that are lists themselves
abbrev mutual
  pub put_inner_specs : {A : Type 0} → ℕ → Targets A → List ℕ → List ℕ
  put_inner_specs i trees.no_targets page = page
  put_inner_specs i (trees.target p ps) page = put_inner_specs (suc i) ps (put_inner_spec i p page)

  pub put_inner_spec : {A : Type 0} → ℕ → Target A → List ℕ → List ℕ
  put_inner_spec i (trees.to_place p) page = page
  put_inner_spec i (trees.group ps) page =
      written
      (written
      (put_inner_specs 0 ps
      (written
      (written (written (written (written (written page (codes ", ")) (codes "(")) (decimal i)) (codes ", "))
      (codes "("))
      (decimal (targets_count ps))))
      (spec_end (holds_group ps)))
      (codes ")")

abbrev pub put_spec : {A : Type 0} → Targets A → List ℕ → List ℕ
put_spec ps page =
    written (put_inner_specs 0 ps (written (written page (codes "(")) (decimal (targets_count ps)))) (spec_end
    (holds_group ps))

-- what stands behind a value that is handed to a guard with the list of targets over which it is dealt out
abbrev pub put_dealing : {A : Type 0} → Targets A → List ℕ → List ℕ
put_dealing ps page =
    written (written (written (put_spec ps (written page (codes ", "))) (codes ", ")) (codes "_getiter_")) (codes ")")

-- what stands before and behind an iterable that is handed to a guard
abbrev pub open_iterable : {A : Type 0} → Target A → List ℕ → List ℕ
open_iterable (trees.to_place p) page = opened (codes "_getiter_") page
open_iterable (trees.group ps) page = opened (codes "_iter_unpack_sequence_") page

abbrev pub close_iterable : {A : Type 0} → Target A → List ℕ → List ℕ
close_iterable (trees.to_place p) page = written page (codes ")")
close_iterable (trees.group ps) page = put_dealing ps page

-- the name of the guard of a trailer and the parenthesis behind it
abbrev pub put_opening : {A : Type 0} → Trailer A → List ℕ → List ℕ
put_opening (trees.attr n None) page = page
put_opening (trees.attr n (Some g)) page = opened (codes "_getattr_") page
put_opening (trees.item e None) page = page
put_opening (trees.item e (Some g)) page = opened (codes "_getitem_") page
put_opening (trees.slice x y z None) page = page
put_opening (trees.slice x y z (Some g)) page = opened (codes "_getitem_") page
put_opening (trees.call xs None) page = page
put_opening (trees.call xs (Some g)) page = opened (codes "_apply_") page

-- what trails last opens first
abbrev pub put_openings : {A : Type 0} → Trailers A → List ℕ → List ℕ
put_openings trees.no_trailers page = page
put_openings (trees.trailer x xs) page = put_opening x (put_openings xs page)

-- no parameter without a star; none at all
abbrev pub has_no_plain : {A : Type 0} → Plain A → Bool
has_no_plain trees.no_plain = true
has_no_plain (trees.plain n e ps) = false

abbrev pub has_none : {B : Type 0} → Option B → Bool
has_none None = true
has_none (Some x) = false

abbrev pub has_no_params : {A : Type 0} → Params A → Bool
has_no_params (trees.params ps l d) = has_no_plain ps && has_none l && has_none d

-- no parameter without a star and no list of arguments
abbrev pub has_no_list : {A : Type 0} → Params A → Bool
has_no_list (trees.params ps l d) = has_no_plain ps && has_none l

abbrev pub no_plain_of : {A : Type 0} → Params A → Bool
no_plain_of (trees.params ps l d) = has_no_plain ps

-- where names stand for these words
module _ {A : Type 0} (word : A → List ℕ) where
  -- a name behind stars, where there is one
  abbrev pub put_starred : Bool → List ℕ → Option (Named A) → List ℕ → List ℕ
  put_starred first stars None page = page
  put_starred first stars (Some n) page = written (written (written page (gap (codes ", ") first)) stars) (word n.name)

  abbrev mutual
    pub put_expr : Expr A → List ℕ → List ℕ
    put_expr (trees.node l f) page = put_form f page

    pub put_form : Form A → List ℕ → List ℕ
    put_form (trees.name n) page = written page (word n)
    put_form (trees.int n) page = written page (signed_decimal n)
    put_form (trees.text x) page = written page (quoted x)
    put_form (trees.const c) page = written page (const_text c)
    put_form (trees.tuple es) page = written (put_exprs true es (written page (codes "("))) (tuple_end (exprs_count es))
    put_form (trees.list es) page = written (put_exprs true es (written page (codes "["))) (codes "]")
    put_form (trees.dict ps) page = written (put_pairs true ps (written page (codes "{"))) (codes "}")
    put_form (trees.list_of b e cs) page = written (put_clauses cs (put_expr e (written page (codes "[")))) (codes "]")
    put_form (trees.dict_of b k e cs) page =
        written (put_clauses cs (put_expr e (written (put_expr k (written page (codes "{"))) (codes ": ")))) (codes "}")
    put_form (trees.lambda b ps e) page =
        put_expr e
        (written (put_params ps (written (written page (codes "lambda")) (gap (codes " ") (has_no_params ps))))
        (codes ": "))
    put_form (trees.cond x y z) page =
        put_operand z (written (put_operand x (written (put_operand y page) (codes " if "))) (codes " else "))
    put_form (trees.or es) page = put_operands (codes " or ") true es page
    put_form (trees.and es) page = put_operands (codes " and ") true es page
    put_form (trees.not e) page = put_operand e (written page (codes "not "))
    put_form (trees.compare e os) page = put_tests os (put_operand e page)
    put_form (trees.chain e os) page = put_ops os (put_operand e page)
    put_form (trees.unary u e) page = put_operand e (written page (unary_text u))
    put_form (trees.power x y) page = put_operand y (written (put_operand x page) (codes " ** "))
    put_form (trees.primary e xs) page = put_closings xs (put_base (begins_guarded xs) e (put_openings xs page))

    pub put_operand : Expr A → List ℕ → List ℕ
    put_operand (trees.node l f) page =
        if stands_alone f then put_form f page else written (put_form f (written page (codes "("))) (codes ")")

    pub put_base : Bool → Expr A → List ℕ → List ℕ
    put_base guarded (trees.node l f) page =
        if guarded || stands_before_trailer f then put_form f page else written (put_form f (written page
        (codes "("))) (codes ")")

    pub put_exprs : Bool → Exprs A → List ℕ → List ℕ
    put_exprs first trees.no_exprs page = page
    put_exprs first (trees.expr e es) page = put_exprs false es (put_expr e (written page (gap (codes ", ") first)))

    pub put_operands : List ℕ → Bool → Exprs A → List ℕ → List ℕ
    put_operands separator first trees.no_exprs page = page
    put_operands separator first (trees.expr e es) page =
        put_operands separator false es (put_operand e (written page (gap separator first)))

    pub put_pairs : Bool → Pairs A → List ℕ → List ℕ
    put_pairs first trees.no_pairs page = page
    put_pairs first (trees.pair k e ps) page =
        put_pairs false ps (put_expr e (written (put_expr k (written page (gap (codes ", ") first))) (codes ": ")))

    pub put_tests : Tests A → List ℕ → List ℕ
    put_tests trees.no_tests page = page
    put_tests (trees.test o e os) page = put_tests os (put_operand e (put_between (test_text o) page))

    pub put_ops : Ops A → List ℕ → List ℕ
    put_ops trees.no_ops page = page
    put_ops (trees.op o e os) page = put_ops os (put_operand e (put_between (binary_text o) page))

    pub put_clauses : Clauses A → List ℕ → List ℕ
    put_clauses trees.no_clauses page = page
    put_clauses (trees.clause c cs) page = put_clauses cs (put_clause c page)

    pub put_clause : Clause A → List ℕ → List ℕ
    put_clause (trees.a_clause w es) page = put_conditions es (put_clause_iterable w (put_walk w (written page
        (codes " "))))

    pub put_conditions : Exprs A → List ℕ → List ℕ
    put_conditions trees.no_exprs page = page
    put_conditions (trees.expr e es) page = put_conditions es (put_operand e (written page (codes " if ")))

    pub put_walk : Walk A → List ℕ → List ℕ
    put_walk (trees.a_walk p e g) page = written (put_target p (written page (codes "for "))) (codes " in ")

    pub put_clause_iterable : Walk A → List ℕ → List ℕ
    put_clause_iterable (trees.a_walk p e None) page = put_operand e page
    put_clause_iterable (trees.a_walk p e (Some g)) page = close_iterable p (put_expr e (open_iterable p page))

    pub put_statement_iterable : Walk A → List ℕ → List ℕ
    put_statement_iterable (trees.a_walk p e None) page = put_expr e page
    put_statement_iterable (trees.a_walk p e (Some g)) page = close_iterable p (put_expr e (open_iterable p page))

    pub put_target : Target A → List ℕ → List ℕ
    put_target (trees.to_place p) page = put_place p page
    put_target (trees.group ps) page = written (put_targets true ps (written page (codes "("))) (tuple_end
        (targets_count ps))

    pub put_targets : Bool → Targets A → List ℕ → List ℕ
    put_targets first trees.no_targets page = page
    put_targets first (trees.target p ps) page = put_targets false ps (put_target p (written page (gap (codes ", ") first)))

    pub put_place : Place A → List ℕ → List ℕ
    put_place (trees.to_name n) page = written page (word n.name)
    put_place (trees.to_attr e n None) page = written (written (put_base false e page) (codes ".")) (word n.name)
    put_place (trees.to_attr e n (Some g)) page =
        written (written (written (put_expr e (opened (codes "_write_") page)) (codes ")")) (codes ".")) (word n.name)
    put_place (trees.to_item e i None) page = written (put_expr i (written (put_base false e page) (codes "["))) (codes "]")
    put_place (trees.to_item e i (Some g)) page =
        written (put_expr i (written (written (put_expr e (opened (codes "_write_") page)) (codes ")")) (codes "[")))
        (codes "]")

    pub put_params : Params A → List ℕ → List ℕ
    put_params (trees.params ps l d) page =
        put_starred (has_no_plain ps && has_none l) (codes "**") d
        (put_starred (has_no_plain ps) (codes "*") l (put_plain true ps page))

    pub put_plain : Bool → Plain A → List ℕ → List ℕ
    put_plain first trees.no_plain page = page
    put_plain first (trees.plain n e ps) page =
        put_plain false ps (put_default e (written (written page (gap (codes ", ") first)) (word n.name)))

    pub put_default : Maybe A → List ℕ → List ℕ
    put_default trees.none page = page
    put_default (trees.some e) page = put_expr e (written page (codes "="))

    pub put_closings : Trailers A → List ℕ → List ℕ
    put_closings trees.no_trailers page = page
    put_closings (trees.trailer x xs) page = put_closings xs (put_closing x page)

    pub put_closing : Trailer A → List ℕ → List ℕ
    put_closing (trees.attr n None) page = written (written page (codes ".")) (word n.name)
    put_closing (trees.attr n (Some g)) page =
        written (written (written (written (written page (codes ", ")) (codes "'")) (word n.name)) (codes "'"))
        (codes ")")
    put_closing (trees.item e None) page = written (put_expr e (written page (codes "["))) (codes "]")
    put_closing (trees.item e (Some g)) page = written (put_expr e (written page (codes ", "))) (codes ")")
    put_closing (trees.slice x y z None) page =
        written (put_stride z (put_bound y (written (put_bound x (written page (codes "["))) (codes ":")))) (codes "]")
    put_closing (trees.slice x y z (Some g)) page =
        written
        (written
        (put_part z
        (written
        (put_part y (written (put_part x (opened (codes "slice") (written page (codes ", ")))) (codes ", ")))
        (codes ", ")))
        (codes ")"))
        (codes ")")
    put_closing (trees.call xs None) page = written (put_args true xs (written page (codes "("))) (codes ")")
    put_closing (trees.call xs (Some g)) page = written (put_args false xs page) (codes ")")

    pub put_bound : Maybe A → List ℕ → List ℕ
    put_bound trees.none page = page
    put_bound (trees.some e) page = put_expr e page

    pub put_stride : Maybe A → List ℕ → List ℕ
    put_stride trees.none page = page
    put_stride (trees.some e) page = put_expr e (written page (codes ":"))

    pub put_part : Maybe A → List ℕ → List ℕ
    put_part trees.none page = written page (codes "None")
    put_part (trees.some e) page = put_expr e page

    pub put_args : Bool → Args A → List ℕ → List ℕ
    put_args first trees.no_args page = page
    put_args first (trees.arg x xs) page = put_args false xs (put_arg x (written page (gap (codes ", ") first)))

    pub put_arg : Arg A → List ℕ → List ℕ
    put_arg (trees.value e) page = put_expr e page
    put_arg (trees.star e) page = put_expr e (written page (codes "*"))
    put_arg (trees.key n e) page = put_expr e (written (written page (word n)) (codes "="))
    put_arg (trees.stars e) page = put_expr e (written page (codes "**"))

  -- a slice behind what it is taken of, and as an argument of a guard
  abbrev pub put_slice : Maybe A → Maybe A → Maybe A → List ℕ → List ℕ
  put_slice x y z page =
      written (put_stride z (put_bound y (written (put_bound x (written page (codes "["))) (codes ":")))) (codes "]")

  abbrev pub put_guarded_slice : Maybe A → Maybe A → Maybe A → List ℕ → List ℕ
  put_guarded_slice x y z page =
      written
      (written
      (put_part z
      (written
      (put_part y (written (put_part x (opened (codes "slice") (written page (codes ", ")))) (codes ", ")))
      (codes ", ")))
      (codes ")"))
      (codes ")")

  -- tuples, lists and dicts, and what stands before that which a lambda gives
  abbrev pub put_tuple : Exprs A → List ℕ → List ℕ
  put_tuple es page = written (put_exprs true es (written page (codes "("))) (tuple_end (exprs_count es))

  abbrev pub put_list : Exprs A → List ℕ → List ℕ
  put_list es page = written (put_exprs true es (written page (codes "["))) (codes "]")

  abbrev pub put_dict : Pairs A → List ℕ → List ℕ
  put_dict ps page = written (put_pairs true ps (written page (codes "{"))) (codes "}")

  abbrev pub put_lambda_head : Params A → List ℕ → List ℕ
  put_lambda_head ps page =
      written (put_params ps (written (written page (codes "lambda")) (gap (codes " ") (has_no_params ps))))
      (codes ": ")
