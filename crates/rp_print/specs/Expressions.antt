-- The text of an expression (Python Language Reference, Expressions; RestrictedPython, transformer). A form that is
-- handed to a guard is a call of that guard.
-- Other way: what trails an atom is put around the text so far, from left to right; the code writes from the front, the
-- innermost call last.
use Rattle.std.specs.Prelude.{ℕ, suc, Bool, true, false, ◌||◌, List, [], ◌∷◌, ◌++◌, codes, Option, Some, None}
use Rattle.std.specs.Fmt.{decimal, signed_decimal}
use Rattle.rp_tree.specs.declared.parts.Named.{Named}
use Rattle.rp_tree.specs.ExpressionTrees as trees
use Rattle.rp_tree.specs.ExpressionTrees.{Expr, Form, Exprs, Maybe, Pairs, Tests, Ops, Clause, Clauses, Walk, Target}
use Rattle.rp_tree.specs.ExpressionTrees.{Targets, Place, Params, Plain, Trailer, Trailers, Arg, Args}
use Rattle.rp_show.specs.Shown.{quoted}
use Rattle.rp_print.specs.Texts.{◌⧺◌, bracketed, call_text, joined, listed, name_literal, space_before, tuple_text}
use Rattle.rp_print.specs.Operators.{binary_text, const_text, test_text, unary_text}

-- the forms that need no parentheses as an operand
abbrev pub stands_alone : {A : Type 0} → Form A → Bool
stands_alone (trees.name n) = true
stands_alone (trees.int n) = true
stands_alone (trees.text x) = true
stands_alone (trees.const c) = true
stands_alone (trees.tuple es) = true
stands_alone (trees.list es) = true
stands_alone (trees.dict ps) = true
stands_alone (trees.list_of b e cs) = true
stands_alone (trees.dict_of b k e cs) = true
stands_alone (trees.lambda b ps e) = false
stands_alone (trees.cond x y z) = false
stands_alone (trees.or es) = false
stands_alone (trees.and es) = false
stands_alone (trees.not e) = false
stands_alone (trees.compare e os) = false
stands_alone (trees.chain e os) = false
stands_alone (trees.unary u e) = false
stands_alone (trees.power x y) = false
stands_alone (trees.primary e xs) = true

-- the forms that need none before a dot or a bracket either: digits and a dot are no number, and what trails a
-- primary in parentheses is no part of its list
abbrev pub stands_before_trailer : {A : Type 0} → Form A → Bool
stands_before_trailer (trees.int n) = false
stands_before_trailer (trees.primary e xs) = false
stands_before_trailer f = stands_alone f

abbrev pub form_of : {A : Type 0} → Expr A → Form A
form_of (trees.node l f) = f

-- whether what trails an atom first is a call of a guard
abbrev pub is_guarded : {A : Type 0} → Trailer A → Bool
is_guarded (trees.attr n None) = false
is_guarded (trees.item e None) = false
is_guarded (trees.slice x y z None) = false
is_guarded (trees.call xs None) = false
is_guarded _ = true

abbrev pub begins_guarded : {A : Type 0} → Trailers A → Bool
begins_guarded trees.no_trailers = false
begins_guarded (trees.trailer x xs) = is_guarded x

abbrev pub targets_count : {A : Type 0} → Targets A → ℕ
targets_count trees.no_targets = 0
targets_count (trees.target p ps) = suc (targets_count ps)

-- how a value is dealt out over a list of targets: how many they are, and what is said of those that are lists
-- themselves
abbrev pub dealt : ℕ → List (List ℕ) → List ℕ
dealt count inner = tuple_text (decimal count ∷ inner)

-- of each that is a list itself: its place, counted from such a number, and how a value is dealt out over it
abbrev mutual
  pub inner_specs : {A : Type 0} → ℕ → Targets A → List (List ℕ)
  inner_specs i trees.no_targets = []
  inner_specs i (trees.target p ps) = inner_spec i p ++ inner_specs (suc i) ps

  pub inner_spec : {A : Type 0} → ℕ → Target A → List (List ℕ)
  inner_spec i (trees.to_place p) = []
  inner_spec i (trees.group ps) = tuple_text (decimal i ∷ dealt (targets_count ps) (inner_specs 0 ps) ∷ []) ∷ []

abbrev pub spec_text : {A : Type 0} → Targets A → List ℕ
spec_text ps = dealt (targets_count ps) (inner_specs 0 ps)

-- an iterable that is handed to a guard, by what its elements are assigned to
abbrev pub guarded_iterable : {A : Type 0} → Target A → List ℕ → List ℕ
guarded_iterable (trees.to_place p) e = call_text (codes "_getiter_") (e ∷ [])
guarded_iterable (trees.group ps) e = call_text (codes "_iter_unpack_sequence_") (e ∷ spec_text ps ∷ codes "_getiter_" ∷ [])

-- a name behind stars, where there is one
abbrev pub starred : List ℕ → Option (List ℕ) → List (List ℕ)
starred stars None = []
starred stars (Some name) = (stars ⧺ name) ∷ []

-- what stands before that which a lambda gives, with a space before its parameters, where there are any
abbrev pub lambda_head : List (List ℕ) → List ℕ
lambda_head params = codes "lambda" ⧺ space_before params ⧺ listed params ⧺ codes ": "

-- where names stand for these words
module _ {A : Type 0} (word : A → List ℕ) where
  abbrev pub option_named : Option (Named A) → Option (List ℕ)
  option_named None = None
  option_named (Some n) = Some (word n.name)

  abbrev mutual
    pub expr_text : Expr A → List ℕ
    expr_text (trees.node l f) = form_text f

    pub form_text : Form A → List ℕ
    form_text (trees.name n) = word n
    form_text (trees.int n) = signed_decimal n
    form_text (trees.text x) = quoted x
    form_text (trees.const c) = const_text c
    form_text (trees.tuple es) = tuple_text (exprs_texts es)
    form_text (trees.list es) = codes "[" ⧺ listed (exprs_texts es) ⧺ codes "]"
    form_text (trees.dict ps) = codes "{" ⧺ listed (pairs_texts ps) ⧺ codes "}"
    form_text (trees.list_of b e cs) = codes "[" ⧺ expr_text e ⧺ clauses_text cs ⧺ codes "]"
    form_text (trees.dict_of b k e cs) = codes "{" ⧺ expr_text k ⧺ codes ": " ⧺ expr_text e ⧺ clauses_text cs ⧺ codes "}"
    form_text (trees.lambda b ps e) = lambda_head (params_texts ps) ⧺ expr_text e
    -- the value where it is true stands before the test
    form_text (trees.cond x y z) = operand_text y ⧺ codes " if " ⧺ operand_text x ⧺ codes " else " ⧺ operand_text z
    form_text (trees.or es) = joined (codes " or ") (operands_texts es)
    form_text (trees.and es) = joined (codes " and ") (operands_texts es)
    form_text (trees.not e) = codes "not " ⧺ operand_text e
    form_text (trees.compare e os) = operand_text e ⧺ tests_text os
    form_text (trees.chain e os) = operand_text e ⧺ ops_text os
    form_text (trees.unary u e) = unary_text u ⧺ operand_text e
    form_text (trees.power x y) = operand_text x ⧺ codes " ** " ⧺ operand_text y
    form_text (trees.primary e xs) = trailed (base_text (begins_guarded xs) e) xs

    -- an operand
    pub operand_text : Expr A → List ℕ
    operand_text (trees.node l f) = bracketed (stands_alone f) (form_text f)

    -- what a trailer belongs to: as the argument of a guard, or with a dot or a bracket behind it
    pub base_text : Bool → Expr A → List ℕ
    base_text guarded (trees.node l f) = bracketed (guarded || stands_before_trailer f) (form_text f)

    pub exprs_texts : Exprs A → List (List ℕ)
    exprs_texts trees.no_exprs = []
    exprs_texts (trees.expr e es) = expr_text e ∷ exprs_texts es

    pub operands_texts : Exprs A → List (List ℕ)
    operands_texts trees.no_exprs = []
    operands_texts (trees.expr e es) = operand_text e ∷ operands_texts es

    -- keys with their values
    pub pairs_texts : Pairs A → List (List ℕ)
    pairs_texts trees.no_pairs = []
    pairs_texts (trees.pair k e ps) = (expr_text k ⧺ codes ": " ⧺ expr_text e) ∷ pairs_texts ps

    -- operators with their right operands
    pub tests_text : Tests A → List ℕ
    tests_text trees.no_tests = []
    tests_text (trees.test o e os) = codes " " ⧺ test_text o ⧺ codes " " ⧺ operand_text e ⧺ tests_text os

    pub ops_text : Ops A → List ℕ
    ops_text trees.no_ops = []
    ops_text (trees.op o e os) = codes " " ⧺ binary_text o ⧺ codes " " ⧺ operand_text e ⧺ ops_text os

    pub clauses_text : Clauses A → List ℕ
    clauses_text trees.no_clauses = []
    clauses_text (trees.clause c cs) = clause_text c ⧺ clauses_text cs

    pub clause_text : Clause A → List ℕ
    clause_text (trees.a_clause w es) = codes " " ⧺ walk_text w ⧺ clause_iterable w ⧺ conditions_text es

    -- the tests of a clause
    pub conditions_text : Exprs A → List ℕ
    conditions_text trees.no_exprs = []
    conditions_text (trees.expr e es) = codes " if " ⧺ operand_text e ⧺ conditions_text es

    -- what stands before the iterable
    pub walk_text : Walk A → List ℕ
    walk_text (trees.a_walk p e g) = codes "for " ⧺ target_text p ⧺ codes " in "

    -- the iterable of a clause, and that of a statement
    pub clause_iterable : Walk A → List ℕ
    clause_iterable (trees.a_walk p e None) = operand_text e
    clause_iterable (trees.a_walk p e (Some g)) = guarded_iterable p (expr_text e)

    pub statement_iterable : Walk A → List ℕ
    statement_iterable (trees.a_walk p e None) = expr_text e
    statement_iterable (trees.a_walk p e (Some g)) = guarded_iterable p (expr_text e)

    pub target_text : Target A → List ℕ
    target_text (trees.to_place p) = place_text p
    target_text (trees.group ps) = tuple_text (targets_texts ps)

    pub targets_texts : Targets A → List (List ℕ)
    targets_texts trees.no_targets = []
    targets_texts (trees.target p ps) = target_text p ∷ targets_texts ps

    pub place_text : Place A → List ℕ
    place_text (trees.to_name n) = word n.name
    place_text (trees.to_attr e n None) = base_text false e ⧺ codes "." ⧺ word n.name
    place_text (trees.to_attr e n (Some g)) = call_text (codes "_write_") (expr_text e ∷ []) ⧺ codes "." ⧺ word n.name
    place_text (trees.to_item e i None) = base_text false e ⧺ codes "[" ⧺ expr_text i ⧺ codes "]"
    place_text (trees.to_item e i (Some g)) =
        call_text (codes "_write_") (expr_text e ∷ []) ⧺ codes "[" ⧺ expr_text i ⧺ codes "]"

    pub params_texts : Params A → List (List ℕ)
    params_texts (trees.params ps l d) =
        plain_texts ps ++ starred (codes "*") (option_named l) ++ starred (codes "**") (option_named d)

    pub plain_texts : Plain A → List (List ℕ)
    plain_texts trees.no_plain = []
    plain_texts (trees.plain n e ps) = (word n.name ⧺ default_text e) ∷ plain_texts ps

    pub default_text : Maybe A → List ℕ
    default_text trees.none = []
    default_text (trees.some e) = codes "=" ⧺ expr_text e

    -- a text with trailers behind it, or with the guards around it
    pub trailed : List ℕ → Trailers A → List ℕ
    trailed so_far trees.no_trailers = so_far
    trailed so_far (trees.trailer x xs) = trailed (with_trailer so_far x) xs

    pub with_trailer : List ℕ → Trailer A → List ℕ
    with_trailer so_far (trees.attr n None) = so_far ⧺ codes "." ⧺ word n.name
    with_trailer so_far (trees.attr n (Some g)) = call_text (codes "_getattr_") (so_far ∷ name_literal (word n.name) ∷ [])
    with_trailer so_far (trees.item e None) = so_far ⧺ codes "[" ⧺ expr_text e ⧺ codes "]"
    with_trailer so_far (trees.item e (Some g)) = call_text (codes "_getitem_") (so_far ∷ expr_text e ∷ [])
    with_trailer so_far (trees.slice x y z None) =
        so_far ⧺ codes "[" ⧺ bound_text x ⧺ codes ":" ⧺ bound_text y ⧺ stride_text z ⧺ codes "]"
    with_trailer so_far (trees.slice x y z (Some g)) =
        call_text (codes "_getitem_")
        (so_far ∷ call_text (codes "slice") (part_text x ∷ part_text y ∷ part_text z ∷ []) ∷ [])
    with_trailer so_far (trees.call xs None) = call_text so_far (args_texts xs)
    with_trailer so_far (trees.call xs (Some g)) = call_text (codes "_apply_") (so_far ∷ args_texts xs)

    -- the parts of a slice in brackets
    pub bound_text : Maybe A → List ℕ
    bound_text trees.none = []
    bound_text (trees.some e) = expr_text e

    pub stride_text : Maybe A → List ℕ
    stride_text trees.none = []
    stride_text (trees.some e) = codes ":" ⧺ expr_text e

    -- the parts of a slice as arguments
    pub part_text : Maybe A → List ℕ
    part_text trees.none = codes "None"
    part_text (trees.some e) = expr_text e

    pub args_texts : Args A → List (List ℕ)
    args_texts trees.no_args = []
    args_texts (trees.arg x xs) = arg_text x ∷ args_texts xs

    pub arg_text : Arg A → List ℕ
    arg_text (trees.value e) = expr_text e
    arg_text (trees.star e) = codes "*" ⧺ expr_text e
    arg_text (trees.key n e) = word n ⧺ codes "=" ⧺ expr_text e
    arg_text (trees.stars e) = codes "**" ⧺ expr_text e
