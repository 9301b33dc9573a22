-- A simple statement that is spelled so is read.
use Rattle.std.proofs.Common.{◌≡◌, ℕ, zero, suc, ◌+◌, ◌<◌, ◌≤◌, max, false, List, [], ◌∷◌, length, Option, Some, None, refl, sym, ap, subst, ◌∙◌, arith}
use Rattle.rp_base.specs.declared.operator.BinOp.{BinOp}
use Rattle.rp_base.specs.declared.value.Line.{Line}
use Rattle.rp_token.specs.declared.token.TokenKind.TheVariants as kind
use Rattle.rp_tree.specs.Expressions as tree
use Rattle.rp_tree.specs.Expressions.{Named, Expr, Place, Target, Targets, Params}
use Rattle.rp_tree.specs.Heights.{expr_height, target_height, params_height, place_height, places_height, stmt_height}
use Rattle.rp_tree.specs.Statements as stmt_tree
use Rattle.rp_tree.specs.Statements.{Stmt}
use Rattle.rp_grammar.specs.Brackets.{IsShallow}
use Rattle.rp_grammar.specs.Kinds.{Tokens, first, line_at, skip, augmented_of}
use Rattle.rp_grammar.specs.Expressions as grammar
use Rattle.rp_grammar.specs.Expressions.{line_of, place_line, named, any}
use Rattle.rp_grammar.specs.Conversion.{as_place, as_target}
use Rattle.rp_grammar.specs.Front.{is_comma, starts}
use Rattle.rp_grammar.specs.ExpressionReading as reading
use Rattle.rp_grammar.specs.ExpressionReading.{Read, Readers, ◌>>=◌, before, many, listed}
use Rattle.rp_grammar.proofs.Follow.{binds, at, expr_starts, no_comma, starts_none}
use Rattle.rp_grammar.proofs.Nest.{nest_exprs, nest_place}
use Rattle.rp_grammar.proofs.ExpressionTakes.{skip_within, takes, place_takes}
use Rattle.rp_grammar.proofs.Targets.{target_of_place}
use Rattle.rp_grammar.proofs.ExpressionComplete.{AreComplete, place_read, part_read, parts_read, paren_ends, target_complete, primary_complete, parameters_complete, expr_complete, expr_list_complete}
use Rattle.rp_grammar.proofs.Depth.{target_bound, params_bound, expr_bound, exprs_bound}
use Rattle.rp_grammar.specs.Statements as stmt_grammar
use Rattle.rp_grammar.specs.Statements.{Context}
use Rattle.rp_grammar.specs.StatementReading as stmt_reading
use Rattle.rp_grammar.proofs.Begins.{Closes, mark_binds, exprs_start, place_starts, assigned_starts, unpacked_starts, simple_by_kind, behind_by_kind}
use Rattle.rp_grammar.proofs.Low.{down, expr_low, place_low, unpacked_low}
use Rattle.rp_grammar.proofs.ExpressionComplete.{name_is}

-- a primary is an expression
abbrev whole : {e : Expr} {ts us : Tokens} → grammar.Primary e ts us → grammar.IsExpr e ts us
whole q = grammar.unconditional (grammar.or_single (grammar.and_single (grammar.asserted (grammar.single (grammar.tighter (grammar.tighter (grammar.tighter (grammar.tighter (grammar.tighter (grammar.tighter (grammar.operand (grammar.unsigned (grammar.base q)))))))))))))

-- ---- names

-- names from the first on, in at most so many turns
abbrev names_by : ℕ → Tokens → Read (List Named)
names_by m ts = reading.name_by (first ts) ts >>= λ n. before (λ ns. n.0 ∷ ns) (many [] (λ n ns. n ∷ ns) (reading.at is_comma) (λ us. reading.name_by (first (skip us)) (skip us)) m n.1)

names_from : {ns : List Named} {ts us : Tokens} → stmt_grammar.IsNames ns ts us → is_comma (first us) ≡ false → (m : ℕ) → length (skip ts) < m → names_by m ts ≡ Some (ns, us)
unfolding many
names_from q over zero lt = absurd (omega arith)
names_from {ts = ts} (stmt_grammar.last_name {n = n} h) over (suc m) lt = rw (name_is n ts h, over) refl
names_from {ts = ts} (stmt_grammar.more_names {n = n} h comma q) over (suc m) lt =
    rw (name_is n ts h, comma) (ap (before (λ (ns : List Named). named n ts ∷ ns)) (names_from q over m (omega (arith, takes (skip ts) _ comma (λ e. cc), skip_within (skip (skip ts))))))

names_complete : {ns : List Named} {ts us : Tokens} → stmt_grammar.IsNames ns ts us → is_comma (first us) ≡ false → stmt_reading.names ts ≡ Some (ns, us)
unfolding stmt_reading.names
names_complete {ts = ts} (stmt_grammar.last_name {n = n} h) over = rw (name_is n ts h) (rw (name_is n ts h) at (names_from {ts = ts} (stmt_grammar.last_name h) over (suc (length (skip ts))) (omega arith)))
names_complete {ts = ts} (stmt_grammar.more_names {n = n} h comma q) over = rw (name_is n ts h) (rw (name_is n ts h) at (names_from {ts = ts} (stmt_grammar.more_names h comma q) over (suc (length (skip ts))) (omega arith)))

-- an expression list that converts to a place
record PlaceList (rs : Readers) (x : Place) (ts us : Tokens) : Type 0 where
  e : Expr
  read : reading.expr_list rs ts ≡ Some (e, us)
  converts : as_place e ≡ Some x
  target : as_target e ≡ Some (tree.to_place x)
  line : line_of e ≡ place_line x

-- one that converts to a group
record GroupList (rs : Readers) (qs : Targets) (line : Line) (ts us : Tokens) : Type 0 where
  e : Expr
  read : reading.expr_list rs ts ≡ Some (e, us)
  target : as_target e ≡ Some (tree.group qs)
  same_line : line_of e ≡ line

no_place : {x : Target} {line : Line} {ts us : Tokens} → grammar.IsGroup x line ts us → (qs : Targets) × (x ≡ tree.group qs)
no_place (grammar.group_parts {ps = ps} h q j) = (ps, refl)
no_place (grammar.group_list {p = x} {ps = ps} h q j) = (tree.target x ps, refl)
no_place (grammar.group_paren h q j) = no_place q

unpacked_group : {x : Target} {line : Line} {ts us : Tokens} → stmt_grammar.IsUnpacked x line ts us → (qs : Targets) × (x ≡ tree.group qs)
unpacked_group (stmt_grammar.a_group q) = no_place q
unpacked_group (stmt_grammar.some_parts {ps = ps} q) = (ps, refl)

abbrev some : {A : Type 0} → A → Option A
some x = Some x

module _ (most d : ℕ) (rs : Readers) (inner : AreComplete d rs) where
  list_complete : {e : Expr} {ts us : Tokens} (p : grammar.IsExprs e ts us) → nest_exprs p < d → 20 < binds (first us) → reading.expr_list rs ts ≡ Some (e, us)
  list_complete {us = us} p small ends = expr_list_complete d rs inner p small (omega (arith, ends)) (no_comma (first us) ends) (starts_none (first us) ends)

  -- ---- expressions not higher than h

  module _ (h : ℕ) (enough : most + suc h ≤ d) where
    pub expr_read : {e : Expr} {ts us : Tokens} → grammar.IsExpr e ts us → 12 < binds (first us) → expr_height e ≤ h → IsShallow most 0 ts → reading.expr rs ts ≡ Some (e, us)
    expr_read q ends low w = expr_complete d rs inner q (omega (arith, expr_bound most q 0 w)) ends

    pub exprs_read : {e : Expr} {ts us : Tokens} → grammar.IsExprs e ts us → 20 < binds (first us) → expr_height e ≤ h → IsShallow most 0 ts → reading.expr_list rs ts ≡ Some (e, us)
    exprs_read q ends low w = list_complete q (omega (arith, exprs_bound most q 0 w)) ends

    pub target_read : {x : Target} {line : Line} {ts us : Tokens} → grammar.IsTarget x line ts us → first us ≡ kind.In → target_height x ≤ h → IsShallow most 0 ts → reading.target rs ts ≡ Some (x, us)
    target_read {us = us} q comes low w = target_complete d rs inner q (omega (arith, target_bound most q 0 w)) (at 1 kind.In us comes (omega arith)) (ap is_comma comes) (ap starts comes)

    pub params_read : {ps : Params} {ts us : Tokens} → grammar.IsParams any ps ts us → first us ≡ kind.RightParen → params_height ps ≤ h → IsShallow most 0 ts → reading.params rs ts ≡ Some (ps, us)
    params_read {us = us} q closes low w = parameters_complete d rs inner q (omega (arith, params_bound most q 0 w)) (paren_ends us closes)

    place_list : {x : Place} {ts us : Tokens} → grammar.IsPlace x ts us → 20 < binds (first us) → place_height x ≤ h → IsShallow most 0 ts → PlaceList rs x ts us
    place_list {x} q ends low w =
        let c = place_read q in
        let small = c.low in
        let bound : 0 + nest_place q < most + place_height x = target_bound most (grammar.target_part (grammar.part_place q)) 0 w in
        record { e = c.e; read = list_complete (grammar.an_expr (whole c.spelled)) (omega (arith, bound, small)) ends; converts = c.converts; target = target_of_place c.e x c.converts; line = c.line }

    group_list : {qs : Targets} {line : Line} {ts us : Tokens} → stmt_grammar.IsUnpacked (tree.group qs) line ts us → 20 < binds (first us) → target_height (tree.group qs) ≤ h → IsShallow most 0 ts → GroupList rs qs line ts us
    group_list {qs} q ends low w = by q refl ends w
      where
        by : {x : Target} {line : Line} {ts us : Tokens} → stmt_grammar.IsUnpacked x line ts us → x ≡ tree.group qs → 20 < binds (first us) → IsShallow most 0 ts → GroupList rs qs line ts us
        by {x} (stmt_grammar.a_group q) same ends w =
            let c = part_read (grammar.part_group q) in
            let small = c.low in
            let bound = target_bound most (grammar.target_part (grammar.part_group q)) 0 w in
            let height : target_height x ≤ h = subst (λ (z : Target). target_height z ≤ h) (sym same) low in
            record { e = c.e; read = list_complete (grammar.an_expr (whole c.spelled)) (omega (arith, bound, small, height)) ends; target = c.converts ∙ ap (λ (z : Target). some z) same; same_line = c.line }
        by {x} (stmt_grammar.some_parts q) same ends w =
            let c = parts_read q in
            let small = c.low in
            let bound = target_bound most (grammar.target_parts q) 0 w in
            let height : target_height x ≤ h = subst (λ (z : Target). target_height z ≤ h) (sym same) low in
            record {
              e = tree.node (line_of c.e) (tree.tuple (tree.expr c.e c.es));
              read = list_complete (grammar.several (whole c.head) c.comma c.tail) (omega (arith, bound, small, height)) ends;
              target = c.converts ∙ ap (λ (z : Target). some z) same;
              same_line = c.line;
            }

    place_complete : {x : Place} {ts us : Tokens} → grammar.IsPlace x ts us → 1 < binds (first us) → place_height x ≤ h → IsShallow most 0 ts → stmt_reading.place rs ts ≡ Some (x, us)
    unfolding stmt_reading.place
    place_complete {x} q ends low w =
        let c = place_read q in
        let small = c.low in
        let bound : 0 + nest_place q < most + place_height x = target_bound most (grammar.target_part (grammar.part_place q)) 0 w in
        rw (primary_complete d rs inner c.spelled (omega (arith, bound, small)) ends, c.converts) refl

    -- ---- lists of places

    places_from : {xs : List Place} {ts us : Tokens} → stmt_grammar.IsPlaces xs ts us → Closes (first us) → places_height xs ≤ h → IsShallow most 0 ts → (n : ℕ) → length ts < n → listed [] [] (λ q qs. q ∷ qs) starts (reading.alike (stmt_reading.place rs)) n tt ts ≡ Some (xs, us)
    unfolding listed
    places_from q over low w zero lt = absurd (omega arith)
    places_from {us = us} (stmt_grammar.last_place q) over low w (suc n) lt = rw (place_starts q, place_complete q (let b = over.binds in omega arith) (omega arith) w, over.no_comma) refl
    places_from (stmt_grammar.last_comma q comma) over low w (suc zero) lt = absurd (omega (arith, place_takes q))
    places_from (stmt_grammar.last_comma {us = us} q comma) over low w (suc (suc n)) lt = rw (place_starts q, place_complete q (at 1 kind.Comma us comma (omega arith)) (omega arith) w, comma, over.no_start) refl
    places_from (stmt_grammar.more_places {us = us} q comma qs) over low w (suc n) lt =
        rw (place_starts q, place_complete q (at 1 kind.Comma us comma (omega arith)) (omega arith) w, comma, places_from qs over (omega arith) (down most us (place_low most q w)) n (omega (arith, place_takes q, skip_within us))) refl

    places_complete : {xs : List Place} {ts us : Tokens} → stmt_grammar.IsPlaces xs ts us → Closes (first us) → places_height xs ≤ h → IsShallow most 0 ts → stmt_reading.places rs ts ≡ Some (xs, us)
    unfolding stmt_reading.places listed
    places_complete (stmt_grammar.last_place q) over low w = rw (place_complete q (let b = over.binds in omega arith) (omega arith) w, over.no_comma) refl
    places_complete (stmt_grammar.last_comma {us = us} q comma) over low w = rw (place_complete q (at 1 kind.Comma us comma (omega arith)) (omega arith) w, comma, over.no_start) refl
    places_complete (stmt_grammar.more_places {us = us} q comma qs) over low w =
        rw (place_complete q (at 1 kind.Comma us comma (omega arith)) (omega arith) w, comma, places_from qs over (omega arith) (down most us (place_low most q w)) (suc (length (skip us))) (omega arith)) refl

    -- ---- assignments

    assigned_last : {e : Expr} {ts us : Tokens} → grammar.IsExprs e ts us → Closes (first us) → expr_height e ≤ h → IsShallow most 0 ts → (n : ℕ) → length ts < n → stmt_reading.assigned_by n rs ts ≡ Some (([], e), us)
    unfolding stmt_reading.assigned_by
    assigned_last v over low w zero lt = absurd (omega arith)
    assigned_last v over low w (suc n) lt = rw (exprs_read v over.binds low w, over.no_equal) refl

    assigned_more : {xs : List Place} {e : Expr} {ts us vs : Tokens} → stmt_grammar.Assigned xs ts us → grammar.IsExprs e us vs → Closes (first vs) → places_height xs ≤ h → expr_height e ≤ h → IsShallow most 0 ts → (n : ℕ) → length ts < n
        → stmt_reading.assigned_by n rs ts ≡ Some ((xs, e), vs)
    unfolding stmt_reading.assigned_by
    assigned_more q v over low small w zero lt = absurd (omega arith)
    assigned_more (stmt_grammar.last_assigned {us = us} q equal) v over low small w (suc n) lt =
        let c = place_list q (at 20 kind.Equal us equal (omega arith)) (omega arith) w in
        rw (c.read, equal, c.converts, assigned_last v over small (down most us (place_low most q w)) n (omega (arith, place_takes q, skip_within us))) refl
    assigned_more (stmt_grammar.more_assigned {us = us} q equal qs) v over low small w (suc n) lt =
        let c = place_list q (at 20 kind.Equal us equal (omega arith)) (omega arith) w in
        rw (c.read, equal, c.converts, assigned_more qs v over (omega arith) small (down most us (place_low most q w)) n (omega (arith, place_takes q, skip_within us))) refl

    assignment_complete : {x : Place} {xs : List Place} {e : Expr} {ts us vs : Tokens} → stmt_grammar.Assigned (x ∷ xs) ts us → grammar.IsExprs e us vs → Closes (first vs) → places_height (x ∷ xs) ≤ h → expr_height e ≤ h → IsShallow most 0 ts
        → stmt_reading.expression_statement rs ts ≡ Some (stmt_tree.a_stmt (place_line x) (stmt_tree.assign (x ∷ xs) e), vs)
    unfolding stmt_reading.expression_statement stmt_reading.assignment
    assignment_complete (stmt_grammar.last_assigned {us = us} q equal) v over low small w =
        let c = place_list q (at 20 kind.Equal us equal (omega arith)) (omega arith) w in
        rw (c.read, equal, c.target, assigned_last v over small (down most us (place_low most q w)) (suc (length (skip us))) (omega arith), c.line) refl
    assignment_complete (stmt_grammar.more_assigned {us = us} q equal qs) v over low small w =
        let c = place_list q (at 20 kind.Equal us equal (omega arith)) (omega arith) w in
        rw (c.read, equal, c.target, assigned_more qs v over (omega arith) small (down most us (place_low most q w)) (suc (length (skip us))) (omega arith), c.line) refl

    unpacking_complete : {qs : Targets} {line : Line} {e : Expr} {ts us vs : Tokens} → stmt_grammar.IsUnpacked (tree.group qs) line ts us → first us ≡ kind.Equal → grammar.IsExprs e (skip us) vs → Closes (first vs) → target_height (tree.group qs) ≤ h → expr_height e ≤ h
        → IsShallow most 0 ts → stmt_reading.expression_statement rs ts ≡ Some (stmt_tree.a_stmt line (stmt_tree.unpack (tree.group qs) e None), vs)
    unfolding stmt_reading.expression_statement stmt_reading.assignment
    unpacking_complete {us = us} q equal v over low small w =
        let c = group_list q (at 20 kind.Equal us equal (omega arith)) low w in
        rw (c.read, equal, c.target, exprs_read v over.binds small (down most us (unpacked_low most q w)), c.same_line) refl

    augmented_complete : {x : Place} {o : BinOp} {e : Expr} {ts us vs : Tokens} → grammar.IsPlace x ts us → augmented_of (first us) ≡ Some o → grammar.IsExprs e (skip us) vs → Closes (first vs) → place_height x ≤ h → expr_height e ≤ h → IsShallow most 0 ts
        → stmt_reading.expression_statement rs ts ≡ Some (stmt_tree.a_stmt (place_line x) (stmt_tree.aug x o (line_at us) e None), vs)
    unfolding stmt_reading.expression_statement stmt_reading.augmented
    augmented_complete {o = o} {us = us} q mark v over low small w =
        let c = place_list q (mark_binds (first us) o mark) low w in
        rw (c.read, mark, c.converts, exprs_read v over.binds small (down most us (place_low most q w)), c.line) refl

    value_complete : {e : Expr} {ts us : Tokens} → grammar.IsExprs e ts us → Closes (first us) → expr_height e ≤ h → IsShallow most 0 ts → stmt_reading.expression_statement rs ts ≡ Some (stmt_tree.a_stmt (line_of e) (stmt_tree.evaluate e), us)
    unfolding stmt_reading.expression_statement
    value_complete {e} {us = us} q over low w = rw (exprs_read q over.binds low w, over.no_mark) (behind_by_kind (first us) rs e us over.no_equal)

    -- ---- simple statements

    simple_by_complete : {c : Context} {x : Stmt} {ts us : Tokens} → stmt_grammar.IsSimple c x ts us → Closes (first us) → stmt_height x ≤ suc h → IsShallow most 0 ts → stmt_reading.simple_by (first ts) rs c ts ≡ Some (x, us)
    unfolding stmt_reading.return stmt_reading.raise stmt_reading.assert stmt_reading.global stmt_reading.maybe_exprs stmt_reading.maybe_expr
    simple_by_complete (stmt_grammar.is_pass is) over low w = rw is refl
    simple_by_complete (stmt_grammar.is_break inside is) over low w = rw (is, inside) refl
    simple_by_complete (stmt_grammar.is_continue inside is) over low w = rw (is, inside) refl
    simple_by_complete (stmt_grammar.is_return inside is) over low w = rw (is, inside, over.no_start) refl
    simple_by_complete {ts = ts} (stmt_grammar.returns_value inside is q) over low w = rw (is, inside, exprs_start q, exprs_read q over.binds (omega arith) (down most ts w)) refl
    simple_by_complete (stmt_grammar.raises_again inside is) over low w = rw (is, over.no_start, inside) refl
    simple_by_complete {ts = ts} (stmt_grammar.is_raise is q) over low w = rw (is, expr_starts q, expr_read q (let b = over.binds in omega arith) (omega arith) (down most ts w)) refl
    simple_by_complete {ts = ts} (stmt_grammar.is_assert is q) over low w = rw (is, expr_read q (let b = over.binds in omega arith) (omega arith) (down most ts w), over.no_comma) refl
    simple_by_complete {ts = ts} (stmt_grammar.asserts_with_text {us = us} is q comma v) over low w =
        rw (is, expr_read q (at 12 kind.Comma us comma (omega arith)) (omega arith) (down most ts w), comma, expr_read v (let b = over.binds in omega arith) (omega arith) (down most us (expr_low most q (down most ts w)))) refl
    simple_by_complete (stmt_grammar.is_global outside free is q) over low w = rw (is, outside, names_complete q over.no_comma, free) refl
    simple_by_complete {ts = ts} (stmt_grammar.is_del is q) over low w = rw (is, places_complete q over (omega arith) (down most ts w)) refl
    simple_by_complete {c} {ts = ts} (stmt_grammar.is_value q) over low w = simple_by_kind (first ts) rs c ts (exprs_start q) ∙ value_complete q over (omega arith) w
    simple_by_complete {c} {ts = ts} (stmt_grammar.is_augmented q mark v) over low w = simple_by_kind (first ts) rs c ts (place_starts q) ∙ augmented_complete q mark v over (omega arith) (omega arith) w
    simple_by_complete {c} {ts = ts} (stmt_grammar.is_assignment q v) over low w = simple_by_kind (first ts) rs c ts (assigned_starts q) ∙ assignment_complete q v over (omega arith) (omega arith) w
    simple_by_complete {c} {ts = ts} {us = vs} (stmt_grammar.is_unpacking {g = x} {line = line} {e = e} {us = us} q equal v) over low w =
        let (qs, same) = unpacked_group q in
        let group : stmt_grammar.IsUnpacked (tree.group qs) line ts us = subst (λ (z : Target). stmt_grammar.IsUnpacked z line ts us) same q in
        let height : max (target_height (tree.group qs)) (expr_height e) ≤ h = subst (λ (z : Target). max (target_height z) (expr_height e) ≤ h) same (omega arith) in
        let read = unpacking_complete group equal v over (omega (arith, height)) (omega (arith, height)) w in
        simple_by_kind (first ts) rs c ts (unpacked_starts q) ∙ subst (λ (z : Target). stmt_reading.expression_statement rs ts ≡ Some (stmt_tree.a_stmt line (stmt_tree.unpack z e None), vs)) (sym same) read

    pub simple_complete : {c : Context} {x : Stmt} {ts us : Tokens} → stmt_grammar.IsSimple c x ts us → Closes (first us) → stmt_height x ≤ suc h → IsShallow most 0 ts → stmt_reading.simple rs c ts ≡ Some (x, us)
    unfolding stmt_reading.simple
    simple_complete q over low w = simple_by_complete q over low w
