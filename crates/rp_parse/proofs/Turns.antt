-- What the readers of statements need of their definitions.
use Rattle.std.proofs.Common.{◌≡◌, ℕ, zero, suc, ◌-◌, ◌<◌, ◌≤◌, drop, take, slice_index_or, Bool, true, false, List, [], ◌∷◌, ◌++◌, length, map, Option, Some, None, if◌then◌else◌, Vec, Global, refl, sym, ap, subst, ◌∙◌, arith}
use Rattle.rp_base.specs.declared.value.Line.{Line}
use Rattle.rp_token.specs.declared.token.Token.{Token}
use Rattle.rp_token.specs.declared.token.TokenKind.{TokenKind}
use Rattle.rp_token.specs.declared.token.TokenKind.TheVariants as kind
use Rattle.rp_tree.specs.declared.stmt.Except.{Except}
use Rattle.rp_tree.specs.declared.stmt.Stmt.{Stmt}
use Rattle.rp_tree.specs.declared.stmt.StmtForm.TheVariants as form
use Rattle.rp_tree.proofs.StatementEquations.{stmt_try}
use Rattle.rp_tree.specs.Expressions.{Named, Expr, Place}
use Rattle.rp_tree.specs.Statements as stmt_tree
use Rattle.rp_tree.specs.StatementViews as stmt_views
use Rattle.rp_grammar.specs.Conversion.{as_place}
use Rattle.rp_grammar.specs.Front as token_tests
use Rattle.rp_expr.specs.Gives as exprs
use Rattle.rp_grammar.specs.Kinds.{Tokens, first, skip}
use Rattle.rp_grammar.specs.ExpressionReading as read
use Rattle.rp_grammar.specs.ExpressionReading.{Readers, Read, ◌>>=◌, before, readers, name_by, at}
use Rattle.rp_expr.specs.declared.fault.Fault.{Fault}
use Rattle.rp_grammar.proofs.Basics.{some_is}
use Rattle.rp_grammar.proofs.Loops.{Shortens, ShortensIn, front}
use Rattle.rp_grammar.proofs.ExpressionSound.{readers_sound, primary_sound}
use Rattle.rp_grammar.proofs.ExpressionTakes.{skip_within, takes, primary_takes}
use Rattle.rp_grammar.specs.Statements.{Context, in_function, is_in_function, joined, one}
use Rattle.rp_grammar.specs.StatementReading as stmt_reading
use Rattle.rp_parse.specs.Gives.{deep, with_places}
use Rattle.rp_expr.proofs.Faults.{fails}

-- `return` cannot be named where the program names what is unfolded
pub return_is : (r : Readers) (c : Context) (line : Line) (ts : Tokens) → stmt_reading.return r c line ts ≡ (if is_in_function c then (stmt_reading.maybe_exprs r ts >>= λ e. Some (stmt_tree.a_stmt line (stmt_tree.give_back e.0), e.1)) else None)
unfolding stmt_reading.return
return_is r c line ts = refl

-- ---- lists

pub front_list : {A : Type 0} (xs : List A) → front (λ x xs. x ∷ xs) xs [] ≡ xs
front_list [] = refl
front_list (x ∷ xs) = ap (λ l. x ∷ l) (front_list xs)

pub map_same : {A : Type 0} (xs : List A) → map (λ x. x) xs ≡ xs
map_same [] = refl
map_same (x ∷ xs) = ap (λ l. x ∷ l) (map_same xs)

-- ---- statements

pub joined_none : (xs : stmt_tree.Stmts) → joined xs stmt_tree.no_stmts ≡ xs
joined_none stmt_tree.no_stmts = refl
joined_none (stmt_tree.stmt x xs) = ap (stmt_tree.stmt x) (joined_none xs)

pub joined_joined : (xs ys zs : stmt_tree.Stmts) → joined (joined xs ys) zs ≡ joined xs (joined ys zs)
joined_joined stmt_tree.no_stmts ys zs = refl
joined_joined (stmt_tree.stmt x xs) ys zs = ap (stmt_tree.stmt x) (joined_joined xs ys zs)

-- one statement more
pub pushed : (xs : List Stmt) (x : Stmt) → stmt_views.view_stmts (xs ++ x ∷ []) ≡ joined (stmt_views.view_stmts xs) (one (stmt_views.view_stmt x))
pushed [] x = refl
pushed (y ∷ xs) x = ap (stmt_tree.stmt (stmt_views.view_stmt y)) (pushed xs x)

-- ---- a turn of each loop takes a token

placed_short : (o : Option Place) (us : Tokens) (n : ℕ) (x : Place × Tokens) → length us < n → (o >>= λ q. Some (q, us)) ≡ Some x → length x.1 < n
placed_short None us n x short h = absurd cc
placed_short (Some q) us n x short h = subst (λ (z : Place × Tokens). length z.1 < n) (some_is h) short

read_short : (o : Read Expr) (n : ℕ) (x : Place × Tokens) → ((e : Expr × Tokens) → o ≡ Some e → length e.1 < n) → (o >>= λ e. as_place e.0 >>= λ q. Some (q, e.1)) ≡ Some x → length x.1 < n
read_short None n x short h = absurd cc
read_short (Some e) n x short h = placed_short (as_place e.0) e.1 n x (short e refl) h

place_short : (ts : Tokens) (x : Place × Tokens) → stmt_reading.place deep ts ≡ Some x → length x.1 < length ts
unfolding stmt_reading.place
place_short ts x h = read_short (read.primary deep ts) (length ts) x (λ e read. primary_takes (primary_sound (readers 650) (readers_sound 650) ts e read)) h

alike_short : (o : Read Place) (n : ℕ) (x : (Place × Unit {0}) × Tokens) → ((y : Place × Tokens) → o ≡ Some y → length y.1 < n) → (o >>= λ y. Some ((y.0, tt), y.1)) ≡ Some x → length x.1 < n
alike_short None n x short h = absurd cc
alike_short (Some y) n x short h = subst (λ (z : (Place × Unit {0}) × Tokens). length z.1 < n) (some_is h) (short y refl)

pub places_short : ShortensIn (read.alike (stmt_reading.place deep))
places_short s ts x h = alike_short (stmt_reading.place deep ts) (length ts) x (place_short ts) h

name_short : (k : TokenKind) (ts : Tokens) (n : Named × Tokens) → first ts ≡ k → name_by k ts ≡ Some n → length n.1 < length ts
name_short (kind.Name m) ts n is h = let same = some_is h in subst (λ (z : Named × Tokens). length z.1 < length ts) same (takes ts _ is (λ e. cc))
name_short _ ts n is h = absurd cc

pub names_short : Shortens (at token_tests.is_comma) (λ us. name_by (first (skip us)) (skip us))
names_short ts x begun h = omega (arith, name_short (first (skip ts)) (skip ts) x refl h, skip_within ts)

-- ---- places, each with `=` behind it

none_behind : {A : Type 0} (xs : List A) → xs ++ [] ≡ xs
none_behind [] = refl
none_behind (x ∷ xs) = ap (λ l. x ∷ l) (none_behind xs)

shifted : {A : Type 0} (xs ys : List A) (x : A) → xs ++ x ∷ ys ≡ (xs ++ x ∷ []) ++ ys
shifted [] ys x = refl
shifted (y ∷ xs) ys x = ap (λ l. y ∷ l) (shifted xs ys x)

abbrev Values : Type 0
Values = Read (List Place × Expr)

regroup : (ps : List Place) (q : Place) (o : Values) → before (with_places ps) (o >>= λ x. Some ((q ∷ x.0.0, x.0.1), x.1)) ≡ before (with_places (ps ++ q ∷ [])) o
regroup ps q None = refl
regroup ps q (Some x) = let answer : List Place → Values = λ l. Some ((l, x.0.1), x.1) in ap answer (shifted ps x.0.0 q)

pub assigned_ends : (whole : Values) (n : ℕ) (ps : List Place) (e : Expr) (ts us : Tokens) → whole ≡ before (with_places ps) (stmt_reading.assigned_by n deep ts) → (n ≡ 0 → ⊥) → read.expr_list deep ts ≡ Some (e, us) → token_tests.is_equal (first us) ≡ false → whole ≡ Some ((ps, e), us)
unfolding stmt_reading.assigned_by
assigned_ends whole zero ps e ts us so_far more is over = absurd (more refl)
assigned_ends whole (suc n) ps e ts us so_far more is over = so_far ∙ rw (is, over, none_behind ps) refl

pub assigned_keeps : (whole : Values) (n : ℕ) (ps new : List Place) (e : Expr) (q : Place) (ts us : Tokens) → whole ≡ before (with_places ps) (stmt_reading.assigned_by n deep ts) → (n ≡ 0 → ⊥) → read.expr_list deep ts ≡ Some (e, us) → token_tests.is_equal (first us) ≡ true
    → as_place e ≡ Some q → new ≡ ps ++ q ∷ [] → whole ≡ before (with_places new) (stmt_reading.assigned_by (n - 1) deep (skip us))
unfolding stmt_reading.assigned_by
assigned_keeps whole zero ps new e q ts us so_far more is equal place found = absurd (more refl)
assigned_keeps whole (suc n) ps new e q ts us so_far more is equal place found =
    let less : suc n - 1 ≡ n = omega arith in
    so_far ∙ rw (is, equal, place, found, less) (regroup ps q (stmt_reading.assigned_by n deep (skip us)))

unread : (n : ℕ) (ps : List Place) (ts : Tokens) → (n ≡ 0 → ⊥) → read.expr_list deep ts ≡ None → before (with_places ps) (stmt_reading.assigned_by n deep ts) ≡ None
unfolding stmt_reading.assigned_by
unread zero ps ts more none = absurd (more refl)
unread (suc n) ps ts more none = rw none refl

unplaced : (n : ℕ) (ps : List Place) (e : Expr) (ts us : Tokens) → (n ≡ 0 → ⊥) → read.expr_list deep ts ≡ Some (e, us) → token_tests.is_equal (first us) ≡ true → as_place e ≡ None → before (with_places ps) (stmt_reading.assigned_by n deep ts) ≡ None
unfolding stmt_reading.assigned_by
unplaced zero ps e ts us more is equal none = absurd (more refl)
unplaced (suc n) ps e ts us more is equal none = rw (is, equal, none) refl

pub assigned_unread : (fault : Fault) (whole : Values) (n : ℕ) (ps : List Place) (ts : Tokens) → whole ≡ before (with_places ps) (stmt_reading.assigned_by n deep ts) → (n ≡ 0 → ⊥) → exprs.Fails fault (read.expr_list deep ts) → exprs.Fails fault whole
assigned_unread fault whole n ps ts so_far more bad = fails fault (read.expr_list deep ts) whole bad (λ none. so_far ∙ unread n ps ts more none)

pub assigned_unplaced : (fault : Fault) (whole : Values) (n : ℕ) (ps : List Place) (e : Expr) (ts us : Tokens) → whole ≡ before (with_places ps) (stmt_reading.assigned_by n deep ts) → (n ≡ 0 → ⊥) → read.expr_list deep ts ≡ Some (e, us) → token_tests.is_equal (first us) ≡ true
    → exprs.Fails fault (as_place e) → exprs.Fails fault whole
assigned_unplaced fault whole n ps e ts us so_far more is equal bad = fails fault (as_place e) whole bad (λ none. so_far ∙ unplaced n ps e ts us more is equal none)

pub assigned_over : (whole : Values) (n : ℕ) (ps : List Place) (ts : Tokens) → whole ≡ before (with_places ps) (stmt_reading.assigned_by n deep ts) → n ≡ 0 → whole ≡ None
unfolding stmt_reading.assigned_by
assigned_over whole zero ps ts so_far over = so_far
assigned_over whole (suc n) ps ts so_far over = absurd (omega arith)

-- ---- `try` with a last block alone

pub finished_is : (b l : Vec Stmt Global) (hs : Vec Except Global) → hs.items ≡ [] → stmt_views.view_stmt_form (form.Try b hs None (Some l)) ≡ stmt_tree.try (stmt_views.view_stmts b.items) stmt_tree.no_excepts stmt_tree.none (stmt_tree.some (stmt_views.view_stmts l.items))
finished_is b l hs none = stmt_try b hs None (Some l) ∙ ap (λ (xs : List Except). stmt_tree.try (stmt_views.view_stmts b.items) (stmt_views.excepts_of (map stmt_views.view_except xs)) stmt_tree.none (stmt_tree.some (stmt_views.view_stmts l.items))) none

-- ---- a function definition

take_all : {A : Type 0} (xs : List A) → take (length xs) xs ≡ xs
take_all [] = refl
take_all (x ∷ xs) = ap (λ l. x ∷ l) (take_all xs)

pub def_at : (h : ℕ) (c : Context) (m : Bool) (b : stmt_reading.Blocks) (ts : Tokens) (token : Token) → 1 ≤ length ts → token ≡ slice_index_or ts 0 token → token.kind ≡ kind.Def
    → stmt_reading.statement_at deep h c m b ts ≡ stmt_reading.compound token.line (stmt_reading.def_statement deep h (λ ps. b (in_function ps c) false) (take (length ts - 1) (drop 1 ts)))
unfolding stmt_reading.statement_at
def_at h c m b [] token long is def = absurd (omega arith)
def_at h c m b (t ∷ ts) token long is def =
    let same : t.kind ≡ kind.Def = ap (λ (t : Token). t.kind) (sym is) ∙ def in
    let line : token.line ≡ t.line = ap (λ (t : Token). t.line) is in
    let less : length (t ∷ ts) - 1 ≡ length ts = omega arith in
    rw (same, line, less, take_all ts) refl
