-- Reading from left to right: what a reader answers is a value and the tokens behind it. A reader of a production takes the
-- readers of the expressions within it, and the readers at a depth take those at the depth below.
use Rattle.std.specs.Prelude.{ℕ, zero, suc, ◌==◌, List, [], ◌++◌, Bool, true, false, Option, Some, None, if◌then◌else◌, length, option_and_then}
use Rattle.rp_base.specs.declared.operator.BinOp.{BinOp}
use Rattle.rp_base.specs.declared.operator.UnOp.{UnOp}
use Rattle.rp_base.specs.declared.value.Line.{Line}
use Rattle.rp_token.specs.declared.token.TokenKind.{TokenKind}
use Rattle.rp_token.specs.declared.token.TokenKind.TheVariants as kind
use Rattle.rp_tree.specs.declared.parts.Const.TheVariants.{Nil, Truth}
use Rattle.rp_tree.specs.declared.parts.Test.{Test}
use Rattle.rp_tree.specs.declared.parts.Test.TheVariants.{Order, Within, NotWithin, Is, IsNot}
use Rattle.rp_tree.specs.Expressions as tree
use Rattle.rp_tree.specs.Expressions.{Named, Expr, Exprs, Maybe, Pairs, Tests, Ops, Clause, Clauses, Target, Targets, Params, Plain, Trailer, Trailers, Arg, Args}
use Rattle.rp_grammar.specs.Kinds.{Tokens, first, line_at, skip, binary_of, looseness, loosest, unary_of, order_of}
use Rattle.rp_grammar.specs.Expressions.{line_of, named, distinct, key_names, parameter_names}
use Rattle.rp_grammar.specs.Conversion.{as_target}
use Rattle.rp_grammar.specs.Front.{is_comma, is_colon, is_equal, is_star, is_double_star, is_right_paren, is_right_bracket, is_right_brace, is_name, is_text, is_lambda, is_if, is_else, is_or, is_and, is_not, is_in, is_for, starts, starts_arg, starts_trailer, starts_test}

abbrev pub Read : Type 0 → Type 0
Read A = Option (A × Tokens)

infixl 10 ◌>>=◌
abbrev pub ◌>>=◌ : {A B : Type 0} → Option A → (A → Option B) → Option B
o >>= f = option_and_then f o

-- what reads the expressions within
pub record Readers : Type 0 where
  pub expr : Tokens → Read Expr
  pub or : Tokens → Read Expr
  pub not : Tokens → Read Expr
  pub unary : Tokens → Read Expr
  pub primary : Tokens → Read Expr

-- the tokens behind one of this kind
abbrev pub after : (TokenKind → Bool) → Tokens → Option Tokens
after is ts = if is (first ts) then Some (skip ts) else None

-- items as long as one begins, in at most so many turns
unfoldable pub many : {A L : Type 0} → L → (A → L → L) → (Tokens → Bool) → (Tokens → Read A) → ℕ → Tokens → Read L
many nil cons begins read zero ts = None
many nil cons begins read (suc n) ts = if begins ts then (read ts >>= λ x. many nil cons begins read n x.1 >>= λ xs. Some (cons x.0 xs.0, xs.1)) else Some (nil, ts)

-- items with commas between them, and a comma behind the last or not: open is the end behind a comma, shut that behind an
-- item. What an item may be depends on those before it.
unfoldable pub listed : {S A L : Type 0} → L → L → (A → L → L) → (TokenKind → Bool) → (S → Tokens → Read (A × S)) → ℕ → S → Tokens → Read L
listed open_end shut_end cons begins read zero s ts = None
listed open_end shut_end cons begins read (suc n) s ts =
    if begins (first ts)
    then (read s ts >>= λ x.
    if is_comma (first x.1) then (listed open_end shut_end cons begins read n x.0.1 (skip x.1) >>= λ xs. Some (cons x.0.0 xs.0, xs.1))
    else Some (cons x.0.0 shut_end, x.1))
    else Some (open_end, ts)

-- with turns enough for all tokens
abbrev pub all_many : {A L : Type 0} → L → (A → L → L) → (Tokens → Bool) → (Tokens → Read A) → Tokens → Read L
all_many nil cons begins read ts = many nil cons begins read (suc (length ts)) ts

abbrev pub all_listed : {S A L : Type 0} → L → L → (A → L → L) → (TokenKind → Bool) → (S → Tokens → Read (A × S)) → S → Tokens → Read L
all_listed open_end shut_end cons begins read s ts = listed open_end shut_end cons begins read (suc (length ts)) s ts

-- what is read behind some items, with these at its front
abbrev pub before : {L : Type 0} → (L → L) → Read L → Read L
before items read = read >>= λ xs. Some (items xs.0, xs.1)

-- items of which each may be what the first may be
abbrev pub alike : {A : Type 0} → (Tokens → Read A) → Unit {0} → Tokens → Read (A × Unit {0})
alike read u ts = read ts >>= λ x. Some ((x.0, tt), x.1)

-- a token of this kind, and an item behind it
abbrev pub at : (TokenKind → Bool) → Tokens → Bool
at is ts = is (first ts)

abbrev pub behind : {A : Type 0} → (Tokens → Read A) → Tokens → Read A
behind read ts = read (skip ts)

-- an expression, and those behind it and a comma
unfoldable pub exprs : Readers → Expr → Tokens → Read Exprs
exprs r e ts = before (tree.expr e) (all_listed tree.no_exprs tree.no_exprs tree.expr starts (alike r.expr) tt ts)

-- an expression, and those behind it
unfoldable pub others : Readers → Expr → Tokens → Read Exprs
others r e ts = if is_comma (first ts) then exprs r e (skip ts) else Some (tree.expr e tree.no_exprs, ts)

-- further text literals
abbrev pub text_by : TokenKind → Tokens → Read (List ℕ)
text_by (kind.Text s) ts = Some (s, ts)
text_by _ ts = None

unfoldable pub texts : List ℕ → Tokens → Read (List ℕ)
texts s ts = before (λ xs. s ++ xs) (all_many [] (λ x xs. x ++ xs) (at is_text) (λ us. text_by (first us) (skip us)) ts)

-- a target, which is read as a primary
unfoldable pub part : Readers → Tokens → Read Target
part r ts = r.primary ts >>= λ e. as_target e.0 >>= λ p. Some (p, e.1)

-- a target, and those behind it and a comma
unfoldable pub parts : Readers → Target → Tokens → Read Targets
parts r p ts = before (tree.target p) (all_listed tree.no_targets tree.no_targets tree.target starts (alike (part r)) tt ts)

unfoldable pub target : Readers → Tokens → Read Target
target r ts = part r ts >>= λ p.
    if is_comma (first p.1) then (parts r p.0 (skip p.1) >>= λ ps. Some (tree.group ps.0, ps.1))
    else Some p

-- the tests of a clause
unfoldable pub ifs : Readers → Tokens → Read Exprs
ifs r ts = all_many tree.no_exprs tree.expr (at is_if) (behind r.or) ts

-- behind `for`
unfoldable pub clause : Readers → Tokens → Read Clause
clause r ts = target r ts >>= λ p. after is_in p.1 >>= λ rest. r.or rest >>= λ e. ifs r e.1 >>= λ es. Some (tree.a_clause (tree.a_walk p.0 e.0 None) es.0, es.1)

unfoldable pub clauses : Readers → Tokens → Read Clauses
clauses r ts = all_many tree.no_clauses tree.clause (at is_for) (behind (clause r)) ts

-- behind `(`
unfoldable pub parenthesized : Readers → Line → Tokens → Read Expr
parenthesized r line ts =
    if is_right_paren (first ts) then Some (tree.node line (tree.tuple tree.no_exprs), skip ts)
    else (r.expr ts >>= λ e.
    if is_comma (first e.1) then (exprs r e.0 (skip e.1) >>= λ es. after is_right_paren es.1 >>= λ rest. Some (tree.node line (tree.tuple es.0), rest))
    else (after is_right_paren e.1 >>= λ rest. Some (e.0, rest)))

-- behind `[`
unfoldable pub bracketed : Readers → Line → Tokens → Read Expr
bracketed r line ts =
    if is_right_bracket (first ts) then Some (tree.node line (tree.list tree.no_exprs), skip ts)
    else (r.expr ts >>= λ e.
    if is_for (first e.1) then (clauses r e.1 >>= λ cs. after is_right_bracket cs.1 >>= λ rest. Some (tree.node line (tree.list_of 0 e.0 cs.0), rest))
    else (others r e.0 e.1 >>= λ es. after is_right_bracket es.1 >>= λ rest. Some (tree.node line (tree.list es.0), rest)))

-- a key and its value
unfoldable pub pair : Readers → Tokens → Read (Expr × Expr)
pair r ts = r.expr ts >>= λ k. after is_colon k.1 >>= λ rest. r.expr rest >>= λ e. Some ((k.0, e.0), e.1)

abbrev pub with_pair : Expr × Expr → Pairs → Pairs
with_pair p ps = tree.pair p.0 p.1 ps

-- a pair, and those behind it and a comma
unfoldable pub pairs : Readers → Expr × Expr → Tokens → Read Pairs
pairs r p ts = before (with_pair p) (all_listed tree.no_pairs tree.no_pairs with_pair starts (alike (pair r)) tt ts)

unfoldable pub other_pairs : Readers → Expr × Expr → Tokens → Read Pairs
other_pairs r p ts = if is_comma (first ts) then pairs r p (skip ts) else Some (with_pair p tree.no_pairs, ts)

-- behind `{`
unfoldable pub braced : Readers → Line → Tokens → Read Expr
braced r line ts =
    if is_right_brace (first ts) then Some (tree.node line (tree.dict tree.no_pairs), skip ts)
    else (pair r ts >>= λ p.
    if is_for (first p.1) then (clauses r p.1 >>= λ cs. after is_right_brace cs.1 >>= λ rest. Some (tree.node line (tree.dict_of 0 p.0.0 p.0.1 cs.0), rest))
    else (other_pairs r p.0 p.1 >>= λ ps. after is_right_brace ps.1 >>= λ rest. Some (tree.node line (tree.dict ps.0), rest)))

abbrev pub atom_by : TokenKind → Readers → Line → Tokens → Read Expr
atom_by (kind.Name n) r line ts = Some (tree.node line (tree.name n), ts)
atom_by (kind.Int n) r line ts = Some (tree.node line (tree.int n), ts)
atom_by (kind.Text s) r line ts = texts s ts >>= λ x. Some (tree.node line (tree.text x.0), x.1)
atom_by kind.None r line ts = Some (tree.node line (tree.const Nil), ts)
atom_by kind.True r line ts = Some (tree.node line (tree.const (Truth true)), ts)
atom_by kind.False r line ts = Some (tree.node line (tree.const (Truth false)), ts)
atom_by kind.LeftParen r line ts = parenthesized r line ts
atom_by kind.LeftBracket r line ts = bracketed r line ts
atom_by kind.LeftBrace r line ts = braced r line ts
atom_by _ r line ts = None

unfoldable pub atom : Readers → Tokens → Read Expr
atom r ts = atom_by (first ts) r (line_at ts) (skip ts)

-- an argument without a name, where none with a name has come before
unfoldable pub positional : Readers → Bool → Tokens → Read (Arg × Bool)
positional r named ts = if named then None else (r.expr ts >>= λ e. Some ((tree.value e.0, false), e.1))

-- behind `*`
unfoldable pub starred : Readers → Bool → Tokens → Read (Arg × Bool)
starred r named ts = if named then None else (r.expr ts >>= λ e. Some ((tree.star e.0, false), e.1))

abbrev pub arg_by : TokenKind → Bool → Readers → Bool → Tokens → Read (Arg × Bool)
arg_by kind.Star equal r named ts = starred r named (skip ts)
arg_by kind.DoubleStar equal r named ts = r.expr (skip ts) >>= λ e. Some ((tree.stars e.0, true), e.1)
arg_by (kind.Name n) true r named ts = r.expr (skip (skip ts)) >>= λ e. Some ((tree.key n e.0, true), e.1)
arg_by k equal r named ts = positional r named ts

unfoldable pub arg : Readers → Bool → Tokens → Read (Arg × Bool)
arg r named ts = arg_by (first ts) (is_equal (first (skip ts))) r named ts

unfoldable pub args : Readers → Tokens → Read Args
args r ts = all_listed tree.no_args tree.no_args tree.arg starts_arg (arg r) false ts

-- behind `(`
unfoldable pub called : Readers → Tokens → Read Trailer
called r ts = args r ts >>= λ xs. if distinct (key_names xs.0) then (after is_right_paren xs.1 >>= λ rest. Some (tree.call xs.0 None, rest)) else None

-- an expression, or nothing
unfoldable pub maybe : Readers → Tokens → Read Maybe
maybe r ts = if starts (first ts) then (r.expr ts >>= λ e. Some (tree.some e.0, e.1)) else Some (tree.none, ts)

-- behind the first colon of a slice
unfoldable pub slice : Readers → Maybe → Tokens → Read Trailer
slice r a ts = maybe r ts >>= λ b.
    if is_colon (first b.1) then (maybe r (skip b.1) >>= λ c. after is_right_bracket c.1 >>= λ rest. Some (tree.slice a b.0 c.0 None, rest))
    else (after is_right_bracket b.1 >>= λ rest. Some (tree.slice a b.0 tree.none None, rest))

-- behind `[`
unfoldable pub subscript : Readers → Tokens → Read Trailer
subscript r ts =
    if is_colon (first ts) then slice r tree.none (skip ts)
    else (r.expr ts >>= λ e.
    if is_colon (first e.1) then slice r (tree.some e.0) (skip e.1)
    else (after is_right_bracket e.1 >>= λ rest. Some (tree.item e.0 None, rest)))

abbrev pub name_by : TokenKind → Tokens → Read Named
name_by (kind.Name n) ts = Some (named n ts, skip ts)
name_by _ ts = None

-- behind a dot
unfoldable pub attr : Tokens → Read Trailer
attr ts = name_by (first ts) ts >>= λ n. Some (tree.attr n.0 None, n.1)

abbrev pub trailer_by : TokenKind → Readers → Tokens → Read Trailer
trailer_by kind.Dot r ts = attr ts
trailer_by kind.LeftBracket r ts = subscript r ts
trailer_by kind.LeftParen r ts = called r ts
trailer_by _ r ts = None

unfoldable pub trailer : Readers → Tokens → Read Trailer
trailer r ts = trailer_by (first ts) r (skip ts)

unfoldable pub trailers : Readers → Tokens → Read Trailers
trailers r ts = all_many tree.no_trailers tree.trailer (at starts_trailer) (trailer r) ts

unfoldable pub primary : Readers → Tokens → Read Expr
primary r ts = atom r ts >>= λ e.
    if starts_trailer (first e.1) then (trailers r e.1 >>= λ xs. Some (tree.node (line_of e.0) (tree.primary e.0 xs.0), xs.1))
    else Some e

unfoldable pub power : Readers → Tokens → Read Expr
power r ts = primary r ts >>= λ e.
    if is_double_star (first e.1) then (r.unary (skip e.1) >>= λ f. Some (tree.node (line_of e.0) (tree.power e.0 f.0), f.1))
    else Some e

abbrev pub unary_by : Option UnOp → Readers → Tokens → Read Expr
unary_by None r ts = power r ts
unary_by (Some o) r ts = r.unary (skip ts) >>= λ e. Some (tree.node (line_at ts) (tree.unary o e.0), e.1)

unfoldable pub unary : Readers → Tokens → Read Expr
unary r ts = unary_by (unary_of (first ts)) r ts

-- a binary operator of this looseness
abbrev pub operator_of : ℕ → TokenKind → Option BinOp
operator_of k j = binary_of j >>= λ o. if looseness o == k then Some o else None

abbrev pub with_op : BinOp × Expr → Ops → Ops
with_op x os = tree.op x.0 x.1 os

abbrev pub is_some : {A : Type 0} → Option A → Bool
is_some None = false
is_some (Some x) = true

-- an operator, and the operand behind it
abbrev pub operation : ℕ → (Tokens → Read Expr) → Tokens → Read (BinOp × Expr)
operation k read ts = operator_of k (first ts) >>= λ o. read (skip ts) >>= λ e. Some ((o, e.0), e.1)

abbrev pub operations : ℕ → (Tokens → Read Expr) → Tokens → Read Ops
operations k read ts = all_many tree.no_ops with_op (at (λ j. is_some (operator_of k j))) (operation k read) ts

-- a first operand, and the operations of this looseness behind it, if there are any
unfoldable pub chained_at : ℕ → (Tokens → Read Expr) → Expr → Tokens → Read Expr
chained_at k read e ts =
    if is_some (operator_of k (first ts)) then (operations k read ts >>= λ os. Some (tree.node (line_of e) (tree.chain e os.0), os.1))
    else Some (e, ts)

unfoldable pub chain : Readers → ℕ → Tokens → Read Expr
chain r zero ts = unary r ts
chain r (suc k) ts = chain r k ts >>= λ e. chained_at (suc k) (chain r k) e.0 e.1

abbrev pub compared_with : Readers → Test → Tokens → Read (Test × Expr)
compared_with r x ts = chain r loosest ts >>= λ e. Some ((x, e.0), e.1)

-- behind `is` or `is not`
abbrev pub nil_by : TokenKind → Test → Tokens → Read (Test × Expr)
nil_by kind.None x ts = Some ((x, tree.node (line_at ts) (tree.const Nil)), skip ts)
nil_by _ x ts = None

abbrev pub is_by : TokenKind → Tokens → Read (Test × Expr)
is_by kind.Not ts = nil_by (first (skip ts)) IsNot (skip ts)
is_by k ts = nil_by k Is ts

abbrev pub test_by : TokenKind → Readers → Tokens → Read (Test × Expr)
test_by kind.In r ts = compared_with r Within ts
test_by kind.Not r ts = after is_in ts >>= λ rest. compared_with r NotWithin rest
test_by kind.Is r ts = is_by (first ts) ts
test_by k r ts = order_of k >>= λ o. compared_with r (Order o) ts

-- an operator of comparison and its right operand
unfoldable pub comparison : Readers → Tokens → Read (Test × Expr)
comparison r ts = test_by (first ts) r (skip ts)

abbrev pub at_test : Tokens → Bool
at_test ts = starts_test (first ts) (first (skip ts))

abbrev pub with_test : Test × Expr → Tests → Tests
with_test x xs = tree.test x.0 x.1 xs

unfoldable pub tests : Readers → Tokens → Read Tests
tests r ts = all_many tree.no_tests with_test at_test (comparison r) ts

unfoldable pub compare : Readers → Tokens → Read Expr
compare r ts = chain r loosest ts >>= λ e.
    if at_test e.1 then (tests r e.1 >>= λ xs. Some (tree.node (line_of e.0) (tree.compare e.0 xs.0), xs.1))
    else Some e

unfoldable pub not : Readers → Tokens → Read Expr
not r ts =
    if is_not (first ts) then (r.not (skip ts) >>= λ e. Some (tree.node (line_at ts) (tree.not e.0), e.1))
    else compare r ts

-- an operand, and those behind it
unfoldable pub ands : Readers → Expr → Tokens → Read Exprs
ands r e ts = before (tree.expr e) (all_many tree.no_exprs tree.expr (at is_and) (behind (not r)) ts)

unfoldable pub and : Readers → Tokens → Read Expr
and r ts = not r ts >>= λ e.
    if is_and (first e.1) then (ands r e.0 e.1 >>= λ es. Some (tree.node (line_of e.0) (tree.and es.0), es.1))
    else Some e

unfoldable pub ors : Readers → Expr → Tokens → Read Exprs
ors r e ts = before (tree.expr e) (all_many tree.no_exprs tree.expr (at is_or) (behind (and r)) ts)

unfoldable pub or : Readers → Tokens → Read Expr
or r ts = and r ts >>= λ e.
    if is_or (first e.1) then (ors r e.0 e.1 >>= λ es. Some (tree.node (line_of e.0) (tree.or es.0), es.1))
    else Some e

abbrev pub no_params : Params
no_params = tree.params tree.no_plain None None

-- parameters without a star, and whether what may still come is a parameter (behind a comma, or where none has come)
abbrev pub Plains : Type 0
Plains = Plain × Bool

abbrev pub with_plain : Named × Maybe → Plains → Plains
with_plain x ps = (tree.plain x.0 x.1 ps.0, ps.1)

-- a parameter without a star; defaults: one with a default has come before
unfoldable pub plain : Readers → Bool → Tokens → Read ((Named × Maybe) × Bool)
plain r defaults ts = name_by (first ts) ts >>= λ n.
    if is_equal (first n.1) then (r.expr (skip n.1) >>= λ e. Some (((n.0, tree.some e.0), true), e.1))
    else (if defaults then None else Some (((n.0, tree.none), false), n.1))

unfoldable pub plains : Readers → Tokens → Read Plains
plains r ts = all_listed (tree.no_plain, true) (tree.no_plain, false) with_plain is_name (plain r) false ts

-- a name, and a comma or none
unfoldable pub last_name : Tokens → Read Named
last_name ts = name_by (first ts) ts >>= λ n. Some (n.0, if is_comma (first n.1) then skip n.1 else n.1)

-- [`**` NAME [',']]
unfoldable pub dict_param : Tokens → Read (Option Named)
dict_param ts =
    if is_double_star (first ts) then (last_name (skip ts) >>= λ n. Some (Some n.0, n.1))
    else Some (None, ts)

-- ['*' NAME [',']], and `**` NAME where it may come
unfoldable pub star_params : Tokens → Read (Option Named × Option Named)
star_params ts =
    if is_star (first ts)
    then (name_by (first (skip ts)) (skip ts) >>= λ n.
    if is_comma (first n.1) then (dict_param (skip n.1) >>= λ d. Some ((Some n.0, d.0), d.1))
    else Some ((Some n.0, None), n.1))
    else (dict_param ts >>= λ d. Some ((None, d.0), d.1))

unfoldable pub params : Readers → Tokens → Read Params
params r ts = plains r ts >>= λ ps.
    if ps.0.1 then (star_params ps.1 >>= λ x. Some (tree.params ps.0.0 x.0.0 x.0.1, x.1))
    else Some (tree.params ps.0.0 None None, ps.1)

-- behind `lambda`
unfoldable pub lambda : Readers → Line → Tokens → Read Expr
lambda r line ts = params r ts >>= λ ps.
    if distinct (parameter_names ps.0) then (after is_colon ps.1 >>= λ rest. r.expr rest >>= λ e. Some (tree.node line (tree.lambda 0 ps.0 e.0), e.1))
    else None

-- behind the first part of a conditional expression and `if`
unfoldable pub conditional : Readers → Expr → Tokens → Read Expr
conditional r e ts = or r ts >>= λ test. after is_else test.1 >>= λ rest. r.expr rest >>= λ f. Some (tree.node (line_of e) (tree.cond test.0 e f.0), f.1)

unfoldable pub expr : Readers → Tokens → Read Expr
expr r ts =
    if is_lambda (first ts) then lambda r (line_at ts) (skip ts)
    else (or r ts >>= λ e. if is_if (first e.1) then conditional r e.0 (skip e.1) else Some e)

-- the readers at a depth
unfoldable pub readers : ℕ → Readers
readers zero = record { expr = λ ts. None; or = λ ts. None; not = λ ts. None; unary = λ ts. None; primary = λ ts. None }
readers (suc d) = record { expr = expr (readers d); or = or (readers d); not = not (readers d); unary = unary (readers d); primary = primary (readers d) }

-- an expression list, which is a tuple where it has a comma
unfoldable pub expr_list : Readers → Tokens → Read Expr
expr_list r ts = expr r ts >>= λ e.
    if is_comma (first e.1) then (exprs r e.0 (skip e.1) >>= λ es. Some (tree.node (line_of e.0) (tree.tuple es.0), es.1))
    else Some e
