-- Short words for trees, so that a script can be read. All stand on one line, and nothing is marked.
use Rattle.std.proofs.Common.{ℕ, pos, Bool, List, [], ◌∷◌, Option, Some, None, map}
use Rattle.rp_base.specs.declared.operator.BinOp.{BinOp}
use Rattle.rp_base.specs.declared.operator.UnOp.{UnOp}
use Rattle.rp_base.specs.declared.value.Line.{Line}
use Rattle.rp_base.specs.declared.value.Name.{Name}
use Rattle.rp_tree.specs.declared.parts.Const.TheVariants as const
use Rattle.rp_tree.specs.Expressions.{Named}
use Rattle.rp_tree.specs.declared.parts.Test.{Test}
use Rattle.rp_tree.specs.Expressions as tree
use Rattle.rp_tree.specs.Statements as stmt_tree
use Rattle.rp_meaning_examples.proofs.Words.{print'}
use Rattle.rp_tree.specs.ExpressionViews.{args_of, clauses_of, exprs_of, maybe_of, ops_of, pairs_of, targets_of, tests_of, trailers_of}
use Rattle.rp_tree.specs.StatementViews.{excepts_of}

abbrev pub line : Line
line = record { 0 = 1 }

abbrev pub named : Name → Named
named name = record { name = name; line = line }

abbrev pub e : tree.Form → tree.Expr
e x = tree.node line x

-- expressions

abbrev pub var : Name → tree.Expr
var n = e (tree.name n)

abbrev pub int : ℕ → tree.Expr
int n = e (tree.int (pos n))

abbrev pub text : List ℕ → tree.Expr
text x = e (tree.text x)

abbrev pub nil : tree.Expr
nil = e (tree.const const.Nil)

abbrev pub truth : Bool → tree.Expr
truth b = e (tree.const (const.Truth b))

abbrev pub tuple : List tree.Expr → tree.Expr
tuple xs = e (tree.tuple (exprs_of xs))

abbrev pub list : List tree.Expr → tree.Expr
list xs = e (tree.list (exprs_of xs))

abbrev pub dict : List (tree.Expr × tree.Expr) → tree.Expr
dict ps = e (tree.dict (pairs_of ps))

abbrev pub or : List tree.Expr → tree.Expr
or xs = e (tree.or (exprs_of xs))

abbrev pub and : List tree.Expr → tree.Expr
and xs = e (tree.and (exprs_of xs))

abbrev pub negated : tree.Expr → tree.Expr
negated x = e (tree.not x)

abbrev pub cond : tree.Expr → tree.Expr → tree.Expr → tree.Expr
cond test this other = e (tree.cond test this other)

abbrev pub compare : tree.Expr → List (Test × tree.Expr) → tree.Expr
compare x xs = e (tree.compare x (tests_of xs))

abbrev pub chain : tree.Expr → List (BinOp × tree.Expr) → tree.Expr
chain x xs = e (tree.chain x (ops_of xs))

abbrev pub binary : BinOp → tree.Expr → tree.Expr → tree.Expr
binary op a b = e (tree.chain a (tree.op op b tree.no_ops))

abbrev pub unary : UnOp → tree.Expr → tree.Expr
unary op x = e (tree.unary op x)

abbrev pub power : tree.Expr → tree.Expr → tree.Expr
power x y = e (tree.power x y)

-- trailers

abbrev pub named_part : Name → tree.Trailer
named_part n = tree.attr (named n) None

abbrev pub item_part : tree.Expr → tree.Trailer
item_part x = tree.item x None

abbrev pub slice_part : tree.Maybe → tree.Maybe → tree.Maybe → tree.Trailer
slice_part a b c = tree.slice a b c None

abbrev pub call_part : List tree.Arg → tree.Trailer
call_part xs = tree.call (args_of xs) None

abbrev pub primary : tree.Expr → List tree.Trailer → tree.Expr
primary x xs = e (tree.primary x (trailers_of xs))

abbrev pub attribute : tree.Expr → Name → tree.Expr
attribute x n = primary x (named_part n ∷ [])

abbrev pub item : tree.Expr → tree.Expr → tree.Expr
item x i = primary x (item_part i ∷ [])

abbrev pub called : tree.Expr → List tree.Expr → tree.Expr
called f xs = primary f (call_part (map tree.value xs) ∷ [])

-- targets, functions and comprehensions

abbrev pub to_name : Name → tree.Place
to_name n = tree.to_name (named n)

abbrev pub to : Name → tree.Target
to n = tree.to_place (to_name n)

abbrev pub to_attribute : tree.Expr → Name → tree.Place
to_attribute x n = tree.to_attr x (named n) None

abbrev pub to_item : tree.Expr → tree.Expr → tree.Place
to_item x i = tree.to_item x i None

abbrev pub group : List tree.Target → tree.Target
group xs = tree.group (targets_of xs)

abbrev pub plain : List (Name × Option tree.Expr) → tree.Plain
plain [] = tree.no_plain
plain (p ∷ ps) = tree.plain (named p.0) (maybe_of p.1) (plain ps)

abbrev pub maybe_named : Option Name → Option Named
maybe_named None = None
maybe_named (Some n) = Some (named n)

abbrev pub params : List (Name × Option tree.Expr) → Option Name → Option Name → tree.Params
params ps l d = tree.params (plain ps) (maybe_named l) (maybe_named d)

abbrev pub plain_params : List Name → tree.Params
plain_params ns = params (map (λ n. (n, None)) ns) None None

-- the number of its block comes first
abbrev pub lambda : ℕ → tree.Params → tree.Expr → tree.Expr
lambda n ps x = e (tree.lambda n ps x)

abbrev pub clause : tree.Target → tree.Expr → List tree.Expr → tree.Clause
clause target x xs = tree.a_clause (tree.a_walk target x None) (exprs_of xs)

abbrev pub list_of : ℕ → tree.Expr → List tree.Clause → tree.Expr
list_of n x cs = e (tree.list_of n x (clauses_of cs))

abbrev pub dict_of : ℕ → tree.Expr → tree.Expr → List tree.Clause → tree.Expr
dict_of n k x cs = e (tree.dict_of n k x (clauses_of cs))

-- statements

abbrev pub body : List stmt_tree.StmtForm → stmt_tree.Stmts
body [] = stmt_tree.no_stmts
body (x ∷ xs) = stmt_tree.stmt (stmt_tree.a_stmt line x) (body xs)

abbrev pub maybe_body : Option (List stmt_tree.StmtForm) → stmt_tree.MaybeStmts
maybe_body None = stmt_tree.none
maybe_body (Some xs) = stmt_tree.some (body xs)

abbrev pub sets : Name → tree.Expr → stmt_tree.StmtForm
sets n x = stmt_tree.assign (to_name n ∷ []) x

abbrev pub prints : List tree.Expr → stmt_tree.StmtForm
prints xs = stmt_tree.evaluate (called (var print') xs)

abbrev pub unpacks : tree.Target → tree.Expr → stmt_tree.StmtForm
unpacks target x = stmt_tree.unpack target x None

abbrev pub augments : tree.Place → BinOp → tree.Expr → stmt_tree.StmtForm
augments place op x = stmt_tree.aug place op line x None

abbrev pub declares_global : List Name → stmt_tree.StmtForm
declares_global ns = stmt_tree.global (map named ns)

abbrev pub branches : List (tree.Expr × List stmt_tree.StmtForm) → stmt_tree.Branches
branches [] = stmt_tree.no_branches
branches (b ∷ bs) = stmt_tree.branch b.0 (body b.1) (branches bs)

abbrev pub choose : List (tree.Expr × List stmt_tree.StmtForm) → Option (List stmt_tree.StmtForm) → stmt_tree.StmtForm
choose bs other = stmt_tree.choose (branches bs) (maybe_body other)

abbrev pub while : tree.Expr → List stmt_tree.StmtForm → stmt_tree.StmtForm
while x b = stmt_tree.while x (body b)

abbrev pub for : tree.Target → tree.Expr → List stmt_tree.StmtForm → stmt_tree.StmtForm
for target x b = stmt_tree.for (tree.a_walk target x None) (body b)

abbrev pub handler : Option tree.Expr → Option Name → List stmt_tree.StmtForm → stmt_tree.Except
handler kind n b = stmt_tree.an_except kind (maybe_named n) (body b)

abbrev pub try : List stmt_tree.StmtForm → List stmt_tree.Except → Option (List stmt_tree.StmtForm) → Option (List stmt_tree.StmtForm) → stmt_tree.StmtForm
try b hs other last = stmt_tree.try (body b) (excepts_of hs) (maybe_body other) (maybe_body last)

abbrev pub define : ℕ → Name → tree.Params → List stmt_tree.StmtForm → stmt_tree.StmtForm
define n name ps b = stmt_tree.define n (named name) ps (body b)

abbrev pub class : Name → List stmt_tree.StmtForm → stmt_tree.StmtForm
class name b = stmt_tree.class (named name) (body b)
