-- Small programs, with the numbers of their code blocks, the local names of these, and where they find names. Names are numbers here.
use Rattle.std.proofs.Common.{◌≡◌, ℕ, List, [], ◌∷◌, Some, None, nat_eq, refl}
use Rattle.rp_base.specs.declared.value.Line.{Line}
use Rattle.rp_base.specs.declared.operator.BinOp.TheVariants.{Add}
use Rattle.rp_tree.specs.declared.parts.Const.TheVariants.{Nil}
use Rattle.rp_tree.specs.ExpressionTrees as trees
use Rattle.rp_tree.specs.declared.parts.Named.{Named}
use Rattle.rp_tree.specs.ExpressionTrees.{Expr, Form, Place, Params}
use Rattle.rp_tree.specs.StatementTrees as stmt_trees
use Rattle.rp_tree.specs.StatementTrees.{Stmt, StmtForm, Stmts}
use Rattle.rp_scope.specs.declared.place.Place2.{Place2}
use Rattle.rp_scope.specs.declared.place.Place2.TheVariants.{Local, Outer, Global}
use Rattle.rp_scope.specs.Numbers.{block_numbers, HasNumbers}
use Rattle.rp_scope.specs.Places as places

line : Line
line = record { 0 = 1 }

abbrev named : ℕ → Named ℕ
named n = record { name = n; line = record { 0 = 1 } }

abbrev e : Form ℕ → Expr ℕ
e x = trees.node (record { 0 = 1 }) x

abbrev a : StmtForm ℕ → Stmt ℕ
a x = stmt_trees.a_stmt (record { 0 = 1 }) x

abbrev name : ℕ → Expr ℕ
name n = e (trees.name n)

abbrev to : ℕ → Place ℕ
to n = trees.to_name (named n)

abbrev no_params : Params ℕ
no_params = trees.params trees.no_plain None None

-- `lambda: NAME`
abbrev lambda : ℕ → ℕ → Expr ℕ
lambda k n = e (trees.lambda k no_params (name n))

abbrev only : StmtForm ℕ → Stmts ℕ
only x = stmt_trees.stmt (a x) stmt_trees.no_stmts

abbrev then_only : StmtForm ℕ → StmtForm ℕ → Stmts ℕ
then_only x y = stmt_trees.stmt (a x) (only y)

abbrev set : ℕ → StmtForm ℕ
set n = stmt_trees.assign (to n ∷ []) (e (trees.const Nil))

abbrev def : ℕ → ℕ → Stmts ℕ → StmtForm ℕ
def k n b = stmt_trees.define k (named n) no_params b

abbrev locals : List ℕ → Stmts ℕ → ℕ → List ℕ
locals first x k = places.locals nat_eq first x k

abbrev place : Stmts ℕ → ℕ → ℕ → Place2
place x k n = places.place nat_eq x k n

-- (lambda: 7) if (lambda: 8) else (lambda: 9): the value where the test is true stands first
abbrev choice : Stmts ℕ
choice = only (stmt_trees.evaluate (e (trees.cond (lambda 2 8) (lambda 1 7) (lambda 3 9))))

choice_numbers : block_numbers choice ≡ 1 ∷ 2 ∷ 3 ∷ []
choice_numbers = refl

choice_has_numbers : HasNumbers choice
choice_has_numbers = refl

-- [lambda: 5 for 5 in [6 for 6 in 7]]: the first iterable stands in the program
abbrev listing : Stmts ℕ
listing =
    let inner : Expr ℕ = e (trees.list_of 3 (name 6) (trees.clause (trees.a_clause (trees.a_walk (trees.to_place (to 6)) (name 7) None) trees.no_exprs) trees.no_clauses)) in
    only (stmt_trees.evaluate (e (trees.list_of 1 (lambda 2 5) (trees.clause (trees.a_clause (trees.a_walk (trees.to_place (to 5)) inner None) trees.no_exprs) trees.no_clauses))))

listing_numbers : block_numbers listing ≡ 1 ∷ 2 ∷ 3 ∷ []
listing_numbers = refl

listing_locals : locals [] listing 1 ≡ 5 ∷ []
listing_locals = refl

listing_from_lambda : place listing 2 5 ≡ Outer 1 0
listing_from_lambda = refl

listing_from_inner : place listing 3 5 ≡ Global
listing_from_inner = refl

listing_own : place listing 3 6 ≡ Local 0
listing_own = refl

-- def 1(2, 3=lambda: 2, *4): 5 = None; 2 = None; lambda: 3
abbrev function : Stmts ℕ
function =
    only (stmt_trees.define 1 (named 1) (trees.params (trees.plain (named 2) trees.none (trees.plain (named 3) (trees.some (lambda 2 2)) trees.no_plain)) (Some (named 4)) None) (stmt_trees.stmt (a (set 5)) (stmt_trees.stmt (a (set 2)) (only (stmt_trees.evaluate (lambda 3 3))))))

function_numbers : block_numbers function ≡ 1 ∷ 2 ∷ 3 ∷ []
function_numbers = refl

function_locals : locals [] function 1 ≡ 2 ∷ 3 ∷ 4 ∷ 5 ∷ []
function_locals = refl

function_program : locals (8 ∷ 1 ∷ []) function 0 ≡ 8 ∷ 1 ∷ []
function_program = refl

-- a default stands around the function
function_default : place function 2 2 ≡ Global
function_default = refl

function_inside : place function 3 3 ≡ Outer 1 1
function_inside = refl

-- def 1():
--     3 = None
--     def 2():
--         global 3, 6
--         4 = None
--         lambda: 3
-- 5 = None
abbrev globals : Stmts ℕ
globals =
    let inner : Stmts ℕ = stmt_trees.stmt (a (stmt_trees.global (named 3 ∷ named 6 ∷ []))) (then_only (set 4) (stmt_trees.evaluate (lambda 3 3))) in
    then_only (def 1 1 (then_only (set 3) (def 2 2 inner))) (set 5)

globals_program : locals [] globals 0 ≡ 1 ∷ 3 ∷ 6 ∷ 5 ∷ []
globals_program = refl

globals_outer : locals [] globals 1 ≡ 3 ∷ 2 ∷ []
globals_outer = refl

globals_inner : locals [] globals 2 ≡ 4 ∷ []
globals_inner = refl

-- the name is bound two blocks outwards, but the function between says that it is global
globals_stop : place globals 3 3 ≡ Global
globals_stop = refl

globals_own : place globals 1 3 ≡ Local 0
globals_own = refl

globals_outwards : place globals 3 2 ≡ Outer 2 1
globals_outwards = refl

-- def 1():
--     class 2:
--         def 3(): 2
abbrev classes : Stmts ℕ
classes = only (def 1 1 (only (stmt_trees.class (named 2) (only (def 2 3 (only (stmt_trees.evaluate (name 2))))))))

classes_numbers : block_numbers classes ≡ 1 ∷ 2 ∷ []
classes_numbers = refl

-- a method binds no name around its class
classes_locals : locals [] classes 1 ≡ 2 ∷ []
classes_locals = refl

classes_from_method : place classes 2 2 ≡ Outer 1 0
classes_from_method = refl

classes_method : place classes 2 3 ≡ Global
classes_method = refl

-- def 1():
--     for 2, 3 in 9:
--         4 += 2
--     try:
--         del 5, 4
--     except 9 as 6:
--         9.7 = None
abbrev bindings : Stmts ℕ
bindings =
    let walk : StmtForm ℕ = stmt_trees.for (trees.a_walk (trees.group (trees.target (trees.to_place (to 2)) (trees.target (trees.to_place (to 3)) trees.no_targets))) (name 9) None) (only (stmt_trees.aug (to 4) Add line (name 2) None)) in
    let handler : stmt_trees.Except ℕ = stmt_trees.an_except (Some (name 9)) (Some (named 6)) (only (stmt_trees.assign (trees.to_attr (name 9) (named 7) None ∷ []) (e (trees.const Nil)))) in
    only (def 1 1 (then_only walk (stmt_trees.try (only (stmt_trees.del (to 5 ∷ to 4 ∷ []))) (stmt_trees.except handler stmt_trees.no_excepts) stmt_trees.none stmt_trees.none)))

bindings_locals : locals [] bindings 1 ≡ 2 ∷ 3 ∷ 4 ∷ 5 ∷ 6 ∷ []
bindings_locals = refl

bindings_deleted : place bindings 1 5 ≡ Local 3
bindings_deleted = refl

bindings_read : place bindings 1 9 ≡ Global
bindings_read = refl

bindings_program : place bindings 0 1 ≡ Global
bindings_program = refl
