-- Examples of printed trees, with guards and without.
use Rattle.std.proofs.Common.{◌≡◌, ℕ, pos, List, [], ◌∷◌, ◌++◌, codes, Option, Some, None, refl}
use Rattle.std.specs.Fmt.{digits}
use Rattle.rp_base.specs.declared.operator.BinOp.TheVariants.{Add}
use Rattle.rp_base.specs.declared.operator.CmpOp.TheVariants.{Gt}
use Rattle.rp_base.specs.declared.operator.UnOp.TheVariants.{Neg}
use Rattle.rp_base.specs.declared.value.Line.{Line}
use Rattle.rp_tree.specs.declared.parts.Const.TheVariants.{Nil}
use Rattle.rp_tree.specs.declared.parts.Guard.{Guard}
use Rattle.rp_tree.specs.declared.parts.Guard.TheVariants.{GetAttr, GetItem, Write, GetIter, Unpack, IterUnpack}
use Rattle.rp_tree.specs.declared.parts.Guard.TheVariants.{Apply, Inplace}
use Rattle.rp_tree.specs.declared.parts.Named.{Named}
use Rattle.rp_tree.specs.declared.parts.Test.TheVariants.{Order, IsNot}
use Rattle.rp_tree.specs.ExpressionTrees as trees
use Rattle.rp_tree.specs.ExpressionTrees.{Expr, Form, Exprs, Trailers, Targets, Args, Place}
use Rattle.rp_tree.specs.StatementTrees as stmt_trees
use Rattle.rp_tree.specs.StatementTrees.{Stmt, StmtForm, Stmts}
use Rattle.rp_print.specs.Texts.{◌⧺◌, bracketed, further, indentation, joined, space_before, tuple_end}
use Rattle.rp_print.specs.Statements.{printed}

abbrev Word : Type 0
Word = List ℕ

abbrev here : Line
here = record { 0 = 1 }

abbrev named : Word → Named Word
named w = record { name = w; line = here }

abbrev e : Form Word → Expr Word
e f = trees.node here f

abbrev n : Word → Expr Word
n w = e (trees.name w)

abbrev one : Expr Word
one = e (trees.int (pos 1))

abbrev two : Expr Word → Expr Word → Exprs Word
two x y = trees.expr x (trees.expr y trees.no_exprs)

abbrev sum : Expr Word → Expr Word → Expr Word
sum x y = e (trees.chain x (trees.op Add y trees.no_ops))

abbrev either : Expr Word → Expr Word → Expr Word
either x y = e (trees.or (two x y))

abbrev attr : Option Guard → Expr Word → Word → Expr Word
attr g x w = e (trees.primary x (trees.trailer (trees.attr (named w) g) trees.no_trailers))

abbrev argument : Expr Word → Args Word
argument x = trees.arg (trees.value x) trees.no_args

abbrev called : Option Guard → Expr Word → Args Word → Expr Word
called g x xs = e (trees.primary x (trees.trailer (trees.call xs g) trees.no_trailers))

abbrev place : Word → Place Word
place w = trees.to_name (named w)

abbrev targets : Word → Word → Targets Word
targets v w = trees.target (trees.to_place (place v)) (trees.target (trees.to_place (place w)) trees.no_targets)

abbrev st : StmtForm Word → Stmts Word → Stmts Word
st x xs = stmt_trees.stmt (stmt_trees.a_stmt here x) xs

abbrev alone : StmtForm Word → Stmts Word
alone x = st x stmt_trees.no_stmts

abbrev shown : Expr Word → List ℕ
shown x = printed (alone (stmt_trees.evaluate x))

-- 'a, b = x.y[1]', 'for i in xs: o.n = i', 'f(*xs)' and 't += 1' with their guards
abbrev guarded_lines : Stmts Word
guarded_lines =
    st
    (stmt_trees.unpack (trees.group (targets (codes "a") (codes "b")))
    (e (trees.primary (n (codes "x")) (trees.trailer (trees.attr (named (codes "y")) (Some GetAttr)) (trees.trailer (trees.item one
    (Some GetItem)) trees.no_trailers))))
    (Some Unpack))
    (st
    (stmt_trees.for (trees.a_walk (trees.to_place (place (codes "i"))) (n (codes "xs")) (Some GetIter))
    (alone (stmt_trees.assign (trees.to_attr (n (codes "o")) (named (codes "n")) (Some Write) ∷ []) (n (codes "i")))))
    (st (stmt_trees.evaluate (called (Some Apply) (n (codes "f")) (trees.arg (trees.star (n (codes "xs"))) trees.no_args))) (alone (stmt_trees.aug
    (place (codes "t")) Add here one (Some Inplace)))))

five_lines : printed guarded_lines
    ≡ codes "(a, b) = _unpack_sequence_(_getitem_(_getattr_(x, 'y'), 1), (2,), _getiter_)\n"
    ++ codes "for i in _getiter_(xs):\n    _write_(o).n = i\n_apply_(f, *xs)\nt = _inplacevar_('+=', t, 1)\n"
unfolding ◌⧺◌ bracketed digits further indentation joined space_before tuple_end
five_lines = refl

-- the parts of a conditional expression are operands
conditional : shown (e (trees.cond (e (trees.compare (n (codes "c")) (trees.test (Order Gt) (n (codes "d")) trees.no_tests))) (sum (n
    (codes "a")) (n (codes "b"))) (either (n (codes "e")) (n (codes "f")))))
    ≡ codes "(a + b) if (c > d) else (e or f)\n"
unfolding ◌⧺◌ bracketed digits further indentation joined space_before tuple_end
conditional = refl

-- what is an argument of a guard stands before no trailer
sum_attribute : shown (attr (Some GetAttr) (sum (n (codes "a")) (n (codes "b"))) (codes "x"))
    ≡ codes "_getattr_(a + b, 'x')\n"
unfolding ◌⧺◌ bracketed digits further indentation joined space_before tuple_end
sum_attribute = refl

plain_sum_attribute : shown (attr None (sum (n (codes "a")) (n (codes "b"))) (codes "x")) ≡ codes "(a + b).x\n"
unfolding ◌⧺◌ bracketed digits further indentation joined space_before tuple_end
plain_sum_attribute = refl

number_attribute : shown (attr (Some GetAttr) one (codes "x")) ≡ codes "_getattr_(1, 'x')\n"
unfolding ◌⧺◌ bracketed digits further indentation joined space_before tuple_end
number_attribute = refl

plain_number_attribute : shown (attr None one (codes "x")) ≡ codes "(1).x\n"
unfolding ◌⧺◌ bracketed digits further indentation joined space_before tuple_end
plain_number_attribute = refl

star_call : shown (called (Some Apply) (either (n (codes "f")) (n (codes "g"))) (trees.arg (trees.star (n
    (codes "a"))) trees.no_args)) ≡ codes "_apply_(f or g, *a)\n"
unfolding ◌⧺◌ bracketed digits further indentation joined space_before tuple_end
star_call = refl

-- a primary in parentheses that is called keeps them
called_primary : shown (called None (attr (Some GetAttr) (n (codes "x")) (codes "y")) (argument one))
    ≡ codes "(_getattr_(x, 'y'))(1)\n"
unfolding ◌⧺◌ bracketed digits further indentation joined space_before tuple_end
called_primary = refl

called_attribute : shown (e (trees.primary (n (codes "x")) (trees.trailer (trees.attr (named (codes "y")) (Some GetAttr))
    (trees.trailer (trees.call (argument one) None) trees.no_trailers)))) ≡ codes "_getattr_(x, 'y')(1)\n"
unfolding ◌⧺◌ bracketed digits further indentation joined space_before tuple_end
called_attribute = refl

-- a list of one target, and one within another
abbrev single : Targets Word
single = trees.target (trees.to_place (place (codes "a"))) trees.no_targets

one_target : printed (alone (stmt_trees.unpack (trees.group single) (n (codes "e")) (Some Unpack)))
    ≡ codes "(a,) = _unpack_sequence_(e, (1,), _getiter_)\n"
unfolding ◌⧺◌ bracketed digits further indentation joined space_before tuple_end
one_target = refl

abbrev within : Targets Word
within = trees.target (trees.to_place (place (codes "a"))) (trees.target (trees.group (targets (codes "b") (codes "c"))) trees.no_targets)

inner_targets : printed (alone (stmt_trees.for (trees.a_walk (trees.group within) (n (codes "e")) (Some IterUnpack)) (alone stmt_trees.pass)))
    ≡ codes "for (a, (b, c)) in _iter_unpack_sequence_(e, (2, (1, (2,))), _getiter_):\n    pass\n"
unfolding ◌⧺◌ bracketed digits further indentation joined space_before tuple_end
inner_targets = refl

plain_targets : printed (alone (stmt_trees.unpack (trees.group within) (n (codes "e")) None)) ≡ codes "(a, (b, c)) = e\n"
unfolding ◌⧺◌ bracketed digits further indentation joined space_before tuple_end
plain_targets = refl

a_class : printed (alone (stmt_trees.class (named (codes "A")) (alone stmt_trees.pass))) ≡ codes "class A:\n    pass\n"
unfolding ◌⧺◌ bracketed digits further indentation joined space_before tuple_end
a_class = refl

-- slices
sliced : shown (e (trees.primary (n (codes "o")) (trees.trailer (trees.slice trees.none (trees.some (n
    (codes "b"))) trees.none None) trees.no_trailers))) ≡ codes "o[:b]\n"
unfolding ◌⧺◌ bracketed digits further indentation joined space_before tuple_end
sliced = refl

guarded_slice : shown (e (trees.primary (n (codes "o")) (trees.trailer (trees.slice (trees.some (n (codes "a"))) trees.none (trees.some (n
    (codes "c"))) (Some GetItem)) trees.no_trailers))) ≡ codes "_getitem_(o, slice(a, None, c))\n"
unfolding ◌⧺◌ bracketed digits further indentation joined space_before tuple_end
guarded_slice = refl

-- parameters, blocks, comprehensions
abbrev both : trees.Params Word
both = trees.params (trees.plain (named (codes "a")) trees.none (trees.plain (named (codes "b")) (trees.some one) trees.no_plain)) (Some
    (named (codes "c"))) (Some (named (codes "d")))

function : printed (alone (stmt_trees.define 0 (named (codes "f")) both (alone (stmt_trees.give_back (Some (e (trees.tuple
    (trees.expr one trees.no_exprs)))))))) ≡ codes "def f(a, b=1, *c, **d):\n    return (1,)\n"
unfolding ◌⧺◌ bracketed digits further indentation joined space_before tuple_end
function = refl

lambdas : shown (e (trees.lambda 0 (trees.params trees.no_plain None None) (e (trees.lambda 0 both (e (trees.unary Neg one))))))
    ≡ codes "lambda: lambda a, b=1, *c, **d: -1\n"
unfolding ◌⧺◌ bracketed digits further indentation joined space_before tuple_end
lambdas = refl

abbrev two_branches : stmt_trees.Branches Word
two_branches =
    stmt_trees.branch (n (codes "a")) (alone stmt_trees.pass)
    (stmt_trees.branch (e (trees.not (e (trees.compare (n (codes "a")) (trees.test IsNot (e (trees.const Nil)) trees.no_tests)))))
    (alone stmt_trees.continue) stmt_trees.no_branches)

branches : printed (alone (stmt_trees.choose two_branches (stmt_trees.some (alone stmt_trees.break))))
    ≡ codes "if a:\n    pass\nelif not (a is not None):\n    continue\nelse:\n    break\n"
unfolding ◌⧺◌ bracketed digits further indentation joined space_before tuple_end
branches = refl

handlers : printed (alone (stmt_trees.try (alone stmt_trees.pass) (stmt_trees.except (stmt_trees.an_except (Some (n (codes "K"))) (Some (named
    (codes "k"))) (alone (stmt_trees.raise None))) (stmt_trees.except (stmt_trees.an_except None None (alone stmt_trees.pass)) stmt_trees.no_excepts)) stmt_trees.none
    (stmt_trees.some (alone stmt_trees.pass)))) ≡ codes
    "try:\n    pass\nexcept K as k:\n    raise\nexcept:\n    pass\nfinally:\n    pass\n"
unfolding ◌⧺◌ bracketed digits further indentation joined space_before tuple_end
handlers = refl

abbrev filtered : Expr Word
filtered =
    e
    (trees.list_of 0 (sum (n (codes "x")) one)
    (trees.clause (trees.a_clause (trees.a_walk (trees.to_place (place (codes "x"))) (either (n (codes "xs")) (n (codes "ys"))) None)
    (two (n (codes "x")) (either (n (codes "a")) (n (codes "b"))))) trees.no_clauses))

comprehension : shown filtered ≡ codes "[x + 1 for x in (xs or ys) if x if (a or b)]\n"
unfolding ◌⧺◌ bracketed digits further indentation joined space_before tuple_end
comprehension = refl

a_dict : shown (e (trees.dict (trees.pair (e (trees.text (codes "it's"))) one (trees.pair one (e (trees.tuple trees.no_exprs)) trees.no_pairs))))
    ≡ codes "{\"it's\": 1, 1: ()}\n"
unfolding ◌⧺◌ bracketed digits further indentation joined space_before tuple_end
a_dict = refl
