-- Operators, comparisons, displays, comprehensions and what they cost.
use Rattle.std.proofs.Common.{◌≡◌, true, [], ◌∷◌, codes, Some, None, refl}
use lib.Utf8.{encode}
use Rattle.rp_base.specs.declared.kind.Kind.TheVariants.{IndexError, TypeError, AttributeError, ForbiddenAttribute}
use Rattle.rp_base.specs.declared.operator.BinOp.TheVariants.{Add, Sub, Mul, FloorDiv, Mod}
use Rattle.rp_base.specs.declared.operator.CmpOp.TheVariants.{Lt, Gt, Eq, Ne}
use Rattle.rp_base.specs.declared.operator.UnOp.TheVariants.{Neg, Pos, Invert}
use Rattle.rp_compare.specs.Equality.{within}
use Rattle.rp_tree.specs.declared.parts.Test.TheVariants as test
use Rattle.rp_tree.specs.Statements as stmt_tree
use Rattle.rp_meaning.specs.Scopes.{outer}
use Rattle.rp_meaning.specs.Sessions.{well, cut_off}
use Rattle.rp_meaning_examples.proofs.Building.{var, int, text, nil, truth, tuple, list, dict, or, and, negated, cond, compare, binary, unary, power, item_part, call_part, primary, attribute, item, called, to_name, to, to_item, group, plain_params, lambda, clause, list_of, dict_of, sets, prints, augments, for, handler, try, define}
use Rattle.rp_meaning_examples.proofs.Playing.{Seen, seen, not_read, plays, program, raises_with}
use Rattle.rp_meaning_examples.proofs.Shop.{shop_module}
use Rattle.rp_meaning_examples.proofs.Words.{TypeError', ValueError', a', d', e', f', getattr', i', k', len', n', o', range', setattr', v', x', y'}

-- d = {'a': 'x', 'b': 'y', 'a': 'z'}
-- print(d, d['a'])
-- d['c'] = 'w'
-- del d['b']
-- print(d)
-- for k in d:
--     print(k)
-- e = {k: k + v for k, v in [('a', 'b'), ('c', 'd')] if k != 'zz'}
-- print(e)
-- print([x + y for x in 'ab' for y in ['c', 'd'] if x + y != 'bc'])
-- d[[]] = 'q'
abbrev dicts : Seen
dicts = plays
    (shop_module
    ∷ program
    (sets d'
    (dict
    ((text (codes "a"), text (codes "x"))
    ∷ (text (codes "b"), text (codes "y"))
    ∷ (text (codes "a"), text (codes "z")) ∷ []))
    ∷ prints (var d' ∷ item (var d') (text (codes "a")) ∷ [])
    ∷ stmt_tree.assign (to_item (var d') (text (codes "c")) ∷ []) (text (codes "w"))
    ∷ stmt_tree.del (to_item (var d') (text (codes "b")) ∷ [])
    ∷ prints (var d' ∷ [])
    ∷ for (to k') (var d') (prints (var k' ∷ []) ∷ [])
    ∷ sets e'
    (dict_of 1 (var k') (binary Add (var k') (var v'))
    (clause (group (to k' ∷ to v' ∷ []))
    (list
    (tuple (text (codes "a") ∷ text (codes "b") ∷ [])
    ∷ tuple (text (codes "c") ∷ text (codes "d") ∷ []) ∷ []))
    (compare (var k') ((test.Order Ne, text (codes "zz")) ∷ []) ∷ []) ∷ []))
    ∷ prints (var e' ∷ [])
    ∷ prints
    (list_of 2 (binary Add (var x') (var y'))
    (clause (to x') (text (codes "ab")) []
    ∷ clause (to y') (list (text (codes "c") ∷ text (codes "d") ∷ []))
    (compare (binary Add (var x') (var y')) ((test.Order Ne, text (codes "bc")) ∷ []) ∷ []) ∷ []) ∷ [])
    ∷ stmt_tree.assign (to_item (var d') (list []) ∷ []) (text (codes "q")) ∷ [])
    ((d' ∷ k' ∷ e' ∷ [], []) ∷ (k' ∷ v' ∷ [], []) ∷ (x' ∷ y' ∷ [], []) ∷ []) ∷ [])

dicts-seen : dicts
    ≡ seen 143 []
    ((
      Some (cut_off (raises_with TypeError (codes "key"))),
      999870,
      codes
          "{'a': 'z', 'b': 'y'} z\n{'a': 'z', 'c': 'w'}\na\nc\n{'a': 'ab', 'c': 'cd'}\n['ac', 'ad', 'bd']\n",
    ) ∷ [])
unfolding encode within
dicts-seen = refl

-- x = 'a' and '' and 'c'
-- print(x, '' or 'b', not x, 'yes' if x else 'no')
-- print('a' < 'b' < 'c', 'a' < 'b' > 'c', 'a' in 'abc', 'a' not in ['a'], None is None, 'x' is not None)
-- print(-3 < 2, ~0 == -1, +True == 1, 2 ** 3 ** 2 == 512, -2 ** 2 == -4, 7 // -2 == -4, 7 % -2 == -1)
-- print(1 < 'a')
abbrev operators : Seen
operators = plays
    (shop_module
    ∷ program
    (sets x' (and (text (codes "a") ∷ text [] ∷ text (codes "c") ∷ []))
    ∷ prints
    (var x'
    ∷ or (text [] ∷ text (codes "b") ∷ [])
    ∷ negated (var x')
    ∷ cond (var x') (text (codes "yes")) (text (codes "no")) ∷ [])
    ∷ prints
    (compare (text (codes "a"))
    ((test.Order Lt, text (codes "b")) ∷ (test.Order Lt, text (codes "c")) ∷ [])
    ∷ compare (text (codes "a"))
    ((test.Order Lt, text (codes "b")) ∷ (test.Order Gt, text (codes "c")) ∷ [])
    ∷ compare (text (codes "a")) ((test.Within, text (codes "abc")) ∷ [])
    ∷ compare (text (codes "a")) ((test.NotWithin, list (text (codes "a") ∷ [])) ∷ [])
    ∷ compare nil ((test.Is, nil) ∷ [])
    ∷ compare (text (codes "x")) ((test.IsNot, nil) ∷ []) ∷ [])
    ∷ prints
    (compare (unary Neg (int 3)) ((test.Order Lt, int 2) ∷ [])
    ∷ compare (unary Invert (int 0)) ((test.Order Eq, unary Neg (int 1)) ∷ [])
    ∷ compare (unary Pos (truth true)) ((test.Order Eq, int 1) ∷ [])
    ∷ compare (power (int 2) (power (int 3) (int 2))) ((test.Order Eq, int 512) ∷ [])
    ∷ compare (unary Neg (power (int 2) (int 2))) ((test.Order Eq, unary Neg (int 4)) ∷ [])
    ∷ compare (binary FloorDiv (int 7) (unary Neg (int 2))) ((test.Order Eq, unary Neg (int 4)) ∷ [])
    ∷ compare (binary Mod (int 7) (unary Neg (int 2))) ((test.Order Eq, unary Neg (int 1)) ∷ []) ∷ [])
    ∷ prints (compare (int 1) ((test.Order Lt, text (codes "a")) ∷ []) ∷ []) ∷ [])
    ((x' ∷ [], []) ∷ []) ∷ [])

operators-seen : operators
    ≡ seen 80 []
    ((
      Some (cut_off (raises_with TypeError (codes "operand"))),
      999907,
      codes " b True no\nTrue False True False True True\nTrue True True True True True True\n",
    ) ∷ [])
unfolding encode within
operators-seen = refl

-- print([i for i in range(3)] == [0, 1, 2], {k: 'v' for k in 'ab'})
-- f = [lambda: i for i in 'xy']
-- print(f[0](), f[1]())
-- print([[y for y in x] for x in ['ab', 'c']])
abbrev comprehensions : Seen
comprehensions = plays
    (shop_module
    ∷ program
    (prints
    (compare (list_of 1 (var i') (clause (to i') (called (var range') (int 3 ∷ [])) [] ∷ []))
    ((test.Order Eq, list (int 0 ∷ int 1 ∷ int 2 ∷ [])) ∷ [])
    ∷ dict_of 2 (var k') (text (codes "v")) (clause (to k') (text (codes "ab")) [] ∷ []) ∷ [])
    ∷ sets f' (list_of 3 (lambda 4 (plain_params []) (var i')) (clause (to i') (text (codes "xy")) [] ∷ []))
    ∷ prints
    (primary (var f') (item_part (int 0) ∷ call_part [] ∷ [])
    ∷ primary (var f') (item_part (int 1) ∷ call_part [] ∷ []) ∷ [])
    ∷ prints
    (list_of 5 (list_of 6 (var y') (clause (to y') (var x') [] ∷ []))
    (clause (to x') (list (text (codes "ab") ∷ text (codes "c") ∷ [])) [] ∷ []) ∷ []) ∷ [])
    ((f' ∷ [], [])
    ∷ (i' ∷ [], [])
    ∷ (k' ∷ [], [])
    ∷ (i' ∷ [], [])
    ∷ ([], (i', outer 1 0) ∷ [])
    ∷ (x' ∷ [], [])
    ∷ (y' ∷ [], (x', outer 1 0) ∷ []) ∷ []) ∷ [])

comprehensions-seen : comprehensions
    ≡ seen 102 [] ((Some well, 999925, codes "True {'a': 'v', 'b': 'v'}\ny y\n[['a', 'b'], ['c']]\n") ∷ [])
unfolding encode within
comprehensions-seen = refl

-- print(len(o, o))
abbrev too_many_arguments : Seen
too_many_arguments = plays
    (shop_module
    ∷ program (prints (called (var len') (var o' ∷ var o' ∷ []) ∷ []) ∷ []) (([], []) ∷ []) ∷ [])

too_many_arguments-seen : too_many_arguments
    ≡ seen 0 [] ((Some (cut_off (raises_with TypeError (codes "arguments"))), 999993, []) ∷ [])
unfolding encode within
too_many_arguments-seen = refl

-- 'abc'.n
abbrev no_attribute : Seen
no_attribute = plays (shop_module ∷ program (stmt_tree.evaluate (attribute (text (codes "abc")) n') ∷ []) (([], []) ∷ []) ∷ [])

no_attribute-seen : no_attribute
    ≡ seen 0 [] ((Some (cut_off (raises_with AttributeError (codes "n"))), 999997, []) ∷ [])
unfolding encode within
no_attribute-seen = refl

-- print('a'[5])
abbrev index_outside : Seen
index_outside = plays (shop_module ∷ program (prints (item (text (codes "a")) (int 5) ∷ []) ∷ []) (([], []) ∷ []) ∷ [])

index_outside-seen : index_outside
    ≡ seen 0 [] ((Some (cut_off (raises_with IndexError (codes "index"))), 999994, []) ∷ [])
unfolding encode within
index_outside-seen = refl

-- None()
abbrev none_called : Seen
none_called = plays (shop_module ∷ program (stmt_tree.evaluate (called nil []) ∷ []) (([], []) ∷ []) ∷ [])

none_called-seen : none_called ≡ seen 0 [] ((Some (cut_off (raises_with TypeError (codes "call"))), 999997, []) ∷ [])
unfolding encode within
none_called-seen = refl

-- def f(x):
--     return x
-- print(f)
-- print(ValueError, len, [f])
-- f(1, 2)
abbrev shown_functions : Seen
shown_functions = plays
    (shop_module
    ∷ program
    (define 1 f' (plain_params (x' ∷ [])) (stmt_tree.give_back (Some (var x')) ∷ [])
    ∷ prints (var f' ∷ [])
    ∷ prints (var ValueError' ∷ var len' ∷ list (var f' ∷ []) ∷ [])
    ∷ stmt_tree.evaluate (called (var f') (int 1 ∷ int 2 ∷ [])) ∷ [])
    ((f' ∷ [], []) ∷ (x' ∷ [], []) ∷ []) ∷ [])

shown_functions-seen : shown_functions
    ≡ seen 67 []
    ((
      Some (cut_off (raises_with TypeError (codes "arguments"))),
      999982,
      codes "<function f>\n<class 'ValueError'> <function len> [<function f>]\n",
    ) ∷ [])
unfolding encode within
shown_functions-seen = refl

-- try:
--     x = [i for i in 3]
-- except TypeError as e:
--     print(e)
-- x = {1: 'a', True: 'b', None: 'c'}
-- print(len(x) == 2, x[1], x[None])
-- print([x for x in 'ab'], len(x) == 2)
-- print((), ('a',), [], {}, ('a', ('b',)))
-- x = ['a']
-- x[0] = x
-- print(x)
abbrev displays : Seen
displays = plays
    (shop_module
    ∷ program
    (try (sets x' (list_of 1 (var i') (clause (to i') (int 3) [] ∷ [])) ∷ [])
    (handler (Some (var TypeError')) (Some e') (prints (var e' ∷ []) ∷ []) ∷ []) None None
    ∷ sets x' (dict ((int 1, text (codes "a")) ∷ (truth true, text (codes "b")) ∷ (nil, text (codes "c")) ∷ []))
    ∷ prints
    (compare (called (var len') (var x' ∷ [])) ((test.Order Eq, int 2) ∷ [])
    ∷ item (var x') (int 1)
    ∷ item (var x') nil ∷ [])
    ∷ prints
    (list_of 2 (var x') (clause (to x') (text (codes "ab")) [] ∷ [])
    ∷ compare (called (var len') (var x' ∷ [])) ((test.Order Eq, int 2) ∷ []) ∷ [])
    ∷ prints
    (tuple []
    ∷ tuple (text (codes "a") ∷ [])
    ∷ list []
    ∷ dict []
    ∷ tuple (text (codes "a") ∷ tuple (text (codes "b") ∷ []) ∷ []) ∷ [])
    ∷ sets x' (list (text (codes "a") ∷ []))
    ∷ stmt_tree.assign (to_item (var x') (int 0) ∷ []) (var x')
    ∷ prints (var x' ∷ []) ∷ [])
    ((x' ∷ e' ∷ [], []) ∷ (i' ∷ [], []) ∷ (x' ∷ [], []) ∷ []) ∷ [])

displays-seen : displays
    ≡ seen 93 []
    ((Some well, 999925, codes "iterate\nTrue b c\n['a', 'b'] True\n() ('a',) [] {} ('a', ('b',))\n[[...]]\n") ∷ [])
unfolding encode within
displays-seen = refl

-- getattr(o, 1)
abbrev no_name : Seen
no_name = plays
    (shop_module
    ∷ program (stmt_tree.evaluate (called (var getattr') (var o' ∷ int 1 ∷ [])) ∷ []) (([], []) ∷ []) ∷ [])

no_name-seen : no_name ≡ seen 0 [] ((Some (cut_off (raises_with TypeError (codes "argument"))), 999995, []) ∷ [])
unfolding encode within
no_name-seen = refl

-- x = [1]
-- setattr(x, 'a', 2)
abbrev list_without_attributes : Seen
list_without_attributes = plays
    (shop_module
    ∷ program
    (sets x' (list (int 1 ∷ []))
    ∷ stmt_tree.evaluate (called (var setattr') (var x' ∷ text (codes "a") ∷ int 2 ∷ [])) ∷ [])
    ((x' ∷ [], []) ∷ []) ∷ [])

list_without_attributes-seen : list_without_attributes
    ≡ seen 2 [] ((Some (cut_off (raises_with AttributeError (codes "a"))), 999991, []) ∷ [])
unfolding encode within
list_without_attributes-seen = refl

-- x = 1
-- x -= 'a'
abbrev wrong_operand : Seen
wrong_operand = plays
    (shop_module
    ∷ program (sets x' (int 1) ∷ augments (to_name x') Sub (text (codes "a")) ∷ []) ((x' ∷ [], []) ∷ []) ∷ [])

wrong_operand-seen : wrong_operand
    ≡ seen 0 [] ((Some (cut_off (raises_with TypeError (codes "operand"))), 999996, []) ∷ [])
unfolding encode within
wrong_operand-seen = refl

-- x = 'a'
-- x *= 3
-- print(x)
-- x += o
abbrev in_place : Seen
in_place = plays
    (shop_module
    ∷ program
    (sets x' (text (codes "a"))
    ∷ augments (to_name x') Mul (int 3)
    ∷ prints (var x' ∷ [])
    ∷ augments (to_name x') Add (var o') ∷ [])
    ((x' ∷ [], []) ∷ []) ∷ [])

in_place-seen : in_place
    ≡ seen 8 (not_read 1 (codes "Item") (codes "__radd__") ∷ [])
    ((Some (cut_off (raises_with ForbiddenAttribute (codes "__radd__"))), 999990, codes "aaa\n") ∷ [])
unfolding encode within
in_place-seen = refl

-- a = [1]
-- print(a < [2])
abbrev lists_unordered : Seen
lists_unordered = plays
    (shop_module
    ∷ program
    (sets a' (list (int 1 ∷ [])) ∷ prints (compare (var a') ((test.Order Lt, list (int 2 ∷ [])) ∷ []) ∷ []) ∷ [])
    ((a' ∷ [], []) ∷ []) ∷ [])

lists_unordered-seen : lists_unordered
    ≡ seen 4 [] ((Some (cut_off (raises_with TypeError (codes "operand"))), 999990, []) ∷ [])
unfolding encode within
lists_unordered-seen = refl
