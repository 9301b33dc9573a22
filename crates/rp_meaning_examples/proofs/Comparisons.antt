-- Comparisons and their chains, membership, truth values, and which operands are evaluated.
-- What is printed is what CPython prints.
use Rattle.std.proofs.Common.{◌≡◌, true, false, [], ◌∷◌, codes, Some, None, Result, refl}
use lib.Utf8.{encode}
use Rattle.rp_base.specs.declared.operator.BinOp.TheVariants.{Add}
use Rattle.rp_base.specs.declared.operator.CmpOp.TheVariants.{Lt, Le, Gt, Ge, Eq, Ne}
use Rattle.rp_base.specs.declared.operator.UnOp.TheVariants.{Neg}
use Rattle.rp_compare.specs.Equality.{within}
use Rattle.rp_tree.specs.declared.parts.Test.TheVariants as test
use Rattle.rp_tree.specs.Statements as stmt_tree
use Rattle.rp_meaning.specs.Load.{Refused}
use Rattle.rp_meaning.specs.Sessions.{World, well}
use Rattle.rp_meaning_examples.proofs.Building.{var, int, text, nil, truth, tuple, list, dict, or, and, negated, cond, compare, binary, unary, called, plain_params, lambda, sets, prints, handler, try, define}
use Rattle.rp_meaning_examples.proofs.Playing.{left_by, told, program}
use Rattle.rp_meaning_examples.proofs.Shop.{shop_module}
use Rattle.rp_meaning_examples.proofs.Words.{TypeError', bool', f', g', len', n', x', y'}

-- print(1 < 2 < 3, 1 < 3 < 2, 3 > 2 > 1, 1 == 1 != 2, 1 < 2 > 1, 1 <= 1 < 2 >= 2)
abbrev comparison_chains : Result World Refused
comparison_chains = left_by
    (shop_module
    ∷ program
    (prints
    (compare (int 1) ((test.Order Lt, int 2) ∷ (test.Order Lt, int 3) ∷ [])
    ∷ compare (int 1) ((test.Order Lt, int 3) ∷ (test.Order Lt, int 2) ∷ [])
    ∷ compare (int 3) ((test.Order Gt, int 2) ∷ (test.Order Gt, int 1) ∷ [])
    ∷ compare (int 1) ((test.Order Eq, int 1) ∷ (test.Order Ne, int 2) ∷ [])
    ∷ compare (int 1) ((test.Order Lt, int 2) ∷ (test.Order Gt, int 1) ∷ [])
    ∷ compare (int 1)
    ((test.Order Le, int 1) ∷ (test.Order Lt, int 2) ∷ (test.Order Ge, int 2) ∷ []) ∷ []) ∷ [])
    (([], []) ∷ []) ∷ [])

comparison_chains-told : told comparison_chains ≡ (Some well, codes "True False True True True True\n") ∷ []
unfolding encode within
comparison_chains-told = refl

-- def f(x):
--     print(x)
--     return x
-- print(f('a') < f('c') < f('b'))
-- print(f('b') < f('a') < f('c'))
abbrev chain_operands : Result World Refused
chain_operands = left_by
    (shop_module
    ∷ program
    (define 1 f' (plain_params (x' ∷ [])) (prints (var x' ∷ []) ∷ stmt_tree.give_back (Some (var x')) ∷ [])
    ∷ prints
    (compare (called (var f') (text (codes "a") ∷ []))
    ((test.Order Lt, called (var f') (text (codes "c") ∷ []))
    ∷ (test.Order Lt, called (var f') (text (codes "b") ∷ [])) ∷ []) ∷ [])
    ∷ prints
    (compare (called (var f') (text (codes "b") ∷ []))
    ((test.Order Lt, called (var f') (text (codes "a") ∷ []))
    ∷ (test.Order Lt, called (var f') (text (codes "c") ∷ [])) ∷ []) ∷ []) ∷ [])
    ((f' ∷ [], []) ∷ (x' ∷ [], []) ∷ []) ∷ [])

chain_operands-told : told chain_operands ≡ (Some well, codes "a\nc\nb\nFalse\nb\na\nFalse\n") ∷ []
unfolding encode within
chain_operands-told = refl

-- print([1, [2]] == [1, [2]], (1, 2) == (1, 2), [1] == (1,), {'a': 1} == {'a': 1})
-- print({'a': 1, 'b': 2} == {'b': 2, 'a': 1}, {'a': 1, 'b': 2} == {'a': 1})
-- print([] == [], [1] != [2], {} == [], {'a': 1} != {'a': 2}, [[], ()] == [[], ()])
abbrev equal_containers : Result World Refused
equal_containers = left_by
    (shop_module
    ∷ program
    (prints
    (compare (list (int 1 ∷ list (int 2 ∷ []) ∷ []))
    ((test.Order Eq, list (int 1 ∷ list (int 2 ∷ []) ∷ [])) ∷ [])
    ∷ compare (tuple (int 1 ∷ int 2 ∷ [])) ((test.Order Eq, tuple (int 1 ∷ int 2 ∷ [])) ∷ [])
    ∷ compare (list (int 1 ∷ [])) ((test.Order Eq, tuple (int 1 ∷ [])) ∷ [])
    ∷ compare (dict ((text (codes "a"), int 1) ∷ []))
    ((test.Order Eq, dict ((text (codes "a"), int 1) ∷ [])) ∷ []) ∷ [])
    ∷ prints
    (compare (dict ((text (codes "a"), int 1) ∷ (text (codes "b"), int 2) ∷ []))
    ((test.Order Eq, dict ((text (codes "b"), int 2) ∷ (text (codes "a"), int 1) ∷ [])) ∷ [])
    ∷ compare (dict ((text (codes "a"), int 1) ∷ (text (codes "b"), int 2) ∷ []))
    ((test.Order Eq, dict ((text (codes "a"), int 1) ∷ [])) ∷ []) ∷ [])
    ∷ prints
    (compare (list []) ((test.Order Eq, list []) ∷ [])
    ∷ compare (list (int 1 ∷ [])) ((test.Order Ne, list (int 2 ∷ [])) ∷ [])
    ∷ compare (dict []) ((test.Order Eq, list []) ∷ [])
    ∷ compare (dict ((text (codes "a"), int 1) ∷ []))
    ((test.Order Ne, dict ((text (codes "a"), int 2) ∷ [])) ∷ [])
    ∷ compare (list (list [] ∷ tuple [] ∷ []))
    ((test.Order Eq, list (list [] ∷ tuple [] ∷ [])) ∷ []) ∷ []) ∷ []) (([], []) ∷ []) ∷ [])

equal_containers-told : told equal_containers
    ≡ (Some well, codes "True True False True\nTrue False\nTrue True False True True\n") ∷ []
unfolding encode within
equal_containers-told = refl

-- print('a' < 'b', 'a' < 'ab', 'B' < 'a', '' < 'a', 'abc' >= 'abc', 'b' > 'ab', 'a' <= '')
abbrev ordered_texts : Result World Refused
ordered_texts = left_by
    (shop_module
    ∷ program
    (prints
    (compare (text (codes "a")) ((test.Order Lt, text (codes "b")) ∷ [])
    ∷ compare (text (codes "a")) ((test.Order Lt, text (codes "ab")) ∷ [])
    ∷ compare (text (codes "B")) ((test.Order Lt, text (codes "a")) ∷ [])
    ∷ compare (text []) ((test.Order Lt, text (codes "a")) ∷ [])
    ∷ compare (text (codes "abc")) ((test.Order Ge, text (codes "abc")) ∷ [])
    ∷ compare (text (codes "b")) ((test.Order Gt, text (codes "ab")) ∷ [])
    ∷ compare (text (codes "a")) ((test.Order Le, text []) ∷ []) ∷ []) ∷ []) (([], []) ∷ []) ∷ [])

ordered_texts-told : told ordered_texts ≡ (Some well, codes "True True True True True True False\n") ∷ []
unfolding encode within
ordered_texts-told = refl

-- print('b' in 'abc', 'bc' in 'abc', 'ac' in 'abc', '' in '', 2 in [1, 2], 'k' in {'k': 1})
-- print(3 not in (1, 2), None in [None], [1] in [[1], [2]], 'v' in {'k': 'v'}, () in ())
abbrev members : Result World Refused
members = left_by
    (shop_module
    ∷ program
    (prints
    (compare (text (codes "b")) ((test.Within, text (codes "abc")) ∷ [])
    ∷ compare (text (codes "bc")) ((test.Within, text (codes "abc")) ∷ [])
    ∷ compare (text (codes "ac")) ((test.Within, text (codes "abc")) ∷ [])
    ∷ compare (text []) ((test.Within, text []) ∷ [])
    ∷ compare (int 2) ((test.Within, list (int 1 ∷ int 2 ∷ [])) ∷ [])
    ∷ compare (text (codes "k")) ((test.Within, dict ((text (codes "k"), int 1) ∷ [])) ∷ []) ∷ [])
    ∷ prints
    (compare (int 3) ((test.NotWithin, tuple (int 1 ∷ int 2 ∷ [])) ∷ [])
    ∷ compare nil ((test.Within, list (nil ∷ [])) ∷ [])
    ∷ compare (list (int 1 ∷ [])) ((test.Within, list (list (int 1 ∷ []) ∷ list (int 2 ∷ []) ∷ [])) ∷ [])
    ∷ compare (text (codes "v")) ((test.Within, dict ((text (codes "k"), text (codes "v")) ∷ [])) ∷ [])
    ∷ compare (tuple []) ((test.Within, tuple []) ∷ []) ∷ []) ∷ []) (([], []) ∷ []) ∷ [])

members-told : told members ≡ (Some well, codes "True True False True True True\nTrue True True False False\n") ∷ []
unfolding encode within
members-told = refl

-- x = None
-- y = []
-- print(x is None, x is not None, y is None, y is not None, 0 == None, '' is not None)
abbrev none_tests : Result World Refused
none_tests = left_by
    (shop_module
    ∷ program
    (sets x' nil
    ∷ sets y' (list [])
    ∷ prints
    (compare (var x') ((test.Is, nil) ∷ [])
    ∷ compare (var x') ((test.IsNot, nil) ∷ [])
    ∷ compare (var y') ((test.Is, nil) ∷ [])
    ∷ compare (var y') ((test.IsNot, nil) ∷ [])
    ∷ compare (int 0) ((test.Order Eq, nil) ∷ [])
    ∷ compare (text []) ((test.IsNot, nil) ∷ []) ∷ []) ∷ []) ((x' ∷ y' ∷ [], []) ∷ []) ∷ [])

none_tests-told : told none_tests ≡ (Some well, codes "True False False True False True\n") ∷ []
unfolding encode within
none_tests-told = refl

-- print(bool(0), bool(''), bool([]), bool({}), bool(()), bool(None))
-- print(bool('0'), bool([0]), bool(-1), bool((None,)), bool({'': ''}), bool(len))
abbrev truths : Result World Refused
truths = left_by
    (shop_module
    ∷ program
    (prints
    (called (var bool') (int 0 ∷ [])
    ∷ called (var bool') (text [] ∷ [])
    ∷ called (var bool') (list [] ∷ [])
    ∷ called (var bool') (dict [] ∷ [])
    ∷ called (var bool') (tuple [] ∷ [])
    ∷ called (var bool') (nil ∷ []) ∷ [])
    ∷ prints
    (called (var bool') (text (codes "0") ∷ [])
    ∷ called (var bool') (list (int 0 ∷ []) ∷ [])
    ∷ called (var bool') (unary Neg (int 1) ∷ [])
    ∷ called (var bool') (tuple (nil ∷ []) ∷ [])
    ∷ called (var bool') (dict ((text [], text []) ∷ []) ∷ [])
    ∷ called (var bool') (var len' ∷ []) ∷ []) ∷ []) (([], []) ∷ []) ∷ [])

truths-told : told truths
    ≡ (Some well, codes "False False False False False False\nTrue True True True True True\n") ∷ []
unfolding encode within
truths-told = refl

-- print(0 or 'x', '' or 'y', 1 and 'z', 'a' or 'b' and 'c', not 'a' or 'b')
-- print([] and 'a', None or {} or 'last', 'first' and () and 'third')
abbrev chosen_operands : Result World Refused
chosen_operands = left_by
    (shop_module
    ∷ program
    (prints
    (or (int 0 ∷ text (codes "x") ∷ [])
    ∷ or (text [] ∷ text (codes "y") ∷ [])
    ∷ and (int 1 ∷ text (codes "z") ∷ [])
    ∷ or (text (codes "a") ∷ and (text (codes "b") ∷ text (codes "c") ∷ []) ∷ [])
    ∷ or (negated (text (codes "a")) ∷ text (codes "b") ∷ []) ∷ [])
    ∷ prints
    (and (list [] ∷ text (codes "a") ∷ [])
    ∷ or (nil ∷ dict [] ∷ text (codes "last") ∷ [])
    ∷ and (text (codes "first") ∷ tuple [] ∷ text (codes "third") ∷ []) ∷ []) ∷ []) (([], []) ∷ []) ∷ [])

chosen_operands-told : told chosen_operands ≡ (Some well, codes "x y z a b\n[] last ()\n") ∷ []
unfolding encode within
chosen_operands-told = refl

-- def f():
--     print('f')
--     return True
-- print(False and f(), True or f())
-- print(True and f(), False or f())
abbrev operands_left_out : Result World Refused
operands_left_out = left_by
    (shop_module
    ∷ program
    (define 1 f' (plain_params [])
    (prints (text (codes "f") ∷ []) ∷ stmt_tree.give_back (Some (truth true)) ∷ [])
    ∷ prints
    (and (truth false ∷ called (var f') [] ∷ []) ∷ or (truth true ∷ called (var f') [] ∷ []) ∷ [])
    ∷ prints
    (and (truth true ∷ called (var f') [] ∷ []) ∷ or (truth false ∷ called (var f') [] ∷ []) ∷ []) ∷ [])
    ((f' ∷ [], []) ∷ ([], []) ∷ []) ∷ [])

operands_left_out-told : told operands_left_out ≡ (Some well, codes "False True\nf\nf\nTrue True\n") ∷ []
unfolding encode within
operands_left_out-told = refl

-- def f(n):
--     return 'none' if n == 0 else 'one' if n == 1 else 'many'
-- print(f(0), f(1), f(2))
-- print(('a' if [] else 'b') + ('c' if [[]] else 'd'))
abbrev conditions : Result World Refused
conditions = left_by
    (shop_module
    ∷ program
    (define 1 f' (plain_params (n' ∷ []))
    (stmt_tree.give_back
    (Some
    (cond (compare (var n') ((test.Order Eq, int 0) ∷ [])) (text (codes "none"))
    (cond (compare (var n') ((test.Order Eq, int 1) ∷ [])) (text (codes "one")) (text (codes "many"))))) ∷ [])
    ∷ prints
    (called (var f') (int 0 ∷ []) ∷ called (var f') (int 1 ∷ []) ∷ called (var f') (int 2 ∷ []) ∷ [])
    ∷ prints
    (binary Add (cond (list []) (text (codes "a")) (text (codes "b")))
    (cond (list (list [] ∷ [])) (text (codes "c")) (text (codes "d"))) ∷ []) ∷ [])
    ((f' ∷ [], []) ∷ (n' ∷ [], []) ∷ []) ∷ [])

conditions-told : told conditions ≡ (Some well, codes "none one many\nbc\n") ∷ []
unfolding encode within
conditions-told = refl

-- print(1 == '1', None == False, 'a' == ['a'], True == 1, (1,) == [1], '' == None, 0 != '')
abbrev different_kinds : Result World Refused
different_kinds = left_by
    (shop_module
    ∷ program
    (prints
    (compare (int 1) ((test.Order Eq, text (codes "1")) ∷ [])
    ∷ compare nil ((test.Order Eq, truth false) ∷ [])
    ∷ compare (text (codes "a")) ((test.Order Eq, list (text (codes "a") ∷ [])) ∷ [])
    ∷ compare (truth true) ((test.Order Eq, int 1) ∷ [])
    ∷ compare (tuple (int 1 ∷ [])) ((test.Order Eq, list (int 1 ∷ [])) ∷ [])
    ∷ compare (text []) ((test.Order Eq, nil) ∷ [])
    ∷ compare (int 0) ((test.Order Ne, text []) ∷ []) ∷ []) ∷ []) (([], []) ∷ []) ∷ [])

different_kinds-told : told different_kinds ≡ (Some well, codes "False False False True False False True\n") ∷ []
unfolding encode within
different_kinds-told = refl

-- def f(g):
--     try:
--         return g()
--     except TypeError:
--         return 'no order'
-- print(f(lambda: 1 < 'a'), f(lambda: None <= None), f(lambda: 'a' > ['a']), f(lambda: {} < {}), f(lambda: 2 > True))
abbrev not_ordered : Result World Refused
not_ordered = left_by
    (shop_module
    ∷ program
    (define 1 f' (plain_params (g' ∷ []))
    (try (stmt_tree.give_back (Some (called (var g') [])) ∷ [])
    (handler (Some (var TypeError')) None (stmt_tree.give_back (Some (text (codes "no order"))) ∷ []) ∷ [])
    None None ∷ [])
    ∷ prints
    (called (var f')
    (lambda 2 (plain_params []) (compare (int 1) ((test.Order Lt, text (codes "a")) ∷ [])) ∷ [])
    ∷ called (var f') (lambda 3 (plain_params []) (compare nil ((test.Order Le, nil) ∷ [])) ∷ [])
    ∷ called (var f')
    (lambda 4 (plain_params [])
    (compare (text (codes "a")) ((test.Order Gt, list (text (codes "a") ∷ [])) ∷ [])) ∷ [])
    ∷ called (var f')
    (lambda 5 (plain_params []) (compare (dict []) ((test.Order Lt, dict []) ∷ [])) ∷ [])
    ∷ called (var f')
    (lambda 6 (plain_params []) (compare (int 2) ((test.Order Gt, truth true) ∷ [])) ∷ []) ∷ []) ∷ [])
    ((f' ∷ [], []) ∷ (g' ∷ [], []) ∷ ([], []) ∷ ([], []) ∷ ([], []) ∷ ([], []) ∷ ([], []) ∷ []) ∷ [])

not_ordered-told : told not_ordered ≡ (Some well, codes "no order no order no order no order True\n") ∷ []
unfolding encode within
not_ordered-told = refl
