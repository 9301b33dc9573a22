-- Items and slices of texts, lists and tuples, dicts, and how they are shown.
-- What is printed is what CPython prints.
use Rattle.std.proofs.Common.{◌≡◌, true, false, [], ◌∷◌, codes, Some, None, Result, refl}
use lib.Utf8.{encode}
use Rattle.rp_base.specs.declared.operator.BinOp.TheVariants.{Mul}
use Rattle.rp_base.specs.declared.operator.CmpOp.TheVariants.{Eq}
use Rattle.rp_base.specs.declared.operator.UnOp.TheVariants.{Neg}
use Rattle.rp_compare.specs.Equality.{within}
use Rattle.rp_tree.specs.declared.parts.Test.TheVariants as test
use Rattle.rp_tree.specs.Expressions as tree
use Rattle.rp_tree.specs.Statements as stmt_tree
use Rattle.rp_meaning.specs.Load.{Refused}
use Rattle.rp_meaning.specs.Sessions.{World, well}
use Rattle.rp_meaning_examples.proofs.Building.{var, int, text, nil, truth, tuple, list, dict, compare, binary, unary, named_part, item_part, slice_part, call_part, primary, item, called, to, to_item, plain_params, lambda, sets, prints, for, handler, try, define}
use Rattle.rp_meaning_examples.proofs.Playing.{left_by, told, program}
use Rattle.rp_meaning_examples.proofs.Shop.{shop_module}
use Rattle.rp_meaning_examples.proofs.Words.{IndexError', KeyError', TypeError', a', append', b', c', d', f', g', k', len', list', t', x', xs', y'}

-- x = 'abcdef'
-- print(x[1:4], x[:3], x[3:], x[::2], x[::-1], x[-3:-1], x[4:1:-1], x[10:] == '', x[:100], x[-100:2])
abbrev slices_of_text : Result World Refused
slices_of_text = left_by
    (shop_module
    ∷ program
    (sets x' (text (codes "abcdef"))
    ∷ prints
    (primary (var x') (slice_part (tree.some (int 1)) (tree.some (int 4)) tree.none ∷ [])
    ∷ primary (var x') (slice_part tree.none (tree.some (int 3)) tree.none ∷ [])
    ∷ primary (var x') (slice_part (tree.some (int 3)) tree.none tree.none ∷ [])
    ∷ primary (var x') (slice_part tree.none tree.none (tree.some (int 2)) ∷ [])
    ∷ primary (var x') (slice_part tree.none tree.none (tree.some (unary Neg (int 1))) ∷ [])
    ∷ primary (var x')
    (slice_part (tree.some (unary Neg (int 3))) (tree.some (unary Neg (int 1))) tree.none ∷ [])
    ∷ primary (var x')
    (slice_part (tree.some (int 4)) (tree.some (int 1)) (tree.some (unary Neg (int 1))) ∷ [])
    ∷ compare (primary (var x') (slice_part (tree.some (int 10)) tree.none tree.none ∷ []))
    ((test.Order Eq, text []) ∷ [])
    ∷ primary (var x') (slice_part tree.none (tree.some (int 100)) tree.none ∷ [])
    ∷ primary (var x')
    (slice_part (tree.some (unary Neg (int 100))) (tree.some (int 2)) tree.none ∷ []) ∷ []) ∷ [])
    ((x' ∷ [], []) ∷ []) ∷ [])

slices_of_text-told : told slices_of_text ≡ (Some well, codes "bcd abc def ace fedcba de edc True abcdef ab\n") ∷ []
unfolding encode within
slices_of_text-told = refl

-- xs = ['a', 'b', 'c', 'd']
-- print(xs[1:3], xs[:-1], xs[::-2], xs[3:1], xs[1::2])
-- y = xs[:]
-- y.append('e')
-- print(xs, y)
abbrev slices_of_lists : Result World Refused
slices_of_lists = left_by
    (shop_module
    ∷ program
    (sets xs' (list (text (codes "a") ∷ text (codes "b") ∷ text (codes "c") ∷ text (codes "d") ∷ []))
    ∷ prints
    (primary (var xs') (slice_part (tree.some (int 1)) (tree.some (int 3)) tree.none ∷ [])
    ∷ primary (var xs') (slice_part tree.none (tree.some (unary Neg (int 1))) tree.none ∷ [])
    ∷ primary (var xs') (slice_part tree.none tree.none (tree.some (unary Neg (int 2))) ∷ [])
    ∷ primary (var xs') (slice_part (tree.some (int 3)) (tree.some (int 1)) tree.none ∷ [])
    ∷ primary (var xs') (slice_part (tree.some (int 1)) tree.none (tree.some (int 2)) ∷ []) ∷ [])
    ∷ sets y' (primary (var xs') (slice_part tree.none tree.none tree.none ∷ []))
    ∷ stmt_tree.evaluate
    (primary (var y') (named_part append' ∷ call_part (tree.value (text (codes "e")) ∷ []) ∷ []))
    ∷ prints (var xs' ∷ var y' ∷ []) ∷ []) ((xs' ∷ y' ∷ [], []) ∷ []) ∷ [])

slices_of_lists-told : told slices_of_lists
    ≡ (
      Some well,
      codes "['b', 'c'] ['a', 'b', 'c'] ['d', 'b'] [] ['b', 'd']\n['a', 'b', 'c', 'd'] ['a', 'b', 'c', 'd', 'e']\n",
    ) ∷ []
unfolding encode within
slices_of_lists-told = refl

-- t = ('a', 'b', 'c')
-- print(t[1:], t[:0], t[::-1], t[-1:], t[0:3:2])
abbrev slices_of_tuples : Result World Refused
slices_of_tuples = left_by
    (shop_module
    ∷ program
    (sets t' (tuple (text (codes "a") ∷ text (codes "b") ∷ text (codes "c") ∷ []))
    ∷ prints
    (primary (var t') (slice_part (tree.some (int 1)) tree.none tree.none ∷ [])
    ∷ primary (var t') (slice_part tree.none (tree.some (int 0)) tree.none ∷ [])
    ∷ primary (var t') (slice_part tree.none tree.none (tree.some (unary Neg (int 1))) ∷ [])
    ∷ primary (var t') (slice_part (tree.some (unary Neg (int 1))) tree.none tree.none ∷ [])
    ∷ primary (var t') (slice_part (tree.some (int 0)) (tree.some (int 3)) (tree.some (int 2)) ∷ []) ∷ []) ∷ [])
    ((t' ∷ [], []) ∷ []) ∷ [])

slices_of_tuples-told : told slices_of_tuples
    ≡ (Some well, codes "('b', 'c') () ('c', 'b', 'a') ('c',) ('a', 'c')\n") ∷ []
unfolding encode within
slices_of_tuples-told = refl

-- print('abc'[-1], ['a', 'b'][-2], ('x', 'y')[-1], 'abc'[True], ['p', 'q'][False])
abbrev indices_from_the_end : Result World Refused
indices_from_the_end = left_by
    (shop_module
    ∷ program
    (prints
    (item (text (codes "abc")) (unary Neg (int 1))
    ∷ item (list (text (codes "a") ∷ text (codes "b") ∷ [])) (unary Neg (int 2))
    ∷ item (tuple (text (codes "x") ∷ text (codes "y") ∷ [])) (unary Neg (int 1))
    ∷ item (text (codes "abc")) (truth true)
    ∷ item (list (text (codes "p") ∷ text (codes "q") ∷ [])) (truth false) ∷ []) ∷ []) (([], []) ∷ []) ∷ [])

indices_from_the_end-told : told indices_from_the_end ≡ (Some well, codes "c a y b p\n") ∷ []
unfolding encode within
indices_from_the_end-told = refl

-- def f(g):
--     try:
--         return g()
--     except IndexError:
--         return 'index'
--     except KeyError:
--         return 'key'
--     except TypeError:
--         return 'type'
-- print(f(lambda: 'abc'[3]), f(lambda: [][0]), f(lambda: ('a',)[-2]), f(lambda: {}['a']), f(lambda: 'abc'['a']))
-- print(f(lambda: ['a'][None]), f(lambda: None[0]), f(lambda: {'a': 'b'}['a']))
-- print(f(lambda: {}[[]]), f(lambda: 'abc'[0:'x']))
abbrev indices_that_are_not_there : Result World Refused
indices_that_are_not_there = left_by
    (shop_module
    ∷ program
    (define 1 f' (plain_params (g' ∷ []))
    (try (stmt_tree.give_back (Some (called (var g') [])) ∷ [])
    (handler (Some (var IndexError')) None (stmt_tree.give_back (Some (text (codes "index"))) ∷ [])
    ∷ handler (Some (var KeyError')) None (stmt_tree.give_back (Some (text (codes "key"))) ∷ [])
    ∷ handler (Some (var TypeError')) None (stmt_tree.give_back (Some (text (codes "type"))) ∷ []) ∷ [])
    None None ∷ [])
    ∷ prints
    (called (var f') (lambda 2 (plain_params []) (item (text (codes "abc")) (int 3)) ∷ [])
    ∷ called (var f') (lambda 3 (plain_params []) (item (list []) (int 0)) ∷ [])
    ∷ called (var f')
    (lambda 4 (plain_params []) (item (tuple (text (codes "a") ∷ [])) (unary Neg (int 2))) ∷ [])
    ∷ called (var f') (lambda 5 (plain_params []) (item (dict []) (text (codes "a"))) ∷ [])
    ∷ called (var f') (lambda 6 (plain_params []) (item (text (codes "abc")) (text (codes "a"))) ∷ []) ∷ [])
    ∷ prints
    (called (var f') (lambda 7 (plain_params []) (item (list (text (codes "a") ∷ [])) nil) ∷ [])
    ∷ called (var f') (lambda 8 (plain_params []) (item nil (int 0)) ∷ [])
    ∷ called (var f')
    (lambda 9 (plain_params [])
    (item (dict ((text (codes "a"), text (codes "b")) ∷ [])) (text (codes "a"))) ∷ []) ∷ [])
    ∷ prints
    (called (var f') (lambda 10 (plain_params []) (item (dict []) (list [])) ∷ [])
    ∷ called (var f')
    (lambda 11 (plain_params [])
    (primary (text (codes "abc"))
    (slice_part (tree.some (int 0)) (tree.some (text (codes "x"))) tree.none ∷ [])) ∷ []) ∷ []) ∷ [])
    ((f' ∷ [], [])
    ∷ (g' ∷ [], [])
    ∷ ([], [])
    ∷ ([], [])
    ∷ ([], [])
    ∷ ([], [])
    ∷ ([], [])
    ∷ ([], [])
    ∷ ([], [])
    ∷ ([], [])
    ∷ ([], [])
    ∷ ([], []) ∷ []) ∷ [])

indices_that_are_not_there-told : told indices_that_are_not_there
    ≡ (Some well, codes "index index index key type\ntype type b\ntype type\n") ∷ []
unfolding encode within
indices_that_are_not_there-told = refl

-- x = [['a', 'b'], {'k': ['c']}]
-- print(x[0][1], x[1]['k'][0], x[-1]['k'][-1])
-- x[0][0] = 'z'
-- x[1]['k'][0] = x[0]
-- x[1]['l'] = 'm'
-- print(x)
abbrev items_within : Result World Refused
items_within = left_by
    (shop_module
    ∷ program
    (sets x'
    (list
    (list (text (codes "a") ∷ text (codes "b") ∷ [])
    ∷ dict ((text (codes "k"), list (text (codes "c") ∷ [])) ∷ []) ∷ []))
    ∷ prints
    (primary (var x') (item_part (int 0) ∷ item_part (int 1) ∷ [])
    ∷ primary (var x') (item_part (int 1) ∷ item_part (text (codes "k")) ∷ item_part (int 0) ∷ [])
    ∷ primary (var x')
    (item_part (unary Neg (int 1)) ∷ item_part (text (codes "k")) ∷ item_part (unary Neg (int 1)) ∷ []) ∷ [])
    ∷ stmt_tree.assign (to_item (item (var x') (int 0)) (int 0) ∷ []) (text (codes "z"))
    ∷ stmt_tree.assign
    (to_item (primary (var x') (item_part (int 1) ∷ item_part (text (codes "k")) ∷ [])) (int 0) ∷ [])
    (item (var x') (int 0))
    ∷ stmt_tree.assign (to_item (item (var x') (int 1)) (text (codes "l")) ∷ []) (text (codes "m"))
    ∷ prints (var x' ∷ []) ∷ []) ((x' ∷ [], []) ∷ []) ∷ [])

items_within-told : told items_within ≡ (Some well, codes "b c c\n[['z', 'b'], {'k': [['z', 'b']], 'l': 'm'}]\n") ∷ []
unfolding encode within
items_within-told = refl

-- xs = ['a', 'b', 'c', 'd']
-- del xs[1]
-- del xs[-1]
-- print(xs)
-- d = {'a': 'x', 'b': 'y'}
-- del d['a'], xs[0]
-- print(d, xs)
-- try:
--     del d['a']
-- except KeyError:
--     print('gone')
abbrev items_deleted : Result World Refused
items_deleted = left_by
    (shop_module
    ∷ program
    (sets xs' (list (text (codes "a") ∷ text (codes "b") ∷ text (codes "c") ∷ text (codes "d") ∷ []))
    ∷ stmt_tree.del (to_item (var xs') (int 1) ∷ [])
    ∷ stmt_tree.del (to_item (var xs') (unary Neg (int 1)) ∷ [])
    ∷ prints (var xs' ∷ [])
    ∷ sets d' (dict ((text (codes "a"), text (codes "x")) ∷ (text (codes "b"), text (codes "y")) ∷ []))
    ∷ stmt_tree.del (to_item (var d') (text (codes "a")) ∷ to_item (var xs') (int 0) ∷ [])
    ∷ prints (var d' ∷ var xs' ∷ [])
    ∷ try (stmt_tree.del (to_item (var d') (text (codes "a")) ∷ []) ∷ [])
    (handler (Some (var KeyError')) None (prints (text (codes "gone") ∷ []) ∷ []) ∷ []) None None ∷ [])
    ((xs' ∷ d' ∷ [], []) ∷ []) ∷ [])

items_deleted-told : told items_deleted ≡ (Some well, codes "['a', 'c']\n{'b': 'y'} ['c']\ngone\n") ∷ []
unfolding encode within
items_deleted-told = refl

-- a = []
-- b = a
-- b.append('x')
-- c = list(a)
-- c.append('y')
-- print(a, b, c, a == b, a == c)
abbrev two_names_of_a_list : Result World Refused
two_names_of_a_list = left_by
    (shop_module
    ∷ program
    (sets a' (list [])
    ∷ sets b' (var a')
    ∷ stmt_tree.evaluate
    (primary (var b') (named_part append' ∷ call_part (tree.value (text (codes "x")) ∷ []) ∷ []))
    ∷ sets c' (called (var list') (var a' ∷ []))
    ∷ stmt_tree.evaluate
    (primary (var c') (named_part append' ∷ call_part (tree.value (text (codes "y")) ∷ []) ∷ []))
    ∷ prints
    (var a'
    ∷ var b'
    ∷ var c'
    ∷ compare (var a') ((test.Order Eq, var b') ∷ [])
    ∷ compare (var a') ((test.Order Eq, var c') ∷ []) ∷ []) ∷ []) ((a' ∷ b' ∷ c' ∷ [], []) ∷ []) ∷ [])

two_names_of_a_list-told : told two_names_of_a_list ≡ (Some well, codes "['x'] ['x'] ['x', 'y'] True False\n") ∷ []
unfolding encode within
two_names_of_a_list-told = refl

-- x = [[]] * 2
-- x[0].append('a')
-- print(x)
-- y = [[], []]
-- y[0].append('a')
-- print(y)
abbrev one_list_twice : Result World Refused
one_list_twice = left_by
    (shop_module
    ∷ program
    (sets x' (binary Mul (list (list [] ∷ [])) (int 2))
    ∷ stmt_tree.evaluate
    (primary (var x')
    (item_part (int 0) ∷ named_part append' ∷ call_part (tree.value (text (codes "a")) ∷ []) ∷ []))
    ∷ prints (var x' ∷ [])
    ∷ sets y' (list (list [] ∷ list [] ∷ []))
    ∷ stmt_tree.evaluate
    (primary (var y')
    (item_part (int 0) ∷ named_part append' ∷ call_part (tree.value (text (codes "a")) ∷ []) ∷ []))
    ∷ prints (var y' ∷ []) ∷ []) ((x' ∷ y' ∷ [], []) ∷ []) ∷ [])

one_list_twice-told : told one_list_twice ≡ (Some well, codes "[['a'], ['a']]\n[['a'], []]\n") ∷ []
unfolding encode within
one_list_twice-told = refl

-- d = {'b': 'x', 'a': 'y'}
-- d['b'] = 'z'
-- d['c'] = 'w'
-- del d['a']
-- d['a'] = 'q'
-- print(d, list(d))
abbrev order_of_keys : Result World Refused
order_of_keys = left_by
    (shop_module
    ∷ program
    (sets d' (dict ((text (codes "b"), text (codes "x")) ∷ (text (codes "a"), text (codes "y")) ∷ []))
    ∷ stmt_tree.assign (to_item (var d') (text (codes "b")) ∷ []) (text (codes "z"))
    ∷ stmt_tree.assign (to_item (var d') (text (codes "c")) ∷ []) (text (codes "w"))
    ∷ stmt_tree.del (to_item (var d') (text (codes "a")) ∷ [])
    ∷ stmt_tree.assign (to_item (var d') (text (codes "a")) ∷ []) (text (codes "q"))
    ∷ prints (var d' ∷ called (var list') (var d' ∷ []) ∷ []) ∷ []) ((d' ∷ [], []) ∷ []) ∷ [])

order_of_keys-told : told order_of_keys ≡ (Some well, codes "{'b': 'z', 'c': 'w', 'a': 'q'} ['b', 'c', 'a']\n") ∷ []
unfolding encode within
order_of_keys-told = refl

-- d = {1: 'a', 'x': 'b', None: 'c', False: 'e'}
-- print(d[True], d['x'], d[None], d[0], len(d) == 4, 0 in d, 2 in d, '1' in d)
abbrev kinds_of_keys : Result World Refused
kinds_of_keys = left_by
    (shop_module
    ∷ program
    (sets d'
    (dict
    ((int 1, text (codes "a"))
    ∷ (text (codes "x"), text (codes "b"))
    ∷ (nil, text (codes "c"))
    ∷ (truth false, text (codes "e")) ∷ []))
    ∷ prints
    (item (var d') (truth true)
    ∷ item (var d') (text (codes "x"))
    ∷ item (var d') nil
    ∷ item (var d') (int 0)
    ∷ compare (called (var len') (var d' ∷ [])) ((test.Order Eq, int 4) ∷ [])
    ∷ compare (int 0) ((test.Within, var d') ∷ [])
    ∷ compare (int 2) ((test.Within, var d') ∷ [])
    ∷ compare (text (codes "1")) ((test.Within, var d') ∷ []) ∷ []) ∷ []) ((d' ∷ [], []) ∷ []) ∷ [])

kinds_of_keys-told : told kinds_of_keys ≡ (Some well, codes "a b c e True True False False\n") ∷ []
unfolding encode within
kinds_of_keys-told = refl

-- def f(k):
--     try:
--         return {k: 'v'}[k]
--     except TypeError:
--         return 'no key'
-- print(f('a'), f([]), f({}), f(([],)), f(-1), f(None), f(True))
abbrev values_that_are_no_keys : Result World Refused
values_that_are_no_keys = left_by
    (shop_module
    ∷ program
    (define 1 f' (plain_params (k' ∷ []))
    (try (stmt_tree.give_back (Some (item (dict ((var k', text (codes "v")) ∷ [])) (var k'))) ∷ [])
    (handler (Some (var TypeError')) None (stmt_tree.give_back (Some (text (codes "no key"))) ∷ []) ∷ [])
    None None ∷ [])
    ∷ prints
    (called (var f') (text (codes "a") ∷ [])
    ∷ called (var f') (list [] ∷ [])
    ∷ called (var f') (dict [] ∷ [])
    ∷ called (var f') (tuple (list [] ∷ []) ∷ [])
    ∷ called (var f') (unary Neg (int 1) ∷ [])
    ∷ called (var f') (nil ∷ [])
    ∷ called (var f') (truth true ∷ []) ∷ []) ∷ []) ((f' ∷ [], []) ∷ (k' ∷ [], []) ∷ []) ∷ [])

values_that_are_no_keys-told : told values_that_are_no_keys ≡ (Some well, codes "v no key no key no key v v v\n") ∷ []
unfolding encode within
values_that_are_no_keys-told = refl

-- print(len('') == 0, len('abc') == 3, len([[], []]) == 2, len(()) == 0, len({'a': 1, 'b': 2, 'a': 3}) == 2)
abbrev lengths_of_all : Result World Refused
lengths_of_all = left_by
    (shop_module
    ∷ program
    (prints
    (compare (called (var len') (text [] ∷ [])) ((test.Order Eq, int 0) ∷ [])
    ∷ compare (called (var len') (text (codes "abc") ∷ [])) ((test.Order Eq, int 3) ∷ [])
    ∷ compare (called (var len') (list (list [] ∷ list [] ∷ []) ∷ [])) ((test.Order Eq, int 2) ∷ [])
    ∷ compare (called (var len') (tuple [] ∷ [])) ((test.Order Eq, int 0) ∷ [])
    ∷ compare
    (called (var len')
    (dict ((text (codes "a"), int 1) ∷ (text (codes "b"), int 2) ∷ (text (codes "a"), int 3) ∷ []) ∷ []))
    ((test.Order Eq, int 2) ∷ []) ∷ []) ∷ []) (([], []) ∷ []) ∷ [])

lengths_of_all-told : told lengths_of_all ≡ (Some well, codes "True True True True True\n") ∷ []
unfolding encode within
lengths_of_all-told = refl

-- print(['it\'s', '"', 'a\\b', 'n\n', '\t'], ('\'"',), {'\'': "'"})
abbrev texts_within : Result World Refused
texts_within = left_by
    (shop_module
    ∷ program
    (prints
    (list
    (text (codes "it's")
    ∷ text (codes "\"")
    ∷ text (codes "a\\b")
    ∷ text (codes "n\n")
    ∷ text (codes "\t") ∷ [])
    ∷ tuple (text (codes "'\"") ∷ [])
    ∷ dict ((text (codes "'"), text (codes "'")) ∷ []) ∷ []) ∷ []) (([], []) ∷ []) ∷ [])

texts_within-told : told texts_within
    ≡ (Some well, codes "[\"it's\", '\"', 'a\\\\b', 'n\\n', '\\t'] ('\\'\"',) {\"'\": \"'\"}\n") ∷ []
unfolding encode within
texts_within-told = refl

-- print(None, True, False, [None, True], {'a': None}, (False,), '')
-- print()
-- print('a', '', 'b')
-- print('')
abbrev shown_values : Result World Refused
shown_values = left_by
    (shop_module
    ∷ program
    (prints
    (nil
    ∷ truth true
    ∷ truth false
    ∷ list (nil ∷ truth true ∷ [])
    ∷ dict ((text (codes "a"), nil) ∷ [])
    ∷ tuple (truth false ∷ [])
    ∷ text [] ∷ [])
    ∷ prints []
    ∷ prints (text (codes "a") ∷ text [] ∷ text (codes "b") ∷ [])
    ∷ prints (text [] ∷ []) ∷ []) (([], []) ∷ []) ∷ [])

shown_values-told : told shown_values
    ≡ (Some well, codes "None True False [None, True] {'a': None} (False,) \n\na  b\n\n") ∷ []
unfolding encode within
shown_values-told = refl

-- d = {'a': 'b'}
-- d['d'] = d
-- print(d)
-- x = ['c']
-- x.append((x, d))
-- print(x)
abbrev dict_within_itself : Result World Refused
dict_within_itself = left_by
    (shop_module
    ∷ program
    (sets d' (dict ((text (codes "a"), text (codes "b")) ∷ []))
    ∷ stmt_tree.assign (to_item (var d') (text (codes "d")) ∷ []) (var d')
    ∷ prints (var d' ∷ [])
    ∷ sets x' (list (text (codes "c") ∷ []))
    ∷ stmt_tree.evaluate
    (primary (var x') (named_part append' ∷ call_part (tree.value (tuple (var x' ∷ var d' ∷ [])) ∷ []) ∷ []))
    ∷ prints (var x' ∷ []) ∷ []) ((d' ∷ x' ∷ [], []) ∷ []) ∷ [])

dict_within_itself-told : told dict_within_itself
    ≡ (Some well, codes "{'a': 'b', 'd': {...}}\n['c', ([...], {'a': 'b', 'd': {...}})]\n") ∷ []
unfolding encode within
dict_within_itself-told = refl

-- xs = ['a', 'b', 'c', 'd']
-- for x in xs:
--     print(x)
--     del xs[0]
-- print(xs)
abbrev shrinking_list : Result World Refused
shrinking_list = left_by
    (shop_module
    ∷ program
    (sets xs' (list (text (codes "a") ∷ text (codes "b") ∷ text (codes "c") ∷ text (codes "d") ∷ []))
    ∷ for (to x') (var xs') (prints (var x' ∷ []) ∷ stmt_tree.del (to_item (var xs') (int 0) ∷ []) ∷ [])
    ∷ prints (var xs' ∷ []) ∷ []) ((xs' ∷ x' ∷ [], []) ∷ []) ∷ [])

shrinking_list-told : told shrinking_list ≡ (Some well, codes "a\nc\n['c', 'd']\n") ∷ []
unfolding encode within
shrinking_list-told = refl
