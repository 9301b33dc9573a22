-- Defaults, arguments by name and by star, scopes, closures, and functions as values.
-- What is printed is what CPython prints.
use Rattle.std.proofs.Common.{◌≡◌, true, false, [], ◌∷◌, codes, Some, None, Result, refl}
use lib.Utf8.{encode}
use Rattle.rp_base.specs.declared.operator.BinOp.TheVariants.{Add, Sub}
use Rattle.rp_base.specs.declared.operator.CmpOp.TheVariants.{Eq}
use Rattle.rp_compare.specs.Equality.{within}
use Rattle.rp_tree.specs.declared.parts.Test.TheVariants as test
use Rattle.rp_tree.specs.Expressions as tree
use Rattle.rp_tree.specs.Statements as stmt_tree
use Rattle.rp_meaning.specs.Load.{Refused}
use Rattle.rp_meaning.specs.Scopes.{outer}
use Rattle.rp_meaning.specs.Sessions.{World, well}
use Rattle.rp_meaning_examples.proofs.Building.{var, int, text, nil, truth, tuple, list, dict, cond, compare, chain, binary, named_part, slice_part, call_part, primary, item, called, to_name, to, to_item, params, plain_params, lambda, clause, list_of, sets, prints, augments, declares_global, choose, for, handler, try, define}
use Rattle.rp_meaning_examples.proofs.Playing.{left_by, told, program}
use Rattle.rp_meaning_examples.proofs.Shop.{shop_module}
use Rattle.rp_meaning_examples.proofs.Words.{NameError', TypeError', UnboundLocalError', a', append', b', c', d', f', g', h', i', k', len', make', more', n', rest', x', xs', y'}

-- def f(x, xs=[]):
--     xs.append(x)
--     return xs
-- print(f('a'))
-- print(f('b'), f('c', []))
abbrev default_made_once : Result World Refused
default_made_once = left_by
    (shop_module
    ∷ program
    (define 1 f' (params ((x', None) ∷ (xs', Some (list [])) ∷ []) None None)
    (stmt_tree.evaluate (primary (var xs') (named_part append' ∷ call_part (tree.value (var x') ∷ []) ∷ []))
    ∷ stmt_tree.give_back (Some (var xs')) ∷ [])
    ∷ prints (called (var f') (text (codes "a") ∷ []) ∷ [])
    ∷ prints
    (called (var f') (text (codes "b") ∷ []) ∷ called (var f') (text (codes "c") ∷ list [] ∷ []) ∷ []) ∷ [])
    ((f' ∷ [], []) ∷ (x' ∷ xs' ∷ [], []) ∷ []) ∷ [])

default_made_once-told : told default_made_once ≡ (Some well, codes "['a']\n['a', 'b'] ['c']\n") ∷ []
unfolding encode within
default_made_once-told = refl

-- y = 'a'
-- def f(x=y):
--     return x
-- y = 'b'
-- print(f(), f(y))
abbrev default_of_its_time : Result World Refused
default_of_its_time = left_by
    (shop_module
    ∷ program
    (sets y' (text (codes "a"))
    ∷ define 1 f' (params ((x', Some (var y')) ∷ []) None None) (stmt_tree.give_back (Some (var x')) ∷ [])
    ∷ sets y' (text (codes "b"))
    ∷ prints (called (var f') [] ∷ called (var f') (var y' ∷ []) ∷ []) ∷ [])
    ((y' ∷ f' ∷ [], []) ∷ (x' ∷ [], []) ∷ []) ∷ [])

default_of_its_time-told : told default_of_its_time ≡ (Some well, codes "a b\n") ∷ []
unfolding encode within
default_of_its_time-told = refl

-- def f(a, b='y', *c, **d):
--     return [a, b, c, d]
-- print(f(*['a', 'b'], **{'k': 'd'}), f('a', *['b', 'c'], k='d'))
-- print(f(*'xyz'), f(**{'b': 'q', 'a': 'p'}))
abbrev spread_arguments : Result World Refused
spread_arguments = left_by
    (shop_module
    ∷ program
    (define 1 f'
    (params ((a', None) ∷ (b', Some (text (codes "y"))) ∷ []) (Some c') (Some d'))
    (stmt_tree.give_back (Some (list (var a' ∷ var b' ∷ var c' ∷ var d' ∷ []))) ∷ [])
    ∷ prints
    (primary (var f')
    (call_part
    (tree.star (list (text (codes "a") ∷ text (codes "b") ∷ []))
    ∷ tree.stars (dict ((text (codes "k"), text (codes "d")) ∷ [])) ∷ []) ∷ [])
    ∷ primary (var f')
    (call_part
    (tree.value (text (codes "a"))
    ∷ tree.star (list (text (codes "b") ∷ text (codes "c") ∷ []))
    ∷ tree.key k' (text (codes "d")) ∷ []) ∷ []) ∷ [])
    ∷ prints
    (primary (var f') (call_part (tree.star (text (codes "xyz")) ∷ []) ∷ [])
    ∷ primary (var f')
    (call_part
    (tree.stars
    (dict
    ((text (codes "b"), text (codes "q")) ∷ (text (codes "a"), text (codes "p")) ∷ [])) ∷ []) ∷ []) ∷ []) ∷ [])
    ((f' ∷ [], []) ∷ (a' ∷ b' ∷ c' ∷ d' ∷ [], []) ∷ []) ∷ [])

spread_arguments-told : told spread_arguments
    ≡ (
      Some well,
      codes "['a', 'b', (), {'k': 'd'}] ['a', 'b', ('c',), {'k': 'd'}]\n['x', 'y', ('z',), {}] ['p', 'q', (), {}]\n",
    ) ∷ []
unfolding encode within
spread_arguments-told = refl

-- def f(a, b, c):
--     return a + b + c
-- print(f(c='3', a='1', b='2'), f('x', c='z', b='y'))
abbrev arguments_by_name : Result World Refused
arguments_by_name = left_by
    (shop_module
    ∷ program
    (define 1 f' (plain_params (a' ∷ b' ∷ c' ∷ []))
    (stmt_tree.give_back (Some (chain (var a') ((Add, var b') ∷ (Add, var c') ∷ []))) ∷ [])
    ∷ prints
    (primary (var f')
    (call_part
    (tree.key c' (text (codes "3"))
    ∷ tree.key a' (text (codes "1"))
    ∷ tree.key b' (text (codes "2")) ∷ []) ∷ [])
    ∷ primary (var f')
    (call_part
    (tree.value (text (codes "x"))
    ∷ tree.key c' (text (codes "z"))
    ∷ tree.key b' (text (codes "y")) ∷ []) ∷ []) ∷ []) ∷ [])
    ((f' ∷ [], []) ∷ (a' ∷ b' ∷ c' ∷ [], []) ∷ []) ∷ [])

arguments_by_name-told : told arguments_by_name ≡ (Some well, codes "123 xyz\n") ∷ []
unfolding encode within
arguments_by_name-told = refl

-- def f(a, b=''):
--     return a + b
-- def g(h):
--     try:
--         return h()
--     except TypeError:
--         return 'refused'
-- print(g(lambda: f()), g(lambda: f('a', 'b', 'c')), g(lambda: f('a', a='b')), g(lambda: f('a', c='b')))
-- print(g(lambda: f('a')), g(lambda: f(b='x', a='y')), g(lambda: f(*['a', 'b', 'c'])), g(lambda: 'f'()))
abbrev wrong_arguments : Result World Refused
wrong_arguments = left_by
    (shop_module
    ∷ program
    (define 1 f' (params ((a', None) ∷ (b', Some (text [])) ∷ []) None None)
    (stmt_tree.give_back (Some (binary Add (var a') (var b'))) ∷ [])
    ∷ define 2 g' (plain_params (h' ∷ []))
    (try (stmt_tree.give_back (Some (called (var h') [])) ∷ [])
    (handler (Some (var TypeError')) None
    (stmt_tree.give_back (Some (text (codes "refused"))) ∷ []) ∷ []) None None ∷ [])
    ∷ prints
    (called (var g') (lambda 3 (plain_params []) (called (var f') []) ∷ [])
    ∷ called (var g')
    (lambda 4 (plain_params [])
    (called (var f') (text (codes "a") ∷ text (codes "b") ∷ text (codes "c") ∷ [])) ∷ [])
    ∷ called (var g')
    (lambda 5 (plain_params [])
    (primary (var f')
    (call_part (tree.value (text (codes "a")) ∷ tree.key a' (text (codes "b")) ∷ []) ∷ [])) ∷ [])
    ∷ called (var g')
    (lambda 6 (plain_params [])
    (primary (var f')
    (call_part (tree.value (text (codes "a")) ∷ tree.key c' (text (codes "b")) ∷ []) ∷ [])) ∷ []) ∷ [])
    ∷ prints
    (called (var g') (lambda 7 (plain_params []) (called (var f') (text (codes "a") ∷ [])) ∷ [])
    ∷ called (var g')
    (lambda 8 (plain_params [])
    (primary (var f')
    (call_part (tree.key b' (text (codes "x")) ∷ tree.key a' (text (codes "y")) ∷ []) ∷ [])) ∷ [])
    ∷ called (var g')
    (lambda 9 (plain_params [])
    (primary (var f')
    (call_part
    (tree.star (list (text (codes "a") ∷ text (codes "b") ∷ text (codes "c") ∷ [])) ∷ []) ∷ [])) ∷ [])
    ∷ called (var g') (lambda 10 (plain_params []) (called (text (codes "f")) []) ∷ []) ∷ []) ∷ [])
    ((f' ∷ g' ∷ [], [])
    ∷ (a' ∷ b' ∷ [], [])
    ∷ (h' ∷ [], [])
    ∷ ([], [])
    ∷ ([], [])
    ∷ ([], [])
    ∷ ([], [])
    ∷ ([], [])
    ∷ ([], [])
    ∷ ([], [])
    ∷ ([], []) ∷ []) ∷ [])

wrong_arguments-told : told wrong_arguments
    ≡ (Some well, codes "refused refused refused refused\na yx refused refused\n") ∷ []
unfolding encode within
wrong_arguments-told = refl

-- def f(*rest, **more):
--     return [len(rest) == 2, rest, more]
-- print(f(), f('a', 'b'), f(b='1', a='2'))
abbrev all_that_is_left : Result World Refused
all_that_is_left = left_by
    (shop_module
    ∷ program
    (define 1 f' (params [] (Some rest') (Some more'))
    (stmt_tree.give_back
    (Some
    (list
    (compare (called (var len') (var rest' ∷ [])) ((test.Order Eq, int 2) ∷ [])
    ∷ var rest'
    ∷ var more' ∷ []))) ∷ [])
    ∷ prints
    (called (var f') []
    ∷ called (var f') (text (codes "a") ∷ text (codes "b") ∷ [])
    ∷ primary (var f')
    (call_part (tree.key b' (text (codes "1")) ∷ tree.key a' (text (codes "2")) ∷ []) ∷ []) ∷ []) ∷ [])
    ((f' ∷ [], []) ∷ (rest' ∷ more' ∷ [], []) ∷ []) ∷ [])

all_that_is_left-told : told all_that_is_left
    ≡ (Some well, codes "[False, (), {}] [True, ('a', 'b'), {}] [False, (), {'b': '1', 'a': '2'}]\n") ∷ []
unfolding encode within
all_that_is_left-told = refl

-- def f(n):
--     return True if n == 0 else g(n - 1)
-- def g(n):
--     return False if n == 0 else f(n - 1)
-- print(f(4), g(4), f(3), g(3))
abbrev even_and_odd : Result World Refused
even_and_odd = left_by
    (shop_module
    ∷ program
    (define 1 f' (plain_params (n' ∷ []))
    (stmt_tree.give_back
    (Some
    (cond (compare (var n') ((test.Order Eq, int 0) ∷ [])) (truth true)
    (called (var g') (binary Sub (var n') (int 1) ∷ [])))) ∷ [])
    ∷ define 2 g' (plain_params (n' ∷ []))
    (stmt_tree.give_back
    (Some
    (cond (compare (var n') ((test.Order Eq, int 0) ∷ [])) (truth false)
    (called (var f') (binary Sub (var n') (int 1) ∷ [])))) ∷ [])
    ∷ prints
    (called (var f') (int 4 ∷ [])
    ∷ called (var g') (int 4 ∷ [])
    ∷ called (var f') (int 3 ∷ [])
    ∷ called (var g') (int 3 ∷ []) ∷ []) ∷ []) ((f' ∷ g' ∷ [], []) ∷ (n' ∷ [], []) ∷ (n' ∷ [], []) ∷ []) ∷ [])

even_and_odd-told : told even_and_odd ≡ (Some well, codes "True False False True\n") ∷ []
unfolding encode within
even_and_odd-told = refl

-- def f(x):
--     if x == '':
--         return x
--     return f(x[1:]) + x[0]
-- print(f('abcd'))
abbrev turned_around : Result World Refused
turned_around = left_by
    (shop_module
    ∷ program
    (define 1 f' (plain_params (x' ∷ []))
    (choose
    ((compare (var x') ((test.Order Eq, text []) ∷ []), stmt_tree.give_back (Some (var x')) ∷ []) ∷ []) None
    ∷ stmt_tree.give_back
    (Some
    (binary Add
    (called (var f') (primary (var x') (slice_part (tree.some (int 1)) tree.none tree.none ∷ []) ∷ []))
    (item (var x') (int 0)))) ∷ [])
    ∷ prints (called (var f') (text (codes "abcd") ∷ []) ∷ []) ∷ []) ((f' ∷ [], []) ∷ (x' ∷ [], []) ∷ []) ∷ [])

turned_around-told : told turned_around ≡ (Some well, codes "dcba\n") ∷ []
unfolding encode within
turned_around-told = refl

-- def f(n, a, b, c):
--     if n == 0:
--         return []
--     return f(n - 1, a, c, b) + [a + c] + f(n - 1, b, a, c)
-- print(f(3, 'a', 'b', 'c'))
abbrev towers : Result World Refused
towers = left_by
    (shop_module
    ∷ program
    (define 1 f' (plain_params (n' ∷ a' ∷ b' ∷ c' ∷ []))
    (choose
    ((compare (var n') ((test.Order Eq, int 0) ∷ []), stmt_tree.give_back (Some (list [])) ∷ []) ∷ []) None
    ∷ stmt_tree.give_back
    (Some
    (chain (called (var f') (binary Sub (var n') (int 1) ∷ var a' ∷ var c' ∷ var b' ∷ []))
    ((Add, list (binary Add (var a') (var c') ∷ []))
    ∷ (Add, called (var f') (binary Sub (var n') (int 1) ∷ var b' ∷ var a' ∷ var c' ∷ [])) ∷ []))) ∷ [])
    ∷ prints (called (var f') (int 3 ∷ text (codes "a") ∷ text (codes "b") ∷ text (codes "c") ∷ []) ∷ []) ∷ [])
    ((f' ∷ [], []) ∷ (n' ∷ a' ∷ b' ∷ c' ∷ [], []) ∷ []) ∷ [])

towers-told : told towers ≡ (Some well, codes "['ac', 'ab', 'cb', 'ac', 'ba', 'bc', 'ac']\n") ∷ []
unfolding encode within
towers-told = refl

-- def make():
--     n = [0]
--     def f():
--         n[0] += 1
--         return n[0]
--     return f
-- a = make()
-- b = make()
-- print(a() == 1, a() == 2, b() == 1, a() == 3)
abbrev counter : Result World Refused
counter = left_by
    (shop_module
    ∷ program
    (define 1 make' (plain_params [])
    (sets n' (list (int 0 ∷ []))
    ∷ define 2 f' (plain_params [])
    (augments (to_item (var n') (int 0)) Add (int 1)
    ∷ stmt_tree.give_back (Some (item (var n') (int 0))) ∷ [])
    ∷ stmt_tree.give_back (Some (var f')) ∷ [])
    ∷ sets a' (called (var make') [])
    ∷ sets b' (called (var make') [])
    ∷ prints
    (compare (called (var a') []) ((test.Order Eq, int 1) ∷ [])
    ∷ compare (called (var a') []) ((test.Order Eq, int 2) ∷ [])
    ∷ compare (called (var b') []) ((test.Order Eq, int 1) ∷ [])
    ∷ compare (called (var a') []) ((test.Order Eq, int 3) ∷ []) ∷ []) ∷ [])
    ((make' ∷ a' ∷ b' ∷ [], []) ∷ (n' ∷ f' ∷ [], []) ∷ ([], (n', outer 1 0) ∷ []) ∷ []) ∷ [])

counter-told : told counter ≡ (Some well, codes "True True True True\n") ∷ []
unfolding encode within
counter-told = refl

-- xs = []
-- for i in ['a', 'b']:
--     xs.append(lambda: i)
--     xs.append(lambda i=i: i)
-- i = 'c'
-- print([f() for f in xs])
abbrev functions_of_a_loop : Result World Refused
functions_of_a_loop = left_by
    (shop_module
    ∷ program
    (sets xs' (list [])
    ∷ for (to i') (list (text (codes "a") ∷ text (codes "b") ∷ []))
    (stmt_tree.evaluate
    (primary (var xs')
    (named_part append' ∷ call_part (tree.value (lambda 1 (plain_params []) (var i')) ∷ []) ∷ []))
    ∷ stmt_tree.evaluate
    (primary (var xs')
    (named_part append'
    ∷ call_part (tree.value (lambda 2 (params ((i', Some (var i')) ∷ []) None None) (var i')) ∷ []) ∷ [])) ∷ [])
    ∷ sets i' (text (codes "c"))
    ∷ prints (list_of 3 (called (var f') []) (clause (to f') (var xs') [] ∷ []) ∷ []) ∷ [])
    ((xs' ∷ i' ∷ [], []) ∷ ([], []) ∷ (i' ∷ [], []) ∷ (f' ∷ [], []) ∷ []) ∷ [])

functions_of_a_loop-told : told functions_of_a_loop ≡ (Some well, codes "['c', 'a', 'c', 'b']\n") ∷ []
unfolding encode within
functions_of_a_loop-told = refl

-- def f(g, h):
--     return lambda x: g(h(x))
-- a = f(lambda x: x + 'b', lambda x: x + 'a')
-- print(a(''), f(a, a)('-'))
abbrev composed : Result World Refused
composed = left_by
    (shop_module
    ∷ program
    (define 1 f' (plain_params (g' ∷ h' ∷ []))
    (stmt_tree.give_back
    (Some (lambda 2 (plain_params (x' ∷ [])) (called (var g') (called (var h') (var x' ∷ []) ∷ [])))) ∷ [])
    ∷ sets a'
    (called (var f')
    (lambda 3 (plain_params (x' ∷ [])) (binary Add (var x') (text (codes "b")))
    ∷ lambda 4 (plain_params (x' ∷ [])) (binary Add (var x') (text (codes "a"))) ∷ []))
    ∷ prints
    (called (var a') (text [] ∷ [])
    ∷ primary (var f')
    (call_part (tree.value (var a') ∷ tree.value (var a') ∷ [])
    ∷ call_part (tree.value (text (codes "-")) ∷ []) ∷ []) ∷ []) ∷ [])
    ((f' ∷ a' ∷ [], [])
    ∷ (g' ∷ h' ∷ [], [])
    ∷ (x' ∷ [], (g', outer 1 0) ∷ (h', outer 1 1) ∷ [])
    ∷ (x' ∷ [], [])
    ∷ (x' ∷ [], []) ∷ []) ∷ [])

composed-told : told composed ≡ (Some well, codes "ab -abab\n") ∷ []
unfolding encode within
composed-told = refl

-- print((lambda a: lambda b: lambda c: a + b + c)('x')('y')('z'))
-- print((lambda *rest, k='d': [rest, k])('a') if False else (lambda *rest: rest)('a', 'b'))
abbrev curried : Result World Refused
curried = left_by
    (shop_module
    ∷ program
    (prints
    (primary
    (lambda 1 (plain_params (a' ∷ []))
    (lambda 2 (plain_params (b' ∷ []))
    (lambda 3 (plain_params (c' ∷ [])) (chain (var a') ((Add, var b') ∷ (Add, var c') ∷ [])))))
    (call_part (tree.value (text (codes "x")) ∷ [])
    ∷ call_part (tree.value (text (codes "y")) ∷ [])
    ∷ call_part (tree.value (text (codes "z")) ∷ []) ∷ []) ∷ [])
    ∷ prints
    (cond (truth false)
    (called (lambda 4 (params [] (Some rest') None) (list (var rest' ∷ var k' ∷ [])))
    (text (codes "a") ∷ []))
    (called (lambda 5 (params [] (Some rest') None) (var rest'))
    (text (codes "a") ∷ text (codes "b") ∷ [])) ∷ []) ∷ [])
    (([], [])
    ∷ (a' ∷ [], [])
    ∷ (b' ∷ [], [])
    ∷ (c' ∷ [], (a', outer 2 0) ∷ (b', outer 1 0) ∷ [])
    ∷ (rest' ∷ [], [])
    ∷ (rest' ∷ [], []) ∷ []) ∷ [])

curried-told : told curried ≡ (Some well, codes "xyz\n('a', 'b')\n") ∷ []
unfolding encode within
curried-told = refl

-- def f():
--     pass
-- def g(x):
--     if x:
--         return
--     return 'g'
-- print(f() is None, f(), g(True), g(False))
abbrev nothing_given_back : Result World Refused
nothing_given_back = left_by
    (shop_module
    ∷ program
    (define 1 f' (plain_params []) (stmt_tree.pass ∷ [])
    ∷ define 2 g' (plain_params (x' ∷ []))
    (choose ((var x', stmt_tree.give_back None ∷ []) ∷ []) None
    ∷ stmt_tree.give_back (Some (text (codes "g"))) ∷ [])
    ∷ prints
    (compare (called (var f') []) ((test.Is, nil) ∷ [])
    ∷ called (var f') []
    ∷ called (var g') (truth true ∷ [])
    ∷ called (var g') (truth false ∷ []) ∷ []) ∷ []) ((f' ∷ g' ∷ [], []) ∷ ([], []) ∷ (x' ∷ [], []) ∷ []) ∷ [])

nothing_given_back-told : told nothing_given_back ≡ (Some well, codes "True None None g\n") ∷ []
unfolding encode within
nothing_given_back-told = refl

-- x = 'global'
-- def f():
--     x = 'local'
--     return x
-- def g(x):
--     x = x + '!'
--     return x
-- print(f(), g('parameter'), x)
abbrev shadowed : Result World Refused
shadowed = left_by
    (shop_module
    ∷ program
    (sets x' (text (codes "global"))
    ∷ define 1 f' (plain_params [])
    (sets x' (text (codes "local")) ∷ stmt_tree.give_back (Some (var x')) ∷ [])
    ∷ define 2 g' (plain_params (x' ∷ []))
    (sets x' (binary Add (var x') (text (codes "!"))) ∷ stmt_tree.give_back (Some (var x')) ∷ [])
    ∷ prints (called (var f') [] ∷ called (var g') (text (codes "parameter") ∷ []) ∷ var x' ∷ []) ∷ [])
    ((x' ∷ f' ∷ g' ∷ [], []) ∷ (x' ∷ [], []) ∷ (x' ∷ [], []) ∷ []) ∷ [])

shadowed-told : told shadowed ≡ (Some well, codes "local parameter! global\n") ∷ []
unfolding encode within
shadowed-told = refl

-- x = 'global'
-- def f():
--     try:
--         print(x)
--     except UnboundLocalError:
--         print('unbound')
--     x = 'local'
--     print(x)
-- f()
abbrev assigned_later : Result World Refused
assigned_later = left_by
    (shop_module
    ∷ program
    (sets x' (text (codes "global"))
    ∷ define 1 f' (plain_params [])
    (try (prints (var x' ∷ []) ∷ [])
    (handler (Some (var UnboundLocalError')) None (prints (text (codes "unbound") ∷ []) ∷ []) ∷ []) None
    None
    ∷ sets x' (text (codes "local"))
    ∷ prints (var x' ∷ []) ∷ [])
    ∷ stmt_tree.evaluate (called (var f') []) ∷ []) ((x' ∷ f' ∷ [], []) ∷ (x' ∷ [], []) ∷ []) ∷ [])

assigned_later-told : told assigned_later ≡ (Some well, codes "unbound\nlocal\n") ∷ []
unfolding encode within
assigned_later-told = refl

-- x = 'a'
-- def f():
--     global x, y
--     x = 'b'
--     y = 'c'
--     def g():
--         global x
--         x = x + 'd'
--     g()
-- f()
-- print(x, y)
abbrev declared_global : Result World Refused
declared_global = left_by
    (shop_module
    ∷ program
    (sets x' (text (codes "a"))
    ∷ define 1 f' (plain_params [])
    (declares_global (x' ∷ y' ∷ [])
    ∷ sets x' (text (codes "b"))
    ∷ sets y' (text (codes "c"))
    ∷ define 2 g' (plain_params [])
    (declares_global (x' ∷ []) ∷ sets x' (binary Add (var x') (text (codes "d"))) ∷ [])
    ∷ stmt_tree.evaluate (called (var g') []) ∷ [])
    ∷ stmt_tree.evaluate (called (var f') [])
    ∷ prints (var x' ∷ var y' ∷ []) ∷ []) ((x' ∷ f' ∷ y' ∷ [], []) ∷ (g' ∷ [], []) ∷ ([], []) ∷ []) ∷ [])

declared_global-told : told declared_global ≡ (Some well, codes "bd c\n") ∷ []
unfolding encode within
declared_global-told = refl

-- def f(a):
--     del a
--     try:
--         return a
--     except UnboundLocalError:
--         a = 'again'
--     return a
-- print(f('x'))
-- b = 'y'
-- del b
-- try:
--     b
-- except NameError:
--     print('no name')
abbrev deleted_names : Result World Refused
deleted_names = left_by
    (shop_module
    ∷ program
    (define 1 f' (plain_params (a' ∷ []))
    (stmt_tree.del (to_name a' ∷ [])
    ∷ try (stmt_tree.give_back (Some (var a')) ∷ [])
    (handler (Some (var UnboundLocalError')) None (sets a' (text (codes "again")) ∷ []) ∷ []) None None
    ∷ stmt_tree.give_back (Some (var a')) ∷ [])
    ∷ prints (called (var f') (text (codes "x") ∷ []) ∷ [])
    ∷ sets b' (text (codes "y"))
    ∷ stmt_tree.del (to_name b' ∷ [])
    ∷ try (stmt_tree.evaluate (var b') ∷ [])
    (handler (Some (var NameError')) None (prints (text (codes "no name") ∷ []) ∷ []) ∷ []) None None ∷ [])
    ((f' ∷ b' ∷ [], []) ∷ (a' ∷ [], []) ∷ []) ∷ [])

deleted_names-told : told deleted_names ≡ (Some well, codes "again\nno name\n") ∷ []
unfolding encode within
deleted_names-told = refl

-- def f(x):
--     print(x)
--     return x
-- x = {f('k'): f('v'), f('l'): f('w')}
-- x[f('m')] = f('u')
-- (f('a') + f('b'), [f('c'), f('d')])
-- print(x)
abbrev order_of_evaluation : Result World Refused
order_of_evaluation = left_by
    (shop_module
    ∷ program
    (define 1 f' (plain_params (x' ∷ [])) (prints (var x' ∷ []) ∷ stmt_tree.give_back (Some (var x')) ∷ [])
    ∷ sets x'
    (dict
    ((called (var f') (text (codes "k") ∷ []), called (var f') (text (codes "v") ∷ []))
    ∷ (called (var f') (text (codes "l") ∷ []), called (var f') (text (codes "w") ∷ [])) ∷ []))
    ∷ stmt_tree.assign (to_item (var x') (called (var f') (text (codes "m") ∷ [])) ∷ [])
    (called (var f') (text (codes "u") ∷ []))
    ∷ stmt_tree.evaluate
    (tuple
    (binary Add (called (var f') (text (codes "a") ∷ [])) (called (var f') (text (codes "b") ∷ []))
    ∷ list (called (var f') (text (codes "c") ∷ []) ∷ called (var f') (text (codes "d") ∷ []) ∷ []) ∷ []))
    ∷ prints (var x' ∷ []) ∷ []) ((f' ∷ x' ∷ [], []) ∷ (x' ∷ [], []) ∷ []) ∷ [])

order_of_evaluation-told : told order_of_evaluation
    ≡ (Some well, codes "k\nv\nl\nw\nu\nm\na\nb\nc\nd\n{'k': 'v', 'l': 'w', 'm': 'u'}\n") ∷ []
unfolding encode within
order_of_evaluation-told = refl

-- def f(x, y):
--     x = x + ['new']
--     y.append('new')
--     return x
-- a = ['a']
-- b = ['b']
-- print(f(a, b), a, b)
abbrev what_a_caller_sees : Result World Refused
what_a_caller_sees = left_by
    (shop_module
    ∷ program
    (define 1 f' (plain_params (x' ∷ y' ∷ []))
    (sets x' (binary Add (var x') (list (text (codes "new") ∷ [])))
    ∷ stmt_tree.evaluate
    (primary (var y') (named_part append' ∷ call_part (tree.value (text (codes "new")) ∷ []) ∷ []))
    ∷ stmt_tree.give_back (Some (var x')) ∷ [])
    ∷ sets a' (list (text (codes "a") ∷ []))
    ∷ sets b' (list (text (codes "b") ∷ []))
    ∷ prints (called (var f') (var a' ∷ var b' ∷ []) ∷ var a' ∷ var b' ∷ []) ∷ [])
    ((f' ∷ a' ∷ b' ∷ [], []) ∷ (x' ∷ y' ∷ [], []) ∷ []) ∷ [])

what_a_caller_sees-told : told what_a_caller_sees ≡ (Some well, codes "['a', 'new'] ['a'] ['b', 'new']\n") ∷ []
unfolding encode within
what_a_caller_sees-told = refl

-- def f(g, xs, x):
--     for y in xs:
--         x = g(x, y)
--     return x
-- print(f(lambda x, y: x + y, ['a', 'b', 'c'], ''), f(lambda x, y: [y] + x, 'abc', []))
abbrev folded : Result World Refused
folded = left_by
    (shop_module
    ∷ program
    (define 1 f' (plain_params (g' ∷ xs' ∷ x' ∷ []))
    (for (to y') (var xs') (sets x' (called (var g') (var x' ∷ var y' ∷ [])) ∷ [])
    ∷ stmt_tree.give_back (Some (var x')) ∷ [])
    ∷ prints
    (called (var f')
    (lambda 2 (plain_params (x' ∷ y' ∷ [])) (binary Add (var x') (var y'))
    ∷ list (text (codes "a") ∷ text (codes "b") ∷ text (codes "c") ∷ [])
    ∷ text [] ∷ [])
    ∷ called (var f')
    (lambda 3 (plain_params (x' ∷ y' ∷ [])) (binary Add (list (var y' ∷ [])) (var x'))
    ∷ text (codes "abc")
    ∷ list [] ∷ []) ∷ []) ∷ [])
    ((f' ∷ [], []) ∷ (g' ∷ xs' ∷ x' ∷ y' ∷ [], []) ∷ (x' ∷ y' ∷ [], []) ∷ (x' ∷ y' ∷ [], []) ∷ []) ∷ [])

folded-told : told folded ≡ (Some well, codes "abc ['c', 'b', 'a']\n") ∷ []
unfolding encode within
folded-told = refl

-- def f(a):
--     def g(b):
--         def h(c):
--             return a + b + c
--         return h
--     return g
-- print(f('x')('y')('z'))
-- g = f('p')
-- print(g('q')('r'), g('s')('t'))
abbrev blocks_between : Result World Refused
blocks_between = left_by
    (shop_module
    ∷ program
    (define 1 f' (plain_params (a' ∷ []))
    (define 2 g' (plain_params (b' ∷ []))
    (define 3 h' (plain_params (c' ∷ []))
    (stmt_tree.give_back (Some (chain (var a') ((Add, var b') ∷ (Add, var c') ∷ []))) ∷ [])
    ∷ stmt_tree.give_back (Some (var h')) ∷ [])
    ∷ stmt_tree.give_back (Some (var g')) ∷ [])
    ∷ prints
    (primary (var f')
    (call_part (tree.value (text (codes "x")) ∷ [])
    ∷ call_part (tree.value (text (codes "y")) ∷ [])
    ∷ call_part (tree.value (text (codes "z")) ∷ []) ∷ []) ∷ [])
    ∷ sets g' (called (var f') (text (codes "p") ∷ []))
    ∷ prints
    (primary (var g')
    (call_part (tree.value (text (codes "q")) ∷ [])
    ∷ call_part (tree.value (text (codes "r")) ∷ []) ∷ [])
    ∷ primary (var g')
    (call_part (tree.value (text (codes "s")) ∷ [])
    ∷ call_part (tree.value (text (codes "t")) ∷ []) ∷ []) ∷ []) ∷ [])
    ((f' ∷ g' ∷ [], [])
    ∷ (a' ∷ g' ∷ [], [])
    ∷ (b' ∷ h' ∷ [], [])
    ∷ (c' ∷ [], (a', outer 2 0) ∷ (b', outer 1 0) ∷ []) ∷ []) ∷ [])

blocks_between-told : told blocks_between ≡ (Some well, codes "xyz\npqr pst\n") ∷ []
unfolding encode within
blocks_between-told = refl
