-- Loops, branches, unpacking, and small algorithms that are made of them.
-- What is printed is what CPython prints.
use Rattle.std.proofs.Common.{◌≡◌, true, false, [], ◌∷◌, codes, Some, None, Result, refl}
use lib.Utf8.{encode}
use Rattle.rp_base.specs.declared.operator.BinOp.TheVariants.{Add, Sub, Mod}
use Rattle.rp_base.specs.declared.operator.CmpOp.TheVariants.{Lt, Gt, Eq}
use Rattle.rp_base.specs.declared.operator.UnOp.TheVariants.{Neg}
use Rattle.rp_compare.specs.Equality.{within}
use Rattle.rp_tree.specs.declared.parts.Test.TheVariants as test
use Rattle.rp_tree.specs.Expressions as tree
use Rattle.rp_tree.specs.Statements as stmt_tree
use Rattle.rp_meaning.specs.Load.{Refused}
use Rattle.rp_meaning.specs.Sessions.{World, well}
use Rattle.rp_meaning_examples.proofs.Building.{var, int, text, nil, truth, tuple, list, dict, compare, binary, unary, named_part, call_part, primary, item, called, to_name, to, to_item, group, plain_params, sets, prints, unpacks, augments, choose, while, for, handler, try, define}
use Rattle.rp_meaning_examples.proofs.Playing.{left_by, told, program}
use Rattle.rp_meaning_examples.proofs.Shop.{shop_module}
use Rattle.rp_meaning_examples.proofs.Words.{TypeError', ValueError', a', append', b', c', d', f', i', j', len', list', n', range', x', xs', y', z'}

-- n = 0
-- while n < 10:
--     n += 1
--     if n % 2 == 0:
--         continue
--     if n > 7:
--         break
--     print('odd', n == 1, n == 7)
-- print(n == 9)
abbrev while_left : Result World Refused
while_left = left_by
    (shop_module
    ∷ program
    (sets n' (int 0)
    ∷ while (compare (var n') ((test.Order Lt, int 10) ∷ []))
    (augments (to_name n') Add (int 1)
    ∷ choose
    ((compare (binary Mod (var n') (int 2)) ((test.Order Eq, int 0) ∷ []), stmt_tree.continue ∷ []) ∷ [])
    None
    ∷ choose ((compare (var n') ((test.Order Gt, int 7) ∷ []), stmt_tree.break ∷ []) ∷ []) None
    ∷ prints
    (text (codes "odd")
    ∷ compare (var n') ((test.Order Eq, int 1) ∷ [])
    ∷ compare (var n') ((test.Order Eq, int 7) ∷ []) ∷ []) ∷ [])
    ∷ prints (compare (var n') ((test.Order Eq, int 9) ∷ []) ∷ []) ∷ []) ((n' ∷ [], []) ∷ []) ∷ [])

while_left-told : told while_left
    ≡ (Some well, codes "odd True False\nodd False False\nodd False False\nodd False True\nTrue\n") ∷ []
unfolding encode within
while_left-told = refl

-- for a in 'xyz':
--     for b in 'pqr':
--         if b == 'q':
--             break
--         print(a + b)
--     if a == 'y':
--         break
abbrev loops_within : Result World Refused
loops_within = left_by
    (shop_module
    ∷ program
    (for (to a') (text (codes "xyz"))
    (for (to b') (text (codes "pqr"))
    (choose ((compare (var b') ((test.Order Eq, text (codes "q")) ∷ []), stmt_tree.break ∷ []) ∷ [])
    None
    ∷ prints (binary Add (var a') (var b') ∷ []) ∷ [])
    ∷ choose ((compare (var a') ((test.Order Eq, text (codes "y")) ∷ []), stmt_tree.break ∷ []) ∷ [])
    None ∷ []) ∷ []) ((a' ∷ b' ∷ [], []) ∷ []) ∷ [])

loops_within-told : told loops_within ≡ (Some well, codes "xp\nyp\n") ∷ []
unfolding encode within
loops_within-told = refl

-- for i in 'ab':
--     print(i)
-- for i in ('c', ['d']):
--     print(i)
-- for i in {'k': 1, 'l': 2}:
--     print(i)
-- for i in range(3):
--     print(i == 1)
abbrev walks : Result World Refused
walks = left_by
    (shop_module
    ∷ program
    (for (to i') (text (codes "ab")) (prints (var i' ∷ []) ∷ [])
    ∷ for (to i') (tuple (text (codes "c") ∷ list (text (codes "d") ∷ []) ∷ [])) (prints (var i' ∷ []) ∷ [])
    ∷ for (to i') (dict ((text (codes "k"), int 1) ∷ (text (codes "l"), int 2) ∷ []))
    (prints (var i' ∷ []) ∷ [])
    ∷ for (to i') (called (var range') (int 3 ∷ []))
    (prints (compare (var i') ((test.Order Eq, int 1) ∷ []) ∷ []) ∷ []) ∷ []) ((i' ∷ [], []) ∷ []) ∷ [])

walks-told : told walks ≡ (Some well, codes "a\nb\nc\n['d']\nk\nl\nFalse\nTrue\nFalse\n") ∷ []
unfolding encode within
walks-told = refl

-- for i in ['a', 'b']:
--     pass
-- print(i)
-- for i in []:
--     print('never')
-- print(i)
-- while False:
--     print('never')
abbrev target_after_the_loop : Result World Refused
target_after_the_loop = left_by
    (shop_module
    ∷ program
    (for (to i') (list (text (codes "a") ∷ text (codes "b") ∷ [])) (stmt_tree.pass ∷ [])
    ∷ prints (var i' ∷ [])
    ∷ for (to i') (list []) (prints (text (codes "never") ∷ []) ∷ [])
    ∷ prints (var i' ∷ [])
    ∷ while (truth false) (prints (text (codes "never") ∷ []) ∷ []) ∷ []) ((i' ∷ [], []) ∷ []) ∷ [])

target_after_the_loop-told : told target_after_the_loop ≡ (Some well, codes "b\nb\n") ∷ []
unfolding encode within
target_after_the_loop-told = refl

-- for a, (b, c) in [('x', ('y', 'z')), ('p', 'qr')]:
--     print(a, b, c)
-- for a, b in {'kv': 1, 'lw': 2}:
--     print(b, a)
abbrev walked_pairs : Result World Refused
walked_pairs = left_by
    (shop_module
    ∷ program
    (for (group (to a' ∷ group (to b' ∷ to c' ∷ []) ∷ []))
    (list
    (tuple (text (codes "x") ∷ tuple (text (codes "y") ∷ text (codes "z") ∷ []) ∷ [])
    ∷ tuple (text (codes "p") ∷ text (codes "qr") ∷ []) ∷ [])) (prints (var a' ∷ var b' ∷ var c' ∷ []) ∷ [])
    ∷ for (group (to a' ∷ to b' ∷ [])) (dict ((text (codes "kv"), int 1) ∷ (text (codes "lw"), int 2) ∷ []))
    (prints (var b' ∷ var a' ∷ []) ∷ []) ∷ []) ((a' ∷ b' ∷ c' ∷ [], []) ∷ []) ∷ [])

walked_pairs-told : told walked_pairs ≡ (Some well, codes "x y z\np q r\nv k\nw l\n") ∷ []
unfolding encode within
walked_pairs-told = refl

-- def f(n):
--     if n < 0:
--         return 'below'
--     elif n == 0:
--         return 'zero'
--     elif n < 10:
--         return 'digit'
--     else:
--         return 'more'
-- print(f(-1), f(0), f(9), f(10))
abbrev branches : Result World Refused
branches = left_by
    (shop_module
    ∷ program
    (define 1 f' (plain_params (n' ∷ []))
    (choose
    ((
      compare (var n') ((test.Order Lt, int 0) ∷ []),
      stmt_tree.give_back (Some (text (codes "below"))) ∷ [],
    )
    ∷ (
      compare (var n') ((test.Order Eq, int 0) ∷ []),
      stmt_tree.give_back (Some (text (codes "zero"))) ∷ [],
    )
    ∷ (
      compare (var n') ((test.Order Lt, int 10) ∷ []),
      stmt_tree.give_back (Some (text (codes "digit"))) ∷ [],
    ) ∷ [])
    (Some (stmt_tree.give_back (Some (text (codes "more"))) ∷ [])) ∷ [])
    ∷ prints
    (called (var f') (unary Neg (int 1) ∷ [])
    ∷ called (var f') (int 0 ∷ [])
    ∷ called (var f') (int 9 ∷ [])
    ∷ called (var f') (int 10 ∷ []) ∷ []) ∷ []) ((f' ∷ [], []) ∷ (n' ∷ [], []) ∷ []) ∷ [])

branches-told : told branches ≡ (Some well, codes "below zero digit more\n") ∷ []
unfolding encode within
branches-told = refl

-- def f(a, b):
--     while b:
--         a, b = b, a % b
--     return a
-- print(f(48, 18) == 6, f(17, 5) == 1, f(0, 7) == 7)
abbrev greatest_divisor : Result World Refused
greatest_divisor = left_by
    (shop_module
    ∷ program
    (define 1 f' (plain_params (a' ∷ b' ∷ []))
    (while (var b')
    (unpacks (group (to a' ∷ to b' ∷ [])) (tuple (var b' ∷ binary Mod (var a') (var b') ∷ [])) ∷ [])
    ∷ stmt_tree.give_back (Some (var a')) ∷ [])
    ∷ prints
    (compare (called (var f') (int 48 ∷ int 18 ∷ [])) ((test.Order Eq, int 6) ∷ [])
    ∷ compare (called (var f') (int 17 ∷ int 5 ∷ [])) ((test.Order Eq, int 1) ∷ [])
    ∷ compare (called (var f') (int 0 ∷ int 7 ∷ [])) ((test.Order Eq, int 7) ∷ []) ∷ []) ∷ [])
    ((f' ∷ [], []) ∷ (a' ∷ b' ∷ [], []) ∷ []) ∷ [])

greatest_divisor-told : told greatest_divisor ≡ (Some well, codes "True True True\n") ∷ []
unfolding encode within
greatest_divisor-told = refl

-- a, b = 0, 1
-- for i in range(10):
--     a, b = b, a + b
-- print(a == 55, b == 89)
abbrev fibonacci : Result World Refused
fibonacci = left_by
    (shop_module
    ∷ program
    (unpacks (group (to a' ∷ to b' ∷ [])) (tuple (int 0 ∷ int 1 ∷ []))
    ∷ for (to i') (called (var range') (int 10 ∷ []))
    (unpacks (group (to a' ∷ to b' ∷ [])) (tuple (var b' ∷ binary Add (var a') (var b') ∷ [])) ∷ [])
    ∷ prints
    (compare (var a') ((test.Order Eq, int 55) ∷ [])
    ∷ compare (var b') ((test.Order Eq, int 89) ∷ []) ∷ []) ∷ []) ((a' ∷ b' ∷ i' ∷ [], []) ∷ []) ∷ [])

fibonacci-told : told fibonacci ≡ (Some well, codes "True True\n") ∷ []
unfolding encode within
fibonacci-told = refl

-- xs = ['d', 'a', 'c', 'b']
-- n = len(xs)
-- for i in range(n):
--     for j in range(n - 1):
--         if xs[j] > xs[j + 1]:
--             xs[j], xs[j + 1] = xs[j + 1], xs[j]
-- print(xs)
abbrev sorted_by_exchange : Result World Refused
sorted_by_exchange = left_by
    (shop_module
    ∷ program
    (sets xs' (list (text (codes "d") ∷ text (codes "a") ∷ text (codes "c") ∷ text (codes "b") ∷ []))
    ∷ sets n' (called (var len') (var xs' ∷ []))
    ∷ for (to i') (called (var range') (var n' ∷ []))
    (for (to j') (called (var range') (binary Sub (var n') (int 1) ∷ []))
    (choose
    ((
      compare (item (var xs') (var j'))
          ((test.Order Gt, item (var xs') (binary Add (var j') (int 1))) ∷ []),
      unpacks
          (group
          (tree.to_place (to_item (var xs') (var j'))
          ∷ tree.to_place (to_item (var xs') (binary Add (var j') (int 1))) ∷ []))
          (tuple (item (var xs') (binary Add (var j') (int 1)) ∷ item (var xs') (var j') ∷ [])) ∷ [],
    ) ∷ [])
    None ∷ []) ∷ [])
    ∷ prints (var xs' ∷ []) ∷ []) ((xs' ∷ n' ∷ i' ∷ j' ∷ [], []) ∷ []) ∷ [])

sorted_by_exchange-told : told sorted_by_exchange ≡ (Some well, codes "['a', 'b', 'c', 'd']\n") ∷ []
unfolding encode within
sorted_by_exchange-told = refl

-- xs = []
-- n = 2
-- while n < 20:
--     z = True
--     for x in xs:
--         if n % x == 0:
--             z = False
--             break
--     if z:
--         xs.append(n)
--     n += 1
-- print(xs == [2, 3, 5, 7, 11, 13, 17, 19])
abbrev primes : Result World Refused
primes = left_by
    (shop_module
    ∷ program
    (sets xs' (list [])
    ∷ sets n' (int 2)
    ∷ while (compare (var n') ((test.Order Lt, int 20) ∷ []))
    (sets z' (truth true)
    ∷ for (to x') (var xs')
    (choose
    ((
      compare (binary Mod (var n') (var x')) ((test.Order Eq, int 0) ∷ []),
      sets z' (truth false) ∷ stmt_tree.break ∷ [],
    ) ∷ []) None ∷ [])
    ∷ choose
    ((
      var z',
      stmt_tree.evaluate
          (primary (var xs') (named_part append' ∷ call_part (tree.value (var n') ∷ []) ∷ [])) ∷ [],
    ) ∷ [])
    None
    ∷ augments (to_name n') Add (int 1) ∷ [])
    ∷ prints
    (compare (var xs')
    ((
      test.Order Eq,
      list (int 2 ∷ int 3 ∷ int 5 ∷ int 7 ∷ int 11 ∷ int 13 ∷ int 17 ∷ int 19 ∷ []),
    ) ∷ []) ∷ []) ∷ [])
    ((xs' ∷ n' ∷ z' ∷ x' ∷ [], []) ∷ []) ∷ [])

primes-told : told primes ≡ (Some well, codes "True\n") ∷ []
unfolding encode within
primes-told = refl

-- xs = ['a', 'b']
-- for x in xs:
--     xs = [x]
--     print(x)
-- print(xs)
abbrev list_replaced : Result World Refused
list_replaced = left_by
    (shop_module
    ∷ program
    (sets xs' (list (text (codes "a") ∷ text (codes "b") ∷ []))
    ∷ for (to x') (var xs') (sets xs' (list (var x' ∷ [])) ∷ prints (var x' ∷ []) ∷ [])
    ∷ prints (var xs' ∷ []) ∷ []) ((xs' ∷ x' ∷ [], []) ∷ []) ∷ [])

list_replaced-told : told list_replaced ≡ (Some well, codes "a\nb\n['b']\n") ∷ []
unfolding encode within
list_replaced-told = refl

-- d = {}
-- for d['k'] in ['a', 'b']:
--     print(d)
-- xs = ['x', 'y']
-- for i, xs[i] in [(1, 'p'), (0, 'q')]:
--     print(xs)
abbrev item_as_target : Result World Refused
item_as_target = left_by
    (shop_module
    ∷ program
    (sets d' (dict [])
    ∷ for (tree.to_place (to_item (var d') (text (codes "k"))))
    (list (text (codes "a") ∷ text (codes "b") ∷ [])) (prints (var d' ∷ []) ∷ [])
    ∷ sets xs' (list (text (codes "x") ∷ text (codes "y") ∷ []))
    ∷ for (group (to i' ∷ tree.to_place (to_item (var xs') (var i')) ∷ []))
    (list (tuple (int 1 ∷ text (codes "p") ∷ []) ∷ tuple (int 0 ∷ text (codes "q") ∷ []) ∷ []))
    (prints (var xs' ∷ []) ∷ []) ∷ []) ((d' ∷ xs' ∷ i' ∷ [], []) ∷ []) ∷ [])

item_as_target-told : told item_as_target ≡ (Some well, codes "{'k': 'a'}\n{'k': 'b'}\n['x', 'p']\n['q', 'p']\n") ∷ []
unfolding encode within
item_as_target-told = refl

-- a = b = c = []
-- a.append('x')
-- print(b, c)
-- x = y = 'p'
-- x += 'q'
-- print(x, y)
abbrev several_targets : Result World Refused
several_targets = left_by
    (shop_module
    ∷ program
    (stmt_tree.assign (to_name a' ∷ to_name b' ∷ to_name c' ∷ []) (list [])
    ∷ stmt_tree.evaluate
    (primary (var a') (named_part append' ∷ call_part (tree.value (text (codes "x")) ∷ []) ∷ []))
    ∷ prints (var b' ∷ var c' ∷ [])
    ∷ stmt_tree.assign (to_name x' ∷ to_name y' ∷ []) (text (codes "p"))
    ∷ augments (to_name x') Add (text (codes "q"))
    ∷ prints (var x' ∷ var y' ∷ []) ∷ []) ((a' ∷ b' ∷ c' ∷ x' ∷ y' ∷ [], []) ∷ []) ∷ [])

several_targets-told : told several_targets ≡ (Some well, codes "['x'] ['x']\npq p\n") ∷ []
unfolding encode within
several_targets-told = refl

-- a, b, c = 'x', 'y', 'z'
-- a, b, c = c, a, b
-- print(a, b, c)
-- xs = ['p', 'q']
-- xs[0], xs[1] = xs[1], xs[0]
-- print(xs)
abbrev exchanged : Result World Refused
exchanged = left_by
    (shop_module
    ∷ program
    (unpacks (group (to a' ∷ to b' ∷ to c' ∷ []))
    (tuple (text (codes "x") ∷ text (codes "y") ∷ text (codes "z") ∷ []))
    ∷ unpacks (group (to a' ∷ to b' ∷ to c' ∷ [])) (tuple (var c' ∷ var a' ∷ var b' ∷ []))
    ∷ prints (var a' ∷ var b' ∷ var c' ∷ [])
    ∷ sets xs' (list (text (codes "p") ∷ text (codes "q") ∷ []))
    ∷ unpacks
    (group (tree.to_place (to_item (var xs') (int 0)) ∷ tree.to_place (to_item (var xs') (int 1)) ∷ []))
    (tuple (item (var xs') (int 1) ∷ item (var xs') (int 0) ∷ []))
    ∷ prints (var xs' ∷ []) ∷ []) ((a' ∷ b' ∷ c' ∷ xs' ∷ [], []) ∷ []) ∷ [])

exchanged-told : told exchanged ≡ (Some well, codes "z x y\n['q', 'p']\n") ∷ []
unfolding encode within
exchanged-told = refl

-- xs = ['a', 'b']
-- i = 0
-- i, xs[i] = 1, 'z'
-- print(xs, i == 1)
abbrev targets_in_order : Result World Refused
targets_in_order = left_by
    (shop_module
    ∷ program
    (sets xs' (list (text (codes "a") ∷ text (codes "b") ∷ []))
    ∷ sets i' (int 0)
    ∷ unpacks (group (to i' ∷ tree.to_place (to_item (var xs') (var i')) ∷ []))
    (tuple (int 1 ∷ text (codes "z") ∷ []))
    ∷ prints (var xs' ∷ compare (var i') ((test.Order Eq, int 1) ∷ []) ∷ []) ∷ [])
    ((xs' ∷ i' ∷ [], []) ∷ []) ∷ [])

targets_in_order-told : told targets_in_order ≡ (Some well, codes "['a', 'z'] True\n") ∷ []
unfolding encode within
targets_in_order-told = refl

-- [a, (b, c)], d = ['x', 'yz'], 'w'
-- print(a, b, c, d)
-- (a,) = 'p'
-- print(a)
abbrev unpacked_within : Result World Refused
unpacked_within = left_by
    (shop_module
    ∷ program
    (unpacks (group (group (to a' ∷ group (to b' ∷ to c' ∷ []) ∷ []) ∷ to d' ∷ []))
    (tuple (list (text (codes "x") ∷ text (codes "yz") ∷ []) ∷ text (codes "w") ∷ []))
    ∷ prints (var a' ∷ var b' ∷ var c' ∷ var d' ∷ [])
    ∷ unpacks (group (to a' ∷ [])) (text (codes "p"))
    ∷ prints (var a' ∷ []) ∷ []) ((a' ∷ b' ∷ c' ∷ d' ∷ [], []) ∷ []) ∷ [])

unpacked_within-told : told unpacked_within ≡ (Some well, codes "x y z w\np\n") ∷ []
unfolding encode within
unpacked_within-told = refl

-- for x in [[], ['a'], ['a', 'b'], ['a', 'b', 'c'], 'xy', 7, None]:
--     try:
--         a, b = x
--         print('two', a, b)
--     except ValueError:
--         print('count')
--     except TypeError:
--         print('kind')
abbrev wrong_counts : Result World Refused
wrong_counts = left_by
    (shop_module
    ∷ program
    (for (to x')
    (list
    (list []
    ∷ list (text (codes "a") ∷ [])
    ∷ list (text (codes "a") ∷ text (codes "b") ∷ [])
    ∷ list (text (codes "a") ∷ text (codes "b") ∷ text (codes "c") ∷ [])
    ∷ text (codes "xy")
    ∷ int 7
    ∷ nil ∷ []))
    (try
    (unpacks (group (to a' ∷ to b' ∷ [])) (var x') ∷ prints (text (codes "two") ∷ var a' ∷ var b' ∷ []) ∷ [])
    (handler (Some (var ValueError')) None (prints (text (codes "count") ∷ []) ∷ [])
    ∷ handler (Some (var TypeError')) None (prints (text (codes "kind") ∷ []) ∷ []) ∷ []) None None ∷ []) ∷ [])
    ((x' ∷ a' ∷ b' ∷ [], []) ∷ []) ∷ [])

wrong_counts-told : told wrong_counts ≡ (Some well, codes "count\ncount\ntwo a b\ncount\ntwo x y\nkind\nkind\n") ∷ []
unfolding encode within
wrong_counts-told = refl

-- d = {}
-- for x in 'banana':
--     if x in d:
--         d[x] += 1
--     else:
--         d[x] = 1
-- print(d == {'b': 1, 'a': 3, 'n': 2}, list(d))
abbrev counted_letters : Result World Refused
counted_letters = left_by
    (shop_module
    ∷ program
    (sets d' (dict [])
    ∷ for (to x') (text (codes "banana"))
    (choose
    ((
      compare (var x') ((test.Within, var d') ∷ []),
      augments (to_item (var d') (var x')) Add (int 1) ∷ [],
    ) ∷ [])
    (Some (stmt_tree.assign (to_item (var d') (var x') ∷ []) (int 1) ∷ [])) ∷ [])
    ∷ prints
    (compare (var d')
    ((
      test.Order Eq,
      dict ((text (codes "b"), int 1) ∷ (text (codes "a"), int 3) ∷ (text (codes "n"), int 2) ∷ []),
    ) ∷ [])
    ∷ called (var list') (var d' ∷ []) ∷ []) ∷ []) ((d' ∷ x' ∷ [], []) ∷ []) ∷ [])

counted_letters-told : told counted_letters ≡ (Some well, codes "True ['b', 'a', 'n']\n") ∷ []
unfolding encode within
counted_letters-told = refl
