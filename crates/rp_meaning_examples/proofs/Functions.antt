-- Functions, scopes, arguments and lambdas; a function is found by the number of its node.
use Rattle.std.proofs.Common.{◌≡◌, true, false, [], ◌∷◌, codes, Some, None, refl}
use lib.Utf8.{encode}
use Rattle.rp_base.specs.declared.word.TheConstants.{COUNT}
use Rattle.rp_base.specs.declared.kind.Kind.TheVariants.{NameError, TypeError}
use Rattle.rp_base.specs.declared.operator.BinOp.TheVariants.{Add, Sub}
use Rattle.rp_base.specs.declared.operator.CmpOp.TheVariants.{Eq, Ne}
use Rattle.rp_compare.specs.Equality.{within}
use Rattle.rp_tree.specs.declared.parts.Test.TheVariants as test
use Rattle.rp_tree.specs.Expressions as tree
use Rattle.rp_tree.specs.Statements as stmt_tree
use Rattle.rp_meaning.specs.Scopes.{outer}
use Rattle.rp_meaning.specs.Sessions.{well, cut_off}
use Rattle.rp_meaning_examples.proofs.Building.{var, int, text, nil, truth, tuple, list, dict, or, cond, compare, binary, item_part, slice_part, call_part, primary, item, called, to_name, to, to_item, group, params, plain_params, lambda, clause, list_of, dict_of, sets, prints, augments, declares_global, choose, while, for, handler, try, define}
use Rattle.rp_meaning_examples.proofs.Playing.{Seen, seen, plays, program, raises_with}
use Rattle.rp_meaning_examples.proofs.Shop.{shop_module}
use Rattle.rp_meaning_examples.proofs.Words.{NameError', RecursionError', TypeError', UnboundLocalError', ValueError', a', b', c', d', e', f', g', h', i', inner', k', m', n', outer', print', q', r', range', rec', v', x', y', z'}

-- def f(a, b='bb', *c, **d):
--     return (a, b, c, d)
-- print(f('x'), f('x', 'y', 'z'), f(a='1', e='2'))
-- try:
--     f()
-- except TypeError as e:
--     print(e)
-- try:
--     f('x', a='y')
-- except TypeError as e:
--     print(e)
-- (lambda x: x)(y='1')
abbrev bound_arguments : Seen
bound_arguments = plays
    (shop_module
    ∷ program
    (define 1 f' (params ((a', None) ∷ (b', Some (text (codes "bb"))) ∷ []) (Some c') (Some d'))
    (stmt_tree.give_back (Some (tuple (var a' ∷ var b' ∷ var c' ∷ var d' ∷ []))) ∷ [])
    ∷ prints
    (called (var f') (text (codes "x") ∷ [])
    ∷ called (var f') (text (codes "x") ∷ text (codes "y") ∷ text (codes "z") ∷ [])
    ∷ primary (var f') (call_part (tree.key a' (text (codes "1")) ∷ tree.key e' (text (codes "2")) ∷ []) ∷ []) ∷ [])
    ∷ try (stmt_tree.evaluate (called (var f') []) ∷ [])
    (handler (Some (var TypeError')) (Some e') (prints (var e' ∷ []) ∷ []) ∷ []) None None
    ∷ try
    (stmt_tree.evaluate
    (primary (var f')
    (call_part (tree.value (text (codes "x")) ∷ tree.key a' (text (codes "y")) ∷ []) ∷ [])) ∷ [])
    (handler (Some (var TypeError')) (Some e') (prints (var e' ∷ []) ∷ []) ∷ []) None None
    ∷ stmt_tree.evaluate
    (primary (lambda 2 (plain_params (x' ∷ [])) (var x'))
    (call_part (tree.key y' (text (codes "1")) ∷ []) ∷ [])) ∷ [])
    ((f' ∷ e' ∷ [], []) ∷ (a' ∷ b' ∷ c' ∷ d' ∷ [], []) ∷ (x' ∷ [], []) ∷ []) ∷ [])

bound_arguments-seen : bound_arguments
    ≡ seen 132 []
    ((
      Some (cut_off (raises_with TypeError (codes "arguments"))),
      999927,
      codes
          "('x', 'bb', (), {}) ('x', 'y', ('z',), {}) ('1', 'bb', (), {'e': '2'})\narguments\narguments\n",
    ) ∷ [])
unfolding encode within
bound_arguments-seen = refl

-- def count(n):
--     if n == 0:
--         return 'end'
--     return count(n - 1)
-- print(count(5))
-- def outer():
--     x = 'in'
--     def inner():
--         return x
--     x = 'changed'
--     return inner
-- print(outer()())
-- y = 'g'
-- def h():
--     global y
--     y = y + 'h'
--     return y
-- print(h(), y)
-- print((lambda a, b='d': a + b)('c'))
abbrev scopes : Seen
scopes = plays
    (shop_module
    ∷ program
    (define 1 COUNT (plain_params (n' ∷ []))
    (choose
    ((
      compare (var n') ((test.Order Eq, int 0) ∷ []),
      stmt_tree.give_back (Some (text (codes "end"))) ∷ [],
    ) ∷ []) None
    ∷ stmt_tree.give_back (Some (called (var COUNT) (binary Sub (var n') (int 1) ∷ []))) ∷ [])
    ∷ prints (called (var COUNT) (int 5 ∷ []) ∷ [])
    ∷ define 2 outer' (plain_params [])
    (sets x' (text (codes "in"))
    ∷ define 3 inner' (plain_params []) (stmt_tree.give_back (Some (var x')) ∷ [])
    ∷ sets x' (text (codes "changed"))
    ∷ stmt_tree.give_back (Some (var inner')) ∷ [])
    ∷ prints (primary (var outer') (call_part [] ∷ call_part [] ∷ []) ∷ [])
    ∷ sets y' (text (codes "g"))
    ∷ define 4 h' (plain_params [])
    (declares_global (y' ∷ [])
    ∷ sets y' (binary Add (var y') (text (codes "h")))
    ∷ stmt_tree.give_back (Some (var y')) ∷ [])
    ∷ prints (called (var h') [] ∷ var y' ∷ [])
    ∷ prints
    (called
    (lambda 5 (params ((a', None) ∷ (b', Some (text (codes "d"))) ∷ []) None None)
    (binary Add (var a') (var b'))) (text (codes "c") ∷ []) ∷ []) ∷ [])
    ((COUNT ∷ outer' ∷ y' ∷ h' ∷ [], [])
    ∷ (n' ∷ [], [])
    ∷ (x' ∷ inner' ∷ [], [])
    ∷ ([], (inner', outer 1 1) ∷ (x', outer 1 0) ∷ [])
    ∷ ([], [])
    ∷ (a' ∷ b' ∷ [], []) ∷ []) ∷ [])

scopes-seen : scopes ≡ seen 51 [] ((Some well, 999895, codes "end\nchanged\ngh gh\ncd\n") ∷ [])
unfolding encode within
scopes-seen = refl

-- def f():
--     print(x)
--     x = 1
-- try:
--     f()
-- except UnboundLocalError as e:
--     print('local', e)
-- def g():
--     def k():
--         return z
--     r = k()
--     z = 1
-- try:
--     g()
-- except NameError as e:
--     print('name', e)
-- del f
-- f()
abbrev unbound_names : Seen
unbound_names = plays
    (shop_module
    ∷ program
    (define 1 f' (plain_params []) (prints (var x' ∷ []) ∷ sets x' (int 1) ∷ [])
    ∷ try (stmt_tree.evaluate (called (var f') []) ∷ [])
    (handler (Some (var UnboundLocalError')) (Some e') (prints (text (codes "local") ∷ var e' ∷ []) ∷ []) ∷ [])
    None None
    ∷ define 2 g' (plain_params [])
    (define 3 k' (plain_params []) (stmt_tree.give_back (Some (var z')) ∷ [])
    ∷ sets r' (called (var k') [])
    ∷ sets z' (int 1) ∷ [])
    ∷ try (stmt_tree.evaluate (called (var g') []) ∷ [])
    (handler (Some (var NameError')) (Some e') (prints (text (codes "name") ∷ var e' ∷ []) ∷ []) ∷ [])
    None None
    ∷ stmt_tree.del (to_name f' ∷ [])
    ∷ stmt_tree.evaluate (called (var f') []) ∷ [])
    ((f' ∷ e' ∷ g' ∷ [], [])
    ∷ (x' ∷ [], [])
    ∷ (k' ∷ r' ∷ z' ∷ [], [])
    ∷ ([], (k', outer 1 0) ∷ (r', outer 1 1) ∷ (z', outer 1 2) ∷ []) ∷ []) ∷ [])

unbound_names-seen : unbound_names
    ≡ seen 25 [] ((Some (cut_off (raises_with NameError (codes "f"))), 999965, codes "local x\nname z\n") ∷ [])
unfolding encode within
unbound_names-seen = refl

-- def rec(n):
--     return rec(n)
-- try:
--     rec('x')
-- except RecursionError as e:
--     print(e)
abbrev too_deep : Seen
too_deep = plays
    (shop_module
    ∷ program
    (define 1 rec' (plain_params (n' ∷ [])) (stmt_tree.give_back (Some (called (var rec') (var n' ∷ []))) ∷ [])
    ∷ try (stmt_tree.evaluate (called (var rec') (text (codes "x") ∷ [])) ∷ [])
    (handler (Some (var RecursionError')) (Some e') (prints (var e' ∷ []) ∷ []) ∷ []) None None ∷ [])
    ((rec' ∷ e' ∷ [], []) ∷ (n' ∷ [], []) ∷ []) ∷ [])

too_deep-seen : too_deep ≡ seen 2007 [] ((Some well, 995989, codes "calls\n") ∷ [])
unfolding encode within
too_deep-seen = refl

-- def f(a, b=print('default')):
--     return b
-- print(f('x') is None)
-- f('x', b='y', **{'b': 'z'})
abbrev default_evaluated : Seen
default_evaluated = plays
    (shop_module
    ∷ program
    (define 1 f'
    (params ((a', None) ∷ (b', Some (called (var print') (text (codes "default") ∷ []))) ∷ []) None None)
    (stmt_tree.give_back (Some (var b')) ∷ [])
    ∷ prints (compare (called (var f') (text (codes "x") ∷ [])) ((test.Is, nil) ∷ []) ∷ [])
    ∷ stmt_tree.evaluate
    (primary (var f')
    (call_part
    (tree.value (text (codes "x"))
    ∷ tree.key b' (text (codes "y"))
    ∷ tree.stars (dict ((text (codes "b"), text (codes "z")) ∷ [])) ∷ []) ∷ [])) ∷ [])
    ((f' ∷ [], []) ∷ (a' ∷ b' ∷ [], []) ∷ []) ∷ [])

default_evaluated-seen : default_evaluated
    ≡ seen 20 []
    ((Some (cut_off (raises_with TypeError (codes "arguments"))), 999978, codes "default\nTrue\n") ∷ [])
unfolding encode within
default_evaluated-seen = refl

-- def f(*a, **k):
--     return [a, k]
-- print(f(*'ab', **{'c': 'd'}), f())
-- print(f(*['2'], x='1')[0])
abbrev starred_arguments : Seen
starred_arguments = plays
    (shop_module
    ∷ program
    (define 1 f' (params [] (Some a') (Some k')) (stmt_tree.give_back (Some (list (var a' ∷ var k' ∷ []))) ∷ [])
    ∷ prints
    (primary (var f')
    (call_part
    (tree.star (text (codes "ab"))
    ∷ tree.stars (dict ((text (codes "c"), text (codes "d")) ∷ [])) ∷ []) ∷ [])
    ∷ called (var f') [] ∷ [])
    ∷ prints
    (primary (var f')
    (call_part (tree.star (list (text (codes "2") ∷ [])) ∷ tree.key x' (text (codes "1")) ∷ [])
    ∷ item_part (int 0) ∷ []) ∷ []) ∷ [])
    ((f' ∷ [], []) ∷ (a' ∷ k' ∷ [], []) ∷ []) ∷ [])

starred_arguments-seen : starred_arguments
    ≡ seen 77 [] ((Some well, 999955, codes "[('a', 'b'), {'c': 'd'}] [(), {}]\n('2',)\n") ∷ [])
unfolding encode within
starred_arguments-seen = refl

-- def f():
--     return f
-- x = f
-- for i in range(3):
--     x = x()
-- print(x == f)
-- def g(n):
--     if n == 0:
--         return 'done'
--     return (lambda m: g(m))(n - 1)
-- print(g(20))
abbrev many_calls : Seen
many_calls = plays
    (shop_module
    ∷ program
    (define 1 f' (plain_params []) (stmt_tree.give_back (Some (var f')) ∷ [])
    ∷ sets x' (var f')
    ∷ for (to i') (called (var range') (int 3 ∷ [])) (sets x' (called (var x') []) ∷ [])
    ∷ prints (compare (var x') ((test.Order Eq, var f') ∷ []) ∷ [])
    ∷ define 2 g' (plain_params (n' ∷ []))
    (choose
    ((
      compare (var n') ((test.Order Eq, int 0) ∷ []),
      stmt_tree.give_back (Some (text (codes "done"))) ∷ [],
    ) ∷ []) None
    ∷ stmt_tree.give_back
    (Some
    (called (lambda 3 (plain_params (m' ∷ [])) (called (var g') (var m' ∷ [])))
    (binary Sub (var n') (int 1) ∷ []))) ∷ [])
    ∷ prints (called (var g') (int 20 ∷ []) ∷ []) ∷ [])
    ((f' ∷ x' ∷ i' ∷ g' ∷ [], []) ∷ ([], []) ∷ (n' ∷ [], []) ∷ (m' ∷ [], (n', outer 1 0) ∷ []) ∷ []) ∷ [])

many_calls-seen : many_calls ≡ seen 121 [] ((Some well, 999696, codes "True\ndone\n") ∷ [])
unfolding encode within
many_calls-seen = refl

-- def f():
--     x = 'l'
--     return [x + y for y in 'ab' if (lambda: y != x)()]
-- print(f())
-- print([lambda: z for z in 'a'][0]())
-- [q for q in 'a']
-- print(q)
abbrev closures : Seen
closures = plays
    (shop_module
    ∷ program
    (define 1 f' (plain_params [])
    (sets x' (text (codes "l"))
    ∷ stmt_tree.give_back
    (Some
    (list_of 2 (binary Add (var x') (var y'))
    (clause (to y') (text (codes "ab"))
    (called
    (lambda 3 (plain_params [])
    (compare (var y') ((test.Order Ne, var x') ∷ []))) [] ∷ []) ∷ []))) ∷ [])
    ∷ prints (called (var f') [] ∷ [])
    ∷ prints
    (primary (list_of 4 (lambda 5 (plain_params []) (var z')) (clause (to z') (text (codes "a")) [] ∷ []))
    (item_part (int 0) ∷ call_part [] ∷ []) ∷ [])
    ∷ stmt_tree.evaluate (list_of 6 (var q') (clause (to q') (text (codes "a")) [] ∷ []))
    ∷ prints (var q' ∷ []) ∷ [])
    ((f' ∷ [], [])
    ∷ (x' ∷ [], [])
    ∷ (y' ∷ [], (x', outer 1 0) ∷ [])
    ∷ ([], (x', outer 2 0) ∷ (y', outer 1 0) ∷ [])
    ∷ (z' ∷ [], [])
    ∷ ([], (z', outer 1 0) ∷ [])
    ∷ (q' ∷ [], []) ∷ []) ∷ [])

closures-seen : closures
    ≡ seen 45 [] ((Some (cut_off (raises_with NameError (codes "q"))), 999949, codes "['la', 'lb']\na\n") ∷ [])
unfolding encode within
closures-seen = refl

-- def g():
--     def k():
--         return z
--     r = k()
--     z = 1
-- g()
abbrev unbound_outside : Seen
unbound_outside = plays
    (shop_module
    ∷ program
    (define 1 g' (plain_params [])
    (define 2 k' (plain_params []) (stmt_tree.give_back (Some (var z')) ∷ [])
    ∷ sets r' (called (var k') [])
    ∷ sets z' (int 1) ∷ [])
    ∷ stmt_tree.evaluate (called (var g') []) ∷ [])
    ((g' ∷ [], [])
    ∷ (k' ∷ r' ∷ z' ∷ [], [])
    ∷ ([], (k', outer 1 0) ∷ (r', outer 1 1) ∷ (z', outer 1 2) ∷ []) ∷ []) ∷ [])

unbound_outside-seen : unbound_outside
    ≡ seen 7 [] ((Some (cut_off (raises_with NameError (codes "z"))), 999990, []) ∷ [])
unfolding encode within
unbound_outside-seen = refl

-- f = (lambda: 'yes') if (lambda: True)() else lambda: 'no'
-- print(f())
-- print([(lambda: x + 'e')() for x in (lambda: 'ab')() if (lambda: x != 'b')()])
-- def h(a=lambda: 'default'):
--     return a()
-- print(h(), h(lambda: 'given'))
-- d = {(lambda: k)(): (lambda: v)() for k, v in [(x, x + x) for x in 'pq']}
-- print(d)
-- try:
--     raise (lambda: ValueError)()
-- except (lambda: ValueError)() as e:
--     print((lambda: 'handler')())
-- else:
--     print('no')
-- finally:
--     print((lambda: 'last')())
-- print((lambda: 'p')(), [(lambda: 'q')()][(lambda: 0)()], (lambda: 'abc')()[(lambda: 1)():(lambda: 2)()])
-- x = {'k': 'v'}
-- x[(lambda: 'k')()] += (lambda: 'w')()
-- for x[(lambda: 'j')()], y in [((lambda: '1')(), '2')]:
--     print(x, y, (lambda: 'in for')())
-- while (lambda: True)():
--     if (lambda: False)():
--         pass
--     elif (lambda: True)():
--         print((lambda: 'elif')())
--         break
--     else:
--         (lambda: 'else')()
-- assert (lambda: True)(), (lambda: 'm')()
-- print((lambda *a, **k: (a, k))(*(lambda: 'a')(), **(lambda: {'z': 'y'})()))
-- print((lambda: 'a')() == (lambda: 'a')() != (lambda: 'b')(), (lambda: 'a')() + (lambda: 'b')(), (lambda: '')() or (lambda: 'or')())
-- del x[(lambda: 'k')()], x[(lambda: 'j')()]
-- print(x)
abbrev lambdas_everywhere : Seen
lambdas_everywhere = plays
    (shop_module
    ∷ program
    (sets f'
    (cond (called (lambda 2 (plain_params []) (truth true)) [])
    (lambda 1 (plain_params []) (text (codes "yes")))
    (lambda 3 (plain_params []) (text (codes "no"))))
    ∷ prints (called (var f') [] ∷ [])
    ∷ prints
    (list_of 4 (called (lambda 5 (plain_params []) (binary Add (var x') (text (codes "e")))) [])
    (clause (to x') (called (lambda 6 (plain_params []) (text (codes "ab"))) [])
    (called
    (lambda 7 (plain_params [])
    (compare (var x') ((test.Order Ne, text (codes "b")) ∷ []))) [] ∷ []) ∷ []) ∷ [])
    ∷ define 8 h' (params ((a', Some (lambda 9 (plain_params []) (text (codes "default")))) ∷ []) None None)
    (stmt_tree.give_back (Some (called (var a') [])) ∷ [])
    ∷ prints (called (var h') [] ∷ called (var h') (lambda 10 (plain_params []) (text (codes "given")) ∷ []) ∷ [])
    ∷ sets d'
    (dict_of 11 (called (lambda 12 (plain_params []) (var k')) [])
    (called (lambda 13 (plain_params []) (var v')) [])
    (clause (group (to k' ∷ to v' ∷ []))
    (list_of 14 (tuple (var x' ∷ binary Add (var x') (var x') ∷ []))
    (clause (to x') (text (codes "pq")) [] ∷ [])) [] ∷ []))
    ∷ prints (var d' ∷ [])
    ∷ try (stmt_tree.raise (Some (called (lambda 15 (plain_params []) (var ValueError')) [])) ∷ [])
    (handler (Some (called (lambda 16 (plain_params []) (var ValueError')) [])) (Some e')
    (prints (called (lambda 17 (plain_params []) (text (codes "handler"))) [] ∷ []) ∷ []) ∷ [])
    (Some (prints (text (codes "no") ∷ []) ∷ []))
    (Some (prints (called (lambda 18 (plain_params []) (text (codes "last"))) [] ∷ []) ∷ []))
    ∷ prints
    (called (lambda 19 (plain_params []) (text (codes "p"))) []
    ∷ item (list (called (lambda 20 (plain_params []) (text (codes "q"))) [] ∷ []))
    (called (lambda 21 (plain_params []) (int 0)) [])
    ∷ primary (lambda 22 (plain_params []) (text (codes "abc")))
    (call_part []
    ∷ slice_part (tree.some (called (lambda 23 (plain_params []) (int 1)) []))
    (tree.some (called (lambda 24 (plain_params []) (int 2)) [])) tree.none ∷ []) ∷ [])
    ∷ sets x' (dict ((text (codes "k"), text (codes "v")) ∷ []))
    ∷ augments (to_item (var x') (called (lambda 25 (plain_params []) (text (codes "k"))) [])) Add
    (called (lambda 26 (plain_params []) (text (codes "w"))) [])
    ∷ for
    (group
    (tree.to_place (to_item (var x') (called (lambda 27 (plain_params []) (text (codes "j"))) []))
    ∷ to y' ∷ []))
    (list
    (tuple (called (lambda 28 (plain_params []) (text (codes "1"))) [] ∷ text (codes "2") ∷ []) ∷ []))
    (prints (var x' ∷ var y' ∷ called (lambda 29 (plain_params []) (text (codes "in for"))) [] ∷ []) ∷ [])
    ∷ while (called (lambda 30 (plain_params []) (truth true)) [])
    (choose
    ((called (lambda 31 (plain_params []) (truth false)) [], stmt_tree.pass ∷ [])
    ∷ (
      called (lambda 32 (plain_params []) (truth true)) [],
      prints (called (lambda 33 (plain_params []) (text (codes "elif"))) [] ∷ [])
          ∷ stmt_tree.break ∷ [],
    ) ∷ [])
    (Some (stmt_tree.evaluate (called (lambda 34 (plain_params []) (text (codes "else"))) []) ∷ [])) ∷ [])
    ∷ stmt_tree.assert (called (lambda 35 (plain_params []) (truth true)) [])
    (Some (called (lambda 36 (plain_params []) (text (codes "m"))) []))
    ∷ prints
    (primary (lambda 37 (params [] (Some a') (Some k')) (tuple (var a' ∷ var k' ∷ [])))
    (call_part
    (tree.star (called (lambda 38 (plain_params []) (text (codes "a"))) [])
    ∷ tree.stars
    (called
    (lambda 39 (plain_params [])
    (dict ((text (codes "z"), text (codes "y")) ∷ []))) []) ∷ []) ∷ []) ∷ [])
    ∷ prints
    (compare (called (lambda 40 (plain_params []) (text (codes "a"))) [])
    ((test.Order Eq, called (lambda 41 (plain_params []) (text (codes "a"))) [])
    ∷ (test.Order Ne, called (lambda 42 (plain_params []) (text (codes "b"))) []) ∷ [])
    ∷ binary Add (called (lambda 43 (plain_params []) (text (codes "a"))) [])
    (called (lambda 44 (plain_params []) (text (codes "b"))) [])
    ∷ or
    (called (lambda 45 (plain_params []) (text [])) []
    ∷ called (lambda 46 (plain_params []) (text (codes "or"))) [] ∷ []) ∷ [])
    ∷ stmt_tree.del
    (to_item (var x') (called (lambda 47 (plain_params []) (text (codes "k"))) [])
    ∷ to_item (var x') (called (lambda 48 (plain_params []) (text (codes "j"))) []) ∷ [])
    ∷ prints (var x' ∷ []) ∷ [])
    ((f' ∷ h' ∷ d' ∷ e' ∷ x' ∷ y' ∷ [], [])
    ∷ ([], [])
    ∷ ([], [])
    ∷ ([], [])
    ∷ (x' ∷ [], [])
    ∷ ([], (x', outer 1 0) ∷ [])
    ∷ ([], [])
    ∷ ([], (x', outer 1 0) ∷ [])
    ∷ (a' ∷ [], [])
    ∷ ([], [])
    ∷ ([], [])
    ∷ (k' ∷ v' ∷ [], [])
    ∷ ([], (k', outer 1 0) ∷ (v', outer 1 1) ∷ [])
    ∷ ([], (k', outer 1 0) ∷ (v', outer 1 1) ∷ [])
    ∷ (x' ∷ [], [])
    ∷ ([], [])
    ∷ ([], [])
    ∷ ([], [])
    ∷ ([], [])
    ∷ ([], [])
    ∷ ([], [])
    ∷ ([], [])
    ∷ ([], [])
    ∷ ([], [])
    ∷ ([], [])
    ∷ ([], [])
    ∷ ([], [])
    ∷ ([], [])
    ∷ ([], [])
    ∷ ([], [])
    ∷ ([], [])
    ∷ ([], [])
    ∷ ([], [])
    ∷ ([], [])
    ∷ ([], [])
    ∷ ([], [])
    ∷ ([], [])
    ∷ (a' ∷ k' ∷ [], [])
    ∷ ([], [])
    ∷ ([], [])
    ∷ ([], [])
    ∷ ([], [])
    ∷ ([], [])
    ∷ ([], [])
    ∷ ([], [])
    ∷ ([], [])
    ∷ ([], [])
    ∷ ([], [])
    ∷ ([], []) ∷ []) ∷ [])

lambdas_everywhere-seen : lambdas_everywhere
    ≡ seen 290 []
    ((
      Some well,
      999740,
      codes
          "yes\n['ae']\ndefault given\n{'p': 'pp', 'q': 'qq'}\nhandler\nlast\np q b\n{'k': 'vw', 'j': '1'} 2 in for\nelif\n(('a',), {'z': 'y'})\nTrue ab or\n{}\n",
    ) ∷ [])
unfolding encode within
lambdas_everywhere-seen = refl

-- def f():
--     return 'f'
-- def g():
--     return [f() + x for x in 'ab']
-- print(g(), [g for i in 'a'][0]() == g())
abbrev comprehension_calls : Seen
comprehension_calls = plays
    (shop_module
    ∷ program
    (define 1 f' (plain_params []) (stmt_tree.give_back (Some (text (codes "f"))) ∷ [])
    ∷ define 2 g' (plain_params [])
    (stmt_tree.give_back
    (Some
    (list_of 3 (binary Add (called (var f') []) (var x'))
    (clause (to x') (text (codes "ab")) [] ∷ []))) ∷ [])
    ∷ prints
    (called (var g') []
    ∷ compare
    (primary (list_of 4 (var g') (clause (to i') (text (codes "a")) [] ∷ []))
    (item_part (int 0) ∷ call_part [] ∷ [])) ((test.Order Eq, called (var g') []) ∷ []) ∷ []) ∷ [])
    ((f' ∷ g' ∷ [], []) ∷ ([], []) ∷ ([], []) ∷ (x' ∷ [], []) ∷ (i' ∷ [], []) ∷ []) ∷ [])

comprehension_calls-seen : comprehension_calls ≡ seen 67 [] ((Some well, 999928, codes "['fa', 'fb'] True\n") ∷ [])
unfolding encode within
comprehension_calls-seen = refl

-- print((lambda f=lambda: 'x', g=lambda h=lambda: 'y': h(): f() + g())())
abbrev defaults_within_defaults : Seen
defaults_within_defaults = plays
    (shop_module
    ∷ program
    (prints
    (called
    (lambda 1
    (params
    ((f', Some (lambda 2 (plain_params []) (text (codes "x"))))
    ∷ (
      g',
      Some
          (lambda 3
          (params
          ((h', Some (lambda 4 (plain_params []) (text (codes "y")))) ∷ [])
          None None) (called (var h') [])),
    ) ∷ []) None None)
    (binary Add (called (var f') []) (called (var g') []))) [] ∷ []) ∷ [])
    (([], []) ∷ (f' ∷ g' ∷ [], []) ∷ ([], []) ∷ (h' ∷ [], []) ∷ ([], []) ∷ []) ∷ [])

defaults_within_defaults-seen : defaults_within_defaults ≡ seen 19 [] ((Some well, 999983, codes "xy\n") ∷ [])
unfolding encode within
defaults_within_defaults-seen = refl
