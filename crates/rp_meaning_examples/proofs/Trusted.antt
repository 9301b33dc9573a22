-- What code of the trusted module does with what scripts hand it.
use Rattle.std.proofs.Common.{◌≡◌, true, [], ◌∷◌, ◌++◌, codes, Some, None, refl}
use lib.Utf8.{encode}
use Rattle.rp_base.specs.declared.word.TheConstants.{ITEMS}
use Rattle.rp_base.specs.declared.kind.Kind.TheVariants.{NameError, RuntimeError}
use Rattle.rp_base.specs.declared.operator.BinOp.TheVariants.{Add, Mul}
use Rattle.rp_base.specs.declared.operator.CmpOp.TheVariants.{Eq}
use Rattle.rp_base.specs.declared.operator.UnOp.TheVariants.{Neg}
use Rattle.rp_compare.specs.Equality.{within}
use Rattle.rp_tree.specs.declared.parts.Test.TheVariants as test
use Rattle.rp_tree.specs.Expressions as tree
use Rattle.rp_tree.specs.Statements as stmt_tree
use Rattle.rp_meaning.specs.Scopes.{outer}
use Rattle.rp_meaning.specs.Sessions.{well, cut_off}
use Rattle.rp_meaning_examples.proofs.Building.{var, int, text, nil, truth, tuple, list, dict, compare, binary, unary, named_part, item_part, slice_part, call_part, primary, attribute, item, called, to_name, to, to_attribute, to_item, group, params, plain_params, lambda, clause, list_of, sets, prints, unpacks, augments, declares_global, while, for, handler, try, define, class}
use Rattle.rp_meaning_examples.proofs.Playing.{Seen, seen, read, plays, program, raises_with}
use Rattle.rp_meaning_examples.proofs.Shop.{shop, shop_blocks, more_classes, more_blocks}
use Rattle.rp_meaning_examples.proofs.Words.{Bad', Box', Exception', Item', KeyError', Len', Local', Plain', TypeError', ValueError', a', append', b', bool', d', e', f', fun', g', k', kw', len', list', m', make', n', o', r', removeSecurityProxy', self', t', thing', tries', v', x', y'}

-- in the module:
--     class Local:
--         'doc'
--         def make(self):
--             self.k = 'k'
--             return self
--     thing = Local().make()
--     thing.k += 'k'
--     def fun(a):
--         return [thing.k + a, thing]
-- the script:
--     print(fun('a'))
abbrev module_class : Seen
module_class = plays
    (program
    (shop
    ++ (class Local'
    (stmt_tree.evaluate (text (codes "doc"))
    ∷ define 8 make' (plain_params (self' ∷ []))
    (stmt_tree.assign (to_attribute (var self') k' ∷ []) (text (codes "k"))
    ∷ stmt_tree.give_back (Some (var self')) ∷ []) ∷ [])
    ∷ sets thing' (primary (var Local') (call_part [] ∷ named_part make' ∷ call_part [] ∷ []))
    ∷ augments (to_attribute (var thing') k') Add (text (codes "k"))
    ∷ define 9 fun' (plain_params (a' ∷ []))
    (stmt_tree.give_back (Some (list (binary Add (attribute (var thing') k') (var a') ∷ var thing' ∷ []))) ∷ []) ∷ []))
    (((Item' ∷ ITEMS ∷ o' ∷ fun' ∷ Local' ∷ thing' ∷ [], []) ∷ [])
    ++ shop_blocks
    ++ ((self' ∷ [], []) ∷ (a' ∷ [], []) ∷ []))
    ∷ program (prints (called (var fun') (text (codes "a") ∷ []) ∷ []) ∷ []) (([], []) ∷ []) ∷ [])

module_class-seen : module_class
    ≡ seen 34 (read 1 (codes "function") (codes "__call__") ∷ read 1 (codes "list") (codes "__str__") ∷ [])
    ((Some well, 999985, codes "['kka', <Local object>]\n") ∷ [])
unfolding encode within
module_class-seen = refl

-- in the module:
--     def fun(x):
--         return removeSecurityProxy(x).m
-- the script:
--     print(fun(o))
abbrev proxy_removed : Seen
proxy_removed = plays
    (program
    (shop
    ++ (define 8 fun' (plain_params (x' ∷ []))
    (stmt_tree.give_back
    (Some
    (primary (var removeSecurityProxy')
    (call_part (tree.value (var x') ∷ []) ∷ named_part m' ∷ []))) ∷ []) ∷ []))
    (((Item' ∷ ITEMS ∷ o' ∷ fun' ∷ [], []) ∷ []) ++ shop_blocks ++ ((x' ∷ [], []) ∷ []))
    ∷ program (prints (called (var fun') (var o' ∷ []) ∷ []) ∷ []) (([], []) ∷ []) ∷ [])

proxy_removed-seen : proxy_removed
    ≡ seen 9 (read 1 (codes "function") (codes "__call__") ∷ []) ((Some well, 999989, codes "eight\n") ∷ [])
unfolding encode within
proxy_removed-seen = refl

-- in the module:
--     def fun(x, f):
--         x.append('t')
--         y = f(items)
--         return [x, y.n]
-- the script:
--     print(fun([o, 'z'], lambda v: v))
abbrev script_list : Seen
script_list = plays
    (program
    (shop
    ++ (define 8 fun' (plain_params (x' ∷ f' ∷ []))
    (stmt_tree.evaluate
    (primary (var x')
    (named_part append' ∷ call_part (tree.value (text (codes "t")) ∷ []) ∷ []))
    ∷ sets y' (called (var f') (var ITEMS ∷ []))
    ∷ stmt_tree.give_back (Some (list (var x' ∷ attribute (var y') n' ∷ []))) ∷ []) ∷ []))
    (((Item' ∷ ITEMS ∷ o' ∷ fun' ∷ [], []) ∷ []) ++ shop_blocks ++ ((x' ∷ f' ∷ y' ∷ [], []) ∷ []))
    ∷ program
    (prints
    (called (var fun')
    (list (var o' ∷ text (codes "z") ∷ []) ∷ lambda 1 (plain_params (v' ∷ [])) (var v') ∷ []) ∷ []) ∷ [])
    (([], []) ∷ (v' ∷ [], []) ∷ []) ∷ [])

script_list-seen : script_list
    ≡ seen 55
    (read 1 (codes "function") (codes "__call__")
    ∷ read 1 (codes "Item") (codes "n")
    ∷ read 1 (codes "list") (codes "__str__") ∷ [])
    ((Some well, 999971, codes "[[<Item object>, 'z', 't'], 'seven']\n") ∷ [])
unfolding encode within
script_list-seen = refl

-- in the module:
--     def fun(x):
--         b = Box()
--         b['k'] = 'v'
--         b['j'] = 'w'
--         del b['j']
--         b['k'] += ['z']
--         return [b['k'], tries(lambda: b['j']), tries(Bad), tries(Plain, 'x'), make()]
-- the script:
--     print(fun('a'))
abbrev special_stores : Seen
special_stores = plays
    (program
    (shop
    ++ more_classes
    ++ (define 17 fun' (plain_params (x' ∷ []))
    (sets b' (called (var Box') [])
    ∷ stmt_tree.assign (to_item (var b') (text (codes "k")) ∷ []) (text (codes "v"))
    ∷ stmt_tree.assign (to_item (var b') (text (codes "j")) ∷ []) (text (codes "w"))
    ∷ stmt_tree.del (to_item (var b') (text (codes "j")) ∷ [])
    ∷ augments (to_item (var b') (text (codes "k"))) Add (list (text (codes "z") ∷ []))
    ∷ stmt_tree.give_back
    (Some
    (list
    (item (var b') (text (codes "k"))
    ∷ called (var tries')
    (lambda 18 (plain_params []) (item (var b') (text (codes "j"))) ∷ [])
    ∷ called (var tries') (var Bad' ∷ [])
    ∷ called (var tries') (var Plain' ∷ text (codes "x") ∷ [])
    ∷ called (var make') [] ∷ []))) ∷ []) ∷ []))
    (((Item' ∷ ITEMS ∷ o' ∷ fun' ∷ Box' ∷ Bad' ∷ Plain' ∷ Len' ∷ tries' ∷ make' ∷ [], []) ∷ [])
    ++ shop_blocks
    ++ more_blocks
    ++ ((x' ∷ b' ∷ [], []) ∷ ([], (b', outer 1 1) ∷ (x', outer 1 0) ∷ []) ∷ []))
    ∷ program (prints (called (var fun') (text (codes "a") ∷ []) ∷ []) ∷ []) (([], []) ∷ []) ∷ [])

special_stores-seen : special_stores
    ≡ seen 190 (read 1 (codes "function") (codes "__call__") ∷ read 1 (codes "list") (codes "__str__") ∷ [])
    ((
      Some well,
      999853,
      codes
          "[['k', ['k', 'v', 'z']], [KeyError(\"'j'\")], [TypeError('init')], [TypeError('arguments')], 'inner']\n",
    ) ∷ [])
unfolding encode within
special_stores-seen = refl

-- in the module:
--     def fun(x):
--         n = Len()
--         n.n = -1
--         r = [tries(len, n)]
--         n.n = True
--         r += [len(n) == 1, tries(lambda: n[0:1]), tries(lambda: n[0]), tries(lambda: 'a' in n), tries(n), bool(n), tries(lambda: [y for y in n])]
--         return r
-- the script:
--     print(fun('a'))
abbrev lengths : Seen
lengths = plays
    (program
    (shop
    ++ more_classes
    ++ (define 17 fun' (plain_params (x' ∷ []))
    (sets n' (called (var Len') [])
    ∷ stmt_tree.assign (to_attribute (var n') n' ∷ []) (unary Neg (int 1))
    ∷ sets r' (list (called (var tries') (var len' ∷ var n' ∷ []) ∷ []))
    ∷ stmt_tree.assign (to_attribute (var n') n' ∷ []) (truth true)
    ∷ augments (to_name r') Add
    (list
    (compare (called (var len') (var n' ∷ [])) ((test.Order Eq, int 1) ∷ [])
    ∷ called (var tries')
    (lambda 18 (plain_params [])
    (primary (var n')
    (slice_part (tree.some (int 0)) (tree.some (int 1)) tree.none ∷ [])) ∷ [])
    ∷ called (var tries') (lambda 19 (plain_params []) (item (var n') (int 0)) ∷ [])
    ∷ called (var tries')
    (lambda 20 (plain_params [])
    (compare (text (codes "a")) ((test.Within, var n') ∷ [])) ∷ [])
    ∷ called (var tries') (var n' ∷ [])
    ∷ called (var bool') (var n' ∷ [])
    ∷ called (var tries')
    (lambda 21 (plain_params [])
    (list_of 22 (var y') (clause (to y') (var n') [] ∷ [])) ∷ []) ∷ []))
    ∷ stmt_tree.give_back (Some (var r')) ∷ []) ∷ []))
    (((Item' ∷ ITEMS ∷ o' ∷ fun' ∷ Box' ∷ Bad' ∷ Plain' ∷ Len' ∷ tries' ∷ make' ∷ [], []) ∷ [])
    ++ shop_blocks
    ++ more_blocks
    ++ ((x' ∷ n' ∷ r' ∷ [], [])
    ∷ ([], (n', outer 1 1) ∷ (r', outer 1 2) ∷ (x', outer 1 0) ∷ [])
    ∷ ([], (n', outer 1 1) ∷ (r', outer 1 2) ∷ (x', outer 1 0) ∷ [])
    ∷ ([], (n', outer 1 1) ∷ (r', outer 1 2) ∷ (x', outer 1 0) ∷ [])
    ∷ ([], (n', outer 1 1) ∷ (r', outer 1 2) ∷ (x', outer 1 0) ∷ [])
    ∷ (y' ∷ [], (n', outer 2 1) ∷ (r', outer 2 2) ∷ (x', outer 2 0) ∷ []) ∷ []))
    ∷ program (prints (called (var fun') (text (codes "a") ∷ []) ∷ []) ∷ []) (([], []) ∷ []) ∷ [])

lengths-seen : lengths
    ≡ seen 224 (read 1 (codes "function") (codes "__call__") ∷ read 1 (codes "list") (codes "__str__") ∷ [])
    ((
      Some well,
      999857,
      codes
          "[[TypeError('len')], True, [TypeError('item')], [TypeError('item')], [TypeError('operand')], [TypeError('call')], True, [TypeError('iterate')]]\n",
    ) ∷ [])
unfolding encode within
lengths-seen = refl

-- in the module:
--     def fun(x, f):
--         r = []
--         for y in x:
--             r.append(y)
--         a, b = x
--         k = {'m': a, 'o': b}
--         return [r, list(x), f(**k), x[0:1], x[1] is None, tries(lambda: x + x), len(x) == 2]
-- the script:
--     print(fun(['p', 'q'], lambda m, o: m + o))
abbrev own_list_lent : Seen
own_list_lent = plays
    (program
    (shop
    ++ more_classes
    ++ (define 17 fun' (plain_params (x' ∷ f' ∷ []))
    (sets r' (list [])
    ∷ for (to y') (var x')
    (stmt_tree.evaluate
    (primary (var r')
    (named_part append' ∷ call_part (tree.value (var y') ∷ []) ∷ [])) ∷ [])
    ∷ unpacks (group (to a' ∷ to b' ∷ [])) (var x')
    ∷ sets k' (dict ((text (codes "m"), var a') ∷ (text (codes "o"), var b') ∷ []))
    ∷ stmt_tree.give_back
    (Some
    (list
    (var r'
    ∷ called (var list') (var x' ∷ [])
    ∷ primary (var f') (call_part (tree.stars (var k') ∷ []) ∷ [])
    ∷ primary (var x') (slice_part (tree.some (int 0)) (tree.some (int 1)) tree.none ∷ [])
    ∷ compare (item (var x') (int 1)) ((test.Is, nil) ∷ [])
    ∷ called (var tries')
    (lambda 18 (plain_params []) (binary Add (var x') (var x')) ∷ [])
    ∷ compare (called (var len') (var x' ∷ [])) ((test.Order Eq, int 2) ∷ []) ∷ []))) ∷ []) ∷ []))
    (((Item' ∷ ITEMS ∷ o' ∷ fun' ∷ Box' ∷ Bad' ∷ Plain' ∷ Len' ∷ tries' ∷ make' ∷ [], []) ∷ [])
    ++ shop_blocks
    ++ more_blocks
    ++ ((x' ∷ f' ∷ r' ∷ y' ∷ a' ∷ b' ∷ k' ∷ [], [])
    ∷ (
      [],
      (a', outer 1 4)
          ∷ (b', outer 1 5)
          ∷ (f', outer 1 1)
          ∷ (k', outer 1 6)
          ∷ (r', outer 1 2)
          ∷ (x', outer 1 0)
          ∷ (y', outer 1 3) ∷ [],
    ) ∷ []))
    ∷ program
    (prints
    (called (var fun')
    (list (text (codes "p") ∷ text (codes "q") ∷ [])
    ∷ lambda 1 (plain_params (m' ∷ o' ∷ [])) (binary Add (var m') (var o')) ∷ []) ∷ []) ∷ [])
    (([], []) ∷ (m' ∷ o' ∷ [], []) ∷ []) ∷ [])

own_list_lent-seen : own_list_lent
    ≡ seen 125 (read 1 (codes "function") (codes "__call__") ∷ read 1 (codes "list") (codes "__str__") ∷ [])
    ((Some well, 999910, codes "[['p', 'q'], ['p', 'q'], 'pq', ['p'], False, ['p', 'q', 'p', 'q'], True]\n") ∷ [])
unfolding encode within
own_list_lent-seen = refl

-- in the module:
--     def fun(d):
--         def g(**kw):
--             return kw
--         return [g(**d)]
-- the script:
--     print(fun({'a': ['b']}))
abbrev entries_spread : Seen
entries_spread = plays
    (program
    (shop
    ++ more_classes
    ++ (define 17 fun' (plain_params (d' ∷ []))
    (define 18 g' (params [] None (Some kw')) (stmt_tree.give_back (Some (var kw')) ∷ [])
    ∷ stmt_tree.give_back (Some (list (primary (var g') (call_part (tree.stars (var d') ∷ []) ∷ []) ∷ []))) ∷ []) ∷ []))
    (((Item' ∷ ITEMS ∷ o' ∷ fun' ∷ Box' ∷ Bad' ∷ Plain' ∷ Len' ∷ tries' ∷ make' ∷ [], []) ∷ [])
    ++ shop_blocks
    ++ more_blocks
    ++ ((d' ∷ g' ∷ [], []) ∷ (kw' ∷ [], (d', outer 1 0) ∷ (g', outer 1 1) ∷ []) ∷ []))
    ∷ program
    (prints (called (var fun') (dict ((text (codes "a"), list (text (codes "b") ∷ [])) ∷ []) ∷ []) ∷ []) ∷ [])
    (([], []) ∷ []) ∷ [])

entries_spread-seen : entries_spread
    ≡ seen 31 (read 1 (codes "function") (codes "__call__") ∷ read 1 (codes "list") (codes "__str__") ∷ [])
    ((Some well, 999980, codes "[{'a': ['b']}]\n") ∷ [])
unfolding encode within
entries_spread-seen = refl

-- in the module:
--     def fun(d):
--         for k in d:
--             print(k)
--         for k in d:
--             d[k + 'x'] = 1
-- the script:
--     print(fun({'a': ['b']}))
abbrev dict_walked : Seen
dict_walked = plays
    (program
    (shop
    ++ more_classes
    ++ (define 17 fun' (plain_params (d' ∷ []))
    (for (to k') (var d') (prints (var k' ∷ []) ∷ [])
    ∷ for (to k') (var d')
    (stmt_tree.assign (to_item (var d') (binary Add (var k') (text (codes "x"))) ∷ []) (int 1) ∷ []) ∷ []) ∷ []))
    (((Item' ∷ ITEMS ∷ o' ∷ fun' ∷ Box' ∷ Bad' ∷ Plain' ∷ Len' ∷ tries' ∷ make' ∷ [], []) ∷ [])
    ++ shop_blocks
    ++ more_blocks
    ++ ((d' ∷ k' ∷ [], []) ∷ []))
    ∷ program
    (prints (called (var fun') (dict ((text (codes "a"), list (text (codes "b") ∷ [])) ∷ []) ∷ []) ∷ []) ∷ [])
    (([], []) ∷ []) ∷ [])

dict_walked-seen : dict_walked
    ≡ seen 13 (read 1 (codes "function") (codes "__call__") ∷ [])
    ((Some (cut_off (raises_with RuntimeError (codes "dict size"))), 999975, codes "a\n") ∷ [])
unfolding encode within
dict_walked-seen = refl

-- in the module:
--     x = 'mod'
--     def fun(a):
--         global x
--         x += a
--         del x
--         return x
-- the script:
--     print(fun('a'))
abbrev module_global : Seen
module_global = plays
    (program
    (shop
    ++ more_classes
    ++ (sets x' (text (codes "mod"))
    ∷ define 17 fun' (plain_params (a' ∷ []))
    (declares_global (x' ∷ [])
    ∷ augments (to_name x') Add (var a')
    ∷ stmt_tree.del (to_name x' ∷ [])
    ∷ stmt_tree.give_back (Some (var x')) ∷ []) ∷ []))
    (((Item' ∷ ITEMS ∷ o' ∷ fun' ∷ Box' ∷ Bad' ∷ Plain' ∷ Len' ∷ tries' ∷ make' ∷ x' ∷ [], []) ∷ [])
    ++ shop_blocks
    ++ more_blocks
    ++ ((a' ∷ [], []) ∷ []))
    ∷ program (prints (called (var fun') (text (codes "a") ∷ []) ∷ []) ∷ []) (([], []) ∷ []) ∷ [])

module_global-seen : module_global
    ≡ seen 7 (read 1 (codes "function") (codes "__call__") ∷ [])
    ((Some (cut_off (raises_with NameError (codes "x"))), 999988, []) ∷ [])
unfolding encode within
module_global-seen = refl

-- in the module:
--     def fun(a):
--         try:
--             try:
--                 raise ValueError('one')
--             except ValueError as e:
--                 try:
--                     raise KeyError('two')
--                 except KeyError:
--                     pass
--                 raise
--         except Exception as e:
--             print(e)
--         try:
--             try:
--                 raise ValueError('three')
--             finally:
--                 raise TypeError('four')
--         except TypeError as e:
--             print(e)
--         while True:
--             try:
--                 return 'r'
--             finally:
--                 break
--         return 'after'
-- the script:
--     print(fun('a'))
abbrev nested_exceptions : Seen
nested_exceptions = plays
    (program
    (shop
    ++ more_classes
    ++ (define 17 fun' (plain_params (a' ∷ []))
    (try
    (try (stmt_tree.raise (Some (called (var ValueError') (text (codes "one") ∷ []))) ∷ [])
    (handler (Some (var ValueError')) (Some e')
    (try
    (stmt_tree.raise
    (Some
    (called (var KeyError') (text (codes "two") ∷ []))) ∷ [])
    (handler (Some (var KeyError')) None (stmt_tree.pass ∷ []) ∷ []) None
    None
    ∷ stmt_tree.raise None ∷ []) ∷ []) None None ∷ [])
    (handler (Some (var Exception')) (Some e') (prints (var e' ∷ []) ∷ []) ∷ []) None None
    ∷ try
    (try (stmt_tree.raise (Some (called (var ValueError') (text (codes "three") ∷ []))) ∷ []) []
    None
    (Some
    (stmt_tree.raise (Some (called (var TypeError') (text (codes "four") ∷ []))) ∷ [])) ∷ [])
    (handler (Some (var TypeError')) (Some e') (prints (var e' ∷ []) ∷ []) ∷ []) None None
    ∷ while (truth true)
    (try (stmt_tree.give_back (Some (text (codes "r"))) ∷ []) [] None (Some (stmt_tree.break ∷ [])) ∷ [])
    ∷ stmt_tree.give_back (Some (text (codes "after"))) ∷ []) ∷ []))
    (((Item' ∷ ITEMS ∷ o' ∷ fun' ∷ Box' ∷ Bad' ∷ Plain' ∷ Len' ∷ tries' ∷ make' ∷ [], []) ∷ [])
    ++ shop_blocks
    ++ more_blocks
    ++ ((a' ∷ e' ∷ [], []) ∷ []))
    ∷ program (prints (called (var fun') (text (codes "a") ∷ []) ∷ []) ∷ []) (([], []) ∷ []) ∷ [])

nested_exceptions-seen : nested_exceptions
    ≡ seen 19 (read 1 (codes "function") (codes "__call__") ∷ [])
    ((Some well, 999950, codes "one\nfour\nafter\n") ∷ [])
unfolding encode within
nested_exceptions-seen = refl

-- in the module:
--     def fun(a):
--         x = y = [a]
--         x += 'bc'
--         y *= 2
--         t = (a,)
--         t += ('z',)
--         return [x, x == y, t, tries(lambda: t[0] + 1)]
-- the script:
--     print(fun('a'))
abbrev module_values : Seen
module_values = plays
    (program
    (shop
    ++ more_classes
    ++ (define 17 fun' (plain_params (a' ∷ []))
    (stmt_tree.assign (to_name x' ∷ to_name y' ∷ []) (list (var a' ∷ []))
    ∷ augments (to_name x') Add (text (codes "bc"))
    ∷ augments (to_name y') Mul (int 2)
    ∷ sets t' (tuple (var a' ∷ []))
    ∷ augments (to_name t') Add (tuple (text (codes "z") ∷ []))
    ∷ stmt_tree.give_back
    (Some
    (list
    (var x'
    ∷ compare (var x') ((test.Order Eq, var y') ∷ [])
    ∷ var t'
    ∷ called (var tries')
    (lambda 18 (plain_params [])
    (binary Add (item (var t') (int 0)) (int 1)) ∷ []) ∷ []))) ∷ []) ∷ []))
    (((Item' ∷ ITEMS ∷ o' ∷ fun' ∷ Box' ∷ Bad' ∷ Plain' ∷ Len' ∷ tries' ∷ make' ∷ [], []) ∷ [])
    ++ shop_blocks
    ++ more_blocks
    ++ ((a' ∷ x' ∷ y' ∷ t' ∷ [], [])
    ∷ ([], (a', outer 1 0) ∷ (t', outer 1 3) ∷ (x', outer 1 1) ∷ (y', outer 1 2) ∷ []) ∷ []))
    ∷ program (prints (called (var fun') (text (codes "a") ∷ []) ∷ []) ∷ []) (([], []) ∷ []) ∷ [])

module_values-seen : module_values
    ≡ seen 112 (read 1 (codes "function") (codes "__call__") ∷ read 1 (codes "list") (codes "__str__") ∷ [])
    ((Some well, 999942, codes "[['a', 'b', 'c', 'a', 'b', 'c'], True, ('a', 'z'), [TypeError('operand')]]\n") ∷ [])
unfolding encode within
module_values-seen = refl

-- in the module:
--     def fun(f):
--         y = f()
--         y.append('z')
--         return y
-- the script:
--     print(fun(lambda: ['a']))
abbrev script_result : Seen
script_result = plays
    (program
    (shop
    ++ more_classes
    ++ (define 17 fun' (plain_params (f' ∷ []))
    (sets y' (called (var f') [])
    ∷ stmt_tree.evaluate
    (primary (var y')
    (named_part append' ∷ call_part (tree.value (text (codes "z")) ∷ []) ∷ []))
    ∷ stmt_tree.give_back (Some (var y')) ∷ []) ∷ []))
    (((Item' ∷ ITEMS ∷ o' ∷ fun' ∷ Box' ∷ Bad' ∷ Plain' ∷ Len' ∷ tries' ∷ make' ∷ [], []) ∷ [])
    ++ shop_blocks
    ++ more_blocks
    ++ ((f' ∷ y' ∷ [], []) ∷ []))
    ∷ program
    (prints (called (var fun') (lambda 1 (plain_params []) (list (text (codes "a") ∷ [])) ∷ []) ∷ []) ∷ [])
    (([], []) ∷ ([], []) ∷ []) ∷ [])

script_result-seen : script_result
    ≡ seen 21 (read 1 (codes "function") (codes "__call__") ∷ []) ((Some well, 999980, codes "['a', 'z']\n") ∷ [])
unfolding encode within
script_result-seen = refl

-- in the module:
--     def fun(x):
--         x[0].append('z')
-- the script:
--     print(fun([['a']]))
abbrev element_of_lent : Seen
element_of_lent = plays
    (program
    (shop
    ++ more_classes
    ++ (define 17 fun' (plain_params (x' ∷ []))
    (stmt_tree.evaluate
    (primary (var x')
    (item_part (int 0)
    ∷ named_part append'
    ∷ call_part (tree.value (text (codes "z")) ∷ []) ∷ [])) ∷ []) ∷ []))
    (((Item' ∷ ITEMS ∷ o' ∷ fun' ∷ Box' ∷ Bad' ∷ Plain' ∷ Len' ∷ tries' ∷ make' ∷ [], []) ∷ [])
    ++ shop_blocks
    ++ more_blocks
    ++ ((x' ∷ [], []) ∷ []))
    ∷ program (prints (called (var fun') (list (list (text (codes "a") ∷ []) ∷ []) ∷ []) ∷ []) ∷ []) (([], []) ∷ []) ∷ [])

element_of_lent-seen : element_of_lent
    ≡ seen 14 (read 1 (codes "function") (codes "__call__") ∷ []) ((Some well, 999985, codes "None\n") ∷ [])
unfolding encode within
element_of_lent-seen = refl

-- in the module:
--     def fun(x):
--         x[0:1].append('z')
-- the script:
--     print(fun([['a']]))
abbrev first_of_lent : Seen
first_of_lent = plays
    (program
    (shop
    ++ more_classes
    ++ (define 17 fun' (plain_params (x' ∷ []))
    (stmt_tree.evaluate
    (primary (var x')
    (slice_part (tree.some (int 0)) (tree.some (int 1)) tree.none
    ∷ named_part append'
    ∷ call_part (tree.value (text (codes "z")) ∷ []) ∷ [])) ∷ []) ∷ []))
    (((Item' ∷ ITEMS ∷ o' ∷ fun' ∷ Box' ∷ Bad' ∷ Plain' ∷ Len' ∷ tries' ∷ make' ∷ [], []) ∷ [])
    ++ shop_blocks
    ++ more_blocks
    ++ ((x' ∷ [], []) ∷ []))
    ∷ program (prints (called (var fun') (list (list (text (codes "a") ∷ []) ∷ []) ∷ []) ∷ []) ∷ []) (([], []) ∷ []) ∷ [])

first_of_lent-seen : first_of_lent
    ≡ seen 16 (read 1 (codes "function") (codes "__call__") ∷ []) ((Some well, 999984, codes "None\n") ∷ [])
unfolding encode within
first_of_lent-seen = refl

-- in the module:
--     def fun(x):
--         for y in x:
--             y.append('z')
-- the script:
--     print(fun([['a']]))
abbrev walked_lent : Seen
walked_lent = plays
    (program
    (shop
    ++ more_classes
    ++ (define 17 fun' (plain_params (x' ∷ []))
    (for (to y') (var x')
    (stmt_tree.evaluate
    (primary (var y')
    (named_part append' ∷ call_part (tree.value (text (codes "z")) ∷ []) ∷ [])) ∷ []) ∷ []) ∷ []))
    (((Item' ∷ ITEMS ∷ o' ∷ fun' ∷ Box' ∷ Bad' ∷ Plain' ∷ Len' ∷ tries' ∷ make' ∷ [], []) ∷ [])
    ++ shop_blocks
    ++ more_blocks
    ++ ((x' ∷ y' ∷ [], []) ∷ []))
    ∷ program (prints (called (var fun') (list (list (text (codes "a") ∷ []) ∷ []) ∷ []) ∷ []) ∷ []) (([], []) ∷ []) ∷ [])

walked_lent-seen : walked_lent
    ≡ seen 15 (read 1 (codes "function") (codes "__call__") ∷ []) ((Some well, 999984, codes "None\n") ∷ [])
unfolding encode within
walked_lent-seen = refl

-- in the module:
--     def fun(**k):
--         k['a'].append('z')
-- the script:
--     print(fun(**{'a': ['a']}))
abbrev argument_by_name : Seen
argument_by_name = plays
    (program
    (shop
    ++ more_classes
    ++ (define 17 fun' (params [] None (Some k'))
    (stmt_tree.evaluate
    (primary (var k')
    (item_part (text (codes "a"))
    ∷ named_part append'
    ∷ call_part (tree.value (text (codes "z")) ∷ []) ∷ [])) ∷ []) ∷ []))
    (((Item' ∷ ITEMS ∷ o' ∷ fun' ∷ Box' ∷ Bad' ∷ Plain' ∷ Len' ∷ tries' ∷ make' ∷ [], []) ∷ [])
    ++ shop_blocks
    ++ more_blocks
    ++ ((k' ∷ [], []) ∷ []))
    ∷ program
    (prints
    (primary (var fun')
    (call_part (tree.stars (dict ((text (codes "a"), list (text (codes "a") ∷ [])) ∷ [])) ∷ []) ∷ []) ∷ []) ∷ [])
    (([], []) ∷ []) ∷ [])

argument_by_name-seen : argument_by_name
    ≡ seen 16 (read 1 (codes "function") (codes "__call__") ∷ []) ((Some well, 999984, codes "None\n") ∷ [])
unfolding encode within
argument_by_name-seen = refl
