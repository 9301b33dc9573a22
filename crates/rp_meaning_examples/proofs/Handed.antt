-- What comes back out of lent objects in trusted code, and sessions that take turns.
use Rattle.std.proofs.Common.{◌≡◌, [], ◌∷◌, ◌++◌, codes, Some, None, refl}
use lib.Utf8.{encode}
use Rattle.rp_base.specs.declared.word.TheConstants.{ITEMS}
use Rattle.rp_base.specs.declared.kind.Kind.TheVariants.{Unauthorized, ForbiddenAttribute}
use Rattle.rp_base.specs.declared.operator.BinOp.TheVariants.{Add}
use Rattle.rp_base.specs.declared.operator.CmpOp.TheVariants.{Eq}
use Rattle.rp_compare.specs.Equality.{within}
use Rattle.rp_tree.specs.declared.parts.Test.TheVariants as test
use Rattle.rp_tree.specs.Expressions as tree
use Rattle.rp_tree.specs.Statements as stmt_tree
use Rattle.rp_meaning.specs.Scopes.{outer}
use Rattle.rp_meaning.specs.Sessions.{well, cut_off}
use Rattle.rp_meaning_examples.proofs.Building.{var, int, text, list, dict, compare, binary, named_part, item_part, slice_part, call_part, primary, attribute, called, to, to_attribute, group, params, plain_params, lambda, clause, list_of, sets, prints, unpacks, for, define, class}
use Rattle.rp_meaning_examples.proofs.Playing.{Seen, seen, read, not_read, set, plays, played, program, raises_with}
use Rattle.rp_meaning_examples.proofs.Shop.{shop, shop_blocks, shop_module, more_classes, more_blocks}
use Rattle.rp_meaning_examples.proofs.Words.{Bad', Box', Item', Late', Len', Plain', a', append', b', f', fun', getattr', k', l', len', make', n', o', print', removeSecurityProxy', s', self', tries', x', y', zz'}

-- print('one')
-- o.n = ['shared']
-- print('two', o.n[0])
--
-- print('q')
-- x = 1
-- print(len(o) == 3)
-- print(o.n)
--
-- (an empty script)
abbrev three_sessions : Seen
three_sessions = played
    (shop_module
    ∷ program
    (prints (text (codes "one") ∷ [])
    ∷ stmt_tree.assign (to_attribute (var o') n' ∷ []) (list (text (codes "shared") ∷ []))
    ∷ prints (text (codes "two") ∷ primary (var o') (named_part n' ∷ item_part (int 0) ∷ []) ∷ []) ∷ [])
    (([], []) ∷ [])
    ∷ program
    (prints (text (codes "q") ∷ [])
    ∷ sets x' (int 1)
    ∷ prints (compare (called (var len') (var o' ∷ [])) ((test.Order Eq, int 3) ∷ []) ∷ [])
    ∷ prints (attribute (var o') n' ∷ []) ∷ [])
    ((x' ∷ [], []) ∷ [])
    ∷ program [] (([], []) ∷ []) ∷ []) (codes "p" ∷ codes "q" ∷ codes "p" ∷ []) 100000 1000000 (2 ∷ 1 ∷ 1 ∷ 2 ∷ 2 ∷ [])

three_sessions-seen : three_sessions
    ≡ seen 30
    (set 1 (codes "Item") (codes "n")
    ∷ read 2 (codes "Item") (codes "__len__")
    ∷ read 1 (codes "Item") (codes "n")
    ∷ not_read 2 (codes "Item") (codes "n") ∷ [])
    ((Some well, 999984, codes "one\ntwo shared\n")
    ∷ (Some (cut_off (raises_with Unauthorized (codes "zope.View"))), 999976, codes "q\nTrue\n")
    ∷ (Some well, 1000000, []) ∷ [])
unfolding encode within
three_sessions-seen = refl

-- in the module:
--     class Late:
--         def a(self, f=lambda: 'one'):
--             return f()
--         'text'
--         def b(self, f=lambda: (lambda: 'two')()):
--             return f() + self.a()
--     def fun(x):
--         l = Late()
--         return [l.a(), l.b(lambda: x), (lambda: l.b())()]
-- the script:
--     print(fun('a'))
abbrev methods_with_defaults : Seen
methods_with_defaults = plays
    (program
    (shop
    ++ more_classes
    ++ (class Late'
    (define 17 a'
    (params
    ((self', None)
    ∷ (f', Some (lambda 18 (plain_params []) (text (codes "one")))) ∷ []) None None)
    (stmt_tree.give_back (Some (called (var f') [])) ∷ [])
    ∷ stmt_tree.evaluate (text (codes "text"))
    ∷ define 19 b'
    (params
    ((self', None)
    ∷ (
      f',
      Some
          (lambda 20 (plain_params [])
          (called (lambda 21 (plain_params []) (text (codes "two"))) [])),
    ) ∷ [])
    None None)
    (stmt_tree.give_back
    (Some
    (binary Add (called (var f') [])
    (primary (var self') (named_part a' ∷ call_part [] ∷ [])))) ∷ []) ∷ [])
    ∷ define 22 fun' (plain_params (x' ∷ []))
    (sets l' (called (var Late') [])
    ∷ stmt_tree.give_back
    (Some
    (list
    (primary (var l') (named_part a' ∷ call_part [] ∷ [])
    ∷ primary (var l')
    (named_part b'
    ∷ call_part (tree.value (lambda 23 (plain_params []) (var x')) ∷ []) ∷ [])
    ∷ called
    (lambda 24 (plain_params [])
    (primary (var l') (named_part b' ∷ call_part [] ∷ []))) [] ∷ []))) ∷ []) ∷ []))
    (((Item' ∷ ITEMS ∷ o' ∷ fun' ∷ Box' ∷ Bad' ∷ Plain' ∷ Len' ∷ tries' ∷ make' ∷ Late' ∷ [], []) ∷ [])
    ++ shop_blocks
    ++ more_blocks
    ++ ((self' ∷ f' ∷ [], [])
    ∷ ([], [])
    ∷ (self' ∷ f' ∷ [], [])
    ∷ ([], [])
    ∷ ([], [])
    ∷ (x' ∷ l' ∷ [], [])
    ∷ ([], (l', outer 1 1) ∷ (x', outer 1 0) ∷ [])
    ∷ ([], (l', outer 1 1) ∷ (x', outer 1 0) ∷ []) ∷ []))
    ∷ program (prints (called (var fun') (text (codes "a") ∷ []) ∷ []) ∷ []) (([], []) ∷ []) ∷ [])

methods_with_defaults-seen : methods_with_defaults
    ≡ seen 76 (read 1 (codes "function") (codes "__call__") ∷ read 1 (codes "list") (codes "__str__") ∷ [])
    ((Some well, 999944, codes "['one', 'aone', 'twoone']\n") ∷ [])
unfolding encode within
methods_with_defaults-seen = refl

-- in the module:
--     def fun(x):
--         y = x(lambda s: ['l'])
--         y.append('z')
-- the script:
--     print(fun(o))
abbrev instance_called : Seen
instance_called = plays
    (program
    (shop
    ++ more_classes
    ++ (define 17 fun' (plain_params (x' ∷ []))
    (sets y'
    (called (var x')
    (lambda 18 (plain_params (s' ∷ [])) (list (text (codes "l") ∷ [])) ∷ []))
    ∷ stmt_tree.evaluate
    (primary (var y')
    (named_part append' ∷ call_part (tree.value (text (codes "z")) ∷ []) ∷ [])) ∷ []) ∷ []))
    (((Item' ∷ ITEMS ∷ o' ∷ fun' ∷ Box' ∷ Bad' ∷ Plain' ∷ Len' ∷ tries' ∷ make' ∷ [], []) ∷ [])
    ++ shop_blocks
    ++ more_blocks
    ++ ((x' ∷ y' ∷ [], []) ∷ (s' ∷ [], (x', outer 1 0) ∷ (y', outer 1 1) ∷ []) ∷ []))
    ∷ program (prints (called (var fun') (var o' ∷ []) ∷ []) ∷ []) (([], []) ∷ []) ∷ [])

instance_called-seen : instance_called
    ≡ seen 14
    (read 1 (codes "function") (codes "__call__")
    ∷ read 1 (codes "Item") (codes "__call__")
    ∷ not_read 1 (codes "list") (codes "append") ∷ [])
    ((Some (cut_off (raises_with ForbiddenAttribute (codes "append"))), 999981, []) ∷ [])
unfolding encode within
instance_called-seen = refl

-- in the module:
--     items.n = [['a'], ['b']]
--     def fun(x):
--         x.n[0].append('z')
-- the script:
--     print(fun(items))
abbrev item_of_lent : Seen
item_of_lent = plays
    (program
    (shop
    ++ more_classes
    ++ (stmt_tree.assign (to_attribute (var ITEMS) n' ∷ [])
    (list (list (text (codes "a") ∷ []) ∷ list (text (codes "b") ∷ []) ∷ []))
    ∷ define 17 fun' (plain_params (x' ∷ []))
    (stmt_tree.evaluate
    (primary (var x')
    (named_part n'
    ∷ item_part (int 0)
    ∷ named_part append'
    ∷ call_part (tree.value (text (codes "z")) ∷ []) ∷ [])) ∷ []) ∷ []))
    (((Item' ∷ ITEMS ∷ o' ∷ fun' ∷ Box' ∷ Bad' ∷ Plain' ∷ Len' ∷ tries' ∷ make' ∷ [], []) ∷ [])
    ++ shop_blocks
    ++ more_blocks
    ++ ((x' ∷ [], []) ∷ []))
    ∷ program (prints (called (var fun') (var ITEMS ∷ []) ∷ []) ∷ []) (([], []) ∷ []) ∷ [])

item_of_lent-seen : item_of_lent
    ≡ seen 6
    (read 1 (codes "function") (codes "__call__")
    ∷ read 1 (codes "Item") (codes "n")
    ∷ read 1 (codes "list") (codes "__getitem__")
    ∷ not_read 1 (codes "list") (codes "append") ∷ [])
    ((Some (cut_off (raises_with ForbiddenAttribute (codes "append"))), 999988, []) ∷ [])
unfolding encode within
item_of_lent-seen = refl

-- in the module:
--     items.n = [['a'], ['b']]
--     def fun(x):
--         x.n[0:1].append('z')
-- the script:
--     print(fun(items))
abbrev slice_of_lent : Seen
slice_of_lent = plays
    (program
    (shop
    ++ more_classes
    ++ (stmt_tree.assign (to_attribute (var ITEMS) n' ∷ [])
    (list (list (text (codes "a") ∷ []) ∷ list (text (codes "b") ∷ []) ∷ []))
    ∷ define 17 fun' (plain_params (x' ∷ []))
    (stmt_tree.evaluate
    (primary (var x')
    (named_part n'
    ∷ slice_part (tree.some (int 0)) (tree.some (int 1)) tree.none
    ∷ named_part append'
    ∷ call_part (tree.value (text (codes "z")) ∷ []) ∷ [])) ∷ []) ∷ []))
    (((Item' ∷ ITEMS ∷ o' ∷ fun' ∷ Box' ∷ Bad' ∷ Plain' ∷ Len' ∷ tries' ∷ make' ∷ [], []) ∷ [])
    ++ shop_blocks
    ++ more_blocks
    ++ ((x' ∷ [], []) ∷ []))
    ∷ program (prints (called (var fun') (var ITEMS ∷ []) ∷ []) ∷ []) (([], []) ∷ []) ∷ [])

slice_of_lent-seen : slice_of_lent
    ≡ seen 8
    (read 1 (codes "function") (codes "__call__")
    ∷ read 1 (codes "Item") (codes "n")
    ∷ read 1 (codes "list") (codes "__getitem__")
    ∷ not_read 1 (codes "list") (codes "append") ∷ [])
    ((Some (cut_off (raises_with ForbiddenAttribute (codes "append"))), 999987, []) ∷ [])
unfolding encode within
slice_of_lent-seen = refl

-- in the module:
--     items.n = [['a'], ['b']]
--     def fun(x):
--         for y in x.n:
--             y.append('z')
-- the script:
--     print(fun(items))
abbrev walk_of_lent : Seen
walk_of_lent = plays
    (program
    (shop
    ++ more_classes
    ++ (stmt_tree.assign (to_attribute (var ITEMS) n' ∷ [])
    (list (list (text (codes "a") ∷ []) ∷ list (text (codes "b") ∷ []) ∷ []))
    ∷ define 17 fun' (plain_params (x' ∷ []))
    (for (to y') (attribute (var x') n')
    (stmt_tree.evaluate
    (primary (var y')
    (named_part append' ∷ call_part (tree.value (text (codes "z")) ∷ []) ∷ [])) ∷ []) ∷ []) ∷ []))
    (((Item' ∷ ITEMS ∷ o' ∷ fun' ∷ Box' ∷ Bad' ∷ Plain' ∷ Len' ∷ tries' ∷ make' ∷ [], []) ∷ [])
    ++ shop_blocks
    ++ more_blocks
    ++ ((x' ∷ y' ∷ [], []) ∷ []))
    ∷ program (prints (called (var fun') (var ITEMS ∷ []) ∷ []) ∷ []) (([], []) ∷ []) ∷ [])

walk_of_lent-seen : walk_of_lent
    ≡ seen 7
    (read 1 (codes "function") (codes "__call__")
    ∷ read 1 (codes "Item") (codes "n")
    ∷ read 1 (codes "list") (codes "__iter__")
    ∷ not_read 1 (codes "list") (codes "append") ∷ [])
    ((Some (cut_off (raises_with ForbiddenAttribute (codes "append"))), 999987, []) ∷ [])
unfolding encode within
walk_of_lent-seen = refl

-- in the module:
--     items.n = [['a'], ['b']]
--     def fun(x):
--         a, b = x.n
--         a.append('z')
-- the script:
--     print(fun(items))
abbrev unpacked_lent : Seen
unpacked_lent = plays
    (program
    (shop
    ++ more_classes
    ++ (stmt_tree.assign (to_attribute (var ITEMS) n' ∷ [])
    (list (list (text (codes "a") ∷ []) ∷ list (text (codes "b") ∷ []) ∷ []))
    ∷ define 17 fun' (plain_params (x' ∷ []))
    (unpacks (group (to a' ∷ to b' ∷ [])) (attribute (var x') n')
    ∷ stmt_tree.evaluate
    (primary (var a')
    (named_part append' ∷ call_part (tree.value (text (codes "z")) ∷ []) ∷ [])) ∷ []) ∷ []))
    (((Item' ∷ ITEMS ∷ o' ∷ fun' ∷ Box' ∷ Bad' ∷ Plain' ∷ Len' ∷ tries' ∷ make' ∷ [], []) ∷ [])
    ++ shop_blocks
    ++ more_blocks
    ++ ((x' ∷ a' ∷ b' ∷ [], []) ∷ []))
    ∷ program (prints (called (var fun') (var ITEMS ∷ []) ∷ []) ∷ []) (([], []) ∷ []) ∷ [])

unpacked_lent-seen : unpacked_lent
    ≡ seen 8
    (read 1 (codes "function") (codes "__call__")
    ∷ read 1 (codes "Item") (codes "n")
    ∷ read 1 (codes "list") (codes "__iter__")
    ∷ not_read 1 (codes "list") (codes "append") ∷ [])
    ((Some (cut_off (raises_with ForbiddenAttribute (codes "append"))), 999986, []) ∷ [])
unfolding encode within
unpacked_lent-seen = refl

-- in the module:
--     items.n = [['a'], ['b']]
--     def fun(x):
--         return [[y for y in x.n], (lambda *a: a)(*x.n)[0].append('z')]
-- the script:
--     print(fun(items))
abbrev spread_lent : Seen
spread_lent = plays
    (program
    (shop
    ++ more_classes
    ++ (stmt_tree.assign (to_attribute (var ITEMS) n' ∷ [])
    (list (list (text (codes "a") ∷ []) ∷ list (text (codes "b") ∷ []) ∷ []))
    ∷ define 17 fun' (plain_params (x' ∷ []))
    (stmt_tree.give_back
    (Some
    (list
    (list_of 18 (var y') (clause (to y') (attribute (var x') n') [] ∷ [])
    ∷ primary (lambda 19 (params [] (Some a') None) (var a'))
    (call_part (tree.star (attribute (var x') n') ∷ [])
    ∷ item_part (int 0)
    ∷ named_part append'
    ∷ call_part (tree.value (text (codes "z")) ∷ []) ∷ []) ∷ []))) ∷ []) ∷ []))
    (((Item' ∷ ITEMS ∷ o' ∷ fun' ∷ Box' ∷ Bad' ∷ Plain' ∷ Len' ∷ tries' ∷ make' ∷ [], []) ∷ [])
    ++ shop_blocks
    ++ more_blocks
    ++ ((x' ∷ [], []) ∷ (y' ∷ [], (x', outer 1 0) ∷ []) ∷ (a' ∷ [], (x', outer 1 0) ∷ []) ∷ []))
    ∷ program (prints (called (var fun') (var ITEMS ∷ []) ∷ []) ∷ []) (([], []) ∷ []) ∷ [])

spread_lent-seen : spread_lent
    ≡ seen 19
    (read 1 (codes "function") (codes "__call__")
    ∷ read 1 (codes "Item") (codes "n")
    ∷ read 1 (codes "list") (codes "__iter__")
    ∷ read 1 (codes "Item") (codes "n")
    ∷ read 1 (codes "list") (codes "__iter__")
    ∷ not_read 1 (codes "list") (codes "append") ∷ [])
    ((Some (cut_off (raises_with ForbiddenAttribute (codes "append"))), 999975, []) ∷ [])
unfolding encode within
spread_lent-seen = refl

-- in the module:
--     items.n = {'a': ['b']}
--     def fun(x):
--         return (lambda **k: k['a'].append('z'))(**x.n)
-- the script:
--     print(fun(items))
abbrev entries_of_lent : Seen
entries_of_lent = plays
    (program
    (shop
    ++ more_classes
    ++ (stmt_tree.assign (to_attribute (var ITEMS) n' ∷ [])
    (dict ((text (codes "a"), list (text (codes "b") ∷ [])) ∷ []))
    ∷ define 17 fun' (plain_params (x' ∷ []))
    (stmt_tree.give_back
    (Some
    (primary
    (lambda 18 (params [] None (Some k'))
    (primary (var k')
    (item_part (text (codes "a"))
    ∷ named_part append'
    ∷ call_part (tree.value (text (codes "z")) ∷ []) ∷ [])))
    (call_part (tree.stars (attribute (var x') n') ∷ []) ∷ []))) ∷ []) ∷ []))
    (((Item' ∷ ITEMS ∷ o' ∷ fun' ∷ Box' ∷ Bad' ∷ Plain' ∷ Len' ∷ tries' ∷ make' ∷ [], []) ∷ [])
    ++ shop_blocks
    ++ more_blocks
    ++ ((x' ∷ [], []) ∷ (k' ∷ [], (x', outer 1 0) ∷ []) ∷ []))
    ∷ program (prints (called (var fun') (var ITEMS ∷ []) ∷ []) ∷ []) (([], []) ∷ []) ∷ [])

entries_of_lent-seen : entries_of_lent
    ≡ seen 11
    (read 1 (codes "function") (codes "__call__")
    ∷ read 1 (codes "Item") (codes "n")
    ∷ read 1 (codes "dict") (codes "items")
    ∷ not_read 1 (codes "list") (codes "append") ∷ [])
    ((Some (cut_off (raises_with ForbiddenAttribute (codes "append"))), 999985, []) ∷ [])
unfolding encode within
entries_of_lent-seen = refl

-- in the module:
--     items.n = [['a'], ['b']]
--     def fun(x):
--         y = removeSecurityProxy(x)
--         y.n[0].append('z')
--         return y.n
-- the script:
--     print(fun(items))
abbrev freed : Seen
freed = plays
    (program
    (shop
    ++ more_classes
    ++ (stmt_tree.assign (to_attribute (var ITEMS) n' ∷ [])
    (list (list (text (codes "a") ∷ []) ∷ list (text (codes "b") ∷ []) ∷ []))
    ∷ define 17 fun' (plain_params (x' ∷ []))
    (sets y' (called (var removeSecurityProxy') (var x' ∷ []))
    ∷ stmt_tree.evaluate
    (primary (var y')
    (named_part n'
    ∷ item_part (int 0)
    ∷ named_part append'
    ∷ call_part (tree.value (text (codes "z")) ∷ []) ∷ []))
    ∷ stmt_tree.give_back (Some (attribute (var y') n')) ∷ []) ∷ []))
    (((Item' ∷ ITEMS ∷ o' ∷ fun' ∷ Box' ∷ Bad' ∷ Plain' ∷ Len' ∷ tries' ∷ make' ∷ [], []) ∷ [])
    ++ shop_blocks
    ++ more_blocks
    ++ ((x' ∷ y' ∷ [], []) ∷ []))
    ∷ program (prints (called (var fun') (var ITEMS ∷ []) ∷ []) ∷ []) (([], []) ∷ []) ∷ [])

freed-seen : freed
    ≡ seen 27 (read 1 (codes "function") (codes "__call__") ∷ read 1 (codes "list") (codes "__str__") ∷ [])
    ((Some well, 999974, codes "[['a', 'z'], ['b']]\n") ∷ [])
unfolding encode within
freed-seen = refl

-- in the module:
--     items.n = [['a'], ['b']]
--     def fun(x):
--         return [tries(lambda: x.n + [1]), tries(lambda: x.zz), getattr(x, 'zz', ['d']).append('e')]
-- the script:
--     print(fun(items))
abbrev default_not_lent : Seen
default_not_lent = plays
    (program
    (shop
    ++ more_classes
    ++ (stmt_tree.assign (to_attribute (var ITEMS) n' ∷ [])
    (list (list (text (codes "a") ∷ []) ∷ list (text (codes "b") ∷ []) ∷ []))
    ∷ define 17 fun' (plain_params (x' ∷ []))
    (stmt_tree.give_back
    (Some
    (list
    (called (var tries')
    (lambda 18 (plain_params [])
    (binary Add (attribute (var x') n') (list (int 1 ∷ []))) ∷ [])
    ∷ called (var tries')
    (lambda 19 (plain_params []) (attribute (var x') zz') ∷ [])
    ∷ primary (var getattr')
    (call_part
    (tree.value (var x')
    ∷ tree.value (text (codes "zz"))
    ∷ tree.value (list (text (codes "d") ∷ [])) ∷ [])
    ∷ named_part append'
    ∷ call_part (tree.value (text (codes "e")) ∷ []) ∷ []) ∷ []))) ∷ []) ∷ []))
    (((Item' ∷ ITEMS ∷ o' ∷ fun' ∷ Box' ∷ Bad' ∷ Plain' ∷ Len' ∷ tries' ∷ make' ∷ [], []) ∷ [])
    ++ shop_blocks
    ++ more_blocks
    ++ ((x' ∷ [], []) ∷ ([], (x', outer 1 0) ∷ []) ∷ ([], (x', outer 1 0) ∷ []) ∷ []))
    ∷ program (prints (called (var fun') (var ITEMS ∷ []) ∷ []) ∷ []) (([], []) ∷ []) ∷ [])

default_not_lent-seen : default_not_lent
    ≡ seen 104
    (read 1 (codes "function") (codes "__call__")
    ∷ read 1 (codes "Item") (codes "n")
    ∷ not_read 1 (codes "list") (codes "__add__")
    ∷ not_read 1 (codes "Item") (codes "zz")
    ∷ not_read 1 (codes "Item") (codes "zz")
    ∷ read 1 (codes "list") (codes "__str__") ∷ [])
    ((Some well, 999947, codes "[[ForbiddenAttribute('__add__')], [ForbiddenAttribute('zz')], None]\n") ∷ [])
unfolding encode within
default_not_lent-seen = refl

-- print(*fun(['m'])[0:1])
abbrev slice_spread : Seen
slice_spread = plays
    (shop_module
    ∷ program
    (stmt_tree.evaluate
    (primary (var print')
    (call_part
    (tree.star
    (primary (var fun')
    (call_part (tree.value (list (text (codes "m") ∷ [])) ∷ [])
    ∷ slice_part (tree.some (int 0)) (tree.some (int 1)) tree.none ∷ [])) ∷ []) ∷ [])) ∷ [])
    (([], []) ∷ []) ∷ [])

slice_spread-seen : slice_spread
    ≡ seen 25
    (read 1 (codes "function") (codes "__call__")
    ∷ read 1 (codes "list") (codes "__getitem__")
    ∷ read 1 (codes "list") (codes "__iter__") ∷ []) ((Some well, 999982, codes "['m']\n") ∷ [])
unfolding encode within
slice_spread-seen = refl

-- o.n = ['p']
-- print(items.n)
--
-- print(len(o) == 3)
-- print(o.n)
abbrev two_sessions : Seen
two_sessions = played
    (shop_module
    ∷ program
    (stmt_tree.assign (to_attribute (var o') n' ∷ []) (list (text (codes "p") ∷ []))
    ∷ prints (attribute (var ITEMS) n' ∷ []) ∷ [])
    (([], []) ∷ [])
    ∷ program
    (prints (compare (called (var len') (var o' ∷ [])) ((test.Order Eq, int 3) ∷ []) ∷ [])
    ∷ prints (attribute (var o') n' ∷ []) ∷ [])
    (([], []) ∷ []) ∷ []) (codes "p" ∷ codes "q" ∷ []) 100000 1000000 (1 ∷ 2 ∷ 1 ∷ 2 ∷ [])

two_sessions-seen : two_sessions
    ≡ seen 19
    (set 1 (codes "Item") (codes "n")
    ∷ read 2 (codes "Item") (codes "__len__")
    ∷ read 1 (codes "Item") (codes "n")
    ∷ not_read 2 (codes "Item") (codes "n") ∷ [])
    ((Some well, 999991, codes "seven\n")
    ∷ (Some (cut_off (raises_with Unauthorized (codes "zope.View"))), 999982, codes "True\n") ∷ [])
unfolding encode within
two_sessions-seen = refl
