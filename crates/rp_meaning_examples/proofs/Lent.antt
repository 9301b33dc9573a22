-- What a script does through references that it was lent: each operation is decided, and has its entry.
use Rattle.std.proofs.Common.{◌≡◌, [], ◌∷◌, codes, Some, None, refl}
use lib.Utf8.{encode}
use Rattle.rp_base.specs.declared.word.TheConstants.{ITEMS}
use Rattle.rp_base.specs.declared.kind.Kind.TheVariants.{TypeError, Unauthorized, ForbiddenAttribute}
use Rattle.rp_base.specs.declared.operator.BinOp.TheVariants.{Add, Mul}
use Rattle.rp_base.specs.declared.operator.CmpOp.TheVariants.{Eq}
use Rattle.rp_base.specs.declared.operator.UnOp.TheVariants.{Neg}
use Rattle.rp_compare.specs.Equality.{within}
use Rattle.rp_tree.specs.declared.parts.Test.TheVariants as test
use Rattle.rp_tree.specs.Expressions as tree
use Rattle.rp_tree.specs.Statements as stmt_tree
use Rattle.rp_meaning.specs.Sessions.{well, cut_off}
use Rattle.rp_meaning_examples.proofs.Building.{var, int, text, nil, tuple, list, dict, negated, compare, binary, unary, named_part, item_part, slice_part, call_part, primary, attribute, item, called, to_name, to, to_attribute, to_item, group, plain_params, lambda, sets, prints, unpacks, augments, for, handler, try}
use Rattle.rp_meaning_examples.proofs.Playing.{Seen, seen, read, not_read, set, not_set, plays, played, program, raises_with}
use Rattle.rp_meaning_examples.proofs.Shop.{shop_module}
use Rattle.rp_meaning_examples.proofs.Words.{Item', Unauthorized', a', append', b', bool', c', class_', e', f', fun', getattr', i', k', len', m', n', o', part', print', q', r', s', setattr', str', total', x', y', z'}

-- print(o.n, o.total(), o[0], o[-1])
-- print('a' in o, 'z' in o)
-- print(len(o) == 3)
abbrev special_methods : Seen
special_methods = plays
    (shop_module
    ∷ program
    (prints
    (attribute (var o') n'
    ∷ primary (var o') (named_part total' ∷ call_part [] ∷ [])
    ∷ item (var o') (int 0)
    ∷ item (var o') (unary Neg (int 1)) ∷ [])
    ∷ prints
    (compare (text (codes "a")) ((test.Within, var o') ∷ [])
    ∷ compare (text (codes "z")) ((test.Within, var o') ∷ []) ∷ [])
    ∷ prints (compare (called (var len') (var o' ∷ [])) ((test.Order Eq, int 3) ∷ []) ∷ []) ∷ [])
    (([], []) ∷ []) ∷ [])

special_methods-seen : special_methods
    ≡ seen 64
    (read 1 (codes "Item") (codes "n")
    ∷ read 1 (codes "Item") (codes "total")
    ∷ read 1 (codes "method") (codes "__call__")
    ∷ read 1 (codes "Item") (codes "__getitem__")
    ∷ read 1 (codes "Item") (codes "__getitem__")
    ∷ read 1 (codes "Item") (codes "__contains__")
    ∷ read 1 (codes "Item") (codes "__contains__")
    ∷ read 1 (codes "Item") (codes "__len__") ∷ [])
    ((Some well, 999934, codes "seven seven! a c\nTrue False\nTrue\n") ∷ [])
unfolding encode within
special_methods-seen = refl

-- try:
--     print(o.n)
-- except Unauthorized as e:
--     print('no', e)
-- print(getattr(o, 'm', 'default'))
-- print(getattr(o, 'zz', 'default'))
abbrev refused_read : Seen
refused_read = played
    (shop_module
    ∷ program
    (try (prints (attribute (var o') n' ∷ []) ∷ [])
    (handler (Some (var Unauthorized')) (Some e') (prints (text (codes "no") ∷ var e' ∷ []) ∷ []) ∷ [])
    None None
    ∷ prints (called (var getattr') (var o' ∷ text (codes "m") ∷ text (codes "default") ∷ []) ∷ [])
    ∷ prints (called (var getattr') (var o' ∷ text (codes "zz") ∷ text (codes "default") ∷ []) ∷ []) ∷ [])
    ((e' ∷ [], []) ∷ []) ∷ []) (codes "q" ∷ []) 100000 1000000 []

refused_read-seen : refused_read
    ≡ seen 15 (not_read 1 (codes "Item") (codes "n") ∷ not_read 1 (codes "Item") (codes "m") ∷ [])
    ((Some (cut_off (raises_with Unauthorized (codes "secret"))), 999980, codes "no zope.View\n") ∷ [])
unfolding encode within
refused_read-seen = refl

-- x = fun(*['a', 'b'], *('c',), k='v', **{'w': 'z'})
-- print(x[0], x[1], x[2], x[3])
-- for a in x:
--     print(a)
abbrev spread_arguments : Seen
spread_arguments = plays
    (shop_module
    ∷ program
    (sets x'
    (primary (var fun')
    (call_part
    (tree.star (list (text (codes "a") ∷ text (codes "b") ∷ []))
    ∷ tree.star (tuple (text (codes "c") ∷ []))
    ∷ tree.key k' (text (codes "v"))
    ∷ tree.stars (dict ((text (codes "w"), text (codes "z")) ∷ [])) ∷ []) ∷ []))
    ∷ prints (item (var x') (int 0) ∷ item (var x') (int 1) ∷ item (var x') (int 2) ∷ item (var x') (int 3) ∷ [])
    ∷ for (to a') (var x') (prints (var a' ∷ []) ∷ []) ∷ [])
    ((x' ∷ a' ∷ [], []) ∷ []) ∷ [])

spread_arguments-seen : spread_arguments
    ≡ seen 96
    (read 1 (codes "function") (codes "__call__")
    ∷ read 1 (codes "list") (codes "__getitem__")
    ∷ read 1 (codes "list") (codes "__getitem__")
    ∷ read 1 (codes "list") (codes "__getitem__")
    ∷ read 1 (codes "list") (codes "__getitem__")
    ∷ read 1 (codes "tuple") (codes "__str__")
    ∷ read 1 (codes "dict") (codes "__str__")
    ∷ read 1 (codes "list") (codes "__iter__")
    ∷ read 1 (codes "tuple") (codes "__str__")
    ∷ read 1 (codes "dict") (codes "__str__") ∷ [])
    ((Some well, 999936, codes "a b ('c',) {'k': 'v', 'w': 'z'}\na\nb\n('c',)\n{'k': 'v', 'w': 'z'}\n") ∷ [])
unfolding encode within
spread_arguments-seen = refl

-- i = Item('new')
abbrev class_called : Seen
class_called = plays
    (shop_module
    ∷ program (sets i' (called (var Item') (text (codes "new") ∷ [])) ∷ []) ((i' ∷ [], []) ∷ []) ∷ [])

class_called-seen : class_called
    ≡ seen 1 (not_read 1 (codes "class") (codes "__call__") ∷ [])
    ((Some (cut_off (raises_with ForbiddenAttribute (codes "__call__"))), 999996, []) ∷ [])
unfolding encode within
class_called-seen = refl

-- x = o.total
-- print(x())
-- print(o(lambda s: s.n))
-- o.n = 'stored'
-- print(o.n)
-- print(o.m)
abbrev methods : Seen
methods = plays
    (shop_module
    ∷ program
    (sets x' (attribute (var o') total')
    ∷ prints (called (var x') [] ∷ [])
    ∷ prints (called (var o') (lambda 1 (plain_params (s' ∷ [])) (attribute (var s') n') ∷ []) ∷ [])
    ∷ stmt_tree.assign (to_attribute (var o') n' ∷ []) (text (codes "stored"))
    ∷ prints (attribute (var o') n' ∷ [])
    ∷ prints (attribute (var o') m' ∷ []) ∷ [])
    ((x' ∷ [], []) ∷ (s' ∷ [], []) ∷ []) ∷ [])

methods-seen : methods
    ≡ seen 42
    (read 1 (codes "Item") (codes "total")
    ∷ read 1 (codes "method") (codes "__call__")
    ∷ read 1 (codes "Item") (codes "__call__")
    ∷ read 1 (codes "Item") (codes "n")
    ∷ set 1 (codes "Item") (codes "n")
    ∷ read 1 (codes "Item") (codes "n")
    ∷ not_read 1 (codes "Item") (codes "m") ∷ [])
    ((Some (cut_off (raises_with Unauthorized (codes "secret"))), 999962, codes "seven!\nseven\nstored\n") ∷ [])
unfolding encode within
methods-seen = refl

-- o.n = 'x'
-- print(o.n)
-- setattr(o, 'n', ['mine'])
-- print(o.n[0])
-- del o.n
-- print(getattr(o, 'n', 'gone'))
-- o.q = 1
abbrev stored : Seen
stored = plays
    (shop_module
    ∷ program
    (stmt_tree.assign (to_attribute (var o') n' ∷ []) (text (codes "x"))
    ∷ prints (attribute (var o') n' ∷ [])
    ∷ stmt_tree.evaluate (called (var setattr') (var o' ∷ text (codes "n") ∷ list (text (codes "mine") ∷ []) ∷ []))
    ∷ prints (primary (var o') (named_part n' ∷ item_part (int 0) ∷ []) ∷ [])
    ∷ stmt_tree.del (to_attribute (var o') n' ∷ [])
    ∷ prints (called (var getattr') (var o' ∷ text (codes "n") ∷ text (codes "gone") ∷ []) ∷ [])
    ∷ stmt_tree.assign (to_attribute (var o') q' ∷ []) (int 1) ∷ [])
    (([], []) ∷ []) ∷ [])

stored-seen : stored
    ≡ seen 21
    (set 1 (codes "Item") (codes "n")
    ∷ read 1 (codes "Item") (codes "n")
    ∷ set 1 (codes "Item") (codes "n")
    ∷ read 1 (codes "Item") (codes "n")
    ∷ set 1 (codes "Item") (codes "n")
    ∷ read 1 (codes "Item") (codes "n")
    ∷ not_set 1 (codes "Item") (codes "q") ∷ [])
    ((Some (cut_off (raises_with ForbiddenAttribute (codes "q"))), 999965, codes "x\nmine\ngone\n") ∷ [])
unfolding encode within
stored-seen = refl

-- for x in o.part:
--     print(x)
-- print(o.part == ['a', 'b', 'c'], o.part)
-- a, b, c = o.part
-- print(a, *o.part)
-- print(o.part[0:2])
-- o.part.append('d')
abbrev lent_list : Seen
lent_list = plays
    (shop_module
    ∷ program
    (for (to x') (attribute (var o') part') (prints (var x' ∷ []) ∷ [])
    ∷ prints
    (compare (attribute (var o') part')
    ((test.Order Eq, list (text (codes "a") ∷ text (codes "b") ∷ text (codes "c") ∷ [])) ∷ [])
    ∷ attribute (var o') part' ∷ [])
    ∷ unpacks (group (to a' ∷ to b' ∷ to c' ∷ [])) (attribute (var o') part')
    ∷ stmt_tree.evaluate
    (primary (var print') (call_part (tree.value (var a') ∷ tree.star (attribute (var o') part') ∷ []) ∷ []))
    ∷ prints (primary (var o') (named_part part' ∷ slice_part (tree.some (int 0)) (tree.some (int 2)) tree.none ∷ []) ∷ [])
    ∷ stmt_tree.evaluate
    (primary (var o')
    (named_part part' ∷ named_part append' ∷ call_part (tree.value (text (codes "d")) ∷ []) ∷ [])) ∷ [])
    ((x' ∷ a' ∷ b' ∷ c' ∷ [], []) ∷ []) ∷ [])

lent_list-seen : lent_list
    ≡ seen 68
    (read 1 (codes "Item") (codes "part")
    ∷ read 1 (codes "list") (codes "__iter__")
    ∷ read 1 (codes "Item") (codes "part")
    ∷ read 1 (codes "list") (codes "__eq__")
    ∷ read 1 (codes "Item") (codes "part")
    ∷ read 1 (codes "list") (codes "__str__")
    ∷ read 1 (codes "Item") (codes "part")
    ∷ read 1 (codes "list") (codes "__iter__")
    ∷ read 1 (codes "Item") (codes "part")
    ∷ read 1 (codes "list") (codes "__iter__")
    ∷ read 1 (codes "Item") (codes "part")
    ∷ read 1 (codes "list") (codes "__getitem__")
    ∷ read 1 (codes "list") (codes "__str__")
    ∷ read 1 (codes "Item") (codes "part")
    ∷ not_read 1 (codes "list") (codes "append") ∷ [])
    ((
      Some (cut_off (raises_with ForbiddenAttribute (codes "append"))),
      999935,
      codes "a\nb\nc\nTrue ['a', 'b', 'c']\na a b c\n['a', 'b']\n",
    ) ∷ [])
unfolding encode within
lent_list-seen = refl

-- o[0] = 'x'
abbrev item_stored : Seen
item_stored = plays
    (shop_module
    ∷ program (stmt_tree.assign (to_item (var o') (int 0) ∷ []) (text (codes "x")) ∷ []) (([], []) ∷ []) ∷ [])

item_stored-seen : item_stored
    ≡ seen 1 (not_read 1 (codes "Item") (codes "__setitem__") ∷ [])
    ((Some (cut_off (raises_with ForbiddenAttribute (codes "__setitem__"))), 999996, []) ∷ [])
unfolding encode within
item_stored-seen = refl

-- for x in o:
--     pass
abbrev instance_walked : Seen
instance_walked = plays (shop_module ∷ program (for (to x') (var o') (stmt_tree.pass ∷ []) ∷ []) ((x' ∷ [], []) ∷ []) ∷ [])

instance_walked-seen : instance_walked
    ≡ seen 1 (not_read 1 (codes "Item") (codes "__iter__") ∷ [])
    ((Some (cut_off (raises_with ForbiddenAttribute (codes "__iter__"))), 999998, []) ∷ [])
unfolding encode within
instance_walked-seen = refl

-- print(o + o)
abbrev instances_added : Seen
instances_added = plays (shop_module ∷ program (prints (binary Add (var o') (var o') ∷ []) ∷ []) (([], []) ∷ []) ∷ [])

instances_added-seen : instances_added
    ≡ seen 1 (not_read 1 (codes "Item") (codes "__add__") ∷ [])
    ((Some (cut_off (raises_with ForbiddenAttribute (codes "__add__"))), 999994, []) ∷ [])
unfolding encode within
instances_added-seen = refl

-- print(o == o, o is None, bool(o), not o)
-- print(o)
-- print(str)
abbrev compared_and_shown : Seen
compared_and_shown = plays
    (shop_module
    ∷ program
    (prints
    (compare (var o') ((test.Order Eq, var o') ∷ [])
    ∷ compare (var o') ((test.Is, nil) ∷ [])
    ∷ called (var bool') (var o' ∷ [])
    ∷ negated (var o') ∷ [])
    ∷ prints (var o' ∷ [])
    ∷ prints (var str' ∷ []) ∷ [])
    (([], []) ∷ []) ∷ [])

compared_and_shown-seen : compared_and_shown
    ≡ seen 56
    (read 1 (codes "Item") (codes "__eq__")
    ∷ read 1 (codes "Item") (codes "__eq__")
    ∷ read 1 (codes "Item") (codes "__bool__")
    ∷ read 1 (codes "Item") (codes "__bool__")
    ∷ read 1 (codes "Item") (codes "__str__") ∷ [])
    ((Some well, 999978, codes "True False True False\n<Item object>\n<function str>\n") ∷ [])
unfolding encode within
compared_and_shown-seen = refl

-- x = [o]
-- x[0].n
-- x += [o.part]
-- print(len(x) == 2)
-- x *= 2
-- print(len(x) == 4)
-- x += o.part
-- print(len(x) == 7)
-- x += 5
abbrev lent_elements : Seen
lent_elements = plays
    (shop_module
    ∷ program
    (sets x' (list (var o' ∷ []))
    ∷ stmt_tree.evaluate (primary (var x') (item_part (int 0) ∷ named_part n' ∷ []))
    ∷ augments (to_name x') Add (list (attribute (var o') part' ∷ []))
    ∷ prints (compare (called (var len') (var x' ∷ [])) ((test.Order Eq, int 2) ∷ []) ∷ [])
    ∷ augments (to_name x') Mul (int 2)
    ∷ prints (compare (called (var len') (var x' ∷ [])) ((test.Order Eq, int 4) ∷ []) ∷ [])
    ∷ augments (to_name x') Add (attribute (var o') part')
    ∷ prints (compare (called (var len') (var x' ∷ [])) ((test.Order Eq, int 7) ∷ []) ∷ [])
    ∷ augments (to_name x') Add (int 5) ∷ [])
    ((x' ∷ [], []) ∷ []) ∷ [])

lent_elements-seen : lent_elements
    ≡ seen 29
    (read 1 (codes "Item") (codes "n")
    ∷ read 1 (codes "Item") (codes "part")
    ∷ read 1 (codes "Item") (codes "part")
    ∷ read 1 (codes "list") (codes "__iter__") ∷ [])
    ((Some (cut_off (raises_with TypeError (codes "iterate"))), 999953, codes "True\nTrue\nTrue\n") ∷ [])
unfolding encode within
lent_elements-seen = refl

-- r = fun(o, items)
-- print(r[0].n)
-- f = fun
-- print(f('a')[1])
-- print(getattr(o, 'total')())
-- print(getattr(o, '__len__', 'd'))
abbrev lent_results : Seen
lent_results = plays
    (shop_module
    ∷ program
    (sets r' (called (var fun') (var o' ∷ var ITEMS ∷ []))
    ∷ prints (primary (var r') (item_part (int 0) ∷ named_part n' ∷ []) ∷ [])
    ∷ sets f' (var fun')
    ∷ prints (primary (var f') (call_part (tree.value (text (codes "a")) ∷ []) ∷ item_part (int 1) ∷ []) ∷ [])
    ∷ prints
    (primary (var getattr')
    (call_part (tree.value (var o') ∷ tree.value (text (codes "total")) ∷ []) ∷ call_part [] ∷ []) ∷ [])
    ∷ prints (called (var getattr') (var o' ∷ text (codes "__len__") ∷ text (codes "d") ∷ []) ∷ []) ∷ [])
    ((r' ∷ f' ∷ [], []) ∷ []) ∷ [])

lent_results-seen : lent_results
    ≡ seen 56
    (read 1 (codes "function") (codes "__call__")
    ∷ read 1 (codes "list") (codes "__getitem__")
    ∷ read 1 (codes "Item") (codes "n")
    ∷ read 1 (codes "function") (codes "__call__")
    ∷ read 1 (codes "list") (codes "__getitem__")
    ∷ read 1 (codes "Item") (codes "total")
    ∷ read 1 (codes "method") (codes "__call__") ∷ [])
    ((Some (cut_off (raises_with ForbiddenAttribute (codes "__len__"))), 999945, codes "seven\ndd\nseven!\n") ∷ [])
unfolding encode within
lent_results-seen = refl

-- class_ = 1
-- print(o.n, o.part[1], (o.part, 'x')[0][2])
-- print(fun(x='1', y='2', z='3'))
-- print(fun('1', '2', '3', '4', z='5'))
-- print(fun(**{'x': '1'}))
-- fun(**{1: 'a'})
abbrev items_and_keywords : Seen
items_and_keywords = plays
    (shop_module
    ∷ program
    (sets class_' (int 1)
    ∷ prints
    (attribute (var o') n'
    ∷ primary (var o') (named_part part' ∷ item_part (int 1) ∷ [])
    ∷ primary (tuple (attribute (var o') part' ∷ text (codes "x") ∷ []))
    (item_part (int 0) ∷ item_part (int 2) ∷ []) ∷ [])
    ∷ prints
    (primary (var fun')
    (call_part
    (tree.key x' (text (codes "1"))
    ∷ tree.key y' (text (codes "2"))
    ∷ tree.key z' (text (codes "3")) ∷ []) ∷ []) ∷ [])
    ∷ prints
    (primary (var fun')
    (call_part
    (tree.value (text (codes "1"))
    ∷ tree.value (text (codes "2"))
    ∷ tree.value (text (codes "3"))
    ∷ tree.value (text (codes "4"))
    ∷ tree.key z' (text (codes "5")) ∷ []) ∷ []) ∷ [])
    ∷ prints
    (primary (var fun') (call_part (tree.stars (dict ((text (codes "x"), text (codes "1")) ∷ [])) ∷ []) ∷ []) ∷ [])
    ∷ stmt_tree.evaluate (primary (var fun') (call_part (tree.stars (dict ((int 1, text (codes "a")) ∷ [])) ∷ []) ∷ [])) ∷ [])
    ((class_' ∷ [], []) ∷ []) ∷ [])

items_and_keywords-seen : items_and_keywords
    ≡ seen 150
    (read 1 (codes "Item") (codes "n")
    ∷ read 1 (codes "Item") (codes "part")
    ∷ read 1 (codes "list") (codes "__getitem__")
    ∷ read 1 (codes "Item") (codes "part")
    ∷ read 1 (codes "list") (codes "__getitem__")
    ∷ read 1 (codes "function") (codes "__call__")
    ∷ read 1 (codes "list") (codes "__str__")
    ∷ read 1 (codes "function") (codes "__call__")
    ∷ read 1 (codes "list") (codes "__str__")
    ∷ read 1 (codes "function") (codes "__call__")
    ∷ read 1 (codes "list") (codes "__str__") ∷ [])
    ((
      Some (cut_off (raises_with TypeError (codes "argument"))),
      999915,
      codes
          "seven b c\n['1', '2', (), {'z': '3'}]\n['1', '2', ('3', '4'), {'z': '5'}]\n['1', 'dd', (), {}]\n",
    ) ∷ [])
unfolding encode within
items_and_keywords-seen = refl

-- o.total('x')
abbrev method_arguments : Seen
method_arguments = plays
    (shop_module
    ∷ program
    (stmt_tree.evaluate (primary (var o') (named_part total' ∷ call_part (tree.value (text (codes "x")) ∷ []) ∷ [])) ∷ [])
    (([], []) ∷ []) ∷ [])

method_arguments-seen : method_arguments
    ≡ seen 3 (read 1 (codes "Item") (codes "total") ∷ read 1 (codes "method") (codes "__call__") ∷ [])
    ((Some (cut_off (raises_with TypeError (codes "arguments"))), 999995, []) ∷ [])
unfolding encode within
method_arguments-seen = refl
