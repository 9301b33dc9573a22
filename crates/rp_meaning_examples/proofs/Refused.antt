-- Operations that no row allows, and names that are not bound as it seems.
use Rattle.std.proofs.Common.{◌≡◌, [], ◌∷◌, ◌++◌, codes, Some, None, refl}
use lib.Utf8.{encode}
use Rattle.rp_base.specs.declared.word.TheConstants.{INIT, ITEMS}
use Rattle.rp_base.specs.declared.kind.Kind.TheVariants.{Exception, NameError, TypeError, AttributeError, AssertionError, Unauthorized, ForbiddenAttribute}
use Rattle.rp_base.specs.declared.operator.BinOp.TheVariants.{Add}
use Rattle.rp_base.specs.declared.operator.CmpOp.TheVariants.{Lt, Eq}
use Rattle.rp_base.specs.declared.operator.UnOp.TheVariants.{Neg}
use Rattle.rp_compare.specs.Equality.{within}
use Rattle.rp_tree.specs.declared.parts.Test.TheVariants as test
use Rattle.rp_tree.specs.Expressions as tree
use Rattle.rp_tree.specs.Statements as stmt_tree
use Rattle.rp_meaning.specs.Sessions.{well, cut_off}
use Rattle.rp_meaning_examples.proofs.Building.{var, int, text, tuple, list, dict, and, negated, compare, binary, unary, named_part, item_part, call_part, primary, attribute, item, called, to_name, to, to_attribute, to_item, params, plain_params, lambda, clause, list_of, sets, prints, augments, choose, while, handler, try, define, class}
use Rattle.rp_meaning_examples.proofs.Playing.{Seen, seen, read, not_read, set, not_set, plays, program, raises_with}
use Rattle.rp_meaning_examples.proofs.Shop.{shop, shop_blocks, shop_module}
use Rattle.rp_meaning_examples.proofs.Words.{A', Exception', ForbiddenAttribute', Item', TypeError', Unauthorized', ValueError', a', bool', both', e', f', fun', getattr', m', n', o', part', print', s', self', setattr', total', x', y', z', z2'}

-- x = o.total
-- print(x)
-- print(x == o.total)
-- x.y = 1
abbrev lent_method : Seen
lent_method = plays
    (shop_module
    ∷ program
    (sets x' (attribute (var o') total')
    ∷ prints (var x' ∷ [])
    ∷ prints (compare (var x') ((test.Order Eq, attribute (var o') total') ∷ []) ∷ [])
    ∷ stmt_tree.assign (to_attribute (var x') y' ∷ []) (int 1) ∷ [])
    ((x' ∷ [], []) ∷ []) ∷ [])

lent_method-seen : lent_method
    ≡ seen 29
    (read 1 (codes "Item") (codes "total")
    ∷ read 1 (codes "method") (codes "__str__")
    ∷ read 1 (codes "Item") (codes "total")
    ∷ read 1 (codes "method") (codes "__eq__")
    ∷ read 1 (codes "method") (codes "__eq__")
    ∷ not_set 1 (codes "method") (codes "y") ∷ [])
    ((Some (cut_off (raises_with ForbiddenAttribute (codes "y"))), 999983, codes "<method total>\nFalse\n") ∷ [])
unfolding encode within
lent_method-seen = refl

-- Item.x
abbrev class_attribute : Seen
class_attribute = plays (shop_module ∷ program (stmt_tree.evaluate (attribute (var Item') x') ∷ []) (([], []) ∷ []) ∷ [])

class_attribute-seen : class_attribute
    ≡ seen 1 (not_read 1 (codes "class") (codes "x") ∷ [])
    ((Some (cut_off (raises_with ForbiddenAttribute (codes "x"))), 999997, []) ∷ [])
unfolding encode within
class_attribute-seen = refl

-- x = [o.part, o]
-- print(x[0][0], x[1].n, x)
-- y = {'o': o}
-- print(y['o'].n)
-- def f(a):
--     return a.n
-- print(f(o), f(a=items))
-- print([z.n for z in [o, items]])
abbrev lent_within_own : Seen
lent_within_own = plays
    (shop_module
    ∷ program
    (sets x' (list (attribute (var o') part' ∷ var o' ∷ []))
    ∷ prints
    (primary (var x') (item_part (int 0) ∷ item_part (int 0) ∷ [])
    ∷ primary (var x') (item_part (int 1) ∷ named_part n' ∷ [])
    ∷ var x' ∷ [])
    ∷ sets y' (dict ((text (codes "o"), var o') ∷ []))
    ∷ prints (primary (var y') (item_part (text (codes "o")) ∷ named_part n' ∷ []) ∷ [])
    ∷ define 1 f' (plain_params (a' ∷ [])) (stmt_tree.give_back (Some (attribute (var a') n')) ∷ [])
    ∷ prints (called (var f') (var o' ∷ []) ∷ primary (var f') (call_part (tree.key a' (var ITEMS) ∷ []) ∷ []) ∷ [])
    ∷ prints (list_of 2 (attribute (var z') n') (clause (to z') (list (var o' ∷ var ITEMS ∷ [])) [] ∷ []) ∷ []) ∷ [])
    ((x' ∷ y' ∷ f' ∷ [], []) ∷ (a' ∷ [], []) ∷ (z' ∷ [], []) ∷ []) ∷ [])

lent_within_own-seen : lent_within_own
    ≡ seen 104
    (read 1 (codes "Item") (codes "part")
    ∷ read 1 (codes "list") (codes "__getitem__")
    ∷ read 1 (codes "Item") (codes "n")
    ∷ read 1 (codes "Item") (codes "n")
    ∷ read 1 (codes "Item") (codes "n")
    ∷ read 1 (codes "Item") (codes "n")
    ∷ read 1 (codes "Item") (codes "n")
    ∷ read 1 (codes "Item") (codes "n") ∷ [])
    ((
      Some well,
      999935,
      codes "a seven [['a', 'b', 'c'], <Item object>]\nseven\nseven seven\n['seven', 'seven']\n",
    ) ∷ [])
unfolding encode within
lent_within_own-seen = refl

-- try:
--     fun()
-- except TypeError as e:
--     print('t', e)
-- try:
--     fun('a', 'b', z='c', z2='d')['q']
-- except Exception as e:
--     print('i', e)
-- try:
--     o.part.x
-- except ForbiddenAttribute as e:
--     print('f', e)
-- try:
--     o.m
-- except (ValueError, Unauthorized) as e:
--     print('u', e)
-- print(getattr(o, 'm'))
abbrev caught_refusals : Seen
caught_refusals = plays
    (shop_module
    ∷ program
    (try (stmt_tree.evaluate (called (var fun') []) ∷ [])
    (handler (Some (var TypeError')) (Some e') (prints (text (codes "t") ∷ var e' ∷ []) ∷ []) ∷ []) None
    None
    ∷ try
    (stmt_tree.evaluate
    (primary (var fun')
    (call_part
    (tree.value (text (codes "a"))
    ∷ tree.value (text (codes "b"))
    ∷ tree.key z' (text (codes "c"))
    ∷ tree.key z2' (text (codes "d")) ∷ [])
    ∷ item_part (text (codes "q")) ∷ [])) ∷ [])
    (handler (Some (var Exception')) (Some e') (prints (text (codes "i") ∷ var e' ∷ []) ∷ []) ∷ []) None
    None
    ∷ try (stmt_tree.evaluate (primary (var o') (named_part part' ∷ named_part x' ∷ [])) ∷ [])
    (handler (Some (var ForbiddenAttribute')) (Some e') (prints (text (codes "f") ∷ var e' ∷ []) ∷ []) ∷ [])
    None None
    ∷ try (stmt_tree.evaluate (attribute (var o') m') ∷ [])
    (handler (Some (tuple (var ValueError' ∷ var Unauthorized' ∷ []))) (Some e')
    (prints (text (codes "u") ∷ var e' ∷ []) ∷ []) ∷ []) None None
    ∷ prints (called (var getattr') (var o' ∷ text (codes "m") ∷ []) ∷ []) ∷ [])
    ((e' ∷ [], []) ∷ []) ∷ [])

caught_refusals-seen : caught_refusals
    ≡ seen 57
    (read 1 (codes "function") (codes "__call__")
    ∷ read 1 (codes "function") (codes "__call__")
    ∷ read 1 (codes "list") (codes "__getitem__")
    ∷ read 1 (codes "Item") (codes "part")
    ∷ not_read 1 (codes "list") (codes "x")
    ∷ not_read 1 (codes "Item") (codes "m")
    ∷ not_read 1 (codes "Item") (codes "m") ∷ [])
    ((
      Some (cut_off (raises_with Unauthorized (codes "secret"))),
      999938,
      codes "t arguments\ni index\nf x\nu secret\n",
    ) ∷ [])
unfolding encode within
caught_refusals-seen = refl

-- setattr(o, 'm', 1)
abbrev forbidden_store : Seen
forbidden_store = plays
    (shop_module
    ∷ program (stmt_tree.evaluate (called (var setattr') (var o' ∷ text (codes "m") ∷ int 1 ∷ [])) ∷ []) (([], []) ∷ []) ∷ [])

forbidden_store-seen : forbidden_store
    ≡ seen 1 (not_set 1 (codes "Item") (codes "m") ∷ [])
    ((Some (cut_off (raises_with ForbiddenAttribute (codes "m"))), 999994, []) ∷ [])
unfolding encode within
forbidden_store-seen = refl

-- getattr(o, '_x', 'd')
abbrev forbidden_name : Seen
forbidden_name = plays
    (shop_module
    ∷ program
    (stmt_tree.evaluate (called (var getattr') (var o' ∷ text (codes "_x") ∷ text (codes "d") ∷ [])) ∷ [])
    (([], []) ∷ []) ∷ [])

forbidden_name-seen : forbidden_name
    ≡ seen 0 [] ((Some (cut_off (raises_with ForbiddenAttribute (codes "_x"))), 999994, []) ∷ [])
unfolding encode within
forbidden_name-seen = refl

-- del o.m
abbrev attribute_deleted : Seen
attribute_deleted = plays (shop_module ∷ program (stmt_tree.del (to_attribute (var o') m' ∷ []) ∷ []) (([], []) ∷ []) ∷ [])

attribute_deleted-seen : attribute_deleted
    ≡ seen 1 (not_set 1 (codes "Item") (codes "m") ∷ [])
    ((Some (cut_off (raises_with ForbiddenAttribute (codes "m"))), 999998, []) ∷ [])
unfolding encode within
attribute_deleted-seen = refl

-- del o[0]
abbrev item_deleted : Seen
item_deleted = plays (shop_module ∷ program (stmt_tree.del (to_item (var o') (int 0) ∷ []) ∷ []) (([], []) ∷ []) ∷ [])

item_deleted-seen : item_deleted
    ≡ seen 1 (not_read 1 (codes "Item") (codes "__delitem__") ∷ [])
    ((Some (cut_off (raises_with ForbiddenAttribute (codes "__delitem__"))), 999997, []) ∷ [])
unfolding encode within
item_deleted-seen = refl

-- o.n += 'x'
-- print(o.n)
-- o.m += 'y'
abbrev augmented_attribute : Seen
augmented_attribute = plays
    (shop_module
    ∷ program
    (augments (to_attribute (var o') n') Add (text (codes "x"))
    ∷ prints (attribute (var o') n' ∷ [])
    ∷ augments (to_attribute (var o') m') Add (text (codes "y")) ∷ [])
    (([], []) ∷ []) ∷ [])

augmented_attribute-seen : augmented_attribute
    ≡ seen 17
    (read 1 (codes "Item") (codes "n")
    ∷ set 1 (codes "Item") (codes "n")
    ∷ read 1 (codes "Item") (codes "n")
    ∷ not_read 1 (codes "Item") (codes "m") ∷ [])
    ((Some (cut_off (raises_with Unauthorized (codes "secret"))), 999990, codes "sevenx\n") ∷ [])
unfolding encode within
augmented_attribute-seen = refl

-- print(-o)
abbrev negated_instance : Seen
negated_instance = plays (shop_module ∷ program (prints (unary Neg (var o') ∷ []) ∷ []) (([], []) ∷ []) ∷ [])

negated_instance-seen : negated_instance
    ≡ seen 1 (not_read 1 (codes "Item") (codes "__neg__") ∷ [])
    ((Some (cut_off (raises_with ForbiddenAttribute (codes "__neg__"))), 999995, []) ∷ [])
unfolding encode within
negated_instance-seen = refl

-- print(o < 1)
abbrev ordered_instance : Seen
ordered_instance = plays
    (shop_module
    ∷ program (prints (compare (var o') ((test.Order Lt, int 1) ∷ []) ∷ []) ∷ []) (([], []) ∷ []) ∷ [])

ordered_instance-seen : ordered_instance
    ≡ seen 1 (read 1 (codes "Item") (codes "__lt__") ∷ [])
    ((Some (cut_off (raises_with TypeError (codes "operand"))), 999994, []) ∷ [])
unfolding encode within
ordered_instance-seen = refl

-- print(1 in o)
-- print(o in [o])
abbrev membership : Seen
membership = plays
    (shop_module
    ∷ program
    (prints (compare (int 1) ((test.Within, var o') ∷ []) ∷ [])
    ∷ prints (compare (var o') ((test.Within, list (var o' ∷ [])) ∷ []) ∷ []) ∷ [])
    (([], []) ∷ []) ∷ [])

membership-seen : membership
    ≡ seen 17 (read 1 (codes "Item") (codes "__contains__") ∷ [])
    ((Some well, 999978, codes "False\nTrue\n") ∷ [])
unfolding encode within
membership-seen = refl

-- if o:
--     print('true')
-- while o and not o:
--     pass
-- assert o, o.n
-- assert '', o
abbrev truth_tests : Seen
truth_tests = plays
    (shop_module
    ∷ program
    (choose ((var o', prints (text (codes "true") ∷ []) ∷ []) ∷ []) None
    ∷ while (and (var o' ∷ negated (var o') ∷ [])) (stmt_tree.pass ∷ [])
    ∷ stmt_tree.assert (var o') (Some (attribute (var o') n'))
    ∷ stmt_tree.assert (text []) (Some (var o')) ∷ [])
    (([], []) ∷ []) ∷ [])

truth_tests-seen : truth_tests
    ≡ seen 23
    (read 1 (codes "Item") (codes "__bool__")
    ∷ read 1 (codes "Item") (codes "__bool__")
    ∷ read 1 (codes "Item") (codes "__bool__")
    ∷ read 1 (codes "Item") (codes "__bool__")
    ∷ read 1 (codes "Item") (codes "__str__") ∷ [])
    ((Some (cut_off (raises_with AssertionError (codes "<Item object>"))), 999983, codes "true\n") ∷ [])
unfolding encode within
truth_tests-seen = refl

-- x = Exception(o)
-- print(x)
-- raise x
abbrev shown_by_exception : Seen
shown_by_exception = plays
    (shop_module
    ∷ program
    (sets x' (called (var Exception') (var o' ∷ [])) ∷ prints (var x' ∷ []) ∷ stmt_tree.raise (Some (var x')) ∷ [])
    ((x' ∷ [], []) ∷ []) ∷ [])

shown_by_exception-seen : shown_by_exception
    ≡ seen 28 (read 1 (codes "Item") (codes "__str__") ∷ [])
    ((Some (cut_off (raises_with Exception (codes "<Item object>"))), 999990, codes "<Item object>\n") ∷ [])
unfolding encode within
shown_by_exception-seen = refl

-- in the module:
--     y = 1
-- the script:
--     x = y
--     y = 1
abbrev module_variable : Seen
module_variable = plays
    (program ((sets y' (int 1) ∷ []) ++ shop) (((Item' ∷ ITEMS ∷ o' ∷ y' ∷ fun' ∷ [], []) ∷ []) ++ shop_blocks)
    ∷ program (sets x' (var y') ∷ sets y' (int 1) ∷ []) ((x' ∷ y' ∷ [], []) ∷ []) ∷ [])

module_variable-seen : module_variable
    ≡ seen 0 [] ((Some (cut_off (raises_with NameError (codes "y"))), 999998, []) ∷ [])
unfolding encode within
module_variable-seen = refl

-- print(items.n, Item)
-- items = 'mine'
-- print(items)
-- del items
-- print(items.n)
abbrev exposed_names : Seen
exposed_names = plays
    (shop_module
    ∷ program
    (prints (attribute (var ITEMS) n' ∷ var Item' ∷ [])
    ∷ sets ITEMS (text (codes "mine"))
    ∷ prints (var ITEMS ∷ [])
    ∷ stmt_tree.del (to_name ITEMS ∷ [])
    ∷ prints (attribute (var ITEMS) n' ∷ []) ∷ [])
    ((ITEMS ∷ [], []) ∷ []) ∷ [])

exposed_names-seen : exposed_names
    ≡ seen 35
    (read 1 (codes "Item") (codes "n")
    ∷ read 1 (codes "class") (codes "__str__")
    ∷ read 1 (codes "Item") (codes "n") ∷ [])
    ((Some well, 999982, codes "seven <class 'Item'>\nmine\nseven\n") ∷ [])
unfolding encode within
exposed_names-seen = refl

-- print(o.total(), o[1], 'a' in o, o(lambda s: s.n), o == items, bool(o), *o.part)
-- o.n = 'z'
-- o.m
abbrev all_at_once : Seen
all_at_once = plays
    (shop_module
    ∷ program
    (stmt_tree.evaluate
    (primary (var print')
    (call_part
    (tree.value (primary (var o') (named_part total' ∷ call_part [] ∷ []))
    ∷ tree.value (item (var o') (int 1))
    ∷ tree.value (compare (text (codes "a")) ((test.Within, var o') ∷ []))
    ∷ tree.value
    (called (var o') (lambda 1 (plain_params (s' ∷ [])) (attribute (var s') n') ∷ []))
    ∷ tree.value (compare (var o') ((test.Order Eq, var ITEMS) ∷ []))
    ∷ tree.value (called (var bool') (var o' ∷ []))
    ∷ tree.star (attribute (var o') part') ∷ []) ∷ []))
    ∷ stmt_tree.assign (to_attribute (var o') n' ∷ []) (text (codes "z"))
    ∷ stmt_tree.evaluate (attribute (var o') m') ∷ [])
    (([], []) ∷ (s' ∷ [], []) ∷ []) ∷ [])

all_at_once-seen : all_at_once
    ≡ seen 71
    (read 1 (codes "Item") (codes "total")
    ∷ read 1 (codes "method") (codes "__call__")
    ∷ read 1 (codes "Item") (codes "__getitem__")
    ∷ read 1 (codes "Item") (codes "__contains__")
    ∷ read 1 (codes "Item") (codes "__call__")
    ∷ read 1 (codes "Item") (codes "n")
    ∷ read 1 (codes "Item") (codes "__eq__")
    ∷ read 1 (codes "Item") (codes "__eq__")
    ∷ read 1 (codes "Item") (codes "__bool__")
    ∷ read 1 (codes "Item") (codes "part")
    ∷ read 1 (codes "list") (codes "__iter__")
    ∷ set 1 (codes "Item") (codes "n")
    ∷ not_read 1 (codes "Item") (codes "m") ∷ [])
    ((
      Some (cut_off (raises_with Unauthorized (codes "secret"))),
      999946,
      codes "seven! b True seven False True a b c\n",
    ) ∷ [])
unfolding encode within
all_at_once-seen = refl

-- class A:
--     def __init__(self, x, y='d'):
--         self.x = x
--         self.y = y
--     def both(self):
--         return self.x + self.y
-- a = A('1')
-- print(a.both(), A(y='q', x='p').both(), a, A)
-- a.x += 'z'
-- del a.y
-- print(a.x)
-- class Item:
--     pass
-- print(Item(), Item().x)
abbrev own_classes : Seen
own_classes = plays
    (shop_module
    ∷ program
    (class A'
    (define 1 INIT (params ((self', None) ∷ (x', None) ∷ (y', Some (text (codes "d"))) ∷ []) None None)
    (stmt_tree.assign (to_attribute (var self') x' ∷ []) (var x')
    ∷ stmt_tree.assign (to_attribute (var self') y' ∷ []) (var y') ∷ [])
    ∷ define 2 both' (plain_params (self' ∷ []))
    (stmt_tree.give_back (Some (binary Add (attribute (var self') x') (attribute (var self') y'))) ∷ []) ∷ [])
    ∷ sets a' (called (var A') (text (codes "1") ∷ []))
    ∷ prints
    (primary (var a') (named_part both' ∷ call_part [] ∷ [])
    ∷ primary (var A')
    (call_part (tree.key y' (text (codes "q")) ∷ tree.key x' (text (codes "p")) ∷ [])
    ∷ named_part both'
    ∷ call_part [] ∷ [])
    ∷ var a'
    ∷ var A' ∷ [])
    ∷ augments (to_attribute (var a') x') Add (text (codes "z"))
    ∷ stmt_tree.del (to_attribute (var a') y' ∷ [])
    ∷ prints (attribute (var a') x' ∷ [])
    ∷ class Item' (stmt_tree.pass ∷ [])
    ∷ prints (called (var Item') [] ∷ primary (var Item') (call_part [] ∷ named_part x' ∷ []) ∷ []) ∷ [])
    ((A' ∷ a' ∷ Item' ∷ [], []) ∷ (self' ∷ x' ∷ y' ∷ [], []) ∷ (self' ∷ [], []) ∷ []) ∷ [])

own_classes-seen : own_classes
    ≡ seen 67 []
    ((
      Some (cut_off (raises_with AttributeError (codes "x"))),
      999934,
      codes "1d pq <A object> <class 'A'>\n1z\n",
    ) ∷ [])
unfolding encode within
own_classes-seen = refl
