-- Classes of scripts: instances, their attributes, and methods.
-- What is printed is what CPython prints.
use Rattle.std.proofs.Common.{◌≡◌, [], ◌∷◌, codes, Some, None, Result, refl}
use lib.Utf8.{encode}
use Rattle.rp_base.specs.declared.word.TheConstants.{INIT, VALUES}
use Rattle.rp_base.specs.declared.operator.BinOp.TheVariants.{Add}
use Rattle.rp_base.specs.declared.operator.CmpOp.TheVariants.{Lt, Eq, Ne}
use Rattle.rp_compare.specs.Equality.{within}
use Rattle.rp_tree.specs.declared.parts.Test.TheVariants as test
use Rattle.rp_tree.specs.Expressions as tree
use Rattle.rp_tree.specs.Statements as stmt_tree
use Rattle.rp_meaning.specs.Load.{Refused}
use Rattle.rp_meaning.specs.Scopes.{outer}
use Rattle.rp_meaning.specs.Sessions.{World, well}
use Rattle.rp_meaning_examples.proofs.Building.{var, int, text, nil, list, cond, compare, chain, binary, named_part, item_part, call_part, primary, attribute, called, to, to_attribute, params, plain_params, lambda, clause, list_of, sets, prints, augments, choose, while, for, handler, try, define, class}
use Rattle.rp_meaning_examples.proofs.Playing.{left_by, told, program}
use Rattle.rp_meaning_examples.proofs.Shop.{shop_module}
use Rattle.rp_meaning_examples.proofs.Words.{A', AttributeError', Box', Inner', Plain', TypeError', a', append', b', bool', f', g', getattr', h', k', make', n', rest', self', setattr', total', who', x', y'}

-- class A:
--     def __init__(self, n):
--         self.n = n
--     def total(self, k=1):
--         self.n += k
--         return self.n
-- a = A(0)
-- b = A(10)
-- print(a.total() == 1, a.total(5) == 6, b.total(k=2) == 12, a.n == 6, b.n == 12)
abbrev two_counters : Result World Refused
two_counters = left_by
    (shop_module
    ∷ program
    (class A'
    (define 1 INIT (plain_params (self' ∷ n' ∷ []))
    (stmt_tree.assign (to_attribute (var self') n' ∷ []) (var n') ∷ [])
    ∷ define 2 total' (params ((self', None) ∷ (k', Some (int 1)) ∷ []) None None)
    (augments (to_attribute (var self') n') Add (var k')
    ∷ stmt_tree.give_back (Some (attribute (var self') n')) ∷ []) ∷ [])
    ∷ sets a' (called (var A') (int 0 ∷ []))
    ∷ sets b' (called (var A') (int 10 ∷ []))
    ∷ prints
    (compare (primary (var a') (named_part total' ∷ call_part [] ∷ [])) ((test.Order Eq, int 1) ∷ [])
    ∷ compare (primary (var a') (named_part total' ∷ call_part (tree.value (int 5) ∷ []) ∷ []))
    ((test.Order Eq, int 6) ∷ [])
    ∷ compare (primary (var b') (named_part total' ∷ call_part (tree.key k' (int 2) ∷ []) ∷ []))
    ((test.Order Eq, int 12) ∷ [])
    ∷ compare (attribute (var a') n') ((test.Order Eq, int 6) ∷ [])
    ∷ compare (attribute (var b') n') ((test.Order Eq, int 12) ∷ []) ∷ []) ∷ [])
    ((A' ∷ a' ∷ b' ∷ [], []) ∷ (self' ∷ n' ∷ [], []) ∷ (self' ∷ k' ∷ [], []) ∷ []) ∷ [])

two_counters-told : told two_counters ≡ (Some well, codes "True True True True True\n") ∷ []
unfolding encode within
two_counters-told = refl

-- class A:
--     def f(self, x):
--         return 'f' + x
--     def g(self, x):
--         return self.f(x) + 'g'
-- print(A().g('-'))
abbrev methods_of_itself : Result World Refused
methods_of_itself = left_by
    (shop_module
    ∷ program
    (class A'
    (define 1 f' (plain_params (self' ∷ x' ∷ []))
    (stmt_tree.give_back (Some (binary Add (text (codes "f")) (var x'))) ∷ [])
    ∷ define 2 g' (plain_params (self' ∷ x' ∷ []))
    (stmt_tree.give_back
    (Some
    (binary Add (primary (var self') (named_part f' ∷ call_part (tree.value (var x') ∷ []) ∷ []))
    (text (codes "g")))) ∷ []) ∷ [])
    ∷ prints
    (primary (var A')
    (call_part [] ∷ named_part g' ∷ call_part (tree.value (text (codes "-")) ∷ []) ∷ []) ∷ []) ∷ [])
    ((A' ∷ [], []) ∷ (self' ∷ x' ∷ [], []) ∷ (self' ∷ x' ∷ [], []) ∷ []) ∷ [])

methods_of_itself-told : told methods_of_itself ≡ (Some well, codes "f-g\n") ∷ []
unfolding encode within
methods_of_itself-told = refl

-- class A:
--     def __init__(self, x):
--         self.x = x
--     def f(self):
--         return self.x
-- g = A('a').f
-- h = [A(x).f for x in 'bc']
-- print(g(), h[0](), h[1]())
abbrev bound_method : Result World Refused
bound_method = left_by
    (shop_module
    ∷ program
    (class A'
    (define 1 INIT (plain_params (self' ∷ x' ∷ []))
    (stmt_tree.assign (to_attribute (var self') x' ∷ []) (var x') ∷ [])
    ∷ define 2 f' (plain_params (self' ∷ [])) (stmt_tree.give_back (Some (attribute (var self') x')) ∷ []) ∷ [])
    ∷ sets g' (primary (var A') (call_part (tree.value (text (codes "a")) ∷ []) ∷ named_part f' ∷ []))
    ∷ sets h'
    (list_of 3 (primary (var A') (call_part (tree.value (var x') ∷ []) ∷ named_part f' ∷ []))
    (clause (to x') (text (codes "bc")) [] ∷ []))
    ∷ prints
    (called (var g') []
    ∷ primary (var h') (item_part (int 0) ∷ call_part [] ∷ [])
    ∷ primary (var h') (item_part (int 1) ∷ call_part [] ∷ []) ∷ []) ∷ [])
    ((A' ∷ g' ∷ h' ∷ [], []) ∷ (self' ∷ x' ∷ [], []) ∷ (self' ∷ [], []) ∷ (x' ∷ [], []) ∷ []) ∷ [])

bound_method-told : told bound_method ≡ (Some well, codes "a b c\n") ∷ []
unfolding encode within
bound_method-told = refl

-- class A:
--     pass
-- a = A()
-- a.x = 'p'
-- setattr(a, 'y', 'q')
-- print(getattr(a, 'x'), a.y, getattr(a, 'z', 'none'))
-- del a.x
-- try:
--     print(a.x)
-- except AttributeError:
--     print('gone')
abbrev attributes_by_word : Result World Refused
attributes_by_word = left_by
    (shop_module
    ∷ program
    (class A' (stmt_tree.pass ∷ [])
    ∷ sets a' (called (var A') [])
    ∷ stmt_tree.assign (to_attribute (var a') x' ∷ []) (text (codes "p"))
    ∷ stmt_tree.evaluate (called (var setattr') (var a' ∷ text (codes "y") ∷ text (codes "q") ∷ []))
    ∷ prints
    (called (var getattr') (var a' ∷ text (codes "x") ∷ [])
    ∷ attribute (var a') y'
    ∷ called (var getattr') (var a' ∷ text (codes "z") ∷ text (codes "none") ∷ []) ∷ [])
    ∷ stmt_tree.del (to_attribute (var a') x' ∷ [])
    ∷ try (prints (attribute (var a') x' ∷ []) ∷ [])
    (handler (Some (var AttributeError')) None (prints (text (codes "gone") ∷ []) ∷ []) ∷ []) None None ∷ [])
    ((A' ∷ a' ∷ [], []) ∷ []) ∷ [])

attributes_by_word-told : told attributes_by_word ≡ (Some well, codes "p q none\ngone\n") ∷ []
unfolding encode within
attributes_by_word-told = refl

-- class A:
--     def f(self):
--         return 'method'
-- a = A()
-- b = A()
-- a.f = lambda: 'attribute'
-- print(a.f(), b.f())
-- del a.f
-- print(a.f())
abbrev attribute_before_method : Result World Refused
attribute_before_method = left_by
    (shop_module
    ∷ program
    (class A'
    (define 1 f' (plain_params (self' ∷ [])) (stmt_tree.give_back (Some (text (codes "method"))) ∷ []) ∷ [])
    ∷ sets a' (called (var A') [])
    ∷ sets b' (called (var A') [])
    ∷ stmt_tree.assign (to_attribute (var a') f' ∷ [])
    (lambda 2 (plain_params []) (text (codes "attribute")))
    ∷ prints
    (primary (var a') (named_part f' ∷ call_part [] ∷ [])
    ∷ primary (var b') (named_part f' ∷ call_part [] ∷ []) ∷ [])
    ∷ stmt_tree.del (to_attribute (var a') f' ∷ [])
    ∷ prints (primary (var a') (named_part f' ∷ call_part [] ∷ []) ∷ []) ∷ [])
    ((A' ∷ a' ∷ b' ∷ [], []) ∷ (self' ∷ [], []) ∷ ([], []) ∷ []) ∷ [])

attribute_before_method-told : told attribute_before_method ≡ (Some well, codes "attribute method\nmethod\n") ∷ []
unfolding encode within
attribute_before_method-told = refl

-- class Box:
--     def __init__(self, x, rest=None):
--         self.x = x
--         self.rest = rest
-- b = None
-- for x in 'abc':
--     b = Box(x, b)
-- while b is not None:
--     print(b.x)
--     b = b.rest
abbrev linked : Result World Refused
linked = left_by
    (shop_module
    ∷ program
    (class Box'
    (define 1 INIT (params ((self', None) ∷ (x', None) ∷ (rest', Some nil) ∷ []) None None)
    (stmt_tree.assign (to_attribute (var self') x' ∷ []) (var x')
    ∷ stmt_tree.assign (to_attribute (var self') rest' ∷ []) (var rest') ∷ []) ∷ [])
    ∷ sets b' nil
    ∷ for (to x') (text (codes "abc")) (sets b' (called (var Box') (var x' ∷ var b' ∷ [])) ∷ [])
    ∷ while (compare (var b') ((test.IsNot, nil) ∷ []))
    (prints (attribute (var b') x' ∷ []) ∷ sets b' (attribute (var b') rest') ∷ []) ∷ [])
    ((Box' ∷ b' ∷ x' ∷ [], []) ∷ (self' ∷ x' ∷ rest' ∷ [], []) ∷ []) ∷ [])

linked-told : told linked ≡ (Some well, codes "c\nb\na\n") ∷ []
unfolding encode within
linked-told = refl

-- class Box:
--     def __init__(self, k):
--         self.k = k
--         self.a = None
--         self.b = None
--     def append(self, k):
--         if k < self.k:
--             if self.a is None:
--                 self.a = Box(k)
--             else:
--                 self.a.append(k)
--         elif self.b is None:
--             self.b = Box(k)
--         else:
--             self.b.append(k)
--     def values(self):
--         x = self.a.values() if self.a is not None else []
--         y = self.b.values() if self.b is not None else []
--         return x + [self.k] + y
-- b = Box('m')
-- for x in 'qdxfa':
--     b.append(x)
-- print(b.values())
abbrev sorted_by_tree : Result World Refused
sorted_by_tree = left_by
    (shop_module
    ∷ program
    (class Box'
    (define 1 INIT (plain_params (self' ∷ k' ∷ []))
    (stmt_tree.assign (to_attribute (var self') k' ∷ []) (var k')
    ∷ stmt_tree.assign (to_attribute (var self') a' ∷ []) nil
    ∷ stmt_tree.assign (to_attribute (var self') b' ∷ []) nil ∷ [])
    ∷ define 2 append' (plain_params (self' ∷ k' ∷ []))
    (choose
    ((
      compare (var k') ((test.Order Lt, attribute (var self') k') ∷ []),
      choose
          ((
            compare (attribute (var self') a') ((test.Is, nil) ∷ []),
            stmt_tree.assign (to_attribute (var self') a' ∷ []) (called (var Box') (var k' ∷ [])) ∷ [],
          ) ∷ [])
          (Some
          (stmt_tree.evaluate
          (primary (var self')
          (named_part a' ∷ named_part append' ∷ call_part (tree.value (var k') ∷ []) ∷ [])) ∷ [])) ∷ [],
    )
    ∷ (
      compare (attribute (var self') b') ((test.Is, nil) ∷ []),
      stmt_tree.assign (to_attribute (var self') b' ∷ []) (called (var Box') (var k' ∷ [])) ∷ [],
    ) ∷ [])
    (Some
    (stmt_tree.evaluate
    (primary (var self')
    (named_part b' ∷ named_part append' ∷ call_part (tree.value (var k') ∷ []) ∷ [])) ∷ [])) ∷ [])
    ∷ define 3 VALUES (plain_params (self' ∷ []))
    (sets x'
    (cond (compare (attribute (var self') a') ((test.IsNot, nil) ∷ []))
    (primary (var self') (named_part a' ∷ named_part VALUES ∷ call_part [] ∷ [])) (list []))
    ∷ sets y'
    (cond (compare (attribute (var self') b') ((test.IsNot, nil) ∷ []))
    (primary (var self') (named_part b' ∷ named_part VALUES ∷ call_part [] ∷ [])) (list []))
    ∷ stmt_tree.give_back
    (Some (chain (var x') ((Add, list (attribute (var self') k' ∷ [])) ∷ (Add, var y') ∷ []))) ∷ []) ∷ [])
    ∷ sets b' (called (var Box') (text (codes "m") ∷ []))
    ∷ for (to x') (text (codes "qdxfa"))
    (stmt_tree.evaluate
    (primary (var b') (named_part append' ∷ call_part (tree.value (var x') ∷ []) ∷ [])) ∷ [])
    ∷ prints (primary (var b') (named_part VALUES ∷ call_part [] ∷ []) ∷ []) ∷ [])
    ((Box' ∷ b' ∷ x' ∷ [], [])
    ∷ (self' ∷ k' ∷ [], [])
    ∷ (self' ∷ k' ∷ [], [])
    ∷ (self' ∷ x' ∷ y' ∷ [], []) ∷ []) ∷ [])

sorted_by_tree-told : told sorted_by_tree ≡ (Some well, codes "['a', 'd', 'f', 'm', 'q', 'x']\n") ∷ []
unfolding encode within
sorted_by_tree-told = refl

-- class A:
--     pass
-- a = A()
-- b = A()
-- print(a == a, a == b, a != b, a in [b, a], b in [a], bool(a))
abbrev same_instances : Result World Refused
same_instances = left_by
    (shop_module
    ∷ program
    (class A' (stmt_tree.pass ∷ [])
    ∷ sets a' (called (var A') [])
    ∷ sets b' (called (var A') [])
    ∷ prints
    (compare (var a') ((test.Order Eq, var a') ∷ [])
    ∷ compare (var a') ((test.Order Eq, var b') ∷ [])
    ∷ compare (var a') ((test.Order Ne, var b') ∷ [])
    ∷ compare (var a') ((test.Within, list (var b' ∷ var a' ∷ [])) ∷ [])
    ∷ compare (var b') ((test.Within, list (var a' ∷ [])) ∷ [])
    ∷ called (var bool') (var a' ∷ []) ∷ []) ∷ []) ((A' ∷ a' ∷ b' ∷ [], []) ∷ []) ∷ [])

same_instances-told : told same_instances ≡ (Some well, codes "True False True True False True\n") ∷ []
unfolding encode within
same_instances-told = refl

-- class A:
--     def __init__(self, x):
--         self.x = x
-- class Plain:
--     pass
-- def f(g):
--     try:
--         return g()
--     except TypeError:
--         return 'refused'
-- print(f(lambda: A()), f(lambda: A('a', 'b')), f(lambda: Plain('a')), f(lambda: A('a').x), f(lambda: A(x='b').x))
abbrev wrong_instances : Result World Refused
wrong_instances = left_by
    (shop_module
    ∷ program
    (class A'
    (define 1 INIT (plain_params (self' ∷ x' ∷ []))
    (stmt_tree.assign (to_attribute (var self') x' ∷ []) (var x') ∷ []) ∷ [])
    ∷ class Plain' (stmt_tree.pass ∷ [])
    ∷ define 2 f' (plain_params (g' ∷ []))
    (try (stmt_tree.give_back (Some (called (var g') [])) ∷ [])
    (handler (Some (var TypeError')) None (stmt_tree.give_back (Some (text (codes "refused"))) ∷ []) ∷ [])
    None None ∷ [])
    ∷ prints
    (called (var f') (lambda 3 (plain_params []) (called (var A') []) ∷ [])
    ∷ called (var f')
    (lambda 4 (plain_params []) (called (var A') (text (codes "a") ∷ text (codes "b") ∷ [])) ∷ [])
    ∷ called (var f') (lambda 5 (plain_params []) (called (var Plain') (text (codes "a") ∷ [])) ∷ [])
    ∷ called (var f')
    (lambda 6 (plain_params [])
    (primary (var A') (call_part (tree.value (text (codes "a")) ∷ []) ∷ named_part x' ∷ [])) ∷ [])
    ∷ called (var f')
    (lambda 7 (plain_params [])
    (primary (var A') (call_part (tree.key x' (text (codes "b")) ∷ []) ∷ named_part x' ∷ [])) ∷ []) ∷ []) ∷ [])
    ((A' ∷ Plain' ∷ f' ∷ [], [])
    ∷ (self' ∷ x' ∷ [], [])
    ∷ (g' ∷ [], [])
    ∷ ([], [])
    ∷ ([], [])
    ∷ ([], [])
    ∷ ([], [])
    ∷ ([], []) ∷ []) ∷ [])

wrong_instances-told : told wrong_instances ≡ (Some well, codes "refused refused refused a b\n") ∷ []
unfolding encode within
wrong_instances-told = refl

-- def make(x):
--     class Inner:
--         def who(self):
--             return x
--     return Inner
-- a = make('a')()
-- b = make('b')()
-- print(a.who(), b.who())
abbrev class_of_a_function : Result World Refused
class_of_a_function = left_by
    (shop_module
    ∷ program
    (define 1 make' (plain_params (x' ∷ []))
    (class Inner'
    (define 2 who' (plain_params (self' ∷ [])) (stmt_tree.give_back (Some (var x')) ∷ []) ∷ [])
    ∷ stmt_tree.give_back (Some (var Inner')) ∷ [])
    ∷ sets a' (primary (var make') (call_part (tree.value (text (codes "a")) ∷ []) ∷ call_part [] ∷ []))
    ∷ sets b' (primary (var make') (call_part (tree.value (text (codes "b")) ∷ []) ∷ call_part [] ∷ []))
    ∷ prints
    (primary (var a') (named_part who' ∷ call_part [] ∷ [])
    ∷ primary (var b') (named_part who' ∷ call_part [] ∷ []) ∷ []) ∷ [])
    ((make' ∷ a' ∷ b' ∷ [], []) ∷ (x' ∷ Inner' ∷ [], []) ∷ (self' ∷ [], (x', outer 1 0) ∷ []) ∷ []) ∷ [])

class_of_a_function-told : told class_of_a_function ≡ (Some well, codes "a b\n") ∷ []
unfolding encode within
class_of_a_function-told = refl
