-- Loops, unpacking, exceptions, and the names that handlers bind.
use Rattle.std.proofs.Common.{◌≡◌, true, [], ◌∷◌, codes, Some, None, refl}
use lib.Utf8.{encode}
use Rattle.rp_base.specs.declared.kind.Kind.TheVariants.{NameError, RuntimeError, ValueError, TypeError, AssertionError}
use Rattle.rp_base.specs.declared.operator.BinOp.TheVariants.{Add, FloorDiv}
use Rattle.rp_base.specs.declared.operator.CmpOp.TheVariants.{Lt, Gt, Eq}
use Rattle.rp_base.specs.declared.operator.UnOp.TheVariants.{Neg}
use Rattle.rp_compare.specs.Equality.{within}
use Rattle.rp_tree.specs.declared.parts.Test.TheVariants as test
use Rattle.rp_tree.specs.Expressions as tree
use Rattle.rp_tree.specs.Statements as stmt_tree
use Rattle.rp_meaning.specs.Sessions.{well, cut_off}
use Rattle.rp_meaning_examples.proofs.Building.{var, int, text, truth, tuple, list, dict, compare, binary, unary, named_part, slice_part, call_part, primary, called, to_name, to, to_item, group, plain_params, sets, prints, unpacks, augments, choose, while, for, handler, try, define}
use Rattle.rp_meaning_examples.proofs.Playing.{Seen, seen, plays, program, raises_with}
use Rattle.rp_meaning_examples.proofs.Shop.{shop_module}
use Rattle.rp_meaning_examples.proofs.Words.{IndexError', KeyError', LookupError', TypeError', ValueError', a', append', b', c', d', e', e2', f', g', i', k', len', n', t', undefined', x', xs', y'}

-- t = 0
-- for i in [1, 2, 3, 4, 5]:
--     if i == 2:
--         continue
--     if i == 5:
--         break
--     t += i
-- print(t == 8)
-- n = 0
-- while True:
--     n += 1
--     if n > 3:
--         break
-- print(n == 4)
abbrev loops : Seen
loops = plays
    (shop_module
    ∷ program
    (sets t' (int 0)
    ∷ for (to i') (list (int 1 ∷ int 2 ∷ int 3 ∷ int 4 ∷ int 5 ∷ []))
    (choose ((compare (var i') ((test.Order Eq, int 2) ∷ []), stmt_tree.continue ∷ []) ∷ []) None
    ∷ choose ((compare (var i') ((test.Order Eq, int 5) ∷ []), stmt_tree.break ∷ []) ∷ []) None
    ∷ augments (to_name t') Add (var i') ∷ [])
    ∷ prints (compare (var t') ((test.Order Eq, int 8) ∷ []) ∷ [])
    ∷ sets n' (int 0)
    ∷ while (truth true)
    (augments (to_name n') Add (int 1)
    ∷ choose ((compare (var n') ((test.Order Gt, int 3) ∷ []), stmt_tree.break ∷ []) ∷ []) None ∷ [])
    ∷ prints (compare (var n') ((test.Order Eq, int 4) ∷ []) ∷ []) ∷ [])
    ((t' ∷ i' ∷ n' ∷ [], []) ∷ []) ∷ [])

loops-seen : loops ≡ seen 16 [] ((Some well, 999894, codes "True\nTrue\n") ∷ [])
unfolding encode within
loops-seen = refl

-- a, (b, c) = ('x', ('y', 'z'))
-- print(a, b, c)
-- a, b = 'pq'
-- print(a, b)
-- x = y = 'same'
-- print(x, y)
-- a, b = (b, a)
-- print(a, b)
abbrev unpacked : Seen
unpacked = plays
    (shop_module
    ∷ program
    (unpacks (group (to a' ∷ group (to b' ∷ to c' ∷ []) ∷ []))
    (tuple (text (codes "x") ∷ tuple (text (codes "y") ∷ text (codes "z") ∷ []) ∷ []))
    ∷ prints (var a' ∷ var b' ∷ var c' ∷ [])
    ∷ unpacks (group (to a' ∷ to b' ∷ [])) (text (codes "pq"))
    ∷ prints (var a' ∷ var b' ∷ [])
    ∷ stmt_tree.assign (to_name x' ∷ to_name y' ∷ []) (text (codes "same"))
    ∷ prints (var x' ∷ var y' ∷ [])
    ∷ unpacks (group (to a' ∷ to b' ∷ [])) (tuple (var b' ∷ var a' ∷ []))
    ∷ prints (var a' ∷ var b' ∷ []) ∷ [])
    ((a' ∷ b' ∷ c' ∷ x' ∷ y' ∷ [], []) ∷ []) ∷ [])

unpacked-seen : unpacked ≡ seen 35 [] ((Some well, 999957, codes "x y z\np q\nsame same\nq p\n") ∷ [])
unfolding encode within
unpacked-seen = refl

-- a, b = [1, 2, 3]
abbrev too_many_elements : Seen
too_many_elements = plays
    (shop_module
    ∷ program (unpacks (group (to a' ∷ to b' ∷ [])) (list (int 1 ∷ int 2 ∷ int 3 ∷ [])) ∷ []) ((a' ∷ b' ∷ [], []) ∷ []) ∷ [])

too_many_elements-seen : too_many_elements
    ≡ seen 4 [] ((Some (cut_off (raises_with ValueError (codes "unpack"))), 999992, []) ∷ [])
unfolding encode within
too_many_elements-seen = refl

-- a, b = 'x'
abbrev too_few_elements : Seen
too_few_elements = plays
    (shop_module
    ∷ program (unpacks (group (to a' ∷ to b' ∷ [])) (text (codes "x")) ∷ []) ((a' ∷ b' ∷ [], []) ∷ []) ∷ [])

too_few_elements-seen : too_few_elements
    ≡ seen 1 [] ((Some (cut_off (raises_with ValueError (codes "unpack"))), 999997, []) ∷ [])
unfolding encode within
too_few_elements-seen = refl

-- a, b = 3
abbrev number_unpacked : Seen
number_unpacked = plays
    (shop_module
    ∷ program (unpacks (group (to a' ∷ to b' ∷ [])) (int 3) ∷ []) ((a' ∷ b' ∷ [], []) ∷ []) ∷ [])

number_unpacked-seen : number_unpacked
    ≡ seen 0 [] ((Some (cut_off (raises_with TypeError (codes "iterate"))), 999998, []) ∷ [])
unfolding encode within
number_unpacked-seen = refl

-- d = {'a': 'x'}
-- for k in d:
--     d['n' + k] = 'q'
abbrev dict_grows : Seen
dict_grows = plays
    (shop_module
    ∷ program
    (sets d' (dict ((text (codes "a"), text (codes "x")) ∷ []))
    ∷ for (to k') (var d')
    (stmt_tree.assign (to_item (var d') (binary Add (text (codes "n")) (var k')) ∷ []) (text (codes "q")) ∷ []) ∷ [])
    ((d' ∷ k' ∷ [], []) ∷ []) ∷ [])

dict_grows-seen : dict_grows
    ≡ seen 5 [] ((Some (cut_off (raises_with RuntimeError (codes "dict size"))), 999987, []) ∷ [])
unfolding encode within
dict_grows-seen = refl

-- xs = ['a']
-- for x in xs:
--     if len(xs) < 4:
--         xs.append(x + x)
-- print(xs)
-- print(xs[1:3], xs[::-1], 'hello'[1:4])
-- del xs[0]
-- xs[0] = 'first'
-- print(xs)
abbrev list_grows : Seen
list_grows = plays
    (shop_module
    ∷ program
    (sets xs' (list (text (codes "a") ∷ []))
    ∷ for (to x') (var xs')
    (choose
    ((
      compare (called (var len') (var xs' ∷ [])) ((test.Order Lt, int 4) ∷ []),
      stmt_tree.evaluate
          (primary (var xs')
          (named_part append'
          ∷ call_part (tree.value (binary Add (var x') (var x')) ∷ []) ∷ [])) ∷ [],
    ) ∷ [])
    None ∷ [])
    ∷ prints (var xs' ∷ [])
    ∷ prints
    (primary (var xs') (slice_part (tree.some (int 1)) (tree.some (int 3)) tree.none ∷ [])
    ∷ primary (var xs') (slice_part tree.none tree.none (tree.some (unary Neg (int 1))) ∷ [])
    ∷ primary (text (codes "hello")) (slice_part (tree.some (int 1)) (tree.some (int 4)) tree.none ∷ []) ∷ [])
    ∷ stmt_tree.del (to_item (var xs') (int 0) ∷ [])
    ∷ stmt_tree.assign (to_item (var xs') (int 0) ∷ []) (text (codes "first"))
    ∷ prints (var xs' ∷ []) ∷ [])
    ((xs' ∷ x' ∷ [], []) ∷ []) ∷ [])

list_grows-seen : list_grows
    ≡ seen 146 []
    ((
      Some well,
      999903,
      codes
          "['a', 'aa', 'aaaa', 'aaaaaaaa']\n['aa', 'aaaa'] ['aaaaaaaa', 'aaaa', 'aa', 'a'] ell\n['first', 'aaaa', 'aaaaaaaa']\n",
    ) ∷ [])
unfolding encode within
list_grows-seen = refl

-- def f():
--     try:
--         return 'a'
--     finally:
--         print('last')
-- print(f())
-- def g():
--     for i in [1, 2]:
--         try:
--             continue
--         finally:
--             print('c')
--     try:
--         raise ValueError('v')
--     finally:
--         return 'swallowed'
-- print(g())
-- try:
--     try:
--         raise KeyError('k')
--     except (IndexError, KeyError) as e:
--         print('caught', e)
--         raise
--     else:
--         print('never')
-- except LookupError as e2:
--     print('again', e2)
-- try:
--     print('fine')
-- except:
--     print('no')
-- else:
--     print('else')
-- finally:
--     print('fin')
-- print(e)
abbrev finally_and_else : Seen
finally_and_else = plays
    (shop_module
    ∷ program
    (define 1 f' (plain_params [])
    (try (stmt_tree.give_back (Some (text (codes "a"))) ∷ []) [] None
    (Some (prints (text (codes "last") ∷ []) ∷ [])) ∷ [])
    ∷ prints (called (var f') [] ∷ [])
    ∷ define 2 g' (plain_params [])
    (for (to i') (list (int 1 ∷ int 2 ∷ []))
    (try (stmt_tree.continue ∷ []) [] None (Some (prints (text (codes "c") ∷ []) ∷ [])) ∷ [])
    ∷ try (stmt_tree.raise (Some (called (var ValueError') (text (codes "v") ∷ []))) ∷ []) [] None
    (Some (stmt_tree.give_back (Some (text (codes "swallowed"))) ∷ [])) ∷ [])
    ∷ prints (called (var g') [] ∷ [])
    ∷ try
    (try (stmt_tree.raise (Some (called (var KeyError') (text (codes "k") ∷ []))) ∷ [])
    (handler (Some (tuple (var IndexError' ∷ var KeyError' ∷ []))) (Some e')
    (prints (text (codes "caught") ∷ var e' ∷ []) ∷ stmt_tree.raise None ∷ []) ∷ [])
    (Some (prints (text (codes "never") ∷ []) ∷ [])) None ∷ [])
    (handler (Some (var LookupError')) (Some e2') (prints (text (codes "again") ∷ var e2' ∷ []) ∷ []) ∷ [])
    None None
    ∷ try (prints (text (codes "fine") ∷ []) ∷ []) (handler None None (prints (text (codes "no") ∷ []) ∷ []) ∷ [])
    (Some (prints (text (codes "else") ∷ []) ∷ [])) (Some (prints (text (codes "fin") ∷ []) ∷ []))
    ∷ prints (var e' ∷ []) ∷ [])
    ((f' ∷ g' ∷ e' ∷ e2' ∷ [], []) ∷ ([], []) ∷ (i' ∷ [], []) ∷ []) ∷ [])

finally_and_else-seen : finally_and_else
    ≡ seen 63 []
    ((
      Some (cut_off (raises_with NameError (codes "e"))),
      999918,
      codes "last\na\nc\nc\nswallowed\ncaught k\nagain k\nfine\nelse\nfin\n",
    ) ∷ [])
unfolding encode within
finally_and_else-seen = refl

-- try:
--     raise 'text'
-- except TypeError as e:
--     print(e)
-- try:
--     try:
--         1 // 0
--     except 'x':
--         print('no')
-- except TypeError as e:
--     print(e)
-- assert 1 == 1
-- assert [], 'message'
abbrev raised : Seen
raised = plays
    (shop_module
    ∷ program
    (try (stmt_tree.raise (Some (text (codes "text"))) ∷ [])
    (handler (Some (var TypeError')) (Some e') (prints (var e' ∷ []) ∷ []) ∷ []) None None
    ∷ try
    (try (stmt_tree.evaluate (binary FloorDiv (int 1) (int 0)) ∷ [])
    (handler (Some (text (codes "x"))) None (prints (text (codes "no") ∷ []) ∷ []) ∷ []) None None ∷ [])
    (handler (Some (var TypeError')) (Some e') (prints (var e' ∷ []) ∷ []) ∷ []) None None
    ∷ stmt_tree.assert (compare (int 1) ((test.Order Eq, int 1) ∷ [])) None
    ∷ stmt_tree.assert (list []) (Some (text (codes "message"))) ∷ [])
    ((e' ∷ [], []) ∷ []) ∷ [])

raised-seen : raised
    ≡ seen 14 []
    ((Some (cut_off (raises_with AssertionError (codes "message"))), 999973, codes "raise\nexcept\n") ∷ [])
unfolding encode within
raised-seen = refl

-- print(undefined)
abbrev undefined_name : Seen
undefined_name = plays (shop_module ∷ program (prints (var undefined' ∷ []) ∷ []) (([], []) ∷ []) ∷ [])

undefined_name-seen : undefined_name
    ≡ seen 0 [] ((Some (cut_off (raises_with NameError (codes "undefined"))), 999996, []) ∷ [])
unfolding encode within
undefined_name-seen = refl

-- ValueError('a', 'b')
abbrev exception_of_two : Seen
exception_of_two = plays
    (shop_module
    ∷ program (stmt_tree.evaluate (called (var ValueError') (text (codes "a") ∷ text (codes "b") ∷ [])) ∷ []) (([], []) ∷ []) ∷ [])

exception_of_two-seen : exception_of_two
    ≡ seen 0 [] ((Some (cut_off (raises_with TypeError (codes "arguments"))), 999995, []) ∷ [])
unfolding encode within
exception_of_two-seen = refl

-- raise ValueError
abbrev raised_kind : Seen
raised_kind = plays (shop_module ∷ program (stmt_tree.raise (Some (var ValueError')) ∷ []) (([], []) ∷ []) ∷ [])

raised_kind-seen : raised_kind ≡ seen 0 [] ((Some (cut_off (raises_with ValueError [])), 999998, []) ∷ [])
unfolding encode within
raised_kind-seen = refl
