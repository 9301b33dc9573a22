-- Numbers, operators and their precedence, operators on texts and containers, augmented assignment.
-- What is printed is what CPython prints.
use Rattle.std.proofs.Common.{◌≡◌, true, false, [], ◌∷◌, codes, Some, None, Result, refl}
use lib.Utf8.{encode}
use Rattle.rp_base.specs.declared.operator.BinOp.TheVariants.{Add, Sub, Mul, FloorDiv, Mod, BitAnd, BitOr, BitXor, LShift, RShift}
use Rattle.rp_base.specs.declared.operator.CmpOp.TheVariants.{Lt, Eq}
use Rattle.rp_base.specs.declared.operator.UnOp.TheVariants.{Neg, Pos, Invert}
use Rattle.rp_compare.specs.Equality.{within}
use Rattle.rp_tree.specs.declared.parts.Test.TheVariants as test
use Rattle.rp_tree.specs.Statements as stmt_tree
use Rattle.rp_meaning.specs.Load.{Refused}
use Rattle.rp_meaning.specs.Sessions.{World, well}
use Rattle.rp_meaning_examples.proofs.Building.{var, int, text, nil, truth, tuple, list, dict, negated, compare, chain, binary, unary, power, item, called, to_name, to, to_item, plain_params, lambda, sets, prints, augments, for, handler, try, define}
use Rattle.rp_meaning_examples.proofs.Playing.{left_by, told, program}
use Rattle.rp_meaning_examples.proofs.Shop.{shop_module}
use Rattle.rp_meaning_examples.proofs.Words.{ArithmeticError', TypeError', ZeroDivisionError', a', b', d', f', g', x', xs'}

-- print(7 // 2 == 3, -7 // 2 == -4, 7 // -2 == -4, -7 // -2 == 3, 0 // 5 == 0)
abbrev floor_divisions : Result World Refused
floor_divisions = left_by
    (shop_module
    ∷ program
    (prints
    (compare (binary FloorDiv (int 7) (int 2)) ((test.Order Eq, int 3) ∷ [])
    ∷ compare (binary FloorDiv (unary Neg (int 7)) (int 2)) ((test.Order Eq, unary Neg (int 4)) ∷ [])
    ∷ compare (binary FloorDiv (int 7) (unary Neg (int 2))) ((test.Order Eq, unary Neg (int 4)) ∷ [])
    ∷ compare (binary FloorDiv (unary Neg (int 7)) (unary Neg (int 2))) ((test.Order Eq, int 3) ∷ [])
    ∷ compare (binary FloorDiv (int 0) (int 5)) ((test.Order Eq, int 0) ∷ []) ∷ []) ∷ []) (([], []) ∷ []) ∷ [])

floor_divisions-told : told floor_divisions ≡ (Some well, codes "True True True True True\n") ∷ []
unfolding encode within
floor_divisions-told = refl

-- print(7 % 3 == 1, -7 % 3 == 2, 7 % -3 == -2, -7 % -3 == -1, 6 % 3 == 0)
abbrev remainders : Result World Refused
remainders = left_by
    (shop_module
    ∷ program
    (prints
    (compare (binary Mod (int 7) (int 3)) ((test.Order Eq, int 1) ∷ [])
    ∷ compare (binary Mod (unary Neg (int 7)) (int 3)) ((test.Order Eq, int 2) ∷ [])
    ∷ compare (binary Mod (int 7) (unary Neg (int 3))) ((test.Order Eq, unary Neg (int 2)) ∷ [])
    ∷ compare (binary Mod (unary Neg (int 7)) (unary Neg (int 3))) ((test.Order Eq, unary Neg (int 1)) ∷ [])
    ∷ compare (binary Mod (int 6) (int 3)) ((test.Order Eq, int 0) ∷ []) ∷ []) ∷ []) (([], []) ∷ []) ∷ [])

remainders-told : told remainders ≡ (Some well, codes "True True True True True\n") ∷ []
unfolding encode within
remainders-told = refl

-- print(2 ** 6 == 64, (-2) ** 3 == -8, 0 ** 0 == 1, 1 ** 9 == 1, -2 ** 2 == -4, 2 ** 2 ** 3 == 256)
abbrev powers : Result World Refused
powers = left_by
    (shop_module
    ∷ program
    (prints
    (compare (power (int 2) (int 6)) ((test.Order Eq, int 64) ∷ [])
    ∷ compare (power (unary Neg (int 2)) (int 3)) ((test.Order Eq, unary Neg (int 8)) ∷ [])
    ∷ compare (power (int 0) (int 0)) ((test.Order Eq, int 1) ∷ [])
    ∷ compare (power (int 1) (int 9)) ((test.Order Eq, int 1) ∷ [])
    ∷ compare (unary Neg (power (int 2) (int 2))) ((test.Order Eq, unary Neg (int 4)) ∷ [])
    ∷ compare (power (int 2) (power (int 2) (int 3))) ((test.Order Eq, int 256) ∷ []) ∷ []) ∷ [])
    (([], []) ∷ []) ∷ [])

powers-told : told powers ≡ (Some well, codes "True True True True True True\n") ∷ []
unfolding encode within
powers-told = refl

-- print(12 & 10 == 8, 12 | 10 == 14, 12 ^ 10 == 6, 1 << 5 == 32, 33 >> 2 == 8)
-- print(-1 & 5 == 5, -8 >> 1 == -4, ~5 == -6, -5 | 2 == -5, -3 ^ 1 == -4)
abbrev bits : Result World Refused
bits = left_by
    (shop_module
    ∷ program
    (prints
    (compare (binary BitAnd (int 12) (int 10)) ((test.Order Eq, int 8) ∷ [])
    ∷ compare (binary BitOr (int 12) (int 10)) ((test.Order Eq, int 14) ∷ [])
    ∷ compare (binary BitXor (int 12) (int 10)) ((test.Order Eq, int 6) ∷ [])
    ∷ compare (binary LShift (int 1) (int 5)) ((test.Order Eq, int 32) ∷ [])
    ∷ compare (binary RShift (int 33) (int 2)) ((test.Order Eq, int 8) ∷ []) ∷ [])
    ∷ prints
    (compare (binary BitAnd (unary Neg (int 1)) (int 5)) ((test.Order Eq, int 5) ∷ [])
    ∷ compare (binary RShift (unary Neg (int 8)) (int 1)) ((test.Order Eq, unary Neg (int 4)) ∷ [])
    ∷ compare (unary Invert (int 5)) ((test.Order Eq, unary Neg (int 6)) ∷ [])
    ∷ compare (binary BitOr (unary Neg (int 5)) (int 2)) ((test.Order Eq, unary Neg (int 5)) ∷ [])
    ∷ compare (binary BitXor (unary Neg (int 3)) (int 1)) ((test.Order Eq, unary Neg (int 4)) ∷ []) ∷ []) ∷ [])
    (([], []) ∷ []) ∷ [])

bits-told : told bits ≡ (Some well, codes "True True True True True\nTrue True True True True\n") ∷ []
unfolding encode within
bits-told = refl

-- print(1 + 2 * 3 == 7, (1 + 2) * 3 == 9, 2 + 3 - 4 + 5 == 6, 2 * 3 % 4 == 2, 20 // 3 * 2 == 12)
-- print(1 | 2 ^ 3 & 5 << 1 + 1 == 3, 10 - (4 - 3) == 9, 2 - -3 == 5)
abbrev precedences : Result World Refused
precedences = left_by
    (shop_module
    ∷ program
    (prints
    (compare (binary Add (int 1) (binary Mul (int 2) (int 3))) ((test.Order Eq, int 7) ∷ [])
    ∷ compare (binary Mul (binary Add (int 1) (int 2)) (int 3)) ((test.Order Eq, int 9) ∷ [])
    ∷ compare (chain (int 2) ((Add, int 3) ∷ (Sub, int 4) ∷ (Add, int 5) ∷ []))
    ((test.Order Eq, int 6) ∷ [])
    ∷ compare (chain (int 2) ((Mul, int 3) ∷ (Mod, int 4) ∷ [])) ((test.Order Eq, int 2) ∷ [])
    ∷ compare (chain (int 20) ((FloorDiv, int 3) ∷ (Mul, int 2) ∷ [])) ((test.Order Eq, int 12) ∷ []) ∷ [])
    ∷ prints
    (compare
    (binary BitOr (int 1)
    (binary BitXor (int 2) (binary BitAnd (int 3) (binary LShift (int 5) (binary Add (int 1) (int 1))))))
    ((test.Order Eq, int 3) ∷ [])
    ∷ compare (binary Sub (int 10) (binary Sub (int 4) (int 3))) ((test.Order Eq, int 9) ∷ [])
    ∷ compare (binary Sub (int 2) (unary Neg (int 3))) ((test.Order Eq, int 5) ∷ []) ∷ []) ∷ [])
    (([], []) ∷ []) ∷ [])

precedences-told : told precedences ≡ (Some well, codes "True True True True True\nTrue True True\n") ∷ []
unfolding encode within
precedences-told = refl

-- print(- -3 == 3, not not 1, -(2 + 3) == -5, ~~7 == 7, +-4 == -4, -True == -1)
abbrev signs : Result World Refused
signs = left_by
    (shop_module
    ∷ program
    (prints
    (compare (unary Neg (unary Neg (int 3))) ((test.Order Eq, int 3) ∷ [])
    ∷ negated (negated (int 1))
    ∷ compare (unary Neg (binary Add (int 2) (int 3))) ((test.Order Eq, unary Neg (int 5)) ∷ [])
    ∷ compare (unary Invert (unary Invert (int 7))) ((test.Order Eq, int 7) ∷ [])
    ∷ compare (unary Pos (unary Neg (int 4))) ((test.Order Eq, unary Neg (int 4)) ∷ [])
    ∷ compare (unary Neg (truth true)) ((test.Order Eq, unary Neg (int 1)) ∷ []) ∷ []) ∷ [])
    (([], []) ∷ []) ∷ [])

signs-told : told signs ≡ (Some well, codes "True True True True True True\n") ∷ []
unfolding encode within
signs-told = refl

-- print(True + True == 2, False * 5 == 0, True < 2, True == 1, False == 0, 3 - True == 2)
abbrev truth_values_as_numbers : Result World Refused
truth_values_as_numbers = left_by
    (shop_module
    ∷ program
    (prints
    (compare (binary Add (truth true) (truth true)) ((test.Order Eq, int 2) ∷ [])
    ∷ compare (binary Mul (truth false) (int 5)) ((test.Order Eq, int 0) ∷ [])
    ∷ compare (truth true) ((test.Order Lt, int 2) ∷ [])
    ∷ compare (truth true) ((test.Order Eq, int 1) ∷ [])
    ∷ compare (truth false) ((test.Order Eq, int 0) ∷ [])
    ∷ compare (binary Sub (int 3) (truth true)) ((test.Order Eq, int 2) ∷ []) ∷ []) ∷ []) (([], []) ∷ []) ∷ [])

truth_values_as_numbers-told : told truth_values_as_numbers
    ≡ (Some well, codes "True True True True True True\n") ∷ []
unfolding encode within
truth_values_as_numbers-told = refl

-- x = 'ab'
-- print(x + 'cd', x * 3, 2 * 'x', x * 0 == '', x * -1 == '', x + '' == x)
abbrev joined_texts : Result World Refused
joined_texts = left_by
    (shop_module
    ∷ program
    (sets x' (text (codes "ab"))
    ∷ prints
    (binary Add (var x') (text (codes "cd"))
    ∷ binary Mul (var x') (int 3)
    ∷ binary Mul (int 2) (text (codes "x"))
    ∷ compare (binary Mul (var x') (int 0)) ((test.Order Eq, text []) ∷ [])
    ∷ compare (binary Mul (var x') (unary Neg (int 1))) ((test.Order Eq, text []) ∷ [])
    ∷ compare (binary Add (var x') (text [])) ((test.Order Eq, var x') ∷ []) ∷ []) ∷ [])
    ((x' ∷ [], []) ∷ []) ∷ [])

joined_texts-told : told joined_texts ≡ (Some well, codes "abcd ababab xx True True True\n") ∷ []
unfolding encode within
joined_texts-told = refl

-- print([1] + [2] == [1, 2], [0] * 3 == [0, 0, 0], ['a'] * 2 + ['b'])
-- print(('a',) + ('b', 'c'), ('x',) * 2, () + () == ())
abbrev joined_containers : Result World Refused
joined_containers = left_by
    (shop_module
    ∷ program
    (prints
    (compare (binary Add (list (int 1 ∷ [])) (list (int 2 ∷ [])))
    ((test.Order Eq, list (int 1 ∷ int 2 ∷ [])) ∷ [])
    ∷ compare (binary Mul (list (int 0 ∷ [])) (int 3))
    ((test.Order Eq, list (int 0 ∷ int 0 ∷ int 0 ∷ [])) ∷ [])
    ∷ binary Add (binary Mul (list (text (codes "a") ∷ [])) (int 2)) (list (text (codes "b") ∷ [])) ∷ [])
    ∷ prints
    (binary Add (tuple (text (codes "a") ∷ [])) (tuple (text (codes "b") ∷ text (codes "c") ∷ []))
    ∷ binary Mul (tuple (text (codes "x") ∷ [])) (int 2)
    ∷ compare (binary Add (tuple []) (tuple [])) ((test.Order Eq, tuple []) ∷ []) ∷ []) ∷ [])
    (([], []) ∷ []) ∷ [])

joined_containers-told : told joined_containers
    ≡ (Some well, codes "True True ['a', 'a', 'b']\n('a', 'b', 'c') ('x', 'x') True\n") ∷ []
unfolding encode within
joined_containers-told = refl

-- for x in [1, 0, -1]:
--     try:
--         x // 0
--     except ZeroDivisionError:
--         print('division')
--     try:
--         x % 0
--     except ArithmeticError:
--         print('remainder')
abbrev divided_by_zero : Result World Refused
divided_by_zero = left_by
    (shop_module
    ∷ program
    (for (to x') (list (int 1 ∷ int 0 ∷ unary Neg (int 1) ∷ []))
    (try (stmt_tree.evaluate (binary FloorDiv (var x') (int 0)) ∷ [])
    (handler (Some (var ZeroDivisionError')) None (prints (text (codes "division") ∷ []) ∷ []) ∷ []) None
    None
    ∷ try (stmt_tree.evaluate (binary Mod (var x') (int 0)) ∷ [])
    (handler (Some (var ArithmeticError')) None (prints (text (codes "remainder") ∷ []) ∷ []) ∷ []) None
    None ∷ []) ∷ []) ((x' ∷ [], []) ∷ []) ∷ [])

divided_by_zero-told : told divided_by_zero
    ≡ (Some well, codes "division\nremainder\ndivision\nremainder\ndivision\nremainder\n") ∷ []
unfolding encode within
divided_by_zero-told = refl

-- def f(g):
--     try:
--         g()
--     except TypeError:
--         return 'no'
--     return 'yes'
-- print(f(lambda: 'a' + 1), f(lambda: 1 + 'a'), f(lambda: [] + ()), f(lambda: None + 1))
-- print(f(lambda: 'a' * 'b'), f(lambda: -'a'), f(lambda: ~[]), f(lambda: 'a' - 'b'), f(lambda: 2 * 'b'))
abbrev wrong_operands : Result World Refused
wrong_operands = left_by
    (shop_module
    ∷ program
    (define 1 f' (plain_params (g' ∷ []))
    (try (stmt_tree.evaluate (called (var g') []) ∷ [])
    (handler (Some (var TypeError')) None (stmt_tree.give_back (Some (text (codes "no"))) ∷ []) ∷ []) None
    None
    ∷ stmt_tree.give_back (Some (text (codes "yes"))) ∷ [])
    ∷ prints
    (called (var f') (lambda 2 (plain_params []) (binary Add (text (codes "a")) (int 1)) ∷ [])
    ∷ called (var f') (lambda 3 (plain_params []) (binary Add (int 1) (text (codes "a"))) ∷ [])
    ∷ called (var f') (lambda 4 (plain_params []) (binary Add (list []) (tuple [])) ∷ [])
    ∷ called (var f') (lambda 5 (plain_params []) (binary Add nil (int 1)) ∷ []) ∷ [])
    ∷ prints
    (called (var f') (lambda 6 (plain_params []) (binary Mul (text (codes "a")) (text (codes "b"))) ∷ [])
    ∷ called (var f') (lambda 7 (plain_params []) (unary Neg (text (codes "a"))) ∷ [])
    ∷ called (var f') (lambda 8 (plain_params []) (unary Invert (list [])) ∷ [])
    ∷ called (var f') (lambda 9 (plain_params []) (binary Sub (text (codes "a")) (text (codes "b"))) ∷ [])
    ∷ called (var f') (lambda 10 (plain_params []) (binary Mul (int 2) (text (codes "b"))) ∷ []) ∷ []) ∷ [])
    ((f' ∷ [], [])
    ∷ (g' ∷ [], [])
    ∷ ([], [])
    ∷ ([], [])
    ∷ ([], [])
    ∷ ([], [])
    ∷ ([], [])
    ∷ ([], [])
    ∷ ([], [])
    ∷ ([], [])
    ∷ ([], []) ∷ []) ∷ [])

wrong_operands-told : told wrong_operands ≡ (Some well, codes "no no no no\nno no no no yes\n") ∷ []
unfolding encode within
wrong_operands-told = refl

-- x = 7
-- x += 3
-- x -= 1
-- x *= 2
-- print(x == 18)
-- x //= 4
-- x %= 3
-- print(x == 1)
-- x |= 8
-- x &= 12
-- x ^= 5
-- x <<= 2
-- x >>= 1
-- print(x == 26)
abbrev augmented_numbers : Result World Refused
augmented_numbers = left_by
    (shop_module
    ∷ program
    (sets x' (int 7)
    ∷ augments (to_name x') Add (int 3)
    ∷ augments (to_name x') Sub (int 1)
    ∷ augments (to_name x') Mul (int 2)
    ∷ prints (compare (var x') ((test.Order Eq, int 18) ∷ []) ∷ [])
    ∷ augments (to_name x') FloorDiv (int 4)
    ∷ augments (to_name x') Mod (int 3)
    ∷ prints (compare (var x') ((test.Order Eq, int 1) ∷ []) ∷ [])
    ∷ augments (to_name x') BitOr (int 8)
    ∷ augments (to_name x') BitAnd (int 12)
    ∷ augments (to_name x') BitXor (int 5)
    ∷ augments (to_name x') LShift (int 2)
    ∷ augments (to_name x') RShift (int 1)
    ∷ prints (compare (var x') ((test.Order Eq, int 26) ∷ []) ∷ []) ∷ []) ((x' ∷ [], []) ∷ []) ∷ [])

augmented_numbers-told : told augmented_numbers ≡ (Some well, codes "True\nTrue\nTrue\n") ∷ []
unfolding encode within
augmented_numbers-told = refl

-- a = ['x']
-- b = a
-- a += ['y']
-- print(b, a)
-- a = a + ['z']
-- print(b, a)
-- b += 'pq'
-- print(b)
abbrev augmented_lists : Result World Refused
augmented_lists = left_by
    (shop_module
    ∷ program
    (sets a' (list (text (codes "x") ∷ []))
    ∷ sets b' (var a')
    ∷ augments (to_name a') Add (list (text (codes "y") ∷ []))
    ∷ prints (var b' ∷ var a' ∷ [])
    ∷ sets a' (binary Add (var a') (list (text (codes "z") ∷ [])))
    ∷ prints (var b' ∷ var a' ∷ [])
    ∷ augments (to_name b') Add (text (codes "pq"))
    ∷ prints (var b' ∷ []) ∷ []) ((a' ∷ b' ∷ [], []) ∷ []) ∷ [])

augmented_lists-told : told augmented_lists
    ≡ (Some well, codes "['x', 'y'] ['x', 'y']\n['x', 'y'] ['x', 'y', 'z']\n['x', 'y', 'p', 'q']\n") ∷ []
unfolding encode within
augmented_lists-told = refl

-- a = ('x',)
-- b = a
-- a += ('y',)
-- print(a, b)
abbrev augmented_tuples : Result World Refused
augmented_tuples = left_by
    (shop_module
    ∷ program
    (sets a' (tuple (text (codes "x") ∷ []))
    ∷ sets b' (var a')
    ∷ augments (to_name a') Add (tuple (text (codes "y") ∷ []))
    ∷ prints (var a' ∷ var b' ∷ []) ∷ []) ((a' ∷ b' ∷ [], []) ∷ []) ∷ [])

augmented_tuples-told : told augmented_tuples ≡ (Some well, codes "('x', 'y') ('x',)\n") ∷ []
unfolding encode within
augmented_tuples-told = refl

-- d = {'n': 1}
-- d['n'] += 4
-- xs = [1, 2]
-- xs[1] *= 5
-- xs[-2] -= 3
-- print(d['n'] == 5, xs[1] == 10, xs[0] == -2)
abbrev augmented_items : Result World Refused
augmented_items = left_by
    (shop_module
    ∷ program
    (sets d' (dict ((text (codes "n"), int 1) ∷ []))
    ∷ augments (to_item (var d') (text (codes "n"))) Add (int 4)
    ∷ sets xs' (list (int 1 ∷ int 2 ∷ []))
    ∷ augments (to_item (var xs') (int 1)) Mul (int 5)
    ∷ augments (to_item (var xs') (unary Neg (int 2))) Sub (int 3)
    ∷ prints
    (compare (item (var d') (text (codes "n"))) ((test.Order Eq, int 5) ∷ [])
    ∷ compare (item (var xs') (int 1)) ((test.Order Eq, int 10) ∷ [])
    ∷ compare (item (var xs') (int 0)) ((test.Order Eq, unary Neg (int 2)) ∷ []) ∷ []) ∷ [])
    ((d' ∷ xs' ∷ [], []) ∷ []) ∷ [])

augmented_items-told : told augmented_items ≡ (Some well, codes "True True True\n") ∷ []
unfolding encode within
augmented_items-told = refl

-- def f():
--     print('f')
--     return 0
-- xs = ['a']
-- xs[f()] += 'b'
-- print(xs)
abbrev place_evaluated_once : Result World Refused
place_evaluated_once = left_by
    (shop_module
    ∷ program
    (define 1 f' (plain_params [])
    (prints (text (codes "f") ∷ []) ∷ stmt_tree.give_back (Some (int 0)) ∷ [])
    ∷ sets xs' (list (text (codes "a") ∷ []))
    ∷ augments (to_item (var xs') (called (var f') [])) Add (text (codes "b"))
    ∷ prints (var xs' ∷ []) ∷ []) ((f' ∷ xs' ∷ [], []) ∷ ([], []) ∷ []) ∷ [])

place_evaluated_once-told : told place_evaluated_once ≡ (Some well, codes "f\n['ab']\n") ∷ []
unfolding encode within
place_evaluated_once-told = refl
