-- Which handler takes an exception, what `else` and `finally` do, and how exceptions go through calls.
-- What is printed is what CPython prints.
use Rattle.std.proofs.Common.{◌≡◌, true, false, [], ◌∷◌, codes, Some, None, Result, refl}
use lib.Utf8.{encode}
use Rattle.rp_base.specs.declared.operator.BinOp.TheVariants.{Add, Sub, FloorDiv}
use Rattle.rp_base.specs.declared.operator.CmpOp.TheVariants.{Eq}
use Rattle.rp_compare.specs.Equality.{within}
use Rattle.rp_tree.specs.declared.parts.Test.TheVariants as test
use Rattle.rp_tree.specs.Statements as stmt_tree
use Rattle.rp_meaning.specs.Load.{Refused}
use Rattle.rp_meaning.specs.Sessions.{World, well}
use Rattle.rp_meaning_examples.proofs.Building.{var, int, text, nil, truth, tuple, list, dict, compare, binary, item, called, to, plain_params, lambda, clause, list_of, sets, prints, choose, for, handler, try, define}
use Rattle.rp_meaning_examples.proofs.Playing.{left_by, told, program}
use Rattle.rp_meaning_examples.proofs.Shop.{shop_module}
use Rattle.rp_meaning_examples.proofs.Words.{ArithmeticError', AssertionError', Exception', IndexError', KeyError', LookupError', NameError', TypeError', ValueError', ZeroDivisionError', e', e2', f', g', i', k', n', range', undefined', x', xs'}

-- def f(x):
--     try:
--         try:
--             if x:
--                 raise ValueError('v')
--             return 'try'
--         finally:
--             print('inner')
--     except ValueError as e:
--         return e
--     finally:
--         print('outer')
-- print(f(False))
-- print(f(True))
abbrev last_blocks_in_order : Result World Refused
last_blocks_in_order = left_by
    (shop_module
    ∷ program
    (define 1 f' (plain_params (x' ∷ []))
    (try
    (try
    (choose ((var x', stmt_tree.raise (Some (called (var ValueError') (text (codes "v") ∷ []))) ∷ []) ∷ [])
    None
    ∷ stmt_tree.give_back (Some (text (codes "try"))) ∷ []) [] None
    (Some (prints (text (codes "inner") ∷ []) ∷ [])) ∷ [])
    (handler (Some (var ValueError')) (Some e') (stmt_tree.give_back (Some (var e')) ∷ []) ∷ []) None
    (Some (prints (text (codes "outer") ∷ []) ∷ [])) ∷ [])
    ∷ prints (called (var f') (truth false ∷ []) ∷ [])
    ∷ prints (called (var f') (truth true ∷ []) ∷ []) ∷ []) ((f' ∷ [], []) ∷ (x' ∷ e' ∷ [], []) ∷ []) ∷ [])

last_blocks_in_order-told : told last_blocks_in_order ≡ (Some well, codes "inner\nouter\ntry\ninner\nouter\nv\n") ∷ []
unfolding encode within
last_blocks_in_order-told = refl

-- try:
--     try:
--         [][0]
--     except KeyError:
--         print('wrong')
--     print('never')
-- except IndexError:
--     print('outer')
abbrev outer_handler : Result World Refused
outer_handler = left_by
    (shop_module
    ∷ program
    (try
    (try (stmt_tree.evaluate (item (list []) (int 0)) ∷ [])
    (handler (Some (var KeyError')) None (prints (text (codes "wrong") ∷ []) ∷ []) ∷ []) None None
    ∷ prints (text (codes "never") ∷ []) ∷ [])
    (handler (Some (var IndexError')) None (prints (text (codes "outer") ∷ []) ∷ []) ∷ []) None None ∷ [])
    (([], []) ∷ []) ∷ [])

outer_handler-told : told outer_handler ≡ (Some well, codes "outer\n") ∷ []
unfolding encode within
outer_handler-told = refl

-- try:
--     try:
--         print('a')
--     except ValueError:
--         print('wrong')
--     else:
--         raise ValueError('b')
--     finally:
--         print('c')
-- except ValueError as e:
--     print(e)
abbrev else_is_not_guarded : Result World Refused
else_is_not_guarded = left_by
    (shop_module
    ∷ program
    (try
    (try (prints (text (codes "a") ∷ []) ∷ [])
    (handler (Some (var ValueError')) None (prints (text (codes "wrong") ∷ []) ∷ []) ∷ [])
    (Some (stmt_tree.raise (Some (called (var ValueError') (text (codes "b") ∷ []))) ∷ []))
    (Some (prints (text (codes "c") ∷ []) ∷ [])) ∷ [])
    (handler (Some (var ValueError')) (Some e') (prints (var e' ∷ []) ∷ []) ∷ []) None None ∷ [])
    ((e' ∷ [], []) ∷ []) ∷ [])

else_is_not_guarded-told : told else_is_not_guarded ≡ (Some well, codes "a\nc\nb\n") ∷ []
unfolding encode within
else_is_not_guarded-told = refl

-- for x in ['a', 'b', 'c']:
--     try:
--         if x == 'b':
--             break
--         print(x)
--     finally:
--         print('last', x)
abbrev break_through_finally : Result World Refused
break_through_finally = left_by
    (shop_module
    ∷ program
    (for (to x') (list (text (codes "a") ∷ text (codes "b") ∷ text (codes "c") ∷ []))
    (try
    (choose ((compare (var x') ((test.Order Eq, text (codes "b")) ∷ []), stmt_tree.break ∷ []) ∷ []) None
    ∷ prints (var x' ∷ []) ∷ []) [] None (Some (prints (text (codes "last") ∷ var x' ∷ []) ∷ [])) ∷ []) ∷ [])
    ((x' ∷ [], []) ∷ []) ∷ [])

break_through_finally-told : told break_through_finally ≡ (Some well, codes "a\nlast a\nlast b\n") ∷ []
unfolding encode within
break_through_finally-told = refl

-- for x in ['a', 'b']:
--     try:
--         continue
--     finally:
--         print(x)
-- print('end')
abbrev continue_through_finally : Result World Refused
continue_through_finally = left_by
    (shop_module
    ∷ program
    (for (to x') (list (text (codes "a") ∷ text (codes "b") ∷ []))
    (try (stmt_tree.continue ∷ []) [] None (Some (prints (var x' ∷ []) ∷ [])) ∷ [])
    ∷ prints (text (codes "end") ∷ []) ∷ []) ((x' ∷ [], []) ∷ []) ∷ [])

continue_through_finally-told : told continue_through_finally ≡ (Some well, codes "a\nb\nend\n") ∷ []
unfolding encode within
continue_through_finally-told = refl

-- def f():
--     try:
--         raise ValueError('v')
--     except ValueError:
--         print('first')
--         raise
-- try:
--     f()
-- except Exception as e:
--     print('second', e)
abbrev raised_again : Result World Refused
raised_again = left_by
    (shop_module
    ∷ program
    (define 1 f' (plain_params [])
    (try (stmt_tree.raise (Some (called (var ValueError') (text (codes "v") ∷ []))) ∷ [])
    (handler (Some (var ValueError')) None
    (prints (text (codes "first") ∷ []) ∷ stmt_tree.raise None ∷ []) ∷ []) None None ∷ [])
    ∷ try (stmt_tree.evaluate (called (var f') []) ∷ [])
    (handler (Some (var Exception')) (Some e') (prints (text (codes "second") ∷ var e' ∷ []) ∷ []) ∷ [])
    None None ∷ []) ((f' ∷ e' ∷ [], []) ∷ ([], []) ∷ []) ∷ [])

raised_again-told : told raised_again ≡ (Some well, codes "first\nsecond v\n") ∷ []
unfolding encode within
raised_again-told = refl

-- try:
--     try:
--         raise ValueError('v')
--     except ValueError as e:
--         raise TypeError('t')
--     finally:
--         print('last')
-- except TypeError as e:
--     print(e)
abbrev raised_by_handler : Result World Refused
raised_by_handler = left_by
    (shop_module
    ∷ program
    (try
    (try (stmt_tree.raise (Some (called (var ValueError') (text (codes "v") ∷ []))) ∷ [])
    (handler (Some (var ValueError')) (Some e')
    (stmt_tree.raise (Some (called (var TypeError') (text (codes "t") ∷ []))) ∷ []) ∷ []) None
    (Some (prints (text (codes "last") ∷ []) ∷ [])) ∷ [])
    (handler (Some (var TypeError')) (Some e') (prints (var e' ∷ []) ∷ []) ∷ []) None None ∷ [])
    ((e' ∷ [], []) ∷ []) ∷ [])

raised_by_handler-told : told raised_by_handler ≡ (Some well, codes "last\nt\n") ∷ []
unfolding encode within
raised_by_handler-told = refl

-- try:
--     {}['k']
-- except LookupError:
--     print('lookup')
-- except KeyError:
--     print('key')
-- except:
--     print('all')
abbrev first_handler : Result World Refused
first_handler = left_by
    (shop_module
    ∷ program
    (try (stmt_tree.evaluate (item (dict []) (text (codes "k"))) ∷ [])
    (handler (Some (var LookupError')) None (prints (text (codes "lookup") ∷ []) ∷ [])
    ∷ handler (Some (var KeyError')) None (prints (text (codes "key") ∷ []) ∷ [])
    ∷ handler None None (prints (text (codes "all") ∷ []) ∷ []) ∷ []) None None ∷ []) (([], []) ∷ []) ∷ [])

first_handler-told : told first_handler ≡ (Some well, codes "lookup\n") ∷ []
unfolding encode within
first_handler-told = refl

-- for f in [lambda: {}['k'], lambda: [][0], lambda: 1 // 0]:
--     try:
--         f()
--     except (KeyError, IndexError):
--         print('lookup')
--     except ArithmeticError:
--         print('arithmetic')
abbrev handler_of_several : Result World Refused
handler_of_several = left_by
    (shop_module
    ∷ program
    (for (to f')
    (list
    (lambda 1 (plain_params []) (item (dict []) (text (codes "k")))
    ∷ lambda 2 (plain_params []) (item (list []) (int 0))
    ∷ lambda 3 (plain_params []) (binary FloorDiv (int 1) (int 0)) ∷ []))
    (try (stmt_tree.evaluate (called (var f') []) ∷ [])
    (handler (Some (tuple (var KeyError' ∷ var IndexError' ∷ []))) None
    (prints (text (codes "lookup") ∷ []) ∷ [])
    ∷ handler (Some (var ArithmeticError')) None (prints (text (codes "arithmetic") ∷ []) ∷ []) ∷ []) None
    None ∷ []) ∷ []) ((f' ∷ [], []) ∷ ([], []) ∷ ([], []) ∷ ([], []) ∷ []) ∷ [])

handler_of_several-told : told handler_of_several ≡ (Some well, codes "lookup\nlookup\narithmetic\n") ∷ []
unfolding encode within
handler_of_several-told = refl

-- def f(g, k):
--     try:
--         g()
--     except k:
--         return 'taken'
--     except Exception:
--         return 'not taken'
-- print(f(lambda: {}['k'], LookupError), f(lambda: 1 // 0, ArithmeticError), f(lambda: undefined, NameError))
-- print(f(lambda: [][0], KeyError), f(lambda: 1 // 0, ZeroDivisionError), f(lambda: [][0], Exception))
abbrev kinds_above : Result World Refused
kinds_above = left_by
    (shop_module
    ∷ program
    (define 1 f' (plain_params (g' ∷ k' ∷ []))
    (try (stmt_tree.evaluate (called (var g') []) ∷ [])
    (handler (Some (var k')) None (stmt_tree.give_back (Some (text (codes "taken"))) ∷ [])
    ∷ handler (Some (var Exception')) None (stmt_tree.give_back (Some (text (codes "not taken"))) ∷ []) ∷ [])
    None None ∷ [])
    ∷ prints
    (called (var f')
    (lambda 2 (plain_params []) (item (dict []) (text (codes "k"))) ∷ var LookupError' ∷ [])
    ∷ called (var f')
    (lambda 3 (plain_params []) (binary FloorDiv (int 1) (int 0)) ∷ var ArithmeticError' ∷ [])
    ∷ called (var f') (lambda 4 (plain_params []) (var undefined') ∷ var NameError' ∷ []) ∷ [])
    ∷ prints
    (called (var f') (lambda 5 (plain_params []) (item (list []) (int 0)) ∷ var KeyError' ∷ [])
    ∷ called (var f')
    (lambda 6 (plain_params []) (binary FloorDiv (int 1) (int 0)) ∷ var ZeroDivisionError' ∷ [])
    ∷ called (var f') (lambda 7 (plain_params []) (item (list []) (int 0)) ∷ var Exception' ∷ []) ∷ []) ∷ [])
    ((f' ∷ [], [])
    ∷ (g' ∷ k' ∷ [], [])
    ∷ ([], [])
    ∷ ([], [])
    ∷ ([], [])
    ∷ ([], [])
    ∷ ([], [])
    ∷ ([], []) ∷ []) ∷ [])

kinds_above-told : told kinds_above ≡ (Some well, codes "taken taken taken\nnot taken taken taken\n") ∷ []
unfolding encode within
kinds_above-told = refl

-- e = ValueError('m')
-- print(e)
-- try:
--     raise e
-- except ValueError as e2:
--     print(e2)
-- print(e)
abbrev exception_values : Result World Refused
exception_values = left_by
    (shop_module
    ∷ program
    (sets e' (called (var ValueError') (text (codes "m") ∷ []))
    ∷ prints (var e' ∷ [])
    ∷ try (stmt_tree.raise (Some (var e')) ∷ [])
    (handler (Some (var ValueError')) (Some e2') (prints (var e2' ∷ []) ∷ []) ∷ []) None None
    ∷ prints (var e' ∷ []) ∷ []) ((e' ∷ e2' ∷ [], []) ∷ []) ∷ [])

exception_values-told : told exception_values ≡ (Some well, codes "m\nm\nm\n") ∷ []
unfolding encode within
exception_values-told = refl

-- e = 'before'
-- try:
--     raise ValueError('v')
-- except ValueError as e:
--     print(e)
-- try:
--     print(e)
-- except NameError:
--     print('unbound')
abbrev name_of_handler : Result World Refused
name_of_handler = left_by
    (shop_module
    ∷ program
    (sets e' (text (codes "before"))
    ∷ try (stmt_tree.raise (Some (called (var ValueError') (text (codes "v") ∷ []))) ∷ [])
    (handler (Some (var ValueError')) (Some e') (prints (var e' ∷ []) ∷ []) ∷ []) None None
    ∷ try (prints (var e' ∷ []) ∷ [])
    (handler (Some (var NameError')) None (prints (text (codes "unbound") ∷ []) ∷ []) ∷ []) None None ∷ [])
    ((e' ∷ [], []) ∷ []) ∷ [])

name_of_handler-told : told name_of_handler ≡ (Some well, codes "v\nunbound\n") ∷ []
unfolding encode within
name_of_handler-told = refl

-- try:
--     raise ValueError
-- except ValueError as e:
--     print(e)
--     print('empty')
abbrev kind_without_call : Result World Refused
kind_without_call = left_by
    (shop_module
    ∷ program
    (try (stmt_tree.raise (Some (var ValueError')) ∷ [])
    (handler (Some (var ValueError')) (Some e')
    (prints (var e' ∷ []) ∷ prints (text (codes "empty") ∷ []) ∷ []) ∷ []) None None ∷ [])
    ((e' ∷ [], []) ∷ []) ∷ [])

kind_without_call-told : told kind_without_call ≡ (Some well, codes "\nempty\n") ∷ []
unfolding encode within
kind_without_call-told = refl

-- def f():
--     print('message')
--     return 'm'
-- assert True, f()
-- try:
--     assert [], f()
-- except AssertionError as e:
--     print(e)
-- try:
--     assert 0
-- except AssertionError as e:
--     print(e)
abbrev assertions : Result World Refused
assertions = left_by
    (shop_module
    ∷ program
    (define 1 f' (plain_params [])
    (prints (text (codes "message") ∷ []) ∷ stmt_tree.give_back (Some (text (codes "m"))) ∷ [])
    ∷ stmt_tree.assert (truth true) (Some (called (var f') []))
    ∷ try (stmt_tree.assert (list []) (Some (called (var f') [])) ∷ [])
    (handler (Some (var AssertionError')) (Some e') (prints (var e' ∷ []) ∷ []) ∷ []) None None
    ∷ try (stmt_tree.assert (int 0) None ∷ [])
    (handler (Some (var AssertionError')) (Some e') (prints (var e' ∷ []) ∷ []) ∷ []) None None ∷ [])
    ((f' ∷ e' ∷ [], []) ∷ ([], []) ∷ []) ∷ [])

assertions-told : told assertions ≡ (Some well, codes "message\nm\n\n") ∷ []
unfolding encode within
assertions-told = refl

-- def f(n):
--     try:
--         if n == 0:
--             raise ValueError('deep')
--         f(n - 1)
--     finally:
--         print('left', n == 2)
-- try:
--     f(2)
-- except ValueError as e:
--     print(e)
abbrev through_calls : Result World Refused
through_calls = left_by
    (shop_module
    ∷ program
    (define 1 f' (plain_params (n' ∷ []))
    (try
    (choose
    ((
      compare (var n') ((test.Order Eq, int 0) ∷ []),
      stmt_tree.raise (Some (called (var ValueError') (text (codes "deep") ∷ []))) ∷ [],
    ) ∷ []) None
    ∷ stmt_tree.evaluate (called (var f') (binary Sub (var n') (int 1) ∷ [])) ∷ []) [] None
    (Some (prints (text (codes "left") ∷ compare (var n') ((test.Order Eq, int 2) ∷ []) ∷ []) ∷ [])) ∷ [])
    ∷ try (stmt_tree.evaluate (called (var f') (int 2 ∷ [])) ∷ [])
    (handler (Some (var ValueError')) (Some e') (prints (var e' ∷ []) ∷ []) ∷ []) None None ∷ [])
    ((f' ∷ e' ∷ [], []) ∷ (n' ∷ [], []) ∷ []) ∷ [])

through_calls-told : told through_calls ≡ (Some well, codes "left False\nleft False\nleft True\ndeep\n") ∷ []
unfolding encode within
through_calls-told = refl

-- for x in ['a', 1, 'b', None]:
--     try:
--         print('x' + x)
--     except TypeError:
--         print('skipped')
abbrev loop_goes_on : Result World Refused
loop_goes_on = left_by
    (shop_module
    ∷ program
    (for (to x') (list (text (codes "a") ∷ int 1 ∷ text (codes "b") ∷ nil ∷ []))
    (try (prints (binary Add (text (codes "x")) (var x') ∷ []) ∷ [])
    (handler (Some (var TypeError')) None (prints (text (codes "skipped") ∷ []) ∷ []) ∷ []) None
    None ∷ []) ∷ []) ((x' ∷ [], []) ∷ []) ∷ [])

loop_goes_on-told : told loop_goes_on ≡ (Some well, codes "xa\nskipped\nxb\nskipped\n") ∷ []
unfolding encode within
loop_goes_on-told = refl

-- def f(x):
--     print(x)
--     return x
-- try:
--     print(f('a'), [][1], f('b'))
-- except IndexError:
--     print('no call')
abbrev exception_among_arguments : Result World Refused
exception_among_arguments = left_by
    (shop_module
    ∷ program
    (define 1 f' (plain_params (x' ∷ [])) (prints (var x' ∷ []) ∷ stmt_tree.give_back (Some (var x')) ∷ [])
    ∷ try
    (prints
    (called (var f') (text (codes "a") ∷ [])
    ∷ item (list []) (int 1)
    ∷ called (var f') (text (codes "b") ∷ []) ∷ []) ∷ [])
    (handler (Some (var IndexError')) None (prints (text (codes "no call") ∷ []) ∷ []) ∷ []) None None ∷ [])
    ((f' ∷ [], []) ∷ (x' ∷ [], []) ∷ []) ∷ [])

exception_among_arguments-told : told exception_among_arguments ≡ (Some well, codes "a\nno call\n") ∷ []
unfolding encode within
exception_among_arguments-told = refl

-- def f(xs):
--     for x in xs:
--         try:
--             if x:
--                 return x
--         finally:
--             print('seen', x)
--     return 'none'
-- print(f(['', 'a', 'b']))
-- print(f([]))
abbrev return_out_of_loop : Result World Refused
return_out_of_loop = left_by
    (shop_module
    ∷ program
    (define 1 f' (plain_params (xs' ∷ []))
    (for (to x') (var xs')
    (try (choose ((var x', stmt_tree.give_back (Some (var x')) ∷ []) ∷ []) None ∷ []) [] None
    (Some (prints (text (codes "seen") ∷ var x' ∷ []) ∷ [])) ∷ [])
    ∷ stmt_tree.give_back (Some (text (codes "none"))) ∷ [])
    ∷ prints (called (var f') (list (text [] ∷ text (codes "a") ∷ text (codes "b") ∷ []) ∷ []) ∷ [])
    ∷ prints (called (var f') (list [] ∷ []) ∷ []) ∷ []) ((f' ∷ [], []) ∷ (xs' ∷ x' ∷ [], []) ∷ []) ∷ [])

return_out_of_loop-told : told return_out_of_loop ≡ (Some well, codes "seen \nseen a\na\nnone\n") ∷ []
unfolding encode within
return_out_of_loop-told = refl

-- try:
--     x = [1 // i for i in [1, 0]]
-- except ZeroDivisionError:
--     x = 'none'
-- print(x)
abbrev exception_in_comprehension : Result World Refused
exception_in_comprehension = left_by
    (shop_module
    ∷ program
    (try
    (sets x'
    (list_of 1 (binary FloorDiv (int 1) (var i')) (clause (to i') (list (int 1 ∷ int 0 ∷ [])) [] ∷ [])) ∷ [])
    (handler (Some (var ZeroDivisionError')) None (sets x' (text (codes "none")) ∷ []) ∷ []) None None
    ∷ prints (var x' ∷ []) ∷ []) ((x' ∷ [], []) ∷ (i' ∷ [], []) ∷ []) ∷ [])

exception_in_comprehension-told : told exception_in_comprehension ≡ (Some well, codes "none\n") ∷ []
unfolding encode within
exception_in_comprehension-told = refl

-- def f():
--     for i in range(3):
--         try:
--             return 'try'
--         finally:
--             if i == 0:
--                 continue
--             return 'finally'
--     return 'end'
-- print(f())
abbrev return_in_last_block : Result World Refused
return_in_last_block = left_by
    (shop_module
    ∷ program
    (define 1 f' (plain_params [])
    (for (to i') (called (var range') (int 3 ∷ []))
    (try (stmt_tree.give_back (Some (text (codes "try"))) ∷ []) [] None
    (Some
    (choose ((compare (var i') ((test.Order Eq, int 0) ∷ []), stmt_tree.continue ∷ []) ∷ []) None
    ∷ stmt_tree.give_back (Some (text (codes "finally"))) ∷ [])) ∷ [])
    ∷ stmt_tree.give_back (Some (text (codes "end"))) ∷ [])
    ∷ prints (called (var f') [] ∷ []) ∷ []) ((f' ∷ [], []) ∷ (i' ∷ [], []) ∷ []) ∷ [])

return_in_last_block-told : told return_in_last_block ≡ (Some well, codes "finally\n") ∷ []
unfolding encode within
return_in_last_block-told = refl
