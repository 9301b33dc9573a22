-- What the variables of scripts hold in the end, and the steps and cells that it takes.
use Rattle.std.proofs.Common.{◌≡◌, [], ◌∷◌, codes, Some, None, Result, refl}
use lib.Utf8.{encode}
use Rattle.rp_base.specs.declared.kind.Kind.TheVariants.{NameError}
use Rattle.rp_base.specs.declared.operator.BinOp.TheVariants.{Add, Mul, Sub}
use Rattle.rp_base.specs.declared.operator.CmpOp.TheVariants.{Lt}
use Rattle.rp_base.specs.declared.value.Rock.TheVariants as rock
use Rattle.rp_base.specs.declared.value.Value.TheVariants as value
use Rattle.rp_ops.specs.Outcome.{no_step}
use Rattle.rp_store.specs.Object as object
use Rattle.rp_trail.specs.Entry.{allowed}
use Rattle.rp_tree.specs.declared.parts.Test.TheVariants as test
use Rattle.rp_tree.specs.Expressions as tree
use Rattle.rp_tree.specs.Statements as stmt_tree
use Rattle.rp_meaning.specs.Load.{Refused}
use Rattle.rp_meaning.specs.Scopes.{outer}
use Rattle.rp_meaning.specs.Sessions.{World, cut_off}
use Rattle.rp_meaning_examples.proofs.Building.{var, int, list, compare, binary, call_part, primary, attribute, called, to_name, to, plain_params, lambda, clause, list_of, sets, prints, augments, choose, while, handler, try, define}
use Rattle.rp_meaning_examples.proofs.Playing.{leaves, variable, content, ends, steps_left, printed_by, cells_used, trail, number, program}
use Rattle.rp_meaning_examples.proofs.Shop.{shop_module}
use Rattle.rp_meaning_examples.proofs.Words.{NameError', f', n', o', x', y'}

-- x = 1 + 2
abbrev sum : Result World Refused
sum = leaves
    (shop_module ∷ program (sets x' (binary Add (int 1) (int 2)) ∷ []) ((x' ∷ [], []) ∷ []) ∷ [])
    (codes "p" ∷ []) 10

sum-variable : variable 0 sum ≡ Some (number 3) ∷ []
unfolding encode
sum-variable = refl

-- a statement, two numbers and a later operand
sum-steps : steps_left sum ≡ 6 ∷ []
unfolding encode
sum-steps = refl

-- x = 0
-- while x < 5:
--     x += 1
abbrev counting : Result World Refused
counting = leaves
    (shop_module
    ∷ program
    (sets x' (int 0)
    ∷ while (compare (var x') ((test.Order Lt, int 5) ∷ [])) (augments (to_name x') Add (int 1) ∷ []) ∷ [])
    ((x' ∷ [], []) ∷ []) ∷ []) (codes "p" ∷ []) 100

counting-variable : variable 0 counting ≡ Some (number 5) ∷ []
unfolding encode
counting-variable = refl

-- three for the statements and the first number, six for each turn, four for the last test
counting-steps : steps_left counting ≡ 63 ∷ []
unfolding encode
counting-steps = refl

-- where the steps end, so does the script
--
-- x = 0
-- while x < 5:
--     x += 1
abbrev counting_stopped : Result World Refused
counting_stopped = leaves
    (shop_module
    ∷ program
    (sets x' (int 0)
    ∷ while (compare (var x') ((test.Order Lt, int 5) ∷ [])) (augments (to_name x') Add (int 1) ∷ []) ∷ [])
    ((x' ∷ [], []) ∷ []) ∷ []) (codes "p" ∷ []) 20

counting_stopped-end : ends counting_stopped ≡ Some (cut_off no_step) ∷ []
unfolding encode
counting_stopped-end = refl

-- def f(n):
--     if n < 2:
--         return 1
--     return n * f(n - 1)
-- x = f(5)
abbrev factorial : Result World Refused
factorial = leaves
    (shop_module
    ∷ program
    (define 1 f' (plain_params (n' ∷ []))
    (choose ((compare (var n') ((test.Order Lt, int 2) ∷ []), stmt_tree.give_back (Some (int 1)) ∷ []) ∷ [])
    None
    ∷ stmt_tree.give_back (Some (binary Mul (var n') (called (var f') (binary Sub (var n') (int 1) ∷ [])))) ∷ [])
    ∷ sets x' (called (var f') (int 5 ∷ [])) ∷ []) ((f' ∷ x' ∷ [], []) ∷ (n' ∷ [], []) ∷ []) ∷ [])
    (codes "p" ∷ []) 1000

factorial-variable : variable 1 factorial ≡ Some (number 120) ∷ []
unfolding encode
factorial-variable = refl

-- the function costs a cell, and each call's scope two
factorial-cells : cells_used factorial ≡ Some 11
unfolding encode
factorial-cells = refl

-- try:
--     x = y
-- except NameError as f:
--     x = f
-- finally:
--     y = 2
abbrev handling : Result World Refused
handling = leaves
    (shop_module
    ∷ program
    (try (sets x' (var y') ∷ []) (handler (Some (var NameError')) (Some f') (sets x' (var f') ∷ []) ∷ [])
    None (Some (sets y' (int 2) ∷ [])) ∷ []) ((x' ∷ f' ∷ y' ∷ [], []) ∷ []) ∷ []) (codes "p" ∷ []) 100

handling-variable : variable 0 handling ≡ Some (value.Rock (rock.Exc NameError (codes "y"))) ∷ []
unfolding encode
handling-variable = refl

-- the name behind `as` is unbound at the end of the handler
handling-unbound : variable 1 handling ≡ None ∷ []
unfolding encode
handling-unbound = refl

handling-last : variable 2 handling ≡ Some (number 2) ∷ []
unfolding encode
handling-last = refl

-- x = [y * y for y in [0, 1, 2, 3] if y]
abbrev squares : Result World Refused
squares = leaves
    (shop_module
    ∷ program
    (sets x'
    (list_of 1 (binary Mul (var y') (var y'))
    (clause (to y') (list (int 0 ∷ int 1 ∷ int 2 ∷ int 3 ∷ [])) (var y' ∷ []) ∷ [])) ∷ [])
    ((x' ∷ [], []) ∷ (y' ∷ [], []) ∷ []) ∷ []) (codes "p" ∷ []) 100

squares-content : content 0 squares ≡ Some (object.list (number 1 ∷ number 4 ∷ number 9 ∷ [])) ∷ []
unfolding encode
squares-content = refl

squares-cells : cells_used squares ≡ Some 11
unfolding encode
squares-cells = refl

-- x = (lambda n: lambda y: n + y)(1)(2)
abbrev function_within : Result World Refused
function_within = leaves
    (shop_module
    ∷ program
    (sets x'
    (primary
    (lambda 1 (plain_params (n' ∷ [])) (lambda 2 (plain_params (y' ∷ [])) (binary Add (var n') (var y'))))
    (call_part (tree.value (int 1) ∷ []) ∷ call_part (tree.value (int 2) ∷ []) ∷ [])) ∷ [])
    ((x' ∷ [], []) ∷ (n' ∷ [], []) ∷ (y' ∷ [], (n', outer 1 0) ∷ []) ∷ []) ∷ []) (codes "p" ∷ []) 100

function_within-variable : variable 0 function_within ≡ Some (number 3) ∷ []
unfolding encode
function_within-variable = refl

-- print(o.n)
abbrev lent_read : Result World Refused
lent_read = leaves
    (shop_module ∷ program (prints (attribute (var o') n' ∷ []) ∷ []) (([], []) ∷ []) ∷ []) (codes "p" ∷ [])
    100

lent_read-printed : printed_by lent_read ≡ codes "seven\n" ∷ []
unfolding encode
lent_read-printed = refl

lent_read-trail : trail lent_read
    ≡ record {
      session = 1;
      op = codes "get";
      class = codes "Item";
      name = codes "n";
      verdict = allowed (Some (codes "zope.View"));
    } ∷ []
unfolding encode
lent_read-trail = refl
