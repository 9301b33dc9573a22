-- Where steps or cells end, the session stops; no handler takes that.
use Rattle.std.proofs.Common.{◌≡◌, true, [], ◌∷◌, codes, Some, None, refl}
use lib.Utf8.{encode}
use Rattle.rp_base.specs.declared.operator.BinOp.TheVariants.{Add}
use Rattle.rp_base.specs.declared.operator.CmpOp.TheVariants.{Lt, Eq}
use Rattle.rp_compare.specs.Equality.{within}
use Rattle.rp_ops.specs.Outcome.{no_step, no_cell}
use Rattle.rp_tree.specs.declared.parts.Test.TheVariants as test
use Rattle.rp_tree.specs.Statements as stmt_tree
use Rattle.rp_meaning.specs.Sessions.{well, cut_off}
use Rattle.rp_meaning_examples.proofs.Building.{var, int, text, truth, list, compare, binary, attribute, called, to_name, to, plain_params, sets, prints, augments, choose, while, for, handler, try, define}
use Rattle.rp_meaning_examples.proofs.Playing.{Seen, seen, read, played, program}
use Rattle.rp_meaning_examples.proofs.Shop.{shop_module}
use Rattle.rp_meaning_examples.proofs.Words.{a', b', c', else_', f', i', j', o', part', range', x', y', z'}

-- while True:
--     pass
abbrev no_step_left : Seen
no_step_left = played
    (shop_module
    ∷ program (while (truth true) (stmt_tree.pass ∷ []) ∷ []) (([], []) ∷ []) ∷ []) (codes "p" ∷ []) 100000 50 []

no_step_left-seen : no_step_left ≡ seen 0 [] ((Some (cut_off no_step), 0, []) ∷ [])
unfolding encode within
no_step_left-seen = refl

-- try:
--     x = [1, 2, 3]
--     while True:
--         x += x
-- except:
--     print('no')
-- finally:
--     print('no')
abbrev no_cell_left : Seen
no_cell_left = played
    (shop_module
    ∷ program
    (try
    (sets x' (list (int 1 ∷ int 2 ∷ int 3 ∷ []))
    ∷ while (truth true) (augments (to_name x') Add (var x') ∷ []) ∷ [])
    (handler None None (prints (text (codes "no") ∷ []) ∷ []) ∷ []) None
    (Some (prints (text (codes "no") ∷ []) ∷ [])) ∷ [])
    ((x' ∷ [], []) ∷ []) ∷ []) (codes "p" ∷ []) 60 1000000 []

no_cell_left-seen : no_cell_left ≡ seen 49 [] ((Some (cut_off no_cell), 999880, []) ∷ [])
unfolding encode within
no_cell_left-seen = refl

-- print(o.part == ['a'])
-- x = o.part
-- for y in x:
--     for z in x:
--         if y == z:
--             print(y)
abbrev cells_of_entries : Seen
cells_of_entries = played
    (shop_module
    ∷ program
    (prints (compare (attribute (var o') part') ((test.Order Eq, list (text (codes "a") ∷ [])) ∷ []) ∷ [])
    ∷ sets x' (attribute (var o') part')
    ∷ for (to y') (var x')
    (for (to z') (var x')
    (choose ((compare (var y') ((test.Order Eq, var z') ∷ []), prints (var y' ∷ []) ∷ []) ∷ [])
    None ∷ []) ∷ []) ∷ [])
    ((x' ∷ y' ∷ z' ∷ [], []) ∷ []) ∷ []) (codes "p" ∷ []) 100 1000000 []

cells_of_entries-seen : cells_of_entries
    ≡ seen 21
    (read 1 (codes "Item") (codes "part")
    ∷ read 1 (codes "list") (codes "__eq__")
    ∷ read 1 (codes "Item") (codes "part")
    ∷ read 1 (codes "list") (codes "__iter__")
    ∷ read 1 (codes "list") (codes "__iter__")
    ∷ read 1 (codes "list") (codes "__iter__")
    ∷ read 1 (codes "list") (codes "__iter__") ∷ []) ((Some well, 999921, codes "False\na\nb\nc\n") ∷ [])
unfolding encode within
cells_of_entries-seen = refl

-- x = [[], [[]]]
-- print(x)
-- print('text' + 'ual')
abbrev cells_of_text : Seen
cells_of_text = played
    (shop_module
    ∷ program
    (sets x' (list (list [] ∷ list (list [] ∷ []) ∷ []))
    ∷ prints (var x' ∷ [])
    ∷ prints (binary Add (text (codes "text")) (text (codes "ual")) ∷ []) ∷ [])
    ((x' ∷ [], []) ∷ []) ∷ []) (codes "p" ∷ []) 20 1000000 []

cells_of_text-seen : cells_of_text ≡ seen 18 [] ((Some (cut_off no_cell), 999982, codes "[[], [[]]]\n") ∷ [])
unfolding encode within
cells_of_text-seen = refl

-- def f(a, b):
--     c = a
--     return c
-- print(f('x', 'y'))
-- f('p', 'q')
abbrev cells_of_scopes : Seen
cells_of_scopes = played
    (shop_module
    ∷ program
    (define 1 f' (plain_params (a' ∷ b' ∷ [])) (sets c' (var a') ∷ stmt_tree.give_back (Some (var c')) ∷ [])
    ∷ prints (called (var f') (text (codes "x") ∷ text (codes "y") ∷ []) ∷ [])
    ∷ stmt_tree.evaluate (called (var f') (text (codes "p") ∷ text (codes "q") ∷ [])) ∷ [])
    ((f' ∷ [], []) ∷ (a' ∷ b' ∷ c' ∷ [], []) ∷ []) ∷ []) (codes "p" ∷ []) 9 1000000 []

cells_of_scopes-seen : cells_of_scopes ≡ seen 7 [] ((Some (cut_off no_cell), 999983, codes "x\n") ∷ [])
unfolding encode within
cells_of_scopes-seen = refl

-- x = 0
-- while x < 100:
--     x += 1
-- print('end')
abbrev steps_of_while : Seen
steps_of_while = played
    (shop_module
    ∷ program
    (sets x' (int 0)
    ∷ while (compare (var x') ((test.Order Lt, int 100) ∷ [])) (augments (to_name x') Add (int 1) ∷ [])
    ∷ prints (text (codes "end") ∷ []) ∷ [])
    ((x' ∷ [], []) ∷ []) ∷ []) (codes "p" ∷ []) 100000 600 []

steps_of_while-seen : steps_of_while ≡ seen 0 [] ((Some (cut_off no_step), 0, []) ∷ [])
unfolding encode within
steps_of_while-seen = refl

-- for i in range(10):
--     for j in range(10):
--         if i == j:
--             break
--     else_ = 1
-- print('end')
abbrev steps_of_for : Seen
steps_of_for = played
    (shop_module
    ∷ program
    (for (to i') (called (var range') (int 10 ∷ []))
    (for (to j') (called (var range') (int 10 ∷ []))
    (choose ((compare (var i') ((test.Order Eq, var j') ∷ []), stmt_tree.break ∷ []) ∷ []) None ∷ [])
    ∷ sets else_' (int 1) ∷ [])
    ∷ prints (text (codes "end") ∷ []) ∷ [])
    ((i' ∷ j' ∷ else_' ∷ [], []) ∷ []) ∷ []) (codes "p" ∷ []) 100000 400 []

steps_of_for-seen : steps_of_for ≡ seen 125 [] ((Some well, 37, codes "end\n") ∷ [])
unfolding encode within
steps_of_for-seen = refl
