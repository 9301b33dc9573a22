-- The trusted modules of the examples: a function and a class with special methods, and more classes and functions.
use Rattle.std.proofs.Common.{List, [], ◌∷◌, codes, Some, None}
use Rattle.rp_base.specs.declared.word.TheConstants.{CALL, CONTAINS, DEL_ITEM, GET_ITEM, INIT, ITEMS, LEN, SET_ITEM}
use Rattle.rp_base.specs.declared.operator.BinOp.TheVariants.{Add}
use Rattle.rp_tree.specs.declared.parts.Test.TheVariants as test
use Rattle.rp_tree.specs.Expressions as tree
use Rattle.rp_tree.specs.Statements as stmt_tree
use Rattle.rp_meaning.specs.Frame.{Program}
use Rattle.rp_meaning.specs.Scopes.{outer}
use Rattle.rp_meaning_examples.proofs.Building.{var, text, list, dict, compare, binary, named_part, item_part, call_part, primary, attribute, called, to_attribute, to_item, params, plain_params, handler, try, define, class}
use Rattle.rp_meaning_examples.proofs.Playing.{Block, program}
use Rattle.rp_meaning_examples.proofs.Words.{Bad', Box', Exception', Inner', Item', Len', Plain', d', e', f', fun', i', k', len', make', more', n', o', part', rest', self', total', tries', v', who', x', y'}

-- def fun(x, y='dd', *rest, **more):
--     return [x, y, rest, more]
-- class Item:
--     def __init__(self, n):
--         self.n = n
--     def total(self):
--         return self.n + '!'
--     def __getitem__(self, i):
--         return self.part[i]
--     def __len__(self):
--         return len(self.part)
--     def __contains__(self, x):
--         return x in self.part
--     def __call__(self, f):
--         return f(self)
abbrev pub shop : List stmt_tree.StmtForm
shop =
    define 1 fun' (params ((x', None) ∷ (y', Some (text (codes "dd"))) ∷ []) (Some rest') (Some more'))
    (stmt_tree.give_back (Some (list (var x' ∷ var y' ∷ var rest' ∷ var more' ∷ []))) ∷ [])
    ∷ class Item'
    (define 2 INIT (plain_params (self' ∷ n' ∷ []))
    (stmt_tree.assign (to_attribute (var self') n' ∷ []) (var n') ∷ [])
    ∷ define 3 total' (plain_params (self' ∷ []))
    (stmt_tree.give_back (Some (binary Add (attribute (var self') n') (text (codes "!")))) ∷ [])
    ∷ define 4 GET_ITEM (plain_params (self' ∷ i' ∷ []))
    (stmt_tree.give_back (Some (primary (var self') (named_part part' ∷ item_part (var i') ∷ []))) ∷ [])
    ∷ define 5 LEN (plain_params (self' ∷ []))
    (stmt_tree.give_back (Some (called (var len') (attribute (var self') part' ∷ []))) ∷ [])
    ∷ define 6 CONTAINS (plain_params (self' ∷ x' ∷ []))
    (stmt_tree.give_back (Some (compare (var x') ((test.Within, attribute (var self') part') ∷ []))) ∷ [])
    ∷ define 7 CALL (plain_params (self' ∷ f' ∷ []))
    (stmt_tree.give_back (Some (called (var f') (var self' ∷ []))) ∷ []) ∷ []) ∷ []

-- the blocks of its functions
abbrev pub shop_blocks : List Block
shop_blocks =
    (x' ∷ y' ∷ rest' ∷ more' ∷ [], [])
    ∷ (self' ∷ n' ∷ [], [])
    ∷ (self' ∷ [], [])
    ∷ (self' ∷ i' ∷ [], [])
    ∷ (self' ∷ [], [])
    ∷ (self' ∷ x' ∷ [], [])
    ∷ (self' ∷ f' ∷ [], []) ∷ []

-- the module of most examples
abbrev pub shop_module : Program
shop_module = program shop ((Item' ∷ ITEMS ∷ o' ∷ fun' ∷ [], []) ∷ shop_blocks)

-- class Box:
--     def __init__(self):
--         self.d = {}
--     def __setitem__(self, k, v):
--         self.d[k] = [k, v]
--         return 'ignored'
--     def __getitem__(self, k):
--         return self.d[k]
--     def __delitem__(self, k):
--         del self.d[k]
-- class Bad:
--     def __init__(self):
--         return 'x'
-- class Plain:
--     pass
-- class Len:
--     def __len__(self):
--         return self.n
-- def tries(f, *rest):
--     try:
--         return f(*rest)
--     except Exception as e:
--         return [e]
-- def make():
--     class Inner:
--         def who(self):
--             return 'inner'
--     return Inner().who()
abbrev pub more_classes : List stmt_tree.StmtForm
more_classes =
    class Box'
    (define 8 INIT (plain_params (self' ∷ [])) (stmt_tree.assign (to_attribute (var self') d' ∷ []) (dict []) ∷ [])
    ∷ define 9 SET_ITEM (plain_params (self' ∷ k' ∷ v' ∷ []))
    (stmt_tree.assign (to_item (attribute (var self') d') (var k') ∷ []) (list (var k' ∷ var v' ∷ []))
    ∷ stmt_tree.give_back (Some (text (codes "ignored"))) ∷ [])
    ∷ define 10 GET_ITEM (plain_params (self' ∷ k' ∷ []))
    (stmt_tree.give_back (Some (primary (var self') (named_part d' ∷ item_part (var k') ∷ []))) ∷ [])
    ∷ define 11 DEL_ITEM (plain_params (self' ∷ k' ∷ []))
    (stmt_tree.del (to_item (attribute (var self') d') (var k') ∷ []) ∷ []) ∷ [])
    ∷ class Bad' (define 12 INIT (plain_params (self' ∷ [])) (stmt_tree.give_back (Some (text (codes "x"))) ∷ []) ∷ [])
    ∷ class Plain' (stmt_tree.pass ∷ [])
    ∷ class Len' (define 13 LEN (plain_params (self' ∷ [])) (stmt_tree.give_back (Some (attribute (var self') n')) ∷ []) ∷ [])
    ∷ define 14 tries' (params ((f', None) ∷ []) (Some rest') None)
    (try (stmt_tree.give_back (Some (primary (var f') (call_part (tree.star (var rest') ∷ []) ∷ []))) ∷ [])
    (handler (Some (var Exception')) (Some e') (stmt_tree.give_back (Some (list (var e' ∷ []))) ∷ []) ∷ [])
    None None ∷ [])
    ∷ define 15 make' (plain_params [])
    (class Inner'
    (define 16 who' (plain_params (self' ∷ [])) (stmt_tree.give_back (Some (text (codes "inner"))) ∷ []) ∷ [])
    ∷ stmt_tree.give_back (Some (primary (var Inner') (call_part [] ∷ named_part who' ∷ call_part [] ∷ []))) ∷ []) ∷ []

-- the blocks of its functions, behind those of the shop
abbrev pub more_blocks : List Block
more_blocks =
    (self' ∷ [], [])
    ∷ (self' ∷ k' ∷ v' ∷ [], [])
    ∷ (self' ∷ k' ∷ [], [])
    ∷ (self' ∷ k' ∷ [], [])
    ∷ (self' ∷ [], [])
    ∷ (self' ∷ [], [])
    ∷ (f' ∷ rest' ∷ e' ∷ [], [])
    ∷ (Inner' ∷ [], [])
    ∷ (self' ∷ [], (Inner', outer 1 0) ∷ []) ∷ []
