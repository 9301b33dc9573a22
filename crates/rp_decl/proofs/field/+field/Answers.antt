use Rattle.std.proofs.Common.{◌≡◌, [], ◌∷◌, drop, get_or, arith, sym, ◌∙◌}
use Rattle.std.proofs.lemmas.Grind.{common_steps}
use Rattle.toml.specs.View.{members_view}
use Rattle.toml.proofs.Views.{Entry, items_view-drop}
use Rattle.rp_decl.proofs.Documents.{key_texts-ascend}
use Rattle.rp_decl.proofs.Fields.{entries_behind-none, entries_behind-push, entries-push, fields_behind-none, fields_behind-push, fields-push, keys-entries_of}
use Rattle.rp_decl.proofs.field.+field.Goals as goal

pub fields_of-loop-item-preserved : goal.fields_of-loop-item-preserved
fields_of-loop-item-preserved t c =
    let same = c.loop-item.invariant in
    let xs = c.deref-item-items.result.now in
    let i = c.loop-item.item-index in
    let item = c.item-item.result in
    let at : get_or xs i item ≡ item = grind (arith, common_steps) in
    let step = items_view-drop xs i item c.loop-item-test.true in
    record {
      shown = rw (c.in_ok-push.ensures.items, fields_behind-push, c.in_ok-field.ensures.value) (rw (step, at) at same.shown);
      ordered = rw c.in_ok-push.ensures.items (fields-push _ _ same.ordered (rw c.in_ok-field.ensures.value c.in_ok-field.ensures.ordered));
    }

pub fields_of-returns-clause-value : goal.fields_of-returns-clause-value
fields_of-returns-clause-value t c =
    let none : drop c.loop-item.item-index c.deref-item-items.result.now ≡ [] = grind (arith, common_steps) in
    sym (fields_behind-none _) ∙ (rw none at c.loop-item.invariant.shown)

pub fields_of-returns-clause-ordered : goal.fields_of-returns-clause-ordered
fields_of-returns-clause-ordered t c =
    let none : drop c.loop-item.item-index c.deref-item-items.result.now ≡ [] = grind (arith, common_steps) in
    let whole = sym (fields_behind-none _) ∙ (rw none at c.loop-item.invariant.shown) in
    rw whole at c.loop-item.invariant.ordered

pub entries_of-loop-key-preserved : goal.entries_of-loop-key-preserved
entries_of-loop-key-preserved t c =
    let same = c.loop-key.invariant in
    let e : Entry = (c.in-Some.key.now, c.in-Some.value.now) in
    let iter : c.loop-key.key-iterator ≡ e ∷ c.next.new.self = grind (arith, common_steps) in
    let name = rw c.as_str.ensures.value at c.in_ok-name.ensures in
    record {
      shown = rw (c.in_ok-push.ensures.items, entries_behind-push, c.in_ok-field.ensures.value, name) (rw iter at same.shown);
      ordered = rw c.in_ok-push.ensures.items (entries-push _ _ same.ordered (rw c.in_ok-field.ensures.value c.in_ok-field.ensures.ordered));
    }

pub entries_of-returns-clause-value : goal.entries_of-returns-clause-value
entries_of-returns-clause-value t c =
    let none : c.loop-key.key-iterator ≡ [] = grind (arith, common_steps) in
    sym (entries_behind-none _) ∙ (rw none at c.loop-key.invariant.shown)

pub entries_of-returns-clause-ordered : goal.entries_of-returns-clause-ordered
entries_of-returns-clause-ordered t c =
    let none : c.loop-key.key-iterator ≡ [] = grind (arith, common_steps) in
    let whole = sym (entries_behind-none _) ∙ (rw none at c.loop-key.invariant.shown) in
    rw whole at c.loop-key.invariant.ordered

pub entries_of-returns-clause-ascending : goal.entries_of-returns-clause-ascending
entries_of-returns-clause-ascending t c =
    rw (keys-entries_of (members_view c.args.table.now.entries)) (key_texts-ascend c.args.table.now.entries c.iter-key-items.ensures.ordered)
