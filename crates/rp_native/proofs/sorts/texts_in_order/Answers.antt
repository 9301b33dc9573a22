use Rattle.std.proofs.Common.{rules, ◌∙◌}
use Rattle.std.proofs.lemmas.List.Sorted.{All-permutation, answers_always}
use Rattle.rp_store.specs.Kept.{IsSound}
use Rattle.rp_native.specs.OrderSteps.{text_first}
use Rattle.rp_native.proofs.StableOrders.{stably-sorted}
use Rattle.rp_native.proofs.ValueOrders.{texts-same, text_first-order}
use Rattle.rp_native.proofs.sorts.texts_in_order.Goals as goal

pub returns-clause-sorted : goal.returns-clause-sorted
returns-clause-sorted c =
    let sorted = c.in_ok-sort_by.ensures.sorted text_first text_first-order (answers_always _ _ _ (λ f a r f' called. search rules)) in
    let stable = c.sort_by.ensures.stable text_first text_first-order (answers_always _ _ _ (λ f a r f' called. search rules)) in
    stably-sorted text_first text_first-order c.args.values.items c.sort_by.new.self.items sorted stable ∙ texts-same c.args.values.items c.requires.texts

pub returns-clause-sound : goal.returns-clause-sound
returns-clause-sound c = λ heap sound.
    All-permutation (IsSound heap) c.args.values.items c.sort_by.new.self.items c.sort_by.ensures.permutation sound
