use Rattle.std.proofs.Common.{rules, ◌∙◌}
use Rattle.std.proofs.lemmas.List.Sorted.{All-permutation, answers_always}
use Rattle.rp_store.specs.Kept.{IsSound}
use Rattle.rp_native.specs.OrderSteps.{number_first, number_key}
use Rattle.rp_native.proofs.StableOrders.{stably-sorted}
use Rattle.rp_native.proofs.ValueOrders.{numbers-same, number_first-order}
use Rattle.rp_native.proofs.sorts.numbers_in_order.Goals as goal

pub returns-clause-sorted : goal.returns-clause-sorted
returns-clause-sorted c =
    let sorted = c.in_ok-sort_by_cached_key.ensures.sorted number_key (answers_always _ _ _ (λ f a r f' called. search rules)) in
    let stable = c.sort_by_cached_key.ensures.stable number_key (answers_always _ _ _ (λ f a r f' called. search rules)) in
    stably-sorted number_first number_first-order c.args.values.items c.sort_by_cached_key.new.self.items sorted stable
    ∙ numbers-same c.args.values.items c.requires.numbers

pub returns-clause-sound : goal.returns-clause-sound
returns-clause-sound c = λ heap sound.
    All-permutation (IsSound heap) c.args.values.items c.sort_by_cached_key.new.self.items c.sort_by_cached_key.ensures.permutation sound
