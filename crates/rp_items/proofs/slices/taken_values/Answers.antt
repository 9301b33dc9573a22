use Rattle.std.proofs.Common.{ℕ, List, [], ◌∷◌, ◌++◌, filter_map, length, slice_get, ◌∙◌, ap, sym}
use Rattle.std.specs.List.{range_with_len}
use Rattle.rp_base.specs.declared.value.Value.{Value}
use Rattle.rp_items.specs.SliceView.{place_at}
use Rattle.rp_items.proofs.Sliced.{read-at}
use Rattle.rp_items.proofs.SlicePlaces.{taken-more}
use Rattle.rp_items.proofs.slices.taken_values.Goals as goal

pub at-requires-clause-within : goal.at-requires-clause-within
at-requires-clause-within c = (length c.args.values.now, (c.requires.small, c.requires.within))

pub loop-m-preserved : goal.loop-m-preserved
loop-m-preserved c =
    let vs = c.args.values.now in
    let p = c.args.places in
    let h = λ (k : ℕ). slice_get vs (place_at p k) in
    let value = c.index-values-at.result in
    let so_far = filter_map h (range_with_len 0 c.loop-m.m) in
    c.in_ok-push.ensures.items ∙ ap (λ (l : List Value). l ++ c.in_ok-copy.field-0 ∷ []) c.loop-m.invariant
    ∙ ap (λ (v : Value). so_far ++ v ∷ []) c.in_ok-copy.ensures
    ∙ sym (taken-more h c.loop-m.m value (read-at vs p c.loop-m.m c.at.result value c.at.ensures c.loop-m-test.true c.requires.within c.index-values-at.is))
