use Rattle.std.proofs.Common.{ℕ, ◌<◌, length, slice_get, Option, IsSomeAnd, subst, arith, below_more, rules}
use Rattle.rp_base.specs.declared.value.Rock.{Rock}
use Rattle.rp_base.specs.declared.value.Value.{Value}
use Rattle.rp_store.specs.Kept.{IsEntry}
use Rattle.rp_store.specs.declared.key.Key.{Key}
use Rattle.rp_tests_parts.proofs.Elements.{of_element}
use Rattle.rp_tests_parts.proofs.soundness.are_entries.Goals as goal

pub loop-i-preserved : goal.loop-i-preserved
loop-i-preserved c =
    let within : c.loop-i.i < length c.args.entries.now = omega arith in
    let heap = c.args.store.now.heap in
    let here : IsSomeAnd (slice_get c.args.entries.now c.loop-i.i) (IsEntry heap) =
    subst (λ (o : Option (Key × (Rock × Value))). IsSomeAnd o (IsEntry heap)) c.at.ensures.pair (c.if-not-is_entry.ensures (search rules)) in
    below_more _ _ c.loop-i.invariant (λ d. of_element (IsEntry heap) c.args.entries.now c.loop-i.i d within here)
