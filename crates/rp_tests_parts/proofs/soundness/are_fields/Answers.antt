use Rattle.std.proofs.Common.{ℕ, ◌<◌, length, slice_get, Option, IsSomeAnd, subst, arith, below_more, rules}
use Rattle.rp_base.specs.declared.value.Name.{Name}
use Rattle.rp_base.specs.declared.value.Value.{Value}
use Rattle.rp_store.specs.Kept.{IsSound}
use Rattle.rp_tests_parts.proofs.Elements.{of_element}
use Rattle.rp_tests_parts.proofs.soundness.are_fields.Goals as goal

pub loop-i-preserved : goal.loop-i-preserved
loop-i-preserved c =
    let within : c.loop-i.i < length c.args.fields.now = omega arith in
    let heap = c.args.store.now.heap in
    let here : IsSomeAnd (slice_get c.args.fields.now c.loop-i.i) (λ (f : Name × Value). IsSound heap f.1) =
    subst (λ (o : Option (Name × Value)). IsSomeAnd o (λ (f : Name × Value). IsSound heap f.1)) c.at.ensures.pair (c.if-not-is_field.ensures (search rules)) in
    below_more _ _ c.loop-i.invariant (λ d. of_element (λ (f : Name × Value). IsSound heap f.1) c.args.fields.now c.loop-i.i d within here)
