use Rattle.std.proofs.Common.{ℕ, ◌<◌, length, slice_get, Option, IsSomeAnd, subst, arith, below_more, rules}
use Rattle.rp_base.specs.declared.value.Name.{Name}
use Rattle.rp_base.specs.declared.value.Oid.{Oid}
use Rattle.rp_store.specs.Heap.{Names}
use Rattle.rp_store.specs.Parts.{IsFunction}
use Rattle.rp_tests_parts.proofs.Elements.{of_element}
use Rattle.rp_tests_parts.proofs.soundness.are_methods.Goals as goal

pub loop-i-preserved : goal.loop-i-preserved
loop-i-preserved c =
    let within : c.loop-i.i < length c.args.methods.now = omega arith in
    let heap = c.args.store.now.heap in
    let here : IsSomeAnd (slice_get c.args.methods.now c.loop-i.i) (λ (m : Name × Oid). Names heap IsFunction m.1) =
    subst (λ (o : Option (Name × Oid)). IsSomeAnd o (λ (m : Name × Oid). Names heap IsFunction m.1)) c.at.ensures.pair (c.if-not-is_method.ensures (search rules)) in
    below_more _ _ c.loop-i.invariant (λ d. of_element (λ (m : Name × Oid). Names heap IsFunction m.1) c.args.methods.now c.loop-i.i d within here)
