use Rattle.std.proofs.Common.{refl}
use Rattle.rp_base.specs.declared.value.Rock.{Rock}
use Rattle.rp_base.specs.declared.value.Value.{Value}
use Rattle.rp_store.specs.declared.key.Key.{Key}
use Rattle.rp_methods.proofs.Walked.{collected-next}
use Rattle.rp_methods.proofs.dict_views.values_of.Goals as goal

pub loop-value-preserved : goal.loop-value-preserved
loop-value-preserved c =
    let seen : Key × (Rock × Value) → Value = (λ e. e.1.1) in
    collected-next seen c.loop-value.values.items c.push_value.new.values.items (c.in-Some.field-0-0.now, c.in-Some.field-0-1.now) c.next.new.self c.loop-value.walk c.args.entries.now _
    c.loop-value.invariant c.in-Some.ensures c.in_ok-push_value.ensures refl
