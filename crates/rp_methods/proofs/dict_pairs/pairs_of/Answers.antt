use Rattle.std.proofs.Common.{refl}
use Rattle.rp_base.specs.declared.value.Rock.{Rock}
use Rattle.rp_base.specs.declared.value.Value.{Value}
use Rattle.rp_store.specs.declared.key.Key.{Key}
use Rattle.rp_ops.specs.View.{handed}
use Rattle.rp_methods.proofs.Walked.{collected-next}
use Rattle.rp_methods.proofs.dict_pairs.pairs_of.Goals as goal

pub loop-rock-preserved : goal.loop-rock-preserved
loop-rock-preserved c =
    let seen : Key × (Rock × Value) → Rock × Value = (λ e. (e.1.0, handed c.args.lent e.1.1)) in
    collected-next seen c.loop-rock.all.items c.push_pair.new.all.items (c.in-Some.field-0-0.now, c.in-Some.field-0-1.now) c.next.new.self c.loop-rock.walk c.args.entries.now _
    c.loop-rock.invariant c.in-Some.ensures c.in_ok-push_pair.ensures refl
