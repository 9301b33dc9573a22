use Rattle.std.proofs.Common.{refl}
use Rattle.rp_ops.specs.View.{key_rock}
use Rattle.rp_methods.proofs.Walked.{collected-next}
use Rattle.rp_methods.proofs.dict_views.keys_of.Goals as goal

pub loop-rock-preserved : goal.loop-rock-preserved
loop-rock-preserved c =
    collected-next key_rock c.loop-rock.keys.items c.push_key.new.keys.items (c.in-Some.field-0-0.now, c.in-Some.field-0-1.now) c.next.new.self c.loop-rock.walk c.args.entries.now _
    c.loop-rock.invariant c.in-Some.ensures c.in_ok-push_key.ensures refl
