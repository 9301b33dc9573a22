use Rattle.rp_methods.proofs.Copies.{set-next}
use Rattle.rp_methods.proofs.dict_views.copied.Goals as goal

pub loop-key-preserved : goal.loop-key-preserved
loop-key-preserved c =
    set-next c.loop-key.all c.set_copy.new.all c.next.new.self c.loop-key.walk c.args.entries.now (c.in-Some.key.now, c.in-Some.field-0-1.now) c.loop-key.invariant
    c.in-Some.ensures c.walk-walk.ensures.distinct c.in_ok-set_copy.ensures
