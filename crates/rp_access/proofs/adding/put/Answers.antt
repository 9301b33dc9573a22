use Rattle.std.proofs.Common.{subst, sym}
use Rattle.rp_ops.specs.Outcome as plain
use Rattle.rp_access.proofs.Additions.{put_nothing}
use Rattle.rp_access.proofs.adding.put.Goals as goal

pub returns-clause-plain : goal.returns-clause-plain
returns-clause-plain c = λ steps.
    subst (λ (o : plain.Outcome (Unit {0})). plain.Meets c.charge_one.result (plain.state_of c.charge_one.new.store steps) o)
    (sym (put_nothing (plain.state_of c.args.store.now steps) c.args.at c.args.value (c.is_list.ensures.other c.if-is_list.false))) (c.charge_one.ensures.plain steps)

pub put_last-requires-clause-held : goal.put_last-requires-clause-held
put_last-requires-clause-held c = c.is_list.ensures.held c.if-is_list.true

pub put_last-requires-clause-list : goal.put_last-requires-clause-list
put_last-requires-clause-list c = c.is_list.ensures.list c.if-is_list.true
