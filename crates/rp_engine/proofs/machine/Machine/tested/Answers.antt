use Rattle.rp_engine.proofs.machine.Machine.tested.Goals as goal

pub returns-in-Order : goal.returns-in-Order
returns-in-Order c = rw c.in-Order.is c.ordered.ensures
