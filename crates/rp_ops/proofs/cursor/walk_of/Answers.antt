use Rattle.rp_ops.specs.Outcome.{state_of}
use Rattle.rp_ops.proofs.Cursors.{gives-elements}
use Rattle.rp_ops.proofs.cursor.walk_of.Goals as goal

pub returns-in-Rock-clause-whole : goal.returns-in-Rock-clause-whole
returns-in-Rock-clause-whole c = (λ steps. gives-elements c.args.value.now (state_of c.args.store.now steps))

pub returns-in-Ref-clause-whole : goal.returns-in-Ref-clause-whole
returns-in-Ref-clause-whole c = (λ steps. gives-elements c.args.value.now (state_of c.args.store.now steps))

pub returns-in-Prox-clause-whole : goal.returns-in-Prox-clause-whole
returns-in-Prox-clause-whole c = (λ steps. gives-elements c.args.value.now (state_of c.args.store.now steps))
