use Rattle.rp_calls.specs.Binding.{defaults_at}
use Rattle.rp_calls.specs.View.{slots_of}
use Rattle.rp_enter.proofs.Entered.{bound_comes, bound_faithful}
use Rattle.rp_enter.proofs.entering.bound.Goals as goal

pub returns-clause-law : goal.returns-clause-law
returns-clause-law c =
    let w = c.args.world.now in
    bound_comes w c.bind.new.store (slots_of c.bind.result) c.args.entry.side c.args.params.now (defaults_at w.store.heap c.args.entry.function) c.args.args.now c.args.named.now
    (c.bind.ensures.plain w.running.meter.left)

pub returns-clause-faithful : goal.returns-clause-faithful
returns-clause-faithful c =
    let w = c.args.world.now in
    bound_faithful w c.bind.new.store c.bind.result c.args.entry.side c.args.params.now (defaults_at w.store.heap c.args.entry.function) c.args.args.now c.args.named.now
    (c.bind.ensures.plain 0) c.requires.faithful
