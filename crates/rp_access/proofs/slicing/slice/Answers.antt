use Rattle.rp_access.proofs.Sliced.{slice_faithful}
use Rattle.rp_access.proofs.slicing.slice.Goals as goal

pub returns-clause-faithful : goal.returns-clause-faithful
returns-clause-faithful c =
    let p = c.args.parts in
    slice_faithful c.args.world.now c.slice.new.store c.slice.result c.args.o.now p.from.now p.to.now p.step.now (c.slice.ensures.plain 0) c.slice.ensures.same c.requires.faithful
