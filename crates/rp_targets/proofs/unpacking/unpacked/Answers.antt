use Rattle.rp_targets.proofs.Unpacked.{put_ready, unpacked_waits}
use Rattle.rp_targets.proofs.unpacking.unpacked.Goals as goal

pub returns-clause-law : goal.returns-clause-law
returns-clause-law c =
    unpacked_waits c.args.machine.now c.wait.new.self c.wait.result c.args.targets.now c.args.elements.items c.put.new.self c.in_ok-put.ensures.put c.requires.count c.wait.ensures.law

pub returns-clause-ready : goal.returns-clause-ready
returns-clause-ready c =
    let m = c.args.machine.now in
    λ w h fit. c.wait.ensures.ready w (put_ready m.units.now m.frame c.args.elements.items m.values c.put.new.self w c.in_ok-put.ensures.put h fit)
