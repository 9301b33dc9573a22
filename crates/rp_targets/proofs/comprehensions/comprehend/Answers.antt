use Rattle.rp_access.specs.Spots.{cursor_at}
use Rattle.rp_targets.proofs.Comprehending.{walk_ends, walk_gives}
use Rattle.rp_engine.proofs.Moves.{end_ok, goes_ok}
use Rattle.rp_engine.proofs.Worlds.{IsReady-goes}
use Rattle.rp_engine.specs.ComprehensionSteps.{comprehension_of, comprehension_over, does_made}
use Rattle.rp_engine.specs.Does as does
use Rattle.rp_targets.proofs.comprehensions.comprehend.Goals as goal

pub returns-in-Ok-clause-law : goal.returns-in-Ok-clause-law
returns-in-Ok-clause-law c =
    let m = c.args.machine.now in
    let w = c.args.world.now in
    let u = c.walk.new.world in
    let b = c.args.parts.block in
    let x = does.clause c.args.parts.first.now in
    let cs = does.clauses c.args.parts.behind.now in
    let r = does_made c.args.parts.made in
    let d = cursor_at c.args.value c.in-Ok.spot in
    goes_ok m c.go_with.new.self w u c.go_with.result (comprehension_of b x cs r c.args.value) (comprehension_over b x cs r d)
    (walk_gives m w u b x cs r c.args.value d c.in-Ok.ensures.law) c.go_with.ensures.law

pub returns-in-Ok-clause-ready : goal.returns-in-Ok-clause-ready
returns-in-Ok-clause-ready c =
    c.go_with.ensures.ready c.walk.new.world (IsReady-goes _ _ _ c.args.world.now c.walk.new.world c.requires.ready c.walk.ensures.shape c.walk.ensures.faithful)
    (c.walk.ensures.shape.fit c.args.machine.now.frame.side c.args.value c.requires.value)

pub returns-in-Err-clause-law : goal.returns-in-Err-clause-law
returns-in-Err-clause-law c =
    let m = c.args.machine.now in
    let w = c.args.world.now in
    let u = c.walk.new.world in
    let b = c.args.parts.block in
    let x = does.clause c.args.parts.first.now in
    let cs = does.clauses c.args.parts.behind.now in
    let r = does_made c.args.parts.made in
    end_ok m c.no_value.new.self w u c.no_value.result (comprehension_of b x cs r c.args.value) c.in-Err.end
    (walk_ends m w u b x cs r c.args.value c.in-Err.end c.in-Err.ensures.law) c.no_value.ensures.law

pub returns-in-Err-clause-ready : goal.returns-in-Err-clause-ready
returns-in-Err-clause-ready c =
    c.no_value.ensures.ready c.walk.new.world (IsReady-goes _ _ _ c.args.world.now c.walk.new.world c.requires.ready c.walk.ensures.shape c.walk.ensures.faithful)
