use Rattle.std.proofs.Common.{sym, ap, ◌∙◌, arith}
use Rattle.rp_frame.specs.declared.spot.Adds.{Adds}
use Rattle.rp_meaning.specs.Frame.{Run}
use Rattle.rp_meaning.specs.State.{State}
use Rattle.rp_proxy.specs.declared.world.World.{World}
use Rattle.rp_access.specs.Moment.{state_of}
use Rattle.rp_engine.proofs.Moves.{on_ok}
use Rattle.rp_engine.specs.Does as does
use Rattle.rp_engine.specs.Law.{Executes, frame_in, rest_of}
use Rattle.rp_engine.specs.Rest.{did, rest}
use Rattle.rp_frame.specs.declared.spot.Adds.TheVariants as added
use Rattle.std.proofs.Common.{◌≡◌}
use Rattle.rp_targets.proofs.comprehensions.add.Goals as goal

pub returns-in-Element-clause-law : goal.returns-in-Element-clause-law
returns-in-Element-clause-law c =
    let m = c.args.machine.now in
    let n = c.wait.new.self in
    let a = added.Element c.in-Element.at c.in-Element.x in
    on_ok c.wait.result ((base : Run) (s : State) → rest_of base n s ≡ rest m.tasks (did (frame_in base m) m.values (does.adds a (frame_in base m) s))) ((w : World) → Executes (does.adds c.args.adds) m w n w)
    (λ law w base. law base (state_of w) ∙ ap (λ (a : Adds). rest m.tasks (did (frame_in base m) m.values (does.adds a (frame_in base m) (state_of w)))) (sym c.in-Element.is)) c.wait.ensures.law

pub returns-in-Entry-clause-law : goal.returns-in-Entry-clause-law
returns-in-Entry-clause-law c =
    let m = c.args.machine.now in
    let n = c.wait-in-Entry.new.self in
    let a = added.Entry c.in-Entry.at c.in-Entry.key c.in-Entry.x in
    on_ok c.wait-in-Entry.result ((base : Run) (s : State) → rest_of base n s ≡ rest m.tasks (did (frame_in base m) m.values (does.adds a (frame_in base m) s)))
    ((w : World) → Executes (does.adds c.args.adds) m w n w)
    (λ law w base. law base (state_of w) ∙ ap (λ (a : Adds). rest m.tasks (did (frame_in base m) m.values (does.adds a (frame_in base m) (state_of w)))) (sym c.in-Entry.is)) c.wait-in-Entry.ensures.law

pub returns-in-Element-clause-less : goal.returns-in-Element-clause-less
returns-in-Element-clause-less c = rw c.in-Element.is (grind (arith, c.wait.ensures.less))

pub returns-in-Entry-clause-less : goal.returns-in-Entry-clause-less
returns-in-Entry-clause-less c = rw c.in-Entry.is (grind (arith, c.wait-in-Entry.ensures.less))
