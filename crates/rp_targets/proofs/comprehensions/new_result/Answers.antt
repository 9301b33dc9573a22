use Rattle.std.proofs.Common.{[], List, subst, sym}
use Rattle.std.proofs.lemmas.List.Elements.{All-nil}
use Rattle.rp_access.specs.Comes.{Comes}
use Rattle.rp_access.specs.Moment.{state_of}
use Rattle.rp_base.specs.declared.value.Value.{Value}
use Rattle.rp_frame.specs.declared.display.Display.{Display}
use Rattle.rp_store.specs.Kept.{AreFit, IsFit}
use Rattle.rp_engine.specs.DisplaySteps.{makes_display}
use Rattle.rp_targets.proofs.comprehensions.new_result.Goals as goal

pub new_display-requires-clause-fit : goal.new_display-requires-clause-fit
new_display-requires-clause-fit c =
    let heap = c.args.world.now.store.heap in
    subst (AreFit heap c.args.side) (sym c.new.ensures.items) (All-nil (IsFit heap c.args.side))

pub returns-clause-law : goal.returns-clause-law
returns-clause-law c =
    let r = c.new_display.result in
    let s = state_of c.args.world.now in
    let t = state_of c.new_display.new.world in
    subst (λ (d : Display). Comes r t (makes_display c.args.side d [] s)) c.display_of.ensures
    (subst (λ (vs : List Value). Comes r t (makes_display c.args.side c.display_of.result vs s)) c.new.ensures.items c.new_display.ensures.law)
