use Rattle.std.proofs.Common.{◌∷◌, subst}
use Rattle.std.specs.Prelude.{OnOk}
use Rattle.rp_frame.specs.declared.display.Display.TheVariants.{Dict}
use Rattle.rp_engine.proofs.Gatherings.{gathers_next}
use Rattle.rp_engine.specs.DisplaySteps.{parts}
use Rattle.rp_engine.specs.Does as does
use Rattle.rp_engine.specs.GatheringSteps.{Gathers}
use Rattle.rp_engine.specs.declared.machine.Machine.{Machine}
use Rattle.rp_expressions.proofs.dict_displays.after_dict_key.Goals as goal

pub returns-clause-law : goal.returns-clause-law
returns-clause-law c =
    let w = c.args.world.now in
    let n = c.dict_value.new.machine in
    let v = c.dict_value.new.world in
    let r = c.dict_value.result in
    let ms = does.expr c.args.value.now ∷ parts (does.pairs c.args.rest.now) in
    let more = c.in_ok-count.count in
    gathers_next c.args.machine.now n w v r Dict c.args.count ms c.args.key more c.in_ok-count.ensures
    (subst (λ (z : Machine). OnOk r (Gathers Dict more ms z w n v)) c.in_ok-hold.ensures.held c.dict_value.ensures.law)
