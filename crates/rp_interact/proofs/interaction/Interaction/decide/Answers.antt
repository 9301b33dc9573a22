use Rattle.std.proofs.Common.{inr, refl, sym}
use Rattle.rp_interact.specs.Interacting.{Interacting, has_in}
use Rattle.rp_interact.proofs.Keeping.{after-keep, latest-right, lookup-right, sound-used, used-latest}
use Rattle.rp_interact.proofs.interaction.Interaction.decide.Goals as goal

pub returns-in-Some-clause-answer : goal.returns-in-Some-clause-answer
returns-in-Some-clause-answer c =
    let i : Interacting = record { ids = c.self.inside.ids.items; everybody = c.self.inside.everybody; reasons = c.self.inside.reasons.items; kept = c.self.inside.kept.entries } in
    rw (← c.self.view_is) (latest-right i c.self.inside.kept.cap c.args.permission c.in-Some.answer c.self.invariant (sym c.in-Some.ensures))

pub returns-in-Some-clause-held : goal.returns-in-Some-clause-held
returns-in-Some-clause-held c held =
    let i : Interacting = record { ids = c.self.inside.ids.items; everybody = c.self.inside.everybody; reasons = c.self.inside.reasons.items; kept = c.self.inside.kept.entries } in
    rw (← c.self.view_is) (used-latest i c.args.permission c.in-Some.answer (sym c.in-Some.ensures))

pub returns-in-Some-clause-other : goal.returns-in-Some-clause-other
returns-in-Some-clause-other c none = inr refl

pub invariant_of-self : goal.invariant_of-self
invariant_of-self c = rw c.recall.ensures.latest (sound-used _ _ c.args.permission c.self.invariant)

pub returns-in-Some-recall-clause-answer : goal.returns-in-Some-recall-clause-answer
returns-in-Some-recall-clause-answer c =
    let i : Interacting = record { ids = c.self.inside.ids.items; everybody = c.self.inside.everybody; reasons = c.self.inside.reasons.items; kept = c.self.inside.kept.entries } in
    rw (← c.self.view_is) (lookup-right (has_in i) c.args.permission _ _ c.self.invariant.right (sym c.in-Some-recall.ensures.found))

pub invariant_of-self-2 : goal.invariant_of-self-2
invariant_of-self-2 c = rw c.recall.ensures.latest (sound-used _ _ c.args.permission c.self.invariant)

pub invariant_of-self-3 : goal.invariant_of-self-3
invariant_of-self-3 c =
    let i : Interacting = record { ids = c.self.inside.ids.items; everybody = c.self.inside.everybody; reasons = c.self.inside.reasons.items; kept = c.self.inside.kept.entries } in
    (after-keep i c.self.inside.kept.cap c.args.permission _ _ _ c.self.invariant (sym c.in_default-recall.ensures.found) c.recall.ensures.latest c.has-answer.ensures c.keep.ensures).0

pub returns-clause-other : goal.returns-clause-other
returns-clause-other c none =
    let i : Interacting = record { ids = c.self.inside.ids.items; everybody = c.self.inside.everybody; reasons = c.self.inside.reasons.items; kept = c.self.inside.kept.entries } in
    rw (← c.self.view_is) ((after-keep i c.self.inside.kept.cap c.args.permission _ _ _ c.self.invariant (sym c.in_default-recall.ensures.found) c.recall.ensures.latest c.has-answer.ensures c.keep.ensures).1)
