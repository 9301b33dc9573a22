use Rattle.rp_interact.specs.Interacting.{Interacting}
use Rattle.rp_interact.proofs.Keeping.{latest-told, latest-used, latest-kept}
use Rattle.rp_interact.proofs.interaction.Interaction.last_answer.Goals as goal

pub returns-clause-answer : goal.returns-clause-answer
returns-clause-answer c =
    let i : Interacting = record { ids = c.self.inside.ids.items; everybody = c.self.inside.everybody; reasons = c.self.inside.reasons.items; kept = c.self.inside.kept.entries } in
    rw (← c.self.view_is) (latest-told i c.self.inside.kept.cap c.args.permission c.latest.result c.self.invariant c.latest.ensures)

pub returns-clause-same : goal.returns-clause-same
returns-clause-same c some =
    let i : Interacting = record { ids = c.self.inside.ids.items; everybody = c.self.inside.everybody; reasons = c.self.inside.reasons.items; kept = c.self.inside.kept.entries } in
    rw (← c.self.view_is) (latest-used i c.args.permission c.latest.result some c.latest.ensures)

pub returns-clause-kept : goal.returns-clause-kept
returns-clause-kept c some =
    let i : Interacting = record { ids = c.self.inside.ids.items; everybody = c.self.inside.everybody; reasons = c.self.inside.reasons.items; kept = c.self.inside.kept.entries } in
    rw (← c.self.view_is) (latest-kept i c.args.permission c.latest.result some c.latest.ensures)
