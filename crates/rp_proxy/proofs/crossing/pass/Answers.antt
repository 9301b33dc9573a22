use Rattle.std.proofs.Common.{◌≡◌, ◌+◌, ◌≤◌, None, refl}
use Rattle.rp_proxy.proofs.Pushed.{cell_left, no_fault, pushed-IsFaithful, pushed-OnlyDecides, pushed-decided, pushed-entry}
use Rattle.rp_trail.specs.declared.entry.Verdict.TheVariants.{Allowed}
use Rattle.rp_proxy.proofs.crossing.pass.Goals as goal

pub returns-in-Ok-clause-faithful : goal.returns-in-Ok-clause-faithful
returns-in-Ok-clause-faithful c =
    let w = c.args.world.now in
    rw (c.in-Ok.ensures.charged, c.in-Ok.ensures.pushed)
    (pushed-IsFaithful w c.args.at c.args.op c.is_named.result c.args.class c.args.row (Allowed c.args.row) w.running.interaction c.requires.faithful c.requires.found c.requires.row_is c.requires.verdict c.requires.asked c.is_named.ensures)

pub returns-in-Ok-clause-else_same : goal.returns-in-Ok-clause-else_same
returns-in-Ok-clause-else_same c =
    let w = c.args.world.now in
    rw (c.in-Ok.ensures.charged, c.in-Ok.ensures.pushed)
    (pushed-OnlyDecides w c.args.at c.args.op c.is_named.result c.args.class c.args.row (Allowed c.args.row) w.running.interaction c.requires.faithful c.requires.found c.requires.row_is c.requires.verdict c.requires.asked c.is_named.ensures)

pub returns-in-Ok-clause-decided : goal.returns-in-Ok-clause-decided
returns-in-Ok-clause-decided c =
    let w = c.args.world.now in
    let few : w.store.used + 1 ≤ w.store.limit = cell_left w.store.limit w.store.used (λ over. no_fault (c.in-Ok.ensures.cells.1 over)) in
    rw (c.in-Ok.ensures.charged, c.in-Ok.ensures.pushed)
    (pushed-decided w c.args.at c.args.op c.is_named.result c.args.class c.args.row (Allowed c.args.row) w.running.interaction c.requires.faithful c.requires.found c.requires.row_is c.requires.verdict c.requires.asked c.is_named.ensures None few refl)

pub returns-in-Ok-clause-logged : goal.returns-in-Ok-clause-logged
returns-in-Ok-clause-logged c =
    let w = c.args.world.now in
    rw c.in-Ok.ensures.pushed
    (pushed-entry w c.args.at c.args.op c.is_named.result c.args.class c.args.row (Allowed c.args.row) w.running.interaction c.requires.faithful c.requires.found c.requires.row_is c.requires.verdict c.requires.asked c.is_named.ensures)
