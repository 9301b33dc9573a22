use Rattle.std.proofs.Common.{◌≡◌, ◌+◌, ◌≤◌, Err, None, Some, arith, rules}
use Rattle.rp_base.specs.declared.value.OpEnd.TheVariants.{Memory}
use Rattle.rp_decl.specs.View.{name_text}
use Rattle.rp_trail.specs.View.{op_name, verdict_view}
use Rattle.rp_proxy.proofs.Decisions.{monitor-keeping}
use Rattle.rp_proxy.proofs.Pushed.{pushed-IsFaithful, pushed-OnlyDecides, pushed-decided, pushed-entry}
use Rattle.rp_proxy.specs.Decide.{refusal}
use Rattle.rp_proxy.proofs.Worlds.{asked_keeps, after-IsFaithful, after-OnlyDecides}
use Rattle.rp_proxy.proofs.crossing.ask.Goals as goal

pub returns-in_err-refusal-clause-faithful : goal.returns-in_err-refusal-clause-faithful
returns-in_err-refusal-clause-faithful c =
    let w = c.args.world.now in
    rw c.refusal_of.ensures.same
    (after-IsFaithful w w.store.used w.trail c.verdict_of-verdict.new.interaction (asked_keeps c.args.row w.running.interaction c.verdict_of-verdict.new.interaction c.verdict_of-verdict.ensures.asked) c.requires.faithful c.requires.faithful.entries)

pub returns-in_err-refusal-clause-else_same : goal.returns-in_err-refusal-clause-else_same
returns-in_err-refusal-clause-else_same c =
    let w = c.args.world.now in
    rw c.refusal_of.ensures.same
    (after-OnlyDecides w w.store.used w.trail c.verdict_of-verdict.new.interaction (asked_keeps c.args.row w.running.interaction c.verdict_of-verdict.new.interaction c.verdict_of-verdict.ensures.asked))

pub returns-in_err-refusal-clause-decided : goal.returns-in_err-refusal-clause-decided
returns-in_err-refusal-clause-decided c =
    let w = c.args.world.now in
    let i = c.verdict_of-verdict.new.interaction in
    let same = monitor-keeping w i (asked_keeps c.args.row w.running.interaction i c.verdict_of-verdict.ensures.asked) in
    let e : c.from_residual.result ≡ Err Memory = search rules in
    rw (e, c.refusal_of.ensures.same) same

pub returns-in-Err-Memory-clause-faithful : goal.returns-in-Err-Memory-clause-faithful
returns-in-Err-Memory-clause-faithful c =
    let w = c.args.world.now in
    let i = c.verdict_of-verdict.new.interaction in
    rw (c.in-Err-Memory.ensures.store_same, c.in-Err-Memory.ensures.trail_same, c.refusal_of.ensures.same)
    (after-IsFaithful w w.store.used w.trail i (asked_keeps c.args.row w.running.interaction i c.verdict_of-verdict.ensures.asked) c.requires.faithful c.requires.faithful.entries)

pub returns-in-Err-Memory-clause-decided : goal.returns-in-Err-Memory-clause-decided
returns-in-Err-Memory-clause-decided c =
    let w = c.args.world.now in
    let i = c.verdict_of-verdict.new.interaction in
    rw (c.in-Err-Memory.ensures.store_same, c.in-Err-Memory.ensures.trail_same, c.refusal_of.ensures.same)
    (monitor-keeping w i (asked_keeps c.args.row w.running.interaction i c.verdict_of-verdict.ensures.asked))

pub returns-in-Err-Memory-clause-else_same : goal.returns-in-Err-Memory-clause-else_same
returns-in-Err-Memory-clause-else_same c =
    let w = c.args.world.now in
    let i = c.verdict_of-verdict.new.interaction in
    rw (c.in-Err-Memory.ensures.store_same, c.in-Err-Memory.ensures.trail_same, c.refusal_of.ensures.same)
    (after-OnlyDecides w w.store.used w.trail i (asked_keeps c.args.row w.running.interaction i c.verdict_of-verdict.ensures.asked))

pub returns-in-None-clause-faithful : goal.returns-in-None-clause-faithful
returns-in-None-clause-faithful c =
    let w = c.args.world.now in
    rw (c.in-Ok.ensures.charged, c.in-Ok.ensures.pushed, c.refusal_of.ensures.same)
    (pushed-IsFaithful w c.args.at c.args.op c.is_named.result c.args.class c.args.row c.verdict_of-verdict.result c.verdict_of-verdict.new.interaction c.requires.faithful c.requires.found c.requires.row_is c.verdict_of-verdict.ensures.verdict c.verdict_of-verdict.ensures.asked c.is_named.ensures)

pub returns-in-None-clause-else_same : goal.returns-in-None-clause-else_same
returns-in-None-clause-else_same c =
    let w = c.args.world.now in
    rw (c.in-Ok.ensures.charged, c.in-Ok.ensures.pushed, c.refusal_of.ensures.same)
    (pushed-OnlyDecides w c.args.at c.args.op c.is_named.result c.args.class c.args.row c.verdict_of-verdict.result c.verdict_of-verdict.new.interaction c.requires.faithful c.requires.found c.requires.row_is c.verdict_of-verdict.ensures.verdict c.verdict_of-verdict.ensures.asked c.is_named.ensures)

pub returns-in-None-clause-decided : goal.returns-in-None-clause-decided
returns-in-None-clause-decided c =
    let w = c.args.world.now in
    let few : w.store.used + 1 ≤ w.store.limit = omega (arith, c.used.ensures.value, c.used.ensures.within, c.limit.ensures, c.if-used-limit.false) in
    let refused : None ≡ refusal (name_text w.names (op_name c.args.op)) (verdict_view w.decl.permissions c.verdict_of-verdict.result) = rw (← c.in-None.is) c.in_ok-refusal.ensures.refusal in
    rw (c.in-Ok.ensures.charged, c.in-Ok.ensures.pushed, c.refusal_of.ensures.same)
    (pushed-decided w c.args.at c.args.op c.is_named.result c.args.class c.args.row c.verdict_of-verdict.result c.verdict_of-verdict.new.interaction c.requires.faithful c.requires.found c.requires.row_is c.verdict_of-verdict.ensures.verdict c.verdict_of-verdict.ensures.asked c.is_named.ensures None few refused)

pub returns-in-Some-clause-faithful : goal.returns-in-Some-clause-faithful
returns-in-Some-clause-faithful c =
    let w = c.args.world.now in
    rw (c.in-Ok.ensures.charged, c.in-Ok.ensures.pushed, c.refusal_of.ensures.same)
    (pushed-IsFaithful w c.args.at c.args.op c.is_named.result c.args.class c.args.row c.verdict_of-verdict.result c.verdict_of-verdict.new.interaction c.requires.faithful c.requires.found c.requires.row_is c.verdict_of-verdict.ensures.verdict c.verdict_of-verdict.ensures.asked c.is_named.ensures)

pub returns-in-Some-clause-else_same : goal.returns-in-Some-clause-else_same
returns-in-Some-clause-else_same c =
    let w = c.args.world.now in
    rw (c.in-Ok.ensures.charged, c.in-Ok.ensures.pushed, c.refusal_of.ensures.same)
    (pushed-OnlyDecides w c.args.at c.args.op c.is_named.result c.args.class c.args.row c.verdict_of-verdict.result c.verdict_of-verdict.new.interaction c.requires.faithful c.requires.found c.requires.row_is c.verdict_of-verdict.ensures.verdict c.verdict_of-verdict.ensures.asked c.is_named.ensures)

pub returns-in-Some-clause-decided : goal.returns-in-Some-clause-decided
returns-in-Some-clause-decided c =
    let w = c.args.world.now in
    let few : w.store.used + 1 ≤ w.store.limit = omega (arith, c.used.ensures.value, c.used.ensures.within, c.limit.ensures, c.if-used-limit.false) in
    let refused : (Some c.in-Some.raised) ≡ refusal (name_text w.names (op_name c.args.op)) (verdict_view w.decl.permissions c.verdict_of-verdict.result) = rw (← c.in-Some.is) c.in_ok-refusal.ensures.refusal in
    rw (c.in-Ok.ensures.charged, c.in-Ok.ensures.pushed, c.refusal_of.ensures.same)
    (pushed-decided w c.args.at c.args.op c.is_named.result c.args.class c.args.row c.verdict_of-verdict.result c.verdict_of-verdict.new.interaction c.requires.faithful c.requires.found c.requires.row_is c.verdict_of-verdict.ensures.verdict c.verdict_of-verdict.ensures.asked c.is_named.ensures (Some c.in-Some.raised) few refused)

pub returns-in-None-clause-logged : goal.returns-in-None-clause-logged
returns-in-None-clause-logged c =
    let w = c.args.world.now in
    rw c.in-Ok.ensures.pushed
    (pushed-entry w c.args.at c.args.op c.is_named.result c.args.class c.args.row c.verdict_of-verdict.result c.verdict_of-verdict.new.interaction c.requires.faithful c.requires.found c.requires.row_is c.verdict_of-verdict.ensures.verdict c.verdict_of-verdict.ensures.asked c.is_named.ensures)

pub returns-in-Some-clause-logged : goal.returns-in-Some-clause-logged
returns-in-Some-clause-logged c =
    let w = c.args.world.now in
    rw c.in-Ok.ensures.pushed
    (pushed-entry w c.args.at c.args.op c.is_named.result c.args.class c.args.row c.verdict_of-verdict.result c.verdict_of-verdict.new.interaction c.requires.faithful c.requires.found c.requires.row_is c.verdict_of-verdict.ensures.verdict c.verdict_of-verdict.ensures.asked c.is_named.ensures)
