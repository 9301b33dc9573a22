use Rattle.std.proofs.Common.{◌≡◌, ◌∙◌, ◌∷◌, ◌++◌, ◌-◌, ℕ, [], List, ap, arith, length, map, sym}
use Rattle.std.proofs.lemmas.List.{length-map}
use Rattle.rp_run.proofs.LargeSteps.{used-made}
use Rattle.rp_run.specs.Output.{run_text}
use Rattle.rp_session.specs.View.{session_view, sessions_view}
use Rattle.rp_trail.specs.View.{entry_view, trail_view}
use Rattle.rp_words.specs.View.{run_view}
use Rattle.rp_run.proofs.large.answer_used.Goals as goal

pub returns-clause-text : goal.returns-clause-text
returns-clause-text c = λ all only told one.
    let world = c.args.sessions.now.world in
    let steps = c.args.command.now.steps in
    let log = trail_view world.names world.decl.permissions world.trail in
    let given : c.saturating_sub-steps.result ≡ steps - c.steps_left-left.result = omega arith in
    let its : map session_view c.as_slice.result.now ≡ only ∷ [] =
    ap (map session_view) c.as_slice.ensures.value ∙ one in
    let many : c.len-entries.result ≡ length log =
    c.len-entries.ensures ∙ sym (length-map world.trail (entry_view world.names world.decl.permissions)) in
    used-made c.args.lines c.add_used.new.text c.add.new.self c.in_ok-told.told.text
    (run_text (run_view c.args.command.now) all (sessions_view c.args.sessions.now).log)
    c.saturating_sub-steps.result (steps - only.steps) c.used-cells.result world.store.used c.len-entries.result
    (length log) c.in_ok-add_used.ensures
    (c.in_ok-add.ensures.added ∙ ap (λ (t : List ℕ). c.add_used.new.text ++ t) c.as_str.ensures)
    (c.in_ok-told.ensures.text all told)
    (given ∙ ap (λ (k : ℕ). steps - k) (c.steps_left-left.ensures only its)) c.used-cells.ensures.value many

pub returns-clause-status : goal.returns-clause-status
returns-clause-status c = λ all told. c.in_ok-told.ensures.status all told
