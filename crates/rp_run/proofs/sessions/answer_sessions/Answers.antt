use Rattle.std.proofs.Common.{◌≡◌, ◌∙◌, ap, length, map, sym}
use Rattle.rp_meaning.specs.Unmonitored.{told_of}
use Rattle.rp_session.specs.View.{session_view}
use Rattle.rp_run.proofs.Blocks.{whole-text}
use Rattle.rp_words.specs.View.{run_view}
use Rattle.rp_run.proofs.sessions.answer_sessions.Goals as goal

pub add_sessions-requires : goal.add_sessions-requires
add_sessions-requires c = record {
  as_many = ap length c.as_slice.ensures.value ∙ c.requires.as_many ∙ ap length (sym c.as_slice-list.ensures.value);
  ended = rw c.as_slice-list.ensures.value c.requires.ended;
}

pub returns-clause-text : goal.returns-clause-text
returns-clause-text c = λ all told.
    let blocks = c.in_ok-add_sessions.ensures all (told
    ∙ ap (λ ss. map told_of (map session_view ss)) (sym c.as_slice-list.ensures.value)) in
    whole-text (run_view c.args.command.now) all _ _ _ _ c.new-text.ensures
    (rw c.as_slice.ensures.value at blocks) c.in_ok-add_asked_trail.ensures

pub returns-clause-status : goal.returns-clause-status
returns-clause-status c = λ all told.
    c.run_status.ensures all (told ∙ ap (λ ss. map told_of (map session_view ss)) (sym c.as_slice-list.ensures.value))
