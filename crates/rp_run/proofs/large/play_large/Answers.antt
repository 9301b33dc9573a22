use Rattle.std.proofs.Common.{◌≡◌, ◌∙◌, ◌-◌, Vec, Global, ap, arith, map, sym}
use Rattle.std.proofs.lemmas.List.{length-map}
use Rattle.rp_run.proofs.Blocks.{AreToldSo, all-told}
use Rattle.rp_run.proofs.Ended.{ran_status, told_there}
use Rattle.rp_run.proofs.LargeSteps.{one_session, used_ran}
use Rattle.rp_run.proofs.PlayedSteps.{handed_out, one_used, told_used}
use Rattle.rp_run.specs.Output.{run_status}
use Rattle.rp_run.specs.Played.{used_by, used_front}
use Rattle.rp_session.specs.View.{session_view, sessions_view}
use Rattle.rp_session.specs.declared.session.Session.{Session}
use Rattle.rp_words.specs.View.{pair_view, run_view}
use Rattle.rp_run.proofs.large.play_large.Goals as goal

pub play_ready-requires : goal.play_ready-requires
play_ready-requires c =
    let one = c.requires.alone in
    record { ready = c.requires.ready; few = omega arith }

pub answer_used-told-requires : goal.answer_used-told-requires
answer_used-told-requires c = record {
  as_many = sym c.in-Ok.ensures.count;
  ended = c.in-Ok.ensures.ended;
  held = c.in-Ok.ensures.ready.faithful.entries;
}

pub returns-in-Ok-clause-told : goal.returns-in-Ok-clause-told
returns-in-Ok-clause-told c =
    let sessions = c.in-Ok.sessions in
    let all = all-told sessions.list.items c.in-Ok.ensures.ended in
    let only = one_session sessions.list.items (c.in-Ok.ensures.count ∙ c.requires.alone) in
    used_ran (run_view c.args.command.now) c.args.ready c.args.lines (sessions_view sessions) (session_view only.0)
    all.0 c.answer_used-told.result c.in-Ok.ensures.reaches (ap (map session_view) only.1) all.1
    c.answer_used-told.ensures.text
    c.answer_used-told.ensures.status

pub returns-in-Ok-clause-played : goal.returns-in-Ok-clause-played
returns-in-Ok-clause-played c =
    let r = run_view c.args.command.now in
    let sessions = c.in-Ok.sessions in
    let items = c.into_list.result.items in
    let last = sessions_view sessions in
    let all = all-told sessions.list.items c.in-Ok.ensures.ended in
    let only = one_session sessions.list.items (c.in-Ok.ensures.count ∙ c.requires.alone) in
    let same : items ≡ sessions.list.items = ap (λ (list : Vec Session Global). list.items) c.into_list.ensures in
    let steps : r.steps - only.0.running.meter.left ≡ used_by items =
    sym (ap used_by same ∙ one_used r.steps sessions.list.items only.0 only.1 c.in-Ok.ensures.used) in
    let told = c.answer_used-told.result in
    handed_out r c.args.ready (used_front c.args.lines items) sessions all.0 items told same c.in-Ok.ensures.reaches
    (c.in-Ok.ensures.count ∙ sym (length-map c.args.command.now.pairs.items pair_view)) c.in-Ok.ensures.used all.1
    (told_used r c.args.lines last all.0 (session_view only.0) (used_by items) told (ap (map session_view) only.1)
    all.1 steps c.answer_used-told.ensures.text)
    (told_there (λ fs. AreToldSo fs sessions.list.items) (λ fs a. a.status.0 ≡ run_status fs) told
    c.answer_used-told.ensures.status all.0 all.1)

pub returns-in-Ok-clause-status : goal.returns-in-Ok-clause-status
returns-in-Ok-clause-status c =
    let sessions = c.in-Ok.sessions in
    let all = all-told sessions.list.items c.in-Ok.ensures.ended in
    ran_status all.0 c.answer_used-told.result
    (told_there (λ fs. AreToldSo fs sessions.list.items) (λ fs a. a.status.0 ≡ run_status fs) c.answer_used-told.result
    c.answer_used-told.ensures.status all.0 all.1)
