use Rattle.std.proofs.Common.{◌≡◌, ◌∙◌, Vec, Global, ap, map, refl, sym}
use Rattle.std.proofs.lemmas.List.{length-map}
use Rattle.rp_session.specs.Played.{Plays}
use Rattle.rp_session.specs.View.{sessions_view}
use Rattle.rp_session.specs.declared.session.Session.{Session}
use Rattle.rp_run.proofs.Blocks.{AreToldSo, all-told}
use Rattle.rp_run.proofs.Ended.{ran_status, told_ran, told_there}
use Rattle.rp_run.proofs.PlayedSteps.{handed_out}
use Rattle.rp_run.specs.Output.{as_told, run_status, run_text}
use Rattle.rp_run.specs.Played.{no_front}
use Rattle.rp_run.specs.SetUp.{programs_in}
use Rattle.rp_tree.specs.StatementViews.{view_tree}
use Rattle.rp_words.specs.Command.{Pair}
use Rattle.rp_words.specs.View.{pair_view, run_view}
use Rattle.rp_world.specs.Worlds.{world_view}
use Rattle.rp_run.proofs.playing.run_scripts.Goals as goal

pub answer_sessions-told-requires : goal.answer_sessions-told-requires
answer_sessions-told-requires c = record {
  as_many = sym c.in-Ok.ensures.count;
  ended = c.in-Ok.ensures.ended;
  held =
      c.in-Ok.ensures.ready.faithful.entries;
}

pub returns-in-Ok-clause-told : goal.returns-in-Ok-clause-told
returns-in-Ok-clause-told c =
    let r = run_view c.args.command.now in
    let x = c.args.ready in
    let w = world_view x.loaded.world in
    let body = view_tree x.loaded.module in
    let trees = programs_in x.loaded.world x.scripts.items in
    let sessions = c.in-Ok.sessions in
    let all = all-told sessions.list.items c.in-Ok.ensures.ended in
    let log = (sessions_view sessions).log in
    let plays : Plays w body trees (map (λ (p : Pair). p.ids) r.pairs) r.turns r.steps (map as_told all.0) log =
    record {
      last = sessions_view sessions;
      reaches = c.in-Ok.ensures.reaches;
      sessions = sym all.1;
      entries = refl;
    } in
    told_ran r body w trees all.0 log c.answer_sessions-told.result plays
    (told_there (λ fs. AreToldSo fs sessions.list.items) (λ fs a.
    a.text ≡ run_text r fs log) c.answer_sessions-told.result c.answer_sessions-told.ensures.text all.0 all.1)
    (told_there (λ fs. AreToldSo fs sessions.list.items) (λ fs a.
    a.status.0 ≡ run_status fs) c.answer_sessions-told.result c.answer_sessions-told.ensures.status all.0 all.1)

pub returns-in-Ok-clause-played : goal.returns-in-Ok-clause-played
returns-in-Ok-clause-played c =
    let r = run_view c.args.command.now in
    let sessions = c.in-Ok.sessions in
    let all = all-told sessions.list.items c.in-Ok.ensures.ended in
    let log = (sessions_view sessions).log in
    let pairs = c.args.command.now.pairs.items in
    handed_out r c.args.ready no_front sessions all.0 c.into_list.result.items c.answer_sessions-told.result
    (ap (λ (list : Vec Session Global). list.items) c.into_list.ensures) c.in-Ok.ensures.reaches
    (c.in-Ok.ensures.count ∙ sym (length-map pairs pair_view)) c.in-Ok.ensures.used all.1
    (told_there (λ fs. AreToldSo fs sessions.list.items) (λ fs a.
    a.text ≡ run_text r fs log) c.answer_sessions-told.result c.answer_sessions-told.ensures.text all.0 all.1)
    (told_there (λ fs. AreToldSo fs sessions.list.items) (λ fs a.
    a.status.0 ≡ run_status fs) c.answer_sessions-told.result c.answer_sessions-told.ensures.status all.0 all.1)

pub returns-in-Ok-clause-status : goal.returns-in-Ok-clause-status
returns-in-Ok-clause-status c =
    let sessions = c.in-Ok.sessions in
    let all = all-told sessions.list.items c.in-Ok.ensures.ended in
    ran_status all.0 c.answer_sessions-told.result
    (told_there (λ fs. AreToldSo fs sessions.list.items) (λ fs a.
    a.status.0 ≡ run_status fs) c.answer_sessions-told.result c.answer_sessions-told.ensures.status all.0 all.1)
