use Rattle.std.proofs.Common.{◌∙◌, IfErr, ap, map, subst}
use Rattle.std.proofs.lemmas.Result.{on_ok_weaker}
use Rattle.rp_meaning.specs.Sessions.{finished}
use Rattle.rp_engine.specs.Moment.{run_of}
use Rattle.rp_session.specs.View.{IsHaltOf, session_view, sessions_view}
use Rattle.rp_session.proofs.Numbered.{finished-sides, sides-numbered}
use Rattle.rp_session.proofs.sessions.Sessions.run_all.Goals as goal

pub returns-clause-run : goal.returns-clause-run
returns-clause-run c =
    let before = c.args.self.now.list.items in
    let after = c.turns.new.self.list.items in
    on_ok_weaker c.finish.result (λ finishes base.
    finishes base
    ∙ finished-sides (run_of base c.args.units.now) (map session_view after) (map session_view before) (sessions_view c.turns.new.self)
    (sides-numbered 1 after before c.in_ok-turns.ensures.ready.numbered c.requires.ready.numbered c.in_ok-turns.ensures.count)
    ∙ ap (finished (run_of base c.args.units.now) (map session_view before)) (c.in_ok-turns.ensures.turns base)) c.finish.ensures.finished

pub returns-clause-halt : goal.returns-clause-halt
returns-clause-halt c = subst (λ n. IfErr c.finish.result (IsHaltOf n)) c.in_ok-turns.ensures.count c.finish.ensures.halt
