use Rattle.std.proofs.Common.{◌≡◌, ◌<◌, ◌-◌, ◌^◌, ◌∙◌, ◌∷◌, [], List, length, map, ap, subst, sym, arith}
use Rattle.std.specs.List.{All}
use Rattle.std.proofs.lemmas.List.{nil_from_length}
use Rattle.std.proofs.lemmas.List.Elements.{All-head, All-tail}
use Rattle.std.specs.Vec.Iter.{into_iter_items}
use Rattle.rp_interact.specs.Interacting.{Interacting}
use Rattle.rp_meaning.specs.Frame.{Run}
use Rattle.rp_meaning.specs.Sessions.{World}
use Rattle.rp_engine.specs.Moment.{run_of}
use Rattle.rp_session.specs.Played.{with_new_sessions}
use Rattle.rp_session.specs.Ready.{AnswersIn}
use Rattle.rp_session.specs.View.{sessions_view}
use Rattle.rp_session.proofs.Answering.{still-answer}
use Rattle.rp_session.proofs.Given.{given-more}
use Rattle.rp_session.proofs.playing.begin_all.Goals as goal

pub begin-requires-clause-few : goal.begin-requires-clause-few
begin-requires-clause-few c =
    let at = c.loop-who in
    let short = ap length c.in-Some.ensures.steps.0 in
    let all = ap length c.into_iter-who-iterator.ensures.into_iter_gives.0 in
    let count = at.invariant.count in
    let few = c.requires.few in
    omega arith

pub begin-requires-clause-grants : goal.begin-requires-clause-grants
begin-requires-clause-grants c =
    let P = AnswersIn c.loop-who.sessions.world in
    All-head P c.in-Some.who (into_iter_items c.next.new.self) (subst (λ (whos : List Interacting). All P whos) c.in-Some.ensures.steps.0 c.loop-who.invariant.grants)

pub loop-who-preserved : goal.loop-who-preserved
loop-who-preserved c =
    let at = c.loop-who in
    let who = c.in-Some.who in
    let rest = into_iter_items c.next.new.self in
    let steps : into_iter_items at.who-iterator ≡ who ∷ rest = c.in-Some.ensures.steps.0 in
    let P = AnswersIn at.sessions.world in
    let made = c.in_ok-begin.ensures in
    record {
      left = (let was = at.invariant.left in
          let gone = c.in-Some.ensures.steps.1 in
          let short = ap length steps in
          omega arith);
      ready = c.begin.ensures.ready;
      grants = still-answer at.sessions.world c.begin.new.self.world rest made.names made.decl
          (All-tail P who rest (subst (λ (whos : List Interacting). All P whos) steps at.invariant.grants));
      count = (let was = at.invariant.count in
          let more = made.count in
          let short = ap length steps in
          omega arith);
      given = λ before.
          given-more c.args.steps at.sessions c.begin.new.self made.given (at.invariant.given before);
      begun = λ base.
          let run = run_of base c.args.units.now in
          ap (with_new_sessions run (map (λ (who : Interacting). who.ids) rest) c.args.steps) (made.begun base)
          ∙ ap (λ (whos : List Interacting). with_new_sessions run (map (λ who. who.ids) whos) c.args.steps (sessions_view at.sessions)) (sym steps)
          ∙ at.invariant.begun base;
    }

pub returns-clause-begun : goal.returns-clause-begun
returns-clause-begun c base =
    let at = c.loop-who in
    let gone = c.in-None.ensures.steps in
    let left = at.invariant.left in
    let none : into_iter_items at.who-iterator ≡ [] = nil_from_length (into_iter_items at.who-iterator) (omega arith) in
    let run = run_of base c.args.units.now in
    let begin : List Interacting → World = λ whos. with_new_sessions run (map (λ (who : Interacting). who.ids) whos) c.args.steps (sessions_view c.loop-who.sessions) in
    sym (ap begin none) ∙ c.loop-who.invariant.begun base
    ∙ ap (λ (whos : List Interacting). with_new_sessions run (map (λ who. who.ids) whos) c.args.steps (sessions_view c.args.sessions.now)) c.into_iter-who-iterator.ensures.into_iter_gives.0

pub returns-clause-count : goal.returns-clause-count
returns-clause-count c =
    let at = c.loop-who in
    let gone = c.in-None.ensures.steps in
    let left = at.invariant.left in
    let none : into_iter_items at.who-iterator ≡ [] = nil_from_length (into_iter_items at.who-iterator) (omega arith) in
    let few = ap length none in
    let all = ap length c.into_iter-who-iterator.ensures.into_iter_gives.0 in
    let count = c.loop-who.invariant.count in
    omega arith
