-- The session of a number stands one before it; there may be none.
use Rattle.std.proofs.Common.{◌≡◌, refl, ap, ◌∙◌, ◌-◌, ◌+◌, ◌<◌, ◌≤◌, length, arith}
use Rattle.std.proofs.lemmas.Result.{on_ok_weaker}
use Rattle.rp_engine.specs.Moment.{run_of}
use Rattle.rp_session.proofs.Numbered.{number-at}
use Rattle.rp_session.proofs.Turning.{both, four, given-set, on-err, ready-after, turned, turned-nothing}
use Rattle.rp_session.proofs.sessions.Sessions.take_turn.Goals as goal
use Rattle.rp_session.proofs.sessions.Sessions.take_turn.Goals.{then-number-eq0-via-then-number-eq0, then-number-eq0-via-else-number-eq0+then-number-len}

pub returns-then-number-eq0-clause-turn : goal.returns-then-number-eq0-clause-turn
returns-then-number-eq0-clause-turn c base =
    let total = c.args.self.now.list.ok.0 in
    turned-nothing (run_of base c.args.units.now) c.args.self.now.world c.args.self.now.list.items c.args.number c.requires.ready.numbered (λ i inside e.
    elim c.then-number-eq0.branch [
      | then-number-eq0-via-then-number-eq0 w ↦ omega arith
      | then-number-eq0-via-else-number-eq0+then-number-len w ↦ omega arith
    ])

pub returns-clause-turn : goal.returns-clause-turn
returns-clause-turn c =
    let total = c.args.self.now.list.ok.0 in
    let d = c.index_mut-session.result.now in
    let inside : c.args.number - 1 < length c.args.self.now.list.items = omega arith in
    let at : c.args.number ≡ 1 + (c.args.number - 1) = omega arith in
    both c.turn.result (λ takes number base.
    turned (run_of base c.args.units.now) c.args.self.now.world c.turn.new.world c.args.self.now.list.items (c.args.number - 1) c.args.number d d
    c.turn.new.self c.index_mut-session.ensures.value c.requires.ready.numbered inside at number (takes base))
    c.turn.ensures.turn c.turn.ensures.number

pub returns-clause-ready : goal.returns-clause-ready
returns-clause-ready c =
    let total = c.args.self.now.list.ok.0 in
    let d = c.index_mut-session.result.now in
    let inside : c.args.number - 1 < length c.args.self.now.list.items = omega arith in
    four c.turn.result (λ number faithful home others.
    ready-after c.args.self.now c.turn.new.world (c.args.number - 1) c.turn.new.self _ c.requires.ready refl
    (number ∙ ap (λ k. k.running.session) c.index_mut-session.ensures.value ∙ number-at 1 c.args.self.now.list.items (c.args.number - 1) d c.requires.ready.numbered inside)
    faithful home others)
    c.turn.ensures.number c.turn.ensures.faithful c.turn.ensures.home c.turn.ensures.others

pub returns-clause-given : goal.returns-clause-given
returns-clause-given c =
    let d = c.index_mut-session.result.now in
    on_ok_weaker c.turn.result (λ same.
    given-set c.args.self.now.list.items (c.args.number - 1) d c.turn.new.self (same ∙ ap (λ k. k.given) c.index_mut-session.ensures.value))
    c.turn.ensures.given

pub returns-clause-some : goal.returns-clause-some
returns-clause-some c =
    let total = c.args.self.now.list.ok.0 in
    let low : 0 < c.args.number = omega arith in
    on-err c.turn.result (0 < c.args.number) low

pub returns-clause-within : goal.returns-clause-within
returns-clause-within c =
    let total = c.args.self.now.list.ok.0 in
    let most : c.args.number ≤ length c.args.self.now.list.items = omega arith in
    on-err c.turn.result (c.args.number ≤ length c.args.self.now.list.items) most
