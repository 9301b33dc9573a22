use Rattle.std.proofs.Common.{◌≡◌, ◌<◌, ◌+◌, ◌∙◌, ◌≤◌, ap, sym, length, map, arith}
use Rattle.std.proofs.lemmas.List.{length-map}
use Rattle.rp_meaning.specs.Frame.{Run}
use Rattle.rp_meaning.specs.Sessions.{count}
use Rattle.rp_engine.specs.Moment.{program_at, run_of}
use Rattle.rp_engine.specs.declared.units.Program.{Program}
use Rattle.rp_session.specs.View.{session_view, sessions_view}
use Rattle.rp_session.proofs.Scripts.{count-of}
use Rattle.rp_session.proofs.Turning.{finished-done, finished-step, first-of}
use Rattle.rp_session.proofs.sessions.Sessions.finish.Goals as goal

pub loop-place-preserved : goal.loop-place-preserved
loop-place-preserved c =
    let list = c.args.self.now.list in
    let total = list.ok.0 in
    let within : c.loop-place.place < length list.items = omega arith in
    let program = program_at c.args.units.now (record { 0 = c.loop-place.place + 1 }) in
    let statements : (base : Run) → count ((run_of base c.args.units.now).programs (record { 0 = c.loop-place.place + 1 })).body ≡ c.len-statements.result = λ base.
    count-of program.tree.now.body.items ∙ ap (λ (p : Program). length p.tree.now.body.items) (sym c.program.ensures)
    ∙ sym c.program.result.now.tree.now.body.ok.0 ∙ sym c.len-statements.ensures in
    record {
      ready = c.in_ok-turns_of.ensures.ready;
      count = c.in_ok-turns_of.ensures.count ∙ c.loop-place.invariant.count;
      given = c.in_ok-turns_of.ensures.given ∙ c.loop-place.invariant.given;
      left = λ base.
          finished-step (run_of base c.args.units.now) list.items c.loop-place.place c.len-statements.result (first-of list.items (omega arith))
          (sessions_view c.loop-place.self) (sessions_view c.turns_of.new.self) c.requires.ready.numbered within (statements base)
          (c.in_ok-turns_of.ensures.turns base) ∙ c.loop-place.invariant.left base;
    }

pub returns-clause-finished : goal.returns-clause-finished
returns-clause-finished c =
    let items = c.args.self.now.list.items in
    let total = c.args.self.now.list.ok.0 in
    let many : length (map session_view items) ≡ length items = length-map items session_view in
    let done : length (map session_view items) ≤ c.loop-place.place = omega (arith, many) in
    λ base.
    finished-done (run_of base c.args.units.now) (map session_view items) c.loop-place.place (sessions_view c.loop-place.self) _ done
    (c.loop-place.invariant.left base)
