use Rattle.std.proofs.Common.{ap, subst, ◌∙◌}
use Rattle.rp_access.specs.Comes.{Comes}
use Rattle.rp_access.specs.Moment.{state_of}
use Rattle.rp_frame.specs.declared.control.Control.TheVariants as control
use Rattle.rp_step.proofs.Runs.{whole_left}
use Rattle.rp_engine.specs.Does as does
use Rattle.rp_engine.specs.Law.{frame_in}
use Rattle.rp_engine.specs.Rest.{Held, did, rest}
use Rattle.rp_step.specs.Left.{flows, left_by}
use Rattle.rp_step.specs.declared.runner.Runner.{Runner}
use Rattle.rp_step.proofs.runner.Runner.run_block.Goals as goal

pub run-requires : goal.run-requires
run-requires c = record { ready = record { machine = c.requires.ready.machine; callers = c.requires.ready.callers } }

pub how_left-requires : goal.how_left-requires
how_left-requires c = record { stands = c.in_ok-run.ensures.stands }

pub returns-clause-law : goal.returns-clause-law
returns-clause-law c = λ base.
    let r = c.args.self.now in
    let m = r.machine in
    let w = c.args.world.now in
    let begun : Runner = record r { machine = record m { control = control.Block c.args.block } } in
    let o = does.block c.args.block.now (frame_in base m) (state_of w) in
    subst (λ (h : Held). Comes (flows c.how_left.result) (state_of c.run.new.world) (left_by h))
    (whole_left base begun c.run.new.self w c.run.new.world c.in_ok-run.ensures.law c.requires.callers c.in_ok-run.ensures.none
    ∙ ap (λ ts. rest ts (did (frame_in base m) m.values o)) c.requires.tasks)
    (c.how_left.ensures.law base (state_of c.run.new.world) c.in_ok-run.ensures.ended)

pub returns-clause-ready : goal.returns-clause-ready
returns-clause-ready c = record {
  machine = c.how_left.ensures.ready c.run.new.world c.in_ok-run.ensures.ready.machine;
  callers = c.in_ok-run.ensures.ready.callers;
}
