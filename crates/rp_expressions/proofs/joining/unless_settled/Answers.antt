use Rattle.std.proofs.Common.{refl}
use Rattle.rp_ops.specs.Outcome.{gives}
use Rattle.rp_engine.proofs.Firsts.{gives_ok}
use Rattle.rp_expressions.proofs.Settling.{no_settling, settled, unsettled}
use Rattle.rp_engine.proofs.Worlds.{IsReady-goes}
use Rattle.rp_engine.specs.Does as does
use Rattle.rp_store.proofs.CallerLemmas.{KeepsShape-trans}
use Rattle.rp_expressions.proofs.joining.unless_settled.Goals as goal

pub returns-then-truth-all-clause-law : goal.returns-then-truth-all-clause-law
returns-then-truth-all-clause-law c =
    unsettled c.args.machine.now c.next_joined.new.machine c.args.world.now c.truth.new.world c.next_joined.new.world c.next_joined.result c.args.value
    c.args.all c.in-Ok.truth (does.expr c.args.x.now) (does.exprs c.args.rest.now) c.if-truth-all.true c.in-Ok.ensures.law c.next_joined.ensures.law

pub returns-else-truth-all-clause-law : goal.returns-else-truth-all-clause-law
returns-else-truth-all-clause-law c =
    let m = c.args.machine.now in
    let n = c.back.new.self in
    let u = c.truth.new.world in
    settled m n c.args.world.now u u c.back.result c.args.value
    c.args.all c.in-Ok.truth (does.expr c.args.x.now) (does.exprs c.args.rest.now) c.if-truth-all.false c.in-Ok.ensures.law
    (gives_ok m n c.back.result (λ f s. gives c.args.value s) c.args.value u (λ base. refl) c.back.ensures.law)

pub returns-in-Err-clause-law : goal.returns-in-Err-clause-law
returns-in-Err-clause-law c =
    no_settling c.args.machine.now c.no_value.new.self c.args.world.now c.truth.new.world c.no_value.result c.args.value
    c.args.all (does.expr c.args.x.now) (does.exprs c.args.rest.now) c.in-Err.end c.in-Err.ensures.law c.no_value.ensures.law

pub returns-in-Err-clause-ready : goal.returns-in-Err-clause-ready
returns-in-Err-clause-ready c =
    c.no_value.ensures.ready c.truth.new.world (IsReady-goes _ _ _ c.args.world.now c.truth.new.world c.requires.ready c.truth.ensures.shape c.truth.ensures.faithful)

pub next_joined-requires : goal.next_joined-requires
next_joined-requires c = record {
  ready = IsReady-goes _ _ _ c.args.world.now c.truth.new.world c.requires.ready c.truth.ensures.shape c.truth.ensures.faithful;
}

pub returns-else-truth-all-clause-ready : goal.returns-else-truth-all-clause-ready
returns-else-truth-all-clause-ready c =
    c.back.ensures.ready c.truth.new.world (IsReady-goes _ _ _ c.args.world.now c.truth.new.world c.requires.ready c.truth.ensures.shape c.truth.ensures.faithful)
    (c.truth.ensures.shape.fit c.args.machine.now.frame.side c.args.value c.requires.value)

pub returns-then-truth-all-clause-ready : goal.returns-then-truth-all-clause-ready
returns-then-truth-all-clause-ready c = c.next_joined.ensures.ready

pub returns-then-truth-all-clause-shape : goal.returns-then-truth-all-clause-shape
returns-then-truth-all-clause-shape c = KeepsShape-trans _ _ _ c.truth.ensures.shape c.next_joined.ensures.shape

pub returns-else-truth-all-clause-shape : goal.returns-else-truth-all-clause-shape
returns-else-truth-all-clause-shape c = c.truth.ensures.shape

pub returns-in-Err-clause-shape : goal.returns-in-Err-clause-shape
returns-in-Err-clause-shape c = c.truth.ensures.shape
