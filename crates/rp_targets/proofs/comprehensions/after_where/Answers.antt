use Rattle.std.proofs.Common.{ap, ◌∙◌}
use Rattle.rp_meaning.specs.Expressions as forms
use Rattle.rp_meaning.specs.Frame.{Doing}
use Rattle.rp_meaning.specs.State.{choose, next}
use Rattle.rp_meaning.specs.Statements.{leave}
use Rattle.rp_meaning.specs.Walks.{on_truth}
use Rattle.rp_engine.proofs.Doings.{does_as, does_end, does_moves}
use Rattle.rp_targets.proofs.Steps.{truth_ends, truth_gives}
use Rattle.rp_engine.proofs.Worlds.{IsReady-goes}
use Rattle.rp_engine.specs.Does as does
use Rattle.rp_engine.specs.Law.{frame_in}
use Rattle.rp_access.specs.Moment.{state_of}
use Rattle.rp_store.proofs.CallerLemmas.{KeepsShape-trans}
use Rattle.rp_targets.proofs.comprehensions.after_where.Goals as goal

pub returns-in-Ok-true-clause-law : goal.returns-in-Ok-true-clause-law
returns-in-Ok-true-clause-law c =
    let m = c.args.machine.now in
    let w = c.args.world.now in
    let u = c.truth.new.world in
    let this : Doing = forms.where_all (does.exprs c.args.tests.now) (forms.nest (does.clauses c.args.clauses.now) (does.adds c.args.adds)) in
    let other : Doing = leave next in
    does_as m c.where_all.new.machine w c.where_all.new.world c.where_all.result (λ f s. on_truth c.args.value f s (this f) (other f)) this u
    (λ base. truth_gives m w u c.args.value this other c.in-Ok-true.field-0 c.in-Ok-true.ensures.law base
    ∙ ap (λ z. choose z (this (frame_in base m)) (other (frame_in base m)) (state_of u)) c.in-Ok-true.field-0-test) c.where_all.ensures.law

pub where_all-requires : goal.where_all-requires
where_all-requires c = record { ready = IsReady-goes _ _ _ c.args.world.now c.truth.new.world c.requires.ready c.truth.ensures.shape c.truth.ensures.faithful }

pub returns-in-Ok-false-clause-law : goal.returns-in-Ok-false-clause-law
returns-in-Ok-false-clause-law c =
    let m = c.args.machine.now in
    let w = c.args.world.now in
    let u = c.truth.new.world in
    let this : Doing = forms.where_all (does.exprs c.args.tests.now) (forms.nest (does.clauses c.args.clauses.now) (does.adds c.args.adds)) in
    let other : Doing = leave next in
    does_moves m c.go.new.self w u c.go.result (λ f s. on_truth c.args.value f s (this f) (other f)) other
    (λ base. truth_gives m w u c.args.value this other c.in-Ok-false.field-0 c.in-Ok-false.ensures.law base
    ∙ ap (λ z. choose z (this (frame_in base m)) (other (frame_in base m)) (state_of u)) c.in-Ok-false.field-0-test) c.go.ensures.law

pub returns-clause-law : goal.returns-clause-law
returns-clause-law c =
    let m = c.args.machine.now in
    let w = c.args.world.now in
    let u = c.truth.new.world in
    let this : Doing = forms.where_all (does.exprs c.args.tests.now) (forms.nest (does.clauses c.args.clauses.now) (does.adds c.args.adds)) in
    let other : Doing = leave next in
    does_end m c.cut_off.new.self w u c.cut_off.result (λ f s. on_truth c.args.value f s (this f) (other f)) c.in-Err.end
    (truth_ends m w u c.args.value this other c.in-Err.end c.in-Err.ensures.law) c.cut_off.ensures.law

pub returns-in-Ok-false-clause-ready : goal.returns-in-Ok-false-clause-ready
returns-in-Ok-false-clause-ready c =
    c.go.ensures.ready c.truth.new.world (IsReady-goes _ _ _ c.args.world.now c.truth.new.world c.requires.ready c.truth.ensures.shape c.truth.ensures.faithful)

pub returns-clause-ready : goal.returns-clause-ready
returns-clause-ready c =
    c.cut_off.ensures.ready c.truth.new.world (IsReady-goes _ _ _ c.args.world.now c.truth.new.world c.requires.ready c.truth.ensures.shape c.truth.ensures.faithful)

pub returns-in-Ok-true-clause-ready : goal.returns-in-Ok-true-clause-ready
returns-in-Ok-true-clause-ready c = c.where_all.ensures.ready

pub returns-in-Ok-true-clause-shape : goal.returns-in-Ok-true-clause-shape
returns-in-Ok-true-clause-shape c = KeepsShape-trans _ _ _ c.truth.ensures.shape c.where_all.ensures.shape

pub returns-in-Ok-false-clause-shape : goal.returns-in-Ok-false-clause-shape
returns-in-Ok-false-clause-shape c = c.truth.ensures.shape

pub returns-clause-shape : goal.returns-clause-shape
returns-clause-shape c = c.truth.ensures.shape
