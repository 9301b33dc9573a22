use Rattle.std.proofs.Common.{List, ap, arith, refl, true}
use Rattle.rp_meaning.specs.Expressions as forms
use Rattle.rp_tree.specs.declared.expr.Expr.{Expr}
use Rattle.rp_tree.specs.declared.parts.Test.{Test}
use Rattle.rp_engine.proofs.Firsts.{gives_ok, tests_front}
use Rattle.rp_access.proofs.Lists.{none_left}
use Rattle.rp_engine.specs.Does as does
use Rattle.rp_engine.specs.Law.{frame_in}
use Rattle.rp_access.specs.Moment.{state_of}
use Rattle.rp_store.proofs.CallerLemmas.{KeepsShape-same}
use Rattle.rp_expressions.proofs.comparisons.tests.Goals as goal

pub returns-in-len1-up-clause-law : goal.returns-in-len1-up-clause-law
returns-in-len1-up-clause-law c =
    tests_front c.args.machine.now c.test.new.machine c.args.world.now c.test.new.world c.test.result c.args.a c.args.rest.now
    c.index-rest-0.result c.index-rest-0-2.result c.in-len1-up.len_at_least c.test.ensures.law

pub returns-in-empty-clause-law : goal.returns-in-empty-clause-law
returns-in-empty-clause-law c =
    let m = c.args.machine.now in
    let w = c.args.world.now in
    let ts = c.args.rest.now in
    gives_ok m c.back.new.self c.back.result (forms.tests (does.tests ts) c.args.a) (forms.truth true) w
    (λ base. ap (λ (ys : List (Test × Expr)). forms.tests (does.tests ys) c.args.a (frame_in base m) (state_of w)) (none_left ts (omega arith))) c.back.ensures.law

pub test-requires-clause-ready : goal.test-requires-clause-ready
test-requires-clause-ready c = c.requires.ready

pub test-requires-clause-a : goal.test-requires-clause-a
test-requires-clause-a c = c.requires.a

pub returns-in-len1-up-clause-ready : goal.returns-in-len1-up-clause-ready
returns-in-len1-up-clause-ready c = c.test.ensures.ready

pub returns-in-len1-up-clause-shape : goal.returns-in-len1-up-clause-shape
returns-in-len1-up-clause-shape c = c.test.ensures.shape

pub returns-in-empty-clause-shape : goal.returns-in-empty-clause-shape
returns-in-empty-clause-shape c = KeepsShape-same c.args.world.now.store.heap c.args.world.now.store.heap refl
