use Rattle.std.proofs.Common.{List, arith, drop, length, refl, take, ◌-◌, ◌∷◌}
use Rattle.rp_meaning.specs.Expressions as forms
use Rattle.rp_meaning.specs.Frame.{Doing}
use Rattle.rp_tree.specs.declared.expr.Expr.{Expr}
use Rattle.rp_engine.proofs.Doings.{does_goes}
use Rattle.rp_engine.proofs.Firsts.{of_first, of_none}
use Rattle.rp_engine.specs.Does as does
use Rattle.rp_engine.specs.Law.{Executes}
use Rattle.rp_store.proofs.CallerLemmas.{KeepsShape-same}
use Rattle.rp_engine.proofs.Weights as weights
use Rattle.rp_targets.proofs.comprehensions.where_all.Goals as goal

pub returns-in-len1-up-clause-law : goal.returns-in-len1-up-clause-law
returns-in-len1-up-clause-law c =
    let m = c.args.machine.now in
    let w = c.args.world.now in
    let n = c.wait.new.self in
    let ts = c.args.tests.now in
    let x = c.test-item.result in
    let behind = take (length ts - 1) (drop 1 ts) in
    let inside : Doing = forms.nest (does.clauses c.args.clauses.now) (does.adds c.args.adds) in
    let all : Doing = forms.where_all (does.exprs (x ∷ behind)) inside in
    of_first c.wait.result (λ (xs : List Expr). Executes (forms.where_all (does.exprs xs) inside) m w n w) ts x c.in-len1-up.len_at_least c.test-item.is
    (does_goes m n w w c.wait.result all all (λ base. refl) c.wait.ensures.law)

pub returns-in-empty-clause-law : goal.returns-in-empty-clause-law
returns-in-empty-clause-law c =
    of_none c.nest.result
    (λ (xs : List Expr). Executes (forms.where_all (does.exprs xs) (forms.nest (does.clauses c.args.clauses.now) (does.adds c.args.adds)))
    c.args.machine.now c.args.world.now c.nest.new.machine c.nest.new.world) c.args.tests.now (omega arith) c.nest.ensures.law

pub returns-in-empty-clause-ready : goal.returns-in-empty-clause-ready
returns-in-empty-clause-ready c = c.nest.ensures.ready

pub returns-in-empty-clause-shape : goal.returns-in-empty-clause-shape
returns-in-empty-clause-shape c = c.nest.ensures.shape

pub returns-in-len1-up-clause-ready : goal.returns-in-len1-up-clause-ready
returns-in-len1-up-clause-ready c = c.wait.ensures.ready c.args.world.now c.requires.ready

pub returns-in-len1-up-clause-shape : goal.returns-in-len1-up-clause-shape
returns-in-len1-up-clause-shape c = KeepsShape-same c.args.world.now.store.heap c.args.world.now.store.heap refl

pub returns-in-len1-up-clause-less : goal.returns-in-len1-up-clause-less
returns-in-len1-up-clause-less c =
    grind (arith, weights.exprs_front c.args.tests.now c.test-item.result c.in-len1-up.len_at_least c.test-item.is)
