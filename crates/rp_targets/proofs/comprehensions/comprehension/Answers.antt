use Rattle.std.proofs.Common.{List, [], arith, refl}
use Rattle.rp_tree.specs.declared.expr.Clause.{Clause}
use Rattle.rp_meaning.specs.Expressions as forms
use Rattle.rp_engine.proofs.Firsts.{gives_ok, of_first, of_none}
use Rattle.rp_engine.specs.ComprehensionSteps.{does_made}
use Rattle.rp_engine.specs.Does as does
use Rattle.rp_engine.specs.Law.{Evaluates}
use Rattle.rp_store.proofs.CallerLemmas.{KeepsShape-same}
use Rattle.rp_targets.proofs.comprehensions.comprehension.Goals as goal

pub returns-in-len1-up-clause-law : goal.returns-in-len1-up-clause-law
returns-in-len1-up-clause-law c =
    of_first c.begin_comprehension.result
    (λ (xs : List Clause). Evaluates (forms.comprehension c.args.block (does.clauses xs) (does_made c.args.made).0 (does_made c.args.made).1)
    c.args.machine.now c.args.world.now c.begin_comprehension.new.machine c.begin_comprehension.new.world)
    c.args.clauses.now c.first-item.result c.in-len1-up.len_at_least c.first-item.is c.begin_comprehension.ensures.law

pub returns-in-empty-clause-law : goal.returns-in-empty-clause-law
returns-in-empty-clause-law c =
    let m = c.args.machine.now in
    let w = c.args.world.now in
    let n = c.back.new.self in
    of_none c.back.result (λ (xs : List Clause). Evaluates (forms.comprehension c.args.block (does.clauses xs) (does_made c.args.made).0 (does_made c.args.made).1) m w n w)
    c.args.clauses.now (omega arith)
    (gives_ok m n c.back.result (forms.comprehension c.args.block [] (does_made c.args.made).0 (does_made c.args.made).1) forms.nil w (λ base. refl) c.back.ensures.law)

pub returns-in-empty-clause-shape : goal.returns-in-empty-clause-shape
returns-in-empty-clause-shape c = KeepsShape-same c.args.world.now.store.heap c.args.world.now.store.heap refl

pub returns-in-len1-up-clause-ready : goal.returns-in-len1-up-clause-ready
returns-in-len1-up-clause-ready c = c.begin_comprehension.ensures.ready

pub returns-in-len1-up-clause-shape : goal.returns-in-len1-up-clause-shape
returns-in-len1-up-clause-shape c = c.begin_comprehension.ensures.shape
