use Rattle.std.proofs.Common.{List, arith, drop, length, refl, subst, sym, take, ◌-◌, ap}
use Rattle.std.specs.Prelude.{OnOk}
use Rattle.rp_meaning.specs.Expressions as forms
use Rattle.rp_meaning.specs.Frame.{Doing, Meaning}
use Rattle.rp_meaning.specs.Statements as stmt_forms
use Rattle.rp_meaning.specs.Statements.{Store}
use Rattle.rp_proxy.specs.declared.world.World.{World}
use Rattle.rp_tree.specs.declared.expr.Arg.TheViews.{out-Clause, out-Walk}
use Rattle.rp_tree.specs.declared.expr.Clause.{Clause}
use Rattle.rp_targets.proofs.ComprehensionEquations.{clause_of}
use Rattle.rp_engine.proofs.Firsts.{of_first, of_none}
use Rattle.rp_engine.proofs.Moves.{on_ok}
use Rattle.rp_engine.specs.Does as does
use Rattle.rp_engine.specs.Law.{Executes}
use Rattle.rp_store.proofs.CallerLemmas.{KeepsShape-same}
use Rattle.rp_engine.proofs.Weights as weights
use Rattle.rp_engine.specs.Loads as loads
use Rattle.rp_access.proofs.Lists.{none_left}
use Rattle.rp_targets.proofs.comprehensions.nest.Goals as goal

pub returns-in-len1-up-clause-law : goal.returns-in-len1-up-clause-law
returns-in-len1-up-clause-law c =
    let m = c.args.machine.now in
    let w = c.args.world.now in
    let n = c.for_each.new.machine in
    let v = c.for_each.new.world in
    let r = c.for_each.result in
    let xs = c.args.clauses.now in
    let x = c.clause-item.result in
    let behind = take (length xs - 1) (drop 1 xs) in
    let d = does.clause x in
    let body : Doing = forms.where_all d.tests (forms.nest (does.clauses behind) (does.adds c.args.adds)) in
    of_first r (λ (ys : List Clause). Executes (forms.nest (does.clauses ys) (does.adds c.args.adds)) m w n v) xs x c.in-len1-up.len_at_least c.clause-item.is
    (subst (λ (of : Meaning). OnOk r (Executes (stmt_forms.for of d.bind body) m w n v)) (sym (clause_of x))
    (subst (λ (store : Store). OnOk r (Executes (stmt_forms.for (does.expr (out-Walk (out-Clause x).walk).of) store body) m w n v)) c.clause_turn.ensures.target
    (subst (λ (inside : Doing). OnOk r (Executes (stmt_forms.for (does.expr (out-Walk (out-Clause x).walk).of) (does.target c.clause_turn.result.target.now) inside) m w n v)) c.clause_turn.ensures.inside
    c.for_each.ensures.law)))

pub returns-in-empty-clause-law : goal.returns-in-empty-clause-law
returns-in-empty-clause-law c =
    let m = c.args.machine.now in
    let w = c.args.world.now in
    let n = c.add.new.machine in
    let D : Doing = does.adds c.args.adds in
    of_none c.add.result (λ (ys : List Clause). Executes (forms.nest (does.clauses ys) D) m w n w) c.args.clauses.now (omega arith)
    (on_ok c.add.result ((u : World) → Executes D m u n u) (Executes D m w n w) (λ law. law w) c.add.ensures.law)

pub returns-in-empty-clause-ready : goal.returns-in-empty-clause-ready
returns-in-empty-clause-ready c = c.add.ensures.ready c.args.world.now c.requires.ready

pub returns-in-empty-clause-shape : goal.returns-in-empty-clause-shape
returns-in-empty-clause-shape c = KeepsShape-same c.args.world.now.store.heap c.args.world.now.store.heap refl

pub returns-in-len1-up-clause-ready : goal.returns-in-len1-up-clause-ready
returns-in-len1-up-clause-ready c = c.for_each.ensures.ready

pub returns-in-len1-up-clause-shape : goal.returns-in-len1-up-clause-shape
returns-in-len1-up-clause-shape c = c.for_each.ensures.shape

pub returns-in-len1-up-clause-less : goal.returns-in-len1-up-clause-less
returns-in-len1-up-clause-less c =
    grind (arith, weights.nest_front c.args.clauses.now c.clause-item.result c.args.adds c.in-len1-up.len_at_least c.clause-item.is)

pub returns-in-empty-clause-less : goal.returns-in-empty-clause-less
returns-in-empty-clause-less c =
    grind (arith, ap (λ (xs : List Clause). loads.nest xs c.args.adds) (none_left c.args.clauses.now (omega arith)))
