use Rattle.std.proofs.Common.{sym, ap, ◌∙◌}
use Rattle.rp_meaning.specs.Expressions as forms
use Rattle.rp_tree.specs.declared.expr.Expr.{Expr}
use Rattle.std.specs.Prelude.{List}
use Rattle.rp_targets.proofs.ComprehensionEquations.{clause_bind, clause_tests}
use Rattle.rp_engine.specs.Does as does
use Rattle.rp_targets.proofs.comprehensions.clause_turn.Goals as goal

pub returns-clause-target : goal.returns-clause-target
returns-clause-target c = sym (clause_bind c.args.clause.now)

pub returns-clause-inside : goal.returns-clause-inside
returns-clause-inside c =
    ap (λ (xs : List Expr). forms.where_all (does.exprs xs) (forms.nest (does.clauses c.args.behind.now) (does.adds c.args.adds))) c.deref.ensures.value
    ∙ ap (λ ms. forms.where_all ms (forms.nest (does.clauses c.args.behind.now) (does.adds c.args.adds))) (sym (clause_tests c.args.clause.now))
