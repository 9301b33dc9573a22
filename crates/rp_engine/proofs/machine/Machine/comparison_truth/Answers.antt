use Rattle.std.proofs.Common.{List, subst}
use Rattle.std.proofs.lemmas.Option.{IfSome_then}
use Rattle.rp_tree.specs.declared.parts.Test.{Test}
use Rattle.rp_meaning.specs.Expressions as forms
use Rattle.rp_access.proofs.Lists.{only_first}
use Rattle.rp_engine.specs.Does as does
use Rattle.rp_engine.specs.NumberSteps.{IsComputed, truth}
use Rattle.rp_tree.specs.declared.expr.Expr.{Expr}
use Rattle.rp_engine.proofs.machine.Machine.comparison_truth.Goals as goal

pub returns-in-len1 : goal.returns-in-len1
returns-in-len1 c =
    let ps = c.args.rest.now in
    IfSome_then c.tested.result c.tested.ensures (λ n is.
    subst (λ (qs : List (Test × Expr)). IsComputed c.args.self.now c.args.world.now.store.heap (forms.compare (does.expr c.args.first.now) (does.tests qs)) (truth n))
    (only_first ps c.one-item.result c.in-len1.len_at_least c.in-len1.len_below c.one-item.is) is)
