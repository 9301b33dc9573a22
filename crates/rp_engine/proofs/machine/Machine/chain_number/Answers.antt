use Rattle.std.proofs.Common.{List, subst}
use Rattle.std.proofs.lemmas.Option.{IfSome_then}
use Rattle.rp_base.specs.declared.operator.BinOp.{BinOp}
use Rattle.rp_meaning.specs.Expressions as forms
use Rattle.rp_access.proofs.Lists.{only_first}
use Rattle.rp_engine.specs.Does as does
use Rattle.rp_engine.specs.NumberSteps.{IsComputed, int}
use Rattle.rp_tree.specs.declared.expr.Expr.{Expr}
use Rattle.rp_engine.proofs.machine.Machine.chain_number.Goals as goal

pub returns-in-len1-clause-law : goal.returns-in-len1-clause-law
returns-in-len1-clause-law c =
    let ps = c.args.rest.now in
    IfSome_then c.operated.result c.operated.ensures.law (λ n is.
    subst (λ (qs : List (BinOp × Expr)). IsComputed c.args.self.now c.args.world.now.store.heap (forms.chain (does.expr c.args.first.now) (does.ops qs)) (int n))
    (only_first ps c.one-item.result c.in-len1.len_at_least c.in-len1.len_below c.one-item.is) is)
