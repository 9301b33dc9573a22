use Rattle.std.proofs.Common.{Some, ap, subst}
use Rattle.rp_base.specs.declared.value.OpEnd.{OpEnd}
use Rattle.rp_meaning.specs.BuiltIn.{defaulted}
use Rattle.rp_access.specs.Comes.{IsEnd}
use Rattle.rp_access.proofs.Going.{Comes-same}
use Rattle.rp_access.proofs.named_attributes.default_at.Goals as goal

pub returns-in-Raised-clause-law : goal.returns-in-Raised-clause-law
returns-in-Raised-clause-law c = λ s o h.
    Comes-same c.default_for.result s _ _ (ap (defaulted (Some c.args.default.now)) (subst (λ (e : OpEnd). IsEnd e s o) c.in-Raised.is h)) (c.default_for.ensures.law s)

pub returns-in-StopSteps-clause-law : goal.returns-in-StopSteps-clause-law
returns-in-StopSteps-clause-law c = λ s o h. ap (defaulted (Some c.args.default.now)) (subst (λ (e : OpEnd). IsEnd e s o) c.in-StopSteps.is h)

pub returns-in-StopCells-clause-law : goal.returns-in-StopCells-clause-law
returns-in-StopCells-clause-law c = λ s o h. ap (defaulted (Some c.args.default.now)) (subst (λ (e : OpEnd). IsEnd e s o) c.in-StopCells.is h)
