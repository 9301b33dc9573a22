use Rattle.std.proofs.Common.{Some, Result, ap, subst}
use Rattle.rp_base.specs.declared.value.OpEnd.{OpEnd}
use Rattle.rp_base.specs.declared.value.Value.{Value}
use Rattle.rp_meaning.specs.BuiltIn.{defaulted}
use Rattle.rp_store.specs.Kept.{IsSound}
use Rattle.std.specs.Prelude.{IfOk}
use Rattle.rp_access.specs.Comes.{Comes}
use Rattle.rp_access.proofs.NamedReads.{same_sound}
use Rattle.rp_access.proofs.named_attributes.or_default.Goals as goal

pub returns-in-Ok-clause-law : goal.returns-in-Ok-clause-law
returns-in-Ok-clause-law c = λ s o h. ap (defaulted (Some c.args.default.now)) (subst (λ (r : Result Value OpEnd). Comes r s o) c.in-Ok.is h)

pub returns-in-Err-clause-law : goal.returns-in-Err-clause-law
returns-in-Err-clause-law c = λ s o h. c.default_at.ensures.law s o (subst (λ (r : Result Value OpEnd). Comes r s o) c.in-Err.is h)

pub returns-in-Ok-clause-sound : goal.returns-in-Ok-clause-sound
returns-in-Ok-clause-sound c = λ heap read default. subst (λ (r : Result Value OpEnd). IfOk r (IsSound heap)) c.in-Ok.is read

pub returns-in-Err-clause-sound : goal.returns-in-Err-clause-sound
returns-in-Err-clause-sound c = λ heap read default. same_sound heap c.args.default.now c.default_at.result c.default_at.ensures.same default
