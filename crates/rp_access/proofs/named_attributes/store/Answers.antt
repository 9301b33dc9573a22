use Rattle.std.proofs.Common.{List, codes, subst, arith, rules}
use Rattle.std.specs.Str.{chars}
use Rattle.std.proofs.lemmas.Grind.{common_steps}
use Rattle.rp_base.specs.declared.kind.Kind.TheVariants.{TypeError}
use Rattle.rp_base.specs.declared.native.NativeId.TheVariants.{SetAttr}
use Rattle.rp_base.specs.declared.value.Value.{Value}
use Rattle.rp_ops.specs.Outcome.{Raises}
use Rattle.rp_access.specs.Moment.{decided_frame, state_of}
use Rattle.rp_access.specs.NamedAttributes.{FormComes}
use Rattle.rp_access.proofs.Going.{IsEnd-same}
use Rattle.rp_access.proofs.Lists.{three_of}
use Rattle.rp_access.proofs.NamedReads.{arguments_end, set_wrong}
use Rattle.rp_access.proofs.named_attributes.store.Goals as goal

pub returns-in-len3-clause-law : goal.returns-in-len3-clause-law
returns-in-len3-clause-law c = λ side.
    subst (λ (vs : List Value). FormComes side SetAttr vs c.store_attribute.result c.args.world.now c.store_attribute.new.world)
    (three_of c.args.args.now c.o-item.result c.word-item.result c.value-item.result (omega (c.in-len3.len_at_least, arith)) (omega (c.in-len3.len_below, arith)) c.o-item.is c.word-item.is c.value-item.is)
    (λ code same. c.store_attribute.ensures.law code)

pub returns-in_default-clause-law : goal.returns-in_default-clause-law
unfolding chars
returns-in_default-clause-law c =
    let s = state_of c.args.world.now in
    let h : Raises c.raised.result (record { kind = TypeError; text = codes "arguments" }) = c.raised.ensures in
    λ side code same. IsEnd-same c.raised.result s _ _ (set_wrong c.args.args.now (decided_frame code) s (λ e. first_of (grind arith, search rules, grind (arith, common_steps)))) (arguments_end c.raised.result s h)
