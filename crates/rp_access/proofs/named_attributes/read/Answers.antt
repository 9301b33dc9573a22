use Rattle.std.proofs.Common.{List, codes, subst, arith, rules}
use Rattle.std.specs.Str.{chars}
use Rattle.std.proofs.lemmas.Grind.{common_steps}
use Rattle.rp_base.specs.declared.kind.Kind.TheVariants.{TypeError}
use Rattle.rp_base.specs.declared.native.NativeId.TheVariants.{GetAttr}
use Rattle.rp_base.specs.declared.value.Value.{Value}
use Rattle.rp_ops.specs.Outcome.{Raises}
use Rattle.rp_access.specs.Moment.{decided_frame, state_of}
use Rattle.rp_access.specs.NamedAttributes.{FormComes}
use Rattle.rp_access.proofs.Going.{IsEnd-same}
use Rattle.rp_access.proofs.Lists.{three_of, two_of}
use Rattle.rp_access.proofs.NamedReads.{arguments_end, get_wrong}
use Rattle.rp_access.proofs.named_attributes.read.Goals as goal

pub returns-in-len2-clause-law : goal.returns-in-len2-clause-law
returns-in-len2-clause-law c =
    subst (λ (vs : List Value). FormComes c.args.side GetAttr vs c.attribute_of.result c.args.world.now c.attribute_of.new.world)
    (two_of c.args.args.now c.o-item.result c.word-item.result (omega (c.in-len2.len_at_least, arith)) (omega (c.in-len2.len_below, arith)) c.o-item.is c.word-item.is) c.attribute_of.ensures.law

pub returns-in-len3-clause-law : goal.returns-in-len3-clause-law
returns-in-len3-clause-law c =
    subst (λ (vs : List Value). FormComes c.args.side GetAttr vs c.attribute_or.result c.args.world.now c.attribute_or.new.world)
    (three_of c.args.args.now c.object-item.result c.name-item.result c.default-item.result (omega (c.in-len3.len_at_least, arith)) (omega (c.in-len3.len_below, arith))
    c.object-item.is c.name-item.is c.default-item.is) c.attribute_or.ensures.law

pub returns-in_default-clause-law : goal.returns-in_default-clause-law
unfolding chars
returns-in_default-clause-law c =
    let s = state_of c.args.world.now in
    let h : Raises c.raised.result (record { kind = TypeError; text = codes "arguments" }) = c.raised.ensures in
    λ code same. IsEnd-same c.raised.result s _ _ (get_wrong c.args.args.now (decided_frame code) s (λ e. first_of (grind arith, search rules, grind (arith, common_steps))) (λ e. first_of (grind arith, search rules, grind (arith, common_steps)))) (arguments_end c.raised.result s h)
