use Rattle.std.proofs.Common.{List, codes, subst, sym, arith}
use Rattle.std.specs.Str.{chars}
use Rattle.rp_base.specs.declared.kind.Kind.TheVariants.{TypeError}
use Rattle.rp_base.specs.declared.value.Value.{Value}
use Rattle.rp_ops.specs.Outcome.{Raises}
use Rattle.rp_access.specs.CallSteps.{kind_by}
use Rattle.rp_access.specs.Comes.{Comes}
use Rattle.rp_access.specs.Moment.{state_of}
use Rattle.rp_access.proofs.Going.{IsEnd-same, raises_end}
use Rattle.rp_access.proofs.FunctionLaws.{kind_many}
use Rattle.rp_access.proofs.Lists.{none_left, only_first}
use Rattle.rp_access.proofs.calls.exception.Goals as goal

pub returns-in-empty-clause-law : goal.returns-in-empty-clause-law
returns-in-empty-clause-law c =
    let s = state_of c.args.world.now in
    subst (λ (vs : List Value). Comes c.exception_alone.result s (kind_by c.args.kind vs s)) (sym (none_left c.args.args.now (omega arith))) (c.exception_alone.ensures.law s)

pub returns-in-len1-clause-law : goal.returns-in-len1-clause-law
returns-in-len1-clause-law c =
    subst (λ (vs : List Value). Comes c.exception_of.result (state_of c.exception_of.new.world) (kind_by c.args.kind vs (state_of c.args.world.now)))
    (only_first c.args.args.now c.value-item.result (omega arith) (omega arith) c.value-item.is) c.exception_of.ensures.law

pub returns-in_default-clause-law : goal.returns-in_default-clause-law
unfolding chars
returns-in_default-clause-law c =
    let s = state_of c.args.world.now in
    let h : Raises c.raised.result (record { kind = TypeError; text = codes "arguments" }) = c.raised.ensures in
    IsEnd-same c.raised.result s _ _ (kind_many c.args.kind c.args.args.now s (omega arith)) (raises_end Value c.raised.result (record { kind = TypeError; text = codes "arguments" }) s h)
