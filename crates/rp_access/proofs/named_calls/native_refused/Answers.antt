use Rattle.std.proofs.Common.{◌≡◌, true, false, codes, rules}
use Rattle.std.specs.Str.{chars}
use Rattle.rp_base.specs.declared.kind.Kind.TheVariants.{TypeError}
use Rattle.rp_native.specs.Counts.{is_function}
use Rattle.rp_ops.specs.Outcome.{Raises}
use Rattle.rp_access.proofs.NamedCalls.{native_uncalled, native_wrong}
use Rattle.rp_access.proofs.named_calls.native_refused.Goals as goal

pub returns-then-is_function : goal.returns-then-is_function
unfolding chars
returns-then-is_function c =
    let is : is_function c.args.id ≡ true = search rules in
    let h : Raises c.raised.result (record { kind = TypeError; text = codes "arguments" }) = c.raised.ensures in
    native_wrong c.args.id c.raised.result is h

pub returns-else-is_function : goal.returns-else-is_function
unfolding chars
returns-else-is_function c =
    let is : is_function c.args.id ≡ false = search rules in
    let h : Raises c.raised-else-is_function.result (record { kind = TypeError; text = codes "call" }) = c.raised-else-is_function.ensures in
    native_uncalled c.args.id c.raised-else-is_function.result is h
