use Rattle.std.proofs.Common.{◌≡◌, true, false, codes, rules}
use Rattle.std.specs.Prelude.{is_some}
use Rattle.std.specs.Str.{chars}
use Rattle.rp_attributes.specs.BuiltIns.{counts_of, receiver_of}
use Rattle.rp_base.specs.declared.kind.Kind.TheVariants.{TypeError}
use Rattle.rp_ops.specs.Outcome.{Raises}
use Rattle.rp_access.proofs.NamedCalls.{method_uncalled, method_wrong}
use Rattle.rp_access.specs.Moment.{state_of}
use Rattle.rp_access.proofs.named_calls.method_refused.Goals as goal

pub returns-then-has_method : goal.returns-then-has_method
unfolding chars
returns-then-has_method c =
    let is : is_some (counts_of (receiver_of c.args.world.now.store.heap c.args.receiver.now) c.args.id) ≡ true = search rules in
    let h : Raises c.raised.result (record { kind = TypeError; text = codes "arguments" }) = c.raised.ensures in
    method_wrong c.args.receiver.now c.args.id c.raised.result (state_of c.args.world.now) is h

pub returns-else-has_method : goal.returns-else-has_method
unfolding chars
returns-else-has_method c =
    let is : is_some (counts_of (receiver_of c.args.world.now.store.heap c.args.receiver.now) c.args.id) ≡ false = search rules in
    let h : Raises c.raised-else-has_method.result (record { kind = TypeError; text = codes "call" }) = c.raised-else-has_method.ensures in
    method_uncalled c.args.receiver.now c.args.id c.raised-else-has_method.result (state_of c.args.world.now) is h
