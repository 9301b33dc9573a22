use Rattle.std.proofs.Common.{◌≡◌, Err, false, true, codes, rules}
use Rattle.std.specs.Prelude.{is_some}
use Rattle.std.specs.Str.{chars}
use Rattle.rp_base.specs.declared.kind.Kind.TheVariants.{TypeError}
use Rattle.rp_attributes.specs.BuiltIns.{counts_of, receiver_of}
use Rattle.rp_ops.specs.Outcome.{Raises}
use Rattle.rp_access.specs.Moment.{state_of}
use Rattle.rp_access.proofs.FunctionLaws.{method_plain, method_unasked, no_method, uncalled_end}
use Rattle.rp_access.proofs.Going.{Comes-same}
use Rattle.rp_access.proofs.methods.method.Goals as goal

pub returns-then-not-has_method-clause-law : goal.returns-then-not-has_method-clause-law
unfolding chars
returns-then-not-has_method-clause-law c =
    let s = state_of c.args.world.now in
    let is : is_some (counts_of (receiver_of c.args.world.now.store.heap c.args.receiver.now) c.args.id) ≡ false = search rules in
    let h : Raises c.raised.result (record { kind = TypeError; text = codes "call" }) = c.raised.ensures in
    no_method c.args.owner c.args.receiver.now c.args.id c.args.args.now s c.raised.result is (uncalled_end c.raised.result s h)

pub returns-in_err-ask_each-clause-law : goal.returns-in_err-ask_each-clause-law
returns-in_err-ask_each-clause-law c =
    let e : c.from_residual.result ≡ Err c.in_err-ask_each.field-0.0 = search rules in
    let is : is_some (counts_of (receiver_of c.args.world.now.store.heap c.args.receiver.now) c.args.id) ≡ true = search rules in
    rw e (method_unasked c.args.owner c.args.receiver.now c.args.id c.args.args.now (state_of c.args.world.now) is c.in_err-ask_each.field-0.0 (state_of c.ask_each.new.world) c.in_err-ask_each.ensures.law)

pub returns-clause-law : goal.returns-clause-law
returns-clause-law c =
    let is : is_some (counts_of (receiver_of c.args.world.now.store.heap c.args.receiver.now) c.args.id) ≡ true = search rules in
    Comes-same c.plain_method.result (state_of c.plain_method.new.world) _ _
    (method_plain c.args.owner c.args.receiver.now c.args.id c.args.args.now (state_of c.args.world.now) is (state_of c.ask_each.new.world) c.in_ok-ask_each.ensures.law) c.plain_method.ensures.law
