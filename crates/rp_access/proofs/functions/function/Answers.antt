use Rattle.std.proofs.Common.{◌≡◌, ◌∙◌, ap, false, codes, rules}
use Rattle.std.specs.Str.{chars}
use Rattle.rp_base.specs.declared.kind.Kind.TheVariants.{TypeError}
use Rattle.rp_native.specs.Counts.{is_function}
use Rattle.rp_ops.specs.Outcome.{Raises, gives}
use Rattle.rp_access.specs.Moment.{state_of}
use Rattle.rp_access.proofs.FunctionLaws.{length_left, no_function, uncalled_end}
use Rattle.rp_access.proofs.functions.function.Goals as goal

pub returns-then-not-is_function-clause-law : goal.returns-then-not-is_function-clause-law
unfolding chars
returns-then-not-is_function-clause-law c = λ call.
    let s = state_of c.args.world.now in
    let is : is_function c.args.id ≡ false = search rules in
    let h : Raises c.raised.result (record { kind = TypeError; text = codes "call" }) = c.raised.ensures in
    no_function call c.args.side c.args.id c.args.args.now s c.raised.result is (uncalled_end c.raised.result s h)

pub returns-in-None-clause-left : goal.returns-in-None-clause-left
returns-in-None-clause-left c =
    let h = rw c.in-None.is at c.in_ok-value.ensures.left in
    length_left c.args.id c.args.args.now (state_of c.args.world.now) (state_of c.applied.new.world) (c.in_ok-ask_each.ensures.law ∙ ap (gives (tt {0})) h.0) h.1
