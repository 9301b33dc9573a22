use Rattle.std.proofs.Common.{List, ℕ, ap}
use Rattle.rp_base.specs.declared.value.Rock.TheVariants as rock
use Rattle.rp_base.specs.declared.value.Value.{Value}
use Rattle.rp_base.specs.declared.value.Value.TheVariants as value
use Rattle.rp_ops.specs.Outcome.{Outcome, State, gives, on_value, state_of}
use Rattle.rp_show.specs.Show.{show}
use Rattle.rp_ops.proofs.CallerLemmas.{passes-on}
use Rattle.rp_native.proofs.calls.text_of.Goals as goal

abbrev as_value : List ℕ → State → Outcome Value
as_value t s = gives (value.Rock (rock.Text t)) s

pub returns-in_err-text-clause-plain : goal.returns-in_err-text-clause-plain
returns-in_err-text-clause-plain c =
    passes-on c.from_residual.result c.in_err-text.field-0.0 (state_of c.show.new.store c.show.new.meter.left)
    (show c.args.names.now c.args.value.now (state_of c.args.store.now c.args.meter.now.left)) as_value c.from_residual.ensures.1 c.in_err-text.ensures.plain

pub returns-clause-plain : goal.returns-clause-plain
returns-clause-plain c = ap (λ (o : Outcome (List ℕ)). on_value o as_value) c.in_ok-text.ensures.plain
