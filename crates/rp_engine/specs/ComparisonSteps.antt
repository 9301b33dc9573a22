-- What comparisons still do once the values of operands are known, as the code has a function for it; each is a part of a form of rp_meaning.
use Rattle.std.specs.Prelude.{Bool, false, List}
use Rattle.rp_base.specs.declared.value.Value.{Value}
use Rattle.rp_meaning.specs.Expressions as forms
use Rattle.rp_meaning.specs.Frame.{Meaning}
use Rattle.rp_meaning.specs.Operators.{tested}
use Rattle.rp_meaning.specs.State.{choose}
use Rattle.rp_ops.specs.Outcome.{gives, on_value}
use Rattle.rp_tree.specs.declared.parts.Test.{Test}

-- the tests behind a test that holds or does not, and behind a test on two values

abbrev pub by_test : Bool → Value → List (Test × Meaning) → Meaning
by_test r b ts frame s = choose r (forms.tests ts b frame) (gives (forms.truth false)) s

abbrev pub with_test : Test → Value → List (Test × Meaning) → Value → Meaning
with_test t a ts b frame s = on_value (tested t a b frame s) (λ r s. by_test r b ts frame s)
