-- What slices still do once some of their parts are known, as the code has a function for it; each is a part of a form of rp_meaning.
use Rattle.std.specs.Prelude.{List, Option}
use Rattle.rp_base.specs.declared.value.Value.{Value}
use Rattle.rp_meaning.specs.Access.{get_slice}
use Rattle.rp_meaning.specs.Expressions as forms
use Rattle.rp_meaning.specs.Frame.{Meaning}
use Rattle.rp_ops.specs.Outcome.{on_value}
use Rattle.rp_engine.specs.ExpressionSteps.{put_to}

-- the trailers behind a slice of these parts
abbrev pub with_slice : Value → Value → Value → List (Value → Meaning) → Value → Meaning
with_slice o x y ts z frame s = on_value (get_slice o x y z frame s) (λ w s. forms.trailers ts w frame s)

-- from the step on, from the upper bound on, and from the lower bound on

abbrev pub from_stride : Value → Value → Option Meaning → List (Value → Meaning) → Value → Meaning
from_stride o x c ts y = put_to (forms.part c) (with_slice o x y ts)

abbrev pub from_upper : Value → Option Meaning → Option Meaning → List (Value → Meaning) → Value → Meaning
from_upper o b c ts x = put_to (forms.part b) (from_stride o x c ts)

abbrev pub from_lower : Option Meaning → Option Meaning → Option Meaning → List (Value → Meaning) → Value → Meaning
from_lower a b c ts o = put_to (forms.part a) (from_upper o b c ts)
