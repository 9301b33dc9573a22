-- Slices behind their decision (Python Language Reference, Slicings; zope.security, proxies).
use Rattle.rp_base.specs.declared.value.Side.{Side}
use Rattle.rp_base.specs.declared.value.Value.{Value}
use Rattle.rp_base.specs.declared.word.TheConstants.{GET_ITEM}
use Rattle.rp_items.specs.Slices as slices
use Rattle.rp_meaning.specs.State.{State, Outcome, plainly}
use Rattle.rp_ops.specs.Outcome.{on_value}
use Rattle.rp_access.specs.Parts.{asking}
use Rattle.rp_access.specs.Reading.{got_by}

-- `o[x:y:z]`
abbrev pub slice_asked : Side → Value → Value → Value → Value → State → Outcome Value
slice_asked side o x y z s = on_value (asking GET_ITEM o s) (λ _ s. on_value (plainly (slices.slice o x y z) s) (got_by side o))
