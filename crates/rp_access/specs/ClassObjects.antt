-- Methods that a class gets in place of its own, for a cell each, as the code has a function for it; it is a part of a form of rp_meaning.
use Rattle.std.specs.Prelude.{length}
use Rattle.rp_base.specs.declared.value.Oid.{Oid}
use Rattle.rp_meaning.specs.Classes.{Methods}
use Rattle.rp_meaning.specs.State.{State, Outcome, plainly}
use Rattle.rp_ops.specs.Outcome as plain
use Rattle.rp_ops.specs.Outcome.{gives, with_change}
use Rattle.rp_store.specs.Writers.{with_methods}

abbrev pub renewed_plainly : Oid → Methods → plain.State → plain.Outcome Oid
renewed_plainly at ms s = plain.charged (length ms) s (λ s. gives at (with_change s at (with_methods ms)))

abbrev pub renewed : Oid → Methods → State → Outcome Oid
renewed at ms s = plainly (renewed_plainly at ms) s
