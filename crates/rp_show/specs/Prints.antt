-- What a function of the code prints.
use Rattle.std.specs.Prelude.{ℕ, List, Result}
use Rattle.rp_base.specs.declared.value.OpEnd.{OpEnd}
use Rattle.rp_store.specs.Heap.{Owned}
use Rattle.rp_ops.specs.Outcome.{State, Outcome}
use Rattle.rp_show.specs.ShowView.{Writes, added, moment}
use Rattle.rp_show.specs.declared.printer.Printer.{Printer}

-- a function put what the meaning gives behind the line, and counted its cells and steps
abbrev pub Prints : Result (Unit {0}) OpEnd → Printer → Printer → List Owned → ℕ → ℕ → (State → Outcome (List ℕ)) → Type 0
Prints result new old heap after before meaning = Writes result new.line (moment heap new.purse after) (added old.line (meaning (moment heap old.purse before)))
