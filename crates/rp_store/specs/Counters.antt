-- How the cells of a store go on. Two stores are compared whole; the code adds to one number.
use Rattle.std.specs.Prelude.{◌≡◌, ◌≤◌}
use Rattle.rp_store.specs.Store.{Cells}

-- after an operation, however it ends, the limit is as before, and no cell that was used is given back
pub record KeepsCounters (old new : Cells) : Type 0 where
  pub limit : new.limit ≡ old.limit
  pub used : old.used ≤ new.used
