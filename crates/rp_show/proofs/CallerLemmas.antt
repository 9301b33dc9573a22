-- What callers know of what is written in parts, and of how far the cells reach.
pub use Rattle.rp_show.proofs.Lines.{added-added, alone, no_cell_meets, on_ok, passes, passes_on}
pub use Rattle.rp_show.proofs.Lines.{printed-turn, printed-turn-over, stops, text_stops}
