-- What callers know of the order of texts, and of a text that begins another.
pub use Rattle.rp_compare.proofs.Parts.{begins-front, begins-rest, list_less-cmp}
