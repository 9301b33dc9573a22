-- What callers know of the places of slices, and of who owns an object.
pub use Rattle.rp_items.proofs.SlicePlaces.{strides}
pub use Rattle.rp_items.proofs.Sliced.{owner-is}
