-- What callers know of the names of built-in functions and methods.
pub use Rattle.rp_attributes.proofs.MethodNames.{same_text-native}
