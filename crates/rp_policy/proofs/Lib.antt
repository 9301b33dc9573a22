pub mod Augmented
pub mod Collections
pub mod Renamed
pub mod Spelled
