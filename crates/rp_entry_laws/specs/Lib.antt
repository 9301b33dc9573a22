pub mod Decided
pub mod Entries
pub mod Worlds
