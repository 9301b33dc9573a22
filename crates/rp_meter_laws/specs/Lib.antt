pub mod Metered
pub mod Worlds
