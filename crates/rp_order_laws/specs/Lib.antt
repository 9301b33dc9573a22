pub mod Ordered
pub mod Laws
pub mod Worlds
