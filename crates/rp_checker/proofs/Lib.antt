pub mod Answering
pub mod Composition
mod Indexed
pub mod Lookups
pub mod Plans
pub mod Rings
pub mod Within
