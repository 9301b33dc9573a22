pub mod Blind
pub mod Unmarked
