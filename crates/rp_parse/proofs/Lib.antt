pub mod Turns
pub mod Stops
pub mod Rounds
pub mod Scripted
pub mod Visits
pub mod Refused
mod Halving
