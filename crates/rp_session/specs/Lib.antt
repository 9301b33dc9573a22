pub mod View
pub mod Ready
pub mod Turns
pub mod Begun
pub mod Runs
pub mod Loads
pub mod Played
pub mod Programs
