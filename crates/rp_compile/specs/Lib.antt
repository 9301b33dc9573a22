pub mod Compiled
pub mod Trusted
