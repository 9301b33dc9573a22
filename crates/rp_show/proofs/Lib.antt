pub mod CallerLemmas
mod Counted
mod Escapes
pub mod Lines
mod Marks
mod Runs
mod ShowExamples
mod Turns
