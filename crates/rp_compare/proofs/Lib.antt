pub mod CallerLemmas
mod CompareExamples
pub mod Parts
mod Rounds
mod Sought
