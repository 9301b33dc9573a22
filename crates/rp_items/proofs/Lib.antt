pub mod CallerLemmas
mod Found
mod ItemExamples
mod Runs
pub mod SlicePlaces
pub mod Sliced
