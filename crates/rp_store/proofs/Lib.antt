pub mod CallerLemmas
pub mod Counters
mod HeapLemmas
pub mod Keys
pub mod Readings
pub mod Shapes
