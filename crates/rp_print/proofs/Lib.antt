pub mod Counts
pub mod Pages
mod PrintedExamples
pub mod Renamed
mod Written
mod WrittenLines
