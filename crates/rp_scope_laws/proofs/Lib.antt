pub mod Alike
pub mod Renamed
pub mod Words
