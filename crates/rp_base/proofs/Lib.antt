pub mod CallerLemmas
pub mod FirstWords
pub mod Hierarchy
mod Plain
pub mod Spelling
pub mod Texts
pub mod Words
pub mod Lists
