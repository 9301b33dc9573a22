pub mod Numbered
pub mod Uncounted
