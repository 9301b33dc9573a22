pub mod Expansions
pub mod Leaves
pub mod Numbered
pub mod Programs
pub mod Renaming
pub mod Spelled
pub mod Unique
pub mod Words
