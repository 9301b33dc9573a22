pub mod Decide
pub mod Faithful
pub mod Held
pub mod Taken
pub mod View
