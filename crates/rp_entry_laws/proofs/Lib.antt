pub mod Calling
pub mod Forms
pub mod Going
pub mod Parts
pub mod Programs
pub mod Statements
pub mod Trees
pub mod Worlds
