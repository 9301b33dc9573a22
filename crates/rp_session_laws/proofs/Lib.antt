pub mod Going
pub mod Forms
pub mod Calling
pub mod Parts
pub mod Statements
pub mod Trees
pub mod Programs
