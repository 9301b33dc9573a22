pub mod Expressions
pub mod LineSteps
pub mod Operators
pub mod PageSteps
pub mod Statements
pub mod Texts
pub mod WritingSteps
