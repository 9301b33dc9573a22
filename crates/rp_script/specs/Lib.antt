pub mod Refusal
pub mod Reviews
