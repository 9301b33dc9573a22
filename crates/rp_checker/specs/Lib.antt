pub mod Answers
pub mod Chain
pub mod Lookup
pub mod Plan
pub mod RowOf
pub mod Tables
