pub mod Elements
pub mod Comprehensions
pub mod Quiet
pub mod Left
