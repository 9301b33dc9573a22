pub mod Deciding
pub mod Sets
pub mod Literals
pub mod Spelled
