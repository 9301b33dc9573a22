pub mod Deciding
pub mod Going
pub mod Keys
pub mod Filled
pub mod Sets
pub mod Literals
pub mod Spelled
