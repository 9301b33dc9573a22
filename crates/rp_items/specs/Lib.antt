pub mod Items
pub mod Slices
pub mod SliceView
