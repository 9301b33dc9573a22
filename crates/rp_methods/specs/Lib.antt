pub mod Classes
pub mod Faults
pub mod Lists
pub mod Dicts
pub mod Texts
pub mod Methods
