pub mod Completeness
pub mod Fit
pub mod Trails
pub mod Unallowed
pub mod Unwatched
