pub mod Keeping
pub mod OrderKeeper
pub mod Laws
pub mod Worlds
pub mod Loading
pub mod Runs
