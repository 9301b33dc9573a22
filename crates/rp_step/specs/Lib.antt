pub mod Callables
pub mod Left
pub mod RunLoads
pub mod Running
pub mod TaskGroups
