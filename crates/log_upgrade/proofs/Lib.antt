pub mod Names
pub mod Spelled
pub mod Bringing
pub mod Held
pub mod BroughtOver
