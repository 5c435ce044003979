pub mod Going
pub mod Phases
pub mod Stopped
