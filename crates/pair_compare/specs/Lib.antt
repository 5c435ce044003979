pub mod Conflict
pub mod Compare
pub mod Regions
pub mod Work
pub mod Groups
pub mod Sweeps
pub mod Fields
pub mod Accesses
