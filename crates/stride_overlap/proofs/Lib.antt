pub mod Euclid
pub mod Shared
