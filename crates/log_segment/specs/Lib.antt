pub mod Accesses
pub mod Going
pub mod Intervals
pub mod OneTree
pub mod Regions
pub mod Stack
pub mod Walking
