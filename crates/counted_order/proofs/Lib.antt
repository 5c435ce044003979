pub mod Above
pub mod Between
pub mod Edges
pub mod Parted
pub mod Paths
pub mod Reaching
