pub mod Halves
pub mod Shown
pub mod Searching
pub mod Taking
pub mod Nodes
