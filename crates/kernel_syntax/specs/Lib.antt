pub mod Tree
pub mod Program
pub mod Arithmetic
pub mod Layout
pub mod Share
pub mod Bounds
