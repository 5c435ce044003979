pub mod Counting
pub mod Parting
