pub mod Trees
pub mod Parsing
