pub mod Operands
pub mod Assigning
