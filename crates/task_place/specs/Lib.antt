pub mod Operands
pub mod Placing
pub mod Assigning
