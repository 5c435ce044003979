pub mod Constructs
pub mod Holding
pub mod Verdicts
