pub mod Outcomes
pub mod Run
pub mod Seals
pub mod Told
