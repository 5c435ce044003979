pub mod CertainRun
pub mod Leaving
