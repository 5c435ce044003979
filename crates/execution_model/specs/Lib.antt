pub mod Execution
pub mod Runs
pub mod Elements
pub mod Stops
