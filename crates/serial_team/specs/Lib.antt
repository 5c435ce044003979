pub mod Members
pub mod Running
pub mod Stopping
