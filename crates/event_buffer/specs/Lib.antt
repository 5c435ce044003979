pub mod Buffered
pub mod Logged
