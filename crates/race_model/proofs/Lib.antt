pub mod TraceLogs
pub mod Labels
pub mod Held
pub mod Counted
