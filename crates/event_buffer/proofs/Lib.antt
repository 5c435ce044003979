pub mod Closing
pub mod Cuts
pub mod Logging
