pub mod Homes
pub mod Legal
pub mod SerialHistory
pub mod SerialRuns
pub mod Told
pub mod Vectors
