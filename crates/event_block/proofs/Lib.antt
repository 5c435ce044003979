pub mod Bytes
pub mod Crosses
pub mod Memory
pub mod Values
