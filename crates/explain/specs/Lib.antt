pub mod Finding
pub mod Witness
pub mod Least
pub mod Filed
pub mod Suspects
