pub mod Prefixes
pub mod HeldFiles
pub mod Planned
pub mod SamePath
pub mod Rests
