pub mod InMemory
pub mod MemFile
pub mod MemFolder
pub mod MemLog
pub mod MemOut
pub mod Plans
