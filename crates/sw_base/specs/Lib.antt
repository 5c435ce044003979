pub mod Environment
pub mod HandedLog
pub mod Names
pub mod OnlyReads
pub mod PathOrder
pub mod Pieces
pub mod Window
