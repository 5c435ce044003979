pub mod History
pub mod Labels
