pub mod Group
pub mod Level
pub mod Partners
pub mod Search
