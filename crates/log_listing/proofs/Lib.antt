mod ListedLogs
mod ListedRecords
pub mod Texts
mod PrintedParts
