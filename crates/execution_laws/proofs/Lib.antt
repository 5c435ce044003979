pub mod Descent
pub mod LoggedTasks
pub mod Prefixes
pub mod Whole
pub mod FinishedRun
pub mod TaskListing
