pub mod Fixed
mod FirstLines
pub mod StmtLines
mod Putting
mod HeldRuns
pub mod Layouts
mod Judged
pub mod TooMany
