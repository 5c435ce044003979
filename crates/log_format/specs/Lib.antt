pub mod Fitting
pub mod Format
pub mod Limit
pub mod Spelling
pub mod Table
