pub mod CertainCommand
pub mod Certified
pub mod EndedRuns
pub mod NeverStops
pub mod SameListing
pub mod Listed
