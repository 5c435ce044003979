pub mod GoAlike
pub mod Sized
pub mod NextRecords
pub mod OneRun
