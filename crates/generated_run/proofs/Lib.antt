pub mod Counting
pub mod Held
pub mod Holding
pub mod Opening
pub mod Pushing
pub mod Putting
