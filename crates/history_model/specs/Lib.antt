pub mod Did
pub mod Drawn
pub mod Joined
pub mod Sound
pub mod Tasks
pub mod Work
