pub mod Placing
pub mod Going
pub mod Resting
pub mod Stepping
pub mod Coming
