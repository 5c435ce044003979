pub mod Stepping
pub mod DeskSteps
pub mod PlaceSteps
pub mod Beginning
pub mod Calls
