pub mod Certainty
mod Counted
mod FewerReads
mod Found
pub mod Growing
pub mod LaneStopsTasks
pub mod LaneTasks
pub mod Lanes
mod Lined
mod Logged
mod Puts
pub mod Root
pub mod Rooms
mod Shapes
mod Stopped
mod StoppedRoot
mod StoppedTasks
pub mod TooLong
mod Traced
mod Undrawn
mod WholeTasks
