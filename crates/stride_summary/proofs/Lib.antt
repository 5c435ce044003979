pub mod Even
pub mod Sized
pub mod Cuts
pub mod Holding
pub mod Storing
pub mod Rising
pub mod Apart
mod Ordered
mod Alone
mod Joined
pub mod Finishing
mod Emptying
mod Placing
