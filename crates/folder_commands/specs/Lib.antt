pub mod Check
pub mod Confirm
pub mod Explain
pub mod Gen
pub mod Replay
pub mod Show
pub mod Texts
pub mod Upgrade
