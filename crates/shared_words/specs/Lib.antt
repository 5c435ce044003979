pub mod Draws
pub mod Handles
pub mod Rule
pub mod Steps
pub mod Views
