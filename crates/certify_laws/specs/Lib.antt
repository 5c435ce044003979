pub mod Opening
pub mod Same
