pub mod Sizes
pub mod Run
pub mod Spread
pub mod Stretches
pub mod Accesses
pub mod Singles
pub mod Summary
pub mod Places
