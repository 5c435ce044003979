pub mod Block
pub mod Contents
