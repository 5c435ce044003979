pub mod Holding
pub mod Refusing
pub mod Due
