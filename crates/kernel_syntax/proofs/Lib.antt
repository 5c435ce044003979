pub mod Equations
pub mod Wrapping
pub mod Laying
pub mod Placing
pub mod Fitting
pub mod Sharing
pub mod Following
