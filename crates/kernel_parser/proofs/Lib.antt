pub mod Equations
pub mod Signs
pub mod Parts
pub mod Heading
pub mod Firsts
pub mod Rests
pub mod Declared
