pub mod DrawnNumbers
pub mod Parts
