pub mod Examples
pub mod Nested
pub mod Pieces
pub mod TwoLanes
