pub mod Reaches
pub mod Order
pub mod Visits
