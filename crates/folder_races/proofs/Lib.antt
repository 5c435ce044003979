pub mod FewSegments
pub mod Sweeping
