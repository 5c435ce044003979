pub mod Texts
pub mod Certify
