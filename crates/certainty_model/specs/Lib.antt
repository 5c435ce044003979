pub mod Certain
