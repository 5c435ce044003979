pub mod Lists
pub mod Gains
pub mod ReadPrefixes
pub mod Windows
pub mod Paths
pub mod NameLaws
pub mod AfterPut
