pub mod Exclusion
pub mod Folds
pub mod HistoryCases
pub mod Labelled
pub mod Names
pub mod PrefixesOfHistories
pub mod SplitsAndHomes
